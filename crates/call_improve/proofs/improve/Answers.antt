-- `improve` meets its contract: a desk with a key gives the search what it asks for (`search_asked`).
use mathlib.Core.Path.{sym, ◌∙◌}
use Rattle.call_improve.proofs.Answers.{search_asked}
use Rattle.call_improve.proofs.improve.Goals as goal

pub improve_key-requires : goal.improve_key-requires
improve_key-requires c =
    search_asked c.args.desk c.args.turns.now (sym c.in_default.ensures)
    (sym c.can_count.ensures ∙ c.if-not-can_count.false) c.requires
