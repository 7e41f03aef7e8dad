-- `count_calls` meets its contract: a desk with a key is ready for the count (`ready`), and what is counted are the
-- key's calls (`calls_counted`).
use mathlib.Core.Path.{sym}
use Rattle.desk.proofs.Ready.{ready}
use Rattle.call_runs.proofs.Answers.{calls_counted}
use Rattle.call_runs.proofs.count_calls.Goals as goal

pub calls_under-requires-clause-words_value : goal.calls_under-requires-clause-words_value
calls_under-requires-clause-words_value c = (ready c.args.desk c.requires (sym c.in_default.ensures)).key-gaps

pub returns : goal.returns
returns c =
    calls_counted c.args.desk c.args.turns.now (sym c.in_default.ensures) c.calls_under.result c.calls_under.ensures
