-- `is_blocked` meets its contract: a nest with nothing barred is open (`open_paper`), and one with barred gaps has one
-- loop (`one_loop_paper`).
use mathlib.Core.Path.{◌≡◌, sym, ◌∙◌}
use mathlib.Core.Bool.{false, not}
use Rattle.std.proofs.Common.{nat_eq}
use Rattle.plan_paper.proofs.Papers.{open_paper, one_loop_paper}
use Rattle.plan_paper.proofs.is_blocked.Goals as goal

pub reduce-requires-clause-nest_value_2 : goal.reduce-requires-clause-nest_value_2
reduce-requires-clause-nest_value_2 c =
    one_loop_paper c.args.nest c.requires.counted c.requires.nest_value c.if-nest-ne0.true

pub returns-else-nest-ne0 : goal.returns-else-nest-ne0
returns-else-nest-ne0 c =
    let n = c.args.nest in
    let e : not (nat_eq n.bars 0) ≡ false = rw c.if-nest-ne0.false in
    e ∙ sym (open_paper n c.requires.counted c.requires.nest_value c.if-nest-ne0.false)
