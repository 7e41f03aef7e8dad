-- Of a paper with barred gaps the nest of the others is given (Papers).
use mathlib.Core.Path.{◌≡◌}
use mathlib.Core.Bool.{true}
use borrow.Author.Rules.{rules}
use Rattle.paper_nests.specs.Valid.{is_valid}
use Rattle.paper_nests.specs.Stored.{nest_in}
use Rattle.plan_paper.proofs.Papers.{one_loop_paper, ring_valid}
use Rattle.argue_paper.proofs.Papers.{spelled_open, ring_there, spelled_ring}
use Rattle.argue_paper.proofs.give_argument.Goals as goal

pub returns-then-nest-eq0 : goal.returns-then-nest-eq0
returns-then-nest-eq0 c = spelled_open c.args.nest c.requires.counted c.if-nest-eq0.true c.give_plain.ensures

pub reduce-requires-clause-nest_value_2 : goal.reduce-requires-clause-nest_value_2
reduce-requires-clause-nest_value_2 c =
    one_loop_paper c.args.nest c.requires.counted c.requires.nest_value c.if-nest-eq0.false

pub unwrap-ring-requires : goal.unwrap-ring-requires
unwrap-ring-requires c = ring_there c.args.nest c.reduce.result c.reduce.ensures c.requires.nest_value_2

pub give_plain-requires-2-clause-nest_value : goal.give_plain-requires-2-clause-nest_value
give_plain-requires-2-clause-nest_value c =
    let ring : is_valid (nest_in c.unwrap-ring.result) ≡ true =
    ring_valid c.args.nest c.requires.counted c.requires.nest_value c.if-nest-eq0.false c.unwrap-ring.result
    (rw c.unwrap-ring.ensures at c.reduce.ensures) in
    search rules

pub returns : goal.returns
returns c =
    spelled_ring c.args.nest c.requires.counted c.unwrap-ring.result (rw c.unwrap-ring.ensures at c.reduce.ensures)
    c.requires.nest_value_2 c.if-nest-eq0.false c.give_plain-2.ensures
