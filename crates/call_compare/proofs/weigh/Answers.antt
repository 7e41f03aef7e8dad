-- `weigh` meets its contract: the two placements are held beside each other over the nest's own points.
use mathlib.Core.Path.{sym}
use Rattle.paper_nests.specs.Stored.{nest_in}
use Rattle.paper_nests.proofs.Deps.{valid_is}
use Rattle.call_compare.proofs.weigh.Goals as goal

pub weigh-standing-requires-clause-points_value : goal.weigh-standing-requires-clause-points_value
weigh-standing-requires-clause-points_value c =
    let v = valid_is (nest_in c.args.nest) c.requires.nest_value in
    rw c.points.ensures (v.shape, v.few_points)

pub returns : goal.returns
returns c =
    let w = c.weigh-standing.ensures (nest_in c.args.nest) (sym c.points.ensures) in
    rw (w.first_is, w.second_is, w.deciding_is)
