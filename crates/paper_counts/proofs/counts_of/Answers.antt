use mathlib.Core.Path.{◌≡◌, refl, ap, ◌∙◌}
use mathlib.Core.Bool.{Bool, true, false}
use mir.Val.{bool_byte}
use Prim.Native.Nat.{◌<◌, ◌≤◌}
use native.Mathlib.Omega.{arith}
use lib.ListN.{get_or}
use Rattle.laws.specs.Bits.{one}
use Rattle.laws.proofs.Copies.{copies, copies_at}
use Rattle.paper_nests.proofs.Loops.{owner_at_most}
use Rattle.paper_counts.proofs.Tallied.{tally_start, tally_few, tally_on, tally_done}
use Rattle.paper_counts.proofs.counts_of.Goals as goal
use Rattle.paper_counts.proofs.counts_of.Goals.{After-holds}

-- a gap that is held counts one
byte_one : (b : Bool) → (bool_byte b ≡ one b) × (bool_byte b ≤ 1)
byte_one true = (refl, omega arith)
byte_one false = (refl, omega arith)

-- the loop of a gap is a point
inside : (c : After-holds) → get_or c.owners_of-owners.result c.loop-g.g 0 < 256
inside c =
    let e = c.owners_of-owners.ensures c.loop-g.g c.loop-g-test.true in
    omega (arith, e, owner_at_most c.args.points.now c.loop-g.g)

pub loop-g-init : goal.loop-g-init
unfolding copies
loop-g-init c =
    let a = c.args in
    tally_start a.points.now a.p.words (copies 256 0) refl (copies_at 256 0)

pub offset_bounds-counts-owners : goal.offset_bounds-counts-owners
offset_bounds-counts-owners c = omega (arith, inside (goal.at.offset_bounds-counts-owners c).After-holds)

pub bounds-counts-owners : goal.bounds-counts-owners
bounds-counts-owners c = inside (goal.at.bounds-counts-owners c).After-holds

pub overflow_add-counts : goal.overflow_add-counts
overflow_add-counts c =
    let few = tally_few _ _ _ _ c.loop-g.invariant _ (inside (goal.at.overflow_add-counts c).After-holds) in
    omega (arith, few, c.from.ensures, (byte_one c.holds.result).1)

pub bounds-counts-owners-in-loop-g : goal.bounds-counts-owners-in-loop-g
bounds-counts-owners-in-loop-g c = inside (goal.at.bounds-counts-owners-in-loop-g c).After-holds

pub loop-g-preserved : goal.loop-g-preserved
loop-g-preserved c =
    tally_on _ _ _ _ c.loop-g.invariant _ _ (c.owners_of-owners.ensures c.loop-g.g c.loop-g-test.true)
    (inside (goal.at.loop-g-preserved c).After-holds) (c.from.ensures ∙ (byte_one c.holds.result).0 ∙ ap one c.holds.ensures)

pub returns : goal.returns
returns c =
    tally_done _ _ _ _ c.loop-g.invariant c.requires.points_value.1 c.requires.words_value (omega arith)
