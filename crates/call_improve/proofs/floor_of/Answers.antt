use mathlib.Core.Path.{◌≡◌, ap, ◌∙◌}
use mathlib.Core.Bool.{not}
use mathlib.Core.List.{List}
use Prim.Native.Nat.{ℕ, ◌<◌}
use native.Mathlib.Omega.{arith}
use lib.ListN.{length, get_or, take, length-take}
use lib.Seq.{get_or-take, length-take-le}
use Rattle.paper_nests.specs.declared.Dependence as DE
use Rattle.paper_nests.specs.declared.Nest as DN
use Rattle.paper_nests.specs.Stored.{nest_in}
use Rattle.paper_nests.proofs.Stored.{counted_many}
use Rattle.paper_placements.proofs.CutTest.{cut_some}
use Rattle.paper_gaps.proofs.Lies.{dep_at, found_lies}
use Rattle.call_improve.proofs.FloorWalk.{floor_start, floor_shared, floor_fits, floor_taken, floor_done}
use Rattle.call_improve.proofs.floor_of.Goals as goal
use Rattle.call_improve.proofs.floor_of.Goals.{then-is_none, else-is_none}

-- a dependence of those lent is that of the nest
module _ (n : DN.Nest) {es : List DE.Dependence} (lent : es ≡ take n.many n.deps) {i : ℕ} (h : i < length es) where
  there : i < n.many
  there = omega (arith, ap length lent, length-take n.many n.deps)

  lent_is : get_or es i (record { kind = 0; d = 0; s = 0; t = 0 }) ≡ dep_at n i
  lent_is = rw lent (get_or-take n.many n.deps i _ there)

pub loop-e-init : goal.loop-e-init
loop-e-init c =
    let t = c.args.tables.now in
    floor_start (nest_in t.nest.now) t.times.now c.empty-taken.result.words c.empty-taken.ensures

pub cheapest_of-floor-requires : goal.cheapest_of-floor-requires
cheapest_of-floor-requires c =
    let t = c.args.tables.now in
    let es = c.dependences-e-items.ensures.entries in
    rw (lent_is t.nest.now es c.loop-e-test.true) (found_lies t.with_ends (there t.nest.now es c.loop-e-test.true))

pub overflow_add-floor : goal.overflow_add-floor
overflow_add-floor c =
    let t = c.args.tables.now in
    let es = c.dependences-e-items.ensures.entries in
    let its = lent_is t.nest.now es c.loop-e-test.true in
    record {
      fits =
          floor_fits t.with_ends c.loop-e.invariant (there t.nest.now es c.loop-e-test.true) c.cut_in.result
          (rw its at c.cut_in.ensures) c.requires c.cheapest_of-floor.result (rw its at c.cheapest_of-floor.ensures);
    }

pub with_gaps-taken-requires : goal.with_gaps-taken-requires
with_gaps-taken-requires c =
    let t = c.args.tables.now in
    let es = c.dependences-e-items.ensures.entries in
    rw (lent_is t.nest.now es c.loop-e-test.true) (found_lies t.with_ends (there t.nest.now es c.loop-e-test.true))

pub loop-e-preserved : goal.loop-e-preserved
loop-e-preserved c =
    let t = c.args.tables.now in
    let es = c.dependences-e-items.ensures.entries in
    let here = there t.nest.now es c.loop-e-test.true in
    let its = lent_is t.nest.now es c.loop-e-test.true in
    let says = rw its at c.cut_in.ensures in
    let cut = cut_some c.cut_in.result ∙ c.is_none.ensures in
    elim c.if-is_none.branch [
      | then-is_none w ↦
          rw
          (w.floor-is, w.taken-is)
          (floor_taken t.with_ends c.loop-e.invariant here c.cut_in.result says c.requires w.cheapest_of-floor.result
          (rw its at w.cheapest_of-floor.ensures) (cut ∙ ap not w.if-is_none.true) w.with_gaps-taken.result.words
          (rw its at w.with_gaps-taken.ensures))
      | else-is_none w ↦
          rw
          (w.floor-is, w.taken-is)
          (floor_shared t.with_ends c.loop-e.invariant here c.cut_in.result says (cut ∙ ap not w.if-is_none.false))
    ]

pub returns : goal.returns
returns c =
    let n = c.args.tables.now.nest.now in
    let w = c.args.tables.now.with_ends in
    let lent = ap length c.dependences-e-items.ensures.entries in
    floor_done w c.loop-e.invariant
    (omega (arith, lent, length-take-le n.many n.deps (counted_many n w.counted), w.counted.many_is))
