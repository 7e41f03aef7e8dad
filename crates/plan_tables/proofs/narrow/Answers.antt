use mathlib.Core.List.{List}
use Prim.Native.Nat.{ℕ}
use Rattle.plan_tables.specs.Charts.{Points, HeightsAre, EndsAre}
use native.Mathlib.Omega.{arith}
use Rattle.plan_tables.proofs.Limits.{Ended, row_there, limits_on, limits_skip}
use Rattle.plan_tables.proofs.Limits.{limits_done}
use Rattle.plan_tables.proofs.narrow.Goals as goal
use Rattle.plan_tables.proofs.narrow.Goals.{then-kind-eq-DO, else-kind-eq-DO}

-- the points, the heights and the ENDDOs
ended : {ps ends heights : List ℕ} → Points ps → HeightsAre ps heights → EndsAre ps ends → Ended ps ends heights
ended p h e = record { tall = record { points = p; heights_are = h }; stops = e }

pub overflow_mul-chart : goal.overflow_mul-chart
overflow_mul-chart c =
    let w = ended c.requires.points c.requires.heights_are c.requires.ends_are in
    let t = row_there w c.loop-d.d c.if-kind-eq-DO.true in
    omega arith

pub narrow_row-requires : goal.narrow_row-requires
narrow_row-requires c =
    let w = ended c.requires.points c.requires.heights_are c.requires.ends_are in
    let t = row_there w c.loop-d.d c.if-kind-eq-DO.true in
    record {
      d_le_e = t.0;
      e_bound = t.1;
      e_in_bounds = omega (arith, c.requires.in_bounds_3, c.loop-d.invariant.same);
    }

pub loop-d-preserved : goal.loop-d-preserved
loop-d-preserved c =
    let w = ended c.requires.points c.requires.heights_are c.requires.ends_are in
    let s = c.loop-d.invariant in
    elim c.if-kind-eq-DO.branch [
      | then-kind-eq-DO x ↦ rw x.limit-is (limits_on w s x.if-kind-eq-DO.true x.narrow_row.auto.xs x.narrow_row.ensures)
      | else-kind-eq-DO x ↦ rw x.limit-is (limits_skip w s x.if-kind-eq-DO.false)
    ]

pub returns : goal.returns
returns c =
    let w = ended c.requires.points c.requires.heights_are c.requires.ends_are in
    limits_done w c.loop-d.invariant (omega arith)
