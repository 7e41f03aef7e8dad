use mathlib.Core.Path.{◌≡◌}
use mathlib.Core.List.{List}
use Prim.Native.Nat.{ℕ, ◌<◌, ◌≤◌}
use native.Mathlib.Omega.{arith}
use lib.ListN.{length, get_or}
use Rattle.paper_nests.specs.Kinds.{ENDDO, POINTS}
use Rattle.paper_nests.specs.Loops.{owner_of}
use Rattle.paper_nests.proofs.Loops.{owner_at_most}
use Rattle.paper_placements.specs.Words.{gaps_in}
use Rattle.paper_weigh.proofs.ByTables.{Turn, Ending}
use Rattle.paper_weigh.proofs.ByTables.{by_other, by_hidden, by_same, by_less, by_more, by_done}
use Rattle.paper_weigh.proofs.weigh.Goals as goal
use Rattle.paper_weigh.proofs.weigh.Goals.{then-point-eq-ENDDO+then-latest-d+then-of_a-d, then-of_a-d-2, else-of_a-d-2, then-point-eq-ENDDO+else-latest-d, else-latest-d-via-then-latest-d+else-of_a-d, else-latest-d-via-else-latest-d, else-point-eq-ENDDO}

-- the loop of a gap is a point
inside : (ps : List ℕ) (g o : ℕ) → length ps ≤ POINTS → g < length ps → o ≡ owner_of ps g → o < 256
inside ps g o few h e = omega (arith, owner_at_most ps g)

pub offset_bounds-of_a-d : goal.offset_bounds-of_a-d
offset_bounds-of_a-d c = omega (arith, inside _ _ _ c.requires.points_value.1 c.loop-e-test.true (c.owners_of-owners.ensures c.loop-e.e c.loop-e-test.true))

pub bounds-of_a-d : goal.bounds-of_a-d
bounds-of_a-d c = inside _ _ _ c.requires.points_value.1 c.loop-e-test.true (c.owners_of-owners.ensures c.loop-e.e c.loop-e-test.true)

pub offset_bounds-of_b-d : goal.offset_bounds-of_b-d
offset_bounds-of_b-d c = omega (arith, inside _ _ _ c.requires.points_value.1 c.loop-e-test.true (c.owners_of-owners.ensures c.loop-e.e c.loop-e-test.true))

pub bounds-of_b-d : goal.bounds-of_b-d
bounds-of_b-d c = inside _ _ _ c.requires.points_value.1 c.loop-e-test.true (c.owners_of-owners.ensures c.loop-e.e c.loop-e-test.true)

pub returns : goal.returns
returns c =
    by_done _ (gaps_in c.args.a.words) (gaps_in c.args.b.words) c.requires.points_value (omega (arith, c.loop-e-test.false))
    c.loop-e.invariant c.counts_of-of_a.ensures c.counts_of-of_b.ensures

pub loop-e-preserved : goal.loop-e-preserved
loop-e-preserved c =
    let p = c.requires.points_value in
    let l = c.loop-e in
    let turn : Turn c.args.points.now c.counts_of-of_a.result c.counts_of-of_b.result
    l.e l.latest l.first l.second l.deciding.words =
    record { shape = p.0; few = p.1; there = c.loop-e-test.true; kept = l.invariant } in
    let ending : get_or c.args.points.now l.e 0 ≡ ENDDO → Ending c.args.points.now l.e (get_or c.owners_of-owners.result l.e 0) =
    λ k. record { ends = k; owner = c.owners_of-owners.ensures l.e c.loop-e-test.true } in
    elim c.if-point-eq-ENDDO.branch [
      | then-point-eq-ENDDO+then-latest-d+then-of_a-d w ↦
          elim w.if-of_a-d-2.branch [
            | then-of_a-d-2 v ↦
                rw (w.latest-is, w.first-is, w.second-is, w.deciding-is, v.first-is, v.second-is)
                (by_less turn (ending (omega (arith, w.if-point-eq-ENDDO.true))) (omega (arith, w.if-latest-d.true))
                _ w.put-deciding.ensures (omega (arith, v.if-of_a-d-2.true)))
            | else-of_a-d-2 v ↦
                rw (w.latest-is, w.first-is, w.second-is, w.deciding-is, v.first-is, v.second-is)
                (by_more turn (ending (omega (arith, w.if-point-eq-ENDDO.true))) (omega (arith, w.if-latest-d.true))
                _ w.put-deciding.ensures (omega (arith, w.if-of_a-d.true, v.if-of_a-d-2.false)))
          ]
      | then-point-eq-ENDDO+else-latest-d w ↦
          rw (w.latest-is, w.first-is, w.second-is, w.deciding-is)
          (elim w.else-latest-d.branch [
            | else-latest-d-via-then-latest-d+else-of_a-d v ↦
                by_same turn (ending (omega (arith, w.if-point-eq-ENDDO.true))) (omega (arith, v.if-of_a-d.false))
            | else-latest-d-via-else-latest-d v ↦
                by_hidden turn (ending (omega (arith, w.if-point-eq-ENDDO.true))) (omega (arith, v.if-latest-d.false))
          ])
      | else-point-eq-ENDDO w ↦
          rw (w.latest-is, w.first-is, w.second-is, w.deciding-is)
          (by_other turn (λ q. omega (arith, w.if-point-eq-ENDDO.false, q)))
    ]
