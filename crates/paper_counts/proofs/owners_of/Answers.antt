use native.Mathlib.Omega.{arith}
use Rattle.paper_counts.proofs.Walk.{walk_do, walk_end, walk_plain}
use Rattle.paper_counts.proofs.owners_of.Goals as goal
use Rattle.paper_counts.proofs.owners_of.Goals.{in-1, in-2, in_default}

pub loop-g-preserved : goal.loop-g-preserved
loop-g-preserved c =
    let r = c.requires in
    let l = c.loop-g in
    elim c.match-kind.branch [
      | in-1 w ↦
          rw w.around-is (walk_do _ r.0 r.1 _ _ _ l.invariant (omega arith) w.in-1.is)
      | in-2 w ↦
          rw w.around-is (walk_end _ r.0 r.1 _ _ _ l.invariant (omega arith) (omega arith) w.in-2.is)
      | in_default w ↦
          rw w.around-is (walk_plain _ r.0 r.1 _ _ _ l.invariant (omega arith) (omega arith) (omega arith))
    ]
