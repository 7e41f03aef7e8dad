use mathlib.Core.Path.{◌≡◌, refl}
use mathlib.Core.Bool.{true}
use native.Mathlib.Omega.{arith}
use lib.ListN.{get_or}
use borrow.Author.Tests.{eq-eqb}
use Rattle.paper_nests.specs.Kinds.{DO}
use Rattle.paper_nests.specs.Loops.{is_do}
use Rattle.call_list.proofs.ShortEnds.{short_start, short_put, short_by, short_done}
use Rattle.call_list.proofs.ends_in.Goals as goal
use Rattle.call_list.proofs.ends_in.Goals.{then-points-d-eq-DO, else-points-d-eq-DO}

pub loop-d-init : goal.loop-d-init
loop-d-init c = short_start c.args.points.now _ _ (omega arith) refl

pub bounds-ends-d : goal.bounds-ends-d
bounds-ends-d c = omega (arith, c.requires.0)

pub overflow_cast-of : goal.overflow_cast-of
overflow_cast-of c =
    let is-do : is_do c.args.points.now c.loop-d.d ≡ true =
    eq-eqb (get_or c.args.points.now c.loop-d.d 0) DO (omega (arith, c.if-points-d-eq-DO.true)) in
    omega (arith, c.ends_of-ends.ensures c.loop-d.d is-do, c.requires.1 c.loop-d.d is-do)

pub loop-d-preserved : goal.loop-d-preserved
loop-d-preserved c =
    elim c.if-points-d-eq-DO.branch [
      | then-points-d-eq-DO w ↦
          let is-do : is_do c.args.points.now c.loop-d.d ≡ true =
          eq-eqb (get_or c.args.points.now c.loop-d.d 0) DO (omega (arith, w.if-points-d-eq-DO.true)) in
          rw
          w.of-is
          (short_put c.loop-d.invariant (omega (arith, c.requires.0)) _ (c.ends_of-ends.ensures c.loop-d.d is-do))
      | else-points-d-eq-DO w ↦
          rw w.of-is (short_by c.loop-d.invariant (λ q. omega (arith, w.if-points-d-eq-DO.false, q)))
    ]

pub returns : goal.returns
returns c = short_done c.loop-d.invariant (omega arith)
