use Prim.Native.Nat.{◌+◌}
use native.Mathlib.Omega.{arith}
use Rattle.paper_nests.specs.Stored.{nest_in}
use Rattle.call_join.proofs.Measuring.{lent_deps, next_dep, Summed, summed_within, summed_on, summed_done}
use Rattle.call_join.proofs.deps_length.Goals as goal

-- with the line of this turn
added : (c : goal.After-dep_length-length) →
    Summed (nest_in c.args.nest.now).deps (c.loop-e.length + c.dep_length-length.result) (c.loop-e.e-index + 1)
added c =
    let n = c.args.nest.now in
    let es = c.dependences-e-items in
    summed_on c.loop-e.invariant (omega (arith, lent_deps n c.requires es.ensures.entries))
    (next_dep n c.requires es.ensures.entries _ c.loop-e-test.true)
    c.dep_length-length.ensures

pub overflow_add-length : goal.overflow_add-length
overflow_add-length c = omega (arith, summed_within (added c), c.requires.many_is, c.requires.many_fits)

pub loop-e-preserved : goal.loop-e-preserved
loop-e-preserved c = added c

pub returns : goal.returns
returns c =
    let es = c.dependences-e-items in
    summed_done c.loop-e.invariant
    (omega (arith, lent_deps c.args.nest.now c.requires es.ensures.entries))
