-- `text_length` meets its contract: three bytes a point, and the texts of the dependences, which are as long where they
-- are moved along.
use Prim.Native.Nat.{◌*◌, ◌≤◌}
use native.Mathlib.Omega.{arith}
use lib.ListN.{length}
use Rattle.paper_nests.specs.declared.Nest as DN
use Rattle.paper_nests.specs.Stored.{nest_in, IsCounted}
use Rattle.call_join.specs.Written.{deps_text}
use Rattle.call_join.proofs.JointTexts.{joint_text_length}
use Rattle.call_join.proofs.Measuring.{deps_short}
use Rattle.call_join.proofs.text_length.Goals as goal

-- the text of a paper's dependences is short
short : (n : DN.Nest) → IsCounted n → length (deps_text (nest_in n).deps) ≤ 9 * 512
short n p = omega (arith, deps_short (nest_in n).deps, p.many_is, p.many_fits)

pub overflow_add-result : goal.overflow_add-result
overflow_add-result c =
    let b = c.args.both.now in
    omega (arith, b.first_counted.count_fits, b.second_counted.count_fits)

pub overflow_add-result-2 : goal.overflow_add-result-2
overflow_add-result-2 c =
    let b = c.args.both.now in
    omega (arith, b.first_counted.count_fits, b.second_counted.count_fits)

pub overflow_mul-result : goal.overflow_mul-result
overflow_mul-result c =
    let b = c.args.both.now in
    omega (arith, b.first_counted.count_fits, b.second_counted.count_fits)

pub overflow_add-result-3 : goal.overflow_add-result-3
overflow_add-result-3 c =
    let b = c.args.both.now in
    omega (
      arith,
      b.first_counted.count_fits,
      b.second_counted.count_fits,
      short b.n.now b.first_counted,
      c.deps_length.ensures,
    )

pub overflow_add-result-4 : goal.overflow_add-result-4
overflow_add-result-4 c =
    let b = c.args.both.now in
    omega (
      arith,
      b.first_counted.count_fits,
      b.second_counted.count_fits,
      short b.n.now b.first_counted,
      short b.m.now b.second_counted,
      c.deps_length.ensures,
      c.deps_length-2.ensures,
    )

pub returns : goal.returns
returns c =
    let b = c.args.both.now in
    omega (
      arith,
      joint_text_length (nest_in b.n.now) (nest_in b.m.now),
      b.first_counted.count_is,
      b.second_counted.count_is,
      c.deps_length.ensures,
      c.deps_length-2.ensures,
    )
