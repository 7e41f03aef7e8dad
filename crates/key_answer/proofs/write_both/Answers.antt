-- `write_both` meets its contract: the key's text, then the counts in the rest of the buffer (proofs/Both).
use native.Mathlib.Omega.{arith}
use Rattle.paper_nests.specs.Stored.{nest_in}
use Rattle.paper_nests.proofs.Deps.{valid_is}
use Rattle.paper_placements.specs.Words.{gaps_in}
use Rattle.key_answer.proofs.Both.{ready, key_fits, counts_fit, both_short}
use Rattle.key_answer.proofs.write_both.Goals as goal

pub write_text-at-requires : goal.write_text-at-requires
write_text-at-requires c =
    let y = ready (nest_in c.args.nest) (gaps_in c.args.key.words) c.args.out.now c.requires.nest_value c.requires.words_value c.requires.in_bounds in
    omega (arith, key_fits _ _ _ y)

pub write_counts-requires-clause-points_value : goal.write_counts-requires-clause-points_value
write_counts-requires-clause-points_value c =
    let v = valid_is (nest_in c.args.nest) c.requires.nest_value in
    rw c.points.ensures (v.shape, v.few_points)

pub write_counts-requires-clause-counts_fit : goal.write_counts-requires-clause-counts_fit
write_counts-requires-clause-counts_fit c =
    let y = ready (nest_in c.args.nest) (gaps_in c.args.key.words) c.args.out.now c.requires.nest_value c.requires.words_value c.requires.in_bounds in
    let w = c.write_text-at.ensures in
    rw c.points.ensures (counts_fit _ _ _ y c.write_text-at.new.out c.write_text-at.result w.value w.out_after)

pub overflow_add-result : goal.overflow_add-result
overflow_add-result c =
    let y = ready (nest_in c.args.nest) (gaps_in c.args.key.words) c.args.out.now c.requires.nest_value c.requires.words_value c.requires.in_bounds in
    let w = c.write_text-at.ensures in
    omega (
      arith,
      both_short _ _ _ y c.write_text-at.new.out c.write_text-at.result w.value w.out_after c.write_counts.new.out
          c.write_counts.result (rw c.points.ensures at c.write_counts.ensures),
    )
