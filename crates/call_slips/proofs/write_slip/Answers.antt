-- `write_slip` meets its contract: the first line, then the counts in the rest of the buffer (`last_part`).
use mathlib.Core.Path.{sym, subst}
use Prim.Native.Nat.{ℕ, ◌+◌, ◌-◌, ◌≤◌}
use native.Mathlib.Omega.{arith}
use lib.ListN.{length}
use borrow.Author.Rules.{rules}
use borrow.Rule.Slice.PartMut.{put_mid}
use Rattle.paper_nests.specs.Stored.{nest_in}
use Rattle.paper_nests.proofs.Deps.{valid_is}
use Rattle.paper_lines.proofs.Parts.{Partly}
use Rattle.paper_placements.specs.Placements.{uncut}
use Rattle.paper_placements.specs.Words.{gaps_in}
use Rattle.paper_texts.specs.Counts.{counts_text}
use Rattle.paper_texts.proofs.Counting.{counts_fit}
use Rattle.call_slips.specs.Texts.{first_text, slip_text}
use Rattle.call_slips.specs.Writers.{Wrote}
use Rattle.call_slips.proofs.Bytes.{uncut_most}
use Rattle.call_slips.proofs.Lengths.{slip_parts}
use Rattle.call_slips.proofs.Joined.{first_part, part_within, rest_fits, last_part}
use Rattle.call_slips.proofs.write_slip.Goals as goal

pub write_first-at-requires : goal.write_first-at-requires
write_first-at-requires c =
    let n = nest_in c.args.nest in
    let gs = gaps_in c.args.placement.words in record { first_bound = omega (arith, c.uncut-first.ensures, uncut_most n gs c.requires.nest_value); first_in_bounds = omega (arith, slip_parts n gs, c.requires.words_in_bounds) }

pub slice_bounds-write_counts-count : goal.slice_bounds-write_counts-count
unfolding slip_text
slice_bounds-write_counts-count c =
    let begun : let a = c.args in
    let n = nest_in a.nest in
    let gs = gaps_in a.placement.words in
    Partly (slip_text n gs) (counts_text n gs) a.out.now c.write_first-at.new.out c.write_first-at.result = let a = c.args in
    let n = nest_in a.nest in
    let gs = gaps_in a.placement.words in
    first_part (first_text (uncut n gs)) (counts_text n gs) a.out.now c.write_first-at.new.out c.write_first-at.result
    (subst
    (λ (u : ℕ). Wrote (first_text u) a.out.now c.write_first-at.new.out c.write_first-at.result)
    c.uncut-first.ensures
    c.write_first-at.ensures) in
    let within : c.write_first-at.result ≤ length c.write_first-at.new.out = part_within _ _ _ _ _ (begun) c.requires.words_in_bounds in
    within

pub slice_bounds-write_counts-start : goal.slice_bounds-write_counts-start
unfolding slip_text
slice_bounds-write_counts-start c =
    let begun : let a = c.args in
    let n = nest_in a.nest in
    let gs = gaps_in a.placement.words in
    Partly (slip_text n gs) (counts_text n gs) a.out.now c.write_first-at.new.out c.write_first-at.result = let a = c.args in
    let n = nest_in a.nest in
    let gs = gaps_in a.placement.words in
    first_part (first_text (uncut n gs)) (counts_text n gs) a.out.now c.write_first-at.new.out c.write_first-at.result
    (subst
    (λ (u : ℕ). Wrote (first_text u) a.out.now c.write_first-at.new.out c.write_first-at.result)
    c.uncut-first.ensures
    c.write_first-at.ensures) in
    let within : c.write_first-at.result ≤ length c.write_first-at.new.out = part_within _ _ _ _ _ (begun) c.requires.words_in_bounds in
    let z = within in
    search rules

pub write_counts-requires : goal.write_counts-requires
unfolding slip_text
write_counts-requires c =
    let begun : let a = c.args in
    let n = nest_in a.nest in
    let gs = gaps_in a.placement.words in
    Partly (slip_text n gs) (counts_text n gs) a.out.now c.write_first-at.new.out c.write_first-at.result = let a = c.args in
    let n = nest_in a.nest in
    let gs = gaps_in a.placement.words in
    first_part (first_text (uncut n gs)) (counts_text n gs) a.out.now c.write_first-at.new.out c.write_first-at.result
    (subst
    (λ (u : ℕ). Wrote (first_text u) a.out.now c.write_first-at.new.out c.write_first-at.result)
    c.uncut-first.ensures
    c.write_first-at.ensures) in
    let n = nest_in c.args.nest in
    let v = valid_is n c.requires.nest_value in
    rw c.points.ensures record {
      points_value = (v.shape, v.few_points);
      words_value = c.requires.words_value;
      counts_fit =
          counts_fit n (gaps_in c.args.placement.words) _ (rest_fits _ _ _ _ _ (begun) c.requires.words_in_bounds);
    }

pub overflow_add-result : goal.overflow_add-result
unfolding slip_text
overflow_add-result c =
    let begun : let a = c.args in
    let n = nest_in a.nest in
    let gs = gaps_in a.placement.words in
    Partly (slip_text n gs) (counts_text n gs) a.out.now c.write_first-at.new.out c.write_first-at.result = let a = c.args in
    let n = nest_in a.nest in
    let gs = gaps_in a.placement.words in
    first_part (first_text (uncut n gs)) (counts_text n gs) a.out.now c.write_first-at.new.out c.write_first-at.result
    (subst
    (λ (u : ℕ). Wrote (first_text u) a.out.now c.write_first-at.new.out c.write_first-at.result)
    c.uncut-first.ensures
    c.write_first-at.ensures) in
    let written : let a = c.args in
    Wrote
    (slip_text (nest_in a.nest) (gaps_in a.placement.words))
    a.out.now
    (put_mid c.write_first-at.result (length c.write_first-at.new.out - c.write_first-at.result) c.write_first-at.new.out c.write_counts.new.out)
    (c.write_first-at.result + c.write_counts.result) = let n = nest_in c.args.nest in
    last_part _ _ _ _ _ (begun) c.requires.words_in_bounds _ _
    (record {
      length_is = c.write_counts.ensures.length_is n (sym c.points.ensures);
      out_is = c.write_counts.ensures.out_is n (sym c.points.ensures);
    }) in
    let fits = c.requires.words_in_bounds in
    omega (arith, (written).length_is)

pub returns : goal.returns
unfolding slip_text
returns c =
    let begun : let a = c.args in
    let n = nest_in a.nest in
    let gs = gaps_in a.placement.words in
    Partly (slip_text n gs) (counts_text n gs) a.out.now c.write_first-at.new.out c.write_first-at.result = let a = c.args in
    let n = nest_in a.nest in
    let gs = gaps_in a.placement.words in
    first_part (first_text (uncut n gs)) (counts_text n gs) a.out.now c.write_first-at.new.out c.write_first-at.result
    (subst
    (λ (u : ℕ). Wrote (first_text u) a.out.now c.write_first-at.new.out c.write_first-at.result)
    c.uncut-first.ensures
    c.write_first-at.ensures) in
    let written : let a = c.args in
    Wrote
    (slip_text (nest_in a.nest) (gaps_in a.placement.words))
    a.out.now
    (put_mid c.write_first-at.result (length c.write_first-at.new.out - c.write_first-at.result) c.write_first-at.new.out c.write_counts.new.out)
    (c.write_first-at.result + c.write_counts.result) = let n = nest_in c.args.nest in
    last_part _ _ _ _ _ (begun) c.requires.words_in_bounds _ _
    (record {
      length_is = c.write_counts.ensures.length_is n (sym c.points.ensures);
      out_is = c.write_counts.ensures.out_is n (sym c.points.ensures);
    }) in
    written
