-- `write_examiner` meets its contract: the candidate's slip, then the verdict, then the cuts, each in the rest of the
-- buffer (`begun`, `onward`).
use mathlib.Core.Path.{◌≡◌, refl, sym, subst}
use mathlib.Core.List.{List, ◌++◌}
use Prim.Native.Nat.{ℕ, ◌+◌, ◌-◌, ◌≤◌}
use native.Mathlib.Omega.{arith}
use lib.ListN.{length}
use borrow.Author.Rules.{rules}
use borrow.Rule.Slice.PartMut.{mid_of, put_mid}
use Rattle.paper_nests.specs.Nests.{Nest}
use Rattle.paper_nests.specs.Stored.{nest_in}
use Rattle.paper_lines.proofs.Parts.{Partly}
use Rattle.paper_order.specs.Verdicts.{Verdict, mark_of}
use Rattle.paper_placements.specs.Words.{gaps_in}
use Rattle.desk.specs.Says.{verdict_in}
use Rattle.call_slips.specs.Texts.{slip_text, verdict_text, cuts_text, examiner_text}
use Rattle.call_slips.specs.Writers.{Wrote, InBytes}
use Rattle.call_slips.proofs.Bytes.{verdict_bytes}
use Rattle.call_slips.proofs.Lengths.{verdict_length, examiner_parts}
use Rattle.call_slips.proofs.Joined.{first_part, part_within, part-in, rest_fits, part_fits, next_part, last_part}
use Rattle.call_slips.proofs.write_examiner.Goals as goal

module _ (n : Nest) (key gs : List ℕ) {o out : List ℕ} {at : ℕ} (w : Wrote (slip_text n gs) o out at) where
  -- the candidate's slip is written
  begun : Partly (examiner_text n key gs) (verdict_text (mark_of n key gs) ++ cuts_text n.points n.deps gs) o out at
  unfolding examiner_text
  begun = first_part _ _ _ _ _ w

  module _
      {v : Verdict} {q : List ℕ} {r : ℕ}
      (fits : length (examiner_text n key gs) ≤ length o)
      (is : v ≡ mark_of n key gs)
      (next : Wrote (verdict_text v) (mid_of at (length out - at) out) q r) where
    -- and the verdict
    onward
        : Partly (examiner_text n key gs) (cuts_text n.points n.deps gs) o (put_mid at (length out - at) out q) (at + r)
    onward =
        next_part _ _ _ _ _ begun fits (verdict_text (mark_of n key gs)) _ refl _ _
        (subst (λ (x : Verdict). Wrote (verdict_text x) (mid_of at (length out - at) out) q r) is next)

pub write_slip-at-requires : goal.write_slip-at-requires
write_slip-at-requires c =
    let r = c.requires in
    let parts = examiner_parts (nest_in c.args.nest) (gaps_in c.args.key.words) (gaps_in c.args.placement.words) in
    record {
      counted = r.counted;
      nest_value = r.nest_value;
      words_value = r.words_value_2;
      words_in_bounds = omega (arith, parts, r.words_in_bounds);
    }

pub slice_bounds-write_verdict-count : goal.slice_bounds-write_verdict-count
slice_bounds-write_verdict-count c =
    let a = c.args in
    let now = begun (nest_in a.nest) (gaps_in a.key.words) (gaps_in a.placement.words) c.write_slip-at.ensures in
    part_within _ _ _ _ _ now c.requires.words_in_bounds

pub slice_bounds-write_verdict-start : goal.slice_bounds-write_verdict-start
slice_bounds-write_verdict-start c =
    let a = c.args in
    let now = begun (nest_in a.nest) (gaps_in a.key.words) (gaps_in a.placement.words) c.write_slip-at.ensures in
    let z = part_within _ _ _ _ _ now c.requires.words_in_bounds in
    search rules

pub write_verdict-requires : goal.write_verdict-requires
write_verdict-requires c =
    let r = c.requires in
    let n = nest_in c.args.nest in
    let key = gaps_in c.args.key.words in
    let gs = gaps_in c.args.placement.words in
    let now = begun n key gs c.write_slip-at.ensures in
    let room = part_fits _ _ _ _ _ now r.words_in_bounds (verdict_text (mark_of n key gs)) _ refl in
    let bytes = verdict_bytes n key gs r.nest_value r.words_value r.words_value_2 in
    record {
      in_bytes = subst InBytes (sym c.judge-verdict.ensures) bytes;
      verdict_in_bounds =
          omega (arith, room, verdict_length (mark_of n key gs), verdict_length (verdict_in c.judge-verdict.result));
    }

pub overflow_add-cuts : goal.overflow_add-cuts
overflow_add-cuts c =
    let a = c.args in
    let fits = c.requires.words_in_bounds in
    let now =
    onward (nest_in a.nest) (gaps_in a.key.words) (gaps_in a.placement.words) c.write_slip-at.ensures fits
    c.judge-verdict.ensures c.write_verdict.ensures in
    omega (arith, part-in _ _ _ _ _ now fits)

pub slice_bounds-write_cuts-count : goal.slice_bounds-write_cuts-count
slice_bounds-write_cuts-count c =
    let a = c.args in
    let fits = c.requires.words_in_bounds in
    let now =
    onward (nest_in a.nest) (gaps_in a.key.words) (gaps_in a.placement.words) c.write_slip-at.ensures fits
    c.judge-verdict.ensures c.write_verdict.ensures in
    part_within _ _ _ _ _ now fits

pub slice_bounds-write_cuts-start : goal.slice_bounds-write_cuts-start
slice_bounds-write_cuts-start c =
    let a = c.args in
    let fits = c.requires.words_in_bounds in
    let now =
    onward (nest_in a.nest) (gaps_in a.key.words) (gaps_in a.placement.words) c.write_slip-at.ensures fits
    c.judge-verdict.ensures c.write_verdict.ensures in
    let z = part_within _ _ _ _ _ now fits in
    search rules

pub write_cuts-requires : goal.write_cuts-requires
write_cuts-requires c =
    let a = c.args in
    let r = c.requires in
    let fits = r.words_in_bounds in
    let now =
    onward (nest_in a.nest) (gaps_in a.key.words) (gaps_in a.placement.words) c.write_slip-at.ensures fits
    c.judge-verdict.ensures c.write_verdict.ensures in
    record {
      counted = r.counted;
      nest_value = r.nest_value;
      words_value = r.words_value_2;
      words_in_bounds = rest_fits _ _ _ _ _ now fits;
    }

pub overflow_add-result : goal.overflow_add-result
overflow_add-result c =
    let a = c.args in
    let fits = c.requires.words_in_bounds in
    let now =
    onward (nest_in a.nest) (gaps_in a.key.words) (gaps_in a.placement.words) c.write_slip-at.ensures fits
    c.judge-verdict.ensures c.write_verdict.ensures in
    omega (arith, fits, (last_part _ _ _ _ _ now fits _ _ c.write_cuts.ensures).length_is)

pub returns : goal.returns
returns c =
    let a = c.args in
    let fits = c.requires.words_in_bounds in
    let now =
    onward (nest_in a.nest) (gaps_in a.key.words) (gaps_in a.placement.words) c.write_slip-at.ensures fits
    c.judge-verdict.ensures c.write_verdict.ensures in
    last_part _ _ _ _ _ now fits _ _ c.write_cuts.ensures
