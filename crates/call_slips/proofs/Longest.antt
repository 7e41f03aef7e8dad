-- How long a slip can be: a nest has at most half as many loops as points, since each loop has its DO and its ENDDO.
-- Main statements: `candidate_longest`, `examiner_longest`.
use mathlib.Core.Path.{◌≡◌, ap, ◌∙◌}
use mathlib.Core.Bool.{true, false}
use mathlib.Core.List.{List, [], ◌∷◌}
use mathlib.Core.Logic.{⊎_elim}
use Prim.Native.Nat.{ℕ, zero, suc, ◌+◌, ◌*◌, ◌≤◌}
use native.Mathlib.Numerals.{add-one}
use native.Mathlib.Omega.{arith}
use lib.ListN.{length, get_or, length-append}
use borrow.Author.Tests.{eqb-true, eqb-false}
use Rattle.laws.proofs.Tests.{test}
use Rattle.paper_nests.specs.Kinds.{DO}
use Rattle.paper_nests.specs.Nests.{Nest}
use Rattle.paper_nests.specs.Loops.{is_do, is_end}
use Rattle.paper_nests.specs.Valid.{is_shape, is_valid}
use Rattle.paper_nests.proofs.Levels.{lev, lev_zero, lev_up, lev_falls, lev_same, lev_last}
use Rattle.paper_nests.proofs.Deps.{valid_is}
use Rattle.paper_lines.specs.Lines.{line_text}
use Rattle.paper_placements.specs.Placements.{loop_count}
use Rattle.paper_texts.specs.Counts.{COUNT, counts_text}
use Rattle.paper_texts.proofs.Counting.{line_length, rest_of, rest_all, rest_skip, rest_do, rest_end}
use Rattle.call_slips.specs.Texts.{slip_text, examiner_text}
use Rattle.call_slips.proofs.Lengths.{slip_parts, examiner_parts}

module _ (n : Nest) (shape : is_shape n.points ≡ true) (gs : List ℕ) where
  abbrev ps : List ℕ
  ps = n.points

  -- from point k on, of which there are m, every loop that opens closes, and those open there close too
  rest_half : (m k : ℕ) → k + m ≡ length ps → 2 * length (rest_of n gs k) + 7 * lev ps k ≤ 7 * m
  rest_half zero k e =
      let none : length (rest_of n gs k) ≡ 0 = ap length (rest_end n gs k (omega arith)) in
      let end : lev ps k ≡ 0 = ap (lev ps) (let z : k ≡ length ps = omega arith in z) ∙ lev_last ps shape in
      omega arith
  rest_half (suc m) k e = half (rest_half m (k + 1) (omega arith))
    where
      half :
          2 * length (rest_of n gs (k + 1)) + 7 * lev ps (k + 1) ≤ 7 * m →
          2 * length (rest_of n gs k) + 7 * lev ps k ≤ 7 * suc m
      half next = ⊎_elim opens other (test (is_do ps k))
        where
          opens : is_do ps k ≡ true → 2 * length (rest_of n gs k) + 7 * lev ps k ≤ 7 * suc m
          opens z =
              let line = line_text (COUNT ∷ (k ∷ (loop_count n gs k ∷ []))) in
              let split = rest_do n gs k (omega arith) (eqb-true (get_or ps k 0) DO z) in
              let long : length (rest_of n gs k) ≡ length line + length (rest_of n gs (k + 1)) =
              ap length split ∙ length-append line (rest_of n gs (k + 1)) in
              let up : lev ps (k + 1) ≡ suc (lev ps k) = rw (add-one k) (lev_up ps k z) in
              omega (arith, line_length k (loop_count n gs k))

          other : is_do ps k ≡ false → 2 * length (rest_of n gs k) + 7 * lev ps k ≤ 7 * suc m
          other z =
              let same : length (rest_of n gs k) ≡ length (rest_of n gs (k + 1)) =
              ap length (rest_skip n gs k (omega arith) (eqb-false (get_or ps k 0) DO z)) in
              ⊎_elim
              (λ (y : is_end ps k ≡ true).
              let down : suc (lev ps (k + 1)) ≡ lev ps k = rw (add-one k) (lev_falls ps shape k y) in
              omega arith)
              (λ (y : is_end ps k ≡ false).
              let flat : lev ps (k + 1) ≡ lev ps k = rw (add-one k) (lev_same ps k z y) in
              omega arith)
              (test (is_end ps k))

  counts_half : 2 * length (counts_text n gs) ≤ 7 * length ps
  counts_half =
      omega (arith, rest_half (length ps) 0 (omega arith), ap length (rest_all n gs), lev_zero ps)

pub candidate_longest : (n : Nest) (gs : List ℕ) → is_valid n ≡ true → length (slip_text n gs) ≤ 903
candidate_longest n gs h =
    let v = valid_is n h in
    omega (arith, slip_parts n gs, counts_half n v.shape gs, v.few_points)

pub examiner_longest : (n : Nest) (key gs : List ℕ) → is_valid n ≡ true → length (examiner_text n key gs) ≤ 3474
examiner_longest n key gs h =
    omega (arith, examiner_parts n key gs, candidate_longest n gs h, (valid_is n h).few_deps)
