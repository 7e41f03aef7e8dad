-- How long slips are: a line, and one for each loop; for the examiner a line more, and one for each dependence.
-- Main statements: `first_length`, `verdict_length`, `cut_length`; `Measured`, what a turn keeps; `measure_start`,
-- `measure_do`, `measure_skip`, `measure_done`; `slip_parts`, `examiner_parts`.
use mathlib.Core.Path.{◌≡◌, refl, ap, ◌∙◌}
use mathlib.Core.List.{List, [], ◌∷◌, ◌++◌}
use Prim.Native.Nat.{ℕ, ◌+◌, ◌*◌, ◌≤◌, ◌<◌}
use native.Mathlib.Omega.{arith}
use lib.ListN.{length, get_or, length-append}
use Rattle.paper_nests.specs.Kinds.{DO}
use Rattle.paper_nests.specs.Nests.{Dep, Nest}
use Rattle.paper_lines.specs.Lines.{line_text}
use Rattle.paper_placements.specs.Placements.{uncut, cut_by, loop_count}
use Rattle.paper_order.specs.Verdicts.{Verdict, Uncut, Dearer, Best, mark_of}
use Rattle.paper_texts.specs.Counts.{COUNT, counts_text}
use Rattle.paper_texts.proofs.Counting.{counts_length, line_length, rest_of, rest_all, rest_skip, rest_do, rest_end}
use Rattle.call_slips.specs.Texts.{CUT-BY, first_text, slip_text, verdict_text, cuts_text, examiner_text}
use Rattle.call_slips.specs.Writers.{SlipLength, ExaminerLength}

pub first_length : (u : ℕ) → length (first_text u) ≡ 7
first_length u = refl

pub verdict_length : (v : Verdict) → length (verdict_text v) ≡ 11
verdict_length (Uncut i) = refl
verdict_length (Dearer d t o) = refl
verdict_length Best = refl

pub cut_length : (g : ℕ) → length (line_text (CUT-BY ∷ (g ∷ []))) ≡ 5
cut_length g = refl

pub cuts_length : (ps : List ℕ) (es : List Dep) (gs : List ℕ) → length (cuts_text ps es gs) ≡ 5 * length es
unfolding cuts_text
cuts_length ps [] gs = refl
cuts_length ps (e ∷ es) gs =
    omega (
      arith,
      length-append (line_text (CUT-BY ∷ (cut_by ps e gs ∷ []))) (cuts_text ps es gs),
      cut_length (cut_by ps e gs),
      cuts_length ps es gs,
    )

-- the candidate's slip: its first line and the counts
pub slip_parts : (n : Nest) (gs : List ℕ) → length (slip_text n gs) ≡ 7 + length (counts_text n gs)
unfolding slip_text
slip_parts n gs =
    omega (arith, length-append (first_text (uncut n gs)) (counts_text n gs), first_length (uncut n gs))

-- at most 7 bytes a point, and 7
pub slip_most : (n : Nest) (gs : List ℕ) → length (slip_text n gs) ≤ 7 * length n.points + 7
slip_most n gs = omega (arith, slip_parts n gs, counts_length n gs 0 n.points)

-- the loops before point d are measured, whatever the placement
pub record Measured (n : Nest) (sum d : ℕ) : Type 0 where
  pub low : d ≤ length n.points
  pub small : sum ≤ 7 * d + 7
  pub rest : (gs : List ℕ) → sum + length (rest_of n gs d) ≡ length (slip_text n gs)

pub measure_start : (n : Nest) → Measured n 7 0
measure_start n =
    record {
      low = omega arith;
      small = omega arith;
      rest = λ gs. omega (arith, ap length (rest_all n gs), slip_parts n gs);
    }

module _ (n : Nest) (sum d : ℕ) (p : Measured n sum d) where
  pub measure_do : d < length n.points → get_or n.points d 0 ≡ DO → Measured n (sum + 7) (d + 1)
  measure_do h e = record { low = omega arith; small = omega (arith, p.small); rest = left }
    where
      left : (gs : List ℕ) → sum + 7 + length (rest_of n gs (d + 1)) ≡ length (slip_text n gs)
      left gs =
          let line = line_text (COUNT ∷ (d ∷ (loop_count n gs d ∷ []))) in
          let long : length (rest_of n gs d) ≡ length line + length (rest_of n gs (d + 1)) =
          ap length (rest_do n gs d h e) ∙ length-append line (rest_of n gs (d + 1)) in
          omega (arith, line_length d (loop_count n gs d), p.rest gs)

  pub measure_skip : d < length n.points → (get_or n.points d 0 ≡ DO → ⊥) → Measured n sum (d + 1)
  measure_skip h e =
      record {
        low = omega arith;
        small = omega (arith, p.small);
        rest = λ gs. omega (arith, ap length (rest_skip n gs d h e), p.rest gs);
      }

  pub measure_done : length n.points ≤ d → SlipLength n sum
  measure_done h gs = omega (arith, ap length (rest_end n gs d h), p.rest gs)

-- the examiner's slip: the candidate's, a line, and one for each dependence
pub examiner_parts
    : (n : Nest) (key gs : List ℕ)
    → length (examiner_text n key gs) ≡ length (slip_text n gs) + 11 + 5 * length n.deps
unfolding examiner_text
examiner_parts n key gs =
    let v = verdict_text (mark_of n key gs) in
    let cuts = cuts_text n.points n.deps gs in
    omega (
      arith,
      length-append (slip_text n gs) (verdict_text (mark_of n key gs) ++ cuts_text n.points n.deps gs),
      length-append v cuts,
      verdict_length (mark_of n key gs),
      cuts_length n.points n.deps gs,
    )

pub examiner_length : (n : Nest) (slip : ℕ) → SlipLength n slip → ExaminerLength n (slip + 11 + 5 * length n.deps)
examiner_length n slip is key gs = omega (arith, is gs, examiner_parts n key gs)
