-- Slips: what the candidate and the examiner read of a placement, as text.
-- Main definitions: `slip_text`, `examiner_text`.
use Rattle.std.specs.Prelude.{List, [], ◌∷◌, ◌++◌, ℕ, zero, suc, ◌/◌, ◌%◌}
use Rattle.paper_nests.specs.Nests.{Dep, Nest}
use Rattle.paper_lines.specs.Lines.{line_text}
use Rattle.paper_placements.specs.Placements.{uncut, cut_by}
use Rattle.paper_order.specs.Verdicts.{Verdict, Uncut, Dearer, Best, verdict_code, mark_of}
use Rattle.paper_texts.specs.Counts.{counts_text}

-- 02, job 9: a line 23 has the first uncut dependence, 24 the verdict, 25 the gap that cuts a dependence
abbrev pub FIRST-UNCUT : ℕ
FIRST-UNCUT = 0x23

abbrev pub VERDICT : ℕ
VERDICT = 0x24

abbrev pub CUT-BY : ℕ
CUT-BY = 0x25

-- 02, job 9: ffff where no dependence is uncut
abbrev pub NONE : ℕ
NONE = 0xffff

-- the number that the line shows, of the answer of `uncut`, where 0 is none, and else 1 is added
abbrev pub shown : ℕ → ℕ
shown zero = NONE
shown (suc i) = i

-- 02, job 9: in two bytes, high first
abbrev pub first_text : ℕ → List ℕ
first_text u = line_text (FIRST-UNCUT ∷ (shown u / 256 ∷ (shown u % 256 ∷ [])))

-- 02, job 9: the first uncut dependence, then each loop's count in order of its DO
unfoldable pub slip_text : Nest → List ℕ → List ℕ
slip_text n gs = first_text (uncut n gs) ++ counts_text n gs

-- 02, job 9: the verdict's code, then loop, their count, our count, 00 each unless Dearer
abbrev pub verdict_line : ℕ → ℕ → ℕ → ℕ → List ℕ
verdict_line code loop theirs ours = line_text (VERDICT ∷ (code ∷ (loop ∷ (theirs ∷ (ours ∷ [])))))

abbrev pub verdict_text : Verdict → List ℕ
verdict_text (Uncut i) = verdict_line (verdict_code (Uncut i)) 0 0 0
verdict_text (Dearer loop theirs ours) = verdict_line (verdict_code (Dearer loop theirs ours)) loop theirs ours
verdict_text Best = verdict_line (verdict_code Best) 0 0 0

-- 02, job 9: for each dependence in order the lowest gap that cuts it, 00 for none
unfoldable pub cuts_text : List ℕ → List Dep → List ℕ → List ℕ
cuts_text ps [] gs = []
cuts_text ps (e ∷ es) gs = line_text (CUT-BY ∷ (cut_by ps e gs ∷ [])) ++ cuts_text ps es gs

-- 02, job 9: the candidate's slip, then the verdict beside the key, then what cuts each dependence
unfoldable pub examiner_text : Nest → List ℕ → List ℕ → List ℕ
examiner_text n key gs =
    slip_text n gs ++ (verdict_text (mark_of n key gs) ++ cuts_text n.points n.deps gs)
