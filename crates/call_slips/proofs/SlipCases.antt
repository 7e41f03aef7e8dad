-- The definitions run: slips of P, whose key is 5, 11.
-- Main statement: `worked_slips`.
use mathlib.Core.Path.{◌≡◌, refl}
use mathlib.Core.List.{List, [], ◌∷◌, ◌++◌}
use Prim.Native.Nat.{ℕ}
use Rattle.paper_nests.proofs.Cases.{paper_P}
use Rattle.paper_lines.specs.Lines.{line_text}
use Rattle.paper_texts.specs.Counts.{counts_from}
use Rattle.call_slips.specs.Texts.{slip_text, cuts_text, examiner_text}

-- frames, a line each
abbrev lines : List (List ℕ) → List ℕ
lines [] = []
lines (f ∷ fs) = line_text f ++ lines fs

abbrev count : ℕ → ℕ → List ℕ
count d k = 0x22 ∷ d ∷ k ∷ []

abbrev cut : ℕ → List ℕ
cut g = 0x25 ∷ g ∷ []

-- the key itself; 5, 10, 11, dearer at loop 7; no barrier, where dependence 0 is the first uncut
pub record Worked : Type 0 where
  pub best
      : examiner_text paper_P (5 ∷ 11 ∷ []) (5 ∷ 11 ∷ []) ≡
      lines
      ((0x23 ∷ 0xff ∷ 0xff ∷ []) ∷ count 0 0 ∷ count 1 1 ∷ count 7 1 ∷ (0x24 ∷ 2 ∷ 0 ∷ 0 ∷ 0 ∷ []) ∷
      cut 5 ∷ cut 5 ∷ cut 11 ∷ cut 11 ∷ cut 11 ∷ cut 5 ∷ [])
  pub dearer
      : examiner_text paper_P (5 ∷ 11 ∷ []) (5 ∷ 10 ∷ 11 ∷ []) ≡
      lines
      ((0x23 ∷ 0xff ∷ 0xff ∷ []) ∷ count 0 0 ∷ count 1 1 ∷ count 7 2 ∷ (0x24 ∷ 1 ∷ 7 ∷ 2 ∷ 1 ∷ []) ∷
      cut 5 ∷ cut 5 ∷ cut 10 ∷ cut 11 ∷ cut 11 ∷ cut 5 ∷ [])
  pub uncut : slip_text paper_P [] ≡ lines ((0x23 ∷ 0 ∷ 0 ∷ []) ∷ count 0 0 ∷ count 1 0 ∷ count 7 0 ∷ [])

pub worked_slips : Worked
unfolding counts_from slip_text cuts_text examiner_text
worked_slips = record { best = refl; dearer = refl; uncut = refl }
