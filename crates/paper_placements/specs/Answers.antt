-- The answers of the code as numbers of the definitions, for each of their cases.
-- Main definitions: `cut_of`, `is_cut`, `CutSays`, `place_of`, `found_of`, `IsMask`, `Difference`, `difference_in`,
-- `difference_of`, `LoopCountSays`, `CompareSays`.
use Rattle.std.specs.Prelude.{◌≡◌, Bool, true, false, Option, Some, None, List, ℕ, suc, ◌-◌, ◌<◌, eqb, ltb, length}
use Rattle.laws.specs.Choice.{pick}
use Rattle.paper_nests.specs.declared.Dependence as DE
use Rattle.paper_nests.specs.Kinds.{INDEPENDENT}
use Rattle.paper_nests.specs.Nests.{Dep, Nest}
use Rattle.paper_nests.specs.Loops.{end_of, owner_of}
use Rattle.paper_nests.specs.Stored.{dep_in}
use Rattle.paper_placements.specs.declared.Counts as DC
use Rattle.paper_placements.specs.Placements.{cuts, cut_by, loop_count, differ}
use Rattle.paper_placements.specs.Words.{GAPS, holds, gaps_in}

-- the gap that cuts; 0 for none
abbrev pub cut_of : Option ℕ → ℕ
cut_of (Some g) = g
cut_of None = 0

-- whether it cuts
abbrev pub is_cut : Option ℕ → Bool
is_cut (Some g) = true
is_cut None = false

-- the cut test's answer for a dependence and a placement
pub record CutSays (ps : List ℕ) (e : Dep) (gs : List ℕ) (r : Option ℕ) : Type 0 where
  pub by_gap : cut_of r ≡ cut_by ps e gs
  pub cut : is_cut r ≡ cuts ps e gs

-- the same for any points in which `end` is the ENDDO of the loop that carries the dependence
abbrev pub CutInSays : ℕ → DE.Dependence → List ℕ → Option ℕ → Type 0
CutInSays end e ws r =
    (ps : List ℕ) →
    ((e.kind ≡ INDEPENDENT → ⊥) → end ≡ end_of ps e.d) →
    CutSays ps (dep_in e) (gaps_in ws) r

-- the number of the first dependence that is not cut, plus 1; 0 for none
abbrev pub place_of : Option ℕ → ℕ
place_of (Some i) = suc i
place_of None = 0

-- a gap that was looked for; 0 for none
abbrev pub found_of : ℕ → ℕ
found_of g = pick (ltb g GAPS) g 0

-- the words hold the own gaps of loop d
abbrev pub IsMask : List ℕ → ℕ → List ℕ → Type 0
IsMask ps d ws = (g : ℕ) → 0 < g → g < length ps → holds ws g ≡ eqb (owner_of ps g) d

-- the first loop by its ENDDO at which two placements differ, plus 1, with both counts; 0, 0, 0 for none
pub record Difference : Type 0 where
  pub place : ℕ
  pub theirs : ℕ
  pub ours : ℕ

abbrev pub difference : ℕ → ℕ → ℕ → Difference
difference p t o = record { place = p; theirs = t; ours = o }

abbrev pub difference_in : Option DC.Counts → Difference
difference_in (Some c) = difference (suc c.d) c.theirs c.ours
difference_in None = difference 0 0 0

-- 01, "The desk": the loop of Dearer is the one with the first ENDDO at which the counts differ
abbrev pub difference_of : Nest → List ℕ → List ℕ → Difference
difference_of n key gs =
    pick
    (eqb (differ n key gs) 0)
    (difference 0 0 0)
    (difference (differ n key gs) (loop_count n gs (differ n key gs - 1)) (loop_count n key (differ n key gs - 1)))

-- the count of loop d in each nest with these points, for a placement as words
abbrev pub LoopCountSays : List ℕ → ℕ → List ℕ → ℕ → Type 0
LoopCountSays ps d ws r = (n : Nest) → n.points ≡ ps → r ≡ loop_count n (gaps_in ws) d

-- the answer for each nest with these points and two placements, as words
abbrev pub CompareSays : List ℕ → List ℕ → List ℕ → Option DC.Counts → Type 0
CompareSays ps key ws r = (n : Nest) → n.points ≡ ps → difference_in r ≡ difference_of n (gaps_in key) (gaps_in ws)
