-- The counts of a placement as text: for each loop in order of its DO a line.
-- Main definitions: `counts_text`, `CountsFit`, `CountsSay`.
use Rattle.std.specs.Prelude.{◌≡◌, List, [], ◌∷◌, ◌++◌, ℕ, suc, ◌≤◌, eqb, length}
use Rattle.laws.specs.Choice.{pick}
use Rattle.paper_nests.specs.Kinds.{DO}
use Rattle.paper_nests.specs.Nests.{Nest}
use Rattle.paper_lines.specs.Lines.{line_text}
use Rattle.paper_lines.specs.Writing.{over}
use Rattle.paper_placements.specs.Placements.{loop_count}

-- 01, "The program": a line 22, DO, count
abbrev pub COUNT : ℕ
COUNT = 34

-- the counts of the loops whose DO is at point i or after it, of the points from there on
unfoldable pub counts_from : Nest → List ℕ → ℕ → List ℕ → List ℕ
counts_from n key i [] = []
counts_from n key i (p ∷ ps) =
    pick (eqb p DO) (line_text (COUNT ∷ (i ∷ (loop_count n key i ∷ [])))) [] ++ counts_from n key (suc i) ps

-- 01, "The program": for each loop in order of its DO a line 22, DO, count
abbrev pub counts_text : Nest → List ℕ → List ℕ
counts_text n key = counts_from n key 0 n.points

-- those of each nest with points ps have room
abbrev pub CountsFit : List ℕ → List ℕ → ℕ → Type 0
CountsFit ps gs room = (n : Nest) → n.points ≡ ps → length (counts_text n gs) ≤ room

-- the counts of the loops in each nest with points ps, over the start of the buffer, and their length
pub record CountsSay (ps gs out out' : List ℕ) (r : ℕ) : Type 0 where
  pub length_is : (n : Nest) → n.points ≡ ps → r ≡ length (counts_text n gs)
  pub out_is : (n : Nest) → n.points ≡ ps → out' ≡ over (counts_text n gs) out
