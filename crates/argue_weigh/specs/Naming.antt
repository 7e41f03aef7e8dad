-- One step over tables: what is left of its set, and each gap of that named once more.
-- Main definitions: `left_at`, `fine_at`, `NamingRoom`, `Named`.
use Rattle.std.specs.Prelude.{◌≡◌, Bool, ◌&&◌, ◌||◌, not, List, ◌⊎◌, ℕ, suc, ◌≤◌, ◌<◌, eqb, ltb, leb, length}
use Rattle.laws.specs.Entries.{at}
use Rattle.paper_nests.specs.Kinds.{POINTS}
use Rattle.paper_placements.specs.Words.{holds}
use Rattle.argue_claims.specs.Arguments.{named}
use Rattle.argue_texts.specs.ArgumentTexts.{STEPS}

-- a gap of the set that no loop inside d excludes, where `struck` has one more than the innermost loop that excludes a
-- gap, and that is not gone
abbrev pub left_at : List ℕ → List ℕ → List ℕ → ℕ → ℕ → Bool
left_at set gone struck d g = holds set g && (leb (at struck g) (suc d) && not (holds gone g))

-- a gap of the set lies in d + 1 to e
abbrev pub within_at : List ℕ → ℕ → ℕ → ℕ → Bool
within_at set d e g = not (holds set g) || (ltb d g && leb g e)

-- and one that is left is d's own
abbrev pub lies_at : List ℕ → Bool → List ℕ → ℕ → ℕ → ℕ → Bool
lies_at set left owners d e g = within_at set d e g && (not left || eqb (at owners g) d)

abbrev pub fine_at : List ℕ → List ℕ → List ℕ → List ℕ → ℕ → ℕ → ℕ → Bool
fine_at set gone owners struck d e g = lies_at set (left_at set gone struck d g) owners d e g

-- the tables have an entry for every gap, and a gap was named at most as often as there were steps
pub record NamingRoom (last : ℕ) (owners struck times : List ℕ) : Type 0 where
  pub small : last < POINTS
  pub owners_long : length owners ≡ POINTS
  pub struck_long : length struck ≡ POINTS
  pub times_long : length times ≡ POINTS
  pub few : (g : ℕ) → at times g ≤ STEPS

-- what is left was named once more, of the gaps from 1 to `last`
pub record Named (left : ℕ → Bool) (last : ℕ) (old new : List ℕ) : Type 0 where
  pub long : length new ≡ length old
  pub more : (g : ℕ) → 0 < g → g ≤ last → at new g ≡ named left (at old) g
  pub rest : (g : ℕ) → (g ≤ 0) ⊎ (last < g) → at new g ≡ at old g
