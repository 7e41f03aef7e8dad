-- The end of a claim over tables: the most times that a gap was named, and what the claim excludes.
-- Main definitions: `larger`, `beyond_at`, `excludes_at`, `StrikingRoom`, `Struck`.
use Rattle.std.specs.Prelude.{◌≡◌, Bool, ◌&&◌, ◌||◌, not, List, ◌⊎◌, ℕ, suc, ◌≤◌, ◌<◌, eqb, ltb, leb, length}
use Rattle.laws.specs.Choice.{pick}
use Rattle.laws.specs.Entries.{at}
use Rattle.paper_nests.specs.Kinds.{POINTS}

abbrev pub larger : ℕ → ℕ → ℕ
larger a b = pick (leb a b) b a

-- the gap lies up to b where no a is given, or from a on where no b is
abbrev pub beyond_at : ℕ → ℕ → ℕ → Bool
beyond_at a b g = (eqb a 0 && leb g b) || (eqb b 0 && (ltb 0 a && leb a g))

-- a claim of loop d excludes the gap: by its a and b, or, where it is exact, as one that is not named the most times
abbrev pub excludes_at : ℕ → ℕ → Bool → ℕ → List ℕ → List ℕ → ℕ → ℕ → Bool
excludes_at a b exact most owners times d g =
    beyond_at a b g || (eqb (at owners g) d && (exact && not (eqb (at times g) most)))

pub record StrikingRoom (d e : ℕ) (owners times struck : List ℕ) : Type 0 where
  pub rises : d ≤ e
  pub ends : e < POINTS
  pub owners_long : length owners ≡ POINTS
  pub times_long : length times ≡ POINTS
  pub struck_long : length struck ≡ POINTS

-- each gap of d + 1 to e that is excluded has d, or a loop inside it, for the innermost that excludes it
pub record Struck (excluded : ℕ → Bool) (d e : ℕ) (old new : List ℕ) : Type 0 where
  pub long : length new ≡ length old
  pub inside : (g : ℕ) → d < g → g ≤ e → at new g ≡ pick (excluded g) (larger (at old g) (suc d)) (at old g)
  pub outside : (g : ℕ) → (g ≤ d) ⊎ (e < g) → at new g ≡ at old g
