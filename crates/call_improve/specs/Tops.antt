-- The highest barrier that cuts a dependence, and the dependences in chains by it.
-- Main definitions: `top_of`, `top_at`, `HighestSays`, `NextOf`, `Chained`.
use Rattle.std.specs.Prelude.{◌≡◌, true, List, [], ◌∷◌, ℕ, zero, suc, ◌≤◌, ◌<◌, length, get_or}
use Rattle.laws.specs.Choice.{pick, when}
use Rattle.paper_nests.specs.declared.Dependence as DE
use Rattle.paper_nests.specs.Kinds.{POINTS}
use Rattle.paper_nests.specs.Nests.{Dep, Nest}
use Rattle.paper_nests.specs.Gaps.{has_gap}
use Rattle.paper_nests.specs.Stored.{dep_in}
use Rattle.paper_placements.specs.Placements.{cuts, are_gaps_from}
use Rattle.paper_placements.specs.Words.{gaps_in}
use Rattle.paper_gaps.specs.Lies.{EndsIn}
use Rattle.call_improve.specs.Places.{HasLatest}

-- the highest gap of a rising list that cuts the dependence; 0 for none
abbrev pub top_of : List ℕ → Dep → List ℕ → ℕ
top_of ps e [] = 0
top_of ps e (g ∷ gs) = pick (cuts ps e gs) (top_of ps e gs) (when (has_gap ps e g) g)

-- that of dependence i
abbrev pub top_at : List ℕ → List Dep → List ℕ → ℕ → ℕ
top_at ps [] x i = 0
top_at ps (e ∷ es) x zero = top_of ps e x
top_at ps (e ∷ es) x (suc i) = top_at ps es x i

-- r is the highest barrier that cuts the dependence, of any words that the table tells and that cut it
abbrev pub HighestSays : List ℕ → ℕ → DE.Dependence → ℕ → Type 0
HighestSays table end e r =
    (ps ws : List ℕ) →
    HasLatest ws table →
    EndsIn ps e end →
    are_gaps_from 0 (length ps) (gaps_in ws) ≡ true →
    cuts ps (dep_in e) (gaps_in ws) ≡ true →
    r ≡ top_of ps (dep_in e) (gaps_in ws)

-- r is the lowest place from lo on at which the top is h; `many` for none
pub record NextOf (top : ℕ → ℕ) (many lo h r : ℕ) : Type 0 where
  pub fits : r ≤ many
  pub found : r < many → (lo ≤ r) × (top r ≡ h)
  pub none : (j : ℕ) → lo ≤ j → j < r → (top j ≡ h → ⊥)

-- the dependences in chains by the highest barrier of x that cuts them: the first of each chain, and the next after
-- each dependence
pub record Chained (n : Nest) (x first next : List ℕ) : Type 0 where
  pub starts
      : (h : ℕ)
      → h < POINTS
      → NextOf (top_at n.points n.deps x) (length n.deps) 0 h (get_or first h 0)
  pub goes-on
      : (i : ℕ)
      → i < length n.deps
      → NextOf (top_at n.points n.deps x) (length n.deps) (suc i) (top_at n.points n.deps x i)
      (get_or next i 0)
