-- What the claims so far exclude, as one number a gap: one more than the innermost loop that excludes it. A loop around
-- the gap then has it excluded inside exactly if the number is above its own.
-- Main definitions: `excluded_in`, `Excludes`.
use Rattle.std.specs.Prelude.{◌≡◌, Bool, true, ◌&&◌, ◌||◌, not, List, ℕ, suc, eqb, ltb}
use Rattle.laws.specs.Choice.{is_in}
use Rattle.laws.specs.Entries.{at}
use Rattle.paper_nests.specs.Nests.{Nest}
use Rattle.paper_nests.specs.Loops.{is_do, owner_of, is_around}
use Rattle.paper_placements.specs.Placements.{loop_count}
use Rattle.argue_claims.specs.Arguments.{Known, known_out}

module _ (n : Nest) (key : List ℕ) where
  -- excluded inside loop d: barred, of a loop with count 0, or by a claim
  abbrev pub excluded_in : ℕ → List Known → ℕ → Bool
  excluded_in d ks g =
      is_in g n.barred ||
      ((not (eqb (owner_of n.points g) d) && eqb (loop_count n key (owner_of n.points g)) 0) ||
      known_out n key d ks g)

  -- the table says it of every loop and every gap of its range
  pub record Excludes (ks : List Known) (struck : List ℕ) : Type 0 where
    pub tells
        : (d g : ℕ)
        → is_do n.points d ≡ true
        → is_around n.points g d ≡ true
        → ltb (suc d) (at struck g) ≡ excluded_in d ks g
