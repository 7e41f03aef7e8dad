-- The call: what the table of the counts asks of a desk with a nest, and that each count fits a byte.
-- Main definition: `Sat`. Main statements: `sat`, `few_counts`.
use mathlib.Core.Path.{◌≡◌, refl}
use mathlib.Core.Bool.{true}
use mathlib.Core.List.{List}
use Prim.Native.Nat.{ℕ, ◌≤◌}
use native.Mathlib.Omega.{arith}
use lib.ListN.{length}
use Rattle.paper_nests.specs.Kinds.{POINTS}
use Rattle.paper_nests.specs.Nests.{Nest}
use Rattle.paper_nests.specs.Valid.{is_shape}
use Rattle.paper_nests.specs.Stored.{nest_in}
use Rattle.paper_nests.proofs.Deps.{valid_is}
use Rattle.paper_placements.specs.Placements.{are_gaps}
use Rattle.paper_texts.proofs.Counting.{count_byte}
use Rattle.paper_counts.specs.Tables.{CountsAre}
use Rattle.desk_sitting.specs.Kept.{barriers}
use Rattle.desk.specs.declared.Desk as DD
use Rattle.desk.specs.Desks.{IsMade}
use Rattle.call_standing.specs.Says.{Few}

-- a desk with a nest: what the table of the counts asks of it
pub record Sat (d : DD.Desk) : Type 0 where
  pub shape : is_shape (nest_in d.nest).points ≡ true
  pub few : length (nest_in d.nest).points ≤ POINTS
  pub gaps_fit : are_gaps (nest_in d.nest) (barriers d.sitting) ≡ true

pub sat : (d : DD.Desk) → IsMade d → d.loaded ≡ true → Sat d
sat d m h =
    let v = valid_is (nest_in d.nest) (m.paper.valid h) in
    record { shape = v.shape; few = v.few_points; gaps_fit = m.kept.gaps_fit }

module _ (d : DD.Desk) where
  abbrev n : Nest
  n = nest_in d.nest

  module _ (table : List ℕ) (are : CountsAre n.points (barriers d.sitting) table) where
    pub few_counts : Sat d → Few table
    few_counts s i l =
        omega (arith, are n refl i l, count_byte n (barriers d.sitting) i s.few s.gaps_fit)
