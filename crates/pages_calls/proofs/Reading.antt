-- Placement texts that calls read: what is read without a fault is what the page says that the text places.
-- Main statements: `read_places`, `places_read`, `not_read`.
use mathlib.Core.Path.{◌≡◌}
use mathlib.Core.Bool.{true}
use mathlib.Core.List.{List}
use Prim.Native.Nat.{ℕ, ◌≤◌}
use lib.ListN.{length}
use Rattle.paper_nests.proofs.Deps.{valid_is}
use Rattle.paper_texts.specs.PlacementTexts.{placed}
use Rattle.paper_texts.proofs.PlacedTexts.{placed_spelling, placed_spells}
use Rattle.desk.specs.declared.Desk as DD
use Rattle.desk.specs.Desks.{desk_in, IsMade}
use Rattle.desk.specs.Says.{read_in}
use Rattle.pages.specs.Demands.{Places}
use Rattle.pages.proofs.Placements.{nest_of}
use Rattle.pages.proofs.Texts.{placed_page, page_placed}
use Rattle.pages.proofs.Kept.{paper_on, flags_of}
use Rattle.pages_requests.proofs.Papers.{page_valid}

module _ (d : DD.Desk) (m : IsMade d) (loaded : d.loaded ≡ true) where
  pub points_few : length (paper_on d).points ≤ 256
  points_few = (valid_is (nest_of (paper_on d) (flags_of d)) (page_valid d m loaded)).few_points

  pub read_places : (t : List ℕ) → (read_in (desk_in d) t).number ≡ 0 → Places (paper_on d) t (read_in (desk_in d) t).gaps
  read_places t z =
      placed_page (paper_on d) t (read_in (desk_in d) t).gaps points_few
      (placed_spells (length (paper_on d).points) (paper_on d).barred t z)

  pub places_read : (t gs : List ℕ) → Places (paper_on d) t gs → read_in (desk_in d) t ≡ placed 0 0 gs
  places_read t gs p =
      (placed_spelling (length (paper_on d).points) (paper_on d).barred t gs points_few).1
      (page_placed (paper_on d) t gs p)

  pub not_read
      : (t : List ℕ) → ((gs : List ℕ) → Places (paper_on d) t gs → ⊥) → (read_in (desk_in d) t).number ≡ 0 → ⊥
  not_read t none z = none (read_in (desk_in d) t).gaps (read_places t z)
