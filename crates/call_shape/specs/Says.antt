-- What the call promises.
-- Main definitions: `Tells`, `Blank`, `ShapeSays`.
use Rattle.std.specs.Prelude.{◌≡◌, false, List, ℕ}
use Rattle.laws.specs.Entries.{at}
use Rattle.desk.specs.declared.Desk as DD
use Rattle.desk.specs.Desks.{desk_in, state_fault}
use Rattle.call_shape.specs.declared.Shape as DS
use Rattle.call_shape.specs.Shapes.{owner_at, end_at, depth_at}

-- the reply with the shape of these points, in every place
pub record Tells (ps : List ℕ) (r : DS.Shape) : Type 0 where
  pub number_is : r.number ≡ 0
  pub line_is : r.line ≡ 0
  pub owners_are : (g : ℕ) → at r.owners g ≡ owner_at ps g
  pub ends_are : (d : ℕ) → at r.ends d ≡ end_at ps d
  pub depths_are : (p : ℕ) → at r.depths p ≡ depth_at ps p

-- the reply that tells nothing
pub record Blank (number : ℕ) (r : DS.Shape) : Type 0 where
  pub number_is : r.number ≡ number
  pub line_is : r.line ≡ 0
  pub no_owners : (g : ℕ) → at r.owners g ≡ 0
  pub no_ends : (d : ℕ) → at r.ends d ≡ 0
  pub no_depths : (p : ℕ) → at r.depths p ≡ 0

-- 10; then the loop of every gap, the ENDDO of every loop, how many loops every point is inside; 0 in every other
-- place, and in every place where there is no nest, as then there is no point; the call changes nothing
pub record ShapeSays (d : DD.Desk) (r : DS.Shape) : Type 0 where
  pub number_is : r.number ≡ state_fault false (desk_in d)
  pub line_is : r.line ≡ 0
  pub owners_are : (g : ℕ) → at r.owners g ≡ owner_at (desk_in d).nest_is.points g
  pub ends_are : (l : ℕ) → at r.ends l ≡ end_at (desk_in d).nest_is.points l
  pub depths_are : (p : ℕ) → at r.depths p ≡ depth_at (desk_in d).nest_is.points p
