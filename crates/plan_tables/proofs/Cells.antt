-- The cells of a table with a row for each height: within the table, and one for each loop and gap of its range.
-- Main definition: `Tall`. Main statements: `height_most`, `child_height`, `cell_fits`, `same_cell`.
use mathlib.Core.Path.{◌≡◌}
use mathlib.Core.Bool.{true}
use mathlib.Core.List.{List}
use Prim.Native.Nat.{ℕ, suc, ◌+◌, ◌≤◌, ◌<◌}
use native.Mathlib.Omega.{arith}
use Rattle.laws.specs.Entries.{at}
use Rattle.laws.proofs.Tests.{le_by}
use Rattle.paper_nests.specs.Kinds.{DEPTH}
use Rattle.paper_nests.specs.Loops.{is_do, end_of, owner_of}
use Rattle.paper_nests.proofs.Levels.{lev, point_in}
use Rattle.paper_nests.proofs.Loops.{range_above, end_there, owner_is_do, owner_lower}
use Rattle.plan_tables.specs.Charts.{ROW, TABLE, cell, Points, HeightsAre}

-- the points of a nest, and the height of each loop
pub record Tall (ps heights : List ℕ) : Type 0 where
  pub points : Points ps
  pub heights_are : HeightsAre ps heights

module _ {ps heights : List ℕ} (w : Tall ps heights) where
  height_level : (d : ℕ) → is_do ps d ≡ true → at heights d + lev ps d ≡ DEPTH
  unfolding lev
  height_level d h = w.heights_are d h

  pub height_most : (d : ℕ) → is_do ps d ≡ true → at heights d ≤ DEPTH
  height_most d h = omega (arith, height_level d h)

  pub cell_fits : (d q : ℕ) → is_do ps d ≡ true → q < ROW → cell heights d q < TABLE
  cell_fits d q h l = omega (arith, height_most d h)

  -- a loop's row is right above the row of the loops directly inside it
  pub child_height : (x : ℕ) → is_do ps x ≡ true → 0 < x → at heights (owner_of ps x) ≡ suc (at heights x)
  child_height x h l =
      let there = point_in ps x 0 h in
      let k = owner_is_do ps w.points.shape x l there in
      omega (arith, owner_lower ps w.points.shape x l there, height_level x h, height_level (owner_of ps x) k)

  -- two loops of one height are apart
  same_height :
      (d x q : ℕ) → is_do ps d ≡ true → is_do ps x ≡ true → at heights d ≡ at heights x → q ≤ end_of ps d → x < q →
      x ≤ d
  same_height d x q h k e l m =
      le_by λ z.
      omega (arith, range_above ps w.points.shape d x h z (omega arith), height_level d h, height_level x k)

  pub same_cell :
      (d q x r : ℕ) → is_do ps d ≡ true → d < q → q ≤ end_of ps d → is_do ps x ≡ true → x < r → r ≤ end_of ps x →
      cell heights d q ≡ cell heights x r → (d ≡ x) × (q ≡ r)
  same_cell d q x r h a b k l m e =
      let u : q < 256 = omega (arith, end_there ps w.points.shape d h, w.points.few) in
      let v : r < 256 = omega (arith, end_there ps w.points.shape x k, w.points.few) in
      let y : q ≡ r = omega arith in
      let z : at heights d ≡ at heights x = omega arith in
      (omega (arith, same_height d x q h k z b (omega arith), same_height x d q k h (omega arith) (omega arith) a), y)
