-- Heights of loops, and cells of tables: a loop inside another has a lower height, and so another row.
-- Main statements: `height_low`, `height_high`, `child_height`, `inner_height`, `kept_columns`, `kept_row`.
use mathlib.Core.Path.{◌≡◌, ap}
use mathlib.Core.Bool.{true}
use mathlib.Core.List.{List}
use mathlib.Core.Logic.{⊎_elim}
use Prim.Native.Nat.{ℕ, suc, ◌+◌, ◌-◌, ◌*◌, ◌≤◌, ◌<◌}
use native.Mathlib.Omega.{arith}
use Rattle.laws.proofs.Tests.{le_or, eq_or}
use Rattle.paper_nests.specs.Kinds.{DEPTH}
use Rattle.paper_nests.specs.Loops.{is_do, end_of, owner_of}
use Rattle.paper_nests.specs.Valid.{is_shape}
use Rattle.paper_nests.proofs.Levels.{lev, lev_depth, lev_up, lev_deep, point_in}
use Rattle.paper_nests.proofs.Loops.{range_above, owner_lower}
use Rattle.plan_sweeps.specs.Listed.{row}
use Rattle.plan_starts.specs.Grounds.{Kept}
use Rattle.plan_settle.specs.Settled.{HasHeight, KeptColumns}

module _ (ps : List ℕ) where
  level : (d h : ℕ) → HasHeight ps d h → h + lev ps d ≡ DEPTH
  level d h e = rw (lev_depth ps d) e

  of_level : (d h : ℕ) → h + lev ps d ≡ DEPTH → HasHeight ps d h
  of_level d h e = rw (lev_depth ps d) at e

  pub height_high : (d h : ℕ) → HasHeight ps d h → h ≤ DEPTH
  height_high d h e = omega (arith, level d h e)

  module _ (shape : is_shape ps ≡ true) where
    pub height_low : (d h : ℕ) → is_do ps d ≡ true → HasHeight ps d h → 0 < h
    height_low d h i e = omega (arith, level d h e, lev_up ps d i, lev_deep ps shape (suc d))

    pub child_height : (d i h : ℕ) → is_do ps d ≡ true → is_do ps i ≡ true → d < i → owner_of ps i ≡ d →
        HasHeight ps d h → HasHeight ps i (h - 1)
    child_height d i h a b l o e =
        let z : suc (lev ps d) ≡ lev ps i = rw o at (owner_lower ps shape i (omega arith) (point_in ps i 0 b)) in
        of_level i (h - 1) (omega (arith, level d h e, height_low d h a e))

    pub inner_height : (d l h k : ℕ) → is_do ps d ≡ true → d < l → l ≤ end_of ps d → HasHeight ps d h →
        HasHeight ps l k → k < h
    inner_height d l h k a b c e f = omega (arith, level d h e, level l k f, range_above ps shape d l a b c)

-- what is written in one row leaves the other columns and the other rows
module _ (xs xs' : List ℕ) (d e h : ℕ) (narrow : e < 256) (kept : Kept xs xs' (h * 256 + d) (h * 256 + e)) where
  pub kept_columns : KeptColumns xs xs' d e
  kept_columns r q b o = kept (r * 256 + q) outside
    where
      outside : h * 256 + d < r * 256 + q → h * 256 + e < r * 256 + q
      outside z = ⊎_elim
          (λ (a : r ≤ h). ⊎_elim
          (λ (c : r ≡ h).
          let y : e < q = o (omega (arith, ap (λ (x : ℕ). x * 256) c)) in
          omega (arith, ap (λ (x : ℕ). x * 256) c))
          (λ (c : r ≡ h → ⊥). absurd (omega arith))
          (eq_or r h))
          (λ (a : h < r). omega arith)
          (le_or r h)

  pub kept_row : (k q : ℕ) → k < h → q < 256 → row xs' (k * 256) q ≡ row xs (k * 256) q
  kept_row k q a b = kept (k * 256 + q) (λ z. absurd (omega arith))
