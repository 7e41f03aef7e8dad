-- Loops inside loops: how they are nested, and induction from the inner loops outwards.
-- Main statements: `inside_inside`, `inside_outermost`, `from_inside`.
use mathlib.Core.Path.{◌≡◌}
use mathlib.Core.Bool.{true}
use mathlib.Core.List.{List}
use mathlib.Core.Logic.{◌⊎◌, inl, inr, ⊎_elim}
use Prim.Native.Nat.{ℕ, zero, suc, ◌+◌, ◌≤◌, ◌<◌}
use native.Mathlib.Omega.{arith}
use lib.ListN.{length}
use Rattle.laws.proofs.Tests.{eq_or}
use Rattle.paper_nests.specs.Loops.{is_do, end_of, in_loop}
use Rattle.paper_nests.specs.Valid.{is_shape}
use Rattle.paper_nests.proofs.Loops.{inside_lies, inside_by, end-after, end_there, end_in_outermost, nested}

module _ (ps : List ℕ) (shape : is_shape ps ≡ true) where
  pub inside_ends : (d x : ℕ) → is_do ps d ≡ true → is_do ps x ≡ true → in_loop ps d x ≡ true → end_of ps x < end_of ps d
  inside_ends d x h k i =
      let z = inside_lies ps d x i in
      nested ps shape d x h k z.0 (omega (arith, z.1))

  pub inside_inside :
      (d x y : ℕ) → is_do ps d ≡ true → is_do ps x ≡ true → in_loop ps d x ≡ true → in_loop ps x y ≡ true →
      in_loop ps d y ≡ true
  inside_inside d x y h k i j =
      let z = inside_lies ps d x i in
      let w = inside_lies ps x y j in
      inside_by ps d y (omega arith) (omega (arith, inside_ends d x h k i))

  -- every loop is the outermost or inside it
  pub inside_outermost : (x : ℕ) → is_do ps x ≡ true → (x ≡ 0) ⊎ (in_loop ps 0 x ≡ true)
  inside_outermost x h = ⊎_elim
      (λ (z : x ≡ 0). inl z)
      (λ (z : x ≡ 0 → ⊥).
      let l : x < end_of ps 0 = omega (arith, end-after ps shape x h, end_in_outermost ps shape x h) in
      inr (inside_by ps 0 x (omega arith) l))
      (eq_or x 0)

  -- what holds of a loop wherever it holds of all loops inside it holds of every loop
  module _ (C : ℕ → Type 0)
      (step : (d : ℕ) → is_do ps d ≡ true → ((x : ℕ) → is_do ps x ≡ true → in_loop ps d x ≡ true → C x) → C d) where
    within : (k d : ℕ) → is_do ps d ≡ true → end_of ps d ≤ d + k → C d
    within zero d h l = absurd (omega (arith, end-after ps shape d h))
    within (suc k) d h l =
        step d h (λ x m i. within k x m (omega (arith, inside_lies ps d x i, inside_ends d x h m i)))

    pub from_inside : (d : ℕ) → is_do ps d ≡ true → C d
    from_inside d h = within (length ps) d h (omega (arith, end_there ps shape d h))
