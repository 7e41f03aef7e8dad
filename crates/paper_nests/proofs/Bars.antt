-- Barred gaps of a valid nest: gaps of the nest, and only where it has one loop.
-- Main statements: `bar_is_gap`, `bars_or_one_loop`, `bars_alone`.
use mathlib.Core.Path.{◌≡◌, refl}
use mathlib.Core.Bool.{true, false}
use mathlib.Core.List.{List, [], ◌∷◌}
use mathlib.Core.Logic.{◌⊎◌, inl, inr, ⊎_elim}
use Prim.Native.Nat.{ℕ, ◌<◌}
use lib.Dec.{ltb}
use lib.ListN.{length}
use borrow.Author.Tests.{ltb-true}
use Rattle.laws.specs.Choice.{is_in}
use Rattle.laws.proofs.Members.{in_cons}
use Rattle.laws.proofs.Tests.{never, never_both, and_true}
use Rattle.paper_nests.specs.Gaps.{is_gap}
use Rattle.paper_nests.specs.Ring.{one_loop}
use Rattle.paper_nests.specs.Valid.{is_bar, are_bars}

pub gap_within : (ps : List ℕ) (g : ℕ) → is_gap ps g ≡ true → (0 < g) × (g < length ps)
gap_within ps g h =
    let z = and_true (ltb 0 g) (ltb g (length ps)) h in
    (ltb-true 0 g z.0, ltb-true g (length ps) z.1)

module _ (ps : List ℕ) where
  pub bar_is_gap : (bs : List ℕ) → are_bars ps bs ≡ true → (g : ℕ) → is_in g bs ≡ true → is_gap ps g ≡ true
  bar_is_gap [] h g i = never i
  bar_is_gap (b ∷ bs) h g i =
      let a = and_true (is_bar ps b) (are_bars ps bs) h in
      ⊎_elim
      (λ (z : g ≡ b). rw z (and_true (is_gap ps b) (one_loop ps) a.0).0)
      (λ (z : is_in g bs ≡ true). bar_is_gap bs a.1 g z)
      (in_cons g b bs i)

  pub bars_or_one_loop : (bs : List ℕ) → are_bars ps bs ≡ true → (bs ≡ []) ⊎ (one_loop ps ≡ true)
  bars_or_one_loop [] h = inl refl
  bars_or_one_loop (b ∷ bs) h =
      inr (and_true (is_gap ps b) (one_loop ps) (and_true (is_bar ps b) (are_bars ps bs) h).0).1

  pub bars_alone : (bs : List ℕ) → are_bars ps bs ≡ true → one_loop ps ≡ false → bs ≡ []
  bars_alone bs h o =
      ⊎_elim (λ (z : bs ≡ []). z) (λ (z : one_loop ps ≡ true). never_both z o) (bars_or_one_loop bs h)
