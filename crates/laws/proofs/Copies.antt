-- An array of one value.
-- Main statements: `copies_at`, `copies_there`.
use mathlib.Core.Path.{◌≡◌, refl}
use mathlib.Core.List.{List, [], ◌∷◌}
use Prim.Native.Nat.{ℕ, zero, suc, ◌<◌}
use native.Mathlib.Omega.{arith}
use lib.ListN.{get_or}

unfoldable pub copies : {A : Type 0} → ℕ → A → List A
copies zero x = []
copies (suc k) x = x ∷ copies k x

-- it has the value at every place
pub copies_at : {A : Type 0} (k : ℕ) (x : A) (i : ℕ) → get_or (copies k x) i x ≡ x
unfolding copies
copies_at zero x i = refl
copies_at (suc k) x zero = refl
copies_at (suc k) x (suc i) = copies_at k x i

-- whatever stands for an entry beyond its end
pub copies_there : {A : Type 0} (k : ℕ) (x : A) (i : ℕ) (y : A) → i < k → get_or (copies k x) i y ≡ x
unfolding copies
copies_there zero x i y l = absurd (omega arith)
copies_there (suc k) x zero y l = refl
copies_there (suc k) x (suc i) y l = copies_there k x i y (omega arith)
