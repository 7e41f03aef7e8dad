-- A list of numbers after one store.
-- Main statement: `stored`.
use mathlib.Core.Path.{◌≡◌, ◌∙◌}
use mathlib.Core.List.{List}
use mathlib.Core.Logic.{⊎_elim}
use Prim.Native.Nat.{ℕ, ◌<◌}
use lib.ListN.{length, get_or, set}
use lib.Seq.{get_or-set_same, get_or-set_other}
use Rattle.laws.proofs.Tests.{eq_or}

-- entry j after x was stored at i, by cases on whether that is the entry
pub stored :
    (xs : List ℕ) (i x j y : ℕ) → i < length xs → (j ≡ i → x ≡ y) → ((j ≡ i → ⊥) → get_or xs j 0 ≡ y) →
    get_or (set xs i x) j 0 ≡ y
stored xs i x j y h new old = ⊎_elim
    (λ (e : j ≡ i). rw e (get_or-set_same xs i x 0 h) ∙ new e)
    (λ (e : j ≡ i → ⊥). get_or-set_other xs i j x 0 e ∙ old e)
    (eq_or j i)
