-- Dependences and known claims by their numbers, and steps one behind the other.
-- Main statements: `among_or`, `dep_among`, `known_among`, `run_joined`, `run_fine`.
use mathlib.Core.Path.{◌≡◌, refl}
use mathlib.Core.Bool.{true}
use mathlib.Core.List.{List, [], ◌∷◌, ◌++◌}
use mathlib.Core.Logic.{◌⊎◌, inl, inr, ⊎_elim}
use Prim.Native.Nat.{ℕ, zero, suc, ◌<◌}
use native.Mathlib.Omega.{arith}
use lib.ListN.{length}
use Rattle.laws.specs.Members.{Among}
use Rattle.laws.proofs.Tests.{and_true}
use Rattle.paper_nests.specs.Nests.{Dep, Nest}
use Rattle.argue_claims.specs.Arguments.{Step, Claim, Known, Count, known_at, dep_at, step, run}

-- a member of two lists, one after the other, is one of either
pub among_or : {A : Type 0} (x : A) (xs ys : List A) → Among x (xs ++ ys) → Among x xs ⊎ Among x ys
among_or x [] ys h = inr h
among_or x (a ∷ xs) ys (inl h) = inl (inl h)
among_or x (a ∷ xs) ys (inr h) =
    ⊎_elim (λ (z : Among x xs). inl (inr z)) (λ (z : Among x ys). inr z) (among_or x xs ys h)

pub dep_among : (es : List Dep) (m : ℕ) → m < length es → Among (dep_at es m) es
dep_among [] m h = absurd (omega arith)
dep_among (e ∷ es) zero h = inl refl
dep_among (e ∷ es) (suc m) h = inr (dep_among es m (omega (arith, h)))

pub known_among : (ks : List Known) (m : ℕ) → m < length ks → Among (known_at ks m) ks
known_among [] m h = absurd (omega arith)
known_among (k ∷ ks) zero h = inl refl
known_among (k ∷ ks) (suc m) h = inr (known_among ks m (omega (arith, h)))

module _ (n : Nest) (key : List ℕ) (k : Claim) (ks : List Known) where
  pub run_joined : (a b : List Step) (x : Count) → run n key k ks (a ++ b) x ≡ run n key k ks b (run n key k ks a x)
  run_joined [] b x = refl
  run_joined (s ∷ a) b x = run_joined a b (step n key k ks s x)

  pub run_fine : (ss : List Step) (x : Count) → (run n key k ks ss x).fine ≡ true → x.fine ≡ true
  run_fine [] x f = f
  run_fine (s ∷ ss) x f = (and_true x.fine _ (run_fine ss (step n key k ks s x) f)).0
