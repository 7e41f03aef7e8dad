-- Members and places of lists.
use mathlib.Core.Path.{◌≡◌, sym}
use mathlib.Core.Bool.{true}
use mathlib.Core.List.{List, [], ◌∷◌}
use mathlib.Core.Logic.{◌⊎◌, inl, inr}
use Prim.Native.Nat.{ℕ, zero, suc, ◌<◌}
use native.Mathlib.Omega.{arith}
use lib.Dec.{eqb}
use lib.ListN.{length, get_or}
use borrow.Author.Tests.{eqb-true, eq-eqb}
use Rattle.laws.specs.Choice.{is_in}
use Rattle.laws.specs.Members.{Among}
use Rattle.laws.proofs.Tests.{never, or-true, or_left, or_right}
use Rattle.pages.specs.Demands.{At, In}

pub at_in : {A : Type 0} → (xs : List A) (i : ℕ) (x : A) → At xs i x → i < length xs
at_in [] i x h = absurd h
at_in (y ∷ ys) zero x h = omega arith
at_in (y ∷ ys) (suc i) x h = omega (arith, at_in ys i x h)

pub at_is : {A : Type 0} → (xs : List A) (i : ℕ) (x e : A) → At xs i x → get_or xs i e ≡ x
at_is [] i x e h = absurd h
at_is (y ∷ ys) zero x e h = h
at_is (y ∷ ys) (suc i) x e h = at_is ys i x e h

pub is_at : {A : Type 0} → (xs : List A) (i : ℕ) (x e : A) → i < length xs → get_or xs i e ≡ x → At xs i x
is_at [] i x e l h = absurd (omega arith)
is_at (y ∷ ys) zero x e l h = h
is_at (y ∷ ys) (suc i) x e l h = is_at ys i x e (omega arith) h

pub in_is : (g : ℕ) (xs : List ℕ) (i : ℕ) → At xs i g → is_in g xs ≡ true
in_is g [] i h = absurd h
in_is g (y ∷ ys) zero h = or_left (is_in g ys) (eq-eqb g y (sym h))
in_is g (y ∷ ys) (suc i) h = or_right (eqb g y) (in_is g ys i h)

pub is-in : (g : ℕ) (xs : List ℕ) → is_in g xs ≡ true → In g xs
is-in g [] h = never h
is-in g (y ∷ ys) h = go (or-true (eqb g y) (is_in g ys) h) (is-in g ys)
  where
    go : (eqb g y ≡ true) ⊎ (is_in g ys ≡ true) → (is_in g ys ≡ true → In g ys) → In g (y ∷ ys)
    go (inl z) r = (0, sym (eqb-true g y z))
    go (inr z) r = let q = r z in (suc q.0, q.1)

pub in_among : {A : Type 0} → (x : A) (xs : List A) (i : ℕ) → At xs i x → Among x xs
in_among x [] i h = absurd h
in_among x (y ∷ ys) zero h = inl (sym h)
in_among x (y ∷ ys) (suc i) h = inr (in_among x ys i h)

pub among_in : {A : Type 0} → (x : A) (xs : List A) → Among x xs → In x xs
among_in x [] h = absurd h
among_in x (y ∷ ys) (inl h) = (0, sym h)
among_in x (y ∷ ys) (inr h) = let q = among_in x ys h in (suc q.0, q.1)
