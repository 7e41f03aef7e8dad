-- Tests as facts: how a proof goes by cases on a test, and turns tests into statements and back.
-- Main statements: `test`, `le_or`, `eq_or`, `lt_by`, `le_by`, `bool_by`, `and_true`, `and_intro`, `or-true`, `never`.
use mathlib.Core.Path.{◌≡◌, refl, sym, ◌∙◌}
use mathlib.Core.Bool.{Bool, true, false, ◌&&◌, ◌||◌}
use mathlib.Core.Logic.{◌⊎◌, inl, inr, ⊎_elim}
use Prim.Native.Nat.{ℕ, ◌≤◌, ◌<◌}
use native.Mathlib.Omega.{arith}
use lib.Dec.{eqb, leb}
use borrow.Author.Tests.{leb-true, leb-false, eqb-true, eqb-false}

-- a test holds or fails
pub test : (b : Bool) → (b ≡ true) ⊎ (b ≡ false)
test true = inl refl
test false = inr refl

-- a test cannot do both
pub never : {A : Type 0} → false ≡ true → A
never e =
    let z : ◌≡◌ {A = ℕ} 0 1 = cc e in
    absurd (omega arith)

pub never_both : {A : Type 0} {b : Bool} → b ≡ true → b ≡ false → A
never_both p q = never (sym q ∙ p)

-- numbers compared: one of the two holds
pub le_or : (a b : ℕ) → (a ≤ b) ⊎ (b < a)
le_or a b =
    ⊎_elim
    (λ (z : leb a b ≡ true). inl (leb-true a b z))
    (λ (z : leb a b ≡ false). inr (leb-false a b z))
    (test (leb a b))

pub eq_or : (a b : ℕ) → (a ≡ b) ⊎ ((a ≡ b) → ⊥)
eq_or a b =
    ⊎_elim
    (λ (z : eqb a b ≡ true). inl (eqb-true a b z))
    (λ (z : eqb a b ≡ false). inr (eqb-false a b z))
    (test (eqb a b))

-- by contradiction
pub lt_by : {a b : ℕ} → (b ≤ a → ⊥) → a < b
lt_by {a} {b} h = ⊎_elim (λ (z : b ≤ a). absurd (h z)) (λ (z : a < b). z) (le_or b a)

pub le_by : {a b : ℕ} → (b < a → ⊥) → a ≤ b
le_by {a} {b} h = ⊎_elim (λ (z : a ≤ b). z) (λ (z : b < a). absurd (h z)) (le_or a b)

pub eq_by : {a b : ℕ} → ((a ≡ b → ⊥) → ⊥) → a ≡ b
eq_by {a} {b} h = ⊎_elim (λ (z : a ≡ b). z) (λ (z : a ≡ b → ⊥). absurd (h z)) (eq_or a b)

pub true_by : {b : Bool} → (b ≡ false → ⊥) → b ≡ true
true_by {b} h = ⊎_elim (λ (z : b ≡ true). z) (λ (z : b ≡ false). absurd (h z)) (test b)

pub false_by : {b : Bool} → (b ≡ true → ⊥) → b ≡ false
false_by {b} h = ⊎_elim (λ (z : b ≡ true). absurd (h z)) (λ (z : b ≡ false). z) (test b)

-- two tests that imply each other are equal
pub bool_by : (a b : Bool) → (a ≡ true → b ≡ true) → (b ≡ true → a ≡ true) → a ≡ b
bool_by true true f g = refl
bool_by false false f g = refl
bool_by true false f g = sym (f refl)
bool_by false true f g = g refl

-- and, or, not
pub and_intro : {a b : Bool} → a ≡ true → b ≡ true → (a && b) ≡ true
and_intro {a} {b} p q = rw (p, q)

pub and_true : (a b : Bool) → (a && b) ≡ true → (a ≡ true) × (b ≡ true)
and_true true true h = (refl, refl)
and_true true false h = never h
and_true false true h = never h
and_true false false h = never h

pub and_false : (a b : Bool) → (a && b) ≡ false → (a ≡ false) ⊎ (b ≡ false)
and_false true true h = never (sym h)
and_false true false h = inr refl
and_false false true h = inl refl
and_false false false h = inl refl

pub or-true : (a b : Bool) → (a || b) ≡ true → (a ≡ true) ⊎ (b ≡ true)
or-true true b h = inl refl
or-true false true h = inr refl
or-true false false h = never h

pub or_false : (a b : Bool) → (a || b) ≡ false → (a ≡ false) × (b ≡ false)
or_false true true h = never (sym h)
or_false true false h = never (sym h)
or_false false true h = never (sym h)
or_false false false h = (refl, refl)

pub or_left : {a : Bool} (b : Bool) → a ≡ true → (a || b) ≡ true
or_left {a} true p = rw p
or_left {a} false p = rw p

pub or_right : (a : Bool) {b : Bool} → b ≡ true → (a || b) ≡ true
or_right true p = refl
or_right false p = p
