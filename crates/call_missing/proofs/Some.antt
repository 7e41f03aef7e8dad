-- A test that holds of some member of a list, as a statement and back; the least such member.
-- Main statements: `some-in`, `in_some`, `some_not`, `not_some`, `least_in`.
use mathlib.Core.Path.{◌≡◌}
use mathlib.Core.Bool.{Bool, true, false}
use mathlib.Core.List.{List, [], ◌∷◌}
use mathlib.Core.Logic.{◌⊎◌, inl, inr, ⊎_elim}
use Prim.Native.Nat.{ℕ, ◌≤◌, ◌<◌}
use native.Mathlib.Omega.{arith}
use Rattle.laws.specs.Choice.{is_in}
use Rattle.laws.proofs.Tests.{test, never, never_both, false_by, or-true, or_left, or_right, le_or}
use Rattle.laws.proofs.Members.{in_here, in_later, in_cons}
use Rattle.call_missing.specs.Foreign.{some_in}

-- a member of which the test holds
pub record Member (passes : ℕ → Bool) (xs : List ℕ) : Type 0 where
  pub at : ℕ
  pub is-in : is_in at xs ≡ true
  pub passed : passes at ≡ true

-- the least of them
pub record Least (passes : ℕ → Bool) (xs : List ℕ) : Type 0 where
  pub at : ℕ
  pub is-in : is_in at xs ≡ true
  pub passed : passes at ≡ true
  pub least : (x : ℕ) → is_in x xs ≡ true → passes x ≡ true → at ≤ x

module _ (passes : ℕ → Bool) where
  pub some-in : (xs : List ℕ) → some_in passes xs ≡ true → Member passes xs
  some-in [] h = never h
  some-in (x ∷ xs) h = ⊎_elim
      (λ (z : passes x ≡ true). record { at = x; is-in = in_here x xs; passed = z })
      (λ (z : some_in passes xs ≡ true). later (some-in xs z))
      (or-true (passes x) (some_in passes xs) h)
    where
      later : Member passes xs → Member passes (x ∷ xs)
      later m = record { at = m.at; is-in = in_later m.at x xs m.is-in; passed = m.passed }

  pub in_some : (xs : List ℕ) (x : ℕ) → is_in x xs ≡ true → passes x ≡ true → some_in passes xs ≡ true
  in_some [] x h p = never h
  in_some (y ∷ ys) x h p = ⊎_elim
      (λ (z : x ≡ y). or_left (some_in passes ys) (rw z at p))
      (λ (z : is_in x ys ≡ true). or_right (passes y) (in_some ys x z p))
      (in_cons x y ys h)

  -- of no member
  pub some_not : (xs : List ℕ) → some_in passes xs ≡ false → (x : ℕ) → is_in x xs ≡ true → passes x ≡ false
  some_not xs h x m = false_by (λ z. never_both (in_some xs x m z) h)

  pub not_some : (xs : List ℕ) → ((x : ℕ) → is_in x xs ≡ true → passes x ≡ true → ⊥) → some_in passes xs ≡ false
  not_some xs h = false_by (λ z. let m = some-in xs z in h m.at m.is-in m.passed)

  -- the least member of which it holds
  pub least_in : (xs : List ℕ) → some_in passes xs ≡ true → Least passes xs
  least_in [] h = never h
  least_in (x ∷ xs) h = ⊎_elim
      (λ (z : some_in passes xs ≡ true). among (least_in xs z) (test (passes x)))
      (λ (z : some_in passes xs ≡ false). alone z)
      (test (some_in passes xs))
    where
      first : passes x ≡ true → ((y : ℕ) → is_in y xs ≡ true → passes y ≡ true → x ≤ y) → Least passes (x ∷ xs)
      first p l =
          record {
            at = x;
            is-in = in_here x xs;
            passed = p;
            least =
                λ y m q. ⊎_elim
                (λ (z : y ≡ x). omega arith)
                (λ (z : is_in y xs ≡ true). l y z q)
                (in_cons y x xs m);
          }

      rest : (m : Least passes xs) → (passes x ≡ true → m.at ≤ x) → Least passes (x ∷ xs)
      rest m l =
          record {
            at = m.at;
            is-in = in_later m.at x xs m.is-in;
            passed = m.passed;
            least =
                λ y k q. ⊎_elim
                (λ (z : y ≡ x). let w : m.at ≤ x = l (rw z at q) in omega arith)
                (λ (z : is_in y xs ≡ true). m.least y z q)
                (in_cons y x xs k);
          }

      among : (m : Least passes xs) → (passes x ≡ true) ⊎ (passes x ≡ false) → Least passes (x ∷ xs)
      among m (inl p) = ⊎_elim
          (λ (z : m.at ≤ x). rest m (λ _. z))
          (λ (z : x < m.at). first p (λ y k q. let w = m.least y k q in omega arith))
          (le_or m.at x)
      among m (inr p) = rest m (λ q. never_both q p)

      alone : some_in passes xs ≡ false → Least passes (x ∷ xs)
      alone z = ⊎_elim
          (λ (p : passes x ≡ true). first p (λ y k q. never_both (in_some xs y k q) z))
          (λ (p : some_in passes xs ≡ true). never_both p z)
          (or-true (passes x) (some_in passes xs) h)
