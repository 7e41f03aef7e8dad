-- Members of lists, and lists gathered over a run of numbers.
-- Main statements: `no_members`, `among_drop`, `among_front`, `among_back`, `in_here`, `in_later`, `in_cons`,
-- `each_of`, `every_by`, `in_gathered`, `gathered_in`, `gathered_before`, `every-below`.
use mathlib.Core.Path.{◌≡◌, refl, sym, subst}
use mathlib.Core.Bool.{Bool, true, false, ◌&&◌}
use mathlib.Core.List.{List, [], ◌∷◌, ◌++◌}
use mathlib.Core.Logic.{◌⊎◌, inl, inr, ⊎_elim}
use Prim.Native.Nat.{ℕ, zero, suc, ◌+◌, ◌≤◌, ◌<◌}
use native.Mathlib.Omega.{arith}
use lib.Dec.{eqb}
use lib.ListN.{length, drop}
use borrow.Author.Tests.{eqb-true, eq-eqb}
use Rattle.laws.specs.Choice.{pick, is_in}
use Rattle.laws.specs.Members.{Among}
use Rattle.laws.proofs.Tests.{never, never_both, and_intro, and_true, or_left, or_right, or-true, eq_or}

-- a list without members
pub no_members : {A : Type 0} (xs : List A) → length xs ≤ 0 → xs ≡ []
no_members [] l = refl
no_members (x ∷ xs) l = absurd (omega arith)

-- what stands in front of the rest of a list is one of the list
pub among_drop : {A : Type 0} (x : A) (ys zs : List A) (i : ℕ) → drop i ys ≡ x ∷ zs → Among x ys
among_drop x [] zs zero h = let z : ◌≡◌ {A = ℕ} 0 1 = cc h in absurd (omega arith)
among_drop x [] zs (suc i) h = let z : ◌≡◌ {A = ℕ} 0 1 = cc h in absurd (omega arith)
among_drop x (y ∷ ys) zs zero h = inl (cc h)
among_drop x (y ∷ ys) zs (suc i) h = inr (among_drop x ys zs i h)

-- a member of one of two lists is one of both, one after the other
pub among_front : {A : Type 0} (x : A) (ys zs : List A) → Among x ys → Among x (ys ++ zs)
among_front x [] zs a = absurd a
among_front x (y ∷ ys) zs (inl e) = inl e
among_front x (y ∷ ys) zs (inr a) = inr (among_front x ys zs a)

pub among_back : {A : Type 0} (x : A) (ys zs : List A) → Among x zs → Among x (ys ++ zs)
among_back x [] zs a = a
among_back x (y ∷ ys) zs a = inr (among_back x ys zs a)

pub in_here : (x : ℕ) (xs : List ℕ) → is_in x (x ∷ xs) ≡ true
in_here x xs = or_left (is_in x xs) (eq-eqb x x refl)

pub in_later : (x y : ℕ) (xs : List ℕ) → is_in x xs ≡ true → is_in x (y ∷ xs) ≡ true
in_later x y xs h = or_right (eqb x y) h

pub in_cons : (x y : ℕ) (xs : List ℕ) → is_in x (y ∷ xs) ≡ true → (x ≡ y) ⊎ (is_in x xs ≡ true)
in_cons x y xs h =
    ⊎_elim
    (λ (z : eqb x y ≡ true). inl (eqb-true x y z))
    (λ (z : is_in x xs ≡ true). inr z)
    (or-true (eqb x y) (is_in x xs) h)

-- a test that holds of every member, computed
abbrev pub every_in : (ℕ → Bool) → List ℕ → Bool
every_in passes [] = true
every_in passes (x ∷ xs) = passes x && every_in passes xs

module _ (passes : ℕ → Bool) where
  pub each_of : (xs : List ℕ) → every_in passes xs ≡ true → (x : ℕ) → is_in x xs ≡ true → passes x ≡ true
  each_of [] e x h = never h
  each_of (y ∷ ys) e x h =
      let z = and_true (passes y) (every_in passes ys) e in
      ⊎_elim (λ (q : x ≡ y). rw q z.0) (λ (q : is_in x ys ≡ true). each_of ys z.1 x q) (in_cons x y ys h)

  pub every_by : (xs : List ℕ) → ((x : ℕ) → is_in x xs ≡ true → passes x ≡ true) → every_in passes xs ≡ true
  every_by [] h = refl
  every_by (y ∷ ys) h = and_intro (h y (in_here y ys)) (every_by ys (λ x k. h x (in_later x y ys k)))

-- the values of the f numbers from i on that pass the test, in rising order of the numbers
abbrev pub gather : (ℕ → Bool) → (ℕ → ℕ) → ℕ → ℕ → List ℕ
gather passes value zero i = []
gather passes value (suc f) i = pick (passes i) (value i ∷ []) [] ++ gather passes value f (suc i)

-- where a member comes from
pub record From (passes : ℕ → Bool) (value : ℕ → ℕ) (f i x : ℕ) : Type 0 where
  pub at : ℕ
  pub low : i ≤ at
  pub high : at < i + f
  pub passed : passes at ≡ true
  pub is : value at ≡ x

module _ (passes : ℕ → Bool) (value : ℕ → ℕ) where
  pub in_gathered : (f i x : ℕ) → is_in x (gather passes value f i) ≡ true → From passes value f i x
  in_gathered zero i x h = never h
  in_gathered (suc f) i x h = go (passes i) refl h (in_gathered f (suc i) x)
    where
      rest : List ℕ
      rest = gather passes value f (suc i)

      later : From passes value f (suc i) x → From passes value (suc f) i x
      later r = record { at = r.at; low = omega arith; high = omega arith; passed = r.passed; is = r.is }

      go :
          (t : Bool) → passes i ≡ t → is_in x (pick t (value i ∷ []) [] ++ rest) ≡ true →
          (is_in x rest ≡ true → From passes value f (suc i) x) → From passes value (suc f) i x
      go true e k r = ⊎_elim
          (λ (z : x ≡ value i). record { at = i; low = omega arith; high = omega arith; passed = e; is = cc })
          (λ (z : is_in x rest ≡ true). later (r z))
          (in_cons x (value i) rest k)
      go false e k r = later (r k)

  pub gathered_in :
      (f i k : ℕ) → i ≤ k → k < i + f → passes k ≡ true → is_in (value k) (gather passes value f i) ≡ true
  gathered_in zero i k l h p = absurd (omega arith)
  gathered_in (suc f) i k l h p = ⊎_elim
      (λ (z : i ≡ k). now z)
      (λ (z : i ≡ k → ⊥). later (passes i) (gathered_in f (suc i) k (omega arith) (omega arith) p))
      (eq_or i k)
    where
      rest : List ℕ
      rest = gather passes value f (suc i)

      now : i ≡ k → is_in (value k) (pick (passes i) (value i ∷ []) [] ++ rest) ≡ true
      now z = rw (z, p) (in_here (value k) (gather passes value f (suc k)))

      later : (t : Bool) → is_in (value k) rest ≡ true → is_in (value k) (pick t (value i ∷ []) [] ++ rest) ≡ true
      later true r = in_later (value k) (value i) rest r
      later false r = r

-- where a list that is gathered is split at v: v's number, and what passes at lower numbers stands before v
pub record SplitAt (passes : ℕ → Bool) (value : ℕ → ℕ) (f i v : ℕ) (before : List ℕ) : Type 0 where
  pub at : ℕ
  pub low : i ≤ at
  pub high : at < i + f
  pub passed : passes at ≡ true
  pub is : value at ≡ v
  pub earlier : (j : ℕ) → i ≤ j → j < at → passes j ≡ true → is_in (value j) before ≡ true

module _ (passes : ℕ → Bool) (value : ℕ → ℕ) (v : ℕ) (ys : List ℕ) where
  split_now : (f i : ℕ) → passes i ≡ true → value i ≡ v → SplitAt passes value (suc f) i v []
  split_now f i p e =
      record {
        at = i;
        low = omega arith;
        high = omega arith;
        passed = p;
        is = e;
        earlier = λ j l h q. absurd (omega arith);
      }

  split_later :
      (f i : ℕ) (xs zs : List ℕ) → (passes i ≡ true → is_in (value i) zs ≡ true) →
      ((x : ℕ) → is_in x xs ≡ true → is_in x zs ≡ true) → SplitAt passes value f (suc i) v xs →
      SplitAt passes value (suc f) i v zs
  split_later f i xs zs first more s =
      record {
        at = s.at;
        low = omega arith;
        high = omega arith;
        passed = s.passed;
        is = s.is;
        earlier = earlier;
      }
    where
      earlier : (j : ℕ) → i ≤ j → j < s.at → passes j ≡ true → is_in (value j) zs ≡ true
      earlier j l h q = ⊎_elim
          (λ (z : i ≡ j). rw (← z) (first (rw (← z) at q)))
          (λ (z : i ≡ j → ⊥). more (value j) (s.earlier j (omega arith) h q))
          (eq_or i j)

  pub gathered_before :
      (f i : ℕ) (xs : List ℕ) → gather passes value f i ≡ xs ++ (v ∷ ys) → SplitAt passes value f i v xs
  gathered_before zero i [] e = absurd (let z : ◌≡◌ {A = ℕ} 0 1 = cc in omega arith)
  gathered_before zero i (x ∷ xs) e = absurd (let z : ◌≡◌ {A = ℕ} 0 1 = cc in omega arith)
  gathered_before (suc f) i xs e = go (passes i) refl xs e (gathered_before f (suc i))
    where
      rest : List ℕ
      rest = gather passes value f (suc i)

      go :
          (t : Bool) → passes i ≡ t → (zs : List ℕ) → pick t (value i ∷ []) [] ++ rest ≡ zs ++ (v ∷ ys) →
          ((ws : List ℕ) → rest ≡ ws ++ (v ∷ ys) → SplitAt passes value f (suc i) v ws) →
          SplitAt passes value (suc f) i v zs
      go true p [] q r = split_now f i p (cc)
      go true p (z ∷ zs) q r =
          let z_is : value i ≡ z = cc in
          split_later f i zs (z ∷ zs)
          (λ _. let P : ℕ → Type 0 = λ n. is_in n (z ∷ zs) ≡ true in subst P (sym z_is) (in_here z zs))
          (λ x h. in_later x z zs h)
          (r zs (cc))
      go false p zs q r = split_later f i zs zs (λ h. never_both h p) (λ x h. h) (r zs q)

-- a test that holds of every number below k, computed
abbrev pub every_below : (ℕ → Bool) → ℕ → Bool
every_below passes zero = true
every_below passes (suc k) = passes k && every_below passes k

pub every-below : (passes : ℕ → Bool) (k : ℕ) → every_below passes k ≡ true → (i : ℕ) → i < k → passes i ≡ true
every-below passes zero h i l = absurd (omega arith)
every-below passes (suc k) h i l =
    let z = and_true (passes k) (every_below passes k) h in
    ⊎_elim
    (λ (e : i ≡ k). rw e z.0)
    (λ (e : i ≡ k → ⊥). every-below passes k z.1 i (omega arith))
    (eq_or i k)
