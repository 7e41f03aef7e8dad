-- The least of some values, and the best front among them, are what they are called.
-- Main statements: `least_le`, `least_at`, `best_is`.
use mathlib.Core.Path.{◌≡◌, refl}
use mathlib.Core.Bool.{Bool, true, false, ◌&&◌, ◌||◌}
use mathlib.Core.Logic.{◌⊎◌, inl, inr, ⊎_elim}
use Prim.Native.Nat.{ℕ, zero, suc, ◌+◌, ◌≤◌, ◌<◌}
use native.Mathlib.Omega.{arith}
use lib.Dec.{eqb, leb}
use borrow.Author.Tests.{ltb-true, ltb-false, leb-true, leb-false, eqb-true, eqb-false}
use Rattle.laws.proofs.Choices.{pick_by}
use Rattle.laws.proofs.Tests.{le_or, and_true, and_false, or-true, or_false}
use Rattle.plan_method.specs.Sweep.{State, least, Front, front, better, best}

-- the least of v at d + 1 … e is at most each of them
pub least_le : (v : ℕ → ℕ) (d e q : ℕ) → d < q → q ≤ e → least v d e ≤ v q
unfolding least
least_le v d zero q a b = absurd (omega arith)
least_le v d (suc e) q a b =
    pick_by (λ r. r ≤ v q) (here (least_le v d e q a)) (λ h. at_end (least v d e) (later h) (least_le v d e q a))
  where
    -- the first is it: it is at most the second
    first_le : (leb e d || leb (v (suc e)) (least v d e)) ≡ true → q ≤ e → v (suc e) ≤ least v d e
    first_le h j =
        ⊎_elim
        (λ (k : leb e d ≡ true). absurd (omega (arith, leb-true e d k)))
        (λ (k : leb (v (suc e)) (least v d e) ≡ true). leb-true (v (suc e)) (least v d e) k)
        (or-true (leb e d) (leb (v (suc e)) (least v d e)) h)

    at_end : (r : ℕ) → r ≤ v (suc e) → (q ≤ e → r ≤ v q) → r ≤ v q
    at_end r h i =
        ⊎_elim
        i
        (λ (z : e < q). (
        let y : q ≡ suc e = omega arith in
        rw y h))
        (le_or q e)

    here : (q ≤ e → least v d e ≤ v q) → (leb e d || leb (v (suc e)) (least v d e)) ≡ true → v (suc e) ≤ v q
    here r h = at_end (v (suc e)) (omega arith) (λ j. omega (arith, first_le h j, r j))

    later : (leb e d || leb (v (suc e)) (least v d e)) ≡ false → least v d e ≤ v (suc e)
    later h =
        omega (arith, leb-false (v (suc e)) (least v d e) (or_false (leb e d) (leb (v (suc e)) (least v d e)) h).1)

-- and is one of them
pub record Attains (v : ℕ → ℕ) (d e r : ℕ) : Type 0 where
  pub at : ℕ
  pub low : d < at
  pub high : at ≤ e
  pub is : r ≡ v at

pub least_at : (v : ℕ → ℕ) (d e : ℕ) → d < e → Attains v d e (least v d e)
unfolding least
least_at v d zero a = absurd (omega arith)
least_at v d (suc e) a =
    pick_by (Attains v d (suc e)) (λ h. record { at = suc e; low = a; high = omega arith; is = refl })
    (λ h. later (least_at v d e (leb-false e d (or_false (leb e d) (leb (v (suc e)) (least v d e)) h).0)))
  where
    later : Attains v d e (least v d e) → Attains v d (suc e) (least v d e)
    later k = record { at = k.at; low = k.low; high = omega (arith, k.high); is = k.is }

-- the best front among the values from q to e with c barriers
pub record Fronts (v : ℕ → State) (c e q : ℕ) (r : Front) : Type 0 where
  pub there : (a : ℕ) → q ≤ a → a ≤ e → (v a).c ≡ c → 0 < r.f
  pub least : (a : ℕ) → q ≤ a → a ≤ e → (v a).c ≡ c → r.f ≤ (v a).f
  pub smallest : (a : ℕ) → q ≤ a → a ≤ e → (v a).c ≡ c → (v a).f ≡ r.f → r.at ≤ a
  pub low : 0 < r.f → q ≤ r.at
  pub high : 0 < r.f → r.at ≤ e
  pub exact : 0 < r.f → (v r.at).c ≡ c
  pub is : 0 < r.f → (v r.at).f ≡ r.f

none_fronts : (v : ℕ → State) (c e q : ℕ) → e < q → Fronts v c e q (front 0 0)
none_fronts v c e q h =
    record {
      there = λ a i j k. absurd (omega arith);
      least = λ a i j k. absurd (omega arith);
      smallest = λ a i j k l. absurd (omega arith);
      low = λ i. absurd (omega arith);
      high = λ i. absurd (omega arith);
      exact = λ i. absurd (omega arith);
      is = λ i. absurd (omega arith);
    }

module _ (v : ℕ → State) (c e q : ℕ) (fits : q ≤ e) (pos : 0 < (v q).f) (r : Front) (i : Fronts v c e (suc q) r) where
  -- a place from q on is q or comes later
  at_or : (a : ℕ) → q ≤ a → (P : ℕ → Type 0) → (a ≡ q → P q) → (q < a → P a) → P a
  at_or a l P here later =
      ⊎_elim
      (λ (z : a ≤ q). (
      let y : a ≡ q = omega arith in
      rw y (here y)))
      later
      (le_or a q)

  take_here : (v q).c ≡ c → (r.f ≡ 0) ⊎ ((v q).f ≤ r.f) → Fronts v c e q (front (v q).f q)
  take_here h k =
      record {
        there = λ a l m n. pos;
        least = λ a l m n. at_or a l (λ a. (v q).f ≤ (v a).f) (λ y. omega arith) (λ z. ⊎_elim
            (λ (y : r.f ≡ 0). absurd (omega (arith, i.there a z m n)))
            (λ (y : (v q).f ≤ r.f). omega (arith, i.least a z m n))
            k);
        smallest = λ a l m n o. l;
        low = λ j. omega arith;
        high = λ j. fits;
        exact = λ j. h;
        is = λ j. refl;
      }

  keep_later : ((v q).c ≡ c → (0 < r.f) × (r.f < (v q).f)) → Fronts v c e q r
  keep_later h =
      record {
        there = λ a l m n. at_or a l (λ _. 0 < r.f) (λ y. (h (rw y at n)).0) (λ z. i.there a z m n);
        least = λ a l m n. at_or a l (λ a. r.f ≤ (v a).f)
            (λ y. omega (arith, (h (rw y at n)).1)) (λ z. i.least a z m n);
        smallest = λ a l m n o. at_or a l (λ a. r.at ≤ a) (λ y. (
            let j : (v q).f ≡ r.f = rw y at o in
            absurd (omega (arith, (h (rw y at n)).1)))) (λ z. i.smallest a z m n o);
        low = λ j. omega (arith, i.low j);
        high = i.high;
        exact = i.exact;
        is = i.is;
      }

  better_is : Fronts v c e q (better c q (v q) r)
  unfolding better
  better_is = pick_by (Fronts v c e q) here later
    where
      sooner : Bool
      sooner = eqb r.f 0 || leb (v q).f r.f

      here : (eqb (v q).c c && sooner) ≡ true → Fronts v c e q (front (v q).f q)
      here h =
          let k = and_true (eqb (v q).c c) sooner h in
          take_here (eqb-true (v q).c c k.0) (⊎_elim
          (λ (z : eqb r.f 0 ≡ true). inl (eqb-true r.f 0 z))
          (λ (z : leb (v q).f r.f ≡ true). inr (leb-true (v q).f r.f z))
          (or-true (eqb r.f 0) (leb (v q).f r.f) k.1))

      later : (eqb (v q).c c && sooner) ≡ false → Fronts v c e q r
      later h =
          keep_later
          (λ (m : (v q).c ≡ c). ⊎_elim
          (λ (z : eqb (v q).c c ≡ false). absurd (eqb-false (v q).c c z m))
          (λ (z : sooner ≡ false). (
          let k = or_false (eqb r.f 0) (leb (v q).f r.f) z in
          let y : r.f ≡ 0 → ⊥ = eqb-false r.f 0 k.0 in
          (omega (arith, y), leb-false (v q).f r.f k.1)))
          (and_false (eqb (v q).c c) sooner h))

pub best_is : (v : ℕ → State) (c e k q : ℕ) → e < q + k → ((a : ℕ) → q ≤ a → a ≤ e → 0 < (v a).f) →
    Fronts v c e q (best v c e k q)
unfolding best
best_is v c e zero q h pos = none_fronts v c e q (omega arith)
best_is v c e (suc k) q h pos =
    pick_by (Fronts v c e q) (λ z. none_fronts v c e q (ltb-true e q z))
    (λ z. later (ltb-false e q z) (best_is v c e k (suc q) (omega arith) (λ a i j. pos a (omega arith) j)))
  where
    later : q ≤ e → Fronts v c e (suc q) (best v c e k (suc q)) →
        Fronts v c e q (better c q (v q) (best v c e k (suc q)))
    later l = better_is v c e q l (pos q (omega arith) l) (best v c e k (suc q))
