-- List order and membership: of two rising lists, the one that has the first gap where they differ comes first, unless
-- it is the longer one. Two lists that each come first are one. The order is total.
-- Main statements: `order_by`, `order_both`; `order_trans`, `order_total`, `order_numbers`.
use mathlib.Core.Path.{◌≡◌, refl, sym, ◌∙◌}
use mathlib.Core.Bool.{Bool, true, false}
use mathlib.Core.List.{List, [], ◌∷◌}
use mathlib.Core.Logic.{◌⊎◌, inl, inr, ⊎_elim}
use Prim.Native.Nat.{ℕ, ◌≤◌, ◌<◌}
use native.Mathlib.Omega.{arith}
use lib.Dec.{eqb, ltb}
use lib.ListN.{length}
use borrow.Author.Tests.{eqb-true, eqb-false, eq-eqb, ne_eqb, lt-ltb, ltb-true, ltb-false}
use Rattle.laws.specs.Choice.{pick, is_in}
use Rattle.laws.proofs.Tests.{never, le_or, eq_or, false_by, or-true}
use Rattle.paper_placements.specs.Placements.{are_gaps_from}
use Rattle.paper_placements.proofs.Rising.{Rises, rises, rising_in}
use Rattle.plan_theorem.specs.ListOrder.{first_in_order}

-- at the first number above `last` where the lists differ, a has it
abbrev pub HasFirst : ℕ → List ℕ → List ℕ → Type 0
HasFirst last a b =
    (g : ℕ) → last < g → ((h : ℕ) → last < h → h < g → is_in h b ≡ is_in h a) → is_in g b ≡ true → is_in g a ≡ true

-- a member of a rising list: its first, or above it
in_rising : {A : Type 0} (n i v : ℕ) (vs : List ℕ) → are_gaps_from v n vs ≡ true → is_in i (v ∷ vs) ≡ true →
    (i ≡ v → A) → (v < i → is_in i vs ≡ true → A) → A
in_rising n i v vs h k first later =
    ⊎_elim
    (λ (z : eqb i v ≡ true). first (eqb-true i v z))
    (λ (z : is_in i vs ≡ true). later (rising_in v n vs i h z).0 z)
    (or-true (eqb i v) (is_in i vs) k)

not_below : (n i v : ℕ) (vs : List ℕ) → are_gaps_from v n vs ≡ true → i < v → is_in i (v ∷ vs) ≡ false
not_below n i v vs h l = false_by (λ k. in_rising n i v vs h k (λ z. omega arith) (λ z y. omega arith))

-- lists that begin with the same number
module _
    (n last x : ℕ) (xs ys : List ℕ) (above : last < x) (a : are_gaps_from x n xs ≡ true) (b : are_gaps_from x n ys ≡ true)
    (has : HasFirst last (x ∷ xs) (x ∷ ys)) where
  -- above the first number a member is one of the rest
  rest_of : (i : ℕ) (vs : List ℕ) → x < i → is_in i (x ∷ vs) ≡ is_in i vs
  rest_of i vs l =
      let z : eqb i x ≡ false = ne_eqb i x (λ y. omega arith) in
      rw z

  same_start : (g i : ℕ) → i < g → ((h : ℕ) → x < h → h < g → is_in h ys ≡ is_in h xs) → (i ≤ x) ⊎ (x < i) →
      is_in i (x ∷ ys) ≡ is_in i (x ∷ xs)
  same_start g i l same (inr z) = rest_of i ys z ∙ same i z l ∙ sym (rest_of i xs z)
  same_start g i l same (inl z) =
      ⊎_elim
      (λ (y : i ≡ x). (
      let t : eqb i x ≡ true = eq-eqb i x y in
      rw t))
      (λ (y : i ≡ x → ⊥). (
      let u : i < x = omega (arith, y) in
      not_below n i x ys b u ∙ sym (not_below n i x xs a u)))
      (eq_or i x)

  has_rest : HasFirst x xs ys
  has_rest g l same h =
      sym (rest_of g xs l) ∙
      has g (omega arith) (λ i u v. same_start g i v same (le_or i x)) (rest_of g ys l ∙ h)

pub order_by : (last n : ℕ) (a b : List ℕ) → are_gaps_from last n a ≡ true → are_gaps_from last n b ≡ true →
    length a ≤ length b → HasFirst last a b → first_in_order a b ≡ true
order_by last n [] b p q l has = refl
order_by last n (x ∷ xs) [] p q l has = absurd (omega arith)
order_by last n (x ∷ xs) (y ∷ ys) p q l has =
    go (rises last n x xs p) (rises last n y ys q) (eqb x y) refl (order_by x n xs ys)
  where
    -- b cannot begin below a
    not_after : Rises last n x xs → Rises last n y ys → y < x → ⊥
    not_after r s z =
        let k : is_in y (x ∷ xs) ≡ true =
        has y s.above
        (λ i u v. not_below n i y ys s.rest v ∙ sym (not_below n i x xs r.rest (omega arith)))
        (rw (eq-eqb y y refl)) in
        in_rising n y x xs r.rest k (λ v. omega arith) (λ v w. omega arith)

    go : Rises last n x xs → Rises last n y ys → (t : Bool) → eqb x y ≡ t →
        (are_gaps_from x n xs ≡ true → are_gaps_from x n ys ≡ true → length xs ≤ length ys → HasFirst x xs ys →
        first_in_order xs ys ≡ true) →
        pick t (first_in_order xs ys) (ltb x y) ≡ true
    go r s true e rest =
        let z : y ≡ x = sym (eqb-true x y e) in
        let b : are_gaps_from x n ys ≡ true = rw z at s.rest in
        let f : HasFirst last (x ∷ xs) (x ∷ ys) = rw z at has in
        rest r.rest b (omega arith) (has_rest n last x xs ys r.above r.rest b f)
    go r s false e rest =
        ⊎_elim
        (λ (z : x ≤ y). lt-ltb x y (omega (arith, eqb-false x y e)))
        (λ (z : y < x). absurd (not_after r s z))
        (le_or x y)

-- two lists that each come first are one
pub order_both : (a b : List ℕ) → first_in_order a b ≡ true → first_in_order b a ≡ true → a ≡ b
order_both [] [] p q = refl
order_both [] (y ∷ ys) p q = never q
order_both (x ∷ xs) [] p q = never p
order_both (x ∷ xs) (y ∷ ys) p q = go (eq_or x y) (order_both xs ys)
  where
    go : (x ≡ y) ⊎ ((x ≡ y) → ⊥) → (first_in_order xs ys ≡ true → first_in_order ys xs ≡ true → xs ≡ ys) →
        x ∷ xs ≡ y ∷ ys
    go (inl z) rest =
        let u : first_in_order xs ys ≡ true = rw (eq-eqb x y z) at p in
        let v : first_in_order ys xs ≡ true = rw (eq-eqb y x (sym z)) at q in
        cc (z, rest u v)
    go (inr z) rest =
        let u : ltb x y ≡ true = rw (ne_eqb x y z) at p in
        let v : ltb y x ≡ true = rw (ne_eqb y x (λ w. z (sym w))) at q in
        absurd (omega (arith, ltb-true x y u, ltb-true y x v))

-- a list comes first beside itself
pub order_refl : (a : List ℕ) → first_in_order a a ≡ true
order_refl [] = refl
order_refl (x ∷ xs) = rw (eq-eqb x x refl) (order_refl xs)

-- of two lists one comes first
pub order_total : (a b : List ℕ) → first_in_order a b ≡ false → first_in_order b a ≡ true
order_total [] b h = never (sym h)
order_total (x ∷ xs) [] h = refl
order_total (x ∷ xs) (y ∷ ys) h = go (eq_or x y) (order_total xs ys)
  where
    go : (x ≡ y) ⊎ ((x ≡ y) → ⊥) → (first_in_order xs ys ≡ false → first_in_order ys xs ≡ true) →
        first_in_order (y ∷ ys) (x ∷ xs) ≡ true
    go (inl z) rest = rw (eq-eqb y x (sym z)) (rest (rw (eq-eqb x y z) at h))
    go (inr z) rest =
        let u : ltb x y ≡ false = rw (ne_eqb x y z) at h in
        rw (ne_eqb y x (λ w. z (sym w))) (lt-ltb y x (omega (arith, z, ltb-false x y u)))

-- one number before another, or the same number and the rest in order
order_cons : (x y : ℕ) (xs ys : List ℕ) → first_in_order (x ∷ xs) (y ∷ ys) ≡ true →
    (x < y) ⊎ ((x ≡ y) × (first_in_order xs ys ≡ true))
order_cons x y xs ys h =
    ⊎_elim
    (λ (z : x ≡ y). inr (z, rw (eq-eqb x y z) at h))
    (λ (z : x ≡ y → ⊥). inl (ltb-true x y (rw (ne_eqb x y z) at h)))
    (eq_or x y)

pub order_trans : (a b c : List ℕ) → first_in_order a b ≡ true → first_in_order b c ≡ true → first_in_order a c ≡ true
order_trans [] b c p q = refl
order_trans (x ∷ xs) [] c p q = never p
order_trans (x ∷ xs) (y ∷ ys) [] p q = never q
order_trans (x ∷ xs) (y ∷ ys) (w ∷ ws) p q = go (order_cons x y xs ys p) (order_cons y w ys ws q) (order_trans xs ys ws)
  where
    before : x < w → first_in_order (x ∷ xs) (w ∷ ws) ≡ true
    before l = rw (ne_eqb x w (λ z. omega arith)) (lt-ltb x w l)

    go : (x < y) ⊎ ((x ≡ y) × (first_in_order xs ys ≡ true)) → (y < w) ⊎ ((y ≡ w) × (first_in_order ys ws ≡ true)) →
        (first_in_order xs ys ≡ true → first_in_order ys ws ≡ true → first_in_order xs ws ≡ true) →
        first_in_order (x ∷ xs) (w ∷ ws) ≡ true
    go (inl l) (inl k) rest = before (omega arith)
    go (inl l) (inr k) rest = before (omega (arith, k.0))
    go (inr l) (inl k) rest = before (omega (arith, l.0))
    go (inr l) (inr k) rest = rw (eq-eqb x w (l.0 ∙ k.0)) (rest l.1 k.1)

-- of lists of one number, the lesser
pub order_numbers : (a b : ℕ) → first_in_order (a ∷ []) (b ∷ []) ≡ true → a ≤ b
order_numbers a b h = go (order_cons a b [] [] h)
  where
    go : (a < b) ⊎ ((a ≡ b) × (first_in_order [] [] ≡ true)) → a ≤ b
    go (inl l) = omega arith
    go (inr e) = omega (arith, e.0)
