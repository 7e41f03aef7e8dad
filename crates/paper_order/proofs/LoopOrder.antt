-- The order of placements, loop by loop: as good or better speaks of every loop, and both ways it is equal counts.
-- Main statements: `same_in_is`, `same_in_by`; `as_good_elim`, `as_good_intro`, `as_good_moved`, `as_good_refl`,
-- `as_good_trans`, `as_good_both`.
use mathlib.Core.Path.{◌≡◌, refl, sym, ap, ◌∙◌}
use mathlib.Core.Bool.{Bool, true, ◌&&◌, ◌||◌, not}
use mathlib.Core.List.{List, [], ◌∷◌}
use Prim.Native.Nat.{ℕ, ◌≤◌}
use native.Mathlib.Omega.{arith}
use lib.Dec.{eqb, leb}
use borrow.Author.Tests.{eqb-true, eq-eqb, leb-true, le-leb}
use Rattle.laws.proofs.Implies.{implied, implies_by}
use Rattle.laws.proofs.Members.{every_in, each_of, every_by}
use Rattle.paper_nests.specs.Nests.{Nest}
use Rattle.paper_nests.specs.Loops.{is_do, in_loop}
use Rattle.paper_nests.specs.Valid.{is_shape}
use Rattle.paper_placements.specs.Placements.{loop_count, loops_of}
use Rattle.paper_order.specs.LoopOrder.{inside_same, better_from, as_good}
use Rattle.paper_placements.proofs.Inside.{inside_inside, from_inside}
use Rattle.paper_placements.proofs.LoopLists.{loop_listed, listed_loop}

-- the same count at every loop; at every loop inside d
abbrev pub SameCounts : Nest → List ℕ → List ℕ → Type 0
SameCounts n a b = (x : ℕ) → is_do n.points x ≡ true → loop_count n a x ≡ loop_count n b x

abbrev pub SameInside : Nest → List ℕ → List ℕ → ℕ → Type 0
SameInside n a b d =
    (x : ℕ) → is_do n.points x ≡ true → in_loop n.points d x ≡ true → loop_count n a x ≡ loop_count n b x

module _ (n : Nest) (a b : List ℕ) where
  -- the tests of one loop, and what they say
  abbrev same-at : ℕ → Bool
  same-at x = eqb (loop_count n a x) (loop_count n b x)

  abbrev least_at : ℕ → Bool
  least_at x = leb (loop_count n a x) (loop_count n b x)

  abbrev same_in : ℕ → Bool
  same_in d = inside_same n a b d (loops_of n)

  inside_every :
      (d : ℕ) (xs : List ℕ) →
      inside_same n a b d xs ≡ every_in (λ (x : ℕ). not (in_loop n.points d x) || same-at x) xs
  inside_every d [] = refl
  inside_every d (x ∷ xs) = ap (λ (t : Bool). (not (in_loop n.points d x) || same-at x) && t) (inside_every d xs)

  better_every : (ds : List ℕ) → better_from n a b ds ≡ every_in (λ (d : ℕ). not (same_in d) || least_at d) ds
  better_every [] = refl
  better_every (d ∷ ds) = ap (λ (t : Bool). (not (same_in d) || least_at d) && t) (better_every ds)

module _ (n : Nest) (shape : is_shape n.points ≡ true) (a b : List ℕ) (d : ℕ) where
  -- the test of a loop says it of every loop inside
  pub same_in_is : inside_same n a b d (loops_of n) ≡ true → SameInside n a b d
  same_in_is e x h i =
      let test_of : ℕ → Bool = λ y. not (in_loop n.points d y) || same-at n a b y in
      let z : test_of x ≡ true =
      each_of test_of (loops_of n) (rw (inside_every n a b d (loops_of n)) at e) x (loop_listed n shape x h) in
      eqb-true (loop_count n a x) (loop_count n b x) (implied (in_loop n.points d x) (same-at n a b x) z i)

  pub same_in_by : SameInside n a b d → inside_same n a b d (loops_of n) ≡ true
  same_in_by s =
      rw (inside_every n a b d (loops_of n))
      (every_by (λ (y : ℕ). not (in_loop n.points d y) || same-at n a b y) (loops_of n)
      (λ x k. implies_by (in_loop n.points d x) (same-at n a b x)
      (λ i. eq-eqb (loop_count n a x) (loop_count n b x) (s x (listed_loop n shape x k) i))))

module _ (n : Nest) (shape : is_shape n.points ≡ true) (a b : List ℕ) where
  -- 01, "Which placement is better", loop by loop, as a statement of every loop
  pub as_good_elim :
      as_good n a b ≡ true →
      (d : ℕ) → is_do n.points d ≡ true → SameInside n a b d → loop_count n a d ≤ loop_count n b d
  as_good_elim e d h s =
      let better : (not (same_in n a b d) || least_at n a b d) ≡ true =
      each_of (λ (x : ℕ). not (same_in n a b x) || least_at n a b x) (loops_of n)
      (rw (better_every n a b (loops_of n)) at e) d (loop_listed n shape d h) in
      leb-true (loop_count n a d) (loop_count n b d)
      (implied (same_in n a b d) (least_at n a b d) better (same_in_by n shape a b d s))

  pub as_good_intro :
      ((d : ℕ) → is_do n.points d ≡ true → SameInside n a b d → loop_count n a d ≤ loop_count n b d) →
      as_good n a b ≡ true
  as_good_intro h =
      rw (better_every n a b (loops_of n))
      (every_by (λ (x : ℕ). not (same_in n a b x) || least_at n a b x) (loops_of n)
      (λ d k. implies_by (same_in n a b d) (least_at n a b d)
      (λ s. le-leb (loop_count n a d) (loop_count n b d) (h d (listed_loop n shape d k) (same_in_is n shape a b d s)))))

module _ (n : Nest) (shape : is_shape n.points ≡ true) where
  -- the order sees only the counts
  pub as_good_of_same : (a b : List ℕ) → SameCounts n a b → as_good n a b ≡ true
  as_good_of_same a b s = as_good_intro n shape a b (λ d h k. omega (arith, s d h))

  pub as_good_moved : (a b c : List ℕ) → SameCounts n a b → as_good n a c ≡ true → as_good n b c ≡ true
  as_good_moved a b c s e =
      as_good_intro n shape b c
      (λ d h k. omega (arith, s d h, as_good_elim n shape a c e d h (λ x q i. s x q ∙ k x q i)))

  -- it is an order: each is as good as itself; in a chain the first is as good as the last
  pub as_good_refl : (a : List ℕ) → as_good n a a ≡ true
  as_good_refl a = as_good_of_same a a (λ x h. refl)

  pub as_good_trans : (a b c : List ℕ) → as_good n a b ≡ true → as_good n b c ≡ true → as_good n a c ≡ true
  as_good_trans a b c p q = as_good_intro n shape a c chain
    where
      -- where a and c have the same counts inside d, so has b, which stands between them
      middle : (d : ℕ) → is_do n.points d ≡ true → SameInside n a c d → SameInside n a b d
      middle d h s =
          from_inside n.points shape
          (λ (y : ℕ). in_loop n.points d y ≡ true → loop_count n a y ≡ loop_count n b y)
          (λ y m r i.
          let deeper : (z : ℕ) → in_loop n.points y z ≡ true → in_loop n.points d z ≡ true =
          λ z j. inside_inside n.points shape d y z h m i j in
          omega (
            arith,
            s y m i,
            as_good_elim n shape a b p y m (λ z w j. r z w j (deeper z j)),
            as_good_elim n shape b c q y m (λ z w j. sym (r z w j (deeper z j)) ∙ s z w (deeper z j)),
          ))

      chain : (d : ℕ) → is_do n.points d ≡ true → SameInside n a c d → loop_count n a d ≤ loop_count n c d
      chain d h s =
          let m = middle d h s in
          omega (
            arith,
            as_good_elim n shape a b p d h m,
            as_good_elim n shape b c q d h (λ x k i. sym (m x k i) ∙ s x k i),
          )

  -- each as good as the other: the same counts, from the inner loops outwards
  pub as_good_both : (a b : List ℕ) → as_good n a b ≡ true → as_good n b a ≡ true → SameCounts n a b
  as_good_both a b p q =
      from_inside n.points shape
      (λ (d : ℕ). loop_count n a d ≡ loop_count n b d)
      (λ d k r. omega (arith, as_good_elim n shape a b p d k r, as_good_elim n shape b a q d k (λ y m i. sym (r y m i))))
