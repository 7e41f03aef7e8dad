-- The list of a nest's loops by their ENDDO, and the first loop at which two placements' counts differ.
-- Main statements: `loop_listed`, `listed_loop`, `one_loop_listed`, `earlier_end_first`, `inside_first`, `differ_none`, `none_differ`,
-- `differ_at`.
use mathlib.Core.Path.{◌≡◌, refl, sym, ap, ◌∙◌}
use mathlib.Core.Bool.{Bool, true, false}
use mathlib.Core.List.{List, [], ◌∷◌, ◌++◌}
use mathlib.Core.Logic.{⊎_elim, ◌↔◌}
use Prim.Native.Nat.{ℕ, zero, suc, ◌+◌, ◌≤◌, ◌<◌}
use native.Mathlib.Omega.{arith}
use lib.Dec.{eqb}
use lib.ListN.{length}
use borrow.Author.Tests.{eqb-true, eqb-false, eq-eqb}
use Rattle.laws.specs.Choice.{pick, is_in}
use Rattle.laws.proofs.Tests.{never, never_both, false_by}
use Rattle.laws.proofs.Members.{in_here, in_later, in_cons}
use Rattle.laws.proofs.Members.{gather, From, in_gathered, gathered_in, SplitAt, gathered_before}
use Rattle.paper_nests.specs.Nests.{Nest}
use Rattle.paper_nests.specs.Loops.{is_do, is_end, end_of, owner_of, in_loop}
use Rattle.paper_nests.specs.Ring.{one_loop}
use Rattle.paper_nests.specs.Valid.{is_shape}
use Rattle.paper_nests.proofs.Levels.{point_in, starts_with_do, end_not_first}
use Rattle.paper_nests.proofs.Loops.{end_is_end, end_there, end_has_do, owner_of_end, owner_is_do}
use Rattle.paper_nests.proofs.Ring.{one_loop_is_first, first_is_one_loop}
use Rattle.paper_placements.specs.Placements.{loop_count, loops_from, loops_of, differ_from, differ}
use Rattle.paper_placements.proofs.Inside.{inside_ends}

loops_gathered : (f e : ℕ) (ps : List ℕ) → loops_from f e ps ≡ gather (is_end ps) (owner_of ps) f e
loops_gathered zero e ps = refl
loops_gathered (suc f) e ps =
    ap (λ (l : List ℕ). pick (is_end ps e) (owner_of ps e ∷ []) [] ++ l) (loops_gathered f (suc e) ps)

-- an ENDDO's loop is in the list, and a member is an ENDDO's loop
end_listed :
    (n : Nest) (e : ℕ) → e < length n.points → is_end n.points e ≡ true →
    is_in (owner_of n.points e) (loops_of n) ≡ true
end_listed n e l h =
    let ps = n.points in
    rw (loops_gathered (length ps) 0 ps)
    (gathered_in (is_end ps) (owner_of ps) (length ps) 0 e (omega arith) (omega arith) h)

listed_end :
    (n : Nest) (d : ℕ) → is_in d (loops_of n) ≡ true →
    From (is_end n.points) (owner_of n.points) (length n.points) 0 d
listed_end n d h =
    let ps = n.points in
    in_gathered (is_end ps) (owner_of ps) (length ps) 0 d (rw (loops_gathered (length ps) 0 ps) at h)

module _ (n : Nest) (shape : is_shape n.points ≡ true) where
  -- the list has every loop and nothing else
  pub loop_listed : (d : ℕ) → is_do n.points d ≡ true → is_in d (loops_of n) ≡ true
  loop_listed d h =
      let ps = n.points in
      rw (owner_of_end ps shape d h) at (end_listed n (end_of ps d) (end_there ps shape d h) (end_is_end ps shape d h))

  pub listed_loop : (d : ℕ) → is_in d (loops_of n) ≡ true → is_do n.points d ≡ true
  listed_loop d h =
      let ps = n.points in
      let r = listed_end n d h in
      let e = r.at in
      rw (← r.is) (owner_is_do ps shape e (end_not_first ps shape e r.passed) (point_in ps e 1 r.passed))

  -- loops stand in order of their ENDDO
  pub earlier_end_first :
      (xs ys : List ℕ) (d x : ℕ) → loops_of n ≡ xs ++ (d ∷ ys) → is_do n.points x ≡ true →
      end_of n.points x < end_of n.points d → is_in x xs ≡ true
  earlier_end_first xs ys d x e h l =
      let ps = n.points in
      let s : SplitAt (is_end ps) (owner_of ps) (length ps) 0 d xs =
      gathered_before (is_end ps) (owner_of ps) d ys (length ps) 0 xs (sym (loops_gathered (length ps) 0 ps) ∙ e) in
      let at_is : end_of ps d ≡ s.at = sym (ap (end_of ps) s.is) ∙ end_has_do ps shape s.at s.passed in
      let z = s.earlier (end_of ps x) (omega arith) (omega arith) (end_is_end ps shape x h) in
      rw (owner_of_end ps shape x h) at z

  -- so each comes after all inside it
  pub inside_first :
      (xs ys : List ℕ) (d x : ℕ) → loops_of n ≡ xs ++ (d ∷ ys) → is_do n.points d ≡ true → is_do n.points x ≡ true →
      in_loop n.points d x ≡ true → is_in x xs ≡ true
  inside_first xs ys d x e k h i = earlier_end_first xs ys d x e h (inside_ends n.points shape d x k h i)

-- a list of one has one member
one_member : (xs : List ℕ) (x y : ℕ) → length xs ≡ 1 → is_in x xs ≡ true → is_in y xs ≡ true → x ≡ y
one_member [] x y l p q = never p
one_member (z ∷ []) x y l p q = first x p ∙ sym (first y q)
  where
    first : (w : ℕ) → is_in w (z ∷ []) ≡ true → w ≡ z
    first w h = ⊎_elim (λ (e : w ≡ z). e) (λ (e : is_in w [] ≡ true). never e) (in_cons w z [] h)
one_member (z ∷ (w ∷ ws)) x y l p q = absurd (omega arith)

-- as many as pass the test
none_gathered
    : (passes : ℕ → Bool) (value : ℕ → ℕ) (f i : ℕ)
    → ((j : ℕ) → i ≤ j → passes j ≡ true → ⊥)
    → length (gather passes value f i) ≡ 0
none_gathered passes value zero i none = refl
none_gathered passes value (suc f) i none =
    rw (false_by (none i (omega arith))) (none_gathered passes value f (suc i) (λ j l. none j (omega arith)))

one_gathered
    : (passes : ℕ → Bool) (value : ℕ → ℕ) (k : ℕ)
    → passes k ≡ true
    → ((j : ℕ) → passes j ≡ true → j ≡ k)
    → (f i : ℕ)
    → i ≤ k
    → k < i + f
    → length (gather passes value f i) ≡ 1
one_gathered passes value k p only zero i l m = absurd (omega arith)
one_gathered passes value k p only (suc f) i l m =
    go (passes i) refl (λ (z : suc i ≤ k). one_gathered passes value k p only f (suc i) z (omega arith))
  where
    go
        : (t : Bool) → passes i ≡ t → (suc i ≤ k → length (gather passes value f (suc i)) ≡ 1)
        → length (pick t (value i ∷ []) [] ++ gather passes value f (suc i)) ≡ 1
    go true e r =
        let z = only i e in
        ap suc (none_gathered passes value f (suc i) (λ j q h. omega (arith, only j h)))
    go false e r =
        let other : i ≡ k → ⊥ = λ z. never_both p (ap passes (sym z) ∙ e) in
        r (omega (arith, other))

module _ (n : Nest) (shape : is_shape n.points ≡ true) where
  -- a nest of one loop is one whose list has one loop
  pub one_loop_listed : (one_loop n.points ≡ true) ↔ (length (loops_of n) ≡ 1)
  one_loop_listed = (to, from)
    where
      first : is_do n.points 0 ≡ true
      first = starts_with_do n.points shape

      -- the only ENDDO is the outermost loop's
      only : one_loop n.points ≡ true → (e : ℕ) → is_end n.points e ≡ true → e ≡ end_of n.points 0
      only one e h =
          let ps = n.points in
          let o : owner_of ps e ≡ 0 =
          one_loop_is_first ps one (owner_of ps e)
          (owner_is_do ps shape e (end_not_first ps shape e h) (point_in ps e 1 h)) in
          sym (rw o at (end_has_do ps shape e h))

      to : one_loop n.points ≡ true → length (loops_of n) ≡ 1
      to one =
          let ps = n.points in
          rw (loops_gathered (length ps) 0 ps)
          (one_gathered (is_end ps) (owner_of ps) (end_of ps 0) (end_is_end ps shape 0 first) (only one) (length ps) 0
          (omega arith)
          (omega (arith, end_there ps shape 0 first)))

      from : length (loops_of n) ≡ 1 → one_loop n.points ≡ true
      from one =
          first_is_one_loop n.points
          (λ d h. one_member (loops_of n) d 0 one (loop_listed n shape d h) (loop_listed n shape 0 first))

-- the first of some loops at which two counts differ
record FirstOf (n : Nest) (a b xs : List ℕ) (d : ℕ) : Type 0 where
  before : List ℕ
  after : List ℕ
  split : xs ≡ before ++ (d ∷ after)
  differs : loop_count n a d ≡ loop_count n b d → ⊥
  same : (x : ℕ) → is_in x before ≡ true → loop_count n a x ≡ loop_count n b x

module _ (n : Nest) (a b : List ℕ) where
  same_of_zero :
      (xs : List ℕ) → differ_from n a b xs ≡ 0 → (x : ℕ) → is_in x xs ≡ true → loop_count n a x ≡ loop_count n b x
  same_of_zero [] e x h = never h
  same_of_zero (d ∷ ds) e x h = go (eqb (loop_count n a d) (loop_count n b d)) refl e (same_of_zero ds)
    where
      go :
          (t : Bool) → eqb (loop_count n a d) (loop_count n b d) ≡ t → pick t (differ_from n a b ds) (suc d) ≡ 0 →
          (differ_from n a b ds ≡ 0 → (y : ℕ) → is_in y ds ≡ true → loop_count n a y ≡ loop_count n b y) →
          loop_count n a x ≡ loop_count n b x
      go true p q r = ⊎_elim
          (λ (z : x ≡ d). rw z (eqb-true (loop_count n a d) (loop_count n b d) p))
          (λ (z : is_in x ds ≡ true). r q x z)
          (in_cons x d ds h)
      go false p q r = absurd (omega arith)

  zero_of_same :
      (xs : List ℕ) → ((x : ℕ) → is_in x xs ≡ true → loop_count n a x ≡ loop_count n b x) → differ_from n a b xs ≡ 0
  zero_of_same [] h = refl
  zero_of_same (d ∷ ds) h =
      rw (eq-eqb (loop_count n a d) (loop_count n b d) (h d (in_here d ds)))
      (zero_of_same ds (λ x k. h x (in_later x d ds k)))

  first_of : (xs : List ℕ) (d : ℕ) → differ_from n a b xs ≡ suc d → FirstOf n a b xs d
  first_of [] d e = absurd (omega arith)
  first_of (x ∷ xs) d e = go (eqb (loop_count n a x) (loop_count n b x)) refl e (first_of xs d)
    where
      go :
          (t : Bool) → eqb (loop_count n a x) (loop_count n b x) ≡ t → pick t (differ_from n a b xs) (suc x) ≡ suc d →
          (differ_from n a b xs ≡ suc d → FirstOf n a b xs d) → FirstOf n a b (x ∷ xs) d
      go true p q r = more (r q)
        where
          more : FirstOf n a b xs d → FirstOf n a b (x ∷ xs) d
          more f =
              record {
                before = x ∷ f.before;
                after = f.after;
                split = ap (λ (l : List ℕ). x ∷ l) f.split;
                differs = f.differs;
                same = same;
              }
            where
              same : (y : ℕ) → is_in y (x ∷ f.before) ≡ true → loop_count n a y ≡ loop_count n b y
              same y h = ⊎_elim
                  (λ (z : y ≡ x). rw z (eqb-true (loop_count n a x) (loop_count n b x) p))
                  (λ (z : is_in y f.before ≡ true). f.same y z)
                  (in_cons y x f.before h)
      go false p q r =
          let z : x ≡ d = omega arith in
          record {
            before = [];
            after = xs;
            split = rw z;
            differs = rw (← z) (eqb-false (loop_count n a x) (loop_count n b x) p);
            same = λ y h. never h;
          }

-- what `differ` tells: a loop where the counts differ, with the first ENDDO of all such
pub record Differ (n : Nest) (a b : List ℕ) (d : ℕ) : Type 0 where
  pub loop : is_do n.points d ≡ true
  pub differs : loop_count n a d ≡ loop_count n b d → ⊥
  pub earlier :
      (x : ℕ) → is_do n.points x ≡ true → end_of n.points x < end_of n.points d →
      loop_count n a x ≡ loop_count n b x
  pub inside : (x : ℕ) → is_do n.points x ≡ true → in_loop n.points d x ≡ true → loop_count n a x ≡ loop_count n b x

module _ (n : Nest) (shape : is_shape n.points ≡ true) (a b : List ℕ) where
  pub differ_none : differ n a b ≡ 0 → (d : ℕ) → is_do n.points d ≡ true → loop_count n a d ≡ loop_count n b d
  differ_none e d h = same_of_zero n a b (loops_of n) e d (loop_listed n shape d h)

  pub none_differ : ((d : ℕ) → is_do n.points d ≡ true → loop_count n a d ≡ loop_count n b d) → differ n a b ≡ 0
  none_differ h = zero_of_same n a b (loops_of n) (λ x k. h x (listed_loop n shape x k))

  pub differ_at : (d : ℕ) → differ n a b ≡ suc d → Differ n a b d
  differ_at d e = go (first_of n a b (loops_of n) d e)
    where
      in_split : (xs ys : List ℕ) → is_in d (xs ++ (d ∷ ys)) ≡ true
      in_split [] ys = in_here d ys
      in_split (x ∷ xs) ys = in_later d x (xs ++ (d ∷ ys)) (in_split xs ys)

      go : FirstOf n a b (loops_of n) d → Differ n a b d
      go f =
          record {
            loop = loop;
            differs = f.differs;
            earlier = λ x h l. f.same x (earlier_end_first n shape f.before f.after d x f.split h l);
            inside = λ x h i. f.same x (inside_first n shape f.before f.after d x f.split loop h i);
          }
        where
          loop : is_do n.points d ≡ true
          loop = listed_loop n shape d (rw f.split (in_split f.before f.after))
