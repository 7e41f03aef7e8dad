-- The textbook's placement is correct, and has as many barriers as the key. It is correct since what each first barrier
-- gives is. No set is smaller: from a gap of that set the method finds one that is no greater, and keeps the smallest.
-- Main statements: `tries_correct`, `textbook_smallest`, `smallest_count`; of a nest `textbook_correct`,
-- `textbook_count`.
use mathlib.Core.Path.{◌≡◌, refl}
use mathlib.Core.Bool.{true, false}
use mathlib.Core.List.{List, [], ◌∷◌}
use mathlib.Core.Logic.{inl, ⊎_elim}
use Prim.Native.Nat.{ℕ, suc, ◌-◌, ◌≤◌}
use native.Mathlib.Omega.{arith}
use lib.Dec.{ltb}
use lib.ListN.{length}
use borrow.Author.Tests.{ltb-true, ltb-false}
use Rattle.laws.specs.Choice.{is_in}
use Rattle.laws.specs.Members.{Among}
use Rattle.laws.proofs.Tests.{never}
use Rattle.laws.proofs.Choices.{pick_by}
use Rattle.laws.proofs.Members.{in_here, in_later, in_cons}
use Rattle.paper_nests.specs.Nests.{Dep, Nest}
use Rattle.paper_nests.specs.Ring.{one_loop}
use Rattle.paper_nests.specs.Valid.{is_shape, is_valid}
use Rattle.paper_nests.proofs.Deps.{Fits, valid_is, deps_fit}
use Rattle.paper_placements.specs.Placements.{is_free, is_correct}
use Rattle.paper_placements.specs.Words.{gaps_of}
use Rattle.paper_placements.proofs.Cuts.{cut_has_gap, avoids_in, correct_by, correct_gaps, correct_avoids, correct_cuts}
use Rattle.paper_placements.proofs.Rising.{rising_in, rising_wider}
use Rattle.paper_barred.specs.Reduced.{some_shut, is_blocked}
use Rattle.paper_barred.proofs.Reduced.{Open, cut_open}
use Rattle.paper_barred.proofs.ReducedNest.{none_shut}
use Rattle.plan_theorem.specs.KeyOf.{key_of}
use Rattle.plan_theorem.proofs.RingKey.{ring_first_smallest}
use Rattle.call_textbook.specs.Sets.{CorrectSet, SmallestSet}
use Rattle.call_textbook.specs.Tries.{try_at, smaller, best_from, best_of, textbook_of}
use Rattle.call_textbook.proofs.Results.{try_correct, try_few}
use Rattle.call_textbook.proofs.Tried.{Tried, is_tried, tried_is}

-- ---- the smallest of some results

-- it is one of them
pub best_is
    : (P : List ℕ → Type 0) (result : ℕ → List ℕ) (best gs : List ℕ) → P best
    → ((g : ℕ) → is_in g gs ≡ true → P (result g)) → P (best_from result best gs)
unfolding best_from
best_is P result best [] b h = b
best_is P result best (g ∷ gs) b h =
    best_is P result (smaller best (result g)) gs
    (pick_by P {t = ltb (length (result g)) (length best)} (λ z. h g (in_here g gs)) (λ z. b))
    (λ i k. h i (in_later i g gs k))

-- and no greater than the one before, or any of them
smaller_left : (a b : List ℕ) → length (smaller a b) ≤ length a
smaller_left a b =
    pick_by (λ (c : List ℕ). length c ≤ length a)
    (λ (z : ltb (length b) (length a) ≡ true). omega (arith, ltb-true (length b) (length a) z))
    (λ (z : ltb (length b) (length a) ≡ false). omega arith)

smaller_right : (a b : List ℕ) → length (smaller a b) ≤ length b
smaller_right a b =
    pick_by (λ (c : List ℕ). length c ≤ length b)
    (λ (z : ltb (length b) (length a) ≡ true). omega arith)
    (λ (z : ltb (length b) (length a) ≡ false). omega (arith, ltb-false (length b) (length a) z))

module _ (result : ℕ → List ℕ) where
  best_before : (best gs : List ℕ) → length (best_from result best gs) ≤ length best
  unfolding best_from
  best_before best [] = omega arith
  best_before best (g ∷ gs) =
      omega (arith, best_before (smaller best (result g)) gs, smaller_left best (result g))

  best_among
      : (best gs : List ℕ) (g : ℕ) → is_in g gs ≡ true → length (best_from result best gs) ≤ length (result g)
  unfolding best_from
  best_among best [] g h = never h
  best_among best (x ∷ xs) g h = ⊎_elim
      (λ (z : g ≡ x).
      rw z
      (omega (arith, best_before (smaller best (result x)) xs, smaller_right best (result x))))
      (λ (z : is_in g xs ≡ true). best_among (smaller best (result x)) xs g z)
      (in_cons g x xs h)

  pub best_few : (gs : List ℕ) (g : ℕ) → is_in g gs ≡ true → length (best_of result gs) ≤ length (result g)
  best_few [] g h = never h
  best_few (x ∷ xs) g h = ⊎_elim
      (λ (z : g ≡ x). rw z (best_before (result x) xs))
      (λ (z : is_in g xs ≡ true). best_among (result x) xs g z)
      (in_cons g x xs h)

  pub best-of
      : (P : List ℕ → Type 0) (gs : List ℕ) (g : ℕ) → is_in g gs ≡ true → ((i : ℕ) → is_in i gs ≡ true → P (result i))
      → P (best_of result gs)
  best-of P [] g h f = never h
  best-of P (x ∷ xs) g h f = best_is P result (result x) xs (f x (in_here x xs)) (λ i k. f i (in_later i x xs k))

-- ---- the placement

module _ (ps bs : List ℕ) where
  abbrev m : ℕ
  m = length ps - 1

  abbrev tried : List ℕ
  tried = gaps_of (is_free bs) (length ps - 1) 1

  correct_opens
      : (ds : List Dep) → ((e : Dep) → Among e ds → Open ps bs e) → CorrectSet ps bs ds (textbook_of ps bs ds)
  correct_opens [] opens = record { gaps = refl; avoiding = refl; cut = λ e a. absurd a }
  correct_opens (e ∷ es) opens =
      let o = opens e (inl refl) in
      best-of (try_at ps bs (e ∷ es)) (CorrectSet ps bs (e ∷ es)) tried o.gap
      (is_tried bs m o.gap (record { first = o.first; inside = o.last; free = o.free }))
      (λ i h. try_correct ps bs (e ∷ es) m refl i (tried_is bs m i h) opens)

  -- correct, where no dependence has all its gaps barred
  pub tries_correct : (ds : List Dep) → some_shut ps bs ds ≡ false → CorrectSet ps bs ds (textbook_of ps bs ds)
  tries_correct ds h = correct_opens ds (none_shut ps bs ds h)

  -- a gap of a correct set may be tried
  set_tried : (ds : List Dep) (gs : List ℕ) → CorrectSet ps bs ds gs → (g : ℕ) → is_in g gs ≡ true → Tried bs m g
  set_tried ds gs c g h =
      let r = rising_in 0 (length ps) gs g c.gaps h in
      record { first = r.0; inside = omega (arith, r.1); free = avoids_in bs gs c.avoiding g h }

  -- so where there is one, none has all its gaps barred
  set_opens : (ds : List Dep) (gs : List ℕ) → CorrectSet ps bs ds gs → (e : Dep) → Among e ds → Open ps bs e
  set_opens ds gs c e a =
      cut_open ps bs e gs
      (rising_wider 0 (length ps) (suc m) gs (omega arith) c.gaps)
      c.avoiding
      (c.cut e a)

  -- of one loop
  module _ (shape : is_shape ps ≡ true) (one-loop : one_loop ps ≡ true) where
    pub textbook_few
        : (ds : List Dep) → ((e : Dep) → Among e ds → Fits ps e) → (gs : List ℕ) → CorrectSet ps bs ds gs
        → length (textbook_of ps bs ds) ≤ length gs
    textbook_few [] fits gs c = omega arith
    textbook_few (e ∷ es) fits gs c =
        let x = cut_has_gap ps e gs (c.cut e (inl refl)) in
        let t = set_tried (e ∷ es) gs c x.gap x.placed in
        omega (
          arith,
          best_few (try_at ps bs (e ∷ es)) tried x.gap (is_tried bs m x.gap t),
          try_few ps bs (e ∷ es) m refl x.gap t shape one-loop fits gs c x.placed,
        )

    module _ (ds : List Dep) (fits : (e : Dep) → Among e ds → Fits ps e) where
      -- so it is a smallest correct set
      pub textbook_smallest : some_shut ps bs ds ≡ false → SmallestSet ps bs ds (textbook_of ps bs ds)
      textbook_smallest h =
          record { correct = tries_correct ds h; smallest = λ gs c. textbook_few ds fits gs c }

      -- its number of barriers is that of any smallest correct set
      pub smallest_count : (gs : List ℕ) → SmallestSet ps bs ds gs → length (textbook_of ps bs ds) ≡ length gs
      smallest_count gs s =
          omega (
            arith,
            textbook_few ds fits gs s.correct,
            s.smallest (textbook_of ps bs ds) (correct_opens ds (set_opens ds gs s.correct)),
          )

-- ---- of a nest

-- correct placements are correct sets
set_of : (n : Nest) (gs : List ℕ) → is_correct n gs ≡ true → CorrectSet n.points n.barred n.deps gs
set_of n gs h = record { gaps = correct_gaps n gs h; avoiding = correct_avoids n gs h; cut = correct_cuts n gs h }

correct_of : (n : Nest) (gs : List ℕ) → CorrectSet n.points n.barred n.deps gs → is_correct n gs ≡ true
correct_of n gs c = correct_by n gs c.gaps c.avoiding c.cut

module _ (n : Nest) (unblocked : is_blocked n ≡ false) where
  -- 02, job 8: it is correct wherever there is a correct placement
  pub textbook_correct : is_correct n (textbook_of n.points n.barred n.deps) ≡ true
  textbook_correct =
      correct_of n (textbook_of n.points n.barred n.deps)
      (tries_correct n.points n.barred n.deps unblocked)

  module _ (valid : is_valid n ≡ true) (one-loop : one_loop n.points ≡ true) where
    key_smallest : SmallestSet n.points n.barred n.deps (key_of n)
    key_smallest =
        let k = ring_first_smallest n valid unblocked one-loop in
        record {
          correct = set_of n (key_of n) k.correct;
          smallest = λ hs c. k.smallest hs (correct_of n hs c);
        }

    -- 02, job 8: its number of barriers equals the key's, on every nest of one loop that has a key
    pub textbook_count : length (textbook_of n.points n.barred n.deps) ≡ length (key_of n)
    textbook_count =
        let v = valid_is n valid in
        smallest_count n.points n.barred v.shape one-loop n.deps
        (deps_fit n.points n.deps v.all-deps) (key_of n) key_smallest
