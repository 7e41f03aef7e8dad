-- The key of a nest of one loop with barred gaps: the plain key of the nest of its unbarred gaps, taken back. The
-- placements that avoid barred gaps are those of that nest, renumbered; the renumbering keeps what is cut, how many
-- gaps there are and which of two lists comes first.
-- Main statements: `order_ranked`, `barred_first_smallest`, `barred_is_first`; `barred_as_set`, of every nest.
use mathlib.Core.Path.{◌≡◌, refl, sym, ap, ◌∙◌, subst}
use mathlib.Core.Bool.{true, false, ◌&&◌}
use mathlib.Core.List.{List, [], ◌∷◌}
use Prim.Native.Nat.{ℕ, zero, suc, ◌-◌, ◌≤◌}
use native.Mathlib.Omega.{arith}
use lib.Dec.{eqb}
use lib.ListN.{length}
use borrow.Author.Tests.{eq-eqb, eqb-true}
use Rattle.laws.specs.Choice.{is_in}
use Rattle.laws.specs.Members.{Among}
use Rattle.laws.proofs.Members.{in_here, no_members}
use Rattle.laws.proofs.Tests.{never, and_true, bool_by}
use Rattle.paper_nests.specs.Nests.{Dep, Nest, barring}
use Rattle.paper_nests.specs.Ring.{one_loop}
use Rattle.paper_nests.specs.Valid.{is_shape, is_valid}
use Rattle.paper_nests.proofs.Loops.{outermost}
use Rattle.paper_nests.proofs.Deps.{Fits, valid_is, deps_fit}
use Rattle.paper_placements.specs.Placements.{are_gaps_from, are_gaps, is_free, avoids, uncut, is_correct}
use Rattle.paper_placements.proofs.Cuts.{uncut_none, avoids_none, correct_by, correct_gaps, correct_avoids, correct_uncut}
use Rattle.paper_placements.proofs.Words.{gaps_of_same}
use Rattle.paper_placements.proofs.Rising.{rising_wider}
use Rattle.paper_barred.specs.Ranks.{rank, ranks, unranked}
use Rattle.paper_barred.specs.Reduced.{is_blocked, ring_points, reduced_dep, reduced_deps, reduced}
use Rattle.paper_barred.proofs.Ranks.{rank_zero, ranked_above, ranked_equal, rank_alike}
use Rattle.paper_barred.proofs.Renumbered.{ranks_length, ranks_rising, unranked_rising, unranked_avoids, ranks_unranked}
use Rattle.paper_barred.proofs.RingPoints.{ring_length, ring_shape, ring_one}
use Rattle.paper_barred.proofs.ReducedNest.{reduced_valid, uncut_ranked, no_gap_no_dep}
use Rattle.plan_theorem.specs.KeyOf.{plain_key, key_ranks, barred_key, key_of}
use Rattle.plan_theorem.specs.ListOrder.{first_in_order}
use Rattle.plan_theorem.specs.OneKey.{IsFirstKey, IsFirstSmallest}
use Rattle.plan_theorem.proofs.FirstSmallest.{first_smallest, smallest_first}
use Rattle.plan_theorem.proofs.KeyGaps.{key_barred}
use Rattle.plan_theorem.proofs.PlainKey.{plain_is_first}

-- of two placements that avoid barred gaps the same comes first before and after the renumbering
pub order_ranked
    : (bs xs ys : List ℕ)
    → avoids bs xs ≡ true
    → avoids bs ys ≡ true
    → first_in_order (ranks bs xs) (ranks bs ys) ≡ first_in_order xs ys
order_ranked bs [] ys v w = refl
order_ranked bs (x ∷ xs) [] v w = refl
order_ranked bs (x ∷ xs) (y ∷ ys) v w =
    let a = and_true (is_free bs x) (avoids bs xs) v in
    let b = and_true (is_free bs y) (avoids bs ys) w in
    let e : eqb (rank bs x) (rank bs y) ≡ eqb x y =
    bool_by (eqb (rank bs x) (rank bs y)) (eqb x y)
    (λ h. eq-eqb x y (ranked_equal bs x y a.0 b.0 (eqb-true (rank bs x) (rank bs y) h)))
    (λ h. eq-eqb (rank bs x) (rank bs y) (ap (rank bs) (eqb-true x y h))) in
    rw (e, ranked_above bs x y b.0, order_ranked bs xs ys a.1 b.1)

ring_more : (m : ℕ) → suc m ≤ length (ring_points m)
ring_more zero = omega arith
ring_more (suc m) = omega (arith, ring_length (suc m) (omega arith))

module _
    (n : Nest) (valid : is_valid n ≡ true) (one : one_loop n.points ≡ true) (unblocked : is_blocked n ≡ false) where
  abbrev bs : List ℕ
  bs = n.barred

  abbrev last : ℕ
  last = length n.points - 1

  abbrev ring : Nest
  ring = reduced n.points bs n.deps

  shape : is_shape n.points ≡ true
  shape = (valid_is n valid).shape

  fits : (e : Dep) → Among e n.deps → Fits n.points e
  fits = deps_fit n.points n.deps (valid_is n valid).all-deps

  ring_valid : is_valid ring ≡ true
  ring_valid =
      let v = valid_is n valid in
      reduced_valid n.points bs shape one n.deps v.few_points v.few_deps fits unblocked

  ring_key : IsFirstSmallest ring (plain_key ring)
  ring_key =
      first_smallest ring (ring_shape (rank bs last)) (ring_one (rank bs last)) (plain_key ring)
      (plain_is_first ring ring_valid refl)

  -- gaps 1 to the last
  all_points : length n.points ≡ suc last
  all_points = omega (arith, outermost n.points shape)

  gaps_to : (gs : List ℕ) → are_gaps n gs ≡ true → are_gaps_from 0 (suc last) gs ≡ true
  gaps_to gs h = subst (λ (l : ℕ). are_gaps_from 0 l gs ≡ true) all_points h

  -- the ranks of a correct placement, which avoids barred gaps, are a correct placement there
  ranks_correct : (gs : List ℕ) → is_correct n gs ≡ true → is_correct ring (ranks bs gs) ≡ true
  ranks_correct gs c =
      correct_by ring (ranks bs gs)
      (rising_wider 0 (suc (rank bs last)) (length (ring_points (rank bs last))) (ranks bs gs) (ring_more (rank bs last))
      rising)
      (avoids_none [] refl (ranks bs gs))
      (uncut_none ring (ranks bs gs)
      (uncut_ranked n.points bs shape one 0 n.deps gs fits (gaps_to gs (correct_gaps n gs c))
      (correct_avoids n gs c) ∙
      correct_uncut n gs c))
    where
      rising : are_gaps_from 0 (suc (rank bs last)) (ranks bs gs) ≡ true
      rising =
          rw (rank_zero bs) at
          (ranks_rising bs 0 last gs (gaps_to gs (correct_gaps n gs c)) (correct_avoids n gs c))

  -- and its key's gaps are ranks
  key-ranks : are_gaps_from 0 (suc (rank bs last)) (plain_key ring) ≡ true
  key-ranks = go (rank bs last) refl
    where
      -- without unbarred gaps there is nothing to cut
      none : rank bs last ≡ 0 → plain_key ring ≡ []
      none z =
          let e = no_gap_no_dep n.points bs shape one n.deps fits unblocked z in
          let c : is_correct ring [] ≡ true = ap (λ (ds : List Dep). is_correct (reduced n.points bs ds) []) e in
          no_members (plain_key ring) (ring_key.smallest [] c)

      go : (m : ℕ) → rank bs last ≡ m → are_gaps_from 0 (suc m) (plain_key ring) ≡ true
      go zero z = rw (none z)
      go (suc m) z =
          let l : length (ring_points (rank bs last)) ≡ suc (suc m) =
          rw z (ring_length (suc m) (omega arith)) in
          subst (λ (k : ℕ). are_gaps_from 0 k (plain_key ring) ≡ true) l
          (correct_gaps ring (plain_key ring) ring_key.correct)

  ranked_key : ranks bs (barred_key n) ≡ plain_key ring
  ranked_key = ranks_unranked bs last (plain_key ring) key-ranks

  key_length : length (barred_key n) ≡ length (plain_key ring)
  key_length = sym (ranks_length bs (barred_key n)) ∙ ap length ranked_key

  key_avoids : avoids bs (barred_key n) ≡ true
  key_avoids = unranked_avoids bs last (key_ranks n)

  key_correct : is_correct n (barred_key n) ≡ true
  key_correct =
      correct_by n (barred_key n)
      (subst (λ (l : ℕ). are_gaps_from 0 l (barred_key n) ≡ true) (sym all_points) rising)
      key_avoids
      (uncut_none n (barred_key n)
      (sym (uncut_ranked n.points bs shape one 0 n.deps (barred_key n) fits rising key_avoids) ∙
      ap (uncut ring) ranked_key ∙
      correct_uncut ring (plain_key ring) ring_key.correct))
    where
      rising : are_gaps_from 0 (suc last) (barred_key n) ≡ true
      rising = unranked_rising bs last (key_ranks n)

  -- 02, job 7: the first of the smallest correct sets without barred gaps
  pub barred_first_smallest : IsFirstSmallest n (barred_key n)
  barred_first_smallest = record { correct = key_correct; smallest = smallest; first = first }
    where
      smallest : (gs : List ℕ) → is_correct n gs ≡ true → length (barred_key n) ≤ length gs
      smallest gs c =
          omega (arith, key_length, ranks_length bs gs, ring_key.smallest (ranks bs gs) (ranks_correct gs c))

      first
          : (gs : List ℕ)
          → is_correct n gs ≡ true
          → length gs ≤ length (barred_key n)
          → first_in_order (barred_key n) gs ≡ true
      first gs c l =
          sym (order_ranked bs (barred_key n) gs key_avoids (correct_avoids n gs c)) ∙
          ap (λ (k : List ℕ). first_in_order k (ranks bs gs)) ranked_key ∙
          ring_key.first (ranks bs gs) (ranks_correct gs c) (omega (arith, key_length, ranks_length bs gs))

  pub barred_is_first : IsFirstKey n (barred_key n)
  barred_is_first = smallest_first n shape one (barred_key n) barred_first_smallest

-- ---- which gaps are barred decides, not how they are listed

module _ (ps : List ℕ) (ds : List Dep) (xs ys : List ℕ) (same : (i : ℕ) → is_in i xs ≡ is_in i ys) where
  dep_alike : (m : ℕ) (e : Dep) → reduced_dep xs m e ≡ reduced_dep ys m e
  dep_alike m e = rw (rank_alike xs ys same e.s, rank_alike xs ys same e.t)

  deps_alike : (m : ℕ) (es : List Dep) → reduced_deps xs m es ≡ reduced_deps ys m es
  deps_alike m [] = refl
  deps_alike m (e ∷ es) = rw (dep_alike m e, deps_alike m es)

  reduced_alike : reduced ps xs ds ≡ reduced ps ys ds
  reduced_alike = rw (rank_alike xs ys same (length ps - 1), deps_alike (rank ys (length ps - 1)) ds)

  barred_alike : barred_key (barring ps ds xs) ≡ barred_key (barring ps ds ys)
  barred_alike =
      let k = length ps - 1 in
      let r = plain_key (reduced ps xs ds) in
      gaps_of_same (λ g. is_free xs g && is_in (rank xs g) r) (λ g. is_free ys g && is_in (rank ys g) r) k 1
      (λ i a b. rw (same i, rank_alike xs ys same i)) ∙
      ap (λ (x : Nest). unranked ys k (plain_key x)) reduced_alike

-- the same members: nothing is barred in both, or something is in both
key_alike
    : (ps : List ℕ) (ds : List Dep) (xs ys : List ℕ)
    → ((i : ℕ) → is_in i xs ≡ is_in i ys)
    → key_of (barring ps ds xs) ≡ key_of (barring ps ds ys)
key_alike ps ds [] [] same = refl
key_alike ps ds [] (y ∷ ys) same = never (same y ∙ in_here y ys)
key_alike ps ds (x ∷ xs) [] same = never (sym (same x) ∙ in_here x xs)
key_alike ps ds (x ∷ xs) (y ∷ ys) same =
    key_barred (barring ps ds (x ∷ xs)) (omega arith) ∙
    barred_alike ps ds (x ∷ xs) (y ∷ ys) same ∙
    sym (key_barred (barring ps ds (y ∷ ys)) (omega arith))

-- 02, job 10: which loops are flagged plays no part
pub key_ignores_flags : (n : Nest) → key_of n ≡ key_of (barring n.points n.deps n.barred)
unfolding key_of plain_key
key_ignores_flags n = refl

-- 02, job 7: the key depends on the set of barred gaps only
pub barred_as_set
    : (n m : Nest)
    → n.points ≡ m.points
    → n.deps ≡ m.deps
    → ((g : ℕ) → is_in g n.barred ≡ is_in g m.barred)
    → key_of n ≡ key_of m
barred_as_set n m points deps same =
    key_ignores_flags n ∙
    ap (λ (ps : List ℕ). key_of (barring ps n.deps n.barred)) points ∙
    ap (λ (ds : List Dep). key_of (barring m.points ds n.barred)) deps ∙
    key_alike m.points m.deps n.barred m.barred same ∙
    sym (key_ignores_flags m)
