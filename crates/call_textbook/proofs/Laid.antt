-- From the table of latest starts to the textbook's placement: the first barrier with the fewest cuts is the one that
-- the rule keeps, and what is laid from it is the rule's placement.
-- Main statements: `all_placed`, `barrier_fits`, `laid_textbook`, `none_tried`, `none_to_cut`.
use mathlib.Core.Path.{◌≡◌, refl, sym, ap, subst, ◌∙◌}
use mathlib.Core.Bool.{Bool, true, false, not}
use mathlib.Core.List.{List, [], ◌∷◌}
use mathlib.Core.Logic.{◌⊎◌, inl, inr, ⊎_elim}
use Prim.Native.Nat.{ℕ, zero, suc, ◌+◌, ◌-◌, ◌≤◌, ◌<◌}
use native.Mathlib.Omega.{arith}
use lib.Dec.{ltb}
use lib.ListN.{length}
use borrow.Author.Tests.{ltb-true, lt-ltb}
use Rattle.laws.specs.Choice.{pick, is_in}
use Rattle.laws.specs.Entries.{at}
use Rattle.laws.specs.Members.{Among}
use Rattle.laws.proofs.Tests.{bool_by, false_by, le_or}
use Rattle.laws.proofs.Members.{in_here, in_later}
use Rattle.paper_nests.specs.Nests.{Dep}
use Rattle.paper_placements.specs.Placements.{are_gaps_from, is_free}
use Rattle.paper_placements.specs.Words.{GAPS, kept, holds, gaps_of, gaps_in}
use Rattle.paper_placements.proofs.Rising.{rising_in, rising_equal}
use Rattle.paper_placements.proofs.Words.{in_gaps, in_gaps_beyond, gaps_none, gaps_rising}
use Rattle.call_textbook.specs.Places.{PLACES, gaps_at, last_free, latest_of, cut_places, places_behind, cuts_behind}
use Rattle.call_textbook.specs.Places.{least_from}
use Rattle.call_textbook.specs.Steps.{AreBarred, SmallestSays, AllPlaced, LatestSays, LaySays}
use Rattle.call_textbook.specs.Tries.{rising, try_at, best_from, best_of, textbook_of}
use Rattle.call_textbook.proofs.Alike.{textbook_alike}
use Rattle.call_textbook.proofs.Apart.{in_rising, rising_length}
use Rattle.call_textbook.proofs.Cutting.{places_few}
use Rattle.call_textbook.proofs.Joined.{try_is_cuts}
use Rattle.call_textbook.proofs.Places.{Span}
use Rattle.call_textbook.proofs.Results.{try_gaps}
use Rattle.call_textbook.proofs.Tried.{Tried, tried_is}

-- ---- the fewest cuts

module _ (count : ℕ → ℕ) where
  -- what is kept is what was kept before, or one of the list
  least_in : (best least : ℕ) (gs : List ℕ)
      → (least_from count best least gs ≡ best) ⊎ (is_in (least_from count best least gs) gs ≡ true)
  unfolding least_from
  least_in best least [] = inl refl
  least_in best least (g ∷ gs) =
      go (ltb (count g) least)
      (least_in (pick (ltb (count g) least) g best) (pick (ltb (count g) least) (count g) least) gs)
    where
      go
          : (t : Bool)
          → (least_from count (pick t g best) (pick t (count g) least) gs ≡ pick t g best) ⊎
          (is_in (least_from count (pick t g best) (pick t (count g) least) gs) gs ≡ true)
          → (least_from count (pick t g best) (pick t (count g) least) gs ≡ best) ⊎
          (is_in (least_from count (pick t g best) (pick t (count g) least) gs) (g ∷ gs) ≡ true)
      go true (inl e) = inr (let P : ℕ → Type 0 = λ n. is_in n (g ∷ gs) ≡ true in subst P (sym e) (in_here g gs))
      go true (inr e) = inr (in_later (least_from count g (count g) gs) g gs e)
      go false (inl e) = inl e
      go false (inr e) = inr (in_later (least_from count best least gs) g gs e)

  first_taken : (g : ℕ) (gs : List ℕ) → count g < PLACES
      → least_from count 0 PLACES (g ∷ gs) ≡ least_from count g (count g) gs
  unfolding least_from
  first_taken g gs l = rw (lt-ltb (count g) PLACES l)

  -- a result has the first barrier besides its cuts
  module _ (result : ℕ → List ℕ) where
    abbrev Sized : List ℕ → Type 0
    Sized gs = (g : ℕ) → is_in g gs ≡ true → length (result g) ≡ suc (count g)

    best_least
        : (best least : ℕ) (gs : List ℕ) → length (result best) ≡ suc least → Sized gs
        → best_from result (result best) gs ≡ result (least_from count best least gs)
    unfolding best_from least_from
    best_least best least [] b s = refl
    best_least best least (g ∷ gs) b s =
        rw same (go (ltb (count g) least) (λ k l. best_least k l gs))
      where
        here : length (result g) ≡ suc (count g)
        here = s g (in_here g gs)

        same : ltb (length (result g)) (length (result best)) ≡ ltb (count g) least
        same =
            bool_by (ltb (length (result g)) (length (result best))) (ltb (count g) least)
            (λ h. lt-ltb (count g) least (omega (arith, here, ltb-true (length (result g)) (length (result best)) h)))
            (λ h.
            lt-ltb (length (result g)) (length (result best)) (omega (arith, here, ltb-true (count g) least h)))

        go
            : (t : Bool)
            → ((k l : ℕ) → length (result k) ≡ suc l → Sized gs
            → best_from result (result k) gs ≡ result (least_from count k l gs))
            → best_from result (pick t (result g) (result best)) gs ≡
            result (least_from count (pick t g best) (pick t (count g) least) gs)
        go true rest = rest g (count g) here (λ i h. s i (in_later i g gs h))
        go false rest = rest best least b (λ i h. s i (in_later i g gs h))

    best_chosen
        : (gs : List ℕ) → Sized gs → ((g : ℕ) → count g < PLACES) → 0 < least_from count 0 PLACES gs
        → best_of result gs ≡ result (least_from count 0 PLACES gs)
    unfolding least_from
    best_chosen [] s few h = absurd (omega arith)
    best_chosen (g ∷ gs) s few h =
        best_least g (count g) gs (s g (in_here g gs)) (λ i k. s i (in_later i g gs k)) ∙
        ap result (sym (first_taken g gs (few g)))

-- ---- tables that agree

cuts_alike
    : (f h : ℕ → ℕ) (last k p : ℕ) → ((q : ℕ) → p ≤ q → q < p + k → f q ≡ h q)
    → cut_places f last k p ≡ cut_places h last k p
unfolding cut_places
cuts_alike f h last zero p e = refl
cuts_alike f h last (suc k) p e =
    rw (e p (omega arith) (omega arith))
    (ap (kept (ltb last (h p)) p)
    (cuts_alike f h (pick (ltb last (h p)) p last) k (suc p) (λ q a b. e q (omega arith) (omega arith))))

gaps_length : (m : ℕ) (ps : List ℕ) → length (gaps_at m ps) ≡ length ps
gaps_length m [] = refl
gaps_length m (p ∷ ps) = ap suc (gaps_length m ps)

-- ---- the placement

-- dependences whose gaps are places lie on the ring laid out twice
pub all_placed
    : (ps : List ℕ) (ds : List Dep) (m : ℕ) → ((e : Dep) → Among e ds → Span m ps e) → AllPlaced m ds
all_placed ps ds m spans e a =
    let x = spans e a in
    record { source = x.source; last = omega (arith, x.once, x.source) }

textbook_some
    : (ps bs : List ℕ) (ds : List Dep) → 0 < length ds
    → textbook_of ps bs ds ≡ best_of (try_at ps bs ds) (gaps_of (is_free bs) (length ps - 1) 1)
textbook_some ps bs [] h = absurd (omega arith)
textbook_some ps bs (e ∷ es) h = refl

module _
    (ps bars : List ℕ) (ds : List Dep) (m : ℕ) (m_is : m ≡ length ps - 1) (few : m < GAPS)
    (spans : (e : Dep) → Among e ds → Span m ps e)
    (latest : List ℕ) (says : LatestSays (gaps_in bars) m ds latest)
  where
    abbrev bs : List ℕ
    bs = gaps_in bars

    abbrev tried : List ℕ
    tried = gaps_of (is_free bs) m 1

    abbrev kept_barrier : ℕ
    kept_barrier = least_from (cuts_behind (at latest) m) 0 PLACES tried

    -- what is tried, by the table
    try_here : (g : ℕ) → Tried bs m g → try_at ps bs ds g ≡ rising (g ∷ gaps_at m (places_behind (at latest) m g))
    try_here g t =
        let same : places_behind (at latest) m g ≡ places_behind (latest_of (last_free bs m) m ds) m g =
        cuts_alike (at latest) (latest_of (last_free bs m) m ds) g (m - 1) (suc g)
        (λ q a b. says q (omega (arith, t.inside))) in
        rw same (try_is_cuts ps bs ds m m_is spans g t)

    try_size : (g : ℕ) → is_in g tried ≡ true → length (try_at ps bs ds g) ≡ suc (cuts_behind (at latest) m g)
    try_size g h =
        let ls = gaps_at m (places_behind (at latest) m g) in
        ap length (try_here g (tried_is bs m g h)) ∙
        rising_length (g ∷ ls) ∙
        ap suc (gaps_length m (places_behind (at latest) m g))

    few_cuts : (g : ℕ) → cuts_behind (at latest) m g < PLACES
    few_cuts g = omega (arith, places_few (at latest) g (m - 1) (suc g))

    barrier_tried : 0 < kept_barrier → Tried bs m kept_barrier
    barrier_tried h = ⊎_elim
        (λ (z : kept_barrier ≡ 0). absurd (omega arith))
        (λ (z : is_in kept_barrier tried ≡ true). tried_is bs m kept_barrier z)
        (least_in (cuts_behind (at latest) m) 0 PLACES tried)

    -- of any list of the barred gaps, the rule's placement is the best of what is tried
    barred_alike
        : (cs : List ℕ) → AreBarred cs bars → 0 < length ds → textbook_of ps cs ds ≡ best_of (try_at ps bs ds) tried
    barred_alike cs h some =
        textbook_alike ps cs bs
        (λ i f l. ap not (h i (omega arith) ∙ sym (in_gaps bars i (omega arith))))
        ds ∙
        textbook_some ps bs ds some ∙
        ap (λ (k : ℕ). best_of (try_at ps bs ds) (gaps_of (is_free bs) k 1)) (sym m_is)

    module _
        (g : ℕ) (g_is : g ≡ least_from (cuts_behind (at latest) m) 0 PLACES (gaps_of (is_free (gaps_in bars)) m 1))
        (some : 0 < length ds)
      where
        its_tried : 0 < g → Tried bs m g
        its_tried h = rw g_is (barrier_tried (omega arith))

        pub barrier_fits : 0 < g → g ≤ m
        barrier_fits h = (its_tried h).inside

        module _ (h : 0 < g) (ws : List ℕ) (laid : LaySays (at latest) m g ws) where
          in_tried : (i : ℕ) → holds ws i ≡ is_in i (try_at ps bs ds g)
          in_tried i =
              laid i ∙
              sym
              (ap (is_in i) (try_here g (its_tried h)) ∙ in_rising i (g ∷ gaps_at m (places_behind (at latest) m g)))

          up : are_gaps_from 0 (length ps) (try_at ps bs ds g) ≡ true
          up = try_gaps ps bs ds m m_is g (its_tried h)

          outside : (i : ℕ) → (i ≤ 0) ⊎ (length ps ≤ i) → is_in i (try_at ps bs ds g) ≡ false
          outside i o =
              false_by (λ z.
              let r = rising_in 0 (length ps) (try_at ps bs ds g) i up z in
              ⊎_elim (λ (q : i ≤ 0). omega (arith, r.0)) (λ (q : length ps ≤ i). omega (arith, r.1)) o)

          laid_is_tried : gaps_in ws ≡ try_at ps bs ds g
          laid_is_tried =
              rising_equal 0 (length ps) (gaps_in ws) (try_at ps bs ds g)
              (gaps_rising ws (length ps)
              (in_tried 0 ∙ outside 0 (inl (omega arith)))
              (λ i a b. in_tried i ∙ outside i (inr b)))
              up
              (λ i.
              ⊎_elim
              (λ (z : GAPS ≤ i). in_gaps_beyond ws i z ∙ sym (outside i (inr (omega arith))))
              (λ (z : i < GAPS). in_gaps ws i z ∙ in_tried i)
              (le_or GAPS i))

          pub laid_textbook : SmallestSays ps ds bars ws
          laid_textbook cs barred =
              laid_is_tried ∙
              ap (try_at ps bs ds) g_is ∙
              sym
              (barred_alike cs barred some ∙
              best_chosen (cuts_behind (at latest) m) (try_at ps bs ds) tried try_size few_cuts (omega arith))

        -- where no first barrier is kept, none was tried
        all_barred : g ≤ 0 → gaps_of (is_free (gaps_in bars)) m 1 ≡ []
        all_barred h = go tried refl
          where
            go : (gs : List ℕ) → gaps_of (is_free (gaps_in bars)) m 1 ≡ gs → tried ≡ []
            go [] e = e
            go (x ∷ xs) e =
                let c = cuts_behind (at latest) m in
                let z : g ≡ least_from c x (c x) xs =
                g_is ∙ ap (least_from c 0 PLACES) e ∙ first_taken c x xs (few_cuts x) in
                let member : (i : ℕ) → is_in i (x ∷ xs) ≡ true → 0 < i =
                λ i k. (tried_is bs m i (ap (is_in i) e ∙ k)).first in
                absurd
                (⊎_elim
                (λ (q : least_from c x (c x) xs ≡ x). omega (arith, member x (in_here x xs)))
                (λ (q : is_in (least_from c x (c x) xs) xs ≡ true).
                omega (arith, member (least_from c x (c x) xs) (in_later (least_from c x (c x) xs) x xs q)))
                (least_in c x (c x) xs))

        pub none_tried : g ≤ 0 → (ws : List ℕ) → ((i : ℕ) → holds ws i ≡ false) → SmallestSays ps ds bars ws
        none_tried h ws none cs barred =
            gaps_none ws (λ i l. none i) ∙
            sym (barred_alike cs barred some ∙ ap (best_of (try_at ps bs ds)) (all_barred h))

-- a paper with no dependence needs none
pub none_to_cut
    : (ps bars : List ℕ) (ds : List Dep) → length ds ≤ 0 → (ws : List ℕ) → ((i : ℕ) → holds ws i ≡ false)
    → SmallestSays ps ds bars ws
none_to_cut ps bars [] h ws none cs barred = gaps_none ws (λ i l. none i)
none_to_cut ps bars (e ∷ es) h ws none cs barred = absurd (omega arith)
