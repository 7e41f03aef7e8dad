-- The call that tries for fewer barrier calls keeps its page: its rounds and its floor are those of the definitions,
-- step by step.
-- Main statements: `taken_made`, `rounds_made`, `floor_made`, `improve_kept`.
use mathlib.Core.Path.{◌≡◌, refl, sym, ◌∙◌, ap, subst}
use mathlib.Core.Bool.{Bool, true, false, ◌&&◌, not}
use mathlib.Core.List.{List, [], ◌∷◌, ◌++◌}
use mathlib.Core.Logic.{inl, inr, ⊎_elim}
use Prim.Native.Nat.{ℕ, zero, suc, ◌+◌, ◌-◌, ◌≤◌, ◌<◌}
use native.Mathlib.Omega.{arith}
use lib.Dec.{eqb, ltb}
use lib.ListN.{length}
use borrow.Author.Tests.{eq-eqb, ne_eqb, eqb-true, eqb-false, ltb-true, ltb-false, not-true}
use Rattle.laws.specs.Choice.{pick, when, is_in}
use Rattle.laws.proofs.Choices.{first_zero, unless_zero}
use Rattle.laws.proofs.Members.{in_here, in_later, in_cons}
use Rattle.laws.proofs.Tests.{never, never_both, and_true, and_intro, or-true, or_left, or_right, false_by, le_or}
use Rattle.paper_nests.specs.declared.Dependence as DE
use Rattle.paper_nests.specs.Nests.{Nest}
use Rattle.paper_nests.specs.Gaps.{has_gap}
use Rattle.paper_nests.specs.Valid.{is_shape, is_valid}
use Rattle.paper_nests.specs.Stored.{dep_in, nest_in}
use Rattle.paper_nests.proofs.Deps.{Fits, valid_is, target_gap}
use Rattle.paper_placements.specs.Placements.{cuts, uncut, are_gaps_from, are_gaps, is_free, avoids, is_correct}
use Rattle.paper_placements.specs.GapLists.{with_gap, without}
use Rattle.paper_placements.specs.Words.{gaps_in}
use Rattle.paper_placements.proofs.Cuts.{avoids_by, correct_gaps}
use Rattle.paper_placements.proofs.GapLists.{in_with, in_without, rising_with, rising_without}
use Rattle.paper_placements.proofs.Rising.{rising_in, rising_wider}
use Rattle.paper_placements.proofs.Words.{gaps_of_in, gaps_of_rising}
use Rattle.run_barriers.specs.Calls.{OUTER, dos_before, times_at, calls_in, calls_of, are_turns}
use Rattle.desk.specs.declared.Desk as DD
use Rattle.desk.specs.Desks.{desk_in, IsMade, state_fault}
use Rattle.desk.proofs.Ready.{ready}
use Rattle.call_runs.specs.Says.{can_count}
use Rattle.call_runs.proofs.Countable.{countable}
use Rattle.call_gaps.specs.Says.{gaps_had}
use Rattle.call_improve.specs.declared.Improved as DI
use Rattle.call_improve.specs.Tries.{free_of, taken_away, try_at}
use Rattle.call_improve.specs.Rounds.{Outcome, go, improved_of}
use Rattle.call_improve.specs.Floor.{cheapest, floor_from}
use Rattle.call_improve.specs.Says as S
use Rattle.call_improve.specs.Says.{reply_in, improve_fault, found_of, ImproveSays}
use Rattle.call_improve.proofs.FloorBelow.{cheapest_least, cheapest_is}
use Rattle.call_improve.proofs.Results.{reply_correct, reply_within, reply_more_budget, reply_floor}
use Rattle.pages.specs.Demands.{In, Paper, Correct, KeyOn}
use Rattle.pages.proofs.Lists.{in_is, is-in}
use Rattle.pages.proofs.Placements.{mapped, nest_of, nest_of_paper, gap_is, is-gap, is-cut, cut_is, is_rising}
use Rattle.pages.proofs.Placements.{correct_is, is-correct}
use Rattle.pages.proofs.Keys.{shaped, fit}
use Rattle.pages.proofs.Desks.{reached_made}
use Rattle.pages.proofs.Kept.{paper_on, flags_of, set_here, key_same, key_key, right}
use Rattle.pages_requests.proofs.Blocking.{gap_there}
use Rattle.pages_calls.specs.CallsInRun.{Times, Calls, CallsNumber}
use Rattle.pages_calls.specs.Improve.{With, Without, Free, TakenAway, Try, Rounds, Had, Cheapest, Floor, Given}
use Rattle.pages_calls.specs.Improve.{Improving}
use Rattle.pages_calls.proofs.CallsKept.{times_is, times_made, calls_are, calls_made, calls_number}

-- ---- sets with a gap more or less

module _ (p : Paper) (fl : List ℕ) (valid : is_valid (nest_of p fl) ≡ true) (nb : p.barred ≡ []) where
  abbrev n : Nest
  n = nest_of p fl

  abbrev ps : List ℕ
  ps = p.points

  shape : is_shape ps ≡ true
  shape = shaped p fl valid

  -- nothing is barred, so that what cuts all is correct
  right_by : (xs : List ℕ) → are_gaps n xs ≡ true → uncut n xs ≡ 0 → Correct p xs
  right_by xs r u =
      is-correct p fl shape (fit p fl valid) xs
      (and_intro r
      (and_intro (avoids_by p.barred xs (λ i h. ap (λ (bs : List ℕ). is_free bs i) nb)) (eq-eqb (uncut n xs) 0 u)))

  by_right : (xs : List ℕ) → Correct p xs → uncut n xs ≡ 0
  by_right xs c =
      let a = and_true (are_gaps n xs) (avoids p.barred xs && eqb (uncut n xs) 0) (correct_is p fl shape xs c) in
      eqb-true (uncut n xs) 0 (and_true (avoids p.barred xs) (eqb (uncut n xs) 0) a.1).1

  with_rising
      : (g : ℕ) (xs : List ℕ) → are_gaps n xs ≡ true → 0 < g → g < length ps → is_in g xs ≡ false
      → are_gaps n (with_gap g xs) ≡ true
  with_rising g xs r a b i = rising_with 0 (length ps) g xs r a b i

  with_made : (g : ℕ) (xs : List ℕ) → are_gaps n (with_gap g xs) ≡ true → With p g xs (with_gap g xs)
  with_made g xs r =
      record {
        rising = is_rising (length ps) 0 (with_gap g xs) r;
        members =
            λ h. (
              (λ i.
                  ⊎_elim
                  (λ (z : eqb h g ≡ true). inl (eqb-true h g z))
                  (λ (z : is_in h xs ≡ true). inr (is-in h xs z))
                  (or-true (eqb h g) (is_in h xs) (sym (in_with g h xs) ∙ in_is h (with_gap g xs) i.0 i.1))),
              (λ i.
                  is-in h (with_gap g xs)
                  (in_with g h xs ∙
                  ⊎_elim
                  (λ (z : h ≡ g). or_left (is_in h xs) (eq-eqb h g z))
                  (λ (z : In h xs). or_right (eqb h g) (in_is h xs z.0 z.1))
                  i)),
            );
      }

  without_made : (g : ℕ) (xs : List ℕ) → are_gaps n xs ≡ true → Without p g xs (without g xs)
  without_made g xs r =
      let law : (h : ℕ) → is_in h (without g xs) ≡ (not (eqb h g) && is_in h xs) =
      λ h. in_without 0 (length ps) g h xs r in
      record {
        rising = is_rising (length ps) 0 (without g xs) (rising_without 0 (length ps) g xs r);
        members =
            λ h. (
              (λ i.
                  let z = and_true (not (eqb h g)) (is_in h xs) (sym (law h) ∙ in_is h (without g xs) i.0 i.1) in
                  (eqb-false h g (not-true (eqb h g) z.0), is-in h xs z.1)),
              (λ i.
                  is-in h (without g xs)
                  (law h ∙ and_intro (ap not (ne_eqb h g i.0)) (in_is h xs i.1.0 i.1.1))),
            );
      }

  free_rising : (xs : List ℕ) → are_gaps n (free_of n xs) ≡ true
  free_rising xs =
      gaps_of_rising (λ g. not (is_in g xs)) (length ps) (length ps - 1) 1 0 (λ i a b c. (omega arith, omega arith))

  pub free_in : (xs : List ℕ) (h : ℕ) → is_in h (free_of n xs) ≡ true → (0 < h) × (h < length ps) × (is_in h xs ≡ false)
  free_in xs h i =
      let r = rising_in 0 (length ps) (free_of n xs) h (free_rising xs) i in
      let e = gaps_of_in (λ g. not (is_in g xs)) (length ps - 1) 1 h (omega (arith, r.0)) (omega (arith, r.0, r.1)) in
      (r.0, r.1, not-true (is_in h xs) (sym e ∙ i))

  free_made : (xs : List ℕ) → Free p xs (free_of n xs)
  free_made xs =
      record {
        rising = is_rising (length ps) 0 (free_of n xs) (free_rising xs);
        members =
            λ h. (
              (λ i.
                  let z = free_in xs h (in_is h (free_of n xs) i.0 i.1) in
                  (z.0, z.1, λ j. never_both (in_is h xs j.0 j.1) z.2)),
              (λ i.
                  is-in h (free_of n xs)
                  (gaps_of_in (λ g. not (is_in g xs)) (length ps - 1) 1 h (omega (arith, i.0))
                  (omega (arith, i.0, i.1)) ∙
                  ap not (false_by (λ z. i.2 (is-in h xs z))))),
            );
      }

  -- ---- a try

  taken_rising : (hs xs : List ℕ) → are_gaps n xs ≡ true → are_gaps n (taken_away n hs xs) ≡ true
  unfolding taken_away
  taken_rising [] xs r = r
  taken_rising (h ∷ hs) xs r =
      at (eqb (uncut n (without h xs)) 0) (taken_rising hs (without h xs) (rising_without 0 (length ps) h xs r))
      (taken_rising hs xs r)
    where
      at
          : (t : Bool) → are_gaps n (taken_away n hs (without h xs)) ≡ true → are_gaps n (taken_away n hs xs) ≡ true
          → are_gaps n (taken_away n hs (pick t (without h xs) xs)) ≡ true
      at true a b = a
      at false a b = b

  taken_made : (hs xs : List ℕ) → are_gaps n xs ≡ true → TakenAway p hs xs (taken_away n hs xs)
  unfolding taken_away
  taken_made [] xs r = TakenAway.done
  taken_made (h ∷ hs) xs r =
      at (eqb (uncut n (without h xs)) 0) refl
      (taken_made hs (without h xs) (rising_without 0 (length ps) h xs r)) (taken_made hs xs r)
    where
      at
          : (t : Bool) → eqb (uncut n (without h xs)) 0 ≡ t
          → TakenAway p hs (without h xs) (taken_away n hs (without h xs))
          → TakenAway p hs xs (taken_away n hs xs) → TakenAway p (h ∷ hs) xs (taken_away n hs (pick t (without h xs) xs))
      at true e a b =
          TakenAway.away (without_made h xs r)
          (right_by (without h xs) (rising_without 0 (length ps) h xs r) (eqb-true (uncut n (without h xs)) 0 e)) a
      at false e a b =
          TakenAway.stays (without_made h xs r)
          (λ c. eqb-false (uncut n (without h xs)) 0 e (by_right (without h xs) c)) b

  try_made : (xs : List ℕ) (g : ℕ) → are_gaps n (with_gap g xs) ≡ true → Try p xs g (try_at n xs g)
  try_made xs g r =
      record { put = with_gap g xs; is_put = with_made g xs r; taken = taken_made xs (with_gap g xs) r }

  -- ---- rounds

  module _ (ts : List ℕ) (long : length ts ≡ dos_before ps (length ps)) where
    abbrev Ended : ℕ → List ℕ → List ℕ → ℕ → Outcome → Type 0
    Ended b xs gs k o = Rounds p ts b xs gs k o.gaps o.tries (pick o.whole 0 1)

    abbrev Tries : List ℕ → List ℕ → Type 0
    Tries xs gs = (g : ℕ) → is_in g gs ≡ true → (0 < g) × (g < length ps) × (is_in g xs ≡ false)

    pub rounds_made
        : (b : ℕ) (xs gs : List ℕ) (k : ℕ) → are_gaps n xs ≡ true → Tries xs gs → Ended b xs gs k (go n ts b xs gs k)
    unfolding go
    rounds_made zero xs [] k r f = Rounds.whole
    rounds_made zero xs (g ∷ gs) k r f = Rounds.budget
    rounds_made (suc b) xs [] k r f = Rounds.whole
    rounds_made (suc b) xs (g ∷ gs) k r f =
        let i = f g (in_here g gs) in
        let w = with_rising g xs r i.0 i.1 i.2 in
        let y = try_at n xs g in
        let s = taken_rising xs (with_gap g xs) w in
        at (ltb (calls_of n ts y) (calls_of n ts xs)) refl w
        (rounds_made b y (free_of n y) (suc k) s (free_in y))
        (rounds_made b xs gs (suc k) r (λ h j. f h (in_later h g gs j)))
      where
        at
            : (t : Bool) → ltb (calls_of n ts (try_at n xs g)) (calls_of n ts xs) ≡ t → are_gaps n (with_gap g xs) ≡ true
            → Ended b (try_at n xs g) (free_of n (try_at n xs g)) (suc k)
            (go n ts b (try_at n xs g) (free_of n (try_at n xs g)) (suc k))
            → Ended b xs gs (suc k) (go n ts b xs gs (suc k))
            → Ended (suc b) xs (g ∷ gs) k
            (go n ts b (pick t (try_at n xs g) xs) (pick t (free_of n (try_at n xs g)) gs) (suc k))
        at true e w a c =
            Rounds.taken (calls_in ps ts xs) (calls_in ps ts (try_at n xs g)) (try_made xs g w)
            (calls_made ps ts shape long xs) (calls_made ps ts shape long (try_at n xs g))
            (ltb-true (calls_of n ts (try_at n xs g)) (calls_of n ts xs) e) (free_made (try_at n xs g)) a
        at false e w a c =
            Rounds.left (calls_in ps ts xs) (calls_in ps ts (try_at n xs g)) (try_made xs g w)
            (calls_made ps ts shape long xs) (calls_made ps ts shape long (try_at n xs g))
            (ltb-false (calls_of n ts (try_at n xs g)) (calls_of n ts xs) e) c

    -- ---- the floor

    had_made : (x : DE.Dependence) → Fits ps (dep_in x) → Had ps x (gaps_had ps (dep_in x))
    had_made x f g =
        let up : are_gaps_from 0 (length ps) (gaps_had ps (dep_in x)) ≡ true =
        gaps_of_rising (has_gap ps (dep_in x)) (length ps) (length ps - 1) 1 0 (λ i a b c. (omega arith, omega arith)) in (
          (λ i.
              let j = in_is g (gaps_had ps (dep_in x)) i.0 i.1 in
              let r = rising_in 0 (length ps) (gaps_had ps (dep_in x)) g up j in
              is-gap ps shape x g f
              (sym (gaps_of_in (has_gap ps (dep_in x)) (length ps - 1) 1 g (omega (arith, r.0))
              (omega (arith, r.0, r.1))) ∙ j)),
          (λ k.
              let r = gap_there ps shape x g f k in
              is-in g (gaps_had ps (dep_in x))
              (gaps_of_in (has_gap ps (dep_in x)) (length ps - 1) 1 g (omega (arith, r.0)) (omega (arith, r.0, r.1)) ∙
              gap_is ps shape x g k)),
        )

    -- a gap with the least calls
    least_time
        : (hs : List ℕ) (g : ℕ) → is_in g hs ≡ true
        → (k : ℕ) × ((is_in k hs ≡ true) × ((h : ℕ) → is_in h hs ≡ true → times_at ps ts k ≤ times_at ps ts h))
    least_time [] g i = never i
    least_time (x ∷ []) g i = (
      x,
      (
        in_here x [],
        λ h j. ⊎_elim (λ (z : h ≡ x). rw z (omega arith)) (λ (z : is_in h [] ≡ true). never z)
            (in_cons h x [] j),
      ),
    )
    least_time (x ∷ (y ∷ ys)) g i =
        let r = least_time (y ∷ ys) y (in_here y ys) in
        ⊎_elim
        (λ (z : times_at ps ts x ≤ times_at ps ts r.0). (
          x,
          (
            in_here x (y ∷ ys),
            λ h j.
                ⊎_elim
                (λ (w : h ≡ x). rw w (omega arith))
                (λ (w : is_in h (y ∷ ys) ≡ true). omega (arith, z, r.1.1 h w))
                (in_cons h x (y ∷ ys) j),
          ),
        ))
        (λ (z : times_at ps ts r.0 < times_at ps ts x). (
          r.0,
          (
            in_later r.0 x (y ∷ ys) r.1.0,
            λ h j.
                ⊎_elim
                (λ (w : h ≡ x). rw w (omega (arith, z)))
                (λ (w : is_in h (y ∷ ys) ≡ true). r.1.1 h w)
                (in_cons h x (y ∷ ys) j),
          ),
        ))
        (le_or (times_at ps ts x) (times_at ps ts r.0))

    cheapest_made : (hs : List ℕ) (g : ℕ) → is_in g hs ≡ true → Cheapest ps ts hs (cheapest ps ts hs)
    cheapest_made hs g i =
        let k = least_time hs g i in
        let e = cheapest_is ps ts hs (times_at ps ts k.0) k.0 k.1.0 refl k.1.1 in
        record {
          one = (
            k.0,
            (
              is-in k.0 hs k.1.0,
              subst (λ (c : ℕ). Times ps ts k.0 k.0 c) e (times_made ps ts shape k.0 long k.0),
            ),
          );
          least =
              λ h c j t.
              omega (arith, cheapest_least ps ts hs h (in_is h hs j.0 j.1), times_is ps ts shape h h c t);
        }

    floor_made
        : (had : List ℕ) (xs : List DE.Dependence) → ((x : DE.Dependence) → In x xs → Fits ps (dep_in x))
        → Floor ps ts had xs (floor_from ps ts had (mapped xs))
    unfolding floor_from
    floor_made had [] f = Floor.none
    floor_made had (x ∷ xs) f =
        at (cuts ps (dep_in x) had) refl (floor_made had xs (λ y i. f y (suc i.0, i.1)))
        (floor_made (gaps_had ps (dep_in x) ++ had) xs (λ y i. f y (suc i.0, i.1)))
      where
        fits : Fits ps (dep_in x)
        fits = f x (0, refl)

        at
            : (t : Bool) → cuts ps (dep_in x) had ≡ t → Floor ps ts had xs (floor_from ps ts had (mapped xs))
            → Floor ps ts (gaps_had ps (dep_in x) ++ had) xs (floor_from ps ts (gaps_had ps (dep_in x) ++ had) (mapped xs))
            → Floor ps ts had (x ∷ xs)
            (when (not t) (cheapest ps ts (gaps_had ps (dep_in x))) +
            floor_from ps ts (pick t had (gaps_had ps (dep_in x) ++ had)) (mapped xs))
        at true e a b =
            let w : 0 + floor_from ps ts had (mapped xs) ≡ floor_from ps ts had (mapped xs) = omega arith in
            subst (λ (k : ℕ). Floor ps ts had (x ∷ xs) k) (sym w) (Floor.shared (is-cut ps shape x had fits e) a)
        at false e a b =
            let t = (had_made x fits x.t).1 (is-gap ps shape x x.t fits (target_gap ps (dep_in x) fits)) in
            Floor.taken (gaps_had ps (dep_in x)) (cheapest ps ts (gaps_had ps (dep_in x)))
            (floor_from ps ts (gaps_had ps (dep_in x) ++ had) (mapped xs))
            (λ c. never_both (cut_is ps shape x had c) e) (had_made x fits)
            (cheapest_made (gaps_had ps (dep_in x)) x.t (in_is x.t (gaps_had ps (dep_in x)) t.0 t.1)) b

-- ---- the call

module _ (d : DD.Desk) (m : IsMade d) (ts : List ℕ) (budget : ℕ) (r : DI.Improved) (h : ImproveSays d ts budget r) where
  number_is : r.number ≡ improve_fault (desk_in d) ts
  number_is = ap (λ (x : S.Reply). x.number) h ∙ at (improve_fault (desk_in d) ts)
    where
      at
          : (k : ℕ)
          → (pick (eqb k 0) (found_of (desk_in d).nest_is ts (improved_of (desk_in d).nest_is ts (desk_in d).key budget))
          (S.refusal k)).number ≡ k
      at zero = refl
      at (suc k) = rw (ne_eqb (suc k) 0 (λ z. omega arith))

  line_is : r.line ≡ 0
  line_is = ap (λ (x : S.Reply). x.line) h ∙ at (eqb (improve_fault (desk_in d) ts) 0)
    where
      at
          : (t : Bool)
          → (pick t (found_of (desk_in d).nest_is ts (improved_of (desk_in d).nest_is ts (desk_in d).key budget))
          (S.refusal (improve_fault (desk_in d) ts))).line ≡ 0
      at true = refl
      at false = refl

  module _ (zero_is : r.number ≡ 0) where
    none : improve_fault (desk_in d) ts ≡ 0
    none = sym number_is ∙ zero_is

    parts : (state_fault true (desk_in d) ≡ 0) × (when (not (can_count OUTER (nest_in d.nest) ts)) 17 ≡ 0)
    parts = first_zero (state_fault true (desk_in d)) (when (not (can_count OUTER (nest_in d.nest) ts)) 17) none

    module _ (key : List ℕ) (k : KeyOn d key) where
      abbrev page : Paper
      page = paper_on d

      abbrev nest : Nest
      nest = nest_of page (flags_of d)

      valid_page : is_valid nest ≡ true
      valid_page = right d m key k

      unbarred : page.barred ≡ []
      unbarred =
          (countable OUTER (nest_in d.nest) ts
          (unless_zero (can_count OUTER (nest_in d.nest) ts) 16 parts.1)).none_barred

      long : length ts ≡ dos_before page.points (length page.points)
      long =
          let f =
          countable OUTER (nest_in d.nest) ts (unless_zero (can_count OUTER (nest_in d.nest) ts) 16 parts.1) in
          eqb-true (length ts) (dos_before page.points (length page.points))
          (and_true (eqb (length ts) (dos_before page.points (length page.points))) (are_turns OUTER OUTER ts)
          f.fits).0

      reply_is : reply_in r ≡ found_of nest ts (improved_of nest ts key budget)
      reply_is =
          h ∙
          ap (λ (t : Bool). pick t (found_of (desk_in d).nest_is ts
          (improved_of (desk_in d).nest_is ts (desk_in d).key budget)) (S.refusal (improve_fault (desk_in d) ts)))
          (eq-eqb (improve_fault (desk_in d) ts) 0 none) ∙
          ap (λ (x : Nest). found_of x ts (improved_of x ts (desk_in d).key budget)) (nest_of_paper d.nest) ∙
          ap (λ (x : List ℕ). found_of nest ts (improved_of nest ts x budget)) (sym (key_same d m key k))

      given : Given page key ts budget r
      given =
          let o = improved_of nest ts key budget in
          let gaps : gaps_in r.placement.words ≡ o.gaps = ap (λ (x : S.Reply). x.gaps) reply_is in
          let c : is_correct nest (gaps_in r.placement.words) ≡ true =
          ap (λ (x : Nest). is_correct x (gaps_in r.placement.words)) (sym (nest_of_paper d.nest)) ∙
          reply_correct d ts budget r m h zero_is in
          let rise = correct_gaps nest (gaps_in r.placement.words) c in
          let wide =
          rising_wider 0 (length page.points) 256 (gaps_in r.placement.words)
          (valid_is nest valid_page).few_points rise in
          let rounds =
          rounds_made page (flags_of d) valid_page unbarred ts long budget key (free_of nest key) 0
          (correct_gaps nest key (key_key d m key k).correct) (free_in page (flags_of d) valid_page unbarred key) in
          record {
            gaps = gaps_in r.placement.words;
            free = free_of nest key;
            set = set_here r.placement.words wide;
            is-free = free_made page (flags_of d) valid_page unbarred key;
            tried =
                subst (λ (x : List ℕ). Rounds page ts budget key (free_of nest key) 0 x r.tries r.ended) (sym gaps)
                (subst (λ (x : ℕ). Rounds page ts budget key (free_of nest key) 0 o.gaps x r.ended)
                (sym (ap (λ (x : S.Reply). x.tries) reply_is))
                (subst (λ (x : ℕ). Rounds page ts budget key (free_of nest key) 0 o.gaps o.tries x)
                (sym (ap (λ (x : S.Reply). x.ended) reply_is)) rounds));
            calls =
                subst (λ (x : List ℕ). Calls page.points ts x r.calls) (sym gaps)
                (subst (λ (x : ℕ). Calls page.points ts o.gaps x) (sym (ap (λ (x : S.Reply). x.calls) reply_is))
                (calls_made page.points ts (shaped page (flags_of d) valid_page) long o.gaps));
            correct =
                is-correct page (flags_of d) (shaped page (flags_of d) valid_page) (fit page (flags_of d) valid_page)
                (gaps_in r.placement.words) c;
            floor =
                subst (λ (x : ℕ). Floor page.points ts [] page.deps x)
                (sym (ap (λ (x : S.Reply). x.floor) reply_is))
                (floor_made page (flags_of d) valid_page unbarred ts long [] page.deps
                (fit page (flags_of d) valid_page));
          }

    below : (gs : List ℕ) (c : ℕ) → Correct (paper_on d) gs → Calls (paper_on d).points ts gs c → r.floor ≤ c
    below gs c ok w =
        let valid = ap is_valid (sym (nest_of_paper d.nest)) ∙ (ready d m parts.0).valid in
        let shape = shaped (paper_on d) (flags_of d) valid in
        let i : is_correct (nest_in d.nest) gs ≡ true =
        ap (λ (x : Nest). is_correct x gs) (nest_of_paper d.nest) ∙ correct_is (paper_on d) (flags_of d) shape gs ok in
        omega (arith, reply_floor d ts budget r gs h i, calls_are (paper_on d).points ts shape gs c w)

pub improve_kept : Improving
improve_kept =
    record {
      number =
          λ d ts b r q h. (
            subst (λ (k : ℕ). CallsNumber 1 d ts k) (sym (number_is d (reached_made d q) ts b r h))
                (calls_number 1 d ts),
            line_is d (reached_made d q) ts b r h,
          );
      given = λ d key ts b r q k h z. given d (reached_made d q) ts b r h z key k;
      below = λ d ts gs b c r q h z ok w. below d (reached_made d q) ts b r h z gs c ok w;
      within = reply_within;
      larger = λ d ts b c r s l h k. reply_more_budget d ts b c r s l h k;
    }
