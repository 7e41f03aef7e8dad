-- The floor: no two of the dependences taken share a gap, and a correct placement has a barrier at a gap of each.
-- Main statements: `cheapest_least`, `cheapest_is`, `floor_below`.
use mathlib.Core.Path.{◌≡◌, refl, ◌∙◌}
use mathlib.Core.Bool.{Bool, true, false, ◌||◌, not}
use mathlib.Core.List.{List, [], ◌∷◌, ◌++◌}
use mathlib.Core.Logic.{◌⊎◌, inl, inr, ⊎_elim}
use Prim.Native.Nat.{ℕ, ◌+◌, ◌-◌, ◌≤◌}
use native.Mathlib.Omega.{arith}
use lib.Dec.{leb, eqb}
use lib.ListN.{length}
use borrow.Author.Tests.{leb-true, leb-false}
use Rattle.laws.specs.Choice.{pick, when, is_in}
use Rattle.laws.proofs.Tests.{never, never_both, false_by}
use Rattle.laws.proofs.Members.{in_here, in_later, in_cons}
use Rattle.paper_nests.specs.Nests.{Dep, Nest}
use Rattle.paper_nests.specs.Gaps.{has_gap}
use Rattle.paper_placements.specs.Placements.{cuts, are_gaps_from, is_correct}
use Rattle.paper_placements.proofs.Cuts.{CutBy, cut_has_gap, gap_cuts, AllCut, correct_gaps, correct_cuts}
use Rattle.paper_placements.proofs.Rising.{rising_in}
use Rattle.paper_placements.proofs.Words.{gaps_of_in}
use Rattle.run_barriers.specs.Calls.{times_at, calls_in, calls_of}
use Rattle.call_gaps.specs.Says.{gaps_had}
use Rattle.call_improve.specs.Floor.{cheapest, floor_from, floor_of}

-- in either of two lists
pub in_append : (i : ℕ) (xs ys : List ℕ) → is_in i (xs ++ ys) ≡ (is_in i xs || is_in i ys)
in_append i [] ys = refl
in_append i (x ∷ xs) ys = go (eqb i x) (in_append i xs ys)
  where
    go
        : (t : Bool)
        → is_in i (xs ++ ys) ≡ (is_in i xs || is_in i ys)
        → (t || is_in i (xs ++ ys)) ≡ ((t || is_in i xs) || is_in i ys)
    go true r = refl
    go false r = r

module _ (ps ts : List ℕ) where
  -- no gap of the list has fewer calls
  pub cheapest_least : (gs : List ℕ) (g : ℕ) → is_in g gs ≡ true → cheapest ps ts gs ≤ times_at ps ts g
  unfolding cheapest
  cheapest_least [] g h = never h
  cheapest_least (x ∷ []) g h =
      ⊎_elim
      (λ (z : g ≡ x). rw z (omega arith))
      (λ (z : is_in g [] ≡ true). never z)
      (in_cons g x [] h)
  cheapest_least (x ∷ (y ∷ ys)) g h =
      go (leb (times_at ps ts x) (cheapest ps ts (y ∷ ys))) refl (in_cons g x (y ∷ ys) h) (cheapest_least (y ∷ ys) g)
    where
      go
          : (t : Bool)
          → leb (times_at ps ts x) (cheapest ps ts (y ∷ ys)) ≡ t
          → (g ≡ x) ⊎ (is_in g (y ∷ ys) ≡ true)
          → (is_in g (y ∷ ys) ≡ true → cheapest ps ts (y ∷ ys) ≤ times_at ps ts g)
          → pick t (times_at ps ts x) (cheapest ps ts (y ∷ ys)) ≤ times_at ps ts g
      go true e (inl z) rest = rw z (omega arith)
      go true e (inr z) rest =
          omega (arith, leb-true (times_at ps ts x) (cheapest ps ts (y ∷ ys)) e, rest z)
      go false e (inl z) rest =
          rw z (omega (arith, leb-false (times_at ps ts x) (cheapest ps ts (y ∷ ys)) e))
      go false e (inr z) rest = rest z

  -- one of the list has that many
  cheapest_there
      : (gs : List ℕ) (k : ℕ)
      → is_in k gs ≡ true
      → (g : ℕ) × (is_in g gs ≡ true) × (cheapest ps ts gs ≡ times_at ps ts g)
  unfolding cheapest
  cheapest_there [] k h = never h
  cheapest_there (x ∷ []) k h = (x, in_here x [], refl)
  cheapest_there (x ∷ (y ∷ ys)) k h =
      go (leb (times_at ps ts x) (cheapest ps ts (y ∷ ys))) (cheapest_there (y ∷ ys) y (in_here y ys))
    where
      go
          : (t : Bool)
          → (g : ℕ) × (is_in g (y ∷ ys) ≡ true) × (cheapest ps ts (y ∷ ys) ≡ times_at ps ts g)
          → (g : ℕ) ×
          (is_in g (x ∷ (y ∷ ys)) ≡ true) ×
          (pick t (times_at ps ts x) (cheapest ps ts (y ∷ ys)) ≡ times_at ps ts g)
      go true r = (x, in_here x (y ∷ ys), refl)
      go false r = (r.0, in_later r.0 x (y ∷ ys) r.1, r.2)

  -- what one of the list has, and none has less
  pub cheapest_is
      : (gs : List ℕ) (r k : ℕ)
      → is_in k gs ≡ true
      → r ≡ times_at ps ts k
      → ((g : ℕ) → is_in g gs ≡ true → r ≤ times_at ps ts g)
      → r ≡ cheapest ps ts gs
  cheapest_is gs r k h e l = go (cheapest_there gs k h)
    where
      go : (g : ℕ) × (is_in g gs ≡ true) × (cheapest ps ts gs ≡ times_at ps ts g) → r ≡ cheapest ps ts gs
      go c = omega (arith, e, c.2, l c.0 c.1, cheapest_least gs k h)

  -- the calls of the barriers that are not listed
  unfoldable calls_but : List ℕ → List ℕ → ℕ
  calls_but but [] = 0
  calls_but but (g ∷ gs) = when (not (is_in g but)) (times_at ps ts g) + calls_but but gs

  -- a gap that is listed has no part in the sum
  off : (but : List ℕ) (g : ℕ) → is_in g but ≡ true → when (not (is_in g but)) (times_at ps ts g) ≡ 0
  off but g h = rw h

  on : (but : List ℕ) (g : ℕ) → is_in g but ≡ false → when (not (is_in g but)) (times_at ps ts g) ≡ times_at ps ts g
  on but g h = rw h

  one_less
      : (had but : List ℕ) (g : ℕ)
      → when (not (is_in g (had ++ but))) (times_at ps ts g) ≤ when (not (is_in g but)) (times_at ps ts g)
  one_less had but g = rw (in_append g had but) (go (is_in g had) (is_in g but))
    where
      go : (s t : Bool) → when (not (s || t)) (times_at ps ts g) ≤ when (not t) (times_at ps ts g)
      go true true = omega arith
      go true false = omega arith
      go false true = omega arith
      go false false = omega arith

  -- more gaps listed, no more calls
  but_less : (had but gs : List ℕ) → calls_but (had ++ but) gs ≤ calls_but but gs
  unfolding calls_but
  but_less had but [] = omega arith
  but_less had but (g ∷ gs) = omega (arith, one_less had but g, but_less had but gs)

  -- the gaps of one dependence more: a barrier at one of them leaves the sum
  leaves
      : (had but gs : List ℕ) (g : ℕ)
      → is_in g gs ≡ true
      → is_in g had ≡ true
      → is_in g but ≡ false
      → times_at ps ts g + calls_but (had ++ but) gs ≤ calls_but but gs
  unfolding calls_but
  leaves had but [] g h p q = never h
  leaves had but (x ∷ xs) g h p q =
      ⊎_elim
      (λ (z : g ≡ x).
      let a : is_in x (had ++ but) ≡ true = in_append x had but ∙ rw (rw z at p) in
      let b : is_in x but ≡ false = rw z at q in
      let e : times_at ps ts g ≡ times_at ps ts x = rw z in
      omega (arith, off (had ++ but) x a, on but x b, but_less had but xs))
      (λ (z : is_in g xs ≡ true). omega (arith, one_less had but x, leaves had but xs g z p q))
      (in_cons g x xs h)

  -- a correct placement pays for each dependence taken at a gap that no other has
  floor_paid
      : (gs : List ℕ)
      → are_gaps_from 0 (length ps) gs ≡ true
      → (es : List Dep) (taken : List ℕ)
      → AllCut ps es gs
      → floor_from ps ts taken es ≤ calls_but taken gs
  unfolding floor_from
  floor_paid gs rise [] taken h = omega arith
  floor_paid gs rise (e ∷ es) taken h =
      go (cuts ps e taken) refl (floor_paid gs rise es taken rest) (floor_paid gs rise es (gaps_had ps e ++ taken) rest)
    where
      rest : AllCut ps es gs
      rest x a = h x (inr a)

      paid
          : cuts ps e taken ≡ false
          → CutBy ps e gs
          → cheapest ps ts (gaps_had ps e) + calls_but (gaps_had ps e ++ taken) gs ≤ calls_but taken gs
      paid p c =
          let r = rising_in 0 (length ps) gs c.gap rise c.placed in
          let had : is_in c.gap (gaps_had ps e) ≡ true =
          gaps_of_in (has_gap ps e) (length ps - 1) 1 c.gap r.0 (omega (arith, r.1)) ∙ c.its in
          let fresh : is_in c.gap taken ≡ false =
          false_by (λ z. never_both (gap_cuts ps e taken c.gap z c.its) p) in
          omega (
            arith,
            cheapest_least (gaps_had ps e) c.gap had,
            leaves (gaps_had ps e) taken gs c.gap c.placed had fresh,
          )

      go
          : (t : Bool)
          → cuts ps e taken ≡ t
          → floor_from ps ts taken es ≤ calls_but taken gs
          → floor_from ps ts (gaps_had ps e ++ taken) es ≤ calls_but (gaps_had ps e ++ taken) gs
          → when (not t) (cheapest ps ts (gaps_had ps e)) +
          floor_from ps ts (pick t taken (gaps_had ps e ++ taken)) es ≤
          calls_but taken gs
      go true p same more = omega arith
      go false p same more = omega (arith, paid p (cut_has_gap ps e gs (h e (inl refl))))

-- none listed, all calls
but_none : (n : Nest) (ts gs : List ℕ) → calls_but n.points ts [] gs ≡ calls_of n ts gs
unfolding calls_but calls_in
but_none n ts [] = refl
but_none n ts (g ∷ gs) = omega (arith, but_none n ts gs)

-- no correct placement has fewer calls than the floor
pub floor_below : (n : Nest) (ts gs : List ℕ) → is_correct n gs ≡ true → floor_of n ts ≤ calls_of n ts gs
floor_below n ts gs h =
    omega (
      arith,
      floor_paid n.points ts gs (correct_gaps n gs h) n.deps [] (correct_cuts n gs h),
      but_none n ts gs,
    )
