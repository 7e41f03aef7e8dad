-- Rising lists of gaps with one gap more or one less: putting and lifting undo each other.
-- Main statements: `in_with`, `rising_with`, `in_without`, `rising_without`, `without_with`, `with_without`,
-- `rising_length`, `rising_short`, `count_few`.
use mathlib.Core.Path.{◌≡◌, refl, sym, ap, ◌∙◌}
use mathlib.Core.Bool.{Bool, true, false, ◌&&◌, ◌||◌, not}
use mathlib.Core.List.{List, [], ◌∷◌}
use Prim.Native.Nat.{ℕ, suc, ◌+◌, ◌-◌, ◌≤◌, ◌<◌}
use native.Mathlib.Omega.{arith}
use lib.Dec.{eqb, ltb}
use lib.ListN.{length}
use borrow.Author.Tests.{eqb-true, eqb-false, eq-eqb, ne_eqb, lt-ltb, le-ltb, ltb-false}
use Rattle.laws.specs.Choice.{pick, when, is_in}
use Rattle.laws.proofs.Tests.{or_false, never}
use Rattle.laws.proofs.Connectives.{and_off}
use Rattle.laws.proofs.Ors.{or_swap}
use Rattle.paper_nests.specs.Nests.{Nest}
use Rattle.paper_nests.specs.Loops.{owner_of}
use Rattle.paper_placements.specs.Placements.{are_gaps_from, loop_count}
use Rattle.paper_placements.proofs.Rising.{Rises, rises, rising_in, rising_out}
use Rattle.paper_placements.specs.GapLists.{with_gap, without}

-- ---- a gap more

pub in_with : (g i : ℕ) (gs : List ℕ) → is_in i (with_gap g gs) ≡ (eqb i g || is_in i gs)
in_with g i [] = refl
in_with g i (x ∷ xs) = go (ltb g x) (in_with g i xs)
  where
    go
        : (t : Bool)
        → is_in i (with_gap g xs) ≡ (eqb i g || is_in i xs)
        → is_in i (pick t (g ∷ (x ∷ xs)) (x ∷ with_gap g xs)) ≡ (eqb i g || (eqb i x || is_in i xs))
    go true r = refl
    go false r = ap (λ (b : Bool). eqb i x || b) r ∙ or_swap (eqb i x) (eqb i g) (is_in i xs)

-- the gap is not the first of a list that lacks it, nor in its rest
lacks : (g x : ℕ) (xs : List ℕ) → is_in g (x ∷ xs) ≡ false → (eqb g x ≡ false) × (is_in g xs ≡ false)
lacks g x xs h = or_false (eqb g x) (is_in g xs) h

pub rising_with
    : (last n g : ℕ) (gs : List ℕ)
    → are_gaps_from last n gs ≡ true
    → last < g
    → g < n
    → is_in g gs ≡ false
    → are_gaps_from last n (with_gap g gs) ≡ true
rising_with last n g [] h a b p = rw (lt-ltb last g a, lt-ltb g n b)
rising_with last n g (x ∷ xs) h a b p = go (ltb g x) refl (rises last n x xs h) (rising_with x n g xs)
  where
    go
        : (t : Bool)
        → ltb g x ≡ t
        → Rises last n x xs
        → (are_gaps_from x n xs ≡ true → x < g → g < n → is_in g xs ≡ false → are_gaps_from x n (with_gap g xs) ≡ true)
        → are_gaps_from last n (pick t (g ∷ (x ∷ xs)) (x ∷ with_gap g xs)) ≡ true
    go true e r rest = rw (lt-ltb last g a, lt-ltb g n b, e, lt-ltb x n r.below) r.rest
    go false e r rest =
        let q = lacks g x xs p in
        let l : x < g = omega (arith, ltb-false g x e, eqb-false g x q.0) in
        rw (lt-ltb last x r.above, lt-ltb x n r.below) (rest r.rest l b q.1)

-- ---- a gap less

-- what rises from a gap rises from any gap before it
pub rising_lower
    : (low last n : ℕ) (gs : List ℕ) → low ≤ last → are_gaps_from last n gs ≡ true → are_gaps_from low n gs ≡ true
rising_lower low last n [] l h = refl
rising_lower low last n (x ∷ xs) l h =
    let r = rises last n x xs h in
    rw (lt-ltb low x (omega (arith, r.above)), lt-ltb x n r.below) r.rest

pub rising_without
    : (last n g : ℕ) (gs : List ℕ) → are_gaps_from last n gs ≡ true → are_gaps_from last n (without g gs) ≡ true
rising_without last n g [] h = refl
rising_without last n g (x ∷ xs) h = go (eqb g x) (rises last n x xs h) (rising_without x n g xs)
  where
    go
        : (t : Bool)
        → Rises last n x xs
        → (are_gaps_from x n xs ≡ true → are_gaps_from x n (without g xs) ≡ true)
        → are_gaps_from last n (pick t xs (x ∷ without g xs)) ≡ true
    go true r rest = rising_lower last x n xs (omega (arith, r.above)) r.rest
    go false r rest = rw (lt-ltb last x r.above, lt-ltb x n r.below) (rest r.rest)

pub in_without
    : (last n g i : ℕ) (gs : List ℕ)
    → are_gaps_from last n gs ≡ true
    → is_in i (without g gs) ≡ (not (eqb i g) && is_in i gs)
in_without last n g i [] h = sym (and_off (not (eqb i g)))
in_without last n g i (x ∷ xs) h = go (eqb g x) refl (rises last n x xs h) (in_without x n g i xs)
  where
    -- what is lifted stood only in front
    front : x ≡ g → are_gaps_from x n xs ≡ true → (t : Bool) → eqb i g ≡ t → is_in i xs ≡ (not t && (t || is_in i xs))
    front e r true q = let z : i ≡ g = eqb-true i g q in rising_out x n xs i r (omega arith)
    front e r false q = refl

    -- another gap stays in front
    stays : (s t : Bool) → (s ≡ true → t ≡ false) → (s || (not t && is_in i xs)) ≡ (not t && (s || is_in i xs))
    stays true true f = never (sym (f refl))
    stays true false f = refl
    stays false true f = refl
    stays false false f = refl

    go
        : (b : Bool)
        → eqb g x ≡ b
        → Rises last n x xs
        → (are_gaps_from x n xs ≡ true → is_in i (without g xs) ≡ (not (eqb i g) && is_in i xs))
        → is_in i (pick b xs (x ∷ without g xs)) ≡ (not (eqb i g) && (eqb i x || is_in i xs))
    go true e r rest =
        let z : x ≡ g = sym (eqb-true g x e) in
        rw z (front z r.rest (eqb i g) refl)
    go false e r rest =
        rw (rest r.rest)
        (stays (eqb i x) (eqb i g)
        (λ p. let z : i ≡ x = eqb-true i x p in ne_eqb i g (λ q. eqb-false g x e (sym q ∙ z))))

-- ---- each undoes the other

pub without_with : (g : ℕ) (gs : List ℕ) → is_in g gs ≡ false → without g (with_gap g gs) ≡ gs
without_with g [] h = rw (eq-eqb g g refl)
without_with g (x ∷ xs) h = go (ltb g x) (lacks g x xs h) (without_with g xs)
  where
    go
        : (t : Bool)
        → (eqb g x ≡ false) × (is_in g xs ≡ false)
        → (is_in g xs ≡ false → without g (with_gap g xs) ≡ xs)
        → without g (pick t (g ∷ (x ∷ xs)) (x ∷ with_gap g xs)) ≡ x ∷ xs
    go true q rest = rw (eq-eqb g g refl)
    go false q rest = rw q.0 (ap (λ (l : List ℕ). x ∷ l) (rest q.1))

-- a gap below all of a list goes to its front
pub with_front : (g n : ℕ) (gs : List ℕ) → are_gaps_from g n gs ≡ true → with_gap g gs ≡ g ∷ gs
with_front g n [] h = refl
with_front g n (x ∷ xs) h = rw (lt-ltb g x (rises g n x xs h).above)

pub with_without
    : (last n g : ℕ) (gs : List ℕ) → are_gaps_from last n gs ≡ true → is_in g gs ≡ true → with_gap g (without g gs) ≡ gs
with_without last n g [] h p = never p
with_without last n g (x ∷ xs) h p = go (eqb g x) refl (rises last n x xs h) p (with_without x n g xs)
  where
    go
        : (t : Bool)
        → eqb g x ≡ t
        → Rises last n x xs
        → (t || is_in g xs) ≡ true
        → (are_gaps_from x n xs ≡ true → is_in g xs ≡ true → with_gap g (without g xs) ≡ xs)
        → with_gap g (pick t xs (x ∷ without g xs)) ≡ x ∷ xs
    go true e r q rest = let z : g ≡ x = eqb-true g x e in rw z (with_front x n xs r.rest)
    go false e r q rest =
        let l = rising_in x n xs g r.rest q in
        rw (le-ltb g x (omega (arith, l.0))) (ap (λ (l : List ℕ). x ∷ l) (rest r.rest q))

-- ---- how long

-- a rising list has no more gaps than there are between its bounds
pub rising_length : (last n : ℕ) (gs : List ℕ) → are_gaps_from last n gs ≡ true → length gs ≤ n - suc last
rising_length last n [] h = omega arith
rising_length last n (g ∷ gs) h =
    let r = rises last n g gs h in
    omega (arith, r.above, r.below, rising_length g n gs r.rest)

pub rising_short : (last n : ℕ) (gs : List ℕ) → are_gaps_from last n gs ≡ true → last < n → last + length gs < n
rising_short last n gs h l = omega (arith, rising_length last n gs h)

-- a loop's count is at most the number of gaps
pub count_few : (n : Nest) (gs : List ℕ) (d : ℕ) → loop_count n gs d ≤ length gs
count_few n [] d = omega arith
count_few n (g ∷ gs) d = go (eqb (owner_of n.points g) d) (count_few n gs d)
  where
    go : (t : Bool) → loop_count n gs d ≤ length gs → when t 1 + loop_count n gs d ≤ suc (length gs)
    go true h = omega arith
    go false h = omega arith
