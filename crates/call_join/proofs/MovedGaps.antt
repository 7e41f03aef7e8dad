-- Placements of a part of a nest: gaps moved along, gaps of a part taken out of a placement, and two placements one
-- after the other.
-- Main definition: `gaps_within`. Main statements: `moved_rising`, `in_moved`, `rising_both`,
-- `within_rising`, `in_within`, `within_moved`, `within_both`, `within_none`.
use mathlib.Core.Path.{◌≡◌, refl}
use mathlib.Core.Bool.{Bool, true, false, ◌&&◌}
use mathlib.Core.List.{List, [], ◌∷◌, ◌++◌}
use mathlib.Core.Logic.{◌⊎◌, inl, inr, ⊎_elim}
use Prim.Native.Nat.{ℕ, suc, ◌+◌, ◌-◌, ◌≤◌, ◌<◌}
use native.Mathlib.Omega.{arith}
use lib.Dec.{eqb, ltb}
use borrow.Author.Tests.{eqb-true, eq-eqb, lt-ltb, ltb-true}
use Rattle.laws.specs.Choice.{pick, is_in}
use Rattle.laws.proofs.Tests.{never_both, and_intro, and_true, bool_by, false_by}
use Rattle.paper_placements.specs.Placements.{are_gaps_from}
use Rattle.paper_placements.proofs.GapLists.{rising_lower}
use Rattle.paper_placements.proofs.Rising.{Rises, rises}
use Rattle.call_join.specs.JointNests.{moved_gaps}

-- ---- gaps moved along

pub eqb_moved : (k a b : ℕ) → eqb (k + a) (k + b) ≡ eqb a b
eqb_moved k a b =
    bool_by (eqb (k + a) (k + b)) (eqb a b)
    (λ h. eq-eqb a b (omega (arith, eqb-true (k + a) (k + b) h)))
    (λ h. eq-eqb (k + a) (k + b) (omega (arith, eqb-true a b h)))

pub in_moved : (k g : ℕ) (gs : List ℕ) → is_in (k + g) (moved_gaps k gs) ≡ is_in g gs
in_moved k g [] = refl
in_moved k g (x ∷ gs) = rw (eqb_moved k g x, in_moved k g gs)

pub moved_rising
    : (k last n : ℕ) (gs : List ℕ)
    → are_gaps_from last n gs ≡ true
    → are_gaps_from (k + last) (k + n) (moved_gaps k gs) ≡ true
moved_rising k last n [] h = refl
moved_rising k last n (g ∷ gs) h =
    let r = rises last n g gs h in
    and_intro (lt-ltb (k + last) (k + g) (omega (arith, r.above)))
    (and_intro (lt-ltb (k + g) (k + n) (omega (arith, r.below))) (moved_rising k g n gs r.rest))

-- ---- two placements, one after the other

pub rising_both
    : (last mid n : ℕ) (xs ys : List ℕ)
    → last ≤ mid
    → mid ≤ n
    → are_gaps_from last mid xs ≡ true
    → are_gaps_from mid n ys ≡ true
    → are_gaps_from last n (xs ++ ys) ≡ true
rising_both last mid n [] ys l m h k = rising_lower last mid n ys l k
rising_both last mid n (x ∷ xs) ys l m h k =
    let r = rises last mid x xs h in
    and_intro (lt-ltb last x r.above)
    (and_intro (lt-ltb x n (omega (arith, r.below)))
    (rising_both x mid n xs ys (omega (arith, r.below)) m r.rest k))

-- ---- the gaps of a part, taken out

abbrev pub is_within : ℕ → ℕ → ℕ → Bool
is_within k l g = ltb k g && ltb g (k + l)

-- the gaps k + 1 to k + l - 1 of a placement, counted from k
abbrev pub gaps_within : ℕ → ℕ → List ℕ → List ℕ
gaps_within k l [] = []
gaps_within k l (g ∷ gs) = pick (is_within k l g) ((g - k) ∷ gaps_within k l gs) (gaps_within k l gs)

-- what lies within
pub within_is : (k l g : ℕ) → is_within k l g ≡ true → (k < g) × (g < k + l)
within_is k l g h =
    let z = and_true (ltb k g) (ltb g (k + l)) h in
    (ltb-true k g z.0, ltb-true g (k + l) z.1)

pub is-within : (k l g : ℕ) → k < g → g < k + l → is_within k l g ≡ true
is-within k l g a b = and_intro (lt-ltb k g a) (lt-ltb g (k + l) b)

pub within_rising
    : (k l last n : ℕ) (gs : List ℕ)
    → are_gaps_from last n gs ≡ true
    → are_gaps_from (last - k) l (gaps_within k l gs) ≡ true
within_rising k l last n [] h = refl
within_rising k l last n (g ∷ gs) h =
    go (is_within k l g) refl (rises last n g gs h) (within_rising k l g n gs)
  where
    go
        : (t : Bool)
        → is_within k l g ≡ t
        → Rises last n g gs
        → (are_gaps_from g n gs ≡ true → are_gaps_from (g - k) l (gaps_within k l gs) ≡ true)
        → are_gaps_from (last - k) l (pick t ((g - k) ∷ gaps_within k l gs) (gaps_within k l gs)) ≡ true
    go true e r rest =
        let z = within_is k l g e in
        and_intro (lt-ltb (last - k) (g - k) (omega (arith, r.above)))
        (and_intro (lt-ltb (g - k) l (omega arith)) (rest r.rest))
    go false e r rest =
        rising_lower (last - k) (g - k) l (gaps_within k l gs) (omega (arith, r.above)) (rest r.rest)

pub in_within
    : (k l g : ℕ) (gs : List ℕ) → 0 < g → g < l → is_in g (gaps_within k l gs) ≡ is_in (k + g) gs
in_within k l g [] a b = refl
in_within k l g (x ∷ gs) a b = go (is_within k l x) refl (in_within k l g gs a b)
  where
    go
        : (t : Bool)
        → is_within k l x ≡ t
        → is_in g (gaps_within k l gs) ≡ is_in (k + g) gs
        → is_in g (pick t ((x - k) ∷ gaps_within k l gs) (gaps_within k l gs)) ≡ is_in (k + g) (x ∷ gs)
    go true e rest =
        let z = within_is k l x e in
        let y : k + (x - k) ≡ x = omega arith in
        let w : eqb (k + g) x ≡ eqb g (x - k) = rw y at (eqb_moved k g (x - k)) in
        rw (w, rest)
    go false e rest =
        let y : eqb (k + g) x ≡ false =
        false_by
        (λ h.
        let z = eqb-true (k + g) x h in
        never_both (is-within k l x (omega arith) (omega arith)) e) in
        rw (y, rest)

-- taken out of what was moved there, and of what lies elsewhere
pub within_moved
    : (k l last : ℕ) (gs : List ℕ) → are_gaps_from last l gs ≡ true → gaps_within k l (moved_gaps k gs) ≡ gs
within_moved k l last [] h = refl
within_moved k l last (g ∷ gs) h =
    let r = rises last l g gs h in
    let z : k + g - k ≡ g = omega arith in
    rw (is-within k l (k + g) (omega (arith, r.above)) (omega (arith, r.below)), z, within_moved k l g gs r.rest)

pub within_both
    : (k l : ℕ) (xs ys : List ℕ) → gaps_within k l (xs ++ ys) ≡ gaps_within k l xs ++ gaps_within k l ys
within_both k l [] ys = refl
within_both k l (x ∷ xs) ys = go (is_within k l x) (within_both k l xs ys)
  where
    go
        : (t : Bool)
        → gaps_within k l (xs ++ ys) ≡ gaps_within k l xs ++ gaps_within k l ys
        → pick t ((x - k) ∷ gaps_within k l (xs ++ ys)) (gaps_within k l (xs ++ ys))
        ≡ pick t ((x - k) ∷ gaps_within k l xs) (gaps_within k l xs) ++ gaps_within k l ys
    go true e = rw e
    go false e = e

pub within_none
    : (k l last n : ℕ) (gs : List ℕ)
    → are_gaps_from last n gs ≡ true
    → (k + l ≤ suc last) ⊎ (n ≤ suc k)
    → gaps_within k l gs ≡ []
within_none k l last n [] h away = refl
within_none k l last n (g ∷ gs) h away =
    let r = rises last n g gs h in
    let out : is_within k l g ≡ false = false_by (λ i. apart (within_is k l g i) r) in
    rw (out, within_none k l g n gs r.rest (later r away))
  where
    apart : (k < g) × (g < k + l) → Rises last n g gs → ⊥
    apart z r = ⊎_elim
        (λ (y : k + l ≤ suc last). omega (arith, z.1, r.above))
        (λ (y : n ≤ suc k). omega (arith, z.0, r.below))
        away

    later : Rises last n g gs → (k + l ≤ suc last) ⊎ (n ≤ suc k) → (k + l ≤ suc g) ⊎ (n ≤ suc k)
    later r (inl y) = inl (omega (arith, r.above))
    later r (inr y) = inr y
