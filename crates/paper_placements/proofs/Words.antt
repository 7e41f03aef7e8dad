-- Laws of a placement's words and of the rising list of their gaps.
-- Main statements: `holds_put`, `holds_empty`, `in_gaps`, `gaps_none`, `gaps_put_last`, `gaps_rising`.
use mathlib.Core.Path.{◌≡◌, refl, sym, ap, ◌∙◌}
use mathlib.Core.Bool.{Bool, true, false, ◌||◌}
use mathlib.Core.List.{List, [], ◌∷◌, ◌++◌, append-nil}
use mathlib.Core.Logic.{◌⊎◌, inl, inr, ⊎_elim}
use Prim.Native.Nat.{ℕ, zero, suc, ◌+◌, ◌-◌, ◌/◌, ◌%◌, ◌^◌, ◌≤◌, ◌<◌}
use native.Mathlib.Omega.{arith}
use lib.Bits.{bit_or}
use lib.Dec.{eqb}
use lib.ListN.{length, get_or, set}
use lib.Seq.{get_or-set_same, get_or-set_other}
use borrow.Author.Tests.{eqb-true, eq-eqb, ne_eqb, lt-ltb}
use Rattle.laws.specs.Choice.{is_in}
use Rattle.laws.specs.Bits.{bit}
use Rattle.laws.proofs.Tests.{le_or, eq_or, bool_by, never}
use Rattle.laws.proofs.Ors.{or_turned}
use Rattle.laws.proofs.Bits.{bit-or, bit_one, bit_zero}
use Rattle.paper_placements.specs.Placements.{are_gaps_from}
use Rattle.paper_placements.specs.Words.{GAPS, holds, kept, gaps_of, gaps_in}

-- ---- gaps held

pub holds_empty : (i : ℕ) → holds (0 ∷ (0 ∷ (0 ∷ (0 ∷ [])))) i ≡ false
unfolding holds
holds_empty i = rw (zeros (i / 64)) (bit_zero (i % 64))
  where
    zeros : (k : ℕ) → ◌≡◌ {A = ℕ} (get_or (0 ∷ (0 ∷ (0 ∷ (0 ∷ [])))) k 0) 0
    zeros zero = refl
    zeros (suc zero) = refl
    zeros (suc (suc zero)) = refl
    zeros (suc (suc (suc zero))) = refl
    zeros (suc (suc (suc (suc k)))) = refl

-- the words with gap g as well
unfoldable pub put_in : List ℕ → ℕ → List ℕ
put_in ws g = set ws (g / 64) (bit_or (get_or ws (g / 64) 0) (2 ^ (g % 64)))

-- of two gaps in one word
pub same_gap : (i g : ℕ) → i / 64 ≡ g / 64 → eqb (i % 64) (g % 64) ≡ eqb i g
same_gap i g e =
    bool_by
    (eqb (i % 64) (g % 64))
    (eqb i g)
    (λ z. eq-eqb i g (omega (arith, eqb-true (i % 64) (g % 64) z)))
    (λ z. eq-eqb (i % 64) (g % 64) (omega (arith, eqb-true i g z)))

pub holds_put : (ws : List ℕ) (g i : ℕ) → g / 64 < length ws → holds (put_in ws g) i ≡ (eqb i g || holds ws i)
unfolding holds put_in
holds_put ws g i h = go (eq_or (i / 64) (g / 64))
  where
    word : ℕ
    word = bit_or (get_or ws (g / 64) 0) (2 ^ (g % 64))

    go
        : (i / 64 ≡ g / 64) ⊎ ((i / 64 ≡ g / 64) → ⊥)
        → bit (get_or (set ws (g / 64) word) (i / 64) 0) (i % 64) ≡ (eqb i g || bit (get_or ws (i / 64) 0) (i % 64))
    go (inl e) =
        rw (
          e,
          get_or-set_same ws (g / 64) word 0 h,
          bit-or (get_or ws (g / 64) 0) (2 ^ (g % 64)) (i % 64),
          bit_one (g % 64) (i % 64),
          same_gap i g e,
        )
        (or_turned (bit (get_or ws (g / 64) 0) (i % 64)) (eqb i g))
    go (inr n) =
        rw (get_or-set_other ws (g / 64) (i / 64) word 0 n, ne_eqb i g (λ z. n (rw z)))

-- ---- the list of the gaps at which a test holds

-- the same test, the same list
pub gaps_of_same : (x y : ℕ → Bool) (k g : ℕ) → ((i : ℕ) → g ≤ i → i < g + k → x i ≡ y i) → gaps_of x k g ≡ gaps_of y k g
unfolding gaps_of
gaps_of_same x y zero g h = refl
gaps_of_same x y (suc k) g h =
    rw
    (h g (omega arith) (omega arith))
    (ap (kept (y g) g) (gaps_of_same x y k (suc g) (λ i a b. h i (omega arith) (omega arith))))

-- none before the first
pub gaps_of_from : (x : ℕ → Bool) (k g i : ℕ) → i < g → is_in i (gaps_of x k g) ≡ false
unfolding gaps_of
gaps_of_from x zero g i h = refl
gaps_of_from x (suc k) g i h = go (x g) (gaps_of_from x k (suc g) i (omega arith))
  where
    go : (t : Bool) → is_in i (gaps_of x k (suc g)) ≡ false → is_in i (kept t g (gaps_of x k (suc g))) ≡ false
    go true r = rw (ne_eqb i g (λ z. omega arith)) r
    go false r = r

-- within the range the list has what the test says
pub gaps_of_in : (x : ℕ → Bool) (k g i : ℕ) → g ≤ i → i < g + k → is_in i (gaps_of x k g) ≡ x i
unfolding gaps_of
gaps_of_in x zero g i h l = absurd (omega arith)
gaps_of_in x (suc k) g i h l =
    ⊎_elim
    (λ (z : suc g ≤ i). later z (x g) (gaps_of_in x k (suc g) i z (omega arith)))
    (λ (z : i < suc g). here (omega arith))
    (le_or (suc g) i)
  where
    later : suc g ≤ i → (t : Bool) → is_in i (gaps_of x k (suc g)) ≡ x i → is_in i (kept t g (gaps_of x k (suc g))) ≡ x i
    later z true r = rw (ne_eqb i g (λ q. omega arith)) r
    later z false r = r

    here : i ≡ g → is_in i (kept (x g) g (gaps_of x k (suc g))) ≡ x i
    here z = rw z (go (x g) refl)
      where
        go : (t : Bool) → x g ≡ t → is_in g (kept t g (gaps_of x k (suc g))) ≡ t
        go true e = rw (eq-eqb g g refl)
        go false e = gaps_of_from x k (suc g) g (omega arith)

-- none behind the last
pub gaps_of_to : (x : ℕ → Bool) (k g i : ℕ) → g + k ≤ i → is_in i (gaps_of x k g) ≡ false
unfolding gaps_of
gaps_of_to x zero g i h = refl
gaps_of_to x (suc k) g i h = go (x g) (gaps_of_to x k (suc g) i (omega arith))
  where
    go : (t : Bool) → is_in i (gaps_of x k (suc g)) ≡ false → is_in i (kept t g (gaps_of x k (suc g))) ≡ false
    go true r = rw (ne_eqb i g (λ z. omega arith)) r
    go false r = r

pub gaps_of_none : (x : ℕ → Bool) (k g : ℕ) → ((i : ℕ) → g ≤ i → i < g + k → x i ≡ false) → gaps_of x k g ≡ []
unfolding gaps_of
gaps_of_none x zero g h = refl
gaps_of_none x (suc k) g h =
    rw (h g (omega arith) (omega arith)) (gaps_of_none x k (suc g) (λ i a b. h i (omega arith) (omega arith)))

-- one range after another
pub gaps_of_add : (x : ℕ → Bool) (k m g : ℕ) → gaps_of x (k + m) g ≡ gaps_of x k g ++ gaps_of x m (g + k)
unfolding gaps_of
gaps_of_add x zero m g =
    let a : 0 + m ≡ m = omega arith in
    let b : g + 0 ≡ g = omega arith in
    rw (a, b)
gaps_of_add x (suc k) m g =
    let a : suc k + m ≡ suc (k + m) = omega arith in
    let b : g + suc k ≡ suc g + k = omega arith in
    rw (a, b) (ap (kept (x g) g) (gaps_of_add x k m (suc g)) ∙ front (x g))
  where
    front
        : (t : Bool)
        → kept t g (gaps_of x k (suc g) ++ gaps_of x m (suc g + k)) ≡
        kept t g (gaps_of x k (suc g)) ++ gaps_of x m (suc g + k)
    front true = refl
    front false = refl

-- where none is left behind k, the list ends there
pub gaps_of_up_to
    : (x : ℕ → Bool) (k n : ℕ) → k ≤ n → ((i : ℕ) → k ≤ i → i < n → x i ≡ false) → gaps_of x n 0 ≡ gaps_of x k 0
gaps_of_up_to x k n h none =
    let past : gaps_of x (n - k) (0 + k) ≡ [] =
    gaps_of_none x (n - k) (0 + k) (λ i a l. none i (omega arith) (omega arith)) in
    ap (λ (j : ℕ). gaps_of x j 0) (omega arith) ∙ gaps_of_add x k (n - k) 0 ∙ rw past (append-nil (gaps_of x k 0))

-- rising, between last and n
pub gaps_of_rising
    : (x : ℕ → Bool) (n k g last : ℕ)
    → ((i : ℕ) → g ≤ i → i < g + k → x i ≡ true → (last < i) × (i < n))
    → are_gaps_from last n (gaps_of x k g) ≡ true
unfolding gaps_of
gaps_of_rising x n zero g last h = refl
gaps_of_rising x n (suc k) g last h = go (x g) refl (gaps_of_rising x n k (suc g))
  where
    go
        : (t : Bool)
        → x g ≡ t
        → ((l : ℕ)
        → ((i : ℕ) → suc g ≤ i → i < suc g + k → x i ≡ true → (l < i) × (i < n))
        → are_gaps_from l n (gaps_of x k (suc g)) ≡ true)
        → are_gaps_from last n (kept t g (gaps_of x k (suc g))) ≡ true
    go true e rest =
        let z = h g (omega arith) (omega arith) e in
        rw
        (lt-ltb last g z.0, lt-ltb g n z.1)
        (rest g (λ i a b c. (omega arith, (h i (omega arith) (omega arith) c).1)))
    go false e rest = rest last (λ i a b c. h i (omega arith) (omega arith) c)

-- ---- the gaps that words hold

pub in_gaps : (ws : List ℕ) (i : ℕ) → i < GAPS → is_in i (gaps_in ws) ≡ holds ws i
unfolding gaps_in
in_gaps ws i h = gaps_of_in (holds ws) GAPS 0 i (omega arith) (omega arith)

pub in_gaps_beyond : (ws : List ℕ) (i : ℕ) → GAPS ≤ i → is_in i (gaps_in ws) ≡ false
unfolding gaps_in
in_gaps_beyond ws i h = gaps_of_to (holds ws) GAPS 0 i (omega arith)

pub gaps_none : (ws : List ℕ) → ((i : ℕ) → i < GAPS → holds ws i ≡ false) → gaps_in ws ≡ []
unfolding gaps_in
gaps_none ws h = gaps_of_none (holds ws) GAPS 0 (λ i a b. h i (omega arith))

-- 01, "The nest and its gaps": gaps 1 to n - 1
pub gaps_rising
    : (ws : List ℕ) (n : ℕ)
    → holds ws 0 ≡ false
    → ((i : ℕ) → i < GAPS → n ≤ i → holds ws i ≡ false)
    → are_gaps_from 0 n (gaps_in ws) ≡ true
unfolding gaps_in
gaps_rising ws n a b = gaps_of_rising (holds ws) n GAPS 0 0 (λ i l m h. (low i h, high i (omega arith) h))
  where
    low : (i : ℕ) → holds ws i ≡ true → 0 < i
    low zero h = never (sym a ∙ h)
    low (suc i) h = omega arith

    high : (i : ℕ) → i < GAPS → holds ws i ≡ true → i < n
    high i l h = ⊎_elim (λ (z : n ≤ i). never (sym (b i l z) ∙ h)) (λ (z : i < n). z) (le_or n i)

-- a gap above all others goes to the end
gaps_of_last
    : (x y : ℕ → Bool) (g m : ℕ)
    → ((i : ℕ) → y i ≡ (eqb i g || x i))
    → ((i : ℕ) → g ≤ i → i < g + suc m → x i ≡ false)
    → gaps_of y (g + suc m) 0 ≡ gaps_of x (g + suc m) 0 ++ (g ∷ [])
unfolding gaps_of
gaps_of_last x y g m p q =
    let a : gaps_of y (g + suc m) 0 ≡ gaps_of y g 0 ++ gaps_of y (suc m) (0 + g) = gaps_of_add y g (suc m) 0 in
    let b : gaps_of x (g + suc m) 0 ≡ gaps_of x g 0 ++ gaps_of x (suc m) (0 + g) = gaps_of_add x g (suc m) 0 in
    let z : 0 + g ≡ g = omega arith in
    let c : gaps_of x (suc m) g ≡ [] = gaps_of_none x (suc m) g q in
    let d : gaps_of y g 0 ≡ gaps_of x g 0 = gaps_of_same y x g 0 (λ i l h. p i ∙ rw (ne_eqb i g (λ e. omega arith))) in
    let e : y g ≡ true = p g ∙ rw (eq-eqb g g refl) in
    let f : gaps_of y m (suc g) ≡ [] =
    gaps_of_none y m (suc g) (λ i l h. p i ∙ rw (ne_eqb i g (λ e. omega arith)) (q i (omega arith) (omega arith))) in
    let u : kept (y g) g (gaps_of y m (suc g)) ≡ g ∷ [] = rw (e, f) in
    rw (a, b, z, c, d, append-nil (gaps_of x g 0)) (ap (λ (l : List ℕ). gaps_of x g 0 ++ l) u)

pub gaps_put_last
    : (ws vs : List ℕ) (g : ℕ)
    → g < GAPS
    → ((i : ℕ) → holds vs i ≡ (eqb i g || holds ws i))
    → ((i : ℕ) → i < GAPS → g ≤ i → holds ws i ≡ false)
    → gaps_in vs ≡ gaps_in ws ++ (g ∷ [])
unfolding gaps_in
gaps_put_last ws vs g h p q =
    let e : ◌≡◌ {A = ℕ} GAPS (g + suc (GAPS - suc g)) = omega arith in
    let z : gaps_of (holds vs) (g + suc (GAPS - suc g)) 0 ≡ gaps_of (holds ws) (g + suc (GAPS - suc g)) 0 ++ (g ∷ []) =
    gaps_of_last (holds ws) (holds vs) g (GAPS - suc g) p (λ i a b. q i (omega arith) a) in
    rw (← e) at z
