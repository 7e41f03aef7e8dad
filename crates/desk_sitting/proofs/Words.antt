-- The words of a placement with one gap more or one less, and the lists of their gaps.
-- Main statements: `gaps_with`, `gaps_without`, `holds_lifted`.
use mathlib.Core.Path.{◌≡◌, refl, sym, ap, ◌∙◌}
use mathlib.Core.Bool.{Bool, true, false, ◌&&◌, ◌||◌, not}
use mathlib.Core.List.{List, ◌∷◌}
use mathlib.Core.Logic.{◌⊎◌, inl, inr, ⊎_elim}
use Prim.Native.Nat.{ℕ, zero, suc, ◌+◌, ◌/◌, ◌%◌, ◌^◌, ◌≤◌, ◌<◌}
use native.Mathlib.Omega.{arith}
use lib.Dec.{eqb}
use lib.Bits.{bit_xor}
use lib.ListN.{length, get_or, set}
use lib.Seq.{get_or-set_same, get_or-set_other}
use borrow.Author.Tests.{eqb-true, eq-eqb, ne_eqb, lt-ltb, le-ltb}
use Rattle.laws.specs.Choice.{pick, is_in}
use Rattle.laws.specs.Bits.{bit}
use Rattle.laws.proofs.Tests.{le_or, eq_or}
use Rattle.laws.proofs.Bits.{bit_one}
use Rattle.paper_placements.specs.Words.{GAPS, holds, kept, gaps_of, gaps_in}
use Rattle.paper_placements.proofs.Words.{gaps_of_same, same_gap, in_gaps}
use Rattle.paper_placements.specs.GapLists.{with_gap, without}
use Rattle.paper_placements.proofs.GapLists.{without_with}
use Rattle.laws.proofs.Xor.{bit-xor}

-- ---- lists

-- a gap before a range goes to the front
with_first : (x : ℕ → Bool) (k a g : ℕ) → g < a → with_gap g (gaps_of x k a) ≡ g ∷ gaps_of x k a
unfolding gaps_of
with_first x zero a g h = refl
with_first x (suc k) a g h = go (x a) (with_first x k (suc a) g (omega arith))
  where
    go
        : (t : Bool)
        → with_gap g (gaps_of x k (suc a)) ≡ g ∷ gaps_of x k (suc a)
        → with_gap g (kept t a (gaps_of x k (suc a))) ≡ g ∷ kept t a (gaps_of x k (suc a))
    go true r = rw (lt-ltb g a h)
    go false r = r

-- a test that holds at g as well
gaps_of_with
    : (x y : ℕ → Bool) (k a g : ℕ)
    → ((i : ℕ) → y i ≡ (eqb i g || x i))
    → x g ≡ false
    → a ≤ g
    → g < a + k
    → gaps_of y k a ≡ with_gap g (gaps_of x k a)
unfolding gaps_of
gaps_of_with x y zero a g p q l h = absurd (omega arith)
gaps_of_with x y (suc k) a g p q l h =
    ⊎_elim
    (λ (z : suc a ≤ g). later z (x a) refl (gaps_of_with x y k (suc a) g p q z (omega arith)))
    (λ (z : g < suc a). here (omega arith))
    (le_or (suc a) g)
  where
    later
        : suc a ≤ g
        → (t : Bool)
        → x a ≡ t
        → gaps_of y k (suc a) ≡ with_gap g (gaps_of x k (suc a))
        → kept (y a) a (gaps_of y k (suc a)) ≡ with_gap g (kept t a (gaps_of x k (suc a)))
    later z true e r =
        rw
        (p a, ne_eqb a g (λ w. omega arith), e, le-ltb g a (omega arith))
        (ap (λ (l : List ℕ). a ∷ l) r)
    later z false e r = rw (p a, ne_eqb a g (λ w. omega arith), e) r

    here : a ≡ g → kept (y a) a (gaps_of y k (suc a)) ≡ with_gap g (kept (x a) a (gaps_of x k (suc a)))
    here z =
        let same : gaps_of y k (suc g) ≡ gaps_of x k (suc g) =
        gaps_of_same y x k (suc g) (λ i b c. p i ∙ rw (ne_eqb i g (λ w. omega arith))) in
        rw (z, p g, eq-eqb g g refl, q, same) (sym (with_first x k (suc g) g (omega arith)))

-- 02, job 4: Put adds a gap
pub gaps_with
    : (ws vs : List ℕ) (g : ℕ)
    → g < GAPS
    → ((i : ℕ) → holds vs i ≡ (eqb i g || holds ws i))
    → holds ws g ≡ false
    → gaps_in vs ≡ with_gap g (gaps_in ws)
unfolding gaps_in
gaps_with ws vs g h p q = gaps_of_with (holds ws) (holds vs) GAPS 0 g p q (omega arith) (omega arith)

-- a gap more where the gap had been taken away
back_again : (a b : Bool) → (a ≡ true → b ≡ true) → b ≡ (a || (not a && b))
back_again true b h = h refl
back_again false b h = refl

-- 02, job 4: Lift removes one
pub gaps_lifted
    : (ws vs : List ℕ) (g : ℕ)
    → g < GAPS
    → ((i : ℕ) → holds vs i ≡ (not (eqb i g) && holds ws i))
    → holds ws g ≡ true
    → gaps_in ws ≡ with_gap g (gaps_in vs)
gaps_lifted ws vs g h p q =
    gaps_with vs ws g h
    (λ i. back_again (eqb i g) (holds ws i) (λ z. let y : i ≡ g = eqb-true i g z in rw y q) ∙
    ap (λ (b : Bool). eqb i g || b) (sym (p i)))
    (p g ∙ rw (eq-eqb g g refl))

pub gaps_without
    : (ws vs : List ℕ) (g : ℕ)
    → g < GAPS
    → ((i : ℕ) → holds vs i ≡ (not (eqb i g) && holds ws i))
    → holds ws g ≡ true
    → gaps_in vs ≡ without g (gaps_in ws)
gaps_without ws vs g h p q =
    let lacks : is_in g (gaps_in vs) ≡ false = in_gaps vs g h ∙ p g ∙ rw (eq-eqb g g refl) in
    rw (gaps_lifted ws vs g h p q) (sym (without_with g (gaps_in vs) lacks))

-- ---- words

-- the words with the bit of gap g turned over
unfoldable pub turned : List ℕ → ℕ → List ℕ
turned ws g = set ws (g / 64) (bit_xor (get_or ws (g / 64) 0) (2 ^ (g % 64)))

pub holds_lifted
    : (ws : List ℕ) (g i : ℕ)
    → g / 64 < length ws
    → holds ws g ≡ true
    → holds (turned ws g) i ≡ (not (eqb i g) && holds ws i)
unfolding holds turned
holds_lifted ws g i h held = go (eq_or (i / 64) (g / 64))
  where
    word : ℕ
    word = bit_xor (get_or ws (g / 64) 0) (2 ^ (g % 64))

    here
        : (t : Bool)
        → eqb i g ≡ t
        → i / 64 ≡ g / 64
        → pick t (not (bit (get_or ws (g / 64) 0) (i % 64))) (bit (get_or ws (g / 64) 0) (i % 64)) ≡
        (not t && bit (get_or ws (g / 64) 0) (i % 64))
    here true e q =
        let z : i ≡ g = eqb-true i g e in
        let y : bit (get_or ws (g / 64) 0) (i % 64) ≡ true = rw z held in
        rw y
    here false e q = refl

    go
        : (i / 64 ≡ g / 64) ⊎ ((i / 64 ≡ g / 64) → ⊥)
        → bit (get_or (set ws (g / 64) word) (i / 64) 0) (i % 64) ≡ (not (eqb i g) && bit (get_or ws (i / 64) 0) (i % 64))
    go (inl e) =
        rw (
          e,
          get_or-set_same ws (g / 64) word 0 h,
          bit-xor (get_or ws (g / 64) 0) (2 ^ (g % 64)) (i % 64),
          bit_one (g % 64) (i % 64),
          same_gap i g e,
        )
        (here (eqb i g) refl e)
    go (inr n) = rw (get_or-set_other ws (g / 64) (i / 64) word 0 n, ne_eqb i g (λ z. n (rw z)))
