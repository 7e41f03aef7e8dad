-- Laws of the bits of a word: of `|`, `&`, a single bit, shifts, the lowest bit and the count of the bits.
-- Main statements: `bit-or`, `bit-and`, `bit_one`, `bit_shifted`, `lowest_set`, `ones_tally`, `tally_add`,
-- `tally_same`.
use mathlib.Core.Path.{◌≡◌, refl, sym, ap, ◌∙◌}
use mathlib.Core.Bool.{Bool, true, false, ◌&&◌, ◌||◌}
use mathlib.Core.Logic.{◌⊎◌, inl, inr, ⊎_elim}
use Prim.Native.Nat.{ℕ, zero, suc, ◌+◌, ◌-◌, ◌*◌, ◌/◌, ◌%◌, ◌^◌, ◌≤◌, ◌<◌, min, max}
use native.Mathlib.Nat.{mul_comm, div_self, pow-suc, div-lt_iff_lt-mul}
use native.Mathlib.Omega.{arith}
use lib.Dec.{eqb}
use lib.Arith.{lt-one}
use lib.Pow.{shr-shr, shl-shr, shr_le, pow_pos, pow-lt, pow_mono, pow-add}
use lib.Bits.{bit_and, bit_or, and_step, or_step, and_shr, or_shr}
use lib.Count.{ones, ones_step, count_trailing_zeros, under}
use borrow.Author.Tests.{eq-eqb, ne_eqb}
use Rattle.laws.specs.Bits.{bit, one, tally}
use Rattle.laws.proofs.Tests.{le_or}

-- ---- one digit

-- a digit is 0 or 1
digit_or : (n : ℕ) → (n % 2 ≡ 0) ⊎ (n % 2 ≡ 1)
digit_or n = go (n % 2) (omega arith)
  where
    go : (d : ℕ) → d < 2 → (d ≡ 0) ⊎ (d ≡ 1)
    go zero h = inl refl
    go (suc zero) h = inr refl
    go (suc (suc d)) h = absurd (omega arith)

or_odd : (a b : ℕ) → eqb (bit_or a b % 2) 1 ≡ (eqb (a % 2) 1 || eqb (b % 2) 1)
or_odd a b = go (digit_or a) (digit_or b)
  where
    low : (x : ℕ) → max (a % 2) (b % 2) ≡ x → x < 2 → bit_or a b % 2 ≡ x
    low x e h = omega (arith, or_step a b)

    go
        : (a % 2 ≡ 0) ⊎ (a % 2 ≡ 1)
        → (b % 2 ≡ 0) ⊎ (b % 2 ≡ 1)
        → eqb (bit_or a b % 2) 1 ≡ (eqb (a % 2) 1 || eqb (b % 2) 1)
    go (inl p) (inl q) = rw (low 0 (rw (p, q)) (omega arith), p, q)
    go (inl p) (inr q) = rw (low 1 (rw (p, q)) (omega arith), p, q)
    go (inr p) (inl q) = rw (low 1 (rw (p, q)) (omega arith), p)
    go (inr p) (inr q) = rw (low 1 (rw (p, q)) (omega arith), p)

and_odd : (a b : ℕ) → eqb (bit_and a b % 2) 1 ≡ (eqb (a % 2) 1 && eqb (b % 2) 1)
and_odd a b = go (digit_or a) (digit_or b)
  where
    low : (x : ℕ) → min (a % 2) (b % 2) ≡ x → x < 2 → bit_and a b % 2 ≡ x
    low x e h = omega (arith, and_step a b)

    go
        : (a % 2 ≡ 0) ⊎ (a % 2 ≡ 1)
        → (b % 2 ≡ 0) ⊎ (b % 2 ≡ 1)
        → eqb (bit_and a b % 2) 1 ≡ (eqb (a % 2) 1 && eqb (b % 2) 1)
    go (inl p) (inl q) = rw (low 0 (rw (p, q)) (omega arith), p)
    go (inl p) (inr q) = rw (low 0 (rw (p, q)) (omega arith), p)
    go (inr p) (inl q) = rw (low 0 (rw (p, q)) (omega arith), p, q)
    go (inr p) (inr q) = rw (low 1 (rw (p, q)) (omega arith), p, q)

-- ---- the operations, bit by bit

pub bit-or : (a b i : ℕ) → bit (bit_or a b) i ≡ (bit a i || bit b i)
unfolding bit
bit-or a b i = rw (or_shr a b i) (or_odd (a / 2 ^ i) (b / 2 ^ i))

pub bit-and : (a b i : ℕ) → bit (bit_and a b) i ≡ (bit a i && bit b i)
unfolding bit
bit-and a b i = rw (and_shr a b i) (and_odd (a / 2 ^ i) (b / 2 ^ i))

pub bit_zero : (i : ℕ) → bit 0 i ≡ false
unfolding bit
bit_zero i = rw (zero_shr i)
  where
    zero_shr : (k : ℕ) → 0 / 2 ^ k ≡ 0
    zero_shr k = omega (arith, shr_le 0 k)

-- the lowest bit, and the rest
pub bit_first : (v : ℕ) → bit v 0 ≡ eqb (v % 2) 1
unfolding bit
bit_first v = let z : v / 1 ≡ v = omega arith in rw z

pub bit_shifted : (v k i : ℕ) → bit (v / 2 ^ k) i ≡ bit v (k + i)
unfolding bit
bit_shifted v k i = rw (shr-shr v k i)

pub bit_rest : (v i : ℕ) → bit (v / 2) i ≡ bit v (suc i)
bit_rest v i = let z : 1 + i ≡ suc i = omega arith in bit_shifted v 1 i ∙ rw z

-- a word of k bits has none above them
pub bit_high : (v k i : ℕ) → v < 2 ^ k → k ≤ i → bit v i ≡ false
unfolding bit
bit_high v k i h l =
    let a : 2 ^ k ≤ 2 ^ i = pow_mono l in
    let z : v / 2 ^ i ≡ 0 = lt-one ((div-lt_iff_lt-mul (pow_pos i)).1 (omega arith)) in
    rw z

-- a word with one bit
pub bit_one : (k i : ℕ) → bit (2 ^ k) i ≡ eqb i k
unfolding bit
bit_one k i = go (le_or k i)
  where
    here : i ≡ k → eqb (2 ^ k / 2 ^ i % 2) 1 ≡ eqb i k
    here z =
        let y : 2 ^ k / 2 ^ k ≡ 1 = div_self (pow_pos k) in
        rw (z, y, eq-eqb k k refl)

    above : k < i → eqb (2 ^ k / 2 ^ i % 2) 1 ≡ eqb i k
    above h =
        let l : 2 ^ k < 2 ^ i = pow-lt h in
        let z : 2 ^ k / 2 ^ i ≡ 0 = lt-one ((div-lt_iff_lt-mul (pow_pos i)).1 (omega arith)) in
        rw (z, ne_eqb i k (λ q. omega arith))

    under_it : (j : ℕ) → i + suc j ≡ k → eqb (2 ^ k / 2 ^ i % 2) 1 ≡ eqb i k
    under_it j e =
        let y : 2 ^ k ≡ 2 ^ suc j * 2 ^ i = rw (← e) (pow-add 2 i (suc j) ∙ mul_comm (2 ^ i) (2 ^ suc j)) in
        let z : 2 ^ k / 2 ^ i ≡ 2 ^ suc j = rw y (shl-shr (2 ^ suc j) i) in
        let w : 2 ^ suc j % 2 ≡ 0 = omega (arith, pow-suc 2 j) in
        rw (z, w, ne_eqb i k (λ q. omega arith))

    go : (k ≤ i) ⊎ (i < k) → eqb (2 ^ k / 2 ^ i % 2) 1 ≡ eqb i k
    go (inl h) = ⊎_elim (λ (z : i ≤ k). here (omega arith)) (λ (z : k < i). above z) (le_or i k)
    go (inr h) = under_it (k - suc i) (omega arith)

-- ---- the lowest bit that is set

-- t is the place of the lowest bit of v that is set
pub record Lowest (v t : ℕ) : Type 0 where
  pub set_there : bit v t ≡ true
  pub none_below : (j : ℕ) → j < t → bit v j ≡ false

pub lowest_set : (k v : ℕ) → 0 < v → v < 2 ^ k → (count_trailing_zeros k v < k) × Lowest v (count_trailing_zeros k v)
unfolding count_trailing_zeros
lowest_set zero v p h = absurd (omega arith)
lowest_set (suc k) v p h = go (digit_or v) (lowest_set k (v / 2))
  where
    go
        : (v % 2 ≡ 0) ⊎ (v % 2 ≡ 1)
        → (0 < v / 2 → v / 2 < 2 ^ k → (count_trailing_zeros k (v / 2) < k) × Lowest (v / 2) (count_trailing_zeros k (v / 2)))
        → (under (v % 2) (count_trailing_zeros k (v / 2)) < suc k) × Lowest v (under (v % 2) (count_trailing_zeros k (v / 2)))
    go (inl e) rest = rw e (later (count_trailing_zeros k (v / 2)) (rest (omega arith) (omega (arith, pow-suc 2 k))))
      where
        later : (t : ℕ) → (t < k) × Lowest (v / 2) t → (suc t < suc k) × Lowest v (suc t)
        later t r =
            (omega (arith, r.0), record { set_there = sym (bit_rest v t) ∙ r.1.set_there; none_below = none })
          where
            none : (j : ℕ) → j < suc t → bit v j ≡ false
            none zero l = bit_first v ∙ rw e
            none (suc j) l = sym (bit_rest v j) ∙ r.1.none_below j (omega arith)
    go (inr e) rest =
        rw e (omega arith, record { set_there = bit_first v ∙ rw e; none_below = λ j l. absurd (omega arith) })

-- ---- counts

pub tally_same
    : (f g : ℕ → Bool) (k i : ℕ)
    → ((j : ℕ) → i ≤ j → j < i + k → f j ≡ g j)
    → tally f k i ≡ tally g k i
unfolding tally
tally_same f g zero i h = refl
tally_same f g (suc k) i h =
    rw
    (h i (omega arith) (omega arith))
    (ap (λ (n : ℕ). one (g i) + n) (tally_same f g k (suc i) (λ j l m. h j (omega arith) (omega arith))))

-- the same test at places moved by c
pub tally_moved
    : (f g : ℕ → Bool) (c k i : ℕ)
    → ((j : ℕ) → i ≤ j → j < i + k → f j ≡ g (c + j))
    → tally f k i ≡ tally g k (c + i)
unfolding tally
tally_moved f g c zero i h = refl
tally_moved f g c (suc k) i h =
    rw
    (h i (omega arith) (omega arith))
    (ap
    (λ (n : ℕ). one (g (c + i)) + n)
    (let z : c + suc i ≡ suc (c + i) = omega arith in
    rw (← z) (tally_moved f g c k (suc i) (λ j a b. h j (omega arith) (omega arith)))))

-- one range after another
pub tally_add : (f : ℕ → Bool) (k m i : ℕ) → tally f (k + m) i ≡ tally f k i + tally f m (i + k)
unfolding tally
tally_add f zero m i =
    let a : 0 + m ≡ m = omega arith in
    let b : i + 0 ≡ i = omega arith in
    rw (a, b) (omega arith)
tally_add f (suc k) m i =
    let a : suc k + m ≡ suc (k + m) = omega arith in
    let b : i + suc k ≡ suc i + k = omega arith in
    rw (a, b) (omega (arith, tally_add f k m (suc i)))

pub tally_le : (f : ℕ → Bool) (k i : ℕ) → tally f k i ≤ k
unfolding tally
tally_le f zero i = omega arith
tally_le f (suc k) i = go (f i) (tally_le f k (suc i))
  where
    go : (t : Bool) → tally f k (suc i) ≤ k → one t + tally f k (suc i) ≤ suc k
    go true h = omega arith
    go false h = omega arith

-- a word's ones are the bits that are set
pub ones_tally : (k v : ℕ) → v < 2 ^ k → ones v ≡ tally (bit v) k 0
unfolding tally ones
ones_tally zero v h = rw (lt-one h) none
  where
    none : ones 0 ≡ 0
    none = refl
ones_tally (suc k) v h =
    let a : v / 2 < 2 ^ k = omega (arith, pow-suc 2 k) in
    let b : tally (bit (v / 2)) k 0 ≡ tally (bit v) k 1 =
    tally_moved (bit (v / 2)) (bit v) 1 k 0 (λ j a b. bit_shifted v 1 j) in
    omega (arith, ones_step v, ones_tally k (v / 2) a, b, first)
  where
    first : one (bit v 0) ≡ v % 2
    first = go (digit_or v)
      where
        go : (v % 2 ≡ 0) ⊎ (v % 2 ≡ 1) → one (bit v 0) ≡ v % 2
        go (inl e) = rw (bit_first v, e)
        go (inr e) = rw (bit_first v, e)
