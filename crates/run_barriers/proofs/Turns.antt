-- Turns that fit: each loop has its own, at most 16, and every loop but the outermost at least the lower bound.
-- Main statements: `dos_at`, `each_turn`, `fit_is`, `fit_lower`, `in_list`, `turns_most`, `turns_least`.
use mathlib.Core.Path.{◌≡◌, refl}
use mathlib.Core.Bool.{true}
use mathlib.Core.List.{List, [], ◌∷◌}
use mathlib.Core.Logic.{◌⊎◌, inl, inr}
use Prim.Native.Nat.{ℕ, zero, suc, ◌≤◌, ◌<◌}
use native.Mathlib.Omega.{arith}
use lib.Dec.{eqb}
use lib.ListN.{length, get_or}
use borrow.Author.Tests.{eqb-true}
use Rattle.laws.specs.Choice.{between}
use Rattle.laws.proofs.Tests.{eq_or, and_true, and_intro}
use Rattle.laws.proofs.Ranges.{in_between, between_in}
use Rattle.paper_nests.specs.Loops.{is_do}
use Rattle.paper_nests.specs.Valid.{is_shape}
use Rattle.paper_nests.proofs.Levels.{starts_with_do, point_in}
use Rattle.run_barriers.specs.Calls.{TURNS, dos_before, turns_of, are_turns, fit_in}

-- ---- the DOs before a point

-- a DO counts after itself
pub dos_at : (ps : List ℕ) (d k : ℕ) → is_do ps d ≡ true → d < k → dos_before ps d < dos_before ps k
unfolding dos_before
dos_at ps d zero h l = absurd (omega arith)
dos_at ps d (suc k) h l = go (eq_or d k) (dos_at ps d k h)
  where
    go : (d ≡ k) ⊎ ((d ≡ k) → ⊥) → (d < k → dos_before ps d < dos_before ps k) → dos_before ps d < dos_before ps (suc k)
    go (inl z) r =
        let e : is_do ps k ≡ true = rw z at h in
        rw (z, e) (omega arith)
    go (inr z) r = omega (arith, r (omega arith))

-- ---- the list

-- one of them: within its bounds
pub each_turn : (low : ℕ) (ts : List ℕ) → are_turns low low ts ≡ true → (i : ℕ) → i < length ts →
    (low ≤ get_or ts i 1) × (get_or ts i 1 ≤ TURNS)
each_turn low [] h i l = absurd (omega arith)
each_turn low (t ∷ ts) h zero l = in_between low t TURNS (and_true (between low t TURNS) (are_turns low low ts) h).0
each_turn low (t ∷ ts) h (suc i) l =
    each_turn low ts (and_true (between low t TURNS) (are_turns low low ts) h).1 i (omega arith)

module _ (first inner : ℕ) where
  list_most : (ts : List ℕ) → are_turns first inner ts ≡ true → (i : ℕ) → i < length ts → get_or ts i 1 ≤ TURNS
  list_most [] h i l = absurd (omega arith)
  list_most (t ∷ ts) h zero l =
      (in_between first t TURNS (and_true (between first t TURNS) (are_turns inner inner ts) h).0).1
  list_most (t ∷ ts) h (suc i) l =
      (each_turn inner ts (and_true (between first t TURNS) (are_turns inner inner ts) h).1 i (omega arith)).1

  list_least :
      (ts : List ℕ) → are_turns first inner ts ≡ true → (i : ℕ) → 0 < i → i < length ts → inner ≤ get_or ts i 1
  list_least [] h i k l = absurd (omega arith)
  list_least (t ∷ ts) h zero k l = absurd (omega arith)
  list_least (t ∷ ts) h (suc i) k l =
      (each_turn inner ts (and_true (between first t TURNS) (are_turns inner inner ts) h).1 i (omega arith)).0

-- ---- of a nest

pub record Fits (first inner : ℕ) (ps ts : List ℕ) : Type 0 where
  pub as_many : length ts ≡ dos_before ps (length ps)
  pub bounds : are_turns first inner ts ≡ true

pub fit_is : (first inner : ℕ) (ps ts : List ℕ) → fit_in first inner ps ts ≡ true → Fits first inner ps ts
fit_is first inner ps ts h =
    let many = dos_before ps (length ps) in
    let z = and_true (eqb (length ts) many) (are_turns first inner ts) h in
    record { as_many = eqb-true (length ts) many z.0; bounds = z.1 }

-- lower bounds may be dropped
lower_turns : (a b : ℕ) (ts : List ℕ) → are_turns a b ts ≡ true → are_turns 0 0 ts ≡ true
lower_turns a b [] h = refl
lower_turns a b (t ∷ ts) h =
    let z = and_true (between a t TURNS) (are_turns b b ts) h in
    and_intro
    (between_in 0 t TURNS (omega arith) (in_between a t TURNS z.0).1)
    (lower_turns b b ts z.1)

pub fit_lower : (a b : ℕ) (ps ts : List ℕ) → fit_in a b ps ts ≡ true → fit_in 0 0 ps ts ≡ true
fit_lower a b ps ts h =
    let many = dos_before ps (length ps) in
    let z = and_true (eqb (length ts) many) (are_turns a b ts) h in
    and_intro z.0 (lower_turns a b ts z.1)

module _ (first inner : ℕ) (ps ts : List ℕ) (fit : fit_in first inner ps ts ≡ true) where
  -- a loop's turns are in the list
  pub in_list : (d : ℕ) → is_do ps d ≡ true → dos_before ps d < length ts
  in_list d h = omega (arith, (fit_is first inner ps ts fit).as_many, dos_at ps d (length ps) h (point_in ps d 0 h))

  pub turns_most : (d : ℕ) → is_do ps d ≡ true → turns_of ps ts d ≤ TURNS
  turns_most d h = list_most first inner ts (fit_is first inner ps ts fit).bounds (dos_before ps d) (in_list d h)

  pub turns_least : is_shape ps ≡ true → (d : ℕ) → is_do ps d ≡ true → 0 < d → inner ≤ turns_of ps ts d
  turns_least shape d h l =
      list_least first inner ts (fit_is first inner ps ts fit).bounds (dos_before ps d) later (in_list d h)
    where
      -- the outermost loop's DO stands before
      later : 0 < dos_before ps d
      later = omega (arith, dos_at ps 0 d (starts_with_do ps shape) l)
