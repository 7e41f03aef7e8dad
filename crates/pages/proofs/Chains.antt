-- A chain of numbers, each of which stands for a test: its first number is the lowest of those that apply.
-- Main definition: `Decides`. Main statements: `lowest_is`, `is_lowest`, `first_found`, `when_found`.
use mathlib.Core.Path.{◌≡◌, refl}
use mathlib.Core.Bool.{Bool, true, false}
use Prim.Native.Nat.{ℕ, zero, suc, ◌≤◌, ◌<◌}
use native.Mathlib.Omega.{arith}
use Rattle.laws.specs.Choice.{when, first_of}
use Rattle.laws.proofs.Tests.{never}
use Rattle.pages.specs.Numbers.{Lowest}

-- a number that is not 0, and at most n
abbrev pub Upto : ℕ → ℕ → Type 0
Upto k n = (0 < k) × (k ≤ n)

-- 0 where nothing is wrong, else the lowest number of what is wrong
pub record Decides (Wrong : ℕ → Type 0) (k : ℕ) : Type 0 where
  pub found : 0 < k → Wrong k
  pub least : (n : ℕ) → Wrong n → Upto k n

pub lowest_is : {Wrong : ℕ → Type 0} {k n : ℕ} → Decides Wrong k → Lowest Wrong n → k ≡ n
lowest_is {Wrong} {k} {n} d l =
    let a = d.least n l.wrong in
    let b = l.least k (d.found a.0) in
    omega (arith, a.1)

pub is_lowest : {Wrong : ℕ → Type 0} {k : ℕ} → Decides Wrong k → 0 < k → Lowest Wrong k
is_lowest d h = record { wrong = d.found h; least = λ m w. (d.least m w).1 }

pub none_wrong : {Wrong : ℕ → Type 0} {k : ℕ} → Decides Wrong k → k ≡ 0 → (n : ℕ) → Wrong n → ⊥
none_wrong d z n w = omega (arith, (d.least n w).0)

-- ---- the numbers of a chain

pub first_upto : (a b n : ℕ) → Upto a n → Upto (first_of a b) n
first_upto zero b n u = absurd (omega (arith, u.0))
first_upto (suc a) b n u = u

pub later_upto : (a b n : ℕ) → a ≤ n → Upto b n → Upto (first_of a b) n
later_upto zero b n l u = u
later_upto (suc a) b n l u = (omega arith, l)

pub when_upto : (t : Bool) (k : ℕ) → 0 < k → t ≡ true → Upto (when t k) k
when_upto true k l e = (l, omega arith)
when_upto false k l e = never e

pub first_found
    : (Wrong : ℕ → Type 0) (a b : ℕ) → (0 < a → Wrong a) → (a ≡ 0 → 0 < b → Wrong b) → 0 < first_of a b
    → Wrong (first_of a b)
first_found Wrong zero b f g h = g refl h
first_found Wrong (suc a) b f g h = f h

pub when_found : (Wrong : ℕ → Type 0) (t : Bool) (k : ℕ) → (t ≡ true → Wrong k) → 0 < when t k → Wrong (when t k)
when_found Wrong true k f h = f refl
when_found Wrong false k f h = absurd (omega arith)
