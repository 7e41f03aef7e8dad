-- What a step keeps: c is at most what the gaps of the placement were named, and if it is just that, the facts hold. A
-- step that counts names one more; one that leads either names one more, or leads to a loop inside.
-- Main definitions: `Holds`, `Has`. Main statements: `counting`, `leading`.
use mathlib.Core.Path.{◌≡◌}
use mathlib.Core.Bool.{Bool, true, false}
use mathlib.Core.List.{List}
use mathlib.Core.Logic.{◌⊎◌, inl, inr}
use Prim.Native.Nat.{ℕ, suc, ◌≤◌, ◌<◌}
use native.Mathlib.Omega.{arith}
use Rattle.laws.specs.Choice.{is_in}
use Rattle.laws.proofs.Tests.{never_both, le_or}
use Rattle.argue_claims.specs.Arguments.{named}
use Rattle.argue_claims.proofs.Weights.{weigh, weigh_grows, weigh_hit}

-- the list has at least c of what was named; and if no more, none of the gaps that are told to be out
pub record Holds (gs : List ℕ) (c : ℕ) (t : ℕ → ℕ) (Told : ℕ → Type 0) : Type 0 where
  pub enough : c ≤ weigh gs t
  pub told : weigh gs t ≡ c → (g : ℕ) → Told g → is_in g gs ≡ false

-- a gap of the list in a set
pub record Has (gs : List ℕ) (s : ℕ → Bool) : Type 0 where
  pub gap : ℕ
  pub has : is_in gap gs ≡ true
  pub inside : s gap ≡ true

module _
    (gs : List ℕ) (c : ℕ) (t : ℕ → ℕ) (Told : ℕ → Type 0) (h : Holds gs c t Told) (s all : ℕ → Bool)
    (i : Has gs all) where
  -- what is left of a set is named and counted
  pub counting : ((g : ℕ) → is_in g gs ≡ true → all g ≡ true → (s g ≡ true) ⊎ Told g) →
      Holds gs (suc c) (named s t) (λ g. ⊥)
  counting left = record { enough = go (le_or (weigh gs t) c); told = λ e g z. absurd z }
    where
      by : weigh gs t ≡ c → (s i.gap ≡ true) ⊎ Told i.gap → suc c ≤ weigh gs (named s t)
      by e (inl z) = omega (arith, weigh_hit s t gs i.gap i.has z)
      by e (inr z) = never_both i.has (h.told e i.gap z)

      go : (weigh gs t ≤ c) ⊎ (c < weigh gs t) → suc c ≤ weigh gs (named s t)
      go (inl z) = by (omega (arith, z, h.enough)) (left i.gap i.has i.inside)
      go (inr z) = omega (arith, z, weigh_grows s t gs)

  -- or the list has a gap of a loop inside, and then none of others there
  pub leading : (Led Next : ℕ → Type 0) →
      ((g : ℕ) → is_in g gs ≡ true → all g ≡ true → (s g ≡ true) ⊎ (Led g ⊎ Told g)) →
      ((g k : ℕ) → is_in g gs ≡ true → Led g → Next k → is_in k gs ≡ false) →
      Holds gs c (named s t) (λ g. Next g ⊎ Told g)
  leading Led Next left claim = record { enough = omega (arith, h.enough, weigh_grows s t gs); told = then }
    where
      same : weigh gs (named s t) ≡ c → weigh gs t ≡ c
      same e = omega (arith, e, h.enough, weigh_grows s t gs)

      by : weigh gs (named s t) ≡ c → (s i.gap ≡ true) ⊎ (Led i.gap ⊎ Told i.gap) → (k : ℕ) → Next k →
          is_in k gs ≡ false
      by e (inl z) k w = absurd (omega (arith, e, h.enough, weigh_hit s t gs i.gap i.has z))
      by e (inr (inl z)) k w = claim i.gap k i.has z w
      by e (inr (inr z)) k w = never_both i.has (h.told (same e) i.gap z)

      then : weigh gs (named s t) ≡ c → (g : ℕ) → Next g ⊎ Told g → is_in g gs ≡ false
      then e g (inl z) = by e (left i.gap i.has i.inside) g z
      then e g (inr z) = h.told (same e) g z
