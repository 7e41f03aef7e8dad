-- The end of a claim over tables: what is excluded, gap by gap.
-- Main statements: `larger_max`; `Striking`, `strike_on`, `strike_off`.
use mathlib.Core.Path.{◌≡◌, refl, ◌∙◌}
use mathlib.Core.Bool.{Bool, true, false}
use mathlib.Core.List.{List}
use mathlib.Core.Logic.{◌⊎◌, inl, inr, ⊎_elim}
use Prim.Native.Nat.{ℕ, suc, max, ◌+◌, ◌-◌, ◌≤◌, ◌<◌}
use native.Mathlib.Omega.{arith}
use lib.Dec.{leb}
use lib.ListN.{length, set, length-set}
use borrow.Author.Tests.{leb-true, leb-false}
use Rattle.laws.specs.Choice.{pick}
use Rattle.laws.specs.Entries.{at}
use Rattle.laws.proofs.Stores.{stored}
use Rattle.laws.proofs.Tests.{eq_or}
use Rattle.argue_weigh.specs.Striking.{larger}

pub larger_max : (a b : ℕ) → max a b ≡ larger a b
larger_max a b = go (leb a b) refl
  where
    go : (t : Bool) → leb a b ≡ t → max a b ≡ pick t b a
    go true h = omega (arith, leb-true a b h)
    go false h = omega (arith, leb-false a b h)

-- the gaps from g + 1 to e are done
pub record Striking (excluded : ℕ → Bool) (d e : ℕ) (old : List ℕ) (g : ℕ) (new : List ℕ) : Type 0 where
  pub low : d ≤ g
  pub high : g ≤ e
  pub long : length new ≡ length old
  pub done : (i : ℕ) → g < i → i ≤ e → at new i ≡ pick (excluded i) (larger (at old i) (suc d)) (at old i)
  pub rest : (i : ℕ) → (i ≤ g) ⊎ (e < i) → at new i ≡ at old i

module _ {excluded : ℕ → Bool} {d e : ℕ} {old : List ℕ} {g : ℕ} {new : List ℕ}
    (n : Striking excluded d e old g new) where
  -- a gap that is excluded, and one that is not
  pub strike_on
      : (r : ℕ)
      → d < g
      → excluded g ≡ true
      → r ≡ larger (at new g) (d + 1)
      → g < length new
      → Striking excluded d e old (g - 1) (set new g r)
  strike_on r pos w h fits =
      record {
        low = omega (arith, pos);
        high = omega (arith, n.high);
        long = length-set new g r ∙ n.long;
        done = λ i p q. stored new g r i (pick (excluded i) (larger (at old i) (suc d)) (at old i)) fits
            (λ z. here i z) (λ z. n.done i (omega (arith, z, p, pos)) q);
        rest = λ i p. stored new g r i (at old i) fits (λ z. absurd (apart i p z)) (λ z. n.rest i (below i p));
      }
    where
      here : (i : ℕ) → i ≡ g → r ≡ pick (excluded i) (larger (at old i) (suc d)) (at old i)
      here i z =
          let k : at new g ≡ at old g = n.rest g (inl (omega arith)) in
          let one : d + 1 ≡ suc d = omega arith in
          h ∙ rw (k, one, z, w) refl

      apart : (i : ℕ) → (i ≤ g - 1) ⊎ (e < i) → i ≡ g → ⊥
      apart i (inl p) z = omega (arith, p, z, pos)
      apart i (inr p) z = omega (arith, p, z, n.high)

      below : (i : ℕ) → (i ≤ g - 1) ⊎ (e < i) → (i ≤ g) ⊎ (e < i)
      below i (inl p) = inl (omega (arith, p))
      below i (inr p) = inr p

  pub strike_off : d < g → excluded g ≡ false → Striking excluded d e old (g - 1) new
  strike_off pos w =
      record {
        low = omega (arith, pos);
        high = omega (arith, n.high);
        long = n.long;
        done = λ i p q. ⊎_elim (λ (z : i ≡ g). here i z)
            (λ (z : i ≡ g → ⊥). n.done i (omega (arith, z, p, pos)) q) (eq_or i g);
        rest = λ i p. n.rest i (below i p);
      }
    where
      here : (i : ℕ) → i ≡ g → at new i ≡ pick (excluded i) (larger (at old i) (suc d)) (at old i)
      here i z = n.rest i (inl (omega (arith, z))) ∙ rw (z, w) refl

      below : (i : ℕ) → (i ≤ g - 1) ⊎ (e < i) → (i ≤ g) ⊎ (e < i)
      below i (inl p) = inl (omega (arith, p))
      below i (inr p) = inr p
