-- The pass over the points: each of the tables has its entries before the point, and 0 from there on.
-- Main statements: `Filled`, `fill_none`, `fill_next`, `fill_all`.
use mathlib.Core.Path.{◌≡◌, sym, ◌∙◌}
use mathlib.Core.List.{List}
use mathlib.Core.Logic.{⊎_elim}
use Prim.Native.Nat.{ℕ, suc, ◌+◌, ◌≤◌, ◌<◌}
use native.Mathlib.Omega.{arith}
use lib.ListN.{length, set, length-set}
use Rattle.laws.specs.Entries.{at}
use Rattle.laws.proofs.Stores.{stored}
use Rattle.laws.proofs.Tests.{le_or}
use Rattle.paper_nests.specs.Kinds.{POINTS}

-- the table has f in the places before p, and 0 from there on
pub record Filled (f : ℕ → ℕ) (p : ℕ) (xs : List ℕ) : Type 0 where
  pub long : length xs ≡ POINTS
  pub before : (i : ℕ) → i < p → at xs i ≡ f i
  pub behind : (i : ℕ) → p ≤ i → at xs i ≡ 0

pub fill_none : (f : ℕ → ℕ) (xs : List ℕ) → length xs ≡ POINTS → ((i : ℕ) → at xs i ≡ 0) → Filled f 0 xs
fill_none f xs l z = record { long = l; before = λ i h. absurd (omega arith); behind = λ i h. z i }

module _ {f : ℕ → ℕ} {p : ℕ} {xs : List ℕ} (t : Filled f p xs) where
  pub fill_next : (x : ℕ) → p < POINTS → x ≡ f p → Filled f (p + 1) (set xs p x)
  fill_next x l e =
      record {
        long = length-set xs p x ∙ t.long;
        before = λ i h. stored xs p x i (f i) inside (λ z. rw z e) (λ n. t.before i (omega arith));
        behind = λ i h. stored xs p x i 0 inside (λ z. absurd (omega arith)) (λ n. t.behind i (omega arith));
      }
    where
      inside : p < length xs
      inside = omega (arith, t.long)

  -- where f is 0 from there on, the table is f
  pub fill_all : ((i : ℕ) → p ≤ i → f i ≡ 0) → (i : ℕ) → at xs i ≡ f i
  fill_all none i =
      ⊎_elim
      (λ (z : suc i ≤ p). t.before i (omega arith))
      (λ (z : p < suc i). t.behind i (omega arith) ∙ sym (none i (omega arith)))
      (le_or (suc i) p)
