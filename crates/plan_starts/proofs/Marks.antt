-- The ends of lines with the loops inside that hold barriers marked, at each boundary.
-- Main statements: `mark_plain`, `mark_le`, `mark_some`, `mark_none`, `mark_later`.
use mathlib.Core.Path.{◌≡◌, refl}
use mathlib.Core.Bool.{Bool, true, false, ◌&&◌}
use mathlib.Core.List.{List}
use mathlib.Core.Logic.{⊎_elim}
use Prim.Native.Nat.{ℕ, zero, suc, ◌≤◌, ◌<◌}
use native.Mathlib.Omega.{arith}
use lib.Dec.{eqb, ltb}
use borrow.Author.Tests.{lt-ltb, le-ltb, eq-eqb, ne_eqb}
use Rattle.laws.specs.Choice.{pick}
use Rattle.laws.specs.Entries.{at}
use Rattle.laws.proofs.Tests.{le_or}
use Rattle.paper_nests.specs.Loops.{is_do}
use Rattle.plan_sweeps.specs.Listed.{row}
use Rattle.plan_starts.specs.Grounds.{Kid, Plain}
use Rattle.plan_starts.specs.Started.{marked}

module _ (ps own left : List ℕ) (kids d : ℕ) (need : ℕ → ℕ) where
  -- a plain gap
  pub mark_plain : (p : ℕ) → Plain ps own d p → marked ps own need (row left kids) d (suc p) ≡ need (suc p)
  unfolding marked
  mark_plain p k = ⊎_elim
      (λ (z : p ≤ d). rw (le-ltb d p z) refl)
      (λ (z : d < p). rw (lt-ltb d p z, k.no-do z) refl)
      (le_or p d)

  -- a mark only lowers an end
  pub mark_le : (a : ℕ) → marked ps own need (row left kids) d a ≤ need a
  unfolding marked
  mark_le zero = omega arith
  mark_le (suc a) = go (ltb d a && (is_do ps a && (eqb (at own a) d && ltb 0 (row left kids (suc a)))))
    where
      go : (t : Bool) → pick t 0 (need (suc a)) ≤ need (suc a)
      go true = omega arith
      go false = omega arith

  module _ (p l : ℕ) (k : Kid ps own left kids d p l) where
    pub mark_some : 0 < row left kids (suc l) → marked ps own need (row left kids) d (suc l) ≡ 0
    unfolding marked
    mark_some h =
        rw (lt-ltb d l k.below, k.is-do, eq-eqb (at own l) d k.owner, lt-ltb 0 (row left kids (suc l)) h) refl

    pub mark_none : row left kids (suc l) ≡ 0 → marked ps own need (row left kids) d (suc l) ≡ need (suc l)
    unfolding marked
    mark_none h = rw (
      lt-ltb d l k.below,
      k.is-do,
      eq-eqb (at own l) d k.owner,
      le-ltb 0 (row left kids (suc l)) (omega (arith, h)),
    ) refl

    pub mark_later : (a : ℕ) → suc l < a → a ≤ suc p → marked ps own need (row left kids) d a ≡ need a
    unfolding marked
    mark_later zero h i = refl
    mark_later (suc a) h i = go (ltb d a) (is_do ps a)
      where
        other : eqb (at own a) d ≡ false
        other = ne_eqb (at own a) d (k.inside a (omega arith) (omega arith))

        go : (t u : Bool) → pick (t && (u && (eqb (at own a) d && ltb 0 (row left kids (suc a))))) 0 (need (suc a)) ≡
            need (suc a)
        go true true = rw other refl
        go true false = refl
        go false true = refl
        go false false = refl
