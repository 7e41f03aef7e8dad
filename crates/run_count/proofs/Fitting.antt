-- A list of turns tested: the loops counted, the bounds held one by one.
-- Main statements: `dos_on`, `dos_skip`, `dos_few`, `dos_counted`; `Tested`, what a turn keeps.
use mathlib.Core.Path.{◌≡◌, refl}
use mathlib.Core.Bool.{Bool, true, false}
use mathlib.Core.List.{List}
use Prim.Native.Nat.{ℕ, zero, suc, ◌+◌, ◌≤◌}
use native.Mathlib.Numerals.{add-one}
use native.Mathlib.Omega.{arith}
use lib.ListN.{length, get_or, take, drop}
use borrow.Author.Tests.{ne_eqb}
use Rattle.std.specs.Prelude.{◌==◌, count_by}
use Rattle.std.proofs.lemmas.List.Sums.{count_by_more_yes, count_by_more_no}
use Rattle.laws.specs.Choice.{when}
use Rattle.paper_nests.specs.Kinds.{DO}
use Rattle.paper_nests.specs.Loops.{is_do}
use Rattle.run_barriers.specs.Calls.{dos_before, are_turns}

-- one point more
pub dos_on : (ps : List ℕ) (n d : ℕ) → n ≡ dos_before ps d → get_or ps d 0 ≡ DO → n + 1 ≡ dos_before ps (d + 1)
unfolding dos_before
dos_on ps n d e h = rw (add-one d, h) (omega arith)

pub dos_skip : (ps : List ℕ) (n d : ℕ) → n ≡ dos_before ps d → (get_or ps d 0 ≡ DO → ⊥) → n ≡ dos_before ps (d + 1)
unfolding dos_before
dos_skip ps n d e h = rw (add-one d, ne_eqb (get_or ps d 0) DO h) (omega arith)

-- no more DOs than points
pub dos_few : (ps : List ℕ) (k : ℕ) → dos_before ps k ≤ k
unfolding dos_before
dos_few ps zero = omega arith
dos_few ps (suc k) = go (is_do ps k) (dos_few ps k)
  where
    go : (t : Bool) → dos_before ps k ≤ k → when t 1 + dos_before ps k ≤ suc k
    go true h = omega arith
    go false h = omega arith

-- those before a point are the ones that a count of the points before it finds
pub dos_counted : (ps : List ℕ) (k : ℕ) → k ≤ length ps → count_by (λ x. x == DO) (take k ps) ≡ dos_before ps k
unfolding dos_before
dos_counted ps zero h = refl
dos_counted ps (suc k) h = rw (← add-one k) (go (is_do ps k) refl (dos_counted ps k (omega arith)))
  where
    go :
        (t : Bool) → is_do ps k ≡ t → count_by (λ x. x == DO) (take k ps) ≡ dos_before ps k →
        count_by (λ x. x == DO) (take (k + 1) ps) ≡ when (is_do ps k) 1 + dos_before ps k
    go true e n = rw (count_by_more_yes (λ x. x == DO) ps k 0 h e, n, e) (omega arith)
    go false e n = rw (count_by_more_no (λ x. x == DO) ps k 0 h e, n, e) (omega arith)

-- the turns before i are within their bounds: the rest decides
pub record Tested (first inner : ℕ) (ts : List ℕ) (low i : ℕ) : Type 0 where
  pub here : i ≤ length ts
  pub rest : are_turns low inner (drop i ts) ≡ are_turns first inner ts
