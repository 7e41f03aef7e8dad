-- The ends of the loops of a desk, in a byte each: on a desk made by calls every loop ends at a point.
-- Main definition: `Shortened`, what a turn keeps. Main statements: `made_ends`; `short_start`, `short_put`,
-- `short_by`, `short_done`.
use mathlib.Core.Path.{◌≡◌, sym, ap, ◌∙◌}
use mathlib.Core.Bool.{true, false}
use mathlib.Core.List.{List}
use mathlib.Core.Logic.{⊎_elim}
use Prim.Native.Nat.{ℕ, ◌+◌, ◌≤◌, ◌<◌}
use native.Mathlib.Omega.{arith}
use lib.ListN.{length, get_or, set, length-set}
use borrow.Author.Tests.{eqb-true}
use Rattle.laws.specs.Entries.{at}
use Rattle.laws.proofs.Stores.{stored}
use Rattle.laws.proofs.Tests.{test, eq_or}
use Rattle.paper_nests.specs.Kinds.{DO, POINTS}
use Rattle.paper_nests.specs.Loops.{is_do, end_of, HasEnds}
use Rattle.paper_nests.specs.Stored.{nest_in}
use Rattle.paper_nests.proofs.Deps.{valid_is}
use Rattle.paper_nests.proofs.Levels.{point_in}
use Rattle.paper_nests.proofs.Loops.{end_there}
use Rattle.desk.specs.declared.Desk as DD
use Rattle.desk.specs.Desks.{Desk, IsMade}
use Rattle.call_list.specs.Lists.{EndsFit}

pub made_ends : (d : DD.Desk) → IsMade d → EndsFit (nest_in d.nest).points
made_ends d made x h =
    ⊎_elim
    (λ (z : d.loaded ≡ true).
    let v = valid_is (nest_in d.nest) (made.paper.valid z) in
    omega (arith, end_there (nest_in d.nest).points v.shape x h, v.few_points))
    (λ (z : d.loaded ≡ false).
    let none : length (nest_in d.nest).points ≡ 0 =
    ap (λ (y : Desk). length y.nest_is.points) (made.paper.no_nest z) in
    absurd (omega (arith, point_in (nest_in d.nest).points x 0 h)))
    (test d.loaded)

-- the DOs below i have their ends
pub record Shortened (ps : List ℕ) (i : ℕ) (of : List ℕ) : Type 0 where
  pub long : length of ≡ POINTS
  pub known : (d : ℕ) → d < i → is_do ps d ≡ true → at of d ≡ end_of ps d

pub short_start : (ps : List ℕ) (i : ℕ) (of : List ℕ) → i ≡ 0 → length of ≡ POINTS → Shortened ps i of
short_start ps i of z l = record { long = l; known = λ d h. absurd (omega arith) }

module _ {ps : List ℕ} {i : ℕ} {of : List ℕ} (p : Shortened ps i of) where
  pub short_put : i < POINTS → (e : ℕ) → e ≡ end_of ps i → Shortened ps (i + 1) (set of i e)
  short_put h e is =
      record {
        long = length-set of i e ∙ p.long;
        known =
            λ d l k.
            stored of i e d (end_of ps d) (omega (arith, p.long))
            (λ z. is ∙ ap (end_of ps) (sym z))
            (λ z. p.known d (omega arith) k);
      }

  pub short_by : (get_or ps i 0 ≡ DO → ⊥) → Shortened ps (i + 1) of
  short_by no-do =
      record {
        long = p.long;
        known =
            λ d l k.
            ⊎_elim
            (λ (z : d ≡ i). absurd (no-do (eqb-true (get_or ps i 0) DO (rw (← z) k))))
            (λ (z : d ≡ i → ⊥). p.known d (omega arith) k)
            (eq_or d i);
      }

  pub short_done : length ps ≤ i → HasEnds ps of
  short_done h d k = p.known d (omega (arith, point_in ps d 0 k)) k
