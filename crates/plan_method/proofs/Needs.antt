-- The lines that a sweep has to cut, each by its start a and the last gap `need a` by which it is to be cut: the loop's
-- own lines, and the suffix. A line ends no earlier than it starts, and one that starts in a child ends behind it.
-- Main definitions: `NeedLaws`, `Cuts`. Main statements: `need_cases`, `need_laws`, `more_cuts`.
use mathlib.Core.Path.{◌≡◌, refl}
use mathlib.Core.Bool.{Bool, true, false}
use mathlib.Core.Logic.{⊎_elim}
use Prim.Native.Nat.{ℕ, ◌≤◌, ◌<◌}
use native.Mathlib.Omega.{arith}
use lib.Dec.{eqb, ltb}
use borrow.Author.Tests.{ltb-true, ltb-false, eqb-true, eqb-false}
use Rattle.laws.proofs.Choices.{pick_by}
use Rattle.laws.proofs.Tests.{le_or, and_true, and_false}
use Rattle.plan_method.specs.Sweep.{Loops, Lines, bare, need_of}
use Rattle.plan_method.proofs.World.{World, Child, Lawful}
use Rattle.plan_method.proofs.Claim.{Hit}
use Rattle.plan_method.proofs.Hits.{hit_more}

-- w cuts the lines that start above p
pub record Cuts (need : ℕ → ℕ) (e p : ℕ) (w : ℕ → Bool) : Type 0 where
  pub cut : (a : ℕ) → p < a → a ≤ e → need a ≤ e → Hit w a (need a)

pub start_cuts : (need : ℕ → ℕ) (e : ℕ) → Cuts need e e bare
start_cuts need e = record { cut = λ a h i. absurd (omega arith) }

-- a placement with more gaps, which cuts the lines that start at l + 1 … p too
pub more_cuts : {need : ℕ → ℕ} {e l p : ℕ} {w y : ℕ → Bool}
    → ((g : ℕ) → w g ≡ true → y g ≡ true)
    → ((a : ℕ) → l < a → a ≤ p → a ≤ e → need a ≤ e → Hit y a (need a))
    → Cuts need e p w → Cuts need e l y
more_cuts {need} {e} {l} {p} h new k =
    record {
      cut = λ a i j u. ⊎_elim
          (λ (z : a ≤ p). new a i z j u)
          (λ (z : p < a). hit_more h (k.cut a z j u))
          (le_or a p);
    }

-- lines of d, each by its start a and the last gap by which it is to be cut
pub record NeedLaws (B : Loops) (d : ℕ) (need : ℕ → ℕ) : Type 0 where
  pub long : (a : ℕ) → d < a → a ≤ B.stop d → a ≤ need a
  pub leaves : (a p l : ℕ) → Child B d p l → p < B.stop d → l < a → a ≤ p → p < need a

-- a sweep's need is the line's own reach, or the suffix's end
module _ (reach : ℕ → ℕ) (q e : ℕ) where
  pub need_cases : (P : ℕ → Type 0) (a : ℕ) → P (reach a) → (a ≡ q → e < reach a → P e) → P (need_of reach q e a)
  unfolding need_of
  need_cases P a line suffix =
      pick_by P (λ h. (
      let j = and_true (eqb a q) (ltb e (reach a)) h in
      suffix (eqb-true a q j.0) (ltb-true e (reach a) j.1)))
      (λ h. line)

  pub need_least : (a : ℕ) → need_of reach q e a ≤ reach a
  need_least a = need_cases (λ n. n ≤ reach a) a (omega arith) (λ h i. omega arith)

  pub need_suffix : need_of reach q e q ≤ e
  unfolding need_of
  need_suffix =
      pick_by (λ n. n ≤ e) (λ h. omega arith) (λ h. ⊎_elim
      (λ (z : eqb q q ≡ false). absurd (eqb-false q q z refl))
      (λ (z : ltb e (reach q) ≡ false). ltb-false e (reach q) z)
      (and_false (eqb q q) (ltb e (reach q)) h))

module _ (W : World) (N : Lines) (laws : Lawful W N) (d : ℕ) (is-do : W.loops.is_do d ≡ true) where
  abbrev e : ℕ
  e = W.loops.stop d

  reach_long : (a : ℕ) → d < a → a ≤ e → a ≤ N.reach d a
  reach_long a h i =
      ⊎_elim
      (λ (z : N.reach d a ≤ e). (
      let k : W.Line d a (N.reach d a) = laws.of_lines.reach_is d a is-do h i z in
      laws.of_lines.line_long d a (N.reach d a) is-do k))
      (λ (z : e < N.reach d a). omega arith)
      (le_or (N.reach d a) e)

  -- a line that starts in a child ends behind it
  reach_leaves : (a p l : ℕ) → Child W.loops d p l → p < e → l < a → a ≤ p → p < N.reach d a
  reach_leaves a p l c u h i =
      ⊎_elim
      (λ (z : N.reach d a ≤ e). (
      let b : d < a = omega (arith, c.below) in
      let k : W.Line d a (N.reach d a) = laws.of_lines.reach_is d a is-do b (omega arith) z in
      omega (arith, c.ends, laws.of_lines.line_leaves d a (N.reach d a) l is-do k same h (omega (arith, c.ends)))))
      (λ (z : e < N.reach d a). omega arith)
      (le_or (N.reach d a) e)
    where
      same : Child W.loops d (W.loops.stop l) l
      same = record { is-do = c.is-do; below = c.below; ends = refl; owner = c.owner }

  pub need_laws : (q : ℕ) → NeedLaws W.loops d (need_of (N.reach d) q e)
  need_laws q =
      record {
        long = λ a h i. need_cases (N.reach d) q e (λ n. a ≤ n) a (reach_long a h i) (λ z y. i);
        leaves = λ a p l c u h i. need_cases (N.reach d) q e (λ n. p < n) a (reach_leaves a p l c u h i) (λ z y. u);
      }
