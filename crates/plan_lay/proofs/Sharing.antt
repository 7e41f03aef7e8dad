-- The row that is swept is one list for all loops: a loop inside writes only to its own range, and the sweep that
-- stands before that range reads no gap of it any more.
-- Main definition: `Shared`. Main statements: `shared_all`, `shared_less`, `shared_child`, `stepped_shared`.
use mathlib.Core.Path.{◌≡◌, refl, ◌∙◌}
use mathlib.Core.List.{List}
use Prim.Native.Nat.{ℕ, suc, ◌≤◌, ◌<◌}
use native.Mathlib.Omega.{arith}
use lib.ListN.{length}
use Rattle.laws.specs.Entries.{at}
use Rattle.plan_method.specs.Sweep.{seek, step_child}
use Rattle.plan_sweeps.specs.Listed.{Stepped}
use Rattle.plan_starts.specs.Grounds.{Kept}
use Rattle.plan_starts.proofs.Seeks.{seek_alike}

-- up to the boundary p the list is the row that is swept, and outside the loop's range it is as before
pub record Shared (swept need : List ℕ) (d e p : ℕ) : Type 0 where
  pub size : length need ≡ length swept
  pub same : (a : ℕ) → a ≤ p → at need a ≡ at swept a
  pub kept : Kept swept need d e

pub shared_all : {swept : List ℕ} {d e p : ℕ} → Shared swept swept d e p
shared_all = record { size = refl; same = λ a h. refl; kept = λ i h. refl }

module _ {swept need : List ℕ} {d e p : ℕ} (s : Shared swept need d e p) where
  pub shared_less : {p' : ℕ} → p' ≤ p → Shared swept need d e p'
  shared_less h = record { size = s.size; same = λ a i. s.same a (omega arith); kept = s.kept }

  -- the loop l inside, with its ENDDO m, wrote to its range
  pub shared_child
      : {need' : List ℕ} {l m : ℕ}
      → d < l
      → m ≤ e
      → l ≤ p
      → length need' ≡ length need
      → Kept need need' l m
      → Shared swept need' d e l
  shared_child below short before size kept =
      record {
        size = size ∙ s.size;
        same = λ a h. kept a (λ i. absurd (omega arith)) ∙ s.same a (omega arith);
        kept = λ i h. kept i (λ j. omega (arith, h (omega arith))) ∙ s.kept i h;
      }

-- a step over a loop that ends before the boundary
pub stepped_shared
    : {swept need left : List ℕ} {kids d e l p c f c' f' ask : ℕ}
    → Shared swept need d e (suc p)
    → Stepped need left kids l p c f c' f' ask
    → Stepped swept left kids l p c f c' f' ask
unfolding step_child
stepped_shared {swept} {need} {left} {kids} {l = l} {p = p} {c = c} {f = f} s t =
    record {
      step_is = λ lay w. rw found (t.step_is lay w);
      low = t.low;
      high = t.high;
      grows = t.grows;
    }
  where
    found : seek (at swept) f l (suc p) ≡ seek (at need) f l (suc p)
    found = seek_alike (at need) (at swept) f l (suc p)
        (λ y i j h. omega (arith, s.same y j))
        (λ y i j h. omega (arith, s.same y j))
