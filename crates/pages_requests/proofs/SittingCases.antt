-- The paper 01 03 02 with 12000101 at the screen, worked out by the page alone: with no barrier one dependence remains
-- uncut, with gap 2 none. So the page excludes a Put that tells 0 whatever is put, and one that tells how many
-- dependences there are; the page of the numbers excludes a Take back without end.
-- Main statements: `all_remain`, `none_remain`, `sitting_excluded`.
use mathlib.Core.Path.{◌≡◌, refl}
use mathlib.Core.List.{List, [], ◌∷◌}
use Prim.Native.Nat.{ℕ}
use native.Mathlib.Omega.{arith}
use lib.ListN.{length}
use Rattle.desk.specs.declared.Desk.{Desk}
use Rattle.pages.specs.Demands.{HowMany, GapOf, Paper, Cut}
use Rattle.pages.specs.Numbers.{BackNumber}
use Rattle.pages_requests.specs.Sitting.{Remain}
use Rattle.pages_requests.proofs.TextbookCases.{round, turn}
use Rattle.pages_requests.proofs.FirstCases.{loop_0}

pub all_remain : Remain turn [] 1
all_remain = HowMany.one (λ c. c.1.0.1) HowMany.none

cut_2 : Cut turn.points round (2 ∷ [])
cut_2 = (2, ((0, refl), GapOf.back 2 refl loop_0 (omega arith) (omega arith)))

pub none_remain : Remain turn (2 ∷ []) 0
none_remain = HowMany.other (λ h. h cut_2) HowMany.none

-- of some things one number of them have a property
one_number
    : (k : ℕ) (gs : List ℕ) → Remain turn gs k
    → (Cut turn.points round gs → k ≡ 0) × ((Cut turn.points round gs → ⊥) → k ≡ 1)
one_number k gs (HowMany.one h HowMany.none) = ((λ c. absurd (h c)), (λ z. refl))
one_number k gs (HowMany.other h HowMany.none) = ((λ c. refl), (λ z. absurd (h z)))

abbrev Keeps : (Paper → List ℕ → ℕ) → Type 0
Keeps f = (p : Paper) (gs : List ℕ) → Remain p gs (f p gs)

pub record SittingExcluded : Type 0 where
  pub tells_none : (f : Paper → List ℕ → ℕ) → ((p : Paper) (gs : List ℕ) → f p gs ≡ 0) → Keeps f → ⊥
  pub tells_all : (f : Paper → List ℕ → ℕ) → ((p : Paper) (gs : List ℕ) → f p gs ≡ length p.deps) → Keeps f → ⊥
  pub without_end : (d : Desk) (f : ℕ → ℕ) → ((k : ℕ) → f k ≡ 0) → ((k : ℕ) → BackNumber d k (f k)) → ⊥

pub sitting_excluded : SittingExcluded
sitting_excluded =
    record {
      tells_none =
          λ f h k. omega (arith, h turn [], (one_number (f turn []) [] (k turn [])).1 (λ c. c.1.0.1));
      tells_all =
          λ f h k.
          omega (arith, h turn (2 ∷ []), (one_number (f turn (2 ∷ [])) (2 ∷ []) (k turn (2 ∷ []))).0 cut_2);
      without_end = λ d f h k. end d 0 (f 0) refl (h 0) (k 0);
    }
  where
    end : (d : Desk) (k n : ℕ) → k ≡ 0 → n ≡ 0 → BackNumber d k n → ⊥
    end d k n e z (BackNumber.no_nest w) = omega arith
    end d k n e z (BackNumber.no_move w) = omega arith
    end d k n e z (BackNumber.taken w) = omega arith
