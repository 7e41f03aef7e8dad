-- The paper 01 03 02 with 12000101 and no barrier, worked out by the page alone: the candidate's slip begins 230000 and
-- the verdict is 2400000000. So the page excludes a slip that says that all is cut, and one that says Best unlooked.
-- Main statements: `first_is`, `verdict_is`, `slips_excluded`.
use mathlib.Core.Path.{◌≡◌, refl, ap}
use mathlib.Core.List.{List, [], ◌∷◌}
use Prim.Native.Nat.{ℕ, zero, suc, ◌/◌, ◌%◌}
use native.Mathlib.Omega.{arith}
use Rattle.pages.specs.Demands.{Paper, Correct, Uncut}
use Rattle.pages_requests.proofs.TextbookCases.{round, turn}
use Rattle.pages_calls.specs.Slips.{FirstLine, VerdictLine}

-- nothing is cut without a barrier
wrong : Correct turn [] → ⊥
wrong c = (c.cut round (0, refl)).1.0.1

first_0 : (i : ℕ) → Uncut turn [] i → i ≡ 0
first_0 zero u = refl
first_0 (suc i) u = absurd (u.lower_cut 0 round (omega arith) refl).1.0.1

pub first_is : (l : List ℕ) → FirstLine turn [] l → l ≡ 35 ∷ 0 ∷ 0 ∷ []
first_is l (FirstLine.uncut i u) = ap (λ (k : ℕ). 35 ∷ k / 256 ∷ k % 256 ∷ []) (first_0 i u)
first_is l (FirstLine.none h) = absurd (h round (0, refl)).1.0.1

pub verdict_is : (key l : List ℕ) → VerdictLine turn key [] l → l ≡ 36 ∷ 0 ∷ 0 ∷ 0 ∷ 0 ∷ []
verdict_is key l (VerdictLine.uncut i u) = refl
verdict_is key l (VerdictLine.dearer c h) = absurd (wrong h.correct)
verdict_is key l (VerdictLine.best h) = absurd (wrong h.correct)

abbrev Line : Type 0
Line = Paper → List ℕ → List ℕ → List ℕ

pub record SlipsExcluded : Type 0 where
  pub all_cut
      : (f : Line) → ((p : Paper) (key gs : List ℕ) → f p key gs ≡ 35 ∷ 255 ∷ 255 ∷ [])
      → ((p : Paper) (key gs : List ℕ) → FirstLine p gs (f p key gs)) → ⊥
  pub always_best
      : (f : Line) → ((p : Paper) (key gs : List ℕ) → f p key gs ≡ 36 ∷ 2 ∷ 0 ∷ 0 ∷ 0 ∷ [])
      → ((p : Paper) (key gs : List ℕ) → VerdictLine p key gs (f p key gs)) → ⊥

pub slips_excluded : SlipsExcluded
slips_excluded =
    record {
      all_cut =
          λ f h k.
          let z : ◌≡◌ {A = ℕ} 255 0 = cc (h turn [] [], first_is (f turn [] []) (k turn [] [])) in
          omega arith;
      always_best =
          λ f h k.
          let z : ◌≡◌ {A = ℕ} 2 0 = cc (h turn [] [], verdict_is [] (f turn [] []) (k turn [] [])) in
          omega arith;
    }
