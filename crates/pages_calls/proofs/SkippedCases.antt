-- The paper of `missing_excluded` once more, 01 03 04 03 03 02 03 02 with 110106, where loop 2 may not run: with a
-- barrier at 3 alone the dependence relies on the loop, with 2 and 3 it does not. Of 12000306 the loop has one end
-- alone, of 12000304 both. So the page excludes programs that give no loop, each foreign loop with a barrier inside it
-- that cuts, each flagged loop with the source inside.
-- Main statements: `relied_over`, `not_relied`, `split_source`, `not_split`, `skipped_excluded`.
use mathlib.Core.Path.{◌≡◌, refl, sym}
use mathlib.Core.Bool.{Bool, true, false}
use mathlib.Core.List.{List, [], ◌∷◌}
use mathlib.Core.Logic.{inl, inr, ⊎_elim, ◌↔◌}
use Prim.Native.Nat.{ℕ, zero, suc, ◌<◌}
use native.Mathlib.Omega.{arith}
use Rattle.laws.proofs.Tests.{never_both}
use Rattle.paper_nests.specs.declared.Dependence.{Dependence}
use Rattle.pages.specs.Demands.{In, Loop, GapOf, Paper}
use Rattle.pages.proofs.Bodies.{loop_end}
use Rattle.pages_calls.specs.MissingRuns.{Inside, Foreign, Cuts}
use Rattle.pages_calls.specs.SkippedLoops.{Relies, Alone, Splits}
use Rattle.pages_calls.proofs.MissingCases.{points, paper, over, loop_2, foreign_2}

inside_2 : (g : ℕ) → 2 < g → g < 6 → Inside points 2 g
inside_2 g a b = record { end = 5; loop = loop_2; within = (a, omega arith) }

pub relied_over : Relies paper (2 ∷ []) (3 ∷ []) over 2
relied_over =
    record {
      foreign = foreign_2;
      cut_inside =
          (3, (((0, refl), GapOf.line refl (omega arith) (omega arith)), inside_2 3 (omega arith) (omega arith)));
      none_outside = outside;
    }
  where
    outside
        : (g : ℕ) → Cuts paper (3 ∷ []) over g → ((j : ℕ) → Foreign points (2 ∷ []) over j → Inside points j g → ⊥) → ⊥
    outside g ((zero, e), c) out = out 2 foreign_2 (inside_2 g (omega (arith, e)) (omega (arith, e)))
    outside g ((suc i, e), c) out = absurd e

-- with a barrier before the loop
pub not_relied : Relies paper (2 ∷ []) (2 ∷ 3 ∷ []) over 2 → ⊥
not_relied h =
    h.none_outside 2 ((0, refl), GapOf.line refl (omega arith) (omega arith))
    (λ j u v. omega (arith, flagged_2 j u.flagged, v.within.0))
  where
    flagged_2 : (j : ℕ) → In j (2 ∷ []) → j ≡ 2
    flagged_2 j (zero, e) = sym e
    flagged_2 j (suc i, e) = absurd e

-- from inside to behind the loop, and from inside to inside
abbrev out_of : Dependence
out_of = record { kind = 18; d = 0; s = 3; t = 6 }

abbrev within : Dependence
within = record { kind = 18; d = 0; s = 3; t = 4 }

pub split_source : Splits points (2 ∷ []) out_of 2
split_source =
    record {
      flagged = (0, refl);
      carried = refl;
      forward = omega arith;
      end = 5;
      loop = loop_2;
      one_end = inl ((omega arith, omega arith), inr (omega arith));
    }

pub not_split : Splits points (2 ∷ []) within 2 → ⊥
not_split h =
    let e = loop_end points 2 h.end h.loop in
    ⊎_elim
    (λ (a : Alone 2 h.end 3 4).
    ⊎_elim (λ (w : 4 < 2). omega arith) (λ (w : h.end < 4). omega (arith, e)) a.1)
    (λ (a : Alone 2 h.end 4 3).
    ⊎_elim (λ (w : 3 < 2). omega arith) (λ (w : h.end < 3). omega (arith, e)) a.1)
    h.one_end

-- which loops a program gives, for a dependence: those relied on, those with one end alone
abbrev Given : Type 0
Given = Paper → List ℕ → List ℕ → Dependence → ℕ → Bool

abbrev Keeps : Given → Type 0
Keeps f = (p : Paper) (flags xs : List ℕ) (x : Dependence) (l : ℕ) → (f p flags xs x l ≡ true) ↔ Relies p flags xs x l

abbrev Halved : Type 0
Halved = Paper → List ℕ → Dependence → ℕ → Bool

abbrev KeepsEnds : Halved → Type 0
KeepsEnds f =
    (p : Paper) (flags : List ℕ) (x : Dependence) (l : ℕ) → (f p flags x l ≡ true) ↔ Splits p.points flags x l

pub record SkippedExcluded : Type 0 where
  pub gives_none
      : (f : Given)
      → ((p : Paper) (flags xs : List ℕ) (x : Dependence) (l : ℕ) → f p flags xs x l ≡ false) → Keeps f → ⊥
  pub gives_inside
      : (f : Given)
      → ((p : Paper) (flags xs : List ℕ) (x : Dependence) (l g : ℕ) → Foreign p.points flags x l → Cuts p xs x g
      → Inside p.points l g → f p flags xs x l ≡ true)
      → Keeps f → ⊥
  pub halves_none
      : (f : Halved) → ((p : Paper) (flags : List ℕ) (x : Dependence) (l : ℕ) → f p flags x l ≡ false) → KeepsEnds f → ⊥
  pub halves_source
      : (f : Halved)
      → ((p : Paper) (flags : List ℕ) (x : Dependence) (l end : ℕ) → In l flags → Loop p.points l end → l < x.s
      → x.s < end → f p flags x l ≡ true)
      → KeepsEnds f → ⊥

pub skipped_excluded : SkippedExcluded
skipped_excluded =
    record {
      gives_none =
          λ f h k.
          never_both ((k paper (2 ∷ []) (3 ∷ []) over 2).1 relied_over) (h paper (2 ∷ []) (3 ∷ []) over 2);
      gives_inside =
          λ f h k.
          not_relied
          ((k paper (2 ∷ []) (2 ∷ 3 ∷ []) over 2).0
          (h paper (2 ∷ []) (2 ∷ 3 ∷ []) over 2 3 foreign_2
          ((1, refl), GapOf.line refl (omega arith) (omega arith))
          (inside_2 3 (omega arith) (omega arith))));
      halves_none =
          λ f h k. never_both ((k paper (2 ∷ []) out_of 2).1 split_source) (h paper (2 ∷ []) out_of 2);
      halves_source =
          λ f h k.
          not_split
          ((k paper (2 ∷ []) within 2).0
          (h paper (2 ∷ []) within 2 5 (0, refl) loop_2 (omega arith) (omega arith)));
    }
