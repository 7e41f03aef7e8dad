-- A paper worked out by the page alone: 01 03 04 03 03 02 03 02 with 12020403 and 110106, where loop 2 may not run.
-- With its one barrier at 3, inside the loop, the loop needs one for its missing run; with 2 and 3 it does not. So the
-- page excludes a program that gives no loop, one that gives each flagged loop, and one that gives each flagged loop
-- with a barrier inside it.
-- Main statements: `needed_over`, `not_needed`, `missing_excluded`.
use mathlib.Core.Path.{◌≡◌, refl, sym, ap}
use mathlib.Core.Bool.{Bool, true, false}
use mathlib.Core.List.{List, [], ◌∷◌}
use mathlib.Core.Logic.{◌↔◌}
use Prim.Native.Nat.{ℕ, zero, suc}
use native.Mathlib.Omega.{arith}
use Rattle.laws.proofs.Tests.{never_both}
use Rattle.paper_nests.specs.declared.Dependence.{Dependence}
use Rattle.pages.specs.Demands.{In, Body, Loop, GapOf, Paper}
use Rattle.pages.proofs.Bodies.{loop_end}
use Rattle.pages_calls.specs.MissingRuns.{Inside, Foreign, Cuts, Needs}

abbrev pub points : List ℕ
points = 1 ∷ 3 ∷ 1 ∷ 3 ∷ 3 ∷ 2 ∷ 3 ∷ 2 ∷ []

abbrev carried : Dependence
carried = record { kind = 18; d = 2; s = 4; t = 3 }

abbrev pub over : Dependence
over = record { kind = 17; d = 0; s = 1; t = 6 }

abbrev pub paper : Paper
paper = record { points = points; deps = carried ∷ over ∷ []; barred = [] }

pub loop_2 : Loop points 2 5
loop_2 = record { begins = refl; body = Body.statement refl (Body.statement refl (Body.done refl)); ends = refl }

pub foreign_2 : Foreign points (2 ∷ []) over 2
foreign_2 =
    record {
      flagged = (0, refl);
      end = 5;
      loop = loop_2;
      source = λ z. omega (arith, z.0);
      target = λ z. omega (arith, z.1);
    }

pub needed_over : Needs paper (2 ∷ []) (3 ∷ []) 2
needed_over =
    record {
      dep = over;
      is-dep = (1, refl);
      foreign = foreign_2;
      cut_inside = (
        3,
        (
          ((0, refl), GapOf.line refl (omega arith) (omega arith)),
          record { end = 5; loop = loop_2; within = (omega arith, omega arith) },
        ),
      );
      none_outside = λ g c out. outside g c out;
    }
  where
    outside
        : (g : ℕ) → Cuts paper (3 ∷ []) over g → ((j : ℕ) → Foreign points (2 ∷ []) over j → Inside points j g → ⊥) → ⊥
    outside g ((zero, e), c) out =
        out 2 foreign_2 (record { end = 5; loop = loop_2; within = (omega (arith, e), omega (arith, e)) })
    outside g ((suc i, e), c) out = absurd e

-- with a barrier before the loop nothing is missing
pub not_needed : Needs paper (2 ∷ []) (2 ∷ 3 ∷ []) 2 → ⊥
not_needed n = go n.dep n.is-dep n.foreign n.none_outside
  where
    flagged_2 : (x : Dependence) (j : ℕ) → Foreign points (2 ∷ []) x j → j ≡ 2
    flagged_2 x j f = member f.flagged
      where
        member : In j (2 ∷ []) → j ≡ 2
        member (zero, e) = sym e
        member (suc i, e) = absurd e

    go
        : (x : Dependence) → In x paper.deps → Foreign points (2 ∷ []) x 2
        → ((g : ℕ) → Cuts paper (2 ∷ 3 ∷ []) x g → ((j : ℕ) → Foreign points (2 ∷ []) x j → Inside points j g → ⊥) → ⊥)
        → ⊥
    go x (zero, e) f h =
        let s : 4 ≡ x.s = ap (λ (y : Dependence). y.s) e in
        let q = loop_end points 2 f.end f.loop in
        f.source (omega (arith, s), omega (arith, s, q))
    go x (suc zero, e) f h =
        let k : 17 ≡ x.kind = ap (λ (y : Dependence). y.kind) e in
        let s : 1 ≡ x.s = ap (λ (y : Dependence). y.s) e in
        let t : 6 ≡ x.t = ap (λ (y : Dependence). y.t) e in
        h 2 ((0, refl), GapOf.line (sym k) (omega (arith, s)) (omega (arith, t)))
        (λ j u v. omega (arith, flagged_2 x j u, v.within.0))
    go x (suc (suc i), e) f h = absurd e

-- which loops a program gives
abbrev Given : Type 0
Given = Paper → List ℕ → List ℕ → ℕ → Bool

abbrev Keeps : Given → Type 0
Keeps f = (p : Paper) (flags key : List ℕ) (l : ℕ) → (f p flags key l ≡ true) ↔ Needs p flags key l

pub record MissingExcluded : Type 0 where
  pub gives_none : (f : Given) → ((p : Paper) (flags key : List ℕ) (l : ℕ) → f p flags key l ≡ false) → Keeps f → ⊥
  pub gives_flagged
      : (f : Given) → ((p : Paper) (flags key : List ℕ) (l : ℕ) → In l flags → f p flags key l ≡ true) → Keeps f → ⊥
  pub gives_inside
      : (f : Given)
      → ((p : Paper) (flags key : List ℕ) (l g : ℕ) → In l flags → In g key → Inside
      p.points l g → f p flags key l ≡ true)
      → Keeps f → ⊥

pub missing_excluded : MissingExcluded
missing_excluded =
    record {
      gives_none =
          λ f h k.
          never_both ((k paper (2 ∷ []) (3 ∷ []) 2).1 needed_over) (h paper (2 ∷ []) (3 ∷ []) 2);
      gives_flagged =
          λ f h k.
          not_needed ((k paper (2 ∷ []) (2 ∷ 3 ∷ []) 2).0 (h paper (2 ∷ []) (2 ∷ 3 ∷ []) 2 (0, refl)));
      gives_inside =
          λ f h k.
          not_needed
          ((k paper (2 ∷ []) (2 ∷ 3 ∷ []) 2).0
          (h paper (2 ∷ []) (2 ∷ 3 ∷ []) 2 3 (0, refl) (1, refl)
          (record { end = 5; loop = loop_2; within = (omega arith, omega arith) })));
    }
