-- Papers worked out by the page alone: 01 03 03 02 with 110102, whose one gap is 2. With 1302 it is blocked, with 1301
-- it is not. So the page excludes a Plan that never says 15, and one that says it wherever a gap is barred.
-- Main statements: `shut_blocked`, `other_free`, `barred_excluded`.
use mathlib.Core.Path.{◌≡◌, refl, sym, ap}
use mathlib.Core.Bool.{true}
use mathlib.Core.List.{List, [], ◌∷◌}
use Prim.Native.Nat.{ℕ, zero, suc}
use native.Mathlib.Omega.{arith}
use Rattle.laws.proofs.Tests.{never}
use Rattle.paper_nests.specs.declared.Dependence.{Dependence}
use Rattle.pages.specs.Demands.{In, GapOf, Paper}
use Rattle.pages_requests.specs.Barred.{Blocked, PlanNumber}

abbrev step : Dependence
step = record { kind = 17; d = 0; s = 1; t = 2 }

abbrev barring : ℕ → Paper
barring g = record { points = 1 ∷ 3 ∷ 3 ∷ 2 ∷ []; deps = step ∷ []; barred = g ∷ [] }

only_2 : (ps : List ℕ) (g : ℕ) → GapOf ps step g → g ≡ 2
only_2 ps g (GapOf.line k a b) = omega arith
only_2 ps g (GapOf.front k a b) = absurd (omega arith)
only_2 ps g (GapOf.back e k l a b) = absurd (omega arith)

pub shut_blocked : Blocked (barring 2)
shut_blocked = (step, ((0, refl), λ g k. (0, sym (only_2 (1 ∷ 3 ∷ 3 ∷ 2 ∷ []) g k))))

pub other_free : Blocked (barring 1) → ⊥
other_free (x, ((zero, e), shut)) =
    let k : 17 ≡ x.kind = ap (λ (y : Dependence). y.kind) e in
    let s : 1 ≡ x.s = ap (λ (y : Dependence). y.s) e in
    let t : 2 ≡ x.t = ap (λ (y : Dependence). y.t) e in
    member (shut 2 (GapOf.line (sym k) (omega (arith, s)) (omega (arith, t))))
  where
    member : In {A = ℕ} 2 (1 ∷ []) → ⊥
    member (zero, q) = omega (arith, q)
    member (suc i, q) = q
other_free (x, ((suc i, e), shut)) = absurd e

abbrev Keeps : (Paper → ℕ) → Type 0
Keeps f = (p : Paper) → PlanNumber true p (f p)

pub record BarredExcluded : Type 0 where
  pub never_15 : (f : Paper → ℕ) → ((p : Paper) → f p ≡ 15 → ⊥) → Keeps f → ⊥
  pub always_15 : (f : Paper → ℕ) → ((p : Paper) (g : ℕ) → In g p.barred → f p ≡ 15) → Keeps f → ⊥

pub barred_excluded : BarredExcluded
barred_excluded =
    record {
      never_15 = λ f h k. h (barring 2) (blocked (f (barring 2)) (k (barring 2)));
      always_15 = λ f h k. free (f (barring 1)) (k (barring 1)) (h (barring 1) 1 (0, refl));
    }
  where
    blocked : (n : ℕ) → PlanNumber true (barring 2) n → n ≡ 15
    blocked n (PlanNumber.no_nest e) = never (sym e)
    blocked n (PlanNumber.blocked e b) = refl
    blocked n (PlanNumber.none e b) = absurd (b shut_blocked)

    free : (n : ℕ) → PlanNumber true (barring 1) n → n ≡ 15 → ⊥
    free n (PlanNumber.no_nest e) q = omega arith
    free n (PlanNumber.blocked e b) q = other_free b
    free n (PlanNumber.none e b) q = omega arith
