-- The paper 01 03 02 with 12000101 has two best sets, gap 1 and gap 2. So the page of request 6 excludes a desk whose
-- key there is gap 2, and one that has no barrier.
-- Main statements: `best_1`, `best_2`, `first_excluded`.
use mathlib.Core.Path.{◌≡◌, refl, sym, subst}
use mathlib.Core.List.{List, [], ◌∷◌}
use Prim.Native.Nat.{ℕ, zero, suc, ◌≤◌, ◌<◌}
use native.Mathlib.Omega.{arith}
use lib.ListN.{length}
use Rattle.paper_nests.specs.declared.Dependence.{Dependence}
use Rattle.pages.specs.Demands.{At, In, HowMany, Rising, Body, Loop, Own, GapOf, Paper, Cut, Correct, NoMore, Best}
use Rattle.pages.proofs.Bodies.{loop_end}
use Rattle.pages_requests.specs.FirstKey.{Before}
use Rattle.pages_requests.proofs.TextbookCases.{round, turn}

pub loop_0 : Loop turn.points 0 2
loop_0 = record { begins = refl; body = Body.statement refl (Body.done refl); ends = refl }

-- its one loop
pub only_loop : (d e : ℕ) → Loop turn.points d e → (d ≡ 0) × (e ≡ 2)
only_loop d e l =
    let z = first d l.begins in (
      z,
      omega (
        arith,
        loop_end turn.points 0 2 loop_0,
        loop_end turn.points 0 e
            (subst (λ (x : ℕ). Loop turn.points x e) z l),
      ),
    )
  where
    first : (d : ℕ) → At {A = ℕ} (1 ∷ 3 ∷ 2 ∷ []) d 1 → d ≡ 0
    first zero a = refl
    first (suc zero) a = absurd (omega (arith, a))
    first (suc (suc zero)) a = absurd (omega (arith, a))
    first (suc (suc (suc d))) a = absurd a

-- all gaps belong to it
pub owned : (low : ℕ) (gs : List ℕ) → Rising 3 low gs → HowMany (Own turn.points 0 2) gs (length gs)
owned low gs Rising.none = HowMany.none
owned low gs (Rising.more {g = g} {gs = hs} a b r) =
    HowMany.one {x = g}
    (record {
      loop = loop_0;
      after = omega arith;
      upto = omega arith;
      innermost = λ d e l x y. omega (arith, (only_loop d e l).0);
    })
    (owned g hs r)

some : (gs : List ℕ) → Correct turn gs → 1 ≤ length gs
some [] c = absurd (c.cut round (0, refl)).1.0.1
some (g ∷ gs) c = omega arith

best : (g : ℕ) → 0 < g → g < 3 → GapOf turn.points round g → Best turn (g ∷ [])
best g low high its =
    record { correct = correct; least = λ ys c d e l same. no_more ys c d e (only_loop d e l).0 (only_loop d e l).1 }
  where
    rising : Rising 3 0 (g ∷ [])
    rising = Rising.more low high Rising.none

    cut : (x : Dependence) → In x turn.deps → Cut turn.points x (g ∷ [])
    cut x (zero, e) = subst (λ (y : Dependence). Cut turn.points y (g ∷ [])) e (g, ((0, refl), its))
    cut x (suc i, e) = absurd e

    correct : Correct turn (g ∷ [])
    correct = record { gaps = record { rising = rising; free = λ h i j. j.1 }; cut = cut }

    no_more : (ys : List ℕ) → Correct turn ys → (d e : ℕ) → d ≡ 0 → e ≡ 2 → NoMore turn.points (g ∷ []) ys d e
    no_more ys c d e p q =
        subst (λ (x : ℕ). NoMore turn.points (g ∷ []) ys x e) (sym p)
        (subst (λ (x : ℕ). NoMore turn.points (g ∷ []) ys 0 x) (sym q)
        (1, (length ys, (owned 0 (g ∷ []) rising, owned 0 ys c.gaps.rising, some ys c))))

pub best_1 : Best turn (1 ∷ [])
best_1 = best 1 (omega arith) (omega arith) (GapOf.front refl (omega arith) (omega arith))

pub best_2 : Best turn (2 ∷ [])
best_2 = best 2 (omega arith) (omega arith) (GapOf.back 2 refl loop_0 (omega arith) (omega arith))

abbrev Keeps : (Paper → List ℕ) → Type 0
Keeps f = (p : Paper) (ys : List ℕ) → Best p ys → Before (f p) ys

pub record FirstExcluded : Type 0 where
  pub last_best : (f : Paper → List ℕ) → f turn ≡ 2 ∷ [] → Keeps f → ⊥
  pub no_barrier : (f : Paper → List ℕ) → f turn ≡ [] → Keeps f → ⊥

pub first_excluded : FirstExcluded
first_excluded =
    record {
      last_best = λ f e k. none (subst (λ (x : List ℕ). Before x (1 ∷ [])) e (k turn (1 ∷ []) best_1));
      no_barrier = λ f e k. empty (subst (λ (x : List ℕ). Before x (1 ∷ [])) e (k turn (1 ∷ []) best_1));
    }
  where
    none : Before (2 ∷ []) (1 ∷ []) → ⊥
    none (Before.same e) = let z : ◌≡◌ {A = ℕ} 2 1 = cc e in omega arith
    none (Before.less l) = omega arith

    empty : Before [] (1 ∷ []) → ⊥
    empty (Before.same e) = let z : ◌≡◌ {A = ℕ} 0 1 = cc e in omega arith
