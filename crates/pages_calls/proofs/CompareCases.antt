-- The paper 01 03 02 with the sets {1} and {1, 2}, worked out by the page alone: the first is as good, the second is
-- not. So the page excludes a program that says of each two that they are equal, one that takes the greater set for
-- better, and one that names no deciding loop.
-- Main statements: `fewer_good`, `more_not`, `root_decides`, `compare_excluded`.
use mathlib.Core.Path.{◌≡◌, refl, sym, subst}
use mathlib.Core.Bool.{Bool, true}
use mathlib.Core.List.{List, [], ◌∷◌}
use mathlib.Core.Logic.{◌↔◌}
use Prim.Native.Nat.{ℕ}
use native.Mathlib.Omega.{arith}
use Rattle.pages.specs.Demands.{HowMany, Rising, Own, NoMore, AsGood}
use Rattle.pages_requests.proofs.TextbookCases.{turn}
use Rattle.pages_requests.proofs.FirstCases.{loop_0, only_loop, owned}
use Rattle.pages_calls.specs.Compare.{Decides}

abbrev ps : List ℕ
ps = turn.points

rising_1 : Rising 3 0 (1 ∷ [])
rising_1 = Rising.more {low = 0} {g = 1} (omega arith) (omega arith) Rising.none

rising_12 : Rising 3 0 (1 ∷ 2 ∷ [])
rising_12 =
    Rising.more {low = 0} {g = 1} (omega arith) (omega arith)
    (Rising.more {low = 1} {g = 2} (omega arith) (omega arith) Rising.none)

-- two counts are one
one_count : (xs : List ℕ) (a b : ℕ) → HowMany (Own ps 0 2) xs a → HowMany (Own ps 0 2) xs b → a ≡ b
one_count xs a b HowMany.none HowMany.none = refl
one_count xs a b (HowMany.one {xs = ys} {k = j} h r) (HowMany.one {k = k} i s) = omega (arith, one_count ys j k r s)
one_count xs a b (HowMany.one h r) (HowMany.other i s) = absurd (i h)
one_count xs a b (HowMany.other h r) (HowMany.one i s) = absurd (h i)
one_count xs a b (HowMany.other {xs = ys} h r) (HowMany.other i s) = one_count ys a b r s

pub fewer_good : AsGood ps (1 ∷ []) (1 ∷ 2 ∷ [])
fewer_good d e l same =
    let z = only_loop d e l in
    subst (λ (x : ℕ). NoMore ps (1 ∷ []) (1 ∷ 2 ∷ []) x e) (sym z.0)
    (subst (λ (x : ℕ). NoMore ps (1 ∷ []) (1 ∷ 2 ∷ []) 0 x) (sym z.1)
    (1, (2, (owned 0 (1 ∷ []) rising_1, owned 0 (1 ∷ 2 ∷ []) rising_12, omega arith))))

pub more_not : AsGood ps (1 ∷ 2 ∷ []) (1 ∷ []) → ⊥
more_not good =
    let q = good 0 2 loop_0 (λ d e l a b. absurd (omega (arith, a, (only_loop d e l).0))) in
    let x = one_count (1 ∷ 2 ∷ []) q.0 2 q.1.1.0 (owned 0 (1 ∷ 2 ∷ []) rising_12) in
    let y = one_count (1 ∷ []) q.1.0 1 q.1.1.1 (owned 0 (1 ∷ []) rising_1) in
    omega (arith, x, y, q.1.1.2)

pub root_decides : Decides ps (1 ∷ []) (1 ∷ 2 ∷ []) 0
root_decides =
    record {
      end = 2;
      loop = loop_0;
      inside = λ d e l a b. absurd (omega (arith, a, (only_loop d e l).0));
      differ =
          λ s.
          omega (
            arith,
            one_count (1 ∷ []) s.0 1 s.1.0 (owned 0 (1 ∷ []) rising_1),
            one_count (1 ∷ 2 ∷ []) s.0 2 s.1.1 (owned 0 (1 ∷ 2 ∷ []) rising_12),
          );
    }

-- whether one set is as good as another, and which loops decide, by a program
abbrev Weighs : Type 0
Weighs = List ℕ → List ℕ → List ℕ → Bool

abbrev Keeps : Weighs → Type 0
Keeps f = (ps xs ys : List ℕ) → (f ps xs ys ≡ true) ↔ AsGood ps xs ys

pub record CompareExcluded : Type 0 where
  pub all_equal : (f : Weighs) → ((ps xs ys : List ℕ) → f ps xs ys ≡ true) → Keeps f → ⊥
  pub greater_better : (f : Weighs) → f ps (1 ∷ 2 ∷ []) (1 ∷ []) ≡ true → Keeps f → ⊥
  pub none_decides
      : (f : List ℕ → List ℕ → List ℕ → ℕ → Bool) → ((ps xs ys : List ℕ) (l : ℕ) → f ps xs ys l ≡ true → ⊥)
      → ((ps xs ys : List ℕ) (l : ℕ) → (f ps xs ys l ≡ true) ↔ Decides ps xs ys l) → ⊥

pub compare_excluded : CompareExcluded
compare_excluded =
    record {
      all_equal = λ f h k. more_not ((k ps (1 ∷ 2 ∷ []) (1 ∷ [])).0 (h ps (1 ∷ 2 ∷ []) (1 ∷ [])));
      greater_better = λ f h k. more_not ((k ps (1 ∷ 2 ∷ []) (1 ∷ [])).0 h);
      none_decides = λ f h k. h ps (1 ∷ []) (1 ∷ 2 ∷ []) 0 ((k ps (1 ∷ []) (1 ∷ 2 ∷ []) 0).1 root_decides);
    }
