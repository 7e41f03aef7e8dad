-- The papers 01 02 and 01 03 02 with 12000101 joined, worked out by the page alone: 01 01 02 01 03 02 02 with 12030404.
-- So the page excludes a program that joins the other way round, one that leaves the dependences where they were, and
-- one that drops them.
-- Main statements: `joint_points`, `joint_deps`, `join_excluded`.
use mathlib.Core.Path.{◌≡◌, sym, ◌∙◌, ap}
use mathlib.Core.List.{List, [], ◌∷◌, ◌++◌}
use Prim.Native.Nat.{ℕ}
use native.Mathlib.Omega.{arith}
use lib.ListN.{length}
use Rattle.paper_nests.specs.declared.Dependence.{Dependence}
use Rattle.pages.specs.Demands.{Paper}
use Rattle.pages_requests.proofs.TextbookCases.{round, turn}
use Rattle.pages_calls.specs.Join.{Along, Joint}

abbrev bare : Paper
bare = record { points = 1 ∷ 2 ∷ []; deps = []; barred = [] }

pub joint_points : (j : Paper) → Joint bare turn j → j.points ≡ 1 ∷ 1 ∷ 2 ∷ 1 ∷ 3 ∷ 2 ∷ 2 ∷ []
joint_points j h = h.points

pub joint_deps
    : (j : Paper) → Joint bare turn j → (x : Dependence) × ((j.deps ≡ x ∷ []) × (x.d ≡ 3) × (x.s ≡ 4) × (x.t ≡ 4))
joint_deps j h = go h.firsts h.seconds h.first h.second h.deps
  where
    go
        : (xs ys : List Dependence) → Along 1 [] xs → Along 3 (round ∷ []) ys → j.deps ≡ xs ++ ys
        → (x : Dependence) × ((j.deps ≡ x ∷ []) × (x.d ≡ 3) × (x.s ≡ 4) × (x.t ≡ 4))
    go xs ys Along.none (Along.line a b c d e r) q = absurd (omega (arith, a))
    go xs ys Along.none (Along.round {y = y} a b c d e Along.none) q = (y, (q, c, d, e))

abbrev Joins : Type 0
Joins = Paper → Paper → Paper

abbrev Keeps : Joins → Type 0
Keeps f = (p q : Paper) → Joint p q (f p q)

pub record JoinExcluded : Type 0 where
  pub other_way : (f : Joins) → (f bare turn).points ≡ 1 ∷ 1 ∷ 3 ∷ 2 ∷ 1 ∷ 2 ∷ 2 ∷ [] → Keeps f → ⊥
  pub unmoved : (f : Joins) → (f bare turn).deps ≡ round ∷ [] → Keeps f → ⊥
  pub drops : (f : Joins) → ((p q : Paper) → (f p q).deps ≡ []) → Keeps f → ⊥

pub join_excluded : JoinExcluded
join_excluded =
    record {
      other_way =
          λ f h k. let z : ◌≡◌ {A = ℕ} 3 2 = cc (h, joint_points (f bare turn) (k bare turn)) in omega arith;
      unmoved =
          λ f h k.
          let q = joint_deps (f bare turn) (k bare turn) in
          let e : ◌≡◌ {A = List Dependence} (round ∷ []) (q.0 ∷ []) = sym h ∙ q.1.0 in
          let z : round ≡ q.0 = cc e in
          omega (arith, ap (λ (x : Dependence). x.s) z, q.1.2);
      drops =
          λ f h k.
          let q = joint_deps (f bare turn) (k bare turn) in
          let e : ◌≡◌ {A = ℕ} 0 1 = ap length (sym (h bare turn) ∙ q.1.0) in
          omega arith;
    }
