-- The verdict, from what the uncut test and the comparison answer.
-- Main statements: `uncut_is`, `dearer_is`, `best_is`.
use mathlib.Core.Path.{◌≡◌, refl, ◌∙◌, ap}
use mathlib.Core.List.{List}
use Prim.Native.Nat.{ℕ, zero, suc, ◌-◌}
use native.Mathlib.Omega.{arith}
use lib.Dec.{eqb, eqb-suc-zero}
use Rattle.laws.specs.Choice.{pick}
use Rattle.paper_nests.specs.Nests.{Nest}
use Rattle.paper_placements.specs.Placements.{uncut, differ, loop_count}
use Rattle.paper_placements.specs.Answers.{Difference, difference, difference_of}
use Rattle.paper_order.specs.Verdicts.{Uncut, Dearer, Best, verdict_by, mark_of}

-- the difference, of the place where the counts differ
abbrev difference_at : Nest → List ℕ → List ℕ → ℕ → Difference
difference_at n key gs k =
    pick (eqb k 0) (difference 0 0 0) (difference k (loop_count n gs (k - 1)) (loop_count n key (k - 1)))

module _ (n : Nest) (key gs : List ℕ) where
  pub uncut_is : (u : ℕ) → u ≡ uncut n gs → (u ≡ 0 → ⊥) → Uncut (u - 1) ≡ mark_of n key gs
  uncut_is u e h = go (uncut n gs) e
    where
      go : (k : ℕ) → u ≡ k → Uncut (u - 1) ≡ verdict_by n key gs k (differ n key gs)
      go zero q = absurd (h q)
      go (suc k) q =
          let z : u - 1 ≡ k = omega arith in
          ap Uncut z

  pub dearer_is
      : (d t o : ℕ) → uncut n gs ≡ 0 → difference (suc d) t o ≡ difference_of n key gs → Dearer d t o ≡ mark_of n key gs
  dearer_is d t o u e = rw u (go (differ n key gs) e)
    where
      go : (k : ℕ) → difference (suc d) t o ≡ difference_at n key gs k → Dearer d t o ≡ verdict_by n key gs zero k
      go zero q =
          let z : suc d ≡ 0 = ap (λ (x : Difference). x.place) q in
          absurd (omega arith)
      go (suc k) q =
          let y : suc k - 1 ≡ k = omega arith in
          let q = rw (eqb-suc-zero k) at q in
          let p : suc d ≡ suc k = ap (λ (x : Difference). x.place) q in
          let a : d ≡ k = omega arith in
          let b : t ≡ loop_count n gs k = ap (λ (x : Difference). x.theirs) q ∙ ap (loop_count n gs) y in
          let c : o ≡ loop_count n key k = ap (λ (x : Difference). x.ours) q ∙ ap (loop_count n key) y in
          cc

  pub best_is : uncut n gs ≡ 0 → difference 0 0 0 ≡ difference_of n key gs → Best ≡ mark_of n key gs
  best_is u e = rw u (go (differ n key gs) e)
    where
      go : (k : ℕ) → difference 0 0 0 ≡ difference_at n key gs k → Best ≡ verdict_by n key gs zero k
      go zero q = refl
      go (suc k) q =
          let z : 0 ≡ suc k = ap (λ (x : Difference). x.place) (rw (eqb-suc-zero k) at q) in
          absurd (omega arith)
