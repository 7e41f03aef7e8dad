-- The claims of a loop: the low one, and those that say where it has no gap.
-- Main statements: `low_few`, `low_put`, `low_none`, `side_few`, `side_put`, `side_none`, `outermost`.
use mathlib.Core.Path.{◌≡◌, refl, sym}
use mathlib.Core.List.{List, [], ◌∷◌, ◌++◌, append-nil}
use Prim.Native.Nat.{ℕ, suc, ◌+◌, ◌-◌, ◌≤◌, ◌<◌}
use native.Mathlib.Omega.{arith}
use borrow.Author.Tests.{ne_eqb, lt-ltb, le-ltb}
use Rattle.paper_nests.specs.declared.Nest as DN
use Rattle.plan_method.specs.Sweep.{Tables}
use Rattle.plan_sweeps.specs.Listed.{row}
use Rattle.argue_key.specs.Laps.{head, few_for, low_heads, side_heads, row_heads}
use Rattle.argue_give.specs.Given.{RowGround}
use Rattle.argue_give.proofs.Giving.{before_is}

module _ {nest : DN.Nest} {ps own left : List ℕ} {kids base : ℕ} {need sets : List ℕ} {d e cost : ℕ} (T : Tables)
    (r : RowGround nest ps own left kids base need sets d e cost T) where
  -- the low claim, or none
  pub low_few : cost - 1 ≡ few_for T (head d 0 0)
  low_few = rw (← r.cost_is) (before_is cost)

  pub low_put : 0 < cost → head d 0 0 ∷ [] ≡ low_heads T d
  low_put h = rw (← r.cost_is, lt-ltb 0 cost h) refl

  pub low_none : cost ≤ 0 → [] ≡ low_heads T d
  low_none h = rw (← r.cost_is, le-ltb 0 cost h) refl

  -- none up to the first front, or no such claim
  pub side_few : d + 1 < row left base (d + 1) → cost ≡ few_for T (head d 0 (row left base (d + 1) - 1))
  side_few h =
      let z : (row left base (d + 1) - 1 ≡ 0 → ⊥) = λ y. omega arith in
      rw (ne_eqb (row left base (d + 1) - 1) 0 z) r.cost_is

  module _ (inside : d < e) (inner : 0 < d) where
    first : row left base (d + 1) ≡ T.left d (suc d)
    first =
        let z : d + 1 ≡ suc d = omega arith in
        rw z (r.row_is (suc d) (omega arith) (omega arith))

    pub side_put : d + 1 < row left base (d + 1) →
        head d 0 (row left base (d + 1) - 1) ∷ row_heads T d e ≡ side_heads T d e
    side_put h =
        let z : d + 1 ≡ suc d = omega arith in
        let y = lt-ltb (d + 1) (row left base (d + 1)) h in
        rw (lt-ltb 0 d inner, before_is (row left base (d + 1)), ← first, ← z, y) refl

    pub side_none : row left base (d + 1) ≤ d + 1 → row_heads T d e ≡ side_heads T d e
    side_none h =
        let z : d + 1 ≡ suc d = omega arith in
        let y = le-ltb (d + 1) (row left base (d + 1)) h in
        rw (lt-ltb 0 d inner, ← first, ← z, y) refl

-- the outermost loop has no others
pub outermost : (T : Tables) (d e : ℕ) → d ≡ 0 → low_heads T d ≡ low_heads T d ++ side_heads T d e
outermost T d e z = rw z (sym (append-nil (low_heads T 0)))
