-- The starts above a boundary, one after the other.
-- Main statements: `passed_map`, `passed_all`.
use mathlib.Core.Path.{◌≡◌}
use mathlib.Core.List.{List}
use mathlib.Core.Logic.{⊎_elim}
use Prim.Native.Nat.{ℕ, suc, ◌≤◌, ◌<◌}
use native.Mathlib.Omega.{arith}
use Rattle.laws.specs.Entries.{at}
use Rattle.laws.proofs.Tests.{le_or}
use Rattle.plan_sweeps.specs.Listed.{row, Low}
use Rattle.plan_starts.specs.Started.{cost_at, front_at, Passed, top, plain, child}

module _ (ps own left : List ℕ) (kids d e : ℕ) (own_low : Low own) where
  -- what follows at each start from what held there
  pub passed_map
      : (E E' : ℕ → ℕ → ℕ → ℕ → Type 0) (p : ℕ)
      → ((b x c f : ℕ) → p ≤ b → b < x → x ≤ e → E b x c f → E' b x c f)
      → Passed ps own left kids d e E p
      → Passed ps own left kids d e E' p
  passed_map E E' q h top = top
  passed_map E E' q h (plain p low b i t k) =
      plain p low b i (h p (suc p) 1 (suc p) (omega arith) (omega arith) b.high t)
      (passed_map E E' (suc p) (λ b x c f l m n. h b x c f (omega arith) m n) k)
  passed_map E E' q h (child p low b i t k) =
      child p low b i
      (λ x l m. h (at own p) x (cost_at (row left kids) p x) (front_at (row left kids) (at own p) p x) (omega arith) l
      (omega (arith, b.high)) (t x l m))
      (passed_map E E' (suc p) (λ b x c f l m n. h b x c f (omega (arith, own_low p)) m n) k)

  -- what holds at each start above a boundary, wherever its event stands
  pub passed_all
      : (E : ℕ → ℕ → ℕ → ℕ → Type 0) (P : ℕ → Type 0) (p : ℕ)
      → ((b x c f : ℕ) → p ≤ b → b < x → x ≤ e → E b x c f → P x)
      → Passed ps own left kids d e E p
      → (x : ℕ)
      → p < x
      → x ≤ e
      → P x
  passed_all E P q h top x a c = absurd (omega arith)
  passed_all E P q h (plain p low b i t k) x a c = ⊎_elim
      (λ (z : x ≤ suc p).
      let y : suc p ≡ x = omega arith in
      rw y at (h p (suc p) 1 (suc p) (omega arith) (omega arith) b.high t))
      (λ (z : suc p < x). passed_all E P (suc p) (λ b x c f l m n. h b x c f (omega arith) m n) k x z c)
      (le_or x (suc p))
  passed_all E P q h (child p low b i t k) x a c = ⊎_elim
      (λ (z : x ≤ suc p). h (at own p) x (cost_at (row left kids) p x) (front_at (row left kids) (at own p) p x)
      (omega arith) a c
      (t x a z))
      (λ (z : suc p < x). passed_all E P (suc p) (λ b x c f l m n. h b x c f (omega (arith, own_low p)) m n) k x z c)
      (le_or x (suc p))
