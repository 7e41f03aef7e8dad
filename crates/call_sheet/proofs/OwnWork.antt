-- neither end falls below the largest sum of one processor's durations. A processor that waits for itself
-- finishes each phase its own duration after the phase before at the earliest.
-- Main statements: `work_finish`, `own_work`.
use mathlib.Core.Path.{◌≡◌, refl, ap}
use mathlib.Core.Bool.{true}
use Prim.Native.Nat.{ℕ, zero, suc, ◌-◌, ◌≤◌, ◌<◌}
use native.Mathlib.Omega.{arith}
use Rattle.call_sheet.specs.Sheets.{Sheet, Waits, waits_of, everyone, anyone, finish_by}
use Rattle.call_sheet.specs.Sheets.{end_by, end_waiting, end_barriers, work_before, work_of, most_work, sheet_fault}
use Rattle.call_sheet.proofs.Latest.{latest_at, latest_bound}
use Rattle.call_sheet.proofs.Sets.{Sized, fault_none, own_set}

module _ (s : Sheet) (w : Waits) (p : ℕ) (there : p < s.processors) where
  pub work_finish :
      (k : ℕ) → ((i : ℕ) → i < k → w i p p ≡ true) → work_before s (suc k) p ≤ finish_by w s k p
  unfolding work_before finish_by
  work_finish zero own = omega arith
  work_finish (suc k) own =
      omega (
        arith,
        work_finish k (λ i l. own i (omega arith)),
        latest_at (w k p) (finish_by w s k) s.processors p there (own k (omega arith)),
      )

  work_end : 1 ≤ s.phases → ((i : ℕ) → suc i < s.phases → w i p p ≡ true) → work_of s p ≤ end_by w s
  work_end some own =
      let last : s.phases ≡ suc (s.phases - 1) = omega arith in
      let whole : work_of s p ≡ work_before s (suc (s.phases - 1)) p = ap (λ (k : ℕ). work_before s k p) last in
      omega (
        arith,
        work_finish (s.phases - 1) (λ i l. own i (omega arith)),
        latest_at anyone (finish_by w s (s.phases - 1)) s.processors p there refl,
      )

pub own_work : (s : Sheet) → sheet_fault s ≡ 0 → (most_work s ≤ end_waiting s) × (most_work s ≤ end_barriers s)
own_work s h =
    let z : Sized s = (fault_none s h).0 in (
      latest_bound anyone (work_of s) s.processors (end_waiting s)
          (λ p l. work_end s (waits_of s) p l z.some_phase (λ i j. own_set s h i p j l)),
      latest_bound anyone (work_of s) s.processors (end_barriers s)
          (λ p l. work_end s everyone p l z.some_phase (λ i j. refl)),
    )
