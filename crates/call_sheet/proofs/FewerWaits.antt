-- with the same durations, sets of waits that each lie within the matching set of another sheet never end
-- later than it; so removing waits never costs time, and no sheet ends later than with all barriers kept. Phase by
-- phase no finish time is later.
-- Main statements: `finish_le`, `fewer_waits`, `barriers_last`.
use mathlib.Core.Path.{◌≡◌, refl}
use mathlib.Core.Bool.{true}
use mathlib.Core.List.{List}
use Prim.Native.Nat.{ℕ, zero, suc, ◌+◌, ◌-◌, ◌*◌, ◌≤◌}
use native.Mathlib.Omega.{arith}
use Rattle.call_sheet.specs.Sheets.{Sheet, sheet, Waits, waits_of, everyone, anyone, latest, finish_by}
use Rattle.call_sheet.specs.Sheets.{end_waiting, end_barriers, IsWithin}
use Rattle.call_sheet.proofs.Latest.{latest_le}

-- who waits for fewer
abbrev pub Fewer : Waits → Waits → Type 0
Fewer w v = (k p q : ℕ) → w k p q ≡ true → v k p q ≡ true

module _ (m n : ℕ) (ds ws vs : List ℕ) (w v : Waits) (fewer : Fewer w v) where
  pub finish_le : (k p : ℕ) → finish_by w (sheet m n ds ws) k p ≤ finish_by v (sheet m n ds vs) k p
  unfolding finish_by
  finish_le zero p = omega arith
  finish_le (suc k) p =
      let before = latest_le (w k p) (v k p) (finish_by w (sheet m n ds ws) k) (finish_by v (sheet m n ds vs) k) m
      (λ q l. fewer k p q) (λ q l. finish_le k q) in
      omega arith

  pub end_le :
      latest anyone (finish_by w (sheet m n ds ws) (n - 1)) m ≤ latest anyone (finish_by v (sheet m n ds vs) (n - 1)) m
  end_le =
      latest_le anyone anyone (finish_by w (sheet m n ds ws) (n - 1)) (finish_by v (sheet m n ds vs) (n - 1)) m
      (λ q l h. refl) (λ q l. finish_le (n - 1) q)

pub fewer_waits :
    (m n : ℕ) (ds ws vs : List ℕ) → IsWithin ws vs → end_waiting (sheet m n ds ws) ≤ end_waiting (sheet m n ds vs)
fewer_waits m n ds ws vs h =
    end_le m n ds ws vs (waits_of (sheet m n ds ws)) (waits_of (sheet m n ds vs)) (λ k p. h (k * m + p))

pub barriers_last : (s : Sheet) → end_waiting s ≤ end_barriers s
barriers_last s =
    end_le s.processors s.phases s.durations s.waits s.waits (waits_of s) everyone (λ k p q h. refl)
