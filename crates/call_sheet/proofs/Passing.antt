-- The latest of some times, found one after the other.
-- Main statements: `latest_with`, `latest_without`.
use mathlib.Core.Path.{◌≡◌, ◌∙◌}
use mathlib.Core.Bool.{Bool, true, false}
use Prim.Native.Nat.{ℕ, ◌+◌, max}
use native.Mathlib.Numerals.{add-one}
use native.Mathlib.Omega.{arith}
use Rattle.std.specs.Ordering.{ord_max, nat_cmp}
use Rattle.std.proofs.lemmas.Bool.Decides.{nat_tests}
use Rattle.call_sheet.specs.Sheets.{latest}

module _ (x : ℕ → Bool) (f : ℕ → ℕ) (q best r : ℕ) where
  -- the latest with one more that is chosen
  pub latest_with :
      x q ≡ true → best ≡ latest x f q → r ≡ ord_max nat_cmp best (f q) → r ≡ latest x f (q + 1)
  unfolding latest
  latest_with h b e =
      let m : r ≡ max best (f q) = e ∙ grind (arith, nat_tests) in
      rw (add-one, h, m, b)

  -- and with one more that is not
  pub latest_without : x q ≡ false → best ≡ latest x f q → r ≡ best → r ≡ latest x f (q + 1)
  unfolding latest
  latest_without h b e = rw (add-one, h) (omega arith)
