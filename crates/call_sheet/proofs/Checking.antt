-- A sheet checked: its sets along the list.
-- Main definition: `Checked`. Main statements: `set_with`, `checked_bad`, `checked_on`, `checked_done`.
use mathlib.Core.Path.{◌≡◌, sym, ◌∙◌}
use mathlib.Core.Bool.{true, false, ◌&&◌}
use mathlib.Core.List.{List, []}
use Prim.Native.Nat.{ℕ, suc, ◌+◌, ◌*◌, ◌/◌, ◌^◌, ◌≤◌, ◌<◌}
use native.Mathlib.Nat.{div-lt_iff_lt-mul, one-le-pow}
use native.Mathlib.Numerals.{add-one}
use native.Mathlib.Omega.{arith}
use lib.Dec.{eqb, ltb}
use lib.ListN.{length, get_or, drop, drop_of_length-le}
use lib.Seq.{drop-cons}
use borrow.Author.Tests.{eq-eqb, eqb-true, ltb-true, lt-ltb}
use Rattle.laws.specs.Bits.{bit}
use Rattle.laws.proofs.Choices.{pick_by}
use Rattle.laws.proofs.Tests.{bool_by}
use Rattle.call_sheet.specs.Sheets.{is_set, next_of, are_sets}

-- ---- one set

below_power : (v m : ℕ) → eqb (v / 2 ^ m) 0 ≡ ltb v (2 ^ m)
below_power v m = bool_by (eqb (v / 2 ^ m) 0) (ltb v (2 ^ m)) under over
  where
    some : 0 < 2 ^ m
    some = one-le-pow m 2 (omega arith)

    under : eqb (v / 2 ^ m) 0 ≡ true → ltb v (2 ^ m) ≡ true
    under z =
        let y : v / 2 ^ m < 1 = omega (arith, eqb-true (v / 2 ^ m) 0 z) in
        let x : v < 1 * 2 ^ m = (div-lt_iff_lt-mul some).0 y in
        lt-ltb v (2 ^ m) (omega arith)

    over : ltb v (2 ^ m) ≡ true → eqb (v / 2 ^ m) 0 ≡ true
    over z =
        let x : v < 1 * 2 ^ m = omega (arith, ltb-true v (2 ^ m) z) in
        let y : v / 2 ^ m < 1 = (div-lt_iff_lt-mul some).1 x in
        eq-eqb (v / 2 ^ m) 0 (omega arith)

pub set_with : (m p v : ℕ) → bit v p ≡ true → eqb (v / 2 ^ m) 0 ≡ is_set m p v
set_with m p v h = rw h (below_power v m)

-- ---- the sets along the list

-- what is to check from place i on, which is processor p's, is what is to check of the whole
pub record Checked (m : ℕ) (ws : List ℕ) (p i : ℕ) : Type 0 where
  pub inside : i ≤ length ws
  pub there : p < m
  pub rest : are_sets m p (drop i ws) ≡ are_sets m 0 ws

module _ (m : ℕ) (ws : List ℕ) (p i : ℕ) (c : Checked m ws p i) where
  here : i < length ws →
      are_sets m 0 ws ≡ (is_set m p (get_or ws i 0) && are_sets m (next_of m p) (drop (suc i) ws))
  unfolding are_sets
  here l = sym c.rest ∙ rw (drop-cons ws i 0 l)

  pub checked_bad : i < length ws → is_set m p (get_or ws i 0) ≡ false → false ≡ are_sets m 0 ws
  checked_bad l h = sym (here l ∙ rw h)

  next_there : next_of m p < m
  next_there = pick_by (λ q. q < m) (λ z. ltb-true (suc p) m z) (λ z. omega (arith, c.there))

  pub checked_on : i < length ws → is_set m p (get_or ws i 0) ≡ true → Checked m ws (next_of m p) (i + 1)
  checked_on l h =
      record {
        inside = omega arith;
        there = next_there;
        rest = rw add-one (sym (here l ∙ rw h));
      }

  pub checked_done : length ws ≤ i → true ≡ are_sets m 0 ws
  unfolding are_sets
  checked_done l =
      let z : drop i ws ≡ [] = drop_of_length-le ws l in
      sym (sym c.rest ∙ rw z)
