-- The first barrier that is kept, gap by gap.
-- Main definition: `Choosing`. Main statements: `choose_start`, `choose_barred`, `choose_taken`, `choose_passed`,
-- `choose_done`.
use mathlib.Core.Path.{◌≡◌, refl, sym, ap, ◌∙◌}
use mathlib.Core.Bool.{Bool, true, false}
use mathlib.Core.List.{List, ◌∷◌}
use Prim.Native.Nat.{ℕ, suc, ◌+◌, ◌-◌, ◌≤◌, ◌<◌}
use native.Mathlib.Omega.{arith}
use borrow.Author.Tests.{lt-ltb, le-ltb}
use Rattle.paper_placements.specs.Words.{kept, gaps_of}
use Rattle.call_textbook.specs.Places.{PLACES, least_from}

-- a gap with fewer cuts is taken, another is not
taken
    : (count : ℕ → ℕ) (best least g cuts : ℕ) (gs : List ℕ) → cuts ≡ count g → cuts < least
    → least_from count best least (g ∷ gs) ≡ least_from count g cuts gs
unfolding least_from
taken count best least g cuts gs e l = rw (e, lt-ltb (count g) least (omega arith))

passed
    : (count : ℕ → ℕ) (best least g cuts : ℕ) (gs : List ℕ) → cuts ≡ count g → least ≤ cuts
    → least_from count best least (g ∷ gs) ≡ least_from count best least gs
unfolding least_from
passed count best least g cuts gs e l = rw (le-ltb (count g) least (omega arith))

-- the best so far goes on to the best of all
pub record Choosing (count : ℕ → ℕ) (free : ℕ → Bool) (m best least g : ℕ) : Type 0 where
  pub first : 0 < g
  pub left : ℕ
  pub to_end : g + left ≡ suc m
  pub rest : least_from count best least (gaps_of free left g) ≡ least_from count 0 PLACES (gaps_of free m 1)

pub choose_start : (count : ℕ → ℕ) (free : ℕ → Bool) (m : ℕ) → Choosing count free m 0 PLACES 1
choose_start count free m = record { first = omega arith; left = m; to_end = omega arith; rest = refl }

module _ {count : ℕ → ℕ} {free : ℕ → Bool} {m best least g : ℕ} (c : Choosing count free m best least g) where
  abbrev behind : List ℕ
  behind = gaps_of free (c.left - 1) (suc g)

  -- the gaps from g on, where g is barred, and where it is not
  from_here : g ≤ m → (t : Bool) → free g ≡ t → gaps_of free c.left g ≡ kept t g behind
  unfolding gaps_of
  from_here h t f =
      let e : c.left ≡ suc (c.left - 1) = omega (arith, c.to_end) in
      ap (λ (k : ℕ). gaps_of free k g) e ∙ rw f

  on
      : g ≤ m → (b l : ℕ) → least_from count best least (gaps_of free c.left g) ≡ least_from count b l behind
      → Choosing count free m b l (g + 1)
  on h b l e =
      let q : g + 1 ≡ suc g = omega arith in
      record {
        first = omega arith;
        left = c.left - 1;
        to_end = omega (arith, c.to_end);
        rest = rw q (sym e ∙ c.rest);
      }

  pub choose_barred : g ≤ m → free g ≡ false → Choosing count free m best least (g + 1)
  choose_barred h f = on h best least (ap (least_from count best least) (from_here h false f))

  module _ (h : g ≤ m) (f : free g ≡ true) (cuts : ℕ) (cuts_are : cuts ≡ count g) where
    pub choose_taken : cuts < least → Choosing count free m g cuts (g + 1)
    choose_taken l =
        on h g cuts
        (ap (least_from count best least) (from_here h true f) ∙ taken count best least g cuts behind cuts_are l)

    pub choose_passed : least ≤ cuts → Choosing count free m best least (g + 1)
    choose_passed l =
        on h best least
        (ap (least_from count best least) (from_here h true f) ∙ passed count best least g cuts behind cuts_are l)

  pub choose_done : m < g → best ≡ least_from count 0 PLACES (gaps_of free m 1)
  unfolding least_from gaps_of
  choose_done h =
      let z : c.left ≡ 0 = omega (arith, c.to_end) in
      sym (ap (λ (k : ℕ). least_from count best least (gaps_of free k g)) z) ∙ c.rest
