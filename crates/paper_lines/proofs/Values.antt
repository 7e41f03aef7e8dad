-- The table of the digits' values, filled value by value: the digits of the values passed have theirs, every other byte
-- has 16. Once all 16 are passed, these other bytes are no digits.
-- Main statements: `Filling`, what a turn keeps; `fill_none`, `fill_all`.
use mathlib.Core.Path.{◌≡◌, refl, sym, ◌∙◌, ap}
use mathlib.Core.Bool.{Bool, true, false}
use mathlib.Core.List.{List}
use Prim.Native.Nat.{ℕ, ◌<◌}
use native.Mathlib.Omega.{arith}
use lib.ListN.{length, get_or}
use Rattle.laws.specs.Choice.{pick}
use Rattle.laws.proofs.Copies.{copies, copies_there}
use Rattle.paper_lines.specs.Lines.{is_hex, value_of, digit_of}
use Rattle.paper_lines.specs.Reading.{AreValues}
use Rattle.paper_lines.proofs.Spelling.{digit_is_hex, hex_is_digit}

-- the values below k are in the table
pub record Filling (values : List ℕ) (k : ℕ) : Type 0 where
  pub long : length values ≡ 256
  pub digit_at : (v : ℕ) → v < k → get_or values (digit_of v) 0 ≡ v
  pub other_at : (b : ℕ) → b < 256 → ((v : ℕ) → v < k → b ≡ digit_of v → ⊥) → get_or values b 0 ≡ 16

pub fill_none : Filling (copies 256 16) 0
unfolding copies
fill_none =
    record {
      long = refl;
      digit_at = λ v l. absurd (omega arith);
      other_at = λ b l h. copies_there 256 16 b 0 l;
    }

module _ (values : List ℕ) (k : ℕ) (p : Filling values k) where
  pub fill_all : k ≡ 16 → AreValues values
  fill_all e = record { value_at = λ b l. go b l (is_hex b) refl }
    where
      go : (b : ℕ) → b < 256 → (t : Bool) → is_hex b ≡ t → get_or values b 0 ≡ pick t (value_of b) 16
      go b l true h =
          let d = hex_is_digit b h in
          ap (λ (x : ℕ). get_or values x 0) (sym d.1) ∙ p.digit_at (value_of b) (omega (arith, d.0))
      go b l false h = p.other_at b l (λ v m z. not_digit v (omega arith) z)
        where
          not_digit : (v : ℕ) → v < 16 → b ≡ digit_of v → ⊥
          not_digit v m z =
              let y : ◌≡◌ {A = ℕ} 0 1 = cc (h, ap is_hex z, digit_is_hex v m) in
              absurd (omega arith)
