-- A text written part by part into a lent buffer: what is written so far over the buffer, and what is left, give the
-- whole text.
-- Main statements: `Partly`, what holds between two parts; `part_begin`, `part_room`, `part_length`, `part_on`,
-- `part_left`, `part_done`.
use mathlib.Core.Path.{◌≡◌, refl, sym, ◌∙◌, ap}
use mathlib.Core.List.{List, [], ◌++◌, append_assoc, append-nil}
use Prim.Native.Nat.{ℕ, ◌+◌, ◌-◌, ◌≤◌}
use native.Mathlib.Omega.{arith}
use lib.ListN.{length, length-append}
use borrow.Rule.Slice.PartMut.{mid_of, put_mid}
use Rattle.paper_lines.specs.Writing.{over}
use Rattle.paper_lines.proofs.Writing.{over_length, over_part}

-- of the text `all`, the rest is still to be written from the place `at` of the buffer, which held o at first
pub record Partly (all rest o out : List ℕ) (at : ℕ) : Type 0 where
  pub done : List ℕ
  pub at_is : at ≡ length done
  pub out_is : out ≡ over done o
  pub whole : done ++ rest ≡ all

pub part_begin : (all o : List ℕ) → Partly all all o o 0
part_begin all o = record { done = []; at_is = refl; out_is = refl; whole = refl }

module _ (all rest o out : List ℕ) (at : ℕ) (p : Partly all rest o out at) where
  sum : at + length rest ≡ length all
  sum = omega (arith, p.at_is, length-append p.done rest, ap length p.whole)

  -- there is room for the rest, and the buffer keeps its length
  pub part_room : length all ≤ length o → at + length rest ≤ length o
  part_room fits = omega (arith, sum)

  pub part_length : length all ≤ length o → length out ≡ length o
  part_length fits = ap length p.out_is ∙ over_length p.done o (omega (arith, p.at_is, sum))

  -- one part more
  pub part_on
      : (t more q : List ℕ) (r : ℕ)
      → length all ≤ length o
      → rest ≡ t ++ more
      → r ≡ length t
      → q ≡ over t (mid_of at (length out - at) out)
      → Partly all more o (put_mid at (length out - at) out q) (at + r)
  part_on t more q r fits e l w =
      let long : length rest ≡ length t + length more = ap length e ∙ length-append t more in
      record {
        done = p.done ++ t;
        at_is = omega (arith, p.at_is, l, length-append p.done t);
        out_is = over_part out o p.done t q at p.out_is p.at_is (omega (arith, part_room fits)) w;
        whole = append_assoc p.done t more ∙ ap (λ (x : List ℕ). p.done ++ x) (sym e) ∙ p.whole;
      }

  -- what is left, in other words
  pub part_left : (more : List ℕ) → rest ≡ more → Partly all more o out at
  part_left more e =
      record {
        done = p.done;
        at_is = p.at_is;
        out_is = p.out_is;
        whole = ap (λ (x : List ℕ). p.done ++ x) (sym e) ∙ p.whole;
      }

-- nothing is left
pub part_done
    : (all o out : List ℕ) (at : ℕ) → Partly all [] o out at → (at ≡ length all) × (out ≡ over all o)
part_done all o out at p =
    let z : p.done ≡ all = sym (append-nil p.done) ∙ p.whole in
    (p.at_is ∙ ap length z, p.out_is ∙ ap (λ (x : List ℕ). over x o) z)
