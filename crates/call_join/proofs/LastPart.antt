-- A text written in two parts: the first from the start of a buffer, the last from where the first ended.
-- Main definition: `Begun`. Main statements: `begun_by`, `rest_within`, `rest_fits`, `last_within`, `last_length`,
-- `last_written`.
use mathlib.Core.Path.{◌≡◌, sym, ap, ◌∙◌}
use mathlib.Core.List.{List, [], ◌++◌, append-nil}
use Prim.Native.Nat.{ℕ, ◌+◌, ◌-◌, ◌≤◌}
use native.Mathlib.Omega.{arith}
use lib.ListN.{length, take, drop, length-append, length-take, length-drop}
use borrow.Rule.Slice.PartMut.{mid_of, put_mid}
use Rattle.paper_lines.specs.Writing.{over}
use Rattle.paper_lines.proofs.Parts.{Partly, part_room, part_length, part_on, part_done}
use Rattle.paper_lines.proofs.Writing.{over_length}

-- both parts have room
pub first_fits : (all t u o : List ℕ) → all ≡ t ++ u → length all ≤ length o → length t ≤ length o
first_fits all t u o e fits = omega (arith, ap length e, length-append t u)

-- of the text `all` the first part is written, up to the place `at`
pub record Begun (all rest o out : List ℕ) (at : ℕ) : Type 0 where
  pub part : Partly all rest o out at
  pub fits : length all ≤ length o

pub begun_by
    : {all u o out : List ℕ} {at : ℕ} (t : List ℕ)
    → all ≡ t ++ u
    → length all ≤ length o
    → at ≡ length t
    → out ≡ over t o
    → Begun all u o out at
begun_by t e fits l w =
    record { part = record { done = t; at_is = l; out_is = w; whole = sym e }; fits = fits }

module _ {all rest o out : List ℕ} {at : ℕ} (b : Begun all rest o out at) where
  room : at + length rest ≤ length o
  room = part_room all rest o out at b.part b.fits

  long : length out ≡ length o
  long = part_length all rest o out at b.part b.fits

  pub rest_within : at ≤ length out
  rest_within = omega (arith, room, long)

  pub rest_fits : length rest ≤ length (take (length out - at) (drop at out))
  rest_fits = simp (length-take, length-drop) (omega (arith, room, long))

  -- the last part is written
  module _ {r : ℕ} {q : List ℕ} (size : r ≡ length rest) (written : q ≡ over rest (mid_of at (length out - at) out))
    where
      pub last_within : at + r ≤ length o
      last_within = omega (arith, room)

      pub last_written : (at + r ≡ length all) × (put_mid at (length out - at) out q ≡ over all o)
      last_written =
          part_done all o (put_mid at (length out - at) out q) (at + r)
          (part_on all rest o out at b.part rest [] q r b.fits (sym (append-nil rest)) size written)

      pub last_length : length (put_mid at (length out - at) out q) ≡ length o
      last_length = ap length last_written.1 ∙ over_length all o b.fits
