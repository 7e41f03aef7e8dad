-- Texts written one behind the other: each goes into the rest of the buffer, and together they give the whole.
-- Main statements: `first_part`, `rest_fits`, `part_fits`, `next_part`, `last_part`.
use mathlib.Core.Path.{◌≡◌, refl, sym, ap, ◌∙◌}
use mathlib.Core.List.{List, [], ◌++◌, append-nil}
use Prim.Native.Nat.{ℕ, ◌+◌, ◌-◌, ◌≤◌}
use native.Mathlib.Omega.{arith}
use lib.ListN.{length, take, drop, length-append, length-take, length-drop}
use borrow.Rule.Slice.PartMut.{mid_of, put_mid}
use Rattle.paper_lines.proofs.Parts.{Partly, part_room, part_length, part_on, part_done}
use Rattle.call_slips.specs.Writers.{Wrote}

-- the first text
pub first_part : (t rest o out : List ℕ) (r : ℕ) → Wrote t o out r → Partly (t ++ rest) rest o out r
first_part t rest o out r w = record { done = t; at_is = w.length_is; out_is = w.out_is; whole = refl }

module _ (all rest o out : List ℕ) (place : ℕ) (p : Partly all rest o out place) (fits : length all ≤ length o) where
  room : place + length rest ≤ length o
  room = part_room all rest o out place p fits

  same : length out ≡ length o
  same = part_length all rest o out place p fits

  pub part-in : place ≤ length o
  part-in = omega (arith, room)

  pub part_within : place ≤ length out
  part_within = omega (arith, room, same)

  -- there is room for what is left, and so for its first text
  pub rest_fits : length rest ≤ length (take (length out - place) (drop place out))
  rest_fits = simp (length-take, length-drop) (omega (arith, room, same))

  module _ (t more : List ℕ) (e : rest ≡ t ++ more) where
    longer : length rest ≡ length t + length more
    longer = ap length e ∙ length-append t more

    pub part_room_for : place + length t ≤ length o
    part_room_for = omega (arith, room, longer)

    pub part_fits : length t ≤ length (take (length out - place) (drop place out))
    part_fits = omega (arith, rest_fits, longer)

    pub next_part
        : (q : List ℕ) (r : ℕ)
        → Wrote t (mid_of place (length out - place) out) q r
        → Partly all more o (put_mid place (length out - place) out q) (place + r)
    next_part q r w = part_on all rest o out place p t more q r fits e w.length_is w.out_is

-- the last text
pub last_part
    : (all rest o out : List ℕ) (place : ℕ)
    → Partly all rest o out place
    → length all ≤ length o
    → (q : List ℕ) (r : ℕ)
    → Wrote rest (mid_of place (length out - place) out) q r
    → Wrote all o (put_mid place (length out - place) out q) (place + r)
last_part all rest o out place p fits q r w =
    let z =
    part_done all o (put_mid place (length out - place) out q) (place + r)
    (next_part all rest o out place p fits rest [] (sym (append-nil rest)) q r w) in
    record { length_is = z.0; out_is = z.1 }
