-- The key's frames with the counts behind them: the counts go into the part of the buffer where the key's text ended.
-- Main statements: `ready`, `key_fits`, `counts_fit`, `both_short`.
use mathlib.Core.Path.{◌≡◌, refl, ◌∙◌, ap}
use mathlib.Core.Bool.{true}
use mathlib.Core.List.{List}
use Prim.Native.Nat.{ℕ, ◌+◌, ◌-◌, ◌*◌, ◌≤◌}
use native.Mathlib.Omega.{arith}
use lib.ListN.{length, take, drop, length-take, length-drop}
use borrow.Rule.Slice.PartMut.{mid_of}
use Rattle.paper_nests.specs.Kinds.{POINTS}
use Rattle.paper_nests.specs.Nests.{Nest}
use Rattle.paper_nests.specs.Valid.{is_valid}
use Rattle.paper_nests.proofs.Deps.{valid_is}
use Rattle.paper_lines.specs.Writing.{over}
use Rattle.paper_lines.proofs.Writing.{over_length}
use Rattle.paper_placements.specs.Placements.{are_gaps}
use Rattle.paper_texts.specs.PlacementTexts.{key_text}
use Rattle.paper_texts.specs.Counts.{counts_text, CountsFit, CountsSay}
use Rattle.paper_texts.proofs.Counting.{counts_length}
use Rattle.key_answer.specs.Answers.{ROOM}
use Rattle.key_answer.proofs.Lengths.{key_room}

-- a nest within the limits, gaps of it, and a buffer that is long enough
pub record Ready (n : Nest) (gs o : List ℕ) : Type 0 where
  pub few : length n.points ≤ POINTS
  pub gaps : are_gaps n gs ≡ true
  pub room : ROOM ≤ length o

pub ready
    : (n : Nest) (gs o : List ℕ) → is_valid n ≡ true → are_gaps n gs ≡ true → ROOM ≤ length o → Ready n gs o
ready n gs o v g r = record { few = (valid_is n v).few_points; gaps = g; room = r }

-- there is room for the key, and for the counts behind it
pub key_fits
    : (n : Nest) (gs o : List ℕ) → Ready n gs o → length (key_text gs) + 7 * length n.points ≤ length o
key_fits n gs o y = omega (arith, y.room, key_room n gs y.few y.gaps)

-- with the key's text written
module _
    (n : Nest)
    (gs o : List ℕ)
    (y : Ready n gs o)
    (out : List ℕ)
    (at : ℕ)
    (at_is : at ≡ length (key_text gs))
    (out_is : out ≡ over (key_text gs) o)
  where
    same : length out ≡ length o
    same = ap length out_is ∙ over_length (key_text gs) o (omega (arith, key_fits n gs o y))

    pub counts_fit : CountsFit n.points gs (length (take (length out - at) (drop at out)))
    counts_fit m alike =
        let short = counts_length m gs 0 m.points in
        simp (length-take, length-drop) (omega (arith, key_fits n gs o y, same, short, ap length alike))

    module _ (q : List ℕ) (r : ℕ) (c : CountsSay n.points gs (mid_of at (length out - at) out) q r) where
      counts_short : length (counts_text n gs) ≤ 7 * length n.points
      counts_short = counts_length n gs 0 n.points

      pub both_short : at + r ≤ ROOM
      both_short = omega (arith, counts_short, c.length_is n refl, key_room n gs y.few y.gaps)
