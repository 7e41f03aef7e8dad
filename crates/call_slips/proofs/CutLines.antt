-- The gaps that cut, written a line for each dependence: what is written and what is left give the whole text.
-- Main definition: `CutLines`, what a turn keeps. Main statements: `cut_start`, `cut_Line`, `cut_done`.
use mathlib.Core.Path.{◌≡◌}
use mathlib.Core.Bool.{true}
use mathlib.Core.List.{List, [], ◌∷◌, ◌++◌}
use Prim.Native.Nat.{ℕ, suc, ◌+◌, ◌-◌, ◌%◌, ◌≤◌, ◌<◌}
use native.Mathlib.Numerals.{add-one}
use native.Mathlib.Omega.{arith}
use lib.ListN.{length, drop, drop_of_length-le}
use borrow.Rule.Slice.PartMut.{mid_of, put_mid}
use Rattle.paper_nests.specs.Nests.{Dep, Nest}
use Rattle.paper_nests.specs.Valid.{is_valid}
use Rattle.paper_nests.proofs.Deps.{valid_is}
use Rattle.paper_nests.proofs.Loops.{outermost}
use Rattle.paper_lines.specs.Lines.{line_text}
use Rattle.paper_lines.specs.Writing.{over}
use Rattle.paper_lines.proofs.Parts.{Partly, part_begin, part_room, part_length, part_on, part_left, part_done}
use Rattle.paper_placements.specs.Placements.{are_gaps, cut_by}
use Rattle.call_slips.specs.Texts.{CUT-BY, cuts_text}
use Rattle.call_slips.specs.Writers.{Wrote}
use Rattle.call_slips.proofs.Bytes.{cut_byte}
use Rattle.call_slips.proofs.Joined.{part_room_for}

-- the lines of the dependences from number i on
abbrev pub cuts_from : Nest → List ℕ → ℕ → List ℕ
cuts_from n gs i = cuts_text n.points (drop i n.deps) gs

-- the lines of the dependences before number i are written
abbrev pub CutLines : Nest → List ℕ → List ℕ → List ℕ → ℕ → ℕ → Type 0
CutLines n gs o out place i = Partly (cuts_from n gs 0) (cuts_from n gs i) o out place

pub cut_start : (n : Nest) (gs o : List ℕ) → CutLines n gs o o 0 0
cut_start n gs o = part_begin (cuts_from n gs 0) o

module _
    (n : Nest) (gs : List ℕ) (valid : is_valid n ≡ true) (gaps : are_gaps n gs ≡ true)
    (o out : List ℕ) (place i : ℕ) (p : CutLines n gs o out place i) (fits : length (cuts_from n gs 0) ≤ length o)
  where
    -- the buffer keeps its length, and the place lies in it
    pub cut_inside : (length out ≡ length o) × (place ≤ length o)
    cut_inside = (
      part_length (cuts_from n gs 0) (cuts_from n gs i) o out place p fits,
      omega (arith, part_room (cuts_from n gs 0) (cuts_from n gs i) o out place p fits),
    )

    pub cut_done : length n.deps ≤ i → Wrote (cuts_from n gs 0) o out place
    unfolding cuts_text
    cut_done h =
        let none : cuts_from n gs i ≡ [] = rw (drop_of_length-le n.deps {i = i} h) in
        let z =
        part_done (cuts_from n gs 0) o out place
        (part_left (cuts_from n gs 0) (cuts_from n gs i) o out place p [] none) in
        record { length_is = z.0; out_is = z.1 }

    module _ (e : Dep) (here : drop i n.deps ≡ e ∷ drop (suc i) n.deps) where
      split : cuts_from n gs i ≡ line_text (CUT-BY ∷ (cut_by n.points e gs ∷ [])) ++ cuts_from n gs (i + 1)
      unfolding cuts_text
      split = rw (add-one i, here)

      pub cut_room : place + 5 ≤ length o
      cut_room =
          part_room_for (cuts_from n gs 0) (cuts_from n gs i) o out place p fits
          (line_text (CUT-BY ∷ (cut_by n.points e gs ∷ []))) (cuts_from n gs (i + 1)) split

      -- the line of this dependence, where g is the gap that cuts it
      pub cut_Line
          : (g : ℕ) (q : List ℕ) (r : ℕ)
          → g ≡ cut_by n.points e gs
          → r ≡ length (line_text (CUT-BY ∷ (g % 256 ∷ [])))
          → q ≡ over (line_text (CUT-BY ∷ (g % 256 ∷ []))) (mid_of place (length out - place) out)
          → CutLines n gs o (put_mid place (length out - place) out q) (place + r) (i + 1)
      cut_Line g q r is l w =
          let v = valid_is n valid in
          let some : 0 < length n.points = omega (arith, outermost n.points v.shape) in
          let small = cut_byte n.points e 0 (length n.points) gs some gaps in
          let byte : g % 256 ≡ cut_by n.points e gs = omega (arith, v.few_points) in
          part_on (cuts_from n gs 0) (cuts_from n gs i) o out place p
          (line_text (CUT-BY ∷ (g % 256 ∷ []))) (cuts_from n gs (i + 1)) q r fits (rw byte split) l w
