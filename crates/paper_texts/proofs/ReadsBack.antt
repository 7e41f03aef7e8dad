-- A key written and read again is the same key: each line of its text is read as the frame that it spells, and a gap
-- that rises, is in range and is not barred has no fault.
-- Main statements: `place_line`, `keys_back`, `reads_back`.
use mathlib.Core.Path.{◌≡◌, refl, ◌∙◌}
use mathlib.Core.Bool.{true, false, ◌&&◌}
use mathlib.Core.List.{List, [], ◌∷◌, ◌++◌, append_assoc, append-nil}
use Prim.Native.Nat.{ℕ, suc, ◌≤◌}
use native.Mathlib.Omega.{arith}
use lib.Dec.{eqb, ltb, leb}
use lib.ListN.{length, get_or}
use borrow.Author.Tests.{ltb-true, leb-true, lt-ltb, not-true}
use Rattle.laws.specs.Choice.{pick, is_in}
use Rattle.laws.proofs.Tests.{and_intro, and_true}
use Rattle.paper_lines.specs.Lines.{lines_of, line_text}
use Rattle.paper_lines.proofs.Spelling.{are_bytes, line_first, digits_good, frame_digits}
use Rattle.paper_placements.specs.Placements.{are_gaps_from, is_free, avoids}
use Rattle.paper_texts.specs.PlacementTexts.{BARRIER, barrier_fault, placed, place_lines, read_placement, key_text}
use Rattle.paper_texts.specs.PlacementTexts.{Reads-back}

-- one line of a placement text
pub place_line
    : (k last n : ℕ) (bs gs f s : List ℕ)
    → are_bytes f ≡ true
    → leb 1 (length f) ≡ true
    → place_lines k last n bs gs (lines_of (line_text f ++ s))
    ≡ pick
    (eqb (barrier_fault last n bs f) 0)
    (place_lines (suc k) (get_or f 1 0) n bs (gs ++ (get_or f 1 0 ∷ [])) (lines_of s))
    (placed (barrier_fault last n bs f) k [])
unfolding place_lines
place_line k last n bs gs f s h w = rw (line_first f s h) (rw (digits_good f h w, frame_digits f h))

-- rising gaps below n, with those before them
pub keys_back
    : (k last n : ℕ) (bs gs hs : List ℕ)
    → n ≤ 256
    → are_gaps_from last n hs ≡ true
    → avoids bs hs ≡ true
    → place_lines k last n bs gs (lines_of (key_text hs)) ≡ placed 0 0 (gs ++ hs)
unfolding key_text lines_of place_lines
keys_back k last n bs gs [] small h v = rw append-nil
keys_back k last n bs gs (g ∷ hs) small h v =
    let w = and_true (is_free bs g) (avoids bs hs) v in
    let free : is_in g bs ≡ false = not-true (is_in g bs) w.0 in
    let a = and_true (ltb last g) (ltb g n && are_gaps_from g n hs) h in
    let b = and_true (ltb g n) (are_gaps_from g n hs) a.1 in
    let below = ltb-true g n b.0 in
    let bytes : are_bytes (BARRIER ∷ (g ∷ [])) ≡ true = and_intro (lt-ltb g 256 (omega arith)) refl in
    let line = place_line k last n bs gs (BARRIER ∷ (g ∷ [])) (key_text hs) bytes refl in
    let rest = keys_back (suc k) g n bs (gs ++ (g ∷ [])) hs small b.1 w.1 in
    line ∙ rw (a.0, b.0, free) (rest ∙ rw append_assoc)

-- demand 2: a key written and read again is the same key
pub reads_back : Reads-back
unfolding read_placement
reads_back n gs h v small =
    keys_back 1 0 (length n.points) n.barred [] gs (leb-true (length n.points) 256 small) h v
