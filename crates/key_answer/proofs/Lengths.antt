-- How long the program's texts are.
-- Main statement: `key_room`.
use mathlib.Core.Path.{◌≡◌}
use mathlib.Core.Bool.{true}
use mathlib.Core.List.{List}
use Prim.Native.Nat.{ℕ, ◌+◌, ◌*◌, ◌≤◌}
use native.Mathlib.Omega.{arith}
use lib.ListN.{length}
use Rattle.paper_nests.specs.Kinds.{POINTS}
use Rattle.paper_nests.specs.Nests.{Nest}
use Rattle.paper_placements.specs.Placements.{are_gaps}
use Rattle.paper_placements.proofs.GapLists.{rising_length}
use Rattle.paper_texts.specs.PlacementTexts.{key_text}
use Rattle.paper_texts.proofs.Written.{key_bytes}
use Rattle.key_answer.specs.Answers.{ROOM}

-- the buffer has room for the key and the counts
pub key_room
    : (n : Nest) (gs : List ℕ)
    → length n.points ≤ POINTS
    → are_gaps n gs ≡ true
    → length (key_text gs) + 7 * length n.points ≤ ROOM
key_room n gs few h = omega (arith, key_bytes gs, rising_length 0 (length n.points) gs h)
