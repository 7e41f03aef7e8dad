-- One line at a place of a text: what the line reader answers.
-- Main definitions: `take_line`, `take_digits`, `has_feed`, `frame`, `IsFrame`, `line_at`, `AreValues`.
use Rattle.std.specs.Prelude.{◌≡◌, Bool, false, ◌||◌, List, [], ◌∷◌, ℕ, ◌+◌, ◌<◌, eqb, length, get_or, drop, Option, None, Some, Result, Ok, Err}
use Rattle.laws.specs.Choice.{pick}
use Rattle.paper_lines.specs.declared.Frame.{Frame}
use Rattle.paper_refusals.specs.declared.Refusal.{Refusal}
use Rattle.paper_refusals.specs.declared.Refusal.TheVariants.{NoFrame}
use Rattle.paper_lines.specs.Lines.{FEED, Line, lines_of, is_hex, value_of, is_good, frame_of}

-- the bytes of a text before its first 0a
unfoldable pub take_line : List ℕ → List ℕ
take_line [] = []
take_line (b ∷ s) = pick (eqb b FEED) [] (b ∷ take_line s)

-- the digits at the start of a text
unfoldable pub take_digits : List ℕ → List ℕ
take_digits [] = []
take_digits (b ∷ s) = pick (is_hex b) (b ∷ take_digits s) []

-- a text has an 0a
unfoldable pub has_feed : List ℕ → Bool
has_feed [] = false
has_feed (b ∷ s) = eqb b FEED || has_feed s

-- a frame as the reader hands it on: its first four bytes, how many it has, where the next line starts
abbrev pub frame : List ℕ → ℕ → Frame
frame f n =
    record { kind = get_or f 0 0; len = length f; a = get_or f 1 0; b = get_or f 2 0; c = get_or f 3 0; next = n }

-- the same as a fact of a frame that the reader handed on
pub record IsFrame (x : Frame) (f : List ℕ) : Type 0 where
  pub kind_is : x.kind ≡ get_or f 0 0
  pub len_is : x.len ≡ length f
  pub a_is : x.a ≡ get_or f 1 0
  pub b_is : x.b ≡ get_or f 2 0
  pub c_is : x.c ≡ get_or f 3 0

-- 01, "Text": a line is either one frame or one refusal; the first of the lines that start at the place, if there is one
abbrev pub answer_of : ℕ → List Line → Result (Option Frame) Refusal
answer_of at [] = Ok None
answer_of at (l ∷ ls) =
    pick (is_good l) (Ok (Some (frame (frame_of l.bytes) (at + length l.bytes + 1)))) (Err NoFrame)

unfoldable pub line_at : List ℕ → ℕ → Result (Option Frame) Refusal
line_at s at = answer_of at (lines_of (drop at s))

-- a table by which the reader tells digits and their values; 16 stands for a byte that is no digit
abbrev pub table_value : ℕ → ℕ
table_value b = pick (is_hex b) (value_of b) 16

pub record AreValues (values : List ℕ) : Type 0 where
  pub value_at : (b : ℕ) → b < 256 → get_or values b 0 ≡ table_value b
