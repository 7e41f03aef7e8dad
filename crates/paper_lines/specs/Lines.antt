-- Lines of a text, the frames that they spell, and the text of a frame.
-- Main definitions: `lines_of`, `is_good`, `frame_of`, `line_text`.
use Rattle.std.specs.Prelude.{Bool, true, false, ◌&&◌, ◌||◌, List, [], ◌∷◌, ◌++◌, ℕ, ◌+◌, ◌-◌, ◌*◌, ◌/◌, ◌%◌, eqb, ltb, leb, length}
use Rattle.laws.specs.Choice.{pick, between}

-- 01, "Text": the byte 0a ends a line
abbrev pub FEED : ℕ
FEED = 10

-- a line: its bytes before the 0a, and whether the 0a is there
pub record Line : Type 0 where
  pub bytes : List ℕ
  pub ended : Bool

abbrev pub line : List ℕ → Bool → Line
line b e = record { bytes = b; ended = e }

-- a byte in front of the first line
abbrev pub push : ℕ → List Line → List Line
push b [] = line (b ∷ []) false ∷ []
push b (l ∷ ls) = line (b ∷ l.bytes) l.ended ∷ ls

-- the lines of a text; bytes after the last 0a are a line that is not ended
unfoldable pub lines_of : List ℕ → List Line
lines_of [] = []
lines_of (b ∷ s) = pick (eqb b FEED) (line [] true ∷ lines_of s) (push b (lines_of s))

-- 01, "Text": digits 0-9 a-f
abbrev pub is_hex : ℕ → Bool
is_hex b = between 48 b 57 || between 97 b 102

abbrev pub value_of : ℕ → ℕ
value_of b = pick (leb b 57) (b - 48) (b - 87)

abbrev pub all_hex : List ℕ → Bool
all_hex [] = true
all_hex (b ∷ s) = is_hex b && all_hex s

-- 01, "Text": an even, nonzero number of digits
abbrev pub is_digits : List ℕ → Bool
is_digits l = leb 1 (length l) && (eqb (length l % 2) 0 && all_hex l)

-- 01, "Text": a line is an even, nonzero number of digits, then the byte 0a
abbrev pub is_good : Line → Bool
is_good l = is_digits l.bytes && l.ended

-- the bytes of a frame, two digits a byte
abbrev pub byte_of : ℕ → ℕ → ℕ
byte_of a b = 16 * value_of a + value_of b

unfoldable pub frame_of : List ℕ → List ℕ
frame_of [] = []
frame_of (a ∷ []) = []
frame_of (a ∷ (b ∷ s)) = byte_of a b ∷ frame_of s

-- the digit of a number below 16
abbrev pub digit_of : ℕ → ℕ
digit_of v = pick (ltb v 10) (48 + v) (87 + v)

-- a byte as two digits
abbrev pub byte_text : ℕ → List ℕ
byte_text b = digit_of (b / 16) ∷ (digit_of (b % 16) ∷ [])

abbrev pub digits_of : List ℕ → List ℕ
digits_of [] = []
digits_of (b ∷ f) = byte_text b ++ digits_of f

-- 01, "Text": a frame as a line
abbrev pub line_text : List ℕ → List ℕ
line_text f = digits_of f ++ (FEED ∷ [])
