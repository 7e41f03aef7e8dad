-- Lines and frames spell each other: a frame's line is read back as that frame, and a good line is the spelling of its
-- frame. Digits and their values are inverse to each other, so are bytes and their two digits; the rest is recursion.
-- Main statements: `line_first`, `digits_good`, `frame_digits`; `good_line`, `lines-text`, `frames_back`.
use mathlib.Core.Path.{◌≡◌, refl, ap}
use mathlib.Core.Bool.{Bool, true, false, ◌&&◌}
use mathlib.Core.Logic.{⊎_elim}
use mathlib.Core.List.{List, [], ◌∷◌, ◌++◌, append_assoc}
use Prim.Native.Nat.{ℕ, suc, ◌+◌, ◌-◌, ◌*◌, ◌/◌, ◌%◌, ◌≤◌, ◌<◌}
use native.Mathlib.Omega.{arith}
use lib.Dec.{eqb, ltb, leb}
use lib.ListN.{length}
use borrow.Author.Tests.{ltb-true, ltb-false, leb-true, eqb-true, lt-ltb, le-ltb, le-leb, lt-leb, eq-eqb, ne_eqb}
use Rattle.laws.specs.Choice.{pick, between}
use Rattle.laws.proofs.Tests.{and_intro, and_true, or-true, or_left, or_right}
use Rattle.laws.proofs.Ranges.{in_between, between_in}
use Rattle.paper_lines.specs.Lines.{FEED, Line, line, push, lines_of, is_hex, value_of, all_hex, is_digits, is_good, byte_of}
use Rattle.paper_lines.specs.Lines.{frame_of, digit_of, byte_text, digits_of, line_text}

-- a frame's bytes are below 256
abbrev pub are_bytes : List ℕ → Bool
are_bytes [] = true
are_bytes (b ∷ f) = ltb b 256 && are_bytes f

-- a digit and its value
pub digit_is_hex : (v : ℕ) → v < 16 → is_hex (digit_of v) ≡ true
digit_is_hex v h = go (ltb v 10) refl
  where
    go : (t : Bool) → ltb v 10 ≡ t → is_hex (pick t (48 + v) (87 + v)) ≡ true
    go true e =
        let z = ltb-true v 10 e in
        or_left (between 97 (48 + v) 102) (between_in 48 (48 + v) 57 (omega arith) (omega arith))
    go false e =
        let z = ltb-false v 10 e in
        or_right (between 48 (87 + v) 57) (between_in 97 (87 + v) 102 (omega arith) (omega arith))

pub value_of_digit : (v : ℕ) → v < 16 → value_of (digit_of v) ≡ v
value_of_digit v h = go (ltb v 10) refl
  where
    go : (t : Bool) → ltb v 10 ≡ t → value_of (pick t (48 + v) (87 + v)) ≡ v
    go true e =
        let z = ltb-true v 10 e in
        rw (le-leb (48 + v) 57 (omega arith)) (omega arith)
    go false e =
        let z = ltb-false v 10 e in
        rw (lt-leb (87 + v) 57 (omega arith)) (omega arith)

pub hex_is_digit : (b : ℕ) → is_hex b ≡ true → (value_of b < 16) × (digit_of (value_of b) ≡ b)
hex_is_digit b h = ⊎_elim low high (or-true (between 48 b 57) (between 97 b 102) h)
  where
    low : between 48 b 57 ≡ true → (value_of b < 16) × (digit_of (value_of b) ≡ b)
    low z =
        let r = in_between 48 b 57 z in
        rw (le-leb b 57 r.1) (omega arith, rw (lt-ltb (b - 48) 10 (omega arith)) (omega arith))

    high : between 97 b 102 ≡ true → (value_of b < 16) × (digit_of (value_of b) ≡ b)
    high z =
        let r = in_between 97 b 102 z in
        rw (lt-leb b 57 (omega arith)) (omega arith, rw (le-ltb (b - 87) 10 (omega arith)) (omega arith))

pub hex_no_feed : (b : ℕ) → is_hex b ≡ true → eqb b FEED ≡ false
hex_no_feed b h = ⊎_elim low high (or-true (between 48 b 57) (between 97 b 102) h)
  where
    low : between 48 b 57 ≡ true → eqb b FEED ≡ false
    low z =
        let r = in_between 48 b 57 z in
        ne_eqb b FEED (omega arith)

    high : between 97 b 102 ≡ true → eqb b FEED ≡ false
    high z =
        let r = in_between 97 b 102 z in
        ne_eqb b FEED (omega arith)

-- a byte and its two digits
pub byte_of_text : (b : ℕ) → b < 256 → byte_of (digit_of (b / 16)) (digit_of (b % 16)) ≡ b
byte_of_text b h =
    rw (value_of_digit (b / 16) (omega arith), value_of_digit (b % 16) (omega arith)) (omega arith)

pub text_of_byte
    : (a c : ℕ)
    → is_hex a ≡ true
    → is_hex c ≡ true
    → (byte_of a c < 256) × (byte_text (byte_of a c) ≡ a ∷ (c ∷ []))
text_of_byte a c p q =
    let x = hex_is_digit a p in
    let y = hex_is_digit c q in
    let high : byte_of a c / 16 ≡ value_of a = omega (arith, x.0, y.0) in
    let low : byte_of a c % 16 ≡ value_of c = omega (arith, x.0, y.0) in
    (omega (arith, x.0, y.0), cc (ap digit_of high, ap digit_of low, x.1, y.1))

-- the digits of a frame
pub digits_hex : (f : List ℕ) → are_bytes f ≡ true → all_hex (digits_of f) ≡ true
digits_hex [] h = refl
digits_hex (b ∷ f) h =
    let z = and_true (ltb b 256) (are_bytes f) h in
    let small = ltb-true b 256 z.0 in
    let high = digit_is_hex (b / 16) (omega arith) in
    let low = digit_is_hex (b % 16) (omega arith) in
    and_intro high (and_intro low (digits_hex f z.1))

pub digits_length : (f : List ℕ) → length (digits_of f) ≡ 2 * length f
digits_length [] = refl
digits_length (b ∷ f) =
    let z = digits_length f in
    omega arith

-- a frame's digits are an even number of digits, and nonzero for a frame that is not empty
pub digits_good : (f : List ℕ) → are_bytes f ≡ true → leb 1 (length f) ≡ true → is_good (line (digits_of f) true) ≡ true
digits_good f h w =
    let z = digits_length f in
    let some = leb-true 1 (length f) w in
    let many = le-leb 1 (length (digits_of f)) (omega arith) in
    let even = eq-eqb (length (digits_of f) % 2) 0 (omega arith) in
    and_intro (and_intro many (and_intro even (digits_hex f h))) refl

pub frame_digits : (f : List ℕ) → are_bytes f ≡ true → frame_of (digits_of f) ≡ f
unfolding frame_of
frame_digits [] h = refl
frame_digits (b ∷ f) h =
    let z = and_true (ltb b 256) (are_bytes f) h in
    cc (byte_of_text b (ltb-true b 256 z.0), frame_digits f z.1)

-- a good line spells its frame
pub record SpellsBytes (l : List ℕ) : Type 0 where
  pub digits : l ≡ digits_of (frame_of l)
  pub bytes : are_bytes (frame_of l) ≡ true
  pub twice : length l ≡ 2 * length (frame_of l)

pub even_spells : (l : List ℕ) → length l % 2 ≡ 0 → all_hex l ≡ true → SpellsBytes l
unfolding frame_of
even_spells [] e h = record { digits = refl; bytes = refl; twice = refl }
even_spells (a ∷ []) e h = absurd (omega arith)
even_spells (a ∷ (c ∷ s)) e h =
    let x = and_true (is_hex a) (is_hex c && all_hex s) h in
    let y = and_true (is_hex c) (all_hex s) x.1 in
    let z = text_of_byte a c x.0 y.0 in
    let r = even_spells s (omega arith) y.1 in
    record {
      digits = cc (z.1, r.digits);
      bytes = and_intro (lt-ltb (byte_of a c) 256 z.0) r.bytes;
      twice = omega (arith, r.twice);
    }

pub record SpellsFrame (l : Line) : Type 0 where
  pub digits : l.bytes ≡ digits_of (frame_of l.bytes)
  pub bytes : are_bytes (frame_of l.bytes) ≡ true
  pub some : 1 ≤ length (frame_of l.bytes)
  pub ended : l.ended ≡ true

pub good_line : (l : Line) → is_good l ≡ true → SpellsFrame l
good_line l h =
    let a = and_true (is_digits l.bytes) l.ended h in
    let b = and_true (leb 1 (length l.bytes)) (eqb (length l.bytes % 2) 0 && all_hex l.bytes) a.0 in
    let c = and_true (eqb (length l.bytes % 2) 0) (all_hex l.bytes) b.1 in
    let r = even_spells l.bytes (eqb-true (length l.bytes % 2) 0 c.0) c.1 in
    record {
      digits = r.digits;
      bytes = r.bytes;
      some = omega (arith, r.twice, leb-true 1 (length l.bytes) b.0);
      ended = a.1;
    }

-- the first line of a text, and the rest
pub first_line : (l s : List ℕ) → all_hex l ≡ true → lines_of (l ++ (FEED ∷ s)) ≡ line l true ∷ lines_of s
unfolding lines_of
first_line [] s h = refl
first_line (b ∷ l) s h =
    let z = and_true (is_hex b) (all_hex l) h in
    let r = first_line l s z.1 in
    rw (hex_no_feed b z.0) (rw r)

pub line_first : (f s : List ℕ) → are_bytes f ≡ true → lines_of (line_text f ++ s) ≡ line (digits_of f) true ∷ lines_of s
line_first f s h = rw append_assoc (first_line (digits_of f) s (digits_hex f h))

-- a line's own bytes, its 0a included, and the text of some lines
abbrev pub line_bytes : Line → List ℕ
line_bytes l = l.bytes ++ pick l.ended (FEED ∷ []) []

abbrev pub lines_text : List Line → List ℕ
lines_text [] = []
lines_text (l ∷ ls) = line_bytes l ++ lines_text ls

push_text : (b : ℕ) (ls : List Line) → lines_text (push b ls) ≡ b ∷ lines_text ls
push_text b [] = refl
push_text b (l ∷ ls) = refl

-- a text is the text of its lines
pub lines-text : (s : List ℕ) → lines_text (lines_of s) ≡ s
unfolding lines_of
lines-text [] = refl
lines-text (b ∷ s) = go (eqb b FEED) refl (lines-text s)
  where
    go
        : (t : Bool)
        → eqb b FEED ≡ t
        → lines_text (lines_of s) ≡ s
        → lines_text (pick t (line [] true ∷ lines_of s) (push b (lines_of s))) ≡ b ∷ s
    go true e r = cc (eqb-true b FEED e, r)
    go false e r = cc (push_text b (lines_of s), r)

-- a text has no more lines than bytes
pub lines_few : (s : List ℕ) → length (lines_of s) ≤ length s
unfolding lines_of
lines_few [] = omega arith
lines_few (b ∷ s) = go (eqb b FEED) (lines_of s) (lines_few s)
  where
    go
        : (t : Bool) (ls : List Line)
        → length ls ≤ length s
        → length (pick t (line [] true ∷ ls) (push b ls)) ≤ suc (length s)
    go true ls r = omega arith
    go false [] r = omega arith
    go false (l ∷ ls) r = omega arith

-- a good line's bytes are its frame's line
pub good_bytes : (l : Line) → is_good l ≡ true → line_bytes l ≡ line_text (frame_of l.bytes)
good_bytes l h =
    let r = good_line l h in
    rw r.ended (cc r.digits)

-- frames as texts, and the frames of lines
abbrev pub frames_text : List (List ℕ) → List ℕ
frames_text [] = []
frames_text (f ∷ fs) = line_text f ++ frames_text fs

abbrev pub frames_of : List Line → List (List ℕ)
frames_of [] = []
frames_of (l ∷ ls) = frame_of l.bytes ∷ frames_of ls

abbrev pub all_good : List Line → Bool
all_good [] = true
all_good (l ∷ ls) = is_good l && all_good ls

abbrev pub are_frames : List (List ℕ) → Bool
are_frames [] = true
are_frames (f ∷ fs) = (leb 1 (length f) && are_bytes f) && are_frames fs

-- frames that are spelled are read back, each from a good line
pub frames_back
    : (fs : List (List ℕ))
    → are_frames fs ≡ true
    → (frames_of (lines_of (frames_text fs)) ≡ fs) × (all_good (lines_of (frames_text fs)) ≡ true)
unfolding lines_of
frames_back [] h = (refl, refl)
frames_back (f ∷ fs) h =
    let a = and_true (leb 1 (length f) && are_bytes f) (are_frames fs) h in
    let b = and_true (leb 1 (length f)) (are_bytes f) a.0 in
    let r = frames_back fs a.1 in
    rw
    (line_first f (frames_text fs) b.1)
    (cc (frame_digits f b.1, r.0), and_intro (digits_good f b.1 b.0) r.1)
