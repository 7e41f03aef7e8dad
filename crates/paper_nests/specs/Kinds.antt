-- The kinds of frames and the limits of a nest, each number named once.
use Rattle.std.specs.Prelude.{ℕ}

-- 01, "Text": points are 01 DO, 02 ENDDO, 03 statement
abbrev pub DO : ℕ
DO = 1

abbrev pub ENDDO : ℕ
ENDDO = 2

abbrev pub STATEMENT : ℕ
STATEMENT = 3

-- 02, job 10: 04 is the DO of a loop that may not run
abbrev pub FLAGGED : ℕ
FLAGGED = 4

-- 01, "Text": an independent dependence is 11 s t, a carried one 12 d s t
abbrev pub INDEPENDENT : ℕ
INDEPENDENT = 17

abbrev pub CARRIED : ℕ
CARRIED = 18

-- 02, job 7: a barred gap is 13 g
abbrev pub BARRED : ℕ
BARRED = 19

-- 01, "Text": limits, fixed with the nest itself
abbrev pub POINTS : ℕ
POINTS = 256

abbrev pub DEPTH : ℕ
DEPTH = 8

abbrev pub DEPENDENCES : ℕ
DEPENDENCES = 512

-- 02, job 7: at most 255 barred gaps, repeats counted
abbrev pub BARS : ℕ
BARS = 255
