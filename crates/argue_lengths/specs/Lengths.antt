-- How long the argument of a key is at most.
-- Main definitions: `MOST-CLAIMS`, `MOST-STEPS`, `LONGEST`.
use Rattle.std.specs.Prelude.{ℕ, ◌+◌, ◌*◌, ◌-◌}
use Rattle.paper_nests.specs.Kinds.{POINTS, DEPTH}

-- a point has at most two claims, if it is a DO, and one in each of at most 8 loops around the gap before it
abbrev pub MOST-CLAIMS : ℕ
MOST-CLAIMS = (2 + DEPTH) * POINTS

-- steps of a claim: one for each gap in all laps but the last, one for each gap in the last, and one at its end
abbrev pub MOST-STEPS : ℕ
MOST-STEPS = 2 * POINTS - 1

-- a claim's own line: 4 bytes as 8 digits, and the 0a
abbrev pub CLAIM-BYTES : ℕ
CLAIM-BYTES = 9

-- a step's line and that of the claim that leads it: at most 3 bytes as 6 digits, and the 0a, each
abbrev pub STEP-BYTES : ℕ
STEP-BYTES = 14

-- the text of c claims of s steps each has no more
abbrev pub bytes_for : ℕ → ℕ → ℕ
bytes_for c s = c * (CLAIM-BYTES + STEP-BYTES * s)

-- `bytes_for` of the most claims with the most steps
abbrev pub LONGEST : ℕ
LONGEST = 18337280
