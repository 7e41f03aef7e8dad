-- What the call says of a sheet, and what its parts say.
-- Main definitions: `sheet_in`, `ends_of`, `IsShort`, `time_at`, `longest_from`, `barriers_to`, `Timed`, `pass_time`,
-- `PassRoom`.
use Rattle.std.specs.Prelude.{◌≡◌, List, ℕ, zero, suc, ◌+◌, ◌*◌, ◌≤◌, ◌<◌, eqb, length, get_or}
use Rattle.laws.specs.Choice.{when}
use Rattle.laws.specs.Bits.{bit}
use Rattle.call_sheet.specs.declared.RunEnds as DE
use Rattle.call_sheet.specs.declared.Sheet as DS
use Rattle.call_sheet.specs.Sheets.{PROCESSORS, PHASES, Sheet, sheet, anyone, latest, end_waiting, end_barriers}
use Rattle.call_sheet.specs.Sheets.{sheet_fault}

-- the sheet that the code holds
abbrev pub sheet_in : DS.Sheet → Sheet
sheet_in s = sheet s.processors s.phases s.durations.now s.waits.now

-- the end of the run in both cases; a sheet at fault gets its number and zeros
abbrev pub ends_of : Sheet → DE.RunEnds
ends_of s =
    record {
      number = sheet_fault s;
      line = 0;
      waiting = when (eqb (sheet_fault s) 0) (end_waiting s);
      barriers = when (eqb (sheet_fault s) 0) (end_barriers s);
    }

-- the longest duration
abbrev pub LONGEST : ℕ
LONGEST = 65535

-- durations that are no longer than they may be
abbrev pub IsShort : List ℕ → Type 0
IsShort row = (p : ℕ) → get_or row p 0 ≤ LONGEST

-- the times of a phase as a list
abbrev pub time_at : List ℕ → ℕ → ℕ
time_at ts p = get_or ts p 0

-- the longest of the m durations from a place on
abbrev pub longest_from : List ℕ → ℕ → ℕ → ℕ
longest_from ds from m = latest anyone (λ p. get_or ds (from + p) 0) m

-- of m processors the longest durations of the first k phases, one after the other
unfoldable pub barriers_to : ℕ → List ℕ → ℕ → ℕ
barriers_to m ds zero = 0
barriers_to m ds (suc k) = barriers_to m ds k + longest_from ds (k * m) m

-- the times of the first p processors are stored, in a list as long as before
pub record Timed (time : ℕ → ℕ) (now after : List ℕ) (p : ℕ) : Type 0 where
  pub same_length : length after ≡ length now
  pub times_are : (i : ℕ) → i < p → time_at after i ≡ time i

-- the i-th processor's time after a phase with these durations and sets
abbrev pub pass_time : List ℕ → List ℕ → List ℕ → ℕ → ℕ
pass_time row sets earlier i =
    latest (bit (get_or sets i 0)) (time_at earlier) (length earlier) + get_or row i 0

-- lists long enough for a phase, and times that leave room for a duration
pub record PassRoom (row sets earlier now : List ℕ) : Type 0 where
  pub few : length earlier ≤ PROCESSORS
  pub sets_there : length row ≤ length sets
  pub now_there : length row ≤ length now
  pub low : (p : ℕ) → p < length earlier → time_at earlier p ≤ PHASES * LONGEST
