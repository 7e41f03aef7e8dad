-- The numbers of refusals, as callers are told them; 0 is the number of nothing refused.
-- Main definitions: `number_of`, `number_in`, `fault_number`, `fault_line`.
use Rattle.std.specs.Prelude.{ℕ, Result, Ok, Err}
use Rattle.paper_refusals.specs.declared.Refusal.{Refusal}
use Rattle.paper_refusals.specs.declared.Refusal.TheVariants as R
use Rattle.paper_refusals.specs.declared.Fault.{Fault}

-- 01, "Numbers from the input", and those that the change requests add
abbrev pub number_of : Refusal → ℕ
number_of R.NoFrame = 1
number_of R.WrongKind = 2
number_of R.LatePoint = 3
number_of R.Misplaced = 4
number_of R.TooMany = 5
number_of R.WrongPoint = 6
number_of R.WrongOrder = 7
number_of R.WrongGap = 8
number_of R.ShortBuffer = 9
number_of R.NoNest = 10
number_of R.NoKey = 11
number_of R.NothingMoved = 12
number_of R.NoMoveLeft = 13
number_of R.NotOneLoop = 14
number_of R.Blocked = 15
number_of R.BarredGap = 16
number_of R.WrongTurns = 17
number_of R.TooLarge = 18
number_of R.WrongSize = 19
number_of R.WrongSet = 20
number_of R.Unheld = 21

-- the number of a test that may refuse; 0 where it does not
abbrev pub number_in : {A : Type 0} → Result A Refusal → ℕ
number_in (Ok x) = 0
number_in (Err r) = number_of r

-- the number and the line of a reading; 0 and 0 where it is not refused
abbrev pub fault_number : {A : Type 0} → Result A Fault → ℕ
fault_number (Ok x) = 0
fault_number (Err f) = number_of f.refusal

abbrev pub fault_line : {A : Type 0} → Result A Fault → ℕ
fault_line (Ok x) = 0
fault_line (Err f) = f.line
