-- What is said of standard input: no contract can say which bytes C's read puts into a buffer, but where they lie, that
-- a later read leaves those of an earlier one, and that what is handed on ends where the last of them ended.
-- Main definitions: `StepSays`, `after_step`, `Run`, `IsRead`.
use Rattle.std.specs.Prelude.{◌≡◌, List, ℕ, ◌+◌, ◌<◌, ◌≤◌, ◌^◌, eqb, length, take, Option, Some, None}
use Rattle.std.specs.declared.ops.ControlFlow.{ControlFlow}
use Rattle.std.specs.declared.ops.ControlFlow.TheVariants.{Continue, Break}
use Rattle.laws.specs.Choice.{pick}
use Rattle.key.specs.declared.Step.{Step}
use Rattle.key.specs.declared.Step.TheVariants as SV
use Rattle.key.specs.declared.Reads.{Reads}

-- a read that moved bytes moved one at least, and they lie in the buffer
abbrev pub IsOn : ℕ → Step → List ℕ → Type 0
IsOn at (SV.More k) buffer = (0 < k) × (at + k ≤ length buffer)
IsOn at SV.End buffer = Unit {0}
IsOn at SV.Interrupted buffer = Unit {0}
IsOn at SV.Failed buffer = Unit {0}

-- one read behind the first bytes of a buffer
pub record StepSays (at : ℕ) (step : Step) (buffer buffer' : List ℕ) : Type 0 where
  pub on : IsOn at step buffer'
  pub kept : take at buffer' ≡ take at buffer
  pub long : length buffer' ≡ length buffer

-- how many interrupts are borne
abbrev pub INTERRUPTS : ℕ
INTERRUPTS = 65536

-- the sums that a read makes are numbers of the machine
abbrev pub Adds : Reads → Step → Type 0
Adds r (SV.More k) = r.bytes + k < 2 ^ 64
Adds r SV.End = Unit {0}
Adds r SV.Interrupted = r.interrupts + 1 < 2 ^ 64
Adds r SV.Failed = Unit {0}

abbrev pub reads : ℕ → ℕ → Reads
reads b i = record { bytes = b; interrupts = i }

-- what the reads gave, with one more: the sum of their bytes, which is told where the input ends; none is told where a
-- read failed
abbrev pub after_step : Reads → Step → ControlFlow (Option ℕ) Reads
after_step r (SV.More k) = Continue (reads (r.bytes + k) r.interrupts)
after_step r SV.End = Break (Some r.bytes)
after_step r SV.Interrupted =
    pick
    (eqb r.interrupts INTERRUPTS)
    (Break None)
    (Continue (reads r.bytes (r.interrupts + 1)))
after_step r SV.Failed = Break None

-- reads of a buffer, each behind the bytes of those before: what they gave, and the buffer after them
pub data Run (buffer : List ℕ) : Reads → List ℕ → Type 0 where
  none : Run buffer (reads 0 0) buffer
  more
      : (r : Reads) (s : Step) (r' : Reads) (b b' : List ℕ)
      → Run buffer r b
      → StepSays r.bytes s b b'
      → after_step r s ≡ Continue r'
      → Run buffer r' b'

-- what the reading tells: what its last read makes of those before, or that the buffer is full of what they gave
pub data IsRead (buffer : List ℕ) : Option ℕ → List ℕ → Type 0 where
  last
      : (r : Reads) (s : Step) (told : Option ℕ) (b b' : List ℕ)
      → Run buffer r b
      → StepSays r.bytes s b b'
      → after_step r s ≡ Break told
      → IsRead buffer told b'
  full : (r : Reads) (b : List ℕ) → Run buffer r b → r.bytes ≡ length b → IsRead buffer (Some r.bytes) b
