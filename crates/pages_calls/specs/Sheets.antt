-- Request 14 on one page: timing sheets. Of the project it uses the struct RunEnds and the equation that the source
-- attaches to the call (ends): r ≡ endsOf (sheet m n ds ws), for m processors, n phases, durations ds and waits ws.
-- `sheets_kept` (proofs/SheetsKept) proves it. Phases and processors are counted from 0.
use Rattle.std.specs.Prelude.{◌≡◌, List, ℕ, zero, suc, ◌+◌, ◌*◌, ◌/◌, ◌%◌, ◌^◌, ◌≤◌, ◌<◌, length}
use Rattle.call_sheet.specs.declared.RunEnds.{RunEnds}
use Rattle.call_sheet.specs.Sheets.{sheet}
use Rattle.call_sheet.specs.Says.{ends_of}
use Rattle.pages.specs.Demands.{At}

-- processor q is in a set, the lowest bit for processor 0
abbrev pub Member : ℕ → ℕ → Type 0
Member set q = set / 2 ^ q % 2 ≡ 1

-- counts in range and slices as long as they say; both run phase by phase, processors rising, waits from the second on
pub record Sized (m n : ℕ) (ds ws : List ℕ) : Type 0 where
  pub processors : (1 ≤ m) × (m ≤ 16)
  pub phases : (1 ≤ n) × (n ≤ 64)
  pub durations : length ds ≡ n * m
  pub waits : length ws + m ≡ n * m

-- each set has its own processor, and none that does not exist
pub record OwnSets (m : ℕ) (ws : List ℕ) : Type 0 where
  pub own : (k p v : ℕ) → p < m → At ws (k * m + p) v → Member v p
  pub there : (k p v q : ℕ) → p < m → At ws (k * m + p) v → Member v q → q < m

pub data Number (m n : ℕ) (ds ws : List ℕ) : ℕ → Type 0 where
  size : (Sized m n ds ws → ⊥) → Number m n ds ws 19
  sets : Sized m n ds ws → (OwnSets m ws → ⊥) → Number m n ds ws 20
  none : Sized m n ds ws → OwnSets m ws → Number m n ds ws 0

-- who waits for whom: W k p q, before phase k + 1 processor p waits for q; as the sheet says, or everyone for everyone
abbrev pub Waiting : List ℕ → ℕ → ℕ → ℕ → ℕ → Type 0
Waiting ws m k p q = (v : ℕ) × (At ws (k * m + p) v × Member v q)

abbrev pub Everyone : ℕ → ℕ → ℕ → ℕ → Type 0
Everyone m k p q = q < m

-- t is the latest of the times of some processors
pub record Latest (Of : ℕ → Type 0) (Time : ℕ → ℕ → Type 0) (t : ℕ) : Type 0 where
  pub one : (q : ℕ) × (Of q × Time q t)
  pub none_later : (q x : ℕ) → Of q → Time q x → x ≤ t

-- processor p finishes phase k at x: in the first phase its duration; then the latest of those it waits for in the
-- phase before, plus its own duration
abbrev pub Finish : ℕ → List ℕ → (ℕ → ℕ → ℕ → Type 0) → ℕ → ℕ → ℕ → Type 0
Finish m ds W zero p x = At ds p x
Finish m ds W (suc k) p x =
    (t : ℕ) × ((y : ℕ) × (Latest (W k p) (Finish m ds W k) t × At ds (suc k * m + p) y × (x ≡ t + y)))

-- the end of the run: the latest finish time of its last phase
abbrev pub End : ℕ → ℕ → List ℕ → (ℕ → ℕ → ℕ → Type 0) → ℕ → Type 0
End m n ds W x = (k : ℕ) × ((n ≡ suc k) × Latest (λ q. q < m) (Finish m ds W k) x)

-- the sum of processor p's durations in the first k phases
pub data Work (m : ℕ) (ds : List ℕ) (p : ℕ) : ℕ → ℕ → Type 0 where
  none : Work m ds p 0 0
  more : {k : ℕ} (w y : ℕ) → Work m ds p k w → At ds (k * m + p) y → Work m ds p (suc k) (w + y)

-- each set lies within the matching set
abbrev pub Within : List ℕ → List ℕ → Type 0
Within ws vs = (i q v : ℕ) → At ws i v → Member v q → (u : ℕ) × (At vs i u × Member u q)

-- what a reply tells
pub record Told (m n : ℕ) (ds ws : List ℕ) (r : RunEnds) : Type 0 where
  pub number : Number m n ds ws r.number
  pub line : r.line ≡ 0
  pub waiting : r.number ≡ 0 → End m n ds (Waiting ws m) r.waiting
  pub barriers : r.number ≡ 0 → End m n ds (Everyone m) r.barriers

pub record Sheets : Type 0 where
  pub told : (m n : ℕ) (ds ws : List ℕ) (r : RunEnds) → r ≡ ends_of (sheet m n ds ws) → Told m n ds ws r
  -- with the same durations, sets that lie within those of another sheet never end later than it
  pub fewer_waits
      : (m n : ℕ) (ds ws vs : List ℕ) (r s : RunEnds) → r ≡ ends_of (sheet m n ds ws) → s ≡ ends_of (sheet m n ds vs)
      → r.number ≡ 0 → s.number ≡ 0 → Within ws vs → r.waiting ≤ s.waiting
  pub barriers_last
      : (m n : ℕ) (ds ws : List ℕ) (r : RunEnds) → r ≡ ends_of (sheet m n ds ws) → r.waiting ≤ r.barriers
  -- neither end falls below the largest sum of one processor's durations
  pub own_work
      : (m n : ℕ) (ds ws : List ℕ) (r : RunEnds) (p w : ℕ) → r ≡ ends_of (sheet m n ds ws) → r.number ≡ 0 → p < m
      → Work m ds p n w → (w ≤ r.waiting) × (w ≤ r.barriers)
