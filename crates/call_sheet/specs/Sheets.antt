-- Timing sheets: finish times by phases, the end of the run with the sheet's waits and with all barriers kept, and the
-- faults of a sheet.
-- Main definitions: `Sheet`, `finish_by`, `finish_of`, `end_waiting`, `end_barriers`, `IsWithin`, `work_of`, `sheet_fault`.
use Rattle.std.specs.Prelude.{◌≡◌, Bool, true, ◌&&◌, not, List, [], ◌∷◌, ℕ, zero, suc, ◌+◌, ◌-◌, ◌*◌, ◌^◌, max, eqb, ltb, length, get_or}
use Rattle.laws.specs.Choice.{pick, when, first_of, between}
use Rattle.laws.specs.Bits.{bit}

-- 1 to 16 processors and 1 to 64 phases
abbrev pub PROCESSORS : ℕ
PROCESSORS = 16

abbrev pub PHASES : ℕ
PHASES = 64

-- durations, and for each phase after the first sets of processors, the lowest bit for processor 0; both
-- phase by phase, processors rising in each
pub record Sheet : Type 0 where
  pub processors : ℕ
  pub phases : ℕ
  pub durations : List ℕ
  pub waits : List ℕ

abbrev pub sheet : ℕ → ℕ → List ℕ → List ℕ → Sheet
sheet m k ds ws = record { processors = m; phases = k; durations = ds; waits = ws }

-- processor p's duration in phase k, counted from 0
abbrev pub duration_at : Sheet → ℕ → ℕ → ℕ
duration_at s k p = get_or s.durations (k * s.processors + p) 0

-- who waits for whom: before phase k + 1 processor p waits for processor q
abbrev pub Waits : Type 0
Waits = ℕ → ℕ → ℕ → Bool

abbrev pub waits_of : Sheet → Waits
waits_of s k p q = bit (get_or s.waits (k * s.processors + p) 0) q

-- with all barriers kept, everyone waits for everyone
abbrev pub everyone : Waits
everyone k p q = true

-- the latest of the times of those below n that are chosen
unfoldable pub latest : (ℕ → Bool) → (ℕ → ℕ) → ℕ → ℕ
latest chosen time zero = 0
latest chosen time (suc q) = max (latest chosen time q) (when (chosen q) (time q))

-- finish times, in the first phase the duration, then the latest of those waited for in the phase before
-- plus the duration
unfoldable pub finish_by : Waits → Sheet → ℕ → ℕ → ℕ
finish_by w s zero p = duration_at s 0 p
finish_by w s (suc k) p = latest (w k p) (finish_by w s k) s.processors + duration_at s (suc k) p

abbrev pub finish_of : Sheet → ℕ → ℕ → ℕ
finish_of s = finish_by (waits_of s) s

-- the end of the run: the latest finish time of its last phase
abbrev pub anyone : ℕ → Bool
anyone p = true

abbrev pub end_by : Waits → Sheet → ℕ
end_by w s = latest anyone (finish_by w s (s.phases - 1)) s.processors

abbrev pub end_waiting : Sheet → ℕ
end_waiting s = end_by (waits_of s) s

abbrev pub end_barriers : Sheet → ℕ
end_barriers s = end_by everyone s

-- each set lies within the matching set of the other list
abbrev pub IsWithin : List ℕ → List ℕ → Type 0
IsWithin ws vs = (i q : ℕ) → bit (get_or ws i 0) q ≡ true → bit (get_or vs i 0) q ≡ true

-- processor p's durations in the first k phases, and the largest sum of one processor's
unfoldable pub work_before : Sheet → ℕ → ℕ → ℕ
work_before s zero p = 0
work_before s (suc k) p = work_before s k p + duration_at s k p

abbrev pub work_of : Sheet → ℕ → ℕ
work_of s = work_before s s.phases

abbrev pub most_work : Sheet → ℕ
most_work s = latest anyone (work_of s) s.processors

-- number 19: counts in their ranges, and both lists as long as they say
abbrev pub is_sized : Sheet → Bool
is_sized s =
    between 1 s.processors PROCESSORS &&
    (between 1 s.phases PHASES &&
    (eqb (length s.durations) (s.phases * s.processors) &&
    eqb (length s.waits) ((s.phases - 1) * s.processors)))

-- number 20: of m processors, p's set has p and none that does not exist
abbrev pub is_set : ℕ → ℕ → ℕ → Bool
is_set m p v = bit v p && ltb v (2 ^ m)

-- the processor after p, in rising order and then from the first
abbrev pub next_of : ℕ → ℕ → ℕ
next_of m p = pick (ltb (suc p) m) (suc p) 0

-- the sets from processor p's on
unfoldable pub are_sets : ℕ → ℕ → List ℕ → Bool
are_sets m p [] = true
are_sets m p (v ∷ vs) = is_set m p v && are_sets m (next_of m p) vs

-- 0 for none
abbrev pub sheet_fault : Sheet → ℕ
sheet_fault s = first_of (when (not (is_sized s)) 19) (when (not (are_sets s.processors 0 s.waits)) 20)
