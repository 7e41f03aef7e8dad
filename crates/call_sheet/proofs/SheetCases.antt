-- The definitions run: a sheet of two processors, and sheets at fault.
-- Main statements: `worked_sheet`, `worked_faults`.
use mathlib.Core.Path.{◌≡◌, refl}
use mathlib.Core.List.{[], ◌∷◌}
use lib.ListN.{replicate}
use Rattle.laws.specs.Bits.{bit}
use Rattle.call_sheet.specs.Sheets.{Sheet, sheet, latest, finish_by, finish_of, end_waiting, end_barriers}
use Rattle.call_sheet.specs.Sheets.{work_before, most_work, are_sets, sheet_fault}

-- processor 0 works 3 and 1, processor 1 works 1 and 3; each waits for itself alone
abbrev pub apart : Sheet
apart = sheet 2 2 (3 ∷ 1 ∷ 1 ∷ 3 ∷ []) (1 ∷ 2 ∷ [])

-- the same where processor 1 waits for both
abbrev pub joined : Sheet
joined = sheet 2 2 (3 ∷ 1 ∷ 1 ∷ 3 ∷ []) (1 ∷ 3 ∷ [])

pub record Worked : Type 0 where
  pub no_fault : sheet_fault apart ≡ 0
  pub first_ends : finish_of apart 1 0 ≡ 4
  pub apart_ends : end_waiting apart ≡ 4
  pub joined_ends : end_waiting joined ≡ 6
  pub barriers_end : end_barriers apart ≡ 6
  pub most-work : most_work apart ≡ 4

pub worked_sheet : Worked
unfolding latest finish_by work_before are_sets bit
worked_sheet =
    record {
      no_fault = refl;
      first_ends = refl;
      apart_ends = refl;
      joined_ends = refl;
      barriers_end = refl;
      most-work = refl;
    }

-- counts out of range, lists of the wrong length; a set without its own processor, with one that does not exist
pub record Faults : Type 0 where
  pub no_processor : sheet_fault (sheet 0 2 [] []) ≡ 19
  pub no_phase : sheet_fault (sheet 2 0 [] []) ≡ 19
  pub many_processors : sheet_fault (sheet 17 1 (replicate 17 5) []) ≡ 19
  pub many_phases : sheet_fault (sheet 1 65 (replicate 65 5) (replicate 64 1)) ≡ 19
  pub short_durations : sheet_fault (sheet 2 2 (3 ∷ 1 ∷ 1 ∷ []) (1 ∷ 2 ∷ [])) ≡ 19
  pub long_waits : sheet_fault (sheet 2 1 (3 ∷ 1 ∷ []) (1 ∷ 2 ∷ [])) ≡ 19
  pub not_itself : sheet_fault (sheet 2 2 (3 ∷ 1 ∷ 1 ∷ 3 ∷ []) (1 ∷ 1 ∷ [])) ≡ 20
  pub not_there : sheet_fault (sheet 2 2 (3 ∷ 1 ∷ 1 ∷ 3 ∷ []) (5 ∷ 2 ∷ [])) ≡ 20
  pub both : sheet_fault (sheet 2 2 (3 ∷ 1 ∷ 1 ∷ []) (5 ∷ 2 ∷ [])) ≡ 19
  pub full : sheet_fault (sheet 16 64 (replicate 1024 65535) (replicate 1008 65535)) ≡ 0

pub worked_faults : Faults
unfolding are_sets bit
worked_faults =
    record {
      no_processor = refl;
      no_phase = refl;
      many_processors = refl;
      many_phases = refl;
      short_durations = refl;
      long_waits = refl;
      not_itself = refl;
      not_there = refl;
      both = refl;
      full = refl;
    }
