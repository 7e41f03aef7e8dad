-- What the call replies, from what its parts found.
-- Main statement: `reply_ends`.
use mathlib.Core.Path.{◌≡◌, ◌∙◌}
use mathlib.Core.Bool.{true}
use Prim.Native.Nat.{ℕ}
use Rattle.call_sheet.specs.declared.RunEnds as DE
use Rattle.call_sheet.specs.Sheets.{Sheet, end_waiting, is_sized, are_sets}
use Rattle.call_sheet.specs.Says.{ends_of, barriers_to}
use Rattle.call_sheet.proofs.Sets.{sized_is}
use Rattle.call_sheet.proofs.Ending.{barriers_end}

abbrev pub reply : ℕ → ℕ → DE.RunEnds
reply w b = record { number = 0; line = 0; waiting = w; barriers = b }

pub reply_ends :
    (s : Sheet) (w b : ℕ) → is_sized s ≡ true → are_sets s.processors 0 s.waits ≡ true → w ≡ end_waiting s →
    b ≡ barriers_to s.processors s.durations s.phases → reply w b ≡ ends_of s
reply_ends s w b h l e f = rw (h, l, e, f ∙ barriers_end s (sized_is s h))
