-- The placement that a call reads.
-- Main statement: `read_rising_on`.
use mathlib.Core.Path.{◌≡◌}
use mathlib.Core.Bool.{true}
use mathlib.Core.List.{List}
use Prim.Native.Nat.{ℕ}
use Rattle.std.proofs.Common.{Ok}
use lib.ListN.{length}
use Rattle.paper_nests.specs.Stored.{nest_in}
use Rattle.paper_placements.specs.Placements.{are_gaps}
use Rattle.paper_placements.specs.Words.{gaps_in}
use Rattle.paper_placements.specs.declared.Placement.{Placement}
use Rattle.desk.specs.declared.Desk as DD
use Rattle.desk.proofs.Ready.{read_rising}
use Rattle.call_slips.specs.Says.{ReadOn}

-- the gaps that were read rise within those of the nest
pub read_rising_on
    : (d : DD.Desk) (s : List ℕ) (p : Placement)
    → ReadOn d s (Ok p)
    → are_gaps (nest_in d.nest) (gaps_in p.words) ≡ true
read_rising_on d s p w =
    read_rising (length (nest_in d.nest).points) 0 0 (nest_in d.nest).barred s (gaps_in p.words) w.read_is
