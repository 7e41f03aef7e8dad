-- What the call of the textbook method promises.
-- Main definitions: `textbook_fault`, `textbook_on`, `TextbookSays`.
use Rattle.std.specs.Prelude.{false, not, List, ℕ}
use Rattle.laws.specs.Choice.{when, first_of}
use Rattle.paper_nests.specs.Ring.{one_loop}
use Rattle.paper_barred.specs.Reduced.{is_blocked}
use Rattle.desk.specs.declared.Desk as DD
use Rattle.desk.specs.declared.Chosen as DC
use Rattle.desk.specs.Desks.{Desk, desk_in, state_fault}
use Rattle.desk.specs.Says.{ChosenSays}
use Rattle.call_textbook.specs.Tries.{textbook_of}

-- 02, job 8: 10, then 14, a nest of several loops, then 15 as in Plan
abbrev pub textbook_fault : Desk → ℕ
textbook_fault x =
    first_of
    (state_fault false x)
    (first_of (when (not (one_loop x.nest_is.points)) 14) (when (is_blocked x.nest_is) 15))

-- the placement of the textbook method, of the desk's nest
abbrev pub textbook_on : Desk → List ℕ
textbook_on x = textbook_of x.nest_is.points x.nest_is.barred x.nest_is.deps

-- the call changes nothing
abbrev pub TextbookSays : DD.Desk → DC.Chosen → Type 0
TextbookSays d r = ChosenSays (textbook_fault (desk_in d)) (textbook_on (desk_in d)) r
