-- What weighing an argument text promises. Neither call changes the desk.
-- Main definitions: `weighed_by`, `WeighSays`, `WeighPlacementSays`.
use Rattle.std.specs.Prelude.{◌≡◌, true, false, List, ℕ, eqb}
use Rattle.laws.specs.Choice.{pick}
use Rattle.paper_nests.specs.Nests.{Nest}
use Rattle.paper_lines.specs.Lines.{lines_of}
use Rattle.paper_placements.specs.Placements.{is_correct}
use Rattle.argue_texts.specs.ArgumentTexts.{argument_fault, parts_of}
use Rattle.argue_texts.specs.Judged.{judged}
use Rattle.desk.specs.declared.Desk as DD
use Rattle.desk.specs.Desks.{Desk, desk_in, state_fault}
use Rattle.desk.specs.Says.{read_in}
use Rattle.call_argument.specs.declared.Weighed as CW

-- the texts at fault
abbrev pub PLACEMENT : ℕ
PLACEMENT = 1

abbrev pub ARGUMENT : ℕ
ARGUMENT = 2

-- the number of a line that does not hold
abbrev pub UNHELD : ℕ
UNHELD = 21

-- a number, the text at fault, 0 for neither, and its line; zeros where the argument holds
abbrev pub reply : ℕ → ℕ → ℕ → CW.Weighed
reply n t l = record { number = n; text = t; line = l }

-- the first line of the argument s that does not hold of the placement gs, 0 for none
abbrev pub unheld_of : Nest → List ℕ → List ℕ → ℕ
unheld_of n gs s = judged n gs (parts_of (lines_of s))

-- the faults of the argument's text; then the placement, where it is not correct; then the line
abbrev pub weighed_by : Nest → List ℕ → List ℕ → CW.Weighed
weighed_by n gs s =
    pick
    (eqb (argument_fault s).number 0)
    (pick
    (is_correct n gs)
    (pick (eqb (unheld_of n gs s) 0) (reply 0 0 0) (reply UNHELD ARGUMENT (unheld_of n gs s)))
    (reply UNHELD PLACEMENT 0))
    (reply (argument_fault s).number ARGUMENT (argument_fault s).place)

-- 10, 11; then against the key
abbrev pub weigh_of : Desk → List ℕ → CW.Weighed
weigh_of x s =
    pick (eqb (state_fault true x) 0) (weighed_by x.nest_is x.key s) (reply (state_fault true x) 0 0)

abbrev pub WeighSays : DD.Desk → List ℕ → CW.Weighed → Type 0
WeighSays d s r = r ≡ weigh_of (desk_in d) s

-- 10; the faults of the placement's text, as by Mark; then against that placement
abbrev pub weigh_placement_of : Desk → List ℕ → List ℕ → CW.Weighed
weigh_placement_of x p s =
    pick
    (eqb (state_fault false x) 0)
    (pick
    (eqb (read_in x p).number 0)
    (weighed_by x.nest_is (read_in x p).gaps s)
    (reply (read_in x p).number PLACEMENT (read_in x p).place))
    (reply (state_fault false x) 0 0)

abbrev pub WeighPlacementSays : DD.Desk → List ℕ → List ℕ → CW.Weighed → Type 0
WeighPlacementSays d p s r = r ≡ weigh_placement_of (desk_in d) p s
