-- What the two calls promise. Neither changes the desk, and neither needs a key.
-- Main definitions: `relied_fault`, `ReliedSays`, `one_end_fault`, `OneEndSays`.
use Rattle.std.specs.Prelude.{◌≡◌, false, not, List, [], ℕ, eqb, ltb, length}
use Rattle.laws.specs.Choice.{pick, when, first_of}
use Rattle.paper_placements.specs.Words.{gaps_in}
use Rattle.desk.specs.declared.Desk as DD
use Rattle.desk.specs.declared.Chosen as DC
use Rattle.desk.specs.Desks.{Desk, desk_in, state_fault, Fault, fault}
use Rattle.desk.specs.Says.{read_in, ChosenSays}
use Rattle.call_skipped.specs.Relied.{relied_at}
use Rattle.call_skipped.specs.OneEnd.{one_end_at}

-- 6, no dependence has this number
abbrev pub number_fault : Desk → ℕ → ℕ
number_fault x i = when (not (ltb i (length x.nest_is.deps))) 6

-- 10; then the faults of the text s, with their line, as by Mark; then 6
abbrev pub relied_fault : Desk → List ℕ → ℕ → Fault
relied_fault x s i =
    pick
    (eqb (state_fault false x) 0)
    (pick
    (eqb (read_in x s).number 0)
    (fault (number_fault x i) 0)
    (fault (read_in x s).number (read_in x s).place))
    (fault (state_fault false x) 0)

-- a reply that chooses nothing
pub record NoneChosen (number line : ℕ) (r : DC.Chosen) : Type 0 where
  pub number_is : r.number ≡ number
  pub line_is : r.line ≡ line
  pub set_is : gaps_in r.set.words ≡ []

-- a reply: the fault, and where there is none the loops
pub record LoopsSays (f : Fault) (loops : List ℕ) (r : DC.Chosen) : Type 0 where
  pub number_is : r.number ≡ f.number
  pub line_is : r.line ≡ f.place
  pub set_is : gaps_in r.set.words ≡ pick (eqb f.number 0) loops []

-- the loops on which the placement that s spells relies for dependence i, by their DOs, rising
abbrev pub ReliedSays : DD.Desk → List ℕ → ℕ → DC.Chosen → Type 0
ReliedSays d s i r =
    let x = desk_in d in
    LoopsSays (relied_fault x s i) (relied_at x.nest_is (read_in x s).gaps i) r

-- 10, 6
abbrev pub one_end_fault : Desk → ℕ → ℕ
one_end_fault x i = first_of (state_fault false x) (number_fault x i)

-- the flagged loops that have one end alone of dependence i, where it goes forward into the next turn
abbrev pub OneEndSays : DD.Desk → ℕ → DC.Chosen → Type 0
OneEndSays d i r = ChosenSays (one_end_fault (desk_in d) i) (one_end_at (desk_in d).nest_is i) r
