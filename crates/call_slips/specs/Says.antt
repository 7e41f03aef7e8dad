-- What the two calls promise: reply and every lent byte. Neither changes the desk.
-- Main definitions: `gaps_read`, `ReadOn`, `candidate_fault`, `CandidateSays`, `examiner_fault`, `ExaminerSays`.
use Rattle.std.specs.Prelude.{◌≡◌, Bool, true, false, List, [], ℕ, eqb, ltb, length, Result, Ok, Err}
use Rattle.laws.specs.Choice.{pick, when}
use Rattle.paper_refusals.specs.declared.Fault as PF
use Rattle.paper_refusals.specs.Numbers.{fault_number, fault_line}
use Rattle.paper_lines.specs.Writing.{over}
use Rattle.paper_placements.specs.declared.Placement.{Placement}
use Rattle.paper_placements.specs.Words.{gaps_in}
use Rattle.paper_texts.specs.PlacementTexts.{placed}
use Rattle.desk.specs.declared.Desk as DD
use Rattle.desk.specs.declared.Answer as DA
use Rattle.desk.specs.Desks.{Desk, desk_in, state_fault, Fault, fault}
use Rattle.desk.specs.Says.{read_in}
use Rattle.call_slips.specs.Texts.{slip_text, examiner_text}

-- the gaps that were read; none where the text is refused
abbrev pub gaps_read : Result Placement PF.Fault → List ℕ
gaps_read (Ok p) = gaps_in p.words
gaps_read (Err f) = []

-- the reading of a placement text for the desk's nest, as by Mark
pub record ReadOn (d : DD.Desk) (s : List ℕ) (r : Result Placement PF.Fault) : Type 0 where
  pub read_is : placed (fault_number r) (fault_line r) (gaps_read r) ≡ read_in (desk_in d) s

-- 02, job 9: 10, and 11 where a key is wanted; then the faults of the text s, with their line, as by Mark; then 9 where
-- the buffer's length, here `room`, is less than the slip's
abbrev pub slip_fault : Bool → Desk → List ℕ → List ℕ → ℕ → Fault
slip_fault wants_key x s slip room =
    pick
    (eqb (state_fault wants_key x) 0)
    (pick
    (eqb (read_in x s).number 0)
    (fault (when (ltb room (length slip)) 9) 0)
    (fault (read_in x s).number (read_in x s).place))
    (fault (state_fault wants_key x) 0)

-- 02, job 9: a slip is written as by Write: from the start of the buffer, every later byte as it was, and the length;
-- refused, nothing is written
pub record SlipSays (f : Fault) (slip out out' : List ℕ) (r : DA.Answer) : Type 0 where
  pub number_is : r.number ≡ f.number
  pub line_is : r.line ≡ f.place
  pub value_is : r.value ≡ pick (eqb f.number 0) (length slip) 0
  pub out_is : out' ≡ pick (eqb f.number 0) (over slip out) out

-- 02, job 9: the candidate's slip of the placement that s spells needs no key
abbrev pub candidate_slip : Desk → List ℕ → List ℕ
candidate_slip x s = slip_text x.nest_is (read_in x s).gaps

abbrev pub candidate_fault : Desk → List ℕ → ℕ → Fault
candidate_fault x s room = slip_fault false x s (candidate_slip x s) room

abbrev pub CandidateSays : DD.Desk → List ℕ → List ℕ → List ℕ → DA.Answer → Type 0
CandidateSays d s out out' r =
    SlipSays (candidate_fault (desk_in d) s (length out)) (candidate_slip (desk_in d) s) out out' r

-- 02, job 9: the examiner's slip is beside the key
abbrev pub examiner_slip : Desk → List ℕ → List ℕ
examiner_slip x s = examiner_text x.nest_is x.key (read_in x s).gaps

abbrev pub examiner_fault : Desk → List ℕ → ℕ → Fault
examiner_fault x s room = slip_fault true x s (examiner_slip x s) room

abbrev pub ExaminerSays : DD.Desk → List ℕ → List ℕ → List ℕ → DA.Answer → Type 0
ExaminerSays d s out out' r =
    SlipSays (examiner_fault (desk_in d) s (length out)) (examiner_slip (desk_in d) s) out out' r
