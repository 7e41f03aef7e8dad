-- What the public calls promise: reply, desk after, every lent byte.
-- Main definitions: `EmptySays`, `LoadSays`, `PlanSays`, `ChosenSays`, `CountSays`, `MarkSays`, `WrittenAs`,
-- `WriteSays`, `OverSays`.
use Rattle.std.specs.Prelude.{◌≡◌, true, not, List, [], ℕ, eqb, ltb, length, Result, Ok, Err}
use Rattle.laws.specs.Choice.{pick, pick_t, when, first_of}
use Rattle.paper_refusals.specs.declared.Fault as PF
use Rattle.paper_refusals.specs.Numbers.{number_of}
use Rattle.paper_nests.specs.Nests.{Dep}
use Rattle.paper_nests.specs.Loops.{is_do}
use Rattle.paper_nests.specs.Stored.{nest_in, IsCounted}
use Rattle.paper_lines.specs.Writing.{over}
use Rattle.paper_placements.specs.Placements.{loop_count}
use Rattle.paper_placements.specs.Words.{gaps_in}
use Rattle.paper_order.specs.Verdicts.{Verdict, Uncut, Dearer, Best, mark_of}
use Rattle.desk_sitting.specs.Kept.{Kept}
use Rattle.desk_moves.specs.Ring.{IsRing}
use Rattle.paper_texts.specs.NestTexts.{read_nest}
use Rattle.paper_texts.specs.PlacementTexts.{Placed, read_placement, key_text}
use Rattle.desk.specs.declared.Desk as DD
use Rattle.desk.specs.declared.PlainDesk as OD
use Rattle.desk.specs.declared.Reply as DR
use Rattle.desk.specs.declared.Answer as DA
use Rattle.desk.specs.declared.Chosen as DC
use Rattle.desk.specs.declared.Verdict as DV
use Rattle.desk.specs.declared.Verdict.TheVariants as VV
use Rattle.desk.specs.Desks.{Desk, empty_desk, loaded_desk, with_key, desk_in, over_in, Fault, fault}
use Rattle.desk.specs.Desks.{state_fault, plan_fault, list_fault, list_uncut}

-- the desk holds this; its nest's counts are those of the nest, its sitting's those of a fresh count, and its moves
-- stand in a ring
pub record Holds (d : DD.Desk) (x : Desk) : Type 0 where
  pub holds : desk_in d ≡ x
  pub counted : IsCounted d.nest
  pub kept : Kept (nest_in d.nest) d.sitting
  pub ring : IsRing d.moves

-- a new desk, and Reset
abbrev pub EmptySays : DD.Desk → Type 0
EmptySays d = Holds d empty_desk

-- Load: 1 to 8 and 14 with their line; accepted, it replaces the nest and drops key, sitting and moves; refused, it
-- leaves the desk
pub record LoadSays (d : DD.Desk) (s : List ℕ) (r : DR.Reply) : Type 0 where
  pub number_is : r.number ≡ (read_nest s).number
  pub line_is : r.line ≡ (read_nest s).place
  pub desk_is : pick_t (eqb (read_nest s).number 0) (Holds r.desk (loaded_desk (read_nest s).nest_is)) (r.desk ≡ d)

-- Plan: 10, 15; the key is that of the nest; 02, job 4: it does not touch the sitting, nor the moves
pub record PlanSays (d : DD.Desk) (r : DR.Reply) : Type 0 where
  pub number_is : r.number ≡ plan_fault (desk_in d)
  pub line_is : r.line ≡ 0
  pub desk_is : pick_t (eqb (plan_fault (desk_in d)) 0) (Holds r.desk (with_key (desk_in d))) (r.desk ≡ d)
  pub sitting_is : r.desk.sitting ≡ d.sitting
  pub moves_are : r.desk.moves ≡ d.moves

-- an answer that refuses
pub record RefusedAs (number : ℕ) (r : DA.Answer) : Type 0 where
  pub number_is : r.number ≡ number
  pub line_is : r.line ≡ 0
  pub value_is : r.value ≡ 0

-- a reply that chooses nothing, and one that chooses a set, of gaps or of DOs
pub record NotChosen (number : ℕ) (r : DC.Chosen) : Type 0 where
  pub number_is : r.number ≡ number
  pub line_is : r.line ≡ 0
  pub set_is : gaps_in r.set.words ≡ []

pub record ChosenSays (number : ℕ) (xs : List ℕ) (r : DC.Chosen) : Type 0 where
  pub number_is : r.number ≡ number
  pub line_is : r.line ≡ 0
  pub set_is : gaps_in r.set.words ≡ pick (eqb number 0) xs []

-- Count: 10, 11, 6; the loop's count in the key
abbrev pub count_fault : Desk → ℕ → ℕ
count_fault x p = first_of (state_fault true x) (when (not (is_do x.nest_is.points p)) 6)

pub record CountSays (d : DD.Desk) (p : ℕ) (r : DA.Answer) : Type 0 where
  pub number_is : r.number ≡ count_fault (desk_in d) p
  pub line_is : r.line ≡ 0
  pub value_is : r.value ≡ pick (eqb (count_fault (desk_in d) p) 0) (loop_count (desk_in d).nest_is (desk_in d).key p) 0

-- Mark: 10, 11, then 1, 2, 8, 16 with their line; the paper's numbers and values of each answer
pub data Mark : Type 0 where
  refused : Fault → Mark
  given : Verdict → Mark

abbrev pub verdict_in : DV.Verdict → Verdict
verdict_in (VV.Uncut i) = Uncut i
verdict_in (VV.Dearer x) = Dearer x.d x.theirs x.ours
verdict_in VV.Best = Best

abbrev pub mark_in : Result DV.Verdict PF.Fault → Mark
mark_in (Err f) = refused (fault (number_of f.refusal) f.line)
mark_in (Ok v) = given (verdict_in v)

abbrev pub read_in : Desk → List ℕ → Placed
read_in x s = read_placement (length x.nest_is.points) x.nest_is.barred s

abbrev pub place_fault : Desk → List ℕ → Fault
place_fault x s =
    pick (eqb (state_fault true x) 0) (fault (read_in x s).number (read_in x s).place) (fault (state_fault true x) 0)

abbrev pub marked : Desk → List ℕ → Mark
marked x s =
    pick
    (eqb (place_fault x s).number 0)
    (given (mark_of x.nest_is x.key (read_in x s).gaps))
    (refused (place_fault x s))

-- Mark changes nothing
abbrev pub MarkSays : DD.Desk → List ℕ → Result DV.Verdict PF.Fault → Type 0
MarkSays d s r = mark_in r ≡ marked (desk_in d) s

-- the number that a state gives, by what stands for numbers; 0 where it gives none
abbrev pub number_by : {N : Type 0} → (N → ℕ) → Result (Unit {0}) N → ℕ
number_by number (Ok x) = 0
number_by number (Err n) = number n

-- a placement as text, where the desk's state gives no number: 9; the text from the start of the buffer, every later
-- byte as it was, and the length
abbrev pub text_fault : ℕ → List ℕ → List ℕ → ℕ
text_fault state gs out = first_of state (when (ltb (length out) (length (key_text gs))) 9)

pub record WrittenAs (state : ℕ) (gs out out' : List ℕ) (r : DA.Answer) : Type 0 where
  pub number_is : r.number ≡ text_fault state gs out
  pub line_is : r.line ≡ 0
  pub value_is : r.value ≡ pick (eqb (text_fault state gs out) 0) (length (key_text gs)) 0
  pub out_is : out' ≡ pick (eqb (text_fault state gs out) 0) (over (key_text gs) out) out

-- Write: 10, 11, then as every placement; the key
abbrev pub write_fault : Desk → List ℕ → ℕ
write_fault x out = text_fault (state_fault true x) x.key out

abbrev pub WriteSays : DD.Desk → List ℕ → List ℕ → DA.Answer → Type 0
WriteSays d out out' r = WrittenAs (state_fault true (desk_in d)) (desk_in d).key out out' r

-- the list: 10, 11, then 2, 6, 7 with the record's place; the place of the first that the key doesn't cut, 0 for none
abbrev pub check_fault : Desk → List Dep → Fault
check_fault x es =
    pick (eqb (state_fault true x) 0) (list_fault 1 x.nest_is.points es) (fault (state_fault true x) 0)

pub record ListSays (d : DD.Desk) (es : List Dep) (r : DA.Answer) : Type 0 where
  pub number_is : r.number ≡ (check_fault (desk_in d) es).number
  pub place_is : r.line ≡ (check_fault (desk_in d) es).place
  pub value_is
      : r.value ≡
      pick
      (eqb (check_fault (desk_in d) es).number 0)
      (list_uncut 1 (desk_in d).nest_is.points es (desk_in d).key)
      0

-- 02, jobs 4 and 6: a desk in use goes over to the new kind with its nest and an empty sitting, no move was made, and
-- where it has a key it gets that of its nest, or none where the nest is blocked
abbrev pub OverSays : OD.PlainDesk → DD.Desk → Type 0
OverSays old r = Holds r (over_in old)
