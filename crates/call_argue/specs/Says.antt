-- What giving the argument of the key promises. The desk stays as it is.
-- Main definitions: `text_of`, `argue_fault`, `ArgueSays`.
use Rattle.std.specs.Prelude.{◌≡◌, true, ◌||◌, List, ℕ, eqb, ltb, length}
use Rattle.laws.specs.Choice.{pick, when, first_of}
use Rattle.paper_nests.specs.Nests.{Nest}
use Rattle.paper_lines.specs.Writing.{over}
use Rattle.argue_texts.specs.ArgumentTexts.{argument_text}
use Rattle.argue_key.specs.Laps.{argument_of}
use Rattle.desk.specs.declared.Desk as DD
use Rattle.desk.specs.declared.Answer as DA
use Rattle.desk.specs.Desks.{Desk, desk_in, state_fault}

-- the text of a nest's argument
abbrev pub text_of : Nest → List ℕ
text_of n = argument_text (argument_of n)

-- 9, for a buffer that is too short
abbrev pub room_fault : Nest → List ℕ → ℕ
room_fault n out = when (ltb (length out) (length (text_of n))) 9

-- 10, 11; then this
abbrev pub argue_fault : Desk → List ℕ → ℕ
argue_fault x out = first_of (state_fault true x) (room_fault x.nest_is out)

-- the value is the length of the text, where it was written or the buffer is too short
pub record ArguedAs (number : ℕ) (n : Nest) (out out' : List ℕ) (r : DA.Answer) : Type 0 where
  pub number_is : r.number ≡ number
  pub line_is : r.line ≡ 0
  pub value_is : r.value ≡ pick (eqb number 0 || eqb number 9) (length (text_of n)) 0
  pub out_is : out' ≡ pick (eqb number 0) (over (text_of n) out) out

abbrev pub ArgueSays : DD.Desk → List ℕ → List ℕ → DA.Answer → Type 0
ArgueSays d out out' r = ArguedAs (argue_fault (desk_in d) out) (desk_in d).nest_is out out' r

-- the reply where the buffer is too short
pub record AnswersShort (wanted : ℕ) (r : DA.Answer) : Type 0 where
  pub number_is : r.number ≡ 9
  pub line_is : r.line ≡ 0
  pub value_is : r.value ≡ wanted
