-- What the functions below the two calls promise.
-- Main definitions: `Wrote`, `SlipLength`, `ExaminerLength`, `InBytes`.
use Rattle.std.specs.Prelude.{◌≡◌, List, ℕ, ◌<◌, length}
use Rattle.paper_nests.specs.Nests.{Nest}
use Rattle.paper_lines.specs.Writing.{over}
use Rattle.paper_order.specs.Verdicts.{Verdict, Dearer}
use Rattle.desk.specs.declared.Answer as DA
use Rattle.call_slips.specs.Texts.{slip_text, examiner_text}

-- the text stands over the start of the buffer, and this is its length
pub record Wrote (t out out' : List ℕ) (r : ℕ) : Type 0 where
  pub length_is : r ≡ length t
  pub out_is : out' ≡ over t out

-- the answer to a text that is refused
pub record Unread (number line : ℕ) (r : DA.Answer) : Type 0 where
  pub number_is : r.number ≡ number
  pub line_is : r.line ≡ line
  pub value_is : r.value ≡ 0

-- the length of a slip, whatever the placement and the key
abbrev pub SlipLength : Nest → ℕ → Type 0
SlipLength n r = (gs : List ℕ) → r ≡ length (slip_text n gs)

abbrev pub ExaminerLength : Nest → ℕ → Type 0
ExaminerLength n r = (key gs : List ℕ) → r ≡ length (examiner_text n key gs)

-- a verdict's loop and counts are bytes
abbrev pub InBytes : Verdict → Type 0
InBytes v = (loop theirs ours : ℕ) → v ≡ Dearer loop theirs ours → (loop < 256) × ((theirs < 256) × (ours < 256))
