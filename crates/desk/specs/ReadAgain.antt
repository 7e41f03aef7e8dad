-- A key written and read again: demand 2, said of the calls.
-- Main definitions: `KeyBack`, `ReadAgain`.
use Rattle.std.specs.Prelude.{◌≡◌, List, ℕ, take, Result}
use Rattle.paper_order.specs.Verdicts.{Best}
use Rattle.paper_texts.specs.PlacementTexts.{placed}
use Rattle.desk.specs.declared.Desk as DD
use Rattle.desk.specs.declared.Answer as DA
use Rattle.paper_refusals.specs.declared.Fault as PF
use Rattle.desk.specs.declared.Verdict as DV
use Rattle.desk.specs.Desks.{desk_in, IsMade}
use Rattle.desk.specs.Says.{given, mark_in, read_in, MarkSays, WriteSays}

-- the text is read as the desk's key, and Mark of it is Best
pub record KeyBack (d : DD.Desk) (text : List ℕ) : Type 0 where
  pub read_is : read_in (desk_in d) text ≡ placed 0 0 (desk_in d).key
  pub mark_is : (r : Result DV.Verdict PF.Fault) → MarkSays d text r → mark_in r ≡ given Best

-- demand 2: after Write answers 0, the bytes written are such a text
abbrev pub ReadAgain : Type 0
ReadAgain =
    (d : DD.Desk) (out out' : List ℕ) (a : DA.Answer) →
    IsMade d → WriteSays d out out' a → a.number ≡ 0 → KeyBack d (take a.value out')
