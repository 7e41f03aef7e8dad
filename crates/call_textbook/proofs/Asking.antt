-- The call: two desks with the same nest are answered alike.
-- Main statement: `same_textbook`.
use mathlib.Core.Path.{◌≡◌}
use Rattle.desk.specs.declared.Desk as DD
use Rattle.desk.specs.declared.Chosen as DC
use Rattle.desk.specs.Desks.{desk_in}
use Rattle.desk.proofs.Choosing.{SameChosen, same_chosen}
use Rattle.call_textbook.specs.Says.{textbook_fault, textbook_on, TextbookSays}

-- what the call reads of a desk is its nest
pub same_textbook
    : (d e : DD.Desk) (a b : DC.Chosen)
    → d.loaded ≡ e.loaded
    → (desk_in d).nest_is ≡ (desk_in e).nest_is
    → TextbookSays d a
    → TextbookSays e b
    → SameChosen a b
same_textbook d e a b loaded nest =
    same_chosen (textbook_fault (desk_in d)) (textbook_fault (desk_in e)) (textbook_on (desk_in d)) (textbook_on (desk_in e)) a b
    (cc (loaded, nest)) (cc nest)
