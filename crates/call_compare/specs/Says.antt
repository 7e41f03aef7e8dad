-- What holding two placement texts beside each other promises. It changes nothing.
-- Main definitions: `Reply`, `reply_in`, `compare_of`, `CompareSays`.
use Rattle.std.specs.Prelude.{◌≡◌, Bool, false, List, [], ℕ, eqb}
use Rattle.laws.specs.Choice.{pick}
use Rattle.paper_nests.specs.Nests.{Nest}
use Rattle.paper_order.specs.LoopOrder.{as_good}
use Rattle.paper_placements.specs.Words.{gaps_in}
use Rattle.paper_weigh.specs.Weighed.{deciding_of}
use Rattle.desk.specs.declared.Desk as DD
use Rattle.desk.specs.Desks.{Desk, desk_in, state_fault}
use Rattle.desk.specs.Says.{read_in}
use Rattle.call_compare.specs.declared.Compared as DC

-- what a reply gives, with the loops that decide as a list of DOs
pub record Reply : Type 0 where
  pub number : ℕ
  pub text : ℕ
  pub line : ℕ
  pub first : Bool
  pub second : Bool
  pub deciding : List ℕ

abbrev pub reply_in : DC.Compared → Reply
reply_in r =
    record {
      number = r.number;
      text = r.text;
      line = r.line;
      first = r.first;
      second = r.second;
      deciding = gaps_in r.deciding.words;
    }

-- a refusal: the number, the text at fault, 0 for neither, and its line
abbrev pub refusal : ℕ → ℕ → ℕ → Reply
refusal n t l = record { number = n; text = t; line = l; first = false; second = false; deciding = [] }

-- whether each of two placements is as good or better than the other (01, "Which placement is better"), and the loops
-- that decide
abbrev pub weighed : Nest → List ℕ → List ℕ → Reply
weighed n a b =
    record {
      number = 0;
      text = 0;
      line = 0;
      first = as_good n a b;
      second = as_good n b a;
      deciding = deciding_of n a b;
    }

-- 10; then the faults of the first text with their line, as by Mark; then those of the second
abbrev pub compare_of : Desk → List ℕ → List ℕ → Reply
compare_of x s t =
    pick
    (eqb (state_fault false x) 0)
    (pick
    (eqb (read_in x s).number 0)
    (pick
    (eqb (read_in x t).number 0)
    (weighed x.nest_is (read_in x s).gaps (read_in x t).gaps)
    (refusal (read_in x t).number 2 (read_in x t).place))
    (refusal (read_in x s).number 1 (read_in x s).place))
    (refusal (state_fault false x) 0 0)

abbrev pub CompareSays : DD.Desk → List ℕ → List ℕ → DC.Compared → Type 0
CompareSays d s t r = reply_in r ≡ compare_of (desk_in d) s t
