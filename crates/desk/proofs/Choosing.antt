-- Calls that choose a set: what a choice says of the reply, and replies that are alike.
-- Main statements: `chooses`, `same_chosen`.
use mathlib.Core.Path.{◌≡◌, sym, ◌∙◌}
use mathlib.Core.List.{List}
use Prim.Native.Nat.{ℕ}
use borrow.Author.Tests.{eq-eqb}
use Rattle.paper_placements.specs.Words.{gaps_in}
use Rattle.desk.specs.declared.Chosen as DC
use Rattle.desk.specs.Says.{ChosenSays}

-- the reply with the set
pub chooses
    : (f : ℕ) (xs : List ℕ) (r : DC.Chosen)
    → f ≡ 0
    → r.number ≡ 0
    → r.line ≡ 0
    → gaps_in r.set.words ≡ xs
    → ChosenSays f xs r
chooses f xs r z n l g = record { number_is = n ∙ sym z; line_is = l; set_is = rw (eq-eqb f 0 z) g }

-- replies with the same number and the same set
pub record SameChosen (a b : DC.Chosen) : Type 0 where
  pub same_number : a.number ≡ b.number
  pub same_line : a.line ≡ b.line
  pub same_set : gaps_in a.set.words ≡ gaps_in b.set.words

pub same_chosen
    : (f f' : ℕ) (xs xs' : List ℕ) (a b : DC.Chosen)
    → f ≡ f'
    → xs ≡ xs'
    → ChosenSays f xs a
    → ChosenSays f' xs' b
    → SameChosen a b
same_chosen f f' xs xs' a b p q h k =
    record {
      same_number = h.number_is ∙ p ∙ sym k.number_is;
      same_line = h.line_is ∙ sym k.line_is;
      same_set = h.set_is ∙ cc (p, q) ∙ sym k.set_is;
    }
