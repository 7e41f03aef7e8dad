-- Two desks with the same nest: what they answer.
-- Main definitions: `Agree`, `TwoDesks`.
use Rattle.std.specs.Prelude.{◌≡◌, List, ℕ, Result}
use Rattle.paper_nests.specs.Nests.{Dep}
use Rattle.desk.specs.declared.Desk as DD
use Rattle.desk.specs.declared.Answer as DA
use Rattle.paper_refusals.specs.declared.Fault as PF
use Rattle.desk.specs.declared.Verdict as DV
use Rattle.desk.specs.Desks.{desk_in, IsMade}
use Rattle.desk.specs.Says.{CountSays, mark_in, MarkSays, WriteSays, ListSays}

-- the same key, and the same replies to every call that uses it
pub record Agree (d e : DD.Desk) : Type 0 where
  pub same_key : (desk_in d).key ≡ (desk_in e).key
  pub same_count : (p : ℕ) (a b : DA.Answer) → CountSays d p a → CountSays e p b → a ≡ b
  pub same_mark : (s : List ℕ) (a b : Result DV.Verdict PF.Fault) → MarkSays d s a → MarkSays e s b → mark_in a ≡ mark_in b
  pub same_text
      : (out o p : List ℕ) (a b : DA.Answer)
      → WriteSays d out o a
      → WriteSays e out p b
      → (a ≡ b) × (o ≡ p)
  pub same-list : (es : List Dep) (a b : DA.Answer) → ListSays d es a → ListSays e es b → a ≡ b

-- 02, job 6: two halls print the same key. Whatever calls made two desks: with the same nest, and with a key both or
-- neither, they agree
abbrev pub TwoDesks : Type 0
TwoDesks =
    (d e : DD.Desk) →
    IsMade d →
    IsMade e →
    d.loaded ≡ e.loaded →
    (desk_in d).nest_is ≡ (desk_in e).nest_is →
    d.planned ≡ e.planned →
    Agree d e
