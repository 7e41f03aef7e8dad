-- What the reader of argument texts promises: its parts and what it keeps, as those of the definitions.
-- Main definitions: `set_in`, `part_in`, `led_in`, `progress_in`, `IsPart`, `IsFaulted`.
use Rattle.std.specs.Prelude.{◌≡◌, List, ℕ, suc, eqb, Option, None, Some, Result}
use Rattle.laws.specs.Choice.{pick}
use Rattle.paper_refusals.specs.declared.Fault as DF
use Rattle.paper_refusals.specs.Numbers.{fault_number, fault_line}
use Rattle.paper_lines.specs.declared.Frame.{Frame}
use Rattle.paper_lines.specs.Reading.{IsFrame}
use Rattle.argue_texts.specs.declared.Set as DS
use Rattle.argue_texts.specs.declared.Set.TheVariants as SV
use Rattle.argue_texts.specs.declared.Part as DP
use Rattle.argue_texts.specs.declared.Part.TheVariants as PV
use Rattle.argue_texts.specs.declared.Progress as DG
use Rattle.argue_texts.specs.ArgumentTexts.{Part, Claims, By, Names, Unknown, part_of, Progress, progress}
use Rattle.argue_texts.specs.ArgumentTexts.{fault, argument_fault}

-- the number of a set, as in `Step`: 0 the supposed gap from a on, 1 the one up to b, k + 2 dependence k
abbrev pub set_in : DS.Set → ℕ
set_in SV.From = 0
set_in SV.Upto = 1
set_in (SV.Dependence k) = suc (suc k)

abbrev pub part_in : DP.Part → Part
part_in (PV.Claims c) = Claims c.d c.a c.b
part_in (PV.By m) = By m
part_in (PV.Names s) = Names (set_in s)
part_in PV.Unknown = Unknown

-- one more than the claim that leads, 0 for none
abbrev pub led_in : Option ℕ → ℕ
led_in None = 0
led_in (Some m) = suc m

abbrev pub progress_in : DG.Progress → Progress
progress_in x = progress x.claims x.steps (led_in x.by)

-- x is what the frame tells
abbrev pub IsPart : Frame → DP.Part → Type 0
IsPart f x = (l : List ℕ) → IsFrame f l → part_in x ≡ part_of l

-- the refusal of a text, and the refusal at its end
pub record IsFaulted {A : Type 0} (s : List ℕ) (r : Result A DF.Fault) : Type 0 where
  pub fault_is : fault (fault_number r) (fault_line r) ≡ argument_fault s

pub record EndedAs {A : Type 0} (x : Progress) (line : ℕ) (r : Result A DF.Fault) : Type 0 where
  pub fault_is : fault (fault_number r) (fault_line r) ≡ pick (eqb x.by 0) (fault 0 0) (fault 4 line)
