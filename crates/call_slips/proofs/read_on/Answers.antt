-- `read_on` meets its contract: the text is read for the nest's points and barred gaps (`read_as`).
use mathlib.Core.Path.{◌≡◌, refl, ◌∙◌}
use Rattle.std.proofs.Common.{Result, Ok, Err}
use Rattle.paper_refusals.specs.declared.Fault as PF
use Rattle.paper_refusals.specs.Numbers.{fault_number, fault_line}
use Rattle.paper_nests.specs.Stored.{nest_in}
use Rattle.paper_placements.specs.declared.Placement.{Placement}
use Rattle.paper_texts.specs.PlacementTexts.{placed}
use Rattle.paper_texts.specs.Reads.{placed_in}
use Rattle.desk.proofs.Ready.{read_as}
use Rattle.call_slips.specs.Says.{gaps_read}
use Rattle.call_slips.proofs.read_on.Goals as goal

-- the reading by its number, its line and its gaps
as_placed
    : (r : Result Placement PF.Fault)
    → placed (fault_number r) (fault_line r) (gaps_read r) ≡ placed_in r
as_placed (Ok p) = refl
as_placed (Err f) = refl

pub returns : goal.returns
returns c =
    let m = c.requires.made in
    let p = placed_in c.read_placement.result in
    record {
      read_is =
          as_placed c.read_placement.result
          ∙ read_as (nest_in c.args.desk.nest) _ p.number p.place _ c.args.text.now p.gaps
          (m.paper.valid c.requires.loaded_value) m.counted.count_is c.barred_of.ensures c.read_placement.ensures.placed_is;
    }
