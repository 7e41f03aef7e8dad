-- `write_first` meets its contract: the number in two bytes (`first_Halves`).
use mathlib.Core.Path.{◌∙◌, ap}
use mathlib.Core.List.{List}
use Prim.Native.Nat.{ℕ}
use lib.ListN.{length}
use Rattle.paper_lines.specs.Writing.{over}
use Rattle.paper_placements.specs.Answers.{place_of}
use Rattle.call_slips.proofs.Bytes.{first_Halves}
use Rattle.call_slips.proofs.write_first.Goals as goal

pub returns : goal.returns
returns c =
    let a = c.args in
    let t = first_Halves (place_of a.first) c.shown-number.result c.requires.first_bound c.shown-number.ensures in
    record {
      length_is = c.put_frame.ensures.value ∙ ap length t;
      out_is = c.put_frame.ensures.out_after ∙ ap (λ (x : List ℕ). over x a.out.now) t;
    }
