-- `put_verdict` meets its contract: its numbers are bytes.
use mathlib.Core.Path.{◌∙◌, ap}
use mathlib.Core.List.{List}
use Prim.Native.Nat.{ℕ}
use Rattle.paper_lines.specs.Writing.{over}
use Rattle.call_slips.proofs.Bytes.{verdict-line}
use Rattle.call_slips.proofs.put_verdict.Goals as goal

pub returns : goal.returns
returns c =
    let a = c.args in
    let t = verdict-line a.code a.d a.theirs a.ours c.requires.d_bound.0 c.requires.d_bound.1.0 c.requires.d_bound.1.1 in
    record { length_is = c.put_frame.ensures.value; out_is = c.put_frame.ensures.out_after ∙ ap (λ (x : List ℕ). over x a.out.now) t }
