use mathlib.Core.Path.{sym, ◌∙◌, subst}
use Prim.Native.Nat.{◌+◌}
use native.Mathlib.Omega.{arith}
use Rattle.paper_refusals.specs.Numbers.{number_of}
use Rattle.paper_refusals.proofs.Numbers.{never_zero}
use Rattle.argue_texts.specs.ArgumentTexts.{Progress}
use Rattle.argue_texts.specs.Parts.{progress_in}
use Rattle.argue_texts.proofs.Walking.{Walk, walk_begun, walk_end, walk_bad, walk_fault, walk_on, next_inside}
use Rattle.argue_texts.proofs.argument_fault.Goals as goal

pub loop-f-init : goal.loop-f-init
loop-f-init c = walk_begun c.args.text.now

pub returns-in-Ok-None : goal.returns-in-Ok-None
returns-in-Ok-None c =
    let l = c.loop-f in
    let end = walk_end c.args.text.now (progress_in l.sofar) l.at l.line l.invariant
    (sym (rw c.in-Ok-None.field-0-is at c.in-Ok-None.ensures)) in
    record { fault_is = c.ended.ensures.fault_is ∙ end }

pub returns-in-Err : goal.returns-in-Err
returns-in-Err c =
    let l = c.loop-f in
    record {
      fault_is =
          walk_bad c.args.text.now (progress_in l.sofar) l.at l.line l.invariant c.in-Err.refusal
          (sym c.in-Err.ensures);
    }

pub returns-in-Err-part_fault : goal.returns-in-Err-part_fault
returns-in-Err-part_fault c =
    let l = c.loop-f in
    let f = c.in-Ok-Some.f in
    let k = c.in-Err-part_fault.refusal in
    record {
      fault_is =
          walk_fault c.args.text.now (progress_in l.sofar) l.at l.line l.invariant f
          (sym (rw c.in-Ok-Some.field-0-is at c.in-Ok-Some.ensures)) c.part_of-part.result c.part_of-part.ensures
          (number_of k) (sym c.in-Err-part_fault.ensures) (never_zero k);
    }

pub loop-f-smaller : goal.loop-f-smaller
loop-f-smaller c =
    let l = c.loop-f in
    let n = next_inside c.args.text.now (progress_in l.sofar) l.at l.line l.invariant c.in-Ok-Some.f
    (sym (rw c.in-Ok-Some.field-0-is at c.in-Ok-Some.ensures)) c.part_of-part.result c.part_of-part.ensures in
    omega (arith, n.0, n.1)

pub loop-f-preserved : goal.loop-f-preserved
loop-f-preserved c =
    let l = c.loop-f in
    let f = c.in-Ok-Some.f in
    let on = walk_on c.args.text.now (progress_in l.sofar) l.at l.line l.invariant f
    (sym (rw c.in-Ok-Some.field-0-is at c.in-Ok-Some.ensures)) c.part_of-part.result c.part_of-part.ensures
    (sym c.in_default.ensures) in
    subst (λ (x : Progress). Walk c.args.text.now x f.next (l.line + 1)) (sym c.after-sofar.ensures) on
