-- `write_verdict` meets its contract: each verdict has its code and its numbers.
use mathlib.Core.Path.{◌≡◌, sym, ap, subst}
use mathlib.Core.List.{List}
use Prim.Native.Nat.{ℕ}
use native.Mathlib.Omega.{arith}
use Rattle.desk.specs.declared.Verdict as DV
use Rattle.desk.specs.Says.{verdict_in}
use Rattle.call_slips.specs.Texts.{verdict_text}
use Rattle.call_slips.specs.Writers.{Wrote}
use Rattle.call_slips.proofs.Lengths.{verdict_length}
use Rattle.call_slips.proofs.write_verdict.Goals as goal

-- equal verdicts have equal lines
equal
    : (v w : DV.Verdict) (o out : List ℕ) (r : ℕ)
    → v ≡ w
    → Wrote (verdict_text (verdict_in w)) o out r
    → Wrote (verdict_text (verdict_in v)) o out r
equal v w o out r e = subst (λ (x : DV.Verdict). Wrote (verdict_text (verdict_in x)) o out r) (sym e)

pub put_verdict-requires : goal.put_verdict-requires
put_verdict-requires c =
    record { d_bound = (omega arith, (omega arith, omega arith)); ours_in_bounds = omega (arith, c.requires.verdict_in_bounds, verdict_length (verdict_in c.args.verdict)) }

pub put_verdict-requires-in-Dearer : goal.put_verdict-requires-in-Dearer
put_verdict-requires-in-Dearer c =
    record { d_bound = c.requires.in_bytes _ _ _ (ap verdict_in c.in-Dearer.is); ours_in_bounds = omega (arith, c.requires.verdict_in_bounds, verdict_length (verdict_in c.args.verdict)) }

pub put_verdict-requires-in-Best : goal.put_verdict-requires-in-Best
put_verdict-requires-in-Best c =
    record { d_bound = (omega arith, (omega arith, omega arith)); ours_in_bounds = omega (arith, c.requires.verdict_in_bounds, verdict_length (verdict_in c.args.verdict)) }

pub returns-in-Uncut : goal.returns-in-Uncut
returns-in-Uncut c = equal _ _ _ _ _ c.in-Uncut.is c.put_verdict.ensures

pub returns-in-Dearer : goal.returns-in-Dearer
returns-in-Dearer c = equal _ _ _ _ _ c.in-Dearer.is c.put_verdict-in-Dearer.ensures

pub returns-in-Best : goal.returns-in-Best
returns-in-Best c = equal _ _ _ _ _ c.in-Best.is c.put_verdict-in-Best.ensures
