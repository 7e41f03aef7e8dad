-- Mark's answer in numbers alone.
-- Main definitions: `verdict_out`, `mark_out`.
use Rattle.std.specs.Prelude.{ℕ}
use Rattle.paper_order.specs.Verdicts.{Verdict, Uncut, Dearer, Best, verdict_code}
use Rattle.desk.specs.Says.{Mark, refused, given}
use Rattle.host.specs.declared.Mark as HM

-- a verdict's code with three numbers, and no refusal
abbrev pub coded : ℕ → ℕ → ℕ → ℕ → HM.Mark
coded v a b c = record { number = 0; line = 0; verdict = v; a = a; b = b; c = c }

-- Uncut with its dependence; Dearer with loop, their count, our count; Best
abbrev pub verdict_out : Verdict → HM.Mark
verdict_out (Uncut i) = coded (verdict_code (Uncut i)) i 0 0
verdict_out (Dearer loop theirs ours) = coded (verdict_code (Dearer loop theirs ours)) loop theirs ours
verdict_out Best = coded (verdict_code Best) 0 0 0

-- a refusal has its number and its line
abbrev pub mark_out : Mark → HM.Mark
mark_out (refused f) = record { number = f.number; line = f.place; verdict = 0; a = 0; b = 0; c = 0 }
mark_out (given v) = verdict_out v
