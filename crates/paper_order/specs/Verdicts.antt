-- Verdicts: what the desk says of a placement beside the key.
-- Main definitions: `Verdict`, `verdict_code`, `mark_of`.
use Rattle.std.specs.Prelude.{List, ℕ, zero, suc}
use Rattle.paper_nests.specs.Nests.{Nest}
use Rattle.paper_placements.specs.Placements.{uncut, differ, loop_count}

-- 01, "The desk": Uncut with the number of a dependence; Dearer with loop, their count, our count; Best
pub data Verdict : Type 0 where
  Uncut : ℕ → Verdict
  Dearer : ℕ → ℕ → ℕ → Verdict
  Best : Verdict

-- the verdict's byte on a slip: 00 Uncut, 01 Dearer, 02 Best
abbrev pub verdict_code : Verdict → ℕ
verdict_code (Uncut i) = 0
verdict_code (Dearer loop theirs ours) = 1
verdict_code Best = 2

-- the verdict, from the answers of `uncut` and `differ`: in each 0 is none, and else 1 is added
abbrev pub verdict_by : Nest → List ℕ → List ℕ → ℕ → ℕ → Verdict
verdict_by n key gs (suc i) d = Uncut i
verdict_by n key gs zero (suc d) = Dearer d (loop_count n gs d) (loop_count n key d)
verdict_by n key gs zero zero = Best

-- 01, "The desk": Uncut with the lowest number of an uncut dependence; else Dearer at the loop with the first ENDDO at
-- which the counts differ; else Best
abbrev pub mark_of : Nest → List ℕ → List ℕ → Verdict
mark_of n key gs = verdict_by n key gs (uncut n gs) (differ n key gs)
