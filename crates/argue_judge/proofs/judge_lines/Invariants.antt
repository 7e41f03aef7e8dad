-- `judge_lines` meets its contract: the tables stand for what the definition has before each line (`Judges`), and each
-- way through a turn has its law.
use Prim.Native.Nat.{◌-◌}
use lib.ListN.{length}
use Rattle.paper_nests.specs.Stored.{nest_in}
use Rattle.argue_texts.specs.Parts.{led_in}
use Rattle.argue_judge.proofs.Turns.{JudgesAll}
use Rattle.argue_judge.proofs.judge_lines.Given as goal

abbrev pub invariant-loop-times : goal.invariant-loop-times
invariant-loop-times l =
    JudgesAll (nest_in l.fn.nest) l.text l.last l.ends l.owners l.counts l.head l.opened l.c (led_in l.by) l.known
    l.low.words l.gone.words l.claims l.struck l.times l.at l.line

abbrev pub decreases-loop-times : goal.decreases-loop-times
decreases-loop-times l = length l.text - l.at
