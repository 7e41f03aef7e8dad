use Rattle.argue_sets.proofs.Numbering.{back_start, back_on, back_done}
use Rattle.argue_sets.proofs.last_back.Goals as goal

pub loop-i-init : goal.loop-i-init
loop-i-init c = back_start c.requires

pub loop-i-preserved : goal.loop-i-preserved
loop-i-preserved c = back_on c.requires c.loop-i.invariant c.loop-i-test.true c.later-last.ensures

pub returns : goal.returns
returns c = back_done c.requires c.loop-i.invariant c.loop-i-test.false
