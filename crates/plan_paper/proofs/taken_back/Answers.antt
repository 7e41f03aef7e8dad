use mathlib.Core.Path.{◌≡◌, sym, ◌∙◌}
use Prim.Native.Nat.{◌-◌}
use native.Mathlib.Omega.{arith}
use Rattle.laws.specs.Entries.{at}
use Rattle.paper_nests.specs.Stored.{nest_in}
use Rattle.paper_barred.specs.Ranks.{rank}
use Rattle.plan_paper.proofs.TakingBack.{take_start, taken, passed, take_done}
use Rattle.plan_paper.proofs.taken_back.Goals.{then-ranks-g, else-ranks-g}
use Rattle.plan_paper.proofs.taken_back.Goals as goal

pub loop-g-init : goal.loop-g-init
loop-g-init c =
    let a = c.args in
    take_start (nest_in a.nest).barred a.key.words (a.nest.count - 1) c.lowest_from-rank.result
    c.empty-back.result.words c.lowest_from-rank.ensures c.empty-back.ensures

pub loop-g-preserved : goal.loop-g-preserved
loop-g-preserved c =
    let n = c.args.nest in
    let bs = (nest_in n).barred in
    let l = c.loop-g in
    let ranked : at c.args.ranks.now l.g ≡ rank bs l.g = c.requires.has_ranks l.g (omega (arith, c.requires.counted.count_fits)) in
    elim c.if-ranks-g.branch [
      | then-ranks-g w ↦
          rw (w.back-is, w.rank-is) (taken bs c.args.key.words (n.count - 1) l.g l.rank l.back.words
          (omega arith) (omega arith) l.invariant (sym ranked ∙ w.if-ranks-g.true)
          w.lowest_from-rank-then-ranks-g.result w.put-back.result.words w.lowest_from-rank-then-ranks-g.ensures w.put-back.ensures)
      | else-ranks-g w ↦
          rw (w.back-is, w.rank-is) (passed bs c.args.key.words (n.count - 1) l.g l.rank l.back.words
          (omega arith) (omega arith) l.invariant (λ z. w.if-ranks-g.false (ranked ∙ z)))
    ]

pub returns : goal.returns
returns c =
    let n = c.args.nest in
    take_done (nest_in n).barred c.args.key.words (n.count - 1) c.loop-g.g c.loop-g.rank c.loop-g.back.words
    (omega (arith, c.requires.counted.count_fits)) (omega (arith, c.loop-g-test.false, c.loop-g.invariant.first)) c.loop-g.invariant
