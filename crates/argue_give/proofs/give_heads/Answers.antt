-- The low claim or none, then the others, which the outermost loop does not have (Heads).
use mathlib.Core.Path.{◌∙◌}
use Rattle.argue_give.proofs.Giving.{gives_none, gives_then, gives_as, gives_under}
use Rattle.argue_give.proofs.Heads.{low_few, low_put, low_none, outermost}
use Rattle.argue_give.proofs.give_heads.Goals.{then-row-gt0, else-row-gt0}
use Rattle.argue_give.proofs.give_heads.Goals as goal

pub returns-then-row-eq0-clause-gives : goal.returns-then-row-eq0-clause-gives
returns-then-row-eq0-clause-gives c =
    let d = c.args.row.d in
    let e = c.args.row.e in
    elim c.if-row-gt0.branch [
      | then-row-gt0 w ↦
          rw (w.claims-is, w.out-is, w.s-is)
          (gives_as (λ T x. low_put T x w.if-row-gt0.true ∙ outermost T d e c.if-row-eq0.true)
          (gives_under (λ T x. (x.ground, low_few T x)) w.give_claim-s.ensures.gives))
      | else-row-gt0 w ↦
          rw (w.claims-is, w.out-is, w.s-is)
          (gives_as (λ T x. low_none T x w.if-row-gt0.false ∙ outermost T d e c.if-row-eq0.true) gives_none)
    ]

pub returns-clause-gives : goal.returns-clause-gives
returns-clause-gives c =
    let side = c.give_sides.ensures.gives in
    elim c.if-row-gt0.branch [
      | then-row-gt0 w ↦
          let s = w.give_claim-s.ensures in
          let n = s.need_unchanged.0 in
          let g = rw (w.need-is, w.sets-is, w.claims-is, w.out-is, w.s-is) at side in
          gives_then
          (gives_as (λ T x. low_put T x w.if-row-gt0.true) (gives_under (λ T x. (x.ground, low_few T x)) s.gives))
          (gives_under (λ T x. rw (n.0, n.1) x) g)
      | else-row-gt0 w ↦
          let g = rw (w.need-is, w.sets-is, w.claims-is, w.out-is, w.s-is) at side in
          gives_then (gives_as (λ T x. low_none T x w.if-row-gt0.false) gives_none) g
    ]
