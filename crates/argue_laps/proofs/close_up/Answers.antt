-- A front up to `upto`, or none to close by, keeps all; else the step is put (OneLap).
use Rattle.argue_laps.proofs.OneLap.{close_none, close_in, close_put}
use Rattle.argue_laps.proofs.close_up.Goals.{then-upto-eq0-via-then-upto-eq0, then-upto-eq0-via-else-upto-eq0+then-s-upto}
use Rattle.argue_laps.proofs.close_up.Goals as goal

pub returns-then-upto-eq0 : goal.returns-then-upto-eq0
returns-then-upto-eq0 c =
    let a = c.args in
    elim c.then-upto-eq0.branch [
      | then-upto-eq0-via-then-upto-eq0 w ↦ close_none a.d a.upto a.s.c a.s.f a.s.at a.out.now w.if-upto-eq0.true
      | then-upto-eq0-via-else-upto-eq0+then-s-upto w ↦ close_in a.d a.upto a.s.c a.s.f a.s.at a.out.now w.if-s-upto.true
    ]

pub returns : goal.returns
returns c =
    let a = c.args in
    close_put a.d a.upto a.s.c a.s.f a.s.at a.out.now c.put_step-next.new.out c.put_step-next.result c.if-upto-eq0.false c.if-s-upto.false
    c.put_step-next.ensures.added c.put_step-next.ensures.upper_bound
