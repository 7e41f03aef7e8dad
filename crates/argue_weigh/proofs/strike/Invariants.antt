-- `strike` meets its contract: from the ENDDO down, the gaps behind are done (`Striking`).
use Prim.Native.Nat.{◌-◌}
use Rattle.argue_weigh.specs.Striking.{excludes_at}
use Rattle.argue_weigh.proofs.Strikes.{Striking}
use Rattle.argue_weigh.proofs.strike.Given as goal

abbrev pub invariant-loop-g : goal.invariant-loop-g
invariant-loop-g l =
    let o = l.claim in
    Striking (excludes_at o.a o.b l.exact l.most l.owners l.times o.d) o.d o.e l.initial.struck (l.g - 1) l.struck
