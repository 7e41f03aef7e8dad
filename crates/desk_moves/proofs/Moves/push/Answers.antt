-- `Moves::push` meets its contract: the move is written at the place after the head, where none of the latest 63 stands
-- (`push_more`, `push_full`).
use mathlib.Core.Path.{◌≡◌}
use mathlib.Core.Logic.{⊎_elim}
use Prim.Native.Nat.{suc, ◌+◌, ◌≤◌, ◌<◌}
use native.Mathlib.Omega.{arith}
use lib.ListN.{length}
use borrow.Author.Rules.{rules}
use Rattle.laws.proofs.Tests.{le_or}
use Rattle.desk_moves.specs.Ring.{KEPT}
use Rattle.desk_moves.proofs.Ring.{push_more, push_full}
use Rattle.desk_moves.proofs.Moves.push.Goals as goal

pub returns : goal.returns
returns c =
    let s = c.args.self in
    let p = c.place_after in
    let long : length s.ring ≡ KEPT = search rules in
    record {
      moves_are =
          ⊎_elim
          (λ (l : suc s.many ≤ KEPT).
          let e : c.min.result ≡ s.many + 1 = omega arith in
          rw e (push_more s.ring c.args.m s.many s.head p.result long p.ensures.1 p.ensures.0 c.requires.head_fits l))
          (λ (l : KEPT < suc s.many).
          let e : c.min.result ≡ s.many = omega arith in
          rw e (push_full s.ring c.args.m s.many s.head p.result long p.ensures.1 p.ensures.0 c.requires.head_fits (omega arith)))
          (le_or (suc s.many) KEPT);
      ring = record { head_fits = p.ensures.1; many_fits = omega arith };
    }
