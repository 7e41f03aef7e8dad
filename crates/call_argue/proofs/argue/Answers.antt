-- `argue` meets its contract: a desk with a key is ready (`ready`), its paper is not blocked, and all claims are spelled.
use mathlib.Core.Path.{refl, sym}
use Prim.Native.Nat.{◌≤◌}
use native.Mathlib.Omega.{arith}
use lib.ListN.{length}
use Rattle.argue_spell.proofs.Adding.{added_all}
use Rattle.desk.specs.Desks.{desk_in}
use Rattle.desk.proofs.Ready.{ready, ready_has}
use Rattle.call_argue.proofs.Replies.{all_spelled, argue_given}
use Rattle.call_argue.proofs.argue.Goals as goal

pub returns : goal.returns
returns c =
    let h = sym c.in_default.ensures in
    let room : c.count_argument-wanted.result ≤ length c.args.out.now = omega (arith, c.if-out-wanted.false) in
    let l = all_spelled (desk_in c.args.desk).nest_is (ready c.args.desk c.requires h).valid
    (c.requires.paper.opens (ready_has c.args.desk h).1) c.give_argument.ensures in
    argue_given c.args.desk c.args.out.now _ _ h (omega (arith, room, c.count_argument-wanted.ensures)) refl refl
    (omega (arith, l.next_is)) (added_all l (omega (arith, room, l.next_is, c.count_argument-wanted.ensures)))
