-- No line for 0; else the number less one in two bytes.
use mathlib.Core.Path.{◌≡◌, sym}
use Prim.Native.Nat.{◌+◌}
use native.Mathlib.Omega.{arith}
use Rattle.argue_spell.proofs.Adding.{added_none, added_as, by_frame}
use Rattle.argue_spell.proofs.put_by.Goals as goal

pub returns-then-via-eq0 : goal.returns-then-via-eq0
returns-then-via-eq0 c =
    let a = c.args in record { added = rw c.if-via-eq0.true (added_none a.at a.out.now); upper_bound = omega arith }

pub returns : goal.returns
returns c =
    let a = c.args in
    let z : c.put_line.result ≡ a.at + 7 = c.put_line.ensures.next_is in record { added = added_as (sym (by_frame a.via c.if-via-eq0.false c.requires.via_bound)) c.put_line.ensures; upper_bound = omega arith }
