-- The claim's three numbers are bytes.
use mathlib.Core.Path.{◌≡◌, ap}
use Prim.Native.Nat.{◌+◌}
use native.Mathlib.Omega.{arith}
use Rattle.paper_lines.specs.Lines.{line_text}
use Rattle.argue_spell.proofs.Adding.{added_as, claim-frame}
use Rattle.argue_spell.proofs.put_claim.Goals as goal

pub returns : goal.returns
returns c =
    let a = c.args in
    let z : c.put_line.result ≡ a.at + 9 = c.put_line.ensures.next_is in
    let e = claim-frame a.d a.a a.b c.requires.d_bound.0 c.requires.d_bound.1.0 c.requires.d_bound.1.1 in record { added = added_as (ap line_text e) c.put_line.ensures; upper_bound = omega arith }
