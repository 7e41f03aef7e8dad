use mathlib.Core.Path.{◌≡◌, sym, ◌∙◌}
use native.Mathlib.Omega.{arith}
use lib.ListN.{length}
use Rattle.argue_trace.proofs.Finding.{search_start, search_found, search_on, search_done}
use Rattle.argue_trace.proofs.find_claim.Goals as goal

pub loop-i-init : goal.loop-i-init
loop-i-init c = search_start

pub returns-then-is_from-clause-value : goal.returns-then-is_from-clause-value
returns-then-is_from-clause-value c =
    search_found c.loop-i.invariant _ c.loop-i-test.true (sym c.if-is_from.true ∙ c.is_from.ensures)

pub loop-i-preserved : goal.loop-i-preserved
loop-i-preserved c =
    search_on c.loop-i.invariant _ c.loop-i-test.true (sym c.if-is_from.false ∙ c.is_from.ensures)

pub returns-clause-value : goal.returns-clause-value
returns-clause-value c =
    let z : c.loop-i.i ≡ length c.args.claims.now = omega arith in
    search_done (rw z at c.loop-i.invariant)
