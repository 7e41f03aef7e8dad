use mathlib.Core.Path.{sym, ◌∙◌}
use mathlib.Core.Bool.{Bool}
use mathlib.Core.List.{List}
use Prim.Native.Nat.{ℕ, ◌+◌, ◌<◌}
use native.Mathlib.Omega.{arith}
use Rattle.laws.specs.Choice.{between}
use Rattle.laws.proofs.Ranges.{in_between}
use Rattle.paper_placements.specs.Words.{GAPS, LowestIn}
use Rattle.call_missing.proofs.Passing.{Next, Passing, next_in, next_less, pass_start, pass_put, pass_by, pass_done}
use Rattle.call_missing.proofs.Passing.{below_range}
use Rattle.call_missing.proofs.list_range.Goals as goal

-- the next of the range behind d
next_of
    : (lo hi : ℕ) {ws old new : List ℕ} {z : ℕ → Bool} {d d' : ℕ}
    → Passing ws (λ (i : ℕ). between lo i hi) z old d new
    → d < GAPS
    → LowestIn ws (λ (i : ℕ). between (d + 1) i hi) d'
    → Next ws (λ (i : ℕ). between lo i hi) (d + 1) d'
next_of lo hi {d = d} p l lowest =
    let within = in_between lo d hi (p.its l) in
    next_in lo (d + 1) hi (omega (arith, within.0)) lowest

pub loop-d-init : goal.loop-d-init
loop-d-init c =
    let a = c.args in
    pass_start (below_range a.lo a.hi) (next_in a.lo a.lo a.hi (omega arith) c.lowest_in-d.ensures)

pub loop-d-smaller-then-foreign : goal.loop-d-smaller-then-foreign
loop-d-smaller-then-foreign c =
    let next = next_of c.args.lo c.args.hi c.loop-d.invariant c.loop-d-test.true c.lowest_in-d-in-loop-d.ensures in
    next_less c.loop-d-test.true next

pub loop-d-preserved-then-foreign : goal.loop-d-preserved-then-foreign
loop-d-preserved-then-foreign c =
    let next = next_of c.args.lo c.args.hi c.loop-d.invariant c.loop-d-test.true c.lowest_in-d-in-loop-d.ensures in
    pass_put c.loop-d-test.true c.loop-d.invariant next c.put-all.ensures
    (sym c.is_apart-foreign.ensures ∙ c.if-foreign.true)

pub loop-d-smaller : goal.loop-d-smaller
loop-d-smaller c =
    let next = next_of c.args.lo c.args.hi c.loop-d.invariant c.loop-d-test.true c.lowest_in-d-in-loop-d.ensures in
    next_less c.loop-d-test.true next

pub loop-d-preserved : goal.loop-d-preserved
loop-d-preserved c =
    let next = next_of c.args.lo c.args.hi c.loop-d.invariant c.loop-d-test.true c.lowest_in-d-in-loop-d.ensures in
    pass_by c.loop-d-test.true c.loop-d.invariant next (sym c.is_apart-foreign.ensures ∙ c.if-foreign.false)

pub returns : goal.returns
returns c = pass_done c.loop-d-test.false c.loop-d.invariant
