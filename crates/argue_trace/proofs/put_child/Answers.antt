-- The cases of the steps at a child (Events).
use mathlib.Core.Path.{◌≡◌}
use Prim.Native.Nat.{suc, ◌+◌}
use native.Mathlib.Omega.{arith}
use Rattle.laws.specs.Entries.{at}
use Rattle.plan_sweeps.specs.Listed.{row}
use Rattle.argue_trace.specs.Traced.{lead_at}
use Rattle.argue_trace.proofs.Events.{event_none, event_led, event_passed, event_lacks, event_behind, adds_none, adds_one}
use Rattle.argue_trace.proofs.put_child.Goals.{then-b-p+else-g-gt0, else-b-p}
use Rattle.argue_trace.proofs.put_child.Goals as goal

pub returns-then-b-eq0 : goal.returns-then-b-eq0
returns-then-b-eq0 c =
    let left = row c.args.inside.now.left.now c.args.inside.now.kids in
    let set = at c.args.sets.now in
    let lead = lead_at c.args.inside.now.left.now c.args.inside.now.kids c.args.claims.now c.args.l in record { added = adds_none (event_none left set lead c.args.l c.args.p c.args.b c.if-b-eq0.true); upper_bound = omega arith }

pub returns-then-l-g : goal.returns-then-l-g
returns-then-l-g c =
    let left = row c.args.inside.now.left.now c.args.inside.now.kids in
    let set = at c.args.sets.now in
    let lead = lead_at c.args.inside.now.left.now c.args.inside.now.kids c.args.claims.now c.args.l in
    let e = event_led left set lead c.args.l c.args.p c.args.b c.if-b-eq0.false c.if-b-p.true (omega (arith, c.if-l-g.true)) in
    let z : c.find_claim-m.result + 1 ≡ suc (lead c.args.b) = omega (arith, c.find_claim-m.ensures.value) in record { added = adds_one e (rw z at c.put_step.ensures.added); upper_bound = c.put_step.ensures.upper_bound }

pub returns-then-g-gt0 : goal.returns-then-g-gt0
returns-then-g-gt0 c =
    let left = row c.args.inside.now.left.now c.args.inside.now.kids in
    let set = at c.args.sets.now in
    let lead = lead_at c.args.inside.now.left.now c.args.inside.now.kids c.args.claims.now c.args.l in record {
      added = adds_none (event_passed left set lead c.args.l c.args.p c.args.b c.if-b-eq0.false c.if-b-p.true
          c.if-g-gt0.true (omega (arith, c.if-l-g.false)));
      upper_bound = omega arith;
    }

pub returns : goal.returns
returns c =
    let i = c.args in
    let left = row i.inside.now.left.now i.inside.now.kids in
    let lead = lead_at i.inside.now.left.now i.inside.now.kids i.claims.now i.l in
    let s = c.put_step-2.ensures in
    elim c.if-b-p.branch [
      | then-b-p+else-g-gt0 w ↦ record {
        added = adds_one (event_lacks left (at i.sets.now) lead i.l i.p i.b c.if-b-eq0.false w.if-b-p.true w.if-g-gt0.false) s.added;
        upper_bound = s.upper_bound;
      }
      | else-b-p w ↦ record {
        added = adds_one (event_behind left (at i.sets.now) lead i.l i.p i.b c.if-b-eq0.false w.if-b-p.false) s.added;
        upper_bound = s.upper_bound;
      }
    ]
