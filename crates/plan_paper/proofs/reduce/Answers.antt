use mathlib.Core.Path.{◌≡◌, sym, ap, ◌∙◌}
use mathlib.Core.Bool.{true}
use mathlib.Core.List.{List}
use Prim.Native.Nat.{ℕ, ◌-◌, ◌<◌}
use lib.ListN.{set}
use Rattle.laws.specs.Entries.{at}
use Rattle.paper_nests.specs.declared.Dependence as DE
use Rattle.paper_nests.specs.declared.Nest as DN
use Rattle.paper_nests.specs.Ring.{one_loop}
use Rattle.paper_nests.specs.Stored.{nest_in, IsCounted}
use Rattle.paper_nests.specs.Valid.{is_valid}
use Rattle.plan_paper.specs.Tables.{HasRanks}
use Rattle.plan_paper.specs.Renumbering.{ring_end}
use Rattle.plan_paper.proofs.Rings.{top_is, ring_start, ring_kept}
use Rattle.plan_paper.proofs.Reducing.{Turn, DepsFrom, dep_at, from_point, to_point, deps_start, reduce_done}
use Rattle.plan_paper.proofs.Reducing.{reduce_kept, reduce_stretch, reduce_shut}
use Rattle.plan_paper.proofs.reduce.Goals as goal

-- what a turn has
turned :
    {n : DN.Nest} {ranks : List ℕ} {ys : List DE.Dependence} {i : ℕ} → IsCounted n → is_valid (nest_in n) ≡ true →
    one_loop (nest_in n).points ≡ true → HasRanks (nest_in n).barred ranks → 0 < i → DepsFrom n ys i →
    Turn n ranks ys i
turned c v o h s d = record { counted = c; valid = v; one = o; has = h; some = s; so_far = d }

pub loop-i-init : goal.loop-i-init
loop-i-init c =
    let a = c.args in
    let r = c.requires in (
      ring_start a.nest r.counted r.nest_value r.nest_value_2 c.ring_end-end.result
          (c.ring_end-end.ensures ∙ ap ring_end (top_is a.nest r.counted r.nest_value r.nest_value_2 a.ranks.now r.has_ranks)),
      deps_start a.nest r.counted,
    )

pub loop-i-preserved-then-stays : goal.loop-i-preserved-then-stays
loop-i-preserved-then-stays c =
    let r = c.requires in
    let turn = turned r.counted r.nest_value r.nest_value_2 r.has_ranks c.loop-i-test.true c.loop-i.invariant.1 in
    let ranks = c.args.ranks.now in
    let e = dep_at c.args.nest.deps (c.loop-i.i - 1) in
    let source = set c.loop-i.ring.deps (c.loop-i.i - 1) (from_point (dep_at c.loop-i.ring.deps (c.loop-i.i - 1)) (at ranks e.s)) in (
      ring_kept c.args.nest c.loop-i.ring
          (set source (c.loop-i.i - 1) (to_point (dep_at source (c.loop-i.i - 1)) (at ranks e.t))) c.loop-i.invariant.0,
      reduce_kept turn (sym c.stays.ensures ∙ c.if-stays.true),
    )

pub returns-then-is_shut : goal.returns-then-is_shut
returns-then-is_shut c =
    let r = c.requires in
    let turn = turned r.counted r.nest_value r.nest_value_2 r.has_ranks c.loop-i-test.true c.loop-i.invariant.1 in
    reduce_shut turn (sym c.is_shut.ensures ∙ c.if-is_shut.true)

pub loop-i-preserved : goal.loop-i-preserved
loop-i-preserved c =
    let r = c.requires in
    let turn = turned r.counted r.nest_value r.nest_value_2 r.has_ranks c.loop-i-test.true c.loop-i.invariant.1 in (
      ring_kept c.args.nest c.loop-i.ring (set c.loop-i.ring.deps (c.loop-i.i - 1) c.stretch.result) c.loop-i.invariant.0,
      reduce_stretch turn (sym c.stays.ensures ∙ c.if-stays.false)
          (sym c.is_shut.ensures ∙ c.if-is_shut.false) c.stretch.result c.stretch.ensures,
    )

pub returns : goal.returns
returns c =
    reduce_done c.args.nest c.loop-i.ring c.loop-i.i c.requires.counted c.loop-i-test.false c.loop-i.invariant.0 c.loop-i.invariant.1
