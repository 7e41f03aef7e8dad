use Prim.Native.Nat.{◌^◌, ◌<◌}
use native.Mathlib.Omega.{arith}
use mir.Syntax.{w64}
use mir.Val.{Fits}
use borrow.Author.Rules.{rules}
use Rattle.paper_placements.specs.Words.{gaps_in}
use Rattle.call_improve.proofs.RoundTurns.{with_ends, turns_asked, few_times, calls_fit}
use Rattle.call_improve.proofs.RoundTurns.{search_start, search_asks, try_sound, search_taken}
use Rattle.call_improve.proofs.RoundTurns.{search_kept, search_budget, search_round}
use Rattle.call_improve.proofs.improve_key.Goals as goal

pub times_of-times-requires-clause-points_value : goal.times_of-times-requires-clause-points_value
times_of-times-requires-clause-points_value c = rw c.points-points.ensures (turns_asked c.requires).0

pub times_of-times-requires-clause-turns_value : goal.times_of-times-requires-clause-turns_value
times_of-times-requires-clause-turns_value c = rw c.points-points.ensures (turns_asked c.requires).1

pub invariant_of-tables : goal.invariant_of-tables
invariant_of-tables c =
    let ends = rw c.points-points.ensures at c.ends_of-ends.ensures in
    record { with_ends = with_ends c.requires c.ends_of-ends.result ends }

pub floor_of-floor-requires : goal.floor_of-floor-requires
floor_of-floor-requires c =
    few_times c.requires c.times_of-times.result (rw c.points-points.ensures at c.times_of-times.ensures)

pub sum_at-calls-requires : goal.sum_at-calls-requires
sum_at-calls-requires c =
    let has = rw c.points-points.ensures at c.times_of-times.ensures in
    calls_fit c.requires c.times_of-times.result has (gaps_in c.args.key.words)
    (rw c.requires.counted.count_is c.requires.gaps_fit)

pub loop-g-init : goal.loop-g-init
loop-g-init c =
    let has = rw c.points-points.ensures at c.times_of-times.ensures in
    search_start c.requires c.times_of-times.result has c.args.budget c.current_of-current.result c.sum_at-calls.result
    c.free_from-g.result c.sum_at-calls.ensures c.current_of-current.ensures c.free_from-g.ensures

pub returns-then-tries-budget : goal.returns-then-tries-budget
returns-then-tries-budget c =
    let has = rw c.points-points.ensures at c.times_of-times.ensures in
    search_budget c.requires c.times_of-times.result has c.args.budget c.loop-g.invariant c.loop-g-test.true
    c.floor_of-floor.result c.outcome_of.result c.if-tries-budget.true c.floor_of-floor.ensures c.outcome_of.ensures

pub try_at-tried-requires : goal.try_at-tried-requires
try_at-tried-requires c =
    let has = rw c.points-points.ensures at c.times_of-times.ensures in
    search_asks c.requires c.times_of-times.result has c.args.budget c.loop-g.invariant c.loop-g-test.true

pub overflow_add-tries : goal.overflow_add-tries
overflow_add-tries c =
    let budget_fits : c.args.budget < 2 ^ 64 = let f : Fits w64 c.args.budget = search rules in
    f.fits in
    omega (arith, c.loop-g.invariant.used, c.if-tries-budget.false, budget_fits)

pub current_of-current-requires-then-tried-current : goal.current_of-current-requires-then-tried-current
current_of-current-requires-then-tried-current c =
    let has = rw c.points-points.ensures at c.times_of-times.ensures in
    let sound =
    try_sound c.requires c.times_of-times.result has c.args.budget c.loop-g.invariant c.loop-g-test.true
    c.try_at-tried.result c.try_at-tried.ensures in
    record { words_value = sound.0; words_value_2 = sound.1 }

pub loop-g-preserved-then-tried-current : goal.loop-g-preserved-then-tried-current
loop-g-preserved-then-tried-current c =
    let has = rw c.points-points.ensures at c.times_of-times.ensures in
    let current = c.current_of-current-then-tried-current in
    let next = c.free_from-g-then-tried-current in
    search_taken c.requires c.times_of-times.result has c.args.budget c.loop-g.invariant c.loop-g-test.true
    c.try_at-tried.result c.try_at-tried.ensures current.result next.result c.if-tries-budget.false
    (omega (arith, c.if-tried-current.true)) current.ensures next.ensures

pub loop-g-preserved : goal.loop-g-preserved
loop-g-preserved c =
    let has = rw c.points-points.ensures at c.times_of-times.ensures in
    let next = c.free_from-g-else-tried-current in
    search_kept c.requires c.times_of-times.result has c.args.budget c.loop-g.invariant c.loop-g-test.true
    c.try_at-tried.result c.try_at-tried.ensures next.result c.if-tries-budget.false
    (omega (arith, c.if-tried-current.false)) next.ensures

pub returns : goal.returns
returns c =
    let has = rw c.points-points.ensures at c.times_of-times.ensures in
    search_round c.requires c.times_of-times.result has c.args.budget c.loop-g.invariant c.floor_of-floor.result
    c.outcome_of-2.result c.loop-g-test.false c.floor_of-floor.ensures c.outcome_of-2.ensures
