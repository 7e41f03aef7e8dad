use mathlib.Core.Path.{◌≡◌, refl, ◌∙◌}
use Prim.Native.Nat.{◌-◌, ◌≤◌, ◌<◌}
use native.Mathlib.Omega.{arith}
use lib.ListN.{length}
use Rattle.laws.proofs.Copies.{copies, copies_at}
use Rattle.paper_nests.specs.Kinds.{POINTS, DEPENDENCES}
use Rattle.paper_nests.specs.Stored.{nest_in}
use Rattle.paper_placements.specs.Words.{gaps_in}
use Rattle.paper_gaps.proofs.Lies.{found_lies}
use Rattle.call_improve.specs.Tops.{top_at}
use Rattle.call_improve.proofs.Chains.{chain_start, chain_on, top_told, told_low}
use Rattle.run_count.proofs.Timing.{entry}
use Rattle.call_improve.proofs.current_of.Goals as goal

pub loop-i-init : goal.loop-i-init
unfolding copies
loop-i-init c =
    let t = c.args.tables.now in
    let many = t.nest.now.many in
    chain_start (nest_in t.nest.now) (gaps_in c.args.p.words) many (copies 256 many) (copies 512 many)
    t.with_ends.counted.many_is refl refl (λ h p. entry (copies 256 many) h 0 many p ∙ copies_at 256 many h)

pub highest-h-requires : goal.highest-h-requires
highest-h-requires c =
    let w = c.args.tables.now.with_ends in
    found_lies w (omega (arith, c.loop-i.invariant.within, w.counted.many_is))

pub offset_bounds-first-h : goal.offset_bounds-first-h
offset_bounds-first-h c =
    let w = c.args.tables.now.with_ends in
    let low : c.highest-h.result < POINTS =
    told_low w c.args.p.words c.requires.words_value c.requires.words_value_2
    (omega (arith, c.loop-i.invariant.within, w.counted.many_is)) c.latest_of-latest.result c.highest-h.result
    c.latest_of-latest.ensures c.highest-h.ensures in
    omega (arith, low)

pub bounds-first-h : goal.bounds-first-h
bounds-first-h c =
    let w = c.args.tables.now.with_ends in
    told_low w c.args.p.words c.requires.words_value c.requires.words_value_2
    (omega (arith, c.loop-i.invariant.within, w.counted.many_is)) c.latest_of-latest.result c.highest-h.result
    c.latest_of-latest.ensures c.highest-h.ensures

pub offset_bounds-first-h-in-loop-i : goal.offset_bounds-first-h-in-loop-i
offset_bounds-first-h-in-loop-i c =
    let w = c.args.tables.now.with_ends in
    let low : c.highest-h.result < POINTS =
    told_low w c.args.p.words c.requires.words_value c.requires.words_value_2
    (omega (arith, c.loop-i.invariant.within, w.counted.many_is)) c.latest_of-latest.result c.highest-h.result
    c.latest_of-latest.ensures c.highest-h.ensures in
    omega (arith, low)

pub bounds-first-h-in-loop-i : goal.bounds-first-h-in-loop-i
bounds-first-h-in-loop-i c =
    let w = c.args.tables.now.with_ends in
    told_low w c.args.p.words c.requires.words_value c.requires.words_value_2
    (omega (arith, c.loop-i.invariant.within, w.counted.many_is)) c.latest_of-latest.result c.highest-h.result
    c.latest_of-latest.ensures c.highest-h.ensures

pub loop-i-preserved : goal.loop-i-preserved
loop-i-preserved c =
    let nest = c.args.tables.now.nest.now in
    let n = nest_in nest in
    let w = c.args.tables.now.with_ends in
    let there : c.loop-i.i - 1 < nest.many = omega (arith, c.loop-i.invariant.within, w.counted.many_is) in
    let told : c.highest-h.result ≡ top_at n.points n.deps (gaps_in c.args.p.words) (c.loop-i.i - 1) =
    top_told w c.args.p.words c.requires.words_value c.requires.words_value_2 there c.latest_of-latest.result
    c.highest-h.result c.latest_of-latest.ensures c.highest-h.ensures in
    let low : c.highest-h.result < POINTS =
    told_low w c.args.p.words c.requires.words_value c.requires.words_value_2 there c.latest_of-latest.result
    c.highest-h.result c.latest_of-latest.ensures c.highest-h.ensures in
    let few : length n.deps ≤ DEPENDENCES = omega (arith, w.counted.many_is, w.counted.many_fits) in
    rw told (chain_on c.loop-i.invariant c.loop-i-test.true few (rw told at low))
