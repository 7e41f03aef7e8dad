use mathlib.Core.Path.{◌≡◌, ap, sym}
use mathlib.Core.List.{List}
use Prim.Native.Nat.{ℕ, ◌<◌}
use native.Mathlib.Omega.{arith}
use lib.ListN.{length, get_or, take, length-take}
use lib.Seq.{get_or-take, length-take-le}
use Rattle.laws.proofs.Copies.{copies}
use Rattle.paper_nests.specs.declared.Dependence as DE
use Rattle.paper_nests.specs.declared.Nest as DN
use Rattle.paper_nests.specs.Stored.{dep_in}
use Rattle.paper_nests.proofs.Stored.{counted_many}
use Rattle.paper_placements.specs.Words.{gaps_in}
use Rattle.call_textbook.specs.Places.{last_place}
use Rattle.call_textbook.proofs.Tables.{free_within, no_dependence}
use Rattle.call_textbook.proofs.Tables.{collect_start, next_placed, collect_on, collect_done}
use Rattle.call_textbook.proofs.latest_starts.Goals as goal

pub last_free-free-requires : goal.last_free-free-requires
last_free-free-requires c = c.requires.m_bound

pub loop-e-init : goal.loop-e-init
unfolding copies
loop-e-init c =
    let n = c.args.nest in
    collect_start c.last_free-free.result c.args.m n.many n.deps c.requires.all_placed

pub slice_bounds-enter-end : goal.slice_bounds-enter-end
slice_bounds-enter-end c = sym c.loop-e.invariant.long

-- a dependence of those lent is that of the nest
module _ (n : DN.Nest) {es : List DE.Dependence} (lent : es ≡ take n.many n.deps) {i : ℕ} (h : i < length es) where
  there : i < n.many
  there = omega (arith, ap length lent, length-take n.many n.deps)

  lent_is : get_or es i no_dependence ≡ get_or n.deps i no_dependence
  lent_is = rw lent (get_or-take n.many n.deps i no_dependence there)

pub enter-requires : goal.enter-requires
enter-requires c =
    let n = c.args.nest in
    let es = c.dependences-e-items.ensures.entries in
    let here = there n es c.loop-e-test.true in
    let same = lent_is n es c.loop-e-test.true in
    let placed = next_placed c.loop-e.invariant (counted_many n c.requires.counted) here in
    let end = last_place c.args.m (dep_in (get_or n.deps c.loop-e.e-index no_dependence)) in
    let bs = gaps_in c.args.barred.words in
    let within = free_within bs c.args.m c.last_free-free.result c.last_free-free.ensures end placed.last in
    rw same record { m_bound = c.requires.m_bound; placed = placed; e_bound = within; latest_len = c.loop-e.invariant.long }

pub loop-e-preserved : goal.loop-e-preserved
loop-e-preserved c =
    let n = c.args.nest in
    let es = c.dependences-e-items.ensures.entries in
    collect_on c.loop-e.invariant (counted_many n c.requires.counted) (there n es c.loop-e-test.true)
    c.enter.new.latest c.enter.auto.latest (rw (lent_is n es c.loop-e-test.true) at c.enter.ensures)

pub returns : goal.returns
returns c =
    let n = c.args.nest in
    let lent = ap length c.dependences-e-items.ensures.entries in
    collect_done c.loop-e.invariant (gaps_in c.args.barred.words)
    (omega (arith, lent, length-take-le n.many n.deps (counted_many n c.requires.counted), c.requires.counted.many_is))
    c.last_free-free.ensures c.requires.all_placed
