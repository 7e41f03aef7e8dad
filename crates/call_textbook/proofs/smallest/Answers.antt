-- `smallest` meets its contract: the table of latest starts is right, the first barrier that is kept is the rule's, and
-- what is laid from it is the rule's placement. Without a dependence, or with every gap barred, nothing is laid.
use mathlib.Core.Path.{◌≡◌}
use mathlib.Core.Bool.{true}
use mathlib.Core.List.{List}
use Prim.Native.Nat.{ℕ, ◌-◌, ◌<◌}
use native.Mathlib.Omega.{arith}
use lib.ListN.{length}
use Rattle.laws.specs.Members.{Among}
use Rattle.paper_nests.specs.declared.Nest as DN
use Rattle.paper_nests.specs.Nests.{Dep}
use Rattle.paper_nests.specs.Ring.{one_loop}
use Rattle.paper_nests.specs.Stored.{nest_in, IsCounted}
use Rattle.paper_nests.specs.Valid.{is_valid}
use Rattle.paper_nests.proofs.Deps.{valid_is, deps_fit}
use Rattle.paper_placements.specs.Words.{GAPS}
use Rattle.call_textbook.proofs.Laid.{all_placed, barrier_fits, laid_textbook, none_tried, none_to_cut}
use Rattle.call_textbook.proofs.Places.{Span, span}
use Rattle.call_textbook.proofs.smallest.Goals as goal

-- the ring of the nest, and where its dependences lie
module _
    (nest : DN.Nest) (counted : IsCounted nest) (valid : is_valid (nest_in nest) ≡ true)
    (ring : one_loop (nest_in nest).points ≡ true)
  where
    abbrev points : List ℕ
    points = (nest_in nest).points

    abbrev deps : List Dep
    deps = (nest_in nest).deps

    gaps_are : nest.count - 1 ≡ length points - 1
    gaps_are = omega (arith, counted.count_is)

    gaps_fit : nest.count - 1 < GAPS
    gaps_fit = omega (arith, counted.count_fits)

    spans : (e : Dep) → Among e deps → Span (nest.count - 1) points e
    spans e a =
        let v = valid_is (nest_in nest) valid in
        span points e v.shape ring (nest.count - 1) gaps_are (deps_fit points deps v.all-deps e a)

pub returns-then-nest-eq0 : goal.returns-then-nest-eq0
returns-then-nest-eq0 c =
    none_to_cut (nest_in c.args.nest).points c.args.barred.words (nest_in c.args.nest).deps
    (omega (arith, c.requires.counted.many_is)) c.empty.result.words c.empty.ensures

pub latest_starts-latest-requires-clause-all_placed : goal.latest_starts-latest-requires-clause-all_placed
latest_starts-latest-requires-clause-all_placed c =
    let n = c.args.nest in
    let q = c.requires in
    all_placed (nest_in n).points (nest_in n).deps (n.count - 1) (spans n q.counted q.nest_value q.nest_value_2)

pub returns-in-None : goal.returns-in-None
returns-in-None c =
    let n = c.args.nest in
    let q = c.requires in
    none_tried (nest_in n).points c.args.barred.words (nest_in n).deps (n.count - 1)
    (gaps_are n q.counted q.nest_value q.nest_value_2) (gaps_fit n q.counted q.nest_value q.nest_value_2)
    (spans n q.counted q.nest_value q.nest_value_2)
    c.latest_starts-latest.result c.latest_starts-latest.ensures 0 c.in-None.ensures.first
    (omega (arith, q.counted.many_is)) (omega arith) c.empty-in-None.result.words c.empty-in-None.ensures

pub lay-requires : goal.lay-requires
lay-requires c =
    let n = c.args.nest in
    let q = c.requires in
    let fits =
    barrier_fits (nest_in n).points c.args.barred.words (nest_in n).deps (n.count - 1)
    (gaps_are n q.counted q.nest_value q.nest_value_2) (gaps_fit n q.counted q.nest_value q.nest_value_2)
    (spans n q.counted q.nest_value q.nest_value_2)
    c.latest_starts-latest.result c.latest_starts-latest.ensures c.in-Some.g c.in-Some.ensures.first
    (omega (arith, q.counted.many_is)) c.in-Some.ensures.found in
    (c.in-Some.ensures.found, fits)

pub returns-in-Some : goal.returns-in-Some
returns-in-Some c =
    let n = c.args.nest in
    let q = c.requires in
    laid_textbook (nest_in n).points c.args.barred.words (nest_in n).deps (n.count - 1)
    (gaps_are n q.counted q.nest_value q.nest_value_2) (gaps_fit n q.counted q.nest_value q.nest_value_2)
    (spans n q.counted q.nest_value q.nest_value_2)
    c.latest_starts-latest.result c.latest_starts-latest.ensures c.in-Some.g c.in-Some.ensures.first
    (omega (arith, q.counted.many_is)) c.in-Some.ensures.found c.lay.result.words c.lay.ensures
