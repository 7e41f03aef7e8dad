use mathlib.Core.Path.{◌≡◌, refl, sym, ◌∙◌}
use mathlib.Core.Bool.{Bool, true, false}
use mir.Val.{bool_byte}
use Prim.Native.Nat.{◌-◌, ◌≤◌}
use lib.Dec.{eqb}
use lib.ListN.{get_or}
use Rattle.laws.specs.Bits.{one}
use native.Mathlib.Omega.{arith}
use borrow.Author.Rules.{rules}
use Rattle.paper_nests.specs.Gaps.{has_gap}
use Rattle.paper_nests.specs.Stored.{dep_in, nest_in}
use Rattle.paper_nests.proofs.Deps.{valid_is}
use Rattle.paper_placements.specs.Words.{gaps_in}
use Rattle.desk_sitting.specs.Kept.{barriers}
use Rattle.desk_sitting.proofs.Moving.{Move-start, move_past, move_on, kept_is, uncut_least, uncut_most}
use Rattle.desk_sitting.proofs.Turns.{dep_at, turn_of, gap_told}
use Rattle.desk_sitting.proofs.recounted.Goals as goal
use Rattle.desk_sitting.proofs.recounted.Goals.{After-has_gap}

pub loops_around-around-requires-clause-points_value : goal.loops_around-around-requires-clause-points_value
loops_around-around-requires-clause-points_value g c =
    let p = c.requires.ready in
    let v = valid_is (nest_in c.args.nest.now) p.valid in
    rw c.points.ensures (v.shape, v.few_points)

pub loop-i-init : goal.loop-i-init
loop-i-init g c =
    let a = c.args in
    let p = c.requires.ready in
    Move-start (nest_in a.nest.now) (barriers a.s) (gaps_in c.args.placement.words) a.nest.now.many
    a.s.counts a.s.uncut p.counted.many_is (search rules) p.kept.counts_are p.kept.uncut_is

-- what the test says of the dependence that is read before i
told
    : (g : _) (c : After-has_gap g)
    → has_gap (nest_in c.args.nest.now).points (dep_in (dep_at c.args.nest.now (c.loop-i.i - 1))) c.args.g ≡ c.has_gap.result
told g c =
    sym (
    gap_told c.requires.ready c.loop-i-test.true c.loop-i.invariant c.loops_around-around.result c.has_gap.result
    (rw c.points.ensures at c.loops_around-around.ensures) c.has_gap.ensures
    )

pub step-next-requires : goal.step-next-requires
step-next-requires g c =
    let h = (goal.at.step-next-requires g c).After-has_gap in
    let t = turn_of c.requires.ready c.loop-i-test.true c.loop-i.invariant in
    c.requires.steps.may _ _ (told g h ∙ c.if-has_gap.true) (kept_is t)

-- a test as a number
byte_one : (b : Bool) → (bool_byte b ≡ one b) × (bool_byte b ≤ 1)
byte_one true = (refl, omega arith)
byte_one false = (refl, omega arith)

pub overflow_add-uncut : goal.overflow_add-uncut
overflow_add-uncut g c =
    let t = turn_of c.requires.ready c.loop-i-test.true c.loop-i.invariant in
    omega (arith, uncut_most t, c.from.ensures, (byte_one (eqb c.step-next.result 0)).1)

pub overflow_sub-uncut : goal.overflow_sub-uncut
overflow_sub-uncut g c =
    let t = turn_of c.requires.ready c.loop-i-test.true c.loop-i.invariant in
    omega (
      arith,
      uncut_least t,
      c.from-then-has_gap.ensures ∙ (byte_one (eqb (get_or c.loop-i.counts (c.loop-i.i - 1) 0) 0)).0,
    )

pub loop-i-preserved-then-has_gap : goal.loop-i-preserved-then-has_gap
loop-i-preserved-then-has_gap g c =
    let h = (goal.at.loop-i-preserved-then-has_gap g c).After-has_gap in
    let t = turn_of c.requires.ready c.loop-i-test.true c.loop-i.invariant in
    let was = c.from-then-has_gap.ensures ∙ (byte_one (eqb (get_or c.loop-i.counts (c.loop-i.i - 1) 0) 0)).0 in
    let is = c.from.ensures ∙ (byte_one (eqb c.step-next.result 0)).0 in
    move_on t _ _
    (c.requires.steps.goes _ _ _ (told g h ∙ c.if-has_gap.true) (kept_is t) c.step-next.ensures)
    (omega (arith, was, is, uncut_least t))

pub loop-i-preserved : goal.loop-i-preserved
loop-i-preserved g c =
    let h = (goal.at.loop-i-preserved g c).After-has_gap in
    move_past (turn_of c.requires.ready c.loop-i-test.true c.loop-i.invariant)
    (c.requires.steps.stays _ (told g h ∙ c.if-has_gap.false))
