use mathlib.Core.Path.{◌≡◌, refl}
use mathlib.Core.Bool.{true}
use mathlib.Core.List.{List}
use Prim.Native.Nat.{ℕ, ◌+◌, ◌-◌, ◌≤◌, ◌<◌}
use native.Mathlib.Omega.{arith}
use lib.ListN.{length, get_or}
use Rattle.laws.specs.Entries.{at}
use Rattle.paper_nests.specs.Kinds.{DO, POINTS}
use Rattle.paper_nests.specs.Valid.{is_shape}
use Rattle.paper_counts.specs.Tables.{OwnersAre}
use Rattle.run_count.proofs.Timing.{Timed, time_start, next_in, inside_most, time_do, around_before, time_other}
use Rattle.run_count.proofs.times_of.Goals as goal
use Rattle.run_count.proofs.times_of.Goals.{then-points-i-eq-DO, else-points-i-eq-DO}

-- the index of a gap's loop is small
around_small
    : {ps ts times : List ℕ} {next i : ℕ} (owners : List ℕ)
    → Timed ps ts times next i
    → (is_shape ps ≡ true) × (length ps ≤ POINTS)
    → i + 1 < length ps
    → OwnersAre ps owners
    → (get_or ps i 0 ≡ DO → ⊥)
    → at owners (i + 1) < POINTS - 1
around_small owners p points l own h =
    omega (arith, around_before p points.0 points.1 l owners own h, points.1)

pub loop-i-init : goal.loop-i-init
loop-i-init c = time_start c.args.points.now c.args.turns.now c.requires.points_value.0 _ refl refl

pub bounds-turns-next : goal.bounds-turns-next
bounds-turns-next c =
    let r = c.requires in
    next_in c.loop-i.invariant r.points_value.0 r.points_value.1 (omega arith) r.turns_value c.if-points-i-eq-DO.true

pub overflow_mul-times : goal.overflow_mul-times
overflow_mul-times c =
    let r = c.requires in
    let most =
    inside_most c.loop-i.invariant r.points_value.0 r.points_value.1 (omega arith) r.turns_value
    c.if-points-i-eq-DO.true in
    omega (arith, most)

pub overflow_add-next : goal.overflow_add-next
overflow_add-next c =
    let r = c.requires in
    let listed =
    next_in c.loop-i.invariant r.points_value.0 r.points_value.1 (omega arith) r.turns_value c.if-points-i-eq-DO.true in
    omega (arith, listed)

pub overflow_add-times-else-points-i-eq-DO : goal.overflow_add-times-else-points-i-eq-DO
overflow_add-times-else-points-i-eq-DO c =
    let small =
    around_small _ c.loop-i.invariant c.requires.points_value (omega arith) c.owners_of-owners.ensures
    c.if-points-i-eq-DO.false in
    omega (arith, small)

pub offset_bounds-times-d : goal.offset_bounds-times-d
offset_bounds-times-d c =
    let small =
    around_small _ c.loop-i.invariant c.requires.points_value (omega arith) c.owners_of-owners.ensures
    c.if-points-i-eq-DO.false in
    omega (arith, small)

pub bounds-times-d : goal.bounds-times-d
bounds-times-d c =
    let small =
    around_small _ c.loop-i.invariant c.requires.points_value (omega arith) c.owners_of-owners.ensures
    c.if-points-i-eq-DO.false in
    omega (arith, small)

pub loop-i-preserved : goal.loop-i-preserved
loop-i-preserved c =
    let r = c.requires in
    let p = c.loop-i.invariant in
    let own = c.owners_of-owners.ensures in
    elim c.if-points-i-eq-DO.branch [
      | then-points-i-eq-DO w ↦
          let is_do = w.if-points-i-eq-DO.true in
          rw (w.times-is, w.next-is)
          (time_do p r.points_value.0 r.points_value.1 (omega arith) r.turns_value is_do)
      | else-points-i-eq-DO w ↦
          let other = w.if-points-i-eq-DO.false in
          rw (w.times-is, w.next-is) (time_other p r.points_value.0 r.points_value.1 (omega arith) _ own other)
    ]
