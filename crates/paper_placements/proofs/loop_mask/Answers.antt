use mathlib.Core.Path.{◌≡◌}
use mathlib.Core.Bool.{true}
use mathlib.Core.List.{List}
use Prim.Native.Nat.{ℕ, ◌+◌, ◌≤◌, ◌<◌}
use native.Mathlib.Omega.{arith}
use lib.ListN.{length}
use Rattle.paper_nests.specs.Loops.{is_do, end_of}
use Rattle.paper_nests.specs.Valid.{is_shape}
use Rattle.paper_nests.proofs.Loops.{end_there}
use Rattle.paper_placements.proofs.Mask.{Masking, mask_start, mask_there, mask_depth, mask_put, mask_skip, mask_done}
use Rattle.paper_placements.proofs.loop_mask.Goals as goal
use Rattle.paper_placements.proofs.loop_mask.Goals.{then-depth-eq1, else-depth-eq1}

-- a turn is at a point of the loop, at most 8 deep
inside
    : (ps : List ℕ) (d e : ℕ) (ws : List ℕ) (depth g : ℕ)
    → is_shape ps ≡ true
    → is_do ps d ≡ true
    → e ≡ end_of ps d
    → g < e + 1
    → Masking ps d ws depth g
    → (g < length ps) × (depth ≤ 8)
inside ps d e ws depth g shape loop end h p =
    let l : g ≤ end_of ps d = omega arith in (
      mask_there ps shape d loop ws depth g p l,
      (mask_depth ps shape d loop ws depth g p l).1,
    )

pub overflow_add-g-end : goal.overflow_add-g-end
overflow_add-g-end c =
    omega (arith, end_there c.args.points.now c.requires.points_value.0 c.args.d c.requires.d_value.0, c.requires)

pub loop-g-init : goal.loop-g-init
loop-g-init c =
    let a = c.args in
    mask_start a.points.now c.requires.points_value.0 a.d c.requires.d_value.0 c.empty-mask.result.words c.empty-mask.ensures

pub put-mask-requires : goal.put-mask-requires
put-mask-requires c =
    let r = c.requires in
    let i = inside _ _ _ _ _ _ r.points_value.0 r.d_value.0 r.d_value.1 c.loop-g-test.true c.loop-g.invariant in
    omega (arith, i.0, r.points_value.1)

pub bounds-points-g : goal.bounds-points-g
bounds-points-g c =
    let r = c.requires in
    (inside _ _ _ _ _ _ r.points_value.0 r.d_value.0 r.d_value.1 c.loop-g-test.true c.loop-g.invariant).0

pub deeper-depth-requires : goal.deeper-depth-requires
deeper-depth-requires c =
    let r = c.requires in
    let i = inside _ _ _ _ _ _ r.points_value.0 r.d_value.0 r.d_value.1 c.loop-g-test.true c.loop-g.invariant in
    omega (arith, i.1)

pub loop-g-preserved : goal.loop-g-preserved
loop-g-preserved c =
    let r = c.requires in
    let p = c.loop-g.invariant in
    let h : c.loop-g.g ≤ end_of c.args.points.now c.args.d = omega (arith, r.d_value.1) in
    elim c.if-depth-eq1.branch [
      | then-depth-eq1 w ↦
          rw
          (w.mask-is, c.deeper-depth.ensures)
          (mask_put _ r.points_value.0 _ r.d_value.0 _ _ _ p h _ w.if-depth-eq1.true w.put-mask.ensures)
      | else-depth-eq1 w ↦
          rw
          (w.mask-is, c.deeper-depth.ensures)
          (mask_skip _ r.points_value.0 _ r.d_value.0 _ _ _ p h w.if-depth-eq1.false)
    ]

pub returns : goal.returns
returns c =
    let r = c.requires in
    mask_done _ r.points_value.0 _ r.d_value.0 _ _ _ c.loop-g.invariant (omega (arith, r.d_value.1))
