-- None up to the first front, or no such claim, then the row (Heads).
use Prim.Native.Nat.{◌+◌}
use native.Mathlib.Omega.{arith}
use Rattle.argue_give.proofs.Giving.{long, gives_then, gives_as, gives_under}
use Rattle.argue_give.proofs.Heads.{side_few, side_put, side_none}
use Rattle.argue_give.proofs.give_sides.Goals.{then-row-first, else-row-first}
use Rattle.argue_give.proofs.give_sides.Goals as goal

pub bounds-inside-row : goal.bounds-inside-row
bounds-inside-row c = omega (arith, long c.requires.give_room, c.requires.row_room.room)

pub give_claim-s-requires-clause-from_le_e : goal.give_claim-s-requires-clause-from_le_e
give_claim-s-requires-clause-from_le_e c =
    let w = c.requires.give_room in
    let x = c.requires.row_room.high (c.args.row.d + 1) (omega arith) (omega (arith, long w)) in
    (omega arith, omega (arith, x, w.short))

pub returns-clause-gives : goal.returns-clause-gives
returns-clause-gives c =
    let inside = long c.requires.give_room in
    elim c.if-row-first.branch [
      | then-row-first w ↦
          let s = w.give_claim-s.ensures in
          let n = s.need_unchanged.0 in
          let g = rw (w.need-is, w.sets-is, w.claims-is, w.out-is, w.s-is) at c.give_row.ensures.gives in
          gives_as (λ T x. side_put T x inside c.requires.d_nonzero w.if-row-first.true)
          (gives_then (gives_under (λ T x. (x.ground, side_few T x w.if-row-first.true)) s.gives)
          (gives_under (λ T x. rw (n.0, n.1) x) g))
      | else-row-first w ↦
          let g = rw (w.need-is, w.sets-is, w.claims-is, w.out-is, w.s-is) at c.give_row.ensures.gives in
          gives_as (λ T x. side_none T x inside c.requires.d_nonzero w.if-row-first.false) g
    ]
