-- Take back: what undoing the latest move asks for, and the reply where there is none.
-- Main statements: `latest_holds`, `back_none`.
use mathlib.Core.Path.{◌≡◌, sym, ◌∙◌}
use mathlib.Core.Bool.{true}
use mathlib.Core.List.{◌∷◌}
use Prim.Native.Nat.{◌<◌}
use native.Mathlib.Omega.{arith}
use lib.ListN.{length, drop}
use borrow.Author.Tests.{eq-eqb}
use Rattle.paper_nests.specs.Nests.{Nest}
use Rattle.paper_nests.specs.Stored.{nest_in}
use Rattle.paper_placements.specs.Words.{GAPS, holds}
use Rattle.paper_placements.proofs.Words.{in_gaps}
use Rattle.desk_sitting.specs.Kept as Kept
use Rattle.desk_moves.specs.declared.Move as DG
use Rattle.desk_moves.specs.Ring.{moves_in, LatestSays}
use Rattle.desk_moves.specs.TakeBack.{History}
use Rattle.desk_moves.specs.Game.{sitting_game}
use Rattle.desk_moves.proofs.Ring.{moves_many}
use Rattle.desk_moves.proofs.Game.{latest_there, latest_inside}
use Rattle.desk.specs.declared.Desk as DD
use Rattle.desk.specs.Desks.{desk_in, IsMade}
use Rattle.call_moves.specs.declared.Moved as DM
use Rattle.call_moves.specs.Says.{back_fault, after_back, BackSays, refused_as}
use Rattle.call_moves.proofs.Moving.{refused_with}

-- ---- the latest move of a desk with a nest

module _ (d : DD.Desk) (made : IsMade d) (m : DG.Move) (latest : LatestSays d.moves m) where
  abbrev n : Nest
  n = nest_in d.nest

  led : History (sitting_game n) (m ∷ drop 1 (moves_in d.moves)) (Kept.barriers d.sitting)
  led = rw latest at made.paper.led

  -- its gap is there if it was put
  pub latest_holds : holds d.sitting.placement.words m.gap ≡ m.put
  latest_holds =
      let i = latest_inside n (Kept.barriers d.sitting) m (drop 1 (moves_in d.moves)) led in
      let g : m.gap < GAPS = omega (arith, i.1, made.counted.count_is, made.counted.count_fits) in
      sym (in_gaps d.sitting.placement.words m.gap g) ∙
      latest_there n (Kept.barriers d.sitting) m (drop 1 (moves_in d.moves)) led

-- ---- the reply

module _ (d : DD.Desk) (made : IsMade d) (r : DM.Moved) where
  pub back_none : d.loaded ≡ true → d.moves.many ≡ 0 → r ≡ refused_as 13 d → BackSays d r
  back_none a e =
      refused_with d made r (back_fault (desk_in d)) (after_back (desk_in d)) 13
      (rw (a, eq-eqb (length (moves_in d.moves)) 0 (moves_many d.moves ∙ e)))
      (λ q. omega arith)
