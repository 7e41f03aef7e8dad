-- Putting and lifting undo each other, so the moves of a sitting can be taken back; the latest move kept says what the
-- sitting holds at its gap; and no move brings in a barred gap.
-- Main statements: `undoes`, `latest_there`, `latest_inside`, `move_avoids`, `latest_free`.
use mathlib.Core.Path.{◌≡◌, refl, sym, ap, ◌∙◌}
use mathlib.Core.Bool.{Bool, true, false, ◌&&◌, ◌||◌, not}
use mathlib.Core.List.{List, ◌∷◌}
use mathlib.Core.Logic.{⊎_elim}
use Prim.Native.Nat.{ℕ, ◌<◌}
use lib.Dec.{eqb}
use lib.ListN.{length}
use borrow.Author.Tests.{eqb-true, eq-eqb}
use Rattle.laws.specs.Choice.{is_in}
use Rattle.laws.proofs.Tests.{and_true, or-true}
use Rattle.paper_nests.specs.Nests.{Nest}
use Rattle.paper_placements.specs.Placements.{are_gaps, is_free, avoids}
use Rattle.paper_placements.proofs.Cuts.{avoids_in, avoids_by}
use Rattle.paper_placements.proofs.GapLists.{in_with, in_without, without_with, with_without}
use Rattle.desk_moves.specs.declared.Move as DM
use Rattle.desk_moves.specs.TakeBack.{Undoes, History}
use Rattle.desk_moves.specs.Game.{Fits, with_move, sitting_game}

module _ (n : Nest) where
  pub undoes : Undoes (sitting_game n)
  undoes gs m f = go m.put f.there
    where
      go : (b : Bool) → is_in m.gap gs ≡ not b → with_move (not b) m.gap (with_move b m.gap gs) ≡ gs
      go true e = without_with m.gap gs e
      go false e = with_without 0 (length n.points) m.gap gs f.rising e

  -- after a move its gap is there if it was put
  moved_there : (gs : List ℕ) (m : DM.Move) → Fits n gs m → is_in m.gap (with_move m.put m.gap gs) ≡ m.put
  moved_there gs m f = go m.put
    where
      same : eqb m.gap m.gap ≡ true
      same = eq-eqb m.gap m.gap refl

      go : (b : Bool) → is_in m.gap (with_move b m.gap gs) ≡ b
      go true = in_with m.gap m.gap gs ∙ ap (λ (t : Bool). t || is_in m.gap gs) same
      go false =
          in_without 0 (length n.points) m.gap m.gap gs f.rising ∙
          ap (λ (t : Bool). not t && is_in m.gap gs) same

  -- a gap that is not barred, put or lifted
  pub move_avoids
      : (b : Bool) (g : ℕ) (gs : List ℕ)
      → are_gaps n gs ≡ true
      → is_free n.barred g ≡ true
      → avoids n.barred gs ≡ true
      → avoids n.barred (with_move b g gs) ≡ true
  move_avoids true g gs r f v = avoids_by n.barred (with_move true g gs) free
    where
      free : (i : ℕ) → is_in i (with_move true g gs) ≡ true → is_free n.barred i ≡ true
      free i h = ⊎_elim
          (λ (z : eqb i g ≡ true). rw (eqb-true i g z) f)
          (λ (z : is_in i gs ≡ true). avoids_in n.barred gs v i z)
          (or-true (eqb i g) (is_in i gs) (sym (in_with g i gs) ∙ h))
  move_avoids false g gs r f v = avoids_by n.barred (with_move false g gs) free
    where
      free : (i : ℕ) → is_in i (with_move false g gs) ≡ true → is_free n.barred i ≡ true
      free i h =
          let z = and_true (not (eqb i g)) (is_in i gs) (sym (in_without 0 (length n.points) g i gs r) ∙ h) in
          avoids_in n.barred gs v i z.1

  module _ (gs : List ℕ) (m : DM.Move) (ms : List DM.Move) (h : History (sitting_game n) (m ∷ ms) gs) where
    pub latest_there : is_in m.gap gs ≡ m.put
    latest_there = ap (is_in m.gap) (sym h.came) ∙ moved_there h.from m h.fitted

    pub latest_free : is_free n.barred m.gap ≡ true
    latest_free = h.fitted.free

    pub latest_inside : (0 < m.gap) × (m.gap < length n.points)
    latest_inside = (h.fitted.first, h.fitted.inside)
