-- The game of a sitting: its states are the rising lists of barriers, its moves put a gap or lift one.
-- Main definitions: `put_at`, `lift_at`, `Fits`, `with_move`, `sitting_game`.
use Rattle.std.specs.Prelude.{◌≡◌, Bool, true, false, not, List, ℕ, ◌<◌, length}
use Rattle.laws.specs.Choice.{is_in}
use Rattle.paper_nests.specs.Nests.{Nest}
use Rattle.paper_placements.specs.Placements.{are_gaps, is_free}
use Rattle.paper_placements.specs.GapLists.{with_gap, without}
use Rattle.desk_moves.specs.declared.Move as DM
use Rattle.desk_moves.specs.Ring.{KEPT}
use Rattle.desk_moves.specs.TakeBack.{Game}

-- the moves of a gap
abbrev pub put_at : ℕ → DM.Move
put_at g = record { gap = g; put = true }

abbrev pub lift_at : ℕ → DM.Move
lift_at g = record { gap = g; put = false }

-- a gap of the nest that is not barred, put where it is not there, lifted where it is
pub record Fits (n : Nest) (gs : List ℕ) (m : DM.Move) : Type 0 where
  pub rising : are_gaps n gs ≡ true
  pub first : 0 < m.gap
  pub inside : m.gap < length n.points
  pub there : is_in m.gap gs ≡ not m.put
  pub free : is_free n.barred m.gap ≡ true

-- a gap put or lifted
abbrev pub with_move : Bool → ℕ → List ℕ → List ℕ
with_move true g gs = with_gap g gs
with_move false g gs = without g gs

-- 02, job 5: take back undoes the latest Put or Lift, a Put by lifting its gap, a Lift by putting it; up to 64 in a row
abbrev pub sitting_game : Nest → Game (List ℕ) DM.Move
sitting_game n =
    record {
      room = KEPT;
      fits = Fits n;
      apply = λ gs m. with_move m.put m.gap gs;
      undo = λ gs m. with_move (not m.put) m.gap gs;
    }
