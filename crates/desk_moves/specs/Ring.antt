-- The ring of the latest moves as a list, the latest first.
-- Main definitions: `moves_in`, `IsRing`, `EmptySays`, `PushSays`, `LatestSays`, `PopSays`.
use Rattle.std.specs.Prelude.{◌≡◌, false, List, [], ◌∷◌, ℕ, zero, suc, ◌≤◌, ◌<◌, get_or, take, drop}
use Rattle.desk_moves.specs.declared.Move as DM
use Rattle.desk_moves.specs.declared.Moves as DR

-- 02, job 5: up to 64 in a row
abbrev pub KEPT : ℕ
KEPT = 64

-- the place before, round the ring
abbrev pub before : ℕ → ℕ
before zero = 63
before (suc i) = i

-- the move at a place
abbrev pub move_at : List DM.Move → ℕ → DM.Move
move_at ring i = get_or ring i (record { gap = 0; put = false })

-- so many moves back from a place, the latest first
unfoldable pub back_from : List DM.Move → ℕ → ℕ → List DM.Move
back_from ring zero i = []
back_from ring (suc k) i = move_at ring i ∷ back_from ring k (before i)

-- the moves kept, the latest first
abbrev pub moves_in : DR.Moves → List DM.Move
moves_in r = back_from r.ring r.many r.head

-- a place of the ring, and no more moves than it has places
pub record IsRing (r : DR.Moves) : Type 0 where
  pub head_fits : r.head < KEPT
  pub many_fits : r.many ≤ KEPT

-- none are kept
pub record EmptySays (r : DR.Moves) : Type 0 where
  pub moves_are : moves_in r ≡ []
  pub ring : IsRing r

-- 02, job 5: up to 64 in a row, older moves are forgotten
pub record PushSays (s : DR.Moves) (m : DM.Move) (r : DR.Moves) : Type 0 where
  pub moves_are : moves_in r ≡ take KEPT (m ∷ moves_in s)
  pub ring : IsRing r

-- m is the first of the moves kept
abbrev pub LatestSays : DR.Moves → DM.Move → Type 0
LatestSays s m = moves_in s ≡ m ∷ drop 1 (moves_in s)

-- the others are kept
pub record PopSays (s r : DR.Moves) : Type 0 where
  pub moves_are : moves_in r ≡ drop 1 (moves_in s)
  pub ring : IsRing r
