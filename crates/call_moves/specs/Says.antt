-- What the calls at the screen promise: reply, desk after, every lent byte.
-- Main definitions: `put_fault`, `lift_fault`, `back_fault`, `MoveSays`, `PutSays`, `LiftSays`, `BackSays`, `SittingSays`.
use Rattle.std.specs.Prelude.{◌≡◌, false, not, List, ℕ, eqb, length}
use Rattle.laws.specs.Choice.{pick, pick_t, when, first_of, is_in}
use Rattle.paper_nests.specs.Nests.{Nest}
use Rattle.paper_nests.specs.Gaps.{is_gap}
use Rattle.desk_sitting.specs.Counts.{uncut_count}
use Rattle.desk_sitting.specs.Kept.{barriers, Kept}
use Rattle.desk_sitting.specs.declared.Sitting as DS
use Rattle.desk_moves.specs.declared.Move as DG
use Rattle.desk_moves.specs.declared.Moves as DV
use Rattle.desk_moves.specs.TakeBack.{moved, taken_back}
use Rattle.desk_moves.specs.Game.{put_at, lift_at, sitting_game}
use Rattle.desk.specs.declared.Desk as DD
use Rattle.desk.specs.declared.Answer as DA
use Rattle.desk.specs.Desks.{Desk, play_on, with_play, desk_in, state_fault}
use Rattle.desk.specs.Says.{Holds, WrittenAs}
use Rattle.call_moves.specs.declared.Moved as DM

-- 02, job 4: 10, no nest; 8, a gap out of range
abbrev pub gap_fault : Desk → ℕ → ℕ
gap_fault x g = first_of (state_fault false x) (when (not (is_gap x.nest_is.points g)) 8)

-- 02, job 4: 12, Put of a gap that is there or Lift of one that isn't, after 10 and 8; 02, job 7: 16, Put of a barred
-- gap, after 12
abbrev pub put_fault : Desk → ℕ → ℕ
put_fault x g =
    first_of (gap_fault x g) (first_of (when (is_in g x.sitting) 12) (when (is_in g x.nest_is.barred) 16))

abbrev pub lift_fault : Desk → ℕ → ℕ
lift_fault x g = first_of (gap_fault x g) (when (not (is_in g x.sitting)) 12)

-- 02, job 5: 13, no move to take back, after 10
abbrev pub back_fault : Desk → ℕ
back_fault x = first_of (state_fault false x) (when (eqb (length x.moves) 0) 13)

-- the desk after a call that is not refused: the gap is put or lifted and the move is kept, or the latest is undone
abbrev pub after_put : Desk → ℕ → Desk
after_put x g = with_play (moved (sitting_game x.nest_is) (play_on x) (put_at g)) x

abbrev pub after_lift : Desk → ℕ → Desk
after_lift x g = with_play (moved (sitting_game x.nest_is) (play_on x) (lift_at g)) x

abbrev pub after_back : Desk → Desk
after_back x = with_play (taken_back (sitting_game x.nest_is) (play_on x)) x

-- how many dependences of the nest the sitting does not cut
abbrev pub uncut_on : Desk → ℕ
uncut_on x = uncut_count x.nest_is.points x.nest_is.deps x.sitting

-- a move or a take-back: its number, with line 0; made, it leaves the desk `after` and tells how many dependences
-- remain uncut there; refused, it leaves the desk as it was and tells 0
pub record MoveSays (number : ℕ) (after : Desk) (d : DD.Desk) (r : DM.Moved) : Type 0 where
  pub number_is : r.number ≡ number
  pub line_is : r.line ≡ 0
  pub uncut_is : r.uncut ≡ pick (eqb number 0) (uncut_on after) 0
  pub desk_is : pick_t (eqb number 0) (Holds r.desk after) (r.desk ≡ d)

-- the code's replies: a refusal, and a move to another sitting and other moves
abbrev pub refused_as : ℕ → DD.Desk → DM.Moved
refused_as n d = record { number = n; line = 0; uncut = 0; desk = d }

abbrev pub seated : DD.Desk → DS.Sitting → DV.Moves → DD.Desk
seated d s v =
    record { loaded = d.loaded; nest = d.nest; planned = d.planned; key = d.key; sitting = s; moves = v }

abbrev pub moved_to : DD.Desk → DS.Sitting → DV.Moves → DM.Moved
moved_to d s v = record { number = 0; line = 0; uncut = s.uncut; desk = seated d s v }

-- Put and Lift
abbrev pub PutSays : DD.Desk → ℕ → DM.Moved → Type 0
PutSays d g r = MoveSays (put_fault (desk_in d) g) (after_put (desk_in d) g) d r

abbrev pub LiftSays : DD.Desk → ℕ → DM.Moved → Type 0
LiftSays d g r = MoveSays (lift_fault (desk_in d) g) (after_lift (desk_in d) g) d r

-- 02, job 5: Take back replies as Put does
abbrev pub BackSays : DD.Desk → DM.Moved → Type 0
BackSays d r = MoveSays (back_fault (desk_in d)) (after_back (desk_in d)) d r

-- the sitting as text: 10, then as every placement; it changes no desk
abbrev pub SittingSays : DD.Desk → List ℕ → List ℕ → DA.Answer → Type 0
SittingSays d out out' r = WrittenAs (state_fault false (desk_in d)) (desk_in d).sitting out out' r

-- the sitting with a move undone
pub record UndoneSays (n : Nest) (m : DG.Move) (s r : DS.Sitting) : Type 0 where
  pub barriers_are : barriers r ≡ (sitting_game n).undo (barriers s) m
  pub kept : Kept n r
