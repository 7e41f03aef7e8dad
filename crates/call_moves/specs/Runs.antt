-- Runs of calls at the screen: what job 5 says of them.
-- Main definitions: `Unmoved`, `Run`, `Backs`; `TakenBack`, `NoneRefused`, `SixtyFifth`, `LatestKept`, `LatestInOrder`,
-- `Cleared`.
use Rattle.std.specs.Prelude.{◌≡◌, true, List, [], ◌∷◌, ◌++◌, ℕ, suc, ◌+◌, ◌≤◌, ◌<◌, length, get_or, take}
use Rattle.desk_moves.specs.declared.Move as DG
use Rattle.desk_moves.specs.Ring.{KEPT}
use Rattle.desk_moves.specs.TakeBack.{most, still_kept}
use Rattle.desk_moves.specs.Game.{put_at, lift_at, sitting_game}
use Rattle.desk.specs.declared.Desk as DD
use Rattle.desk.specs.declared.Reply as DR
use Rattle.desk.specs.Desks.{desk_in, IsMade}
use Rattle.desk.specs.Says.{LoadSays, PlanSays}
use Rattle.call_moves.specs.declared.Moved as DM
use Rattle.call_moves.specs.Says.{PutSays, LiftSays, BackSays}

-- a call that makes no move and takes none back: Plan, or one that is refused; the calls that give no desk change
-- nothing
pub data Unmoved (d : DD.Desk) : DD.Desk → Type 0 where
  planned : (r : DR.Reply) → PlanSays d r → Unmoved d r.desk
  not_loaded : (s : List ℕ) (r : DR.Reply) → LoadSays d s r → (r.number ≡ 0 → ⊥) → Unmoved d r.desk
  not_put : (g : ℕ) (r : DM.Moved) → PutSays d g r → (r.number ≡ 0 → ⊥) → Unmoved d r.desk
  not_lifted : (g : ℕ) (r : DM.Moved) → LiftSays d g r → (r.number ≡ 0 → ⊥) → Unmoved d r.desk
  not_taken : (r : DM.Moved) → BackSays d r → (r.number ≡ 0 → ⊥) → Unmoved d r.desk

-- calls from desk d on, with no accepted Load and no Reset; ms are the Puts and Lifts among them, the latest first, that
-- are made and not taken back, and k is the most of these at any time
pub data Run (d : DD.Desk) : ℕ → List DG.Move → DD.Desk → Type 0 where
  start : Run d 0 [] d
  put
      : (k : ℕ) (ms : List DG.Move) (e : DD.Desk) (g : ℕ) (r : DM.Moved)
      → Run d k ms e → PutSays e g r → r.number ≡ 0
      → Run d (most k (suc (length ms))) (put_at g ∷ ms) r.desk
  lift
      : (k : ℕ) (ms : List DG.Move) (e : DD.Desk) (g : ℕ) (r : DM.Moved)
      → Run d k ms e → LiftSays e g r → r.number ≡ 0
      → Run d (most k (suc (length ms))) (lift_at g ∷ ms) r.desk
  back
      : (k : ℕ) (ms : List DG.Move) (m : DG.Move) (e : DD.Desk) (r : DM.Moved)
      → Run d k (m ∷ ms) e → BackSays e r → r.number ≡ 0 → Run d k ms r.desk
  other : (k : ℕ) (ms : List DG.Move) (e f : DD.Desk) → Run d k ms e → Unmoved e f → Run d k ms f

-- calls from desk d on with j take-backs among them, refused or not, and no moves
pub data Backs (d : DD.Desk) : ℕ → DD.Desk → Type 0 where
  start : Backs d 0 d
  next : (j : ℕ) (e : DD.Desk) (r : DM.Moved) → Backs d j e → BackSays e r → Backs d (suc j) r.desk
  other : (j : ℕ) (e f : DD.Desk) → Backs d j e → Unmoved e f → Backs d j f

-- the same placement, the same counts, the same number uncut
pub record SameSitting (d e : DD.Desk) : Type 0 where
  pub placement_is : (desk_in d).sitting ≡ (desk_in e).sitting
  pub counts_are : (i : ℕ) → get_or d.sitting.counts i 0 ≡ get_or e.sitting.counts i 0
  pub uncut_is : d.sitting.uncut ≡ e.sitting.uncut

-- 02, job 5: where at no time more than 64 moves were not yet taken back, as many take-backs as there are such moves
-- give back the placement, the counts and the number uncut of before, however many moves were made in all
abbrev pub TakenBack : Type 0
TakenBack =
    (d e f : DD.Desk) (k : ℕ) (ms : List DG.Move) →
    IsMade d → Run d k ms e → k ≤ KEPT → Backs e (length ms) f → SameSitting d f

-- and none of them is refused
abbrev pub NoneRefused : Type 0
NoneRefused =
    (d e f : DD.Desk) (k j : ℕ) (ms : List DG.Move) (r : DM.Moved) →
    IsMade d → Run d k ms e → k ≤ KEPT → Backs e j f → j < length ms → BackSays f r → r.number ≡ 0

-- 02, job 5: up to 64 in a row; the next is 13, with line 0, and leaves the desk
pub record NoMove (d : DD.Desk) (r : DM.Moved) : Type 0 where
  pub number_is : r.number ≡ 13
  pub line_is : r.line ≡ 0
  pub uncut_is : r.uncut ≡ 0
  pub desk_is : r.desk ≡ d

abbrev pub SixtyFifth : Type 0
SixtyFifth =
    (d e : DD.Desk) (r : DM.Moved) → IsMade d → d.loaded ≡ true → Backs d KEPT e → BackSays e r → NoMove e r

-- 02, job 5: older moves are forgotten; of the run's moves and those kept before it, not yet taken back, these are kept
-- in order but for the oldest, as many as at one time there were above 64
abbrev pub LatestKept : Type 0
LatestKept =
    (d e : DD.Desk) (k : ℕ) (ms : List DG.Move) →
    IsMade d → Run d k ms e →
    (desk_in e).moves ≡ still_kept (sitting_game (desk_in d).nest_is) (k + length (desk_in d).moves) (ms ++ (desk_in d).moves)

-- where there never were more of them than now, as in a run without take-backs, these are the latest 64
abbrev pub LatestInOrder : Type 0
LatestInOrder =
    (d e : DD.Desk) (ms : List DG.Move) →
    IsMade d → Run d (length ms) ms e → (desk_in e).moves ≡ take KEPT (ms ++ (desk_in d).moves)

-- 02, job 5: Load clears the moves
abbrev pub Cleared : Type 0
Cleared =
    (d : DD.Desk) (s : List ℕ) (q : DR.Reply) (r : DM.Moved) →
    LoadSays d s q → q.number ≡ 0 → BackSays q.desk r → NoMove q.desk r
