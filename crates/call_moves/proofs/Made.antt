-- The desk of a move or a take-back is made by calls if the one it got was, and these calls lie between Load and Plan
-- as well.
-- Main statements: `put_fits`, `lift_fits`; `made_put`, `made_lift`, `made_back`; `put_since`, `lift_since`,
-- `back_since`.
use mathlib.Core.Path.{◌≡◌, refl, sym, ap, subst}
use mathlib.Core.Bool.{Bool, true, false, not}
use mathlib.Core.List.{List, [], ◌∷◌}
use mathlib.Core.Logic.{⊎_elim}
use Prim.Native.Nat.{ℕ}
use native.Mathlib.Omega.{arith}
use lib.Dec.{eqb, ltb}
use lib.ListN.{length}
use borrow.Author.Tests.{ltb-true, eqb-false, eq-eqb, ne_eqb}
use Rattle.laws.specs.Choice.{when, first_of, is_in}
use Rattle.laws.proofs.Choices.{first_zero, when_zero, unless_zero}
use Rattle.laws.proofs.Tests.{and_true, eq_or}
use Rattle.paper_nests.specs.Gaps.{is_gap}
use Rattle.paper_placements.specs.Placements.{are_gaps, is_free, avoids}
use Rattle.paper_placements.proofs.Cuts.{avoids_in}
use Rattle.desk_moves.specs.declared.Move as DG
use Rattle.desk_moves.specs.TakeBack.{Game, Play, moved, back_to, taken_back, History}
use Rattle.desk_moves.specs.Game.{put_at, lift_at, Fits, sitting_game}
use Rattle.desk_moves.proofs.TakeBack.{history_moved, history_back}
use Rattle.desk_moves.proofs.Game.{undoes, move_avoids, latest_free}
use Rattle.desk.specs.declared.Desk as DD
use Rattle.desk.specs.Desks.{Desk, play_on, with_play, desk_in, IsMade, state_fault}
use Rattle.desk.specs.Says.{Holds}
use Rattle.desk.specs.Since.{Since}
use Rattle.desk.proofs.Made.{made_holds, played_paper}
use Rattle.call_moves.specs.declared.Moved as DM
use Rattle.call_moves.specs.Says.{gap_fault, put_fault, lift_fault, back_fault, MoveSays}
use Rattle.call_moves.specs.Says.{PutSays, LiftSays, BackSays}

-- ---- no number: what it says of the desk

has-nest : (a : Bool) → first_of (when (not a) 10) 0 ≡ 0 → a ≡ true
has-nest true h = refl
has-nest false h = absurd (omega arith)

pub gap_nest : (x : Desk) (g : ℕ) → gap_fault x g ≡ 0 → x.has_nest ≡ true
gap_nest x g h = has-nest x.has_nest (first_zero (state_fault false x) (when (not (is_gap x.nest_is.points g)) 8) h).0

pub back_nest : (x : Desk) → back_fault x ≡ 0 → x.has_nest ≡ true
back_nest x h = has-nest x.has_nest (first_zero (state_fault false x) (when (eqb (length x.moves) 0) 13) h).0

-- a take-back that is not refused has a move to take back
pub back_some : (x : Desk) → back_fault x ≡ 0 → length x.moves ≡ 0 → ⊥
back_some x h =
    eqb-false (length x.moves) 0
    (when_zero (eqb (length x.moves) 0) 12
    (first_zero (state_fault false x) (when (eqb (length x.moves) 0) 13) h).1)

module _
    (x : Desk) (g : ℕ) (rising : are_gaps x.nest_is x.sitting ≡ true)
    (avoiding : avoids x.nest_is.barred x.sitting ≡ true) where
  fits
      : (put : Bool) → gap_fault x g ≡ 0 → is_in g x.sitting ≡ not put
      → is_free x.nest_is.barred g ≡ true
      → Fits x.nest_is x.sitting (record { gap = g; put = put })
  fits put z h f =
      let t =
      unless_zero (is_gap x.nest_is.points g) 7
      (first_zero (state_fault false x) (when (not (is_gap x.nest_is.points g)) 8) z).1 in
      let b = and_true (ltb 0 g) (ltb g (length x.nest_is.points)) t in
      record {
        rising = rising;
        first = ltb-true 0 g b.0;
        inside = ltb-true g (length x.nest_is.points) b.1;
        there = h;
        free = f;
      }

  -- a Put or a Lift that is not refused fits the sitting
  pub put_fits : put_fault x g ≡ 0 → Fits x.nest_is x.sitting (put_at g)
  put_fits h =
      let barred = is_in g x.nest_is.barred in
      let z = first_zero (gap_fault x g) (first_of (when (is_in g x.sitting) 12) (when barred 16)) h in
      let y = first_zero (when (is_in g x.sitting) 12) (when barred 16) z.1 in
      fits true z.0 (when_zero (is_in g x.sitting) 11 y.0) (ap not (when_zero barred 15 y.1))

  pub lift_fits : lift_fault x g ≡ 0 → Fits x.nest_is x.sitting (lift_at g)
  lift_fits h =
      let z = first_zero (gap_fault x g) (when (not (is_in g x.sitting)) 12) h in
      let there = unless_zero (is_in g x.sitting) 11 z.1 in
      fits false z.0 there (avoids_in x.nest_is.barred x.sitting avoiding g there)

-- ---- a call that leaves the play p

-- what a play on a desk with a nest has
record Played (d : DD.Desk) (p : Play (List ℕ) DG.Move) : Type 0 where
  has-nest : d.loaded ≡ true
  avoiding : avoids (desk_in d).nest_is.barred p.state ≡ true
  led : History (sitting_game (desk_in d).nest_is) p.kept p.state

module _
    (number : ℕ) (p : Play (List ℕ) DG.Move) (d : DD.Desk) (r : DM.Moved)
    (says : MoveSays number (with_play p (desk_in d)) d r) where
  -- made, it leaves the same desk with that play; refused, the desk
  pub move_makes : number ≡ 0 → Holds r.desk (with_play p (desk_in d))
  move_makes z = rw (eq-eqb number 0 z) at says.desk_is

  pub move_keeps : (number ≡ 0 → ⊥) → r.desk ≡ d
  move_keeps z = rw (ne_eqb number 0 z) at says.desk_is

  made_move : (number ≡ 0 → Played d p) → IsMade d → IsMade r.desk
  made_move play m = ⊎_elim
      (λ (z : number ≡ 0).
      made_holds r.desk (with_play p (desk_in d))
      (played_paper (desk_in d) p (play z).has-nest m.paper (play z).avoiding (play z).led)
      (move_makes z))
      (λ (z : number ≡ 0 → ⊥). subst (λ (x : DD.Desk). IsMade x) (sym (move_keeps z)) m)
      (eq_or number 0)

  move_since : (s : List ℕ) → Since s d → Since s r.desk
  move_since s q = ⊎_elim
      (λ (z : number ≡ 0). Since.moved d r.desk p q (move_makes z))
      (λ (z : number ≡ 0 → ⊥). subst (λ (x : DD.Desk). Since s x) (sym (move_keeps z)) q)
      (eq_or number 0)

-- ---- the calls

-- the game and the play of a desk's sitting
abbrev pub game_on : DD.Desk → Game (List ℕ) DG.Move
game_on d = sitting_game (desk_in d).nest_is

abbrev pub play_in : DD.Desk → Play (List ℕ) DG.Move
play_in d = play_on (desk_in d)

module _ (d : DD.Desk) (g : ℕ) (r : DM.Moved) where
  -- a move that fits
  move_played
      : (x : DG.Move) → IsMade d → Fits (desk_in d).nest_is (desk_in d).sitting x → d.loaded ≡ true
      → Played d (moved (game_on d) (play_in d) x)
  move_played x m f a =
      record {
        has-nest = a;
        avoiding =
            move_avoids (desk_in d).nest_is x.put x.gap (desk_in d).sitting f.rising f.free
            m.paper.avoiding;
        led = history_moved (game_on d) (play_in d) x m.paper.led f;
      }

  pub made_put : IsMade d → PutSays d g r → IsMade r.desk
  made_put m h =
      made_move (put_fault (desk_in d) g) (moved (game_on d) (play_in d) (put_at g)) d r h
      (λ z.
      move_played (put_at g) m (put_fits (desk_in d) g m.kept.gaps_fit m.paper.avoiding z)
      (gap_nest (desk_in d) g (first_zero (gap_fault (desk_in d) g) _ z).0))
      m

  pub made_lift : IsMade d → LiftSays d g r → IsMade r.desk
  made_lift m h =
      made_move (lift_fault (desk_in d) g) (moved (game_on d) (play_in d) (lift_at g)) d r h
      (λ z.
      move_played (lift_at g) m (lift_fits (desk_in d) g m.kept.gaps_fit m.paper.avoiding z)
      (gap_nest (desk_in d) g (first_zero (gap_fault (desk_in d) g) _ z).0))
      m

  -- demand 3 of the calls (`load_then_plan`) holds with moves between Load and Plan
  pub put_since : (s : List ℕ) → Since s d → PutSays d g r → Since s r.desk
  put_since s q h = move_since (put_fault (desk_in d) g) (moved (game_on d) (play_in d) (put_at g)) d r h s q

  pub lift_since : (s : List ℕ) → Since s d → LiftSays d g r → Since s r.desk
  lift_since s q h = move_since (lift_fault (desk_in d) g) (moved (game_on d) (play_in d) (lift_at g)) d r h s q

-- and with take-backs
module _ (d : DD.Desk) (r : DM.Moved) where
  -- the latest move was of a gap that is not barred
  back_avoids
      : (gs : List ℕ) (ms : List DG.Move)
      → are_gaps (desk_in d).nest_is gs ≡ true
      → avoids (desk_in d).nest_is.barred gs ≡ true
      → History (game_on d) ms gs
      → avoids (desk_in d).nest_is.barred (back_to (game_on d) gs ms).state ≡ true
  back_avoids gs [] rising v h = v
  back_avoids gs (x ∷ xs) rising v h =
      move_avoids (desk_in d).nest_is (not x.put) x.gap gs rising (latest_free (desk_in d).nest_is gs x xs h) v

  pub made_back : IsMade d → BackSays d r → IsMade r.desk
  made_back m h =
      made_move (back_fault (desk_in d)) (taken_back (game_on d) (play_in d)) d r h
      (λ z.
      record {
        has-nest = back_nest (desk_in d) z;
        avoiding = back_avoids (desk_in d).sitting (desk_in d).moves m.kept.gaps_fit m.paper.avoiding m.paper.led;
        led = history_back (game_on d) (undoes (desk_in d).nest_is) (play_in d) m.paper.led;
      })
      m

  pub back_since : (s : List ℕ) → Since s d → BackSays d r → Since s r.desk
  back_since s q h = move_since (back_fault (desk_in d)) (taken_back (game_on d) (play_in d)) d r h s q
