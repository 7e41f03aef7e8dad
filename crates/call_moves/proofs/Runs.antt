-- Runs of calls at the screen: a run's moves stand as in the game of a sitting (desk_moves/proofs/TakeBack), so that
-- taking back gives the sitting of before.
-- Main statements: `taken-back`, `none_refused`, `sixty_fifth`, `latest_kept`, `latest_in_order`, `cleared`.
use mathlib.Core.Path.{◌≡◌, refl, sym, ◌∙◌, ap, subst}
use mathlib.Core.Bool.{Bool, true, false}
use mathlib.Core.Logic.{◌⊎◌, inl, inr}
use mathlib.Core.List.{List, [], ◌∷◌, ◌++◌}
use Prim.Native.Nat.{ℕ, zero, suc, ◌-◌, ◌≤◌, ◌<◌}
use native.Mathlib.Omega.{arith}
use lib.Dec.{eqb}
use lib.ListN.{length, get_or, drop, drop_of_length-le, length-append}
use borrow.Author.Tests.{eq-eqb, ne_eqb}
use Rattle.paper_nests.specs.Nests.{Nest}
use Rattle.paper_nests.specs.Stored.{nest_in}
use Rattle.desk_sitting.specs.Kept.{barriers, Kept}
use Rattle.desk_sitting.proofs.Outcome.{Kept-same}
use Rattle.desk_moves.specs.declared.Move as DG
use Rattle.desk_moves.specs.Ring.{KEPT}
use Rattle.desk_moves.specs.TakeBack.{Game, Play, moved, back_to, taken_back, most, still_kept}
use Rattle.desk_moves.specs.Game.{put_at, lift_at, Fits}
use Rattle.desk_moves.proofs.Ring.{moves_many}
use Rattle.desk_moves.proofs.TakeBack.{Standing, standing_start, standing_moved, standing_back, all_back, one_kept}
use Rattle.desk_moves.proofs.TakeBack.{still_latest}
use Rattle.desk_moves.proofs.Game.{undoes}
use Rattle.desk.specs.declared.Desk as DD
use Rattle.desk.specs.declared.Reply as DR
use Rattle.desk.specs.Desks.{Desk, play_on, with_play, desk_in, IsMade}
use Rattle.desk.specs.Says.{Holds, PlanSays}
use Rattle.desk.proofs.Made.{loaded_holds, refused_keeps, PlanMade, plan_either, made_plan}
use Rattle.call_moves.specs.declared.Moved as DM
use Rattle.call_moves.specs.Says.{put_fault, lift_fault, back_fault, PutSays, LiftSays, BackSays}
use Rattle.call_moves.specs.Runs.{Unmoved, Run, Backs, NoMove}
use Rattle.call_moves.specs.Runs.{TakenBack, NoneRefused, SixtyFifth, LatestKept, LatestInOrder, Cleared}
use Rattle.call_moves.proofs.Made.{game_on, play_in, put_fits, lift_fits, back_some}
use Rattle.call_moves.proofs.Made.{move_makes, move_keeps, made_put, made_lift, made_back}

-- ---- calls that make no move

-- e is made by calls, with the nest, the sitting and the moves of d
record Stays (d e : DD.Desk) : Type 0 where
  pub made : IsMade e
  pub has-nest : (desk_in e).has_nest ≡ (desk_in d).has_nest
  pub nest_is : (desk_in e).nest_is ≡ (desk_in d).nest_is
  pub play_is : play_in e ≡ play_in d

stays_same : (d e : DD.Desk) → IsMade d → e ≡ d → Stays d e
stays_same d e m z =
    record {
      made = subst (λ (x : DD.Desk). IsMade x) (sym z) m;
      has-nest = ap (λ (x : DD.Desk). (desk_in x).has_nest) z;
      nest_is = ap (λ (x : DD.Desk). (desk_in x).nest_is) z;
      play_is = ap play_in z;
    }

plan_stays : (d : DD.Desk) (r : DR.Reply) → IsMade d → PlanSays d r → Stays d r.desk
plan_stays d r m h = go (plan_either d r h)
  where
    go : PlanMade d r.desk ⊎ (r.desk ≡ d) → Stays d r.desk
    go (inl p) =
        record {
          made = made_plan d r m h;
          has-nest = ap (λ (x : Desk). x.has_nest) p.holds.holds;
          nest_is = ap (λ (x : Desk). x.nest_is) p.holds.holds;
          play_is = rw (h.sitting_is, h.moves_are);
        }
    go (inr e) = stays_same d r.desk m e

unmoved_stays : (d e : DD.Desk) → IsMade d → Unmoved d e → Stays d e
unmoved_stays d e m (Unmoved.planned r h) = plan_stays d r m h
unmoved_stays d e m (Unmoved.not_loaded s r h z) = stays_same d r.desk m (refused_keeps d s r h z)
unmoved_stays d e m (Unmoved.not_put g r h z) =
    stays_same d r.desk m
    (move_keeps (put_fault (desk_in d) g) (moved (game_on d) (play_in d) (put_at g)) d r h
    (λ q. z (h.number_is ∙ q)))
unmoved_stays d e m (Unmoved.not_lifted g r h z) =
    stays_same d r.desk m
    (move_keeps (lift_fault (desk_in d) g) (moved (game_on d) (play_in d) (lift_at g)) d r h
    (λ q. z (h.number_is ∙ q)))
unmoved_stays d e m (Unmoved.not_taken r h z) =
    stays_same d r.desk m
    (move_keeps (back_fault (desk_in d)) (taken_back (game_on d) (play_in d)) d r h
    (λ q. z (h.number_is ∙ q)))

-- ---- a run

-- e is made by calls, with the nest of d, and the moves of the run stand as in the game
record Along (d : DD.Desk) (k : ℕ) (ms : List DG.Move) (e : DD.Desk) : Type 0 where
  pub made : IsMade e
  pub nest_is : (desk_in e).nest_is ≡ (desk_in d).nest_is
  pub standing : Standing (game_on d) (play_in d) k ms (play_in e)

-- no more moves are kept than there is room for
kept_few : (d : DD.Desk) → IsMade d → length (desk_in d).moves ≤ KEPT
kept_few d m = omega (arith, moves_many d.moves, m.ring.many_fits)

module _ (d : DD.Desk) (k : ℕ) (ms : List DG.Move) (e : DD.Desk) (i : Along d k ms e) (r : DM.Moved) where
  -- the desk after a call that leaves the play p
  along_to
      : (k' : ℕ) (ms' : List DG.Move) (p : Play (List ℕ) DG.Move)
      → IsMade r.desk
      → Holds r.desk (with_play p (desk_in e))
      → Standing (game_on d) (play_in d) k' ms' p
      → Along d k' ms' r.desk
  along_to k' ms' p m h s =
      record {
        made = m;
        nest_is = ap (λ (x : Desk). x.nest_is) h.holds ∙ i.nest_is;
        standing =
            subst
            (λ (x : Play (List ℕ) DG.Move). Standing (game_on d) (play_in d) k' ms' x)
            (sym (ap play_on h.holds))
            s;
      }

  -- what fits on e fits the nest of d
  Fits-along
      : (m : DG.Move) → Fits (desk_in e).nest_is (desk_in e).sitting m → Fits (desk_in d).nest_is (desk_in e).sitting m
  Fits-along m f = subst (λ (n : Nest). Fits n (desk_in e).sitting m) i.nest_is f

  along_put : (g : ℕ) → PutSays e g r → r.number ≡ 0 → Along d (most k (suc (length ms))) (put_at g ∷ ms) r.desk
  along_put g h z =
      let w : put_fault (desk_in e) g ≡ 0 = sym h.number_is ∙ z in
      let p = moved (game_on e) (play_in e) (put_at g) in
      along_to (most k (suc (length ms))) (put_at g ∷ ms) p (made_put e g r i.made h)
      (move_makes (put_fault (desk_in e) g) p e r h w)
      (standing_moved (game_on d) (play_in d) k ms (play_in e) (put_at g) i.standing
      (Fits-along (put_at g) (put_fits (desk_in e) g i.made.kept.gaps_fit i.made.paper.avoiding w)))

  along_lift : (g : ℕ) → LiftSays e g r → r.number ≡ 0 → Along d (most k (suc (length ms))) (lift_at g ∷ ms) r.desk
  along_lift g h z =
      let w : lift_fault (desk_in e) g ≡ 0 = sym h.number_is ∙ z in
      let p = moved (game_on e) (play_in e) (lift_at g) in
      along_to (most k (suc (length ms))) (lift_at g ∷ ms) p (made_lift e g r i.made h)
      (move_makes (lift_fault (desk_in e) g) p e r h w)
      (standing_moved (game_on d) (play_in d) k ms (play_in e) (lift_at g) i.standing
      (Fits-along (lift_at g) (lift_fits (desk_in e) g i.made.kept.gaps_fit i.made.paper.avoiding w)))

along_back
    : (d : DD.Desk) (k : ℕ) (ms : List DG.Move) (m : DG.Move) (e : DD.Desk) (r : DM.Moved)
    → Along d k (m ∷ ms) e → BackSays e r → r.number ≡ 0 → Along d k ms r.desk
along_back d k ms m e r i h z =
    let w : back_fault (desk_in e) ≡ 0 = sym h.number_is ∙ z in
    let p = taken_back (game_on e) (play_in e) in
    along_to d k (m ∷ ms) e i r k ms p (made_back e r i.made h) (move_makes (back_fault (desk_in e)) p e r h w)
    (standing_back (game_on d) (play_in d) (undoes (desk_in d).nest_is) k ms (play_in e) m i.standing
    (back_some (desk_in e) w))

along_other
    : (d : DD.Desk) (k : ℕ) (ms : List DG.Move) (e f : DD.Desk) → Along d k ms e → Stays e f → Along d k ms f
along_other d k ms e f i s =
    record {
      made = s.made;
      nest_is = s.nest_is ∙ i.nest_is;
      standing =
          subst
          (λ (x : Play (List ℕ) DG.Move). Standing (game_on d) (play_in d) k ms x)
          (sym s.play_is)
          i.standing;
    }

along : (d : DD.Desk) (k : ℕ) (ms : List DG.Move) (e : DD.Desk) → IsMade d → Run d k ms e → Along d k ms e
along d k ms e m Run.start =
    record { made = m; nest_is = refl; standing = standing_start (game_on d) (play_in d) (kept_few d m) }
along d k ms e m (Run.put k' ms' e' g r q h z) = along_put d k' ms' e' (along d k' ms' e' m q) r g h z
along d k ms e m (Run.lift k' ms' e' g r q h z) = along_lift d k' ms' e' (along d k' ms' e' m q) r g h z
along d k ms e m (Run.back k' ms' x e' r q h z) = along_back d k' ms' x e' r (along d k' (x ∷ ms') e' m q) h z
along d k ms e m (Run.other k' ms' e' f q u) =
    let i = along d k' ms' e' m q in
    along_other d k' ms' e' f i (unmoved_stays e' f i.made u)

-- ---- the theorems

-- a desk with moves has a nest
nest_there : (d : DD.Desk) → IsMade d → (length (desk_in d).moves ≡ 0 → ⊥) → d.loaded ≡ true
nest_there d m some = go d.loaded refl
  where
    go : (t : Bool) → d.loaded ≡ t → d.loaded ≡ true
    go true a = a
    go false a = absurd (some (ap (λ (x : Desk). length x.moves) (m.paper.no_nest a)))

-- a take-back with a move to take back
taken : (d : DD.Desk) (r : DM.Moved) → IsMade d → (length (desk_in d).moves ≡ 0 → ⊥) → BackSays d r → r.number ≡ 0
taken d r m some h =
    h.number_is ∙ rw (nest_there d m some, ne_eqb (length (desk_in d).moves) 0 some)

run_taken
    : (d : DD.Desk) (k : ℕ) (ms : List DG.Move) (m : DG.Move) (e : DD.Desk) (r : DM.Moved)
    → IsMade d → Run d k (m ∷ ms) e → k ≤ KEPT → BackSays e r → r.number ≡ 0
run_taken d k ms m e r made q l h =
    let i = along d k (m ∷ ms) e made q in
    taken e r i.made (one_kept (game_on d) (play_in d) k ms (play_in e) m i.standing l) h

-- the first of what is left
drop_first : (j : ℕ) (ms : List DG.Move) → j < length ms → drop j ms ≡ get_or ms j (put_at 0) ∷ drop (suc j) ms
drop_first j [] h = absurd (omega arith)
drop_first zero (m ∷ ms) h = refl
drop_first (suc j) (m ∷ ms) h = drop_first j ms (omega arith)

module _ (d e : DD.Desk) (k : ℕ) (ms : List DG.Move) (made : IsMade d) (q : Run d k ms e) (few : k ≤ KEPT) where
  -- the take-backs belong to the run
  backs_run : (j : ℕ) (f : DD.Desk) → Backs e j f → j ≤ length ms → Run d k (drop j ms) f
  backs_run j f Backs.start l = q
  backs_run j f (Backs.next i f' r b h) l =
      let u : Run d k (get_or ms i (put_at 0) ∷ drop (suc i) ms) f' =
      subst (λ (x : List DG.Move). Run d k x f') (drop_first i ms (omega arith)) (backs_run i f' b (omega arith)) in
      Run.back k (drop (suc i) ms) (get_or ms i (put_at 0)) f' r u h
      (run_taken d k (drop (suc i) ms) (get_or ms i (put_at 0)) f' r made u few h)
  backs_run j f (Backs.other i f' g b u) l = Run.other k (drop i ms) f' f (backs_run i f' b l) u

pub taken-back : TakenBack
taken-back d e f k ms made q few b =
    let none : drop (length ms) ms ≡ [] = drop_of_length-le ms {i = length ms} (omega arith) in
    let u : Run d k [] f =
    subst
    (λ (x : List DG.Move). Run d k x f)
    none
    (backs_run d e k ms made q few (length ms) f b (omega arith)) in
    let i = along d k [] f made u in
    let g : barriers d.sitting ≡ barriers f.sitting =
    all_back (game_on d) (play_in d) k (play_in f) i.standing in
    let s =
    Kept-same (nest_in d.nest) d.sitting f.sitting made.kept
    (subst (λ (n : Nest). Kept n f.sitting) i.nest_is i.made.kept)
    g in
    record { placement_is = g; counts_are = s.0; uncut_is = s.1 }

pub none_refused : NoneRefused
none_refused d e f k j ms r made q few b l h =
    let u : Run d k (get_or ms j (put_at 0) ∷ drop (suc j) ms) f =
    subst (λ (x : List DG.Move). Run d k x f) (drop_first j ms l) (backs_run d e k ms made q few j f b (omega arith)) in
    run_taken d k (drop (suc j) ms) (get_or ms j (put_at 0)) f r made u few h

pub latest_kept : LatestKept
latest_kept d e k ms made q = (along d k ms e made q).standing.kept_are

pub latest_in_order : LatestInOrder
latest_in_order d e ms made q =
    latest_kept d e (length ms) ms made q ∙
    ap
    (λ (l : ℕ). still_kept (game_on d) l (ms ++ (desk_in d).moves))
    (sym (length-append ms (desk_in d).moves)) ∙
    still_latest (game_on d) (ms ++ (desk_in d).moves)

-- a take-back of a desk with a nest and no moves
no_move : (d : DD.Desk) (r : DM.Moved) → d.loaded ≡ true → length (desk_in d).moves ≡ 0 → BackSays d r → NoMove d r
no_move d r a none h =
    let w : back_fault (desk_in d) ≡ 13 = rw (a, eq-eqb (length (desk_in d).moves) 0 none) in
    let z : eqb (back_fault (desk_in d)) 0 ≡ false = ne_eqb (back_fault (desk_in d)) 0 (λ q. omega arith) in
    record {
      number_is = h.number_is ∙ w;
      line_is = h.line_is;
      uncut_is = rw z at h.uncut_is;
      desk_is = rw z at h.desk_is;
    }

-- after j take-backs at most 64 - j moves are left
record Fewer (j : ℕ) (e : DD.Desk) : Type 0 where
  pub made : IsMade e
  pub has-nest : e.loaded ≡ true
  pub left : length (desk_in e).moves ≤ KEPT - j

one_less : (G : Game (List ℕ) DG.Move) (s : List ℕ) (ms : List DG.Move) → length (back_to G s ms).kept ≡ length ms - 1
one_less G s [] = refl
one_less G s (m ∷ ms) = omega arith

fewer_back : (j : ℕ) (e : DD.Desk) (r : DM.Moved) → Fewer j e → BackSays e r → Fewer (suc j) r.desk
fewer_back j e r w h = go (length (desk_in e).moves) refl
  where
    go : (n : ℕ) → length (desk_in e).moves ≡ n → Fewer (suc j) r.desk
    go zero q =
        let x = no_move e r w.has-nest q h in
        subst
        (λ (y : DD.Desk). Fewer (suc j) y)
        (sym x.desk_is)
        (record { made = w.made; has-nest = w.has-nest; left = omega arith })
    go (suc n) q =
        let p = taken_back (game_on e) (play_in e) in
        let z = taken e r w.made (λ y. omega arith) h in
        let x = move_makes (back_fault (desk_in e)) p e r h (sym h.number_is ∙ z) in
        let l : length (desk_in r.desk).moves ≡ length (desk_in e).moves - 1 =
        ap (λ (y : Desk). length y.moves) x.holds ∙ one_less (game_on e) (desk_in e).sitting (desk_in e).moves in
        record {
          made = made_back e r w.made h;
          has-nest = ap (λ (y : Desk). y.has_nest) x.holds ∙ w.has-nest;
          left = omega (arith, w.left);
        }

fewer : (d e : DD.Desk) (j : ℕ) → IsMade d → d.loaded ≡ true → Backs d j e → Fewer j e
fewer d e j m a Backs.start = record { made = m; has-nest = a; left = kept_few d m }
fewer d e j m a (Backs.next i f r b h) = fewer_back i f r (fewer d f i m a b) h
fewer d e j m a (Backs.other i f g b u) =
    let w = fewer d f i m a b in
    let s = unmoved_stays f g w.made u in
    record {
      made = s.made;
      has-nest = s.has-nest ∙ w.has-nest;
      left = subst (λ (x : Play (List ℕ) DG.Move). length x.kept ≤ KEPT - i) (sym s.play_is) w.left;
    }

pub sixty_fifth : SixtyFifth
sixty_fifth d e r m a b h =
    let w = fewer d e KEPT m a b in
    no_move e r w.has-nest (omega (arith, w.left)) h

pub cleared : Cleared
cleared d s q r l z h =
    let x = loaded_holds d s q l z in
    no_move q.desk r (ap (λ (y : Desk). y.has_nest) x.holds) (ap (λ (y : Desk). length y.moves) x.holds) h
