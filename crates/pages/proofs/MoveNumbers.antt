-- The numbers of Put, Lift and Take back, and how many moves can be taken back.
-- Main statements: `put_kept`, `lift_kept`, `reached_standing`, `back_kept`.
use mathlib.Core.Path.{◌≡◌, refl, sym, ◌∙◌, ap, subst}
use mathlib.Core.Bool.{Bool, true, false, ◌&&◌, not}
use mathlib.Core.List.{List, [], ◌∷◌}
use mathlib.Core.Logic.{⊎_elim}
use Prim.Native.Nat.{ℕ, zero, suc, ◌≤◌, ◌<◌}
use native.Mathlib.Omega.{arith}
use lib.Dec.{eqb}
use lib.ListN.{length, take, length-take}
use borrow.Author.Tests.{eq-eqb, ne_eqb, lt-ltb}
use Rattle.laws.specs.Choice.{pick, when, first_of, is_in}
use Rattle.laws.proofs.Tests.{never_both, and_intro, eq_or, le_or}
use Rattle.paper_nests.specs.Gaps.{is_gap}
use Rattle.paper_nests.specs.Stored.{nest_in}
use Rattle.paper_nests.proofs.Bars.{gap_within}
use Rattle.paper_placements.specs.Placements.{are_gaps_from}
use Rattle.paper_placements.proofs.Rising.{rising_wider}
use Rattle.paper_barred.specs.Reduced.{is_blocked}
use Rattle.desk_sitting.specs.Kept.{barriers}
use Rattle.desk_moves.specs.declared.Move as DG
use Rattle.desk_moves.specs.Game.{put_at, lift_at, sitting_game}
use Rattle.desk.specs.declared.Desk as DD
use Rattle.desk.specs.declared.PlainDesk as OD
use Rattle.call_moves.specs.declared.Moved as DS
use Rattle.desk_moves.specs.declared.Moves as DV
use Rattle.desk_moves.specs.Ring.{moves_in}
use Rattle.desk_moves.specs.TakeBack.{back_to}
use Rattle.desk.specs.Desks.{Desk, desk, with_key, desk_in, IsMade, over_in}
use Rattle.desk.specs.Says.{Holds}
use Rattle.desk.proofs.Made.{loaded_holds, refused_keeps}
use Rattle.call_moves.specs.Says.{MoveSays, PutSays, LiftSays, BackSays, put_fault, lift_fault, back_fault, after_put}
use Rattle.call_moves.specs.Says.{after_lift}
use Rattle.call_moves.specs.Says.{after_back}
use Rattle.pages.specs.Demands.{In, paper_in, Step, Reached, SetIn}
use Rattle.pages.specs.Numbers.{IsGap, points_on, PutNumber, LiftNumber, Next, Standing, BackNumber}
use Rattle.pages.proofs.Lists.{in_is, is-in}
use Rattle.pages.proofs.Kept.{set_is}
use Rattle.pages.proofs.Turns.{move_kept}

-- ---- Put and Lift

module _ (d : DD.Desk) (m : IsMade d) (gs : List ℕ) (seat : SetIn d.sitting.placement.words gs) where
  wide : are_gaps_from 0 256 (barriers d.sitting) ≡ true
  wide =
      rising_wider 0 (length (nest_in d.nest).points) 256 (barriers d.sitting)
      (omega (arith, m.counted.count_is, m.counted.count_fits)) m.kept.gaps_fit

  same : gs ≡ barriers d.sitting
  same = set_is d.sitting.placement.words gs wide seat

  gap_here : (g : ℕ) → is_gap (points_on d) g ≡ true → IsGap (points_on d) g
  gap_here g h = gap_within (points_on d) g h

  here_gap : (g : ℕ) → is_gap (points_on d) g ≡ false → IsGap (points_on d) g → ⊥
  here_gap g h i = never_both (and_intro (lt-ltb 0 g i.0) (lt-ltb g (length (points_on d)) i.1)) h

  not_in : (g : ℕ) (xs : List ℕ) → is_in g xs ≡ false → In g xs → ⊥
  not_in g xs h i = never_both (in_is g xs i.0 i.1) h

  pub put_kept : (g : ℕ) (r : DS.Moved) → PutSays d g r → PutNumber d gs g r.number × (r.line ≡ 0)
  put_kept g r h = (
    subst (PutNumber d gs g) (sym h.number_is)
        (go d.loaded (is_gap (points_on d) g) (is_in g (barriers d.sitting))
        (is_in g (paper_in d.nest).barred) refl refl
        (ap (is_in g) same) refl),
    h.line_is,
  )
    where
      go
          : (a b c f : Bool) → d.loaded ≡ a → is_gap (points_on d) g ≡ b → is_in g gs ≡ c
          → is_in g (paper_in d.nest).barred ≡ f
          → PutNumber d gs g
          (first_of (first_of (first_of (when (not a) 10) 0) (when (not b) 8)) (first_of (when c 12) (when f 16)))
      go false b c f w x y z = PutNumber.no_nest w
      go true false c f w x y z = PutNumber.no_gap w (here_gap g x)
      go true true true f w x y z = PutNumber.there w (gap_here g x) (is-in g gs y)
      go true true false true w x y z =
          PutNumber.barred w (gap_here g x) (not_in g gs y) (is-in g (paper_in d.nest).barred z)
      go true true false false w x y z =
          PutNumber.put w (gap_here g x) (not_in g gs y) (not_in g (paper_in d.nest).barred z)

  pub lift_kept : (g : ℕ) (r : DS.Moved) → LiftSays d g r → LiftNumber d gs g r.number × (r.line ≡ 0)
  lift_kept g r h = (
    subst (LiftNumber d gs g) (sym h.number_is)
        (go d.loaded (is_gap (points_on d) g) (is_in g (barriers d.sitting)) refl refl (ap (is_in g) same)),
    h.line_is,
  )
    where
      go
          : (a b c : Bool) → d.loaded ≡ a → is_gap (points_on d) g ≡ b → is_in g gs ≡ c
          → LiftNumber d gs g (first_of (first_of (first_of (when (not a) 10) 0) (when (not b) 8)) (when (not c) 12))
      go false b c w x y = LiftNumber.no_nest w
      go true false c w x y = LiftNumber.no_gap w (here_gap g x)
      go true true false w x y = LiftNumber.not_there w (gap_here g x) (not_in g gs y)
      go true true true w x y = LiftNumber.lifted w (gap_here g x) (is-in g gs y)

-- ---- moves that can be taken back

abbrev many : Desk → ℕ
many x = length x.moves

kept_next : (k j : ℕ) (m : DG.Move) (ms : List DG.Move) → Next k j → length ms ≡ k → length (take 64 (m ∷ ms)) ≡ j
kept_next k j m ms (Next.more l) e = omega (arith, length-take 63 ms)
kept_next k j m ms Next.forgotten e = omega (arith, length-take 63 ms)

made_move
    : (number : ℕ) (after : Desk) (d : DD.Desk) (r : DS.Moved) → MoveSays number after d r → r.number ≡ 0
    → desk_in r.desk ≡ after
made_move number after d r h z =
    let q : Holds r.desk after = rw (eq-eqb number 0 (sym h.number_is ∙ z)) at h.desk_is in
    q.holds

-- a desk that goes over has none
none_over : (old : OD.PlainDesk) → many (over_in old) ≡ 0
none_over old = go (old.planned && not (is_blocked (nest_in old.nest)))
  where
    go
        : (t : Bool)
        → many (pick t (with_key (desk old.loaded (nest_in old.nest) false [] [] []))
        (desk old.loaded (nest_in old.nest) false [] [] []))
        ≡ 0
    go true = refl
    go false = refl

standing_many : (d : DD.Desk) (k : ℕ) → Standing d k → many (desk_in d) ≡ k
standing_many d k (Standing.new_or_reset h) = ap many h.holds
standing_many d k (Standing.load d' t r h z) = ap many (loaded_holds d' t r h z).holds
standing_many d k (Standing.over old h) = ap many h.holds ∙ none_over old
standing_many d k (Standing.refused d' t r s h z) =
    ap (λ (x : DD.Desk). many (desk_in x)) (refused_keeps d' t r h z) ∙ standing_many d' k s
standing_many d k (Standing.plan d' r s h) =
    ap (λ (x : DV.Moves). length (moves_in x)) h.moves_are ∙ standing_many d' k s
standing_many d k (Standing.put d' g r {k = i} s h z n) =
    ap many (made_move (put_fault (desk_in d') g) (after_put (desk_in d') g) d' r h z) ∙
    kept_next i k (put_at g) (desk_in d').moves n (standing_many d' i s)
standing_many d k (Standing.lift d' g r {k = i} s h z n) =
    ap many (made_move (lift_fault (desk_in d') g) (after_lift (desk_in d') g) d' r h z) ∙
    kept_next i k (lift_at g) (desk_in d').moves n (standing_many d' i s)
standing_many d k (Standing.take_back d' r s h z) =
    ap many (made_move (back_fault (desk_in d')) (after_back (desk_in d')) d' r h z) ∙
    popped (desk_in d') (standing_many d' (suc k) s)
  where
    popped : (x : Desk) → many x ≡ suc k → many (after_back x) ≡ k
    popped x e = go x.moves e
      where
        go
            : (ms : List DG.Move) → length ms ≡ suc k
            → length (back_to (sitting_game x.nest_is) x.sitting ms).kept ≡ k
        go [] e = absurd (omega arith)
        go (m ∷ ms) e = omega arith

next_of : (k : ℕ) → k ≤ 64 → (j : ℕ) × Next k j
next_of k l =
    ⊎_elim
    (λ (z : 64 ≤ k). let e : 64 ≡ k = omega arith in subst (λ (x : ℕ). (j : ℕ) × Next x j) e (64, Next.forgotten))
    (λ (z : k < 64). (suc k, Next.more z))
    (le_or 64 k)

-- ---- every reached desk has a number of moves that can be taken back

back_number : (d : DD.Desk) (k : ℕ) → many (desk_in d) ≡ k → BackNumber d k (back_fault (desk_in d))
back_number d k e = go d.loaded refl
  where
    moves : (k : ℕ) → many (desk_in d) ≡ k → d.loaded ≡ true → BackNumber d k (when (eqb k 0) 13)
    moves zero e h = BackNumber.no_move h
    moves (suc k) e h =
        let z : when (eqb (suc k) 0) 13 ≡ 0 = rw (ne_eqb (suc k) 0 (λ q. omega arith)) in
        subst (BackNumber d (suc k)) (sym z) (BackNumber.taken h)

    go : (t : Bool) → d.loaded ≡ t → BackNumber d k (back_fault (desk_in d))
    go false h =
        let z : back_fault (desk_in d) ≡ 10 = rw h in
        subst (BackNumber d k) (sym z) (BackNumber.no_nest h)
    go true h =
        let z : back_fault (desk_in d) ≡ when (eqb (many (desk_in d)) 0) 13 = rw h in
        subst (BackNumber d k) (sym (z ∙ ap (λ (j : ℕ). when (eqb j 0) 13) e)) (moves k e h)

pub back_kept
    : (d : DD.Desk) (k : ℕ) (r : DS.Moved) → Standing d k → BackSays d r → BackNumber d k r.number × (r.line ≡ 0)
back_kept d k r s h =
    (subst (BackNumber d k) (sym h.number_is) (back_number d k (standing_many d k s)), h.line_is)

-- with its bound
abbrev Stands : DD.Desk → Type 0
Stands d = (k : ℕ) × (Standing d k × (k ≤ 64))

next_few : (k j : ℕ) → Next k j → j ≤ 64
next_few k j (Next.more l) = omega arith
next_few k j Next.forgotten = omega arith

step_stands : (d e : DD.Desk) (n : ℕ) → Step d n e → Stands d → Stands e
step_stands d e n (Step.refused t r h z) s = (s.0, (Standing.refused d t r s.1.0 h z, s.1.1))
step_stands d e n (Step.plan r h) s = (s.0, (Standing.plan d r s.1.0 h, s.1.1))
step_stands d e n (Step.over old o h) s = (0, (Standing.over old h, omega arith))
step_stands d e n (Step.put g r h) s =
    let j = next_of s.0 s.1.1 in
    ⊎_elim
    (λ (z : r.number ≡ 0). (j.0, (Standing.put d g r s.1.0 h z j.1, next_few s.0 j.0 j.1)))
    (λ (z : r.number ≡ 0 → ⊥).
    subst Stands (sym (move_kept (put_fault (desk_in d) g) (after_put (desk_in d) g) d r h z)) s)
    (eq_or r.number 0)
step_stands d e n (Step.lift g r h) s =
    let j = next_of s.0 s.1.1 in
    ⊎_elim
    (λ (z : r.number ≡ 0). (j.0, (Standing.lift d g r s.1.0 h z j.1, next_few s.0 j.0 j.1)))
    (λ (z : r.number ≡ 0 → ⊥).
    subst Stands (sym (move_kept (lift_fault (desk_in d) g) (after_lift (desk_in d) g) d r h z)) s)
    (eq_or r.number 0)
step_stands d e n (Step.take_back r h) s =
    ⊎_elim
    (λ (z : r.number ≡ 0). taken s.0 s.1.0 s.1.1 z (back_kept d s.0 r s.1.0 h).0)
    (λ (z : r.number ≡ 0 → ⊥).
    subst Stands (sym (move_kept (back_fault (desk_in d)) (after_back (desk_in d)) d r h z)) s)
    (eq_or r.number 0)
  where
    by : (k i : ℕ) → Standing d k → k ≤ 64 → i ≡ 0 → r.number ≡ 0 → BackNumber d k i → Stands r.desk
    by k i st l q z (BackNumber.no_nest w) = absurd (omega arith)
    by k i st l q z (BackNumber.no_move w) = absurd (omega arith)
    by k i st l q z (BackNumber.taken {k = j} w) = (j, (Standing.take_back d r st h z, omega arith))

    taken : (k : ℕ) → Standing d k → k ≤ 64 → r.number ≡ 0 → BackNumber d k r.number → Stands r.desk
    taken k st l z b = by k r.number st l z z b

pub reached_standing : (d : DD.Desk) → Reached d → Stands d
reached_standing d (Reached.new_or_reset h) = (0, (Standing.new_or_reset h, omega arith))
reached_standing d (Reached.load d' t r q h) =
    let s = reached_standing d' q in
    ⊎_elim
    (λ (z : r.number ≡ 0). (0, (Standing.load d' t r h z, omega arith)))
    (λ (z : r.number ≡ 0 → ⊥). (s.0, (Standing.refused d' t r s.1.0 h z, s.1.1)))
    (eq_or r.number 0)
reached_standing d (Reached.step d' n q s) = step_stands d' d n s (reached_standing d' q)
