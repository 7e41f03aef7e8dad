-- Put and Lift: what each way through the code says of the reply.
-- Main statements: `refused_with`, `made_with`; `ready`; `put_there`, `put_barred`, `put_made`; `lift_missing`,
-- `lift_made`.
use mathlib.Core.Path.{◌≡◌, refl, sym, ◌∙◌, ap}
use mathlib.Core.Bool.{Bool, true, false, ◌&&◌, not}
use mathlib.Core.List.{List}
use Prim.Native.Nat.{ℕ, ◌<◌}
use native.Mathlib.Omega.{arith}
use lib.Dec.{eqb, ltb}
use borrow.Author.Tests.{ltb-true, eq-eqb, ne_eqb}
use Rattle.laws.specs.Choice.{when, first_of, is_in}
use Rattle.laws.proofs.Choices.{first_none}
use Rattle.paper_nests.specs.Stored.{nest_in}
use Rattle.paper_placements.specs.Words.{GAPS, holds}
use Rattle.paper_placements.proofs.Words.{in_gaps}
use Rattle.desk_sitting.specs.declared.Sitting as DS
use Rattle.desk_sitting.specs.Kept as Kept
use Rattle.desk_moves.specs.declared.Move as DG
use Rattle.desk_moves.specs.declared.Moves as DV
use Rattle.desk_moves.specs.Ring.{moves_in, IsRing, PushSays}
use Rattle.desk_moves.specs.TakeBack.{Play, moved}
use Rattle.desk_moves.specs.Game.{put_at, lift_at, sitting_game}
use Rattle.desk.specs.declared.Desk as DD
use Rattle.desk.specs.Desks.{Desk, play_on, with_play, desk_in, IsMade}
use Rattle.desk.specs.Says.{Holds}
use Rattle.call_moves.specs.declared.Moved as DM
use Rattle.call_moves.specs.Says.{gap_fault, put_fault, lift_fault, after_put, after_lift, uncut_on}
use Rattle.call_moves.specs.Says.{MoveSays, PutSays, LiftSays, refused_as, seated, moved_to}

-- ---- a call's reply r, of a desk made by calls

module _ (d : DD.Desk) (made : IsMade d) (r : DM.Moved) where
  -- a refusal, whatever the call
  pub refused_with
      : (number : ℕ) (after : Desk) (k : ℕ) → number ≡ k → (k ≡ 0 → ⊥) → r ≡ refused_as k d → MoveSays number after d r
  refused_with number after k e h is =
      let z : eqb number 0 ≡ false = ne_eqb number 0 (λ q. h (sym e ∙ q)) in
      rw is (record { number_is = sym e; line_is = refl; uncut_is = rw z; desk_is = rw z refl })

  -- the desk with the new sitting, whose kept number is told, and the new moves
  pub made_with
      : (number : ℕ) (p : Play (List ℕ) DG.Move) (s : DS.Sitting) (v : DV.Moves)
      → number ≡ 0
      → Kept.barriers s ≡ p.state
      → Kept.Kept (nest_in d.nest) s
      → moves_in v ≡ p.kept
      → IsRing v
      → r ≡ moved_to d s v
      → MoveSays number (with_play p (desk_in d)) d r
  made_with number p s v e b k m i is =
      let z : eqb number 0 ≡ true = eq-eqb number 0 e in
      let h : Holds (seated d s v) (with_play p (desk_in d)) =
      record { holds = rw (b, m); counted = made.counted; kept = k; ring = i } in
      let u : s.uncut ≡ uncut_on (with_play p (desk_in d)) = rw (← b) k.uncut_is in
      rw is (record { number_is = sym e; line_is = refl; uncut_is = rw z u; desk_is = rw z h })

-- ---- the number of a gap, as the code tells it

abbrev fault_in : Bool → ℕ → ℕ → ℕ
fault_in loaded count g = first_of (when (not loaded) 10) (when (not (ltb 0 g && ltb g count)) 8)

All-three
    : (t a b : Bool) → first_of (when (not t) 10) (when (not (a && b)) 8) ≡ 0 → (t ≡ true) × (a ≡ true) × (b ≡ true)
All-three true true true h = (refl, refl, refl)
All-three true true false h = absurd (omega arith)
All-three true false b h = absurd (omega arith)
All-three false a b h = absurd (omega arith)

-- the state of a call that wants no key
nest_only : (a : Bool) → first_of (when (not a) 10) 0 ≡ when (not a) 10
nest_only true = refl
nest_only false = refl

-- ---- the gap is one of the nest

module _ (d : DD.Desk) (g : ℕ) (made : IsMade d) (none : fault_in d.loaded d.nest.count g ≡ 0) where
  pub ready : Kept.Ready d.nest d.sitting g
  ready =
      let a = All-three d.loaded (ltb 0 g) (ltb g d.nest.count) none in
      record {
        counted = made.counted;
        valid = made.paper.valid a.0;
        kept = made.kept;
        first = ltb-true 0 g a.1;
        inside = ltb-true g d.nest.count a.2;
      }

  pub below : g < GAPS
  below = omega (arith, ready.inside, made.counted.count_fits)

-- ---- a move of a desk made by calls, with gap g and reply r

module _ (d : DD.Desk) (g : ℕ) (made : IsMade d) (r : DM.Moved) where
  abbrev told : ℕ
  told = fault_in d.loaded d.nest.count g

  abbrev ws : List ℕ
  ws = d.sitting.placement.words

  -- the desk's count is that of its nest
  fault_told : told ≡ gap_fault (desk_in d) g
  fault_told = rw (nest_only d.loaded) (ap (λ (n : ℕ). fault_in d.loaded n g) made.counted.count_is)

  -- 12 and 16 of a Put
  abbrev put_later : ℕ
  put_later = first_of (when (is_in g (desk_in d).sitting) 12) (when (is_in g (desk_in d).nest_is.barred) 16)

  -- no number: there is a nest, and the gap is one of its gaps
  module _ (none : told ≡ 0) where
    -- the placement tells whether the gap is there
    there : (b : Bool) → holds ws g ≡ b → is_in g (desk_in d).sitting ≡ b
    there b h = in_gaps ws g (below d g made none) ∙ h

    put_number
        : (b c : Bool)
        → holds ws g ≡ b
        → is_in g (desk_in d).nest_is.barred ≡ c
        → put_fault (desk_in d) g ≡ first_of (when b 12) (when c 16)
    put_number b c h k =
        first_none (gap_fault (desk_in d) g) put_later (sym fault_told ∙ none) ∙ rw (there b h, k)

    lift_number : (b : Bool) → holds ws g ≡ b → lift_fault (desk_in d) g ≡ when (not b) 12
    lift_number b h =
        first_none (gap_fault (desk_in d) g) (when (not (is_in g (desk_in d).sitting)) 12) (sym fault_told ∙ none) ∙
        ap (λ (t : Bool). when (not t) 12) (there b h)

    pub put_there : holds ws g ≡ true → r ≡ refused_as 12 d → PutSays d g r
    put_there h =
        refused_with d made r (put_fault (desk_in d) g) (after_put (desk_in d) g) 12 (put_number true _ h refl)
        (λ q. omega arith)

    pub put_barred
        : holds ws g ≡ false → is_in g (desk_in d).nest_is.barred ≡ true → r ≡ refused_as 16 d → PutSays d g r
    put_barred h k =
        refused_with d made r (put_fault (desk_in d) g) (after_put (desk_in d) g) 16 (put_number false true h k)
        (λ q. omega arith)

    pub lift_missing : holds ws g ≡ false → r ≡ refused_as 12 d → LiftSays d g r
    lift_missing h =
        refused_with d made r (lift_fault (desk_in d) g) (after_lift (desk_in d) g) 12 (lift_number false h)
        (λ q. omega arith)

    pub put_made
        : (s : DS.Sitting) (v : DV.Moves)
        → holds ws g ≡ false
        → is_in g (desk_in d).nest_is.barred ≡ false
        → Kept.PutSays (nest_in d.nest) g d.sitting s
        → PushSays d.moves (put_at g) v
        → r ≡ moved_to d s v
        → PutSays d g r
    put_made s v h k p q =
        let after = moved (sitting_game (nest_in d.nest)) (play_on (desk_in d)) (put_at g) in
        made_with d made r (put_fault (desk_in d) g) after s v (put_number false false h k) p.barriers_are p.kept
        q.moves_are q.ring

    pub lift_made
        : (s : DS.Sitting) (v : DV.Moves)
        → holds ws g ≡ true
        → Kept.LiftSays (nest_in d.nest) g d.sitting s
        → PushSays d.moves (lift_at g) v
        → r ≡ moved_to d s v
        → LiftSays d g r
    lift_made s v h p q =
        let after = moved (sitting_game (nest_in d.nest)) (play_on (desk_in d)) (lift_at g) in
        made_with d made r (lift_fault (desk_in d) g) after s v (lift_number true h) p.barriers_are p.kept
        q.moves_are q.ring
