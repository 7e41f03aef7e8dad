-- Demand 1 of the state: a refused call leaves desk and buffer as they were, and a call out of turn gets its number.
-- Main statements: `step_kept`, `unwritten`, `plan_early`, `numbered`, `mark_early`, `write_early`.
use mathlib.Core.Path.{◌≡◌, refl, sym, ◌∙◌, ap}
use mathlib.Core.Bool.{true, false}
use mathlib.Core.List.{List}
use Prim.Native.Nat.{ℕ, zero, suc, ◌<◌}
use native.Mathlib.Omega.{arith}
use lib.Dec.{eqb, ltb}
use lib.ListN.{length}
use borrow.Author.Tests.{ne_eqb}
use Rattle.std.proofs.Common.{Result, Ok, Err}
use Rattle.laws.specs.Choice.{pick, when, first_of}
use Rattle.paper_refusals.specs.declared.Fault as PF
use Rattle.paper_refusals.specs.declared.Refusal.{Refusal}
use Rattle.paper_refusals.specs.declared.Refusal.TheVariants as R
use Rattle.paper_refusals.specs.Numbers.{number_of}
use Rattle.paper_order.specs.Verdicts.{mark_of}
use Rattle.paper_texts.specs.PlacementTexts.{key_text}
use Rattle.desk.specs.declared.Desk as DD
use Rattle.desk.specs.declared.Reply as DR
use Rattle.desk.specs.declared.Answer as DA
use Rattle.desk.specs.declared.Verdict as DV
use Rattle.call_moves.specs.declared.Moved as DS
use Rattle.desk.specs.Desks.{Desk, desk_in, state_fault, plan_fault, Fault, fault}
use Rattle.desk.specs.Says.{PlanSays, MarkSays, WriteSays, mark_in, read_in, place_fault, write_fault, Mark, given, refused}
use Rattle.desk.proofs.Made.{refused_keeps, plan_keeps}
use Rattle.call_moves.specs.Says.{put_fault, lift_fault, back_fault, after_put, after_lift, after_back, MoveSays}
use Rattle.pages.specs.Demands.{Step, OutOfTurn, number_told}

pub move_kept
    : (number : ℕ) (after : Desk) (d : DD.Desk) (r : DS.Moved) → MoveSays number after d r → (r.number ≡ 0 → ⊥)
    → r.desk ≡ d
move_kept number after d r h z = rw (ne_eqb number 0 (λ q. z (h.number_is ∙ q))) at h.desk_is

pub step_kept : (d e : DD.Desk) (n : ℕ) → Step d n e → (n ≡ 0 → ⊥) → e ≡ d
step_kept d e n (Step.refused t r h w) z = refused_keeps d t r h z
step_kept d e n (Step.plan r h) z = plan_keeps d r (λ q. z (h.number_is ∙ q)) h
step_kept d e n (Step.put g r h) z = move_kept (put_fault (desk_in d) g) (after_put (desk_in d) g) d r h z
step_kept d e n (Step.lift g r h) z = move_kept (lift_fault (desk_in d) g) (after_lift (desk_in d) g) d r h z
step_kept d e n (Step.take_back r h) z = move_kept (back_fault (desk_in d)) (after_back (desk_in d)) d r h z
step_kept d e n (Step.over old o h) z = absurd (z refl)

pub unwritten
    : (d : DD.Desk) (out out' : List ℕ) (a : DA.Answer) → WriteSays d out out' a → (a.number ≡ 0 → ⊥) → out' ≡ out
unwritten d out out' a h z = rw (ne_eqb (write_fault (desk_in d) out) 0 (λ q. z (h.number_is ∙ q))) at h.out_is

-- calls out of turn
pub plan_early : (d : DD.Desk) (r : DR.Reply) → PlanSays d r → d.loaded ≡ false → (r.number ≡ 10) × (r.line ≡ 0)
plan_early d r h z =
    let e : plan_fault (desk_in d) ≡ 10 = rw z in
    (h.number_is ∙ e, h.line_is)

pub turn_state : (d : DD.Desk) (n : ℕ) → OutOfTurn d n → (state_fault true (desk_in d) ≡ n) × (0 < n)
turn_state d n (OutOfTurn.no_nest z) = (rw z, omega arith)
turn_state d n (OutOfTurn.no_key y z) = (rw (y, z), omega arith)

-- the page's number of a refusal is the one that callers are told
pub numbered : (r : Refusal) → number_of r ≡ number_told r
numbered R.NoFrame = refl
numbered R.WrongKind = refl
numbered R.LatePoint = refl
numbered R.Misplaced = refl
numbered R.TooMany = refl
numbered R.WrongPoint = refl
numbered R.WrongOrder = refl
numbered R.WrongGap = refl
numbered R.ShortBuffer = refl
numbered R.NoNest = refl
numbered R.NoKey = refl
numbered R.NothingMoved = refl
numbered R.NoMoveLeft = refl
numbered R.NotOneLoop = refl
numbered R.Blocked = refl
numbered R.BarredGap = refl
numbered R.WrongTurns = refl
numbered R.TooLarge = refl
numbered R.WrongSize = refl
numbered R.WrongSet = refl
numbered R.Unheld = refl

abbrev pub fault_in : Mark → Fault
fault_in (refused f) = f
fault_in (given v) = fault 0 0

refused_is
    : (m : Result DV.Verdict PF.Fault) (n : ℕ) → mark_in m ≡ refused (fault n 0)
    → (f : PF.Fault) × ((m ≡ Err f) × (number_told f.refusal ≡ n) × (f.line ≡ 0))
refused_is (Ok v) n e = let q : ◌≡◌ {A = ℕ} 0 1 = cc e in absurd (omega arith)
refused_is (Err f) n e =
    (f, (refl, sym (numbered f.refusal) ∙ ap (λ (x : Mark). (fault_in x).number) e, ap (λ (x : Mark). (fault_in x).place) e))

pub mark_early
    : (d : DD.Desk) (t : List ℕ) (m : Result DV.Verdict PF.Fault) (n : ℕ) → MarkSays d t m → OutOfTurn d n
    → (f : PF.Fault) × ((m ≡ Err f) × (number_told f.refusal ≡ n) × (f.line ≡ 0))
mark_early d t m n h o =
    let e = turn_state d n o in
    refused_is m n (h ∙ refusing (place_fault (desk_in d) t) n (by (state_fault true (desk_in d)) n e.0 e.1) e.1)
  where
    by
        : (s n : ℕ) → s ≡ n → 0 < n
        → pick (eqb s 0) (fault (read_in (desk_in d) t).number (read_in (desk_in d) t).place) (fault s 0) ≡ fault n 0
    by s zero q l = absurd (omega arith)
    by s (suc n) q l = rw (q, ne_eqb (suc n) 0 (λ z. omega arith))

    refusing
        : (f : Fault) (n : ℕ) → f ≡ fault n 0 → 0 < n
        → pick (eqb f.number 0)
        (given (mark_of (desk_in d).nest_is (desk_in d).key (read_in (desk_in d) t).gaps))
        (refused f)
        ≡ refused (fault n 0)
    refusing f n q l = rw (q, ne_eqb n 0 (λ z. omega arith))

pub write_early
    : (d : DD.Desk) (out out' : List ℕ) (a : DA.Answer) (n : ℕ) → WriteSays d out out' a → OutOfTurn d n
    → (a.number ≡ n) × (a.line ≡ 0)
write_early d out out' a n h o =
    let e = turn_state d n o in
    let short = when (ltb (length out) (length (key_text (desk_in d).key))) 9 in
    (h.number_is ∙ by (state_fault true (desk_in d)) n short e.0 e.1, h.line_is)
  where
    by : (s n k : ℕ) → s ≡ n → 0 < n → first_of s k ≡ n
    by s zero k q l = absurd (omega arith)
    by s (suc n) k q l = rw q
