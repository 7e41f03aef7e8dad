-- Of the replies of whatever desk: the laws of rounds and of the floor, at the desk's nest and key. A refusal has no
-- tries, no calls and no floor.
-- Main statements: `reply_correct`, `reply_within`, `reply_more_budget`, `reply_floor`, `improve_alike`.
use mathlib.Core.Path.{◌≡◌, refl, sym, ◌∙◌, ap}
use mathlib.Core.Bool.{Bool, true, false, not}
use mathlib.Core.List.{List, []}
use Prim.Native.Nat.{ℕ, ◌≤◌}
use native.Mathlib.Omega.{arith}
use lib.Dec.{eqb}
use borrow.Author.Tests.{eqb-true, eq-eqb}
use Rattle.laws.specs.Choice.{pick, when}
use Rattle.laws.proofs.Tests.{never_both}
use Rattle.laws.proofs.Choices.{first_zero, unless_zero}
use Rattle.paper_nests.specs.Nests.{Nest}
use Rattle.run_barriers.specs.Calls.{OUTER, calls_of}
use Rattle.desk.specs.Desks.{Desk, desk, desk_in, state_fault}
use Rattle.desk.proofs.Ready.{ready_has}
use Rattle.desk.proofs.TwoDesks.{made_first, two_desks}
use Rattle.call_runs.specs.Says.{can_count}
use Rattle.call_runs.proofs.Countable.{countable}
use Rattle.call_improve.specs.Rounds.{improved_of}
use Rattle.call_improve.specs.Says.{Reply, refusal, found_of, improve_fault, reply_of}
use Rattle.call_improve.specs.Results.{ReplyCorrect, ReplyWithin, ReplyMoreBudget, ReplyFloor, ImproveAlike}
use Rattle.call_improve.proofs.Budgets.{improved_correct, tries_within, more_budget}
use Rattle.call_improve.proofs.FloorBelow.{floor_below}

-- what the search gives from a desk's key
abbrev found_on : Desk → List ℕ → ℕ → Reply
found_on x ts b = found_of x.nest_is ts (improved_of x.nest_is ts x.key b)

-- a reply without a refusal has what the search gives
answered :
    (x : Desk) (ts : List ℕ) (b : ℕ) → (reply_of x ts b).number ≡ 0 →
    (improve_fault x ts ≡ 0) × (reply_of x ts b ≡ found_on x ts b)
answered x ts b = go (eqb (improve_fault x ts) 0) refl
  where
    go :
        (t : Bool) → eqb (improve_fault x ts) 0 ≡ t →
        (pick t (found_on x ts b) (refusal (improve_fault x ts))).number ≡ 0 →
        (improve_fault x ts ≡ 0) × (pick t (found_on x ts b) (refusal (improve_fault x ts)) ≡ found_on x ts b)
    go true e h = (eqb-true (improve_fault x ts) 0 e, refl)
    go false e h = never_both (eq-eqb (improve_fault x ts) 0 h) e

pub reply_correct : ReplyCorrect
reply_correct d ts b r m h z =
    let x = desk_in d in
    let n = x.nest_is in
    let a = answered x ts b (sym (ap (λ (y : Reply). y.number) h) ∙ z) in
    let parts = first_zero (state_fault true x) (when (not (can_count OUTER n ts)) 17) a.0 in
    let none = (countable OUTER n ts (unless_zero (can_count OUTER n ts) 16 parts.1)).none_barred in
    let key = (made_first d m (ready_has d parts.0).1).is_key.correct in
    rw (ap (λ (y : Reply). y.gaps) (h ∙ a.1)) (improved_correct n ts none x.key b key)

pub reply_within : ReplyWithin
reply_within d ts b r h =
    omega (arith, ap (λ (y : Reply). y.tries) h, go (eqb (improve_fault (desk_in d) ts) 0))
  where
    go : (t : Bool) → (pick t (found_on (desk_in d) ts b) (refusal (improve_fault (desk_in d) ts))).tries ≤ b
    go true = tries_within (desk_in d).nest_is ts (desk_in d).key b
    go false = omega arith

pub reply_more_budget : ReplyMoreBudget
reply_more_budget d ts b c r s l h k =
    omega (
      arith,
      ap (λ (y : Reply). y.calls) h,
      ap (λ (y : Reply). y.calls) k,
      go (eqb (improve_fault (desk_in d) ts) 0),
    )
  where
    none : Reply
    none = refusal (improve_fault (desk_in d) ts)

    go : (t : Bool) → (pick t (found_on (desk_in d) ts c) none).calls ≤ (pick t (found_on (desk_in d) ts b) none).calls
    go true = more_budget (desk_in d).nest_is ts (desk_in d).key b c l
    go false = omega arith

pub reply_floor : ReplyFloor
reply_floor d ts b r gs h c =
    omega (arith, ap (λ (y : Reply). y.floor) h, go (eqb (improve_fault (desk_in d) ts) 0))
  where
    go :
        (t : Bool) →
        (pick t (found_on (desk_in d) ts b) (refusal (improve_fault (desk_in d) ts))).floor ≤ calls_of (desk_in d).nest_is ts gs
    go true = floor_below (desk_in d).nest_is ts gs c
    go false = omega arith

pub improve_alike : ImproveAlike
improve_alike d e ts b r s m n loaded nest planned h k =
    h ∙ alike (λ l x q g. reply_of (desk l x q g [] []) ts b) ∙ sym k
  where
    key : (desk_in d).key ≡ (desk_in e).key
    key = (two_desks d e m n loaded nest planned).same_key

    alike
        : (f : Bool → Nest → Bool → List ℕ → Reply)
        → f d.loaded (desk_in d).nest_is d.planned (desk_in d).key ≡
        f e.loaded (desk_in e).nest_is e.planned (desk_in e).key
    alike f = cc (loaded, nest, planned, key)
