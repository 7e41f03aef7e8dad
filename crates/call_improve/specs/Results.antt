-- What holds of the replies of whatever desk: the placement is correct, the tries stay within the budget, a larger
-- budget never gives more calls, no correct placement has fewer than the floor's; and two desks with the same nest
-- reply alike.
-- Main definitions: `ReplyCorrect`, `ReplyWithin`, `ReplyMoreBudget`, `ReplyFloor`, `ImproveAlike`.
use Rattle.std.specs.Prelude.{◌≡◌, true, List, ℕ, ◌≤◌}
use Rattle.paper_placements.specs.Placements.{is_correct}
use Rattle.paper_placements.specs.Words.{gaps_in}
use Rattle.run_barriers.specs.Calls.{calls_of}
use Rattle.desk.specs.declared.Desk as DD
use Rattle.desk.specs.Desks.{desk_in, IsMade}
use Rattle.call_improve.specs.declared.Improved as DI
use Rattle.call_improve.specs.Says.{reply_in, ImproveSays}

abbrev pub ReplyCorrect : Type 0
ReplyCorrect =
    (d : DD.Desk) (ts : List ℕ) (budget : ℕ) (r : DI.Improved) →
    IsMade d →
    ImproveSays d ts budget r →
    r.number ≡ 0 → is_correct (desk_in d).nest_is (gaps_in r.placement.words) ≡ true

abbrev pub ReplyWithin : Type 0
ReplyWithin =
    (d : DD.Desk) (ts : List ℕ) (budget : ℕ) (r : DI.Improved) →
    ImproveSays d ts budget r → r.tries ≤ budget

abbrev pub ReplyMoreBudget : Type 0
ReplyMoreBudget =
    (d : DD.Desk) (ts : List ℕ) (b c : ℕ) (r s : DI.Improved) →
    b ≤ c →
    ImproveSays d ts b r → ImproveSays d ts c s → s.calls ≤ r.calls

abbrev pub ReplyFloor : Type 0
ReplyFloor =
    (d : DD.Desk) (ts : List ℕ) (budget : ℕ) (r : DI.Improved) (gs : List ℕ) →
    ImproveSays d ts budget r →
    is_correct (desk_in d).nest_is gs ≡ true → r.floor ≤ calls_of (desk_in d).nest_is ts gs

-- two desks with the same nest, and with a key both or neither
abbrev pub ImproveAlike : Type 0
ImproveAlike =
    (d e : DD.Desk) (ts : List ℕ) (budget : ℕ) (r s : DI.Improved) →
    IsMade d →
    IsMade e →
    d.loaded ≡ e.loaded →
    (desk_in d).nest_is ≡ (desk_in e).nest_is →
    d.planned ≡ e.planned →
    ImproveSays d ts budget r → ImproveSays e ts budget s → reply_in r ≡ reply_in s
