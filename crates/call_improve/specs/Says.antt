-- What the call promises that tries for fewer calls (job 13): where the tries lead, what ended them, and the floor. It
-- does not change the desk.
-- Main definitions: `Reply`, `reply_in`, `found_of`, `reply_of`, `ImproveSays`.
use Rattle.std.specs.Prelude.{◌≡◌, List, [], ℕ, eqb}
use Rattle.laws.specs.Choice.{pick}
use Rattle.paper_nests.specs.Nests.{Nest}
use Rattle.paper_placements.specs.Words.{gaps_in}
use Rattle.run_barriers.specs.Calls.{OUTER, calls_of}
use Rattle.desk.specs.declared.Desk as DD
use Rattle.desk.specs.Desks.{Desk, desk_in}
use Rattle.call_runs.specs.Says.{calls_fault}
use Rattle.call_improve.specs.declared.Improved as DI
use Rattle.call_improve.specs.Rounds.{Outcome, improved_of}
use Rattle.call_improve.specs.Floor.{floor_of}

-- the numbers that a reply gives, and its gaps
pub record Reply : Type 0 where
  pub number : ℕ
  pub line : ℕ
  pub gaps : List ℕ
  pub calls : ℕ
  pub tries : ℕ
  pub ended : ℕ
  pub floor : ℕ

abbrev pub reply_in : DI.Improved → Reply
reply_in r =
    record {
      number = r.number;
      line = r.line;
      gaps = gaps_in r.placement.words;
      calls = r.calls;
      tries = r.tries;
      ended = r.ended;
      floor = r.floor;
    }

-- what ended the tries
abbrev pub ROUND : ℕ
ROUND = 0

abbrev pub BUDGET : ℕ
BUDGET = 1

-- a reply that refuses
abbrev pub refusal : ℕ → Reply
refusal k = record { number = k; line = 0; gaps = []; calls = 0; tries = 0; ended = 0; floor = 0 }

-- the reply with what the tries lead to
abbrev pub found_of : Nest → List ℕ → Outcome → Reply
found_of n ts o =
    record {
      number = 0;
      line = 0;
      gaps = o.gaps;
      calls = calls_of n ts o.gaps;
      tries = o.tries;
      ended = pick o.whole ROUND BUDGET;
      floor = floor_of n ts;
    }

-- 10, 11, then 17 with turns from 1
abbrev pub improve_fault : Desk → List ℕ → ℕ
improve_fault x ts = calls_fault OUTER x ts

abbrev pub reply_of : Desk → List ℕ → ℕ → Reply
reply_of x ts budget =
    pick
    (eqb (improve_fault x ts) 0)
    (found_of x.nest_is ts (improved_of x.nest_is ts x.key budget))
    (refusal (improve_fault x ts))

abbrev pub ImproveSays : DD.Desk → List ℕ → ℕ → DI.Improved → Type 0
ImproveSays d ts budget r = reply_in r ≡ reply_of (desk_in d) ts budget
