-- What the functions behind the call ask and promise: the search, a placement with its chains, a try, the floor.
-- Main definitions: `SearchAsks`, `SearchSays`, `reached`, `CurrentSays`, `TryAsks`, `TrySays`, `FewTimes`,
-- `FloorSays`.
use Rattle.std.specs.Prelude.{◌≡◌, true, false, List, ℕ, ◌^◌, ◌≤◌, ◌<◌}
use Rattle.laws.specs.Entries.{at}
use Rattle.paper_nests.specs.declared.Nest as DN
use Rattle.paper_nests.specs.Kinds.{DEPTH}
use Rattle.paper_nests.specs.Nests.{Nest}
use Rattle.paper_nests.specs.Valid.{is_valid}
use Rattle.paper_nests.specs.Stored.{nest_in, IsCounted}
use Rattle.paper_placements.specs.declared.Placement as DP
use Rattle.paper_placements.specs.Placements.{uncut, are_gaps_from, are_gaps}
use Rattle.paper_placements.specs.Words.{holds, gaps_in}
use Rattle.run_barriers.specs.Calls.{TURNS, OUTER, fit_in}
use Rattle.run_count.specs.Times.{HasTimes, sum_in}
use Rattle.call_improve.specs.declared.Improved as DI
use Rattle.call_improve.specs.declared.Current as DC
use Rattle.call_improve.specs.declared.Try as DT
use Rattle.call_improve.specs.Tries.{try_at}
use Rattle.call_improve.specs.Rounds.{improved_of}
use Rattle.call_improve.specs.Floor.{floor_of}
use Rattle.call_improve.specs.Tops.{Chained}
use Rattle.call_improve.specs.Says.{Reply, reply_in, found_of}

-- a nest within the limits, a placement that cuts every dependence, and turns from 1 to 16 for every loop
pub record SearchAsks (nest : DN.Nest) (key : DP.Placement) (ts : List ℕ) : Type 0 where
  pub counted : IsCounted nest
  pub valid : is_valid (nest_in nest) ≡ true
  pub gaps_fit : are_gaps (nest_in nest) (gaps_in key.words) ≡ true
  pub all_cut : uncut (nest_in nest) (gaps_in key.words) ≡ 0
  pub turns-fit : fit_in OUTER OUTER (nest_in nest).points ts ≡ true

-- what the rounds lead to, and the floor
abbrev pub SearchSays : Nest → List ℕ → List ℕ → ℕ → DI.Improved → Type 0
SearchSays n ts key budget r = reply_in r ≡ found_of n ts (improved_of n ts key budget)

-- the reply with the current placement and its calls, and the other answers
abbrev pub reached : DC.Current → ℕ → ℕ → ℕ → Reply
reached current tries ended floor =
    record {
      number = 0;
      line = 0;
      gaps = gaps_in current.placement.words;
      calls = current.calls;
      tries = tries;
      ended = ended;
      floor = floor;
    }

-- the placement, its calls and its chains
pub record CurrentSays (n : Nest) (p : DP.Placement) (calls : ℕ) (r : DC.Current) : Type 0 where
  pub placement_is : r.placement ≡ p
  pub calls_are : r.calls ≡ calls
  pub chained : Chained n (gaps_in r.placement.words) r.first r.next

-- the sum at the gaps of any placement of a nest of `count` points fits a word
abbrev pub CallsFit : ℕ → List ℕ → Type 0
CallsFit count table = (gs : List ℕ) → are_gaps_from 0 count gs ≡ true → sum_in table gs < 2 ^ 64

-- a placement that cuts every dependence, with its chains, and a gap without a barrier
pub record TryAsks (nest : DN.Nest) (current : DC.Current) (table : List ℕ) (g : ℕ) : Type 0 where
  pub gaps_fit : are_gaps (nest_in nest) (gaps_in current.placement.words) ≡ true
  pub all_cut : uncut (nest_in nest) (gaps_in current.placement.words) ≡ 0
  pub chained : Chained (nest_in nest) (gaps_in current.placement.words) current.first current.next
  pub free : holds current.placement.words g ≡ false
  pub some : 0 < g
  pub inside : g < nest.count
  pub calls_fit : CallsFit nest.count table

-- what the try leaves, and its calls
pub record TrySays (n : Nest) (x table : List ℕ) (g : ℕ) (r : DT.Try) : Type 0 where
  pub gaps_are : gaps_in r.placement.words ≡ try_at n x g
  pub calls_are : r.calls ≡ sum_in table (try_at n x g)

-- the most that a gap can be passed
abbrev pub FewTimes : ℕ → List ℕ → Type 0
FewTimes count table = (g : ℕ) → g < count → at table g ≤ TURNS ^ DEPTH

-- the floor, under any turns of which the table has how often each gap is passed
abbrev pub FloorSays : Nest → List ℕ → ℕ → Type 0
FloorSays n table r = (ts : List ℕ) → HasTimes n.points ts table → r ≡ floor_of n ts
