-- What a desk with a key gives to the search.
-- Main statement: `search_asked`.
use mathlib.Core.Path.{◌≡◌}
use mathlib.Core.Bool.{true}
use mathlib.Core.List.{List}
use Prim.Native.Nat.{ℕ}
use Rattle.paper_placements.specs.Placements.{is_correct}
use Rattle.paper_placements.proofs.Cuts.{correct_cuts, none_uncut}
use Rattle.run_barriers.specs.Calls.{OUTER}
use Rattle.desk.specs.declared.Desk as DD
use Rattle.desk.specs.Desks.{desk_in, state_fault, IsMade}
use Rattle.desk.proofs.Ready.{ready, ready_has}
use Rattle.desk.proofs.TwoDesks.{made_first}
use Rattle.call_runs.specs.Says.{can_count}
use Rattle.call_runs.proofs.Countable.{countable}
use Rattle.call_improve.specs.Steps.{SearchAsks}

-- the key of a desk made by calls cuts every dependence
pub search_asked
    : (d : DD.Desk) (ts : List ℕ) → state_fault true (desk_in d) ≡ 0
    → can_count OUTER (desk_in d).nest_is ts ≡ true
    → IsMade d
    → SearchAsks d.nest d.key ts
search_asked d ts none fit m =
    let y = ready d m none in
    let n = (desk_in d).nest_is in
    let correct : is_correct n (desk_in d).key ≡ true = (made_first d m (ready_has d none).1).is_key.correct in
    record {
      counted = y.counted;
      valid = y.valid;
      gaps_fit = y.key-gaps;
      all_cut = none_uncut n (desk_in d).key (correct_cuts n (desk_in d).key correct);
      turns-fit = (countable OUTER n ts fit).fits;
    }
