-- What is counted is the fewest: no correct placement has fewer calls; and two desks with the same nest count alike.
-- Main definitions: `NoFewer`, `CallsAlike`, `PlacementAlike`.
use Rattle.std.specs.Prelude.{◌≡◌, true, List, ℕ, ◌≤◌}
use Rattle.paper_placements.specs.Placements.{is_correct}
use Rattle.run_barriers.specs.Calls.{calls_of}
use Rattle.desk.specs.declared.Desk as DD
use Rattle.desk.specs.Desks.{desk_in, IsMade}
use Rattle.call_runs.specs.declared.Calls as CC
use Rattle.call_runs.specs.Says.{CallsSays, PlacementSays}

-- 001, lemma 2: of whatever desk has a key, under the turns for which it answers
abbrev pub NoFewer : Type 0
NoFewer =
    (d : DD.Desk) (ts gs : List ℕ) (r : CC.Calls) →
    IsMade d →
    CallsSays d ts r →
    r.number ≡ 0 →
    is_correct (desk_in d).nest_is gs ≡ true → r.calls ≤ calls_of (desk_in d).nest_is ts gs

-- 02, job 6: two desks with the same nest, and with a key both or neither
abbrev pub CallsAlike : Type 0
CallsAlike =
    (d e : DD.Desk) (ts : List ℕ) (a b : CC.Calls) →
    IsMade d →
    IsMade e →
    d.loaded ≡ e.loaded →
    (desk_in d).nest_is ≡ (desk_in e).nest_is →
    d.planned ≡ e.planned →
    CallsSays d ts a → CallsSays e ts b → a ≡ b

-- of a placement's calls the same, with a key or without
abbrev pub PlacementAlike : Type 0
PlacementAlike =
    (d e : DD.Desk) (s ts : List ℕ) (a b : CC.Calls) →
    d.loaded ≡ e.loaded →
    (desk_in d).nest_is ≡ (desk_in e).nest_is →
    PlacementSays d s ts a → PlacementSays e s ts b → a ≡ b
