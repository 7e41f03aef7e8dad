-- Barrier calls in a run: what the two calls promise. Neither changes the desk.
-- Main definitions: `can_count`, `calls_fault`, `CallsSays`, `placement_fault`, `PlacementSays`.
use Rattle.std.specs.Prelude.{◌≡◌, Bool, true, false, ◌&&◌, not, List, ℕ, eqb, length}
use Rattle.laws.specs.Choice.{pick, when, first_of}
use Rattle.paper_nests.specs.Nests.{Nest}
use Rattle.run_barriers.specs.Calls.{INNER, OUTER, fit_in, calls_of}
use Rattle.desk.specs.declared.Desk as DD
use Rattle.desk.specs.Desks.{Desk, desk_in, state_fault, Fault, fault}
use Rattle.desk.specs.Says.{read_in}
use Rattle.call_runs.specs.declared.Calls as CC

-- nothing is barred, every loop runs, and the turns are as many as the loops and within their bounds, of the loops
-- inside from `inner`
abbrev pub can_count : ℕ → Nest → List ℕ → Bool
can_count inner n ts =
    eqb (length n.barred) 0 && (eqb (length n.flagged) 0 && fit_in OUTER inner n.points ts)

-- 10, 11, then 17
abbrev pub calls_fault : ℕ → Desk → List ℕ → ℕ
calls_fault inner x ts = first_of (state_fault true x) (when (not (can_count inner x.nest_is ts)) 17)

-- a reply that refuses, and one that counts
abbrev pub refusal : ℕ → ℕ → CC.Calls
refusal number line = record { number = number; line = line; calls = 0 }

abbrev pub counted : ℕ → CC.Calls
counted calls = record { number = 0; line = 0; calls = calls }

-- the calls of the placement gs, each barrier counting the product of the turns of the loops around it; else 17
abbrev pub calls_under : ℕ → Nest → List ℕ → List ℕ → CC.Calls
calls_under inner n ts gs = pick (can_count inner n ts) (counted (calls_of n ts gs)) (refusal 17 0)

-- a reply: the fault, and where there is none the calls
pub record Says (f : Fault) (calls : ℕ) (r : CC.Calls) : Type 0 where
  pub number_is : r.number ≡ f.number
  pub line_is : r.line ≡ f.place
  pub calls_are : r.calls ≡ pick (eqb f.number 0) calls 0

-- the key's calls
abbrev pub CallsSays : DD.Desk → List ℕ → CC.Calls → Type 0
CallsSays d ts r =
    Says (fault (calls_fault INNER (desk_in d) ts) 0) (calls_of (desk_in d).nest_is ts (desk_in d).key) r

-- 10; then the faults of the text s, with their line, as by Mark; then 17, where every loop may run once
abbrev pub placement_fault : Desk → List ℕ → List ℕ → Fault
placement_fault x s ts =
    pick
    (eqb (state_fault false x) 0)
    (pick
    (eqb (read_in x s).number 0)
    (fault (when (not (can_count OUTER x.nest_is ts)) 17) 0)
    (fault (read_in x s).number (read_in x s).place))
    (fault (state_fault false x) 0)

-- the calls of the placement that s spells, with a key or without
abbrev pub PlacementSays : DD.Desk → List ℕ → List ℕ → CC.Calls → Type 0
PlacementSays d s ts r =
    Says (placement_fault (desk_in d) s ts) (calls_of (desk_in d).nest_is ts (read_in (desk_in d) s).gaps) r
