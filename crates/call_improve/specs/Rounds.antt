-- Rounds of tries within a budget (job 13).
-- Main definitions: `Outcome`, `go`, `improved_of`.
use Rattle.std.specs.Prelude.{Bool, true, false, List, [], ◌∷◌, ℕ, zero, suc, ltb}
use Rattle.laws.specs.Choice.{pick}
use Rattle.paper_nests.specs.Nests.{Nest}
use Rattle.run_barriers.specs.Calls.{calls_of}
use Rattle.call_improve.specs.Tries.{free_of, try_at}

-- where the tries lead: the placement, how many they were, and whether a whole round ended them or else the budget
pub record Outcome : Type 0 where
  pub gaps : List ℕ
  pub tries : ℕ
  pub whole : Bool

abbrev pub outcome : List ℕ → ℕ → Bool → Outcome
outcome x k w = record { gaps = x; tries = k; whole = w }

-- from placement x, with b tries left in the budget, the gaps that the round has left, and k tries made: a try with
-- fewer calls takes the place of x, and a new round begins. Where the round has no gap left it is whole; else the
-- budget ends it
unfoldable pub go : Nest → List ℕ → ℕ → List ℕ → List ℕ → ℕ → Outcome
go n ts zero x [] k = outcome x k true
go n ts zero x (g ∷ gs) k = outcome x k false
go n ts (suc b) x [] k = outcome x k true
go n ts (suc b) x (g ∷ gs) k =
    let y = try_at n x g in
    let fewer = ltb (calls_of n ts y) (calls_of n ts x) in
    go n ts b (pick fewer y x) (pick fewer (free_of n y) gs) (suc k)

-- the search starts from the key
abbrev pub improved_of : Nest → List ℕ → List ℕ → ℕ → Outcome
improved_of n ts key b = go n ts b key (free_of n key) 0
