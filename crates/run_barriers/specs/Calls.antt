-- Barrier calls in a run: each barrier counts the product of the turns of the loops around it.
-- Main definitions: `turns_of`, `times_at`, `calls_in`, `calls_of`, `fit_in`, `turns_fit`, `CALLS`.
use Rattle.std.specs.Prelude.{Bool, true, ◌&&◌, List, [], ◌∷◌, ℕ, zero, suc, ◌+◌, ◌-◌, ◌*◌, ◌^◌, eqb, leb, length, get_or}
use Rattle.laws.specs.Choice.{pick, when, between}
use Rattle.paper_nests.specs.Kinds.{POINTS, DEPTH}
use Rattle.paper_nests.specs.Nests.{Nest}
use Rattle.paper_nests.specs.Loops.{is_do, end_of}

-- turns from 2 to 16, of the outermost loop from 1
abbrev pub TURNS : ℕ
TURNS = 16

abbrev pub INNER : ℕ
INNER = 2

abbrev pub OUTER : ℕ
OUTER = 1

-- how many of the first k points are DOs
unfoldable pub dos_before : List ℕ → ℕ → ℕ
dos_before ps zero = 0
dos_before ps (suc k) = when (is_do ps k) 1 + dos_before ps k

-- a number of turns for each loop, in order of DO
abbrev pub turns_of : List ℕ → List ℕ → ℕ → ℕ
turns_of ps ts d = get_or ts (dos_before ps d) 1

-- the product of the turns of the loops with DO below k and ENDDO at or above g
unfoldable pub times_from : List ℕ → List ℕ → ℕ → ℕ → ℕ
times_from ps ts zero g = 1
times_from ps ts (suc d) g =
    let r = times_from ps ts d g in
    pick (is_do ps d && leb g (end_of ps d)) (turns_of ps ts d * r) r

-- how often a barrier at gap g is called, the product of the turns of the loops around it
abbrev pub times_at : List ℕ → List ℕ → ℕ → ℕ
times_at ps ts g = times_from ps ts g g

-- a placement's barrier calls
unfoldable pub calls_in : List ℕ → List ℕ → List ℕ → ℕ
calls_in ps ts [] = 0
calls_in ps ts (g ∷ gs) = times_at ps ts g + calls_in ps ts gs

abbrev pub calls_of : Nest → List ℕ → List ℕ → ℕ
calls_of n ts gs = calls_in n.points ts gs

-- the most calls of a placement: a barrier at every gap of the longest nest, each under the most loops
abbrev pub CALLS : ℕ
CALLS = (POINTS - 1) * TURNS ^ DEPTH

-- turns within their bounds: the first from `first`, the others from `inner`
abbrev pub are_turns : ℕ → ℕ → List ℕ → Bool
are_turns first inner [] = true
are_turns first inner (t ∷ ts) = between first t TURNS && are_turns inner inner ts

-- as many turns as there are loops, within their bounds
abbrev pub fit_in : ℕ → ℕ → List ℕ → List ℕ → Bool
fit_in first inner ps ts = eqb (length ts) (dos_before ps (length ps)) && are_turns first inner ts

abbrev pub turns_fit : Nest → List ℕ → Bool
turns_fit n ts = fit_in OUTER INNER n.points ts
