-- The list of dependences that a host lends, judged record by record.
-- Main definitions: `all_deps`, `begun`, `step_of`, `steps_from`; `EndsFit`.
use Rattle.std.specs.Prelude.{◌≡◌, true, List, [], ◌∷◌, ℕ, suc, ◌+◌, ◌<◌, eqb}
use Rattle.laws.specs.Choice.{pick}
use Rattle.paper_nests.specs.declared.Dependence as DE
use Rattle.paper_nests.specs.Kinds.{POINTS}
use Rattle.paper_nests.specs.Nests.{Dep}
use Rattle.paper_nests.specs.Loops.{is_do, end_of}
use Rattle.paper_nests.specs.Stored.{dep_in}
use Rattle.paper_placements.specs.Placements.{cuts}
use Rattle.desk.specs.declared.Answer as DA
use Rattle.desk.specs.Desks.{Desk, state_fault, record_fault}

-- the records of a lent list as dependences
abbrev pub all_deps : List DE.Dependence → List Dep
all_deps [] = []
all_deps (x ∷ xs) = dep_in x ∷ all_deps xs

abbrev pub answer : ℕ → ℕ → ℕ → DA.Answer
answer n l v = record { number = n; line = l; value = v }

-- 01, "Numbers from the state": 10 and 11 come before any number from the input; with 0, nothing is found yet
abbrev pub begun : Desk → DA.Answer
begun x = answer (state_fault true x) 0 0

-- the place kept: the first that the key doesn't cut
abbrev pub first_uncut : Desk → DA.Answer → Dep → ℕ → DA.Answer
first_uncut x a e i =
    pick (eqb a.value 0) (pick (cuts x.nest_is.points e x.key) a (answer 0 0 (i + 1))) a

-- the answer after the record at index i, whose place is i + 1: a refusal stays; a faulty record refuses
abbrev pub step_of : Desk → DA.Answer → Dep → ℕ → DA.Answer
step_of x a e i =
    pick
    (eqb a.number 0)
    (pick
    (eqb (record_fault x.nest_is.points e) 0)
    (first_uncut x a e i)
    (answer (record_fault x.nest_is.points e) (i + 1) 0))
    a

-- the answer after the records from index i on
unfoldable pub steps_from : Desk → ℕ → DA.Answer → List Dep → DA.Answer
steps_from x i a [] = a
steps_from x i a (e ∷ es) = steps_from x (suc i) (step_of x a e i) es

-- the ENDDO of every DO is a byte
abbrev pub EndsFit : List ℕ → Type 0
EndsFit ps = (d : ℕ) → is_do ps d ≡ true → end_of ps d < POINTS
