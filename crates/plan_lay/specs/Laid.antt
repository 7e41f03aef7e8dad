-- What a loop lays, added to the words of a placement.
-- Main definitions: `Choices`, `PutSays`, `LaySays`.
use Rattle.std.specs.Prelude.{◌≡◌, true, ◌||◌, List, ℕ, ◌*◌, ◌≤◌, ◌<◌, eqb, ltb, length}
use Rattle.laws.specs.Choice.{pick}
use Rattle.paper_nests.specs.Loops.{is_do, end_of}
use Rattle.paper_placements.specs.Words.{holds}
use Rattle.plan_method.specs.Sweep.{Lines, Tables, IsTable}
use Rattle.plan_method.specs.Home.{loops_in}
use Rattle.plan_sweeps.specs.Listed.{row}
use Rattle.plan_settle.specs.Settled.{HasHeight, LinesAt, Rows}

-- room for nine rows
pub record LayRoom (reach limit left choice : List ℕ) : Type 0 where
  pub reach_room : 2304 ≤ length reach
  pub limit_room : 2304 ≤ length limit
  pub left_room : 2304 ≤ length left
  pub choice_room : 2304 ≤ length choice

-- in the loops from low up to high, a front comes from a suffix of its loop's range
abbrev pub Choices : List ℕ → List ℕ → List ℕ → ℕ → ℕ → Type 0
Choices ps left choice low high =
    (l h q : ℕ) →
    is_do ps l ≡ true →
    low ≤ l →
    l < high →
    HasHeight ps l h →
    l < q →
    q ≤ end_of ps l →
    0 < row left (h * 256) q →
    (l < row choice (h * 256) q) × (row choice (h * 256) q ≤ end_of ps l)

-- gap g as well where the count grew
abbrev pub PutSays : List ℕ → ℕ → ℕ → ℕ → List ℕ → Type 0
PutSays key c c' g key' = (i : ℕ) → holds key' i ≡ pick (ltb c c') (eqb i g || holds key i) (holds key i)

-- what d lays for the suffix q, of any lines and tables that the lists hold
abbrev pub LaySays : List ℕ → List ℕ → List ℕ → List ℕ → List ℕ → ℕ → ℕ → List ℕ → List ℕ → Type 0
LaySays ps reach limit left choice d q key key' =
    (N : Lines) (T : Tables) (has : List ℕ) →
    IsTable (loops_in ps) N T →
    LinesAt ps N reach limit has →
    Rows ps T left choice d (end_of ps d) →
    (g : ℕ) →
    holds key' g ≡ (T.lay d q g || holds key g)
