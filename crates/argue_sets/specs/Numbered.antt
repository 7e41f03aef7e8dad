-- The sets that the steps of a lap name, found in passes over the dependences from the last to the first.
-- Main definitions: `line_set`, `Unnumbered`, `NumberSays`, `LaterSays`.
use Rattle.std.specs.Prelude.{◌≡◌, true, ◌&&◌, List, ℕ, suc, ◌+◌, ◌≤◌, ◌<◌, eqb}
use Rattle.laws.specs.Choice.{pick}
use Rattle.laws.specs.Entries.{at}
use Rattle.paper_nests.specs.Nests.{Dep}
use Rattle.paper_nests.specs.Loops.{is_do, end_of}
use Rattle.plan_method.specs.Home.{starts_at, reach_of}
use Rattle.plan_tables.specs.Charts.{TABLE, cell}
use Rattle.argue_key.specs.Laps.{starting, is_back, starts_later, line_num}

-- the set of the first line of home d that starts at a and ends where the reach does
abbrev pub line_set : List ℕ → List Dep → ℕ → ℕ → ℕ
line_set ps ds d a = suc (suc (line_num ps d a (reach_of ps ds d a) ds))

-- before any dependence: the number behind the last, everywhere
abbrev pub Unnumbered : ℕ → List ℕ → Type 0
Unnumbered many sets = (i : ℕ) → i < TABLE → at sets i ≡ many + 2

-- one dependence more: where it starts, and ends where the reach does, its set; elsewhere what was there
pub record NumberSays (ps heights reach : List ℕ) (e : Dep) (set : ℕ) (sets sets' : List ℕ) : Type 0 where
  pub sets_is
      : (d a : ℕ)
      → is_do ps d ≡ true
      → d < a
      → a ≤ end_of ps d
      → at sets' (cell heights d a) ≡
      pick (starts_at ps d a e && eqb e.t (at reach (cell heights d a))) set (at sets (cell heights d a))

-- one dependence more, whatever the points are: it takes the place of the last if it goes back later
pub record LaterSays (d f at num : ℕ) (e : Dep) (i at' num' : ℕ) : Type 0 where
  pub last_is
      : (ps : List ℕ)
      → starting at' num' ≡
      pick (is_back ps d f e && starts_later (starting at num) e) (starting (suc e.s) i) (starting at num)
