-- Everything that the planner's sweeps read of a nest, in tables.
-- Main definition: `Prepared`.
use Rattle.std.specs.Prelude.{◌≡◌, true, List, ℕ}
use Rattle.laws.specs.Bits.{one}
use Rattle.laws.specs.Entries.{at}
use Rattle.paper_nests.specs.Nests.{Dep}
use Rattle.paper_nests.specs.Loops.{is_do}
use Rattle.plan_method.specs.Home.{reach_of, limit_of, has_at}
use Rattle.plan_tables.specs.Charts.{Rows, Charted}

-- the loops; in the row of each loop its reach and its limits; 1 for each loop that is some dependence's home, else 0
pub record Prepared (ps : List ℕ) (ds : List Dep) (own ends heights reach limit has : List ℕ) : Type 0 where
  pub charted : Charted ps own ends heights
  pub reach_is : Rows ps heights reach (reach_of ps ds)
  pub limit_is : Rows ps heights limit (limit_of ps ds)
  pub has_is : (d : ℕ) → is_do ps d ≡ true → at has d ≡ one (has_at ps ds d)
