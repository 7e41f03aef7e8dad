-- The planner's tables and key: the loops from the last DO to the first, so that a loop's row is made when the rows of
-- the loops inside it are there, and no row changes afterwards.
-- Main definitions: `table_of`, `key_of`.
use Rattle.std.specs.Prelude.{Bool, ℕ, zero, suc, eqb}
use Rattle.laws.specs.Choice.{pick}
use Rattle.plan_method.specs.Sweep.{Loops, Lines, Tables, bare, cost_of, left_of, choice_of, lay_of}

unfoldable pub no_tables : Tables
no_tables = record { cost = λ d. 0; left = λ d q. 0; choice = λ d q. 0; lay = λ d q. bare }

-- the row of d, made from the tables so far, in its place
unfoldable pub with_row : Loops → Lines → ℕ → Tables → Tables
with_row B N d T =
    record {
      cost = λ x.
          let r = cost_of B N T d in
          let s = T.cost x in
          pick (eqb x d) r s;
      left = λ x. pick (eqb x d) (left_of B N T d) (T.left x);
      choice = λ x. pick (eqb x d) (choice_of B N T d) (T.choice x);
      lay = λ x. pick (eqb x d) (lay_of B N T d) (T.lay x);
    }

-- the rows of the k points from d
unfoldable pub table_from : Loops → Lines → ℕ → ℕ → Tables
table_from B N zero d = no_tables
table_from B N (suc k) d =
    let T = table_from B N k (suc d) in
    pick (B.is_do d) (with_row B N d T) T

-- of n points
unfoldable pub table_of : Loops → Lines → ℕ → Tables
table_of B N n = table_from B N n 0

-- the outermost loop is 0: a placement with its least barriers, and the leftmost
unfoldable pub key_of : Loops → Lines → ℕ → ℕ → Bool
key_of B N n = (table_of B N n).lay 0 1
