-- A paper and turns that can be counted, taken apart.
-- Main statement: `countable`.
use mathlib.Core.Path.{◌≡◌}
use mathlib.Core.Bool.{true, ◌&&◌}
use mathlib.Core.List.{List, []}
use Prim.Native.Nat.{ℕ}
use native.Mathlib.Omega.{arith}
use lib.Dec.{eqb}
use lib.ListN.{length}
use borrow.Author.Tests.{eqb-true}
use Rattle.laws.proofs.Members.{no_members}
use Rattle.laws.proofs.Tests.{and_true}
use Rattle.paper_nests.specs.Nests.{Nest}
use Rattle.run_barriers.specs.Calls.{OUTER, fit_in}
use Rattle.call_runs.specs.Says.{can_count}

pub record Countable (inner : ℕ) (n : Nest) (ts : List ℕ) : Type 0 where
  pub none_barred : n.barred ≡ []
  pub none_flagged : n.flagged ≡ []
  pub fits : fit_in OUTER inner n.points ts ≡ true

pub countable : (inner : ℕ) (n : Nest) (ts : List ℕ) → can_count inner n ts ≡ true → Countable inner n ts
countable inner n ts h =
    let runs = eqb (length n.flagged) 0 in
    let fits = fit_in OUTER inner n.points ts in
    let z = and_true (eqb (length n.barred) 0) (runs && fits) h in
    let y = and_true runs fits z.1 in
    record {
      none_barred = no_members n.barred (omega (arith, eqb-true (length n.barred) 0 z.0));
      none_flagged = no_members n.flagged (omega (arith, eqb-true (length n.flagged) 0 y.0));
      fits = y.1;
    }
