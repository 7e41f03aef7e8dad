-- The suffix that a table chooses: a placement that is best in d, has a gap from q on and starts at the table's front
-- for q has a gap from the choice on too. For the sweep of its own last gap stands in the exchange relation to it, so
-- it attains the front, and the choice is the smallest place that does.
-- Main statement: `choice_hit`.
use mathlib.Core.Path.{◌≡◌}
use mathlib.Core.Bool.{Bool, true}
use Prim.Native.Nat.{ℕ, suc, ◌≤◌, ◌<◌}
use native.Mathlib.Omega.{arith}
use Rattle.plan_method.specs.Sweep.{Lines, Tables, value, some_of, front, IsTable}
use Rattle.plan_method.proofs.World.{World, EachInside, Lawful}
use Rattle.plan_method.proofs.Claim.{Hit, Best, Claim}
use Rattle.plan_method.proofs.Hits.{Last}
use Rattle.plan_method.proofs.Choices.{Fronts}
use Rattle.plan_method.proofs.Rows.{row_busy, row_there}
use Rattle.plan_method.proofs.Bounds.{last-from, last_after, value_exact, value_before}

module _
    (W : World) (N : Lines) (laws : Lawful W N) (T : Tables) (table : IsTable W.loops N T)
    (d : ℕ) (is-do : W.loops.is_do d ≡ true) (kids : EachInside W.loops d (Claim W T)) where
  abbrev e : ℕ
  e = W.loops.stop d

  pub choice_hit : (x : ℕ → Bool) (q : ℕ) → Best W T.cost x d → d < q → Hit x q e → 0 < T.left d q →
      d < T.left d q → T.left d q ≤ e → x (T.left d q) ≡ true → Hit x (T.choice d q) e
  choice_hit x q best low hit there above within holds =
      record { gap = k.gap; low = r.smallest k.gap late k.high exact same; high = k.high; holds = k.holds }
    where
      inside : q ≤ e
      inside = omega (arith, hit.low, hit.high)

      busy : some_of W.loops N T d ≡ true
      busy = row_busy W.loops laws.of-loops N T table d is-do q low inside there

      k : Last x (suc d) e
      k = last-from W N laws T table d is-do kids x q best low hit

      late : q ≤ k.gap
      late = last_after W N laws T table d is-do kids x q best low hit

      r : Fronts (value W.loops N T d) (T.cost d) e q (front (T.left d q) (T.choice d q))
      r = row_there W.loops laws.of-loops N T table d is-do q low inside there

      exact : (value W.loops N T d k.gap).c ≡ T.cost d
      exact = value_exact W N laws T table d is-do kids x q best low hit busy

      same : (value W.loops N T d k.gap).f ≡ T.left d q
      same =
          omega (
            arith,
            r.least k.gap late k.high exact,
            value_before W N laws T table d is-do kids x q best low hit busy (T.left d q) above within holds,
          )
