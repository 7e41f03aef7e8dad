-- Keys: correct placements that are as good or better than every correct placement.
-- Main definitions: `IsKey`, `By-loops`, `LeastOnRing`.
use Rattle.std.specs.Prelude.{◌≡◌, true, List, ℕ, ◌≤◌, length}
use Rattle.laws.specs.Members.{Among}
use Rattle.paper_nests.specs.Nests.{Dep, Nest}
use Rattle.paper_nests.specs.Loops.{is_do, in_loop}
use Rattle.paper_nests.specs.Ring.{one_loop, Interval, Meets}
use Rattle.paper_placements.specs.Placements.{are_gaps, avoids, is_correct, loop_count}
use Rattle.paper_order.specs.LoopOrder.{as_good}

-- 01, "Which placement is better": correct, and as good or better than every correct placement
pub record IsKey (n : Nest) (key : List ℕ) : Type 0 where
  pub correct : is_correct n key ≡ true
  pub least : (gs : List ℕ) → is_correct n gs ≡ true → as_good n key gs ≡ true

-- demand 3 loop by loop, from the inside; and of a nest of one loop, no set of gaps that cuts all has fewer
pub record By-loops (n : Nest) (key : List ℕ) : Type 0 where
  pub each
      : (gs : List ℕ) (d : ℕ)
      → is_correct n gs ≡ true
      → is_do n.points d ≡ true
      → ((x : ℕ) → is_do n.points x ≡ true → in_loop n.points d x ≡ true → loop_count n gs x ≡ loop_count n key x)
      → loop_count n key d ≤ loop_count n gs d
  pub one-loop : (gs : List ℕ) → one_loop n.points ≡ true → is_correct n gs ≡ true → length key ≤ length gs

-- 01, "The nest and its gaps", of a nest of one loop: every dependence has its circular interval, the key meets each,
-- and no set of unbarred gaps that meets them all has fewer
pub record LeastOnRing (n : Nest) (key : List ℕ) : Type 0 where
  pub interval : (e : Dep) → Among e n.deps → Interval n.points e
  pub meets : (e : Dep) → Among e n.deps → (i : Interval n.points e) → Meets n.points e i key
  pub no_fewer
      : (gs : List ℕ)
      → are_gaps n gs ≡ true
      → avoids n.barred gs ≡ true
      → ((e : Dep) → Among e n.deps → (i : Interval n.points e) × Meets n.points e i gs)
      → length key ≤ length gs
