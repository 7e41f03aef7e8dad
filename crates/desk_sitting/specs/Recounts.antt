-- The counts that a move leaves, whichever way it goes.
-- Main definitions: `Steps`, `CountsAre`.
use Rattle.std.specs.Prelude.{◌≡◌, true, false, List, ℕ, get_or}
use Rattle.paper_nests.specs.Nests.{Dep, Nest}
use Rattle.paper_nests.specs.Gaps.{has_gap}
use Rattle.paper_placements.specs.declared.Placement as DP
use Rattle.paper_placements.specs.Words.{gaps_in}
use Rattle.desk_sitting.specs.declared.Sitting as DS
use Rattle.desk_sitting.specs.Counts.{cut_count, count_at, uncut_count}

-- from the gaps before to those after, the step takes the count of a dependence that has gap g; each other count stays
pub record Steps (n : Nest) (g : ℕ) (before after : List ℕ) (pre : ℕ → Type 0) (post : ℕ → ℕ → Type 0) : Type 0 where
  pub may : (e : Dep) (c : ℕ) → has_gap n.points e g ≡ true → c ≡ cut_count n.points e before → pre c
  pub goes
      : (e : Dep) (c next : ℕ) → has_gap n.points e g ≡ true → c ≡ cut_count n.points e before → post c next
      → next ≡ cut_count n.points e after
  pub stays : (e : Dep) → has_gap n.points e g ≡ false → cut_count n.points e after ≡ cut_count n.points e before

-- the sitting has this placement, with the counts and the number uncut of a fresh count over it
pub record CountsAre (n : Nest) (p : DP.Placement) (r : DS.Sitting) : Type 0 where
  pub placed : r.placement ≡ p
  pub counts_are : (i : ℕ) → get_or r.counts i 0 ≡ count_at n.points n.deps (gaps_in p.words) i
  pub uncut_is : r.uncut ≡ uncut_count n.points n.deps (gaps_in p.words)
