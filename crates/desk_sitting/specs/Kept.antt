-- What a sitting keeps, and what the moves make of it.
-- Main definitions: `barriers`, `Kept`, `Ready`, `EmptySays`, `PutSays`, `LiftSays`.
use Rattle.std.specs.Prelude.{◌≡◌, true, ◌&&◌, ◌||◌, not, List, [], ℕ, ◌+◌, ◌<◌, eqb, get_or}
use Rattle.laws.specs.Bits.{one}
use Rattle.paper_nests.specs.declared.Nest as DN
use Rattle.paper_nests.specs.Nests.{Nest}
use Rattle.paper_nests.specs.Valid.{is_valid}
use Rattle.paper_nests.specs.Stored.{nest_in, IsCounted}
use Rattle.paper_placements.specs.Placements.{are_gaps}
use Rattle.paper_placements.specs.Words.{holds, gaps_in}
use Rattle.desk_sitting.specs.declared.Sitting as DS
use Rattle.paper_placements.specs.GapLists.{with_gap, without}
use Rattle.desk_sitting.specs.Counts.{count_at, has_gap_at, uncut_count}

-- the candidate's barriers, rising
abbrev pub barriers : DS.Sitting → List ℕ
barriers s = gaps_in s.placement.words

-- 02, job 4: what is kept always equals a fresh count over the placement; the barriers are gaps of the nest, and no
-- count is kept beyond the dependences
pub record Kept (n : Nest) (s : DS.Sitting) : Type 0 where
  pub gaps_fit : are_gaps n (barriers s) ≡ true
  pub counts_are : (i : ℕ) → get_or s.counts i 0 ≡ count_at n.points n.deps (barriers s) i
  pub uncut_is : s.uncut ≡ uncut_count n.points n.deps (barriers s)

-- what a move of gap g asks of the nest and the sitting
pub record Ready (nest : DN.Nest) (s : DS.Sitting) (g : ℕ) : Type 0 where
  pub counted : IsCounted nest
  pub valid : is_valid (nest_in nest) ≡ true
  pub kept : Kept (nest_in nest) s
  pub first : 0 < g
  pub inside : g < nest.count

-- no barrier, no cut, `many` uncut
pub record EmptySays (many : ℕ) (r : DS.Sitting) : Type 0 where
  pub no_gaps : barriers r ≡ []
  pub no_cuts : (i : ℕ) → get_or r.counts i 0 ≡ 0
  pub uncut_is : r.uncut ≡ many

-- a barrier more: one more for each dependence that has its gap, all others as they were
pub record PutSays (n : Nest) (g : ℕ) (s r : DS.Sitting) : Type 0 where
  pub holds_are : (i : ℕ) → holds r.placement.words i ≡ (eqb i g || holds s.placement.words i)
  pub barriers_are : barriers r ≡ with_gap g (barriers s)
  pub counts_are : (i : ℕ) → get_or r.counts i 0 ≡ get_or s.counts i 0 + one (has_gap_at n.points n.deps i g)
  pub kept : Kept n r

-- a barrier less: one less for each dependence that has its gap, all others as they were
pub record LiftSays (n : Nest) (g : ℕ) (s r : DS.Sitting) : Type 0 where
  pub holds_are : (i : ℕ) → holds r.placement.words i ≡ (not (eqb i g) && holds s.placement.words i)
  pub barriers_are : barriers r ≡ without g (barriers s)
  pub counts_are : (i : ℕ) → get_or r.counts i 0 + one (has_gap_at n.points n.deps i g) ≡ get_or s.counts i 0
  pub kept : Kept n r
