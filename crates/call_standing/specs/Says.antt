-- What the call promises.
-- Main definitions: `StandingSays`, `Blank`, `Few`.
use Rattle.std.specs.Prelude.{◌≡◌, false, List, [], ℕ, ◌<◌}
use Rattle.laws.specs.Entries.{at}
use Rattle.paper_nests.specs.Kinds.{POINTS}
use Rattle.paper_placements.specs.Placements.{loop_count}
use Rattle.paper_placements.specs.Words.{gaps_in}
use Rattle.desk_sitting.specs.Counts.{count_at, uncut_count}
use Rattle.desk.specs.declared.Desk as DD
use Rattle.desk.specs.Desks.{desk_in, state_fault}
use Rattle.call_standing.specs.declared.Standing as DS

-- 10; then the candidate's barriers, the count of every loop by its DO, how many barriers cut each dependence, and how
-- many dependences none cuts, each as a fresh count over the sitting gives it; 0 in every other place, and in every
-- place where there is no nest, as then there is no barrier and no dependence; the call changes nothing
pub record StandingSays (d : DD.Desk) (r : DS.Standing) : Type 0 where
  pub number_is : r.number ≡ state_fault false (desk_in d)
  pub line_is : r.line ≡ 0
  pub gaps_are : gaps_in r.placement.words ≡ (desk_in d).sitting
  pub counts_are : (l : ℕ) → l < POINTS → at r.counts l ≡ loop_count (desk_in d).nest_is (desk_in d).sitting l
  pub cuts_are
      : (i : ℕ)
      → at r.cuts i ≡ count_at (desk_in d).nest_is.points (desk_in d).nest_is.deps (desk_in d).sitting i
  pub uncut_is : r.uncut ≡ uncut_count (desk_in d).nest_is.points (desk_in d).nest_is.deps (desk_in d).sitting

-- the reply that tells nothing
pub record Blank (number : ℕ) (r : DS.Standing) : Type 0 where
  pub number_is : r.number ≡ number
  pub line_is : r.line ≡ 0
  pub no_gaps : gaps_in r.placement.words ≡ []
  pub no_counts : (l : ℕ) → at r.counts l ≡ 0
  pub no_cuts : (i : ℕ) → at r.cuts i ≡ 0
  pub none_uncut : r.uncut ≡ 0

-- each entry of the table fits a byte
abbrev pub Few : List ℕ → Type 0
Few table = (i : ℕ) → i < POINTS → at table i < 256
