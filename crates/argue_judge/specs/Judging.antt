-- The lines of a text judged over tables of a nest.
-- Main definitions: `NestTables`, `Judgeable`, `line_in`, `JudgedBy`.
use Rattle.std.specs.Prelude.{◌≡◌, true, List, ℕ, ◌-◌, ◌<◌, length, Option, None, Some}
use Rattle.laws.specs.Choice.{is_in}
use Rattle.laws.specs.Entries.{at}
use Rattle.paper_nests.specs.declared.Nest as DN
use Rattle.paper_nests.specs.Kinds.{POINTS}
use Rattle.paper_nests.specs.Nests.{Nest}
use Rattle.paper_nests.specs.Stored.{nest_in, IsCounted}
use Rattle.paper_lines.specs.Lines.{lines_of}
use Rattle.paper_placements.specs.Placements.{are_gaps_from, loop_count}
use Rattle.paper_placements.specs.Words.{holds}
use Rattle.argue_texts.specs.ArgumentTexts.{parts_of}
use Rattle.argue_texts.specs.Judged.{judged}
use Rattle.argue_weigh.specs.Taking.{PaperTables}

-- what does not change while the lines are read: the tables of the nest, and the key's counts
pub record NestTables (n : Nest) (key : List ℕ) (last : ℕ) (ends owners counts : List ℕ) : Type 0 where
  pub paper : PaperTables n key last ends owners
  pub small : last < POINTS
  pub counts_are : (d : ℕ) → d < POINTS → at counts d ≡ loop_count n key d
  pub gaps : are_gaps_from 0 (length n.points) key ≡ true

-- the tables are those of some placement
pub record Judgeable (nest : DN.Nest) (ps owners ends counts barred : List ℕ) : Type 0 where
  pub key : List ℕ
  pub counted : IsCounted nest
  pub points_are : ps ≡ (nest_in nest).points
  pub tables : NestTables (nest_in nest) key (length ps - 1) ends owners counts
  pub barred_are : (g : ℕ) → holds barred g ≡ is_in g (nest_in nest).barred
  pub owners_long : length owners ≡ POINTS
  pub ends_long : length ends ≡ POINTS
  pub counts_long : length counts ≡ POINTS

-- the line that was found, 0 for none
abbrev pub line_in : Option ℕ → ℕ
line_in None = 0
line_in (Some l) = l

-- r is the first line that does not hold, for every placement of which they are the tables
abbrev pub JudgedBy : DN.Nest → List ℕ → List ℕ → List ℕ → List ℕ → List ℕ → Option ℕ → Type 0
JudgedBy nest ps owners ends counts s r =
    (key : List ℕ) →
    NestTables (nest_in nest) key (length ps - 1) ends owners counts →
    line_in r ≡ judged (nest_in nest) key (parts_of (lines_of s))
