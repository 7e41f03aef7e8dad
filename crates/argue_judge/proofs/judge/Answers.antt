-- `judge` meets its contract: the tables are those of the nest and of the key.
use mathlib.Core.Path.{sym}
use borrow.Author.Rules.{rules}
use Rattle.paper_placements.specs.Words.{gaps_in}
use Rattle.argue_judge.proofs.Lines.{nest_shape, points_fit, tables-of, judgeable}
use Rattle.argue_judge.proofs.judge.Goals as goal

pub owners_of-owners-requires : goal.owners_of-owners-requires
owners_of-owners-requires c =
    rw c.points-points.ensures
    (nest_shape c.args.nest c.requires.nest_value, points_fit c.args.nest c.requires.counted)

pub counts_of-counts-requires-clause-points_value : goal.counts_of-counts-requires-clause-points_value
counts_of-counts-requires-clause-points_value c =
    rw c.points-points.ensures
    (nest_shape c.args.nest c.requires.nest_value, points_fit c.args.nest c.requires.counted)

pub judge_lines-requires-clause-judgeable : goal.judge_lines-requires-clause-judgeable
judge_lines-requires-clause-judgeable c =
    judgeable c.args.nest (gaps_in c.args.key.words) c.owners_of-owners.result c.ends_of-ends.result
    c.counts_of-counts.result c.requires.counted c.requires.nest_value c.requires.words_value c.points-points.result.now
    c.points-points.ensures c.owners_of-owners.ensures c.ends_of-ends.ensures c.counts_of-counts.ensures
    c.set_of-barred.result.words (rw (sym c.barred_gaps.ensures) c.set_of-barred.ensures) (search rules) (search rules) (search rules)

pub returns-clause-first : goal.returns-clause-first
returns-clause-first c =
    c.judge_lines.ensures.first (gaps_in c.args.key.words)
    (tables-of c.args.nest (gaps_in c.args.key.words) c.owners_of-owners.result c.ends_of-ends.result
    c.counts_of-counts.result c.requires.counted c.requires.nest_value c.requires.words_value c.points-points.result.now
    c.points-points.ensures c.owners_of-owners.ensures c.ends_of-ends.ensures c.counts_of-counts.ensures)
