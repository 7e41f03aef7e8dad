-- `sitting_stands` meets its contract: the nest of a desk made by calls has a table of counts, and each count fits a byte
-- (proofs/Answers).
use borrow.Author.Tests.{not-false}
use Rattle.call_standing.proofs.Answers.{sat, few_counts}
use Rattle.call_standing.proofs.sitting_stands.Goals as goal

pub counts_of-table-requires-clause-points_value : goal.counts_of-table-requires-clause-points_value
counts_of-table-requires-clause-points_value c =
    let y = sat c.args.desk c.requires (not-false c.args.desk.loaded c.if-not-desk.false) in
    (y.shape, y.few)

pub in_bytes-counts-requires : goal.in_bytes-counts-requires
in_bytes-counts-requires c =
    few_counts c.args.desk c.counts_of-table.result c.counts_of-table.ensures
    (sat c.args.desk c.requires (not-false c.args.desk.loaded c.if-not-desk.false))
