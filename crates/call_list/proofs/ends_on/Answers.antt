-- `ends_on` meets its contract: on a desk made by calls every loop ends at a point (`made_ends`).
use Rattle.call_list.proofs.ShortEnds.{made_ends}
use borrow.Author.Rules.{rules}
use Rattle.call_list.proofs.ends_on.Goals as goal

pub ends_in-requires : goal.ends_in-requires
ends_in-requires c = rw c.points.ensures (search rules, made_ends c.args.desk c.requires)
