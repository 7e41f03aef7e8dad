-- `close` meets its contract: its numbers are within their limits.
use Rattle.argue_judge.proofs.Ends.{shown_room}
use Rattle.argue_judge.proofs.close.Goals as goal

pub is_shown-requires : goal.is_shown-requires
is_shown-requires c = shown_room c.requires.closing_room c.most_of-most.result c.most_of-most.ensures

pub is_exact-exact-requires : goal.is_exact-exact-requires
is_exact-exact-requires c = shown_room c.requires.closing_room c.most_of-most.result c.most_of-most.ensures
