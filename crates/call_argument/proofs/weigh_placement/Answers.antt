-- `weigh_placement` meets its contract: a placement that was read rises within the nest's gaps (`read_rising_on`) and has
-- no barred one (`placement_avoids`).
use Rattle.desk.specs.Desks.{desk_in}
use Rattle.call_slips.proofs.Answers.{read_rising_on}
use Rattle.call_argument.proofs.Replies.{placement_avoids}
use Rattle.call_argument.proofs.weigh_placement.Goals as goal

pub weigh_on-requires-clause-words_value : goal.weigh_on-requires-clause-words_value
weigh_on-requires-clause-words_value c = read_rising_on c.args.desk c.args.placement.now _ c.in-Ok.ensures

pub weigh_on-requires-clause-words_value_2 : goal.weigh_on-requires-clause-words_value_2
weigh_on-requires-clause-words_value_2 c =
    placement_avoids (desk_in c.args.desk) c.args.placement.now 0 0 _ c.in-Ok.ensures.read_is
