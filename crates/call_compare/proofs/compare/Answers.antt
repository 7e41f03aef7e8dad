-- `compare` meets its contract: a placement that was read rises within the nest's gaps (`read_rising_on`).
use Rattle.call_slips.proofs.Answers.{read_rising_on}
use Rattle.call_compare.proofs.compare.Goals as goal

pub weigh-requires-clause-words_value : goal.weigh-requires-clause-words_value
weigh-requires-clause-words_value c = read_rising_on c.args.desk c.args.a.now _ c.in-Ok.ensures

pub weigh-requires-clause-words_value_2 : goal.weigh-requires-clause-words_value_2
weigh-requires-clause-words_value_2 c = read_rising_on c.args.desk c.args.b.now _ c.in-Ok-read_on.ensures
