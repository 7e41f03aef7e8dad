-- `candidate_slip` meets its contract: a placement that was read rises within the nest's gaps (`read_rising_on`).
use Rattle.call_slips.proofs.Answers.{read_rising_on}
use Rattle.call_slips.proofs.candidate_slip.Goals as goal

pub write_slip-requires-clause-words_value : goal.write_slip-requires-clause-words_value
write_slip-requires-clause-words_value c =
    read_rising_on c.args.desk c.args.text.now _ c.in-Ok.ensures
