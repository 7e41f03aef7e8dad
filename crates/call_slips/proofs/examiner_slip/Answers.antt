-- `examiner_slip` meets its contract: a desk with a key is ready to judge (`ready`), and a placement that was read rises
-- within the nest's gaps (`read_rising_on`).
use mathlib.Core.Path.{sym}
use Rattle.desk.proofs.Ready.{ready}
use Rattle.call_slips.proofs.Answers.{read_rising_on}
use Rattle.call_slips.proofs.examiner_slip.Goals as goal

pub write_examiner-requires-clause-words_value : goal.write_examiner-requires-clause-words_value
write_examiner-requires-clause-words_value c = (ready c.args.desk c.requires (sym c.in_default.ensures)).key-gaps

pub write_examiner-requires-clause-words_value_2 : goal.write_examiner-requires-clause-words_value_2
write_examiner-requires-clause-words_value_2 c =
    read_rising_on c.args.desk c.args.text.now _ c.in-Ok.ensures
