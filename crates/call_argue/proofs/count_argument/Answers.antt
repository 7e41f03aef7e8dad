-- What is spelled into one byte is counted: without room the place alone moves on.
use native.Mathlib.Omega.{arith}
use Rattle.paper_nests.specs.Stored.{nest_in}
use Rattle.call_argue.proofs.Replies.{all_spelled}
use Rattle.call_argue.proofs.count_argument.Goals as goal

pub returns : goal.returns
returns c =
    let l = all_spelled (nest_in c.args.nest) c.requires.nest_value c.requires.nest_value_2 c.give_argument.ensures in
    omega (arith, l.next_is)
