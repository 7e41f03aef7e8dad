-- `weigh` meets its contract: a desk with a key is ready (`ready`).
use mathlib.Core.Path.{sym}
use Rattle.desk.proofs.Ready.{ready}
use Rattle.call_argument.proofs.weigh.Goals as goal

pub weigh_on-requires : goal.weigh_on-requires
weigh_on-requires c =
    let r = ready c.args.desk c.requires (sym c.in_default.ensures) in
    record { counted = r.counted; nest_value = r.valid; words_value = r.key-gaps; words_value_2 = r.key_avoids }
