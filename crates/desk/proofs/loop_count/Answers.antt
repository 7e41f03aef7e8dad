-- `loop_count` meets its contract: a desk with a key is ready for the count (`ready`).
use mathlib.Core.Path.{sym, ◌∙◌}
use Rattle.desk.proofs.Ready.{ready}
use Rattle.desk.proofs.loop_count.Goals as goal

pub count_of-requires : goal.count_of-requires
count_of-requires c =
    let r = ready c.args.desk c.requires (sym c.in_default.ensures) in
    record {
      points_value = (r.shape, r.few);
      d_value = sym c.is_do.ensures ∙ c.if-not-is_do.false;
      words_value = r.key-gaps;
    }
