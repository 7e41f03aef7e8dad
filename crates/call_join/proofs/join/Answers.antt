-- `join` meets its contract: two texts that are accepted and bar no gap are papers (`accepted_papers`).
use Rattle.call_join.proofs.Accepted.{accepted_papers}
use Rattle.call_join.proofs.join.Goals as goal

pub invariant_of-both : goal.invariant_of-both
invariant_of-both c =
    let n = c.in-Ok.ensures in
    let m = c.in-Ok-read_nest.ensures in
    record {
      first_counted = n.counted;
      second_counted = m.counted;
      papers = accepted_papers n m c.if-n-ne0.false c.if-m-ne0.false;
    }
