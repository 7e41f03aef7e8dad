-- `first_barrier` meets its contract. The invariant: the best so far goes on to the best of all (`Choosing`).
use Prim.Native.Nat.{◌<◌}
use Rattle.std.specs.Option.{IfSome, unwrap_or}
use Rattle.laws.specs.Entries.{at}
use Rattle.paper_placements.specs.Words.{gaps_in}
use Rattle.paper_placements.specs.Placements.{is_free}
use Rattle.call_textbook.specs.Places.{cuts_behind}
use Rattle.call_textbook.proofs.Choosing.{Choosing}
use Rattle.call_textbook.proofs.first_barrier.Given as goal

abbrev pub invariant-loop-g : goal.invariant-loop-g
invariant-loop-g l =
    let m = l.ring.m in
    let count = cuts_behind (at l.ring.latest.now) m in
    let free = is_free (gaps_in l.barred.words) in record {
      chosen : Choosing count free m (unwrap_or l.best 0) l.least l.g;
      found : IfSome l.best (λ g. 0 < g);
    }
