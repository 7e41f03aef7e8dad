-- `end_barriers` meets its contract. The invariant: the longest durations of the phases that were read are added up.
use lib.ListN.{length}
use Rattle.std.specs.Slice.Iter.{chunks_exact_rest, chunks_exact_size}
use Rattle.call_sheet.proofs.Ending.{Summed}
use Rattle.call_sheet.proofs.end_barriers.Given as goal

abbrev pub invariant-loop-row : goal.invariant-loop-row
invariant-loop-row l =
    let s = l.sheet in
    let rows = l.row-iterator in
    Summed s.processors s.phases s.durations.now (length l.yielded) (chunks_exact_rest rows) (chunks_exact_size rows)
    l.end
