-- What `answer` is handed lies in the buffer: the bytes that were read do (`read_within`).
use mathlib.Core.Path.{sym}
use Prim.Native.Nat.{◌≤◌}
use lib.ListN.{length}
use lib.Seq.{length-take-le}
use Rattle.key.proofs.Reading.{read_within}
use Rattle.key.proofs.main.Goals as goal

pub slice_bounds-input-end : goal.slice_bounds-input-end
slice_bounds-input-end c = read_within _ c.read_input.result c.read_input.new.input _ c.in-Some.is c.read_input.ensures

pub slice_bounds-answer-end : goal.slice_bounds-answer-end
slice_bounds-answer-end c =
    let within : c.in-Some.read ≤ length c.read_input.new.input =
    read_within _ c.read_input.result c.read_input.new.input _ c.in-Some.is c.read_input.ensures in
    sym (length-take-le c.in-Some.read c.read_input.new.input within)
