-- The suffix goes into the two rows, the sweep is that of the lap (OneLap), and the rows are as before.
use native.Mathlib.Omega.{arith}
use lib.ListN.{length-set}
use Rattle.argue_laps.proofs.Suffix.{few_back, suffixed, placed, sets_there, set_again}
use Rattle.argue_laps.proofs.OneLap.{lapped}
use Rattle.argue_laps.proofs.lap.Goals as goal

pub suffix_of-suffix-requires : goal.suffix_of-suffix-requires
suffix_of-suffix-requires c = few_back c.requires.lap_room c.args.f c.last_back-last.ensures

pub offset_bounds-need-q : goal.offset_bounds-need-q
offset_bounds-need-q c =
    let q = placed c.requires.lap_room c.args.f c.last_back-last.ensures c.suffix_of-suffix.ensures in
    omega (arith, q.0)

pub bounds-need-q : goal.bounds-need-q
bounds-need-q c =
    let q = placed c.requires.lap_room c.args.f c.last_back-last.ensures c.suffix_of-suffix.ensures in
    omega (arith, q.1)

pub offset_bounds-sets-q : goal.offset_bounds-sets-q
offset_bounds-sets-q c =
    let q = placed c.requires.lap_room c.args.f c.last_back-last.ensures c.suffix_of-suffix.ensures in
    omega (arith, q.0)

pub bounds-sets-q : goal.bounds-sets-q
bounds-sets-q c =
    let q = placed c.requires.lap_room c.args.f c.last_back-last.ensures c.suffix_of-suffix.ensures in
    omega (arith, q.2)

pub offset_bounds-need-q-2 : goal.offset_bounds-need-q-2
offset_bounds-need-q-2 c =
    let q = placed c.requires.lap_room c.args.f c.last_back-last.ensures c.suffix_of-suffix.ensures in
    omega (arith, q.0)

pub bounds-need-q-2 : goal.bounds-need-q-2
bounds-need-q-2 c =
    let q = placed c.requires.lap_room c.args.f c.last_back-last.ensures c.suffix_of-suffix.ensures in
    omega (arith, q.1)

pub offset_bounds-sets-q-2 : goal.offset_bounds-sets-q-2
offset_bounds-sets-q-2 c =
    let q = placed c.requires.lap_room c.args.f c.last_back-last.ensures c.suffix_of-suffix.ensures in
    omega (arith, q.0)

pub bounds-sets-q-2 : goal.bounds-sets-q-2
bounds-sets-q-2 c =
    let q = placed c.requires.lap_room c.args.f c.last_back-last.ensures c.suffix_of-suffix.ensures in
    omega (arith, q.2)

pub trace-s-requires-clause-sets_room : goal.trace-s-requires-clause-sets_room
trace-s-requires-clause-sets_room c =
    let w = c.requires.lap_room in
    sets_there w (suffixed w c.last_back-last.ensures c.suffix_of-suffix.ensures) c.where_less.ensures

pub offset_bounds-need-q-3 : goal.offset_bounds-need-q-3
offset_bounds-need-q-3 c =
    let q = placed c.requires.lap_room c.args.f c.last_back-last.ensures c.suffix_of-suffix.ensures in
    omega (arith, q.0)

pub bounds-need-q-3 : goal.bounds-need-q-3
bounds-need-q-3 c =
    let q = placed c.requires.lap_room c.args.f c.last_back-last.ensures c.suffix_of-suffix.ensures in
    rw length-set q.1

pub offset_bounds-sets-q-3 : goal.offset_bounds-sets-q-3
offset_bounds-sets-q-3 c =
    let q = placed c.requires.lap_room c.args.f c.last_back-last.ensures c.suffix_of-suffix.ensures in
    omega (arith, q.0)

pub bounds-sets-q-3 : goal.bounds-sets-q-3
bounds-sets-q-3 c =
    let q = placed c.requires.lap_room c.args.f c.last_back-last.ensures c.suffix_of-suffix.ensures in
    rw length-set q.2

pub returns : goal.returns
returns c =
    let room = c.requires.lap_room in
    let suffix = suffixed room c.last_back-last.ensures c.suffix_of-suffix.ensures in
    let a = c.args in
    let q = c.suffix_of-suffix.result.at in
    record {
      lap_says = lapped room suffix c.min.ensures c.where_less.ensures c.trace-s.ensures c.close_up.ensures;
      need_unchanged = (
        set_again a.need.now q c.min.result,
        set_again a.sets.now q c.where_less.result,
      );
    }
