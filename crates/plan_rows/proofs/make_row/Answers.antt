-- `make_row` meets its contract: the values, then the choice among them; or zeros where nothing is to cut (Making).
use native.Mathlib.Omega.{arith}
use Rattle.plan_rows.proofs.Making.{values_are, made_Some, made_none}
use Rattle.plan_rows.proofs.make_row.Goals as goal

pub returns-then-some-eq0 : goal.returns-then-some-eq0
returns-then-some-eq0 c = made_none c.requires.row_room c.if-some-eq0.true c.clear.ensures c.clear-then-some-eq0.ensures

pub returns : goal.returns
returns c =
    let p = c.requires.row_room in
    let v = c.values-m.ensures in
    let u = values_are p c.follow_all-first.ensures c.mark.ensures v.closed_says v.fronts_in in
    made_Some p (omega (arith, c.if-some-eq0.false)) u c.choose.ensures.choose_says c.choose.ensures.kept
    c.choose.ensures.kept_2
