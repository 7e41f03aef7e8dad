-- `load_nest` meets its contract: one law for a refused text, one for an accepted one (proofs/Loads).
use mathlib.Core.Path.{refl}
use Rattle.desk.proofs.Loads.{load_refused, load_accepted}
use Rattle.desk.proofs.load_nest.Goals as goal

pub returns-in-Err : goal.returns-in-Err
returns-in-Err c = load_refused c.args.text.now c.in-Err.fault c.in-Err.ensures c.args.desk _ c.from.ensures refl refl

pub returns-in-Ok : goal.returns-in-Ok
returns-in-Ok c =
    load_accepted c.args.text.now c.in-Ok.nest c.in-Ok.ensures c.args.desk _ refl refl refl refl refl
    c.empty.ensures c.empty-in-Ok.ensures c.empty-in-Ok-2.ensures
