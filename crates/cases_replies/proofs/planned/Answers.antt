-- `planned` meets its contract: its desk is made by calls (`made_empty`, `made_load`, `made_plan`).
use Rattle.desk.proofs.Made.{made_empty, made_load, made_plan}
use Rattle.cases_replies.proofs.planned.Goals as goal

pub plan_key-requires : goal.plan_key-requires
plan_key-requires c =
    made_load c.empty.result _ c.load_nest-loaded.result (made_empty c.empty.result c.empty.ensures) c.load_nest-loaded.ensures

pub returns : goal.returns
returns c =
    made_plan c.load_nest-loaded.result.desk c.plan_key.result
    (made_load c.empty.result _ c.load_nest-loaded.result (made_empty c.empty.result c.empty.ensures) c.load_nest-loaded.ensures)
    c.plan_key.ensures
