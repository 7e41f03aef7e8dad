-- `gone_over_with` meets its contract: a made desk's nest with whatever key is a made desk of the old kind
-- (`Made-plain`).
use Rattle.desk.proofs.Over.{Made-plain, made_over}
use Rattle.cases_replies.proofs.gone_over_with.Goals as goal

pub returns : goal.returns
returns c = made_over _ c.go_over.result (Made-plain c.args.desk c.unwrap_or-key.result c.requires) c.go_over.ensures
