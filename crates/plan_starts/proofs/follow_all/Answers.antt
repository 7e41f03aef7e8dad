-- `follow_all` meets its contract: the events, followed from left to right, are what the sweeps make (Whole).
use Rattle.plan_starts.proofs.Whole.{follow_room, joined}
use Rattle.plan_starts.proofs.follow_all.Goals as goal

pub follow-requires : goal.follow-requires
follow-requires c =
    follow_room c.requires.starts_room c.events.ensures c.events.auto.cs
    c.events.auto.fs c.events.auto.link

pub returns : goal.returns
returns c =
    joined c.requires.starts_room c.events.ensures c.requires.ground c.last_need-first.ensures c.follow.ensures
