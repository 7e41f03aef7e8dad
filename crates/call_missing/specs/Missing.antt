-- What the loops that the call gives are good for.
-- Main definitions: `MissingIff`, `MissingReached`, `MissingAlike`.
use Rattle.std.specs.Prelude.{◌≡◌, true, List, ◌↔◌, ℕ}
use Rattle.laws.specs.Choice.{is_in}
use Rattle.laws.specs.Members.{Among}
use Rattle.paper_nests.specs.Nests.{Dep}
use Rattle.paper_placements.specs.Words.{gaps_in}
use Rattle.desk.specs.declared.Desk as DD
use Rattle.desk.specs.declared.Chosen as DC
use Rattle.desk.specs.Desks.{desk_in, IsMade}
use Rattle.desk.proofs.Choosing.{SameChosen}
use Rattle.call_missing.specs.Listed.{NeedsBarrier}
use Rattle.call_missing.specs.Reached.{IsReached, AllForeign}
use Rattle.call_missing.specs.Says.{MissingSays}

-- a loop is given exactly if it needs a barrier for its missing run
abbrev pub MissingIff : Type 0
MissingIff =
    (d : DD.Desk) (r : DC.Chosen) →
    IsMade d →
    MissingSays d r →
    r.number ≡ 0 →
    let n = (desk_in d).nest_is in
    (l : ℕ) →
    (is_in l (gaps_in r.set.words) ≡ true) ↔ NeedsBarrier n.points n.deps n.flagged (desk_in d).key l

-- 02, job 10: whichever flagged loops are skipped, a dependence to which all of them are foreign is still cut
abbrev pub MissingReached : Type 0
MissingReached =
    (d : DD.Desk) (r : DC.Chosen) →
    IsMade d →
    MissingSays d r →
    r.number ≡ 0 →
    let n = (desk_in d).nest_is in
    (skipped : List ℕ) (e : Dep) →
    Among e n.deps →
    AllForeign n e skipped → IsReached n.points n.deps n.flagged e skipped (desk_in d).key

-- 02, job 6: two desks with the same nest, and with a key both or neither
abbrev pub MissingAlike : Type 0
MissingAlike =
    (d e : DD.Desk) (a b : DC.Chosen) →
    IsMade d →
    IsMade e →
    d.loaded ≡ e.loaded →
    (desk_in d).nest_is ≡ (desk_in e).nest_is →
    d.planned ≡ e.planned →
    MissingSays d a → MissingSays e b → SameChosen a b
