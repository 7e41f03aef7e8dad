-- `go_over` meets its contract: the desk without its key is made by calls (`bare_held`, `bare_made`), and Plan gives
-- it the key of its nest where it had one (`over_planned`, `over_bare`).
use mathlib.Core.Path.{◌≡◌, refl}
use mathlib.Core.Bool.{false}
use mathlib.Core.List.{[]}
use Prim.Native.Nat.{ℕ}
use Rattle.paper_nests.specs.Stored.{nest_in}
use Rattle.paper_placements.specs.declared.Placement as DP
use Rattle.paper_placements.specs.Words.{holds}
use Rattle.paper_placements.proofs.Words.{gaps_none}
use Rattle.desk_sitting.specs.declared.Sitting as DS
use Rattle.desk_sitting.specs.Kept as Kept
use Rattle.desk_moves.specs.declared.Moves as DM
use Rattle.desk_moves.specs.Ring as Ring
use Rattle.desk.specs.declared.PlainDesk as OD
use Rattle.desk.specs.Desks.{desk, IsMadePlain}
use Rattle.desk.specs.Says.{Holds}
use Rattle.desk.proofs.Held.{held}
use Rattle.desk.proofs.Over.{bare_made, over_planned, over_bare}
use Rattle.desk.proofs.go_over.Goals as goal

-- the desk without its key
bare_held
    : (old : OD.PlainDesk) {key : DP.Placement} {sitting : DS.Sitting} {moves : DM.Moves}
    → IsMadePlain old
    → ((i : ℕ) → holds key.words i ≡ false)
    → Kept.EmptySays old.nest.many sitting
    → Ring.EmptySays moves
    → Holds
    (record {
      loaded = old.loaded;
      nest = old.nest;
      planned = false;
      key = key;
      sitting = sitting;
      moves = moves;
    })
    (desk old.loaded (nest_in old.nest) false [] [] [])
bare_held old made empty sitting moves =
    held _ _ _ _ _ refl refl refl (gaps_none _ (λ i l. empty i)) made.counted sitting moves

pub plan_key-reply-requires : goal.plan_key-reply-requires
plan_key-reply-requires c =
    bare_made c.args.old c.requires _
    (bare_held c.args.old c.requires c.empty.ensures c.empty-sitting.ensures c.empty-2.ensures)

pub returns-then-old : goal.returns-then-old
returns-then-old c =
    over_planned c.args.old c.requires _ c.plan_key-reply.result
    (bare_held c.args.old c.requires c.empty.ensures c.empty-sitting.ensures c.empty-2.ensures)
    c.plan_key-reply.ensures c.if-old.true

pub returns : goal.returns
returns c =
    over_bare c.args.old c.requires _
    (bare_held c.args.old c.requires c.empty.ensures c.empty-sitting.ensures c.empty-2.ensures)
    c.if-old.false
