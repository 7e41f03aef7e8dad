use Prim.Native.Nat.{ℕ, ◌^◌, ◌<◌}
use native.Mathlib.Omega.{arith}
use mir.Syntax.{w64}
use mir.Val.{Fits}
use lib.ListN.{get_or}
use borrow.Author.Rules.{rules}
use Rattle.paper_placements.proofs.Lowest.{low_first, pass_first, low_later, pass_later}
use Rattle.paper_placements.proofs.Placement.lowest_from.Goals as goal
use Rattle.paper_placements.proofs.Placement.lowest_from.Goals.{Start}

-- each word fits its type
word_fits : (c : Start) (i : ℕ) → get_or c.args.self.words i 0 < 2 ^ 64
word_fits c i = let f : Fits w64 (get_or c.args.self.words i 0) = search rules in f.fits

pub returns-then-v-ne0 : goal.returns-then-v-ne0
returns-then-v-ne0 c =
    let fits = word_fits (goal.at.returns-then-v-ne0 c).Start in
    (low_first _ fits _ (omega arith) (omega arith)).1

pub loop-i-init : goal.loop-i-init
loop-i-init c =
    let fits = word_fits (goal.at.loop-i-init c).Start in
    pass_first _ fits _ (omega arith) (omega arith)

pub returns-then-w-ne0 : goal.returns-then-w-ne0
returns-then-w-ne0 c =
    let fits = word_fits (goal.at.returns-then-w-ne0 c).Start in
    (low_later _ fits _ _ (omega arith) c.loop-i.invariant (omega arith)).1

pub loop-i-preserved : goal.loop-i-preserved
loop-i-preserved c =
    let fits = word_fits (goal.at.loop-i-preserved c).Start in
    pass_later _ fits _ _ c.loop-i.invariant (omega arith)
