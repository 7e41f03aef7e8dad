-- `Placement::put` meets its contract: one word with one bit more (`holds_put`).
use mathlib.Core.Path.{◌≡◌}
use Prim.Native.Nat.{◌%◌, ◌/◌, ◌<◌}
use native.Mathlib.Omega.{arith}
use native.Mathlib.Nat.{one-mul}
use lib.Dec.{lit<}
use lib.ListN.{length}
use lib.Pow.{shl_exact}
use borrow.Author.Rules.{rules}
use Rattle.paper_placements.proofs.Words.{holds_put, put_in}
use Rattle.paper_placements.proofs.Placement.put.Goals as goal

pub returns : goal.returns
unfolding put_in
returns c =
    let ws = c.args.self.words in
    let g = c.args.g in
    let e : length ws ≡ 4 = search rules in
    let h : g / 64 < length ws = omega arith in
    rw (shl_exact 1 (g % 64) 64 (lit< tt) (omega arith), one-mul) (λ i. holds_put ws g i h)
