-- `lifted` meets its contract: one word with one bit turned over (`holds_lifted`).
use mathlib.Core.Path.{◌≡◌}
use Prim.Native.Nat.{◌%◌, ◌/◌, ◌<◌}
use native.Mathlib.Omega.{arith}
use native.Mathlib.Nat.{one-mul}
use lib.Dec.{lit<}
use lib.ListN.{length}
use lib.Pow.{shl_exact}
use borrow.Author.Rules.{rules}
use Rattle.desk_sitting.proofs.Words.{holds_lifted, turned}
use Rattle.desk_sitting.proofs.lifted.Goals as goal

pub returns : goal.returns
unfolding turned
returns c =
    let ws = c.args.p.words in
    let g = c.args.g in
    let e : length ws ≡ 4 = search rules in
    let h : g / 64 < length ws = omega arith in
    rw (shl_exact 1 (g % 64) 64 (lit< tt) (omega arith), one-mul) (λ i. holds_lifted ws g i h c.requires.g_value)
