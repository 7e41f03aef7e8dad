-- `shared` meets its contract: the ones of a word are its bits (`ones_tally`).
use mathlib.Core.Path.{◌∙◌}
use mathlib.Core.Bool.{◌&&◌}
use Prim.Native.Nat.{ℕ, ◌≤◌}
use native.Mathlib.Omega.{arith}
use lib.Bits.{bit_and, and_le_l}
use lib.Count.{ones, ones-le}
use Rattle.laws.specs.Bits.{bit}
use Rattle.laws.proofs.Bits.{bit-and, ones_tally, tally_same}
use Rattle.paper_placements.proofs.shared.Goals as goal

pub overflow_cast-result : goal.overflow_cast-result
overflow_cast-result c =
    let small : ones (bit_and c.args.a c.args.m) ≤ 64 = ones-le 64 (bit_and c.args.a c.args.m) (omega (arith, and_le_l c.args.a c.args.m)) in
    omega (arith, small)

pub returns : goal.returns
returns c =
    let small : ones (bit_and c.args.a c.args.m) ≤ 64 = ones-le 64 (bit_and c.args.a c.args.m) (omega (arith, and_le_l c.args.a c.args.m)) in
    let a = c.args in (
      ones_tally 64 (bit_and a.a a.m) (omega (arith, and_le_l a.a a.m)) ∙
          tally_same
          (bit (bit_and a.a a.m))
          (λ (b : ℕ). bit a.a b && bit a.m b)
          64
          0
          (λ j l h. bit-and a.a a.m j),
      small,
    )
