use mathlib.Core.Path.{◌≡◌, sym, ◌∙◌}
use mathlib.Core.Bool.{true}
use mathlib.Core.List.{List}
use Prim.Native.Nat.{ℕ, ◌+◌, ◌<◌}
use native.Mathlib.Omega.{arith}
use lib.ListN.{length, get_or, drop, length-drop}
use Rattle.paper_lines.specs.Lines.{is_hex}
use Rattle.paper_lines.proofs.Reading.{Digits-to, to_next, to_end, end_in_part, digits_fit}
use Rattle.paper_lines.proofs.digits_in.Goals as goal

-- each digit of a turn leads to the next byte
module _ (s : List ℕ) (i : ℕ) (four : i + 3 < length s) (p : Digits-to s i) (a : true ≡ is_hex (get_or s i 0)) where
  second : Digits-to s (i + 1)
  second = to_next s i (i + 1) (omega arith) (omega arith) (sym a) p

  module _ (b : true ≡ is_hex (get_or s (i + 1) 0)) where
    third : Digits-to s (i + 2)
    third = to_next s (i + 1) (i + 2) (omega arith) (omega arith) (sym b) second

    fourth : true ≡ is_hex (get_or s (i + 2) 0) → Digits-to s (i + 3)
    fourth c = to_next s (i + 2) (i + 3) (omega arith) (omega arith) (sym c) third

pub returns-then-not-is_hex : goal.returns-then-not-is_hex
returns-then-not-is_hex c = to_end _ _ (omega arith) (sym c.if-not-is_hex.ensures) c.loop-i.invariant.1

pub returns-then-not-is_hex-2 : goal.returns-then-not-is_hex-2
returns-then-not-is_hex-2 c =
    to_end _ _ (omega arith) (sym c.if-not-is_hex-2.ensures)
    (second _ _ c.loop-i-test.true c.loop-i.invariant.1 c.if-not-is_hex.ensures)

pub returns-then-not-is_hex-3 : goal.returns-then-not-is_hex-3
returns-then-not-is_hex-3 c =
    to_end _ _ (omega arith) (sym c.if-not-is_hex-3.ensures)
    (third _ _ c.loop-i-test.true c.loop-i.invariant.1 c.if-not-is_hex.ensures c.if-not-is_hex-2.ensures)

pub returns-then-not-is_hex-4 : goal.returns-then-not-is_hex-4
returns-then-not-is_hex-4 c =
    to_end _ _ c.loop-i-test.true (sym c.if-not-is_hex-4.ensures)
    (fourth _ _ c.loop-i-test.true c.loop-i.invariant.1 c.if-not-is_hex.ensures c.if-not-is_hex-2.ensures c.if-not-is_hex-3.ensures)

pub loop-i-preserved : goal.loop-i-preserved
loop-i-preserved c = (
  omega arith,
  to_next _ _ _ (omega arith) c.loop-i-test.true (sym c.if-not-is_hex-4.ensures)
      (fourth _ _ c.loop-i-test.true c.loop-i.invariant.1 c.if-not-is_hex.ensures c.if-not-is_hex-2.ensures c.if-not-is_hex-3.ensures),
)

pub overflow_add-result-2 : goal.overflow_add-result-2
overflow_add-result-2 c =
    let text = c.args.text.now in
    let i = c.loop-i.i in
    omega (
      arith,
      end_in_part text i c.digits_from.result c.digits_from.ensures,
      digits_fit (drop i text),
      length-drop i text,
      c.well_formed,
    )

pub returns : goal.returns
returns c = end_in_part c.args.text.now c.loop-i.i c.digits_from.result c.digits_from.ensures ∙ c.loop-i.invariant.1
