-- All claims are spelled, and the reply where the buffer has room for them.
-- Main statements: `all_spelled`, `argue_given`.
use mathlib.Core.Path.{◌≡◌, refl, sym, ◌∙◌}
use mathlib.Core.Bool.{true, false}
use mathlib.Core.List.{List}
use Prim.Native.Nat.{ℕ, ◌≤◌}
use native.Mathlib.Omega.{arith}
use lib.Dec.{ltb}
use lib.ListN.{length}
use borrow.Author.Tests.{le-ltb}
use Rattle.laws.specs.Choice.{when}
use Rattle.laws.proofs.Choices.{first_none}
use Rattle.paper_nests.specs.Nests.{Nest}
use Rattle.paper_nests.specs.Valid.{is_valid}
use Rattle.paper_lines.specs.Writing.{over}
use Rattle.paper_barred.specs.Reduced.{is_blocked}
use Rattle.argue_key.specs.Laps.{argument_of}
use Rattle.argue_lengths.proofs.Claims.{few_claims}
use Rattle.argue_spell.specs.Added.{Added}
use Rattle.argue_paper.specs.Spelled.{Spelled}
use Rattle.desk.specs.declared.Desk as DD
use Rattle.desk.specs.declared.Answer as DA
use Rattle.desk.specs.Desks.{desk_in, state_fault}
use Rattle.call_argue.specs.Says.{text_of, argue_fault, ArgueSays}

-- the claims are never too many, so all of them are spelled
pub all_spelled
    : (n : Nest) {out out' : List ℕ} {many next : ℕ} → is_valid n ≡ true → is_blocked n ≡ false
    → Spelled (argument_of n) out out' many next → Added (text_of n) 0 out out' next
all_spelled n valid unblocked s = s.text_is (omega (arith, s.many_is, few_claims n valid unblocked))

module _ (d : DD.Desk) (out : List ℕ) (r : DA.Answer) where
  abbrev state : ℕ
  state = state_fault true (desk_in d)

  abbrev short : ℕ
  short = when (ltb (length out) (length (text_of (desk_in d).nest_is))) 9

  pub argue_given
      : (out' : List ℕ) → state ≡ 0 → length (text_of (desk_in d).nest_is) ≤ length out → r.number ≡ 0 → r.line ≡ 0
      → r.value ≡ length (text_of (desk_in d).nest_is) → out' ≡ over (text_of (desk_in d).nest_is) out
      → ArgueSays d out out' r
  argue_given out' s o n i v p =
      let t : ltb (length out) (length (text_of (desk_in d).nest_is)) ≡ false =
      le-ltb (length out) (length (text_of (desk_in d).nest_is)) o in
      let m : short ≡ 0 = rw t refl in
      let e : argue_fault (desk_in d) out ≡ 0 = first_none state short s ∙ m in
      record {
        number_is = n ∙ sym e;
        line_is = i;
        value_is = rw e v;
        out_is = rw e p;
      }
