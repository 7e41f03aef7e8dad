-- Reads of a buffer, one behind the other: what a turn of the loop keeps, and what the reading tells.
-- Main definition: `Reading`. Main statements: `reading_start`, `reading_on`, `reading_done`, `reading_full`;
-- `read_within`.
use mathlib.Core.Path.{◌≡◌, refl, ap, ◌∙◌}
use mathlib.Core.Bool.{Bool, true, false}
use mathlib.Core.List.{List}
use Prim.Native.Nat.{ℕ, ◌+◌, ◌≤◌}
use native.Mathlib.Omega.{arith}
use lib.Dec.{eqb}
use lib.ListN.{length}
use borrow.Author.Tests.{eqb-false}
use Rattle.std.specs.Prelude.{Option, Some, None}
use Rattle.std.specs.declared.ops.ControlFlow.{ControlFlow}
use Rattle.std.specs.declared.ops.ControlFlow.TheVariants.{Continue, Break}
use Rattle.laws.specs.Choice.{pick}
use Rattle.laws.proofs.Tests.{never}
use Rattle.key.specs.declared.Step.{Step}
use Rattle.key.specs.declared.Step.TheVariants as SV
use Rattle.key.specs.declared.Reads.{Reads}
use Rattle.key.specs.Inputs.{StepSays, INTERRUPTS, reads, after_step, Run, IsRead}

-- what follows an interrupt, by the test that no further one is borne
abbrev interrupted : Reads → Bool → ControlFlow (Option ℕ) Reads
interrupted r t = pick t (Break None) (Continue (reads r.bytes (r.interrupts + 1)))

-- what one more read leaves
record Ahead (r : Reads) (s : Step) (r' : Reads) (b b' : List ℕ) : Type 0 where
  within : r'.bytes ≤ length b'
  borne : r.interrupts ≤ INTERRUPTS → r'.interrupts ≤ INTERRUPTS

module _ (r : Reads) (r' : Reads) (b b' : List ℕ) (l : r.bytes ≤ length b) where
  ahead : (s : Step) → StepSays r.bytes s b b' → after_step r s ≡ Continue r' → Ahead r s r' b b'
  ahead (SV.More k) says e =
      let x : r.bytes + k ≡ r'.bytes = cc e in
      let z : r.interrupts ≡ r'.interrupts = cc e in
      record {
        within = omega (arith, says.on.1);
        borne = λ h. omega arith;
      }
  ahead SV.End says e = never (cc e)
  ahead SV.Interrupted says e = go (eqb r.interrupts INTERRUPTS) refl e
    where
      go
          : (t : Bool) → eqb r.interrupts INTERRUPTS ≡ t → interrupted r t ≡ Continue r'
          → Ahead r SV.Interrupted r' b b'
      go true h f = never (cc f)
      go false h f =
          let x : r.bytes ≡ r'.bytes = cc f in
          let z : r.interrupts + 1 ≡ r'.interrupts = cc f in
          let n = eqb-false r.interrupts INTERRUPTS h in
          record {
            within = omega (arith, says.long);
            borne = λ m. omega arith;
          }
  ahead SV.Failed says e = never (cc e)

-- what the reads gave lies in the buffer
run_within : (buffer : List ℕ) (r : Reads) (b : List ℕ) → Run buffer r b → r.bytes ≤ length b
run_within buffer r b Run.none = omega arith
run_within buffer r' b' (Run.more r s r'' b b'' run says e) =
    (ahead r r' b b' (run_within buffer r b run) s says e).within

-- the loop's turns: the next read goes behind what the reads gave
pub record Reading (buffer : List ℕ) (r : Reads) (b : List ℕ) : Type 0 where
  pub run : Run buffer r b
  pub borne : r.interrupts ≤ INTERRUPTS
  pub long : length b ≡ length buffer

pub reading_start : (buffer : List ℕ) → Reading buffer (reads 0 0) buffer
reading_start buffer = record { run = Run.none; borne = omega arith; long = refl }

module _ {buffer : List ℕ} {r : Reads} {b : List ℕ} (p : Reading buffer r b) where
  module _ {s : Step} {b' : List ℕ} (says : StepSays r.bytes s b b') where
    pub reading_on : {r' : Reads} → after_step r s ≡ Continue r' → Reading buffer r' b'
    reading_on {r'} e =
        record {
          run = Run.more r s r' b b' p.run says e;
          borne = (ahead r r' b b' (run_within buffer r b p.run) s says e).borne p.borne;
          long = says.long ∙ p.long;
        }

    pub reading_done : {told : Option ℕ} → after_step r s ≡ Break told → IsRead buffer told b'
    reading_done {told} e = IsRead.last r s told b b' p.run says e

  pub reading_full : length b ≤ r.bytes → IsRead buffer (Some r.bytes) b
  reading_full h = IsRead.full r b p.run (omega (arith, run_within buffer r b p.run))

-- what is told at the input's end
ends : (r : Reads) (s : Step) (n : ℕ) → after_step r s ≡ Break (Some n) → n ≡ r.bytes
ends r (SV.More k) n e = never (cc e)
ends r SV.End n e = cc e
ends r SV.Interrupted n e = go (eqb r.interrupts INTERRUPTS) e
  where
    go : (t : Bool) → interrupted r t ≡ Break (Some n) → n ≡ r.bytes
    go true f = never (cc f)
    go false f = never (cc f)
ends r SV.Failed n e = never (cc e)

-- what is handed on lies in the buffer
pub read_within
    : (buffer : List ℕ) (told : Option ℕ) (b : List ℕ) (n : ℕ) → told ≡ Some n → IsRead buffer told b → n ≤ length b
read_within buffer told b' n w (IsRead.last r s u b b'' run says e) =
    omega (arith, ends r s n (e ∙ ap Break w), run_within buffer r b run, says.long)
read_within buffer told b n w (IsRead.full r c run e) =
    let z : r.bytes ≡ n = cc w in
    omega (arith, e)
