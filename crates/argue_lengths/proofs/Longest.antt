-- How long the text of an argument is at most: line by line.
-- Main statements: `text_most`, `longest`.
use mathlib.Core.Path.{◌≡◌, refl}
use mathlib.Core.Bool.{true, false}
use mathlib.Core.List.{List, [], ◌∷◌, ◌++◌}
use mathlib.Core.Logic.{inl, inr}
use Prim.Native.Nat.{ℕ, zero, suc, ◌+◌, ◌*◌, ◌≤◌}
use native.Mathlib.Nat.{suc-mul, mul-le-mul_right}
use native.Mathlib.Omega.{arith}
use lib.ListN.{length, length-append}
use Rattle.laws.specs.Members.{Among}
use Rattle.paper_nests.specs.Nests.{Nest}
use Rattle.paper_nests.specs.Valid.{is_valid}
use Rattle.paper_lines.specs.Lines.{line_text}
use Rattle.paper_barred.specs.Reduced.{is_blocked}
use Rattle.argue_claims.specs.Arguments.{Step, Claim}
use Rattle.argue_key.specs.Laps.{argument_of}
use Rattle.argue_texts.specs.ArgumentTexts.{CLAIM, set_frame, by_text, steps_text, argument_text}
use Rattle.argue_lengths.specs.Lengths.{MOST-CLAIMS, MOST-STEPS, CLAIM-BYTES, STEP-BYTES, bytes_for, LONGEST}
use Rattle.argue_lengths.proofs.Claims.{few_claims}
use Rattle.argue_lengths.proofs.Steps.{few_steps}

set_short : (s : ℕ) → length (line_text (set_frame s)) ≤ 7
set_short zero = omega arith
set_short (suc zero) = omega arith
set_short (suc (suc k)) = omega arith

by_short : (v : ℕ) → length (by_text v) ≤ 7
by_short zero = omega arith
by_short (suc m) = omega arith

steps_short : (ss : List Step) → length (steps_text ss) ≤ STEP-BYTES * length ss
unfolding steps_text
steps_short [] = omega arith
steps_short (s ∷ ss) =
    omega (
      arith,
      length-append (by_text s.via) (line_text (set_frame s.set) ++ steps_text ss),
      length-append (line_text (set_frame s.set)) (steps_text ss),
      by_short s.via,
      set_short s.set,
      steps_short ss,
    )

claims_short : (cs : List Claim) (s : ℕ) → ((k : Claim) → Among k cs → length k.steps ≤ s) →
    length (argument_text cs) ≤ bytes_for (length cs) s
unfolding argument_text
claims_short [] s each = omega arith
claims_short (k ∷ cs) s each =
    omega (
      arith,
      length-append (line_text (CLAIM ∷ (k.loop ∷ (k.from ∷ (k.upto ∷ [])))))
          (steps_text k.steps ++ argument_text cs),
      length-append (steps_text k.steps) (argument_text cs),
      steps_short k.steps,
      each k (inl refl),
      claims_short cs s (λ x a. each x (inr a)),
      suc-mul (length cs) (CLAIM-BYTES + STEP-BYTES * s),
    )

-- at most c claims of at most s steps each
pub text_most : (cs : List Claim) (c s : ℕ) → length cs ≤ c → ((k : Claim) → Among k cs → length k.steps ≤ s) →
    length (argument_text cs) ≤ bytes_for c s
text_most cs c s few each =
    omega (arith, claims_short cs s each, mul-le-mul_right (CLAIM-BYTES + STEP-BYTES * s) few)

pub longest : (n : Nest) → is_valid n ≡ true → is_blocked n ≡ false → length (argument_text (argument_of n)) ≤ LONGEST
longest n valid unblocked =
    omega (
      arith,
      text_most (argument_of n) MOST-CLAIMS MOST-STEPS (few_claims n valid unblocked) (few_steps n valid unblocked),
    )
