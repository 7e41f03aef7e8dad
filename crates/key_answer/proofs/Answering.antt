-- The answer to an input, case by case: too long, refused, blocked, accepted. Where the text is accepted and its nest is
-- not blocked, the key is that of the nest, the first of all its keys; a refusal does not look at it.
-- Main statements: `key-gaps`, `accepted_nest`, `answer_long`, `answer_refused`, `answer_blocked`, `answer_key`,
-- `answers_first_key`, `answers_blocked`.
use mathlib.Core.Path.{◌≡◌, sym, ◌∙◌, ap, subst}
use mathlib.Core.Bool.{true, false}
use mathlib.Core.List.{List}
use Prim.Native.Nat.{ℕ, ◌≤◌, ◌<◌}
use native.Mathlib.Omega.{arith}
use Rattle.std.proofs.Common.{Ok, Err}
use lib.ListN.{length}
use borrow.Author.Tests.{lt-ltb, le-ltb, eq-eqb}
use Rattle.paper_refusals.specs.declared.Fault.{Fault}
use Rattle.paper_refusals.specs.Numbers.{number_of}
use Rattle.paper_refusals.proofs.Numbers.{never_zero}
use Rattle.paper_nests.specs.declared.Nest as DN
use Rattle.paper_nests.specs.Nests.{Nest}
use Rattle.paper_nests.specs.Valid.{is_valid}
use Rattle.paper_nests.specs.Stored.{nest_in}
use Rattle.paper_lines.specs.Writing.{over}
use Rattle.paper_placements.specs.Placements.{are_gaps}
use Rattle.paper_placements.specs.Words.{gaps_in}
use Rattle.paper_texts.specs.NestTexts.{Got, read_nest}
use Rattle.paper_texts.specs.Program.{LONGEST, refusal_text, planned_text, program_text}
use Rattle.paper_texts.specs.Reads.{IsRead}
use Rattle.paper_texts.proofs.Accepted.{accepted_valid}
use Rattle.paper_texts.proofs.Refusals.{place_within}
use Rattle.paper_texts.proofs.ProgramTexts.{program_refused}
use Rattle.paper_barred.specs.Reduced.{is_blocked}
use Rattle.plan_theorem.specs.KeyOf.{key_of}
use Rattle.plan_theorem.specs.OneKey.{IsFirstKey}
use Rattle.plan_theorem.proofs.KeyGaps.{valid_gaps}
use Rattle.plan_theorem.proofs.OneKey.{one_key}
use Rattle.key_answer.specs.Answers.{LINES, key_and_counts, answer_to, Answered}

-- the planner's words hold gaps of the nest
pub key-gaps
    : (n : Nest) (ws : List ℕ) → is_valid n ≡ true → gaps_in ws ≡ key_of n → are_gaps n (gaps_in ws) ≡ true
key-gaps n ws valid e = subst (λ (gs : List ℕ). are_gaps n gs ≡ true) (sym e) (valid_gaps n valid)

-- of an accepted text the program's text is that of its nest
program_read
    : (input key : List ℕ)
    → length input ≤ LONGEST
    → (read_nest input).number ≡ 0
    → program_text input key ≡ planned_text (read_nest input).nest_is key
unfolding program_text
program_read input key short h = rw (le-ltb LONGEST (length input) short, eq-eqb (read_nest input).number 0 h)

-- which is the key and the counts, or the refusal of a blocked nest
planned_open
    : (n : Nest) (key : List ℕ) → is_blocked n ≡ false → planned_text n key ≡ key_and_counts n key
planned_open n key o = rw o

planned_blocked : (n : Nest) (key : List ℕ) → is_blocked n ≡ true → planned_text n key ≡ refusal_text 15 0
planned_blocked n key b = rw b

-- an answer is the program's text for the key
by-text
    : (input o out : List ℕ) (r : ℕ) (t : List ℕ)
    → answer_to input ≡ t
    → r ≡ length t
    → out ≡ over t o
    → Answered input o out r
by-text input o out r t e l w =
    record { length_is = l ∙ ap length (sym e); out_is = w ∙ ap (λ (x : List ℕ). over x o) (sym e) }

-- input above 8,192 bytes
pub answer_long
    : (input o out : List ℕ) (r : ℕ)
    → LONGEST < length input
    → r ≡ length (refusal_text 5 0)
    → out ≡ over (refusal_text 5 0) o
    → Answered input o out r
unfolding program_text
answer_long input o out r long =
    by-text input o out r (refusal_text 5 0) (rw (lt-ltb LONGEST (length input) long))

-- a text that is refused: its line fits two bytes, and the refusal is written
module _ (input : List ℕ) (short : length input ≤ LONGEST) (f : Fault) (read : IsRead input (Err f)) where
  number_is : number_of f.refusal ≡ (read_nest input).number
  number_is = ap (λ (x : Got). x.number) read.got_is

  place_is : f.line ≡ (read_nest input).place
  place_is = ap (λ (x : Got). x.place) read.got_is

  pub line_fits : f.line < LINES
  line_fits = omega (arith, place_is, place_within input)

  refused_text : answer_to input ≡ refusal_text (number_of f.refusal) f.line
  refused_text =
      program_refused input (key_of (read_nest input).nest_is) short (λ z. never_zero f.refusal (number_is ∙ z)) ∙
      rw (number_is, place_is)

  pub answer_refused
      : (o out : List ℕ) (r : ℕ)
      → r ≡ length (refusal_text (number_of f.refusal) f.line)
      → out ≡ over (refusal_text (number_of f.refusal) f.line) o
      → Answered input o out r
  answer_refused o out r = by-text input o out r (refusal_text (number_of f.refusal) f.line) refused_text

-- a text that is accepted: its nest is valid, and the key and the counts are written, or that it is blocked
module _ (input : List ℕ) (short : length input ≤ LONGEST) (n : DN.Nest) (read : IsRead input (Ok n)) where
  nest_is : nest_in n ≡ (read_nest input).nest_is
  nest_is = ap (λ (x : Got). x.nest_is) read.got_is

  none : (read_nest input).number ≡ 0
  none = ap (λ (x : Got). x.number) (sym read.got_is)

  pub accepted_nest : is_valid (nest_in n) ≡ true
  accepted_nest = ap is_valid nest_is ∙ accepted_valid input none

  nest-text : answer_to input ≡ planned_text (nest_in n) (key_of (nest_in n))
  nest-text =
      program_read input (key_of (read_nest input).nest_is) short none ∙
      ap (λ (x : Nest). planned_text x (key_of x)) (sym nest_is)

  module _ (o out : List ℕ) (r : ℕ) where
    pub answer_blocked
        : is_blocked (nest_in n) ≡ true
        → r ≡ length (refusal_text 15 0)
        → out ≡ over (refusal_text 15 0) o
        → Answered input o out r
    answer_blocked b =
        by-text input o out r (refusal_text 15 0)
        (nest-text ∙ planned_blocked (nest_in n) (key_of (nest_in n)) b)

    pub answer_key
        : (ws : List ℕ)
        → is_blocked (nest_in n) ≡ false
        → gaps_in ws ≡ key_of (nest_in n)
        → r ≡ length (key_and_counts (nest_in n) (gaps_in ws))
        → out ≡ over (key_and_counts (nest_in n) (gaps_in ws)) o
        → Answered input o out r
    answer_key ws h e =
        by-text input o out r (key_and_counts (nest_in n) (gaps_in ws))
        (nest-text ∙ planned_open (nest_in n) (key_of (nest_in n)) h ∙ ap (key_and_counts (nest_in n)) (sym e))

-- demand 3 and 02, jobs 6 and 7, of the program: of an accepted text whose nest is not blocked it writes the first of all
-- keys, and its counts; of one whose nest is blocked 2f0f0000
pub record WritesFirstKey (input : List ℕ) : Type 0 where
  pub text_is : answer_to input ≡ key_and_counts (read_nest input).nest_is (key_of (read_nest input).nest_is)
  pub is-first : IsFirstKey (read_nest input).nest_is (key_of (read_nest input).nest_is)

pub answers_first_key
    : (input : List ℕ)
    → length input ≤ LONGEST
    → (read_nest input).number ≡ 0
    → is_blocked (read_nest input).nest_is ≡ false
    → WritesFirstKey input
answers_first_key input short h o =
    let n = (read_nest input).nest_is in
    record {
      text_is = program_read input (key_of n) short h ∙ planned_open n (key_of n) o;
      is-first = one_key.is-first input h o;
    }

pub answers_blocked
    : (input : List ℕ)
    → length input ≤ LONGEST
    → (read_nest input).number ≡ 0
    → is_blocked (read_nest input).nest_is ≡ true
    → answer_to input ≡ refusal_text 15 0
answers_blocked input short h b =
    let n = (read_nest input).nest_is in
    program_read input (key_of n) short h ∙ planned_blocked n (key_of n) b
