-- An argument written and read again is the same argument: each line of its text is read as the frame that it spells,
-- and tells what it was written for. So Weigh has no number for the text of an argument that holds.
-- Main statements: `no_fault`, `claims_back`, `argument_back`, `spelled_holds`.
use mathlib.Core.Path.{◌≡◌, refl, ap, ◌∙◌}
use mathlib.Core.Bool.{true, false}
use mathlib.Core.List.{List, [], ◌∷◌, ◌++◌, append_assoc, append-nil}
use mathlib.Core.Logic.{inl, inr}
use Prim.Native.Nat.{ℕ, zero, suc, ◌+◌, ◌*◌, ◌/◌, ◌%◌, ◌≤◌, ◌<◌}
use native.Mathlib.Omega.{arith}
use lib.Dec.{eqb, leb}
use lib.ListN.{length}
use borrow.Author.Tests.{lt-ltb, lt-leb, ne_eqb}
use Rattle.laws.specs.Members.{Among}
use Rattle.laws.proofs.Tests.{and_intro}
use Rattle.paper_nests.specs.Nests.{Nest}
use Rattle.paper_lines.specs.Lines.{lines_of, line_text}
use Rattle.paper_lines.proofs.Spelling.{are_bytes, line_first, digits_good, frame_digits}
use Rattle.argue_claims.specs.Arguments.{Step, Claim, st, claim, holds}
use Rattle.argue_texts.specs.ArgumentTexts.{CLAIM, BY, CLAIMS, STEPS, Part, Claims, By, Names, part_of, part_fault, after}
use Rattle.argue_texts.specs.ArgumentTexts.{Progress, progress, Fault, fault, fault_from, argument_fault, parts_of, Rest}
use Rattle.argue_texts.specs.ArgumentTexts.{rest, rest_of, claims_in, read_argument, word_of, set_frame, by_text, steps_text}
use Rattle.argue_texts.specs.ArgumentTexts.{argument_text}
use Rattle.argue_lengths.specs.Spelling.{WORD, StepSpells, ClaimSpells, Spells}

-- a frame that a line can have, and what it tells
record Framed (f : List ℕ) (p : Part) : Type 0 where
  bytes : are_bytes f ≡ true
  some : leb 1 (length f) ≡ true
  told : part_of f ≡ p

-- ---- one line

module _ (f : List ℕ) (p : Part) (framed : Framed f p) (s : List ℕ) where
  parts_line : parts_of (lines_of (line_text f ++ s)) ≡ p ∷ parts_of (lines_of s)
  parts_line = rw (line_first f s framed.bytes) (rw (frame_digits f framed.bytes, framed.told))

  fault_line : (k : ℕ) (x : Progress) → part_fault x p ≡ 0 →
      fault_from k x (lines_of (line_text f ++ s)) ≡ fault_from (suc k) (after x p) (lines_of s)
  unfolding fault_from
  fault_line k x h =
      rw (line_first f s framed.bytes)
      (rw (digits_good f framed.bytes framed.some, frame_digits f framed.bytes, framed.told, h))

-- ---- what the frames tell

word_bytes : (m : ℕ) → m < WORD → are_bytes (word_of m) ≡ true
word_bytes m h =
    and_intro (lt-ltb (m / 256) 256 (omega arith)) (and_intro (lt-ltb (m % 256) 256 (omega arith)) refl)

word_back : (m : ℕ) → 256 * (m / 256) + m % 256 ≡ m
word_back m = omega arith

by_framed : (m : ℕ) → m < WORD → Framed (BY ∷ word_of m) (By m)
by_framed m h = record { bytes = word_bytes m h; some = refl; told = ap By (word_back m) }

set_framed : (s : ℕ) → s < WORD + 2 → Framed (set_frame s) (Names s)
set_framed zero h = record { bytes = refl; some = refl; told = refl }
set_framed (suc zero) h = record { bytes = refl; some = refl; told = refl }
set_framed (suc (suc k)) h =
    record {
      bytes = word_bytes k (omega (arith, h));
      some = refl;
      told = ap (λ (m : ℕ). Names (suc (suc m))) (word_back k);
    }

abbrev claim_frame : Claim → List ℕ
claim_frame k = CLAIM ∷ (k.loop ∷ (k.from ∷ (k.upto ∷ [])))

claim_framed : (k : Claim) → ClaimSpells k → Framed (claim_frame k) (Claims k.loop k.from k.upto)
claim_framed k c =
    record {
      bytes = and_intro (lt-ltb k.loop 256 c.loop_fits)
          (and_intro (lt-ltb k.from 256 c.from_fits) (and_intro (lt-ltb k.upto 256 c.upto_fits) refl));
      some = refl;
      told = refl;
    }

-- ---- steps, and a text behind them

append_twice : (a b c d : List ℕ) → (a ++ (b ++ c)) ++ d ≡ a ++ (b ++ (c ++ d))
append_twice a b c d = append_assoc a (b ++ c) d ∙ ap (λ (l : List ℕ). a ++ l) (append_assoc b c d)

module _ (s : Step) (spells : StepSpells s) (t : List ℕ) where
  abbrev own : List ℕ
  own = line_text (set_frame s.set) ++ t

  set_line : Framed (set_frame s.set) (Names s.set)
  set_line = set_framed s.set (omega (arith, spells.set-fits))

  step_parts : rest_of 0 (parts_of (lines_of (by_text s.via ++ own))) ≡
      rest (s ∷ (rest_of 0 (parts_of (lines_of t))).steps) (rest_of 0 (parts_of (lines_of t))).claims
  unfolding rest_of
  step_parts = go s.via spells.via_fits
    where
      go : (v : ℕ) → v < WORD + 1 → rest_of 0 (parts_of (lines_of (by_text v ++ own))) ≡
          rest (st s.set v ∷ (rest_of 0 (parts_of (lines_of t))).steps) (rest_of 0 (parts_of (lines_of t))).claims
      go zero h = ap (rest_of 0) (parts_line (set_frame s.set) (Names s.set) set_line t)
      go (suc m) h =
          ap (rest_of 0) (parts_line (BY ∷ word_of m) (By m) (by_framed m (omega (arith, h))) own) ∙
          ap (rest_of (suc m)) (parts_line (set_frame s.set) (Names s.set) set_line t)

  step_faults : (k c j : ℕ) → j < STEPS →
      ((i : ℕ) → fault_from i (progress (suc c) (suc j) 0) (lines_of t) ≡ fault 0 0) →
      fault_from k (progress (suc c) j 0) (lines_of (by_text s.via ++ own)) ≡ fault 0 0
  step_faults k c j few behind = go s.via spells.via_fits
    where
      some : eqb (suc c) 0 ≡ false
      some = ne_eqb (suc c) 0 (omega arith)

      named : (i b : ℕ) → fault_from i (progress (suc c) j b) (lines_of own) ≡ fault 0 0
      named i b =
          fault_line (set_frame s.set) (Names s.set) set_line t i (progress (suc c) j b)
          (rw (some, lt-leb STEPS j (omega (arith, few)))) ∙ behind (suc i)

      go : (v : ℕ) → v < WORD + 1 → fault_from k (progress (suc c) j 0) (lines_of (by_text v ++ own)) ≡ fault 0 0
      go zero h = named k 0
      go (suc m) h =
          fault_line (BY ∷ word_of m) (By m) (by_framed m (omega (arith, h))) own k (progress (suc c) j 0) (rw some) ∙
          named (suc k) (suc m)

steps_parts : (ss : List Step) (t : List ℕ) → ((s : Step) → Among s ss → StepSpells s) →
    rest_of 0 (parts_of (lines_of (steps_text ss ++ t))) ≡
    rest (ss ++ (rest_of 0 (parts_of (lines_of t))).steps) (rest_of 0 (parts_of (lines_of t))).claims
unfolding steps_text
steps_parts [] t each = refl
steps_parts (s ∷ ss) t each =
    ap (λ (l : List ℕ). rest_of 0 (parts_of (lines_of l)))
    (append_twice (by_text s.via) (line_text (set_frame s.set)) (steps_text ss) t) ∙
    step_parts s (each s (inl refl)) (steps_text ss ++ t) ∙
    ap (λ (r : Rest). rest (s ∷ r.steps) r.claims) (steps_parts ss t (λ x a. each x (inr a)))

steps_faults : (ss : List Step) (t : List ℕ) → ((s : Step) → Among s ss → StepSpells s) → (k c j : ℕ) →
    j + length ss ≤ STEPS →
    ((i l : ℕ) → fault_from i (progress (suc c) l 0) (lines_of t) ≡ fault 0 0) →
    fault_from k (progress (suc c) j 0) (lines_of (steps_text ss ++ t)) ≡ fault 0 0
unfolding steps_text
steps_faults [] t each k c j few behind = behind k j
steps_faults (s ∷ ss) t each k c j few behind =
    ap (λ (l : List ℕ). fault_from k (progress (suc c) j 0) (lines_of l))
    (append_twice (by_text s.via) (line_text (set_frame s.set)) (steps_text ss) t) ∙
    step_faults s (each s (inl refl)) (steps_text ss ++ t) k c j (omega (arith, few))
    (λ i. steps_faults ss t (λ x a. each x (inr a)) i c (suc j) (omega (arith, few)) behind)

-- ---- claims

module _ (k : Claim) (spells : ClaimSpells k) (t : List ℕ) where
  abbrev steps_then : List ℕ
  steps_then = steps_text k.steps ++ t

  claim_parts : (cs : List Claim) → rest_of 0 (parts_of (lines_of t)) ≡ rest [] cs →
      rest_of 0 (parts_of (lines_of (line_text (claim_frame k) ++ steps_then))) ≡ rest [] (k ∷ cs)
  unfolding rest_of
  claim_parts cs r =
      ap (rest_of 0) (parts_line (claim_frame k) (Claims k.loop k.from k.upto) (claim_framed k spells)
      steps_then) ∙
      ap (λ (x : Rest). rest [] (claim k.loop k.from k.upto x.steps ∷ x.claims))
      (steps_parts k.steps t spells.each ∙
      ap (λ (x : Rest). rest (k.steps ++ x.steps) x.claims) r ∙
      ap (λ (ss : List Step). rest ss cs) (append-nil k.steps))

  claim_faults : (i c j : ℕ) → c < CLAIMS →
      ((i l : ℕ) → fault_from i (progress (suc c) l 0) (lines_of t) ≡ fault 0 0) →
      fault_from i (progress c j 0) (lines_of (line_text (claim_frame k) ++ steps_then)) ≡ fault 0 0
  claim_faults i c j few behind =
      fault_line (claim_frame k) (Claims k.loop k.from k.upto) (claim_framed k spells) steps_then i
      (progress c j 0) (rw (lt-leb CLAIMS c (omega (arith, few)))) ∙
      steps_faults k.steps t spells.each (suc i) c 0 (omega (arith, spells.few_steps)) behind

claims_parts : (cs : List Claim) → ((k : Claim) → Among k cs → ClaimSpells k) →
    rest_of 0 (parts_of (lines_of (argument_text cs))) ≡ rest [] cs
unfolding argument_text lines_of rest_of
claims_parts [] each = refl
claims_parts (k ∷ cs) each =
    claim_parts k (each k (inl refl)) (argument_text cs) cs (claims_parts cs (λ x a. each x (inr a)))

claims_faults : (cs : List Claim) → ((k : Claim) → Among k cs → ClaimSpells k) → (i c j : ℕ) →
    c + length cs ≤ CLAIMS → fault_from i (progress c j 0) (lines_of (argument_text cs)) ≡ fault 0 0
unfolding argument_text lines_of fault_from
claims_faults [] each i c j few = refl
claims_faults (k ∷ cs) each i c j few =
    claim_faults k (each k (inl refl)) (argument_text cs) i c j (omega (arith, few))
    (λ h l. claims_faults cs (λ x a. each x (inr a)) h (suc c) l (omega (arith, few)))

-- ---- the whole text

module _ (cs : List Claim) (spells : Spells cs) where
  pub no_fault : argument_fault (argument_text cs) ≡ fault 0 0
  unfolding argument_fault
  no_fault = claims_faults cs spells.each 1 0 0 (omega (arith, spells.few_claims))

  pub claims_back : claims_in (argument_text cs) ≡ cs
  unfolding claims_in
  claims_back = ap (λ (r : Rest). r.claims) (claims_parts cs spells.each)

  -- read again, it is the same argument
  pub argument_back : read_argument (argument_text cs) ≡ record { refusal = fault 0 0; claims = cs }
  argument_back = rw (no_fault, claims_back)

  -- if it holds, so does what its text says: no number of Weigh
  pub spelled_holds : (n : Nest) (key : List ℕ) → holds n key cs ≡ true →
      ((argument_fault (argument_text cs)).number ≡ 0) × (holds n key (claims_in (argument_text cs)) ≡ true)
  spelled_holds n key h = (ap (λ (e : Fault). e.number) no_fault, rw claims_back h)
