-- Argument texts read line by line: what a turn keeps, one law for each way through a turn, and what another walk over
-- the lines of a text without fault may rely on.
-- Main statements: `walk_begun`, `walk_end`, `walk_bad`, `walk_fault`, `walk_on`; `never_bad`, `part_fine`;
-- `parts_end`, `parts_on`.
use mathlib.Core.Path.{◌≡◌, refl, sym, ◌∙◌, ap}
use Rattle.std.proofs.Common.{Some, None, Ok, Err}
use mathlib.Core.Bool.{true, false}
use mathlib.Core.List.{List, [], ◌∷◌}
use Prim.Native.Nat.{ℕ, zero, suc, ◌+◌, ◌≤◌, ◌<◌}
use native.Mathlib.Numerals.{add-one}
use native.Mathlib.Omega.{arith}
use lib.Dec.{eqb}
use lib.ListN.{length, drop}
use borrow.Author.Tests.{ne_eqb}
use Rattle.laws.specs.Choice.{pick}
use Rattle.paper_lines.specs.declared.Frame.{Frame}
use Rattle.paper_refusals.specs.declared.Refusal.{Refusal}
use Rattle.paper_refusals.specs.Numbers.{number_of}
use Rattle.paper_refusals.proofs.Numbers.{never_zero}
use Rattle.paper_lines.specs.Lines.{Line, lines_of, is_good, frame_of}
use Rattle.paper_lines.specs.Reading.{line_at}
use Rattle.paper_lines.proofs.Reading.{no_line, bad_line, good_line, Good-line}
use Rattle.argue_texts.specs.declared.Part as DP
use Rattle.argue_texts.specs.ArgumentTexts.{Part, part_of, Progress, progress, part_fault, after, argue_fault}
use Rattle.argue_texts.specs.ArgumentTexts.{Fault, fault, fault_from, argument_fault, parts_of}
use Rattle.argue_texts.specs.Parts.{part_in, IsPart}

-- a line's refusal
fault_bad : (x : Progress) (l : Line) → is_good l ≡ false → argue_fault x l ≡ 1
fault_bad x l h = rw h

fault_good
    : (x : Progress) (l : Line) (p : Part)
    → is_good l ≡ true
    → p ≡ part_of (frame_of l.bytes)
    → argue_fault x l ≡ part_fault x p
fault_good x l p h e = rw (h, e)

-- the rest of the reading, by the first line
fault_none : (k : ℕ) (x : Progress) → fault_from k x [] ≡ pick (eqb x.by 0) (fault 0 0) (fault 4 k)
unfolding fault_from
fault_none k x = refl

module _ (k : ℕ) (x : Progress) (l : Line) (ls : List Line) where
  fault_by
      : (e : ℕ)
      → argue_fault x l ≡ e
      → fault_from k x (l ∷ ls)
      ≡ pick (eqb e 0) (fault_from (suc k) (after x (part_of (frame_of l.bytes))) ls) (fault e k)
  unfolding fault_from
  fault_by e h =
      ap
      (λ (n : ℕ). pick (eqb n 0) (fault_from (suc k) (after x (part_of (frame_of l.bytes))) ls) (fault n k)) h

  fault_stop : (e : ℕ) → argue_fault x l ≡ e → (e ≡ 0 → ⊥) → fault_from k x (l ∷ ls) ≡ fault e k
  fault_stop e h z = fault_by e h ∙ rw (ne_eqb e 0 z)

  fault_next
      : argue_fault x l ≡ 0
      → fault_from k x (l ∷ ls) ≡ fault_from (suc k) (after x (part_of (frame_of l.bytes))) ls
  fault_next h = fault_by 0 h

-- what a turn keeps: the rest of the lines decides as the whole text does
pub record Walk (s : List ℕ) (x : Progress) (at line : ℕ) : Type 0 where
  pub inside : at ≤ length s
  pub lines : line ≤ at + 1
  pub rest : fault_from line x (lines_of (drop at s)) ≡ argument_fault s

pub walk_begun : (s : List ℕ) → Walk s (progress 0 0 0) 0 1
unfolding argument_fault
walk_begun s = record { inside = omega arith; lines = omega arith; rest = refl }

-- the parts of the lines from a place on
pub parts_end : (s : List ℕ) (at : ℕ) → line_at s at ≡ Ok None → parts_of (lines_of (drop at s)) ≡ []
parts_end s at h = ap parts_of (no_line s at h)

pub parts_on
    : (s : List ℕ) (at : ℕ) (f : Frame)
    → line_at s at ≡ Ok (Some f)
    → (p : DP.Part)
    → IsPart f p
    → parts_of (lines_of (drop at s)) ≡ part_in p ∷ parts_of (lines_of (drop f.next s))
parts_on s at f h p i =
    let g = good_line s at f h in
    ap parts_of g.lines
    ∙ ap (λ (q : Part). q ∷ parts_of (lines_of (drop f.next s))) (sym (i (frame_of g.first.bytes) g.frame_is))

module _ (s : List ℕ) (x : Progress) (at line : ℕ) (w : Walk s x at line) where
  pub walk_end : line_at s at ≡ Ok None → pick (eqb x.by 0) (fault 0 0) (fault 4 line) ≡ argument_fault s
  walk_end h = sym (fault_none line x) ∙ ap (fault_from line x) (sym (no_line s at h)) ∙ w.rest

  pub walk_bad : (k : Refusal) → line_at s at ≡ Err k → fault (number_of k) line ≡ argument_fault s
  walk_bad k h =
      let b = bad_line s at k h in
      ap (λ (n : ℕ). fault n line) b.number
      ∙ sym (fault_stop line x b.first b.rest 1 (fault_bad x b.first b.bad) (omega arith))
      ∙ ap (fault_from line x) (sym b.lines)
      ∙ w.rest

  -- the frame of a good line, and its part
  module _ (f : Frame) (h : line_at s at ≡ Ok (Some f)) (p : DP.Part) (i : IsPart f p) where
    good : Good-line s at f
    good = good_line s at f h

    part_is : part_in p ≡ part_of (frame_of good.first.bytes)
    part_is = i (frame_of good.first.bytes) good.frame_is

    line-fault : (e : ℕ) → part_fault x (part_in p) ≡ e → argue_fault x good.first ≡ e
    line-fault e z = fault_good x good.first (part_in p) good.good part_is ∙ z

    pub next_inside : (at < f.next) × (f.next ≤ length s)
    next_inside = omega (arith, good.on, good.inside)

    pub walk_fault : (e : ℕ) → part_fault x (part_in p) ≡ e → (e ≡ 0 → ⊥) → fault e line ≡ argument_fault s
    walk_fault e q z =
        sym (fault_stop line x good.first (lines_of (drop f.next s)) e (line-fault e q) z)
        ∙ ap (fault_from line x) (sym good.lines)
        ∙ w.rest

    pub walk_on : part_fault x (part_in p) ≡ 0 → Walk s (after x (part_in p)) f.next (line + 1)
    walk_on z =
        let lines = lines_of (drop f.next s) in
        record {
          inside = good.inside;
          lines = omega (arith, w.lines, good.on);
          rest =
              ap (λ (k : ℕ). fault_from k (after x (part_in p)) lines) (add-one line)
              ∙ ap (λ (q : Part). fault_from (suc line) (after x q) lines) part_is
              ∙ sym (fault_next line x good.first lines (line-fault 0 z))
              ∙ ap (fault_from line x) (sym good.lines)
              ∙ w.rest;
        }

  -- of a text without fault
  module _ (z : (argument_fault s).number ≡ 0) where
    pub never_bad : (k : Refusal) → line_at s at ≡ Err k → ⊥
    never_bad k h = never_zero k (ap (λ (e : Fault). e.number) (walk_bad k h) ∙ z)

    pub part_fine : (f : Frame) → line_at s at ≡ Ok (Some f) → (p : DP.Part) → IsPart f p → part_fault x (part_in p) ≡ 0
    part_fine f h p i = go (part_fault x (part_in p)) refl
      where
        go : (e : ℕ) → part_fault x (part_in p) ≡ e → part_fault x (part_in p) ≡ 0
        go zero q = q
        go (suc e) q =
            let n : suc e ≡ 0 = ap (λ (y : Fault). y.number) (walk_fault f h p i (suc e) q (omega arith)) ∙ z in
            absurd (omega (arith, n))
