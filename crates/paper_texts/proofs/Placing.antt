-- Placement texts read line by line: what a turn of the reader keeps, and one law for each way through a turn.
-- Main statements: `placing`, `placed_all`, `placed_bad`, `placed-fault`, `place_on`.
use mathlib.Core.Path.{◌≡◌, refl, sym, ◌∙◌, ap}
use Rattle.std.proofs.Common.{Some, None, Ok, Err}
use mathlib.Core.Bool.{true, false, ◌||◌}
use mathlib.Core.List.{List, [], ◌∷◌, ◌++◌}
use Prim.Native.Nat.{ℕ, suc, ◌+◌, ◌≤◌, ◌<◌}
use native.Mathlib.Numerals.{add-one}
use native.Mathlib.Omega.{arith}
use lib.Dec.{eqb}
use lib.ListN.{length, get_or, drop}
use borrow.Author.Tests.{ne_eqb}
use Rattle.laws.specs.Choice.{pick}
use Rattle.paper_lines.specs.declared.Frame.{Frame}
use Rattle.paper_refusals.specs.declared.Refusal.{Refusal}
use Rattle.paper_refusals.specs.Numbers.{number_of}
use Rattle.paper_refusals.proofs.Numbers.{never_zero}
use Rattle.paper_lines.specs.Lines.{Line, lines_of, is_good, frame_of}
use Rattle.paper_lines.specs.Reading.{line_at}
use Rattle.paper_lines.proofs.Reading.{no_line, bad_line, good_line, Good-line}
use Rattle.paper_placements.specs.Words.{GAPS, holds, gaps_in}
use Rattle.paper_placements.proofs.Words.{gaps_none, gaps_put_last}
use Rattle.paper_texts.specs.PlacementTexts.{barrier_fault, placed_fault, placed, place_lines, read_placement}
use Rattle.paper_texts.specs.Reads.{IsPlaced, BarrierFault}
use Rattle.paper_texts.proofs.Faults.{bad_first, good_first}
use Rattle.paper_texts.proofs.Barriers.{barrier_rises}

-- a line's refusal
fault_bad : (last n : ℕ) (bs : List ℕ) (l : Line) → is_good l ≡ false → placed_fault last n bs l ≡ 1
fault_bad last n bs l h = bad_first (is_good l) (barrier_fault last n bs (frame_of l.bytes)) h

fault_good : (last n : ℕ) (bs : List ℕ) (l : Line) → is_good l ≡ true → placed_fault last n bs l ≡ barrier_fault last n bs (frame_of l.bytes)
fault_good last n bs l h = good_first (is_good l) (barrier_fault last n bs (frame_of l.bytes)) h

-- the gap of a line's frame
gap_of : Line → ℕ
gap_of l = get_or (frame_of l.bytes) 1 0

-- the rest of the reading, by the first line
place_none : (k last n : ℕ) (bs gs : List ℕ) → place_lines k last n bs gs [] ≡ placed 0 0 gs
unfolding place_lines
place_none k last n bs gs = refl

module _ (k last n : ℕ) (bs gs : List ℕ) (l : Line) (ls : List Line) where
  place_by
      : (e : ℕ)
      → placed_fault last n bs l ≡ e
      → place_lines k last n bs gs (l ∷ ls)
      ≡ pick (eqb e 0) (place_lines (suc k) (gap_of l) n bs (gs ++ (gap_of l ∷ [])) ls) (placed e k [])
  unfolding place_lines gap_of
  place_by e h =
      ap (λ (x : ℕ). pick (eqb x 0) (place_lines (suc k) (gap_of l) n bs (gs ++ (gap_of l ∷ [])) ls) (placed x k [])) h

  place_stop : (e : ℕ) → placed_fault last n bs l ≡ e → (e ≡ 0 → ⊥) → place_lines k last n bs gs (l ∷ ls) ≡ placed e k []
  place_stop e h z = place_by e h ∙ rw (ne_eqb e 0 z)

  place_next
      : placed_fault last n bs l ≡ 0
      → place_lines k last n bs gs (l ∷ ls) ≡ place_lines (suc k) (gap_of l) n bs (gs ++ (gap_of l ∷ [])) ls
  place_next h = place_by 0 h

-- what a turn keeps: no gap above the last, and that the rest of the lines decides as the whole text does
pub record Placing (n : ℕ) (bs s ws : List ℕ) (last at line : ℕ) : Type 0 where
  pub above : (i : ℕ) → last < i → holds ws i ≡ false
  pub inside : at ≤ length s
  pub lines : line ≤ at + 1
  pub rest : place_lines line last n bs (gaps_in ws) (lines_of (drop at s)) ≡ read_placement n bs s

pub placing : (n : ℕ) (bs s ws : List ℕ) → ((i : ℕ) → holds ws i ≡ false) → Placing n bs s ws 0 0 1
unfolding read_placement
placing n bs s ws h =
    record {
      above = λ i a. h i;
      inside = omega arith;
      lines = omega arith;
      rest = ap (λ (gs : List ℕ). place_lines 1 0 n bs gs (lines_of s)) (gaps_none ws (λ i a. h i));
    }

module _ (n : ℕ) (bs s ws : List ℕ) (last at line : ℕ) (p : Placing n bs s ws last at line) where
  pub placed_all : line_at s at ≡ Ok None → placed 0 0 (gaps_in ws) ≡ read_placement n bs s
  placed_all h =
      sym (place_none line last n bs (gaps_in ws))
      ∙ ap (place_lines line last n bs (gaps_in ws)) (sym (no_line s at h))
      ∙ p.rest

  pub placed_bad : (k : Refusal) → line_at s at ≡ Err k → IsPlaced n bs s (Err (record { refusal = k; line = line }))
  placed_bad k h =
      let b = bad_line s at k h in
      let fault = fault_bad last n bs b.first b.bad in
      record {
        placed_is =
            ap (λ (x : ℕ). placed x line []) b.number
            ∙ sym (place_stop line last n bs (gaps_in ws) b.first b.rest 1 fault (omega arith))
            ∙ ap (place_lines line last n bs (gaps_in ws)) (sym b.lines)
            ∙ p.rest;
      }

  -- the frame of a good line
  module _ (f : Frame) (h : line_at s at ≡ Ok (Some f)) (e : ℕ) (fault : BarrierFault last n bs f e) where
    good : Good-line s at f
    good = good_line s at f h

    fault_is : e ≡ barrier_fault last n bs (frame_of good.first.bytes)
    fault_is = fault (frame_of good.first.bytes) good.frame_is

    line-fault : placed_fault last n bs good.first ≡ e
    line-fault = fault_good last n bs good.first good.good ∙ sym fault_is

    pub placed-fault : (r : Refusal) → e ≡ number_of r → IsPlaced n bs s (Err (record { refusal = r; line = line }))
    placed-fault r q =
        record {
          placed_is =
              sym
              (place_stop
              line
              last
              n
              bs
              (gaps_in ws)
              good.first
              (lines_of (drop f.next s))
              (number_of r)
              (line-fault ∙ q)
              (never_zero r))
              ∙ ap (place_lines line last n bs (gaps_in ws)) (sym good.lines)
              ∙ p.rest;
        }

    pub next_inside : (at < f.next) × (f.next ≤ length s)
    next_inside = omega (arith, good.on, good.inside)

    pub place_on
        : (vs : List ℕ)
        → e ≡ 0
        → f.a < GAPS
        → ((i : ℕ) → holds vs i ≡ (eqb i f.a || holds ws i))
        → Placing n bs s vs f.a f.next (line + 1)
    unfolding gap_of
    place_on vs z g q =
        let same : f.a ≡ gap_of good.first = good.frame_is.a_is in
        let rises = barrier_rises last n bs (frame_of good.first.bytes) (sym fault_is ∙ z) in
        let up : last < f.a = omega (arith, rises, same) in
        let lines = lines_of (drop f.next s) in
        let gaps : gaps_in vs ≡ gaps_in ws ++ (gap_of good.first ∷ []) =
        gaps_put_last ws vs f.a g q (λ i a b. p.above i (omega arith))
        ∙ ap (λ (x : ℕ). gaps_in ws ++ (x ∷ [])) same in
        record {
          above = λ i a. q i ∙ rw (ne_eqb i f.a (omega arith)) (p.above i (omega arith));
          inside = good.inside;
          lines = omega (arith, p.lines, good.on);
          rest =
              ap (λ (k : ℕ). place_lines k f.a n bs (gaps_in vs) lines) (add-one line)
              ∙ ap (λ (x : ℕ). place_lines (suc line) x n bs (gaps_in vs) lines) same
              ∙ ap (λ (gs : List ℕ). place_lines (suc line) (gap_of good.first) n bs gs lines) gaps
              ∙ sym (place_next line last n bs (gaps_in ws) good.first lines (line-fault ∙ z))
              ∙ ap (place_lines line last n bs (gaps_in ws)) (sym good.lines)
              ∙ p.rest;
        }
