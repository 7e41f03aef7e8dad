-- A placement text is accepted if and only if it spells rising gaps in range that are not barred, one barrier a line; a
-- refused one has a number up to 16 and its line, and gives no gap.
-- Main statements: `placed_spelling`, `placed_answer`, `placed_spells`, `read_gaps`, `read_avoids`, `read_alike`.
use mathlib.Core.Path.{◌≡◌, refl, sym, ap, ◌∙◌}
use mathlib.Core.Bool.{Bool, true, false, ◌&&◌, not}
use mathlib.Core.Logic.{◌↔◌, ⊎_elim}
use mathlib.Core.List.{List, [], ◌∷◌, ◌++◌, append_assoc, append-nil}
use Prim.Native.Nat.{ℕ, suc, ◌+◌, ◌≤◌}
use native.Mathlib.Omega.{arith}
use lib.Dec.{eqb, ltb}
use lib.ListN.{length, get_or}
use borrow.Author.Tests.{eqb-true, eqb-false}
use Rattle.laws.specs.Choice.{pick, when, first_of, is_in}
use Rattle.laws.proofs.Tests.{and_intro, and_true, eq_or}
use Rattle.laws.proofs.Choices.{first_zero, when_zero, unless_zero, first_le, when_le}
use Rattle.paper_nests.specs.Kinds.{POINTS}
use Rattle.paper_lines.specs.Lines.{Line, lines_of, is_good, frame_of, line_text}
use Rattle.paper_lines.proofs.Spelling.{lines_text, lines-text, lines_few, good_bytes}
use Rattle.paper_placements.specs.Placements.{are_gaps_from, is_free, avoids}
use Rattle.paper_texts.specs.PlacementTexts.{BARRIER, barrier_fault, placed_fault, Placed, placed, place_lines}
use Rattle.paper_texts.specs.PlacementTexts.{read_placement, key_text}
use Rattle.paper_texts.proofs.Pieces.{of_two}
use Rattle.paper_texts.proofs.ReadsBack.{keys_back}

-- a text and the gaps that it spells, of a nest with n points and the barred gaps bs
pub record SpellsGaps (n : ℕ) (bs s gs : List ℕ) : Type 0 where
  pub gaps : are_gaps_from 0 n gs ≡ true
  pub avoiding : avoids bs gs ≡ true
  pub text : s ≡ key_text gs

-- a barrier without a fault
record Barrier (last n : ℕ) (bs f : List ℕ) : Type 0 where
  rises : ltb last (get_or f 1 0) ≡ true
  below : ltb (get_or f 1 0) n ≡ true
  free : is_free bs (get_or f 1 0) ≡ true
  frame : f ≡ BARRIER ∷ (get_or f 1 0 ∷ [])

barrier_of : (last n : ℕ) (bs f : List ℕ) → barrier_fault last n bs f ≡ 0 → Barrier last n bs f
barrier_of last n bs f h =
    let kind = eqb (get_or f 0 0) BARRIER && eqb (length f) 2 in
    let range = ltb last (get_or f 1 0) && ltb (get_or f 1 0) n in
    let barred = is_in (get_or f 1 0) bs in
    let a = first_zero (when (not kind) 2) (first_of (when (not range) 8) (when barred 16)) h in
    let b = first_zero (when (not range) 8) (when barred 16) a.1 in
    let open_is : is_free bs (get_or f 1 0) ≡ true = rw (when_zero barred 15 b.1) in
    let x = and_true (eqb (get_or f 0 0) BARRIER) (eqb (length f) 2) (unless_zero kind 1 a.0) in
    let y = and_true (ltb last (get_or f 1 0)) (ltb (get_or f 1 0) n) (unless_zero range 7 b.0) in
    let two = of_two f (eqb-true (length f) 2 x.1) in
    let first = eqb-true (get_or f 0 0) BARRIER x.0 in
    record {
      rises = y.0;
      below = y.1;
      free = open_is;
      frame = two ∙ ap {B = List ℕ} (λ b. b ∷ (get_or f 1 0 ∷ [])) first;
    }

-- the gaps that some lines add, after the gap `last`
record Adds (last n : ℕ) (bs gs : List ℕ) (ls : List Line) (hs : List ℕ) : Type 0 where
  rest : List ℕ
  all : hs ≡ gs ++ rest
  gaps : are_gaps_from last n rest ≡ true
  avoiding : avoids bs rest ≡ true
  text : lines_text ls ≡ key_text rest

lines_placed
    : (k last n : ℕ) (bs gs : List ℕ) (ls : List Line) (hs : List ℕ)
    → place_lines k last n bs gs ls ≡ placed 0 0 hs
    → Adds last n bs gs ls hs
unfolding place_lines key_text
lines_placed k last n bs gs [] hs h =
    record {
      rest = [];
      all = sym (ap (λ (p : Placed). p.gaps) h) ∙ sym (append-nil gs);
      gaps = refl;
      avoiding = refl;
      text = refl;
    }
lines_placed k last n bs gs (l ∷ ls) hs h =
    go
    (eqb (placed_fault last n bs l) 0)
    refl
    h
    (lines_placed
    (suc k)
    (get_or (frame_of l.bytes) 1 0)
    n
    bs
    (gs ++ (get_or (frame_of l.bytes) 1 0 ∷ []))
    ls
    hs)
  where
    go
        : (t : Bool)
        → eqb (placed_fault last n bs l) 0 ≡ t
        → pick
        t
        (place_lines (suc k) (get_or (frame_of l.bytes) 1 0) n bs (gs ++ (get_or (frame_of l.bytes) 1 0 ∷ [])) ls)
        (placed (placed_fault last n bs l) k [])
        ≡ placed 0 0 hs
        → (place_lines (suc k) (get_or (frame_of l.bytes) 1 0) n bs (gs ++ (get_or (frame_of l.bytes) 1 0 ∷ [])) ls
        ≡ placed 0 0 hs
        → Adds (get_or (frame_of l.bytes) 1 0) n bs (gs ++ (get_or (frame_of l.bytes) 1 0 ∷ [])) ls hs)
        → Adds last n bs gs (l ∷ ls) hs
    go true e q more =
        let f = frame_of l.bytes in
        let g = get_or (frame_of l.bytes) 1 0 in
        let none = eqb-true (placed_fault last n bs l) 0 e in
        let a = first_zero (when (not (is_good l)) 1) (barrier_fault last n bs f) none in
        let b = barrier_of last n bs f a.1 in
        let good = good_bytes l (unless_zero (is_good l) 0 a.0) in
        let r = more q in
        record {
          rest = g ∷ r.rest;
          all = r.all ∙ append_assoc gs (g ∷ []) r.rest;
          gaps = and_intro b.rises (and_intro b.below r.gaps);
          avoiding = and_intro b.free r.avoiding;
          text = rw (good, r.text) (ap (λ x. line_text x ++ key_text r.rest) b.frame);
        }
    go false e q more = absurd (eqb-false (placed_fault last n bs l) 0 e (ap (λ (p : Placed). p.number) q))

text_placed : (n : ℕ) (bs s gs : List ℕ) → read_placement n bs s ≡ placed 0 0 gs → SpellsGaps n bs s gs
unfolding read_placement
text_placed n bs s gs h =
    let a = lines_placed 1 0 n bs [] (lines_of s) gs h in
    record {
      gaps = rw a.all a.gaps;
      avoiding = rw a.all a.avoiding;
      text = sym (lines-text s) ∙ a.text ∙ ap key_text (sym a.all);
    }

gaps_placed : (n : ℕ) (bs s gs : List ℕ) → n ≤ POINTS → SpellsGaps n bs s gs → read_placement n bs s ≡ placed 0 0 gs
unfolding read_placement
gaps_placed n bs s gs small h = rw h.text (keys_back 1 0 n bs [] gs small h.gaps h.avoiding)

-- a placement text is accepted if and only if it breaks no rule: it then spells rising gaps in range that are
-- not barred
pub placed_spelling
    : (n : ℕ) (bs s gs : List ℕ)
    → n ≤ POINTS
    → (read_placement n bs s ≡ placed 0 0 gs) ↔ SpellsGaps n bs s gs
placed_spelling n bs s gs small = (text_placed n bs s gs, gaps_placed n bs s gs small)

-- what reading may answer, with lines from `first` to `last`
pub record PlacedAnswers (first last : ℕ) (p : Placed) : Type 0 where
  pub small : p.number ≤ 16
  pub accepted : p.number ≡ 0 → p.place ≡ 0
  pub refused : (p.number ≡ 0 → ⊥) → (p.gaps ≡ []) × (first ≤ p.place)
  pub within : p.place ≤ last

placed_fault_to_16 : (last n : ℕ) (bs : List ℕ) (l : Line) → placed_fault last n bs l ≤ 16
placed_fault_to_16 last n bs l =
    let f = frame_of l.bytes in
    let kind = when_le (not (eqb (get_or f 0 0) BARRIER && eqb (length f) 2)) 2 16 (omega arith) in
    let range = when_le (not (ltb last (get_or f 1 0) && ltb (get_or f 1 0) n)) 8 16 (omega arith) in
    let barred = when_le (is_in (get_or f 1 0) bs) 16 16 (omega arith) in
    first_le _ _ 16 (when_le (not (is_good l)) 1 16 (omega arith)) (first_le _ _ 16 kind (first_le _ _ 16 range barred))

lines_answer
    : (k last n : ℕ) (bs gs : List ℕ) (ls : List Line)
    → PlacedAnswers k (k + length ls) (place_lines k last n bs gs ls)
unfolding place_lines
lines_answer k last n bs gs [] =
    record { small = omega arith; accepted = λ z. refl; refused = λ z. absurd (z refl); within = omega arith }
lines_answer k last n bs gs (l ∷ ls) =
    let g = get_or (frame_of l.bytes) 1 0 in
    go
    (place_lines (suc k) g n bs (gs ++ (g ∷ [])) ls)
    (eqb (placed_fault last n bs l) 0)
    refl
    (lines_answer (suc k) g n bs (gs ++ (g ∷ [])) ls)
  where
    go
        : (p : Placed) (t : Bool)
        → eqb (placed_fault last n bs l) 0 ≡ t
        → PlacedAnswers (suc k) (suc k + length ls) p
        → PlacedAnswers k (k + suc (length ls)) (pick t p (placed (placed_fault last n bs l) k []))
    go p true e r =
        record {
          small = r.small;
          accepted = r.accepted;
          refused = λ z. ((r.refused z).0, omega (arith, (r.refused z).1));
          within = omega (arith, r.within);
        }
    go p false e r =
        record {
          small = placed_fault_to_16 last n bs l;
          accepted = λ z. absurd (eqb-false (placed_fault last n bs l) 0 e z);
          refused = λ z. (refl, omega arith);
          within = omega arith;
        }

module _ (n : ℕ) (bs s : List ℕ) where
  -- a placement text's answer
  pub placed_answer : PlacedAnswers 1 (length s + 1) (read_placement n bs s)
  unfolding read_placement
  placed_answer =
      let r = lines_answer 1 0 n bs [] (lines_of s) in
      record {
        small = r.small;
        accepted = r.accepted;
        refused = r.refused;
        within = omega (arith, r.within, lines_few s);
      }

  -- an accepted text's gaps rise, are in range and are not barred
  pub placed_spells : (read_placement n bs s).number ≡ 0 → SpellsGaps n bs s (read_placement n bs s).gaps
  placed_spells h =
      let all = same (read_placement n bs s) 0 0 h (placed_answer.accepted h) in
      text_placed n bs s (read_placement n bs s).gaps all
    where
      same : (p : Placed) (a b : ℕ) → p.number ≡ a → p.place ≡ b → p ≡ placed a b p.gaps
      same p a b x y = rw (← x, ← y)

  -- a refused one gives no gap, so that this holds of the gaps that are read always
  pub read_gaps : are_gaps_from 0 n (read_placement n bs s).gaps ≡ true
  read_gaps =
      ⊎_elim
      (λ (z : (read_placement n bs s).number ≡ 0). (placed_spells z).gaps)
      (λ (z : (read_placement n bs s).number ≡ 0 → ⊥). rw (placed_answer.refused z).0)
      (eq_or (read_placement n bs s).number 0)

  pub read_avoids : avoids bs (read_placement n bs s).gaps ≡ true
  read_avoids =
      ⊎_elim
      (λ (z : (read_placement n bs s).number ≡ 0). (placed_spells z).avoiding)
      (λ (z : (read_placement n bs s).number ≡ 0 → ⊥). rw (placed_answer.refused z).0)
      (eq_or (read_placement n bs s).number 0)

-- which gaps are barred decides, not how they are listed
module _ (n : ℕ) (bs cs : List ℕ) (same : (i : ℕ) → is_in i bs ≡ is_in i cs) where
  lines_alike
      : (k last : ℕ) (gs : List ℕ) (ls : List Line) → place_lines k last n bs gs ls ≡ place_lines k last n cs gs ls
  unfolding place_lines
  lines_alike k last gs [] = refl
  lines_alike k last gs (l ∷ ls) =
      let f = frame_of l.bytes in
      let g = get_or f 1 0 in
      rw (same g, lines_alike (suc k) g (gs ++ (g ∷ [])) ls)

  pub read_alike : (s : List ℕ) → read_placement n bs s ≡ read_placement n cs s
  unfolding read_placement
  read_alike s = lines_alike 1 0 [] (lines_of s)
