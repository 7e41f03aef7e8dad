-- Refused nest texts: numbers are 1 to 14 with a line from 1 to the one after the last, and no nest is given; an
-- accepted text has number 0 and line 0.
-- Main statements: `nest_answer`, `numbers_to_14`, `place_within`, `accepted_got`.
use mathlib.Core.Path.{◌≡◌, refl}
use mathlib.Core.Bool.{Bool, true, false, ◌&&◌, ◌||◌, not}
use mathlib.Core.List.{List, [], ◌∷◌}
use Prim.Native.Nat.{ℕ, suc, ◌+◌, ◌≤◌}
use native.Mathlib.Omega.{arith}
use lib.Dec.{eqb, leb}
use lib.ListN.{length}
use borrow.Author.Tests.{eqb-false}
use Rattle.laws.specs.Choice.{pick}
use Rattle.laws.proofs.Choices.{first_le, when_le}
use Rattle.paper_nests.specs.Kinds.{DO, POINTS, DEPTH, DEPENDENCES, BARS}
use Rattle.paper_nests.specs.Nests.{Dep, Nest, empty}
use Rattle.paper_nests.specs.Loops.{depth, is_closed}
use Rattle.paper_nests.specs.Gaps.{is_gap}
use Rattle.paper_nests.specs.Ring.{one_loop}
use Rattle.paper_nests.specs.Valid.{names_points, runs_right, dep_fault, bar_fault}
use Rattle.paper_lines.specs.Lines.{Line, lines_of, is_good, frame_of}
use Rattle.paper_lines.proofs.Spelling.{lines_few}
use Rattle.paper_texts.specs.Pieces.{Point, Depend, Bar, Flagged, Told, told, unknown, piece_of, is_past}
use Rattle.paper_texts.specs.Pieces.{point_fault, dependence_fault, barred_fault, told_fault}
use Rattle.paper_texts.specs.NestTexts.{with_frame, line_fault, Got, got, read_lines, read_nest}

-- the numbers of a line are at most 14
dep_fault_to_14 : (ps : List ℕ) (e : Dep) → dep_fault ps e ≤ 14
dep_fault_to_14 ps e =
    let names = when_le (not (names_points ps e)) 6 14 (omega arith) in
    let right = when_le (not (runs_right ps e)) 7 14 (omega arith) in
    first_le _ _ 14 names right

point_fault_to_14 : (n : Nest) (p : ℕ) → point_fault n p ≤ 14
point_fault_to_14 n p =
    let ps = n.points in
    let late = when_le (is_past n) 3 14 (omega arith) in
    let outside = when_le (is_closed ps || (eqb (length ps) 0 && not (eqb p DO))) 4 14 (omega arith) in
    let beyond = when_le (leb POINTS (length ps) || (eqb p DO && leb DEPTH (depth ps))) 5 14 (omega arith) in
    first_le _ _ 14 late (first_le _ _ 14 outside beyond)

dependence_fault_to_14 : (n : Nest) (e : Dep) → dependence_fault n e ≤ 14
dependence_fault_to_14 n e =
    let early = when_le (not (is_closed n.points)) 4 14 (omega arith) in
    let beyond = when_le (leb DEPENDENCES (length n.deps)) 5 14 (omega arith) in
    first_le _ _ 14 early (first_le _ _ 14 beyond (dep_fault_to_14 n.points e))

bar_fault_to_14 : (ps : List ℕ) (g : ℕ) → bar_fault ps g ≤ 14
bar_fault_to_14 ps g =
    let range = when_le (not (is_gap ps g)) 8 14 (omega arith) in
    let several = when_le (not (one_loop ps)) 14 14 (omega arith) in
    first_le _ _ 14 range several

barred_fault_to_14 : (n : Nest) (g : ℕ) → barred_fault n g ≤ 14
barred_fault_to_14 n g =
    let early = when_le (not (is_closed n.points)) 4 14 (omega arith) in
    let beyond = when_le (leb BARS (length n.barred)) 5 14 (omega arith) in
    first_le _ _ 14 early (first_le _ _ 14 beyond (bar_fault_to_14 n.points g))

told_fault_to_14 : (n : Nest) (x : Told) → told_fault n x ≤ 14
told_fault_to_14 n (told (Point k)) = point_fault_to_14 n k
told_fault_to_14 n (told (Depend e)) = dependence_fault_to_14 n e
told_fault_to_14 n (told (Bar g)) = barred_fault_to_14 n g
told_fault_to_14 n (told Flagged) = point_fault_to_14 n DO
told_fault_to_14 n unknown = omega arith

pub line_fault_to_14 : (n : Nest) (l : Line) → line_fault n l ≤ 14
line_fault_to_14 n l =
    let frame = told_fault_to_14 n (piece_of (frame_of l.bytes)) in
    first_le _ _ 14 (when_le (not (is_good l)) 1 14 (omega arith)) frame

-- what reading may answer, with lines from `first` to `last`
pub record Answers (first last : ℕ) (g : Got) : Type 0 where
  pub small : g.number ≤ 14
  pub accepted : g.number ≡ 0 → g.place ≡ 0
  pub refused : (g.number ≡ 0 → ⊥) → (g.nest_is ≡ empty) × (first ≤ g.place)
  pub within : g.place ≤ last

pub lines_answer : (k : ℕ) (n : Nest) (ls : List Line) → Answers k (k + length ls) (read_lines k n ls)
unfolding read_lines
lines_answer k n [] = go (is_closed n.points)
  where
    go : (t : Bool) → Answers k (k + 0) (pick t (got 0 0 n) (got 4 k empty))
    go true = record { small = omega arith; accepted = λ z. refl; refused = λ z. absurd (z refl); within = omega arith }
    go false =
        record {
          small = omega arith;
          accepted = λ z. absurd (omega (arith, z));
          refused = λ z. (refl, omega arith);
          within = omega arith;
        }
lines_answer k n (l ∷ ls) = go (eqb (line_fault n l) 0) refl (lines_answer (suc k) (with_frame n (frame_of l.bytes)) ls)
  where
    go
        : (t : Bool)
        → eqb (line_fault n l) 0 ≡ t
        → Answers (suc k) (suc k + length ls) (read_lines (suc k) (with_frame n (frame_of l.bytes)) ls)
        → Answers
        k
        (k + suc (length ls))
        (pick t (read_lines (suc k) (with_frame n (frame_of l.bytes)) ls) (got (line_fault n l) k empty))
    go true e r =
        record {
          small = r.small;
          accepted = r.accepted;
          refused = λ z. ((r.refused z).0, omega (arith, (r.refused z).1));
          within = omega (arith, r.within);
        }
    go false e r =
        record {
          small = line_fault_to_14 n l;
          accepted = λ z. absurd (eqb-false (line_fault n l) 0 e z);
          refused = λ z. (refl, omega arith);
          within = omega arith;
        }

-- a nest text's answer
pub nest_answer : (s : List ℕ) → Answers 1 (1 + length (lines_of s)) (read_nest s)
unfolding read_nest
nest_answer [] =
    record { small = omega arith; accepted = λ z. refl; refused = λ z. absurd (z refl); within = omega arith }
nest_answer (b ∷ s) = lines_answer 1 empty (lines_of (b ∷ s))

pub numbers_to_14 : (s : List ℕ) → (read_nest s).number ≤ 14
numbers_to_14 s = (nest_answer s).small

pub place_within : (s : List ℕ) → (read_nest s).place ≤ length s + 1
place_within s = omega (arith, (nest_answer s).within, lines_few s)

pub accepted_place : (s : List ℕ) → (read_nest s).number ≡ 0 → (read_nest s).place ≡ 0
accepted_place s h = (nest_answer s).accepted h

-- an accepted text's answer is its nest
pub accepted_got : (s : List ℕ) → (read_nest s).number ≡ 0 → read_nest s ≡ got 0 0 (read_nest s).nest_is
accepted_got s h = go (read_nest s) 0 0 h (accepted_place s h)
  where
    go : (g : Got) (a b : ℕ) → g.number ≡ a → g.place ≡ b → g ≡ got a b g.nest_is
    go g a b p q = rw (← p, ← q)
