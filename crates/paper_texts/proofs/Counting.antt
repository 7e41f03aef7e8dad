-- The counts written from their table, a line for each loop in order of its DO: what is written and what is left give
-- the whole text, in each nest with these points.
-- Main definition: `Counting`, what a turn keeps. Main statements: `count_byte`, `counts_length`, `counts_fit`; `rest_all`, `rest_skip`,
-- `rest_do`, `rest_end`; `count_begin`, `count_skip`, `count_on`, `count_done`.
use mathlib.Core.Path.{◌≡◌, refl, ◌∙◌, ap}
use mathlib.Core.Bool.{Bool, true, false}
use mathlib.Core.List.{List, [], ◌∷◌, ◌++◌}
use Prim.Native.Nat.{ℕ, suc, ◌+◌, ◌-◌, ◌*◌, ◌%◌, ◌≤◌, ◌<◌}
use native.Mathlib.Numerals.{add-one}
use native.Mathlib.Omega.{arith}
use lib.Dec.{eqb}
use lib.ListN.{length, get_or, drop, length-append, drop_of_length-le}
use lib.Seq.{drop-cons}
use borrow.Author.Tests.{eq-eqb, ne_eqb}
use borrow.Rule.Slice.PartMut.{mid_of, put_mid}
use Rattle.laws.specs.Choice.{pick}
use Rattle.laws.specs.Entries.{at}
use Rattle.paper_nests.specs.Kinds.{DO, POINTS}
use Rattle.paper_nests.specs.Nests.{Nest, nest}
use Rattle.paper_lines.specs.Lines.{line_text}
use Rattle.paper_lines.specs.Writing.{over}
use Rattle.paper_lines.proofs.Writing.{text-length}
use Rattle.paper_lines.proofs.Parts.{Partly, part_begin, part_room, part_on, part_left, part_done}
use Rattle.paper_placements.specs.Placements.{are_gaps_from, are_gaps, loop_count}
use Rattle.paper_placements.proofs.GapLists.{rising_length, count_few}
use Rattle.paper_counts.specs.Tables.{CountsAre}
use Rattle.paper_texts.specs.Counts.{COUNT, counts_from, counts_text, CountsFit, CountsSay}

-- a loop's count in a nest within the limits is a byte
pub count_byte
    : (n : Nest) (gs : List ℕ) (d : ℕ)
    → length n.points ≤ POINTS
    → are_gaps n gs ≡ true
    → loop_count n gs d < 256
count_byte n gs d few h = omega (arith, count_few n gs d, rising_length 0 (length n.points) gs h)

-- a count's line has 7 bytes
pub line_length : (d c : ℕ) → length (line_text (COUNT ∷ (d ∷ (c ∷ [])))) ≡ 7
line_length d c = text-length (COUNT ∷ (d ∷ (c ∷ [])))

-- so the counts have at most 7 bytes a point
pub counts_length : (n : Nest) (gs : List ℕ) (i : ℕ) (ps : List ℕ) → length (counts_from n gs i ps) ≤ 7 * length ps
unfolding counts_from
counts_length n gs i [] = omega arith
counts_length n gs i (p ∷ ps) = go (eqb p DO) (counts_length n gs (suc i) ps)
  where
    line : List ℕ
    line = line_text (COUNT ∷ (i ∷ (loop_count n gs i ∷ [])))

    go
        : (t : Bool)
        → length (counts_from n gs (suc i) ps) ≤ 7 * length ps
        → length (pick t (line_text (COUNT ∷ (i ∷ (loop_count n gs i ∷ [])))) [] ++ counts_from n gs (suc i) ps)
        ≤ 7 * suc (length ps)
    go true h = omega (arith, length-append line (counts_from n gs (suc i) ps), line_length i (loop_count n gs i))
    go false h = omega arith

-- there is a line for each DO, in whatever nest
lines_alike
    : (n m : Nest) (gs : List ℕ) (i : ℕ) (ps : List ℕ) → length (counts_from n gs i ps) ≡ length (counts_from m gs i ps)
unfolding counts_from
lines_alike n m gs i [] = refl
lines_alike n m gs i (p ∷ ps) = go (eqb p DO) (lines_alike n m gs (suc i) ps)
  where
    line : Nest → List ℕ
    line k = line_text (COUNT ∷ (i ∷ (loop_count k gs i ∷ [])))

    go
        : (t : Bool)
        → length (counts_from n gs (suc i) ps) ≡ length (counts_from m gs (suc i) ps)
        → length (pick t (line_text (COUNT ∷ (i ∷ (loop_count n gs i ∷ [])))) [] ++ counts_from n gs (suc i) ps)
        ≡ length (pick t (line_text (COUNT ∷ (i ∷ (loop_count m gs i ∷ [])))) [] ++ counts_from m gs (suc i) ps)
    go true h =
        omega (
          arith,
          length-append (line n) (counts_from n gs (suc i) ps),
          length-append (line m) (counts_from m gs (suc i) ps),
          line_length i (loop_count n gs i),
          line_length i (loop_count m gs i),
        )
    go false h = h

-- so where those of one nest have room, those of each with its points have
pub counts_fit
    : (n : Nest) (gs : List ℕ) (room : ℕ) → length (counts_text n gs) ≤ room → CountsFit n.points gs room
counts_fit n gs room fits m same =
    let long = ap (λ (ps : List ℕ). length (counts_from n gs 0 ps)) same in
    omega (arith, lines_alike m n gs 0 m.points)

-- the counts of the loops from point d on are left
pub rest_of : Nest → List ℕ → ℕ → List ℕ
rest_of n gs d = counts_from n gs d (drop d n.points)

pub rest_all : (n : Nest) (gs : List ℕ) → rest_of n gs 0 ≡ counts_text n gs
unfolding rest_of
rest_all n gs = refl

-- at a point that is no DO, at a DO, at the end
pub rest_skip
    : (n : Nest) (gs : List ℕ) (d : ℕ)
    → d < length n.points
    → (get_or n.points d 0 ≡ DO → ⊥)
    → rest_of n gs d ≡ rest_of n gs (d + 1)
unfolding rest_of counts_from
rest_skip n gs d h e = rw (add-one d, drop-cons n.points d 0 h, ne_eqb (get_or n.points d 0) DO e)

pub rest_do
    : (n : Nest) (gs : List ℕ) (d : ℕ)
    → d < length n.points
    → get_or n.points d 0 ≡ DO
    → rest_of n gs d ≡ line_text (COUNT ∷ (d ∷ (loop_count n gs d ∷ []))) ++ rest_of n gs (d + 1)
unfolding rest_of counts_from
rest_do n gs d h e = rw (add-one d, drop-cons n.points d 0 h, eq-eqb (get_or n.points d 0) DO e)

pub rest_end : (n : Nest) (gs : List ℕ) (d : ℕ) → length n.points ≤ d → rest_of n gs d ≡ []
unfolding rest_of counts_from
rest_end n gs d h = rw (drop_of_length-le n.points {i = d} h)

-- the table has the counts of a placement, and the buffer has room for their lines
pub record Given (ps gs counts o : List ℕ) : Type 0 where
  pub few : length ps ≤ POINTS
  pub gaps : are_gaps_from 0 (length ps) gs ≡ true
  pub counts_are : CountsAre ps gs counts
  pub room : CountsFit ps gs (length o)

-- the lines of the loops before point d are written
pub record Counting (ps counts o out : List ℕ) (place d : ℕ) : Type 0 where
  pub low : d ≤ length ps
  pub part
      : (gs : List ℕ) → Given ps gs counts o → (n : Nest) → n.points ≡ ps
      → Partly (counts_text n gs) (rest_of n gs d) o out place

pub count_begin : (ps counts o : List ℕ) → Counting ps counts o o 0 0
unfolding rest_of
count_begin ps counts o = record { low = omega arith; part = λ gs y n same. part_begin (counts_text n gs) o }

module _ (ps counts o out : List ℕ) (place d : ℕ) (c : Counting ps counts o out place d) where
  module _ (gs : List ℕ) (y : Given ps gs counts o) where
    -- one nest with these points
    abbrev bare : Nest
    bare = nest ps []

    -- the place and what is left lie in the buffer
    within : length (rest_of bare gs d) + place ≤ length o
    within =
        let part = c.part gs y bare refl in
        omega (arith, part_room (counts_text bare gs) (rest_of bare gs d) o out place part (y.room bare refl))

    pub count_within : place ≤ length o
    count_within = omega (arith, within)

    pub count_room : d < length ps → at ps d ≡ DO → place + 7 ≤ length o
    count_room h e =
        let line = line_text (COUNT ∷ (d ∷ (loop_count bare gs d ∷ []))) in
        let long : length (rest_of bare gs d) ≡ length line + length (rest_of bare gs (d + 1)) =
        ap length (rest_do bare gs d h e) ∙ length-append line (rest_of bare gs (d + 1)) in
        omega (arith, line_length d (loop_count bare gs d), within)

    pub count_done : length ps ≤ d → CountsSay ps gs o out place
    count_done h = record { length_is = λ n same. (all n same).0; out_is = λ n same. (all n same).1 }
      where
        all : (n : Nest) → n.points ≡ ps → (place ≡ length (counts_text n gs)) × (out ≡ over (counts_text n gs) o)
        all n same =
            part_done (counts_text n gs) o out place
            (part_left (counts_text n gs) (rest_of n gs d) o out place (c.part gs y n same) []
            (rest_end n gs d (rw same h)))

  pub count_skip : d < length ps → (at ps d ≡ DO → ⊥) → Counting ps counts o out place (d + 1)
  count_skip h e =
      record {
        low = omega arith;
        part = λ gs y n same.
            part_left (counts_text n gs) (rest_of n gs d) o out place (c.part gs y n same) (rest_of n gs (d + 1))
            (rest_skip n gs d (rw same h) (rw same e));
      }

  -- the line of the loop whose DO is d
  pub count_on
      : (q : List ℕ) (r : ℕ)
      → d < length ps
      → at ps d ≡ DO
      → r ≡ length (line_text (COUNT ∷ (d % 256 ∷ (at counts d % 256 ∷ []))))
      → q ≡ over (line_text (COUNT ∷ (d % 256 ∷ (at counts d % 256 ∷ [])))) (mid_of place (length out - place) out)
      → Counting ps counts o (put_mid place (length out - place) out q) (place + r) (d + 1)
  count_on q r h e l w = record { low = omega arith; part = next }
    where
      next
          : (gs : List ℕ) → Given ps gs counts o → (n : Nest) → n.points ≡ ps
          → Partly (counts_text n gs) (rest_of n gs (d + 1)) o (put_mid place (length out - place) out q) (place + r)
      next gs y n same =
          let loop : d % 256 ≡ d = omega (arith, y.few) in
          let byte = count_byte n gs d (rw same y.few) (rw same y.gaps) in
          let count : at counts d % 256 ≡ loop_count n gs d =
          omega (arith, y.counts_are n same d (omega (arith, y.few)), byte) in
          part_on (counts_text n gs) (rest_of n gs d) o out place (c.part gs y n same)
          (line_text (COUNT ∷ (d % 256 ∷ (at counts d % 256 ∷ [])))) (rest_of n gs (d + 1)) q r (y.room n same)
          (rw (loop, count) (rest_do n gs d (rw same h) (rw same e))) l w
