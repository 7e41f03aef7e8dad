-- Nest texts read line by line: what a turn of the reader keeps, and one law for each way through a turn.
-- Main statements: `begun`, `at_end`, `at_refusal`; of a turn that comes to a frame (`Turn`)
-- `at_unknown`, `at_point`, `at_dependence`, `at_barred`, `at_flagged`, `room_for_point`, `counted_point`,
-- `room_for_dependence`, `room_for_bar`, `room_for_flagged`, `on_point`, `on_dependence`, `on_bar`, `on_flagged`.
use mathlib.Core.Path.{◌≡◌, refl, sym, ◌∙◌, ap}
use Rattle.std.proofs.Common.{Some, None, Result, Ok, Err}
use mathlib.Core.Bool.{Bool, true, false, ◌&&◌, not}
use mathlib.Core.List.{List, [], ◌∷◌}
use Prim.Native.Nat.{ℕ, suc, ◌+◌, ◌^◌, ◌≤◌, ◌<◌}
use native.Mathlib.Numerals.{add-one}
use native.Mathlib.Omega.{arith}
use lib.Dec.{eqb, leb}
use lib.ListN.{length, take, drop, set, length-set}
use borrow.Author.Rules.{rules}
use borrow.Author.Tests.{leb-false, ne_eqb}
use Rattle.laws.specs.Choice.{pick, when, first_of}
use Rattle.laws.proofs.Tests.{or_false, never}
use Rattle.laws.proofs.Choices.{first_zero, when_zero}
use Rattle.paper_nests.specs.Kinds.{DO, POINTS, DEPTH, DEPENDENCES, BARS}
use Rattle.paper_nests.specs.Nests.{Dep, Nest, empty}
use Rattle.paper_nests.specs.Loops.{deeper, depth_from, depth, is_closed, HasEnds}
use Rattle.paper_nests.specs.Ring.{one_loop}
use Rattle.paper_nests.specs.Valid.{dep_fault, bar_fault}
use Rattle.paper_nests.specs.Stored.{dep_in, nest_in, IsCounted, IsEmpty}
use Rattle.paper_nests.specs.declared.Dependence.{Dependence}
use Rattle.paper_nests.specs.declared.Nest as DN
use Rattle.paper_nests.proofs.Scan.{deeper_grows}
use Rattle.paper_nests.proofs.Stored as stored
use Rattle.paper_lines.specs.declared.Frame.{Frame}
use Rattle.paper_refusals.specs.declared.Refusal.{Refusal}
use Rattle.paper_refusals.specs.declared.Fault.{Fault}
use Rattle.paper_refusals.specs.declared.Refusal.TheVariants.{WrongKind}
use Rattle.paper_refusals.specs.Numbers.{number_of}
use Rattle.paper_refusals.proofs.Numbers.{never_zero}
use Rattle.paper_lines.specs.Lines.{Line, lines_of, is_good, frame_of}
use Rattle.paper_lines.specs.Reading.{line_at}
use Rattle.paper_lines.proofs.Reading.{no_line, bad_line, good_line, Good-line}
use Rattle.paper_texts.specs.declared.Piece as DP
use Rattle.paper_texts.specs.declared.Piece.TheVariants as PV
use Rattle.paper_texts.specs.Pieces.{Told, piece_of, is_past, point_fault, dependence_fault, barred_fault}
use Rattle.paper_texts.specs.Pieces.{told_fault, with_told}
use Rattle.paper_texts.specs.NestTexts.{frame_fault, with_frame, line_fault, Got, got, read_lines, read_nest}
use Rattle.paper_texts.specs.Reads.{IsRead, EndedAs, HasNumbers, closed_by, misplaced_by, too_many_by}
use Rattle.paper_texts.specs.Reads.{KnowsEnds, KnowsOne, told_in, IsPiece, PointFault, DependenceFault, BarredFault}
use Rattle.paper_texts.proofs.BlankPaper.{lines_read}
use Rattle.paper_texts.proofs.Shapes.{depth_more}
use Rattle.paper_texts.proofs.Faults.{bad_first, good_first}

-- the depth is at most the number of points
depth_bound : (d : ℕ) (ps : List ℕ) → depth_from d ps ≤ d + length ps
depth_bound d [] = omega arith
depth_bound d (p ∷ ps) = omega (arith, depth_bound (deeper d p) ps, deeper_grows d p)

-- a line's refusal
fault_bad : (n : Nest) (l : Line) → is_good l ≡ false → line_fault n l ≡ 1
fault_bad n l h = bad_first (is_good l) (frame_fault n (frame_of l.bytes)) h

fault_good : (n : Nest) (l : Line) → is_good l ≡ true → line_fault n l ≡ frame_fault n (frame_of l.bytes)
fault_good n l h = good_first (is_good l) (frame_fault n (frame_of l.bytes)) h

-- a piece that is not refused has room
point_room : (n : Nest) (k : ℕ) → point_fault n k ≡ 0 → length n.points < POINTS
point_room n k h =
    let count = length n.points in
    let early = when (is_past n) 3 in
    let place = when (misplaced_by count (depth n.points) k) 4 in
    let many = when (too_many_by count (depth n.points) k) 5 in
    let none : many ≡ 0 = (first_zero place many (first_zero early (first_of place many) h).1).1 in
    let t = too_many_by count (depth n.points) k in
    let few : t ≡ false = when_zero t 4 none in
    leb-false POINTS count (or_false (leb POINTS count) (eqb k DO && leb DEPTH (depth n.points)) few).0

dependence_room : (n : Nest) (e : Dep) → dependence_fault n e ≡ 0 → length n.deps < DEPENDENCES
dependence_room n e h =
    let open_is = when (not (is_closed n.points)) 4 in
    let many = when (leb DEPENDENCES (length n.deps)) 5 in
    let none : many ≡ 0 =
    (first_zero many (dep_fault n.points e) (first_zero open_is (first_of many (dep_fault n.points e)) h).1).0 in
    leb-false DEPENDENCES (length n.deps) (when_zero (leb DEPENDENCES (length n.deps)) 4 none)

bar_room : (n : Nest) (g : ℕ) → barred_fault n g ≡ 0 → length n.barred < BARS
bar_room n g h =
    let open_is = when (not (is_closed n.points)) 4 in
    let many = when (leb BARS (length n.barred)) 5 in
    let none : many ≡ 0 =
    (first_zero many (bar_fault n.points g) (first_zero open_is (first_of many (bar_fault n.points g)) h).1).0 in
    leb-false BARS (length n.barred) (when_zero (leb BARS (length n.barred)) 4 none)

-- the rest of the reading, by the first line
read_none : (k : ℕ) (n : Nest) → read_lines k n [] ≡ pick (is_closed n.points) (got 0 0 n) (got 4 k empty)
unfolding read_lines
read_none k n = refl

module _ (k : ℕ) (n : Nest) (l : Line) (ls : List Line) where
  abbrev decided : ℕ → Got
  decided e = pick (eqb e 0) (read_lines (suc k) (with_frame n (frame_of l.bytes)) ls) (got e k empty)

  read_by : (e : ℕ) → line_fault n l ≡ e → read_lines k n (l ∷ ls) ≡ decided e
  unfolding read_lines
  read_by e h = ap decided h

  read_stop : (e : ℕ) → line_fault n l ≡ e → (e ≡ 0 → ⊥) → read_lines k n (l ∷ ls) ≡ got e k empty
  read_stop e h z = read_by e h ∙ rw (ne_eqb e 0 z)

  read_on : line_fault n l ≡ 0 → read_lines k n (l ∷ ls) ≡ read_lines (suc k) (with_frame n (frame_of l.bytes)) ls
  read_on h = read_by 0 h

-- what a turn keeps: the nest so far, its depth and its ends, whether it is one loop, and that the rest of the lines
-- decides as the whole text does
pub record Loading (s : List ℕ) (n : DN.Nest) (ends : List ℕ) (single : Bool) (deep at line : ℕ) : Type 0 where
  pub counted : IsCounted n
  pub wide : length n.points ≡ POINTS
  pub long : length n.deps ≡ DEPENDENCES
  pub broad : length n.barred ≡ BARS
  pub tall : length n.flagged ≡ POINTS
  pub deep_is : deep ≡ depth (nest_in n).points
  pub knows : KnowsEnds (nest_in n).points deep ends
  pub knows_one : KnowsOne (nest_in n).points deep single
  pub inside : at ≤ length s
  pub lines : line ≤ at + 1
  pub rest : read_lines line (nest_in n) (lines_of (drop at s)) ≡ read_nest s

-- no point is a DO where there is none
no-do : (ps ends : List ℕ) → ps ≡ [] → HasEnds ps ends
no-do [] ends h d m = never m
no-do (p ∷ ps) ends h d m =
    let z : suc (length ps) ≡ 0 = ap length h in
    absurd (omega arith)

pub begun
    : (s : List ℕ) (n : DN.Nest) (ends : List ℕ)
    → 0 < length s
    → IsEmpty n
    → length n.points ≡ POINTS
    → length n.barred ≡ BARS
    → length n.flagged ≡ POINTS
    → length ends ≡ POINTS
    → Loading s n ends true 0 0 1
begun s n ends some e w v u l =
    record {
      counted = e.counted;
      wide = w;
      long = e.long;
      broad = v;
      tall = u;
      knows =
          record {
            long = l;
            has_ends = λ z. no-do (nest_in n).points ends (ap (λ (x : Nest). x.points) e.nest_is);
          };
      knows_one = λ z. ap (λ (x : Nest). one_loop x.points) (sym e.nest_is);
      deep_is = ap (λ (x : Nest). depth x.points) (sym e.nest_is);
      inside = omega arith;
      lines = omega arith;
      rest = ap (λ (x : Nest). read_lines 1 x (lines_of s)) e.nest_is ∙ sym (lines_read s some);
    }

module _
    (s : List ℕ) (n : DN.Nest) (ends : List ℕ) (single : Bool) (deep at line : ℕ)
    (p : Loading s n ends single deep at line)
  where
    abbrev ps : List ℕ
    ps = take n.count n.points

    pub deep_fits : deep + 1 < 2 ^ 64
    deep_fits = omega (arith, p.deep_is, depth_bound 0 ps, p.counted.count_is, p.counted.count_fits)

    pub at_end : (r : Result DN.Nest Fault) → line_at s at ≡ Ok None → EndedAs n deep line r → IsRead s r
    at_end r h e =
        let closed : closed_by n.count deep ≡ is_closed ps =
        ap (λ (x : ℕ). closed_by x deep) p.counted.count_is ∙ ap (closed_by (length ps)) p.deep_is in
        record {
          got_is =
              e.got_is
              ∙ ap (λ (b : Bool). pick b (got 0 0 (nest_in n)) (got 4 line empty)) closed
              ∙ sym (read_none line (nest_in n))
              ∙ ap (read_lines line (nest_in n)) (sym (no_line s at h))
              ∙ p.rest;
          counted = e.counted;
        }

    pub at_refusal : (k : Refusal) → line_at s at ≡ Err k → IsRead s (Err (record { refusal = k; line = line }))
    at_refusal k h =
        let b = bad_line s at k h in
        let fault = fault_bad (nest_in n) b.first b.bad in
        record {
          got_is =
              ap (λ (x : ℕ). got x line empty) b.number
              ∙ sym (read_stop line (nest_in n) b.first b.rest 1 fault (omega arith))
              ∙ ap (read_lines line (nest_in n)) (sym b.lines)
              ∙ p.rest;
          counted = search rules;
        }

-- a turn that comes to a frame: the nest so far, its points, the frame of a good line, and the piece that it tells
pub record Turn (s : List ℕ) (n : DN.Nest) (ends : List ℕ) (single : Bool) (deep at line : ℕ) (ps : List ℕ)
    (f : Frame) (x : DP.Piece) : Type 0 where
  pub so_far : Loading s n ends single deep at line
  pub frame_is : line_at s at ≡ Ok (Some f)
  pub points_are : ps ≡ (nest_in n).points
  pub piece_is : IsPiece f x

module _
    {s : List ℕ}
    {n : DN.Nest}
    {ends : List ℕ}
    {single : Bool}
    {deep at line : ℕ}
    {ps : List ℕ}
    {f : Frame}
    {x : DP.Piece}
    (turn : Turn s n ends single deep at line ps f x)
  where
    abbrev p : Loading s n ends single deep at line
    p = turn.so_far

    numbers : HasNumbers (nest_in n) (length ps) n.many n.bars deep
    numbers =
        record {
          count_is = ap length (sym turn.points_are);
          many_is = sym p.counted.many_is;
          bars_is = sym p.counted.bars_is;
          depth_is = sym p.deep_is;
        }

    good : Good-line s at f
    good = good_line s at f turn.frame_is

    tells : told_in x ≡ piece_of (frame_of good.first.bytes)
    tells = turn.piece_is (frame_of good.first.bytes) good.frame_is

    line-fault : line_fault (nest_in n) good.first ≡ told_fault (nest_in n) (told_in x)
    line-fault = fault_good (nest_in n) good.first good.good ∙ ap (told_fault (nest_in n)) (sym tells)

    pub at_fault
        : (e : Refusal)
        → number_of e ≡ told_fault (nest_in n) (told_in x)
        → IsRead s (Err (record { refusal = e; line = line }))
    at_fault e h =
        record {
          got_is =
              sym
              (read_stop
              line
              (nest_in n)
              good.first
              (lines_of (drop f.next s))
              (number_of e)
              (line-fault ∙ sym h)
              (never_zero e))
              ∙ ap (read_lines line (nest_in n)) (sym good.lines)
              ∙ p.rest;
          counted = search rules;
        }

    pub next_inside : (at < f.next) × (f.next ≤ length s)
    next_inside = omega (arith, good.on, good.inside)

    -- the nest with what the frame tells
    on
        : (m : DN.Nest) (ends' : List ℕ) (single' : Bool) (d : ℕ)
        → told_fault (nest_in n) (told_in x) ≡ 0
        → nest_in m ≡ with_told (nest_in n) (told_in x)
        → IsCounted m
        → length m.points ≡ POINTS
        → length m.deps ≡ DEPENDENCES
        → length m.barred ≡ BARS
        → length m.flagged ≡ POINTS
        → d ≡ depth (nest_in m).points
        → KnowsEnds (nest_in m).points d ends'
        → KnowsOne (nest_in m).points d single'
        → Loading s m ends' single' d f.next (line + 1)
    on m ends' single' d z added c v l b q w t u =
        record {
          counted = c;
          wide = v;
          long = l;
          broad = b;
          tall = q;
          deep_is = w;
          knows = t;
          knows_one = u;
          inside = good.inside;
          lines = omega (arith, p.lines, good.on);
          rest =
              ap (λ (y : ℕ). read_lines y (nest_in m) (lines_of (drop f.next s))) (add-one line)
              ∙ ap (λ (y : Nest). read_lines (suc line) y (lines_of (drop f.next s))) added
              ∙ ap (λ (y : Told). read_lines (suc line) (with_told (nest_in n) y) (lines_of (drop f.next s))) tells
              ∙ sym (read_on line (nest_in n) good.first (lines_of (drop f.next s)) (line-fault ∙ z))
              ∙ ap (read_lines line (nest_in n)) (sym good.lines)
              ∙ p.rest;
        }

    -- what is not known
    pub at_unknown : x ≡ PV.Unknown → IsRead s (Err (record { refusal = WrongKind; line = line }))
    at_unknown is = at_fault WrongKind (rw is)

    -- a point, with its refusal e
    module _ (k e : ℕ) (is : x ≡ PV.Point k) (fault : PointFault (length ps) n.many n.bars deep k e) where
      point_told : e ≡ told_fault (nest_in n) (told_in x)
      point_told = fault (nest_in n) numbers ∙ rw is

      pub at_point : (r : Refusal) → e ≡ number_of r → IsRead s (Err (record { refusal = r; line = line }))
      at_point r h = at_fault r (sym h ∙ point_told)

      pub room_for_point : e ≡ 0 → n.count < POINTS
      room_for_point z =
          let none : told_fault (nest_in n) (told_in x) ≡ 0 = sym point_told ∙ z in
          omega (arith, p.counted.count_is, point_room (nest_in n) k (rw is at none))

      pub counted_point : e ≡ 0 → IsCounted (stored.with-point n p.counted k)
      counted_point z = (stored.point_added n p.counted k (room_for_point z) p.wide).counted

      pub on_point
          : (ends' : List ℕ) (single' : Bool) (d : ℕ)
          → e ≡ 0
          → d ≡ deeper deep k
          → KnowsEnds (take (n.count + 1) (set n.points n.count k)) d ends'
          → KnowsOne (take (n.count + 1) (set n.points n.count k)) d single'
          → Loading s (stored.with-point n p.counted k) ends' single' d f.next (line + 1)
      on_point ends' single' d z w t u =
          let q = stored.point_added n p.counted k (room_for_point z) p.wide in
          on
          (stored.with-point n p.counted k)
          ends'
          single'
          d
          (sym point_told ∙ z)
          (q.nest_is ∙ ap (λ (y : DP.Piece). with_told (nest_in n) (told_in y)) (sym is))
          q.counted
          (length-set n.points n.count k ∙ p.wide)
          p.long
          p.broad
          p.tall
          (w
          ∙ ap (λ (y : ℕ). deeper y k) p.deep_is
          ∙ sym (depth_more (nest_in n).points k)
          ∙ ap (λ (y : Nest). depth y.points) (sym q.nest_is))
          t
          u

    -- the DO of a flagged loop, with its refusal e
    module _ (e : ℕ) (is : x ≡ PV.Flagged) (fault : PointFault (length ps) n.many n.bars deep DO e) where
      flagged_told : e ≡ told_fault (nest_in n) (told_in x)
      flagged_told = fault (nest_in n) numbers ∙ rw is

      pub at_flagged : (r : Refusal) → e ≡ number_of r → IsRead s (Err (record { refusal = r; line = line }))
      at_flagged r h = at_fault r (sym h ∙ flagged_told)

      pub room_for_flagged : e ≡ 0 → (n.count < POINTS) × (n.flags < POINTS)
      room_for_flagged z =
          let none : told_fault (nest_in n) (told_in x) ≡ 0 = sym flagged_told ∙ z in
          let room = point_room (nest_in n) DO (rw is at none) in
          omega (arith, p.counted.count_is, p.counted.flags_fit, room)

      pub on_flagged : e ≡ 0 → Loading s (stored.with-flagged n p.counted) ends single (deep + 1) f.next (line + 1)
      on_flagged z =
          let q = stored.flagged_added n p.counted (room_for_flagged z).0 p.wide p.tall in
          on
          (stored.with-flagged n p.counted)
          ends
          single
          (deep + 1)
          (sym flagged_told ∙ z)
          (q.nest_is ∙ ap (λ (y : DP.Piece). with_told (nest_in n) (told_in y)) (sym is))
          q.counted
          (length-set n.points n.count DO ∙ p.wide)
          p.long
          p.broad
          (length-set n.flagged n.flags n.count ∙ p.tall)
          (add-one deep
          ∙ ap suc p.deep_is
          ∙ sym (depth_more (nest_in n).points DO)
          ∙ ap (λ (y : Nest). depth y.points) (sym q.nest_is))
          (record { long = p.knows.long; has_ends = λ w. absurd (omega (arith, w)) })
          (λ w. absurd (omega (arith, w)))

    -- a dependence, with its refusal e
    module _
        (g : Dependence)
        (e : ℕ)
        (is : x ≡ PV.Dependence g)
        (fault : DependenceFault ps n.many deep g e)
      where
        dependence_told : e ≡ told_fault (nest_in n) (told_in x)
        dependence_told =
            fault (nest_in n) n.bars (sym turn.points_are) numbers ∙ rw is

        pub at_dependence : (r : Refusal) → e ≡ number_of r → IsRead s (Err (record { refusal = r; line = line }))
        at_dependence r h = at_fault r (sym h ∙ dependence_told)

        pub room_for_dependence : e ≡ 0 → n.many < DEPENDENCES
        room_for_dependence z =
            let none : told_fault (nest_in n) (told_in x) ≡ 0 = sym dependence_told ∙ z in
            omega (arith, p.counted.many_is, dependence_room (nest_in n) (dep_in g) (rw is at none))

        pub on_dependence
            : e ≡ 0 → Loading s (stored.with_dependence n p.counted g) ends single deep f.next (line + 1)
        on_dependence z =
            let q = stored.dependence_added n p.counted g (room_for_dependence z) p.long in
            on
            (stored.with_dependence n p.counted g)
            ends
            single
            deep
            (sym dependence_told ∙ z)
            (q.nest_is ∙ ap (λ (y : DP.Piece). with_told (nest_in n) (told_in y)) (sym is))
            q.counted
            p.wide
            (length-set n.deps n.many g ∙ p.long)
            p.broad
            p.tall
            p.deep_is
            p.knows
            p.knows_one

    -- a barred gap, with its refusal e
    module _
        (g e : ℕ)
        (is : x ≡ PV.Barred g)
        (fault : BarredFault ps n.bars deep g e)
      where
        bar_told : e ≡ told_fault (nest_in n) (told_in x)
        bar_told = fault (nest_in n) n.many (sym turn.points_are) numbers ∙ rw is

        pub at_barred : (r : Refusal) → e ≡ number_of r → IsRead s (Err (record { refusal = r; line = line }))
        at_barred r h = at_fault r (sym h ∙ bar_told)

        pub room_for_bar : e ≡ 0 → n.bars < BARS
        room_for_bar z =
            let none : told_fault (nest_in n) (told_in x) ≡ 0 = sym bar_told ∙ z in
            omega (arith, p.counted.bars_is, bar_room (nest_in n) g (rw is at none))

        pub on_bar : e ≡ 0 → Loading s (stored.with-bar n p.counted g) ends single deep f.next (line + 1)
        on_bar z =
            let q = stored.bar_added n p.counted g (room_for_bar z) p.broad in
            on
            (stored.with-bar n p.counted g)
            ends
            single
            deep
            (sym bar_told ∙ z)
            (q.nest_is ∙ ap (λ (y : DP.Piece). with_told (nest_in n) (told_in y)) (sym is))
            q.counted
            p.wide
            p.long
            (length-set n.barred n.bars g ∙ p.broad)
            p.tall
            p.deep_is
            p.knows
            p.knows_one
