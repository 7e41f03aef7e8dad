-- Ordered pieces that make a valid nest are read to the end, and give that nest: whatever stands behind a piece only
-- adds to the nest, so the rules that the whole nest keeps tell that the piece has no fault. The spelling of a valid
-- nest is one such text.
-- Main statements: `fitting`, `pieces_read`, `pieces_good`, `spells_read`, `nest_spells`, `valid_accepted`.
use mathlib.Core.Path.{◌≡◌, refl, sym, ap, ◌∙◌}
use mathlib.Core.Bool.{Bool, true, false, ◌&&◌, ◌||◌, not}
use mathlib.Core.List.{List, [], ◌∷◌, ◌++◌, append_assoc, append-nil}
use Prim.Native.Nat.{ℕ, suc, ◌≤◌, ◌<◌}
use native.Mathlib.Omega.{arith}
use lib.Dec.{eqb, leb}
use lib.ListN.{length, length-append}
use borrow.Author.Tests.{eqb-true, lt-leb, le-leb, ne_eqb, eq-eqb}
use Rattle.laws.specs.Choice.{when, first_of}
use Rattle.laws.proofs.Tests.{never, false_by, and_intro, and_true}
use Rattle.laws.proofs.Choices.{pick_by}
use Rattle.paper_nests.specs.Kinds.{DO, POINTS, DEPTH, DEPENDENCES, BARS}
use Rattle.paper_nests.specs.Nests.{Dep, Nest, empty, with_point, with_dep, with_bar, with_flagged}
use Rattle.paper_nests.specs.Loops.{depth, is_closed}
use Rattle.paper_nests.specs.Gaps.{is_gap}
use Rattle.paper_nests.specs.Ring.{one_loop}
use Rattle.paper_nests.specs.Valid.{is_shape, is_of_kind, names_points, runs_right, is_dep, are_deps, is_bar, are_bars}
use Rattle.paper_nests.specs.Valid.{are_flags, is_valid}
use Rattle.paper_nests.proofs.Deps.{Valid, valid_is}
use Rattle.paper_lines.specs.Lines.{lines_of, line_text}
use Rattle.paper_lines.proofs.Spelling.{are_bytes, line_first, digits_good, frame_digits}
use Rattle.paper_texts.specs.Pieces.{Piece, Point, Depend, Bar, Flagged, is_point, piece_frame, is_past}
use Rattle.paper_texts.specs.Pieces.{point_fault, piece_fault, with_piece, pieces_text, no_first, is_ordered, made_from, made_of}
use Rattle.paper_texts.specs.NestTexts.{frame_fault, with_frame, got, read_lines, read_nest, Spells}
use Rattle.paper_texts.specs.NestTexts.{point_pieces, dep_pieces, bar_pieces, pieces_of, nest_text}
use Rattle.paper_texts.proofs.BlankPaper.{lines_read}
use Rattle.paper_texts.proofs.Shapes.{Follows, shape_follows, shape_closed}
use Rattle.paper_texts.proofs.Pieces.{is_piece, are_pieces, piece_back, piece_long, dep_sort, dep_bytes, bar_bytes, point_bytes}

-- ---- what pieces make

-- m has all that n has, and more behind it
pub record Grown (n m : Nest) : Type 0 where
  pub more_points : List ℕ
  pub points_are : m.points ≡ n.points ++ more_points
  pub more_deps : List Dep
  pub deps_are : m.deps ≡ n.deps ++ more_deps
  pub more_bars : List ℕ
  pub bars_are : m.barred ≡ n.barred ++ more_bars

pub grown : (n : Nest) (xs : List Piece) → Grown n (made_from n xs)
grown n [] =
    record {
      more_points = [];
      points_are = sym (append-nil n.points);
      more_deps = [];
      deps_are = sym (append-nil n.deps);
      more_bars = [];
      bars_are = sym (append-nil n.barred);
    }
grown n (Point k ∷ xs) =
    let g = grown (with_point n k) xs in
    record {
      more_points = k ∷ g.more_points;
      points_are = g.points_are ∙ append_assoc n.points (k ∷ []) g.more_points;
      more_deps = g.more_deps;
      deps_are = g.deps_are;
      more_bars = g.more_bars;
      bars_are = g.bars_are;
    }
grown n (Flagged ∷ xs) =
    let g = grown (with_flagged n) xs in
    record {
      more_points = DO ∷ g.more_points;
      points_are = g.points_are ∙ append_assoc n.points (DO ∷ []) g.more_points;
      more_deps = g.more_deps;
      deps_are = g.deps_are;
      more_bars = g.more_bars;
      bars_are = g.bars_are;
    }
grown n (Depend e ∷ xs) =
    let g = grown (with_dep n e) xs in
    record {
      more_points = g.more_points;
      points_are = g.points_are;
      more_deps = e ∷ g.more_deps;
      deps_are = g.deps_are ∙ append_assoc n.deps (e ∷ []) g.more_deps;
      more_bars = g.more_bars;
      bars_are = g.bars_are;
    }
grown n (Bar b ∷ xs) =
    let g = grown (with_bar n b) xs in
    record {
      more_points = g.more_points;
      points_are = g.points_are;
      more_deps = g.more_deps;
      deps_are = g.deps_are;
      more_bars = b ∷ g.more_bars;
      bars_are = g.bars_are ∙ append_assoc n.barred (b ∷ []) g.more_bars;
    }

-- without a point among them the points stay
points_stay : (n : Nest) (xs : List Piece) → no_first xs ≡ true → (made_from n xs).points ≡ n.points
points_stay n [] h = refl
points_stay n (Point k ∷ xs) h = never h
points_stay n (Flagged ∷ xs) h = never h
points_stay n (Depend e ∷ xs) h = points_stay (with_dep n e) xs h
points_stay n (Bar g ∷ xs) h = points_stay (with_bar n g) xs h

-- ---- no fault

-- a point that follows others in a shape
point_none
    : (ps : List ℕ) (p : ℕ)
    → length ps < POINTS
    → Follows ps p
    → first_of
    (when (is_closed ps || (eqb (length ps) 0 && not (eqb p DO))) 4)
    (when (leb POINTS (length ps) || (eqb p DO && leb DEPTH (depth ps))) 5)
    ≡ 0
point_none [] p few f = rw (eq-eqb p DO (f.first refl))
point_none (q ∷ ps) p few f = go (eqb p DO) refl
  where
    within : eqb (depth (q ∷ ps)) 0 ≡ false
    within = ne_eqb (depth (q ∷ ps)) 0 (λ z. omega (arith, f.inside (omega arith)))

    more : leb 1 (length (q ∷ ps)) ≡ true
    more = le-leb 1 (length (q ∷ ps)) (omega arith)

    later : eqb (length (q ∷ ps)) 0 ≡ false
    later = ne_eqb (length (q ∷ ps)) 0 (omega arith)

    room : leb POINTS (length (q ∷ ps)) ≡ false
    room = lt-leb POINTS (length (q ∷ ps)) few

    go
        : (t : Bool)
        → eqb p DO ≡ t
        → first_of
        (when (is_closed (q ∷ ps) || (eqb (length (q ∷ ps)) 0 && not t)) 4)
        (when (leb POINTS (length (q ∷ ps)) || (t && leb DEPTH (depth (q ∷ ps)))) 5)
        ≡ 0
    go true e = rw (within, more, later, room, lt-leb DEPTH (depth (q ∷ ps)) (f.shallow (eqb-true p DO e)))
    go false e = rw (within, more, later, room)

deps_at : (ps : List ℕ) (ds : List Dep) (e : Dep) (r : List Dep) → are_deps ps (ds ++ (e ∷ r)) ≡ true → is_dep ps e ≡ true
deps_at ps [] e r h = (and_true (is_dep ps e) (are_deps ps r) h).0
deps_at ps (x ∷ ds) e r h = deps_at ps ds e r (and_true (is_dep ps x) (are_deps ps (ds ++ (e ∷ r))) h).1

bars_at : (ps bs : List ℕ) (g : ℕ) (r : List ℕ) → are_bars ps (bs ++ (g ∷ r)) ≡ true → is_bar ps g ≡ true
bars_at ps [] g r h = (and_true (is_bar ps g) (are_bars ps r) h).0
bars_at ps (b ∷ bs) g r h = bars_at ps bs g r (and_true (is_bar ps b) (are_bars ps (bs ++ (g ∷ r))) h).1

-- the piece may stand after n: it is of a kind, its numbers are bytes, and it has no fault
pub record Fitting (n : Nest) (x : Piece) : Type 0 where
  pub kind : is_piece x ≡ true
  pub bytes : are_bytes (piece_frame x) ≡ true
  pub none : piece_fault n x ≡ 0

-- pieces in their order after n, where points come no more once there is something else
pub record InOrder (n : Nest) (xs : List Piece) : Type 0 where
  pub ordered : is_ordered xs ≡ true
  pub late : is_past n ≡ true → no_first xs ≡ true

-- a point that stands next in a valid nest
next_point
    : (n m : Nest) (k : ℕ) (more : List ℕ)
    → is_past n ≡ false
    → m.points ≡ (n.points ++ (k ∷ [])) ++ more
    → Valid m
    → (is_point k ≡ true) × (point_fault n k ≡ 0)
next_point n m k more early is v =
    let all : m.points ≡ n.points ++ (k ∷ more) = is ∙ append_assoc n.points (k ∷ []) more in
    let shape : is_shape (n.points ++ (k ∷ more)) ≡ true = rw all at v.shape in
    let f = shape_follows n.points k more shape in
    let long = ap length all ∙ length-append n.points (k ∷ more) in
    let few : length n.points < POINTS = omega (arith, long, v.few_points) in
    (f.point, rw early (point_none n.points k few f))

module _ (n : Nest) (k : ℕ) (xs : List Piece) (o : InOrder n (Point k ∷ xs)) where
  pub point_early : is_past n ≡ false
  point_early = false_by (λ z. never (o.late z))

  point_fitting : Valid (made_from (with_point n k) xs) → Fitting n (Point k)
  point_fitting v =
      let g = grown (with_point n k) xs in
      let f = next_point n (made_from (with_point n k) xs) k g.more_points point_early g.points_are v in
      record { kind = f.0; bytes = point_bytes k f.0; none = f.1 }

  point_rest : InOrder (with_point n k) xs
  point_rest = record { ordered = o.ordered; late = λ z. never (o.late z) }

module _ (n : Nest) (xs : List Piece) (o : InOrder n (Flagged ∷ xs)) where
  pub flagged_early : is_past n ≡ false
  flagged_early = false_by (λ z. never (o.late z))

  flagged_fitting : Valid (made_from (with_flagged n) xs) → Fitting n Flagged
  flagged_fitting v =
      let g = grown (with_flagged n) xs in
      let f = next_point n (made_from (with_flagged n) xs) DO g.more_points flagged_early g.points_are v in
      record { kind = refl; bytes = refl; none = f.1 }

  flagged_rest : InOrder (with_flagged n) xs
  flagged_rest = record { ordered = o.ordered; late = λ z. never (o.late z) }

module _ (n : Nest) (e : Dep) (xs : List Piece) (o : InOrder n (Depend e ∷ xs)) where
  dep_last : no_first xs ≡ true
  dep_last = (and_true (no_first xs) (is_ordered xs) o.ordered).0

  dep_fitting : Valid (made_from (with_dep n e) xs) → Fitting n (Depend e)
  dep_fitting v =
      let m = made_from (with_dep n e) xs in
      let g = grown (with_dep n e) xs in
      let same : m.points ≡ n.points = points_stay (with_dep n e) xs dep_last in
      let closed : is_closed n.points ≡ true = rw same at (shape_closed m.points v.shape) in
      let all : m.deps ≡ n.deps ++ (e ∷ g.more_deps) =
      g.deps_are ∙ append_assoc n.deps (e ∷ []) g.more_deps in
      let long = ap length all ∙ length-append n.deps (e ∷ g.more_deps) in
      let few : length n.deps < DEPENDENCES = omega (arith, long, v.few_deps) in
      let room = lt-leb DEPENDENCES (length n.deps) few in
      let deps : are_deps n.points (n.deps ++ (e ∷ g.more_deps)) ≡ true = rw (same, all) at v.all-deps in
      let is = deps_at n.points n.deps e g.more_deps deps in
      let a = and_true (is_of_kind e) (names_points n.points e && runs_right n.points e) is in
      let b = and_true (names_points n.points e) (runs_right n.points e) a.1 in
      let small : length n.points ≤ POINTS = rw same at v.few_points in
      record {
        kind = a.0;
        bytes = dep_bytes n.points small (dep_sort e a.0) b.0;
        none = rw (closed, room, b.0, b.1);
      }

  dep_rest : InOrder (with_dep n e) xs
  dep_rest =
      record { ordered = (and_true (no_first xs) (is_ordered xs) o.ordered).1; late = λ z. dep_last }

module _ (n : Nest) (b : ℕ) (xs : List Piece) (o : InOrder n (Bar b ∷ xs)) where
  bar_last : no_first xs ≡ true
  bar_last = (and_true (no_first xs) (is_ordered xs) o.ordered).0

  bar_fitting : Valid (made_from (with_bar n b) xs) → Fitting n (Bar b)
  bar_fitting v =
      let m = made_from (with_bar n b) xs in
      let g = grown (with_bar n b) xs in
      let same : m.points ≡ n.points = points_stay (with_bar n b) xs bar_last in
      let closed : is_closed n.points ≡ true = rw same at (shape_closed m.points v.shape) in
      let all : m.barred ≡ n.barred ++ (b ∷ g.more_bars) =
      g.bars_are ∙ append_assoc n.barred (b ∷ []) g.more_bars in
      let long = ap length all ∙ length-append n.barred (b ∷ g.more_bars) in
      let few : length n.barred < BARS = omega (arith, long, v.few_bars) in
      let room = lt-leb BARS (length n.barred) few in
      let bars : are_bars n.points (n.barred ++ (b ∷ g.more_bars)) ≡ true = rw (same, all) at v.all_bars in
      let is = bars_at n.points n.barred b g.more_bars bars in
      let a = and_true (is_gap n.points b) (one_loop n.points) is in
      let small : length n.points ≤ POINTS = rw same at v.few_points in
      record {
        kind = refl;
        bytes = bar_bytes n.points b small a.0;
        none = rw (closed, room, a.0, a.1);
      }

  bar_rest : InOrder (with_bar n b) xs
  bar_rest =
      record { ordered = (and_true (no_first xs) (is_ordered xs) o.ordered).1; late = λ z. bar_last }

-- a piece of a valid nest's text fits, and the rest is in order behind it
pub fitting
    : (n : Nest) (x : Piece) (xs : List Piece)
    → InOrder n (x ∷ xs)
    → is_valid (made_from n (x ∷ xs)) ≡ true
    → Fitting n x
fitting n (Point k) xs o v = point_fitting n k xs o (valid_is (made_from (with_point n k) xs) v)
fitting n Flagged xs o v = flagged_fitting n xs o (valid_is (made_from (with_flagged n) xs) v)
fitting n (Depend e) xs o v = dep_fitting n e xs o (valid_is (made_from (with_dep n e) xs) v)
fitting n (Bar g) xs o v = bar_fitting n g xs o (valid_is (made_from (with_bar n g) xs) v)

pub order_rest : (n : Nest) (x : Piece) (xs : List Piece) → InOrder n (x ∷ xs) → InOrder (with_piece n x) xs
order_rest n (Point k) xs o = point_rest n k xs o
order_rest n Flagged xs o = flagged_rest n xs o
order_rest n (Depend e) xs o = dep_rest n e xs o
order_rest n (Bar g) xs o = bar_rest n g xs o

-- ---- texts

-- one line of a nest text
pub read_frame
    : (k : ℕ) (n : Nest) (f s : List ℕ)
    → are_bytes f ≡ true
    → leb 1 (length f) ≡ true
    → frame_fault n f ≡ 0
    → read_lines k n (lines_of (line_text f ++ s)) ≡ read_lines (suc k) (with_frame n f) (lines_of s)
unfolding read_lines
read_frame k n f s h w none = rw (line_first f s h) (rw (digits_good f h w, frame_digits f h, none))

read_piece
    : (k : ℕ) (n : Nest) (x : Piece) (s : List ℕ)
    → Fitting n x
    → read_lines k n (lines_of (line_text (piece_frame x) ++ s)) ≡ read_lines (suc k) (with_piece n x) (lines_of s)
read_piece k n x s f =
    let back = piece_back x f.kind in
    let none : frame_fault n (piece_frame x) ≡ 0 = rw back f.none in
    let made : with_frame n (piece_frame x) ≡ with_piece n x = rw back in
    read_frame k n (piece_frame x) s f.bytes (piece_long x f.kind) none
    ∙ ap (λ (m : Nest). read_lines (suc k) m (lines_of s)) made

-- ordered pieces that make a valid nest are read to the end
pub pieces_read
    : (k : ℕ) (n : Nest) (xs : List Piece)
    → InOrder n xs
    → is_valid (made_from n xs) ≡ true
    → read_lines k n (lines_of (pieces_text xs)) ≡ got 0 0 (made_from n xs)
unfolding pieces_text lines_of read_lines
pieces_read k n [] o v = rw (shape_closed n.points (valid_is n v).shape)
pieces_read k n (x ∷ xs) o v =
    read_piece k n x (pieces_text xs) (fitting n x xs o v)
    ∙ pieces_read (suc k) (with_piece n x) xs (order_rest n x xs o) v

-- and each of them is of a kind, its numbers bytes
pub pieces_good
    : (n : Nest) (xs : List Piece) → InOrder n xs → is_valid (made_from n xs) ≡ true → are_pieces xs ≡ true
pieces_good n [] o v = refl
pieces_good n (x ∷ xs) o v =
    let f = fitting n x xs o v in
    and_intro (and_intro f.kind f.bytes) (pieces_good (with_piece n x) xs (order_rest n x xs o) v)

-- at the start nothing is past
pub start_order : (xs : List Piece) → is_ordered xs ≡ true → InOrder empty xs
start_order xs o = record { ordered = o; late = λ z. never z }

-- a text of no byte has no pieces, and they make no valid nest
some_text : (xs : List Piece) → is_valid (made_of xs) ≡ true → 0 < length (pieces_text xs)
unfolding pieces_text
some_text [] v = never v
some_text (x ∷ xs) v =
    let text = line_text (piece_frame x) in
    omega (arith, length-append text (pieces_text xs), line_some (piece_frame x))
  where
    line_some : (f : List ℕ) → 0 < length (line_text f)
    line_some [] = omega arith
    line_some (b ∷ f) = omega arith

pub spells_read : (s : List ℕ) (n : Nest) → Spells s n → read_nest s ≡ got 0 0 n
spells_read s n h =
    let xs = h.pieces in
    let valid : is_valid (made_of xs) ≡ true = rw h.nest_is at h.valid in
    rw (h.text, h.nest_is)
    (lines_read (pieces_text xs) (some_text xs valid) ∙ pieces_read 1 empty xs (start_order xs h.ordered) valid)

-- ---- the spelling of a nest

bars_first : (bs : List ℕ) → (no_first (bar_pieces bs) ≡ true) × (is_ordered (bar_pieces bs) ≡ true)
unfolding bar_pieces
bars_first [] = (refl, refl)
bars_first (b ∷ bs) = let r = bars_first bs in (r.0, and_intro r.0 r.1)

deps_first
    : (ds : List Dep) (bs : List ℕ)
    → (no_first (dep_pieces ds ++ bar_pieces bs) ≡ true) × (is_ordered (dep_pieces ds ++ bar_pieces bs) ≡ true)
unfolding dep_pieces
deps_first [] bs = bars_first bs
deps_first (e ∷ ds) bs = let r = deps_first ds bs in (r.0, and_intro r.0 r.1)

points_first
    : (i : ℕ) (ps fs : List ℕ) (ds : List Dep) (bs : List ℕ)
    → is_ordered (point_pieces i ps fs ++ (dep_pieces ds ++ bar_pieces bs)) ≡ true
unfolding point_pieces
points_first i [] fs ds bs = (deps_first ds bs).1
points_first i (p ∷ ps) [] ds bs = points_first (suc i) ps [] ds bs
points_first i (p ∷ ps) (f ∷ fs) ds bs =
    pick_by
    (λ (xs : List Piece). is_ordered (xs ++ (dep_pieces ds ++ bar_pieces bs)) ≡ true)
    {t = eqb i f}
    {a = Flagged ∷ point_pieces (suc i) ps fs}
    {b = Point p ∷ point_pieces (suc i) ps (f ∷ fs)}
    (λ z. points_first (suc i) ps fs ds bs)
    (λ z. points_first (suc i) ps (f ∷ fs) ds bs)

-- what is made of the pieces of each kind
abbrev bars_on : Nest → List ℕ → Nest
bars_on n bs =
    record { points = n.points; deps = n.deps; barred = n.barred ++ bs; flagged = n.flagged }

bars_made : (n : Nest) (bs : List ℕ) → made_from n (bar_pieces bs) ≡ bars_on n bs
unfolding bar_pieces
bars_made n [] = rw (append-nil n.barred)
bars_made n (b ∷ bs) = bars_made (with_bar n b) bs ∙ rw (append_assoc n.barred (b ∷ []) bs)

abbrev deps_on : Nest → List Dep → Nest
deps_on n ds =
    record { points = n.points; deps = n.deps ++ ds; barred = n.barred; flagged = n.flagged }

deps_made
    : (n : Nest) (ds : List Dep) (bs : List ℕ) → made_from n (dep_pieces ds ++ bar_pieces bs) ≡ bars_on (deps_on n ds) bs
unfolding dep_pieces
deps_made n [] bs = bars_made n bs ∙ rw (append-nil n.deps)
deps_made n (e ∷ ds) bs = deps_made (with_dep n e) ds bs ∙ rw (append_assoc n.deps (e ∷ []) ds)

abbrev points_on : Nest → List ℕ → List ℕ → Nest
points_on n ps fs =
    record { points = n.points ++ ps; deps = n.deps; barred = n.barred; flagged = n.flagged ++ fs }

next_at : (ps : List ℕ) (p i : ℕ) → i ≡ length ps → suc i ≡ length (ps ++ (p ∷ []))
next_at ps p i at = omega (arith, at, length-append ps (p ∷ []))

point_on : (n : Nest) (p : ℕ) (ps fs : List ℕ) → points_on (with_point n p) ps fs ≡ points_on n (p ∷ ps) fs
point_on n p ps fs = rw (append_assoc n.points (p ∷ []) ps)

flagged_on
    : (n : Nest) (i p : ℕ) (ps fs : List ℕ)
    → i ≡ length n.points
    → p ≡ DO
    → points_on (with_flagged n) ps fs ≡ points_on n (p ∷ ps) (i ∷ fs)
flagged_on n i p ps fs at is =
    rw
    (at, is, append_assoc n.points (DO ∷ []) ps, append_assoc n.flagged (length n.points ∷ []) fs)

module _ (ds : List Dep) (bs : List ℕ) where
  abbrev others : List Piece
  others = dep_pieces ds ++ bar_pieces bs

  abbrev Points-made : Nest → ℕ → List ℕ → List ℕ → Type 0
  Points-made n i ps fs = made_from n (point_pieces i ps fs ++ others) ≡ bars_on (deps_on (points_on n ps fs) ds) bs

  points_made
      : (n : Nest) (i : ℕ) (ps fs : List ℕ)
      → i ≡ length n.points
      → are_flags i ps fs ≡ true
      → Points-made n i ps fs
  unfolding point_pieces
  points_made n i [] [] at h = deps_made n ds bs ∙ rw (append-nil n.points, append-nil n.flagged)
  points_made n i [] (f ∷ fs) at h = never h
  points_made n i (p ∷ ps) [] at h =
      points_made (with_point n p) (suc i) ps [] (next_at n.points p i at) refl
      ∙ ap (λ (m : Nest). bars_on (deps_on m ds) bs) (point_on n p ps [])
  points_made n i (p ∷ ps) (f ∷ fs) at h =
      pick_by
      (λ (xs : List Piece). made_from n (xs ++ others) ≡ bars_on (deps_on (points_on n (p ∷ ps) (f ∷ fs)) ds) bs)
      (λ z.
      let a = and_true (eqb p DO) (are_flags (suc i) ps fs) (rw z at h) in
      let is : f ≡ length n.points = sym (eqb-true i f z) ∙ at in
      points_made (with_flagged n) (suc i) ps fs (next_at n.points DO i at) a.1
      ∙ ap (λ (m : Nest). bars_on (deps_on m ds) bs) (flagged_on n f p ps fs is (eqb-true p DO a.0)))
      (λ z.
      points_made (with_point n p) (suc i) ps (f ∷ fs) (next_at n.points p i at) (rw z at h)
      ∙ ap (λ (m : Nest). bars_on (deps_on m ds) bs) (point_on n p ps (f ∷ fs)))

pub nest_made : (n : Nest) → is_valid n ≡ true → made_of (pieces_of n) ≡ n
nest_made n v =
    points_made n.deps n.barred empty 0 n.points n.flagged refl (valid_is n v).all_flags

-- the spelling of a valid nest spells it, so it is accepted with that nest
pub nest_spells : (n : Nest) → is_valid n ≡ true → Spells (nest_text n) n
unfolding nest_text
nest_spells n v =
    record {
      pieces = pieces_of n;
      ordered = points_first 0 n.points n.flagged n.deps n.barred;
      text = refl;
      nest_is = sym (nest_made n v);
      valid = v;
    }

pub valid_accepted : (n : Nest) → is_valid n ≡ true → read_nest (nest_text n) ≡ got 0 0 n
valid_accepted n v = spells_read (nest_text n) n (nest_spells n v)
