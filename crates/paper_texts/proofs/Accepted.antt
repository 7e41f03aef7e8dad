-- A nest text is accepted if and only if it breaks no rule: it is accepted with a nest exactly where it is empty and
-- the nest is the blank paper, or it is the text of ordered pieces that make the nest, and the nest is valid. While
-- lines are read without a fault, the nest so far has points that begin a shape, and valid dependences and barred gaps
-- only after all points.
-- Main statements: `accepted_spelling`, `one_list`, `accepted_valid`.
use mathlib.Core.Path.{◌≡◌, refl, sym, ap, ◌∙◌}
use mathlib.Core.Bool.{Bool, true, false, ◌&&◌, ◌||◌, not}
use mathlib.Core.Logic.{◌↔◌, inl, inr}
use mathlib.Core.List.{List, [], ◌∷◌, ◌++◌}
use Prim.Native.Nat.{ℕ, suc, ◌≤◌, ◌<◌}
use native.Mathlib.Omega.{arith}
use lib.Dec.{eqb, leb}
use lib.ListN.{length, length-append}
use borrow.Author.Tests.{leb-false, le-leb, eqb-true, eqb-false, eq-eqb, not-false}
use Rattle.laws.specs.Choice.{pick, when, first_of}
use Rattle.laws.proofs.Tests.{never_both, lt_by, and_intro, and_true, or_false, or_left, or_right}
use Rattle.laws.proofs.Choices.{first_zero, when_zero, unless_zero}
use Rattle.paper_nests.specs.Kinds.{DO, POINTS, DEPTH, DEPENDENCES, BARS}
use Rattle.paper_nests.specs.Nests.{Dep, Nest, empty, with_point, with_dep, with_bar, with_flagged}
use Rattle.paper_nests.specs.Loops.{depth, is_closed}
use Rattle.paper_nests.specs.Gaps.{is_gap}
use Rattle.paper_nests.specs.Ring.{one_loop}
use Rattle.paper_nests.specs.Valid.{is_of_kind, names_points, runs_right, is_dep, are_deps, is_bar, are_bars, are_flags, is_valid}
use Rattle.paper_nests.specs.Valid.{dep_fault, bar_fault}
use Rattle.paper_nests.proofs.Deps.{Valid, is-valid}
use Rattle.paper_nests.proofs.Flags.{flags_more, flags_flagged}
use Rattle.paper_lines.specs.Lines.{Line, lines_of, is_good, frame_of}
use Rattle.paper_lines.proofs.Spelling.{lines_text, lines-text, good_bytes}
use Rattle.paper_texts.specs.Pieces.{Piece, Point, Depend, Bar, Flagged, Told, is_point, piece_of, piece_frame, is_past}
use Rattle.paper_texts.specs.Pieces.{point_fault, dependence_fault, barred_fault, piece_fault, told_fault, with_piece, with_told}
use Rattle.paper_texts.specs.Pieces.{pieces_text, made_from}
use Rattle.paper_texts.specs.NestTexts.{frame_fault, with_frame, line_fault, Got, got, read_lines, read_nest}
use Rattle.paper_texts.specs.NestTexts.{Spells, Means}
use Rattle.paper_texts.proofs.BlankPaper.{blank_read}
use Rattle.paper_texts.proofs.Shapes.{Begins, begins_none, begins_first, begins_more, begins_closed}
use Rattle.paper_texts.proofs.Pieces.{is_piece, are_pieces, told_by, one_pieces}
use Rattle.paper_texts.proofs.Refusals.{accepted_got}
use Rattle.paper_texts.proofs.Spelled.{InOrder, start_order, pieces_good}
use Rattle.paper_texts.proofs.Spelled.{spells_read}

-- a nest partly read
pub record Begun (n : Nest) : Type 0 where
  pub shape : Begins n.points
  pub few : length n.points ≤ POINTS
  pub many : length n.deps ≤ DEPENDENCES
  pub deps : are_deps n.points n.deps ≡ true
  pub few_bars : length n.barred ≤ BARS
  pub bars : are_bars n.points n.barred ≡ true
  pub flags : are_flags 0 n.points n.flagged ≡ true

pub begun_empty : Begun empty
begun_empty =
    record {
      shape = begins_none;
      few = omega arith;
      many = omega arith;
      deps = refl;
      few_bars = omega arith;
      bars = refl;
      flags = refl;
    }

-- a point without a fault goes on with a shape
point_begins
    : (ps : List ℕ) (p : ℕ)
    → is_closed ps ≡ false
    → (eqb (length ps) 0 && not (eqb p DO)) ≡ false
    → (eqb p DO && leb DEPTH (depth ps)) ≡ false
    → Begins ps
    → is_point p ≡ true
    → Begins (ps ++ (p ∷ []))
point_begins [] p more first deep b point =
    let is = eqb-true p DO (not-false (eqb p DO) first) in
    rw is begins_first
point_begins (q ∷ ps) p more first deep b point = begins_more (q ∷ ps) p b (omega arith) inside point shallow
  where
    inside : 1 ≤ depth (q ∷ ps)
    inside =
        lt_by
        (λ (z : depth (q ∷ ps) ≤ 0). never_both
        (and_intro (le-leb 1 (suc (length ps)) (omega arith)) (eq-eqb (depth (q ∷ ps)) 0 (omega arith)))
        more)

    shallow : p ≡ DO → depth (q ∷ ps) < DEPTH
    shallow is = leb-false DEPTH (depth (q ∷ ps)) (rw (eq-eqb p DO is) at deep)

-- one piece more: the nest is still partly read
no_deps : (ps : List ℕ) (ds : List Dep) → leb 1 (length ds) ≡ false → are_deps ps ds ≡ true
no_deps ps [] h = refl
no_deps ps (e ∷ ds) h = absurd (omega (arith, leb-false 1 (suc (length ds)) h))

no_bars : (ps bs : List ℕ) → leb 1 (length bs) ≡ false → are_bars ps bs ≡ true
no_bars ps [] h = refl
no_bars ps (b ∷ bs) h = absurd (omega (arith, leb-false 1 (suc (length bs)) h))

point_begun : (n : Nest) (p : ℕ) → is_point p ≡ true → Begun n → point_fault n p ≡ 0 → Begun (with_point n p)
point_begun n p point b h =
    let ps = n.points in
    let closed = is_closed ps in
    let early = eqb (length ps) 0 && not (eqb p DO) in
    let full = leb POINTS (length ps) in
    let deep = eqb p DO && leb DEPTH (depth ps) in
    let place = first_of (when (closed || early) 4) (when (full || deep) 5) in
    let z = first_zero (when (is_past n) 3) place h in
    let a = first_zero (when (closed || early) 4) (when (full || deep) 5) z.1 in
    let x = or_false closed early (when_zero (closed || early) 3 a.0) in
    let y = or_false full deep (when_zero (full || deep) 4 a.1) in
    let room = leb-false POINTS (length ps) y.0 in
    let long = length-append ps (p ∷ []) in
    let none = or_false (leb 1 (length n.deps)) (leb 1 (length n.barred)) (when_zero (is_past n) 2 z.0) in
    record {
      shape = point_begins ps p x.0 x.1 y.1 b.shape point;
      few = omega arith;
      many = b.many;
      deps = no_deps (ps ++ (p ∷ [])) n.deps none.0;
      few_bars = b.few_bars;
      bars = no_bars (ps ++ (p ∷ [])) n.barred none.1;
      flags = flags_more ps p n.flagged b.flags;
    }

flagged_begun : (n : Nest) → Begun n → point_fault n DO ≡ 0 → Begun (with_flagged n)
flagged_begun n b h =
    let p = point_begun n DO refl b h in
    record {
      shape = p.shape;
      few = p.few;
      many = p.many;
      deps = p.deps;
      few_bars = p.few_bars;
      bars = p.bars;
      flags = flags_flagged n.points n.flagged b.flags;
    }

deps_more
    : (ps : List ℕ) (ds : List Dep) (e : Dep)
    → are_deps ps ds ≡ true
    → is_dep ps e ≡ true
    → are_deps ps (ds ++ (e ∷ [])) ≡ true
deps_more ps [] e h w = and_intro w refl
deps_more ps (x ∷ ds) e h w =
    let z = and_true (is_dep ps x) (are_deps ps ds) h in
    and_intro z.0 (deps_more ps ds e z.1 w)

dep_begun : (n : Nest) (e : Dep) → is_of_kind e ≡ true → Begun n → dependence_fault n e ≡ 0 → Begun (with_dep n e)
dep_begun n e kind b h =
    let ps = n.points in
    let ds = n.deps in
    let full = when (leb DEPENDENCES (length ds)) 5 in
    let a = first_zero (when (not (is_closed ps)) 4) (first_of full (dep_fault ps e)) h in
    let x = first_zero full (dep_fault ps e) a.1 in
    let y = first_zero (when (not (names_points ps e)) 6) (when (not (runs_right ps e)) 7) x.1 in
    let room = leb-false DEPENDENCES (length ds) (when_zero (leb DEPENDENCES (length ds)) 4 x.0) in
    let names = unless_zero (names_points ps e) 5 y.0 in
    let right = unless_zero (runs_right ps e) 6 y.1 in
    let long = length-append ds (e ∷ []) in
    record {
      shape = b.shape;
      few = b.few;
      many = omega arith;
      deps = deps_more ps ds e b.deps (and_intro kind (and_intro names right));
      few_bars = b.few_bars;
      bars = b.bars;
      flags = b.flags;
    }

bars_more
    : (ps bs : List ℕ) (g : ℕ)
    → are_bars ps bs ≡ true
    → is_bar ps g ≡ true
    → are_bars ps (bs ++ (g ∷ [])) ≡ true
bars_more ps [] g h w = and_intro w refl
bars_more ps (b ∷ bs) g h w =
    let z = and_true (is_bar ps b) (are_bars ps bs) h in
    and_intro z.0 (bars_more ps bs g z.1 w)

bar_begun : (n : Nest) (g : ℕ) → Begun n → barred_fault n g ≡ 0 → Begun (with_bar n g)
bar_begun n g b h =
    let ps = n.points in
    let bs = n.barred in
    let full = when (leb BARS (length bs)) 5 in
    let a = first_zero (when (not (is_closed ps)) 4) (first_of full (bar_fault ps g)) h in
    let x = first_zero full (bar_fault ps g) a.1 in
    let y = first_zero (when (not (is_gap ps g)) 8) (when (not (one_loop ps)) 14) x.1 in
    let room = leb-false BARS (length bs) (when_zero (leb BARS (length bs)) 4 x.0) in
    let gap = unless_zero (is_gap ps g) 7 y.0 in
    let one = unless_zero (one_loop ps) 13 y.1 in
    let long = length-append bs (g ∷ []) in
    record {
      shape = b.shape;
      few = b.few;
      many = b.many;
      deps = b.deps;
      few_bars = omega arith;
      bars = bars_more ps bs g b.bars (and_intro gap one);
      flags = b.flags;
    }

piece_begun : (n : Nest) (x : Piece) → is_piece x ≡ true → Begun n → piece_fault n x ≡ 0 → Begun (with_piece n x)
piece_begun n (Point k) g b h = point_begun n k g b h
piece_begun n (Depend e) g b h = dep_begun n e g b h
piece_begun n (Bar i) g b h = bar_begun n i b h
piece_begun n Flagged g b h = flagged_begun n b h

-- a piece without a fault goes to the front of those that are in order behind it
dep_past : (n : Nest) (e : Dep) → is_past (with_dep n e) ≡ true
dep_past n e =
    let long = length-append n.deps (e ∷ []) in
    or_left (leb 1 (length n.barred)) (le-leb 1 (length (n.deps ++ (e ∷ []))) (omega arith))

bar_past : (n : Nest) (g : ℕ) → is_past (with_bar n g) ≡ true
bar_past n g =
    let long = length-append n.barred (g ∷ []) in
    or_right (leb 1 (length n.deps)) (le-leb 1 (length (n.barred ++ (g ∷ []))) (omega arith))

point_late : (n : Nest) (p : ℕ) → point_fault n p ≡ 0 → is_past n ≡ true → ⊥
point_late n p h z =
    let a = first_zero (when (is_past n) 3) _ h in
    never_both z (when_zero (is_past n) 2 a.0)

front_order
    : (n : Nest) (x : Piece) (xs : List Piece) → piece_fault n x ≡ 0 → InOrder (with_piece n x) xs → InOrder n (x ∷ xs)
front_order n (Point k) xs h o = record { ordered = o.ordered; late = λ z. absurd (point_late n k h z) }
front_order n Flagged xs h o = record { ordered = o.ordered; late = λ z. absurd (point_late n DO h z) }
front_order n (Depend e) xs h o =
    let rest = o.late (dep_past n e) in
    record { ordered = and_intro rest o.ordered; late = λ z. rest }
front_order n (Bar g) xs h o =
    let rest = o.late (bar_past n g) in
    record { ordered = and_intro rest o.ordered; late = λ z. rest }

-- the pieces of the lines after a nest partly read
record Pieced (n : Nest) (ls : List Line) (m : Nest) : Type 0 where
  pieces : List Piece
  order : InOrder n pieces
  text : lines_text ls ≡ pieces_text pieces
  nest_is : m ≡ made_from n pieces
  valid : is_valid m ≡ true

module _ (k : ℕ) (n : Nest) (l : Line) (ls : List Line) (m : Nest) (b : Begun n) (good : is_good l ≡ true) where
  -- the line's piece with those of the lines after it
  abbrev Goes_on : Told → Type 0
  Goes_on t =
      told_fault n t ≡ 0 →
      read_lines (suc k) (with_told n t) ls ≡ got 0 0 m →
      (Begun (with_told n t) → read_lines (suc k) (with_told n t) ls ≡ got 0 0 m → Pieced (with_told n t) ls m) →
      Pieced n (l ∷ ls) m

  piece_on
      : (x : Piece) → is_piece x ≡ true → frame_of l.bytes ≡ piece_frame x → piece_fault n x ≡ 0 →
      Pieced (with_piece n x) ls m → Pieced n (l ∷ ls) m
  unfolding pieces_text
  piece_on x g same none r =
      record {
        pieces = x ∷ r.pieces;
        order = front_order n x r.pieces none r.order;
        text = rw (good_bytes l good, same, r.text);
        nest_is = r.nest_is;
        valid = r.valid;
      }

  goes-on : Goes_on (piece_of (frame_of l.bytes))
  goes-on =
      told_by Goes_on (frame_of l.bytes)
      (λ x g same none q rest. piece_on x g same none (rest (piece_begun n x g b none) q))
      (λ none. absurd (omega (arith, none)))

lines_accepted
    : (k : ℕ) (n : Nest) (ls : List Line) (m : Nest)
    → Begun n
    → read_lines k n ls ≡ got 0 0 m
    → Pieced n ls m
unfolding read_lines pieces_text
lines_accepted k n [] m b h = go (is_closed n.points) refl h
  where
    go
        : (t : Bool)
        → is_closed n.points ≡ t
        → pick t (got 0 0 n) (got 4 k empty) ≡ got 0 0 m
        → Pieced n [] m
    go true e q =
        let same : n ≡ m = ap (λ (g : Got). g.nest_is) q in
        let shape = begins_closed n.points b.shape e in
        let valid : Valid n =
        record {
          shape = shape;
          few_points = b.few;
          few_deps = b.many;
          all-deps = b.deps;
          few_bars = b.few_bars;
          all_bars = b.bars;
          all_flags = b.flags;
        } in
        record {
          pieces = [];
          order = record { ordered = refl; late = λ z. refl };
          text = refl;
          nest_is = sym same;
          valid = rw (← same) (is-valid n valid);
        }
    go false e q = absurd (omega (arith, ap (λ (g : Got). g.number) q))
lines_accepted k n (l ∷ ls) m b h =
    go (eqb (line_fault n l) 0) refl h (lines_accepted (suc k) (with_frame n (frame_of l.bytes)) ls m)
  where
    go
        : (t : Bool)
        → eqb (line_fault n l) 0 ≡ t
        → pick t (read_lines (suc k) (with_frame n (frame_of l.bytes)) ls) (got (line_fault n l) k empty) ≡ got 0 0 m
        → (Begun (with_frame n (frame_of l.bytes))
        → read_lines (suc k) (with_frame n (frame_of l.bytes)) ls ≡ got 0 0 m
        → Pieced (with_frame n (frame_of l.bytes)) ls m)
        → Pieced n (l ∷ ls) m
    go true e q rest =
        let none = eqb-true (line_fault n l) 0 e in
        let a = first_zero (when (not (is_good l)) 1) (frame_fault n (frame_of l.bytes)) none in
        goes-on k n l ls m b (unless_zero (is_good l) 0 a.0) a.1 q rest
    go false e q rest = absurd (eqb-false (line_fault n l) 0 e (ap (λ (g : Got). g.number) q))

pub text_accepted : (s : List ℕ) (n : Nest) → read_nest s ≡ got 0 0 n → Means s n
unfolding read_nest
text_accepted [] n h = inl (refl, sym (ap (λ (g : Got). g.nest_is) h))
text_accepted (b ∷ s) n h =
    let r = lines_accepted 1 empty (lines_of (b ∷ s)) n begun_empty h in
    inr (record {
      pieces = r.pieces;
      ordered = r.order.ordered;
      text = sym (lines-text (b ∷ s)) ∙ r.text;
      nest_is = r.nest_is;
      valid = r.valid;
    })

pub meaning_accepted : (s : List ℕ) (n : Nest) → Means s n → read_nest s ≡ got 0 0 n
meaning_accepted s n (inl e) = rw (e.0, e.1) (blank_read [] refl)
meaning_accepted s n (inr h) = spells_read s n h

-- demand 2: a text is accepted exactly if it spells a valid nest, the one that is read, or is empty and the nest is
-- 01, 02
pub accepted_spelling : (s : List ℕ) (n : Nest) → (read_nest s ≡ got 0 0 n) ↔ Means s n
accepted_spelling s n = (text_accepted s n, meaning_accepted s n)

-- of a text there is one list of pieces
pub one_list : (s : List ℕ) (n m : Nest) (a : Spells s n) (b : Spells s m) → a.pieces ≡ b.pieces
one_list s n m a b = one_pieces a.pieces b.pieces (good n a) (good m b) (sym a.text ∙ b.text)
  where
    good : (x : Nest) (c : Spells s x) → are_pieces c.pieces ≡ true
    good x c =
        pieces_good empty c.pieces (start_order c.pieces c.ordered) (ap is_valid (sym c.nest_is) ∙ c.valid)

-- the same of a text that is accepted, with the nest that it gives
pub accepted_means : (s : List ℕ) → (read_nest s).number ≡ 0 → Means s (read_nest s).nest_is
accepted_means s h = text_accepted s (read_nest s).nest_is (accepted_got s h)

pub accepted_valid : (s : List ℕ) → (read_nest s).number ≡ 0 → is_valid (read_nest s).nest_is ≡ true
accepted_valid s h = go (read_nest s).nest_is (accepted_means s h)
  where
    go : (n : Nest) → Means s n → is_valid n ≡ true
    go n (inl e) = rw e.1
    go n (inr e) = e.valid
