-- Texts with barred gaps that are refused: a line 13 behind a nest of several loops gets 14, the first barred gap of a
-- placement text 16.
-- Main statements: `one_frames`, `pieces_on`, `several_14`, `barred_16`.
use mathlib.Core.Path.{◌≡◌, refl, sym, ◌∙◌, ap, subst}
use mathlib.Core.Bool.{true, false}
use mathlib.Core.List.{List, [], ◌∷◌, ◌++◌}
use mathlib.Core.Logic.{inl, inr}
use Prim.Native.Nat.{ℕ, zero, suc, ◌+◌, ◌≤◌, ◌<◌}
use native.Mathlib.Omega.{arith}
use lib.Dec.{leb}
use lib.ListN.{length}
use borrow.Author.Tests.{ne_eqb, lt-ltb}
use Rattle.laws.specs.Choice.{is_in}
use Rattle.laws.proofs.Tests.{and_intro, false_by}
use Rattle.paper_nests.specs.Nests.{Nest, empty}
use Rattle.paper_nests.specs.Ring.{one_loop}
use Rattle.paper_nests.specs.Valid.{is_valid}
use Rattle.paper_nests.proofs.Bars.{bars_alone}
use Rattle.paper_nests.proofs.Deps.{valid_is}
use Rattle.paper_lines.specs.Lines.{lines_of}
use Rattle.paper_lines.proofs.Spelling.{are_bytes, frames_text, frames_of, are_frames, frames_back, line_first, digits_good}
use Rattle.paper_lines.proofs.Spelling.{frame_digits}
use Rattle.paper_texts.specs.Pieces.{Piece, piece_frame, with_piece, made_from}
use Rattle.paper_texts.specs.NestTexts as T
use Rattle.paper_texts.specs.NestTexts.{frame_fault, with_frame, got, read_lines, read_nest}
use Rattle.paper_texts.specs.PlacementTexts.{placed, place_lines, read_placement}
use Rattle.paper_texts.proofs.BlankPaper.{lines_read}
use Rattle.paper_texts.proofs.Pieces.{frames_for, piece_back, piece_long}
use Rattle.paper_texts.proofs.Shapes.{shape_closed}
use Rattle.paper_texts.proofs.Spelled.{InOrder, start_order, fitting, order_rest, read_frame, pieces_good}
use Rattle.pages.specs.Demands.{At, In, Rising, Paper, Frames, Line, Lines, Spells, barriers}
use Rattle.pages.proofs.Placements.{nest_of}
use Rattle.pages.proofs.Spelling.{lines_are}
use Rattle.pages.proofs.Texts.{pieces_frames, good_frames, page_means}
use Rattle.pages_requests.proofs.Blocking.{is_one}

-- a text has one list of lines
pub one_frames : (t : List ℕ) (fs gs : Frames) → Lines t fs → are_frames gs ≡ true → t ≡ frames_text gs → fs ≡ gs
one_frames t fs gs l h e =
    let a = lines_are t fs l in
    sym (frames_back fs a.1).0 ∙ ap (λ (s : List ℕ). frames_of (lines_of s)) (sym a.0 ∙ e) ∙ (frames_back gs h).0

-- ---- nest texts

-- lines that make a valid nest are read, and then what follows
pieces_on
    : (k : ℕ) (n : Nest) (xs : List Piece) (fs : Frames) → InOrder n xs → is_valid (made_from n xs) ≡ true
    → read_lines k n (lines_of (frames_text (frames_for xs ++ fs))) ≡
    read_lines (k + length (frames_for xs)) (made_from n xs) (lines_of (frames_text fs))
pieces_on k n [] fs o v =
    let z : k + 0 ≡ k = omega arith in
    ap (λ (i : ℕ). read_lines i n (lines_of (frames_text fs))) (sym z)
pieces_on k n (x ∷ xs) fs o v =
    let f = fitting n x xs o v in
    let back = piece_back x f.kind in
    let none : frame_fault n (piece_frame x) ≡ 0 = rw back f.none in
    let made : with_frame n (piece_frame x) ≡ with_piece n x = rw back in
    let z : suc k + length (frames_for xs) ≡ k + suc (length (frames_for xs)) = omega arith in
    read_frame k n (piece_frame x) (frames_text (frames_for xs ++ fs)) f.bytes (piece_long x f.kind) none ∙
    ap (λ (m : Nest). read_lines (suc k) m (lines_of (frames_text (frames_for xs ++ fs)))) made ∙
    pieces_on (suc k) (with_piece n x) xs fs (order_rest n x xs o) v ∙
    ap (λ (i : ℕ). read_lines i (made_from (with_piece n x) xs) (lines_of (frames_text fs))) z

-- a line at fault ends the reading
stops
    : (k : ℕ) (n : Nest) (f : List ℕ) (fs : Frames) (e : ℕ) → are_bytes f ≡ true → leb 1 (length f) ≡ true
    → frame_fault n f ≡ suc e → read_lines k n (lines_of (frames_text (f ∷ fs))) ≡ got (suc e) k empty
unfolding read_lines
stops k n f fs e h w q =
    rw (line_first f (frames_text fs) h) (rw (digits_good f h w, frame_digits f h, q)
    (rw (ne_eqb (suc e) 0 (λ z. omega arith))))

-- a line 13 behind a nest of several loops
bar-fault
    : (n : Nest) (g : ℕ) → is_valid n ≡ true → one_loop n.points ≡ false → 0 < g → g < length n.points
    → frame_fault n (19 ∷ (g ∷ [])) ≡ 14
bar-fault n g v o a b =
    let w = valid_is n v in
    let none = bars_alone n.points n.barred w.all_bars o in
    rw (shape_closed n.points w.shape, none, lt-ltb 0 g a, lt-ltb g (length n.points) b, o)

pub several_14
    : (s t : List ℕ) (p : Paper) (fs gs : Frames) (g i : ℕ) → Spells s p → Lines s fs
    → Lines t (fs ++ ((19 ∷ g ∷ []) ∷ gs)) → At p.points (suc i) 1 → 0 < g → g < length p.points
    → read_nest t ≡ got 14 (suc (length fs)) empty
several_14 s t p fs gs g i h l k a low high = go (page_means s p h)
  where
    several : one_loop p.points ≡ false
    several = false_by (λ z. let q = is_one p.points z (suc i) a in omega arith)

    go : (fl : List ℕ) × T.Means s (nest_of p fl) → read_nest t ≡ got 14 (suc (length fs)) empty
    go (fl, inl e) = absurd (blank p.points (ap (λ (n : Nest). n.points) e.1) a)
      where
        blank : (ps : List ℕ) → ps ≡ (1 ∷ 2 ∷ []) → At ps (suc i) 1 → ⊥
        blank ps q b = two i (subst (λ (x : List ℕ). At x (suc i) 1) q b)
          where
            two : (j : ℕ) → At {A = ℕ} (1 ∷ 2 ∷ []) (suc j) 1 → ⊥
            two zero b = omega (arith, b)
            two (suc j) b = b
    go (fl, inr e) =
        let xs = e.pieces in
        let n = nest_of p fl in
        let made : made_from empty xs ≡ n = sym e.nest_is in
        let order = start_order xs e.ordered in
        let valid : is_valid (made_from empty xs) ≡ true = ap is_valid made ∙ e.valid in
        let good = pieces_good empty xs order valid in
        let same = one_frames s fs (frames_for xs) l (good_frames xs good) (e.text ∙ pieces_frames xs) in
        let text = (lines_are t (fs ++ ((19 ∷ g ∷ []) ∷ gs)) k).0 in
        let few = (valid_is n e.valid).few_points in
        let byte : are_bytes (19 ∷ (g ∷ [])) ≡ true =
        and_intro refl (and_intro (lt-ltb g 256 (omega (arith, few, high))) refl) in
        let fault : frame_fault (made_from empty xs) (19 ∷ (g ∷ [])) ≡ 14 =
        ap (λ (m : Nest). frame_fault m (19 ∷ (g ∷ []))) made ∙ bar-fault n g e.valid several low high in
        let text_is : t ≡ frames_text (frames_for xs ++ ((19 ∷ g ∷ []) ∷ gs)) =
        text ∙ ap (λ (x : Frames). frames_text (x ++ ((19 ∷ g ∷ []) ∷ gs))) same in
        lines_read t (some t (fs ++ ((19 ∷ g ∷ []) ∷ gs)) fs k refl) ∙
        ap (λ (x : List ℕ). read_lines 1 empty (lines_of x)) text_is ∙
        pieces_on 1 empty xs ((19 ∷ g ∷ []) ∷ gs) order valid ∙
        stops (1 + length (frames_for xs)) (made_from empty xs) (19 ∷ (g ∷ [])) gs 13 byte refl fault ∙
        ap (λ (x : ℕ). got 14 x empty) (place (length (frames_for xs)) (length fs) (ap length same))
      where
        place : (a b : ℕ) → b ≡ a → 1 + a ≡ suc b
        place a b z = omega arith

        some : (t : List ℕ) (es us : Frames) → Lines t es → es ≡ us ++ ((19 ∷ g ∷ []) ∷ gs) → 0 < length t
        some t es us Lines.none q = absurd (empty_not us q)
          where
            empty_not : (us : Frames) → [] ≡ us ++ ((19 ∷ g ∷ []) ∷ gs) → ⊥
            empty_not [] q = let z : ◌≡◌ {A = ℕ} 0 1 = cc q in omega arith
            empty_not (u ∷ us) q = let z : ◌≡◌ {A = ℕ} 0 1 = cc q in omega arith
        some t es us (Lines.line {s = u} {t = v} (Line.byte x y r) w) q = omega arith

-- ---- placement texts

module _ (n : ℕ) (bs : List ℕ) (few : n ≤ 256) where
  barrier_bytes : (g : ℕ) → g < n → are_bytes (33 ∷ (g ∷ [])) ≡ true
  barrier_bytes g l = and_intro refl (and_intro (lt-ltb g 256 (omega arith)) refl)

  barred_from
      : (k last : ℕ) (us xs ys : List ℕ) (g : ℕ) → Rising n last (xs ++ (g ∷ []))
      → ((x : ℕ) → In x xs → is_in x bs ≡ false) → is_in g bs ≡ true
      → place_lines k last n bs us (lines_of (frames_text (barriers (xs ++ (g ∷ ys))))) ≡ placed 16 (k + length xs) []
  unfolding place_lines
  barred_from k last us [] ys g (Rising.more low high r) free b =
      let h = barrier_bytes g high in
      let z : k + 0 ≡ k = omega arith in
      rw (line_first (33 ∷ (g ∷ [])) (frames_text (barriers ys)) h)
      (rw (
        digits_good (33 ∷ (g ∷ [])) h refl,
        frame_digits
            (33 ∷ (g ∷ [])) h,
        lt-ltb last g low,
        lt-ltb g n high,
        b,
        z,
      ))
  barred_from k last us (x ∷ xs) ys g (Rising.more low high r) free b =
      let h = barrier_bytes x high in
      let z : suc k + length xs ≡ k + suc (length xs) = omega arith in
      rw (line_first (33 ∷ (x ∷ [])) (frames_text (barriers (xs ++ (g ∷ ys)))) h)
      (rw (
        digits_good (33 ∷ (x ∷ [])) h refl,
        frame_digits (33 ∷ (x ∷ [])) h,
        lt-ltb last x low,
        lt-ltb x n high,
        free x
            (0, refl),
      )
      (barred_from (suc k) x (us ++ (x ∷ [])) xs ys g r (λ y i. free y (suc i.0, i.1)) b ∙
      ap (λ (i : ℕ). placed 16 i []) z))

  pub barred_16
      : (t xs ys : List ℕ) (g : ℕ) → Lines t (barriers (xs ++ (g ∷ ys))) → Rising n 0 (xs ++ (g ∷ []))
      → ((x : ℕ) → In x xs → is_in x bs ≡ false) → is_in g bs ≡ true
      → read_placement n bs t ≡ placed 16 (suc (length xs)) []
  unfolding read_placement
  barred_16 t xs ys g l r free b =
      let z : 1 + length xs ≡ suc (length xs) = omega arith in
      rw (lines_are t (barriers (xs ++ (g ∷ ys))) l).0 (barred_from 1 0 [] xs ys g r free b ∙
      ap (λ (i : ℕ). placed 16 i []) z)
