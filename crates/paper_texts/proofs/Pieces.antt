-- Pieces and their frames stand for each other: what a frame tells is a piece with that frame, or nothing that is
-- known; so a text of pieces is that of one list of pieces only. A new kind of frames is one clause in each law here.
-- Main statements: `told_by`, `piece_back`, `piece_long`, `one_pieces`, `dep_bytes`, `bar_bytes`.
use mathlib.Core.Path.{◌≡◌, refl, sym, ap, subst, ◌∙◌}
use mathlib.Core.Bool.{Bool, true, ◌&&◌, ◌||◌}
use mathlib.Core.Logic.{⊎_elim}
use mathlib.Core.List.{List, [], ◌∷◌}
use Prim.Native.Nat.{ℕ, ◌≤◌, ◌<◌}
use native.Mathlib.Omega.{arith}
use lib.Dec.{eqb, ltb, leb}
use lib.ListN.{length, get_or, get_or-eq_default}
use borrow.Author.Tests.{ltb-true, leb-true, eqb-true, lt-ltb}
use Rattle.laws.proofs.Tests.{lt_by, and_intro, and_true, or-true}
use Rattle.laws.proofs.Choices.{pick_by}
use Rattle.paper_nests.specs.Kinds.{DO, ENDDO, STATEMENT, FLAGGED, INDEPENDENT, CARRIED, BARRED, POINTS}
use Rattle.paper_nests.specs.Nests.{Dep, dep}
use Rattle.paper_nests.specs.Loops.{is_do}
use Rattle.paper_nests.specs.Gaps.{is_gap}
use Rattle.paper_nests.specs.Valid.{is_source, is_target, names_points, is_of_kind}
use Rattle.paper_nests.proofs.Bars.{gap_within}
use Rattle.paper_lines.specs.Lines.{lines_of}
use Rattle.paper_lines.proofs.Spelling.{are_bytes, are_frames, frames_text, frames_of, frames_back}
use Rattle.paper_texts.specs.Pieces.{Piece, Point, Depend, Bar, Flagged, Told, told, unknown, is_point, piece_of}
use Rattle.paper_texts.specs.Pieces.{dep_frame, piece_frame, pieces_text}

-- a piece of one of the kinds
abbrev pub is_piece : Piece → Bool
is_piece (Point k) = is_point k
is_piece (Depend e) = is_of_kind e
is_piece (Bar g) = true
is_piece Flagged = true

-- a list by its length
of_one : (f : List ℕ) → length f ≡ 1 → f ≡ get_or f 0 0 ∷ []
of_one [] e = absurd (omega arith)
of_one (a ∷ []) e = refl
of_one (a ∷ (b ∷ f)) e = absurd (omega arith)

pub of_two : (f : List ℕ) → length f ≡ 2 → f ≡ get_or f 0 0 ∷ (get_or f 1 0 ∷ [])
of_two [] e = absurd (omega arith)
of_two (a ∷ f) e = ap {B = List ℕ} (λ r. a ∷ r) (of_one f (omega arith))

of_three : (f : List ℕ) → length f ≡ 3 → f ≡ get_or f 0 0 ∷ (get_or f 1 0 ∷ (get_or f 2 0 ∷ []))
of_three [] e = absurd (omega arith)
of_three (a ∷ f) e = ap {B = List ℕ} (λ r. a ∷ r) (of_two f (omega arith))

of_four : (f : List ℕ) → length f ≡ 4 → f ≡ get_or f 0 0 ∷ (get_or f 1 0 ∷ (get_or f 2 0 ∷ (get_or f 3 0 ∷ [])))
of_four [] e = absurd (omega arith)
of_four (a ∷ f) e = ap {B = List ℕ} (λ r. a ∷ r) (of_three f (omega arith))

-- what holds of every piece of a kind, and of what is not known, holds of what a frame tells
pub told_by
    : (P : Told → Type 0) (f : List ℕ)
    → ((x : Piece) → is_piece x ≡ true → f ≡ piece_frame x → P (told x))
    → P unknown
    → P (piece_of f)
told_by P f good none =
    pick_by P one (λ p. pick_by P three (λ q. pick_by P four (λ r. pick_by P two (λ t. pick_by P flag (λ v. none)))))
  where
    one : (is_point (get_or f 0 0) && eqb (length f) 1) ≡ true → P (told (Point (get_or f 0 0)))
    one h =
        let a = and_true (is_point (get_or f 0 0)) (eqb (length f) 1) h in
        good (Point (get_or f 0 0)) a.0 (of_one f (eqb-true (length f) 1 a.1))

    three : (eqb (get_or f 0 0) INDEPENDENT && eqb (length f) 3) ≡ true →
        P (told (Depend (dep INDEPENDENT 0 (get_or f 1 0) (get_or f 2 0))))
    three h =
        let a = and_true (eqb (get_or f 0 0) INDEPENDENT) (eqb (length f) 3) h in
        let is = eqb-true (get_or f 0 0) INDEPENDENT a.0 in
        let same = of_three f (eqb-true (length f) 3 a.1) in
        good (Depend (dep INDEPENDENT 0 (get_or f 1 0) (get_or f 2 0))) refl
        (same ∙ ap {B = List ℕ} (λ k. k ∷ (get_or f 1 0 ∷ (get_or f 2 0 ∷ []))) is)

    four : (eqb (get_or f 0 0) CARRIED && eqb (length f) 4) ≡ true →
        P (told (Depend (dep CARRIED (get_or f 1 0) (get_or f 2 0) (get_or f 3 0))))
    four h =
        let a = and_true (eqb (get_or f 0 0) CARRIED) (eqb (length f) 4) h in
        let is = eqb-true (get_or f 0 0) CARRIED a.0 in
        let same = of_four f (eqb-true (length f) 4 a.1) in
        good (Depend (dep CARRIED (get_or f 1 0) (get_or f 2 0) (get_or f 3 0))) refl
        (same ∙ ap {B = List ℕ} (λ k. k ∷ (get_or f 1 0 ∷ (get_or f 2 0 ∷ (get_or f 3 0 ∷ [])))) is)

    two : (eqb (get_or f 0 0) BARRED && eqb (length f) 2) ≡ true → P (told (Bar (get_or f 1 0)))
    two h =
        let a = and_true (eqb (get_or f 0 0) BARRED) (eqb (length f) 2) h in
        let is = eqb-true (get_or f 0 0) BARRED a.0 in
        let same = of_two f (eqb-true (length f) 2 a.1) in
        good (Bar (get_or f 1 0)) refl (same ∙ ap {B = List ℕ} (λ k. k ∷ (get_or f 1 0 ∷ [])) is)

    flag : (eqb (get_or f 0 0) FLAGGED && eqb (length f) 1) ≡ true → P (told Flagged)
    flag h =
        let a = and_true (eqb (get_or f 0 0) FLAGGED) (eqb (length f) 1) h in
        let is = eqb-true (get_or f 0 0) FLAGGED a.0 in
        let same = of_one f (eqb-true (length f) 1 a.1) in
        good Flagged refl (same ∙ ap {B = List ℕ} (λ k. k ∷ []) is)

-- a dependence of one of the two kinds
pub data DepSort : Dep → Type 0 where
  run : (s t : ℕ) → DepSort (dep INDEPENDENT 0 s t)
  carry : (d s t : ℕ) → DepSort (dep CARRIED d s t)

same_dep : (e : Dep) (k d : ℕ) → e.kind ≡ k → e.d ≡ d → dep k d e.s e.t ≡ e
same_dep e k d p q = rw (← p, ← q)

pub dep_sort : (e : Dep) → is_of_kind e ≡ true → DepSort e
dep_sort e h = ⊎_elim one two (or-true (eqb e.kind INDEPENDENT && eqb e.d 0) (eqb e.kind CARRIED) h)
  where
    one : (eqb e.kind INDEPENDENT && eqb e.d 0) ≡ true → DepSort e
    one w =
        let a = and_true (eqb e.kind INDEPENDENT) (eqb e.d 0) w in
        subst
        DepSort
        (same_dep e INDEPENDENT 0 (eqb-true e.kind INDEPENDENT a.0) (eqb-true e.d 0 a.1))
        (run e.s e.t)

    two : eqb e.kind CARRIED ≡ true → DepSort e
    two w = subst DepSort (same_dep e CARRIED e.d (eqb-true e.kind CARRIED w) refl) (carry e.d e.s e.t)

-- a piece's frame tells that piece, and is not empty
dep_back : {e : Dep} → DepSort e → piece_of (dep_frame e) ≡ told (Depend e)
dep_back (run s t) = refl
dep_back (carry d s t) = refl

pub piece_back : (x : Piece) → is_piece x ≡ true → piece_of (piece_frame x) ≡ told x
piece_back (Point k) h = rw h
piece_back (Depend e) h = dep_back (dep_sort e h)
piece_back (Bar g) h = refl
piece_back Flagged h = refl

dep_long : {e : Dep} → DepSort e → leb 1 (length (dep_frame e)) ≡ true
dep_long (run s t) = refl
dep_long (carry d s t) = refl

pub piece_long : (x : Piece) → is_piece x ≡ true → leb 1 (length (piece_frame x)) ≡ true
piece_long (Point k) h = refl
piece_long (Depend e) h = dep_long (dep_sort e h)
piece_long (Bar g) h = refl
piece_long Flagged h = refl

-- the points that a valid dependence names are points of the nest
source_below : (ps : List ℕ) (s : ℕ) → is_source ps s ≡ true → s < length ps
source_below ps s h =
    let sort = eqb (get_or ps s 0) STATEMENT || eqb (get_or ps s 0) DO in
    ltb-true s (length ps) (and_true (ltb s (length ps)) sort h).0

target_below : (ps : List ℕ) (t : ℕ) → is_target ps t ≡ true → t < length ps
target_below ps t h =
    let sort = eqb (get_or ps t 0) STATEMENT || eqb (get_or ps t 0) ENDDO in
    ltb-true t (length ps) (and_true (ltb t (length ps)) sort h).0

do_below : (ps : List ℕ) (d : ℕ) → is_do ps d ≡ true → d < length ps
do_below ps d h =
    let is = eqb-true (get_or ps d 0) DO h in
    lt_by (λ far. omega (arith, get_or-eq_default ps 0 far))

-- so its bytes are below 256 in a nest within the limit
pub dep_bytes
    : (ps : List ℕ) {e : Dep} → length ps ≤ POINTS → DepSort e → names_points ps e ≡ true → are_bytes (dep_frame e) ≡ true
dep_bytes ps small (run s t) h =
    let a = and_true (is_source ps s) (is_target ps t && true) h in
    let b = and_true (is_target ps t) true a.1 in
    and_intro
    (lt-ltb s 256 (omega (arith, source_below ps s a.0)))
    (and_intro (lt-ltb t 256 (omega (arith, target_below ps t b.0))) refl)
dep_bytes ps small (carry d s t) h =
    let a = and_true (is_source ps s) (is_target ps t && is_do ps d) h in
    let b = and_true (is_target ps t) (is_do ps d) a.1 in
    and_intro
    (lt-ltb d 256 (omega (arith, do_below ps d b.1)))
    (and_intro
    (lt-ltb s 256 (omega (arith, source_below ps s a.0)))
    (and_intro (lt-ltb t 256 (omega (arith, target_below ps t b.0))) refl))

pub point_bytes : (p : ℕ) → is_point p ≡ true → are_bytes (p ∷ []) ≡ true
point_bytes p h =
    let z = and_true (leb DO p) (leb p STATEMENT) h in
    and_intro (lt-ltb p 256 (omega (arith, leb-true p STATEMENT z.1))) refl

pub bar_bytes : (ps : List ℕ) (g : ℕ) → length ps ≤ POINTS → is_gap ps g ≡ true → are_bytes (BARRED ∷ (g ∷ [])) ≡ true
bar_bytes ps g small h = and_intro (lt-ltb g 256 (omega (arith, (gap_within ps g h).1))) refl

-- pieces of the kinds whose numbers are bytes
abbrev pub are_pieces : List Piece → Bool
are_pieces [] = true
are_pieces (x ∷ xs) = (is_piece x && are_bytes (piece_frame x)) && are_pieces xs

abbrev pub frames_for : List Piece → List (List ℕ)
frames_for [] = []
frames_for (x ∷ xs) = piece_frame x ∷ frames_for xs

pieces_frames : (xs : List Piece) → pieces_text xs ≡ frames_text (frames_for xs)
unfolding pieces_text
pieces_frames [] = refl
pieces_frames (x ∷ xs) = rw (pieces_frames xs)

good_frames : (xs : List Piece) → are_pieces xs ≡ true → are_frames (frames_for xs) ≡ true
good_frames [] h = refl
good_frames (x ∷ xs) h =
    let a = and_true (is_piece x && are_bytes (piece_frame x)) (are_pieces xs) h in
    let b = and_true (is_piece x) (are_bytes (piece_frame x)) a.0 in
    and_intro (and_intro (piece_long x b.0) b.1) (good_frames xs a.1)

-- the frames of a text of pieces are the pieces' own
text_frames : (xs : List Piece) → are_pieces xs ≡ true → frames_of (lines_of (pieces_text xs)) ≡ frames_for xs
text_frames xs h = rw (pieces_frames xs) (frames_back (frames_for xs) (good_frames xs h)).0

first_told : (x : Piece) → is_piece x ≡ true → (y : Piece) → is_piece y ≡ true → piece_frame x ≡ piece_frame y → x ≡ y
first_told x g y h e =
    let same : told x ≡ told y = sym (piece_back x g) ∙ ap piece_of e ∙ piece_back y h in
    cc same

same_frames
    : (xs ys : List Piece) → are_pieces xs ≡ true → are_pieces ys ≡ true → frames_for xs ≡ frames_for ys → xs ≡ ys
same_frames [] [] g h e = refl
same_frames [] (y ∷ ys) g h e = let z : ◌≡◌ {A = ℕ} 0 1 = cc e in absurd (omega arith)
same_frames (x ∷ xs) [] g h e = let z : ◌≡◌ {A = ℕ} 0 1 = cc e in absurd (omega arith)
same_frames (x ∷ xs) (y ∷ ys) g h e =
    let a = and_true (is_piece x && are_bytes (piece_frame x)) (are_pieces xs) g in
    let b = and_true (is_piece y && are_bytes (piece_frame y)) (are_pieces ys) h in
    let first : piece_frame x ≡ piece_frame y = cc e in
    let rest : frames_for xs ≡ frames_for ys = cc e in
    let same = same_frames xs ys a.1 b.1 rest in
    let good = and_true (is_piece x) (are_bytes (piece_frame x)) a.0 in
    let fine = and_true (is_piece y) (are_bytes (piece_frame y)) b.0 in
    cc (first_told x good.0 y fine.0 first, same)

-- a text is that of one list of pieces only
pub one_pieces
    : (xs ys : List Piece) → are_pieces xs ≡ true → are_pieces ys ≡ true → pieces_text xs ≡ pieces_text ys → xs ≡ ys
one_pieces xs ys g h e =
    same_frames xs ys g h (sym (text_frames xs g) ∙ ap (λ (s : List ℕ). frames_of (lines_of s)) e ∙ text_frames ys h)
