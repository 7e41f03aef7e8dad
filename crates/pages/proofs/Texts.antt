-- The page's nest texts and placement texts are those that the project's definitions accept.
-- Main statements: `means_page`, `page_means`, `placed_page`, `page_placed`.
use mathlib.Core.Path.{◌≡◌, refl, sym, ◌∙◌, ap, subst}
use mathlib.Core.Bool.{true, ◌&&◌}
use mathlib.Core.List.{List, [], ◌∷◌, ◌++◌, append_assoc, append-nil}
use mathlib.Core.Logic.{inl, inr}
use Prim.Native.Nat.{ℕ, suc, ◌≤◌, ◌<◌}
use native.Mathlib.Omega.{arith}
use lib.ListN.{length, length-append}
use borrow.Author.Tests.{eq-eqb, ne_eqb, lt-ltb}
use Rattle.laws.proofs.Tests.{never, and_true, and_intro}
use Rattle.laws.proofs.Ranges.{in_between}
use Rattle.paper_nests.specs.declared.Dependence as DE
use Rattle.paper_nests.specs.Nests.{Dep, dep, Nest, empty, with_point, with_dep, with_bar, with_flagged}
use Rattle.paper_nests.specs.Valid.{are_flags, is_valid, is_of_kind}
use Rattle.paper_nests.proofs.Flags.{flags_from}
use Rattle.paper_lines.specs.Lines.{lines_of}
use Rattle.paper_lines.proofs.Spelling.{are_bytes, frames_text, frames_of, are_frames, frames_back}
use Rattle.paper_placements.proofs.Rising.{rises}
use Rattle.paper_placements.specs.Placements.{are_gaps_from}
use Rattle.paper_texts.specs.Pieces.{Piece, Point, Depend, Bar, Flagged, is_point, piece_frame, pieces_text, no_first}
use Rattle.paper_texts.specs.Pieces.{is_ordered, made_from}
use Rattle.paper_texts.specs.NestTexts as T
use Rattle.paper_texts.specs.PlacementTexts.{key_text}
use Rattle.paper_texts.proofs.Pieces.{is_piece, are_pieces, frames_for, piece_long, DepSort, run, carry, dep_sort}
use Rattle.paper_texts.proofs.Spelled.{pieces_good, start_order}
use Rattle.paper_texts.proofs.PlacedTexts.{SpellsGaps}
use Rattle.pages.specs.Demands.{Frames, Lines, Means, Tells, Spells, barriers, Places, Paper}
use Rattle.pages.proofs.Placements.{mapped, nest_of, gaps_are, gaps_avoid, are-gaps}
use Rattle.pages.proofs.Rules.{valid_page, page_valid}
use Rattle.pages.proofs.Spelling.{lines_made, lines_are}

-- ---- frames of points, and frames of the rest

data PointFrames : Frames → List ℕ → Type 0 where
  none : PointFrames [] []
  point
      : {k : ℕ} {fs : Frames} {ps : List ℕ} → 1 ≤ k → k ≤ 3 → PointFrames fs ps
      → PointFrames ((k ∷ []) ∷ fs) (k ∷ ps)
  flagged : {fs : Frames} {ps : List ℕ} → PointFrames fs ps → PointFrames ((4 ∷ []) ∷ fs) (1 ∷ ps)

-- the rest tells no point
abbrev RestFrames : Frames → List DE.Dependence → List ℕ → Type 0
RestFrames fs ds bs = Tells fs [] ds bs

tells
    : (fs gs : Frames) (ps : List ℕ) (ds : List DE.Dependence) (bs : List ℕ) → PointFrames fs ps
    → RestFrames gs ds bs → Tells (fs ++ gs) ps ds bs
tells fs gs ps ds bs PointFrames.none r = r
tells fs gs ps ds bs (PointFrames.point {fs = es} {ps = qs} a b w) r =
    Tells.point (Means.point a b) (tells es gs qs ds bs w r)
tells fs gs ps ds bs (PointFrames.flagged {fs = es} {ps = qs} w) r =
    Tells.point Means.flagged (tells es gs qs ds bs w r)

-- ---- frames and pieces

pub pieces_frames : (xs : List Piece) → pieces_text xs ≡ frames_text (frames_for xs)
unfolding pieces_text
pieces_frames [] = refl
pieces_frames (x ∷ xs) = rw (pieces_frames xs)

pub good_frames : (xs : List Piece) → are_pieces xs ≡ true → are_frames (frames_for xs) ≡ true
good_frames [] h = refl
good_frames (x ∷ xs) h =
    let a = and_true (is_piece x && are_bytes (piece_frame x)) (are_pieces xs) h in
    let b = and_true (is_piece x) (are_bytes (piece_frame x)) a.0 in
    and_intro (and_intro (piece_long x b.0) b.1) (good_frames xs a.1)

-- what pieces add behind the points
record Rests (n : Nest) (xs : List Piece) : Type 0 where
  ds : List DE.Dependence
  bs : List ℕ
  frames : RestFrames (frames_for xs) ds bs
  points_are : (made_from n xs).points ≡ n.points
  deps_are : (made_from n xs).deps ≡ n.deps ++ mapped ds
  bars_are : (made_from n xs).barred ≡ n.barred ++ bs
  flags_are : (made_from n xs).flagged ≡ n.flagged

rests : (n : Nest) (xs : List Piece) → no_first xs ≡ true → are_pieces xs ≡ true → Rests n xs
rests n [] h g =
    record {
      ds = [];
      bs = [];
      frames = Tells.none;
      points_are = refl;
      deps_are = sym (append-nil n.deps);
      bars_are = sym (append-nil n.barred);
      flags_are = refl;
    }
rests n (Point k ∷ xs) h g = never h
rests n (Flagged ∷ xs) h g = never h
rests n (Bar i ∷ xs) h g =
    let r =
    rests (with_bar n i) xs h (and_true (is_piece (Bar i) && are_bytes (piece_frame (Bar i))) (are_pieces xs) g).1 in
    record {
      ds = r.ds;
      bs = i ∷ r.bs;
      frames = Tells.bar Means.bar r.frames;
      points_are = r.points_are;
      deps_are = r.deps_are;
      bars_are = r.bars_are ∙ append_assoc n.barred (i ∷ []) r.bs;
      flags_are = r.flags_are;
    }
rests n (Depend e ∷ xs) h g =
    let a = and_true (is_of_kind e && are_bytes (piece_frame (Depend e))) (are_pieces xs) g in
    let b = and_true (is_of_kind e) (are_bytes (piece_frame (Depend e))) a.0 in
    go e (dep_sort e b.0) (rests (with_dep n e) xs h a.1)
  where
    go : (e : Dep) → DepSort e → Rests (with_dep n e) xs → Rests n (Depend e ∷ xs)
    go e (run s t) r =
        record {
          ds = record { kind = 17; d = 0; s = s; t = t } ∷ r.ds;
          bs = r.bs;
          frames = Tells.dependence Means.line r.frames;
          points_are = r.points_are;
          deps_are = r.deps_are ∙ append_assoc n.deps (dep 17 0 s t ∷ []) (mapped r.ds);
          bars_are = r.bars_are;
          flags_are = r.flags_are;
        }
    go e (carry d s t) r =
        record {
          ds = record { kind = 18; d = d; s = s; t = t } ∷ r.ds;
          bs = r.bs;
          frames = Tells.dependence Means.round r.frames;
          points_are = r.points_are;
          deps_are = r.deps_are ∙ append_assoc n.deps (dep 18 d s t ∷ []) (mapped r.ds);
          bars_are = r.bars_are;
          flags_are = r.flags_are;
        }

-- and before them
record Split (n : Nest) (xs : List Piece) : Type 0 where
  fs : List (List ℕ)
  gs : List (List ℕ)
  frames_are : frames_for xs ≡ fs ++ gs
  ps : List ℕ
  ds : List DE.Dependence
  bs : List ℕ
  points : PointFrames fs ps
  rest : RestFrames gs ds bs
  points_are : (made_from n xs).points ≡ n.points ++ ps
  deps_are : (made_from n xs).deps ≡ n.deps ++ mapped ds
  bars_are : (made_from n xs).barred ≡ n.barred ++ bs

split_rest : (n : Nest) (xs : List Piece) → no_first xs ≡ true → are_pieces xs ≡ true → Split n xs
split_rest n xs h g =
    let r = rests n xs h g in
    record {
      fs = [];
      gs = frames_for xs;
      frames_are = refl;
      ps = [];
      ds = r.ds;
      bs = r.bs;
      points = PointFrames.none;
      rest = r.frames;
      points_are = r.points_are ∙ sym (append-nil n.points);
      deps_are = r.deps_are;
      bars_are = r.bars_are;
    }

split : (n : Nest) (xs : List Piece) → is_ordered xs ≡ true → are_pieces xs ≡ true → Split n xs
split n [] h g = split_rest n [] refl refl
split n (Point k ∷ xs) h g =
    let a = and_true (is_piece (Point k) && are_bytes (piece_frame (Point k))) (are_pieces xs) g in
    let kind = in_between 1 k 3 (and_true (is_point k) (are_bytes (piece_frame (Point k))) a.0).0 in
    let r = split (with_point n k) xs h a.1 in
    record {
      fs = (k ∷ []) ∷ r.fs;
      gs = r.gs;
      frames_are = ap (λ (l : List (List ℕ)). (k ∷ []) ∷ l) r.frames_are;
      ps = k ∷ r.ps;
      ds = r.ds;
      bs = r.bs;
      points = PointFrames.point kind.0 kind.1 r.points;
      rest = r.rest;
      points_are = r.points_are ∙ append_assoc n.points (k ∷ []) r.ps;
      deps_are = r.deps_are;
      bars_are = r.bars_are;
    }
split n (Flagged ∷ xs) h g =
    let r =
    split (with_flagged n) xs h (and_true (is_piece Flagged && are_bytes (piece_frame Flagged)) (are_pieces xs) g).1 in
    record {
      fs = (4 ∷ []) ∷ r.fs;
      gs = r.gs;
      frames_are = ap (λ (l : List (List ℕ)). (4 ∷ []) ∷ l) r.frames_are;
      ps = 1 ∷ r.ps;
      ds = r.ds;
      bs = r.bs;
      points = PointFrames.flagged r.points;
      rest = r.rest;
      points_are = r.points_are ∙ append_assoc n.points (1 ∷ []) r.ps;
      deps_are = r.deps_are;
      bars_are = r.bars_are;
    }
split n (Depend e ∷ xs) h g = split_rest n (Depend e ∷ xs) (and_true (no_first xs) (is_ordered xs) h).0 g
split n (Bar i ∷ xs) h g = split_rest n (Bar i ∷ xs) (and_true (no_first xs) (is_ordered xs) h).0 g

-- the paper of a nest
abbrev pub dep_out : Dep → DE.Dependence
dep_out e = record { kind = e.kind; d = e.d; s = e.s; t = e.t }

abbrev pub unmapped : List Dep → List DE.Dependence
unmapped [] = []
unmapped (e ∷ es) = dep_out e ∷ unmapped es

pub unmap : (xs : List DE.Dependence) → unmapped (mapped xs) ≡ xs
unmap [] = refl
unmap (x ∷ xs) = ap (λ (l : List DE.Dependence). x ∷ l) (unmap xs)

pub map_back : (es : List Dep) → mapped (unmapped es) ≡ es
map_back [] = refl
map_back (e ∷ es) = ap (λ (l : List Dep). e ∷ l) (map_back es)

pub means_page : (s : List ℕ) (p : Paper) (fs : List ℕ) → T.Means s (nest_of p fs) → Spells s p
means_page s p fs (inl h) =
    let n = h.1 in
    Spells.blank h.0 (ap (λ (x : Nest). x.points) n)
    (sym (unmap p.deps) ∙ ap unmapped (ap (λ (x : Nest). x.deps) n))
    (ap (λ (x : Nest). x.barred) n)
means_page s p fs (inr h) =
    let xs = h.pieces in
    let n = h.nest_is in
    let good = pieces_good empty xs (start_order xs h.ordered) (ap is_valid (sym n) ∙ h.valid) in
    let r = split empty xs h.ordered good in
    let points : p.points ≡ r.ps = ap (λ (x : Nest). x.points) n ∙ r.points_are in
    let deps : p.deps ≡ r.ds =
    sym (unmap p.deps) ∙ ap unmapped (ap (λ (x : Nest). x.deps) n ∙ r.deps_are) ∙ unmap r.ds in
    let bars : p.barred ≡ r.bs = ap (λ (x : Nest). x.barred) n ∙ r.bars_are in
    let text : frames_text (frames_for xs) ≡ s = sym (h.text ∙ pieces_frames xs) in
    Spells.lines (r.fs ++ r.gs)
    (subst (λ (x : List ℕ). Lines x (r.fs ++ r.gs)) text
    (subst (λ (x : List (List ℕ)). Lines (frames_text (frames_for xs)) x) r.frames_are
    (lines_made (frames_for xs) (good_frames xs good))))
    (tells r.fs r.gs p.points p.deps p.barred
    (subst (λ (x : List ℕ). PointFrames r.fs x) (sym points) r.points)
    (subst (λ (x : List ℕ). RestFrames r.gs p.deps x) (sym bars)
    (subst (λ (x : List DE.Dependence). RestFrames r.gs x r.bs) (sym deps) r.rest)))
    (valid_page p fs h.valid)

-- ---- the other way: pieces of frames

-- one point more in front of flagged ones
flags_front : (i p : ℕ) (ps fl : List ℕ) → are_flags (suc i) ps fl ≡ true → are_flags i (p ∷ ps) fl ≡ true
flags_front i p ps [] h = refl
flags_front i p ps (f ∷ fl) h = rw (ne_eqb i f (λ q. omega (arith, flags_from (suc i) ps f fl h))) h

abbrev longer : Nest → List ℕ → List DE.Dependence → List ℕ → List ℕ → Nest
longer n ps ds bs fl =
    record {
      points = n.points ++ ps;
      deps = n.deps ++ mapped ds;
      barred = n.barred ++ bs;
      flagged = n.flagged ++ fl;
    }

record AllPieces (fs : Frames) (ps : List ℕ) (ds : List DE.Dependence) (bs : List ℕ) (i : ℕ) : Type 0 where
  xs : List Piece
  frames_are : frames_for xs ≡ fs
  ordered : is_ordered xs ≡ true
  none_first : ps ≡ [] → no_first xs ≡ true
  fl : List ℕ
  flags_are : are_flags i ps fl ≡ true
  made : (n : Nest) → length n.points ≡ i → made_from n xs ≡ longer n ps ds bs fl

all_pieces
    : (fs : Frames) (ps : List ℕ) (ds : List DE.Dependence) (bs : List ℕ) (i : ℕ) → Tells fs ps ds bs
    → AllPieces fs ps ds bs i
all_pieces fs ps ds bs i Tells.none =
    record {
      xs = [];
      frames_are = refl;
      ordered = refl;
      none_first = λ z. refl;
      fl = [];
      flags_are = refl;
      made = λ n h. rw (append-nil n.points, append-nil n.deps, append-nil n.barred, append-nil n.flagged);
    }
all_pieces fs ps ds bs i (Tells.point {fs = es} {ps = qs} (Means.point {k = k} a b) w) =
    let q = all_pieces es qs ds bs (suc i) w in
    record {
      xs = Point k ∷ q.xs;
      frames_are = ap (λ (l : Frames). (k ∷ []) ∷ l) q.frames_are;
      ordered = q.ordered;
      none_first = λ z. let y : ◌≡◌ {A = ℕ} 0 1 = cc z in absurd (omega arith);
      fl = q.fl;
      flags_are = flags_front i k qs q.fl q.flags_are;
      made =
          λ n h.
          let z : length (n.points ++ (k ∷ [])) ≡ suc i = length-append n.points (k ∷ []) ∙ omega arith in
          q.made (with_point n k) z ∙ rw (append_assoc n.points (k ∷ []) qs);
    }
all_pieces fs ps ds bs i (Tells.point {fs = es} {ps = qs} Means.flagged w) =
    let q = all_pieces es qs ds bs (suc i) w in
    record {
      xs = Flagged ∷ q.xs;
      frames_are = ap (λ (l : Frames). (4 ∷ []) ∷ l) q.frames_are;
      ordered = q.ordered;
      none_first = λ z. let y : ◌≡◌ {A = ℕ} 0 1 = cc z in absurd (omega arith);
      fl = i ∷ q.fl;
      flags_are = rw (eq-eqb i i refl) q.flags_are;
      made =
          λ n h.
          let z : length (n.points ++ (1 ∷ [])) ≡ suc i = length-append n.points (1 ∷ []) ∙ omega arith in
          q.made (with_flagged n) z ∙
          rw (append_assoc n.points (1 ∷ []) qs, append_assoc n.flagged (length n.points ∷ []) q.fl, h);
    }
all_pieces fs ps ds bs i (Tells.dependence {fs = es} {ds = cs} (Means.line {s = s} {t = t}) w) =
    let q = all_pieces es [] cs bs i w in
    record {
      xs = Depend (dep 17 0 s t) ∷ q.xs;
      frames_are = ap (λ (l : Frames). (17 ∷ s ∷ t ∷ []) ∷ l) q.frames_are;
      ordered = and_intro (q.none_first refl) q.ordered;
      none_first = λ z. q.none_first refl;
      fl = q.fl;
      flags_are = q.flags_are;
      made = λ n h. q.made (with_dep n (dep 17 0 s t)) h ∙ rw (append_assoc n.deps (dep 17 0 s t ∷ []) (mapped cs));
    }
all_pieces fs ps ds bs i (Tells.dependence {fs = es} {ds = cs} (Means.round {d = d} {s = s} {t = t}) w) =
    let q = all_pieces es [] cs bs i w in
    record {
      xs = Depend (dep 18 d s t) ∷ q.xs;
      frames_are = ap (λ (l : Frames). (18 ∷ d ∷ s ∷ t ∷ []) ∷ l) q.frames_are;
      ordered = and_intro (q.none_first refl) q.ordered;
      none_first = λ z. q.none_first refl;
      fl = q.fl;
      flags_are = q.flags_are;
      made = λ n h. q.made (with_dep n (dep 18 d s t)) h ∙ rw (append_assoc n.deps (dep 18 d s t ∷ []) (mapped cs));
    }
all_pieces fs ps ds bs i (Tells.bar {fs = es} {bs = cs} (Means.bar {g = g}) w) =
    let q = all_pieces es [] ds cs i w in
    record {
      xs = Bar g ∷ q.xs;
      frames_are = ap (λ (l : Frames). (19 ∷ g ∷ []) ∷ l) q.frames_are;
      ordered = and_intro (q.none_first refl) q.ordered;
      none_first = λ z. q.none_first refl;
      fl = q.fl;
      flags_are = q.flags_are;
      made = λ n h. q.made (with_bar n g) h ∙ rw (append_assoc n.barred (g ∷ []) cs);
    }

-- some flags with which the project's definitions read the text as this paper
pub page_means : (s : List ℕ) (p : Paper) → Spells s p → (fl : List ℕ) × T.Means s (nest_of p fl)
page_means s p (Spells.blank e a b c) = ([], inl (e, rw (a, b, c)))
page_means s p (Spells.lines fs l w v) =
    let q = all_pieces fs p.points p.deps p.barred 0 w in
    let k = lines_are s fs l in (
      q.fl,
      inr
          (record {
            pieces = q.xs;
            ordered = q.ordered;
            text = k.0 ∙ ap frames_text (sym q.frames_are) ∙ sym (pieces_frames q.xs);
            nest_is = sym (q.made empty refl);
            valid = page_valid p q.fl q.flags_are v;
          }),
    )

-- ---- placement texts

key_frames : (gs : List ℕ) → key_text gs ≡ frames_text (barriers gs)
unfolding key_text
key_frames [] = refl
key_frames (g ∷ gs) = rw (key_frames gs)

barrier_frames : (low n : ℕ) (gs : List ℕ) → n ≤ 256 → are_gaps_from low n gs ≡ true → are_frames (barriers gs) ≡ true
barrier_frames low n [] l h = refl
barrier_frames low n (g ∷ gs) l h =
    let z = rising low h in
    and_intro (and_intro refl (and_intro refl (and_intro (lt-ltb g 256 (omega (arith, z.0))) refl)))
    (barrier_frames g n gs l z.1)
  where
    rising : (low : ℕ) → are_gaps_from low n (g ∷ gs) ≡ true → (g < n) × (are_gaps_from g n gs ≡ true)
    rising low h = let r = rises low n g gs h in (r.below, r.rest)

pub page_placed : (p : Paper) (t gs : List ℕ) → Places p t gs → SpellsGaps (length p.points) p.barred t gs
page_placed p t gs h =
    record {
      gaps = gaps_are p [] gs h.gaps;
      avoiding = gaps_avoid p [] gs h.gaps;
      text = (lines_are t (barriers gs) h.lines).0 ∙ sym (key_frames gs);
    }

pub placed_page
    : (p : Paper) (t gs : List ℕ) → length p.points ≤ 256 → SpellsGaps (length p.points) p.barred t gs
    → Places p t gs
placed_page p t gs l h =
    record {
      gaps = are-gaps p [] gs h.gaps h.avoiding;
      lines =
          subst (λ (x : List ℕ). Lines x (barriers gs)) (sym (h.text ∙ key_frames gs))
          (lines_made (barriers gs) (barrier_frames 0 (length p.points) gs l h.gaps));
    }

-- a placement text spells one set
pub one_placed : (p : Paper) (t xs ys : List ℕ) → Places p t xs → Places p t ys → xs ≡ ys
one_placed p t xs ys a b =
    let x = lines_are t (barriers xs) a.lines in
    let y = lines_are t (barriers ys) b.lines in
    let back : (zs : List ℕ) → are_frames (barriers zs) ≡ true
    → frames_of (lines_of (frames_text (barriers zs))) ≡ barriers zs =
    λ zs h. (frames_back (barriers zs) h).0 in
    same xs ys (sym (back xs x.1) ∙ ap (λ (s : List ℕ). frames_of (lines_of s)) (sym x.0 ∙ y.0) ∙ back ys y.1)
  where
    same : (us vs : List ℕ) → barriers us ≡ barriers vs → us ≡ vs
    same [] [] e = refl
    same [] (v ∷ vs) e = let z : ◌≡◌ {A = ℕ} 0 1 = cc e in absurd (omega arith)
    same (u ∷ us) [] e = let z : ◌≡◌ {A = ℕ} 0 1 = cc e in absurd (omega arith)
    same (u ∷ us) (v ∷ vs) e =
        let a : u ≡ v = cc e in
        let r : barriers us ≡ barriers vs = cc e in
        cc (a, same us vs r)
