-- The flags that a nest keeps are the lines 04 of its text.
-- Main statements: `flags_made`, `made_flags`, `flags_kept`.
use mathlib.Core.Path.{◌≡◌, refl, sym, ◌∙◌, ap, subst}
use mathlib.Core.Bool.{Bool, true, false, ◌&&◌}
use mathlib.Core.List.{List, [], ◌∷◌, ◌++◌}
use mathlib.Core.Logic.{◌⊎◌, inl, inr, ⊎_elim, ◌↔◌}
use Prim.Native.Nat.{ℕ, zero, suc, ◌+◌}
use native.Mathlib.Omega.{arith}
use lib.Dec.{eqb}
use lib.ListN.{length, length-append}
use Rattle.laws.specs.Choice.{pick, is_in}
use Rattle.laws.proofs.Members.{in_here, in_cons}
use Rattle.laws.proofs.Tests.{never, and_true}
use Rattle.paper_nests.specs.Kinds.{INDEPENDENT}
use Rattle.paper_nests.specs.Nests.{Dep, Nest, empty, with_point, with_dep, with_bar, with_flagged}
use Rattle.paper_nests.specs.Valid.{is_valid}
use Rattle.paper_lines.proofs.Spelling.{are_bytes}
use Rattle.paper_texts.specs.Pieces.{Piece, Point, Depend, Bar, Flagged, is_point, piece_frame, dep_frame, no_first}
use Rattle.paper_texts.specs.Pieces.{is_ordered, made_from}
use Rattle.paper_texts.specs.NestTexts as T
use Rattle.paper_texts.proofs.Accepted.{accepted_means}
use Rattle.paper_texts.proofs.Pieces.{is_piece, are_pieces, frames_for}
use Rattle.paper_texts.proofs.Spelled.{pieces_good, start_order}
use Rattle.desk.specs.declared.Desk as DD
use Rattle.desk.proofs.Made.{since_holds}
use Rattle.call_join.proofs.BothLists.{in_both, in-front, in_back}
use Rattle.pages.specs.Demands.{At, In, Frames, Lines, Since}
use Rattle.pages.proofs.Lists.{in_is, is-in}
use Rattle.pages.proofs.Spelling.{lines_are}
use Rattle.pages.proofs.Texts.{pieces_frames, good_frames}
use Rattle.pages.proofs.Desks.{since_is}
use Rattle.pages_requests.proofs.BarredTexts.{one_frames}
use Rattle.pages_calls.specs.MissingRuns.{flags_in}

-- a frame that is no line 04
point_not : (k : ℕ) → is_point k ≡ true → (k ∷ []) ≡ (4 ∷ []) → ⊥
point_not k h e =
    let z : k ≡ 4 = cc e in
    never (subst (λ (x : ℕ). is_point x ≡ true) z h)

dep_not : (e : Dep) → dep_frame e ≡ (4 ∷ []) → ⊥
dep_not e = go (eqb e.kind INDEPENDENT)
  where
    go : (t : Bool) → pick t (17 ∷ (e.s ∷ (e.t ∷ []))) (18 ∷ (e.d ∷ (e.s ∷ (e.t ∷ [])))) ≡ (4 ∷ []) → ⊥
    go true q = let z : ◌≡◌ {A = ℕ} 17 4 = cc q in omega arith
    go false q = let z : ◌≡◌ {A = ℕ} 18 4 = cc q in omega arith

bar_not : (g : ℕ) → (19 ∷ (g ∷ [])) ≡ (4 ∷ []) → ⊥
bar_not g q = let z : ◌≡◌ {A = ℕ} 19 4 = cc q in omega arith

-- behind the points nothing is flagged
rest_flags : (n : Nest) (xs : List Piece) → no_first xs ≡ true → (made_from n xs).flagged ≡ n.flagged
rest_flags n [] h = refl
rest_flags n (Point k ∷ xs) h = never h
rest_flags n (Flagged ∷ xs) h = never h
rest_flags n (Depend e ∷ xs) h = rest_flags (with_dep n e) xs h
rest_flags n (Bar g ∷ xs) h = rest_flags (with_bar n g) xs h

rest_none : (xs : List Piece) → no_first xs ≡ true → (j : ℕ) → At (frames_for xs) j (4 ∷ []) → ⊥
rest_none [] h j a = a
rest_none (Point k ∷ xs) h j a = never h
rest_none (Flagged ∷ xs) h j a = never h
rest_none (Depend e ∷ xs) h zero a = dep_not e a
rest_none (Bar g ∷ xs) h zero a = bar_not g a
rest_none (Depend e ∷ xs) h (suc j) a = rest_none xs h j a
rest_none (Bar g ∷ xs) h (suc j) a = rest_none xs h j a

-- flagged before, or by line j of those that follow
abbrev FlaggedBy : Nest → List Piece → ℕ → Type 0
FlaggedBy n xs l =
    (is_in l n.flagged ≡ true) ⊎ ((j : ℕ) × ((l ≡ length n.points + j) × At (frames_for xs) j (4 ∷ [])))

one_more : (ps : List ℕ) (k j : ℕ) → length (ps ++ (k ∷ [])) + j ≡ length ps + suc j
one_more ps k j = omega (arith, length-append ps (k ∷ []))

made_flags
    : (n : Nest) (xs : List Piece) → is_ordered xs ≡ true → (l : ℕ) → is_in l (made_from n xs).flagged ≡ true
    → FlaggedBy n xs l
made_flags n [] o l h = inl h
made_flags n (Point k ∷ xs) o l h =
    ⊎_elim
    (λ (z : is_in l n.flagged ≡ true). inl z)
    (λ z. inr (suc z.0, (z.1.0 ∙ one_more n.points k z.0, z.1.1)))
    (made_flags (with_point n k) xs o l h)
made_flags n (Flagged ∷ xs) o l h =
    ⊎_elim
    (λ (z : is_in l (n.flagged ++ (length n.points ∷ [])) ≡ true).
    ⊎_elim
    (λ (y : is_in l n.flagged ≡ true). inl y)
    (λ (y : is_in l (length n.points ∷ []) ≡ true).
    inr (
      0,
      (
        ⊎_elim (λ (w : l ≡ length n.points). omega arith) (λ (w : is_in l [] ≡ true). never w)
            (in_cons l (length n.points) [] y),
        refl,
      ),
    ))
    (in_both l n.flagged (length n.points ∷ []) z))
    (λ z. inr (suc z.0, (z.1.0 ∙ one_more n.points 1 z.0, z.1.1)))
    (made_flags (with_flagged n) xs o l h)
made_flags n (Depend e ∷ xs) o l h =
    inl (subst (λ (x : List ℕ). is_in l x ≡ true)
    (rest_flags (with_dep n e) xs (and_true (no_first xs) (is_ordered xs) o).0) h)
made_flags n (Bar g ∷ xs) o l h =
    inl (subst (λ (x : List ℕ). is_in l x ≡ true)
    (rest_flags (with_bar n g) xs (and_true (no_first xs) (is_ordered xs) o).0) h)

flags_made
    : (n : Nest) (xs : List Piece) → is_ordered xs ≡ true → are_pieces xs ≡ true → (l : ℕ) → FlaggedBy n xs l
    → is_in l (made_from n xs).flagged ≡ true
flags_made n [] o g l (inl h) = h
flags_made n [] o g l (inr h) = absurd h.1.1
flags_made n (Point k ∷ xs) o g l h =
    let a = and_true (is_piece (Point k) && are_bytes (piece_frame (Point k))) (are_pieces xs) g in
    flags_made (with_point n k) xs o a.1 l (go (and_true (is_point k) (are_bytes (k ∷ [])) a.0).0 h)
  where
    go : is_point k ≡ true → FlaggedBy n (Point k ∷ xs) l → FlaggedBy (with_point n k) xs l
    go p (inl z) = inl z
    go p (inr (zero, z)) = absurd (point_not k p z.1)
    go p (inr (suc j, z)) = inr (j, (z.0 ∙ sym (one_more n.points k j), z.1))
flags_made n (Flagged ∷ xs) o g l h =
    let a = and_true (is_piece Flagged && are_bytes (piece_frame Flagged)) (are_pieces xs) g in
    flags_made (with_flagged n) xs o a.1 l (go h)
  where
    go : FlaggedBy n (Flagged ∷ xs) l → FlaggedBy (with_flagged n) xs l
    go (inl z) = inl (in-front l n.flagged (length n.points ∷ []) z)
    go (inr (zero, z)) =
        let e : l ≡ length n.points = omega (arith, z.0) in
        inl
        (in_back l n.flagged (length n.points ∷ [])
        (subst (λ (x : ℕ). is_in x (length n.points ∷ []) ≡ true) (sym e) (in_here (length n.points) [])))
    go (inr (suc j, z)) = inr (j, (z.0 ∙ sym (one_more n.points 1 j), z.1))
flags_made n (Depend e ∷ xs) o g l h =
    let w = (and_true (no_first xs) (is_ordered xs) o).0 in
    subst (λ (x : List ℕ). is_in l x ≡ true) (sym (rest_flags (with_dep n e) xs w))
    (⊎_elim
    (λ (z : is_in l n.flagged ≡ true). z)
    (λ z. absurd (rest_none (Depend e ∷ xs) w z.0 z.1.1))
    h)
flags_made n (Bar i ∷ xs) o g l h =
    let w = (and_true (no_first xs) (is_ordered xs) o).0 in
    subst (λ (x : List ℕ). is_in l x ≡ true) (sym (rest_flags (with_bar n i) xs w))
    (⊎_elim
    (λ (z : is_in l n.flagged ≡ true). z)
    (λ z. absurd (rest_none (Bar i ∷ xs) w z.0 z.1.1))
    h)

pub text_flags
    : (t : List ℕ) (n : Nest) → T.Means t n → (fs : Frames) → Lines t fs → (l : ℕ)
    → (is_in l n.flagged ≡ true) ↔ At fs l (4 ∷ [])
text_flags t n (inl h) fs q l =
    let a = lines_are t fs q in
    let e = one_frames t fs [] q refl h.0 in (
      (λ z. never (subst (λ (x : Nest). is_in l x.flagged ≡ true) h.1 z)),
      (λ z. absurd (subst (λ (x : Frames). At x l (4 ∷ [])) e z)),
    )
text_flags t n (inr h) fs q l =
    let xs = h.pieces in
    let good = pieces_good empty xs (start_order xs h.ordered) (ap is_valid (sym h.nest_is) ∙ h.valid) in
    let e = one_frames t fs (frames_for xs) q (good_frames xs good) (h.text ∙ pieces_frames xs) in (
      (λ z. to e (made_flags empty xs h.ordered l
          (subst (λ (x : Nest). is_in l x.flagged ≡ true) h.nest_is z))),
      (λ z.
          subst (λ (x : Nest). is_in l x.flagged ≡ true) (sym h.nest_is)
          (flags_made empty xs h.ordered good l
          (inr (l, (omega arith, subst (λ (x : Frames). At x l (4 ∷ [])) e z))))),
    )
  where
    to : fs ≡ frames_for h.pieces → FlaggedBy empty h.pieces l → At fs l (4 ∷ [])
    to e (inl z) = never z
    to e (inr (j, (z, a))) =
        let y : j ≡ l = omega (arith, z) in
        subst (λ (x : Frames). At x l (4 ∷ [])) (sym e) (subst (λ (i : ℕ). At (frames_for h.pieces) i (4 ∷ [])) y a)

pub flags_kept
    : (t : List ℕ) (d : DD.Desk) (fs : Frames) (l : ℕ) → Since t d → Lines t fs
    → In l (flags_in d.nest) ↔ At fs l (4 ∷ [])
flags_kept t d fs l q h =
    let s = since_holds t d (since_is t d q) in
    let w = text_flags t (T.read_nest t).nest_is (accepted_means t s.accepted) fs h l in
    let e : flags_in d.nest ≡ (T.read_nest t).nest_is.flagged = ap (λ (n : Nest). n.flagged) s.nest_is in (
      (λ i. w.0 (subst (λ (x : List ℕ). is_in l x ≡ true) e (in_is l (flags_in d.nest) i.0 i.1))),
      (λ a. is-in l (flags_in d.nest) (subst (λ (x : List ℕ). is_in l x ≡ true) (sym e) (w.1 a))),
    )
