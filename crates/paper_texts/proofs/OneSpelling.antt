-- The spelling of a nest with nothing barred: the pieces of an accepted text, in their order, are those of the nest that
-- they make, so a text that is not empty is the spelling of its nest.
-- Main statements: `points_joined`, `accepted_nest_text`, `accepted_text`, `one_nest`, `one_spelling`.
use mathlib.Core.Path.{◌≡◌, refl, sym, ap, ◌∙◌}
use mathlib.Core.Bool.{Bool, true, false, ◌&&◌}
use mathlib.Core.Logic.{◌↔◌, ◌⊎◌, inl, inr}
use mathlib.Core.List.{List, [], ◌∷◌, ◌++◌, append_assoc, append-nil}
use Prim.Native.Nat.{ℕ, suc, ◌+◌, ◌<◌}
use native.Mathlib.Omega.{arith}
use lib.Dec.{eqb, leb}
use lib.ListN.{length, length-append}
use borrow.Author.Tests.{leb-false, eq-eqb, ne_eqb}
use Rattle.laws.specs.Choice.{pick}
use Rattle.laws.proofs.Tests.{never, and_true, or_false}
use Rattle.paper_nests.specs.Kinds.{DO}
use Rattle.paper_nests.specs.Nests.{Dep, Nest, empty, with_point, with_dep, with_bar, with_flagged}
use Rattle.paper_nests.specs.Valid.{are_flags, is_valid}
use Rattle.paper_nests.proofs.Flags.{flags_from, flags_more, flags_flagged}
use Rattle.paper_texts.specs.Pieces.{Piece, Point, Depend, Bar, Flagged, is_past, with_piece}
use Rattle.paper_texts.specs.Pieces.{pieces_text, made_from, made_of}
use Rattle.paper_texts.specs.NestTexts.{Got, got, blank, read_nest}
use Rattle.paper_texts.specs.NestTexts.{Spells, Means, point_pieces, dep_pieces, bar_pieces, pieces_of, nest_text}
use Rattle.paper_texts.proofs.Spelled.{grown, InOrder, point_early, flagged_early, order_rest, start_order, valid_accepted}
use Rattle.paper_texts.proofs.Accepted.{text_accepted, meaning_accepted, accepted_means}

-- the pieces of two runs of points, one behind the other
pub points_joined
    : (i j : ℕ) (ps qs fs gs : List ℕ)
    → j ≡ i + length ps
    → are_flags i ps fs ≡ true
    → are_flags j qs gs ≡ true
    → point_pieces i (ps ++ qs) (fs ++ gs) ≡ point_pieces i ps fs ++ point_pieces j qs gs
unfolding point_pieces
points_joined i j [] qs [] gs at h k = let same : j ≡ i = omega (arith, at) in rw same
points_joined i j [] qs (f ∷ fs) gs at h k = never h
points_joined i j (p ∷ ps) qs [] [] at h k =
    ap (λ (xs : List Piece). Point p ∷ xs) (points_joined (suc i) j ps qs [] [] (omega (arith, at)) refl refl)
points_joined i j (p ∷ ps) qs [] (g ∷ gs) at h k =
    let later = ne_eqb i g (λ z. omega (arith, z, at, flags_from j qs g gs k)) in
    rw later
    (ap (λ (xs : List Piece). Point p ∷ xs) (points_joined (suc i) j ps qs [] (g ∷ gs) (omega (arith, at)) refl k))
points_joined i j (p ∷ ps) qs (f ∷ fs) gs at h k =
    let next : j ≡ suc i + length ps = omega (arith, at) in
    both (eqb i f) h (λ z. points_joined (suc i) j ps qs fs gs next z k)
    (λ z. points_joined (suc i) j ps qs (f ∷ fs) gs next z k)
  where
    both
        : (t : Bool)
        → pick t (eqb p DO && are_flags (suc i) ps fs) (are_flags (suc i) ps (f ∷ fs)) ≡ true
        → (are_flags (suc i) ps fs ≡ true
        → point_pieces (suc i) (ps ++ qs) (fs ++ gs) ≡ point_pieces (suc i) ps fs ++ point_pieces j qs gs)
        → (are_flags (suc i) ps (f ∷ fs) ≡ true
        → point_pieces (suc i) (ps ++ qs) (f ∷ (fs ++ gs)) ≡ point_pieces (suc i) ps (f ∷ fs) ++ point_pieces j qs gs)
        → pick t (Flagged ∷ point_pieces (suc i) (ps ++ qs) (fs ++ gs))
        (Point p ∷ point_pieces (suc i) (ps ++ qs) (f ∷ (fs ++ gs)))
        ≡ pick t (Flagged ∷ point_pieces (suc i) ps fs) (Point p ∷ point_pieces (suc i) ps (f ∷ fs)) ++ point_pieces j qs gs
    both true w a b =
        ap (λ (xs : List Piece). Flagged ∷ xs) (a (and_true (eqb p DO) (are_flags (suc i) ps fs) w).1)
    both false w a b = ap (λ (xs : List Piece). Point p ∷ xs) (b w)

-- pieces in order are those of the nest that they make, behind those of the nest before
module _ (ps fs : List ℕ) (flags : are_flags 0 ps fs ≡ true) where
  point_pieces_more : (p : ℕ) → point_pieces 0 (ps ++ (p ∷ [])) fs ≡ point_pieces 0 ps fs ++ (Point p ∷ [])
  unfolding point_pieces
  point_pieces_more p =
      ap (point_pieces 0 (ps ++ (p ∷ []))) (sym (append-nil fs))
      ∙ points_joined 0 (length ps) ps (p ∷ []) fs [] (omega arith) flags refl

  flagged_pieces_more
      : point_pieces 0 (ps ++ (DO ∷ [])) (fs ++ (length ps ∷ [])) ≡ point_pieces 0 ps fs ++ (Flagged ∷ [])
  unfolding point_pieces
  flagged_pieces_more =
      let here = eq-eqb (length ps) (length ps) refl in
      rw here at (points_joined 0 (length ps) ps (DO ∷ []) fs (length ps ∷ []) (omega arith) flags (rw here))

dep_pieces_more : (ds : List Dep) (e : Dep) → dep_pieces (ds ++ (e ∷ [])) ≡ dep_pieces ds ++ (Depend e ∷ [])
unfolding dep_pieces
dep_pieces_more [] e = refl
dep_pieces_more (x ∷ ds) e = rw (dep_pieces_more ds e)

no_dep_pieces : (ds : List Dep) → leb 1 (length ds) ≡ false → dep_pieces ds ≡ []
unfolding dep_pieces
no_dep_pieces [] h = refl
no_dep_pieces (e ∷ ds) h = absurd (omega (arith, leb-false 1 (suc (length ds)) h))

no_deps_early : (n : Nest) → is_past n ≡ false → dep_pieces n.deps ≡ []
no_deps_early n early =
    no_dep_pieces n.deps (or_false (leb 1 (length n.deps)) (leb 1 (length n.barred)) early).0

-- nothing was barred before where nothing is barred behind
none_before : (n : Nest) (xs : List Piece) → (made_from n xs).barred ≡ [] → n.barred ≡ []
none_before n xs h =
    let g = grown n xs in
    front_none n.barred g.more_bars (sym g.bars_are ∙ h)
  where
    front_none : (bs cs : List ℕ) → bs ++ cs ≡ [] → bs ≡ []
    front_none [] cs e = refl
    front_none (b ∷ bs) cs e = let z : ◌≡◌ {A = ℕ} 0 1 = cc e in absurd (omega arith)

some_barred : (n : Nest) (g : ℕ) → (with_bar n g).barred ≡ [] → ⊥
some_barred n g h = omega (arith, ap length h, length-append n.barred (g ∷ []))

module _ (n : Nest) (none : n.barred ≡ []) where
  no_bar_pieces : bar_pieces n.barred ≡ []
  unfolding bar_pieces
  no_bar_pieces = ap bar_pieces none

  -- so its pieces are points and dependences
  two_kinds : pieces_of n ≡ point_pieces 0 n.points n.flagged ++ dep_pieces n.deps
  two_kinds = rw (no_bar_pieces, append-nil (dep_pieces n.deps))

piece_more
    : (n : Nest) (x : Piece) (xs : List Piece)
    → InOrder n (x ∷ xs)
    → (with_piece n x).barred ≡ []
    → n.barred ≡ []
    → are_flags 0 n.points n.flagged ≡ true
    → pieces_of (with_piece n x) ≡ pieces_of n ++ (x ∷ [])
piece_more n (Point k) xs o after before flags =
    let points = point_pieces 0 n.points n.flagged in
    two_kinds (with_point n k) before ∙
    rw (
      two_kinds n before,
      no_deps_early n (point_early n k xs o),
      point_pieces_more n.points n.flagged flags k,
      append-nil points,
      append-nil (points ++ (Point k ∷ [])),
    )
piece_more n Flagged xs o after before flags =
    let points = point_pieces 0 n.points n.flagged in
    two_kinds (with_flagged n) before ∙
    rw (
      two_kinds n before,
      no_deps_early n (flagged_early n xs o),
      flagged_pieces_more n.points n.flagged flags,
      append-nil points,
      append-nil (points ++ (Flagged ∷ [])),
    )
piece_more n (Depend e) xs o after before flags =
    let same = append_assoc (point_pieces 0 n.points n.flagged) (dep_pieces n.deps) (Depend e ∷ []) in
    two_kinds (with_dep n e) before ∙ rw (two_kinds n before, dep_pieces_more n.deps e) (sym same)
piece_more n (Bar g) xs o after before flags = absurd (some_barred n g after)

piece_flags
    : (n : Nest) (x : Piece)
    → are_flags 0 n.points n.flagged ≡ true
    → are_flags 0 (with_piece n x).points (with_piece n x).flagged ≡ true
piece_flags n (Point k) h = flags_more n.points k n.flagged h
piece_flags n Flagged h = flags_flagged n.points n.flagged h
piece_flags n (Depend e) h = h
piece_flags n (Bar g) h = h

ordered_made
    : (n : Nest) (xs : List Piece)
    → InOrder n xs
    → (made_from n xs).barred ≡ []
    → are_flags 0 n.points n.flagged ≡ true
    → pieces_of (made_from n xs) ≡ pieces_of n ++ xs
ordered_made n [] o none flags = sym (append-nil (pieces_of n))
ordered_made n (x ∷ xs) o none flags =
    let after = none_before (with_piece n x) xs none in
    let before = none_before n (x ∷ xs) none in
    ordered_made (with_piece n x) xs (order_rest n x xs o) none (piece_flags n x flags)
    ∙ rw (piece_more n x xs o after before flags) (append_assoc (pieces_of n) (x ∷ []) xs)

spells_text : (s : List ℕ) (n : Nest) → n.barred ≡ [] → Spells s n → s ≡ nest_text n
unfolding nest_text point_pieces dep_pieces bar_pieces
spells_text s n none h =
    let plain : (made_of h.pieces).barred ≡ [] = ap (λ (m : Nest). m.barred) (sym h.nest_is) ∙ none in
    let same : pieces_of (made_of h.pieces) ≡ h.pieces =
    ordered_made empty h.pieces (start_order h.pieces h.ordered) plain refl in
    h.text ∙ ap pieces_text (sym same) ∙ ap (λ (m : Nest). pieces_text (pieces_of m)) (sym h.nest_is)

-- so a text is accepted with a nest that has nothing barred exactly where it is empty and the nest is 01, 02, or the
-- nest is valid and the text is its spelling
pub accepted_nest_text
    : (s : List ℕ) (n : Nest)
    → n.barred ≡ []
    → (read_nest s ≡ got 0 0 n) ↔ (((s ≡ []) × (n ≡ blank)) ⊎ ((is_valid n ≡ true) × (s ≡ nest_text n)))
accepted_nest_text s n none = (λ h. to (text_accepted s n h), from)
  where
    to : Means s n → ((s ≡ []) × (n ≡ blank)) ⊎ ((is_valid n ≡ true) × (s ≡ nest_text n))
    to (inl e) = inl e
    to (inr h) = inr (h.valid, spells_text s n none h)

    from : ((s ≡ []) × (n ≡ blank)) ⊎ ((is_valid n ≡ true) × (s ≡ nest_text n)) → read_nest s ≡ got 0 0 n
    from (inl e) = meaning_accepted s n (inl e)
    from (inr h) = rw h.1 (valid_accepted n h.0)

-- a text that is accepted and not empty is the spelling of its nest
pub accepted_text
    : (s : List ℕ)
    → 0 < length s
    → (read_nest s).number ≡ 0
    → (read_nest s).nest_is.barred ≡ []
    → s ≡ nest_text (read_nest s).nest_is
accepted_text s some h none = go (accepted_means s h)
  where
    go : Means s (read_nest s).nest_is → s ≡ nest_text (read_nest s).nest_is
    go (inl e) = absurd (omega (arith, ap length e.0))
    go (inr e) = spells_text s (read_nest s).nest_is none e

-- a valid nest is the only one with its spelling; of texts that are not empty no two give the same nest with nothing
-- barred
pub one_nest : (n m : Nest) → is_valid n ≡ true → is_valid m ≡ true → nest_text n ≡ nest_text m → n ≡ m
one_nest n m v w h =
    let same : got 0 0 n ≡ got 0 0 m = sym (valid_accepted n v) ∙ ap read_nest h ∙ valid_accepted m w in
    ap (λ (g : Got). g.nest_is) same

pub one_spelling
    : (s t : List ℕ)
    → 0 < length s
    → 0 < length t
    → (read_nest s).number ≡ 0
    → (read_nest t).number ≡ 0
    → (read_nest s).nest_is ≡ (read_nest t).nest_is
    → (read_nest s).nest_is.barred ≡ []
    → s ≡ t
one_spelling s t x y a b h none =
    let plain : (read_nest t).nest_is.barred ≡ [] = ap (λ (n : Nest). n.barred) (sym h) ∙ none in
    accepted_text s x a none ∙ ap nest_text h ∙ sym (accepted_text t y b plain)
