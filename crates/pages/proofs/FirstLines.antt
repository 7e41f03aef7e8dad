-- The first line of a text on the page of the numbers is the first that the project reads, and what is wrong with it is
-- what the project's 1 to 8 and 14 say.
-- Main statements: `first_split`, `first_there`, `good_spelled`, `spelled_good`, `line_decided`.
use mathlib.Core.Path.{◌≡◌, refl, sym, ◌∙◌, ap, subst}
use mathlib.Core.Bool.{Bool, true, false, not}
use mathlib.Core.List.{List, [], ◌∷◌, ◌++◌}
use mathlib.Core.Logic.{◌⊎◌, inl, inr, ⊎_elim}
use Prim.{tt}
use Prim.Native.Nat.{ℕ, suc, ◌≤◌}
use native.Mathlib.Omega.{arith}
use lib.Dec.{eqb}
use lib.ListN.{length}
use borrow.Author.Tests.{ne_eqb, eqb-true, eqb-false, le-leb}
use Rattle.laws.specs.Choice.{when, first_of}
use Rattle.laws.proofs.Tests.{never_both}
use Rattle.laws.proofs.Ranges.{in_between, between_in}
use Rattle.paper_nests.specs.declared.Dependence as DE
use Rattle.paper_nests.specs.Nests.{Dep, Nest}
use Rattle.paper_nests.specs.Stored.{dep_in}
use Rattle.paper_lines.specs.Lines as L
use Rattle.paper_lines.specs.Lines.{FEED, lines_of, is_good, frame_of, digits_of}
use Rattle.paper_lines.proofs.Spelling.{line_bytes, line_first, digits_good, frame_digits, good_line, good_bytes}
use Rattle.paper_texts.specs.Pieces as T
use Rattle.paper_texts.specs.Pieces.{Piece, Point, Depend, Bar, Flagged, piece_of, piece_frame}
use Rattle.paper_texts.specs.NestTexts.{frame_fault, with_frame, line_fault}
use Rattle.paper_texts.proofs.Pieces.{is_piece, told_by, DepSort, run, carry, dep_sort}
use Rattle.pages.specs.Demands.{Paper, Line, Told, Means}
use Rattle.pages.specs.Numbers.{Breaks, LineBreaks, First, added}
use Rattle.pages.proofs.Placements.{mapped, nest_of}
use Rattle.pages.proofs.Spelling.{line_made, line_is}
use Rattle.pages.proofs.Misfits.{misfit_big}
use Rattle.pages.proofs.Breaking.{word_fault, So-far, Known, breaks_decided}
use Rattle.pages.proofs.Chains.{Upto, Decides}

-- ---- the first line

pub record Split (s l rest : List ℕ) : Type 0 where
  pub whole : s ≡ l ++ rest
  pub line : L.Line
  pub lines : lines_of s ≡ line ∷ lines_of rest
  pub bytes : line_bytes line ≡ l

pub first_split : (s l rest : List ℕ) → First s l rest → Split s l rest
unfolding lines_of
first_split s l rest First.feed = record { whole = refl; line = L.line [] true; lines = refl; bytes = refl }
first_split s l rest (First.last {b = b} h) =
    record { whole = refl; line = L.line (b ∷ []) false; lines = rw (ne_eqb b FEED h); bytes = refl }
first_split s l rest (First.more {b = b} {s = t} {l = m} h f) =
    let r = first_split t m rest f in
    record {
      whole = ap (λ (x : List ℕ). b ∷ x) r.whole;
      line = L.line (b ∷ r.line.bytes) r.line.ended;
      lines = rw (ne_eqb b FEED h, r.lines);
      bytes = ap (λ (x : List ℕ). b ∷ x) r.bytes;
    }

-- a text that is not empty has one
pub record There (s : List ℕ) : Type 0 where
  pub l : List ℕ
  pub rest : List ℕ
  pub first : First s l rest

pub first_there : (b : ℕ) (s : List ℕ) → There (b ∷ s)
first_there b [] = go (eqb b 10) refl
  where
    go : (t : Bool) → eqb b 10 ≡ t → There (b ∷ [])
    go true e =
        subst (λ (x : ℕ). There (x ∷ [])) (sym (eqb-true b 10 e))
        (record { l = 10 ∷ []; rest = []; first = First.feed })
    go false e = record { l = b ∷ []; rest = []; first = First.last (eqb-false b 10 e) }
first_there b (c ∷ s) = go (eqb b 10) refl (first_there c s)
  where
    go : (t : Bool) → eqb b 10 ≡ t → There (c ∷ s) → There (b ∷ c ∷ s)
    go true e r =
        subst (λ (x : ℕ). There (x ∷ c ∷ s)) (sym (eqb-true b 10 e))
        (record { l = 10 ∷ []; rest = c ∷ s; first = First.feed })
    go false e r = record { l = b ∷ r.l; rest = r.rest; first = First.more (eqb-false b 10 e) r.first }

-- ---- good lines

module _ (s l rest : List ℕ) (x : Split s l rest) where
  abbrev here : L.Line
  here = x.line

  -- the line that a frame spells is the one that is read
  pub line_same : (f : List ℕ) → Line l f → here ≡ L.line (digits_of f) true
  line_same f h =
      let i = line_is l f h in
      let e : lines_of s ≡ L.line (digits_of f) true ∷ lines_of rest =
      ap lines_of (x.whole ∙ ap (λ (y : List ℕ). y ++ rest) i.0) ∙ line_first f rest i.1 in
      head here (L.line (digits_of f) true) (lines_of rest) (lines_of rest) (sym x.lines ∙ e)
    where
      head : (a b : L.Line) (xs ys : List L.Line) → a ∷ xs ≡ b ∷ ys → a ≡ b
      head a b xs ys e = cc e

  pub frame_same : (f : List ℕ) → Line l f → frame_of here.bytes ≡ f
  frame_same f h =
      ap (λ (y : L.Line). frame_of y.bytes) (line_same f h) ∙ frame_digits f (line_is l f h).1

  pub spelled_good : (b : ℕ) (f : List ℕ) → Line l (b ∷ f) → is_good here ≡ true
  spelled_good b f h =
      ap is_good (line_same (b ∷ f) h) ∙
      digits_good (b ∷ f) (line_is l (b ∷ f) h).1 (le-leb 1 (suc (length f)) (omega arith))

  pub good_spelled : is_good here ≡ true → Line l (frame_of here.bytes)
  good_spelled g =
      subst (λ (y : List ℕ). Line y (frame_of here.bytes)) (sym (good_bytes here g) ∙ x.bytes)
      (line_made (frame_of here.bytes) (good_line here g).bytes)

  -- its frame is not empty
  pub good_some : is_good here ≡ true → (b : ℕ) × ((f : List ℕ) × (frame_of here.bytes ≡ b ∷ f))
  good_some g = go (frame_of here.bytes) (good_line here g).some
    where
      go : (f : List ℕ) → 1 ≤ length f → (b : ℕ) × ((r : List ℕ) × (f ≡ b ∷ r))
      go [] l = absurd (omega arith)
      go (b ∷ r) l = (b, (r, refl))

-- ---- what a frame tells

pub means_fault : (p : Paper) (fl f : List ℕ) (w : Told) → Means f w → frame_fault (nest_of p fl) f ≡ word_fault p w
means_fault p fl f w (Means.point {k = k} a b) = rw (between_in 1 k 3 a b)
means_fault p fl f w Means.flagged = refl
means_fault p fl f w Means.line = refl
means_fault p fl f w Means.round = refl
means_fault p fl f w Means.bar = refl

mapped_more : (xs : List DE.Dependence) (x : DE.Dependence) → mapped (xs ++ (x ∷ [])) ≡ mapped xs ++ (dep_in x ∷ [])
mapped_more [] x = refl
mapped_more (y ∷ ys) x = ap (λ (l : List Dep). dep_in y ∷ l) (mapped_more ys x)

pub means_adds
    : (p : Paper) (fl f : List ℕ) (w : Told) → Means f w
    → (gl : List ℕ) × (with_frame (nest_of p fl) f ≡ nest_of (added p w) gl)
means_adds p fl f w (Means.point {k = k} a b) = (fl, rw (between_in 1 k 3 a b))
means_adds p fl f w Means.flagged = (fl ++ (length p.points ∷ []), refl)
means_adds p fl f w (Means.line {s = s} {t = t}) =
    (fl, rw (mapped_more p.deps (record { kind = 17; d = 0; s = s; t = t })))
means_adds p fl f w (Means.round {d = d} {s = s} {t = t}) =
    (fl, rw (mapped_more p.deps (record { kind = 18; d = d; s = s; t = t })))
means_adds p fl f w Means.bar = (fl, refl)

pub means_known : (f : List ℕ) (w : Told) → Means f w → Known w
means_known f w (Means.point a b) = tt
means_known f w Means.flagged = tt
means_known f w Means.line = inl refl
means_known f w Means.round = inr refl
means_known f w Means.bar = tt

-- a frame tells something, or is not known to the project
pub meant : (f : List ℕ) → ((w : Told) × Means f w) ⊎ (piece_of f ≡ T.unknown)
meant f = told_by (λ (t : T.Told). ((w : Told) × Means f w) ⊎ (t ≡ T.unknown)) f (λ x g e. inl (by x g e)) (inr refl)
  where
    sort : (e : Dep) → DepSort e → f ≡ piece_frame (Depend e) → (w : Told) × Means f w
    sort e (run s t) q = (Told.dependence (record { kind = 17; d = 0; s = s; t = t }), rw q Means.line)
    sort e (carry d s t) q = (Told.dependence (record { kind = 18; d = d; s = s; t = t }), rw q Means.round)

    by : (x : Piece) → is_piece x ≡ true → f ≡ piece_frame x → (w : Told) × Means f w
    by (Point k) g q = let z = in_between 1 k 3 g in (Told.point k, rw q (Means.point z.0 z.1))
    by (Depend e) g q = sort e (dep_sort e g) q
    by (Bar i) g q = (Told.bar i, rw q Means.bar)
    by Flagged g q = (Told.point 1, rw q Means.flagged)

pub not_meant : (f : List ℕ) (w : Told) → Means f w → piece_of f ≡ T.unknown → ⊥
not_meant f w (Means.point {k = k} a b) e =
    let z : T.told (Point k) ≡ T.unknown = rw (between_in 1 k 3 a b) at e in
    let y : ◌≡◌ {A = ℕ} 0 1 = cc z in
    omega arith
not_meant f w Means.flagged e = let y : ◌≡◌ {A = ℕ} 0 1 = cc e in omega arith
not_meant f w Means.line e = let y : ◌≡◌ {A = ℕ} 0 1 = cc e in omega arith
not_meant f w Means.round e = let y : ◌≡◌ {A = ℕ} 0 1 = cc e in omega arith
not_meant f w Means.bar e = let y : ◌≡◌ {A = ℕ} 0 1 = cc e in omega arith

-- ---- what is wrong with a line

breaks_big : (p : Paper) (w : Told) (n : ℕ) → Breaks p w n → 3 ≤ n
breaks_big p w n (Breaks.late h) = omega arith
breaks_big p w n (Breaks.first e h) = omega arith
breaks_big p w n (Breaks.after c) = omega arith
breaks_big p w n (Breaks.points l) = omega arith
breaks_big p w n (Breaks.deep o l) = omega arith
breaks_big p w n (Breaks.early h) = omega arith
breaks_big p w n (Breaks.deps l) = omega arith
breaks_big p w n (Breaks.misfit {x = x} m) = omega (arith, misfit_big p.points x n m)
breaks_big p w n (Breaks.bar_early h) = omega arith
breaks_big p w n (Breaks.bars l) = omega arith
breaks_big p w n (Breaks.range h) = omega arith
breaks_big p w n (Breaks.several h) = omega arith

line_big : (p : Paper) (l : List ℕ) (n : ℕ) → LineBreaks p l n → 1 ≤ n
line_big p l n (LineBreaks.spelling h) = omega arith
line_big p l n (LineBreaks.unknown b f h m) = omega arith
line_big p l n (LineBreaks.rule f w h m b) = omega (arith, breaks_big p w n b)

module _ (s l rest : List ℕ) (x : Split s l rest) (p : Paper) (fl : List ℕ) (so : So-far p.points) where
  abbrev line : L.Line
  line = x.line

  abbrev frame : List ℕ
  frame = frame_of line.bytes

  abbrev nest : Nest
  nest = nest_of p fl

  pub line_decided : Decides (LineBreaks p l) (line_fault nest line)
  line_decided = go (is_good line) refl
    where
      -- a line that spells no frame
      misspelled : is_good line ≡ false → Decides (LineBreaks p l) (first_of 1 (frame_fault nest frame))
      misspelled e =
          record {
            found = λ h. LineBreaks.spelling (λ b f i. never_both (spelled_good s l rest x b f i) e);
            least = λ n w. (omega arith, line_big p l n w);
          }

      -- a frame that is not of a nest text
      strange : is_good line ≡ true → piece_of frame ≡ T.unknown → Decides (LineBreaks p l) (frame_fault nest frame)
      strange g e =
          let two : frame_fault nest frame ≡ 2 = ap (T.told_fault nest) e in
          let c = good_some s l rest x g in
          let spelled : Line l (c.0 ∷ c.1.0) = subst (Line l) c.1.1 (good_spelled s l rest x g) in
          let none : (w : Told) → Means (c.0 ∷ c.1.0) w → ⊥ =
          λ w m. not_meant (c.0 ∷ c.1.0) w m (ap piece_of (sym c.1.1) ∙ e) in
          subst (Decides (LineBreaks p l)) (sym two)
          (record { found = λ h. LineBreaks.unknown c.0 c.1.0 spelled none; least = least g e })
        where
          least : is_good line ≡ true → piece_of frame ≡ T.unknown → (n : ℕ) → LineBreaks p l n → Upto 2 n
          least g e n (LineBreaks.spelling h) =
              let c = good_some s l rest x g in
              absurd (h c.0 c.1.0 (subst (Line l) c.1.1 (good_spelled s l rest x g)))
          least g e n (LineBreaks.unknown b f h m) = (omega arith, omega arith)
          least g e n (LineBreaks.rule f w h m b) = (omega arith, omega (arith, breaks_big p w n b))

      -- a frame of a nest text
      telling
          : is_good line ≡ true → (w : Told) → Means frame w → Decides (LineBreaks p l) (frame_fault nest frame)
      telling g w m =
          let d = breaks_decided p so w (means_known frame w m) in
          let e = means_fault p fl frame w m in
          subst (Decides (LineBreaks p l)) (sym e)
          (record {
            found = λ h. LineBreaks.rule frame w (good_spelled s l rest x g) m
                (d.found h);
            least = least g w m;
          })
        where
          least
              : is_good line ≡ true → (w : Told) → Means frame w → (n : ℕ) → LineBreaks p l n → Upto (word_fault p w) n
          least g w m n (LineBreaks.spelling h) =
              let c = good_some s l rest x g in
              absurd (h c.0 c.1.0 (subst (Line l) c.1.1 (good_spelled s l rest x g)))
          least g w m n (LineBreaks.unknown b f h none) =
              absurd (none w (subst (λ (y : List ℕ). Means y w) (frame_same s l rest x (b ∷ f) h) m))
          least g w m n (LineBreaks.rule f v h k b) =
              let same = frame_same s l rest x f h in
              let i : Means frame v = subst (λ (y : List ℕ). Means y v) (sym same) k in
              let e : word_fault p v ≡ word_fault p w =
              sym (means_fault p fl frame v i) ∙ means_fault p fl frame w m in
              subst (λ (y : ℕ). Upto y n) e ((breaks_decided p so v (means_known frame v i)).least n b)

      go : (t : Bool) → is_good line ≡ t → Decides (LineBreaks p l) (first_of (when (not t) 1) (frame_fault nest frame))
      go false e = misspelled e
      go true e =
          ⊎_elim (λ (z : (w : Told) × Means frame w). telling e z.0 z.1) (λ z. strange e z) (meant frame)
