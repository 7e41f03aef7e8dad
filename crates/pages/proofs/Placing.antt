-- The number and the line of a placement text on the page of the numbers are those that the project reads, and there
-- are no two of them.
-- Main statements: `place_decided`, `place_is`, `is_place`.
use mathlib.Core.Path.{◌≡◌, refl, sym, ◌∙◌, ap, subst}
use mathlib.Core.Bool.{Bool, true, false, ◌&&◌, not}
use mathlib.Core.List.{List, [], ◌∷◌, ◌++◌, append_assoc, append-nil}
use mathlib.Core.Logic.{◌⊎◌, inl, inr, ⊎_elim}
use Prim.Native.Nat.{ℕ, zero, suc, ◌+◌, ◌≤◌, ◌<◌}
use native.Mathlib.Omega.{arith}
use lib.Dec.{eqb, ltb}
use lib.ListN.{length, get_or}
use borrow.Author.Tests.{ne_eqb, eqb-true, ltb-true, lt-ltb, not-true}
use Rattle.laws.specs.Choice.{when, first_of, is_in}
use Rattle.laws.proofs.Tests.{never_both, false_by, lt_by, and_intro, and_true, le_or, eq_or}
use Rattle.laws.proofs.Choices.{when_le, unless_zero}
use Rattle.paper_lines.specs.Lines as L
use Rattle.paper_lines.specs.Lines.{lines_of, is_good, frame_of, line_text}
use Rattle.paper_lines.proofs.Spelling.{are_bytes, frames_text, are_frames}
use Rattle.paper_placements.specs.Placements.{are_gaps_from, is_free, avoids}
use Rattle.paper_texts.specs.PlacementTexts.{BARRIER, placed_fault, Placed, placed, place_lines, read_placement}
use Rattle.paper_texts.proofs.Pieces.{of_two}
use Rattle.paper_texts.proofs.PlacedTexts.{placed_spells, placed_answer}
use Rattle.paper_texts.proofs.ReadsBack.{place_line}
use Rattle.pages.specs.Demands.{In, Rising, Paper, Frames, Line, Lines, barriers, Places}
use Rattle.pages.specs.Numbers.{IsGap, PlaceBreaks, PlaceNumber}
use Rattle.pages.proofs.Lists.{in_is, is-in}
use Rattle.pages.proofs.Placements.{gaps_are, gaps_avoid}
use Rattle.pages.proofs.Spelling.{lines_are}
use Rattle.pages.proofs.Texts.{placed_page}
use Rattle.pages.proofs.Misfits.{not_is, is_not}
use Rattle.pages.proofs.FirstLines.{Split, first_split, There, first_there, frame_same, spelled_good}
use Rattle.pages.proofs.FirstLines.{good_spelled, good_some}
use Rattle.pages.proofs.Chains.{Upto, Decides, first_upto, later_upto, when_upto, first_found, when_found}
use Rattle.pages.proofs.Chains.{lowest_is, is_lowest, none_wrong}

-- ---- the gap before

abbrev pub last_from : ℕ → List ℕ → ℕ
last_from low [] = low
last_from low (g ∷ gs) = last_from g gs

last_up : (n low : ℕ) (gs : List ℕ) → Rising n low gs → low ≤ last_from low gs
last_up n low [] r = omega arith
last_up n low (g ∷ gs) (Rising.more l m r) = omega (arith, last_up n g gs r)

last-most : (n low : ℕ) (gs : List ℕ) (h : ℕ) → Rising n low gs → In h gs → h ≤ last_from low gs
last-most n low [] h r i = absurd i.1
last-most n low (g ∷ gs) h (Rising.more l m r) (zero, e) = omega (arith, last_up n g gs r)
last-most n low (g ∷ gs) h (Rising.more l m r) (suc i, a) = last-most n g gs h r (i, a)

last_in : (low : ℕ) (gs : List ℕ) → (last_from low gs ≡ low) ⊎ In (last_from low gs) gs
last_in low [] = inl refl
last_in low (g ∷ gs) =
    ⊎_elim
    (λ (z : last_from g gs ≡ g). inr (0, sym z))
    (λ (z : In (last_from g gs) gs). inr (suc z.0, z.1))
    (last_in g gs)

-- ---- what is wrong with a line

module _ (s l rest : List ℕ) (x : Split s l rest) (p : Paper) (gs : List ℕ)
    (rising : Rising (length p.points) 0 gs) where
  abbrev line : L.Line
  line = x.line

  abbrev frame : List ℕ
  frame = frame_of line.bytes

  abbrev gap : ℕ
  gap = get_or frame 1 0

  abbrev barrier : Bool
  barrier = eqb (get_or frame 0 0) BARRIER && eqb (length frame) 2

  abbrev ranged : Bool
  ranged = ltb (last_from 0 gs) gap && ltb gap (length p.points)

  abbrev held : Bool
  held = is_in gap p.barred

  abbrev behind : ℕ
  behind = first_of (when (not ranged) 8) (when held 16)

  abbrev number : ℕ
  number = placed_fault (last_from 0 gs) (length p.points) p.barred line

  gap_same : (g : ℕ) → Line l (33 ∷ g ∷ []) → gap ≡ g
  gap_same g h = ap (λ (f : List ℕ). get_or f 1 0) (frame_same s l rest x (33 ∷ g ∷ []) h)

  one_upto : (k n : ℕ) → 1 ≤ n → Upto k n → Upto (first_of (when (not (is_good line)) 1) k) n
  one_upto k n h u =
      later_upto (when (not (is_good line)) 1) k n (omega (arith, when_le (not (is_good line)) 1 1 (omega arith))) u

  within : (g : ℕ) → Line l (33 ∷ g ∷ []) → ranged ≡ true → IsGap p.points g
  within g h z =
      let a = and_true (ltb (last_from 0 gs) gap) (ltb gap (length p.points)) z in
      let e = gap_same g h in
      (omega (arith, ltb-true (last_from 0 gs) gap a.0), omega (arith, ltb-true gap (length p.points) a.1))

  out_of_range : (ranged ≡ true → ⊥) → Upto number 8
  out_of_range z =
      one_upto (first_of (when (not barrier) 2) behind) 8 (omega arith)
      (later_upto (when (not barrier) 2) behind 8 (when_le (not barrier) 2 8 (omega arith))
      (first_upto (when (not ranged) 8) (when held 16) 8
      (when_upto (not ranged) 8 (omega arith) (not_is ranged (false_by z)))))

  least : (n : ℕ) → PlaceBreaks p gs l n → Upto number n
  least n (PlaceBreaks.spelling h) =
      first_upto (when (not (is_good line)) 1) (first_of (when (not barrier) 2) behind) 1
      (when_upto (not (is_good line)) 1 (omega arith) (not_is (is_good line) (false_by (λ g. misspelled g))))
    where
      misspelled : is_good line ≡ true → ⊥
      misspelled g =
          let c = good_some s l rest x g in
          h c.0 c.1.0 (subst (Line l) c.1.1 (good_spelled s l rest x g))
  least n (PlaceBreaks.unknown b f h none) =
      one_upto (first_of (when (not barrier) 2) behind) 2 (omega arith)
      (first_upto (when (not barrier) 2) behind 2
      (when_upto (not barrier) 2 (omega arith) (not_is barrier (false_by (λ z. strange z)))))
    where
      strange : barrier ≡ true → ⊥
      strange z =
          let a = and_true (eqb (get_or frame 0 0) BARRIER) (eqb (length frame) 2) z in
          let two = of_two frame (eqb-true (length frame) 2 a.1) in
          let same : b ∷ f ≡ 33 ∷ gap ∷ [] =
          sym (frame_same s l rest x (b ∷ f) h) ∙ two ∙
          ap (λ (k : ℕ). k ∷ gap ∷ []) (eqb-true (get_or frame 0 0) 33 a.0) in
          none gap same
  least n (PlaceBreaks.range g h none) = out_of_range (λ z. none (within g h z))
  least n (PlaceBreaks.falling g k h i l) =
      out_of_range
      (λ z.
      let a = and_true (ltb (last_from 0 gs) gap) (ltb gap (length p.points)) z in
      let e = gap_same g h in
      omega (arith, ltb-true (last_from 0 gs) gap a.0, last-most (length p.points) 0 gs k rising i))
  least n (PlaceBreaks.barred g h i) =
      one_upto (first_of (when (not barrier) 2) behind) 16 (omega arith)
      (later_upto (when (not barrier) 2) behind 16 (when_le (not barrier) 2 16 (omega arith))
      (later_upto (when (not ranged) 8) (when held 16) 16 (when_le (not ranged) 8 16 (omega arith))
      (when_upto held 16 (omega arith)
      (ap (λ (y : ℕ). is_in y p.barred) (gap_same g h) ∙ in_is g p.barred i.0 i.1))))

  -- a line with a barrier
  pub barrier_line : is_good line ≡ true → barrier ≡ true → Line l (33 ∷ gap ∷ [])
  barrier_line g z =
      let a = and_true (eqb (get_or frame 0 0) BARRIER) (eqb (length frame) 2) z in
      let two = of_two frame (eqb-true (length frame) 2 a.1) in
      let same : frame ≡ 33 ∷ gap ∷ [] = two ∙ ap (λ (k : ℕ). k ∷ gap ∷ []) (eqb-true (get_or frame 0 0) 33 a.0) in
      subst (Line l) same (good_spelled s l rest x g)

  strange : is_good line ≡ true → barrier ≡ false → PlaceBreaks p gs l 2
  strange g z =
      let c = good_some s l rest x g in
      PlaceBreaks.unknown c.0 c.1.0 (subst (Line l) c.1.1 (good_spelled s l rest x g))
      (λ k e. never_both (is_barrier frame k (c.1.1 ∙ e)) z)
    where
      is_barrier : (f : List ℕ) (k : ℕ) → f ≡ 33 ∷ k ∷ [] → (eqb (get_or f 0 0) BARRIER && eqb (length f) 2) ≡ true
      is_barrier f k e = rw e

  not_ranged : is_good line ≡ true → barrier ≡ true → ranged ≡ false → PlaceBreaks p gs l 8
  not_ranged g b z =
      let h = barrier_line g b in
      ⊎_elim
      (λ (y : last_from 0 gs ≡ 0). PlaceBreaks.range gap h
      (λ w. never_both (and_intro (lt-ltb (last_from 0 gs) gap (omega (arith, w.0)))
      (lt-ltb gap (length p.points) w.1)) z))
      (λ (y : In (last_from 0 gs) gs).
      ⊎_elim
      (λ (v : gap ≤ last_from 0 gs). PlaceBreaks.falling gap (last_from 0 gs) h y v)
      (λ (v : last_from 0 gs < gap). PlaceBreaks.range gap h
      (λ w. never_both (and_intro (lt-ltb (last_from 0 gs) gap v) (lt-ltb gap (length p.points) w.1)) z))
      (le_or gap (last_from 0 gs)))
      (last_in 0 gs)

  found : 0 < number → PlaceBreaks p gs l number
  found =
      first_found (PlaceBreaks p gs l) (when (not (is_good line)) 1) (first_of (when (not barrier) 2) behind)
      (when_found (PlaceBreaks p gs l) (not (is_good line)) 1
      (λ z. PlaceBreaks.spelling (λ b f h. never_both (spelled_good s l rest x b f h) (is_not (is_good line) z))))
      (λ z. first_found (PlaceBreaks p gs l) (when (not barrier) 2) behind
      (when_found (PlaceBreaks p gs l) (not barrier) 2
      (λ y. strange (unless_zero (is_good line) 0 z) (is_not barrier y)))
      (λ y. first_found (PlaceBreaks p gs l) (when (not ranged) 8) (when held 16)
      (when_found (PlaceBreaks p gs l) (not ranged) 8
      (λ w. not_ranged (unless_zero (is_good line) 0 z) (unless_zero barrier 1 y) (is_not ranged w)))
      (λ w. when_found (PlaceBreaks p gs l) held 16
      (λ v. PlaceBreaks.barred gap (barrier_line (unless_zero (is_good line) 0 z) (unless_zero barrier 1 y))
      (is-in gap p.barred v)))))

  pub place_decided : Decides (PlaceBreaks p gs l) number
  place_decided = record { found = found; least = least }

-- ---- lines that break no rule

Placed-on
    : (k low n : ℕ) (bs gs hs w : List ℕ) → are_frames (barriers hs) ≡ true → are_gaps_from low n hs ≡ true
    → avoids bs hs ≡ true
    → place_lines k low n bs gs (lines_of (frames_text (barriers hs) ++ w))
    ≡ place_lines (k + length hs) (last_from low hs) n bs (gs ++ hs) (lines_of w)
Placed-on k low n bs gs [] w h r v =
    let e : k + 0 ≡ k = omega arith in
    rw (append-nil gs, e)
Placed-on k low n bs gs (g ∷ hs) w h r v =
    let y = and_true (is_free bs g) (avoids bs hs) v in
    let free : is_in g bs ≡ false = not-true (is_in g bs) y.0 in
    let a = and_true (ltb low g) (ltb g n && are_gaps_from g n hs) r in
    let b = and_true (ltb g n) (are_gaps_from g n hs) a.1 in
    let f = and_true (are_bytes (33 ∷ g ∷ [])) (are_frames (barriers hs)) h in
    let line = place_line k low n bs gs (33 ∷ g ∷ []) (frames_text (barriers hs) ++ w) f.0 refl in
    let more = Placed-on (suc k) g n bs (gs ++ (g ∷ [])) hs w f.1 b.1 y.1 in
    let count : suc k + length hs ≡ k + suc (length hs) = omega arith in
    ap (λ (x : List ℕ). place_lines k low n bs gs (lines_of x))
    (append_assoc (line_text (33 ∷ g ∷ [])) (frames_text (barriers hs)) w) ∙
    line ∙ rw (a.0, b.0, free) (more ∙ rw (append_assoc gs (g ∷ []) hs, count))

-- one barrier more
lines_more
    : (u l : List ℕ) (fs : Frames) (b : ℕ) (f : List ℕ) → Lines u fs → Line l (b ∷ f)
    → Lines (u ++ l) (fs ++ ((b ∷ f) ∷ []))
lines_more u l fs b f Lines.none h =
    subst (λ (x : List ℕ). Lines x ((b ∷ f) ∷ [])) (append-nil l) (Lines.line h Lines.none)
lines_more u l fs b f (Lines.line {s = s} {t = t} {f = g} {b = c} {fs = gs} i r) h =
    subst (λ (x : List ℕ). Lines x ((c ∷ g) ∷ (gs ++ ((b ∷ f) ∷ [])))) (sym (append_assoc s t l))
    (Lines.line i (lines_more t l gs b f r h))

barriers_more : (gs : List ℕ) (g : ℕ) → barriers (gs ++ (g ∷ [])) ≡ barriers gs ++ ((33 ∷ g ∷ []) ∷ [])
barriers_more [] g = refl
barriers_more (h ∷ gs) g = ap (λ (x : Frames). (33 ∷ h ∷ []) ∷ x) (barriers_more gs g)

rising_more
    : (n low : ℕ) (gs : List ℕ) (g : ℕ) → Rising n low gs → last_from low gs < g → g < n
    → Rising n low (gs ++ (g ∷ []))
rising_more n low [] g r l b = Rising.more l b Rising.none
rising_more n low (h ∷ gs) g (Rising.more i j r) l b = Rising.more i j (rising_more n h gs g r l b)

in_more : (gs : List ℕ) (g h : ℕ) → In h (gs ++ (g ∷ [])) → In h gs ⊎ (h ≡ g)
in_more [] g h (zero, e) = inr (sym e)
in_more [] g h (suc i, a) = absurd a
in_more (x ∷ gs) g h (zero, e) = inl (0, e)
in_more (x ∷ gs) g h (suc i, a) =
    ⊎_elim (λ (z : In h gs). inl (suc z.0, z.1)) (λ (z : h ≡ g). inr z) (in_more gs g h (i, a))

places_more
    : (p : Paper) (u l gs : List ℕ) (g : ℕ) → Places p u gs → Line l (33 ∷ g ∷ []) → last_from 0 gs < g
    → g < length p.points → (In g p.barred → ⊥) → Places p (u ++ l) (gs ++ (g ∷ []))
places_more p u l gs g q h a b c =
    record {
      gaps =
          record {
            rising = rising_more (length p.points) 0 gs g q.gaps.rising a b;
            free = λ k i j. open_gap k (in_more gs g k i) j;
          };
      lines =
          subst (Lines (u ++ l)) (sym (barriers_more gs g)) (lines_more u l (barriers gs) 33 (g ∷ []) q.lines h);
    }
  where
    open_gap : (k : ℕ) → In k gs ⊎ (k ≡ g) → In k p.barred → ⊥
    open_gap k (inl i) j = q.gaps.free k i j
    open_gap k (inr e) j = c (subst (λ (x : ℕ). In x p.barred) e j)

module _ (p : Paper) where
  abbrev n : ℕ
  n = length p.points

  -- what is read of a text after lines that spell gs
  pub read_places
      : (t u s gs : List ℕ) → t ≡ u ++ s → Places p u gs
      → read_placement n p.barred t ≡ place_lines (suc (length gs)) (last_from 0 gs) n p.barred gs (lines_of s)
  unfolding read_placement
  read_places t u s gs e q =
      let i = lines_are u (barriers gs) q.lines in
      let k : 1 + length gs ≡ suc (length gs) = omega arith in
      ap (λ (x : List ℕ). place_lines 1 0 n p.barred [] (lines_of x)) (e ∙ ap (λ (x : List ℕ). x ++ s) i.0) ∙
      Placed-on 1 0 n p.barred [] gs s i.1 (gaps_are p [] gs q.gaps) (gaps_avoid p [] gs q.gaps) ∙
      ap (λ (j : ℕ). place_lines j (last_from 0 gs) n p.barred gs (lines_of s)) k

  place_stops
      : (k last : ℕ) (gs : List ℕ) (l : L.Line) (ls : List L.Line) → 0 < placed_fault last n p.barred l
      → place_lines k last n p.barred gs (l ∷ ls) ≡ placed (placed_fault last n p.barred l) k []
  unfolding place_lines
  place_stops k last gs l ls h = rw (ne_eqb (placed_fault last n p.barred l) 0 (λ e. omega arith))

  no_lines : lines_of [] ≡ []
  unfolding lines_of
  no_lines = refl

  place_ends : (k last : ℕ) (gs : List ℕ) → place_lines k last n p.barred gs [] ≡ placed 0 0 gs
  unfolding place_lines
  place_ends k last gs = refl

  stopped
      : (t u s gs l rest : List ℕ) → t ≡ u ++ s → (q : Places p u gs) (x : Split s l rest)
      → 0 < placed_fault (last_from 0 gs) n p.barred x.line
      → read_placement n p.barred t
      ≡ placed (placed_fault (last_from 0 gs) n p.barred x.line) (suc (length gs)) []
  stopped t u s gs l rest e q x h =
      read_places t u s gs e q ∙ ap (place_lines (suc (length gs)) (last_from 0 gs) n p.barred gs) x.lines ∙
      place_stops (suc (length gs)) (last_from 0 gs) gs x.line (lines_of rest) h

  pub place_is
      : (t : List ℕ) (m k : ℕ) → PlaceNumber p t m k
      → ((read_placement n p.barred t).number ≡ m) × ((read_placement n p.barred t).place ≡ k)
  place_is t m k (PlaceNumber.accepted gs q) =
      let e = read_places t t [] gs (sym (append-nil t)) q ∙
      ap (place_lines (suc (length gs)) (last_from 0 gs) n p.barred gs) no_lines ∙
      place_ends (suc (length gs)) (last_from 0 gs) gs in
      (ap (λ (y : Placed). y.number) e, ap (λ (y : Placed). y.place) e)
  place_is t m k (PlaceNumber.line u s l rest gs e q f low) =
      let x = first_split s l rest f in
      let d = place_decided s l rest x p gs q.gaps.rising in
      let i = stopped t u s gs l rest e q x (d.least m low.wrong).0 in
      (ap (λ (y : Placed). y.number) i ∙ lowest_is d low, ap (λ (y : Placed). y.place) i)

  -- ---- every text has a number and a line

  abbrev Numbered : List ℕ → Placed → Type 0
  Numbered t y = PlaceNumber p t y.number y.place

  abbrev read : List ℕ → Placed
  read t = read_placement n p.barred t

  -- a line without a fault has a barrier more
  next
      : (u s gs l rest : List ℕ) (q : Places p u gs) (x : Split s l rest)
      → ((m : ℕ) → PlaceBreaks p gs l m → ⊥) → (hs : List ℕ) × Places p (u ++ l) hs
  next u s gs l rest q x none = go (is_good x.line) (barrier s l rest x p gs q.gaps.rising) refl refl
    where
      g : ℕ
      g = get_or (frame_of x.line.bytes) 1 0

      risen : Rising n 0 gs
      risen = q.gaps.rising

      made : Line l (33 ∷ g ∷ []) → (hs : List ℕ) × Places p (u ++ l) hs
      made h = (
        gs ++ (g ∷ []),
        places_more p u l gs g q h (lt_by (λ (z : g ≤ last_from 0 gs). low z))
            (lt_by (λ z. none 8 (PlaceBreaks.range g h (λ w. omega (arith, w.1)))))
            (λ i. none 16 (PlaceBreaks.barred g h i)),
      )
        where
          low : g ≤ last_from 0 gs → ⊥
          low z =
              ⊎_elim
              (λ (y : last_from 0 gs ≡ 0). none 8 (PlaceBreaks.range g h (λ w. omega (arith, w.0))))
              (λ (y : In (last_from 0 gs) gs). none 8 (PlaceBreaks.falling g (last_from 0 gs) h y z))
              (last_in 0 gs)

      go
          : (a b : Bool) → is_good x.line ≡ a → barrier s l rest x p gs q.gaps.rising ≡ b
          → (hs : List ℕ) × Places p (u ++ l) hs
      go false b i j = absurd (none 1 (PlaceBreaks.spelling (λ c f h. never_both (spelled_good s l rest x c f h) i)))
      go true false i j = absurd (none 2 (strange s l rest x p gs q.gaps.rising i j))
      go true true i j = made (barrier_line s l rest x p gs q.gaps.rising i j)

  at_line
      : (t u s gs : List ℕ) → t ≡ u ++ s → Places p u gs → (f : There s) → Split s f.l f.rest
      → ((v hs : List ℕ) → t ≡ v ++ f.rest → Places p v hs → Numbered t (read t)) → Numbered t (read t)
  at_line t u s gs e q f x later =
      let d = place_decided s f.l f.rest x p gs q.gaps.rising in
      let k = placed_fault (last_from 0 gs) n p.barred x.line in
      ⊎_elim
      (λ (z : k ≤ 0).
      let h = next u s gs f.l f.rest q x (none_wrong d (omega arith)) in
      later (u ++ f.l) h.0 (e ∙ ap (λ (w : List ℕ). u ++ w) x.whole ∙ sym (append_assoc u f.l f.rest))
      h.1)
      (λ (z : 0 < k).
      subst (Numbered t) (sym (stopped t u s gs f.l f.rest e q x z))
      (PlaceNumber.line u s f.l f.rest gs e q f.first (is_lowest d z)))
      (le_or k 0)

  refused_at
      : (ls : List L.Line) (t u s gs : List ℕ) → t ≡ u ++ s → Places p u gs → lines_of s ≡ ls → 0 < (read t).number
      → Numbered t (read t)
  refused_at [] t u s gs e q h z =
      let k = read_places t u s gs e q ∙ ap (place_lines (suc (length gs)) (last_from 0 gs) n p.barred gs) h ∙
      place_ends (suc (length gs)) (last_from 0 gs) gs in
      absurd (omega (arith, ap (λ (y : Placed). y.number) k))
  refused_at (x ∷ ls) t u [] gs e q h z = let k : ◌≡◌ {A = ℕ} 0 1 = cc (sym no_lines ∙ h) in absurd (omega arith)
  refused_at (x ∷ ls) t u (b ∷ s) gs e q h z =
      let f = first_there b s in
      let y = first_split (b ∷ s) f.l f.rest f.first in
      at_line t u (b ∷ s) gs e q f y
      (λ v hs w i. refused_at ls t v f.rest hs w i (tail y.line x (lines_of f.rest) ls (sym y.lines ∙ h)) z)
    where
      tail : (a c : L.Line) (xs ys : List L.Line) → a ∷ xs ≡ c ∷ ys → xs ≡ ys
      tail a c xs ys q = cc q

  pub is_place : n ≤ 256 → (t : List ℕ) → PlaceNumber p t (read t).number (read t).place
  is_place few t =
      ⊎_elim
      (λ (z : (read t).number ≡ 0).
      subst (λ (k : ℕ). PlaceNumber p t k (read t).place) (sym z)
      (subst (λ (k : ℕ). PlaceNumber p t 0 k) (sym ((placed_answer n p.barred t).accepted z))
      (PlaceNumber.accepted (read t).gaps (placed_page p t (read t).gaps few (placed_spells n p.barred t z)))))
      (λ (z : (read t).number ≡ 0 → ⊥). refused_at (lines_of t) t [] t [] refl nothing refl (omega (arith, z)))
      (eq_or (read t).number 0)
    where
      nothing : Places p [] []
      nothing =
          record {
            gaps = record { rising = Rising.none; free = λ g i j. absurd i.1 };
            lines = Lines.none;
          }
