-- The number and the line of a nest text on the page of the numbers are those that the project reads, and there are no
-- two of them: while lines break no rule, the project goes on with the paper that they tell.
-- Main statements: `read_going`, `load_is`, `is_load`.
use mathlib.Core.Path.{◌≡◌, refl, sym, ◌∙◌, ap, subst}
use mathlib.Core.Bool.{Bool, true, false}
use mathlib.Core.List.{List, [], ◌∷◌, ◌++◌, append_assoc, append-nil}
use mathlib.Core.Logic.{⊎_elim}
use Prim.Native.Nat.{ℕ, zero, suc, ◌-◌, ◌≤◌, ◌<◌}
use native.Mathlib.Omega.{arith}
use lib.Dec.{leb}
use lib.ListN.{length}
use borrow.Author.Tests.{ne_eqb}
use Rattle.laws.proofs.Tests.{never_both, false_by, lt_by, eq_by, le_or, eq_or}
use Rattle.laws.proofs.Ranges.{between_in}
use Rattle.paper_nests.specs.Nests.{Nest, empty}
use Rattle.paper_nests.specs.Loops.{deeper, depth, is_closed}
use Rattle.paper_lines.specs.Lines as L
use Rattle.paper_lines.specs.Lines.{lines_of, is_good, frame_of, line_text}
use Rattle.paper_lines.proofs.Spelling.{are_bytes, line_first, digits_good, frame_digits, lines_text, lines-text}
use Rattle.paper_texts.specs.Pieces.{unknown, piece_of}
use Rattle.paper_texts.specs.NestTexts.{frame_fault, with_frame, line_fault, Got, got, read_lines, read_nest}
use Rattle.paper_texts.proofs.Refusals.{accepted_got}
use Rattle.paper_texts.proofs.Shapes.{begins_none, begins_first, begins_more, depth_more}
use Rattle.pages.specs.Demands.{Paper, Line, Told, Means}
use Rattle.pages.specs.Numbers.{Open, Closed, Breaks, LineBreaks, First, added, Read, LoadNumber}
use Rattle.pages.proofs.Placements.{nest_of}
use Rattle.pages.proofs.Spelling.{line_is}
use Rattle.pages.proofs.Chains.{Decides, lowest_is, is_lowest, none_wrong}
use Rattle.pages.proofs.Breaking.{closed_is, is-closed, So-far, word_fault, breaks_decided}
use Rattle.pages.proofs.FirstLines.{Split, first_split, There, first_there, good_spelled, good_some}
use Rattle.pages.proofs.FirstLines.{line_decided}
use Rattle.pages.proofs.FirstLines.{spelled_good, means_fault, means_adds, means_known, meant, not_meant}
use Rattle.pages.proofs.Kept.{text_accepted, paper_read}

-- ---- one point more

open_begin : (i k : ℕ) (ps : List ℕ) → Open i ps k → Open i (ps ++ (1 ∷ [])) (suc k)
open_begin i k ps Open.none = Open.begin Open.none
open_begin i k ps (Open.begin {ps = qs} o) = Open.begin (open_begin (suc i) k qs o)
open_begin i k ps (Open.end {i = j} {ps = qs} o) = Open.end (open_begin j k qs o)
open_begin i k ps (Open.statement {ps = qs} o) = Open.statement (open_begin i k qs o)

open_end : (i k : ℕ) (ps : List ℕ) → Open i ps (suc k) → Open i (ps ++ (2 ∷ [])) k
open_end i k ps Open.none = Open.end Open.none
open_end i k ps (Open.begin {ps = qs} o) = Open.begin (open_end (suc i) k qs o)
open_end i k ps (Open.end {i = j} {ps = qs} o) = Open.end (open_end j k qs o)
open_end i k ps (Open.statement {ps = qs} o) = Open.statement (open_end i k qs o)

open_statement : (i k : ℕ) (ps : List ℕ) → Open i ps k → Open i (ps ++ (3 ∷ [])) k
open_statement i k ps Open.none = Open.statement Open.none
open_statement i k ps (Open.begin {ps = qs} o) = Open.begin (open_statement (suc i) k qs o)
open_statement i k ps (Open.end {i = j} {ps = qs} o) = Open.end (open_statement j k qs o)
open_statement i k ps (Open.statement {ps = qs} o) = Open.statement (open_statement i k qs o)

open_more
    : (ps : List ℕ) (k : ℕ) → 1 ≤ k → k ≤ 3 → 1 ≤ depth ps → Open 0 ps (depth ps)
    → Open 0 (ps ++ (k ∷ [])) (depth (ps ++ (k ∷ [])))
open_more ps k a b i o = subst (λ (j : ℕ). Open 0 (ps ++ (k ∷ [])) j) (sym (depth_more ps k)) (go (depth ps) k a b i o)
  where
    go
        : (j k : ℕ) → 1 ≤ k → k ≤ 3 → 1 ≤ j → Open 0 ps j
        → Open 0 (ps ++ (k ∷ [])) (deeper j k)
    go j k a b i o =
        ⊎_elim
        (λ (z : k ≡ 1). subst (λ (x : ℕ). Open 0 (ps ++ (x ∷ [])) (deeper j x)) (sym z) (open_begin 0 j ps o))
        (λ (z : k ≡ 1 → ⊥).
        ⊎_elim
        (λ (y : k ≡ 2). subst (λ (x : ℕ). Open 0 (ps ++ (x ∷ [])) (deeper j x)) (sym y) (ended j i o))
        (λ (y : k ≡ 2 → ⊥).
        let w : 3 ≡ k = omega (arith, z, y) in
        subst (λ (x : ℕ). Open 0 (ps ++ (x ∷ [])) (deeper j x)) w (open_statement 0 j ps o))
        (eq_or k 2))
        (eq_or k 1)
      where
        ended : (j : ℕ) → 1 ≤ j → Open 0 ps j → Open 0 (ps ++ (2 ∷ [])) (j - 1)
        ended zero i o = absurd (omega arith)
        ended (suc j) i o =
            let e : suc j - 1 ≡ j = omega arith in
            rw e (open_end 0 j ps o)

point_so
    : (ps : List ℕ) (k : ℕ) → So-far ps → 1 ≤ k → k ≤ 3 → (Closed ps → ⊥) → (ps ≡ [] → k ≡ 1) → (k ≡ 1 → depth ps < 8)
    → So-far (ps ++ (k ∷ []))
point_so [] k s a b c f d =
    subst (λ (x : ℕ). So-far (x ∷ [])) (sym (f refl))
    (record { opens = Open.begin Open.none; begins = begins_first })
point_so (q ∷ qs) k s a b c f d =
    let i : 1 ≤ depth (q ∷ qs) = lt_by (λ (z : depth (q ∷ qs) ≤ 0). inside z) in
    record {
      opens = open_more (q ∷ qs) k a b i s.opens;
      begins = begins_more (q ∷ qs) k s.begins (omega arith) i (between_in 1 k 3 a b) d;
    }
  where
    inside : depth (q ∷ qs) ≤ 0 → ⊥
    inside z =
        let e : depth (q ∷ qs) ≡ 0 = omega arith in
        c ((λ y. let n : ◌≡◌ {A = ℕ} 0 1 = cc y in omega arith), subst (λ (j : ℕ). Open 0 (q ∷ qs) j) e s.opens)

word_so
    : (p : Paper) (f : List ℕ) (w : Told) → So-far p.points → Means f w → ((n : ℕ) → Breaks p w n → ⊥)
    → So-far (added p w).points
word_so p f w s (Means.point {k = k} a b) none = point_so p.points k s a b (λ c. none 4 (Breaks.after c))
    (λ e. eq_by (λ h. none 4 (Breaks.first e h))) (λ e. shallow k e none)
  where
    shallow : (k : ℕ) → k ≡ 1 → ((n : ℕ) → Breaks p (Told.point k) n → ⊥) → depth p.points < 8
    shallow k e none =
        lt_by
        (λ l.
        none 5 (subst (λ (x : ℕ). Breaks p (Told.point x) 5) (sym e) (Breaks.deep s.opens l)))
word_so p f w s Means.flagged none =
    point_so p.points 1 s (omega arith) (omega arith) (λ c. none 4 (Breaks.after c)) (λ e. refl)
    (λ e. lt_by (λ l. none 5 (Breaks.deep s.opens l)))
word_so p f w s Means.line none = s
word_so p f w s Means.round none = s
word_so p f w s Means.bar none = s

-- ---- one line more

Line-read
    : (k : ℕ) (n : Nest) (f w : List ℕ) → are_bytes f ≡ true → leb 1 (length f) ≡ true → frame_fault n f ≡ 0
    → read_lines k n (lines_of (line_text f ++ w)) ≡ read_lines (suc k) (with_frame n f) (lines_of w)
unfolding read_lines
Line-read k n f w h l e = rw (line_first f w h, digits_good f h l, frame_digits f h, e)

means_some : (f : List ℕ) (w : Told) → Means f w → leb 1 (length f) ≡ true
means_some f w (Means.point a b) = refl
means_some f w Means.flagged = refl
means_some f w Means.line = refl
means_some f w Means.round = refl
means_some f w Means.bar = refl

unbroken
    : (p : Paper) (fl f : List ℕ) (w : Told) → So-far p.points → Means f w → ((n : ℕ) → Breaks p w n → ⊥)
    → frame_fault (nest_of p fl) f ≡ 0
unbroken p fl f w s m none =
    means_fault p fl f w m ∙
    ⊎_elim
    (λ (z : word_fault p w ≤ 0). omega arith)
    (λ (z : 0 < word_fault p w). absurd (none (word_fault p w) ((breaks_decided p s w (means_known f w m)).found z)))
    (le_or (word_fault p w) 0)

-- what the project has read after lines that break no rule
pub record Going (u : List ℕ) (k : ℕ) (p : Paper) : Type 0 where
  pub flags : List ℕ
  pub so : So-far p.points
  pub reads : (w : List ℕ) → read_lines 1 empty (lines_of (u ++ w)) ≡ read_lines (suc k) (nest_of p flags) (lines_of w)

pub read_going : (u : List ℕ) (k : ℕ) (p : Paper) → Read u k p → Going u k p
read_going u k p Read.none =
    record { flags = []; so = record { opens = Open.none; begins = begins_none }; reads = λ w. refl }
read_going u k p (Read.more {u = v} {l = l} {f = f} {w = x} {k = j} {p = q} r h m none) =
    let g = read_going v j q r in
    let i = line_is l f h in
    let a = means_adds q g.flags f x m in
    record {
      flags = a.0;
      so = word_so q f x g.so m none;
      reads =
          λ w.
          ap (λ (y : List ℕ). read_lines 1 empty (lines_of y))
          (append_assoc v l w ∙ ap (λ (y : List ℕ). v ++ (y ++ w)) i.0) ∙
          g.reads (line_text f ++ w) ∙
          Line-read (suc j) (nest_of q g.flags) f w i.1 (means_some f x m)
          (unbroken q g.flags f x g.so m none) ∙
          ap (λ (n : Nest). read_lines (suc (suc j)) n (lines_of w)) a.1;
    }

-- ---- the first line at fault

not_blank : (t : List ℕ) → (t ≡ [] → ⊥) → read_nest t ≡ read_lines 1 empty (lines_of t)
unfolding read_nest
not_blank [] h = absurd (h refl)
not_blank (b ∷ s) h = refl

first_some : (s l rest : List ℕ) → First s l rest → s ≡ [] → ⊥
first_some s l rest First.feed e = let n : ◌≡◌ {A = ℕ} 0 1 = cc e in omega arith
first_some s l rest (First.last h) e = let n : ◌≡◌ {A = ℕ} 0 1 = cc e in omega arith
first_some s l rest (First.more h f) e = let n : ◌≡◌ {A = ℕ} 0 1 = cc e in omega arith

behind_some : (u s : List ℕ) → (s ≡ [] → ⊥) → u ++ s ≡ [] → ⊥
behind_some [] s h e = h e
behind_some (b ∷ u) s h e = let n : ◌≡◌ {A = ℕ} 0 1 = cc e in omega arith

line_stops
    : (k : ℕ) (n : Nest) (l : L.Line) (ls : List L.Line) → (line_fault n l ≡ 0 → ⊥)
    → read_lines k n (l ∷ ls) ≡ got (line_fault n l) k empty
unfolding read_lines
line_stops k n l ls h = rw (ne_eqb (line_fault n l) 0 h)

end_stops : (k : ℕ) (n : Nest) → is_closed n.points ≡ false → read_lines k n [] ≡ got 4 k empty
unfolding read_lines
end_stops k n h = rw h

end_accepts : (k : ℕ) (n : Nest) → is_closed n.points ≡ true → read_lines k n [] ≡ got 0 0 n
unfolding read_lines
end_accepts k n h = rw h

no_lines : lines_of [] ≡ []
unfolding lines_of
no_lines = refl

lines_none : (s : List ℕ) → lines_of s ≡ [] → s ≡ []
lines_none s e = sym (lines-text s) ∙ ap lines_text e

-- what is read of a text, after lines that break no rule
module _ (t u s : List ℕ) (k : ℕ) (p : Paper) (whole : t ≡ u ++ s) (some : t ≡ [] → ⊥) (r : Read u k p) where
  going : Going u k p
  going = read_going u k p r

  abbrev nest : Nest
  nest = nest_of p going.flags

  read_on : read_nest t ≡ read_lines (suc k) nest (lines_of s)
  read_on = not_blank t some ∙ ap (λ (x : List ℕ). read_lines 1 empty (lines_of x)) whole ∙ going.reads s

  decided : (l rest : List ℕ) (x : Split s l rest) → Decides (LineBreaks p l) (line_fault nest x.line)
  decided l rest x = line_decided s l rest x p going.flags going.so

  stopped
      : (l rest : List ℕ) (x : Split s l rest) → 0 < line_fault nest x.line
      → read_nest t ≡ got (line_fault nest x.line) (suc k) empty
  stopped l rest x h =
      read_on ∙ ap (read_lines (suc k) nest) x.lines ∙
      line_stops (suc k) nest x.line (lines_of rest) (λ e. omega arith)

-- a text has the number and the line that the project reads
pub load_is
    : (t : List ℕ) (n k : ℕ) → LoadNumber t n k → ((read_nest t).number ≡ n) × ((read_nest t).place ≡ k)
load_is t n k (LoadNumber.accepted p s) =
    let q = (paper_read t p s).1 in
    (ap (λ (g : Got). g.number) q, ap (λ (g : Got). g.place) q)
load_is t n k (LoadNumber.line {k = j} u s l rest p e r f low) =
    let some : t ≡ [] → ⊥ = λ z. behind_some u s (first_some s l rest f) (sym e ∙ z) in
    let x = first_split s l rest f in
    let d = decided t u s j p e some r l rest x in
    let q = stopped t u s j p e some r l rest x (d.least n low.wrong).0 in
    (ap (λ (g : Got). g.number) q ∙ lowest_is d low, ap (λ (g : Got). g.place) q)
load_is t n k (LoadNumber.end {k = j} p some r c) =
    let e : t ≡ t ++ [] = sym (append-nil t) in
    let g = going t t [] j p e some r in
    let o : is_closed p.points ≡ false = false_by (λ z. c (is-closed p.points g.so z)) in
    let q = read_on t t [] j p e some r ∙ ap (read_lines (suc j) (nest_of p g.flags)) no_lines ∙
    end_stops (suc j) (nest_of p g.flags) o in
    (ap (λ (y : Got). y.number) q, ap (λ (y : Got). y.place) q)

-- ---- and every text has one

abbrev Numbered : List ℕ → Got → Type 0
Numbered t g = LoadNumber t g.number g.place

-- a line without a fault tells something that breaks no rule
record Fine (p : Paper) (l : List ℕ) : Type 0 where
  frame : List ℕ
  word : Told
  spelled : Line l frame
  means : Means frame word
  none : (n : ℕ) → Breaks p word n → ⊥

fine
    : (s l rest : List ℕ) (x : Split s l rest) (p : Paper) → ((n : ℕ) → LineBreaks p l n → ⊥) → Fine p l
fine s l rest x p none = go (is_good x.line) refl
  where
    go : (t : Bool) → is_good x.line ≡ t → Fine p l
    go false e = absurd (none 1 (LineBreaks.spelling (λ b f h. never_both (spelled_good s l rest x b f h) e)))
    go true g =
        ⊎_elim
        (λ (z : (w : Told) × Means (frame_of x.line.bytes) w).
        record {
          frame = frame_of x.line.bytes;
          word = z.0;
          spelled = good_spelled s l rest x g;
          means = z.1;
          none = λ n b. none n (LineBreaks.rule (frame_of x.line.bytes) z.0 (good_spelled s l rest x g) z.1 b);
        })
        (λ z. strange z)
        (meant (frame_of x.line.bytes))
      where
        strange : piece_of (frame_of x.line.bytes) ≡ unknown → Fine p l
        strange z =
            let c = good_some s l rest x g in
            absurd (none 2 (LineBreaks.unknown c.0 c.1.0
            (subst (Line l) c.1.1 (good_spelled s l rest x g))
            (λ w m. not_meant (c.0 ∷ c.1.0) w m (ap piece_of (sym c.1.1) ∙ z))))

module _ (t u s : List ℕ) (k : ℕ) (p : Paper) (whole : t ≡ u ++ s) (some : t ≡ [] → ⊥) (r : Read u k p) where
  abbrev made : Nest
  made = nest_of p (going t u s k p whole some r).flags

  at_end : lines_of s ≡ [] → 0 < (read_nest t).number → Numbered t (read_nest t)
  at_end h z = go (is_closed p.points) refl
    where
      all : t ≡ u
      all = whole ∙ ap (λ (x : List ℕ). u ++ x) (lines_none s h) ∙ append-nil u

      ended : read_nest t ≡ read_lines (suc k) made []
      ended = read_on t u s k p whole some r ∙ ap (read_lines (suc k) made) h

      go : (b : Bool) → is_closed p.points ≡ b → Numbered t (read_nest t)
      go true c =
          let q = ended ∙ end_accepts (suc k) made c in
          absurd (omega (arith, ap (λ (g : Got). g.number) q))
      go false c =
          let q = ended ∙ end_stops (suc k) made c in
          subst (Numbered t) (sym q)
          (LoadNumber.end p some (subst (λ (x : List ℕ). Read x k p) (sym all) r)
          (λ y. never_both (closed_is p.points y) c))

  -- a line: it is at fault, or the lines behind it decide
  abbrev Later : List ℕ → Type 0
  Later rest = (v : List ℕ) (j : ℕ) (q : Paper) → t ≡ v ++ rest → Read v j q → Numbered t (read_nest t)

  at_line : (f : There s) → Split s f.l f.rest → Later f.rest → Numbered t (read_nest t)
  at_line f y later =
      let d = decided t u s k p whole some r f.l f.rest y in
      ⊎_elim
      (λ (q : line_fault made y.line ≤ 0).
      let g = fine s f.l f.rest y p (none_wrong d (omega arith)) in
      later (u ++ f.l) (suc k) (added p g.word)
      (whole ∙ ap (λ (w : List ℕ). u ++ w) y.whole ∙ sym (append_assoc u f.l f.rest))
      (Read.more r g.spelled g.means g.none))
      (λ (q : 0 < line_fault made y.line).
      subst (Numbered t) (sym (stopped t u s k p whole some r f.l f.rest y q))
      (LoadNumber.line u s f.l f.rest p whole r f.first (is_lowest d q)))
      (le_or (line_fault made y.line) 0)

refused_at
    : (ls : List L.Line) (t u s : List ℕ) (k : ℕ) (p : Paper) → t ≡ u ++ s → (t ≡ [] → ⊥) → Read u k p
    → lines_of s ≡ ls → 0 < (read_nest t).number → Numbered t (read_nest t)
refused_at [] t u s k p e some r h z = at_end t u s k p e some r h z
refused_at (x ∷ ls) t u [] k p e some r h z = let n : ◌≡◌ {A = ℕ} 0 1 = cc (sym no_lines ∙ h) in absurd (omega arith)
refused_at (x ∷ ls) t u (b ∷ s) k p e some r h z =
    let f = first_there b s in
    let y = first_split (b ∷ s) f.l f.rest f.first in
    at_line t u (b ∷ s) k p e some r f y
    (λ v j q w i. refused_at ls t v f.rest j q w some i
    (tail y.line x (lines_of f.rest) ls (sym y.lines ∙ h)) z)
  where
    tail : (a c : L.Line) (xs ys : List L.Line) → a ∷ xs ≡ c ∷ ys → xs ≡ ys
    tail a c xs ys q = cc q

pub blank_accepted : (read_nest []).number ≡ 0
unfolding read_nest
blank_accepted = refl

pub is_load : (t : List ℕ) → LoadNumber t (read_nest t).number (read_nest t).place
is_load t =
    ⊎_elim
    (λ (z : (read_nest t).number ≡ 0).
    let p = text_accepted t z in
    subst (Numbered t) (sym (accepted_got t z)) (LoadNumber.accepted p.0 p.1))
    (λ (z : (read_nest t).number ≡ 0 → ⊥).
    refused_at (lines_of t) t [] t 0 (record { points = []; deps = []; barred = [] }) refl
    (λ e. z (ap (λ (x : List ℕ). (read_nest x).number) e ∙ blank_accepted)) Read.none refl (omega (arith, z)))
    (eq_or (read_nest t).number 0)
