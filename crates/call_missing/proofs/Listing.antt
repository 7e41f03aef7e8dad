-- What one dependence has listed, from its stretches: where each is covered, the loops in them that have a barrier
-- inside and are apart from both ends; else none.
-- Main statements: `line_bare`, `line_listed`; `front_bare`, `rear_bare`, `back_listed`.
use mathlib.Core.Path.{◌≡◌, sym, ap, ◌∙◌}
use mathlib.Core.Bool.{Bool, true, false, ◌&&◌, ◌||◌}
use mathlib.Core.List.{List}
use mathlib.Core.Logic.{⊎_elim}
use Prim.Native.Nat.{ℕ, ◌+◌, ◌≤◌, ◌<◌}
use native.Mathlib.Omega.{arith}
use lib.Dec.{ltb, leb}
use borrow.Author.Tests.{ltb-true, leb-true, lt-ltb, le-leb}
use Rattle.laws.specs.Choice.{between, is_in}
use Rattle.laws.specs.Entries.{at}
use Rattle.laws.proofs.Tests.{bool_by, false_by, and_true, and_intro, or-true, or_left, or_right}
use Rattle.laws.proofs.Connectives.{or_off}
use Rattle.laws.proofs.Ors.{or_assoc}
use Rattle.laws.proofs.Ranges.{in_between, between_in}
use Rattle.paper_nests.specs.Nests.{Dep}
use Rattle.paper_nests.specs.Loops.{is_do, end_of, is_around}
use Rattle.paper_nests.specs.Gaps.{has_gap}
use Rattle.paper_nests.proofs.Deps.{Line, Back, line_gap, back_gap}
use Rattle.paper_nests.proofs.Levels.{point_in}
use Rattle.paper_nests.proofs.Loops.{end-after}
use Rattle.paper_placements.specs.Words.{GAPS, holds, gaps_in}
use Rattle.paper_placements.proofs.Words.{in_gaps}
use Rattle.call_missing.specs.Foreign.{some_in, is_foreign, in_foreign}
use Rattle.call_missing.specs.Listed.{is_listed_by}
use Rattle.call_missing.specs.Covering.{is_apart, Cover, Bare, CoverSays, RangeListed, Barriered}
use Rattle.call_missing.proofs.Some.{some-in, in_some}
use Rattle.call_missing.proofs.Foreign.{foreign_flagged, in-foreign, foreign_in}
use Rattle.call_missing.proofs.Listed.{By, listed-by, by_listed}
use Rattle.call_missing.proofs.Members.{in_words}
use Rattle.call_missing.proofs.Apart.{foreign_apart}
use Rattle.call_missing.proofs.Stretches.{Apart, Stretch, line_stretch, front_stretch, rear_stretch}

-- a gap around which a loop lies, as facts
around_is : (ps : List ℕ) (g d : ℕ) → is_around ps g d ≡ true → (d < g) × (g ≤ end_of ps d)
around_is ps g d h =
    let z = and_true (ltb d g) (leb g (end_of ps d)) h in
    (ltb-true d g z.0, leb-true g (end_of ps d) z.1)

is-around : (ps : List ℕ) (g d : ℕ) → d < g → g ≤ end_of ps d → is_around ps g d ≡ true
is-around ps g d a b = and_intro (lt-ltb d g a) (le-leb g (end_of ps d) b)

module _ {ps fs ends key ws : List ℕ} (b : Barriered ps fs ends key ws) (e : Dep) where
  -- a foreign loop: a DO below 256, apart from both ends
  record ForeignLoop (d : ℕ) : Type 0 where
    flagged : is_in d fs ≡ true
    is-do : is_do ps d ≡ true
    below : d < GAPS
    apart : Apart ps e d
    end_is : at ends d ≡ end_of ps d

  flagged_below : (d : ℕ) → is_in d fs ≡ true → d < GAPS
  flagged_below d h = omega (arith, point_in ps d 0 (b.flags d h), b.few)

  foreign_is : (d : ℕ) → is_foreign ps fs e d ≡ true → ForeignLoop d
  foreign_is d h =
      let f = foreign_flagged ps fs e d h in
      let k = b.flags d f in
      let a : (is_in d fs && is_apart d (end_of ps d) e.s e.t) ≡ true =
      sym (foreign_apart ps fs e d (end-after ps b.shape d k)) ∙ h in
      record {
        flagged = f;
        is-do = k;
        below = flagged_below d f;
        apart = (and_true (is_in d fs) (is_apart d (end_of ps d) e.s e.t) a).1;
        end_is = b.ends_are d k;
      }

  -- a loop with a barrier inside, apart from both ends
  record ApartLoop (d : ℕ) : Type 0 where
    foreign : is_foreign ps fs e d ≡ true
    is-do : is_do ps d ≡ true
    apart : Apart ps e d
    end_is : at ends d ≡ end_of ps d
    gap : ℕ
    placed : is_in gap (gaps_in key) ≡ true
    around : is_around ps gap d ≡ true

  apart_is : (d : ℕ) → d < GAPS → holds ws d ≡ true → is_apart d (at ends d) e.s e.t ≡ true → ApartLoop d
  apart_is d l h a =
      let z = and_true (is_in d fs) (some_in (λ g. is_around ps g d) (gaps_in key)) (sym (b.loops_are d l) ∙ h) in
      let k = b.flags d z.0 in
      let end_is : at ends d ≡ end_of ps d = b.ends_are d k in
      let apart : is_apart d (end_of ps d) e.s e.t ≡ true = rw end_is at a in
      let m = some-in (λ g. is_around ps g d) (gaps_in key) z.1 in
      record {
        foreign = foreign_apart ps fs e d (end-after ps b.shape d k) ∙ and_intro z.0 apart;
        is-do = k;
        apart = apart;
        end_is = end_is;
        gap = m.at;
        placed = m.is-in;
        around = m.passed;
      }

  -- a flagged loop with a barrier inside is among the words
  with_barrier : (d g : ℕ) → is_in d fs ≡ true → is_in g (gaps_in key) ≡ true → is_around ps g d ≡ true →
      holds ws d ≡ true
  with_barrier d g f p a =
      b.loops_are d (flagged_below d f) ∙ and_intro f (in_some (λ i. is_around ps i d) (gaps_in key) g p a)

  -- a barrier that is covered is inside a foreign loop
  pub covered_foreign : (lo g : ℕ) → g < GAPS → Cover ends ws e.s e.t lo g → in_foreign ps fs e g ≡ true
  covered_foreign lo g l c =
      let a = apart_is c.loop (omega (arith, c.before)) c.is_loop c.apart in
      foreign_in ps fs e g
      (record {
        loop = c.loop;
        foreign = a.foreign;
        around = is-around ps g c.loop c.before (omega (arith, c.reaches, a.end_is));
      })

  -- every barrier that cuts the dependence is inside a foreign loop
  abbrev AllForeign : Type 0
  AllForeign = (g : ℕ) → is_in g (gaps_in key) ≡ true → has_gap ps e g ≡ true → in_foreign ps fs e g ≡ true

  -- a loop with a DO from lo to hi that is put
  abbrev marks : ℕ → ℕ → ℕ → Bool
  marks lo hi d = holds ws d && (between lo d hi && is_apart d (at ends d) e.s e.t)

  module _ (lo hi : ℕ) (stretch : Stretch ps e lo hi) where
    -- a bare barrier: nothing is listed
    pub bare_none : Bare ends ws key e.s e.t lo hi → (d : ℕ) → is_listed_by ps fs (gaps_in key) e d ≡ false
    bare_none r d = false_by λ h.
        let y = listed-by ps fs (gaps_in key) e d h in
        let p : is_in r.gap (gaps_in key) ≡ true = in_gaps key r.gap r.below ∙ r.placed in
        let i = in-foreign ps fs e r.gap (y.covered r.gap p (stretch.gaps r.gap r.from r.to)) in
        r.no_cover (cover p i.loop (foreign_is i.loop i.foreign) i.around)
      where
        cover :
            is_in r.gap (gaps_in key) ≡ true → (x : ℕ) → ForeignLoop x → is_around ps r.gap x ≡ true →
            Cover ends ws e.s e.t lo r.gap
        cover p x f a =
            let u = around_is ps r.gap x a in
            record {
              loop = x;
              is_loop = with_barrier x r.gap f.flagged p a;
              apart = rw f.end_is f.apart;
              from = stretch.begins x r.gap f.is-do f.apart r.from r.to u.0 u.1;
              before = u.0;
              reaches = rw f.end_is u.1;
            }

    -- a loop of a covered stretch: its barrier is one of the stretch's gaps
    pub marked_listed :
        AllForeign → (d : ℕ) → d < GAPS → marks lo hi d ≡ true → is_listed_by ps fs (gaps_in key) e d ≡ true
    marked_listed all d l h =
        let x = and_true (holds ws d) (between lo d hi && is_apart d (at ends d) e.s e.t) h in
        let y = and_true (between lo d hi) (is_apart d (at ends d) e.s e.t) x.1 in
        let r = in_between lo d hi y.0 in
        let a = apart_is d l x.0 y.1 in
        let u = around_is ps a.gap d a.around in
        let m = stretch.ends d a.is-do a.apart r.0 r.1 in
        by_listed ps fs (gaps_in key) e d
        (record {
          foreign = a.foreign;
          gap = a.gap;
          placed = a.placed;
          inside = a.around;
          cut = stretch.gaps a.gap (omega (arith, r.0, u.0)) (omega (arith, u.1, m));
          covered = all;
        })

    -- a listed loop with its barrier in the stretch begins there
    pub listed_marked :
        (d : ℕ) (y : By ps fs (gaps_in key) e d) → lo ≤ y.gap → y.gap ≤ hi → marks lo hi d ≡ true
    listed_marked d y l m =
        let f = foreign_is d y.foreign in
        let u = around_is ps y.gap d y.inside in
        let from = stretch.begins d y.gap f.is-do f.apart l m u.0 u.1 in
        and_intro
        (with_barrier d y.gap f.flagged y.placed y.inside)
        (and_intro (between_in lo d hi from (omega (arith, u.0))) (rw f.end_is f.apart))

  -- nothing is listed where a stretch has a bare barrier
  none_listed :
      {q : Bool} (lo hi : ℕ) → Stretch ps e lo hi → CoverSays ends ws key e.s e.t lo hi q → q ≡ false →
      (listed : List ℕ) (d : ℕ) → holds listed d ≡ (holds listed d || is_listed_by ps fs (gaps_in key) e d)
  none_listed {q} lo hi w c n listed d = sym (rw (bare_none lo hi w (c.bare n) d) (or_off (holds listed d)))

  -- an independent dependence, with its stretch told
  module _ (k : Line ps e) {q : Bool} (c : CoverSays ends ws key e.s e.t (e.s + 1) e.t q) where
    pub line_bare :
        q ≡ false → (listed : List ℕ) (d : ℕ) →
        holds listed d ≡ (holds listed d || is_listed_by ps fs (gaps_in key) e d)
    line_bare = none_listed (e.s + 1) e.t (line_stretch ps e k) c

    pub line_listed :
        q ≡ true → (listed r : List ℕ) → RangeListed ends ws listed e.s e.t (e.s + 1) e.t r →
        (d : ℕ) → d < GAPS → holds r d ≡ (holds listed d || is_listed_by ps fs (gaps_in key) e d)
    line_listed told listed r put d l =
        put d l ∙ ap (λ (x : Bool). holds listed d || x)
        (bool_by (marks (e.s + 1) e.t d) (is_listed_by ps fs (gaps_in key) e d)
        (marked_listed (e.s + 1) e.t (line_stretch ps e k) all d l)
        (λ h. there (listed-by ps fs (gaps_in key) e d h)))
      where
        all : AllForeign
        all g p h =
            let z = in_words key g p in
            let u = line_gap ps e g k.kind_is h in
            covered_foreign (e.s + 1) g z.0 (c.covered told g z.0 z.1 (omega (arith, u.0)) u.1)

        there : By ps fs (gaps_in key) e d → marks (e.s + 1) e.t d ≡ true
        there y =
            let u = line_gap ps e y.gap k.kind_is y.cut in
            listed_marked (e.s + 1) e.t (line_stretch ps e k) d y (omega (arith, u.0)) u.1

  -- a carried one, with its first stretch told, then both
  module _ (k : Back ps e) {q : Bool} (c : CoverSays ends ws key e.s e.t (e.d + 1) e.t q) where
    pub front_bare :
        q ≡ false → (listed : List ℕ) (d : ℕ) →
        holds listed d ≡ (holds listed d || is_listed_by ps fs (gaps_in key) e d)
    front_bare = none_listed (e.d + 1) e.t (front_stretch ps e b.shape k) c

    module _
        (end : ℕ) (end_is : end ≡ end_of ps e.d) {q' : Bool}
        (c' : CoverSays ends ws key e.s e.t (e.s + 1) end q') where
      rear : Stretch ps e (e.s + 1) end
      rear = rw end_is (rear_stretch ps e b.shape k)

      pub rear_bare :
          q' ≡ false → (listed : List ℕ) (d : ℕ) →
          holds listed d ≡ (holds listed d || is_listed_by ps fs (gaps_in key) e d)
      rear_bare = none_listed (e.s + 1) end rear c'

      pub back_listed :
          q ≡ true → q' ≡ true → (listed front r : List ℕ) →
          RangeListed ends ws listed e.s e.t (e.d + 1) e.t front →
          RangeListed ends ws front e.s e.t (e.s + 1) end r →
          (d : ℕ) → d < GAPS → holds r d ≡ (holds listed d || is_listed_by ps fs (gaps_in key) e d)
      back_listed told told' listed front r put put' d l =
          put' d l ∙ ap (λ (x : Bool). x || second) (put d l) ∙ sym (or_assoc (holds listed d) first second) ∙
          ap (λ (x : Bool). holds listed d || x)
          (bool_by (first || second) (is_listed_by ps fs (gaps_in key) e d)
          (λ h. ⊎_elim
          (λ (z : first ≡ true). marked_listed (e.d + 1) e.t (front_stretch ps e b.shape k) all d l z)
          (λ (z : second ≡ true). marked_listed (e.s + 1) end rear all d l z)
          (or-true first second h))
          (λ h. there (listed-by ps fs (gaps_in key) e d h)))
        where
          first : Bool
          first = marks (e.d + 1) e.t d

          second : Bool
          second = marks (e.s + 1) end d

          all : AllForeign
          all g p h =
              let z = in_words key g p in
              ⊎_elim
              (λ (u : (e.d < g) × (g ≤ e.t)).
              covered_foreign (e.d + 1) g z.0 (c.covered told g z.0 z.1 (omega (arith, u.0)) u.1))
              (λ (u : (e.s < g) × (g ≤ end_of ps e.d)).
              covered_foreign (e.s + 1) g z.0
              (c'.covered told' g z.0 z.1 (omega (arith, u.0)) (omega (arith, u.1))))
              (back_gap ps e g k.kind_is h)

          there : By ps fs (gaps_in key) e d → (first || second) ≡ true
          there y = ⊎_elim
              (λ (u : (e.d < y.gap) × (y.gap ≤ e.t)).
              or_left second
              (listed_marked (e.d + 1) e.t (front_stretch ps e b.shape k) d y (omega (arith, u.0)) u.1))
              (λ (u : (e.s < y.gap) × (y.gap ≤ end_of ps e.d)).
              or_right first (listed_marked (e.s + 1) end rear d y (omega (arith, u.0)) (omega (arith, u.1))))
              (back_gap ps e y.gap k.kind_is y.cut)
