-- Where a dependence ends on the line behind a first barrier that it lacks: at its last unbarred place, where the table
-- has its start.
-- Main statements: `last_free_is`, `last_free_by`, `ends_start`, `start_ends`, `start_free`, `latest_some`,
-- `latest_most`.
use mathlib.Core.Path.{◌≡◌, refl, sym, ap, ◌∙◌}
use mathlib.Core.Bool.{Bool, true, false, ◌&&◌}
use mathlib.Core.List.{List, [], ◌∷◌}
use mathlib.Core.Logic.{◌⊎◌, inl, inr, ⊎_elim}
use Prim.Native.Nat.{ℕ, zero, suc, ◌+◌, ◌-◌, ◌≤◌, ◌<◌}
use native.Mathlib.Omega.{arith}
use lib.Dec.{eqb, leb}
use borrow.Author.Tests.{eqb-true, eq-eqb, ne_eqb, leb-true, le-leb}
use Rattle.laws.specs.Choice.{pick}
use Rattle.laws.specs.Members.{Among}
use Rattle.laws.proofs.Ranges.{in_between, between_in}
use Rattle.laws.proofs.Tests.{never_both, and_true, false_by, eq_by, eq_or, le_or, lt_by}
use Rattle.paper_nests.specs.Nests.{Dep}
use Rattle.paper_nests.specs.Gaps.{has_gap}
use Rattle.paper_placements.specs.Placements.{cuts, is_free}
use Rattle.paper_placements.proofs.Cuts.{cut_has_gap, gap_cuts}
use Rattle.call_textbook.specs.Places.{gap_at, last_place, last_free, start_at, latest_of}
use Rattle.call_textbook.proofs.Places.{gap_low, gap_high, gap_again, outside, Span, Stretch, stretch}
use Rattle.call_textbook.proofs.Lines.{line_from, in_line, line_in}

-- ---- the last unbarred place

-- u is the last unbarred place at or before b; 0 for none
pub record LastFree (bs : List ℕ) (m b u : ℕ) : Type 0 where
  pub within : u ≤ b
  pub free : 0 < u → is_free bs (gap_at m u) ≡ true
  pub none : (q : ℕ) → u < q → q ≤ b → is_free bs (gap_at m q) ≡ false

module _ (bs : List ℕ) (m : ℕ) where
  pub last_free_is : (b : ℕ) → LastFree bs m b (last_free bs m b)
  unfolding last_free
  last_free_is zero =
      record { within = omega arith; free = λ h. absurd (omega arith); none = λ q h l. absurd (omega arith) }
  last_free_is (suc b) = go (is_free bs (gap_at m (suc b))) refl (last_free_is b)
    where
      go
          : (t : Bool) → is_free bs (gap_at m (suc b)) ≡ t → LastFree bs m b (last_free bs m b)
          → LastFree bs m (suc b) (pick t (suc b) (last_free bs m b))
      go true e r = record { within = omega arith; free = λ h. e; none = λ q h l. absurd (omega arith) }
      go false e r =
          record {
            within = omega (arith, r.within);
            free = r.free;
            none = λ q h l.
                ⊎_elim
                (λ (z : q ≡ suc b). rw z e)
                (λ (z : q ≡ suc b → ⊥). r.none q h (omega (arith, z)))
                (eq_or q (suc b));
          }

  -- there is one such place only
  pub last_free_by : (b u : ℕ) → 0 < u → LastFree bs m b u → last_free bs m b ≡ u
  last_free_by b u f r =
      let v = last_free_is b in
      eq_by (λ n.
      ⊎_elim
      (λ (z : u ≤ last_free bs m b).
      never_both (v.free (omega arith)) (r.none (last_free bs m b) (omega (arith, n)) v.within))
      (λ (z : last_free bs m b < u). never_both (r.free f) (v.none u z r.within))
      (le_or u (last_free bs m b)))

-- ---- the start at a place, by cases

-- it ends there, or there once round
abbrev Here : (ℕ → ℕ) → ℕ → Dep → ℕ → ℕ → Type 0
Here free m e p last = (suc e.s ≤ free (last_place m e)) × (p ≡ free (last_place m e)) × (last < suc e.s)

abbrev Round : (ℕ → ℕ) → ℕ → Dep → ℕ → ℕ → Type 0
Round free m e p last = (suc e.s ≤ free (last_place m e)) × (p ≡ free (last_place m e) + m) × (last < suc e.s + m)

start_cases
    : (free : ℕ → ℕ) (m : ℕ) (e : Dep) (p last : ℕ) → last < start_at free m e p
    → Here free m e p last ⊎ Round free m e p last
start_cases free m e p last h =
    go
    (leb (suc e.s) (free (last_place m e)) && eqb p (free (last_place m e)))
    refl
    (leb (suc e.s) (free (last_place m e)) && eqb p (free (last_place m e) + m))
    refl
    h
  where
    go
        : (x : Bool) → (leb (suc e.s) (free (last_place m e)) && eqb p (free (last_place m e))) ≡ x
        → (y : Bool) → (leb (suc e.s) (free (last_place m e)) && eqb p (free (last_place m e) + m)) ≡ y
        → last < pick x (suc e.s) (pick y (suc e.s + m) 0)
        → Here free m e p last ⊎ Round free m e p last
    go true a y b l =
        let z = and_true (leb (suc e.s) (free (last_place m e))) (eqb p (free (last_place m e))) a in
        inl (leb-true (suc e.s) (free (last_place m e)) z.0, eqb-true p (free (last_place m e)) z.1, l)
    go false a true b l =
        let z = and_true (leb (suc e.s) (free (last_place m e))) (eqb p (free (last_place m e) + m)) b in
        inr (leb-true (suc e.s) (free (last_place m e)) z.0, eqb-true p (free (last_place m e) + m) z.1, l)
    go false a false b l = absurd (omega arith)

start_first
    : (free : ℕ → ℕ) (m : ℕ) (e : Dep) (p : ℕ) → free (last_place m e) ≡ p → suc e.s ≤ p
    → start_at free m e p ≡ suc e.s
start_first free m e p u l = rw (u, le-leb (suc e.s) p l, eq-eqb p p refl)

start_again
    : (free : ℕ → ℕ) (m : ℕ) (e : Dep) (p u : ℕ) → free (last_place m e) ≡ u → suc e.s ≤ u → 0 < m → p ≡ u + m
    → start_at free m e p ≡ suc e.s + m
start_again free m e p u v l f w =
    rw (v, le-leb (suc e.s) u l, ne_eqb p u (λ z. omega arith), eq-eqb p (u + m) w)

-- ---- on the line behind g

module _
    (ps bs : List ℕ) (m : ℕ) (e : Dep) (x : Span m ps e)
    (g : ℕ) (first : 0 < g) (inside : g ≤ m) (free_g : is_free bs g ≡ true)
  where
    abbrev b : ℕ
    b = last_place m e

    -- a place at which it ends is unbarred
    pub start_free
        : (p last : ℕ) → p < g + m → last < start_at (last_free bs m) m e p → is_free bs (gap_at m p) ≡ true
    start_free p last l h = ⊎_elim
        (λ (z : Here (last_free bs m) m e p last).
        rw z.1 ((last_free_is bs m b).free (omega (arith, z.0))))
        (λ (z : Round (last_free bs m) m e p last).
        let u = last_free bs m b in
        let again : gap_at m p ≡ gap_at m u =
        ap (gap_at m) z.1 ∙ gap_again m u (omega (arith, z.0)) (omega (arith, z.1)) in
        ap (is_free bs) again ∙ (last_free_is bs m b).free (omega (arith, z.0)))
        (start_cases (last_free bs m) m e p last h)

    module _ (k p : ℕ) (after : g < p) (to_end : suc p + k ≡ g + m) where
      abbrev rest : List ℕ
      rest = line_from bs m k (suc p)

      -- a dependence that ends at p: the table has its start there
      pub ends_start
          : (y : Stretch m ps e g) → is_free bs (gap_at m p) ≡ true → has_gap ps e (gap_at m p) ≡ true
          → cuts ps e (line_from bs m k (suc p)) ≡ false
          → start_at (last_free bs m) m e p ≡ y.lo
      ends_start y free its done = go y.placed
        where
          here : (y.lo ≤ p) × (p ≤ y.hi)
          here = in_between y.lo p y.hi (sym (y.has p after (omega arith)) ∙ its)

          -- behind p it has barred gaps only
          barred : (q : ℕ) → p < q → q ≤ y.hi → is_free bs (gap_at m q) ≡ false
          barred q l h =
              false_by (λ f.
              let within = between_in y.lo q y.hi (omega (arith, here.0)) h in
              let has : has_gap ps e (gap_at m q) ≡ true =
              y.has q (omega arith) (omega (arith, y.before)) ∙ within in
              let there = line_in bs m k (suc p) q (omega arith) (omega (arith, y.before)) f in
              never_both (gap_cuts ps e rest (gap_at m q) there has) done)

          go
              : ((y.lo ≡ suc e.s) × (y.hi ≡ last_place m e)) ⊎
              ((y.lo ≡ suc e.s + m) × (y.hi ≡ last_place m e + m))
              → start_at (last_free bs m) m e p ≡ y.lo
          go (inl z) =
              let u = last_free_by bs m b p (omega arith)
              (record {
                within = omega (arith, here.1, z.1);
                free = λ f. free;
                none = λ q l h. barred q l (omega (arith, z.1));
              }) in
              start_first (last_free bs m) m e p u (omega (arith, here.0, z.0)) ∙ sym z.0
          go (inr z) =
              let back : gap_at m p ≡ p - m = gap_high m p (omega (arith, here.0, z.0)) in
              let low : gap_at m (p - m) ≡ p - m = gap_low m (p - m) (omega arith) in
              let u = last_free_by bs m b (p - m) (omega (arith, here.0, z.0))
              (record {
                within = omega (arith, here.1, z.1);
                free = λ f. ap (is_free bs) (low ∙ sym back) ∙ free;
                none = λ q l h.
                    let again = gap_again m q (omega arith) (omega (arith, z.1, y.before)) in
                    ap (is_free bs) (sym again) ∙ barred (q + m) (omega arith) (omega (arith, z.1));
              }) in
              start_again (last_free bs m) m e p (p - m) u (omega (arith, here.0, z.0)) (omega arith)
              (omega (arith, here.0, z.0)) ∙
              sym z.0

      -- and where the table has a start behind the last cut, the dependence ends
      pub record Ends (last : ℕ) : Type 0 where
        pub lacks : has_gap ps e g ≡ false
        pub run : Stretch m ps e g
        pub starts : last < run.lo
        pub its : has_gap ps e (gap_at m p) ≡ true
        pub done : cuts ps e (line_from bs m k (suc p)) ≡ false

      module _ (last : ℕ) (low : g ≤ last) (p_fits : p < g + m) where
        -- of a stretch in which p is the last unbarred place
        ends_by
            : (l : has_gap ps e g ≡ false) (y : Stretch m ps e g) → last < y.lo → y.lo ≤ p → p ≤ y.hi
            → ((q : ℕ) → p < q → q ≤ y.hi → is_free bs (gap_at m q) ≡ false)
            → Ends last
        ends_by l y s a c none =
            record {
              lacks = l;
              run = y;
              starts = s;
              its = y.has p after p_fits ∙ between_in y.lo p y.hi a c;
              done = false_by (λ z.
                  let h = cut_has_gap ps e rest z in
                  let q = in_line bs m k (suc p) h.gap h.placed in
                  let has : has_gap ps e (gap_at m q.place) ≡ true = ap (has_gap ps e) q.gap_is ∙ h.its in
                  let inside_it =
                  in_between y.lo q.place y.hi
                  (sym (y.has q.place (omega (arith, q.low)) (omega (arith, q.high))) ∙ has) in
                  let free : is_free bs (gap_at m q.place) ≡ true = ap (is_free bs) q.gap_is ∙ q.free in
                  never_both free (none q.place q.low inside_it.1));
            }

        abbrev u : ℕ
        u = last_free bs m (last_place m e)

        -- the first barrier is unbarred at both its places
        g_free : is_free bs (gap_at m g) ≡ true
        g_free = ap (is_free bs) (gap_low m g inside) ∙ free_g

        g_free_again : is_free bs (gap_at m (g + m)) ≡ true
        g_free_again = ap (is_free bs) (gap_again m g first inside) ∙ g_free

        -- it lacks g where neither place of g lies in it
        lacks_by : (g < suc e.s) ⊎ (b < g) → b < g + m → has_gap ps e g ≡ false
        lacks_by l h =
            x.has g first inside ∙
            rw (outside (suc e.s) g b l, outside (suc e.s) (g + m) b (inr h))

        ends_here : suc e.s ≤ u → p ≡ u → last < suc e.s → Ends last
        ends_here s q l =
            let f = last_free_is bs m b in
            let short : b < g + m = lt_by (λ z. never_both g_free_again (f.none (g + m) (omega arith) z)) in
            let out = lacks_by (inl (omega arith)) short in
            let y = stretch m ps e x g first inside out in
            ⊎_elim
            (λ (z : (y.lo ≡ suc e.s) × (y.hi ≡ last_place m e)).
            ends_by out y (omega (arith, z.0)) (omega (arith, z.0)) (omega (arith, z.1, f.within))
            (λ r h w. f.none r (omega arith) (omega (arith, z.1))))
            (λ (z : (y.lo ≡ suc e.s + m) × (y.hi ≡ last_place m e + m)).
            absurd (omega (arith, z.1, y.before, f.within)))
            y.placed

        ends_again : suc e.s ≤ u → p ≡ u + m → last < suc e.s + m → Ends last
        ends_again s q l =
            let f = last_free_is bs m b in
            let short : b < g = lt_by (λ z. never_both g_free (f.none g (omega arith) z)) in
            let out = lacks_by (inr short) (omega arith) in
            let y = stretch m ps e x g first inside out in
            ⊎_elim
            (λ (z : (y.lo ≡ suc e.s) × (y.hi ≡ last_place m e)). absurd (omega (arith, z.0, y.after)))
            (λ (z : (y.lo ≡ suc e.s + m) × (y.hi ≡ last_place m e + m)).
            ends_by out y (omega (arith, z.0)) (omega (arith, z.0)) (omega (arith, z.1, f.within))
            (λ r h w.
            let back : gap_at m r ≡ gap_at m (r - m) =
            gap_high m r (omega arith) ∙ sym (gap_low m (r - m) (omega (arith, z.1))) in
            ap (is_free bs) back ∙ f.none (r - m) (omega arith) (omega (arith, z.1))))
            y.placed

        pub start_ends : last < start_at (last_free bs m) m e p → Ends last
        start_ends h = ⊎_elim
            (λ (z : Here (last_free bs m) m e p last).
            ends_here z.0 z.1 z.2)
            (λ (z : Round (last_free bs m) m e p last).
            ends_again z.0 z.1 z.2)
            (start_cases (last_free bs m) m e p last h)

-- ---- the latest start

-- some dependence has it
pub record Later (free : ℕ → ℕ) (m : ℕ) (ds : List Dep) (p last : ℕ) : Type 0 where
  pub dependence : Dep
  pub there : Among dependence ds
  pub behind : last < start_at free m dependence p

pub latest_some
    : (free : ℕ → ℕ) (m : ℕ) (ds : List Dep) (p last : ℕ) → last < latest_of free m ds p → Later free m ds p last
latest_some free m [] p last h = absurd (omega arith)
latest_some free m (e ∷ es) p last h = ⊎_elim
    (λ (z : start_at free m e p ≤ last).
    let r = latest_some free m es p last (omega arith) in
    record { dependence = r.dependence; there = inr r.there; behind = r.behind })
    (λ (z : last < start_at free m e p). record { dependence = e; there = inl refl; behind = z })
    (le_or (start_at free m e p) last)

-- and none has a later one
pub latest_most
    : (free : ℕ → ℕ) (m : ℕ) (ds : List Dep) (p : ℕ) (e : Dep) → Among e ds → start_at free m e p ≤ latest_of free m ds p
latest_most free m [] p e a = absurd a
latest_most free m (x ∷ xs) p e a = ⊎_elim
    (λ (z : e ≡ x). rw z (omega arith))
    (λ (z : Among e xs). omega (arith, latest_most free m xs p e z))
    a
