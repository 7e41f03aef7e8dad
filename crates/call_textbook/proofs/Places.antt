-- The gaps of a dependence as places of the ring laid out twice. In the places behind a gap that it lacks they are one
-- stretch.
-- Main definitions: `Stretch`. Main statements: `gap_low`, `gap_high`, `span-gap`, `stretch`.
use mathlib.Core.Path.{◌≡◌, refl, sym, ◌∙◌}
use mathlib.Core.Bool.{true, false, ◌||◌}
use mathlib.Core.List.{List}
use mathlib.Core.Logic.{◌⊎◌, inl, inr, ⊎_elim}
use Prim.Native.Nat.{ℕ, suc, ◌+◌, ◌-◌, ◌≤◌, ◌<◌, min}
use native.Mathlib.Omega.{arith}
use lib.ListN.{length}
use borrow.Author.Tests.{le-leb, lt-leb}
use Rattle.laws.specs.Choice.{between}
use Rattle.laws.proofs.Connectives.{or_off}
use Rattle.laws.proofs.Ranges.{in_between, between_in}
use Rattle.laws.proofs.Tests.{never_both, bool_by, false_by, le_or, or_false, or-true, or_left, or_right, lt_by}
use Rattle.paper_nests.specs.Nests.{Dep}
use Rattle.paper_nests.specs.Loops.{end_of}
use Rattle.paper_nests.specs.Gaps.{has_gap}
use Rattle.paper_nests.specs.Ring.{one_loop}
use Rattle.paper_nests.specs.Valid.{is_shape}
use Rattle.paper_nests.proofs.Loops.{outermost}
use Rattle.paper_nests.proofs.Deps.{Line, Back, Fits}
use Rattle.paper_nests.proofs.Ring.{one_loop_is_first}
use Rattle.call_textbook.specs.Places.{gap_at, last_place}

pub gap_low : (m p : ℕ) → p ≤ m → gap_at m p ≡ p
gap_low m p h = rw (le-leb p m h)

pub gap_high : (m p : ℕ) → m < p → gap_at m p ≡ p - m
gap_high m p h = rw (lt-leb p m h)

-- a gap of the ring
pub gap_first : (m p : ℕ) → 0 < p → 0 < gap_at m p
gap_first m p h =
    ⊎_elim (λ (z : p ≤ m). omega (arith, gap_low m p z)) (λ (z : m < p). omega (arith, gap_high m p z)) (le_or p m)

pub gap_last : (m p : ℕ) → p ≤ m + m → gap_at m p ≤ m
gap_last m p h =
    ⊎_elim (λ (z : p ≤ m). omega (arith, gap_low m p z)) (λ (z : m < p). omega (arith, gap_high m p z)) (le_or p m)

pub gap_again : (m p : ℕ) → 0 < p → p ≤ m → gap_at m (p + m) ≡ gap_at m p
gap_again m p f l = gap_high m (p + m) (omega arith) ∙ omega (arith, gap_low m p l)

-- not between
pub outside : (a x b : ℕ) → (x < a) ⊎ (b < x) → between a x b ≡ false
outside a x b h =
    false_by (λ z.
    let y = in_between a x b z in
    ⊎_elim (λ (w : x < a). omega arith) (λ (w : b < x). omega arith) h)

not_within : (a x b : ℕ) → between a x b ≡ false → a ≤ x → b < x
not_within a x b h l = lt_by (λ z. never_both (between_in a x b l z) h)

moved : (a p b m : ℕ) → m < p → between a (p - m) b ≡ between (a + m) p (b + m)
moved a p b m l =
    bool_by (between a (p - m) b) (between (a + m) p (b + m))
    (λ z. let y = in_between a (p - m) b z in between_in (a + m) p (b + m) (omega arith) (omega arith))
    (λ z. let y = in_between (a + m) p (b + m) z in between_in a (p - m) b (omega arith) (omega arith))

-- 1 to t and s + 1 to m, as places; where s is before t these are all, laid out from s + 1 to m + s
round_places
    : (m s t g : ℕ) → s < m → 0 < g → g ≤ m
    → (between 1 g t || between (suc s) g m) ≡
    (between (suc s) g (m + min s t) || between (suc s) (g + m) (m + min s t))
round_places m s t g l f h =
    bool_by (between 1 g t || between (suc s) g m)
    (between (suc s) g (m + min s t) || between (suc s) (g + m) (m + min s t))
    there
    back
  where
    near : s < g → (between (suc s) g (m + min s t) || between (suc s) (g + m) (m + min s t)) ≡ true
    near z =
        or_left (between (suc s) (g + m) (m + min s t)) (between_in (suc s) g (m + min s t) (omega arith) (omega arith))

    there
        : (between 1 g t || between (suc s) g m) ≡ true
        → (between (suc s) g (m + min s t) || between (suc s) (g + m) (m + min s t)) ≡ true
    there z = ⊎_elim
        (λ (y : between 1 g t ≡ true).
        let x = in_between 1 g t y in
        ⊎_elim
        (λ (w : g ≤ s).
        or_right (between (suc s) g (m + min s t))
        (between_in (suc s) (g + m) (m + min s t) (omega arith) (omega (arith, x.1))))
        (λ (w : s < g). near w)
        (le_or g s))
        (λ (y : between (suc s) g m ≡ true). near (omega (arith, (in_between (suc s) g m y).0)))
        (or-true (between 1 g t) (between (suc s) g m) z)

    back
        : (between (suc s) g (m + min s t) || between (suc s) (g + m) (m + min s t)) ≡ true
        → (between 1 g t || between (suc s) g m) ≡ true
    back z = ⊎_elim
        (λ (y : between (suc s) g (m + min s t) ≡ true).
        or_right (between 1 g t) (between_in (suc s) g m (in_between (suc s) g (m + min s t) y).0 h))
        (λ (y : between (suc s) (g + m) (m + min s t) ≡ true).
        or_left (between (suc s) g m)
        (between_in 1 g t (omega arith) (omega (arith, (in_between (suc s) (g + m) (m + min s t) y).1))))
        (or-true (between (suc s) g (m + min s t)) (between (suc s) (g + m) (m + min s t)) z)

-- the gaps of a dependence on a ring of m are those at the places s + 1 to the last, at most m places
pub record Span (m : ℕ) (ps : List ℕ) (e : Dep) : Type 0 where
  pub source : e.s < m
  pub some : e.s < last_place m e
  pub once : last_place m e ≤ e.s + m
  pub has
      : (g : ℕ) → 0 < g → g ≤ m
      → has_gap ps e g ≡ (between (suc e.s) g (last_place m e) || between (suc e.s) (g + m) (last_place m e))

module _ (ps : List ℕ) (e : Dep) (shape : is_shape ps ≡ true) (one : one_loop ps ≡ true) where
  abbrev top : ℕ
  top = length ps - 1

  line_span : Line ps e → Span (length ps - 1) ps e
  line_span l =
      let b : last_place top e ≡ e.t = rw l.kind_is in
      record {
        source = omega (arith, l.forward, l.target_there);
        some = omega (arith, l.forward, b);
        once = omega (arith, l.target_there, b);
        has = λ g f h.
            let far : between (suc e.s) (g + top) (last_place top e) ≡ false =
            outside (suc e.s) (g + top) (last_place top e) (inr (omega (arith, l.target_there, b))) in
            let here : has_gap ps e g ≡ between (suc e.s) g (last_place top e) = rw l.kind_is in
            rw far (here ∙ sym (or_off (between (suc e.s) g (last_place top e))));
      }

  back_span : Back ps e → Span (length ps - 1) ps e
  back_span k =
      let d : e.d ≡ 0 = one_loop_is_first ps one e.d k.loop in
      let end : end_of ps 0 ≡ top = omega (arith, outermost ps shape) in
      let s : e.s < end_of ps 0 = rw d at k.source_before in
      let t : e.t < end_of ps 0 = rw d at k.target_before in
      let b : last_place top e ≡ top + min e.s e.t = rw k.kind_is in
      record {
        source = omega arith;
        some = omega (arith, k.target_after);
        once = omega arith;
        has = λ g f h. rw (k.kind_is, d, end) (round_places top e.s e.t g (omega arith) f h);
      }

  fits_span : Fits ps e → Span (length ps - 1) ps e
  fits_span (inl l) = line_span l
  fits_span (inr k) = back_span k

  pub span : (m : ℕ) → m ≡ length ps - 1 → Fits ps e → Span m ps e
  span m m_is f = rw m_is (fits_span f)

-- in the places behind gap g, up to g again, the gaps of a dependence are those from lo to hi
pub record Stretch (m : ℕ) (ps : List ℕ) (e : Dep) (g : ℕ) : Type 0 where
  pub lo : ℕ
  pub hi : ℕ
  pub after : g < lo
  pub before : hi < g + m
  pub has : (p : ℕ) → g < p → p < g + m → has_gap ps e (gap_at m p) ≡ between lo p hi
  pub placed : ((lo ≡ suc e.s) × (hi ≡ last_place m e)) ⊎ ((lo ≡ suc e.s + m) × (hi ≡ last_place m e + m))

module _ (m : ℕ) (ps : List ℕ) (e : Dep) (x : Span m ps e) (g : ℕ) (first : 0 < g) (last : g ≤ m) where
  abbrev a : ℕ
  a = suc e.s

  abbrev b : ℕ
  b = last_place m e

  at_low : (p : ℕ) → 0 < p → p ≤ m → has_gap ps e (gap_at m p) ≡ (between a p b || between a (p + m) b)
  at_low p f l = rw (gap_low m p l) (x.has p f l)

  at_high : (p : ℕ) → m < p → p ≤ m + m → has_gap ps e (gap_at m p) ≡ (between a (p - m) b || between a p b)
  at_high p f l =
      let y : (p - m) + m ≡ p = omega arith in
      rw (gap_high m p f) (x.has (p - m) (omega arith) (omega arith) ∙ rw y)

  out : has_gap ps e g ≡ false → (between a g b ≡ false) × (between a (g + m) b ≡ false)
  out lacks = or_false (between a g b) (between a (g + m) b) (sym (x.has g first last) ∙ lacks)

  -- it begins behind g and ends before g comes again
  ahead : has_gap ps e g ≡ false → g < a → Stretch m ps e g
  ahead lacks z =
      let end = not_within a (g + m) b (out lacks).1 (omega (arith, x.source)) in
      record {
        lo = a;
        hi = b;
        after = z;
        before = end;
        has = λ p l h.
            ⊎_elim
            (λ (y : p ≤ m).
            let far = outside a (p + m) b (inr (omega arith)) in
            at_low p (omega arith) y ∙ rw far (or_off (between a p b)))
            (λ (y : m < p).
            let far = outside a (p - m) b (inl (omega arith)) in
            at_high p y (omega arith) ∙ rw far)
            (le_or p m);
        placed = inl (refl, refl);
      }

  -- or it lies before g, and so, once round, before g again
  behind : has_gap ps e g ≡ false → a ≤ g → Stretch m ps e g
  behind lacks z =
      let end = not_within a g b (out lacks).0 z in
      record {
        lo = a + m;
        hi = b + m;
        after = omega arith;
        before = omega arith;
        has = λ p l h.
            ⊎_elim
            (λ (y : p ≤ m).
            let near = outside a p b (inr (omega arith)) in
            let far = outside a (p + m) b (inr (omega arith)) in
            at_low p (omega arith) y ∙ rw (near, far) (sym (outside (a + m) p (b + m) (inl (omega arith)))))
            (λ (y : m < p).
            let far = outside a p b (inr (omega arith)) in
            at_high p y (omega arith) ∙ rw far (or_off (between a (p - m) b) ∙ moved a p b m y))
            (le_or p m);
        placed = inr (refl, refl);
      }

  pub stretch : has_gap ps e g ≡ false → Stretch m ps e g
  stretch lacks = ⊎_elim (λ (z : a ≤ g). behind lacks z) (λ (z : g < a). ahead lacks z) (le_or a g)
