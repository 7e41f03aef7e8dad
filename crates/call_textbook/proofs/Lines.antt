-- The line behind a first barrier, as a stretch of places: every other unbarred gap stands in it, none twice, and the
-- gaps of a dependence that lacks the first barrier follow each other without a break.
-- Main definition: `line_from`. Main statements: `line-after`, `in_line`, `line_in`, `line_apart`, `others_in`,
-- `line_unbroken`.
use mathlib.Core.Path.{◌≡◌, refl, sym, ap, ◌∙◌}
use mathlib.Core.Bool.{Bool, true, false, ◌&&◌}
use mathlib.Core.List.{List, [], ◌++◌}
use mathlib.Core.Logic.{⊎_elim}
use Prim.Native.Nat.{ℕ, zero, suc, ◌+◌, ◌-◌, ◌≤◌, ◌<◌}
use native.Mathlib.Omega.{arith}
use lib.ListN.{length}
use Rattle.laws.specs.Choice.{is_in}
use Rattle.laws.proofs.Implies.{implies_by}
use Rattle.laws.proofs.Ranges.{in_between, between_in}
use Rattle.laws.proofs.Tests.{never, and_intro, and_true, or-true, false_by, eq_or, le_or}
use Rattle.laws.proofs.Members.{in_here, in_later, in_cons}
use Rattle.paper_nests.specs.Nests.{Dep}
use Rattle.paper_nests.specs.Gaps.{has_gap}
use Rattle.paper_placements.specs.Placements.{cuts, is_free}
use Rattle.paper_placements.specs.Words.{kept, gaps_of}
use Rattle.call_textbook.specs.Places.{gap_at}
use Rattle.call_textbook.specs.Tries.{line_after}
use Rattle.call_textbook.proofs.Greedy.{leads, is_unbroken}
use Rattle.call_textbook.proofs.Apart.{are_apart, apart_by}
use Rattle.call_textbook.proofs.Places.{gap_low, gap_high, Stretch}

-- the unbarred gaps at the k places from p on
unfoldable pub line_from : List ℕ → ℕ → ℕ → ℕ → List ℕ
line_from bs m zero p = []
line_from bs m (suc k) p = kept (is_free bs (gap_at m p)) (gap_at m p) (line_from bs m k (suc p))

module _ (bs : List ℕ) (m : ℕ) where
  -- ---- two runs of gaps, one behind the other

  line_low : (k p : ℕ) → p + k ≤ suc m → line_from bs m k p ≡ gaps_of (is_free bs) k p
  unfolding line_from gaps_of
  line_low zero p h = refl
  line_low (suc k) p h = rw (gap_low m p (omega arith), line_low k (suc p) (omega arith))

  line_high : (k p q : ℕ) → 0 < q → p ≡ q + m → line_from bs m k p ≡ gaps_of (is_free bs) k q
  unfolding line_from gaps_of
  line_high zero p q f e = refl
  line_high (suc k) p q f e =
      let z : gap_at m p ≡ q = gap_high m p (omega arith) ∙ omega arith in
      rw (z, line_high k (suc p) (suc q) (omega arith) (omega arith))

  line_add : (k j p : ℕ) → line_from bs m (k + j) p ≡ line_from bs m k p ++ line_from bs m j (p + k)
  unfolding line_from
  line_add zero j p =
      let a : 0 + j ≡ j = omega arith in
      let b : p + 0 ≡ p = omega arith in
      rw (a, b)
  line_add (suc k) j p =
      let a : suc k + j ≡ suc (k + j) = omega arith in
      let b : p + suc k ≡ suc p + k = omega arith in
      rw (a, b) (ap (kept (is_free bs (gap_at m p)) (gap_at m p)) (line_add k j (suc p)) ∙ front (is_free bs (gap_at m p)))
    where
      front
          : (t : Bool)
          → kept t (gap_at m p) (line_from bs m k (suc p) ++ line_from bs m j (suc p + k)) ≡
          kept t (gap_at m p) (line_from bs m k (suc p)) ++ line_from bs m j (suc p + k)
      front true = refl
      front false = refl

  pub line-after
      : (ps : List ℕ) (g : ℕ) → m ≡ length ps - 1 → 0 < g → g ≤ m → line_after ps bs g ≡ line_from bs m (m - 1) (suc g)
  line-after ps g e f l =
      let a : m - 1 ≡ (m - g) + (g - 1) = omega arith in
      let b : length ps - suc g ≡ m - g = omega arith in
      rw (
        a,
        b,
        line_add (m - g) (g - 1) (suc g),
        line_low (m - g) (suc g) (omega arith),
        line_high (g - 1) (suc g + (m - g)) 1 (omega arith) (omega arith),
      )

  -- ---- its gaps

  -- the place of a gap of the line
  pub record At (k p h : ℕ) : Type 0 where
    pub place : ℕ
    pub low : p ≤ place
    pub high : place < p + k
    pub gap_is : gap_at m place ≡ h
    pub free : is_free bs h ≡ true

  pub in_line : (k p h : ℕ) → is_in h (line_from bs m k p) ≡ true → At k p h
  unfolding line_from
  in_line zero p h i = never i
  in_line (suc k) p h i = go (is_free bs (gap_at m p)) refl i (in_line k (suc p) h)
    where
      later : At k (suc p) h → At (suc k) p h
      later a =
          record {
            place = a.place;
            low = omega (arith, a.low);
            high = omega (arith, a.high);
            gap_is = a.gap_is;
            free = a.free;
          }

      go
          : (t : Bool) → is_free bs (gap_at m p) ≡ t → is_in h (kept t (gap_at m p) (line_from bs m k (suc p))) ≡ true
          → (is_in h (line_from bs m k (suc p)) ≡ true → At k (suc p) h) → At (suc k) p h
      go true f q rest = ⊎_elim
          (λ (z : h ≡ gap_at m p).
          record { place = p; low = omega arith; high = omega arith; gap_is = sym z; free = rw z f })
          (λ (z : is_in h (line_from bs m k (suc p)) ≡ true). later (rest z))
          (in_cons h (gap_at m p) (line_from bs m k (suc p)) q)
      go false f q rest = later (rest q)

  pub line_in
      : (k p q : ℕ) → p ≤ q → q < p + k → is_free bs (gap_at m q) ≡ true → is_in (gap_at m q) (line_from bs m k p) ≡ true
  unfolding line_from
  line_in zero p q l h f = absurd (omega arith)
  line_in (suc k) p q l h f = ⊎_elim
      (λ (z : p ≡ q). rw (z, f) (in_here (gap_at m q) (line_from bs m k (suc q))))
      (λ (z : p ≡ q → ⊥). later (is_free bs (gap_at m p)) (line_in k (suc p) q (omega (arith, z)) (omega arith) f))
      (eq_or p q)
    where
      later
          : (t : Bool) → is_in (gap_at m q) (line_from bs m k (suc p)) ≡ true
          → is_in (gap_at m q) (kept t (gap_at m p) (line_from bs m k (suc p))) ≡ true
      later true r = in_later (gap_at m q) (gap_at m p) (line_from bs m k (suc p)) r
      later false r = r

  -- places less than m apart have different gaps
  same_gap : (p q : ℕ) → 0 < p → q ≤ m + m → p < q → q < p + m → gap_at m q ≡ gap_at m p → ⊥
  same_gap p q f top l h e = ⊎_elim
      (λ (z : q ≤ m). omega (arith, gap_low m q z, gap_low m p (omega arith)))
      (λ (z : m < q).
      ⊎_elim
      (λ (y : p ≤ m). omega (arith, gap_high m q z, gap_low m p y))
      (λ (y : m < p). omega (arith, gap_high m q z, gap_high m p y))
      (le_or p m))
      (le_or q m)

  pub not_again : (k p : ℕ) → 0 < p → k < m → p + k ≤ m + m → is_in (gap_at m p) (line_from bs m k (suc p)) ≡ false
  not_again k p f l h =
      false_by
      (λ z. let a = in_line k (suc p) (gap_at m p) z in
      same_gap p a.place f (omega (arith, a.high)) (omega (arith, a.low)) (omega (arith, a.high)) a.gap_is)

  pub line_apart : (k p : ℕ) → 0 < p → k ≤ m → p + k ≤ suc (m + m) → are_apart (line_from bs m k p) ≡ true
  unfolding line_from
  line_apart zero p f l h = refl
  line_apart (suc k) p f l h =
      go (is_free bs (gap_at m p)) (line_apart k (suc p) (omega arith) (omega arith) (omega arith))
    where
      go
          : (t : Bool) → are_apart (line_from bs m k (suc p)) ≡ true
          → are_apart (kept t (gap_at m p) (line_from bs m k (suc p))) ≡ true
      go true r =
          apart_by (gap_at m p) (line_from bs m k (suc p)) (not_again k p f (omega arith) (omega arith)) r
      go false r = r

  -- behind gap g stand all other unbarred gaps
  pub others_in
      : (g h : ℕ) → 0 < g → g ≤ m → 0 < h → h ≤ m → (h ≡ g → ⊥) → is_free bs h ≡ true
      → is_in h (line_from bs m (m - 1) (suc g)) ≡ true
  others_in g h f l f' l' n free = ⊎_elim
      (λ (z : h ≤ g).
      let e : gap_at m (h + m) ≡ h = gap_high m (h + m) (omega arith) ∙ omega arith in
      rw e at (line_in (m - 1) (suc g) (h + m) (omega arith) (omega (arith, n)) (rw e free)))
      (λ (z : g < h).
      let e : gap_at m h ≡ h = gap_low m h l' in
      rw e at (line_in (m - 1) (suc g) h (omega arith) (omega arith) (rw e free)))
      (le_or h g)

  -- ---- the gaps of a dependence along it

  module _ (ps : List ℕ) (e : Dep) (g : ℕ) (x : Stretch m ps e g) where
    -- what it has at p or behind is before its end
    cut_before : (k p : ℕ) → g < p → p + k ≤ g + m → cuts ps e (line_from bs m k p) ≡ true → p ≤ x.hi
    unfolding line_from
    cut_before zero p f l c = never c
    cut_before (suc k) p f l c =
        go (is_free bs (gap_at m p)) c (cut_before k (suc p) (omega arith) (omega arith))
      where
        go
            : (t : Bool) → cuts ps e (kept t (gap_at m p) (line_from bs m k (suc p))) ≡ true
            → (cuts ps e (line_from bs m k (suc p)) ≡ true → suc p ≤ x.hi) → p ≤ x.hi
        go true q rest = ⊎_elim
            (λ (z : has_gap ps e (gap_at m p) ≡ true).
            (in_between x.lo p x.hi (sym (x.has p f (omega arith)) ∙ z)).1)
            (λ (z : cuts ps e (line_from bs m k (suc p)) ≡ true). omega (arith, rest z))
            (or-true (has_gap ps e (gap_at m p)) (cuts ps e (line_from bs m k (suc p))) q)
        go false q rest = omega (arith, rest q)

    -- so once begun it has the next gap, if it has any more
    goes-on
        : (k p : ℕ) → g < p → p + k ≤ g + m → x.lo ≤ p → cuts ps e (line_from bs m k p) ≡ true
        → leads ps e (line_from bs m k p) ≡ true
    unfolding line_from
    goes-on zero p f l b c = never c
    goes-on (suc k) p f l b c =
        go (is_free bs (gap_at m p)) refl c (goes-on k (suc p) (omega arith) (omega arith) (omega arith))
        (cut_before (suc k) p f l c)
      where
        go
            : (t : Bool) → is_free bs (gap_at m p) ≡ t
            → cuts ps e (kept t (gap_at m p) (line_from bs m k (suc p))) ≡ true
            → (cuts ps e (line_from bs m k (suc p)) ≡ true → leads ps e (line_from bs m k (suc p)) ≡ true)
            → p ≤ x.hi
            → leads ps e (kept t (gap_at m p) (line_from bs m k (suc p))) ≡ true
        go true n q rest h = x.has p f (omega arith) ∙ between_in x.lo p x.hi b h
        go false n q rest h = rest q

    pub line_unbroken : (k p : ℕ) → g < p → p + k ≤ g + m → is_unbroken ps e (line_from bs m k p) ≡ true
    unfolding line_from
    line_unbroken zero p f l = refl
    line_unbroken (suc k) p f l =
        go (is_free bs (gap_at m p)) (line_unbroken k (suc p) (omega arith) (omega arith))
      where
        go
            : (t : Bool) → is_unbroken ps e (line_from bs m k (suc p)) ≡ true
            → is_unbroken ps e (kept t (gap_at m p) (line_from bs m k (suc p))) ≡ true
        go true r =
            let h = gap_at m p in
            let hs = line_from bs m k (suc p) in
            and_intro
            (implies_by (has_gap ps e h && cuts ps e hs) (leads ps e hs)
            (λ z.
            let y = and_true (has_gap ps e h) (cuts ps e hs) z in
            let low = (in_between x.lo p x.hi (sym (x.has p f (omega arith)) ∙ y.0)).0 in
            goes-on k (suc p) (omega arith) (omega arith) (omega arith) y.1))
            r
        go false r = r
