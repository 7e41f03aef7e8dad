-- The cut test: the lowest gap of the placement among those of the dependence.
-- Main statements: `lowest_either`, `cuts_by`, `cut_lowest`, `cut_Line`, `cut_back`; `cut_some`.
use mathlib.Core.Path.{◌≡◌, refl, sym, ◌∙◌}
use mathlib.Core.Bool.{Bool, true, false, ◌||◌}
use mathlib.Core.List.{List, [], ◌∷◌}
use mathlib.Core.Logic.{◌⊎◌, inl, inr, ⊎_elim}
use Prim.Native.Nat.{ℕ, zero, suc, ◌+◌, ◌≤◌, ◌<◌}
use native.Mathlib.Numerals.{add-one}
use native.Mathlib.Omega.{arith}
use lib.Dec.{eqb, ltb}
use borrow.Author.Tests.{eq-eqb, ne_eqb, lt-ltb, le-ltb}
use Rattle.std.proofs.Common.{Option, Some, None, is_some}
use Rattle.laws.specs.Choice.{pick, between}
use Rattle.laws.proofs.Tests.{le_or, never, or-true, or_left, or_right, false_by}
use Rattle.laws.proofs.Ranges.{in_between}
use Rattle.paper_nests.specs.Kinds.{INDEPENDENT}
use Rattle.paper_nests.specs.Nests.{Dep}
use Rattle.paper_nests.specs.Loops.{end_of}
use Rattle.paper_nests.specs.Gaps.{has_gap}
use Rattle.paper_placements.specs.Placements.{cuts, cut_by}
use Rattle.paper_placements.specs.Words.{GAPS, holds, kept, gaps_of, gaps_in, LowestIn}
use Rattle.paper_placements.specs.Answers.{cut_of, is_cut, CutSays, found_of}

-- ---- the lowest gap of a range

-- of two sets of gaps the lower of both
pub lowest_either
    : (ws : List ℕ) (y z : ℕ → Bool) (a b r : ℕ)
    → LowestIn ws y a
    → LowestIn ws z b
    → ((a < b) × (r ≡ a)) ⊎ ((b ≤ a) × (r ≡ b))
    → LowestIn ws (λ (g : ℕ). y g || z g) r
lowest_either ws y z a b r p q w = go w
  where
    none : r ≤ a → r ≤ b → (i : ℕ) → i < GAPS → (y i || z i) ≡ true → i < r → holds ws i ≡ false
    none l m i g h k =
        ⊎_elim
        (λ (t : y i ≡ true). p.none i g t (omega arith))
        (λ (t : z i ≡ true). q.none i g t (omega arith))
        (or-true (y i) (z i) h)

    go : ((a < b) × (r ≡ a)) ⊎ ((b ≤ a) × (r ≡ b)) → LowestIn ws (λ (g : ℕ). y g || z g) r
    go (inl e) =
        record {
          fits = omega (arith, p.fits, e.1);
          held = λ l. let u = p.held (omega (arith, e.1)) in rw e.1 (or_left (z a) u.0, u.1);
          none = none (omega (arith, e.1)) (omega (arith, e.0, e.1));
        }
    go (inr e) =
        record {
          fits = omega (arith, q.fits, e.1);
          held = λ l. let u = q.held (omega (arith, e.1)) in rw e.1 (or_right (y b) u.0, u.1);
          none = none (omega (arith, e.0, e.1)) (omega (arith, e.1));
        }

-- the same gaps
pub lowest_same
    : (ws : List ℕ) (y z : ℕ → Bool) (r : ℕ)
    → ((g : ℕ) → y g ≡ z g)
    → LowestIn ws y r
    → LowestIn ws z r
lowest_same ws y z r e p =
    record {
      fits = p.fits;
      held = λ l. (sym (e r) ∙ (p.held l).0, (p.held l).1);
      none = λ i a b c. p.none i a (e i ∙ b) c;
    }

-- ---- the lowest gap that cuts

module _ (ps : List ℕ) (e : Dep) where
  cut_none
      : (x : ℕ → Bool) (k g : ℕ)
      → ((i : ℕ) → g ≤ i → i < g + k → has_gap ps e i ≡ true → x i ≡ false)
      → cut_by ps e (gaps_of x k g) ≡ 0
  unfolding gaps_of
  cut_none x zero g h = refl
  cut_none x (suc k) g h =
      go (x g) (has_gap ps e g) refl refl (cut_none x k (suc g) (λ i a b. h i (omega arith) (omega arith)))
    where
      go
          : (t y : Bool)
          → x g ≡ t
          → has_gap ps e g ≡ y
          → cut_by ps e (gaps_of x k (suc g)) ≡ 0
          → cut_by ps e (kept t g (gaps_of x k (suc g))) ≡ 0
      go true true a b r = never (sym (h g (omega arith) (omega arith) b) ∙ a)
      go true false a b r = rw b r
      go false y a b r = r

  cut_at
      : (x : ℕ → Bool) (k g r : ℕ)
      → g ≤ r
      → r < g + k
      → x r ≡ true
      → has_gap ps e r ≡ true
      → ((i : ℕ) → g ≤ i → i < r → has_gap ps e i ≡ true → x i ≡ false)
      → cut_by ps e (gaps_of x k g) ≡ r
  unfolding gaps_of
  cut_at x zero g r l m a b h = absurd (omega arith)
  cut_at x (suc k) g r l m a b h =
      ⊎_elim
      (λ (z : suc g ≤ r).
      later z (x g) (has_gap ps e g) refl refl (cut_at x k (suc g) r z (omega arith) a b (λ i c d. h i (omega arith) d)))
      (λ (z : r < suc g). here (omega arith))
      (le_or (suc g) r)
    where
      later
          : suc g ≤ r
          → (t y : Bool)
          → x g ≡ t
          → has_gap ps e g ≡ y
          → cut_by ps e (gaps_of x k (suc g)) ≡ r
          → cut_by ps e (kept t g (gaps_of x k (suc g))) ≡ r
      later z true true c d rest = never (sym (h g (omega arith) z d) ∙ c)
      later z true false c d rest = rw d rest
      later z false y c d rest = rest

      here : r ≡ g → cut_by ps e (kept (x g) g (gaps_of x k (suc g))) ≡ r
      here z =
          let c : x g ≡ true = rw z at a in
          let d : has_gap ps e g ≡ true = rw z at b in
          rw (c, d) (sym z)

  -- gap 0 cuts nothing
  pub no_gap_zero : has_gap ps e 0 ≡ false
  no_gap_zero = false_by (λ h. go (eqb e.kind INDEPENDENT) h)
    where
      go
          : (t : Bool)
          → pick
          t
          (between (suc e.s) 0 e.t)
          (between (suc e.d) 0 e.t || between (suc e.s) 0 (end_of ps e.d)) ≡
          true
          → ⊥
      go true h = omega (arith, (in_between (suc e.s) 0 e.t h).0)
      go false h =
          ⊎_elim
          (λ (z : between (suc e.d) 0 e.t ≡ true). omega (arith, (in_between (suc e.d) 0 e.t z).0))
          (λ (z : between (suc e.s) 0 (end_of ps e.d) ≡ true).
          omega (arith, (in_between (suc e.s) 0 (end_of ps e.d) z).0))
          (or-true (between (suc e.d) 0 e.t) (between (suc e.s) 0 (end_of ps e.d)) h)

  pub gap_positive : (i : ℕ) → has_gap ps e i ≡ true → 0 < i
  gap_positive zero k = never (sym no_gap_zero ∙ k)
  gap_positive (suc i) k = omega arith

  -- cut, and by which gap
  pub cuts_by : (gs : List ℕ) → cuts ps e gs ≡ ltb 0 (cut_by ps e gs)
  cuts_by [] = refl
  cuts_by (g ∷ gs) = go (has_gap ps e g) refl (cuts_by gs)
    where
      go
          : (t : Bool)
          → has_gap ps e g ≡ t
          → cuts ps e gs ≡ ltb 0 (cut_by ps e gs)
          → (t || cuts ps e gs) ≡ ltb 0 (pick t g (cut_by ps e gs))
      go true h r = sym (lt-ltb 0 g (gap_positive g h))
      go false h r = r

  -- the lowest gap among those of the dependence is the gap that cuts
  pub record Told (ws : List ℕ) (r : ℕ) : Type 0 where
    pub by_gap : found_of r ≡ cut_by ps e (gaps_in ws)
    pub cut : ltb r GAPS ≡ cuts ps e (gaps_in ws)

  pub cut_lowest : (ws : List ℕ) (r : ℕ) → LowestIn ws (has_gap ps e) r → Told ws r
  unfolding gaps_in
  cut_lowest ws r p =
      ⊎_elim
      (λ (z : suc r ≤ GAPS).
      let u = p.held z in
      let c : cut_by ps e (gaps_in ws) ≡ r =
      cut_at (holds ws) GAPS 0 r (omega arith) (omega arith) u.1 u.0 (λ i a b h. p.none i (omega arith) h b) in
      record {
        by_gap = rw (lt-ltb r GAPS z) (sym c);
        cut = lt-ltb r GAPS z ∙ sym (cuts_by (gaps_in ws) ∙ rw c (lt-ltb 0 r (gap_positive r u.0)));
      })
      (λ (z : GAPS < suc r).
      let c : cut_by ps e (gaps_in ws) ≡ 0 =
      cut_none (holds ws) GAPS 0 (λ i a b h. p.none i (omega arith) h (omega arith)) in
      record {
        by_gap = rw (le-ltb r GAPS (omega arith)) (sym c);
        cut = le-ltb r GAPS (omega arith) ∙ sym (cuts_by (gaps_in ws) ∙ rw c);
      })
      (le_or (suc r) GAPS)

  -- as an answer of the code
  pub answer
      : (ws : List ℕ) (a : Option ℕ) (r : ℕ)
      → (cut_of a ≡ found_of r) × (is_cut a ≡ ltb r GAPS)
      → Told ws r
      → CutSays ps e (gaps_in ws) a
  answer ws a r p t = record { by_gap = p.0 ∙ t.by_gap; cut = p.1 ∙ t.cut }

  -- the two kinds
  pub cut_Line
      : (ws : List ℕ) (r : ℕ)
      → e.kind ≡ INDEPENDENT
      → LowestIn ws (λ (g : ℕ). between (e.s + 1) g e.t) r
      → Told ws r
  cut_Line ws r k p =
      cut_lowest
      ws
      r
      (lowest_same
      ws
      (λ (g : ℕ). between (e.s + 1) g e.t)
      (has_gap ps e)
      r
      (λ g. rw (eq-eqb e.kind INDEPENDENT k, add-one))
      p)

  pub cut_back
      : (ws : List ℕ) (end a b r : ℕ)
      → (e.kind ≡ INDEPENDENT → ⊥)
      → end ≡ end_of ps e.d
      → LowestIn ws (λ (g : ℕ). between (e.d + 1) g e.t) a
      → LowestIn ws (λ (g : ℕ). between (e.s + 1) g end) b
      → ((a < b) × (r ≡ a)) ⊎ ((b ≤ a) × (r ≡ b))
      → Told ws r
  cut_back ws end a b r k f p q w =
      cut_lowest
      ws
      r
      (lowest_same
      ws
      (λ (g : ℕ). between (e.d + 1) g e.t || between (e.s + 1) g end)
      (has_gap ps e)
      r
      (λ g. rw (ne_eqb e.kind INDEPENDENT k, add-one e.d, add-one e.s, f))
      (lowest_either
      ws
      (λ (g : ℕ). between (e.d + 1) g e.t)
      (λ (g : ℕ). between (e.s + 1) g end)
      a
      b
      r
      p
      q
      w))

-- an answer of the code cuts where there is one
pub cut_some : (r : Option ℕ) → is_cut r ≡ is_some r
cut_some (Some g) = refl
cut_some None = refl
