-- A dependence and what the renumbering makes of it: an unbarred gap is one of its gaps exactly if the gap's rank is one
-- of the other's. So the same placements cut both, and where not all gaps of it are barred the other is well placed.
-- Main statements: `gap_ranked`, `cuts_ranked`, `open_there`, `open_by`, `reduced_is_dep`.
use mathlib.Core.Path.{◌≡◌, refl, sym, ap, ◌∙◌}
use mathlib.Core.Bool.{Bool, true, false, ◌&&◌, ◌||◌}
use mathlib.Core.List.{List, [], ◌∷◌}
use mathlib.Core.Logic.{◌⊎◌, inl, inr, ⊎_elim}
use Prim.Native.Nat.{ℕ, suc, ◌-◌, ◌≤◌, ◌<◌}
use native.Mathlib.Omega.{arith}
use lib.Dec.{eqb, ltb, leb}
use lib.ListN.{length}
use borrow.Author.Tests.{leb-true, leb-false, ltb-true, eqb-true, eqb-false, le-leb, lt-leb, lt-ltb, le-ltb, ne_eqb}
use Rattle.laws.specs.Choice.{pick, is_in}
use Rattle.laws.proofs.Connectives.{or_off}
use Rattle.laws.proofs.Members.{in_here}
use Rattle.laws.proofs.Tests.{never, and_intro, and_true, or-true, or_left, or_right, le_or}
use Rattle.paper_nests.specs.Kinds.{INDEPENDENT, CARRIED}
use Rattle.paper_nests.specs.Nests.{Dep, dep}
use Rattle.paper_nests.specs.Loops.{end_of}
use Rattle.paper_nests.specs.Gaps.{has_gap}
use Rattle.paper_nests.specs.Ring.{one_loop}
use Rattle.paper_nests.specs.Valid.{is_shape, is_dep}
use Rattle.paper_nests.proofs.Loops.{outermost}
use Rattle.paper_nests.proofs.Ring.{one_loop_is_first}
use Rattle.paper_nests.proofs.Deps.{Fits, line_gap}
use Rattle.paper_placements.specs.Placements.{cuts, are_gaps_from, is_free, avoids}
use Rattle.paper_placements.proofs.Cuts.{cut_has_gap, avoids_in}
use Rattle.paper_placements.proofs.Words.{gaps_of_in, gaps_of_rising}
use Rattle.paper_placements.proofs.Rising.{rises, rising_in}
use Rattle.paper_barred.specs.Ranks.{rank, ranks}
use Rattle.paper_barred.specs.Reduced.{open_gaps, is_shut, ring_points, carried_round, reduced_dep}
use Rattle.paper_barred.proofs.Ranks.{rank_monotone, rank_of_free, rank_first, ranked_below, ranked_above}
use Rattle.paper_barred.proofs.RingPoints.{ring-end, line_dep, back_dep}

-- ---- round a ring of m gaps

and_on : (b : Bool) → (b && true) ≡ b
and_on true = refl
and_on false = refl

-- its gaps are 1 to t and s + 1 to m
module _ (m s t r : ℕ) (first : 0 < r) (last : r ≤ m) where
  whole : ltb 0 r ≡ true
  whole = lt-ltb 0 r first

  inside : leb r m ≡ true
  inside = le-leb r m last

  carried_gap : has_gap (ring_points m) (dep CARRIED 0 s t) r ≡ (leb r t || ltb s r)
  carried_gap = rw (ring-end m (omega arith), whole, inside, and_on (ltb s r))

  round_gap : has_gap (ring_points m) (carried_round m s t) r ≡ (leb r t || ltb s r)
  round_gap = all_gaps (leb s t) refl
    where
      -- s + 1 to t, both stretches
      both : (u : Bool) → eqb s m ≡ u
          → has_gap (ring_points m) (pick u (dep INDEPENDENT 0 0 t) (dep CARRIED 0 s t)) r ≡ (leb r t || ltb s r)
      both true e =
          let z : ltb s r ≡ false = le-ltb s r (omega (arith, eqb-true s m e)) in
          rw (whole, z, or_off (leb r t))
      both false e = carried_gap

      -- nothing before
      after
          : (u : Bool) → eqb t 0 ≡ u
          → has_gap (ring_points m)
          (pick u (dep INDEPENDENT 0 s m) (pick (eqb s m) (dep INDEPENDENT 0 0 t) (dep CARRIED 0 s t))) r ≡
          (leb r t || ltb s r)
      after true e =
          let z : leb r t ≡ false = lt-leb r t (omega (arith, eqb-true t 0 e)) in
          rw (inside, z, and_on (ltb s r))
      after false e = both (eqb s m) refl

      all_gaps
          : (u : Bool) → leb s t ≡ u
          → has_gap (ring_points m)
          (pick u (dep INDEPENDENT 0 0 m)
          (pick (eqb t 0) (dep INDEPENDENT 0 s m) (pick (eqb s m) (dep INDEPENDENT 0 0 t) (dep CARRIED 0 s t)))) r
          ≡ (leb r t || ltb s r)
      all_gaps true e =
          let l = leb-true s t e in
          let z : (leb r t || ltb s r) ≡ true =
          ⊎_elim
          (λ (y : r ≤ t). or_left (ltb s r) (le-leb r t y))
          (λ (y : t < r). or_right (leb r t) (lt-ltb s r (omega arith)))
          (le_or r t) in
          rw (whole, inside, z)
      all_gaps false e = after (eqb t 0) refl

-- with a gap of either stretch it is well placed
module _ (m s t : ℕ) (some : 0 < m) (s_fits : s ≤ m) (t_fits : t ≤ m) (gap : (0 < t) ⊎ (s < m)) where
  round_is_dep : is_dep (ring_points m) (carried_round m s t) ≡ true
  round_is_dep = all_gaps (leb s t) refl
    where
      both
          : (u : Bool) → t < s → 0 < t → eqb s m ≡ u
          → is_dep (ring_points m) (pick u (dep INDEPENDENT 0 0 t) (dep CARRIED 0 s t)) ≡ true
      both true l f e = line_dep m some 0 t f t_fits
      both false l f e =
          let z = eqb-false s m e in
          back_dep m some s t f (omega arith) (omega (arith, z)) (omega (arith, z))

      after
          : (u : Bool) → t < s → eqb t 0 ≡ u
          → is_dep (ring_points m)
          (pick u (dep INDEPENDENT 0 s m) (pick (eqb s m) (dep INDEPENDENT 0 0 t) (dep CARRIED 0 s t))) ≡
          true
      after true l e =
          let z = eqb-true t 0 e in
          line_dep m some s m (⊎_elim (λ (f : 0 < t). absurd (omega arith)) (λ (f : s < m). f) gap) (omega arith)
      after false l e = both (eqb s m) l (omega (arith, eqb-false t 0 e)) refl

      all_gaps
          : (u : Bool) → leb s t ≡ u
          → is_dep (ring_points m)
          (pick u (dep INDEPENDENT 0 0 m)
          (pick (eqb t 0) (dep INDEPENDENT 0 s m) (pick (eqb s m) (dep INDEPENDENT 0 0 t) (dep CARRIED 0 s t)))) ≡
          true
      all_gaps true e = line_dep m some 0 m some (omega arith)
      all_gaps false e = after (eqb t 0) (leb-false s t e) refl

-- ---- a dependence of a nest of one loop

module _
    (ps bs : List ℕ) (e : Dep)
    (shape : is_shape ps ≡ true) (one : one_loop ps ≡ true) (fits : Fits ps e) where
  abbrev last : ℕ
  last = length ps - 1

  abbrev top : ℕ
  top = rank bs last

  pub gap_ranked
      : (g : ℕ)
      → 0 < g
      → g ≤ length ps - 1
      → is_free bs g ≡ true
      → has_gap (ring_points (rank bs (length ps - 1))) (reduced_dep bs (rank bs (length ps - 1)) e) (rank bs g) ≡
      has_gap ps e g
  gap_ranked g f l free = go fits
    where
      low : 0 < rank bs g
      low = rank_first bs g free f

      high : rank bs g ≤ rank bs last
      high = rank_monotone bs g last l

      go
          : Fits ps e
          → has_gap (ring_points top) (reduced_dep bs top e) (rank bs g) ≡ has_gap ps e g
      go (inl line) = rw (line.kind_is, ranked_above bs e.s g free, ranked_below bs g e.t free)
      go (inr back) =
          let d : e.d ≡ 0 = one_loop_is_first ps one e.d back.loop in
          let end : end_of ps 0 ≡ length ps - 1 = omega (arith, outermost ps shape) in
          let a : leb 1 g ≡ true = lt-ltb 0 g f in
          let b : leb g (length ps - 1) ≡ true = le-leb g (length ps - 1) l in
          rw
          back.kind_is
          (round_gap top (rank bs e.s) (rank bs e.t) (rank bs g) low high ∙
          rw
          (ranked_above bs e.s g free, ranked_below bs g e.t free, d, end, a, b, and_on (ltb e.s g))
          refl)

  pub cuts_ranked
      : (from : ℕ) (gs : List ℕ)
      → are_gaps_from from (suc (length ps - 1)) gs ≡ true
      → avoids bs gs ≡ true
      → cuts (ring_points (rank bs (length ps - 1))) (reduced_dep bs (rank bs (length ps - 1)) e) (ranks bs gs) ≡
      cuts ps e gs
  cuts_ranked from [] h v = refl
  cuts_ranked from (g ∷ gs) h v =
      let r = rises from (suc last) g gs h in
      let a = and_true (is_free bs g) (avoids bs gs) v in
      rw (
        gap_ranked g (omega (arith, r.above)) (omega (arith, r.below)) a.0,
        cuts_ranked g gs r.rest a.1,
      )

-- ---- a dependence whose gaps are not all barred

pub record Open (ps bs : List ℕ) (e : Dep) : Type 0 where
  pub gap : ℕ
  pub first : 0 < gap
  pub last : gap ≤ length ps - 1
  pub its : has_gap ps e gap ≡ true
  pub free : is_free bs gap ≡ true

module _ (ps bs : List ℕ) (e : Dep) where
  abbrev is_open : ℕ → Bool
  is_open g = has_gap ps e g && is_free bs g

  pub open_there : is_shut ps bs e ≡ false → Open ps bs e
  open_there h = go (open_gaps ps bs e) refl
    where
      go : (gs : List ℕ) → open_gaps ps bs e ≡ gs → Open ps bs e
      go [] q = absurd (eqb-false (length (open_gaps ps bs e)) 0 h (ap length q))
      go (g ∷ gs) q =
          let there : is_in g (open_gaps ps bs e) ≡ true = ap (is_in g) q ∙ in_here g gs in
          let rising = gaps_of_rising is_open (suc (length ps - 1)) (length ps - 1) 1 0 (λ i a b c. (omega arith, omega arith)) in
          let r = rising_in 0 (suc (length ps - 1)) (open_gaps ps bs e) g rising there in
          let t = sym (gaps_of_in is_open (length ps - 1) 1 g (omega (arith, r.0)) (omega (arith, r.1))) ∙ there in
          let z = and_true (has_gap ps e g) (is_free bs g) t in
          record { gap = g; first = r.0; last = omega (arith, r.1); its = z.0; free = z.1 }

  pub open_by : Open ps bs e → is_shut ps bs e ≡ false
  open_by o = ne_eqb (length (open_gaps ps bs e)) 0 (λ z. go (open_gaps ps bs e) z there)
    where
      there : is_in o.gap (open_gaps ps bs e) ≡ true
      there =
          gaps_of_in is_open (length ps - 1) 1 o.gap (omega (arith, o.first)) (omega (arith, o.last)) ∙
          and_intro o.its o.free

      go : (gs : List ℕ) → length gs ≡ 0 → is_in o.gap gs ≡ true → ⊥
      go [] z h = never h
      go (g ∷ gs) z h = omega arith

  -- an avoiding placement that cuts it has such a gap
  pub cut_open
      : (gs : List ℕ) → are_gaps_from 0 (suc (length ps - 1)) gs ≡ true → avoids bs gs ≡ true → cuts ps e gs ≡ true
      → Open ps bs e
  cut_open gs h v c =
      let x = cut_has_gap ps e gs c in
      let r = rising_in 0 (suc (length ps - 1)) gs x.gap h x.placed in
      record {
        gap = x.gap;
        first = r.0;
        last = omega (arith, r.1);
        its = x.its;
        free = avoids_in bs gs v x.gap x.placed;
      }

-- it is then well placed on the ring of ranks
module _
    (ps bs : List ℕ) (e : Dep)
    (shape : is_shape ps ≡ true) (one : one_loop ps ≡ true) (fits : Fits ps e) (o : Open ps bs e) where
  abbrev above : ℕ
  above = rank bs (length ps - 1)

  pub ring_some : 0 < rank bs (length ps - 1)
  ring_some =
      omega (arith, rank_first bs o.gap o.free o.first, rank_monotone bs o.gap (length ps - 1) o.last)

  pub reduced_is_dep
      : is_dep (ring_points (rank bs (length ps - 1))) (reduced_dep bs (rank bs (length ps - 1)) e) ≡ true
  reduced_is_dep = go fits
    where
      r : ℕ
      r = rank bs o.gap

      low : 0 < rank bs o.gap
      low = rank_first bs o.gap o.free o.first

      high : rank bs o.gap ≤ above
      high = rank_monotone bs o.gap (length ps - 1) o.last

      go : Fits ps e → is_dep (ring_points above) (reduced_dep bs above e) ≡ true
      go (inl line) =
          let g = line_gap ps e o.gap line.kind_is o.its in
          let a = rank_of_free bs o.gap e.s o.free g.0 in
          let b = rank_monotone bs o.gap e.t g.1 in
          let c = rank_monotone bs e.t (length ps - 1) (omega (arith, line.target_there)) in
          rw line.kind_is (line_dep above ring_some (rank bs e.s) (rank bs e.t) (omega arith) c)
      go (inr back) =
          let d : e.d ≡ 0 = one_loop_is_first ps one e.d back.loop in
          let end : end_of ps e.d ≡ length ps - 1 = rw d (omega (arith, outermost ps shape)) in
          let s = rank_monotone bs e.s (length ps - 1) (omega (arith, back.source_before)) in
          let t = rank_monotone bs e.t (length ps - 1) (omega (arith, back.target_before)) in
          let at : has_gap (ring_points above) (reduced_dep bs above e) (rank bs o.gap) ≡ true =
          gap_ranked ps bs e shape one fits o.gap o.first o.last o.free ∙ o.its in
          let at' : has_gap (ring_points above) (carried_round above (rank bs e.s) (rank bs e.t)) (rank bs o.gap) ≡ true =
          rw back.kind_is at at in
          let h = sym (round_gap above (rank bs e.s) (rank bs e.t) (rank bs o.gap) low high) ∙ at' in
          rw
          back.kind_is
          (round_is_dep above (rank bs e.s) (rank bs e.t) ring_some s t
          (⊎_elim
          (λ (z : leb (rank bs o.gap) (rank bs e.t) ≡ true).
          inl (omega (arith, low, leb-true (rank bs o.gap) (rank bs e.t) z)))
          (λ (z : ltb (rank bs e.s) (rank bs o.gap) ≡ true).
          inr (omega (arith, high, ltb-true (rank bs e.s) (rank bs o.gap) z)))
          (or-true (leb (rank bs o.gap) (rank bs e.t)) (ltb (rank bs e.s) (rank bs o.gap)) h)))
