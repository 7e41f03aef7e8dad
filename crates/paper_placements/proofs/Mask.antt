-- The mask of a loop: a gap of the loop's range is its own if the level there is one above the loop's.
-- Main statements: `own_level`; `Masking`, what a turn keeps; `mask_start`, `mask_put`, `mask_skip`, `mask_done`.
use mathlib.Core.Path.{◌≡◌, refl, sym, ap, ◌∙◌}
use mathlib.Core.Bool.{Bool, true, false, ◌&&◌, ◌||◌}
use mathlib.Core.List.{List}
use mathlib.Core.Logic.{⊎_elim}
use Prim.Native.Nat.{ℕ, suc, ◌+◌, ◌-◌, ◌≤◌, ◌<◌}
use native.Mathlib.Omega.{arith}
use lib.Dec.{eqb, ltb}
use lib.ListN.{length, get_or}
use borrow.Author.Tests.{eq-eqb, ne_eqb, eqb-true, lt-ltb, le-ltb, ltb-true}
use Rattle.laws.specs.Choice.{pick}
use Rattle.laws.proofs.Tests.{le_or, eq_or, le_by, bool_by, and_intro, and_true, false_by}
use Rattle.paper_nests.specs.Loops.{is_do, end_of, owner_of, deeper}
use Rattle.paper_nests.specs.Valid.{is_shape}
use Rattle.paper_nests.proofs.Levels.{lev, lev_step, lev_up, lev_deep}
use Rattle.paper_nests.proofs.Loops.{end-after, end_there, range_above, owner_lower, owner_below, owner_holds, owner-inside}
use Rattle.paper_placements.specs.Words.{holds}
use Rattle.paper_placements.specs.Answers.{IsMask}

-- the depth counted from a lower level
deeper_above : (b depth p : ℕ) → 0 < depth → deeper (b + depth) p ≡ b + deeper depth p
deeper_above b depth p h = go (eqb p 1) (eqb p 2)
  where
    go
        : (x y : Bool)
        → pick x (suc (b + depth)) (pick y (b + depth - 1) (b + depth)) ≡
        b + pick x (suc depth) (pick y (depth - 1) depth)
    go true y = omega arith
    go false true = omega arith
    go false false = refl

-- gap i is an own gap of d below g
abbrev pub below : List ℕ → ℕ → ℕ → ℕ → Bool
below ps d g i = ltb d i && (ltb i g && eqb (owner_of ps i) d)

-- the words hold the own gaps of d below g, where the level is `depth` above the loop's
pub record Masking (ps : List ℕ) (d : ℕ) (ws : List ℕ) (depth g : ℕ) : Type 0 where
  pub after : d < g
  pub within : g ≤ suc (end_of ps d)
  pub level : lev ps g ≡ lev ps d + depth
  pub own : (i : ℕ) → holds ws i ≡ below ps d g i

module _ (ps : List ℕ) (shape : is_shape ps ≡ true) (d : ℕ) (loop : is_do ps d ≡ true) where
  -- 01, "The nest and its gaps": the gap before a DO belongs to the loop outside, the gap before an ENDDO to the loop
  -- that ends there
  pub own_level : (g : ℕ) → d < g → g ≤ end_of ps d → eqb (owner_of ps g) d ≡ eqb (lev ps g) (suc (lev ps d))
  own_level g l m = bool_by (eqb (owner_of ps g) d) (eqb (lev ps g) (suc (lev ps d))) there back
    where
      h : ℕ
      h = owner_of ps g

      inside : g < length ps
      inside = omega (arith, end_there ps shape d loop)

      low : suc (lev ps (owner_of ps g)) ≡ lev ps g
      low = owner_lower ps shape g (omega arith) inside

      there : eqb (owner_of ps g) d ≡ true → eqb (lev ps g) (suc (lev ps d)) ≡ true
      there e =
          let z : owner_of ps g ≡ d = eqb-true (owner_of ps g) d e in
          eq-eqb (lev ps g) (suc (lev ps d)) (sym low ∙ rw z)

      back : eqb (lev ps g) (suc (lev ps d)) ≡ true → eqb (owner_of ps g) d ≡ true
      back e =
          let z : lev ps g ≡ suc (lev ps d) = eqb-true (lev ps g) (suc (lev ps d)) e in
          let a : d ≤ owner_of ps g = owner-inside ps shape d g loop l m in
          let b : owner_of ps g < g = owner_below ps shape g (omega arith) inside in
          let c : owner_of ps g ≤ d =
          le_by (λ k. omega (arith, range_above ps shape d (owner_of ps g) loop k (omega arith), low)) in
          eq-eqb (owner_of ps g) d (omega arith)

  pub mask_start : (ws : List ℕ) → ((i : ℕ) → holds ws i ≡ false) → Masking ps d ws 1 (d + 1)
  mask_start ws h =
      record {
        after = omega arith;
        within = omega (arith, end-after ps shape d loop);
        level = let z : d + 1 ≡ suc d = omega arith in rw z (lev_up ps d loop ∙ omega arith);
        own = λ i. h i ∙ sym (none i);
      }
    where
      none : (i : ℕ) → below ps d (d + 1) i ≡ false
      none i =
          false_by (λ z.
          let a = and_true (ltb d i) (ltb i (d + 1) && eqb (owner_of ps i) d) z in
          let b = and_true (ltb i (d + 1)) (eqb (owner_of ps i) d) a.1 in
          omega (arith, ltb-true d i a.0, ltb-true i (d + 1) b.0))

  module _ (ws : List ℕ) (depth g : ℕ) (p : Masking ps d ws depth g) (h : g ≤ end_of ps d) where
    pub mask_there : g < length ps
    mask_there = omega (arith, end_there ps shape d loop)

    pub mask_depth : (0 < depth) × (depth ≤ 8)
    mask_depth =
        let u = range_above ps shape d g loop p.after h in
        let v = lev_deep ps shape g in
        (omega (arith, u, p.level), omega (arith, v, p.level))

    next_level : lev ps (g + 1) ≡ lev ps d + deeper depth (get_or ps g 0)
    next_level =
        let z : g + 1 ≡ suc g = omega arith in
        rw
        z
        (lev_step ps g ∙
        ap (λ (l : ℕ). deeper l (get_or ps g 0)) p.level ∙
        deeper_above (lev ps d) depth (get_or ps g 0) mask_depth.0)

    -- at g itself, and elsewhere
    below_here : below ps d (g + 1) g ≡ eqb depth 1
    below_here =
        rw
        (lt-ltb d g p.after, lt-ltb g (g + 1) (omega arith))
        (own_level g p.after h ∙ rw p.level (same (lev ps d)))
      where
        same : (b : ℕ) → eqb (b + depth) (suc b) ≡ eqb depth 1
        same b =
            bool_by
            (eqb (b + depth) (suc b))
            (eqb depth 1)
            (λ z. eq-eqb depth 1 (omega (arith, eqb-true (b + depth) (suc b) z)))
            (λ z. eq-eqb (b + depth) (suc b) (omega (arith, eqb-true depth 1 z)))

    below_other : (i : ℕ) → (i ≡ g → ⊥) → below ps d (g + 1) i ≡ below ps d g i
    below_other i n = rw (same)
      where
        same : ltb i (g + 1) ≡ ltb i g
        same =
            bool_by
            (ltb i (g + 1))
            (ltb i g)
            (λ z. lt-ltb i g (less (ltb-true i (g + 1) z)))
            (λ z. lt-ltb i (g + 1) (omega (arith, ltb-true i g z)))
          where
            less : i < g + 1 → i < g
            less l = ⊎_elim (λ (z : suc i ≤ g). z) (λ (z : g < suc i). absurd (n (omega arith))) (le_or (suc i) g)

    pub mask_put
        : (vs : List ℕ)
        → depth ≡ 1
        → ((i : ℕ) → holds vs i ≡ (eqb i g || holds ws i))
        → Masking ps d vs (deeper depth (get_or ps g 0)) (g + 1)
    mask_put vs e q =
        record {
          after = omega (arith, p.after);
          within = omega arith;
          level = next_level;
          own =
              λ i.
              ⊎_elim
              (λ (z : i ≡ g). q i ∙ rw (eq-eqb i g z) (sym (rw z (below_here ∙ eq-eqb depth 1 e))))
              (λ (z : i ≡ g → ⊥). q i ∙ rw (ne_eqb i g z) (p.own i ∙ sym (below_other i z)))
              (eq_or i g);
        }

    pub mask_skip : (depth ≡ 1 → ⊥) → Masking ps d ws (deeper depth (get_or ps g 0)) (g + 1)
    mask_skip e =
        record {
          after = omega (arith, p.after);
          within = omega arith;
          level = next_level;
          own =
              λ i.
              ⊎_elim
              (λ (z : i ≡ g). p.own i ∙ rw z (none ∙ sym (below_here ∙ ne_eqb depth 1 e)))
              (λ (z : i ≡ g → ⊥). p.own i ∙ sym (below_other i z))
              (eq_or i g);
        }
      where
        none : below ps d g g ≡ false
        none = rw (lt-ltb d g p.after, le-ltb g g (omega arith))

  pub mask_done : (ws : List ℕ) (depth g : ℕ) → Masking ps d ws depth g → end_of ps d < g → IsMask ps d ws
  mask_done ws depth g p h i a b = p.own i ∙ bool_by (below ps d g i) (eqb (owner_of ps i) d) there back
    where
      there : below ps d g i ≡ true → eqb (owner_of ps i) d ≡ true
      there z = (and_true (ltb i g) (eqb (owner_of ps i) d) (and_true (ltb d i) (ltb i g && eqb (owner_of ps i) d) z).1).1

      back : eqb (owner_of ps i) d ≡ true → below ps d g i ≡ true
      back z =
          let e : owner_of ps i ≡ d = eqb-true (owner_of ps i) d z in
          let l : owner_of ps i < i = owner_below ps shape i a b in
          let m : i ≤ end_of ps (owner_of ps i) = owner_holds ps shape i a b in
          let k : i ≤ end_of ps d = rw e at m in
          and_intro (lt-ltb d i (omega arith)) (and_intro (lt-ltb i g (omega arith)) z)
