-- How often a gap is passed in a run, from the turns of the loops around it: of two gaps with the same loop as often,
-- and after a DO as often as before it times the loop's turns.
-- Main statements: `times_own`, `times_do`, `times_end`, `times_plain`.
use mathlib.Core.Path.{◌≡◌, refl, sym, ap, ◌∙◌}
use mathlib.Core.Bool.{Bool, true, false, ◌&&◌}
use mathlib.Core.List.{List}
use mathlib.Core.Logic.{◌⊎◌, inl, inr, ⊎_elim}
use Prim.Native.Nat.{ℕ, zero, suc, ◌*◌, ◌≤◌, ◌<◌}
use native.Mathlib.Omega.{arith}
use lib.Dec.{leb}
use lib.ListN.{length}
use borrow.Author.Tests.{leb-true, le-leb}
use Rattle.laws.specs.Choice.{pick}
use Rattle.laws.proofs.Tests.{le_or, lt_by, false_by, bool_by, and_true}
use Rattle.paper_nests.specs.Loops.{is_do, is_end, end_of, owner_of}
use Rattle.paper_nests.specs.Valid.{is_shape}
use Rattle.paper_nests.proofs.Loops.{end-after, end_has_do, end_owner_before, nested, outermost, Owner, owner_law}
use Rattle.paper_nests.proofs.Gaps.{owner_after_end, owner_after_plain}
use Rattle.run_barriers.specs.Calls.{turns_of, times_from, times_at}

module _ (ps ts : List ℕ) where
  -- no loop with DO from j to k reaches g
  times_skip : (j k g : ℕ) → j ≤ k → ((d : ℕ) → j ≤ d → d < k → is_do ps d ≡ true → g ≤ end_of ps d → ⊥) →
      times_from ps ts k g ≡ times_from ps ts j g
  unfolding times_from
  times_skip j zero g l h =
      let z : j ≡ 0 = omega arith in
      rw z
  times_skip j (suc k) g l h = go (le_or j k) (times_skip j k g)
    where
      out : j ≤ k → (is_do ps k && leb g (end_of ps k)) ≡ false
      out z = false_by (λ t. (
          let u = and_true (is_do ps k) (leb g (end_of ps k)) t in
          h k z (omega arith) u.0 (leb-true g (end_of ps k) u.1)))

      go :
          (j ≤ k) ⊎ (k < j) →
          (j ≤ k → ((d : ℕ) → j ≤ d → d < k → is_do ps d ≡ true → g ≤ end_of ps d → ⊥) →
          times_from ps ts k g ≡ times_from ps ts j g) →
          times_from ps ts (suc k) g ≡ times_from ps ts j g
      go (inl z) r = rw (out z) (r z (λ d p q. h d p (omega arith)))
      go (inr z) r =
          let e : j ≡ suc k = omega arith in
          rw e

  -- the loops with DO below k reach g exactly if they reach h
  times_same : (k g h : ℕ) → ((d : ℕ) → d < k → is_do ps d ≡ true → leb g (end_of ps d) ≡ leb h (end_of ps d)) →
      times_from ps ts k g ≡ times_from ps ts k h
  unfolding times_from
  times_same zero g h e = refl
  times_same (suc k) g h e = go (is_do ps k) refl (times_same k g h (λ d l. e d (omega arith)))
    where
      go :
          (t : Bool) → is_do ps k ≡ t → times_from ps ts k g ≡ times_from ps ts k h →
          pick (t && leb g (end_of ps k)) (turns_of ps ts k * times_from ps ts k g) (times_from ps ts k g) ≡
          pick (t && leb h (end_of ps k)) (turns_of ps ts k * times_from ps ts k h) (times_from ps ts k h)
      go true z r = rw (e k (omega arith) z, r)
      go false z r = r

module _ (ps : List ℕ) (shape : is_shape ps ≡ true) (ts : List ℕ) where
  -- every gap of a loop's own is passed as often as the one right after its DO
  pub times_own : (g : ℕ) → 0 < g → g < length ps → times_at ps ts g ≡ times_at ps ts (suc (owner_of ps g))
  times_own g a b = times_skip ps ts (suc l) g g o.below between ∙ times_same ps ts (suc l) g (suc l) reach
    where
      l : ℕ
      l = owner_of ps g

      o : Owner ps g g l
      o = owner_law ps shape g a b

      between : (d : ℕ) → suc l ≤ d → d < g → is_do ps d ≡ true → g ≤ end_of ps d → ⊥
      between d p q h k = omega (arith, o.most d h q k)

      reach : (d : ℕ) → d < suc l → is_do ps d ≡ true → leb g (end_of ps d) ≡ leb (suc l) (end_of ps d)
      reach d p h = bool_by (leb g (end_of ps d)) (leb (suc l) (end_of ps d)) inner outer
        where
          inner : leb g (end_of ps d) ≡ true → leb (suc l) (end_of ps d) ≡ true
          inner z = le-leb (suc l) (end_of ps d) (omega (arith, o.below, leb-true g (end_of ps d) z))

          outer : leb (suc l) (end_of ps d) ≡ true → leb g (end_of ps d) ≡ true
          outer z = le-leb g (end_of ps d) (⊎_elim around self (le_or (suc d) l))
            where
              high : suc l ≤ end_of ps d
              high = leb-true (suc l) (end_of ps d) z

              around : suc d ≤ l → g ≤ end_of ps d
              around y = omega (arith, o.holds, nested ps shape d l h o.loop y (omega (arith, high)))

              self : l < suc d → g ≤ end_of ps d
              self y =
                  let e : d ≡ l = omega arith in
                  rw e o.holds

  -- after a DO as often as before it, times the loop's turns
  pub times_do : (d : ℕ) → is_do ps d ≡ true → times_at ps ts (suc d) ≡ turns_of ps ts d * times_at ps ts d
  unfolding times_from
  times_do d h =
      let here : leb (suc d) (end_of ps d) ≡ true = le-leb (suc d) (end_of ps d) (end-after ps shape d h) in
      rw (h, here) (ap (λ (t : ℕ). turns_of ps ts d * t) (times_same ps ts d (suc d) d reach))
    where
      reach : (x : ℕ) → x < d → is_do ps x ≡ true → leb (suc d) (end_of ps x) ≡ leb d (end_of ps x)
      reach x p k = bool_by (leb (suc d) (end_of ps x)) (leb d (end_of ps x)) inner outer
        where
          inner : leb (suc d) (end_of ps x) ≡ true → leb d (end_of ps x) ≡ true
          inner z = le-leb d (end_of ps x) (omega (arith, leb-true (suc d) (end_of ps x) z))

          outer : leb d (end_of ps x) ≡ true → leb (suc d) (end_of ps x) ≡ true
          outer z =
              le-leb (suc d) (end_of ps x)
              (omega (arith, end-after ps shape d h, nested ps shape x d k h p (leb-true d (end_of ps x) z)))

  -- after an ENDDO as often as before its loop's DO, and after a statement as often as before it
  pub times_end :
      (e : ℕ) → is_end ps e ≡ true → suc e < length ps → times_at ps ts (suc e) ≡ times_at ps ts (owner_of ps e)
  times_end e h l =
      times_own (suc e) (omega arith) l ∙
      rw (owner_after_end ps shape e l h) (sym (times_own (owner_of ps e) inner (omega (arith, before))))
    where
      before : owner_of ps e < e
      before = end_owner_before ps shape e h

      -- the outermost loop ends at the last point
      inner : 0 < owner_of ps e
      inner = lt_by (λ z. (
          let o : owner_of ps e ≡ 0 = omega arith in
          let q : end_of ps (owner_of ps e) ≡ end_of ps 0 = ap (end_of ps) o in
          omega (arith, end_has_do ps shape e h, outermost ps shape)))

  pub times_plain :
      (i : ℕ) → 0 < i → suc i < length ps → is_do ps i ≡ false → is_end ps i ≡ false →
      times_at ps ts (suc i) ≡ times_at ps ts i
  times_plain i a l h k =
      times_own (suc i) (omega arith) l ∙
      rw (owner_after_plain ps shape i l h k) (sym (times_own i a (omega arith)))
