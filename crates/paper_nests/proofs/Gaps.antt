-- The gaps of a loop: its own and those of the loops directly inside it; the walk over them from right to left; the
-- home of an independent dependence.
-- Main statements: `child_law`, `plain_law`, `own_or_child`, `loop_in_child`, `home_law`,
-- and, from left to right, `owner_after_do`, `owner_after_end`, `owner_after_plain`.
use mathlib.Core.Path.{◌≡◌, refl, sym, ap, ◌∙◌}
use mathlib.Core.Bool.{true, false}
use mathlib.Core.List.{List}
use mathlib.Core.Logic.{◌⊎◌, inl, inr, ⊎_elim}
use Prim.Native.Nat.{ℕ, zero, suc, ◌≤◌, ◌<◌}
use native.Mathlib.Omega.{arith}
use lib.ListN.{length}
use Rattle.laws.proofs.Tests.{never_both, eq_or, lt_by, false_by}
use Rattle.paper_nests.specs.Loops.{is_do, is_end, end_of, owner_from, owner_of}
use Rattle.paper_nests.specs.Valid.{is_shape}
use Rattle.paper_nests.proofs.Levels.{point_in, end_not_first}
use Rattle.paper_nests.proofs.Loops.{Owner, end-after, end_there, end_is_end, nested, owner_search, owner_law}
use Rattle.paper_nests.proofs.Loops.{owner_is, owner_is_do, owner_below, owner-inside, end_has_do, owner_of_end}

-- L is a loop directly inside d, and p its ENDDO
pub record Child (ps : List ℕ) (d p L : ℕ) : Type 0 where
  pub loop : is_do ps L ≡ true
  pub inside : d < L
  pub ends : end_of ps L ≡ p
  pub owned : owner_of ps L ≡ d

-- gap g lies in the range of a loop directly inside d
pub record InChild (ps : List ℕ) (d g : ℕ) : Type 0 where
  pub at : ℕ
  pub child : Child ps d (end_of ps at) at
  pub after : at < g
  pub within : g ≤ end_of ps at

-- loop x is a loop directly inside d, or lies in one
pub record LoopInChild (ps : List ℕ) (d x : ℕ) : Type 0 where
  pub at : ℕ
  pub child : Child ps d (end_of ps at) at
  pub after : at ≤ x
  pub within : end_of ps x ≤ end_of ps at

module _ (ps : List ℕ) (shape : is_shape ps ≡ true) where
  -- the loop around a loop
  pub parent_around : (x : ℕ) → is_do ps x ≡ true → 0 < x → end_of ps x < end_of ps (owner_of ps x)
  parent_around x h a =
      let o = owner_law ps shape x a (point_in ps x 0 h) in
      nested ps shape (owner_of ps x) x o.loop h o.below o.holds

  pub child_ends_inside : (d L : ℕ) → Child ps d (end_of ps L) L → end_of ps L < end_of ps d
  child_ends_inside d L c = rw c.owned at (parent_around L c.loop (omega (arith, c.inside)))

  child_ends_there : (d L : ℕ) → Child ps d (end_of ps L) L → suc (end_of ps L) < length ps
  child_ends_there d L c =
      let o = owner_law ps shape L (omega (arith, c.inside)) (point_in ps L 0 c.loop) in
      omega (arith, parent_around L c.loop (omega (arith, c.inside)), end_there ps shape (owner_of ps L) o.loop)

  -- the walk from right to left: before the gap after an ENDDO lies the loop that ends there
  pub child_law :
      (d p : ℕ) → suc p < length ps → owner_of ps (suc p) ≡ d → is_end ps p ≡ true → Child ps d p (owner_of ps p)
  child_law d p b e h = record { loop = loop; inside = inside; ends = ends; owned = owned }
    where
      L : ℕ
      L = owner_of ps p

      a : 0 < p
      a = end_not_first ps shape p h

      o : Owner ps (suc p) (suc p) d
      o = rw e at (owner_law ps shape (suc p) (omega arith) b)

      loop : is_do ps L ≡ true
      loop = owner_is_do ps shape p a (omega arith)

      ends : end_of ps L ≡ p
      ends = end_has_do ps shape p h

      below : L < p
      below = owner_below ps shape p a (omega arith)

      inside : d < L
      inside = lt_by λ z. ⊎_elim
          (λ (y : L ≡ d). let q : end_of ps d ≡ p = rw y at ends in omega (arith, o.holds))
          (λ (y : L ≡ d → ⊥).
          let q : d ≤ end_of ps L = omega (arith, o.below, ends) in
          omega (arith, nested ps shape L d loop o.loop (omega arith) q, ends, o.holds))
          (eq_or L d)

      owned : owner_of ps L ≡ d
      owned =
          let u = owner_of ps L in
          let x = owner_law ps shape L (omega (arith, inside)) (omega (arith, below)) in
          let r = parent_around L loop (omega (arith, inside)) in
          let q : d ≤ u = owner-inside ps shape d L o.loop inside (omega (arith, below, o.holds)) in
          let s : u ≤ d = o.most u x.loop (omega (arith, x.below, below)) (omega (arith, ends)) in
          omega arith

  -- before the gap after any other point lies the loop's own DO, or a point that is no DO after another of its gaps
  pub plain_law :
      (d p : ℕ) → suc p < length ps → owner_of ps (suc p) ≡ d → is_end ps p ≡ false →
      (p ≡ d) ⊎ ((owner_of ps p ≡ d) × (is_do ps p ≡ false))
  plain_law d p b e h = ⊎_elim (λ (z : p ≡ d). inl z) (λ (z : p ≡ d → ⊥). inr (later z)) (eq_or p d)
    where
      o : Owner ps (suc p) (suc p) d
      o = rw e at (owner_law ps shape (suc p) (omega arith) b)

      later : (p ≡ d → ⊥) → (owner_of ps p ≡ d) × (is_do ps p ≡ false)
      later n = (same, flat)
        where
          l : d < p
          l = omega (arith, o.below)

          u : ℕ
          u = owner_of ps p

          x : Owner ps p p u
          x = owner_law ps shape p (omega (arith, l)) (omega arith)

          beyond : suc p ≤ end_of ps u
          beyond = ⊎_elim
              (λ (z : p ≡ end_of ps u). never_both (rw (← z) at (end_is_end ps shape u x.loop)) h)
              (λ (z : p ≡ end_of ps u → ⊥). omega (arith, x.holds))
              (eq_or p (end_of ps u))

          same : u ≡ d
          same =
              let q : u ≤ d = o.most u x.loop (omega (arith, x.below)) beyond in
              omega (arith, owner-inside ps shape d p o.loop l (omega (arith, o.holds)))

          flat : is_do ps p ≡ false
          flat = false_by λ z. omega (arith, l, o.most p z (omega arith) (end-after ps shape p z))

  -- the same from left to right
  pub owner_after_do : (d : ℕ) → is_do ps d ≡ true → owner_of ps (suc d) ≡ d
  owner_after_do d h =
      owner_is ps shape (suc d) d (omega arith) (omega (arith, end-after ps shape d h, end_there ps shape d h))
      (record { loop = h; below = omega arith; holds = end-after ps shape d h; most = λ x a b c. omega arith })

  pub owner_after_end : (p : ℕ) → suc p < length ps → is_end ps p ≡ true → owner_of ps (suc p) ≡ owner_of ps (owner_of ps p)
  owner_after_end p b h = sym (child_law (owner_of ps (suc p)) p b refl h).owned

  pub owner_after_plain :
      (p : ℕ) → suc p < length ps → is_do ps p ≡ false → is_end ps p ≡ false → owner_of ps (suc p) ≡ owner_of ps p
  owner_after_plain p b h k = ⊎_elim
      (λ (z : p ≡ owner_of ps (suc p)). never_both (rw (← z) at (owner_is_do ps shape (suc p) (omega arith) b)) h)
      (λ (z : (owner_of ps p ≡ owner_of ps (suc p)) × (is_do ps p ≡ false)). sym z.0)
      (plain_law (owner_of ps (suc p)) p b refl k)

  -- the loop owns the gap after its child's ENDDO
  pub owner_after_child : (d L : ℕ) → Child ps d (end_of ps L) L → owner_of ps (suc (end_of ps L)) ≡ d
  owner_after_child d L c =
      let p = end_of ps L in
      let l : suc p < length ps = child_ends_there d L c in
      let q : owner_of ps p ≡ L = owner_of_end ps shape L c.loop in
      owner_after_end p l (end_is_end ps shape L c.loop) ∙ ap (owner_of ps) q ∙ c.owned

  -- the gaps of a loop's range are its own and those of the loops directly inside it
  pub loop_in_child :
      (d x : ℕ) → is_do ps d ≡ true → is_do ps x ≡ true → d < x → x ≤ end_of ps d → LoopInChild ps d x
  loop_in_child d x h k l m = climb x x (omega arith) k l m
    where
      climb : (n x : ℕ) → x ≤ n → is_do ps x ≡ true → d < x → x ≤ end_of ps d → LoopInChild ps d x
      climb zero x b k l m = absurd (omega arith)
      climb (suc n) x b k l m = go (eq_or (owner_of ps x) d) (climb n (owner_of ps x))
        where
          u : ℕ
          u = owner_of ps x

          o : Owner ps x x u
          o = owner_law ps shape x (omega arith) (point_in ps x 0 k)

          go :
              (u ≡ d) ⊎ ((u ≡ d) → ⊥) → (u ≤ n → is_do ps u ≡ true → d < u → u ≤ end_of ps d → LoopInChild ps d u) →
              LoopInChild ps d x
          go (inl e) r =
              let c : Child ps d (end_of ps x) x = record { loop = k; inside = l; ends = refl; owned = e } in
              record { at = x; child = c; after = omega arith; within = omega arith }
          go (inr e) r =
              let q : d ≤ u = owner-inside ps shape d x h l m in
              let c = r (omega (arith, o.below)) o.loop (omega arith) (omega (arith, o.below)) in
              record {
                at = c.at;
                child = c.child;
                after = omega (arith, c.after, o.below);
                within = omega (arith, c.within, parent_around x k (omega arith));
              }

  pub own_or_child :
      (d g : ℕ) → is_do ps d ≡ true → d < g → g ≤ end_of ps d → (owner_of ps g ≡ d) ⊎ InChild ps d g
  own_or_child d g h l m = ⊎_elim (λ (z : u ≡ d). inl z) (λ (z : (u ≡ d) → ⊥). inr (inner z)) (eq_or u d)
    where
      u : ℕ
      u = owner_of ps g

      o : Owner ps g g u
      o = owner_law ps shape g (omega arith) (omega (arith, end_there ps shape d h))

      inner : ((u ≡ d) → ⊥) → InChild ps d g
      inner z =
          let q : d ≤ u = owner-inside ps shape d g h l m in
          let c = loop_in_child d u h o.loop (omega arith) (omega (arith, o.below)) in
          record {
            at = c.at;
            child = c.child;
            after = omega (arith, c.after, o.below);
            within = omega (arith, c.within, o.holds);
          }

  -- the home of an independent dependence from s to t: the innermost loop whose range holds all its gaps
  pub home_law : (s t : ℕ) → t < length ps → Owner ps (suc s) t (owner_from (suc s) t ps)
  home_law s t l = owner_search ps shape (suc s) t (omega arith) l
