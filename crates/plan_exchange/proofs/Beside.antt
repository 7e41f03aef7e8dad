-- A loop l strictly inside d, and what lies beside it: the loop directly around it owns the gap before l's DO and the
-- gap after l's ENDDO; a loop that is not inside l and has a gap of l's range in its own lies around l.
-- Main statements: `ends_within`, `inside_or`, `lies_around`; `parent_of`, `parent_ends`, `own_after`.
use mathlib.Core.Path.{◌≡◌}
use mathlib.Core.Bool.{Bool, true, ◌||◌}
use mathlib.Core.Logic.{◌⊎◌, inl, inr}
use Prim.Native.Nat.{ℕ, zero, suc, ◌≤◌, ◌<◌}
use native.Mathlib.Omega.{arith}
use lib.Dec.{eqb}
use Rattle.laws.proofs.Tests.{le_or, lt_by, eq_by}
use Rattle.plan_method.specs.Sweep.{Loops}
use Rattle.plan_method.proofs.World.{Inside, Owner, LoopLaws}
use Rattle.plan_method.proofs.Inside.{self_or_inside}

-- the gap before l's DO and the gap after its ENDDO
abbrev pub beside : Loops → ℕ → ℕ → Bool
beside B l g = eqb g l || eqb g (suc (B.stop l))

module _ (B : Loops) (laws : LoopLaws B) where
  -- an own gap lies above its loop's DO
  pub own_above : (g m : ℕ) → 0 < g → B.own g ≡ m → m < g
  own_above zero m h e = absurd (omega arith)
  own_above (suc g) m h e = omega (arith, laws.own_below g)

  -- loops that end together are the same
  pub same_end : (l m : ℕ) → B.is_do l ≡ true → B.is_do m ≡ true → B.stop m ≡ B.stop l → m ≡ l
  same_end l m h i e =
      let z : B.own (B.stop m) ≡ B.own (B.stop l) = rw e in
      omega (arith, laws.own_stop l h, laws.own_stop m i)

  -- a loop inside l ends with l at the latest
  pub ends_within : (l m : ℕ) → B.is_do l ≡ true → Inside B l m → B.stop m ≤ B.stop l
  ends_within l m h i =
      self_or_inside B l m (λ n. B.stop n ≤ B.stop l) i (omega arith)
      (λ z. omega (arith, laws.nested l m h i.is-do z (omega (arith, i.below))))

  pub inside_or : (l m : ℕ) → B.is_do m ≡ true → Inside B l m ⊎ (Inside B l m → ⊥)
  inside_or l m h = go (le_or l m) (le_or (B.stop l) m)
    where
      go : (l ≤ m) ⊎ (m < l) → (B.stop l ≤ m) ⊎ (m < B.stop l) → Inside B l m ⊎ (Inside B l m → ⊥)
      go (inl u) (inr v) = inl (record { is-do = h; from = u; below = v })
      go (inl u) (inl v) = inr (λ k. omega (arith, k.below))
      go (inr u) v = inr (λ k. omega (arith, k.from))

  -- a loop that is not inside l and starts before a gap of l's range starts before l
  pub lies_around : (l m g : ℕ) → B.is_do m ≡ true → (Inside B l m → ⊥) → m < g → g ≤ B.stop l → m < l
  lies_around l m g h out low high =
      lt_by (λ z. out (record { is-do = h; from = z; below = omega arith }))

  module _ (d l : ℕ) (is-do : B.is_do d ≡ true) (i : Inside B d l) (strict : d < l) where
    -- the loop directly around l
    pub parent_of : Owner B d l
    parent_of = laws.owner d l is-do strict (omega (arith, i.below))

    pub parent_ends : B.stop l < B.stop (B.own l)
    parent_ends = laws.nested (B.own l) l parent_of.is-do i.is-do parent_of.below parent_of.above

    -- it owns the gap after l's ENDDO too: another owner would lie around l and inside it
    pub own_after : B.own (suc (B.stop l)) ≡ B.own l
    own_after = eq_by apart
      where
        after : ℕ
        after = suc (B.stop l)

        o : Owner B (B.own l) after
        o = laws.owner (B.own l) after parent_of.is-do low parent_ends
          where
            low : B.own l < after
            low = omega (arith, parent_of.below, laws.long l i.is-do)

        within : (B.own after ≡ B.own l → ⊥) → B.own l < B.own after
        within h = omega (arith, o.from, h)

        -- not l nor a loop inside l, which end before the gap
        at : B.own after ≡ l → ⊥
        at z =
            let e : B.stop (B.own after) ≡ B.stop l = rw z in
            omega (arith, o.above)

        inner : l < B.own after → ⊥
        inner z =
            let low : B.own after ≤ B.stop l = omega (arith, o.below) in
            omega (arith, o.above, laws.nested l (B.own after) i.is-do o.is-do z low)

        before : B.own after < l
        before = lt_by (λ z. inner (omega (arith, at)))

        apart : (B.own after ≡ B.own l → ⊥) → ⊥
        apart h =
            let high : l ≤ B.stop (B.own after) = omega (arith, o.above, laws.long l i.is-do) in
            omega (arith, within h, (laws.owner (B.own after) l o.is-do before high).from)
