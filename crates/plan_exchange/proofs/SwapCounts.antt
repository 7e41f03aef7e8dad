-- Counts after a swap of the barriers in loop l's range: those of the new barriers in l and the loops inside it, at
-- most two more at the loop directly around l, the same at every other loop.
-- Main statements: `cnt_two`, `swap_inside`, `swap_elsewhere`, `swap_parent`.
use mathlib.Core.Path.{◌≡◌, sym, ◌∙◌}
use mathlib.Core.Bool.{Bool, true, false, ◌||◌}
use mathlib.Core.Logic.{◌⊎◌, inl, inr, ⊎_elim}
use Prim.Native.Nat.{ℕ, zero, suc, ◌+◌, ◌≤◌, ◌<◌}
use native.Mathlib.Omega.{arith}
use lib.Dec.{eqb}
use borrow.Author.Tests.{eqb-true, eq-eqb}
use Rattle.laws.proofs.Tests.{test, never_both, eq_or, and_true, or-true, or_left, or_right}
use Rattle.plan_method.specs.Sweep.{Loops}
use Rattle.plan_method.proofs.World.{Inside, LoopLaws}
use Rattle.plan_method.proofs.Counts.{cnt, cnt_yes, cnt_skips}
use Rattle.plan_method.proofs.Claim.{mine_of, count}
use Rattle.plan_method.proofs.Exchange.{mine_own}
use Rattle.plan_method.proofs.AttainedBody.{count_same}
use Rattle.plan_exchange.proofs.Beside.{own_above, ends_within, own_after, parent_of}
use Rattle.plan_exchange.proofs.Swap.{swap, swap_in, swap_aside}

-- a test that passes nowhere but where another does counts no more
cnt_le : (f h : ℕ → Bool) (n : ℕ) → ((g : ℕ) → g ≤ n → f g ≡ true → h g ≡ true) → cnt f n ≤ cnt h n
unfolding cnt
cnt_le f h zero e = omega arith
cnt_le f h (suc n) e = go (test (f (suc n))) (test (h (suc n))) (cnt_le f h n (λ g i. e g (omega arith)))
  where
    go :
        (f (suc n) ≡ true) ⊎ (f (suc n) ≡ false) → (h (suc n) ≡ true) ⊎ (h (suc n) ≡ false) → cnt f n ≤ cnt h n →
        cnt f (suc n) ≤ cnt h (suc n)
    go (inl u) (inl v) r = omega (arith, cnt_yes f n u, cnt_yes h n v)
    go (inl u) (inr v) r = never_both (e (suc n) (omega arith) u) v
    go (inr u) (inl v) r = omega (arith, cnt_skips f n u, cnt_yes h n v)
    go (inr u) (inr v) r = omega (arith, cnt_skips f n u, cnt_skips h n v)

-- nor, but for one place, more than one more
cnt_one : (f h : ℕ → Bool) (n u : ℕ) → ((g : ℕ) → f g ≡ true → (h g ≡ true) ⊎ (g ≡ u)) → cnt f n ≤ cnt h n + 1
unfolding cnt
cnt_one f h zero u e = omega arith
cnt_one f h (suc n) u e = go (test (f (suc n))) (test (h (suc n))) (cnt_one f h n u e)
  where
    -- where it alone passes is that place, and below it passes only where the other does
    below : suc n ≡ u → (g : ℕ) → g ≤ n → f g ≡ true → h g ≡ true
    below z g i p = ⊎_elim (λ (q : h g ≡ true). q) (λ (q : g ≡ u). absurd (omega arith)) (e g p)

    alone : f (suc n) ≡ true → h (suc n) ≡ false → suc n ≡ u
    alone p q = ⊎_elim (λ (r : h (suc n) ≡ true). never_both r q) (λ (r : suc n ≡ u). r) (e (suc n) p)

    go :
        (f (suc n) ≡ true) ⊎ (f (suc n) ≡ false) → (h (suc n) ≡ true) ⊎ (h (suc n) ≡ false) → cnt f n ≤ cnt h n + 1 →
        cnt f (suc n) ≤ cnt h (suc n) + 1
    go (inl p) (inl q) r = omega (arith, cnt_yes f n p, cnt_yes h n q)
    go (inl p) (inr q) r = omega (arith, cnt_yes f n p, cnt_skips h n q, cnt_le f h n (below (alone p q)))
    go (inr p) (inl q) r = omega (arith, cnt_skips f n p, cnt_yes h n q)
    go (inr p) (inr q) r = omega (arith, cnt_skips f n p, cnt_skips h n q)

-- but for two places, more than two more
pub cnt_two :
    (f h : ℕ → Bool) (n u v : ℕ) → ((g : ℕ) → f g ≡ true → (h g ≡ true) ⊎ ((g ≡ u) ⊎ (g ≡ v))) → cnt f n ≤ cnt h n + 2
cnt_two f h n u v e = omega (arith, cnt_one f with_u n v first, cnt_one with_u h n u second)
  where
    with_u : ℕ → Bool
    with_u g = h g || eqb g u

    first : (g : ℕ) → f g ≡ true → (with_u g ≡ true) ⊎ (g ≡ v)
    first g p =
        ⊎_elim
        (λ (a : h g ≡ true). inl (or_left (eqb g u) a))
        (λ (a : (g ≡ u) ⊎ (g ≡ v)). ⊎_elim
        (λ (b : g ≡ u). inl (or_right (h g) (eq-eqb g u b)))
        (λ (b : g ≡ v). inr b)
        a)
        (e g p)

    second : (g : ℕ) → with_u g ≡ true → (h g ≡ true) ⊎ (g ≡ u)
    second g p =
        ⊎_elim
        (λ (a : h g ≡ true). inl a)
        (λ (a : eqb g u ≡ true). inr (eqb-true g u a))
        (or-true (h g) (eqb g u) p)

module _
    (B : Loops) (laws : LoopLaws B) (d l : ℕ) (is-do : B.is_do d ≡ true) (i : Inside B d l) (strict : d < l)
    (z x : ℕ → Bool) where
  abbrev swapped : ℕ → Bool
  swapped = swap B l z x

  -- a loop inside l has its own gaps in l's range
  pub swap_inside : (m : ℕ) → Inside B l m → count B swapped m ≡ count B z m
  swap_inside m k = count_same B swapped z m at
    where
      at : (g : ℕ) → 0 < g → g ≤ B.stop m → B.own g ≡ m → swapped g ≡ z g
      at g a b e =
          swap_in B l z x g
          (omega (arith, own_above B laws g m a e, k.from))
          (omega (arith, ends_within B laws l m i.is-do k))

  -- any other has none there
  out_of : (m g : ℕ) → B.is_do m ≡ true → (Inside B l m → ⊥) → B.own g ≡ m → l < g → g ≤ B.stop l → ⊥
  out_of m g h out e low high =
      out
      (record {
        is-do = h;
        from = omega (arith, (laws.owner l g i.is-do low high).from);
        below = omega (arith, own_above B laws g m (omega arith) e);
      })

  pub swap_elsewhere :
      (m : ℕ) → B.is_do m ≡ true → (Inside B l m → ⊥) → (m ≡ B.own l → ⊥) → count B swapped m ≡ count B x m
  swap_elsewhere m h out other = count_same B swapped x m at
    where
      at : (g : ℕ) → 0 < g → g ≤ B.stop m → B.own g ≡ m → swapped g ≡ x g
      at g a b e = swap_aside B l z x g (out_of m g h out e) before after
        where
          before : g ≡ l → ⊥
          before q = other (sym e ∙ rw q)

          after : g ≡ suc (B.stop l) → ⊥
          after q = other (sym e ∙ rw q (own_after B laws d l is-do i strict))

  pub swap_parent : count B swapped (B.own l) ≤ count B x (B.own l) + 2
  unfolding mine_of
  swap_parent =
      cnt_two (mine_of B swapped (B.own l)) (mine_of B x (B.own l)) (B.stop (B.own l)) l (suc (B.stop l)) at
    where
      at :
          (g : ℕ) → mine_of B swapped (B.own l) g ≡ true →
          (mine_of B x (B.own l) g ≡ true) ⊎ ((g ≡ l) ⊎ (g ≡ suc (B.stop l)))
      at g h = go (eq_or g l) (eq_or g (suc (B.stop l)))
        where
          own_is : B.own g ≡ B.own l
          own_is = eqb-true (B.own g) (B.own l) (and_true (eqb (B.own g) (B.own l)) (swapped g) h).0

          not_inside : Inside B l (B.own l) → ⊥
          not_inside k = omega (arith, k.from, (parent_of B laws d l is-do i strict).below)

          go :
              (g ≡ l) ⊎ ((g ≡ l) → ⊥) → (g ≡ suc (B.stop l)) ⊎ ((g ≡ suc (B.stop l)) → ⊥) →
              (mine_of B x (B.own l) g ≡ true) ⊎ ((g ≡ l) ⊎ (g ≡ suc (B.stop l)))
          go (inl p) q = inr (inl p)
          go (inr p) (inl q) = inr (inr q)
          go (inr p) (inr q) =
              inl (mine_own B x (B.own l) g own_is ∙ sym kept ∙ sym (mine_own B swapped (B.own l) g own_is) ∙ h)
            where
              kept : swapped g ≡ x g
              kept =
                  swap_aside B l z x g
                  (out_of (B.own l) g (parent_of B laws d l is-do i strict).is-do not_inside own_is) p q
