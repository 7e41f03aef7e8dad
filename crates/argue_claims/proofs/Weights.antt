-- How often the gaps of a placement were named, all together: it grows with every set that the placement has a gap in,
-- and where own gaps of one loop alone were named, it is at most m for each of them.
-- Main definitions: `weigh`, `Fair`. Main statements: `weigh_grows`, `weigh_hit`, `weigh_most`, `weigh_exact`.
use mathlib.Core.Path.{◌≡◌, refl}
use mathlib.Core.Bool.{Bool, true, false}
use mathlib.Core.List.{List, [], ◌∷◌}
use mathlib.Core.Logic.{◌⊎◌, inl, inr}
use Prim.Native.Nat.{ℕ, ◌+◌, ◌≤◌, ◌<◌}
use native.Mathlib.Omega.{arith}
use lib.Dec.{eqb}
use borrow.Author.Tests.{eqb-true}
use Rattle.laws.specs.Choice.{when, is_in}
use Rattle.laws.proofs.Tests.{never, or-true}
use Rattle.laws.proofs.Members.{in_here, in_later}
use Rattle.paper_nests.specs.Nests.{Nest}
use Rattle.paper_nests.specs.Loops.{owner_of}
use Rattle.paper_placements.specs.Placements.{loop_count}
use Rattle.argue_claims.specs.Arguments.{named, lots}
use Rattle.argue_claims.proofs.Lots.{lots_when}

-- the sum of t over a list of gaps
unfoldable pub weigh : List ℕ → (ℕ → ℕ) → ℕ
weigh [] t = 0
weigh (g ∷ gs) t = t g + weigh gs t

-- naming more gaps never makes the weight less
pub weigh_grows : (s : ℕ → Bool) (t : ℕ → ℕ) (gs : List ℕ) → weigh gs t ≤ weigh gs (named s t)
unfolding weigh
weigh_grows s t [] = omega arith
weigh_grows s t (g ∷ gs) = go (s g) (weigh_grows s t gs)
  where
    go : (b : Bool) → weigh gs t ≤ weigh gs (named s t) → t g + weigh gs t ≤ when b 1 + t g + weigh gs (named s t)
    go true h = omega (arith, h)
    go false h = omega (arith, h)

-- and more, if one of them is in the list
pub weigh_hit : (s : ℕ → Bool) (t : ℕ → ℕ) (gs : List ℕ) (g : ℕ) → is_in g gs ≡ true → s g ≡ true →
    weigh gs t < weigh gs (named s t)
unfolding weigh
weigh_hit s t [] g h k = never h
weigh_hit s t (y ∷ ys) g h k = go (or-true (eqb g y) (is_in g ys) h) (λ i. weigh_hit s t ys g i k)
  where
    here : (b : Bool) → b ≡ true → weigh ys t ≤ weigh ys (named s t) →
        t y + weigh ys t < when b 1 + t y + weigh ys (named s t)
    here true e w = omega (arith, w)
    here false e w = never e

    later : (b : Bool) → weigh ys t < weigh ys (named s t) → t y + weigh ys t < when b 1 + t y + weigh ys (named s t)
    later true w = omega (arith, w)
    later false w = omega (arith, w)

    go : (eqb g y ≡ true) ⊎ (is_in g ys ≡ true) → (is_in g ys ≡ true → weigh ys t < weigh ys (named s t)) →
        t y + weigh ys t < when (s y) 1 + t y + weigh ys (named s t)
    go (inl z) r = here (s y) (rw (← eqb-true g y z) k) (weigh_grows s t ys)
    go (inr z) r = later (s y) (r z)

module _ (n : Nest) (d m : ℕ) (t : ℕ → ℕ) where
  -- no gap of the list more than m times, and own gaps of d only
  pub record Fair (gs : List ℕ) : Type 0 where
    pub most : (g : ℕ) → is_in g gs ≡ true → t g ≤ m
    pub owned : (g : ℕ) → is_in g gs ≡ true → eqb (owner_of n.points g) d ≡ false → t g ≡ 0

  fair_rest : (y : ℕ) (ys : List ℕ) → Fair (y ∷ ys) → Fair ys
  fair_rest y ys f =
      record { most = λ g h. f.most g (in_later g y ys h); owned = λ g h. f.owned g (in_later g y ys h) }

  one_most : (b : Bool) (y : ℕ) → t y ≤ m → (b ≡ false → t y ≡ 0) → t y ≤ when b m
  one_most true y u v = u
  one_most false y u v = omega (arith, v refl)

  -- at most m for each own gap
  pub weigh_most : (gs : List ℕ) → Fair gs → weigh gs t ≤ lots m (loop_count n gs d)
  unfolding weigh lots
  weigh_most [] f = omega arith
  weigh_most (y ∷ ys) f =
      let a : t y ≤ when (eqb (owner_of n.points y) d) m =
      one_most (eqb (owner_of n.points y) d) y (f.most y (in_here y ys)) (f.owned y (in_here y ys)) in
      omega (
        arith,
        a,
        weigh_most ys (fair_rest y ys f),
        lots_when (eqb (owner_of n.points y) d) m (loop_count n ys d),
      )

  -- and if it is just that, each own gap m times
  pub weigh_exact : (gs : List ℕ) → Fair gs → lots m (loop_count n gs d) ≤ weigh gs t → (g : ℕ) → is_in g gs ≡ true →
      eqb (owner_of n.points g) d ≡ true → t g ≡ m
  unfolding weigh lots
  weigh_exact [] f e g h o = never h
  weigh_exact (y ∷ ys) f e g h o =
      let a : t y ≤ when (eqb (owner_of n.points y) d) m =
      one_most (eqb (owner_of n.points y) d) y (f.most y (in_here y ys)) (f.owned y (in_here y ys)) in
      let l : lots m (loop_count n (y ∷ ys) d) ≡ when (eqb (owner_of n.points y) d) m + lots m (loop_count n ys d) =
      lots_when (eqb (owner_of n.points y) d) m (loop_count n ys d) in
      let w : weigh ys t ≤ lots m (loop_count n ys d) = weigh_most ys (fair_rest y ys f) in
      go (or-true (eqb g y) (is_in g ys) h)
      (λ (z : is_in g ys ≡ true). weigh_exact ys (fair_rest y ys f) (omega (arith, a, l, w, e)) g z o)
      (λ (b : Bool) (p : eqb (owner_of n.points y) d ≡ b). here b p (omega (arith, a, l, w, e)) a)
    where
      here : (b : Bool) → eqb (owner_of n.points y) d ≡ b → when (eqb (owner_of n.points y) d) m ≤ t y →
          t y ≤ when (eqb (owner_of n.points y) d) m → b ≡ true → t y ≡ m
      here true p u v q =
          let z : when (eqb (owner_of n.points y) d) m ≡ m = rw p in
          omega (arith, u, v, z)
      here false p u v q = never q

      go : (eqb g y ≡ true) ⊎ (is_in g ys ≡ true) → (is_in g ys ≡ true → t g ≡ m) →
          ((b : Bool) → eqb (owner_of n.points y) d ≡ b → b ≡ true → t y ≡ m) → t g ≡ m
      go (inl z) r k =
          let i : g ≡ y = eqb-true g y z in
          rw i (k true (rw (← i) o) refl)
      go (inr z) r k = r z
