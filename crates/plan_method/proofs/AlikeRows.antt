-- The row of d is the same in two nests that agree on d's range: its cost, its fronts, its placements.
-- Main statements: `some_alike`, `cost_alike`, `left_alike`, `choice_alike`, `lay_alike`.
use mathlib.Core.Path.{◌≡◌, refl, ap}
use mathlib.Core.Bool.{Bool, true, false, ◌&&◌, ◌||◌}
use mathlib.Core.Logic.{◌⊎◌, inl, inr}
use Prim.Native.Nat.{ℕ, zero, suc, ◌≤◌, ◌<◌}
use native.Mathlib.Omega.{arith}
use lib.Dec.{eqb, ltb, leb}
use borrow.Author.Tests.{ltb-true, ltb-false, eqb-true, le-leb}
use Rattle.laws.specs.Choice.{pick}
use Rattle.laws.proofs.Choices.{pick_same}
use Rattle.laws.proofs.Tests.{le_or}
use Rattle.plan_method.specs.Sweep.{Loops, Lines, Tables, State, value, least, Front, front, better, best}
use Rattle.plan_method.specs.Sweep.{child_some, some_of, cost_of, front_of, left_of, choice_of, lay_of}
use Rattle.plan_method.proofs.World.{Child, LoopLaws}
use Rattle.plan_method.proofs.Choices.{Fronts, best_is}
use Rattle.plan_method.proofs.Rows.{value_front, holds_at}
use Rattle.plan_method.proofs.Alike.{Same, Alike, value_alike}

least_same : (v u : ℕ → ℕ) (d e : ℕ) → d < e → ((q : ℕ) → d < q → q ≤ e → v q ≡ u q) → least v d e ≡ least u d e
unfolding least
least_same v u d zero h n = absurd (omega arith)
least_same v u d (suc e) h n = go (le_or e d) (λ z. least_same v u d e z (λ q i j. n q i (omega arith)))
  where
    here : v (suc e) ≡ u (suc e)
    here = n (suc e) h (omega arith)

    go : (e ≤ d) ⊎ (d < e) → (d < e → least v d e ≡ least u d e) →
        pick (leb e d || leb (v (suc e)) (least v d e)) (v (suc e)) (least v d e) ≡
        pick (leb e d || leb (u (suc e)) (least u d e)) (u (suc e)) (least u d e)
    go (inl z) r = rw (le-leb e d z) here
    go (inr z) r = rw (here, r z)

best_same : (v u : ℕ → State) (c e k q : ℕ) → ((a : ℕ) → q ≤ a → a ≤ e → Same (v a) (u a)) →
    best v c e k q ≡ best u c e k q
unfolding best better
best_same v u c e zero q n = refl
best_same v u c e (suc k) q n =
    pick_same ◌≡◌ refl (λ _. refl)
    (here (best_same v u c e k (suc q) (λ a i j. n a (omega arith) j)))
  where
    here : best v c e k (suc q) ≡ best u c e k (suc q) → ltb e q ≡ false →
        better c q (v q) (best v c e k (suc q)) ≡ better c q (u q) (best u c e k (suc q))
    here r z =
        let m : Same (v q) (u q) = n q (omega arith) (ltb-false e q z) in
        rw (m.c_is, m.f_is, r)

module _
    (B B' : Loops) (laws : LoopLaws B) (N N' : Lines) (T T' : Tables) (d : ℕ) (is-do : B.is_do d ≡ true)
    (alike : Alike B B' N N' T T' d) where
  abbrev e : ℕ
  e = B.stop d

  holds_alike : (l : ℕ) → l < e → holds_at B T d l ≡ holds_at B' T' d l
  holds_alike l h = above (ltb d l) refl
    where
      there : Bool
      there = ltb 0 (T.left l (suc l))

      there' : Bool
      there' = ltb 0 (T'.left l (suc l))

      owned : d < l → B.is_do l ≡ true → (v : Bool) → eqb (B.own l) d ≡ v → (v && there) ≡ (v && there')
      owned y z true o =
          let c : Child B d (B.stop l) l =
          record { is-do = z; below = y; ends = refl; owner = eqb-true (B.own l) d o } in
          rw (alike.left_is l (suc l) c h (omega arith) (laws.long l z))
      owned y z false o = refl

      is : d < l → (v : Bool) → B.is_do l ≡ v →
          (v && (eqb (B.own l) d && there)) ≡ (v && (eqb (B.own l) d && there'))
      is y true z = owned y z (eqb (B.own l) d) refl
      is y false z = refl

      above : (v : Bool) → ltb d l ≡ v →
          (v && (B.is_do l && (eqb (B.own l) d && there))) ≡ (v && (B'.is_do l && (eqb (B'.own l) d && there')))
      above true y =
          let j : d < l = ltb-true d l y in
          rw (← alike.do_is l j h, ← alike.own_is l j h) (is j (B.is_do l) refl)
      above false y = refl

  children_alike : (n : ℕ) → n ≤ e → child_some B T d n ≡ child_some B' T' d n
  unfolding child_some
  children_alike zero h = refl
  children_alike (suc l) h = rw (holds_alike l h, children_alike l (omega arith))

  pub some_alike : some_of B N T d ≡ some_of B' N' T' d
  unfolding some_of
  some_alike = rw (← alike.stop_is, alike.has_is, children_alike e (omega arith))

  same_value : (q : ℕ) → d < q → q ≤ e → Same (value B N T d q) (value B' N' T' d q)
  same_value = value_alike B B' laws N N' T T' d is-do alike

  pub cost_alike : cost_of B N T d ≡ cost_of B' N' T' d
  unfolding cost_of
  cost_alike =
      let v : ℕ → ℕ = λ q. (value B N T d q).c in
      let u : ℕ → ℕ = λ q. (value B' N' T' d q).c in
      let m : least v d e ≡ least u d e =
      least_same v u d e (laws.long d is-do) (λ q i j. (same_value q i j).c_is) in
      rw (some_alike, m, alike.stop_is)

  front_alike : (q : ℕ) → d < q → q ≤ e → front_of B N T d q ≡ front_of B' N' T' d q
  unfolding front_of
  front_alike q a b =
      let c = cost_of B N T d in
      let m : best (value B N T d) c e (suc e) q ≡ best (value B' N' T' d) c e (suc e) q =
      best_same (value B N T d) (value B' N' T' d) c e (suc e) q (λ k i j. same_value k (omega arith) j) in
      rw (some_alike, m, cost_alike, alike.stop_is)

  pub left_alike : (q : ℕ) → d < q → q ≤ e → left_of B N T d q ≡ left_of B' N' T' d q
  unfolding left_of
  left_alike q a b = ap (λ (r : Front). r.f) (front_alike q a b)

  pub choice_alike : (q : ℕ) → d < q → q ≤ e → choice_of B N T d q ≡ choice_of B' N' T' d q
  unfolding choice_of
  choice_alike q a b = ap (λ (r : Front). r.at) (front_alike q a b)

  -- the suffix that is chosen lies in the range
  chosen : (q : ℕ) → d < q → 0 < left_of B N T d q → (d < choice_of B N T d q) × (choice_of B N T d q ≤ e)
  unfolding left_of choice_of front_of
  chosen q a = go (some_of B N T d)
    where
      r : Front
      r = best (value B N T d) (cost_of B N T d) e (suc e) q

      i : Fronts (value B N T d) (cost_of B N T d) e q r
      i =
          best_is (value B N T d) (cost_of B N T d) e (suc e) q (omega arith)
          (λ k l m. value_front B laws N T d k is-do)

      go : (t : Bool) → 0 < (pick t r (front 0 0)).f → (d < (pick t r (front 0 0)).at) × ((pick t r (front 0 0)).at ≤ e)
      go true z = (omega (arith, i.low z), i.high z)
      go false z = absurd (omega arith)

  pub lay_alike : (q g : ℕ) → d < q → q ≤ e → lay_of B N T d q g ≡ lay_of B' N' T' d q g
  unfolding lay_of
  lay_alike q g a b =
      rw (← left_alike q a b, ← choice_alike q a b)
      (pick_same (λ (x y : ℕ → Bool). x g ≡ y g) refl here (λ _. refl))
    where
      at : ℕ
      at = choice_of B N T d q

      here : ltb 0 (left_of B N T d q) ≡ true → (value B N T d at).w g ≡ (value B' N' T' d at).w g
      here z =
          let c = chosen q a (ltb-true 0 (left_of B N T d q) z) in
          (same_value at c.0 c.1).w_is g
