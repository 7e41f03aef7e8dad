-- A gap that is out is no gap of the placement, or it is out by a fact: barred gaps by correctness, those of loops with
-- count 0 and those that a claim speaks of because the placement has the key's counts in all loops inside.
-- Main definitions: `Said`, `AllSaid`. Main statement: `out_told`.
use mathlib.Core.Path.{◌≡◌, refl, sym, ap}
use mathlib.Core.Bool.{Bool, true, false, ◌&&◌, ◌||◌, not}
use mathlib.Core.List.{List, [], ◌∷◌}
use mathlib.Core.Logic.{◌⊎◌, inl, inr, ⊎_elim}
use Prim.Native.Nat.{ℕ, ◌+◌, ◌≤◌, ◌<◌}
use native.Mathlib.Omega.{arith}
use lib.Dec.{eqb, ltb, leb}
use lib.ListN.{length}
use borrow.Author.Tests.{eqb-true, eqb-false, eq-eqb, leb-true, ltb-true}
use Rattle.laws.specs.Choice.{when, is_in}
use Rattle.laws.specs.Members.{Among}
use Rattle.laws.proofs.Tests.{test, never, or-true, and_true, and_intro}
use Rattle.laws.proofs.Members.{in_cons}
use Rattle.paper_nests.specs.Nests.{Nest}
use Rattle.paper_nests.specs.Valid.{is_shape}
use Rattle.paper_nests.specs.Loops.{is_do, end_of, owner_of, is_around, in_loop}
use Rattle.paper_nests.proofs.Loops.{inside_by, owner_is_do, owner_below, owner-inside}
use Rattle.paper_placements.specs.Placements.{is_correct, loop_count}
use Rattle.paper_placements.proofs.Cuts.{avoids_in, correct_avoids}
use Rattle.paper_placements.proofs.Inside.{inside_inside}
use Rattle.paper_order.proofs.LoopOrder.{SameInside}
use Rattle.argue_claims.specs.Arguments.{Known, Fact, fact_out, known_out, says, is_out}
use Rattle.argue_claims.proofs.Steps.{Has}

-- a gap counts at its loop
pub held : (n : Nest) (gs : List ℕ) (g : ℕ) → is_in g gs ≡ true → 0 < loop_count n gs (owner_of n.points g)
held n [] g h = never h
held n (x ∷ xs) g h = go (in_cons g x xs h) (held n xs g)
  where
    own : ℕ → ℕ
    own = owner_of n.points

    here : (b : Bool) → b ≡ true → 0 < when b 1 + loop_count n xs (own g)
    here true e = omega arith
    here false e = never e

    go : (g ≡ x) ⊎ (is_in g xs ≡ true) → (is_in g xs ≡ true → 0 < loop_count n xs (own g)) →
        0 < when (eqb (own x) (own g)) 1 + loop_count n xs (own g)
    go (inl z) r = here (eqb (own x) (own g)) (eq-eqb (own x) (own g) (ap own (sym z)))
    go (inr z) r = omega (arith, r z)

abbrev pub from_on : Nest → ℕ → ℕ → ℕ → Bool
from_on n d a g = is_around n.points g d && leb a g

abbrev pub up_to : Nest → ℕ → ℕ → ℕ → Bool
up_to n d b g = is_around n.points g d && leb g b

module _ (n : Nest) (key gs : List ℕ) where
  -- what a known claim says of the placement gs
  pub record Said (k : Known) : Type 0 where
    pub is-do : is_do n.points k.loop ≡ true
    pub low : k.from ≡ 0 → k.upto ≡ 0 → SameInside n gs key k.loop →
        loop_count n key k.loop ≤ loop_count n gs k.loop
    pub stand : SameInside n gs key k.loop → loop_count n gs k.loop ≡ loop_count n key k.loop →
        (g : ℕ) → is_in g gs ≡ true → owner_of n.points g ≡ k.loop → k.places g ≡ true
    pub more : SameInside n gs key k.loop → 0 < k.from + k.upto →
        (0 < k.from → Has gs (from_on n k.loop k.from)) → (0 < k.upto → Has gs (up_to n k.loop k.upto)) →
        loop_count n key k.loop < loop_count n gs k.loop

  abbrev pub AllSaid : List Known → Type 0
  AllSaid ks = (k : Known) → Among k ks → Said k

  module _ (shape : is_shape n.points ≡ true) (d : ℕ) (is-do : is_do n.points d ≡ true)
      (same : SameInside n gs key d) where
    -- a loop inside has the key's counts, at it and inside it
    pub same_within : (m : ℕ) → is_do n.points m ≡ true → in_loop n.points d m ≡ true → SameInside n gs key m
    same_within m h i x p q = same x p (inside_inside n.points shape d m x is-do h i q)

    said_out : (k : Known) → Said k → in_loop n.points d k.loop ≡ true → (g : ℕ) → 0 < g → is_in g gs ≡ true →
        is_around n.points g k.loop ≡ true → says n key k g ≡ true → ⊥
    said_out k s i g pos h a e =
        ⊎_elim first rest (or-true (eqb k.from 0 && leb g k.upto) _ e)
      where
        counts : loop_count n gs k.loop ≡ loop_count n key k.loop
        counts = same k.loop s.is-do i

        within : SameInside n gs key k.loop
        within = same_within k.loop s.is-do i

        first : (eqb k.from 0 && leb g k.upto) ≡ true → ⊥
        first z =
            let y = and_true (eqb k.from 0) (leb g k.upto) z in
            let f : k.from ≡ 0 = eqb-true k.from 0 y.0 in
            let u : g ≤ k.upto = leb-true g k.upto y.1 in
            omega (
              arith,
              counts,
              s.more within (omega (arith, u, pos)) (λ p. absurd (omega (arith, p, f)))
                  (λ p. record { gap = g; has = h; inside = and_intro a y.1 }),
            )

        second : (eqb k.upto 0 && (ltb 0 k.from && leb k.from g)) ≡ true → ⊥
        second z =
            let y = and_true (eqb k.upto 0) (ltb 0 k.from && leb k.from g) z in
            let w = and_true (ltb 0 k.from) (leb k.from g) y.1 in
            let f : k.upto ≡ 0 = eqb-true k.upto 0 y.0 in
            let u : 0 < k.from = ltb-true 0 k.from w.0 in
            omega (
              arith,
              counts,
              s.more within (omega (arith, u))
                  (λ p. record { gap = g; has = h; inside = and_intro a w.1 }) (λ p. absurd (omega (arith, p, f))),
            )

        third : (eqb (owner_of n.points g) k.loop && not (k.places g)) ≡ true → ⊥
        third z =
            let y = and_true (eqb (owner_of n.points g) k.loop) (not (k.places g)) z in
            let o : owner_of n.points g ≡ k.loop = eqb-true (owner_of n.points g) k.loop y.0 in
            let p : k.places g ≡ true = s.stand within counts g h o in
            never (rw p at y.1)

        rest : ((eqb k.upto 0 && (ltb 0 k.from && leb k.from g)) ||
            (eqb (owner_of n.points g) k.loop && not (k.places g))) ≡ true → ⊥
        rest z = ⊎_elim second third (or-true (eqb k.upto 0 && (ltb 0 k.from && leb k.from g)) _ z)

    known-out : (ks : List Known) → AllSaid ks → (g : ℕ) → 0 < g → is_in g gs ≡ true → known_out n key d ks g ≡ true → ⊥
    known-out [] all g pos h e = never e
    known-out (k ∷ ks) all g pos h e =
        ⊎_elim
        (λ (z : (in_loop n.points d k.loop && (is_around n.points g k.loop && says n key k g)) ≡ true).
        here (and_true (in_loop n.points d k.loop) (is_around n.points g k.loop && says n key k g) z))
        (λ (z : known_out n key d ks g ≡ true). known-out ks (λ j m. all j (inr m)) g pos h z)
        (or-true (in_loop n.points d k.loop && (is_around n.points g k.loop && says n key k g))
        (known_out n key d ks g) e)
      where
        here : (in_loop n.points d k.loop ≡ true) ×
            ((is_around n.points g k.loop && says n key k g) ≡ true) → ⊥
        here z =
            let y = and_true (is_around n.points g k.loop) (says n key k g) z.1 in
            said_out k (all k (inl refl)) z.0 g pos h y.0 y.1

    -- a gap of the placement that is out is out by a fact
    pub out_told : is_correct n gs ≡ true → (ks : List Known) → AllSaid ks → (fs : List Fact) (g : ℕ) →
        is_in g gs ≡ true → 0 < g → g < length n.points → d < g → g ≤ end_of n.points d →
        is_out n key d ks fs g ≡ true → fact_out n key fs g ≡ true
    out_told ok ks all fs g h pos len lo hi e =
        ⊎_elim barred (λ (z : (empty_own || (fact_out n key fs g || known_out n key d ks g)) ≡ true). ⊎_elim none last
        (or-true empty_own (fact_out n key fs g || known_out n key d ks g) z))
        (or-true (is_in g n.barred) (empty_own || (fact_out n key fs g || known_out n key d ks g)) e)
      where
        own : ℕ
        own = owner_of n.points g

        empty_own : Bool
        empty_own = not (eqb (owner_of n.points g) d) && eqb (loop_count n key (owner_of n.points g)) 0

        barred : is_in g n.barred ≡ true → fact_out n key fs g ≡ true
        barred z = never (rw z at (avoids_in n.barred gs (correct_avoids n gs ok) g h))

        none : (not (eqb (owner_of n.points g) d) && eqb (loop_count n key (owner_of n.points g)) 0) ≡ true →
            fact_out n key fs g ≡ true
        none z = go (test (eqb (owner_of n.points g) d))
            (and_true (not (eqb (owner_of n.points g) d)) (eqb (loop_count n key (owner_of n.points g)) 0) z)
          where
            go : (eqb (owner_of n.points g) d ≡ true) ⊎ (eqb (owner_of n.points g) d ≡ false) →
                (not (eqb (owner_of n.points g) d) ≡ true) ×
                (eqb (loop_count n key (owner_of n.points g)) 0 ≡ true) →
                fact_out n key fs g ≡ true
            go (inl p) y = never (rw p at y.0)
            go (inr p) y =
                let q : owner_of n.points g ≡ d → ⊥ = eqb-false (owner_of n.points g) d p in
                let a : d ≤ owner_of n.points g = owner-inside n.points shape d g is-do lo hi in
                let b : owner_of n.points g < g = owner_below n.points shape g pos len in
                let c : d < owner_of n.points g = omega (arith, a, q) in
                let s = same (owner_of n.points g) (owner_is_do n.points shape g pos len)
                (inside_by n.points d (owner_of n.points g) c (omega (arith, b, hi))) in
                absurd (omega (arith, s, held n gs g h, eqb-true (loop_count n key (owner_of n.points g)) 0 y.1))

        last : (fact_out n key fs g || known_out n key d ks g) ≡ true → fact_out n key fs g ≡ true
        last z = ⊎_elim (λ (y : fact_out n key fs g ≡ true). y)
            (λ (y : known_out n key d ks g ≡ true). absurd (known-out ks all g pos h y))
            (or-true (fact_out n key fs g) (known_out n key d ks g) z)
