-- An argument that holds makes the placement a key: no planner is spoken of.
-- Main statement: `argued_key`.
use mathlib.Core.Path.{◌≡◌, refl, sym}
use mathlib.Core.Bool.{true, ◌&&◌, ◌||◌, not}
use mathlib.Core.List.{List, [], ◌∷◌}
use mathlib.Core.Logic.{◌⊎◌, inl, inr, ⊎_elim}
use Prim.Native.Nat.{ℕ, zero, suc, ◌≤◌, ◌<◌}
use native.Mathlib.Omega.{arith}
use lib.Dec.{eqb}
use lib.ListN.{length}
use borrow.Author.Tests.{eqb-true, eq-eqb}
use Rattle.laws.specs.Choice.{is_in}
use Rattle.laws.specs.Members.{Among}
use Rattle.laws.proofs.Tests.{never, or-true, and_true, and_intro, eq_or, false_by}
use Rattle.laws.proofs.Implies.{implied, implies_by}
use Rattle.paper_nests.specs.Nests.{Nest}
use Rattle.paper_nests.specs.Valid.{is_shape}
use Rattle.paper_nests.specs.Loops.{is_do, owner_of}
use Rattle.paper_nests.proofs.Levels.{point_in}
use Rattle.paper_placements.specs.Placements.{is_correct, loop_count}
use Rattle.paper_order.specs.Keys.{IsKey}
use Rattle.paper_order.proofs.LoopOrder.{SameInside, as_good_intro}
use Rattle.argue_claims.specs.Arguments.{Claim, Known, Count, run, is_low, ended, known_of, begun, most, key_lots}
use Rattle.argue_claims.specs.Arguments.{has_low, all_low, all_hold, holds}
use Rattle.argue_claims.proofs.Listed.{among_or}
use Rattle.argue_claims.proofs.Outs.{Said, AllSaid}
use Rattle.argue_claims.proofs.Runs.{Supposed, low_end, more_end, stand_end}

module _ (n : Nest) (key gs : List ℕ) (shape : is_shape n.points ≡ true) (ok : is_correct n gs ≡ true) where
  module _ (ks : List Known) (all : AllSaid n key gs ks) (k : Claim)
      (h : ended n key k (run n key k ks k.steps begun) ≡ true) where
    abbrev last : Count
    last = run n key k ks k.steps begun

    loop : is_do n.points k.loop ≡ true
    loop = (and_true (is_do n.points k.loop) _ (and_true last.fine _ h).1).0

    -- where nothing is supposed
    free : k.from ≡ 0 → k.upto ≡ 0 → SameInside n gs key k.loop → Supposed n key gs shape ok k
    free a b s =
        record {
          is-do = loop;
          same = s;
          from = λ p. absurd (omega (arith, p, a));
          upto = λ p. absurd (omega (arith, p, b));
        }

    is-low : k.from ≡ 0 → k.upto ≡ 0 → is_low k ≡ true
    is-low a b = and_intro (eq-eqb k.from 0 a) (eq-eqb k.upto 0 b)

    low_is : is_low k ≡ true → (k.from ≡ 0) × (k.upto ≡ 0)
    low_is e =
        let z = and_true (eqb k.from 0) (eqb k.upto 0) e in
        (eqb-true k.from 0 z.0, eqb-true k.upto 0 z.1)

    -- a claim that holds says so
    pub claim_said : Said n key gs (known_of n key k last)
    claim_said =
        record {
          is-do = loop;
          low = λ a b s. low_end n key gs shape ok k (free a b s) ks all h (is-low a b);
          stand = stand;
          more = λ s p f t. more_end n key gs shape ok k
              record { is-do = loop; same = s; from = f; upto = t } ks all h
              (false_by (λ (e : is_low k ≡ true). (let z = low_is e in omega (arith, z.0, z.1, p))));
        }
      where
        stand : SameInside n gs key k.loop → loop_count n gs k.loop ≡ loop_count n key k.loop → (g : ℕ) →
            is_in g gs ≡ true → owner_of n.points g ≡ k.loop → (known_of n key k last).places g ≡ true
        stand s c g i o =
            implies_by (is_low k && eqb last.c (key_lots n key k last))
            (eqb (last.times g) (most n key last))
            (λ e. (let z = and_true (is_low k) _ e in
            let l = low_is z.0 in
            eq-eqb (last.times g) (most n key last)
            (stand_end n key gs shape ok k (free l.0 l.1 s) ks all h (eqb-true _ _ z.1) c g i o)))

  has-low : (ks : List Known) → AllSaid n key gs ks → (d : ℕ) → has_low ks d ≡ true → SameInside n gs key d →
      loop_count n key d ≤ loop_count n gs d
  has-low [] all d e s = never e
  has-low (k ∷ ks) all d e s =
      ⊎_elim here (λ (z : has_low ks d ≡ true). has-low ks (λ j m. all j (inr m)) d z s)
      (or-true (eqb k.loop d && (eqb k.from 0 && eqb k.upto 0)) (has_low ks d) e)
    where
      here : (eqb k.loop d && (eqb k.from 0 && eqb k.upto 0)) ≡ true → loop_count n key d ≤ loop_count n gs d
      here z =
          let a = and_true (eqb k.loop d) (eqb k.from 0 && eqb k.upto 0) z in
          let b = and_true (eqb k.from 0) (eqb k.upto 0) a.1 in
          let l : k.loop ≡ d = eqb-true k.loop d a.0 in
          rw (← l) ((all k (inl refl)).low (eqb-true k.from 0 b.0) (eqb-true k.upto 0 b.1) (rw l s))

  all-low : (ks : List Known) → AllSaid n key gs ks → (m d : ℕ) → all_low n key ks m ≡ true → d < m →
      is_do n.points d ≡ true → SameInside n gs key d → loop_count n key d ≤ loop_count n gs d
  all-low ks all zero d e p h s = absurd (omega arith)
  all-low ks all (suc m) d e p h s =
      go (and_true (not (is_do n.points m) || (eqb (loop_count n key m) 0 || has_low ks m)) (all_low n key ks m) e)
      (eq_or d m) (λ z. all-low ks all m d z)
    where
      at : (eqb (loop_count n key d) 0 ≡ true) ⊎ (has_low ks d ≡ true) → loop_count n key d ≤ loop_count n gs d
      at (inl z) = omega (arith, eqb-true (loop_count n key d) 0 z)
      at (inr z) = has-low ks all d z s

      go : ((not (is_do n.points m) || (eqb (loop_count n key m) 0 || has_low ks m)) ≡ true) ×
          (all_low n key ks m ≡ true) → (d ≡ m) ⊎ ((d ≡ m) → ⊥) →
          (all_low n key ks m ≡ true → d < m → is_do n.points d ≡ true → SameInside n gs key d →
          loop_count n key d ≤ loop_count n gs d) → loop_count n key d ≤ loop_count n gs d
      go z (inl w) r =
          at (or-true (eqb (loop_count n key d) 0) (has_low ks d)
          (implied (is_do n.points d) (eqb (loop_count n key d) 0 || has_low ks d) (rw w z.0) h))
      go z (inr w) r = r z.1 (omega (arith, w, p)) h s

  all-hold : (cs : List Claim) (ks : List Known) → AllSaid n key gs ks → all_hold n key ks cs ≡ true → (d : ℕ) →
      is_do n.points d ≡ true → SameInside n gs key d → loop_count n key d ≤ loop_count n gs d
  all-hold [] ks all e d h s = all-low ks all (length n.points) d e (point_in n.points d 0 h) h s
  all-hold (k ∷ cs) ks all e d h s =
      let z = and_true (ended n key k (run n key k ks k.steps begun)) _ e in
      all-hold cs _ (λ j m. ⊎_elim
      (λ (w : Among j ks). all j w)
      (λ (w : Among j (known_of n key k (run n key k ks k.steps begun) ∷ [])). ⊎_elim
      (λ (v : j ≡ known_of n key k (run n key k ks k.steps begun)). rw v (claim_said ks all k z.0))
      (λ v. absurd v) w)
      (among_or j ks (known_of n key k (run n key k ks k.steps begun) ∷ []) m)) z.1 d h s

-- whoever found the placement, and however: with an argument that holds it is a key
pub argued_key : (n : Nest) → is_shape n.points ≡ true → (key : List ℕ) (cs : List Claim) → holds n key cs ≡ true →
    IsKey n key
argued_key n shape key cs h =
    let z = and_true (is_correct n key) (all_hold n key [] cs) h in
    record {
      correct = z.0;
      least = λ gs ok. as_good_intro n shape key gs
          (λ d i s. all-hold n key gs shape ok cs [] (λ k m. absurd m) z.1 d i (λ x p q. sym (s x p q)));
    }
