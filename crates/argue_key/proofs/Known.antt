-- The claims made so far and what is known of them, place by place: the claim that a step leads to is found by what it
-- says, and what a known claim says of a gap is out.
-- Main definitions: `Match`, `Kn`, `Found`. Main statements: `found`, `known-out`, `out_known`, `out_zero`, `has-low`.
use mathlib.Core.Path.{◌≡◌, refl, sym, ap, ◌∙◌}
use mathlib.Core.Bool.{Bool, true, false, ◌&&◌, not}
use mathlib.Core.List.{List, [], ◌∷◌, ◌++◌}
use mathlib.Core.Logic.{◌⊎◌, inl, inr}
use Prim.Native.Nat.{ℕ, suc, ◌≤◌, ◌<◌}
use native.Mathlib.Omega.{arith}
use lib.Dec.{eqb, ltb, leb}
use lib.ListN.{length}
use borrow.Author.Tests.{eqb-true, eq-eqb, ne_eqb, ltb-true, lt-ltb, leb-true, le-leb}
use Rattle.laws.specs.Choice.{pick, is_in}
use Rattle.laws.specs.Members.{Among}
use Rattle.laws.proofs.Tests.{never_both, and_true, and_intro, or_left, or_right}
use Rattle.laws.proofs.Members.{among_front}
use Rattle.paper_nests.specs.Nests.{Nest}
use Rattle.paper_nests.specs.Loops.{owner_of, is_around, in_loop}
use Rattle.paper_placements.specs.Placements.{loop_count}
use Rattle.argue_claims.specs.Arguments.{Claim, Known, Fact, known_at, fact_out, known_out, says, is_out}
use Rattle.argue_claims.specs.Arguments.{has_low}
use Rattle.argue_key.specs.Laps.{is_from, find_claim}

-- ---- claims and what is known of them, place by place

abbrev pub Match : List Claim → List Known → Type 0
Match [] [] = ◌≡◌ {A = ℕ} 0 0
Match [] (k ∷ ks) = ⊥
Match (c ∷ cs) [] = ⊥
Match (c ∷ cs) (k ∷ ks) = ((c.loop ≡ k.loop) × ((c.from ≡ k.from) × (c.upto ≡ k.upto))) × Match cs ks

pub match_more : (cs : List Claim) (ks : List Known) (c : Claim) (k : Known) → Match cs ks →
    (c.loop ≡ k.loop) × ((c.from ≡ k.from) × (c.upto ≡ k.upto)) → Match (cs ++ (c ∷ [])) (ks ++ (k ∷ []))
match_more [] [] c k m h = (h, refl)
match_more [] (j ∷ ks) c k m h = absurd m
match_more (b ∷ cs) [] c k m h = absurd m
match_more (b ∷ cs) (j ∷ ks) c k m h = (m.0, match_more cs ks c k m.1 h)

-- a claim that is known, by what it says
pub record Kn (ks : List Known) (l a u : ℕ) : Type 0 where
  pub known : Known
  pub among : Among known ks
  pub loop_is : known.loop ≡ l
  pub from_is : known.from ≡ a
  pub upto_is : known.upto ≡ u

pub record Found (ks : List Known) (l a u m : ℕ) : Type 0 where
  pub short : m < length ks
  pub loop_is : (known_at ks m).loop ≡ l
  pub from_low : 0 < (known_at ks m).from
  pub from_high : (known_at ks m).from ≤ a
  pub upto_is : suc (known_at ks m).upto ≡ u

pub found : (cs : List Claim) (ks : List Known) → Match cs ks → (l a t : ℕ) (k : Known) → Among k ks → k.loop ≡ l →
    0 < k.from → k.from ≤ a → suc k.upto ≡ t → Found ks l a t (find_claim cs l a t)
unfolding find_claim
found [] [] m l a t k h x v y z = absurd h
found [] (j ∷ ks) m l a t k h x v y z = absurd m
found (c ∷ cs) [] m l a t k h x v y z = absurd m
found (c ∷ cs) (j ∷ ks) m l a t k h x pos y z =
    go (is_from c l a t) refl h
    (λ i. found cs ks m.1 l a t k i x pos y z)
  where
    go : (b : Bool) → is_from c l a t ≡ b →
        (k ≡ j) ⊎ Among k ks →
        (Among k ks → Found ks l a t (find_claim cs l a t)) →
        Found (j ∷ ks) l a t (pick b 0 (suc (find_claim cs l a t)))
    go true e i r =
        let u = and_true (eqb c.loop l) ((ltb 0 c.from && leb c.from a) && eqb (suc c.upto) t) e in
        let v = and_true (ltb 0 c.from && leb c.from a) (eqb (suc c.upto) t) u.1 in
        let q = and_true (ltb 0 c.from) (leb c.from a) v.0 in
        let w : suc c.upto ≡ t = eqb-true (suc c.upto) t v.1 in
        record {
          short = omega arith;
          loop_is = sym m.0.0 ∙ eqb-true c.loop l u.0;
          from_low = omega (arith, ltb-true 0 c.from q.0, m.0.1.0);
          from_high = omega (arith, leb-true c.from a q.1, m.0.1.0);
          upto_is = omega (arith, m.0.1.1, w);
        }
    go false e (inl i) r =
        let o : k.upto ≡ j.upto = ap (λ (q : Known). q.upto) i in
        let w : k.from ≡ j.from = ap (λ (q : Known). q.from) i in
        never_both (and_intro (eq-eqb c.loop l (m.0.0 ∙ (sym (ap (λ (q : Known). q.loop) i) ∙ x)))
        (and_intro (and_intro (lt-ltb 0 c.from (omega (arith, pos, w, m.0.1.0)))
        (le-leb c.from a (omega (arith, y, w, m.0.1.0))))
        (eq-eqb (suc c.upto) t (omega (arith, m.0.1.1, o, z))))) e
    go false e (inr i) r =
        let f : Found ks l a t (find_claim cs l a t) = r i in
        record {
          short = omega (arith, f.short);
          loop_is = f.loop_is;
          from_low = f.from_low;
          from_high = f.from_high;
          upto_is = f.upto_is;
        }

-- ---- what is out by a known claim

module _ (n : Nest) (key : List ℕ) (d : ℕ) where
  pub known-out : (ks : List Known) (k : Known) (g : ℕ) → Among k ks → in_loop n.points d k.loop ≡ true →
      is_around n.points g k.loop ≡ true → says n key k g ≡ true → known_out n key d ks g ≡ true
  known-out [] k g h a b c = absurd h
  known-out (j ∷ ks) k g (inl h) a b c =
      let z : (in_loop n.points d j.loop && (is_around n.points g j.loop && says n key j g)) ≡ true =
      rw (← h) (and_intro a (and_intro b c)) in
      or_left _ z
  known-out (j ∷ ks) k g (inr h) a b c =
      or_right (in_loop n.points d j.loop && (is_around n.points g j.loop && says n key j g))
      (known-out ks k g h a b c)

  pub out_known : (ks : List Known) (fs : List Fact) (g : ℕ) → known_out n key d ks g ≡ true →
      is_out n key d ks fs g ≡ true
  out_known ks fs g h =
      or_right (is_in g n.barred)
      (or_right (not (eqb (owner_of n.points g) d) && eqb (loop_count n key (owner_of n.points g)) 0)
      (or_right (fact_out n key fs g) h))

  pub out_zero : (ks : List Known) (fs : List Fact) (g : ℕ) → (owner_of n.points g ≡ d → ⊥) →
      loop_count n key (owner_of n.points g) ≡ 0 → is_out n key d ks fs g ≡ true
  out_zero ks fs g o z =
      let w : not (eqb (owner_of n.points g) d) ≡ true = rw (ne_eqb (owner_of n.points g) d o) in
      or_right (is_in g n.barred) (or_left _ (and_intro w
      (eq-eqb (loop_count n key (owner_of n.points g)) 0 z)))

-- ---- more are known

pub kn_more : (ks js : List Known) (l a u : ℕ) → Kn ks l a u → Kn (ks ++ js) l a u
kn_more ks js l a u k =
    record {
      known = k.known;
      among = among_front k.known ks js k.among;
      loop_is = k.loop_is;
      from_is = k.from_is;
      upto_is = k.upto_is;
    }

-- a low claim that is known
pub has-low : (ks : List Known) (d : ℕ) (k : Known) → Among k ks → k.loop ≡ d → k.from ≡ 0 → k.upto ≡ 0 →
    has_low ks d ≡ true
has-low [] d k m x y z = absurd m
has-low (j ∷ ks) d k (inl m) x y z =
    let w : (eqb j.loop d && (eqb j.from 0 && eqb j.upto 0)) ≡ true =
    rw (← m) (and_intro (eq-eqb k.loop d x) (and_intro (eq-eqb k.from 0 y) (eq-eqb k.upto 0 z))) in
    or_left _ w
has-low (j ∷ ks) d k (inr m) x y z =
    or_right (eqb j.loop d && (eqb j.from 0 && eqb j.upto 0)) (has-low ks d k m x y z)
