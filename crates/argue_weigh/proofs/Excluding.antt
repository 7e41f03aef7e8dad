-- The table of what is excluded, once one more claim holds; and what the code asks of a gap is what the claim says.
-- Main statements: `strike_excludes`, `excludes_says`.
use mathlib.Core.Path.{◌≡◌, refl, sym, ap, ◌∙◌}
use mathlib.Core.Bool.{Bool, true, false, ◌&&◌, ◌||◌, not}
use mathlib.Core.List.{List, [], ◌∷◌, ◌++◌}
use mathlib.Core.Logic.{◌⊎◌, inl, inr, ⊎_elim}
use Prim.Native.Nat.{ℕ, suc, ◌≤◌, ◌<◌}
use native.Mathlib.Omega.{arith}
use lib.Dec.{eqb, ltb, leb}
use borrow.Author.Tests.{lt-ltb, le-ltb, le-leb, lt-leb, ltb-true, leb-true}
use Rattle.laws.specs.Choice.{is_in}
use Rattle.laws.specs.Entries.{at}
use Rattle.laws.proofs.Tests.{never, le_or, and_true, and_intro}
use Rattle.laws.proofs.Ors.{or_turned, or_assoc}
use Rattle.paper_nests.specs.Nests.{Nest}
use Rattle.paper_nests.specs.Loops.{is_do, end_of, owner_of, is_around, in_loop}
use Rattle.paper_placements.specs.Placements.{loop_count}
use Rattle.argue_claims.specs.Arguments.{Claim, Known, Count, is_low, says, known_out, most, key_lots, known_of}
use Rattle.argue_weigh.specs.Striking.{larger, excludes_at, Struck}
use Rattle.argue_weigh.specs.Excluding.{excluded_in, Excludes}

-- above the larger of two is above either
above_larger : (k a b : ℕ) → ltb k (larger a b) ≡ (ltb k a || ltb k b)
above_larger k a b =
    ⊎_elim
    (λ (p : a ≤ b). rw (le-leb a b p) (second p (le_or a k)))
    (λ (p : b < a). rw (lt-leb a b p) (first p (le_or b k)))
    (le_or a b)
  where
    second : a ≤ b → (a ≤ k) ⊎ (k < a) → ltb k b ≡ (ltb k a || ltb k b)
    second p (inl q) = rw (le-ltb k a q) refl
    second p (inr q) = rw (lt-ltb k a q, lt-ltb k b (omega (arith, p, q))) refl

    first : b < a → (b ≤ k) ⊎ (k < b) → ltb k a ≡ (ltb k a || ltb k b)
    first p (inl q) = rw (le-ltb k b q) (sym (or_turned (ltb k a) false))
    first p (inr q) = rw (lt-ltb k b q, lt-ltb k a (omega (arith, p, q))) refl

-- one more at the end of three
or_last : (b z k x : Bool) → ((b || (z || k)) || x) ≡ (b || (z || (k || x)))
or_last true z k x = refl
or_last false true k x = refl
or_last false false k x = refl

-- where it is exact, a gap that is not named the most times
not_places : (exact q : Bool) → (exact && not q) ≡ not (not exact || q)
not_places true q = refl
not_places false q = refl

module _ (n : Nest) (key : List ℕ) where
  -- by one claim, of a loop inside d
  abbrev out_by : ℕ → Known → ℕ → Bool
  out_by d k g = in_loop n.points d k.loop && (is_around n.points g k.loop && says n key k g)

  known_more
      : (d : ℕ) (ks : List Known) (k : Known) (g : ℕ)
      → known_out n key d (ks ++ (k ∷ [])) g ≡ (known_out n key d ks g || out_by d k g)
  known_more d [] k g = or_turned (out_by d k g) false
  known_more d (j ∷ ks) k g =
      let r : known_out n key d (ks ++ (k ∷ [])) g ≡ (known_out n key d ks g || out_by d k g) = known_more d ks k g in
      rw r (or_assoc (out_by d j g) (known_out n key d ks g) (out_by d k g))

  module _ (ks : List Known) (k : Known) (old new : List ℕ) (before : Excludes n key ks old)
      (s : Struck (says n key k) k.loop (end_of n.points k.loop) old new) where
    excluded_more
        : (d g : ℕ) (x : Bool)
        → out_by d k g ≡ x
        → excluded_in n key d (ks ++ (k ∷ [])) g ≡ (excluded_in n key d ks g || x)
    excluded_more d g x e =
        rw (known_more d ks k g, e)
        (sym (or_last (is_in g n.barred)
        (not (eqb (owner_of n.points g) d) && eqb (loop_count n key (owner_of n.points g)) 0)
        (known_out n key d ks g) x))

    -- a gap that the claim does not exclude
    kept
        : (d g : ℕ)
        → is_do n.points d ≡ true
        → is_around n.points g d ≡ true
        → at new g ≡ at old g
        → (is_around n.points g k.loop && says n key k g) ≡ false
        → ltb (suc d) (at new g) ≡ excluded_in n key d (ks ++ (k ∷ [])) g
    kept d g i a same e =
        let none : out_by d k g ≡ false = rw e (and_none (in_loop n.points d k.loop)) in
        rw same (before.tells d g i a ∙ sym (excluded_more d g false none ∙ or_turned (excluded_in n key d ks g) false))
      where
        and_none : (b : Bool) → (b && false) ≡ false
        and_none true = refl
        and_none false = refl

    -- one that it excludes: a loop d around the gap lies around the claim's loop exactly if its DO is before
    raised
        : (d g : ℕ)
        → is_do n.points d ≡ true
        → is_around n.points g d ≡ true
        → is_around n.points g k.loop ≡ true
        → says n key k g ≡ true
        → ltb (suc d) (at new g) ≡ excluded_in n key d (ks ++ (k ∷ [])) g
    raised d g i a b e =
        let la = and_true (ltb d g) (leb g (end_of n.points d)) a in
        let lb = and_true (ltb k.loop g) (leb g (end_of n.points k.loop)) b in
        let high : g ≤ end_of n.points d = leb-true g (end_of n.points d) la.1 in
        let low : k.loop < g = ltb-true k.loop g lb.0 in
        let stop : g ≤ end_of n.points k.loop = leb-true g (end_of n.points k.loop) lb.1 in
        let now : at new g ≡ larger (at old g) (suc k.loop) = s.inside g low stop ∙ rw e refl in
        let within : ltb k.loop (end_of n.points d) ≡ true =
        lt-ltb k.loop (end_of n.points d) (omega (arith, low, high)) in
        let one : out_by d k g ≡ ltb (suc d) (suc k.loop) = rw (b, e, within) (same_test d k.loop) in
        rw now
        (above_larger (suc d) (at old g) (suc k.loop) ∙
        ap (λ (x : Bool). x || ltb (suc d) (suc k.loop)) (before.tells d g i a) ∙
        sym (excluded_more d g (ltb (suc d) (suc k.loop)) one))
      where
        same_test : (i j : ℕ) → ((ltb i j && true) && true) ≡ ltb (suc i) (suc j)
        same_test i j =
            ⊎_elim
            (λ (p : j ≤ i). rw (le-ltb i j p, le-ltb (suc i) (suc j) (omega (arith, p))) refl)
            (λ (p : i < j). rw (lt-ltb i j p, lt-ltb (suc i) (suc j) (omega (arith, p))) refl)
            (le_or j i)

    -- the table after a claim holds
    pub strike_excludes : Excludes n key (ks ++ (k ∷ [])) new
    strike_excludes =
        record { tells = λ d g i a. go d g i a (is_around n.points g k.loop) refl (says n key k g) refl }
      where
        apart
            : (g : ℕ) → is_around n.points g k.loop ≡ false → (g ≤ k.loop) ⊎ (end_of n.points k.loop < g)
        apart g z =
            ⊎_elim (λ (p : g ≤ k.loop). inl p)
            (λ (p : k.loop < g). ⊎_elim
            (λ (q : g ≤ end_of n.points k.loop). never
            (sym z ∙ and_intro (lt-ltb k.loop g p) (le-leb g (end_of n.points k.loop) q)))
            (λ (q : end_of n.points k.loop < g). inr q) (le_or g (end_of n.points k.loop)))
            (le_or g k.loop)

        go
            : (d g : ℕ)
            → is_do n.points d ≡ true
            → is_around n.points g d ≡ true
            → (b : Bool)
            → is_around n.points g k.loop ≡ b
            → (x : Bool)
            → says n key k g ≡ x
            → ltb (suc d) (at new g) ≡ excluded_in n key d (ks ++ (k ∷ [])) g
        go d g i a false z x e = kept d g i a (s.outside g (apart g z)) (rw z refl)
        go d g i a true z false e =
            let lb = and_true (ltb k.loop g) (leb g (end_of n.points k.loop)) z in
            kept d g i a
            (s.inside g (ltb-true k.loop g lb.0) (leb-true g (end_of n.points k.loop) lb.1) ∙ rw e refl)
            (rw (z, e) refl)
        go d g i a true z true e = raised d g i a z e

  -- what the code asks of a gap is what the claim says of it
  pub excludes_says
      : (k : Claim) (x : Count) (exact : Bool) (m : ℕ) (owners times : List ℕ) (g : ℕ)
      → exact ≡ (is_low k && eqb x.c (key_lots n key k x))
      → m ≡ most n key x
      → at owners g ≡ owner_of n.points g
      → at times g ≡ x.times g
      → excludes_at k.from k.upto exact m owners times k.loop g ≡ says n key (known_of n key k x) g
  excludes_says k x exact m owners times g e h o t =
      rw (o, t, e, h)
      (sym (or_assoc (eqb k.from 0 && leb g k.upto)
      (eqb k.upto 0 && (ltb 0 k.from && leb k.from g))
      (eqb (owner_of n.points g) k.loop &&
      ((is_low k && eqb x.c (key_lots n key k x)) && not (eqb (x.times g) (most n key x))))) ∙
      ap
      (λ (b : Bool). (eqb k.from 0 && leb g k.upto) ||
      ((eqb k.upto 0 && (ltb 0 k.from && leb k.from g)) || (eqb (owner_of n.points g) k.loop && b)))
      (not_places (is_low k && eqb x.c (key_lots n key k x)) (eqb (x.times g) (most n key x))))
