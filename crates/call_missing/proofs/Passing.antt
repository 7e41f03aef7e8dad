-- The loops of a set, passed one after the other: those of a range that pass a test go into another set.
-- Main statements: `Next`, `next_from`, `next_in`, `next_less`; `Passing`, what a turn keeps; `pass_start`, `pass_put`,
-- `pass_by`, `pass_done`; `barrier_inside`, `no_barrier`.
use mathlib.Core.Path.{◌≡◌, refl, sym, ◌∙◌}
use mathlib.Core.Bool.{Bool, true, false, ◌&&◌, ◌||◌}
use mathlib.Core.List.{List}
use mathlib.Core.Logic.{⊎_elim}
use Prim.Native.Nat.{ℕ, ◌+◌, ◌-◌, ◌≤◌, ◌<◌}
use native.Mathlib.Omega.{arith}
use lib.Dec.{eqb, ltb, leb}
use borrow.Author.Tests.{eq-eqb, ne_eqb, ltb-true, leb-true, lt-ltb, le-leb, lt-leb}
use Rattle.laws.specs.Choice.{between, is_in}
use Rattle.laws.proofs.Tests.{test, never_both, le_or, eq_or, and_true, and_intro}
use Rattle.laws.proofs.Connectives.{and_off, or_off}
use Rattle.laws.proofs.Ranges.{in_between, between_in}
use Rattle.paper_placements.specs.Words.{GAPS, holds, gaps_in, LowestFrom, LowestIn}
use Rattle.paper_placements.proofs.Words.{in_gaps, in_gaps_beyond}
use Rattle.call_missing.specs.Foreign.{some_in}
use Rattle.call_missing.proofs.Some.{in_some, not_some}

-- d is the next of the set, from lo on, that lies in the range y; 256 for none
pub record Next (ws : List ℕ) (y : ℕ → Bool) (lo d : ℕ) : Type 0 where
  pub fits : d ≤ GAPS
  pub low : d < GAPS → lo ≤ d
  pub its : d < GAPS → y d ≡ true
  pub there : d < GAPS → holds ws d ≡ true
  pub none : (i : ℕ) → i < GAPS → lo ≤ i → i < d → y i ≡ true → holds ws i ≡ false

abbrev pub anywhere : ℕ → Bool
anywhere i = true

pub next_from : {ws : List ℕ} {lo d : ℕ} → LowestFrom ws lo d → Next ws anywhere lo d
next_from {ws} {lo} {d} p =
    record {
      fits = p.fits;
      low = λ l. (p.held l).0;
      its = λ l. refl;
      there = λ l. (p.held l).1;
      none = λ i a b c y. p.none i a b c;
    }

pub next_in :
    {ws : List ℕ} (first lo hi : ℕ) {d : ℕ} → first ≤ lo → LowestIn ws (λ (i : ℕ). between lo i hi) d →
    Next ws (λ (i : ℕ). between first i hi) lo d
next_in {ws} first lo hi {d} h p =
    record {
      fits = p.fits;
      low = λ l. (in_between lo d hi (p.held l).0).0;
      its =
          λ l.
          let z = in_between lo d hi (p.held l).0 in
          between_in first d hi (omega (arith, z.0)) z.1;
      there = λ l. (p.held l).1;
      none = λ i a b c y. p.none i a (between_in lo i hi b (in_between first i hi y).1) c;
    }

pub below_range : (lo hi i : ℕ) → i < lo → between lo i hi ≡ false
below_range lo hi i h = rw (lt-leb lo i h)

-- behind d the set ends, or its next is behind d
pub next_less : {ws : List ℕ} {y : ℕ → Bool} {d d' : ℕ} → d < GAPS → Next ws y (d + 1) d' → GAPS - d' < GAPS - d
next_less {ws} {y} {d} {d'} h n = ⊎_elim
    (λ (z : GAPS ≤ d'). omega arith)
    (λ (z : d' < GAPS). omega (arith, n.low z))
    (le_or GAPS d')

-- those below d are done, those from d on as before
pub record Passing (ws : List ℕ) (y z : ℕ → Bool) (old : List ℕ) (d : ℕ) (new : List ℕ) : Type 0 where
  pub fits : d ≤ GAPS
  pub its : d < GAPS → y d ≡ true
  pub there : d < GAPS → holds ws d ≡ true
  pub done : (i : ℕ) → i < GAPS → i < d → holds new i ≡ (holds old i || (holds ws i && (y i && z i)))
  pub rest : (i : ℕ) → i < GAPS → d ≤ i → holds new i ≡ holds old i

-- one that is not of the set, or not in the range
not_its :
    (ws : List ℕ) (y z : ℕ → Bool) (old : List ℕ) (i : ℕ) (new : Bool) → (y i ≡ true → holds ws i ≡ false) →
    new ≡ holds old i → new ≡ (holds old i || (holds ws i && (y i && z i)))
not_its ws y z old i new h e = e ∙ sym (⊎_elim
    (λ (t : y i ≡ true). rw (h t) (or_off (holds old i)))
    (λ (t : y i ≡ false). rw (t, and_off (holds ws i)) (or_off (holds old i)))
    (test (y i)))

module _ {ws : List ℕ} {y z : ℕ → Bool} {old : List ℕ} where
  pub pass_start : {lo d : ℕ} → ((i : ℕ) → i < lo → y i ≡ false) → Next ws y lo d → Passing ws y z old d old
  pass_start {lo} {d} out n =
      record {
        fits = n.fits;
        its = n.its;
        there = n.there;
        done =
            λ i a b.
            not_its ws y z old i (holds old i)
            (λ t. ⊎_elim
            (λ (k : lo ≤ i). n.none i a k b t)
            (λ (k : i < lo). never_both t (out i k))
            (le_or lo i))
            refl;
        rest = λ i a b. refl;
      }

  module _ {d : ℕ} {new : List ℕ} (l : d < GAPS) (p : Passing ws y z old d new) where
    pass_on :
        (d' : ℕ) (new' : List ℕ) → Next ws y (d + 1) d' →
        ((i : ℕ) → (i ≡ d → ⊥) → holds new' i ≡ holds new i) →
        holds new' d ≡ (holds old d || (holds ws d && (y d && z d))) →
        Passing ws y z old d' new'
    pass_on d' new' n other here =
        record {
          fits = n.fits;
          its = n.its;
          there = n.there;
          done =
              λ i a b. ⊎_elim
              (λ (k : d + 1 ≤ i).
              not_its ws y z old i (holds new' i) (λ t. n.none i a k b t)
              (other i (λ q. omega arith) ∙ p.rest i a (omega arith)))
              (λ (k : i < d + 1). upto i a k)
              (le_or (d + 1) i);
          rest =
              λ i a b.
              let above : d < i = far i a b in
              other i (λ q. omega arith) ∙ p.rest i a (omega arith);
        }
      where
        far : (i : ℕ) → i < GAPS → d' ≤ i → d < i
        far i a b = let q = n.low (omega arith) in omega arith

        upto : (i : ℕ) → i < GAPS → i < d + 1 → holds new' i ≡ (holds old i || (holds ws i && (y i && z i)))
        upto i a k = ⊎_elim
            (λ (q : i ≡ d). rw q here)
            (λ (q : i ≡ d → ⊥). other i q ∙ p.done i a (omega (arith, q)))
            (eq_or i d)

    -- one that passes the test is put, another is not
    pub pass_put :
        {d' : ℕ} {new' : List ℕ} → Next ws y (d + 1) d' → ((i : ℕ) → holds new' i ≡ (eqb i d || holds new i)) →
        z d ≡ true → Passing ws y z old d' new'
    pass_put {d'} {new'} n put t =
        pass_on d' new' n
        (λ i q. put i ∙ rw (ne_eqb i d q))
        (put d ∙ rw (eq-eqb d d refl, p.there l, p.its l, t) (sym (or_on (holds old d))))
      where
        or_on : (b : Bool) → (b || true) ≡ true
        or_on true = refl
        or_on false = refl

    pub pass_by : {d' : ℕ} → Next ws y (d + 1) d' → z d ≡ false → Passing ws y z old d' new
    pass_by {d'} n t =
        pass_on d' new n
        (λ i q. refl)
        (p.rest d l (omega arith) ∙ rw (p.there l, p.its l, t) (sym (or_off (holds old d))))

  pub pass_done :
      {d : ℕ} {new : List ℕ} → GAPS ≤ d → Passing ws y z old d new →
      (i : ℕ) → i < GAPS → holds new i ≡ (holds old i || (holds ws i && (y i && z i)))
  pass_done {d} {new} h p i l = p.done i l (omega arith)

-- a barrier from d + 1 to e, looked for
module _ {key : List ℕ} (d e : ℕ) {r : ℕ} (p : LowestIn key (λ (g : ℕ). between (d + 1) g e) r) where
  abbrev within : ℕ → Bool
  within g = ltb d g && leb g e

  pub barrier_inside : r < GAPS → some_in within (gaps_in key) ≡ true
  barrier_inside l =
      let h = p.held l in
      let z = in_between (d + 1) r e h.0 in
      in_some within (gaps_in key) r (in_gaps key r l ∙ h.1)
      (and_intro (lt-ltb d r (omega (arith, z.0))) (le-leb r e z.1))

  pub no_barrier : GAPS ≤ r → some_in within (gaps_in key) ≡ false
  no_barrier l = not_some within (gaps_in key) none
    where
      none : (g : ℕ) → is_in g (gaps_in key) ≡ true → within g ≡ true → ⊥
      none g m w = ⊎_elim
          (λ (q : GAPS ≤ g). never_both m (in_gaps_beyond key g q))
          (λ (q : g < GAPS).
          let z = and_true (ltb d g) (leb g e) w in
          let a = ltb-true d g z.0 in
          let b = leb-true g e z.1 in
          never_both (sym (in_gaps key g q) ∙ m) (p.none g q (between_in (d + 1) g e (omega arith) b) (omega arith)))
          (le_or GAPS g)
