-- The barriers of a range, one after the other, each looked for behind the loop that covers the one before.
-- Main statements: `Covered`, what a turn keeps; `cover_start`, `cover_on`, `cover_bare`, `cover_done`; `step_on`.
use mathlib.Core.Path.{◌≡◌, refl}
use mathlib.Core.Bool.{Bool, true, false}
use mathlib.Core.List.{List}
use mathlib.Core.Logic.{◌⊎◌, inl, inr, ⊎_elim}
use Prim.Native.Nat.{ℕ, ◌+◌, ◌≤◌, ◌<◌}
use native.Mathlib.Omega.{arith}
use Rattle.laws.specs.Choice.{pick, between}
use Rattle.laws.specs.Entries.{at}
use Rattle.laws.proofs.Tests.{never_both, le_or}
use Rattle.laws.proofs.Ranges.{in_between, between_in}
use Rattle.paper_placements.specs.Words.{GAPS, holds, LowestFrom, LowestIn}
use Rattle.call_missing.specs.Covering.{is_apart, AreLoops, Cover, CoverSays}

-- the barriers before p are covered, the loops apart that begin before p end before it, and g is the next barrier
pub record Covered (ends ws key : List ℕ) (s t lo hi p g : ℕ) : Type 0 where
  pub from : lo ≤ p
  pub behind : (i : ℕ) → i < GAPS → holds key i ≡ true → lo ≤ i → i ≤ hi → i < p → Cover ends ws s t lo i
  pub ended :
      (d : ℕ) → d < GAPS → holds ws d ≡ true → is_apart d (at ends d) s t ≡ true → lo ≤ d → d < p → at ends d < p
  pub next : LowestIn key (λ (i : ℕ). between p i hi) g

module _ {ends ws key : List ℕ} {s t lo hi : ℕ} where
  pub cover_start : {g : ℕ} → LowestIn key (λ (i : ℕ). between lo i hi) g → Covered ends ws key s t lo hi lo g
  cover_start {g} n =
      record {
        from = omega arith;
        behind = λ i a b c d e. absurd (omega arith);
        ended = λ d a b c e f. absurd (omega arith);
        next = n;
      }

  pub cover_done : {p g : ℕ} → GAPS ≤ g → Covered ends ws key s t lo hi p g → CoverSays ends ws key s t lo hi true
  cover_done {p} {g} h c = record { covered = λ q. covered; bare = λ q. never_both refl q }
    where
      covered : (i : ℕ) → i < GAPS → holds key i ≡ true → lo ≤ i → i ≤ hi → Cover ends ws s t lo i
      covered i a b l m = ⊎_elim
          (λ (z : p ≤ i). never_both b (c.next.none i a (between_in p i hi z m) (omega arith)))
          (λ (z : i < p). c.behind i a b l m z)
          (le_or p i)

  module _
      (loops : AreLoops ends ws) {p g : ℕ} (h : g < GAPS) (c : Covered ends ws key s t lo hi p g) {d : ℕ}
      (f : LowestFrom ws p d)
    where
      here : (p ≤ g) × (g ≤ hi)
      here = in_between p g hi (c.next.held h).0

      -- no loop between the last one passed and the barrier
      pub cover_bare : g ≤ d → CoverSays ends ws key s t lo hi false
      cover_bare l =
          record {
            covered = λ q. never_both q refl;
            bare =
                λ q.
                record {
                  gap = g;
                  below = h;
                  placed = (c.next.held h).1;
                  from = omega (arith, c.from, here.0);
                  to = here.1;
                  no_cover = no_cover;
                };
          }
        where
          no_cover : Cover ends ws s t lo g → ⊥
          no_cover v = ⊎_elim
              (λ (z : p ≤ v.loop).
              never_both v.is_loop (f.none v.loop (omega (arith, v.before)) z (omega (arith, v.before))))
              (λ (z : v.loop < p).
              omega (
                arith,
                c.ended v.loop (omega (arith, v.before)) v.is_loop v.apart v.from z,
                v.reaches,
                here.0,
              ))
              (le_or p v.loop)

      module _ (l : d < g) where
        its : (p ≤ d) × (holds ws d ≡ true)
        its = f.held (omega arith)

        -- a loop that begins at or behind p, no later than d, is d
        first : (x : ℕ) → holds ws x ≡ true → p ≤ x → x ≤ d → x ≡ d
        first x w a b = ⊎_elim
            (λ (z : d ≤ x). omega arith)
            (λ (z : x < d). never_both w (f.none x (omega arith) a z))
            (le_or d x)

        -- no barrier between p and g
        none : (i : ℕ) → i < GAPS → holds key i ≡ true → p ≤ i → i ≤ hi → g ≤ i
        none i a b q r = ⊎_elim
            (λ (z : g ≤ i). z)
            (λ (z : i < g). never_both b (c.next.none i a (between_in p i hi q r) z))
            (le_or g i)

        -- behind a loop that is apart
        over :
            is_apart d (at ends d) s t ≡ true → (g' : ℕ) → LowestIn key (λ (i : ℕ). between (at ends d + 1) i hi) g' →
            Covered ends ws key s t lo hi (at ends d + 1) g'
        over q g' n =
            record {
              from = omega (arith, c.from, its.0, loops.behind d (omega arith) its.1);
              behind =
                  λ i a b u v w. ⊎_elim
                  (λ (z : p ≤ i). cover i (none i a b z v) w)
                  (λ (z : i < p). c.behind i a b u v z)
                  (le_or p i);
              ended = ended;
              next = n;
            }
          where
            cover : (i : ℕ) → g ≤ i → i < at ends d + 1 → Cover ends ws s t lo i
            cover i a b =
                record {
                  loop = d;
                  is_loop = its.1;
                  apart = q;
                  from = omega (arith, c.from, its.0);
                  before = omega arith;
                  reaches = omega arith;
                }

            ended :
                (x : ℕ) → x < GAPS → holds ws x ≡ true → is_apart x (at ends x) s t ≡ true → lo ≤ x →
                x < at ends d + 1 → at ends x < at ends d + 1
            ended x a b u v w = ⊎_elim
                (λ (z : p ≤ x). later z (le_or x d))
                (λ (z : x < p).
                omega (arith, c.ended x a b u v z, its.0, loops.behind d (omega arith) its.1))
                (le_or p x)
              where
                later : p ≤ x → (x ≤ d) ⊎ (d < x) → at ends x < at ends d + 1
                later z (inl y) = let e : x ≡ d = first x b z y in rw e (omega arith)
                later z (inr y) = omega (arith, loops.nested d x its.1 b y (omega arith) a)

        -- into a loop that is not
        into :
            is_apart d (at ends d) s t ≡ false → (g' : ℕ) → LowestIn key (λ (i : ℕ). between (d + 1) i hi) g' →
            Covered ends ws key s t lo hi (d + 1) g'
        into q g' n =
            record {
              from = omega (arith, c.from, its.0);
              behind =
                  λ i a b u v w. ⊎_elim
                  (λ (z : p ≤ i). absurd (omega (arith, none i a b z v)))
                  (λ (z : i < p). c.behind i a b u v z)
                  (le_or p i);
              ended =
                  λ x a b u v w. ⊎_elim
                  (λ (z : p ≤ x).
                  let e : x ≡ d = first x b z (omega arith) in
                  let r : is_apart d (at ends d) s t ≡ true = rw e at u in
                  never_both r q)
                  (λ (z : x < p). omega (arith, c.ended x a b u v z, its.0))
                  (le_or p x);
              next = n;
            }

        -- either way the search goes on behind p
        pub cover_on :
            {p' g' : ℕ} → p' ≡ pick (is_apart d (at ends d) s t) (at ends d + 1) (d + 1) →
            LowestIn key (λ (i : ℕ). between p' i hi) g' → Covered ends ws key s t lo hi p' g'
        cover_on {p'} {g'} e n = go (is_apart d (at ends d) s t) refl e
          where
            go :
                (b : Bool) → is_apart d (at ends d) s t ≡ b → p' ≡ pick b (at ends d + 1) (d + 1) →
                Covered ends ws key s t lo hi p' g'
            go true q r = rw r (over q g' (rw r at n))
            go false q r = rw r (into q g' (rw r at n))

        pub step_on : {p' : ℕ} → p' ≡ pick (is_apart d (at ends d) s t) (at ends d + 1) (d + 1) → p < p'
        step_on {p'} e = go (is_apart d (at ends d) s t) e
          where
            go : (b : Bool) → p' ≡ pick b (at ends d + 1) (d + 1) → p < p'
            go true r = omega (arith, its.0, loops.behind d (omega arith) its.1)
            go false r = omega (arith, its.0)
