-- The chains, made from the last dependence to the first: each goes in front of the chain of its highest barrier.
-- Main statements: `Chaining`, what a turn keeps; `chain_start`, `chain_on`; `top_told`, `top_low`, `told_low`.
use mathlib.Core.Path.{◌≡◌, refl, sym, ◌∙◌}
use mathlib.Core.Bool.{true}
use mathlib.Core.List.{List}
use mathlib.Core.Logic.{⊎_elim}
use Prim.Native.Nat.{ℕ, suc, ◌-◌, ◌≤◌, ◌<◌}
use native.Mathlib.Omega.{arith}
use lib.ListN.{length, get_or, drop, set, length-set}
use lib.Seq.{get_or-set_same, get_or-set_other}
use Rattle.laws.proofs.Tests.{le_or, eq_or}
use Rattle.paper_nests.specs.Kinds.{POINTS, DEPENDENCES}
use Rattle.paper_nests.specs.Nests.{Nest}
use Rattle.paper_nests.specs.declared.Nest as DN
use Rattle.paper_nests.specs.Nests.{Dep}
use Rattle.paper_nests.specs.Stored.{dep_in, nest_in}
use Rattle.paper_nests.proofs.Deps.{valid_is}
use Rattle.paper_placements.specs.Placements.{cuts, uncut, are_gaps}
use Rattle.paper_placements.specs.Words.{gaps_in}
use Rattle.paper_placements.proofs.Cuts.{uncut_none}
use Rattle.paper_placements.proofs.Rising.{rising_in}
use Rattle.paper_gaps.specs.Lies.{WithEnds}
use Rattle.paper_gaps.proofs.Lies.{dep_at, found_at, found_among, found_ends}
use Rattle.call_improve.specs.Places.{HasLatest}
use Rattle.call_improve.specs.Tops.{top_of, top_at, HighestSays, NextOf}
use Rattle.call_improve.proofs.TopLaws.{top_there, top-at}

-- from i on the dependences are chained
pub record Chaining (n : Nest) (x : List ℕ) (i : ℕ) (first next : List ℕ) : Type 0 where
  pub within : i ≤ length n.deps
  pub long_first : length first ≡ POINTS
  pub long_next : length next ≡ DEPENDENCES
  pub starts
      : (h : ℕ)
      → h < POINTS
      → NextOf (top_at n.points n.deps x) (length n.deps) i h (get_or first h 0)
  pub goes-on
      : (j : ℕ)
      → i ≤ j
      → j < length n.deps
      → NextOf (top_at n.points n.deps x) (length n.deps) (suc j) (top_at n.points n.deps x j)
      (get_or next j 0)

module _ (n : Nest) (x : List ℕ) where
  pub chain_start
      : (i : ℕ) (first next : List ℕ)
      → i ≡ length n.deps
      → length first ≡ POINTS
      → length next ≡ DEPENDENCES
      → ((h : ℕ) → h < POINTS → get_or first h 0 ≡ i)
      → Chaining n x i first next
  chain_start i first next e l m f =
      record {
        within = omega arith;
        long_first = l;
        long_next = m;
        starts =
            λ h p.
            rw (f h p)
            (record {
              fits = omega arith;
              found = λ z. absurd (omega arith);
              none = λ j a b. absurd (omega arith);
            });
        goes-on = λ j a b. absurd (omega arith);
      }

module _ {n : Nest} {x : List ℕ} {i : ℕ} {first next : List ℕ} (c : Chaining n x i first next) where
  abbrev top : ℕ → ℕ
  top = top_at n.points n.deps x

  abbrev many : ℕ
  many = length n.deps

  -- the dependence before i
  module _ (some : 0 < i) (few : many ≤ DEPENDENCES) (low : top (i - 1) < POINTS) where
    h : ℕ
    h = top (i - 1)

    inside : i - 1 < many
    inside = omega (arith, c.within)

    -- another chain begins where it did
    same : (k r : ℕ) → (top (i - 1) ≡ k → ⊥) → NextOf top many i k r → NextOf top many (i - 1) k r
    same k r q w =
        record {
          fits = w.fits;
          found = λ z. let f = w.found z in (omega (arith, f.0), f.1);
          none =
              λ j a b.
              ⊎_elim
              (λ (z : i ≤ j). w.none j z b)
              (λ (z : j < i). let y : j ≡ i - 1 = omega arith in rw y q)
              (le_or i j);
        }

    pub chain_on
        : Chaining n x (i - 1) (set first (top (i - 1)) (i - 1))
        (set next (i - 1) (get_or first (top (i - 1)) 0))
    chain_on =
        record {
          within = omega (arith, inside);
          long_first = length-set first (top (i - 1)) (i - 1) ∙ c.long_first;
          long_next = length-set next (i - 1) (get_or first (top (i - 1)) 0) ∙ c.long_next;
          starts = starts;
          goes-on = goes-on;
        }
      where
        starts : (k : ℕ) → k < POINTS → NextOf top many (i - 1) k (get_or (set first (top (i - 1)) (i - 1)) k 0)
        starts k p =
            ⊎_elim
            (λ (z : top (i - 1) ≡ k).
            rw (← z, get_or-set_same first (top (i - 1)) (i - 1) 0 (omega (arith, c.long_first)))
            (record {
              fits = omega (arith, inside);
              found = λ y. (omega arith, refl);
              none = λ j a b. absurd (omega arith);
            }))
            (λ (z : top (i - 1) ≡ k → ⊥).
            rw (get_or-set_other first (top (i - 1)) k (i - 1) 0 (λ y. z (sym y)))
            (same k (get_or first k 0) z (c.starts k p)))
            (eq_or (top (i - 1)) k)

        goes-on
            : (j : ℕ)
            → i - 1 ≤ j
            → j < many
            → NextOf top many (suc j) (top j) (get_or (set next (i - 1) (get_or first (top (i - 1)) 0)) j 0)
        goes-on j a b =
            ⊎_elim
            (λ (z : i ≤ j).
            rw (get_or-set_other next (i - 1) j (get_or first (top (i - 1)) 0) 0 (λ y. omega arith)) (c.goes-on j z b))
            (λ (z : j < i).
            let y : j ≡ i - 1 = omega arith in
            let u : suc (i - 1) ≡ i = omega arith in
            rw (y, u, get_or-set_same next (i - 1) (get_or first (top (i - 1)) 0) 0 (omega (arith, c.long_next, inside)))
            (c.starts (top (i - 1)) low))
            (le_or i j)

-- ---- the highest barrier of dependence i, as the code works it out

module _
    {nest : DN.Nest} {ends : List ℕ} (w : WithEnds nest ends) (ws : List ℕ)
    (gaps : are_gaps (nest_in nest) (gaps_in ws) ≡ true) (cut : uncut (nest_in nest) (gaps_in ws) ≡ 0) {i : ℕ}
    (there : i < nest.many)
  where
    abbrev e : Dep
    e = dep_in (dep_at nest i)

    is-cut : cuts (nest_in nest).points e (gaps_in ws) ≡ true
    is-cut = uncut_none (nest_in nest) (gaps_in ws) cut e (found_among w there)

    at : top_at (nest_in nest).points (nest_in nest).deps (gaps_in ws) i ≡ top_of (nest_in nest).points e (gaps_in ws)
    at =
        top-at (nest_in nest).points (nest_in nest).deps (gaps_in ws) i e (drop (suc i) (nest_in nest).deps)
        (found_at w there)

    pub top_told
        : (table : List ℕ) (r : ℕ)
        → HasLatest ws table
        → HighestSays table (get_or ends (dep_at nest i).d 0) (dep_at nest i) r
        → r ≡ top_at (nest_in nest).points (nest_in nest).deps (gaps_in ws) i
    top_told table r has says = says (nest_in nest).points ws has (found_ends w there) gaps is-cut ∙ sym at

    pub top_low : top_at (nest_in nest).points (nest_in nest).deps (gaps_in ws) i < POINTS
    top_low =
        let ps = (nest_in nest).points in
        let t = top_there ps e (length ps) (gaps_in ws) gaps is-cut in
        omega (
          arith,
          at,
          (rising_in 0 (length ps) (gaps_in ws) (top_of ps e (gaps_in ws)) gaps t.placed).1,
          (valid_is (nest_in nest) w.valid).few_points,
        )

    pub told_low
        : (table : List ℕ) (r : ℕ)
        → HasLatest ws table
        → HighestSays table (get_or ends (dep_at nest i).d 0) (dep_at nest i) r
        → r < POINTS
    told_low table r has says = omega (arith, top_told table r has says, top_low)
