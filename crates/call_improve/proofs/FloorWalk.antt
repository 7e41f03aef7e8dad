-- The floor as the code works it out, dependence by dependence: the gaps of those taken stand in words.
-- Main statements: `Flooring`, what a turn keeps; `floor_start`, `floor_shared`, `floor_fits`, `floor_taken`,
-- `floor_done`.
use mathlib.Core.Path.{◌≡◌, sym, ◌∙◌}
use mathlib.Core.Bool.{Bool, true, false, not}
use mathlib.Core.List.{List, [], ◌++◌}
use mathlib.Core.Logic.{⊎_elim}
use Prim.Native.Nat.{ℕ, suc, ◌+◌, ◌-◌, ◌*◌, ◌^◌, ◌≤◌, ◌<◌}
use native.Mathlib.Omega.{arith}
use lib.ListN.{length, get_or, drop, drop_of_length-le}
use Rattle.std.proofs.Common.{Option}
use Rattle.laws.specs.Choice.{pick, when, is_in}
use Rattle.laws.proofs.Tests.{le_or, bool_by, false_by, never_both}
use Rattle.paper_nests.specs.declared.Nest as DN
use Rattle.paper_nests.specs.Kinds.{DEPTH}
use Rattle.paper_nests.specs.Nests.{Dep, Nest}
use Rattle.paper_nests.specs.Gaps.{has_gap}
use Rattle.paper_nests.specs.Stored.{dep_in, nest_in}
use Rattle.paper_nests.proofs.Deps.{valid_is}
use Rattle.paper_placements.specs.Placements.{cuts}
use Rattle.paper_placements.specs.Answers.{is_cut, CutInSays}
use Rattle.paper_placements.specs.Words.{GAPS, holds, gaps_in}
use Rattle.paper_placements.proofs.Cuts.{CutBy, cut_has_gap, gap_cuts}
use Rattle.paper_placements.proofs.Words.{gaps_of_in, gaps_of_from, gaps_of_to, in_gaps}
use Rattle.paper_gaps.specs.Lies.{WithEnds, GapsPut}
use Rattle.paper_gaps.proofs.Lies.{gap_inside, dep_at, found_at, found_ends, found_fits}
use Rattle.run_barriers.specs.Calls.{TURNS}
use Rattle.run_count.specs.Times.{HasTimes}
use Rattle.call_gaps.specs.Says.{gaps_had}
use Rattle.call_improve.specs.Floor.{cheapest, floor_from, floor_of}
use Rattle.call_improve.specs.Cheapest.{CheapestIn, CheapestSays}
use Rattle.call_improve.specs.Steps.{FewTimes, FloorSays}
use Rattle.call_improve.proofs.FloorBelow.{in_append, cheapest_is}

-- ---- the gaps of a dependence

module _ (ps : List ℕ) (e : Dep) (inside : (g : ℕ) → has_gap ps e g ≡ true → (0 < g) × (g < length ps)) where
  -- the list has them all
  had_in : (g : ℕ) → g < length ps → is_in g (gaps_had ps e) ≡ has_gap ps e g
  had_in g l =
      ⊎_elim
      (λ (z : 1 ≤ g). gaps_of_in (has_gap ps e) (length ps - 1) 1 g z (omega arith))
      (λ (z : g < 1).
      gaps_of_from (has_gap ps e) (length ps - 1) 1 g z ∙
      sym (false_by (λ p. omega (arith, (inside g p).0))))
      (le_or 1 g)

  -- lists with the same of its gaps cut it alike
  cuts_same
      : (xs ys : List ℕ)
      → ((g : ℕ) → has_gap ps e g ≡ true → is_in g xs ≡ is_in g ys)
      → cuts ps e xs ≡ cuts ps e ys
  cuts_same xs ys h =
      bool_by (cuts ps e xs) (cuts ps e ys)
      (λ p. one xs ys (λ g q r. sym (h g q) ∙ r) (cut_has_gap ps e xs p))
      (λ p. one ys xs (λ g q r. h g q ∙ r) (cut_has_gap ps e ys p))
    where
      one
          : (us vs : List ℕ)
          → ((g : ℕ) → has_gap ps e g ≡ true → is_in g us ≡ true → is_in g vs ≡ true)
          → CutBy ps e us
          → cuts ps e vs ≡ true
      one us vs f c = gap_cuts ps e vs c.gap (f c.gap c.its c.placed) c.its

-- ---- the walk

-- the dependences before i are done: the gaps of those taken are told by the words, and the rest decides
pub record Flooring (n : Nest) (table : List ℕ) (i floor : ℕ) (ws : List ℕ) : Type 0 where
  pub within : i ≤ length n.deps
  pub few : floor ≤ i * TURNS ^ DEPTH
  pub taken : List ℕ
  pub same : (g : ℕ) → g < length n.points → is_in g taken ≡ holds ws g
  pub rest
      : (ts : List ℕ)
      → HasTimes n.points ts table
      → floor + floor_from n.points ts taken (drop i n.deps) ≡ floor_of n ts

pub floor_start : (n : Nest) (table ws : List ℕ) → ((g : ℕ) → holds ws g ≡ false) → Flooring n table 0 0 ws
floor_start n table ws h =
    record {
      within = omega arith;
      few = omega arith;
      taken = [];
      same = λ g l. sym (h g);
      rest = λ ts t. omega arith;
    }

module _
    {nest : DN.Nest} {ends table : List ℕ} (w : WithEnds nest ends) {i floor : ℕ} {ws : List ℕ}
    (f : Flooring (nest_in nest) table i floor ws)
  where
    abbrev n : Nest
    n = nest_in nest

    abbrev ps : List ℕ
    ps = n.points

    module _
        (there : i < nest.many) (r : Option ℕ)
        (says : CutInSays (get_or ends (dep_at nest i).d 0) (dep_at nest i) ws r)
      where
        abbrev e : Dep
        e = dep_in (dep_at nest i)

        inside : (g : ℕ) → has_gap ps e g ≡ true → (0 < g) × (g < length ps)
        inside g = gap_inside ps e g (valid_is n w.valid).shape (found_fits w there)

        short : length ps ≤ GAPS
        short = omega (arith, w.counted.count_is, w.counted.count_fits)

        -- it shares a gap with those taken exactly if the words cut it
        told : is_cut r ≡ cuts ps e f.taken
        told =
            (says ps (found_ends w there)).cut ∙
            cuts_same ps e inside (gaps_in ws) f.taken
            (λ g p.
            let l = (inside g p).1 in
            in_gaps ws g (omega (arith, l, short)) ∙ sym (f.same g l))

        -- the rest, with the dependence in front
        front
            : (ts : List ℕ) (t : Bool)
            → cuts ps e f.taken ≡ t
            → floor_from ps ts f.taken (drop i n.deps) ≡
            when (not t) (cheapest ps ts (gaps_had ps e)) +
            floor_from ps ts (pick t f.taken (gaps_had ps e ++ f.taken)) (drop (suc i) n.deps)
        unfolding floor_from
        front ts t h = rw (found_at w there, h)

        next : i + 1 ≡ suc i
        next = omega arith

        pub floor_shared : is_cut r ≡ true → Flooring n table (i + 1) floor ws
        floor_shared z =
            record {
              within = omega (arith, w.counted.many_is);
              few = omega (arith, f.few);
              taken = f.taken;
              same = f.same;
              rest = λ ts t. rw next (omega (arith, f.rest ts t, front ts true (sym told ∙ z)));
            }

        module _
            (fits : FewTimes nest.count table) (v : ℕ)
            (least : CheapestSays table (get_or ends (dep_at nest i).d 0) (dep_at nest i) v)
          where
            c : CheapestIn ps e table v
            c = least ps (found_ends w there)

            small : v ≤ TURNS ^ DEPTH
            small = omega (arith, c.is, fits c.at (omega (arith, (inside c.at c.its).1, w.counted.count_is)))

            pub floor_fits : floor + v < 2 ^ 64
            floor_fits = omega (arith, f.few, small, w.counted.many_fits)

            cheap : (ts : List ℕ) → HasTimes ps ts table → v ≡ cheapest ps ts (gaps_had ps e)
            cheap ts t =
                cheapest_is ps ts (gaps_had ps e) v c.at
                (had_in ps e inside c.at (inside c.at c.its).1 ∙ c.its)
                (c.is ∙ t c.at (inside c.at c.its).1)
                (λ g p.
                ⊎_elim
                (λ (l : suc g ≤ length ps).
                omega (arith, c.least g (sym (had_in ps e inside g l) ∙ p), t g l))
                (λ (l : length ps < suc g).
                never_both p
                (gaps_of_to (has_gap ps e) (length ps - 1) 1 g (omega (arith, (inside c.at c.its).1))))
                (le_or (suc g) (length ps)))

            pub floor_taken
                : is_cut r ≡ false
                → (vs : List ℕ)
                → GapsPut (get_or ends (dep_at nest i).d 0) (dep_at nest i) ws vs
                → Flooring n table (i + 1) (floor + v) vs
            floor_taken z vs put =
                record {
                  within = omega (arith, w.counted.many_is);
                  few = omega (arith, f.few, small);
                  taken = gaps_had ps e ++ f.taken;
                  same =
                      λ g l.
                      in_append g (gaps_had ps e) f.taken ∙
                      rw (had_in ps e inside g l, f.same g l) (sym (put ps (found_ends w there) g));
                  rest =
                      λ ts t.
                      rw next (omega (arith, f.rest ts t, front ts false (sym told ∙ z), cheap ts t));
                }

    pub floor_done : nest.many ≤ i → FloorSays n table floor
    unfolding floor_from
    floor_done h ts t =
        let z : drop i n.deps ≡ [] = drop_of_length-le n.deps {i = i} (omega (arith, w.counted.many_is)) in
        let y : floor_from ps ts f.taken (drop i n.deps) ≡ 0 = rw z in
        omega (arith, f.rest ts t)
