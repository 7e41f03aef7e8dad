-- The turns of a try, over the code's words.
-- Main statements: `turn_start`, `turn_cut`, `turn_up`, `turn_kept`, `turn_sum`, `turn_next`, `turn_done`.
use mathlib.Core.Path.{◌≡◌, sym, ap, ◌∙◌}
use mathlib.Core.Bool.{true, false, ◌||◌}
use mathlib.Core.List.{List, [], ◌∷◌}
use mathlib.Core.Logic.{⊎_elim}
use Prim.Native.Nat.{ℕ, suc, ◌+◌, ◌^◌, ◌≤◌, ◌<◌}
use native.Mathlib.Omega.{arith}
use lib.Dec.{eqb}
use lib.ListN.{length, get_or}
use Rattle.std.proofs.Common.{Option}
use Rattle.laws.specs.Choice.{is_in}
use Rattle.laws.proofs.Tests.{le_or}
use Rattle.paper_nests.specs.declared.Nest as DN
use Rattle.paper_nests.specs.Nests.{Dep, Nest}
use Rattle.paper_nests.specs.Stored.{dep_in, nest_in}
use Rattle.paper_placements.specs.Placements.{cuts}
use Rattle.paper_placements.specs.Answers.{is_cut, CutInSays}
use Rattle.paper_placements.specs.Words.{GAPS, holds, gaps_in}
use Rattle.paper_placements.specs.GapLists.{with_gap}
use Rattle.paper_placements.proofs.Cuts.{AllCut, uncut_none}
use Rattle.paper_placements.proofs.Words.{in_gaps, gaps_none}
use Rattle.paper_gaps.specs.Lies.{WithEnds}
use Rattle.paper_gaps.proofs.Lies.{dep_at, found_at, found_ends}
use Rattle.desk_sitting.proofs.Words.{gaps_with}
use Rattle.run_count.specs.Times.{sum_in}
use Rattle.run_count.proofs.Summing.{calls_with}
use Rattle.call_improve.specs.declared.Current as DU
use Rattle.call_improve.specs.declared.Try as DT
use Rattle.call_improve.specs.Tries.{try_at}
use Rattle.call_improve.specs.Tops.{top_at, NextOf}
use Rattle.call_improve.specs.Steps.{TryAsks, TrySays}
use Rattle.call_improve.proofs.Trying.{Trying, Trying-start, trying_cut, kept_new, kept_gaps, trying_kept}
use Rattle.call_improve.proofs.Trying.{trying_next, trying_done}

module _
    {nest : DN.Nest} {ends : List ℕ} {current : DU.Current} {table : List ℕ} {g : ℕ} (w : WithEnds nest ends)
    (a : TryAsks nest current table g)
  where
    abbrev n : Nest
    n = nest_in nest

    abbrev x : List ℕ
    x = gaps_in current.placement.words

    cut : AllCut n.points n.deps x
    cut = uncut_none n x a.all_cut

    pub gap_below : g < GAPS
    gap_below = omega (arith, a.inside, w.counted.count_fits)

    free : is_in g x ≡ false
    free = in_gaps current.placement.words g gap_below ∙ a.free

    inside : g < length n.points
    inside = omega (arith, a.inside, w.counted.count_is)

    -- the new barrier alone
    pub turn_start
        : (none ws : List ℕ)
        → ((i : ℕ) → holds none i ≡ false)
        → ((i : ℕ) → holds ws i ≡ (eqb i g || holds none i))
        → Trying n x g table 0 nest.many (gaps_in ws) (get_or table g 0)
    turn_start none ws p q =
        let z : gaps_in none ≡ [] = gaps_none none (λ i l. p i) in
        let e : gaps_in ws ≡ g ∷ [] = gaps_with none ws g gap_below q (p g) ∙ rw z in
        rw e (Trying-start n x a.gaps_fit cut g free a.some inside table nest.many w.counted.many_is)

    module _
        (ws : List ℕ) {h i calls : ℕ} (t : Trying n x g table h i (gaps_in ws) calls)
      where
        pub turn_below : h < GAPS
        turn_below = omega (arith, t.inside, w.counted.count_is, w.counted.count_fits)

        -- ---- in a chain

        module _ (there : i < nest.many) where
          abbrev e : Dep
          e = dep_in (dep_at nest i)

          next : NextOf (top_at n.points n.deps x) (length n.deps) (suc i)
              (top_at n.points n.deps x i)
              (get_or current.next i 0)
          next = a.chained.goes-on i (omega (arith, w.counted.many_is))

          -- on to the next: up, and within the dependences
          pub turn_up : (i < get_or current.next i 0) × (get_or current.next i 0 ≤ 512)
          turn_up = (up, omega (arith, next.fits, w.counted.many_is, w.counted.many_fits))
            where
              up : i < get_or current.next i 0
              up =
                  ⊎_elim
                  (λ (z : suc (get_or current.next i 0) ≤ length n.deps). (next.found z).0)
                  (λ (z : length n.deps < suc (get_or current.next i 0)). omega (arith, w.counted.many_is))
                  (le_or (suc (get_or current.next i 0)) (length n.deps))

          module _ (r : Option ℕ) (says : CutInSays (get_or ends (dep_at nest i).d 0) (dep_at nest i) ws r) where
            told : is_cut r ≡ cuts n.points e (gaps_in ws)
            told = (says n.points (found_ends w there)).cut

            pub turn_cut
                : is_cut r ≡ true
                → Trying n x g table h (get_or current.next i 0) (gaps_in ws) calls
            turn_cut z =
                trying_cut n x a.gaps_fit cut g free a.some inside t e (found_at w there)
                (get_or current.next i 0)
                next
                (sym told ∙ z)

            module _ (z : is_cut r ≡ false) where
              miss : cuts n.points e (gaps_in ws) ≡ false
              miss = sym told ∙ z

              fresh : holds ws h ≡ false
              fresh =
                  sym (in_gaps ws h turn_below) ∙
                  kept_new n x a.gaps_fit cut g free a.some inside t e (found_at w there) miss

              pub turn_sum : calls + get_or table h 0 < 2 ^ 64
              turn_sum =
                  let s : sum_in table (with_gap h (gaps_in ws)) < 2 ^ 64 =
                  a.calls_fit (with_gap h (gaps_in ws))
                  (rw w.counted.count_is
                  (kept_gaps n x a.gaps_fit cut g free a.some inside t e (found_at w there) miss)) in
                  omega (arith, t.calls_are, calls_with table h (gaps_in ws))

              pub turn_kept
                  : (vs : List ℕ)
                  → ((k : ℕ) → holds vs k ≡ (eqb k h || holds ws k))
                  → Trying n x g table h nest.many (gaps_in vs) (calls + get_or table h 0)
              turn_kept vs p =
                  rw (gaps_with ws vs h turn_below p fresh)
                  (trying_kept n x a.gaps_fit cut g free a.some inside t e (found_at w there) miss nest.many
                  w.counted.many_is)

        -- ---- at a chain's end

        module _ (ended : nest.many ≤ i) where
          pub turn_next
              : h + 1 < nest.count
              → Trying n x g table (h + 1) (get_or current.first (h + 1) 0) (gaps_in ws) calls
          turn_next l =
              trying_next n x a.gaps_fit cut g free a.some inside t (omega (arith, w.counted.many_is))
              (get_or current.first (h + 1) 0)
              (omega (arith, w.counted.count_is))
              (a.chained.starts (h + 1) (omega (arith, w.counted.count_fits)))

          pub turn_done
              : (r : DT.Try)
              → gaps_in r.placement.words ≡ gaps_in ws
              → r.calls ≡ calls
              → nest.count ≤ h + 1
              → TrySays n x table g r
          turn_done r p q l =
              let e : gaps_in ws ≡ try_at n x g =
              trying_done n x a.gaps_fit cut g free a.some inside t (omega (arith, w.counted.many_is))
              (omega (arith, w.counted.count_is)) in
              record { gaps_are = p ∙ e; calls_are = q ∙ t.calls_are ∙ ap (sum_in table) e }
