-- The rounds as the code makes them: what is left to try gives what the rule gives.
-- Main statements: `with_ends`, `turns_asked`, `few_times`, `calls_fit`; `Searching`, what a turn keeps;
-- `search_start`, `search_asks`, `try_sound`, `search_taken`, `search_kept`, `search_budget`, `search_round`.
use mathlib.Core.Path.{◌≡◌, refl, sym, ap, ◌∙◌}
use mathlib.Core.Bool.{Bool, true, false, not}
use mathlib.Core.List.{List, [], ◌∷◌}
use Prim.Native.Nat.{ℕ, zero, suc, ◌+◌, ◌-◌, ◌≤◌, ◌<◌}
use native.Mathlib.Omega.{arith}
use lib.Dec.{ltb}
use lib.ListN.{length}
use borrow.Author.Tests.{lt-ltb, le-ltb}
use Rattle.laws.specs.Choice.{pick, is_in}
use Rattle.paper_nests.specs.declared.Nest as DN
use Rattle.paper_nests.specs.Nests.{Nest}
use Rattle.paper_nests.specs.Kinds.{POINTS}
use Rattle.paper_nests.specs.Loops.{HasEnds}
use Rattle.paper_nests.specs.Valid.{is_shape}
use Rattle.paper_nests.specs.Stored.{nest_in}
use Rattle.paper_nests.proofs.Deps.{valid_is}
use Rattle.paper_placements.specs.declared.Placement as DP
use Rattle.paper_placements.specs.Placements.{uncut, are_gaps}
use Rattle.paper_placements.specs.Words.{GAPS, holds, gaps_of, gaps_in}
use Rattle.paper_placements.proofs.Cuts.{AllCut, uncut_none, none_uncut}
use Rattle.paper_placements.proofs.Words.{gaps_of_add, gaps_of_none, in_gaps}
use Rattle.paper_gaps.specs.Lies.{WithEnds}
use Rattle.run_barriers.specs.Calls.{OUTER, fit_in, calls_of}
use Rattle.run_barriers.proofs.Turns.{fit_lower, turns_most}
use Rattle.run_barriers.proofs.Sizes.{FewTurns, times_most, calls_within}
use Rattle.run_count.specs.Times.{HasTimes, sum_in}
use Rattle.run_count.proofs.Summing.{calls_told}
use Rattle.call_improve.specs.declared.Improved as DI
use Rattle.call_improve.specs.declared.Current as DU
use Rattle.call_improve.specs.declared.Try as DT
use Rattle.call_improve.specs.Places.{FreeFrom}
use Rattle.call_improve.specs.Tops.{Chained}
use Rattle.call_improve.specs.Tries.{free_of, try_at}
use Rattle.call_improve.specs.Rounds.{outcome, go, improved_of}
use Rattle.call_improve.specs.Says.{ROUND, BUDGET, reply_in, found_of}
use Rattle.call_improve.specs.Steps.{SearchAsks, SearchSays, reached, CurrentSays, TryAsks, TrySays, CallsFit}
use Rattle.call_improve.specs.Steps.{FewTimes, FloorSays}
use Rattle.call_improve.proofs.Trimmed.{try_gaps, try_trimmed}

-- ---- what is asked, for the tables

module _ {nest : DN.Nest} {key : DP.Placement} {ts : List ℕ} (a : SearchAsks nest key ts) where
  abbrev n : Nest
  n = nest_in nest

  pub with_ends : (ends : List ℕ) → HasEnds n.points ends → WithEnds nest ends
  with_ends ends h = record { counted = a.counted; valid = a.valid; ends_are = h }

  -- a nest has gaps
  pub turns_asked : ((is_shape n.points ≡ true) × (length n.points ≤ POINTS)) × (fit_in 0 0 n.points ts ≡ true)
  turns_asked =
      let v = valid_is n a.valid in
      ((v.shape, v.few_points), fit_lower OUTER OUTER n.points ts a.turns-fit)

  few_turns : FewTurns n.points ts
  few_turns = turns_most OUTER OUTER n.points ts a.turns-fit

  module _ (table : List ℕ) (has : HasTimes n.points ts table) where
    pub few_times : FewTimes nest.count table
    few_times g l =
        let i : g < length n.points = omega (arith, a.counted.count_is) in
        omega (
          arith,
          has g i,
          times_most n.points (valid_is n a.valid).shape ts few_turns g i,
        )

    pub calls_fit : CallsFit nest.count table
    calls_fit gs h =
        let r : are_gaps n gs ≡ true = rw a.counted.count_is at h in
        omega (
          arith,
          calls_told n.points ts table has gs r,
          calls_within n a.valid ts few_turns gs r,
        )

-- ---- gaps still to be tried

-- the gaps from g on without a barrier
abbrev free_from : Nest → List ℕ → ℕ → List ℕ
free_from n x g = gaps_of (λ i. not (is_in i x)) (length n.points - g) g

module _ (n : Nest) (ws : List ℕ) (short : length n.points ≤ GAPS) where
  -- those with a barrier are passed
  free_skip
      : (lo r : ℕ)
      → FreeFrom ws lo (length n.points) r
      → free_from n (gaps_in ws) lo ≡ free_from n (gaps_in ws) r
  free_skip lo r f =
      let z : length n.points - lo ≡ (r - lo) + (length n.points - r) = omega (arith, f.low, f.fits) in
      let y : lo + (r - lo) ≡ r = omega (arith, f.low) in
      let w : gaps_of (λ i. not (is_in i (gaps_in ws))) (r - lo) lo ≡ [] =
      gaps_of_none (λ i. not (is_in i (gaps_in ws))) (r - lo) lo (λ i p q. passed i p (omega (arith, f.low))) in
      rw (z, gaps_of_add (λ i. not (is_in i (gaps_in ws))) (r - lo) (length n.points - r) lo, w, y)
    where
      passed : (i : ℕ) → lo ≤ i → i < r → not (is_in i (gaps_in ws)) ≡ false
      passed i p q = ap not (in_gaps ws i (omega (arith, f.fits)) ∙ f.held i p q)

  -- one without a barrier stands in front
  free_front
      : (g : ℕ)
      → g < length n.points
      → holds ws g ≡ false
      → free_from n (gaps_in ws) g ≡ g ∷ free_from n (gaps_in ws) (g + 1)
  unfolding gaps_of
  free_front g l h =
      let z : length n.points - g ≡ suc (length n.points - (g + 1)) = omega arith in
      let y : g + 1 ≡ suc g = omega arith in
      let f : is_in g (gaps_in ws) ≡ false = in_gaps ws g (omega arith) ∙ h in
      rw (z, y, f)

  free_none : (g : ℕ) → length n.points ≤ g → free_from n (gaps_in ws) g ≡ []
  unfolding gaps_of
  free_none g l =
      let z : length n.points - g ≡ 0 = omega arith in
      rw z

-- where no gap is left to try, the round is whole
go_none : (n : Nest) (ts : List ℕ) (b : ℕ) (x : List ℕ) (k : ℕ) → go n ts b x [] k ≡ outcome x k true
unfolding go
go_none n ts zero x k = refl
go_none n ts (suc b) x k = refl

-- a try, by whether it has fewer calls
go_step
    : (n : Nest) (ts : List ℕ) (b : ℕ) (x : List ℕ) (g : ℕ) (gs : List ℕ) (k : ℕ) (t : Bool)
    → ltb (calls_of n ts (try_at n x g)) (calls_of n ts x) ≡ t
    → go n ts (suc b) x (g ∷ gs) k ≡
    go n ts b (pick t (try_at n x g) x) (pick t (free_of n (try_at n x g)) gs) (suc k)
unfolding go
go_step n ts b x g gs k t e =
    ap (λ (u : Bool). go n ts b (pick u (try_at n x g) x) (pick u (free_of n (try_at n x g)) gs) (suc k)) e

-- ---- the rounds

-- with the gaps from g on still to be tried, the rest of the budget leads to what the rule gives
pub record Searching
    (nest : DN.Nest) (ts key : List ℕ) (budget : ℕ) (current : DU.Current) (tries g : ℕ)
    : Type 0 where
  pub gaps_fit : are_gaps (nest_in nest) (gaps_in current.placement.words) ≡ true
  pub all_cut : uncut (nest_in nest) (gaps_in current.placement.words) ≡ 0
  pub chained : Chained (nest_in nest) (gaps_in current.placement.words) current.first current.next
  pub calls_are : current.calls ≡ calls_of (nest_in nest) ts (gaps_in current.placement.words)
  pub used : tries ≤ budget
  pub some : 0 < g
  pub within : g ≤ nest.count
  pub free : g < nest.count → holds current.placement.words g ≡ false
  pub rest
      : go (nest_in nest) ts (budget - tries) (gaps_in current.placement.words)
      (free_from (nest_in nest) (gaps_in current.placement.words) g)
      tries
      ≡ improved_of (nest_in nest) ts key budget

module _
    {nest : DN.Nest} {key : DP.Placement} {ts : List ℕ} (a : SearchAsks nest key ts) (table : List ℕ)
    (has : HasTimes (nest_in nest).points ts table) (budget : ℕ)
  where
    count_is : nest.count ≡ length (nest_in nest).points
    count_is = a.counted.count_is

    short : length (nest_in nest).points ≤ GAPS
    short = omega (arith, count_is, a.counted.count_fits)

    -- of words that rise and cut every dependence, the round begins
    begun
        : (current : DU.Current) (p : DP.Placement) (calls tries g : ℕ)
        → are_gaps (nest_in nest) (gaps_in p.words) ≡ true
        → uncut (nest_in nest) (gaps_in p.words) ≡ 0
        → calls ≡ calls_of (nest_in nest) ts (gaps_in p.words)
        → CurrentSays (nest_in nest) p calls current
        → tries ≤ budget
        → go (nest_in nest) ts (budget - tries) (gaps_in p.words) (free_of (nest_in nest) (gaps_in p.words)) tries
        ≡ improved_of (nest_in nest) ts (gaps_in key.words) budget
        → FreeFrom p.words 1 nest.count g
        → Searching nest ts (gaps_in key.words) budget current tries g
    begun current p calls tries g rise cut sum says used rest f =
        let ws : current.placement.words ≡ p.words = ap (λ (q : DP.Placement). q.words) says.placement_is in
        let skip = free_skip (nest_in nest) p.words short 1 g (rw count_is at f) in
        record {
          gaps_fit = rw ws rise;
          all_cut = rw ws cut;
          chained = says.chained;
          calls_are = says.calls_are ∙ rw ws sum;
          used = used;
          some = omega (arith, f.low);
          within = f.fits;
          free = λ l. rw ws (f.free l);
          rest = rw (ws, ← skip) rest;
        }

    pub search_start
        : (current : DU.Current) (calls g : ℕ)
        → calls ≡ sum_in table (gaps_in key.words)
        → CurrentSays (nest_in nest) key calls current
        → FreeFrom key.words 1 nest.count g
        → Searching nest ts (gaps_in key.words) budget current 0 g
    search_start current calls g sum says f =
        let z : budget - 0 ≡ budget = omega arith in
        begun current key calls 0 g a.gaps_fit a.all_cut
        (sum ∙ calls_told (nest_in nest).points ts table has (gaps_in key.words) a.gaps_fit)
        says
        (omega arith)
        (rw z)
        f

    module _
        {current : DU.Current} {tries g : ℕ} (s : Searching nest ts (gaps_in key.words) budget current tries g)
      where
        abbrev x : List ℕ
        x = gaps_in current.placement.words

        -- what is reached
        ended
            : (w : Bool) (floor : ℕ) (r : DI.Improved)
            → FloorSays (nest_in nest) table floor
            → reply_in r ≡ reached current tries (pick w ROUND BUDGET) floor
            → outcome x tries w ≡ improved_of (nest_in nest) ts (gaps_in key.words) budget
            → SearchSays (nest_in nest) ts (gaps_in key.words) budget r
        ended w floor r low is all =
            let found
            : reached current tries (pick w ROUND BUDGET) floor ≡ found_of (nest_in nest) ts (outcome x tries w) =
            cc (s.calls_are, low ts has) in
            is ∙ found ∙ ap (found_of (nest_in nest) ts) all

        -- ---- a try

        module _ (more : g < nest.count) where
          pub search_asks : TryAsks nest current table g
          search_asks =
              record {
                gaps_fit = s.gaps_fit;
                all_cut = s.all_cut;
                chained = s.chained;
                free = s.free more;
                some = s.some;
                inside = more;
                calls_fit = calls_fit a table has;
              }

          inside : g < length (nest_in nest).points
          inside = omega (arith, count_is)

          lacks : is_in g x ≡ false
          lacks = in_gaps current.placement.words g (omega (arith, inside, short)) ∙ s.free more

          cut : AllCut (nest_in nest).points (nest_in nest).deps x
          cut = uncut_none (nest_in nest) x s.all_cut

          tried_gaps : are_gaps (nest_in nest) (try_at (nest_in nest) x g) ≡ true
          tried_gaps = try_gaps (nest_in nest) x g s.gaps_fit cut lacks s.some inside

          tried_cut : uncut (nest_in nest) (try_at (nest_in nest) x g) ≡ 0
          tried_cut =
              none_uncut (nest_in nest) (try_at (nest_in nest) x g)
              (try_trimmed (nest_in nest) x g s.gaps_fit cut lacks s.some inside).cut

          module _ (t : DT.Try) (says : TrySays (nest_in nest) x table g t) where
            pub try_sound
                : (are_gaps (nest_in nest) (gaps_in t.placement.words) ≡ true) ×
                (uncut (nest_in nest) (gaps_in t.placement.words) ≡ 0)
            try_sound = (rw says.gaps_are tried_gaps, rw says.gaps_are tried_cut)

            tried_calls : t.calls ≡ calls_of (nest_in nest) ts (try_at (nest_in nest) x g)
            tried_calls = says.calls_are ∙ calls_told (nest_in nest).points ts table has (try_at (nest_in nest) x g) tried_gaps

            -- what is left after this try
            left
                : (b : Bool)
                → (tries ≡ budget → ⊥)
                → ltb (calls_of (nest_in nest) ts (try_at (nest_in nest) x g)) (calls_of (nest_in nest) ts x) ≡ b
                → go (nest_in nest) ts (budget - (tries + 1)) (pick b (try_at (nest_in nest) x g) x)
                (pick b (free_of (nest_in nest) (try_at (nest_in nest) x g)) (free_from (nest_in nest) x (g + 1)))
                (tries + 1)
                ≡ improved_of (nest_in nest) ts (gaps_in key.words) budget
            left b unused e =
                let z : budget - tries ≡ suc (budget - suc tries) = omega (arith, s.used, unused) in
                let y : tries + 1 ≡ suc tries = omega arith in
                let f = free_front (nest_in nest) current.placement.words short g inside (s.free more) in
                let step =
                go_step (nest_in nest) ts (budget - suc tries) x g (free_from (nest_in nest) x (g + 1)) tries b e in
                rw y (sym step ∙ (rw (z, f) at s.rest))

            -- fewer calls: it is taken, and the round begins anew
            pub search_taken
                : (next : DU.Current) (r : ℕ)
                → (tries ≡ budget → ⊥)
                → t.calls < current.calls
                → CurrentSays (nest_in nest) t.placement t.calls next
                → FreeFrom t.placement.words 1 nest.count r
                → Searching nest ts (gaps_in key.words) budget next (tries + 1) r
            search_taken next r unused fewer same f =
                let e : ltb (calls_of (nest_in nest) ts (try_at (nest_in nest) x g)) (calls_of (nest_in nest) ts x) ≡ true =
                lt-ltb (calls_of (nest_in nest) ts (try_at (nest_in nest) x g)) (calls_of (nest_in nest) ts x)
                (omega (arith, fewer, tried_calls, s.calls_are)) in
                begun next t.placement t.calls (tries + 1) r try_sound.0 try_sound.1
                (rw says.gaps_are tried_calls)
                same
                (omega (arith, s.used, unused))
                (rw says.gaps_are (left true unused e))
                f

            -- no fewer: on to the next gap
            pub search_kept
                : (r : ℕ)
                → (tries ≡ budget → ⊥)
                → current.calls ≤ t.calls
                → FreeFrom current.placement.words (g + 1) nest.count r
                → Searching nest ts (gaps_in key.words) budget current (tries + 1) r
            search_kept r unused no_fewer f =
                let e : ltb (calls_of (nest_in nest) ts (try_at (nest_in nest) x g)) (calls_of (nest_in nest) ts x) ≡ false =
                le-ltb (calls_of (nest_in nest) ts (try_at (nest_in nest) x g)) (calls_of (nest_in nest) ts x)
                (omega (arith, no_fewer, tried_calls, s.calls_are)) in
                let skip = free_skip (nest_in nest) current.placement.words short (g + 1) r (rw count_is at f) in
                record {
                  gaps_fit = s.gaps_fit;
                  all_cut = s.all_cut;
                  chained = s.chained;
                  calls_are = s.calls_are;
                  used = omega (arith, s.used, unused);
                  some = omega (arith, f.low);
                  within = f.fits;
                  free = f.free;
                  rest = rw (← skip) (left false unused e);
                }

          -- the budget is used
          pub search_budget
              : (floor : ℕ) (r : DI.Improved)
              → tries ≡ budget
              → FloorSays (nest_in nest) table floor
              → reply_in r ≡ reached current tries BUDGET floor
              → SearchSays (nest_in nest) ts (gaps_in key.words) budget r
          unfolding go
          search_budget floor r used low is =
              let z : budget - tries ≡ 0 = omega arith in
              let f = free_front (nest_in nest) current.placement.words short g inside (s.free more) in
              ended false floor r low is (rw (z, f) at s.rest)

        -- a whole round has changed nothing
        pub search_round
            : (floor : ℕ) (r : DI.Improved)
            → nest.count ≤ g
            → FloorSays (nest_in nest) table floor
            → reply_in r ≡ reached current tries ROUND floor
            → SearchSays (nest_in nest) ts (gaps_in key.words) budget r
        search_round floor r none low is =
            let f : free_from (nest_in nest) x g ≡ [] =
            free_none (nest_in nest) current.placement.words short g (omega (arith, count_is)) in
            ended true floor r low is
            (sym (go_none (nest_in nest) ts (budget - tries) x tries) ∙ (rw f at s.rest))
