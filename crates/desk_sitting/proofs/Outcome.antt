-- What the moves leave: the barriers with one gap more or less, and counts that are those of a fresh count.
-- Main statements: `empty_kept`, `Kept-same`, `put_says`, `lift_says`; `put_steps`, `lift_steps`.
use mathlib.Core.Path.{◌≡◌, sym, ap, ◌∙◌}
use mathlib.Core.Bool.{true, false, ◌&&◌, ◌||◌, not}
use mathlib.Core.List.{List}
use Prim.Native.Nat.{ℕ, ◌+◌, ◌-◌, ◌≤◌, ◌<◌}
use native.Mathlib.Omega.{arith}
use lib.Dec.{eqb}
use lib.ListN.{length, get_or}
use Rattle.laws.specs.Choice.{is_in}
use Rattle.laws.specs.Bits.{one}
use Rattle.paper_nests.specs.declared.Nest as DN
use Rattle.paper_nests.specs.Nests.{Dep, Nest}
use Rattle.paper_nests.specs.Gaps.{has_gap}
use Rattle.paper_nests.specs.Stored.{nest_in}
use Rattle.paper_placements.specs.Placements.{are_gaps}
use Rattle.paper_placements.specs.declared.Placement as DP
use Rattle.paper_placements.specs.Words.{GAPS, holds, gaps_in}
use Rattle.paper_placements.proofs.Words.{in_gaps}
use Rattle.desk_sitting.specs.declared.Sitting as DS
use Rattle.paper_placements.specs.GapLists.{with_gap, without}
use Rattle.desk_sitting.specs.Counts.{cut_count, count_at, has_gap_at}
use Rattle.desk_sitting.specs.Kept.{barriers, Kept, Ready, EmptySays, PutSays, LiftSays}
use Rattle.desk_sitting.specs.Recounts.{Steps, CountsAre}
use Rattle.paper_placements.proofs.GapLists.{rising_with, rising_without, with_without, rising_short}
use Rattle.desk_sitting.proofs.Words.{gaps_with, gaps_without}
use Rattle.desk_sitting.proofs.Counts.{count_with, count_short, count_at_with, none_uncut, none_counted}

-- a sitting with no barrier is kept
pub empty_kept : (n : Nest) (r : DS.Sitting) → EmptySays (length n.deps) r → Kept n r
empty_kept n r e =
    record {
      gaps_fit = rw e.no_gaps;
      counts_are = λ i. e.no_cuts i ∙ rw e.no_gaps (sym (none_counted n.points n.deps i));
      uncut_is = e.uncut_is ∙ rw e.no_gaps (sym (none_uncut n.points n.deps));
    }

-- the barriers tell all that is kept
pub Kept-same
    : (n : Nest) (s r : DS.Sitting)
    → Kept n s
    → Kept n r
    → barriers s ≡ barriers r
    → ((i : ℕ) → get_or s.counts i 0 ≡ get_or r.counts i 0) × (s.uncut ≡ r.uncut)
Kept-same n s r p q e =
    (λ i. p.counts_are i ∙ rw e (sym (q.counts_are i)), p.uncut_is ∙ rw e (sym q.uncut_is))

module _ {nest : DN.Nest} {s : DS.Sitting} {g : ℕ} (ready : Ready nest s g) where
  abbrev n : Nest
  n = nest_in nest

  abbrev before : List ℕ
  before = barriers s

  -- the gap is one of the nest
  there : g < length n.points
  there = omega (arith, ready.inside, ready.counted.count_is)

  pub below : g < GAPS
  below = omega (arith, ready.inside, ready.counted.count_fits)

  -- ---- a gap put

  module _ (free : holds s.placement.words g ≡ false) where
    not_in : is_in g before ≡ false
    not_in = in_gaps s.placement.words g below ∙ free

    put_rises : are_gaps n (with_gap g before) ≡ true
    put_rises = rising_with 0 (length n.points) g before ready.kept.gaps_fit ready.first there not_in

    -- 255 gaps at most
    pub put_short : length (with_gap g before) < 256
    put_short =
        omega (
          arith,
          rising_short 0 (length n.points) (with_gap g before) put_rises (omega (arith, there)),
          ready.counted.count_is,
          ready.counted.count_fits,
        )

    module _ (p : DP.Placement) (one_more : (i : ℕ) → holds p.words i ≡ (eqb i g || holds s.placement.words i)) where
      put_gaps : gaps_in p.words ≡ with_gap g before
      put_gaps = gaps_with s.placement.words p.words g below one_more free

      pub put_says : (r : DS.Sitting) → CountsAre n p r → PutSays n g s r
      put_says r fresh =
          record {
            holds_are = rw fresh.placed one_more;
            barriers_are = barriers_are;
            counts_are =
                λ i.
                counts_are i ∙ count_at_with n.points n.deps g before i ∙
                ap (λ (x : ℕ). x + one (has_gap_at n.points n.deps i g)) (sym (ready.kept.counts_are i));
            kept =
                record {
                  gaps_fit = rw barriers_are put_rises;
                  counts_are = λ i. rw barriers_are (counts_are i);
                  uncut_is = rw (barriers_are, sym put_gaps) fresh.uncut_is;
                };
          }
        where
          barriers_are : barriers r ≡ with_gap g before
          barriers_are = rw fresh.placed put_gaps

          counts_are : (i : ℕ) → get_or r.counts i 0 ≡ count_at n.points n.deps (with_gap g before) i
          counts_are i = rw (sym put_gaps) (fresh.counts_are i)

      -- the count of a dependence that has the gap goes up by one
      pub put_steps
          : {pre : ℕ → Type 0} {post : ℕ → ℕ → Type 0}
          → ((c : ℕ) → c + 1 < 256 → pre c)
          → ((c next : ℕ) → post c next → next ≡ c + 1)
          → Steps n g before (gaps_in p.words) pre post
      put_steps may goes =
          record {
            may = λ e c y z. may c (omega (arith, more e y, short e));
            goes = λ e c next y z p. goes c next p ∙ omega (arith, more e y);
            stays = λ e y. rw put_gaps (omega (arith, rw y at (count_with n.points e g before)));
          }
        where
          more
              : (e : Dep) → has_gap n.points e g ≡ true
              → cut_count n.points e (gaps_in p.words) ≡ cut_count n.points e before + 1
          more e y = rw put_gaps (count_with n.points e g before ∙ rw y)

          short : (e : Dep) → cut_count n.points e (gaps_in p.words) < 256
          short e = rw put_gaps (omega (arith, count_short n.points e (with_gap g before), put_short))

  -- ---- a gap lifted

  module _ (held : holds s.placement.words g ≡ true) where
    -- it was put there
    put_back : with_gap g (without g before) ≡ before
    put_back =
        with_without 0 (length n.points) g before ready.kept.gaps_fit
        (in_gaps s.placement.words g below ∙ held)

    pub lift_count
        : (e : Dep)
        → cut_count n.points e before ≡ cut_count n.points e (without g before) + one (has_gap n.points e g)
    lift_count e = ap (cut_count n.points e) (sym put_back) ∙ count_with n.points e g (without g before)

    module _
        (p : DP.Placement) (one_less : (i : ℕ) → holds p.words i ≡ (not (eqb i g) && holds s.placement.words i))
      where
        lift_gaps : gaps_in p.words ≡ without g before
        lift_gaps = gaps_without s.placement.words p.words g below one_less held

        pub lift_says : (r : DS.Sitting) → CountsAre n p r → LiftSays n g s r
        lift_says r fresh =
            record {
              holds_are = rw fresh.placed one_less;
              barriers_are = barriers_are;
              counts_are =
                  λ i.
                  ap (λ (x : ℕ). x + one (has_gap_at n.points n.deps i g)) (counts_are i) ∙
                  sym (count_at_with n.points n.deps g (without g before) i) ∙
                  ap (λ (gs : List ℕ). count_at n.points n.deps gs i) put_back ∙ sym (ready.kept.counts_are i);
              kept =
                  record {
                    gaps_fit = rw barriers_are (rising_without 0 (length n.points) g before ready.kept.gaps_fit);
                    counts_are = λ i. rw barriers_are (counts_are i);
                    uncut_is = rw (barriers_are, sym lift_gaps) fresh.uncut_is;
                  };
            }
          where
            barriers_are : barriers r ≡ without g before
            barriers_are = rw fresh.placed lift_gaps

            counts_are : (i : ℕ) → get_or r.counts i 0 ≡ count_at n.points n.deps (without g before) i
            counts_are i = rw (sym lift_gaps) (fresh.counts_are i)

        -- the count of a dependence that has the gap goes down by one
        pub lift_steps
            : {pre : ℕ → Type 0} {post : ℕ → ℕ → Type 0}
            → ((c : ℕ) → 1 ≤ c → pre c)
            → ((c next : ℕ) → post c next → next ≡ c - 1)
            → Steps n g before (gaps_in p.words) pre post
        lift_steps may goes =
            record {
              may = λ e c y z. may c (omega (arith, less e y));
              goes = λ e c next y z p. goes c next p ∙ omega (arith, less e y);
              stays = λ e y. rw lift_gaps (omega (arith, rw y at (lift_count e)));
            }
          where
            less
                : (e : Dep) → has_gap n.points e g ≡ true
                → cut_count n.points e before ≡ cut_count n.points e (gaps_in p.words) + 1
            less e y = rw lift_gaps (lift_count e ∙ rw y)
