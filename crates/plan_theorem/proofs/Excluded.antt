-- 01, "What the contracts must say", c, and "Plausible planners that fail": no planner of these rules (Planners) keeps
-- demand 3. Each is refuted by a paper of which its answer is no key: all keys of a paper have the same counts and as
-- many gaps (KeyCases), and the answer has others, or leaves a dependence uncut.
-- Main definitions: `Refuted`, `Excluded`. Main statement: `excluded`.
use mathlib.Core.Path.{◌≡◌, refl, sym, ◌∙◌, ap}
use mathlib.Core.Bool.{Bool, true, false, ◌&&◌, not}
use mathlib.Core.List.{List, [], ◌∷◌}
use mathlib.Core.Logic.{◌⊎◌, inl, inr, ⊎_elim}
use Prim.Native.Nat.{ℕ, ◌<◌}
use native.Mathlib.Omega.{arith}
use lib.Dec.{eqb}
use lib.ListN.{length}
use borrow.Author.Tests.{eq-eqb, not-true}
use Rattle.laws.specs.Choice.{when, is_in}
use Rattle.laws.proofs.Tests.{never, never_both, and_intro}
use Rattle.laws.proofs.Members.{in_cons, every_below, every-below}
use Rattle.paper_nests.specs.Nests.{Nest}
use Rattle.paper_nests.specs.Loops.{owner_of}
use Rattle.paper_nests.proofs.Cases.{paper_P, paper_R, paper_turn, paper_bare, paper_ring, paper_inner, paper_door}
use Rattle.paper_placements.specs.Placements.{is_correct, loop_count}
use Rattle.paper_placements.specs.Words.{gaps_of}
use Rattle.paper_placements.proofs.Cuts.{correct_gaps}
use Rattle.paper_placements.proofs.Rising.{rises}
use Rattle.plan_theorem.specs.KeyOf.{key_of}
use Rattle.plan_theorem.specs.ListOrder.{first_in_order}
use Rattle.plan_theorem.proofs.KeyIsKey.{key_is_key}
use Rattle.plan_theorem.proofs.KeyCases.{computed_keys, paper_P_inner, P-key, R-key, turn_key, bare_key}
use Rattle.plan_theorem.proofs.KeyCases.{ring_key, inner_key, door_key}
use Rattle.plan_theorem.proofs.ListOrder.{order_numbers}
use Rattle.plan_theorem.proofs.Cheapest.{cheapest}
use Rattle.plan_theorem.proofs.Planners.{Planner, Plans, every_gap, FillsOuter, fill_outer, fills_outer}
use Rattle.plan_theorem.proofs.Planners.{SolvesAlone, solve_alone, solves_alone, greedy_ring, CutsGreedily}
use Rattle.plan_theorem.proofs.Planners.{Compares, compares, in_all, counts_inside, JoinsPairs, join_pairs, joins_pairs}

-- a barrier in every gap: 13 on P, where a key has two
every_gap_size : length (every_gap paper_P) ≡ 13
unfolding gaps_of
every_gap_size = refl

every_gap_fails : Plans every_gap → ⊥
every_gap_fails keeps =
    let k = keeps paper_P refl P-key.unblocked in
    omega (arith, every_gap_size, P-key.all_sizes (every_gap paper_P) k)

-- no barrier at all: not correct where a loop carries a dependence
empty_key_fails : Plans (λ n. []) → ⊥
empty_key_fails keeps = never (keeps paper_turn refl turn_key.unblocked).correct

-- any fixed key: the bare paper leaves only the empty one
fixed_key_fails : (gs : List ℕ) → Plans (λ n. gs) → ⊥
fixed_key_fails [] keeps = empty_key_fails keeps
fixed_key_fails (g ∷ gs) keeps =
    omega (arith, bare_key.all_sizes (g ∷ gs) (keeps paper_bare refl bare_key.unblocked))

-- a gap counts at its loop
held_counts : (n : Nest) (gs : List ℕ) (g : ℕ) → is_in g gs ≡ true → 0 < loop_count n gs (owner_of n.points g)
held_counts n [] g h = never h
held_counts n (x ∷ xs) g h =
    ⊎_elim
    (λ (z : g ≡ x). omega (arith, first z))
    (λ (z : is_in g xs ≡ true). omega (arith, held_counts n xs g z))
    (in_cons g x xs h)
  where
    own : ℕ → ℕ
    own = owner_of n.points

    first : g ≡ x → when (eqb (own x) (own g)) 1 ≡ 1
    first z = rw (eq-eqb (own x) (own g) (ap own (sym z)))

-- the whole outer loop filled, on 01 01 03 02 02 with 12010202: no key has a gap in loop 0
outer_filled_fails : (plan : Planner) → FillsOuter plan → Plans plan → ⊥
outer_filled_fails plan fills keeps =
    let gs = plan paper_inner in
    let c : loop_count paper_inner gs 0 ∷ loop_count paper_inner gs 1 ∷ [] ≡ 0 ∷ 1 ∷ [] =
    inner_key.all_counts gs (keeps paper_inner refl inner_key.unblocked) in
    let z : loop_count paper_inner gs 0 ≡ 0 = cc in
    omega (arith, held_counts paper_inner gs 1 (fills paper_inner 1 refl (omega arith) (omega arith) refl))

-- P has no key with both 3 and 9: a key has two gaps, and these two leave a dependence uncut
three_and_nine : (gs : List ℕ) → length gs ≡ 2 → is_in 3 gs ≡ true → is_in 9 gs ≡ true → is_correct paper_P gs ≡ true → ⊥
three_and_nine [] l p q c = never p
three_and_nine (a ∷ []) l p q c = absurd (omega arith)
three_and_nine (a ∷ (b ∷ (x ∷ xs))) l p q c = absurd (omega arith)
three_and_nine (a ∷ (b ∷ [])) l p q c = go (member 3 p) (member 9 q)
  where
    member : (g : ℕ) → is_in g (a ∷ (b ∷ [])) ≡ true → (g ≡ a) ⊎ (g ≡ b)
    member g h =
        ⊎_elim
        (λ (z : g ≡ a). inl z)
        (λ (z : is_in g (b ∷ []) ≡ true).
        ⊎_elim (λ (y : g ≡ b). inr y) (λ (y : is_in g [] ≡ true). never y) (in_cons g b [] z))
        (in_cons g a (b ∷ []) h)

    go : (3 ≡ a) ⊎ (3 ≡ b) → (9 ≡ a) ⊎ (9 ≡ b) → ⊥
    go (inl x) (inl y) = omega arith
    go (inl x) (inr y) = never (rw (← x, ← y) at c)
    go (inr x) (inl y) = never (rw (← x, ← y) at c)
    go (inr x) (inr y) = omega arith

-- each inner loop by itself: P gets 3 and 9, since gap 2 is the first key of loops 1 and 7 by themselves
alone_fails : (plan : Planner) → SolvesAlone plan → Plans plan → ⊥
alone_fails plan alone keeps =
    let k = keeps paper_P refl P-key.unblocked in
    let two : is_in 2 (key_of paper_P_inner) ≡ true = rw computed_keys.of_P_inner in
    let a : is_in 3 (plan paper_P) ≡ is_in 2 (key_of paper_P_inner) =
    alone paper_P 3 refl (omega arith) (omega arith) refl in
    let b : is_in 9 (plan paper_P) ≡ is_in 2 (key_of paper_P_inner) =
    alone paper_P 9 refl (omega arith) (omega arith) refl in
    three_and_nine (plan paper_P) (P-key.all_sizes (plan paper_P) k) (a ∙ two) (b ∙ two) k.correct

-- the ring greedily: on 01 03 02 with 110102, 12000101 it takes 1 and 2, where a key has one gap
greedy_takes : greedy_ring paper_ring ≡ 1 ∷ 2 ∷ []
unfolding gaps_of
greedy_takes = refl

greedy_fails : (plan : Planner) → CutsGreedily plan → Plans plan → ⊥
greedy_fails plan greedy keeps =
    let e : length (plan paper_ring) ≡ 2 = ap length (greedy paper_ring refl refl ∙ greedy_takes) in
    omega (arith, e, ring_key.all_sizes (plan paper_ring) (keeps paper_ring refl ring_key.unblocked))

-- total counts: gap 3 alone cuts all of 01 03 01 03 02 02 with 110103, 110205, where a key has two gaps
totals_fail : (plan : Planner) → Compares in_all plan → Plans plan → ⊥
totals_fail plan fewest keeps =
    let gs = plan paper_door in
    omega (
      arith,
      order_numbers (length gs) 1 ((fewest paper_door refl door_key.unblocked).least (3 ∷ []) refl),
      door_key.all_sizes gs (keeps paper_door refl door_key.unblocked),
    )

-- the gap before a DO inside that loop: on the same paper gap 3 then costs 1 and 0 in loops 2 and 0, and every correct
-- pair of gaps costs more
abbrev costs_less : ℕ → ℕ → Bool
costs_less a b =
    is_correct paper_door (a ∷ b ∷ []) && first_in_order (counts_inside paper_door (a ∷ b ∷ [])) (1 ∷ 0 ∷ [])

no_pair : (a b : ℕ) → a < 6 → b < 6 → costs_less a b ≡ false
no_pair a b p q =
    not-true (costs_less a b)
    (every-below (λ (j : ℕ). not (costs_less a j)) 6
    (every-below (λ (i : ℕ). every_below (λ (j : ℕ). not (costs_less i j)) 6) 6 refl a p) b q)

no_cheap_pair
    : (gs : List ℕ)
    → length gs ≡ 2
    → is_correct paper_door gs ≡ true
    → first_in_order (counts_inside paper_door gs) (1 ∷ 0 ∷ []) ≡ true
    → ⊥
no_cheap_pair [] l c h = omega arith
no_cheap_pair (a ∷ []) l c h = omega arith
no_cheap_pair (a ∷ (b ∷ (x ∷ xs))) l c h = omega arith
no_cheap_pair (a ∷ (b ∷ [])) l c h =
    let r = rises 0 6 a (b ∷ []) (correct_gaps paper_door (a ∷ b ∷ []) c) in
    never_both (and_intro c h) (no_pair a b r.below (rises a 6 b [] r.rest).below)

inside_fails : (plan : Planner) → Compares counts_inside plan → Plans plan → ⊥
inside_fails plan least keeps =
    let gs = plan paper_door in
    let k = keeps paper_door refl door_key.unblocked in
    let l = least paper_door refl door_key.unblocked in
    no_cheap_pair gs (door_key.all_sizes gs k) k.correct (l.least (3 ∷ []) refl)

-- one barrier for intervals that overlap two by two: those of R do, and a key of R has two gaps
pairs_fail : (plan : Planner) → JoinsPairs plan → Plans plan → ⊥
pairs_fail plan joins keeps =
    let k = keeps paper_R refl R-key.unblocked in
    omega (arith, joins paper_R refl refl refl, R-key.all_sizes (plan paper_R) k)

-- some planner follows the rule, and none that does keeps demand 3
pub record Refuted (Rule : Planner → Type 0) : Type 0 where
  pub planner : Planner
  pub follows : Rule planner
  pub fails : (plan : Planner) → Rule plan → Plans plan → ⊥

pub record Excluded : Type 0 where
  -- "What the contracts must say", c: a barrier in every gap; optimal inside, and the whole outer loop filled; a fixed
  -- or always empty key
  pub every-gap : Plans every_gap → ⊥
  pub outer_filled : Refuted FillsOuter
  pub fixed_key : (gs : List ℕ) → Plans (λ n. gs) → ⊥
  pub empty_key : Plans (λ n. []) → ⊥
  -- "Plausible planners that fail", in their order there
  pub inner_first : Refuted SolvesAlone
  pub greedy-ring : Refuted CutsGreedily
  pub totals : Refuted (Compares in_all)
  pub one_barrier : Refuted JoinsPairs
  pub before_do_inside : Refuted (Compares counts_inside)
  -- and one planner keeps demand 3
  pub possible : Plans key_of

pub excluded : Excluded
excluded =
    record {
      every-gap = every_gap_fails;
      outer_filled = record { planner = fill_outer; follows = fills_outer; fails = outer_filled_fails };
      fixed_key = fixed_key_fails;
      empty_key = empty_key_fails;
      inner_first = record { planner = solve_alone; follows = solves_alone; fails = alone_fails };
      greedy-ring = record { planner = greedy_ring; follows = λ n v o. refl; fails = greedy_fails };
      totals = record { planner = cheapest in_all; follows = compares in_all; fails = totals_fail };
      one_barrier = record { planner = join_pairs; follows = joins_pairs; fails = pairs_fail };
      before_do_inside =
          record { planner = cheapest counts_inside; follows = compares counts_inside; fails = inside_fails };
      possible = key_is_key;
    }
