-- The argument of the nest of the unbarred gaps is one of the nest itself: it has one claim at most, and that is kept.
-- Main statement: `barred_argued`.
use mathlib.Core.Path.{◌≡◌, refl, sym, ap, ◌∙◌, subst}
use mathlib.Core.Bool.{Bool, true, false, ◌&&◌, ◌||◌, not}
use mathlib.Core.List.{List, [], ◌∷◌, ◌++◌}
use mathlib.Core.Logic.{◌⊎◌, inl, inr, ⊎_elim}
use Prim.Native.Nat.{ℕ, zero, suc, ◌-◌, ◌<◌}
use native.Mathlib.Omega.{arith}
use lib.Dec.{eqb, ltb}
use lib.ListN.{length}
use borrow.Author.Tests.{eqb-true, eq-eqb}
use Rattle.laws.specs.Choice.{pick}
use Rattle.laws.specs.Members.{Among}
use Rattle.laws.proofs.Tests.{never, and_true, and_intro, or-true, or_left, or_right, false_by}
use Rattle.laws.proofs.Implies.{implied, implies_by}
use Rattle.laws.proofs.Members.{no_members}
use Rattle.paper_nests.specs.Nests.{Dep, Nest}
use Rattle.paper_nests.specs.Loops.{is_do, end_of}
use Rattle.paper_nests.specs.Ring.{one_loop}
use Rattle.paper_nests.specs.Valid.{is_shape, is_valid}
use Rattle.paper_nests.proofs.Ring.{one_loop_is_first}
use Rattle.paper_nests.proofs.Levels.{starts_with_do}
use Rattle.paper_nests.proofs.Loops.{outermost}
use Rattle.paper_nests.proofs.Deps.{Fits, valid_is, deps_fit}
use Rattle.paper_placements.specs.Placements.{are_gaps_from, is_correct, loop_count}
use Rattle.paper_placements.proofs.Cuts.{correct_gaps}
use Rattle.paper_order.proofs.Keys.{one_loop_count}
use Rattle.paper_barred.specs.Ranks.{rank}
use Rattle.paper_barred.specs.Reduced.{is_blocked, ring_points, reduced}
use Rattle.paper_barred.proofs.Renumbered.{ranks_length, ranks_unranked}
use Rattle.paper_barred.proofs.RingPoints.{ring_shape, ring_one, ring_length}
use Rattle.paper_barred.proofs.ReducedNest.{reduced_valid, no_gap_no_dep}
use Rattle.plan_method.specs.Sweep.{Tables}
use Rattle.plan_method.specs.Plan.{table_of}
use Rattle.plan_method.specs.Home.{loops_in, lines_in}
use Rattle.plan_theorem.specs.KeyOf.{plain_key, barred_key}
use Rattle.plan_theorem.specs.OneKey.{IsFirstSmallest}
use Rattle.plan_theorem.proofs.FirstSmallest.{first_smallest}
use Rattle.plan_theorem.proofs.PlainKey.{plain_is_first}
use Rattle.plan_theorem.proofs.BarredKey.{barred_first_smallest}
use Rattle.argue_claims.specs.Arguments.{Step, Claim, Known, claim}
use Rattle.argue_claims.specs.Arguments.{run, ended, begun, known_of, has_low, all_low, all_hold, holds}
use Rattle.argue_key.specs.Laps.{Head, head, side_heads, loop_heads, heads_from, made, claim_for, plain_argument}
use Rattle.argue_key.proofs.Plain.{plain_argued}
use Rattle.argue_key.proofs.BarredClaims.{claim_kept}

-- ---- the argument of a nest of one loop has one claim at most

module _ (qs : List ℕ) (es : List Dep) (shape : is_shape qs ≡ true) (one : one_loop qs ≡ true) where
  no_heads : (T : Tables) (d : ℕ) → 0 < d → loop_heads qs T d ≡ []
  unfolding loop_heads
  no_heads T d p =
      let z : is_do qs d ≡ false = false_by (λ (h : is_do qs d ≡ true). omega (arith, one_loop_is_first qs one d h, p)) in
      rw z

  heads_rest : (T : Tables) (k d : ℕ) (hs : List Head) → 0 < d → heads_from qs T k d hs ≡ hs
  unfolding heads_from
  heads_rest T zero d hs p = refl
  heads_rest T (suc k) d hs p =
      let z : loop_heads qs T d ++ hs ≡ hs = rw (no_heads T d p) in
      ap (heads_from qs T k (suc d)) z ∙ heads_rest T k (suc d) hs (omega arith)

  first_heads : (T : Tables) → (loop_heads qs T 0 ++ [] ≡ []) ⊎ (loop_heads qs T 0 ++ [] ≡ head 0 0 0 ∷ [])
  unfolding loop_heads
  first_heads T = go (is_do qs 0 && ltb 0 (T.left 0 1)) (ltb 0 (T.cost 0))
    where
      go : (t u : Bool) →
          (pick t (pick u (head 0 0 0 ∷ []) [] ++ side_heads T 0 (end_of qs 0)) [] ++ [] ≡ []) ⊎
          (pick t (pick u (head 0 0 0 ∷ []) [] ++ side_heads T 0 (end_of qs 0)) [] ++ [] ≡ head 0 0 0 ∷ [])
      go false u = inl refl
      go true false = inl refl
      go true true = inr refl

  all_heads : (T : Tables) (k : ℕ) → 0 < k → (heads_from qs T k 0 [] ≡ []) ⊎ (heads_from qs T k 0 [] ≡ head 0 0 0 ∷ [])
  unfolding heads_from
  all_heads T zero p = absurd (omega arith)
  all_heads T (suc k) p =
      let z : heads_from qs T k 1 (loop_heads qs T 0 ++ []) ≡ loop_heads qs T 0 ++ [] =
      heads_rest T k 1 (loop_heads qs T 0 ++ []) (omega arith) in
      ⊎_elim (λ (y : loop_heads qs T 0 ++ [] ≡ []). inl (z ∙ y)) (λ (y : loop_heads qs T 0 ++ [] ≡ head 0 0 0 ∷ []). inr
      (z ∙ y))
      (first_heads T)

  record Low (cs : List Claim) : Type 0 where
    steps : List Step
    is : cs ≡ claim 0 0 0 steps ∷ []

  one_claim : (plain_argument qs es ≡ []) ⊎ Low (plain_argument qs es)
  unfolding plain_argument made
  one_claim = ⊎_elim
      (λ (z : heads_from qs T (length qs) 0 [] ≡ []). inl (rw z))
      (λ (z : heads_from qs T (length qs) 0 [] ≡ head 0 0 0 ∷ []).
      inr (record { steps = (claim_for qs es T [] (head 0 0 0)).steps; is = rw z }))
      (all_heads T (length qs) (omega (arith, outermost qs shape)))
    where
      T : Tables
      T = table_of (loops_in qs) (lines_in qs es) (length qs)

-- ---- the whole argument

module _ (n : Nest) (valid : is_valid n ≡ true) (one : one_loop n.points ≡ true) (unblocked : is_blocked n ≡ false)
  where
    abbrev last' : ℕ
    last' = length n.points - 1

    abbrev ring' : Nest
    ring' = reduced n.points n.barred n.deps

    shape' : is_shape n.points ≡ true
    shape' = (valid_is n valid).shape

    fits' : (e : Dep) → Among e n.deps → Fits n.points e
    fits' = deps_fit n.points n.deps (valid_is n valid).all-deps

    ring_valid : is_valid ring' ≡ true
    ring_valid =
        let v = valid_is n valid in
        reduced_valid n.points n.barred shape' one n.deps v.few_points v.few_deps fits' unblocked

    ring_key : IsFirstSmallest ring' (plain_key ring')
    ring_key =
        first_smallest ring' (ring_shape (rank n.barred last')) (ring_one (rank n.barred last')) (plain_key ring')
        (plain_is_first ring' ring_valid refl)

    -- as in crate plan_theorem, where it is not exported
    key-ranks : are_gaps_from 0 (suc (rank n.barred last')) (plain_key ring') ≡ true
    key-ranks = go (rank n.barred last') refl
      where
        none : rank n.barred last' ≡ 0 → plain_key ring' ≡ []
        none z =
            let e = no_gap_no_dep n.points n.barred shape' one n.deps fits' unblocked z in
            let c : is_correct ring' [] ≡ true = ap (λ (ds : List Dep). is_correct (reduced n.points n.barred ds)
            []) e in
            no_members (plain_key ring') (ring_key.smallest [] c)

        go : (m : ℕ) → rank n.barred last' ≡ m → are_gaps_from 0 (suc m) (plain_key ring') ≡ true
        go zero z = rw (none z)
        go (suc m) z =
            let l : length (ring_points (rank n.barred last')) ≡ suc (suc m) =
            rw z (ring_length (suc m) (omega arith)) in
            subst (λ (k : ℕ). are_gaps_from 0 k (plain_key ring') ≡ true) l
            (correct_gaps ring' (plain_key ring') ring_key.correct)

    correct : is_correct n (barred_key n) ≡ true
    correct = (barred_first_smallest n valid one unblocked).correct

    counts : loop_count n (barred_key n) 0 ≡ loop_count ring' (plain_key ring') 0
    counts =
        one_loop_count n shape' one (barred_key n) (correct_gaps n (barred_key n) correct) ∙
        (sym (ranks_length n.barred (barred_key n)) ∙
        (ap length (ranks_unranked n.barred last' (plain_key ring') key-ranks) ∙
        sym (one_loop_count ring' (ring_shape (rank n.barred last')) (ring_one (rank n.barred last'))
        (plain_key ring')
        (correct_gaps ring' (plain_key ring') ring_key.correct))))

    all-low : (ks : List Known) → ((loop_count n (barred_key n) 0 ≡ 0) ⊎ (has_low ks 0 ≡ true)) → (m : ℕ) →
        all_low n (barred_key n) ks m ≡ true
    all-low ks h zero = refl
    all-low ks h (suc d) = and_intro
        (implies_by (is_do n.points d) (eqb (loop_count n (barred_key n) d) 0 || has_low ks d)
        (λ i. (let z : d ≡ 0 = one_loop_is_first n.points one d i in
        rw z (⊎_elim (λ (y : loop_count n (barred_key n) 0 ≡ 0). or_left _ (eq-eqb (loop_count n (barred_key n) 0) 0 y))
        (λ (y : has_low ks 0 ≡ true). or_right (eqb (loop_count n (barred_key n) 0) 0) y) h))))
        (all-low ks h d)

    -- the ring's argument, as the planner's theorem gives it
    ring_holds : all_hold ring' (plain_key ring') [] (plain_argument ring'.points ring'.deps) ≡ true
    ring_holds = (and_true (is_correct ring' (plain_key ring')) _ (plain_argued ring' ring_valid refl)).1

    -- the only loop's count, where there is no claim
    none_low : (m : ℕ) → 0 < m → all_low ring' (plain_key ring') [] m ≡ true → loop_count ring' (plain_key ring') 0 ≡ 0
    none_low zero p h = absurd (omega arith)
    none_low (suc zero) p h =
        let z = and_true (not (is_do ring'.points 0) || (eqb (loop_count ring' (plain_key ring') 0) 0 || false)) true
        h in
        let y = implied (is_do ring'.points 0) (eqb (loop_count ring' (plain_key ring') 0) 0 || false) z.0
        (starts_with_do ring'.points (ring_shape (rank n.barred last'))) in
        ⊎_elim (λ (w : eqb (loop_count ring' (plain_key ring') 0) 0 ≡ true). eqb-true (loop_count ring' (plain_key ring') 0)
        0 w)
        (λ (w : false ≡ true). never w) (or-true (eqb (loop_count ring' (plain_key ring') 0) 0) false y)
    none_low (suc (suc m)) p h =
        none_low (suc m) (omega arith) (and_true (not (is_do ring'.points (suc m)) ||
        (eqb (loop_count ring' (plain_key ring') (suc m)) 0 || false)) (all_low ring' (plain_key ring') [] (suc m)) h).1

    kept : (cs : List Claim) → (cs ≡ []) ⊎ Low ring'.points ring'.deps (ring_shape (rank n.barred last'))
        (ring_one (rank n.barred last')) cs → all_hold ring' (plain_key ring') [] cs ≡ true →
        all_hold n (barred_key n) [] cs ≡ true
    kept cs (inl z) h = rw z (all-low [] (inl (counts ∙ none_low (length ring'.points)
        (omega (arith, outermost ring'.points (ring_shape (rank n.barred last')))) (rw z at h)))
        (length n.points))
    kept cs (inr l) h =
        rw l.is (and_intro (claim_kept n valid one (barred_key n) (plain_key ring') (claim 0 0 0 l.steps) refl refl
        refl
        (omega (arith, counts)) (and_true _ _ (first l.steps (rw l.is at h))).0)
        (all-low ([] ++ (known_of n (barred_key n) (claim 0 0 0 l.steps) (run n (barred_key n) (claim 0 0 0 l.steps) [] l.steps begun) ∷ [])) (inr refl) (length n.points)))
      where
        first : (ss : List Step) → all_hold ring' (plain_key ring') [] (claim 0 0 0 ss ∷ []) ≡ true →
            (ended ring' (plain_key ring') (claim 0 0 0 ss) (run ring' (plain_key ring') (claim 0 0 0 ss) [] ss begun) &&
            true) ≡ true
        first ss h = and_intro (and_true (ended ring' (plain_key ring') (claim 0 0 0 ss)
            (run ring' (plain_key ring') (claim 0 0 0 ss) [] ss begun)) _ h).0 refl

    pub barred_argued : holds n (barred_key n) (plain_argument ring'.points ring'.deps) ≡ true
    barred_argued = and_intro correct
        (kept (plain_argument ring'.points ring'.deps)
        (one_claim ring'.points ring'.deps (ring_shape (rank n.barred last'))
        (ring_one (rank n.barred last')))
        ring_holds)
