-- Placements of two nests as a placement of the joint nest: each part has its own back, no gap is the new loop's own,
-- and what is correct in both is correct.
-- Main statements: `sub_first`, `sub_second`; `both_gaps`, `first_back`, `second_back`, `first_count`, `second_count`,
-- `outer_count`, `both_correct`; `of_two_parts`.
use mathlib.Core.Path.{◌≡◌, refl, sym, ap, ◌∙◌}
use mathlib.Core.Bool.{true}
use mathlib.Core.List.{List, [], ◌∷◌, ◌++◌, append-nil}
use mathlib.Core.Logic.{inl, inr, ⊎_elim}
use Prim.Native.Nat.{ℕ, suc, ◌+◌, ◌-◌, ◌<◌}
use native.Mathlib.Omega.{arith}
use lib.Dec.{eqb}
use lib.ListN.{length}
use borrow.Author.Tests.{eq-eqb, ne_eqb}
use Rattle.laws.specs.Choice.{when, is_in}
use Rattle.laws.specs.Members.{Among}
use Rattle.laws.proofs.Tests.{never, bool_by}
use Rattle.laws.proofs.Members.{among_front, among_back, in_here, in_later, in_cons}
use Rattle.paper_nests.specs.Nests.{Dep, Nest}
use Rattle.paper_nests.specs.Loops.{is_do, owner_of}
use Rattle.paper_nests.specs.Valid.{is_shape}
use Rattle.paper_nests.proofs.Deps.{valid_is, deps_fit}
use Rattle.paper_placements.specs.Placements.{cuts, are_gaps_from, are_gaps, is_correct, loop_count}
use Rattle.paper_placements.proofs.Cuts.{AllCut, cut_has_gap, gap_cuts, avoids_none, correct_by, correct_cuts}
use Rattle.paper_placements.proofs.GapLists.{rising_lower}
use Rattle.paper_placements.proofs.Rising.{rising_in, rising_equal, rising_wider}
use Rattle.call_join.specs.JointNests.{moved_dep, moved_deps, moved_gaps, joined, joined_gaps, second_at, joined_points}
use Rattle.call_join.proofs.Parts.{owner_moved}
use Rattle.call_join.proofs.PartDeps.{gap_moved}
use Rattle.call_join.proofs.JointShapes.{joint_length, JointGap, own, of_first, of_second, joint_gap}
use Rattle.call_join.proofs.JointValid.{Joint}
use Rattle.call_join.proofs.BothLists.{in_both, in-front, in_back, among_both}
use Rattle.call_join.proofs.BothLists.{among_moved, moved_among}
use Rattle.call_join.proofs.MovedGaps.{in_moved, moved_rising, rising_both}
use Rattle.call_join.proofs.MovedGaps.{gaps_within, in_within, within_moved, within_both, within_none}
use Rattle.call_join.proofs.SubNests.{SubNest, part_gaps, part_count}

-- ---- counts

-- no gap belongs to d, or one does
count_none
    : (q : Nest) (gs : List ℕ) (d : ℕ)
    → ((g : ℕ) → is_in g gs ≡ true → owner_of q.points g ≡ d → ⊥)
    → loop_count q gs d ≡ 0
count_none q [] d none = refl
count_none q (g ∷ gs) d none =
    rw (
      ne_eqb (owner_of q.points g) d (none g (in_here g gs)),
      count_none q gs d (λ x h. none x (in_later x g gs h)),
    )

none_count
    : (q : Nest) (gs : List ℕ) (d g : ℕ)
    → loop_count q gs d ≡ 0
    → is_in g gs ≡ true
    → owner_of q.points g ≡ d
    → ⊥
none_count q [] d g c h o = never h
none_count q (x ∷ gs) d g c h o = ⊎_elim
    (λ (z : g ≡ x).
    let e : owner_of q.points x ≡ d = rw z at o in
    let w : when (eqb (owner_of q.points x) d) 1 ≡ 1 = rw (eq-eqb (owner_of q.points x) d e) in
    omega arith)
    (λ (z : is_in g gs ≡ true). none_count q gs d g (omega arith) z o)
    (in_cons g x gs h)

module _ (n m : Nest) (j : Joint n m) where
  pub sub_first : SubNest n (joined n m) 1
  sub_first =
      record {
        part = j.first-at;
        fit = deps_fit n.points n.deps j.first.all-deps;
        kept =
            λ e a.
            among_front (moved_dep 1 e) (moved_deps 1 n.deps) (moved_deps (second_at n) m.deps)
            (among_moved 1 e n.deps a);
        unbarred = j.first_unbarred;
      }

  pub sub_second : SubNest m (joined n m) (second_at n)
  sub_second =
      record {
        part = j.second-at;
        fit = deps_fit m.points m.deps j.second.all-deps;
        kept =
            λ e a.
            among_back (moved_dep (second_at n) e) (moved_deps 1 n.deps) (moved_deps (second_at n) m.deps)
            (among_moved (second_at n) e m.deps a);
        unbarred = j.second_unbarred;
      }

  -- what a placement of the joint nest has in each part
  abbrev pub first_of : List ℕ → List ℕ
  first_of gs = gaps_within 1 (length n.points) gs

  abbrev pub second_of : List ℕ → List ℕ
  second_of gs = gaps_within (second_at n) (length m.points) gs

  module _ (a b : List ℕ) (one : are_gaps n a ≡ true) (two : are_gaps m b ≡ true) where
    abbrev both : List ℕ
    both = joined_gaps n a b

    -- gaps 2 to |n|, then |n| + 2 to |n| + |m|
    moved_first : are_gaps_from 1 (suc (length n.points)) (moved_gaps 1 a) ≡ true
    moved_first =
        let z : 1 + length n.points ≡ suc (length n.points) = omega arith in
        rw z at (moved_rising 1 0 (length n.points) a one)

    moved_second : are_gaps_from (second_at n) (second_at n + length m.points) (moved_gaps (second_at n) b) ≡ true
    moved_second =
        let z : suc (length n.points) + 0 ≡ suc (length n.points) = omega arith in
        rw z at (moved_rising (suc (length n.points)) 0 (length m.points) b two)

    pub both_gaps : are_gaps (joined n m) (joined_gaps n a b) ≡ true
    both_gaps =
        rising_lower 0 1 (length (joined n m).points) both (omega arith)
        (rising_both 1 (second_at n) (length (joined n m).points) (moved_gaps 1 a) (moved_gaps (second_at n) b)
        (omega arith) (omega (arith, joint_length n.points m.points)) moved_first
        (rising_wider (second_at n) (second_at n + length m.points) (length (joined n m).points)
        (moved_gaps (second_at n) b) (omega (arith, joint_length n.points m.points)) moved_second))

    -- each part has its own back
    pub first_back : first_of (joined_gaps n a b) ≡ a
    first_back =
        let l = length n.points in
        let x = moved_gaps 1 a in
        let y = moved_gaps (second_at n) b in
        within_both 1 l x y ∙
        ap (λ (r : List ℕ). gaps_within 1 l x ++ r)
        (within_none 1 l (second_at n) (second_at n + length m.points) y moved_second (inl (omega arith))) ∙
        append-nil (gaps_within 1 l x) ∙
        within_moved 1 l 0 a one

    pub second_back : second_of (joined_gaps n a b) ≡ b
    second_back =
        let l = length m.points in
        let x = moved_gaps 1 a in
        let y = moved_gaps (second_at n) b in
        within_both (second_at n) l x y ∙
        ap (λ (r : List ℕ). r ++ gaps_within (second_at n) l y)
        (within_none (second_at n) l 1 (second_at n) x moved_first (inr (omega arith))) ∙
        within_moved (second_at n) l 0 b two

    -- with its counts
    pub first_count
        : (d : ℕ) → is_do n.points d ≡ true → loop_count (joined n m) (joined_gaps n a b) (1 + d) ≡ loop_count n a d
    first_count d h =
        part_count n (joined n m) 1 sub_first both d both_gaps h ∙ ap (λ (gs : List ℕ). loop_count n gs d) first_back

    pub second_count
        : (d : ℕ)
        → is_do m.points d ≡ true
        → loop_count (joined n m) (joined_gaps n a b) (second_at n + d) ≡ loop_count m b d
    second_count d h =
        part_count m (joined n m) (second_at n) sub_second both d both_gaps h ∙
        ap (λ (gs : List ℕ). loop_count m gs d) second_back

    -- a gap of it lies in a part
    in_first_part : (g : ℕ) → is_in g (moved_gaps 1 a) ≡ true → (1 < g) × (g < suc (length n.points))
    in_first_part g h = rising_in 1 (second_at n) (moved_gaps 1 a) g moved_first h

    in_second_part
        : (g : ℕ)
        → is_in g (moved_gaps (second_at n) b) ≡ true
        → (suc (length n.points) < g) × (g < suc (length n.points) + length m.points)
    in_second_part g h =
        rising_in (second_at n) (second_at n + length m.points) (moved_gaps (second_at n) b) g moved_second h

    -- so none is the new loop's own
    pub outer_count : loop_count (joined n m) (joined_gaps n a b) 0 ≡ 0
    outer_count = count_none (joined n m) both 0 none
      where
        none : (g : ℕ) → is_in g both ≡ true → owner_of (joined n m).points g ≡ 0 → ⊥
        none g h o = ⊎_elim
            (λ (z : is_in g (moved_gaps 1 a) ≡ true).
            let l = in_first_part g z in
            let y : 1 + (g - 1) ≡ g = omega (arith, l.0) in
            let w =
            owner_moved n.points (joined n m).points 1 j.first-at (g - 1) (omega (arith, l.0))
            (omega (arith, l.1)) in
            omega (arith, rw y at w, o))
            (λ (z : is_in g (moved_gaps (second_at n) b) ≡ true).
            let l = in_second_part g z in
            let i = g - second_at n in
            let y : second_at n + (g - second_at n) ≡ g = omega (arith, l.0) in
            let w =
            owner_moved m.points (joined n m).points (second_at n) j.second-at i (omega (arith, l.0))
            (omega (arith, l.0, l.1)) in
            omega (arith, rw y at w, o))
            (in_both g (moved_gaps 1 a) (moved_gaps (second_at n) b) h)

    -- a dependence of a part that is cut there is cut
    moved_cut
        : (p : Nest) (k : ℕ) (c : List ℕ) (sub : SubNest p (joined n m) k)
        → ((g : ℕ) → is_in g (moved_gaps k c) ≡ true → is_in g (joined_gaps n a b) ≡ true)
        → AllCut p.points p.deps c
        → (e : Dep)
        → Among e (moved_deps k p.deps)
        → cuts (joined n m).points e (joined_gaps n a b) ≡ true
    moved_cut p k c sub there all e i =
        let r = moved_among k e p.deps i in
        let x = cut_has_gap p.points r.from c (all r.from r.among) in
        rw r.is
        (gap_cuts (joined n m).points (moved_dep k r.from) both (k + x.gap)
        (there (k + x.gap) (in_moved k x.gap c ∙ x.placed))
        (gap_moved p.points (joined n m).points k sub.part r.from x.gap (sub.fit r.from r.among) ∙
        x.its))

    pub both_correct : is_correct n a ≡ true → is_correct m b ≡ true → is_correct (joined n m) (joined_gaps n a b) ≡ true
    both_correct c d = correct_by (joined n m) both both_gaps (avoids_none [] refl both) cut
      where
        cut : AllCut (joined n m).points (joined n m).deps both
        cut e i = ⊎_elim
            (λ (z : Among e (moved_deps 1 n.deps)).
            moved_cut n 1 a sub_first (λ g. in-front g (moved_gaps 1 a) (moved_gaps (second_at n) b))
            (correct_cuts n a c) e z)
            (λ (z : Among e (moved_deps (second_at n) m.deps)).
            moved_cut m (second_at n) b sub_second (λ g. in_back g (moved_gaps 1 a) (moved_gaps (second_at n) b))
            (correct_cuts m b d) e z)
            (among_both e (moved_deps 1 n.deps) (moved_deps (second_at n) m.deps) i)

  -- a placement without a gap of the new loop's own is the two parts of it, one after the other
  module _ (gs : List ℕ) (gaps : are_gaps (joined n m) gs ≡ true) (none : loop_count (joined n m) gs 0 ≡ 0) where
    one_gaps : are_gaps n (first_of gs) ≡ true
    one_gaps = part_gaps n (joined n m) 1 sub_first gs gaps

    two_gaps : are_gaps m (second_of gs) ≡ true
    two_gaps = part_gaps m (joined n m) (second_at n) sub_second gs gaps

    pub of_two_parts : gs ≡ joined_gaps n (first_of gs) (second_of gs)
    of_two_parts =
        rising_equal 0 (length (joined n m).points) gs (joined_gaps n a b) gaps (both_gaps a b one_gaps two_gaps)
        (λ g. bool_by (is_in g gs) (is_in g (joined_gaps n a b)) (to g) (from g))
      where
        a : List ℕ
        a = first_of gs

        b : List ℕ
        b = second_of gs

        to : (g : ℕ) → is_in g gs ≡ true → is_in g (joined_gaps n a b) ≡ true
        to g h = by_gap (joint_gap n.points m.points j.first.shape j.second.shape whole g r.0 r.1)
          where
            whole : is_shape (joined_points n.points m.points) ≡ true
            whole = (valid_is (joined n m) j.valid).shape

            r : (0 < g) × (g < length (joined n m).points)
            r = rising_in 0 (length (joined n m).points) gs g gaps h

            by_gap
                : JointGap n.points m.points j.first.shape j.second.shape whole g
                → is_in g (joined_gaps n a b) ≡ true
            by_gap (own o) = absurd (none_count (joined n m) gs 0 g none h o)
            by_gap (of_first i e l u) =
                in-front g (moved_gaps 1 a) (moved_gaps (second_at n) b)
                (rw e (in_moved 1 i a ∙ in_within 1 (length n.points) i gs l u ∙ rw (← e) h))
            by_gap (of_second i e l u) =
                in_back g (moved_gaps 1 a) (moved_gaps (second_at n) b)
                (rw e (in_moved (second_at n) i b ∙ in_within (second_at n) (length m.points) i gs l u ∙ rw (← e) h))

        from : (g : ℕ) → is_in g (joined_gaps n a b) ≡ true → is_in g gs ≡ true
        from g h = ⊎_elim
            (λ (z : is_in g (moved_gaps 1 a) ≡ true).
            let l = in_first_part a b one_gaps two_gaps g z in
            let i = g - 1 in
            let e : g ≡ 1 + (g - 1) = omega (arith, l.0) in
            rw e
            (sym (in_within 1 (length n.points) i gs (omega (arith, l.0)) (omega (arith, l.1))) ∙
            sym (in_moved 1 i a) ∙ rw (← e) z))
            (λ (z : is_in g (moved_gaps (second_at n) b) ≡ true).
            let l = in_second_part a b one_gaps two_gaps g z in
            let i = g - second_at n in
            let e : g ≡ second_at n + (g - second_at n) = omega (arith, l.0) in
            rw e
            (sym (in_within (second_at n) (length m.points) i gs (omega (arith, l.0)) (omega (arith, l.0, l.1))) ∙
            sym (in_moved (second_at n) i b) ∙ rw (← e) z))
            (in_both g (moved_gaps 1 a) (moved_gaps (second_at n) b) h)
