-- The loops directly inside a loop, in the joint nest: inside a loop of a part those that it had, moved along; inside
-- the new loop the two old outermost ones.
-- Main statements: `right_moved`, `right_in_outer`.
use mathlib.Core.Path.{◌≡◌, refl, sym, ap, ◌∙◌}
use mathlib.Core.Bool.{Bool, true, false}
use mathlib.Core.List.{List, [], ◌∷◌, ◌++◌}
use mathlib.Core.Logic.{◌⊎◌, inl, inr, ⊎_elim}
use Prim.Native.Nat.{ℕ, zero, suc, ◌+◌, ◌-◌, ◌≤◌, ◌<◌}
use native.Mathlib.Omega.{arith}
use lib.ListN.{length}
use borrow.Author.Tests.{eq-eqb, lt-ltb}
use Rattle.laws.specs.Choice.{pick, is_in}
use Rattle.laws.proofs.Tests.{never, and_intro, bool_by, eq_or, le_or, false_by}
use Rattle.laws.proofs.Members.{in_here, in_later, in_cons}
use Rattle.paper_nests.specs.Loops.{is_do, owner_of, in_loop}
use Rattle.paper_nests.specs.Valid.{is_shape}
use Rattle.paper_nests.proofs.Levels.{lev, lev_zero, point_in, starts_with_do}
use Rattle.paper_nests.proofs.Loops.{inside_lies, inside_by, outermost}
use Rattle.paper_placements.specs.Placements.{are_gaps_from}
use Rattle.paper_order.specs.Trees.{is_right_in, right_in_from, loops_right_in}
use Rattle.paper_placements.specs.Words.{kept, gaps_of}
use Rattle.paper_order.proofs.DirectlyInside.{RightIn, right_in_lies}
use Rattle.paper_placements.proofs.GapLists.{rising_lower}
use Rattle.paper_placements.proofs.Rising.{rising_in, rising_equal, rising_wider}
use Rattle.paper_placements.proofs.Words.{gaps_of_in, gaps_of_to, gaps_of_rising}
use Rattle.call_join.specs.JointNests.{moved_gaps, joined_points}
use Rattle.call_join.proofs.Parts.{Part, do_at, do_moved, owner_moved, inside_moved, inside_part}
use Rattle.call_join.proofs.JointShapes.{joint_length, outer_owns, first_part, second_part}
use Rattle.call_join.proofs.JointShapes.{JointLoop, outer, in_first, in_second, joint_loop}
use Rattle.call_join.proofs.MovedGaps.{in_moved, moved_rising}

-- ---- the list of the loops directly inside one

right_in_gaps : (f x : ℕ) (ps : List ℕ) (d : ℕ) → right_in_from f x ps d ≡ gaps_of (is_right_in ps d) f x
unfolding gaps_of
right_in_gaps zero x ps d = refl
right_in_gaps (suc f) x ps d =
    ap (λ (l : List ℕ). pick (is_right_in ps d x) (x ∷ []) [] ++ l) (right_in_gaps f (suc x) ps d) ∙
    front (is_right_in ps d x)
  where
    front
        : (t : Bool)
        → pick t (x ∷ []) [] ++ gaps_of (is_right_in ps d) f (suc x) ≡ kept t x (gaps_of (is_right_in ps d) f (suc x))
    front true = refl
    front false = refl

-- it has them all, and rises
pub right_listed : (ps : List ℕ) (d x : ℕ) → is_in x (loops_right_in ps d) ≡ is_right_in ps d x
right_listed ps d x =
    ap (is_in x) (right_in_gaps (length ps) 0 ps d) ∙
    ⊎_elim
    (λ (z : length ps ≤ x).
    gaps_of_to (is_right_in ps d) (length ps) 0 x (omega arith) ∙
    sym (false_by (λ h. omega (arith, point_in ps x 0 (right_in_lies ps d x h).loop))))
    (λ (z : x < length ps). gaps_of_in (is_right_in ps d) (length ps) 0 x (omega arith) (omega arith))
    (le_or (length ps) x)

right_rising : (ps : List ℕ) (d : ℕ) → are_gaps_from 0 (length ps) (loops_right_in ps d) ≡ true
right_rising ps d =
    rw (right_in_gaps (length ps) 0 ps d)
    (gaps_of_rising (is_right_in ps d) (length ps) (length ps) 0 0
    (λ i a b h. (omega (arith, inside_lies ps d i (right_in_lies ps d i h).inside), omega arith)))

right_by
    : (ps : List ℕ) (d x : ℕ)
    → is_do ps x ≡ true
    → in_loop ps d x ≡ true
    → owner_of ps x ≡ d
    → is_right_in ps d x ≡ true
right_by ps d x h i o = and_intro h (and_intro i (eq-eqb (owner_of ps x) d o))

-- ---- inside a loop of a part

module _ (ps qs : List ℕ) (k : ℕ) (part : Part ps qs k) (d : ℕ) (loop : is_do ps d ≡ true) where
  there : (x : ℕ) → is_right_in ps d x ≡ true → is_right_in qs (k + d) (k + x) ≡ true
  there x h =
      let r = right_in_lies ps d x h in
      let l = inside_lies ps d x r.inside in
      right_by qs (k + d) (k + x)
      (do_moved ps qs k part x r.loop)
      (inside_moved ps qs k part d x loop ∙ r.inside)
      (owner_moved ps qs k part x (omega (arith, l.0)) (point_in ps x 0 r.loop) ∙ ap (λ (o : ℕ). k + o) r.owner)

  back : (x : ℕ) → x < length ps → is_right_in qs (k + d) (k + x) ≡ true → is_right_in ps d x ≡ true
  back x l h =
      let r = right_in_lies qs (k + d) (k + x) h in
      let i : in_loop ps d x ≡ true = sym (inside_moved ps qs k part d x loop) ∙ r.inside in
      let m = inside_lies ps d x i in
      right_by ps d x (sym (do_at ps qs k part x l) ∙ r.loop) i
      (omega (arith, owner_moved ps qs k part x (omega (arith, m.0)) l, r.owner))

  pub right_moved : loops_right_in qs (k + d) ≡ moved_gaps k (loops_right_in ps d)
  right_moved =
      rising_equal 0 (length qs) (loops_right_in qs (k + d)) (moved_gaps k (loops_right_in ps d))
      (right_rising qs (k + d))
      (rising_lower 0 (k + 0) (length qs) (moved_gaps k (loops_right_in ps d)) (omega arith)
      (rising_wider (k + 0) (k + length ps) (length qs) (moved_gaps k (loops_right_in ps d)) (omega (arith, part.there))
      moved))
      (λ x. bool_by (is_in x (loops_right_in qs (k + d))) (is_in x (moved_gaps k (loops_right_in ps d))) (to x) (from x))
    where
      moved : are_gaps_from (k + 0) (k + length ps) (moved_gaps k (loops_right_in ps d)) ≡ true
      moved = moved_rising k 0 (length ps) (loops_right_in ps d) (right_rising ps d)

      to : (x : ℕ) → is_in x (loops_right_in qs (k + d)) ≡ true → is_in x (moved_gaps k (loops_right_in ps d)) ≡ true
      to x h =
          let y : is_right_in qs (k + d) x ≡ true = sym (right_listed qs (k + d) x) ∙ h in
          let p = inside_part ps qs k part d x loop (right_in_lies qs (k + d) x y).inside in
          let z : is_right_in qs (k + d) (k + p.at) ≡ true = rw p.at_is at y in
          rw p.at_is
          (in_moved k p.at (loops_right_in ps d) ∙ right_listed ps d p.at ∙ back p.at p.in_part z)

      from : (x : ℕ) → is_in x (moved_gaps k (loops_right_in ps d)) ≡ true → is_in x (loops_right_in qs (k + d)) ≡ true
      from x h =
          let l = rising_in (k + 0) (k + length ps) (moved_gaps k (loops_right_in ps d)) x moved h in
          let e : x ≡ k + (x - k) = omega (arith, l.0) in
          let y : is_in (x - k) (loops_right_in ps d) ≡ true = sym (in_moved k (x - k) (loops_right_in ps d)) ∙ rw (← e) h in
          rw e (right_listed qs (k + d) (k + (x - k)) ∙ there (x - k) (sym (right_listed ps d (x - k)) ∙ y))

-- ---- inside the new loop

module _
    (ps qs : List ℕ) (one : is_shape ps ≡ true) (two : is_shape qs ≡ true)
    (whole : is_shape (joined_points ps qs) ≡ true)
  where
    abbrev joint : List ℕ
    joint = joined_points ps qs

    -- the outermost loop of a part is directly inside the new one
    part_in_outer
        : (rs : List ℕ) (k : ℕ)
        → 0 < k
        → Part rs (joined_points ps qs) k
        → is_right_in (joined_points ps qs) 0 k ≡ true
    part_in_outer rs k l part =
        let first = starts_with_do rs part.shape in
        let some = point_in rs 0 0 first in
        let e : k + 0 ≡ k = omega arith in
        let level : lev (joined_points ps qs) k ≡ 1 = rw (e, lev_zero rs) at (part.level 0 (omega arith)) in
        right_by joint 0 k
        (rw e at (do_moved rs joint k part 0 first))
        (inside_by joint 0 k l (omega (arith, outermost joint whole, part.there)))
        (outer_owns joint whole k l (omega (arith, part.there)) level)

    -- and no other loop is
    in_outer : (x : ℕ) → is_right_in (joined_points ps qs) 0 x ≡ true → (x ≡ 1) ⊎ (x ≡ suc (length ps))
    in_outer x h = by_loop (joint_loop ps qs one two whole x r.loop)
      where
        r : RightIn (joined_points ps qs) 0 x
        r = right_in_lies joint 0 x h

        by_loop : JointLoop ps qs one two whole x → (x ≡ 1) ⊎ (x ≡ suc (length ps))
        by_loop (outer e) = absurd (omega (arith, inside_lies joint 0 x r.inside))
        by_loop (in_first d e i) = ⊎_elim
            (λ (z : d ≡ 0). inl (omega arith))
            (λ (z : d ≡ 0 → ⊥).
            let o : owner_of (joined_points ps qs) (1 + d) ≡ 0 = rw e at r.owner in
            let part = first_part ps qs one two whole in
            absurd (omega (arith, owner_moved ps joint 1 part d (omega (arith, z)) (point_in ps d 0 i))))
            (eq_or d 0)
        by_loop (in_second d e i) = ⊎_elim
            (λ (z : d ≡ 0). inr (omega arith))
            (λ (z : d ≡ 0 → ⊥).
            let o : owner_of (joined_points ps qs) (suc (length ps) + d) ≡ 0 = rw e at r.owner in
            let part = second_part ps qs one two whole in
            let l = point_in qs d 0 i in
            absurd (omega (arith, owner_moved qs joint (suc (length ps)) part d (omega (arith, z)) l)))
            (eq_or d 0)

    pub right_in_outer : loops_right_in (joined_points ps qs) 0 ≡ 1 ∷ (suc (length ps) ∷ [])
    right_in_outer =
        rising_equal 0 (length joint) (loops_right_in joint 0) two_loops (right_rising joint 0) rising
        (λ x. bool_by (is_in x (loops_right_in joint 0)) (is_in x two_loops) (to x) (from x))
      where
        two_loops : List ℕ
        two_loops = 1 ∷ (suc (length ps) ∷ [])

        some : 0 < length ps
        some = point_in ps 0 0 (starts_with_do ps one)

        rising : are_gaps_from 0 (length (joined_points ps qs)) two_loops ≡ true
        rising =
            let n = length joint in
            and_intro (lt-ltb 1 n (omega (arith, joint_length ps qs)))
            (and_intro (lt-ltb 1 (suc (length ps)) (omega (arith, some)))
            (and_intro (lt-ltb (suc (length ps)) n (omega (arith, joint_length ps qs))) refl))

        to : (x : ℕ) → is_in x (loops_right_in (joined_points ps qs) 0) ≡ true → is_in x two_loops ≡ true
        to x h = ⊎_elim
            (λ (z : x ≡ 1). rw z)
            (λ (z : x ≡ suc (length ps)). in_later x 1 (suc (length ps) ∷ []) (rw z (in_here (suc (length ps)) [])))
            (in_outer x (sym (right_listed joint 0 x) ∙ h))

        from : (x : ℕ) → is_in x two_loops ≡ true → is_in x (loops_right_in (joined_points ps qs) 0) ≡ true
        from x h = ⊎_elim
            (λ (z : x ≡ 1).
            rw z (right_listed joint 0 1 ∙ part_in_outer ps 1 (omega arith) (first_part ps qs one two whole)))
            (λ (z : is_in x (suc (length ps) ∷ []) ≡ true). ⊎_elim
            (λ (w : x ≡ suc (length ps)).
            rw w
            (right_listed joint 0 (suc (length ps)) ∙
            part_in_outer qs (suc (length ps)) (omega arith) (second_part ps qs one two whole)))
            (λ (w : is_in x [] ≡ true). never w)
            (in_cons x (suc (length ps)) [] z))
            (in_cons x 1 (suc (length ps) ∷ []) h)
