-- The order loop by loop is the tree order of 001, definition 1.
-- A tree is the loop's count over the trees of the loops directly inside it; each loop inside a loop is one of these or
-- inside one of these. So two trees are equal where all counts agree, and the order unrolls to a fact of every loop.
-- Main statements: `tree_order`, `equal_trees`.
use mathlib.Core.Path.{◌≡◌, refl, ap}
use mathlib.Core.Bool.{Bool, true, ◌&&◌, ◌||◌, not}
use mathlib.Core.List.{List, [], ◌∷◌, ◌++◌}
use mathlib.Core.Logic.{◌⊎◌, inl, inr, ⊎_elim, ◌↔◌}
use Prim.Native.Nat.{ℕ, zero, suc, ◌+◌, ◌≤◌, ◌<◌}
use native.Mathlib.Omega.{arith}
use lib.Dec.{eqb, leb}
use lib.ListN.{length}
use borrow.Author.Tests.{eqb-true, eq-eqb, leb-true, le-leb}
use Rattle.laws.specs.Choice.{pick, is_in}
use Rattle.laws.proofs.Tests.{never, and_intro, and_true}
use Rattle.laws.proofs.Implies.{implied, implies_by}
use Rattle.laws.proofs.Members.{every_in, each_of, every_by, gather, From, in_gathered, gathered_in}
use Rattle.paper_nests.specs.Nests.{Nest}
use Rattle.paper_nests.specs.Loops.{is_do, end_of, in_loop}
use Rattle.paper_nests.specs.Valid.{is_shape}
use Rattle.paper_nests.proofs.Levels.{point_in, starts_with_do}
use Rattle.paper_nests.proofs.Loops.{inside_lies, end-after, end_there}
use Rattle.paper_placements.specs.Placements.{loop_count}
use Rattle.paper_order.specs.LoopOrder.{as_good}
use Rattle.paper_order.specs.Trees.{Tree, node, Forest, bare, beside}
use Rattle.paper_order.specs.Trees.{same_tree, same_forest, as_good_tree, as_good_forest}
use Rattle.paper_order.specs.Trees.{is_right_in, right_in_from, loops_right_in, forest_of, tree_from, tree_of}
use Rattle.paper_placements.proofs.Inside.{inside_ends, inside_inside, inside_outermost}
use Rattle.paper_order.proofs.DirectlyInside.{Around, RightIn, right_in_lies, right_in_around}
use Rattle.paper_order.proofs.LoopOrder.{SameCounts, SameInside, as_good_elim, as_good_intro}

-- the test of trees says that they are equal
mutual
  pub same_tree_equal : (t u : Tree) → same_tree t u ≡ true → t ≡ u
  same_tree_equal (node c ts) (node k us) h =
      let z = and_true (eqb c k) (same_forest ts us) h in
      let p : c ≡ k = eqb-true c k z.0 in
      let q : ts ≡ us = same_forest_equal ts us z.1 in
      cc

  pub same_forest_equal : (ts us : Forest) → same_forest ts us ≡ true → ts ≡ us
  same_forest_equal bare bare h = refl
  same_forest_equal bare (beside u us) h = never h
  same_forest_equal (beside t ts) bare h = never h
  same_forest_equal (beside t ts) (beside u us) h =
      let z = and_true (same_tree t u) (same_forest ts us) h in
      let p : t ≡ u = same_tree_equal t u z.0 in
      let q : ts ≡ us = same_forest_equal ts us z.1 in
      cc

mutual
  same_tree_self : (t : Tree) → same_tree t t ≡ true
  same_tree_self (node c ts) = and_intro (eq-eqb c c refl) (same_forest_self ts)

  same_forest_self : (ts : Forest) → same_forest ts ts ≡ true
  same_forest_self bare = refl
  same_forest_self (beside t ts) = and_intro (same_tree_self t) (same_forest_self ts)

-- the loops directly inside d
right_in_gathered : (f x : ℕ) (ps : List ℕ) (d : ℕ) → right_in_from f x ps d ≡ gather (is_right_in ps d) (λ i. i) f x
right_in_gathered zero x ps d = refl
right_in_gathered (suc f) x ps d =
    ap (λ (l : List ℕ). pick (is_right_in ps d x) (x ∷ []) [] ++ l) (right_in_gathered f (suc x) ps d)

right_in_listed : (ps : List ℕ) (d x : ℕ) → is_right_in ps d x ≡ true → is_in x (loops_right_in ps d) ≡ true
right_in_listed ps d x h =
    let l : x < length ps = point_in ps x 0 (right_in_lies ps d x h).loop in
    rw (right_in_gathered (length ps) 0 ps d)
    (gathered_in (is_right_in ps d) (λ i. i) (length ps) 0 x (omega arith) (omega arith) h)

listed_right_in : (ps : List ℕ) (d x : ℕ) → is_in x (loops_right_in ps d) ≡ true → is_right_in ps d x ≡ true
listed_right_in ps d x h =
    let r : From (is_right_in ps d) (λ i. i) (length ps) 0 x =
    in_gathered (is_right_in ps d) (λ i. i) (length ps) 0 x (rw (right_in_gathered (length ps) 0 ps d) at h) in
    rw (← r.is) r.passed

-- forests over one list are compared tree by tree
module _ (t u : ℕ → Tree) where
  same_every :
      (xs : List ℕ) → same_forest (forest_of t xs) (forest_of u xs) ≡ every_in (λ (x : ℕ). same_tree (t x) (u x)) xs
  same_every [] = refl
  same_every (x ∷ xs) = ap (λ (r : Bool). same_tree (t x) (u x) && r) (same_every xs)

  good_every :
      (xs : List ℕ) → as_good_forest (forest_of t xs) (forest_of u xs) ≡ every_in (λ (x : ℕ). as_good_tree (t x) (u x)) xs
  good_every [] = refl
  good_every (x ∷ xs) = ap (λ (r : Bool). as_good_tree (t x) (u x) && r) (good_every xs)

-- d is a loop of no more than h points, so that it is at most h deep
abbrev High : List ℕ → ℕ → ℕ → Type 0
High ps h d = (is_do ps d ≡ true) × (end_of ps d ≤ d + h)

-- y is loop d or a loop inside it
abbrev In : List ℕ → ℕ → ℕ → Type 0
In ps d y = (is_do ps y ≡ true) × ((y ≡ d) ⊎ (in_loop ps d y ≡ true))

module _ (ps : List ℕ) (shape : is_shape ps ≡ true) (d : ℕ) (i : is_do ps d ≡ true) where
  -- the loops directly inside d, each with all inside it, are all the loops inside d
  each-inside :
      (C : ℕ → Type 0) → ((x : ℕ) → is_in x (loops_right_in ps d) ≡ true → (y : ℕ) → In ps x y → C y) →
      (y : ℕ) → is_do ps y ≡ true → in_loop ps d y ≡ true → C y
  each-inside C s y m q =
      let r : Around ps d y = right_in_around ps shape d y i m q in
      s r.loop (right_in_listed ps d r.loop r.right_in) y (m, r.holds)

  inside_each :
      (C : ℕ → Type 0) → ((y : ℕ) → is_do ps y ≡ true → in_loop ps d y ≡ true → C y) →
      (x : ℕ) → is_in x (loops_right_in ps d) ≡ true → (y : ℕ) → In ps x y → C y
  inside_each C s x k y m =
      let r : RightIn ps d x = right_in_lies ps d x (listed_right_in ps d x k) in
      s y m.0 (⊎_elim
      (λ (z : y ≡ x). rw z r.inside)
      (λ (z : in_loop ps x y ≡ true). inside_inside ps shape d x y i r.loop r.inside z)
      m.1)

  -- they are loops, and lower than d
  listed_lower : (h : ℕ) → end_of ps d ≤ d + suc h → (x : ℕ) → is_in x (loops_right_in ps d) ≡ true → High ps h x
  listed_lower h l x k =
      let r : RightIn ps d x = right_in_lies ps d x (listed_right_in ps d x k) in
      (r.loop, omega (arith, inside_lies ps d x r.inside, inside_ends ps shape d x i r.loop r.inside))

module _ (n : Nest) (shape : is_shape n.points ≡ true) (a b : List ℕ) where
  -- at loop y: the same counts; the order loop by loop
  abbrev Same : ℕ → Type 0
  Same y = loop_count n a y ≡ loop_count n b y

  abbrev Good : ℕ → Type 0
  Good y = SameInside n a b y → loop_count n a y ≤ loop_count n b y

  -- the trees of d at height h are equal; in order; the forests right under d are equal; in order
  abbrev same_at : ℕ → ℕ → Bool
  same_at h d = same_tree (tree_from h n a d) (tree_from h n b d)

  abbrev good_at : ℕ → ℕ → Bool
  good_at h d = as_good_tree (tree_from h n a d) (tree_from h n b d)

  abbrev same_under : ℕ → ℕ → Bool
  same_under h d =
      same_forest
      (forest_of (tree_from h n a) (loops_right_in n.points d))
      (forest_of (tree_from h n b) (loops_right_in n.points d))

  abbrev good_under : ℕ → ℕ → Bool
  good_under h d =
      as_good_forest
      (forest_of (tree_from h n a) (loops_right_in n.points d))
      (forest_of (tree_from h n b) (loops_right_in n.points d))

  -- what the trees say of d and all loops inside it, the forests say of the loops inside it
  abbrev Within : (ℕ → Type 0) → ℕ → Type 0
  Within C d = (y : ℕ) → In n.points d y → C y

  abbrev Under : (ℕ → Type 0) → ℕ → Type 0
  Under C d = (y : ℕ) → is_do n.points y ≡ true → in_loop n.points d y ≡ true → C y

  module _ (h d : ℕ) (i : High n.points (suc h) d) where
    same-under :
        ((x : ℕ) → High n.points h x → same_at h x ≡ true → Within Same x) →
        same_under h d ≡ true → Under Same d
    same-under r e =
        let z = rw (same_every (tree_from h n a) (tree_from h n b) (loops_right_in n.points d)) at e in
        each-inside n.points shape d i.0 Same
        (λ x k. r x (listed_lower n.points shape d i.0 h i.1 x k)
        (each_of (same_at h) (loops_right_in n.points d) z x k))

    under_same :
        ((x : ℕ) → High n.points h x → Within Same x → same_at h x ≡ true) →
        Under Same d → same_under h d ≡ true
    under_same r s =
        rw (same_every (tree_from h n a) (tree_from h n b) (loops_right_in n.points d))
        (every_by (same_at h) (loops_right_in n.points d)
        (λ x k. r x (listed_lower n.points shape d i.0 h i.1 x k)
        (inside_each n.points shape d i.0 Same s x k)))

    good-under :
        ((x : ℕ) → High n.points h x → good_at h x ≡ true → Within Good x) →
        good_under h d ≡ true → Under Good d
    good-under r e =
        let z = rw (good_every (tree_from h n a) (tree_from h n b) (loops_right_in n.points d)) at e in
        each-inside n.points shape d i.0 Good
        (λ x k. r x (listed_lower n.points shape d i.0 h i.1 x k)
        (each_of (good_at h) (loops_right_in n.points d) z x k))

    under_good :
        ((x : ℕ) → High n.points h x → Within Good x → good_at h x ≡ true) →
        Under Good d → good_under h d ≡ true
    under_good r s =
        rw (good_every (tree_from h n a) (tree_from h n b) (loops_right_in n.points d))
        (every_by (good_at h) (loops_right_in n.points d)
        (λ x k. r x (listed_lower n.points shape d i.0 h i.1 x k)
        (inside_each n.points shape d i.0 Good s x k)))

    -- d with all inside it
    within : (C : ℕ → Type 0) → C d → Under C d → Within C d
    within C c s y m = ⊎_elim
        (λ (q : y ≡ d). rw q c)
        (λ (q : in_loop n.points d y ≡ true). s y m.0 q)
        m.1

  -- equal trees: the same counts in d and all inside it
  same_down : (h d : ℕ) → High n.points h d → same_at h d ≡ true → Within Same d
  same_down zero d i e = absurd (omega (arith, i.1, end-after n.points shape d i.0))
  same_down (suc h) d i e =
      let z = and_true (eqb (loop_count n a d) (loop_count n b d)) (same_under h d) e in
      within h d i Same
      (eqb-true (loop_count n a d) (loop_count n b d) z.0)
      (same-under h d i (same_down h) z.1)

  same_up : (h d : ℕ) → High n.points h d → Within Same d → same_at h d ≡ true
  same_up zero d i s = absurd (omega (arith, i.1, end-after n.points shape d i.0))
  same_up (suc h) d i s =
      and_intro
      (eq-eqb (loop_count n a d) (loop_count n b d) (s d (i.0, inl refl)))
      (under_same h d i (same_up h) (λ y m q. s y (m, inr q)))

  -- trees in order: the order loop by loop in d and all inside it
  good_down : (h d : ℕ) → High n.points h d → good_at h d ≡ true → Within Good d
  good_down zero d i e = absurd (omega (arith, i.1, end-after n.points shape d i.0))
  good_down (suc h) d i e =
      let root = leb (loop_count n a d) (loop_count n b d) in
      let z = and_true (good_under h d) (not (same_under h d) || root) e in
      within h d i Good
      (λ s. leb-true (loop_count n a d) (loop_count n b d)
      (implied (same_under h d) root z.1 (under_same h d i (same_up h) s)))
      (good-under h d i (good_down h) z.0)

  good_up : (h d : ℕ) → High n.points h d → Within Good d → good_at h d ≡ true
  good_up zero d i s = absurd (omega (arith, i.1, end-after n.points shape d i.0))
  good_up (suc h) d i s =
      and_intro
      (under_good h d i (good_up h) (λ y m q. s y (m, inr q)))
      (implies_by (same_under h d) (leb (loop_count n a d) (loop_count n b d))
      (λ e. le-leb (loop_count n a d) (loop_count n b d)
      (s d (i.0, inl refl) (same-under h d i (same_down h) e))))

  -- the whole nest: every loop is the outermost or inside it
  whole : High n.points (length n.points) 0
  whole =
      let first = starts_with_do n.points shape in
      (first, omega (arith, end_there n.points shape 0 first))

  within_whole : (y : ℕ) → is_do n.points y ≡ true → In n.points 0 y
  within_whole y h = (h, inside_outermost n.points shape y h)

  -- 001, definition 1, is the order loop by loop
  pub tree_order : (as_good n a b ≡ true) ↔ (as_good_tree (tree_of n a) (tree_of n b) ≡ true)
  tree_order = (
    λ e. good_up (length n.points) 0 whole (λ y m. as_good_elim n shape a b e y m.0),
    λ e. as_good_intro n shape a b (λ d h. good_down (length n.points) 0 whole e d (within_whole d h)),
  )

  -- equal trees are equal counts
  pub equal_trees : (tree_of n a ≡ tree_of n b) ↔ SameCounts n a b
  equal_trees = (
    λ e x h. same_down (length n.points) 0 whole (rw (← e) (same_tree_self (tree_of n a))) x (within_whole x h),
    λ s. same_tree_equal (tree_of n a) (tree_of n b) (same_up (length n.points) 0 whole (λ y m. s y m.0)),
  )
