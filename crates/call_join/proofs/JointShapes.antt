-- The points of two nests inside a new outer loop: how deep they go, that they make loops within the limit, and that
-- each nest is a part of them. The outermost loop has three gaps of its own: before the first nest, between the two,
-- and before its ENDDO.
-- Main statements: `joint_length`, `joint_deepest`, `joint_shape`; `outer_owns`; `first_part`, `second_part`,
-- `joint_loop`, `joint_gap`.
use mathlib.Core.Path.{◌≡◌, refl, sym, ◌∙◌}
use mathlib.Core.Bool.{Bool, true, false}
use mathlib.Core.List.{List, [], ◌∷◌, ◌++◌}
use mathlib.Core.Logic.{◌⊎◌, inl, inr, ⊎_elim}
use Prim.Native.Nat.{ℕ, zero, suc, ◌+◌, ◌-◌, ◌≤◌, ◌<◌, max}
use native.Mathlib.Omega.{arith}
use lib.Dec.{eqb}
use lib.ListN.{length, get_or, length-append, get_or-append}
use lib.Seq.{get_or-append-add}
use Rattle.laws.specs.Choice.{pick}
use Rattle.laws.proofs.Tests.{never, eq_or, le_or}
use Rattle.paper_nests.specs.Kinds.{DO, ENDDO, DEPTH}
use Rattle.paper_nests.specs.Loops.{is_do, is_end, deeper, owner_of}
use Rattle.paper_nests.specs.Valid.{is_shape}
use Rattle.paper_nests.proofs.Levels.{lev, lev_step, lev_zero, lev_inside, lev_falls, lev_last, point_in}
use Rattle.paper_nests.proofs.Loops.{owner_lower, owner_below}
use Rattle.call_join.specs.JointNests.{joined_points, deepest}
use Rattle.call_join.proofs.Depths.{deepest_before, closes_before}
use Rattle.call_join.proofs.Parts.{Part, do_at}

pub joint_length : (ps qs : List ℕ) → length (joined_points ps qs) ≡ length ps + length qs + 2
joint_length ps qs =
    omega (arith, length-append ps (qs ++ (ENDDO ∷ [])), length-append qs (ENDDO ∷ []))

module _ (ps qs : List ℕ) (one : is_shape ps ≡ true) (two : is_shape qs ≡ true) where
  -- one level more than the deeper of the two
  pub joint_deepest : deepest (joined_points ps qs) ≡ suc (max (deepest ps) (deepest qs))
  joint_deepest =
      omega (arith, deepest_before ps (qs ++ (ENDDO ∷ [])) one, deepest_before qs (ENDDO ∷ []) two)

  pub joint_shape : deepest (joined_points ps qs) ≤ DEPTH → is_shape (joined_points ps qs) ≡ true
  joint_shape l =
      closes_before ps (qs ++ (ENDDO ∷ [])) one
      (closes_before qs (ENDDO ∷ []) two refl (omega (arith, joint_deepest)))
      (omega (arith, joint_deepest))

-- a gap at depth 1 is the outermost loop's own
pub outer_owns : (ps : List ℕ) → is_shape ps ≡ true → (g : ℕ) → 0 < g → g < length ps → lev ps g ≡ 1 → owner_of ps g ≡ 0
outer_owns ps shape g a b e =
    let u = owner_of ps g in
    let l = owner_lower ps shape g a b in
    let m = owner_below ps shape g a b in
    ⊎_elim
    (λ (z : u ≡ 0). z)
    (λ (z : u ≡ 0 → ⊥). absurd (omega (arith, lev_inside ps shape u (omega (arith, z)) (omega arith))))
    (eq_or u 0)

-- points that stand at k, where the depth is 1, are one level deeper
part-by
    : (ps qs : List ℕ) (k : ℕ)
    → is_shape ps ≡ true
    → is_shape qs ≡ true
    → k + length ps < length qs
    → ((i : ℕ) → i < length ps → get_or qs (k + i) 0 ≡ get_or ps i 0)
    → lev qs k ≡ 1
    → Part ps qs k
part-by ps qs k shape whole there same base =
    record { shape = shape; whole = whole; there = there; same = same; level = level }
  where
    -- the level changes as in the nest
    step : (i v w : ℕ) → v ≡ suc w → lev ps i ≡ w → i < length ps → deeper v (get_or ps i 0) ≡ suc (lev ps (suc i))
    step i v w e f l = rw (e, lev_step ps i, f) (go (eqb (get_or ps i 0) DO) (eqb (get_or ps i 0) ENDDO) refl)
      where
        go
            : (a b : Bool)
            → is_end ps i ≡ b
            → pick a (suc (suc w)) (pick b (suc w - 1) (suc w)) ≡ suc (pick a (suc w) (pick b (w - 1) w))
        go true b x = refl
        go false true x = omega (arith, lev_falls ps shape i x, f)
        go false false x = refl

    level : (i : ℕ) → i ≤ length ps → lev qs (k + i) ≡ suc (lev ps i)
    level zero l =
        let z : k + 0 ≡ k = omega arith in
        rw (z, lev_zero ps) base
    level (suc i) l =
        let z : k + suc i ≡ suc (k + i) = omega arith in
        rw (z, lev_step qs (k + i), same i (omega arith))
        (step i (lev qs (k + i)) (lev ps i) (level i (omega arith)) refl (omega arith))

module _
    (ps qs : List ℕ) (one : is_shape ps ≡ true) (two : is_shape qs ≡ true)
    (whole : is_shape (joined_points ps qs) ≡ true)
  where
    -- where the second nest begins
    abbrev second : ℕ
    second = suc (length ps)

    first_there : (i : ℕ) → i < length ps → get_or (joined_points ps qs) (1 + i) 0 ≡ get_or ps i 0
    first_there i l =
        let z : 1 + i ≡ suc i = omega arith in
        rw z (get_or-append ps (qs ++ (ENDDO ∷ [])) 0 i l)

    second_there : (i : ℕ) → i < length qs → get_or (joined_points ps qs) (suc (length ps) + i) 0 ≡ get_or qs i 0
    second_there i l =
        let z : suc (length ps) + i ≡ suc (length ps + i) = omega arith in
        rw z (get_or-append-add ps (qs ++ (ENDDO ∷ [])) i 0 ∙ get_or-append qs (ENDDO ∷ []) 0 i l)

    pub first_part : Part ps (joined_points ps qs) 1
    unfolding lev
    first_part = part-by ps (joined_points ps qs) 1 one whole (omega (arith, joint_length ps qs)) first_there refl

    pub second_part : Part qs (joined_points ps qs) (suc (length ps))
    second_part =
        part-by qs (joined_points ps qs) second two whole (omega (arith, joint_length ps qs)) second_there base
      where
        base : lev (joined_points ps qs) (suc (length ps)) ≡ 1
        base =
            let z : 1 + length ps ≡ suc (length ps) = omega arith in
            rw (lev_last ps one, z) at (first_part.level (length ps) (omega arith))

    -- a loop of the joint nest: the new one, one of the first nest, one of the second
    pub data JointLoop (x : ℕ) : Type 0 where
      outer : x ≡ 0 → JointLoop x
      in_first : (d : ℕ) → x ≡ 1 + d → is_do ps d ≡ true → JointLoop x
      in_second : (d : ℕ) → x ≡ suc (length ps) + d → is_do qs d ≡ true → JointLoop x

    last_point : get_or (joined_points ps qs) (length ps + length qs + 1) 0 ≡ ENDDO
    last_point =
        let z : length ps + length qs + 1 ≡ suc (length ps + (length qs + 0)) = omega arith in
        rw z
        (get_or-append-add ps (qs ++ (ENDDO ∷ [])) (length qs + 0) 0 ∙ get_or-append-add qs (ENDDO ∷ []) 0 0)

    pub joint_loop : (x : ℕ) → is_do (joined_points ps qs) x ≡ true → JointLoop x
    joint_loop x h = from (eq_or x 0) (le_or x (length ps)) (le_or x (length ps + length qs))
      where
        from
            : (x ≡ 0) ⊎ ((x ≡ 0) → ⊥)
            → (x ≤ length ps) ⊎ (length ps < x)
            → (x ≤ length ps + length qs) ⊎ (length ps + length qs < x)
            → JointLoop x
        from (inl z) b c = outer z
        from (inr z) (inl b) c =
            let e : x ≡ 1 + (x - 1) = omega (arith, z) in
            in_first (x - 1) e
            (sym (do_at ps (joined_points ps qs) 1 first_part (x - 1) (omega arith)) ∙ rw (← e) h)
        from (inr z) (inr b) (inl c) =
            let e : x ≡ suc (length ps) + (x - suc (length ps)) = omega arith in
            in_second (x - second) e
            (sym (do_at qs (joined_points ps qs) second second_part (x - second) (omega arith)) ∙ rw (← e) h)
        from (inr z) (inr b) (inr c) =
            let l = point_in (joined_points ps qs) x 0 h in
            let e : x ≡ length ps + length qs + 1 = omega (arith, joint_length ps qs) in
            let y : is_do (joined_points ps qs) (length ps + length qs + 1) ≡ true = rw e at h in
            never (rw last_point at y)

    -- a gap of the joint nest: one of the new loop's own, one of the first nest, one of the second
    pub data JointGap (g : ℕ) : Type 0 where
      own : owner_of (joined_points ps qs) g ≡ 0 → JointGap g
      of_first : (i : ℕ) → g ≡ 1 + i → 0 < i → i < length ps → JointGap g
      of_second : (i : ℕ) → g ≡ suc (length ps) + i → 0 < i → i < length qs → JointGap g

    own_at : (g : ℕ) → 0 < g → g < length (joined_points ps qs) → lev (joined_points ps qs) g ≡ 1 → JointGap g
    own_at g a b e = own (outer_owns (joined_points ps qs) whole g a b e)

    pub joint_gap : (g : ℕ) → 0 < g → g < length (joined_points ps qs) → JointGap g
    joint_gap g a b = from (eq_or g 1) (le_or g (length ps)) (eq_or g second) (le_or g (length ps + length qs))
      where
        long : length (joined_points ps qs) ≡ length ps + length qs + 2
        long = joint_length ps qs

        from
            : (g ≡ 1) ⊎ ((g ≡ 1) → ⊥)
            → (g ≤ length ps) ⊎ (length ps < g)
            → (g ≡ suc (length ps)) ⊎ ((g ≡ suc (length ps)) → ⊥)
            → (g ≤ length ps + length qs) ⊎ (length ps + length qs < g)
            → JointGap g
        from (inl z) x y w =
            own_at g a b (rw z (rw (lev_zero ps) at (first_part.level 0 (omega arith))))
        from (inr z) (inl x) y w = of_first (g - 1) (omega arith) (omega (arith, z)) (omega arith)
        from (inr z) (inr x) (inl y) w =
            let e : suc (length ps) + 0 ≡ suc (length ps) = omega arith in
            own_at g a b (rw y (rw (lev_zero qs, e) at (second_part.level 0 (omega arith))))
        from (inr z) (inr x) (inr y) (inl w) =
            of_second (g - suc (length ps)) (omega arith) (omega (arith, y)) (omega arith)
        from (inr z) (inr x) (inr y) (inr w) =
            let e : g ≡ suc (length ps) + length qs = omega (arith, long) in
            own_at g a b (rw e (rw (lev_last qs two) at (second_part.level (length qs) (omega arith))))
