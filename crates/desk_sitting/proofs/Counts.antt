-- Laws of the fresh counts: a gap more adds one where the dependence has it.
-- Main statements: `count_with`, `count_at_with`, `zero_uncut`, `count_short`, `count-at`, `count_beyond`,
-- `uncut_take`, `uncut_drop`, `none_uncut`, `correct_by_count`, `count_of_correct`.
use mathlib.Core.Path.{◌≡◌, refl}
use mathlib.Core.Bool.{Bool, true, false, ◌||◌, not}
use mathlib.Core.List.{List, [], ◌∷◌}
use Prim.Native.Nat.{ℕ, zero, suc, ◌+◌, ◌≤◌}
use native.Mathlib.Omega.{arith}
use lib.Dec.{eqb, ltb}
use lib.ListN.{length, take, drop}
use borrow.Author.Tests.{ne_eqb}
use Rattle.laws.specs.Choice.{pick}
use Rattle.laws.specs.Bits.{one}
use Rattle.paper_nests.specs.Nests.{Dep, Nest}
use Rattle.paper_nests.specs.Gaps.{has_gap}
use Rattle.paper_placements.specs.Placements.{cuts, uncut_from, are_gaps, avoids, is_correct}
use Rattle.paper_placements.specs.GapLists.{with_gap}
use Rattle.paper_placements.proofs.Cuts.{uncut_none, correct_by, correct_uncut}
use Rattle.desk_sitting.specs.Counts.{cut_count, count_at, has_gap_at, uncut_count}

-- ---- of one dependence

module _ (ps : List ℕ) where
  -- a gap more adds one where the dependence has it
  pub count_with
      : (e : Dep) (g : ℕ) (gs : List ℕ) → cut_count ps e (with_gap g gs) ≡ cut_count ps e gs + one (has_gap ps e g)
  count_with e g [] = omega arith
  count_with e g (x ∷ xs) = go (ltb g x) (count_with e g xs)
    where
      go
          : (t : Bool)
          → cut_count ps e (with_gap g xs) ≡ cut_count ps e xs + one (has_gap ps e g)
          → cut_count ps e (pick t (g ∷ (x ∷ xs)) (x ∷ with_gap g xs)) ≡
          (one (has_gap ps e x) + cut_count ps e xs) + one (has_gap ps e g)
      go true r = omega arith
      go false r = omega arith

  -- a dependence is uncut where its count is 0
  pub zero_uncut : (e : Dep) (gs : List ℕ) → eqb (cut_count ps e gs) 0 ≡ not (cuts ps e gs)
  zero_uncut e [] = refl
  zero_uncut e (g ∷ gs) = go (has_gap ps e g) (zero_uncut e gs)
    where
      go
          : (t : Bool)
          → eqb (cut_count ps e gs) 0 ≡ not (cuts ps e gs)
          → eqb (one t + cut_count ps e gs) 0 ≡ not (t || cuts ps e gs)
      go true r = ne_eqb (1 + cut_count ps e gs) 0 (λ w. omega arith)
      go false r = let z : 0 + cut_count ps e gs ≡ cut_count ps e gs = omega arith in rw z r

  -- no more than the gaps held
  pub count_short : (e : Dep) (gs : List ℕ) → cut_count ps e gs ≤ length gs
  count_short e [] = omega arith
  count_short e (g ∷ gs) = go (has_gap ps e g) (count_short e gs)
    where
      go : (t : Bool) → cut_count ps e gs ≤ length gs → one t + cut_count ps e gs ≤ suc (length gs)
      go true h = omega arith
      go false h = omega arith

  -- ---- of the dependences by their numbers

  pub count-at
      : (ds : List Dep) (gs : List ℕ) (i : ℕ) (e : Dep) (es : List Dep)
      → drop i ds ≡ e ∷ es
      → count_at ps ds gs i ≡ cut_count ps e gs
  count-at [] gs zero e es q = let z : ◌≡◌ {A = ℕ} 0 1 = cc q in absurd (omega arith)
  count-at [] gs (suc i) e es q = let z : ◌≡◌ {A = ℕ} 0 1 = cc q in absurd (omega arith)
  count-at (x ∷ xs) gs zero e es q = let z : x ≡ e = cc q in rw z
  count-at (x ∷ xs) gs (suc i) e es q = count-at xs gs i e es q

  pub count_beyond : (ds : List Dep) (gs : List ℕ) (i : ℕ) → length ds ≤ i → count_at ps ds gs i ≡ 0
  count_beyond [] gs i h = refl
  count_beyond (x ∷ xs) gs zero h = absurd (omega arith)
  count_beyond (x ∷ xs) gs (suc i) h = count_beyond xs gs i (omega arith)

  -- one more for each dependence that has the gap
  pub count_at_with
      : (ds : List Dep) (g : ℕ) (gs : List ℕ) (i : ℕ)
      → count_at ps ds (with_gap g gs) i ≡ count_at ps ds gs i + one (has_gap_at ps ds i g)
  count_at_with [] g gs i = omega arith
  count_at_with (x ∷ xs) g gs zero = count_with x g gs
  count_at_with (x ∷ xs) g gs (suc i) = count_at_with xs g gs i

  -- ---- of the uncut dependences

  -- those before i, dependence i, and those after it
  pub uncut_take
      : (ds : List Dep) (gs : List ℕ) (i : ℕ) (e : Dep) (es : List Dep)
      → drop i ds ≡ e ∷ es
      → uncut_count ps (take (suc i) ds) gs ≡ uncut_count ps (take i ds) gs + one (eqb (cut_count ps e gs) 0)
  uncut_take [] gs zero e es q = let z : ◌≡◌ {A = ℕ} 0 1 = cc q in absurd (omega arith)
  uncut_take [] gs (suc i) e es q = let z : ◌≡◌ {A = ℕ} 0 1 = cc q in absurd (omega arith)
  uncut_take (x ∷ xs) gs zero e es q =
      let z : x ≡ e = cc q in
      rw (zero_uncut e gs, z) (omega arith)
  uncut_take (x ∷ xs) gs (suc i) e es q = omega (arith, uncut_take xs gs i e es q)

  pub uncut_drop
      : (ds : List Dep) (gs : List ℕ) (i : ℕ) (e : Dep)
      → drop i ds ≡ e ∷ drop (suc i) ds
      → uncut_count ps (drop i ds) gs ≡ one (eqb (cut_count ps e gs) 0) + uncut_count ps (drop (suc i) ds) gs
  uncut_drop ds gs i e q = rw (q, zero_uncut e gs)

  -- no barrier, no dependence cut
  pub none_uncut : (ds : List Dep) → uncut_count ps ds [] ≡ length ds
  none_uncut [] = refl
  none_uncut (x ∷ xs) = omega (arith, none_uncut xs)

  pub none_counted : (ds : List Dep) (i : ℕ) → count_at ps ds [] i ≡ 0
  none_counted [] i = refl
  none_counted (x ∷ xs) zero = refl
  none_counted (x ∷ xs) (suc i) = none_counted xs i

  -- no more than there are
  pub uncut_few : (ds : List Dep) (gs : List ℕ) → uncut_count ps ds gs ≤ length ds
  uncut_few [] gs = omega arith
  uncut_few (x ∷ xs) gs = go (not (cuts ps x gs)) (uncut_few xs gs)
    where
      go : (t : Bool) → uncut_count ps xs gs ≤ length xs → one t + uncut_count ps xs gs ≤ suc (length xs)
      go true h = omega arith
      go false h = omega arith

  -- ---- of a correct placement

  none_first : (i : ℕ) (ds : List Dep) (gs : List ℕ) → uncut_count ps ds gs ≡ 0 → uncut_from i ps ds gs ≡ 0
  none_first i [] gs h = refl
  none_first i (e ∷ es) gs h = go (cuts ps e gs) h (none_first (suc i) es gs)
    where
      go
          : (t : Bool)
          → one (not t) + uncut_count ps es gs ≡ 0
          → (uncut_count ps es gs ≡ 0 → uncut_from (suc i) ps es gs ≡ 0)
          → pick t (uncut_from (suc i) ps es gs) (suc i) ≡ 0
      go true q rest = rest (omega arith)
      go false q rest = absurd (omega arith)

  first_none : (i : ℕ) (ds : List Dep) (gs : List ℕ) → uncut_from i ps ds gs ≡ 0 → uncut_count ps ds gs ≡ 0
  first_none i [] gs h = refl
  first_none i (e ∷ es) gs h = go (cuts ps e gs) h (first_none (suc i) es gs)
    where
      go
          : (t : Bool)
          → pick t (uncut_from (suc i) ps es gs) (suc i) ≡ 0
          → (uncut_from (suc i) ps es gs ≡ 0 → uncut_count ps es gs ≡ 0)
          → one (not t) + uncut_count ps es gs ≡ 0
      go true q rest = omega (arith, rest q)
      go false q rest = absurd (omega arith)

-- none uncut and no barred gap is correct
pub correct_by_count
    : (n : Nest) (gs : List ℕ)
    → are_gaps n gs ≡ true
    → avoids n.barred gs ≡ true
    → uncut_count n.points n.deps gs ≡ 0
    → is_correct n gs ≡ true
correct_by_count n gs h v z = correct_by n gs h v (uncut_none n gs (none_first n.points 0 n.deps gs z))

pub count_of_correct
    : (n : Nest) (gs : List ℕ) → is_correct n gs ≡ true → uncut_count n.points n.deps gs ≡ 0
count_of_correct n gs h = first_none n.points 0 n.deps gs (correct_uncut n gs h)
