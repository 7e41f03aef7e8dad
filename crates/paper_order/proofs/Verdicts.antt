-- Verdicts mean what they say: Best is said of the keys alone, Dearer of a loop that costs more than in the key, Uncut
-- of the lowest uncut dependence.
-- Main statements: `best_iff_key`, `dearer_greater`, `uncut_iff_lowest`.
use mathlib.Core.Path.{◌≡◌, refl}
use mathlib.Core.Bool.{true}
use mathlib.Core.List.{List}
use mathlib.Core.Logic.{◌↔◌}
use Prim.Native.Nat.{ℕ, zero, suc, ◌<◌}
use native.Mathlib.Omega.{arith}
use Rattle.paper_nests.specs.Nests.{Dep, Nest}
use Rattle.paper_nests.specs.Loops.{is_do, end_of}
use Rattle.paper_nests.specs.Valid.{is_shape}
use Rattle.paper_placements.specs.Placements.{uncut, differ, are_gaps, avoids, is_correct, loop_count}
use Rattle.paper_order.specs.Keys.{IsKey}
use Rattle.paper_order.specs.Verdicts.{Uncut, Dearer, Best, verdict_by, mark_of}
use Rattle.paper_placements.proofs.Cuts.{correct_uncut, correct_by, uncut_none, LowestUncut, uncut_first, first-uncut}
use Rattle.paper_placements.proofs.LoopLists.{Differ, differ_none, none_differ, differ_at}
use Rattle.paper_order.proofs.LoopOrder.{as_good_elim}
use Rattle.paper_order.proofs.Keys.{keys_agree, same_counts_key}

-- how each verdict comes about
module _ (n : Nest) (key gs : List ℕ) where
  uncut_by : (u d i : ℕ) → verdict_by n key gs u d ≡ Uncut i → u ≡ suc i
  uncut_by (suc u) d i h = cc
  uncut_by zero zero i h = let z : ◌≡◌ {A = ℕ} 0 1 = cc in absurd (omega arith)
  uncut_by zero (suc d) i h = let z : ◌≡◌ {A = ℕ} 0 1 = cc in absurd (omega arith)

  best_by : (u d : ℕ) → verdict_by n key gs u d ≡ Best → (u ≡ 0) × (d ≡ 0)
  best_by (suc u) d h = let z : ◌≡◌ {A = ℕ} 0 1 = cc in absurd (omega arith)
  best_by zero zero h = (refl, refl)
  best_by zero (suc d) h = let z : ◌≡◌ {A = ℕ} 0 1 = cc in absurd (omega arith)

  -- Dearer: nothing uncut, and counts that are those of the loop named
  record DearerBy (u d loop theirs ours : ℕ) : Type 0 where
    all_cut : u ≡ 0
    at : d ≡ suc loop
    theirs_is : theirs ≡ loop_count n gs loop
    ours_is : ours ≡ loop_count n key loop

  dearer_by :
      (u d loop theirs ours : ℕ) → verdict_by n key gs u d ≡ Dearer loop theirs ours → DearerBy u d loop theirs ours
  dearer_by (suc u) d loop theirs ours h = let z : ◌≡◌ {A = ℕ} 0 1 = cc in absurd (omega arith)
  dearer_by zero zero loop theirs ours h = let z : ◌≡◌ {A = ℕ} 0 1 = cc in absurd (omega arith)
  dearer_by zero (suc d) loop theirs ours h =
      let e : d ≡ loop = cc in
      let t : loop_count n gs d ≡ theirs = cc in
      let o : loop_count n key d ≡ ours = cc in
      record { all_cut = refl; at = cc; theirs_is = cc; ours_is = cc }

-- 01, "The desk": Uncut with the lowest number of an uncut dependence
module _ (n : Nest) (key gs : List ℕ) (e₀ : Dep) (i : ℕ) where
  pub uncut_lowest : mark_of n key gs ≡ Uncut i → LowestUncut n.points n.deps gs e₀ i
  uncut_lowest h = uncut_first n gs e₀ i (uncut_by n key gs (uncut n gs) (differ n key gs) i h)

  pub lowest_uncut : LowestUncut n.points n.deps gs e₀ i → mark_of n key gs ≡ Uncut i
  lowest_uncut r = rw (first-uncut n gs e₀ i r)

  pub uncut_iff_lowest : (mark_of n key gs ≡ Uncut i) ↔ LowestUncut n.points n.deps gs e₀ i
  uncut_iff_lowest = (uncut_lowest, lowest_uncut)

-- what Dearer tells of a placement beside the key
pub record IsDearer (n : Nest) (key gs : List ℕ) (loop theirs ours : ℕ) : Type 0 where
  pub correct : is_correct n gs ≡ true
  pub is_loop : is_do n.points loop ≡ true
  pub theirs_is : theirs ≡ loop_count n gs loop
  pub ours_is : ours ≡ loop_count n key loop
  pub dearer : ours < theirs
  -- its ENDDO is the first at which the counts differ
  pub earlier :
      (x : ℕ) → is_do n.points x ≡ true → end_of n.points x < end_of n.points loop →
      loop_count n key x ≡ loop_count n gs x

module _
    (n : Nest) (shape : is_shape n.points ≡ true) (key gs : List ℕ) (k : IsKey n key) (gaps : are_gaps n gs ≡ true)
    (avoiding : avoids n.barred gs ≡ true)
  where
    correct_if : uncut n gs ≡ 0 → is_correct n gs ≡ true
    correct_if u = correct_by n gs gaps avoiding (uncut_none n gs u)

    pub best_key : mark_of n key gs ≡ Best → IsKey n gs
    best_key h =
        let z = best_by n key gs (uncut n gs) (differ n key gs) h in
        same_counts_key n shape key gs k (correct_if z.0) (differ_none n shape key gs z.1)

    pub key_best : IsKey n gs → mark_of n key gs ≡ Best
    key_best g = rw (correct_uncut n gs g.correct, none_differ n shape key gs (keys_agree n shape key gs k g))

    -- Best is said of the keys, and of nothing else
    pub best_iff_key : (mark_of n key gs ≡ Best) ↔ IsKey n gs
    best_iff_key = (best_key, key_best)

    -- the loop of Dearer costs more than in the key
    pub dearer_greater :
        (loop theirs ours : ℕ) → mark_of n key gs ≡ Dearer loop theirs ours → IsDearer n key gs loop theirs ours
    dearer_greater loop theirs ours h =
        let b = dearer_by n key gs (uncut n gs) (differ n key gs) loop theirs ours h in
        go b (correct_if b.all_cut) (differ_at n shape key gs loop b.at)
      where
        go :
            DearerBy n key gs (uncut n gs) (differ n key gs) loop theirs ours → is_correct n gs ≡ true →
            Differ n key gs loop → IsDearer n key gs loop theirs ours
        go b c d =
            let least = as_good_elim n shape key gs (k.least gs c) loop d.loop d.inside in
            record {
              correct = c;
              is_loop = d.loop;
              theirs_is = b.theirs_is;
              ours_is = b.ours_is;
              dearer = omega (arith, b.theirs_is, b.ours_is, d.differs);
              earlier = d.earlier;
            }
