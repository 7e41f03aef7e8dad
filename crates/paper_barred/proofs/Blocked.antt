-- A nest is blocked, some dependence has all its gaps barred, exactly if it has no correct placement: where it is not,
-- the placement of all unbarred gaps is correct.
-- Main definition: `free_gaps`. Main statements: `free_correct`, `correct_open`, `blocked_iff`, `unbarred_open`,
-- `several_open`, `blocked_alike`.
use mathlib.Core.Path.{◌≡◌, refl, sym, ◌∙◌}
use mathlib.Core.Bool.{true, false, ◌&&◌}
use mathlib.Core.List.{List, [], ◌∷◌}
use mathlib.Core.Logic.{inl, inr, ◌↔◌}
use Prim.Native.Nat.{ℕ, suc, ◌-◌, ◌<◌}
use native.Mathlib.Omega.{arith}
use lib.ListN.{length}
use Rattle.laws.specs.Choice.{is_in}
use Rattle.laws.specs.Members.{Among}
use Rattle.laws.proofs.Tests.{never_both, true_by}
use Rattle.paper_nests.specs.Nests.{Dep, Nest}
use Rattle.paper_nests.specs.Gaps.{has_gap}
use Rattle.paper_nests.specs.Ring.{one_loop}
use Rattle.paper_nests.specs.Valid.{is_shape, is_valid}
use Rattle.paper_nests.proofs.Bars.{bars_alone}
use Rattle.paper_nests.proofs.Deps.{Fits, valid_is, deps_fit, target_gap}
use Rattle.paper_nests.proofs.Loops.{end_there}
use Rattle.paper_placements.specs.Placements.{cuts, are_gaps, is_free, avoids, is_correct}
use Rattle.paper_placements.specs.Words.{gaps_of}
use Rattle.paper_placements.proofs.Cuts.{gap_cuts, avoids_by, correct_by, correct_gaps, correct_avoids, correct_cuts}
use Rattle.paper_placements.proofs.Rising.{rising_in, rising_wider}
use Rattle.paper_placements.proofs.Words.{gaps_of_same, gaps_of_in, gaps_of_rising}
use Rattle.paper_barred.specs.Reduced.{open_gaps, some_shut, is_blocked}
use Rattle.paper_barred.proofs.Reduced.{Open, open_by, cut_open}
use Rattle.paper_barred.proofs.ReducedNest.{none_shut}

-- where each has a gap that is not barred, none has all its gaps barred
pub all_open
    : (ps bs : List ℕ) (ds : List Dep) → ((e : Dep) → Among e ds → Open ps bs e) → some_shut ps bs ds ≡ false
all_open ps bs [] h = refl
all_open ps bs (e ∷ es) h =
    rw (open_by ps bs e (h e (inl refl)), all_open ps bs es (λ x a. h x (inr a)))

-- a barrier at every unbarred gap
abbrev pub free_gaps : Nest → List ℕ
free_gaps n = gaps_of (is_free n.barred) (length n.points - 1) 1

module _ (n : Nest) where
  free-gaps : are_gaps n (free_gaps n) ≡ true
  free-gaps =
      gaps_of_rising (is_free n.barred) (length n.points) (length n.points - 1) 1 0
      (λ i a b c. (omega arith, omega arith))

  free_avoids : avoids n.barred (free_gaps n) ≡ true
  free_avoids = avoids_by n.barred (free_gaps n) each
    where
      each : (i : ℕ) → is_in i (free_gaps n) ≡ true → is_free n.barred i ≡ true
      each i h =
          let r = rising_in 0 (length n.points) (free_gaps n) i free-gaps h in
          sym
          (gaps_of_in (is_free n.barred) (length n.points - 1) 1 i (omega (arith, r.0)) (omega (arith, r.1))) ∙
          h

  pub free_correct : is_blocked n ≡ false → is_correct n (free_gaps n) ≡ true
  free_correct unblocked = correct_by n (free_gaps n) free-gaps free_avoids cut
    where
      cut : (e : Dep) → Among e n.deps → cuts n.points e (free_gaps n) ≡ true
      cut e a =
          let o = none_shut n.points n.barred n.deps unblocked e a in
          let there =
          gaps_of_in (is_free n.barred) (length n.points - 1) 1 o.gap (omega (arith, o.first))
          (omega (arith, o.last)) in
          gap_cuts n.points e (free_gaps n) o.gap (there ∙ o.free) o.its

  -- a correct placement cuts each dependence at a gap that is not barred
  pub correct_open : (gs : List ℕ) → is_correct n gs ≡ true → is_blocked n ≡ false
  correct_open gs c = all_open n.points n.barred n.deps each
    where
      size : ℕ
      size = length n.points

      each : (e : Dep) → Among e n.deps → Open n.points n.barred e
      each e a =
          cut_open n.points n.barred e gs
          (rising_wider 0 size (suc (size - 1)) gs (omega arith) (correct_gaps n gs c))
          (correct_avoids n gs c)
          (correct_cuts n gs c e a)

  -- 02, job 7: some dependence has all its gaps barred if and only if no placement is correct
  pub blocked_iff : (is_blocked n ≡ true) ↔ ((gs : List ℕ) → is_correct n gs ≡ true → ⊥)
  blocked_iff = (
    λ blocked gs c. never_both blocked (correct_open gs c),
    λ none. true_by (λ unblocked. none (free_gaps n) (free_correct unblocked)),
  )

  module _ (valid : is_valid n ≡ true) where
    -- where nothing is barred, each dependence has the gap before its target
    pub unbarred_open : n.barred ≡ [] → is_blocked n ≡ false
    unbarred_open none = all_open n.points n.barred n.deps each
      where
        shape : is_shape n.points ≡ true
        shape = (valid_is n valid).shape

        at_target : (e : Dep) → Fits n.points e → (0 < e.t) × (e.t < length n.points)
        at_target e (inl line) = (omega (arith, line.forward), line.target_there)
        at_target e (inr back) = (
          omega (arith, back.target_after),
          omega (arith, back.target_before, end_there n.points shape e.d back.loop),
        )

        each : (e : Dep) → Among e n.deps → Open n.points n.barred e
        each e a =
            let fits = deps_fit n.points n.deps (valid_is n valid).all-deps e a in
            let z = at_target e fits in
            record {
              gap = e.t;
              first = z.0;
              last = omega (arith, z.1);
              its = target_gap n.points e fits;
              free = rw none refl;
            }

    -- so a nest of several loops is not blocked
    pub several_open : one_loop n.points ≡ false → is_blocked n ≡ false
    several_open several = unbarred_open (bars_alone n.points n.barred (valid_is n valid).all_bars several)

-- which gaps are barred decides, not how they are listed
pub blocked_alike
    : (ps xs ys : List ℕ) (ds : List Dep)
    → ((i : ℕ) → is_in i xs ≡ is_in i ys)
    → some_shut ps xs ds ≡ some_shut ps ys ds
blocked_alike ps xs ys [] same = refl
blocked_alike ps xs ys (e ∷ es) same =
    let gaps : open_gaps ps xs e ≡ open_gaps ps ys e =
    gaps_of_same (λ g. has_gap ps e g && is_free xs g) (λ g. has_gap ps e g && is_free ys g) (length ps - 1) 1
    (λ i a b. rw (same i)) in
    rw (gaps, blocked_alike ps xs ys es same)
