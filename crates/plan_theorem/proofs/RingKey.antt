-- The key of a nest of one loop: it cuts every circular interval, no set of unbarred gaps that does has fewer, and of
-- those that have as few it is the first in list order.
-- Main statements: `meets_cuts`, `cuts_meets`, `ring_first_smallest`, `least_on_ring`; `barred_key_first`, of every
-- nest that is not blocked.
use mathlib.Core.Path.{◌≡◌, sym, ◌∙◌}
use mathlib.Core.Bool.{true, false}
use mathlib.Core.List.{List}
use Prim.Native.Nat.{ℕ}
use Rattle.laws.specs.Members.{Among}
use Rattle.paper_nests.specs.Nests.{Dep, Nest}
use Rattle.paper_nests.specs.Ring.{one_loop, Interval, Meets}
use Rattle.paper_nests.specs.Valid.{is_valid}
use Rattle.paper_nests.proofs.Deps.{valid_is, deps_fit}
use Rattle.paper_nests.proofs.Ring.{fits_run}
use Rattle.paper_placements.specs.Placements.{cuts, avoids, is_correct}
use Rattle.paper_order.specs.Keys.{LeastOnRing}
use Rattle.paper_placements.proofs.Cuts.{cut_has_gap, gap_cuts, correct_by, correct_avoids, correct_cuts}
use Rattle.paper_barred.specs.Reduced.{is_blocked}
use Rattle.plan_theorem.specs.KeyOf.{key_of}
use Rattle.plan_theorem.specs.OneKey.{IsFirstSmallest}
use Rattle.plan_theorem.proofs.FirstSmallest.{first_smallest}
use Rattle.plan_theorem.proofs.KeyFirst.{key_is_first}

module _ (ps : List ℕ) (e : Dep) (i : Interval ps e) (gs : List ℕ) where
  pub meets_cuts : Meets ps e i gs → cuts ps e gs ≡ true
  meets_cuts m = gap_cuts ps e gs m.gap m.held (i.gaps m.gap ∙ m.within)

  pub cuts_meets : cuts ps e gs ≡ true → Meets ps e i gs
  cuts_meets h =
      let c = cut_has_gap ps e gs h in
      record { gap = c.gap; held = c.placed; within = sym (i.gaps c.gap) ∙ c.its }

module _ (n : Nest) (valid : is_valid n ≡ true) where
  -- the circular interval of a dependence
  pub interval : one_loop n.points ≡ true → (e : Dep) → Among e n.deps → Interval n.points e
  interval one e a =
      let v = valid_is n valid in
      fits_run n.points e v.shape one (deps_fit n.points n.deps v.all-deps e a)

  module _ (unblocked : is_blocked n ≡ false) where
    -- 02, job 6: of one loop the key is the first of the smallest sets
    pub ring_first_smallest : one_loop n.points ≡ true → IsFirstSmallest n (key_of n)
    ring_first_smallest one =
        first_smallest n (valid_is n valid).shape one (key_of n) (key_is_first n valid unblocked)

    -- 01, "The nest and its gaps": a set of gaps that meets every interval cuts every dependence
    pub least_on_ring : one_loop n.points ≡ true → LeastOnRing n (key_of n)
    least_on_ring one =
        let k = ring_first_smallest one in
        record {
          interval = interval one;
          meets = λ e a i. cuts_meets n.points e i (key_of n) (correct_cuts n (key_of n) k.correct e a);
          no_fewer = λ gs gaps avoiding meets.
              k.smallest gs
              (correct_by n gs gaps avoiding
              (λ e a. meets_cuts n.points e (meets e a).0 gs (meets e a).1));
        }

    -- 02, job 7: the key is correct and without barred gaps, and of one loop the first of the smallest such sets
    pub barred_key_first
        : (is_correct n (key_of n) ≡ true) ×
        (avoids n.barred (key_of n) ≡ true) ×
        (one_loop n.points ≡ true → IsFirstSmallest n (key_of n))
    barred_key_first =
        let c = (key_is_first n valid unblocked).is_key.correct in
        (c, correct_avoids n (key_of n) c, ring_first_smallest)
