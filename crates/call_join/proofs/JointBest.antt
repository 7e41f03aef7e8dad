-- What is Best of a joint paper: a placement that is Best of the first, then one that is Best of the second, moved
-- along.
-- Main definition: `TwoBests`. Main statement: `joined_best`.
use mathlib.Core.Path.{◌≡◌, refl}
use mathlib.Core.Bool.{true, false}
use mathlib.Core.List.{List, []}
use mathlib.Core.Logic.{◌↔◌}
use Prim.Native.Nat.{ℕ}
use Rattle.paper_nests.specs.Nests.{Nest}
use Rattle.paper_nests.specs.Valid.{is_valid}
use Rattle.paper_placements.specs.Placements.{are_gaps}
use Rattle.paper_order.specs.Keys.{IsKey}
use Rattle.paper_order.specs.Verdicts.{Best, mark_of}
use Rattle.paper_placements.proofs.Cuts.{avoids_none, correct_gaps}
use Rattle.paper_barred.proofs.Blocked.{unbarred_open}
use Rattle.plan_theorem.specs.KeyOf.{key_of}
use Rattle.plan_theorem.proofs.Marking.{best_iff_key}
use Rattle.call_join.specs.JointNests.{joined, joined_gaps, Papers, exceeds}
use Rattle.call_join.proofs.JointValid.{Joint, joint_by}
use Rattle.call_join.proofs.JointPlacements.{first_of, second_of}
use Rattle.call_join.proofs.JointKey.{KeyParts, both_key, key_parts}

-- a placement of the joint paper that is two placements, each Best of its paper
pub record TwoBests (n m : Nest) (gs : List ℕ) : Type 0 where
  pub first : List ℕ
  pub second : List ℕ
  pub is : gs ≡ joined_gaps n first second
  pub first_gaps : are_gaps n first ≡ true
  pub second_gaps : are_gaps m second ≡ true
  pub first_best : mark_of n (key_of n) first ≡ Best
  pub second_best : mark_of m (key_of m) second ≡ Best

-- where nothing is barred, Best is said of the keys
unbarred_iff
    : (n : Nest)
    → is_valid n ≡ true
    → n.barred ≡ []
    → (gs : List ℕ)
    → are_gaps n gs ≡ true
    → (mark_of n (key_of n) gs ≡ Best) ↔ IsKey n gs
unbarred_iff n valid none gs gaps =
    best_iff_key n valid (unbarred_open n valid none) gs gaps (avoids_none n.barred none gs)

module _ (n m : Nest) (papers : Papers n m) (fits : exceeds n m ≡ false) where
  j : Joint n m
  j = joint_by n m papers fits

  -- of each paper
  first_iff : (gs : List ℕ) → are_gaps n gs ≡ true → (mark_of n (key_of n) gs ≡ Best) ↔ IsKey n gs
  first_iff gs gaps = unbarred_iff n papers.first papers.first_unbarred gs gaps

  second_iff : (gs : List ℕ) → are_gaps m gs ≡ true → (mark_of m (key_of m) gs ≡ Best) ↔ IsKey m gs
  second_iff gs gaps = unbarred_iff m papers.second papers.second_unbarred gs gaps

  best_parts : (gs : List ℕ) → IsKey (joined n m) gs → TwoBests n m gs
  best_parts gs key = from (key_parts n m j gs key)
    where
      from : KeyParts n m j gs → TwoBests n m gs
      from p =
          let a = first_of n m j gs in
          let b = second_of n m j gs in
          let a_gaps = correct_gaps n a p.first.correct in
          let b_gaps = correct_gaps m b p.second.correct in
          record {
            first = a;
            second = b;
            is = p.is;
            first_gaps = a_gaps;
            second_gaps = b_gaps;
            first_best = (first_iff a a_gaps).1 p.first;
            second_best = (second_iff b b_gaps).1 p.second;
          }

  parts_best : (gs : List ℕ) → TwoBests n m gs → IsKey (joined n m) gs
  parts_best gs p =
      let a = (first_iff p.first p.first_gaps).0 p.first_best in
      let b = (second_iff p.second p.second_gaps).0 p.second_best in
      rw p.is (both_key n m j p.first p.second a b)

  -- a joint paper's Best is what two Bests were
  pub joined_best
      : (gs : List ℕ)
      → are_gaps (joined n m) gs ≡ true
      → (mark_of (joined n m) (key_of (joined n m)) gs ≡ Best) ↔ TwoBests n m gs
  joined_best gs gaps =
      let best = unbarred_iff (joined n m) j.valid refl gs gaps in
      (λ h. best_parts gs (best.0 h), λ p. best.1 (parts_best gs p))
