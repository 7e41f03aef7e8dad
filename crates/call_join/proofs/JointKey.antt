-- The key of a joint paper is the two keys moved along. No dependence has a gap of the new loop's own, so what a
-- correct placement has in each part is correct there, and the new loop's least count is 0. The keys of the joint nest
-- are then the pairs of keys, and the first of them is the pair of the first ones.
-- Main statements: `both_key`, `key_parts`, `joined_key`.
use mathlib.Core.Path.{◌≡◌, refl, sym, ap, ◌∙◌}
use mathlib.Core.Bool.{Bool, true, false}
use mathlib.Core.List.{List, [], ◌∷◌, ◌++◌}
use Prim.Native.Nat.{ℕ, suc, ◌+◌, ◌≤◌}
use native.Mathlib.Omega.{arith}
use lib.Dec.{eqb, ltb}
use lib.ListN.{length}
use borrow.Author.Tests.{lt-ltb, ltb-true}
use Rattle.laws.specs.Choice.{pick}
use Rattle.laws.proofs.Tests.{never, bool_by}
use Rattle.paper_nests.specs.Nests.{Nest}
use Rattle.paper_nests.specs.Loops.{is_do}
use Rattle.paper_nests.specs.Valid.{is_shape}
use Rattle.paper_nests.proofs.Levels.{starts_with_do}
use Rattle.paper_nests.proofs.Deps.{valid_is, is-valid}
use Rattle.paper_placements.specs.Placements.{are_gaps, is_correct, loop_count}
use Rattle.paper_order.specs.Keys.{IsKey}
use Rattle.paper_placements.proofs.Cuts.{correct_gaps}
use Rattle.paper_order.proofs.Keys.{keys_agree}
use Rattle.paper_order.proofs.LoopOrder.{SameInside, SameCounts, as_good_intro}
use Rattle.paper_barred.proofs.Blocked.{unbarred_open}
use Rattle.plan_theorem.specs.KeyOf.{key_of}
use Rattle.plan_theorem.specs.ListOrder.{first_in_order}
use Rattle.plan_theorem.specs.OneKey.{IsFirstKey}
use Rattle.plan_theorem.proofs.KeyFirst.{key_is_first, first_only}
use Rattle.plan_theorem.proofs.KeyLengths.{keys_length}
use Rattle.call_join.specs.JointNests.{moved_gaps, joined, joined_gaps, second_at, joined_points, Papers, exceeds}
use Rattle.call_join.proofs.Parts.{do_moved}
use Rattle.call_join.proofs.JointShapes.{JointLoop, outer, in_first, in_second, joint_loop}
use Rattle.call_join.proofs.JointValid.{Joint, joint_by}
use Rattle.call_join.proofs.MovedGaps.{eqb_moved}
use Rattle.call_join.proofs.SubNests.{part_least, part_key}
use Rattle.call_join.proofs.JointPlacements.{sub_first, sub_second, first_of, second_of}
use Rattle.call_join.proofs.JointPlacements.{first_count, second_count, outer_count, both_correct, of_two_parts}

-- ---- list order

-- lists moved along stay in order
ltb_moved : (k a b : ℕ) → ltb (k + a) (k + b) ≡ ltb a b
ltb_moved k a b =
    bool_by (ltb (k + a) (k + b)) (ltb a b)
    (λ h. lt-ltb a b (omega (arith, ltb-true (k + a) (k + b) h)))
    (λ h. lt-ltb (k + a) (k + b) (omega (arith, ltb-true a b h)))

order_moved : (k : ℕ) (a b : List ℕ) → first_in_order (moved_gaps k a) (moved_gaps k b) ≡ first_in_order a b
order_moved k [] b = refl
order_moved k (x ∷ a) [] = refl
order_moved k (x ∷ a) (y ∷ b) = rw (eqb_moved k x y, ltb_moved k x y, order_moved k a b)

-- of lists of one length, with lists in order after them
order_both_parts
    : (a b c d : List ℕ)
    → length a ≡ length b
    → first_in_order a b ≡ true
    → first_in_order c d ≡ true
    → first_in_order (a ++ c) (b ++ d) ≡ true
order_both_parts [] [] c d l p q = q
order_both_parts [] (y ∷ b) c d l p q = absurd (omega arith)
order_both_parts (x ∷ a) [] c d l p q = never p
order_both_parts (x ∷ a) (y ∷ b) c d l p q = go (eqb x y) p (order_both_parts a b c d)
  where
    go
        : (t : Bool)
        → pick t (first_in_order a b) (ltb x y) ≡ true
        → (length a ≡ length b → first_in_order a b ≡ true → first_in_order c d ≡ true →
        first_in_order (a ++ c) (b ++ d) ≡ true)
        → pick t (first_in_order (a ++ c) (b ++ d)) (ltb x y) ≡ true
    go true h rest = rest (omega arith) h q
    go false h rest = h

moved_length : (k : ℕ) (gs : List ℕ) → length (moved_gaps k gs) ≡ length gs
moved_length k [] = refl
moved_length k (g ∷ gs) = ap suc (moved_length k gs)

-- ---- keys

module _ (n m : Nest) (j : Joint n m) where
  whole : is_shape (joined_points n.points m.points) ≡ true
  whole = (valid_is (joined n m) j.valid).shape

  -- two keys, one after the other, are a key
  module _ (a b : List ℕ) (one : IsKey n a) (two : IsKey m b) where
    abbrev both : List ℕ
    both = joined_gaps n a b

    a_gaps : are_gaps n a ≡ true
    a_gaps = correct_gaps n a one.correct

    b_gaps : are_gaps m b ≡ true
    b_gaps = correct_gaps m b two.correct

    in_part_first : (d : ℕ) → is_do n.points d ≡ true → loop_count (joined n m) both (1 + d) ≡ loop_count n a d
    in_part_first = first_count n m j a b a_gaps b_gaps

    in_part_second
        : (d : ℕ)
        → is_do m.points d ≡ true
        → loop_count (joined n m) both (second_at n + d) ≡ loop_count m b d
    in_part_second = second_count n m j a b a_gaps b_gaps

    pub both_key : IsKey (joined n m) (joined_gaps n a b)
    both_key =
        record {
          correct = both_correct n m j a b a_gaps b_gaps one.correct two.correct;
          least = λ gs c. as_good_intro (joined n m) whole both gs (λ d h s. at gs c d s (loop d h));
        }
      where
        loop
            : (d : ℕ)
            → is_do (joined n m).points d ≡ true
            → JointLoop n.points m.points j.first.shape j.second.shape whole d
        loop = joint_loop n.points m.points j.first.shape j.second.shape whole

        at
            : (gs : List ℕ)
            → is_correct (joined n m) gs ≡ true
            → (d : ℕ)
            → SameInside (joined n m) both gs d
            → JointLoop n.points m.points j.first.shape j.second.shape whole d
            → loop_count (joined n m) both d ≤ loop_count (joined n m) gs d
        at gs c d s (outer e) = rw e (omega (arith, outer_count n m j a b a_gaps b_gaps))
        at gs c d s (in_first x e h) =
            let s' : SameInside (joined n m) both gs (1 + x) = rw e at s in
            rw e (part_least n (joined n m) 1 (sub_first n m j) a one both gs x in_part_first c h s')
        at gs c d s (in_second x e h) =
            let s' : SameInside (joined n m) both gs (second_at n + x) = rw e at s in
            rw e (part_least m (joined n m) (second_at n) (sub_second n m j) b two both gs x in_part_second c h s')

    -- the counts of any key of the joint nest
    module _ (gs : List ℕ) (key : IsKey (joined n m) gs) where
      same : SameCounts (joined n m) gs both
      same = keys_agree (joined n m) whole gs both key both_key

      first_key : IsKey n (first_of n m j gs)
      first_key =
          part_key n (joined n m) 1 (sub_first n m j) a one gs key.correct
          (λ d h.
          same (1 + d) (do_moved n.points (joined n m).points 1 j.first-at d h) ∙ in_part_first d h)

      second_key : IsKey m (second_of n m j gs)
      second_key =
          part_key m (joined n m) (second_at n) (sub_second n m j) b two gs key.correct
          (λ d h.
          same (second_at n + d) (do_moved m.points (joined n m).points (second_at n) j.second-at d h) ∙
          in_part_second d h)

      no_own : loop_count (joined n m) gs 0 ≡ 0
      no_own = same 0 (starts_with_do (joined n m).points whole) ∙ outer_count n m j a b a_gaps b_gaps

  -- a key of the joint nest is two keys, one after the other
  pub record KeyParts (gs : List ℕ) : Type 0 where
    pub first : IsKey n (first_of n m j gs)
    pub second : IsKey m (second_of n m j gs)
    pub is : gs ≡ joined_gaps n (first_of n m j gs) (second_of n m j gs)

  one_first : IsFirstKey n (key_of n)
  one_first =
      let valid = is-valid n j.first in
      key_is_first n valid (unbarred_open n valid j.first_unbarred)

  two_first : IsFirstKey m (key_of m)
  two_first =
      let valid = is-valid m j.second in
      key_is_first m valid (unbarred_open m valid j.second_unbarred)

  pub key_parts : (gs : List ℕ) → IsKey (joined n m) gs → KeyParts gs
  key_parts gs key =
      let a = one_first.is_key in
      let b = two_first.is_key in
      record {
        first = first_key (key_of n) (key_of m) a b gs key;
        second = second_key (key_of n) (key_of m) a b gs key;
        is =
            of_two_parts n m j gs (correct_gaps (joined n m) gs key.correct) (no_own (key_of n) (key_of m) a b gs key);
      }

  -- the first of them is the two first ones
  joint_first : IsFirstKey (joined n m) (joined_gaps n (key_of n) (key_of m))
  joint_first = record { is_key = both_key (key_of n) (key_of m) one_first.is_key two_first.is_key; first = first }
    where
      first : (gs : List ℕ) → IsKey (joined n m) gs → first_in_order (joined_gaps n (key_of n) (key_of m)) gs ≡ true
      first gs key = in_order (key_parts gs key)
        where
          in_order : KeyParts gs → first_in_order (joined_gaps n (key_of n) (key_of m)) gs ≡ true
          in_order p =
              let x = first_of n m j gs in
              let y = second_of n m j gs in
              let l : length (moved_gaps 1 (key_of n)) ≡ length (moved_gaps 1 x) =
              moved_length 1 (key_of n) ∙
              keys_length n j.first.shape (key_of n) x one_first.is_key p.first ∙
              sym (moved_length 1 x) in
              ap (first_in_order (joined_gaps n (key_of n) (key_of m))) p.is ∙
              order_both_parts (moved_gaps 1 (key_of n)) (moved_gaps 1 x) (moved_gaps (second_at n) (key_of m))
              (moved_gaps (second_at n) y) l
              (order_moved 1 (key_of n) x ∙ one_first.first x p.first)
              (order_moved (second_at n) (key_of m) y ∙ two_first.first y p.second)

-- the key of the joint paper is the two keys moved along
pub joined_key
    : (n m : Nest)
    → Papers n m
    → exceeds n m ≡ false
    → key_of (joined n m) ≡ joined_gaps n (key_of n) (key_of m)
joined_key n m papers fits =
    let j = joint_by n m papers fits in
    sym (first_only (joined n m) j.valid (joined_gaps n (key_of n) (key_of m)) (joint_first n m j))
