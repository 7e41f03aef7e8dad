-- The planner's theorem where nothing is barred: the plain key is a key, and the first of all keys in list order. Crate
-- planner proves both of placements as predicates (`nest_key`, `nest_first`); a list stands for the predicate of its
-- members (Predicates, `list_key`), and the plain key has the members that the planner's placement holds (KeyGaps,
-- `in_plain`). All keys have the same counts, and lists of one length.
-- Main statements: `fitting_key`, `fitting_first`, where a carried dependence may have its points in either order;
-- `plain_is_first`, of a valid nest.
use mathlib.Core.Path.{◌≡◌, sym, ◌∙◌}
use mathlib.Core.Bool.{true}
use mathlib.Core.List.{List, []}
use Prim.Native.Nat.{ℕ}
use native.Mathlib.Omega.{arith}
use lib.ListN.{length}
use Rattle.paper_nests.specs.Nests.{Nest}
use Rattle.paper_nests.specs.Loops.{is_do}
use Rattle.paper_nests.specs.Valid.{is_shape, is_valid}
use Rattle.paper_nests.proofs.Deps.{valid_is, deps_fit}
use Rattle.paper_placements.specs.Placements.{are_gaps}
use Rattle.paper_order.specs.Keys.{IsKey}
use Rattle.paper_placements.proofs.Cuts.{avoids_none, correct_gaps, correct_cuts}
use Rattle.paper_order.proofs.Keys.{keys_agree}
use Rattle.paper_placements.proofs.Rising.{rising_in}
use Rattle.plan_method.specs.Home.{loops_in, key_in}
use Rattle.plan_method.proofs.Claim.{count}
use Rattle.plan_method.proofs.Instance.{AllFit}
use Rattle.plan_method.proofs.KeyFirst.{nest_first}
use Rattle.plan_method.proofs.NestKey.{nest_key}
use Rattle.plan_theorem.specs.KeyOf.{plain_key}
use Rattle.plan_theorem.specs.ListOrder.{first_in_order}
use Rattle.plan_theorem.specs.OneKey.{IsFirstKey}
use Rattle.plan_theorem.proofs.KeyGaps.{plain_gaps, in_plain}
use Rattle.plan_theorem.proofs.KeyLengths.{keys_length}
use Rattle.plan_theorem.proofs.ListOrder.{HasFirst, order_by}
use Rattle.plan_theorem.proofs.Predicates.{member_of, list_cuts, same_count, list_count, list_key}

-- of points that make loops and dependences that are placed well
module _
    (n : Nest) (shape : is_shape n.points ≡ true) (fit : AllFit n.points n.deps) (none : n.barred ≡ []) where
  -- the order of a carried one's points plays no part
  pub fitting_key : IsKey n (plain_key n)
  fitting_key =
      list_key n (key_in n.points n.deps) (plain_key n) shape (nest_key n.points n.deps shape fit)
      (plain_gaps n shape fit)
      (avoids_none n.barred none (plain_key n))
      (in_plain n shape fit)

  module _ (gs : List ℕ) (key : IsKey n gs) where
    gaps : are_gaps n gs ≡ true
    gaps = correct_gaps n gs key.correct

    -- the counts of its predicate are those of the planner's placement
    counts : (l : ℕ) → is_do n.points l ≡ true →
        count (loops_in n.points) (member_of gs) l ≡ count (loops_in n.points) (key_in n.points n.deps) l
    counts l h =
        sym (list_count n gs l shape gaps h) ∙
        keys_agree n shape gs (plain_key n) key fitting_key l h ∙
        list_count n (plain_key n) l shape (plain_gaps n shape fit) h ∙
        same_count n.points (member_of (plain_key n)) (key_in n.points n.deps) l (in_plain n shape fit)

    has_first : HasFirst 0 (plain_key n) gs
    has_first g low same h =
        in_plain n shape fit g ∙
        nest_first n.points n.deps shape fit (member_of gs)
        (λ e a. list_cuts n.points e gs (correct_cuts n gs key.correct e a)) counts
        g low (rising_in 0 (length n.points) gs g gaps h).1 (λ i u v. same i u v ∙ in_plain n shape fit i) h

    pub fitting_first : first_in_order (plain_key n) gs ≡ true
    fitting_first =
        let l : length (plain_key n) ≡ length gs = keys_length n shape (plain_key n) gs fitting_key key in
        order_by 0 (length n.points) (plain_key n) gs (plain_gaps n shape fit) gaps (omega arith) has_first

pub plain_is_first : (n : Nest) → is_valid n ≡ true → n.barred ≡ [] → IsFirstKey n (plain_key n)
plain_is_first n valid none =
    let v = valid_is n valid in
    let fit = deps_fit n.points n.deps v.all-deps in
    record { is_key = fitting_key n v.shape fit none; first = fitting_first n v.shape fit none }
