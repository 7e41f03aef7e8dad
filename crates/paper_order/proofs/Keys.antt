-- Keys: all keys of a nest have the same counts, and a key is least loop by loop (demand 3).
-- Main statements: `keys_agree`, `keys_same_tree`, `key_least_tree`, `same_counts_key`, `smallest_key`, `by_loops`.
use mathlib.Core.Path.{◌≡◌, refl, sym}
use mathlib.Core.Bool.{true, ◌&&◌}
use mathlib.Core.List.{List, [], ◌∷◌}
use Prim.Native.Nat.{ℕ, ◌≤◌, ◌<◌}
use native.Mathlib.Omega.{arith}
use lib.Dec.{eqb, ltb}
use lib.ListN.{length}
use borrow.Author.Tests.{ltb-true, eq-eqb}
use Rattle.laws.specs.Choice.{when}
use Rattle.laws.proofs.Tests.{and_true}
use Rattle.paper_nests.specs.Nests.{Nest}
use Rattle.paper_nests.specs.Loops.{is_do, owner_of}
use Rattle.paper_nests.specs.Ring.{one_loop}
use Rattle.paper_nests.specs.Valid.{is_shape}
use Rattle.paper_nests.proofs.Levels.{starts_with_do}
use Rattle.paper_nests.proofs.Loops.{inside_lies, owner_is_do}
use Rattle.paper_nests.proofs.Ring.{one_loop_is_first}
use Rattle.paper_placements.specs.Placements.{are_gaps_from, are_gaps, is_correct, loop_count}
use Rattle.paper_order.specs.Trees.{tree_of, as_good_tree}
use Rattle.paper_order.specs.Keys.{IsKey, By-loops}
use Rattle.paper_placements.proofs.Cuts.{correct_gaps}
use Rattle.paper_order.proofs.LoopOrder.{SameCounts, SameInside, as_good_elim, as_good_intro, as_good_moved}
use Rattle.paper_order.proofs.LoopOrder.{as_good_both}
use Rattle.paper_order.proofs.TreeOrder.{tree_order, equal_trees}

-- each is as good as the other
pub keys_agree : (n : Nest) → is_shape n.points ≡ true → (j k : List ℕ) → IsKey n j → IsKey n k → SameCounts n j k
keys_agree n shape j k p q = as_good_both n shape j k (p.least k q.correct) (q.least j p.correct)

-- so all keys have one tree, the least of the correct placements' trees
pub keys_same_tree :
    (n : Nest) → is_shape n.points ≡ true → (j k : List ℕ) → IsKey n j → IsKey n k → tree_of n j ≡ tree_of n k
keys_same_tree n shape j k p q = (equal_trees n shape j k).1 (keys_agree n shape j k p q)

pub key_least_tree :
    (n : Nest) → is_shape n.points ≡ true → (k gs : List ℕ) → IsKey n k → is_correct n gs ≡ true →
    as_good_tree (tree_of n k) (tree_of n gs) ≡ true
key_least_tree n shape k gs p c = (tree_order n shape k gs).0 (p.least gs c)

-- a correct placement with a key's counts is a key
pub same_counts_key :
    (n : Nest) → is_shape n.points ≡ true → (k gs : List ℕ) → IsKey n k → is_correct n gs ≡ true → SameCounts n k gs →
    IsKey n gs
same_counts_key n shape k gs p c s =
    record { correct = c; least = λ xs h. as_good_moved n shape k gs xs s (p.least xs h) }

-- where every gap belongs to loop 0, its count is the number of gaps
count_all :
    (n : Nest) → ((g : ℕ) → 0 < g → g < length n.points → owner_of n.points g ≡ 0) → (gs : List ℕ) (last : ℕ) →
    are_gaps_from last (length n.points) gs ≡ true → loop_count n gs 0 ≡ length gs
count_all n own [] last h = refl
count_all n own (g ∷ gs) last h =
    let z = and_true (ltb last g) (ltb g (length n.points) && are_gaps_from g (length n.points) gs) h in
    let y = and_true (ltb g (length n.points)) (are_gaps_from g (length n.points) gs) z.1 in
    let low = ltb-true last g z.0 in
    let o : owner_of n.points g ≡ 0 = own g (omega arith) (ltb-true g (length n.points) y.0) in
    let w : when (eqb (owner_of n.points g) 0) 1 ≡ 1 = rw (eq-eqb (owner_of n.points g) 0 o) in
    omega (arith, w, count_all n own gs g y.1)

-- a nest of one loop: its gaps are all the outermost loop's
module _ (n : Nest) (shape : is_shape n.points ≡ true) (one : one_loop n.points ≡ true) where
  only_loop : (x : ℕ) → is_do n.points x ≡ true → x ≡ 0
  only_loop = one_loop_is_first n.points one

  pub one_loop_count : (gs : List ℕ) → are_gaps n gs ≡ true → loop_count n gs 0 ≡ length gs
  one_loop_count gs h =
      let ps = n.points in
      count_all n (λ g a b. only_loop (owner_of ps g) (owner_is_do ps shape g a b)) gs 0 h

  one_loop_least : (key gs : List ℕ) → IsKey n key → is_correct n gs ≡ true → length key ≤ length gs
  one_loop_least key gs k c =
      omega (
        arith,
        one_loop_count key (correct_gaps n key k.correct),
        one_loop_count gs (correct_gaps n gs c),
        as_good_elim n shape key gs (k.least gs c) 0 (starts_with_do n.points shape) none,
      )
    where
      none : SameInside n key gs 0
      none x h i = absurd (omega (arith, only_loop x h, inside_lies n.points 0 x i))

  -- and a smallest correct set of gaps is a key
  pub smallest_key :
      (key : List ℕ) → is_correct n key ≡ true →
      ((gs : List ℕ) → is_correct n gs ≡ true → length key ≤ length gs) → IsKey n key
  smallest_key key c smallest =
      record { correct = c; least = λ gs h. as_good_intro n shape key gs (λ d k s. at_most gs h d k) }
    where
      at_most : (gs : List ℕ) → is_correct n gs ≡ true → (d : ℕ) → is_do n.points d ≡ true →
          loop_count n key d ≤ loop_count n gs d
      at_most gs h d k =
          rw (only_loop d k)
          (omega (
            arith,
            one_loop_count key (correct_gaps n key c),
            one_loop_count gs (correct_gaps n gs h),
            smallest gs h,
          ))

-- demand 3, loop by loop from the inside
pub by_loops : (n : Nest) → is_shape n.points ≡ true → (key : List ℕ) → IsKey n key → By-loops n key
by_loops n shape key k =
    record {
      each = λ gs d c h s. as_good_elim n shape key gs (k.least gs c) d h (λ x m i. sym (s x m i));
      one-loop = λ gs one c. one_loop_least n shape one key gs k c;
    }
