-- The planner's theorem: the key of a valid nest that is not blocked is a key, correct and as good or better than every
-- correct placement.
-- Main statements: `key_is_key`; `least_tree`, the same of cost trees.
use mathlib.Core.Path.{◌≡◌}
use mathlib.Core.Bool.{true, false}
use mathlib.Core.List.{List}
use Prim.Native.Nat.{ℕ}
use Rattle.paper_nests.specs.Nests.{Nest}
use Rattle.paper_nests.specs.Valid.{is_valid}
use Rattle.paper_nests.proofs.Deps.{valid_is}
use Rattle.paper_placements.specs.Placements.{is_correct}
use Rattle.paper_order.specs.Trees.{tree_of, as_good_tree}
use Rattle.paper_order.specs.Keys.{IsKey}
use Rattle.paper_order.proofs.Keys.{key_least_tree}
use Rattle.paper_barred.specs.Reduced.{is_blocked}
use Rattle.plan_theorem.specs.KeyOf.{key_of}
use Rattle.plan_theorem.proofs.KeyFirst.{key_is_first}

module _ (n : Nest) (valid : is_valid n ≡ true) (unblocked : is_blocked n ≡ false) where
  -- 01, "Which placement is better": the key is correct and, "at each loop where T and U have the same counts in all
  -- the loops inside it, at any depth, T's count is at most U's", for the key's T and the U of every correct placement
  pub key_is_key : IsKey n (key_of n)
  key_is_key = (key_is_first n valid unblocked).is_key

  -- 01, "Which placement is better": the correct placements have a least tree (001, definition 1)
  pub least_tree
      : (is_correct n (key_of n) ≡ true) ×
      ((gs : List ℕ) → is_correct n gs ≡ true → as_good_tree (tree_of n (key_of n)) (tree_of n gs) ≡ true)
  least_tree =
      let k = key_is_key in
      (k.correct, λ gs c. key_least_tree n (valid_is n valid).shape (key_of n) gs k c)
