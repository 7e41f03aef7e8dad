-- Of a valid nest that is not blocked, `key_of` is the first of all keys in list order, the one that job 6 of the change
-- requests asks for. Where nothing is barred it is the planner's (PlainKey); else the nest has one loop, and it is the
-- planner's of the unbarred gaps, taken back (BarredKey).
-- Main statements: `key_is_first`, `key_first`, `first_of_least_trees`, `first_only`.
use mathlib.Core.Path.{◌≡◌}
use mathlib.Core.Bool.{true, false}
use mathlib.Core.List.{List}
use Prim.Native.Nat.{ℕ}
use Rattle.paper_nests.specs.Nests.{Nest}
use Rattle.paper_nests.specs.Valid.{is_valid}
use Rattle.paper_nests.proofs.Deps.{valid_is}
use Rattle.paper_placements.specs.Placements.{is_correct}
use Rattle.paper_order.specs.Trees.{tree_of}
use Rattle.paper_order.specs.Keys.{IsKey}
use Rattle.paper_order.proofs.Keys.{same_counts_key}
use Rattle.paper_order.proofs.TreeOrder.{equal_trees}
use Rattle.paper_barred.specs.Reduced.{is_blocked}
use Rattle.paper_barred.proofs.Blocked.{correct_open}
use Rattle.plan_theorem.specs.KeyOf.{key_of}
use Rattle.plan_theorem.specs.ListOrder.{first_in_order}
use Rattle.plan_theorem.specs.OneKey.{IsFirstKey}
use Rattle.plan_theorem.proofs.BarredKey.{barred_is_first}
use Rattle.plan_theorem.proofs.KeyGaps.{key_by}
use Rattle.plan_theorem.proofs.ListOrder.{order_both}
use Rattle.plan_theorem.proofs.PlainKey.{plain_is_first}

module _ (n : Nest) (valid : is_valid n ≡ true) where
  -- the key of a nest is its first key
  pub key_is_first : is_blocked n ≡ false → IsFirstKey n (key_of n)
  key_is_first unblocked =
      key_by n valid (IsFirstKey n) (plain_is_first n valid) (λ one. barred_is_first n valid one unblocked)

  -- it is, where some placement is correct
  known : (gs : List ℕ) → is_correct n gs ≡ true → IsFirstKey n (key_of n)
  known gs c = key_is_first (correct_open n gs c)

  -- 02, job 6: it comes first of all keys, as lists
  pub key_first : (gs : List ℕ) → IsKey n gs → first_in_order (key_of n) gs ≡ true
  key_first gs k = (known gs k.correct).first gs k

  -- 02, job 6, in its own words: of all correct placements with the least tree
  pub first_of_least_trees
      : (gs : List ℕ)
      → is_correct n gs ≡ true
      → tree_of n (key_of n) ≡ tree_of n gs
      → first_in_order (key_of n) gs ≡ true
  first_of_least_trees gs c e =
      let shape = (valid_is n valid).shape in
      let same = (equal_trees n shape (key_of n) gs).0 e in
      key_first gs (same_counts_key n shape (key_of n) gs (known gs c).is_key c same)

  -- and no other placement is the first key
  pub first_only : (key : List ℕ) → IsFirstKey n key → key ≡ key_of n
  first_only key k =
      let made = (known key k.is_key.correct).is_key in
      order_both key (key_of n) (k.first (key_of n) made) (key_first key k.is_key)
