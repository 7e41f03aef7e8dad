-- In a nest of one loop the count of the loop is the number of gaps, so the keys are the smallest correct sets of gaps,
-- and the first key is the first of these.
-- Main statements: `first_smallest`, `smallest_first`.
use mathlib.Core.Path.{◌≡◌}
use mathlib.Core.Bool.{true}
use mathlib.Core.List.{List}
use Prim.Native.Nat.{ℕ, ◌≤◌}
use native.Mathlib.Omega.{arith}
use lib.ListN.{length}
use Rattle.paper_nests.specs.Nests.{Nest}
use Rattle.paper_nests.specs.Ring.{one_loop}
use Rattle.paper_nests.specs.Valid.{is_shape}
use Rattle.paper_placements.specs.Placements.{is_correct}
use Rattle.paper_order.specs.Keys.{IsKey}
use Rattle.paper_order.proofs.Keys.{by_loops, smallest_key}
use Rattle.plan_theorem.specs.OneKey.{IsFirstKey, IsFirstSmallest}

module _ (n : Nest) (shape : is_shape n.points ≡ true) (one : one_loop n.points ≡ true) (key : List ℕ) where
  no_fewer : IsKey n key → (gs : List ℕ) → is_correct n gs ≡ true → length key ≤ length gs
  no_fewer k gs c = (by_loops n shape key k).one-loop gs one c

  pub first_smallest : IsFirstKey n key → IsFirstSmallest n key
  first_smallest k =
      record {
        correct = k.is_key.correct;
        smallest = no_fewer k.is_key;
        first = λ gs c l. k.first gs (as_small gs c l);
      }
    where
      -- a correct set that is as small is a key
      as_small : (gs : List ℕ) → is_correct n gs ≡ true → length gs ≤ length key → IsKey n gs
      as_small gs c l =
          smallest_key n shape one gs c (λ hs h. omega (arith, no_fewer k.is_key hs h))

  pub smallest_first : IsFirstSmallest n key → IsFirstKey n key
  smallest_first s =
      record {
        is_key = smallest_key n shape one key s.correct s.smallest;
        first = λ gs k. s.first gs k.correct ((by_loops n shape gs k).one-loop key one s.correct);
      }
