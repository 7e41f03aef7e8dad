-- Demand 3 of texts: the nest of an accepted text is valid, so it has a key where it is not blocked (`key_is_key`), and
-- every key of it is least loop by loop from the inside.
-- Main statements: `demand_3`; `accepted_key`, `accepted_by_loops`, the same of the key that the planner makes.
use mathlib.Core.Path.{◌≡◌}
use mathlib.Core.Bool.{true, false}
use mathlib.Core.List.{List}
use Prim.Native.Nat.{ℕ}
use Rattle.paper_nests.specs.Nests.{Nest}
use Rattle.paper_nests.specs.Valid.{is_valid}
use Rattle.paper_nests.proofs.Deps.{valid_is}
use Rattle.paper_order.specs.Keys.{IsKey, By-loops}
use Rattle.paper_order.proofs.Keys.{by_loops}
use Rattle.paper_barred.specs.Reduced.{is_blocked}
use Rattle.paper_texts.specs.NestTexts.{read_nest}
use Rattle.paper_texts.proofs.Accepted.{accepted_valid}
use Rattle.plan_theorem.specs.KeyOf.{key_of}
use Rattle.plan_theorem.specs.Demand3.{Demand-3}
use Rattle.plan_theorem.proofs.KeyIsKey.{key_is_key}

-- of a valid nest: every key is least loop by loop, the planner's too
pub valid_by_loops : (n : Nest) → is_valid n ≡ true → (key : List ℕ) → IsKey n key → By-loops n key
valid_by_loops n h key k = by_loops n (valid_is n h).shape key k

pub key_by_loops : (n : Nest) → is_valid n ≡ true → is_blocked n ≡ false → By-loops n (key_of n)
key_by_loops n h unblocked = valid_by_loops n h (key_of n) (key_is_key n h unblocked)

-- of an accepted text: the planner's key of the nest that it spells
module _
    (s : List ℕ) (accepted : (read_nest s).number ≡ 0) (unblocked : is_blocked (read_nest s).nest_is ≡ false) where
  pub accepted_key : IsKey (read_nest s).nest_is (key_of (read_nest s).nest_is)
  accepted_key = key_is_key (read_nest s).nest_is (accepted_valid s accepted) unblocked

  pub accepted_by_loops : By-loops (read_nest s).nest_is (key_of (read_nest s).nest_is)
  accepted_by_loops = key_by_loops (read_nest s).nest_is (accepted_valid s accepted) unblocked

-- 01, "Which placement is better": demand 3 speaks of the nest that an accepted text spells
pub demand_3 : Demand-3
demand_3 =
    record {
      some_key = λ s h unblocked. (key_of (read_nest s).nest_is, accepted_key s h unblocked);
      by_loops = λ s key h k. valid_by_loops (read_nest s).nest_is (accepted_valid s h) key k;
    }
