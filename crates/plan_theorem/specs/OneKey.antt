-- One key for one paper: which of the keys is the key.
-- Main definitions: `IsFirstKey`, `IsFirstSmallest`, `One-key`.
use Rattle.std.specs.Prelude.{◌≡◌, true, false, List, ℕ, ◌≤◌, length}
use Rattle.paper_nests.specs.Nests.{Nest}
use Rattle.paper_nests.specs.Ring.{one_loop}
use Rattle.paper_placements.specs.Placements.{is_correct}
use Rattle.paper_order.specs.Keys.{IsKey}
use Rattle.paper_barred.specs.Reduced.{is_blocked}
use Rattle.paper_texts.specs.NestTexts.{read_nest}
use Rattle.plan_theorem.specs.KeyOf.{key_of}
use Rattle.plan_theorem.specs.ListOrder.{first_in_order}

-- 02, job 6: of all keys the first, each written as the rising list of its gaps
pub record IsFirstKey (n : Nest) (key : List ℕ) : Type 0 where
  pub is_key : IsKey n key
  pub first : (gs : List ℕ) → IsKey n gs → first_in_order key gs ≡ true

-- 02, job 6, of a nest of one loop: the first of the smallest correct sets of gaps
pub record IsFirstSmallest (n : Nest) (key : List ℕ) : Type 0 where
  pub correct : is_correct n key ≡ true
  pub smallest : (gs : List ℕ) → is_correct n gs ≡ true → length key ≤ length gs
  pub first : (gs : List ℕ) → is_correct n gs ≡ true → length gs ≤ length key → first_in_order key gs ≡ true

-- 02, job 6: the key follows from the nest, here the one that an accepted text spells, if it is not blocked
pub record One-key : Type 0 where
  pub is-first
      : (s : List ℕ)
      → (read_nest s).number ≡ 0
      → is_blocked (read_nest s).nest_is ≡ false
      → IsFirstKey (read_nest s).nest_is (key_of (read_nest s).nest_is)
  pub no_other
      : (s key : List ℕ)
      → (read_nest s).number ≡ 0
      → IsFirstKey (read_nest s).nest_is key
      → key ≡ key_of (read_nest s).nest_is
  pub one-loop
      : (s : List ℕ)
      → (read_nest s).number ≡ 0
      → is_blocked (read_nest s).nest_is ≡ false
      → one_loop (read_nest s).nest_is.points ≡ true
      → IsFirstSmallest (read_nest s).nest_is (key_of (read_nest s).nest_is)
