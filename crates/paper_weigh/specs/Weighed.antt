-- The loops that decide between two placements, and what weighing two of them, given as words, tells of each nest with
-- some points.
-- Main definitions: `decides`, `deciding_of`; `IsWeighed`, `WeighedSays`.
use Rattle.std.specs.Prelude.{◌≡◌, Bool, not, ◌&&◌, List, ℕ, eqb, length}
use Rattle.paper_nests.specs.Nests.{Nest}
use Rattle.paper_nests.specs.Loops.{is_do}
use Rattle.paper_placements.specs.Placements.{loop_count, loops_of}
use Rattle.paper_placements.specs.Words.{gaps_of, gaps_in}
use Rattle.paper_order.specs.LoopOrder.{inside_same, as_good}
use Rattle.paper_weigh.specs.declared.Standing as DS

-- loop d decides between a and b: the counts are the same in all the loops inside it, and its own differ
abbrev pub decides : Nest → List ℕ → List ℕ → ℕ → Bool
decides n a b d = inside_same n a b d (loops_of n) && not (eqb (loop_count n a d) (loop_count n b d))

-- point d is the DO of such a loop
abbrev pub decides_at : Nest → List ℕ → List ℕ → ℕ → Bool
decides_at n a b d = is_do n.points d && decides n a b d

-- the DOs of the loops that decide, rising
abbrev pub deciding_of : Nest → List ℕ → List ℕ → List ℕ
deciding_of n a b = gaps_of (decides_at n a b) (length n.points) 0

-- 01, "Which placement is better": how a and b stand to each other
pub record IsWeighed (n : Nest) (a b : List ℕ) (r : DS.Standing) : Type 0 where
  pub first_is : r.first ≡ as_good n a b
  pub second_is : r.second ≡ as_good n b a
  pub deciding_is : gaps_in r.deciding.words ≡ deciding_of n a b

abbrev pub WeighedSays : List ℕ → List ℕ → List ℕ → DS.Standing → Type 0
WeighedSays ps a b r = (n : Nest) → n.points ≡ ps → IsWeighed n (gaps_in a) (gaps_in b) r
