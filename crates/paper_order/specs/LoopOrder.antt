-- Which of two placements is better, loop by loop.
-- Main definition: `as_good`.
use Rattle.std.specs.Prelude.{Bool, true, ◌&&◌, ◌||◌, not, List, [], ◌∷◌, ℕ, eqb, leb}
use Rattle.paper_nests.specs.Nests.{Nest}
use Rattle.paper_nests.specs.Loops.{in_loop}
use Rattle.paper_placements.specs.Placements.{loop_count, loops_of}

-- the same counts in all the loops inside d, at any depth
abbrev pub inside_same : Nest → List ℕ → List ℕ → ℕ → List ℕ → Bool
inside_same n a b d [] = true
inside_same n a b d (x ∷ xs) =
    (not (in_loop n.points d x) || eqb (loop_count n a x) (loop_count n b x)) && inside_same n a b d xs

-- 01, "Which placement is better": at each loop where a and b have the same counts in all the loops inside it, at any
-- depth, a's count is at most b's
abbrev pub better_from : Nest → List ℕ → List ℕ → List ℕ → Bool
better_from n a b [] = true
better_from n a b (d ∷ ds) =
    (not (inside_same n a b d (loops_of n)) || leb (loop_count n a d) (loop_count n b d)) && better_from n a b ds

abbrev pub as_good : Nest → List ℕ → List ℕ → Bool
as_good n a b = better_from n a b (loops_of n)
