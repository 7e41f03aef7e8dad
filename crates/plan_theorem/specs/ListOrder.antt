-- List order: of two rising lists of gaps, which comes first.
-- Main definition: `first_in_order`.
use Rattle.std.specs.Prelude.{Bool, true, false, List, [], ◌∷◌, ℕ, eqb, ltb}
use Rattle.laws.specs.Choice.{pick}

-- 02, job 6: the same list, or the one with the smaller gap where the two first differ; a list that ends there comes
-- first, which no two keys meet, as their lists have one length
abbrev pub first_in_order : List ℕ → List ℕ → Bool
first_in_order [] bs = true
first_in_order (a ∷ as') [] = false
first_in_order (a ∷ as') (b ∷ bs) = pick (eqb a b) (first_in_order as' bs) (ltb a b)
