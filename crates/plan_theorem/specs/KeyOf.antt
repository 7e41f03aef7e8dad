-- The key of a nest: the planner's placement as the rising list of its gaps; where gaps are barred, that of the nest of
-- the unbarred gaps, taken back.
-- Main definitions: `plain_key`, `key_ranks`, `barred_key`, `key_of`.
use Rattle.std.specs.Prelude.{List, ℕ, ◌-◌, eqb, length}
use Rattle.laws.specs.Choice.{pick}
use Rattle.paper_nests.specs.Nests.{Nest}
use Rattle.paper_placements.specs.Words.{gaps_of}
use Rattle.paper_barred.specs.Ranks.{unranked}
use Rattle.paper_barred.specs.Reduced.{reduced}
use Rattle.plan_method.specs.Home.{key_in}

-- 01, "The nest and its gaps": the gaps are 1 to n - 1; what is barred plays no part
unfoldable pub plain_key : Nest → List ℕ
plain_key n = gaps_of (key_in n.points n.deps) (length n.points - 1) 1

-- the key of the nest of one loop that the unbarred gaps make, and the gaps of these ranks
abbrev pub key_ranks : Nest → List ℕ
key_ranks n = plain_key (reduced n.points n.barred n.deps)

abbrev pub barred_key : Nest → List ℕ
barred_key n = unranked n.barred (length n.points - 1) (key_ranks n)

-- 02, job 7: only nests of one loop have barred gaps
unfoldable pub key_of : Nest → List ℕ
key_of n = pick (eqb (length n.barred) 0) (plain_key n) (barred_key n)
