-- 01, "What the contracts must say", c, and "Plausible planners that fail": the planners, as rules. A rule is a planner,
-- or a predicate on planners with a planner that follows it. None keeps demand 3 (Excluded).
-- Main definitions: `Plans`; `every_gap`, `FillsOuter`, `SolvesAlone`, `CutsGreedily`, `Compares` with the costs `in_all`
-- and `counts_inside`, `JoinsPairs`. Main statements: `fills_outer`, `solves_alone`, `compares`, `joins_pairs`.
use mathlib.Core.Path.{◌≡◌}
use mathlib.Core.Bool.{Bool, true, false, ◌&&◌, ◌||◌, not}
use mathlib.Core.List.{List, [], ◌∷◌}
use Prim.Native.Nat.{ℕ, zero, suc, ◌+◌, ◌-◌, ◌≤◌, ◌<◌}
use native.Mathlib.Omega.{arith}
use lib.Dec.{eqb, ltb, leb}
use lib.ListN.{length, take, drop}
use borrow.Author.Tests.{eq-eqb}
use Rattle.laws.specs.Choice.{pick, when, between, is_in}
use Rattle.paper_nests.specs.Kinds.{CARRIED}
use Rattle.paper_nests.specs.Nests.{Dep, dep, Nest, nest}
use Rattle.paper_nests.specs.Loops.{is_do, end_of, owner_of}
use Rattle.paper_nests.specs.Gaps.{has_gap}
use Rattle.paper_nests.specs.Ring.{one_loop, next_gap}
use Rattle.paper_nests.specs.Valid.{is_valid}
use Rattle.paper_placements.specs.Placements.{cuts, loops_of}
use Rattle.paper_placements.specs.Words.{gaps_of}
use Rattle.paper_order.specs.Keys.{IsKey}
use Rattle.paper_placements.proofs.Words.{gaps_of_in}
use Rattle.paper_barred.specs.Reduced.{is_blocked}
use Rattle.plan_theorem.specs.KeyOf.{key_of}
use Rattle.plan_theorem.proofs.Cheapest.{IsCheapest, cheapest, cheapest_is}

abbrev pub Planner : Type 0
Planner = Nest → List ℕ

-- a planner keeps demand 3 where it names a key of every paper that is not blocked
abbrev pub Plans : Planner → Type 0
Plans plan = (n : Nest) → is_valid n ≡ true → is_blocked n ≡ false → IsKey n (plan n)

-- the gaps of a nest at which a test holds
abbrev pub gaps_where : Nest → (ℕ → Bool) → List ℕ
gaps_where n x = gaps_of x (length n.points - 1) 1

in_where : (n : Nest) (x : ℕ → Bool) (g : ℕ) → 0 < g → g < length n.points → is_in g (gaps_where n x) ≡ x g
in_where n x g p q = gaps_of_in x (length n.points - 1) 1 g (omega arith) (omega arith)

-- ---- a barrier in every gap

abbrev pub every_gap : Planner
every_gap n = gaps_where n (λ g. true)

-- ---- optimal inside, and the whole outer loop filled

-- a barrier in every gap of the outermost loop, whatever is done inside
abbrev pub FillsOuter : Planner → Type 0
FillsOuter plan =
    (n : Nest) (g : ℕ) →
    is_valid n ≡ true →
    0 < g →
    g < length n.points →
    owner_of n.points g ≡ 0 →
    is_in g (plan n) ≡ true

-- inside as the key
abbrev pub fill_outer : Planner
fill_outer n = gaps_where n (λ g. eqb (owner_of n.points g) 0 || is_in g (key_of n))

pub fills_outer : FillsOuter fill_outer
fills_outer n g v p q o =
    let z : eqb (owner_of n.points g) 0 ≡ true = eq-eqb (owner_of n.points g) 0 o in
    rw (in_where n (λ i. eqb (owner_of n.points i) 0 || is_in i (key_of n)) g p q, z)

-- ---- each inner loop by itself, the first solution kept

-- the dependences of the loop from DO d to ENDDO end: the independent ones within it, and those that it or a loop inside
-- it carries
abbrev is_within : ℕ → ℕ → Dep → Bool
is_within d end e = pick (eqb e.kind CARRIED) (between d e.d end) (leb d e.s && leb e.t end)

-- their points counted from d
abbrev counted_from : ℕ → Dep → Dep
counted_from d e = dep e.kind (e.d - d) (e.s - d) (e.t - d)

abbrev deps_within : ℕ → ℕ → List Dep → List Dep
deps_within d end [] = []
deps_within d end (e ∷ es) =
    pick (is_within d end e) (counted_from d e ∷ deps_within d end es) (deps_within d end es)

-- the loop of DO d by itself: its gap g - d is gap g of the nest
abbrev pub alone : Nest → ℕ → Nest
alone n d =
    let end = end_of n.points d in
    nest (take (suc end - d) (drop d n.points)) (deps_within d end n.deps)

-- another loop than the outermost, with no loop inside
abbrev pub is_inner : Nest → ℕ → Bool
is_inner n d = ltb 0 d && one_loop (alone n d).points

-- a gap of an inner loop has a barrier where the first key of that loop by itself has one
abbrev pub SolvesAlone : Planner → Type 0
SolvesAlone plan =
    (n : Nest) (g : ℕ) →
    is_valid n ≡ true →
    0 < g →
    g < length n.points →
    let d = owner_of n.points g in
    is_inner n d ≡ true → is_in g (plan n) ≡ is_in (g - d) (key_of (alone n d))

-- every loop by itself
abbrev pub solve_alone : Planner
solve_alone n =
    gaps_where n (λ g. let d = owner_of n.points g in is_in (g - d) (key_of (alone n d)))

pub solves_alone : SolvesAlone solve_alone
solves_alone n g v p q inner =
    in_where n (λ i. let d = owner_of n.points i in is_in (i - d) (key_of (alone n d))) g p q

-- ---- the ring cut at its first interval end, then greedily

-- the circular interval of a dependence ends at its t: the least of these, or m
abbrev first_end : List Dep → ℕ → ℕ
first_end [] m = m
first_end (e ∷ es) m = first_end es (pick (ltb e.t m) e.t m)

-- an interval ends at gap g and is not cut yet
abbrev ends_uncut : List ℕ → List Dep → List ℕ → ℕ → Bool
ends_uncut ps [] gs g = false
ends_uncut ps (e ∷ es) gs g = (eqb e.t g && not (cuts ps e gs)) || ends_uncut ps es gs g

-- k gaps round the ring from g on: a barrier where an interval ends that is not cut yet
abbrev laid_round : Nest → ℕ → ℕ → List ℕ → List ℕ
laid_round n zero g gs = gs
laid_round n (suc k) g gs =
    laid_round n k (next_gap (length n.points - 1) g) (pick (ends_uncut n.points n.deps gs g) (g ∷ gs) gs)

-- once round from the first interval end
abbrev pub greedy_ring : Planner
greedy_ring n =
    let m = length n.points - 1 in
    let laid = laid_round n m (first_end n.deps m) [] in
    gaps_where n (λ g. is_in g laid)

abbrev pub CutsGreedily : Planner → Type 0
CutsGreedily plan = (n : Nest) → is_valid n ≡ true → one_loop n.points ≡ true → plan n ≡ greedy_ring n

-- ---- placements compared by another cost than the tree

abbrev pub Compares : (Nest → List ℕ → List ℕ) → Planner → Type 0
Compares cost plan = (n : Nest) → is_valid n ≡ true → is_blocked n ≡ false → IsCheapest cost n (plan n)

pub compares : (cost : Nest → List ℕ → List ℕ) → Compares cost (cheapest cost)
compares = cheapest_is

-- total counts: how many barriers in all
abbrev pub in_all : Nest → List ℕ → List ℕ
in_all n gs = length gs ∷ []

-- the gap before a DO put inside that loop
abbrev pub owner_inside : List ℕ → ℕ → ℕ
owner_inside ps g = pick (is_do ps g) g (owner_of ps g)

abbrev count_inside : Nest → List ℕ → ℕ → ℕ
count_inside n [] d = 0
count_inside n (g ∷ gs) d = when (eqb (owner_inside n.points g) d) 1 + count_inside n gs d

abbrev each_inside : Nest → List ℕ → List ℕ → List ℕ
each_inside n gs [] = []
each_inside n gs (d ∷ ds) = count_inside n gs d ∷ each_inside n gs ds

-- the counts then, in order of the loops' ENDDO, so that each loop comes after all inside it
abbrev pub counts_inside : Nest → List ℕ → List ℕ
counts_inside n gs = each_inside n gs (loops_of n)

-- ---- intervals that overlap two by two as one barrier's work

-- two dependences share one of the gaps 1 to m
abbrev share : List ℕ → Dep → Dep → ℕ → Bool
share ps e f zero = false
share ps e f (suc m) = (has_gap ps e (suc m) && has_gap ps f (suc m)) || share ps e f m

abbrev share_each : List ℕ → ℕ → Dep → List Dep → Bool
share_each ps m e [] = true
share_each ps m e (f ∷ fs) = share ps e f m && share_each ps m e fs

abbrev share_all : List ℕ → ℕ → List Dep → Bool
share_all ps m [] = true
share_all ps m (e ∷ es) = share_each ps m e es && share_all ps m es

abbrev pub in_pairs : Nest → Bool
in_pairs n = share_all n.points (length n.points - 1) n.deps

abbrev pub JoinsPairs : Planner → Type 0
JoinsPairs plan =
    (n : Nest) → is_valid n ≡ true → one_loop n.points ≡ true → in_pairs n ≡ true → length (plan n) ≤ 1

-- the first interval end, and else the key
abbrev pub join_pairs : Planner
join_pairs n = pick (one_loop n.points && in_pairs n) (first_end n.deps (length n.points - 1) ∷ []) (key_of n)

pub joins_pairs : JoinsPairs join_pairs
joins_pairs n v o p =
    let z : length (join_pairs n) ≡ 1 = rw (o, p) in
    omega arith
