-- Arguments of papers P, Q and R and of the other nests of docs/WHY.md, by computing: each holds of all keys of its
-- paper, and of none of the dearer placements there. A claim speaks of counts, so one argument serves all keys.
-- Main statement: `papers`.
use mathlib.Core.Path.{◌≡◌, refl}
use mathlib.Core.Bool.{Bool, true, false}
use mathlib.Core.List.{List, [], ◌∷◌}
use Prim.Native.Nat.{ℕ}
use Rattle.paper_nests.specs.Nests.{Nest, nest}
use Rattle.paper_nests.proofs.Cases.{forward, paper_P, paper_Q, paper_R, paper_barred}
use Rattle.argue_claims.specs.Arguments.{Claim, claim, st, lots, holds}

-- whether an argument holds of these placements, in their order
abbrev held : Nest → List Claim → List (List ℕ) → List Bool
held n cs [] = []
held n cs (gs ∷ rest) = holds n gs cs ∷ held n cs rest

-- loops 1 and 7 need one each, by dependences 0 and 2
abbrev pub for_P : List Claim
for_P = claim 1 0 0 (st 2 0 ∷ []) ∷ claim 7 0 0 (st 4 0 ∷ []) ∷ []

-- loop 3 needs one, at 4 or 6; if it has one from 5 on, it has none up to 4, or it would have two of its own. So
-- dependence 2 is cut from 5 on in loop 3, and for dependence 0 gap 2 alone is left.
abbrev pub for_Q : List Claim
for_Q =
    claim 3 0 0 (st 3 0 ∷ []) ∷ claim 3 5 4 (st 0 0 ∷ st 1 0 ∷ []) ∷ claim 0 0 0 (st 4 2 ∷ st 2 0 ∷ []) ∷ []

-- three dependences, and no gap in all three: three halves, so two
abbrev pub for_R : List Claim
for_R = claim 0 0 0 (st 3 0 ∷ st 4 0 ∷ st 2 0 ∷ []) ∷ []

-- docs/WHY.md, "So even one barrier can lose to two": the inner loop needs none, and then each dependence needs its own
abbrev pub paper_even_one : Nest
paper_even_one = nest (1 ∷ 3 ∷ 1 ∷ 3 ∷ 3 ∷ 3 ∷ 2 ∷ 3 ∷ 2 ∷ []) (forward 1 4 ∷ forward 3 7 ∷ [])

abbrev pub for_even_one : List Claim
for_even_one = claim 0 0 0 (st 2 0 ∷ st 3 0 ∷ []) ∷ []

-- docs/WHY.md, "Barred gaps": the unbarred gaps of each two dependences share one, those of all three none
abbrev pub for_barred : List Claim
for_barred = claim 0 0 0 (st 2 0 ∷ st 3 0 ∷ st 4 0 ∷ []) ∷ []

-- docs/WHY.md, "One key for one paper": the inner loop's barrier cannot stand both up to 2 and from 3 on
abbrev pub paper_two_keys : Nest
paper_two_keys = nest (1 ∷ 1 ∷ 3 ∷ 2 ∷ 2 ∷ []) (forward 0 2 ∷ forward 1 3 ∷ forward 2 4 ∷ [])

abbrev pub for_two_keys : List Claim
for_two_keys =
    claim 1 0 0 (st 3 0 ∷ []) ∷ claim 1 3 2 (st 0 0 ∷ st 1 0 ∷ []) ∷ claim 0 0 0 (st 4 2 ∷ st 2 0 ∷ []) ∷ []

pub record Papers : Type 0 where
  pub of_P : held paper_P for_P ((5 ∷ 11 ∷ []) ∷ []) ≡ true ∷ []
  pub dearer_P
      : held paper_P for_P ((3 ∷ 9 ∷ 13 ∷ []) ∷ (4 ∷ 5 ∷ 11 ∷ []) ∷ (5 ∷ 10 ∷ 11 ∷ []) ∷ (4 ∷ 5 ∷ 10 ∷ 11 ∷ []) ∷ [])
      ≡ false ∷ false ∷ false ∷ false ∷ []
  pub of_Q : held paper_Q for_Q ((2 ∷ 6 ∷ []) ∷ []) ≡ true ∷ []
  pub dearer_Q
      : held paper_Q for_Q ((3 ∷ 6 ∷ []) ∷ (4 ∷ 7 ∷ []) ∷ (4 ∷ 5 ∷ []) ∷ (4 ∷ 6 ∷ []) ∷ (5 ∷ 6 ∷ []) ∷ [])
      ≡ false ∷ false ∷ false ∷ false ∷ false ∷ []
  pub of_R
      : held paper_R for_R ((1 ∷ 4 ∷ []) ∷ (2 ∷ 4 ∷ []) ∷ (2 ∷ 5 ∷ []) ∷ (2 ∷ 6 ∷ []) ∷ (3 ∷ 6 ∷ []) ∷ (4 ∷ 6 ∷ []) ∷
      (4 ∷ 7 ∷ []) ∷ [])
      ≡ true ∷ true ∷ true ∷ true ∷ true ∷ true ∷ true ∷ []
  pub dearer_R : held paper_R for_R ((1 ∷ 2 ∷ 4 ∷ []) ∷ (2 ∷ 4 ∷ 6 ∷ []) ∷ []) ≡ false ∷ false ∷ []
  pub of_even_one : held paper_even_one for_even_one ((2 ∷ 7 ∷ []) ∷ []) ≡ true ∷ []
  pub dearer_even_one : held paper_even_one for_even_one ((4 ∷ []) ∷ []) ≡ false ∷ []
  pub of_barred
      : held paper_barred for_barred ((3 ∷ 5 ∷ []) ∷ (3 ∷ 6 ∷ []) ∷ (5 ∷ 6 ∷ []) ∷ []) ≡ true ∷ true ∷ true ∷ []
  pub dearer_barred : held paper_barred for_barred ((3 ∷ 5 ∷ 6 ∷ []) ∷ []) ≡ false ∷ []
  pub of_two_keys : held paper_two_keys for_two_keys ((1 ∷ 3 ∷ []) ∷ (2 ∷ 4 ∷ []) ∷ []) ≡ true ∷ true ∷ []
  pub dearer_two_keys : held paper_two_keys for_two_keys ((1 ∷ 2 ∷ 4 ∷ []) ∷ (2 ∷ 3 ∷ []) ∷ []) ≡ false ∷ false ∷ []

pub papers : Papers
unfolding lots
papers =
    record {
      of_P = refl;
      dearer_P = refl;
      of_Q = refl;
      dearer_Q = refl;
      of_R = refl;
      dearer_R = refl;
      of_even_one = refl;
      dearer_even_one = refl;
      of_barred = refl;
      dearer_barred = refl;
      of_two_keys = refl;
      dearer_two_keys = refl;
    }
