-- The definitions run: the nest of job 13 under several budgets and turns, and a nest without a free gap; their floors.
-- Main statements: `worked_tries`, `equal_kept`, `round_without_gaps`.
use mathlib.Core.Path.{◌≡◌, refl}
use mathlib.Core.Bool.{true, false}
use mathlib.Core.List.{List, [], ◌∷◌}
use Prim.Native.Nat.{ℕ}
use Rattle.paper_nests.specs.Nests.{Nest, nest}
use Rattle.paper_nests.proofs.Cases.{forward}
use Rattle.paper_placements.specs.Words.{gaps_of}
use Rattle.run_barriers.specs.Calls.{OUTER, dos_before, times_from, fit_in, calls_in, calls_of}
use Rattle.run_barriers.proofs.CallCases.{paper_once}
use Rattle.call_improve.specs.Tries.{taken_away, try_at}
use Rattle.call_improve.specs.Rounds.{Outcome, outcome, go, improved_of}
use Rattle.call_improve.specs.Floor.{cheapest, floor_from, floor_of}

-- both loops run once
abbrev once : List ℕ
once = 1 ∷ 1 ∷ []

-- from the key 2, 7
abbrev after : ℕ → Outcome
after b = improved_of paper_once once (2 ∷ 7 ∷ []) b

-- the third try has fewer calls, the next round none
pub record Worked : Type 0 where
  pub fits : fit_in OUTER OUTER paper_once.points once ≡ true
  pub first : try_at paper_once (2 ∷ 7 ∷ []) 1 ≡ 1 ∷ 2 ∷ 7 ∷ []
  pub third : try_at paper_once (2 ∷ 7 ∷ []) 4 ≡ 4 ∷ []
  pub ten : after 10 ≡ outcome (4 ∷ []) 10 true
  pub eleven : after 11 ≡ outcome (4 ∷ []) 10 true
  pub nine : after 9 ≡ outcome (4 ∷ []) 9 false
  pub three : after 3 ≡ outcome (4 ∷ []) 3 false
  pub two : after 2 ≡ outcome (2 ∷ 7 ∷ []) 2 false
  pub none : after 0 ≡ outcome (2 ∷ 7 ∷ []) 0 false
  pub calls : calls_of paper_once once (after 10).gaps ≡ 1
  pub floor : floor_of paper_once once ≡ 1

pub worked_tries : Worked
unfolding gaps_of dos_before times_from calls_in taken_away go cheapest floor_from
worked_tries =
    record {
      fits = refl;
      first = refl;
      third = refl;
      ten = refl;
      eleven = refl;
      nine = refl;
      three = refl;
      two = refl;
      none = refl;
      calls = refl;
      floor = refl;
    }

-- with turns 3, 2 gap 4 alone has 6 calls, as the key has: it is not taken. The budget is not named after a whole round
pub record Equal : Type 0 where
  pub kept : improved_of paper_once (3 ∷ 2 ∷ []) (2 ∷ 7 ∷ []) 10 ≡ outcome (2 ∷ 7 ∷ []) 6 true
  pub whole : improved_of paper_once (3 ∷ 2 ∷ []) (2 ∷ 7 ∷ []) 6 ≡ outcome (2 ∷ 7 ∷ []) 6 true
  pub undone : improved_of paper_once (3 ∷ 2 ∷ []) (2 ∷ 7 ∷ []) 5 ≡ outcome (2 ∷ 7 ∷ []) 5 false
  pub floor : floor_of paper_once (3 ∷ 2 ∷ []) ≡ 3

pub equal_kept : Equal
unfolding gaps_of dos_before times_from calls_in taken_away go cheapest floor_from
equal_kept = record { kept = refl; whole = refl; undone = refl; floor = refl }

-- 01 03 02 with 110001, 110102: both gaps have a barrier
abbrev paper_full : Nest
paper_full = nest (1 ∷ 3 ∷ 2 ∷ []) (forward 0 1 ∷ forward 1 2 ∷ [])

-- a round with no gap to try is whole, with no budget too; dependences that share no gap add up
pub round_without_gaps :
    (improved_of paper_full (3 ∷ []) (1 ∷ 2 ∷ []) 0 ≡ outcome (1 ∷ 2 ∷ []) 0 true) ×
    (floor_of paper_full (3 ∷ []) ≡ 6)
unfolding gaps_of dos_before times_from calls_in taken_away go cheapest floor_from
round_without_gaps = (refl, refl)
