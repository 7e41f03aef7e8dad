-- The numbers of a list one by one: the set that they make, and what is behind a number among the first of a list.
-- Main statements: `SetSoFar`, what a turn keeps; `none_behind`, `number_at`.
use mathlib.Core.Path.{◌≡◌}
use mathlib.Core.Bool.{◌||◌}
use mathlib.Core.List.{List, [], ◌∷◌}
use Prim.Native.Nat.{ℕ, suc, ◌-◌, ◌≤◌, ◌<◌}
use native.Mathlib.Omega.{arith}
use lib.ListN.{length, get_or, take, drop, drop_of_length-le}
use lib.Seq.{drop-cons, get_or-take, length-take-le}
use Rattle.laws.specs.Choice.{is_in}
use Rattle.paper_placements.specs.Words.{holds}

-- what the set so far holds, with the numbers from the i-th on, are all
pub record SetSoFar (xs : List ℕ) (i : ℕ) (ws : List ℕ) : Type 0 where
  pub set_is : (g : ℕ) → (holds ws g || is_in g (drop i xs)) ≡ is_in g xs

module _ (xs : List ℕ) (count : ℕ) (fits : count ≤ length xs) where
  -- behind the last there is none
  pub none_behind : drop count (take count xs) ≡ []
  none_behind =
      let l : length (take count xs) ≤ count = omega (arith, length-take-le count xs fits) in
      drop_of_length-le (take count xs) l

  module _ (i : ℕ) (some : 0 < i) (l : i ≤ count) where
    -- the one before i stands in front of the rest
    pub number_at : drop (i - 1) (take count xs) ≡ get_or xs (i - 1) 0 ∷ drop i (take count xs)
    number_at =
        let next : suc (i - 1) ≡ i = omega arith in
        let its : get_or (take count xs) (i - 1) 0 ≡ get_or xs (i - 1) 0 = get_or-take count xs (i - 1) 0 (omega arith) in
        let inside : i - 1 < length (take count xs) = omega (arith, length-take-le count xs fits) in
        rw (its, next) at (drop-cons (take count xs) (i - 1) 0 inside)
