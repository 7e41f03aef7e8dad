-- The definitions run: a paper of which a dependence relies on a loop that may not run, and one that has one end of a
-- dependence alone in such a loop.
-- Main statements: `relied_cases`, `one_end_cases`.
use mathlib.Core.Path.{◌≡◌, refl}
use mathlib.Core.Bool.{true}
use mathlib.Core.List.{List, [], ◌∷◌}
use Prim.Native.Nat.{ℕ}
use Rattle.paper_nests.specs.Nests.{Dep, Nest}
use Rattle.paper_nests.specs.Valid.{is_valid}
use Rattle.paper_nests.proofs.Cases.{forward, carried}
use Rattle.paper_placements.specs.Words.{gaps_of}
use Rattle.call_missing.specs.Foreign.{is_foreign, in_foreign}
use Rattle.call_missing.specs.Listed.{cuts_inside, cuts_outside, is_listed_by, is_listed, listed_of}
use Rattle.call_skipped.specs.Relied.{relied_at}
use Rattle.call_skipped.specs.OneEnd.{is_split, one_end_by, one_end_at}

-- 01 03 04 03 03 02 03 02 with 12020403 and 110106: loop 2 may not run
abbrev over : Nest
over =
    record {
      points = 1 ∷ 3 ∷ 1 ∷ 3 ∷ 3 ∷ 2 ∷ 3 ∷ 2 ∷ [];
      deps = carried 2 4 3 ∷ forward 1 6 ∷ [];
      barred = [];
      flagged = 2 ∷ [];
    }

-- the dependence over the loop relies on it where its barriers are inside alone; the one inside relies on nothing, nor
-- does one that is not cut; there is no dependence 2
pub record WorkedRelied : Type 0 where
  pub valid : is_valid over ≡ true
  pub inside : relied_at over (3 ∷ []) 1 ≡ 2 ∷ []
  pub before_too : relied_at over (2 ∷ 3 ∷ []) 1 ≡ []
  pub own : relied_at over (3 ∷ []) 0 ≡ []
  pub not_cut : relied_at over (7 ∷ []) 1 ≡ []
  pub no_dependence : relied_at over (3 ∷ []) 2 ≡ []

pub relied_cases : WorkedRelied
unfolding gaps_of is_foreign in_foreign cuts_inside cuts_outside is_listed_by is_listed listed_of
relied_cases =
    record { valid = refl; inside = refl; before_too = refl; own = refl; not_cut = refl; no_dependence = refl }

-- 01 03 04 03 03 02 03 02, loop 2 flagged, with one dependence
abbrev split : Dep → List ℕ
split e =
    one_end_at
    (record { points = 1 ∷ 3 ∷ 1 ∷ 3 ∷ 3 ∷ 2 ∷ 3 ∷ 2 ∷ []; deps = e ∷ []; barred = []; flagged = 2 ∷ [] })
    0

-- forward into the next turn, from inside or to inside; backward; with both ends inside, with none; from the loop's own
-- DO or to its own ENDDO; within one turn
pub record WorkedOneEnd : Type 0 where
  pub from_inside : split (carried 0 3 6) ≡ 2 ∷ []
  pub to_inside : split (carried 0 1 4) ≡ 2 ∷ []
  pub backward : split (carried 0 6 3) ≡ []
  pub same_point : split (carried 0 3 3) ≡ []
  pub both_inside : split (carried 0 3 4) ≡ []
  pub none_inside : split (carried 0 1 6) ≡ []
  pub from_do : split (carried 0 2 6) ≡ []
  pub to_enddo : split (carried 0 1 5) ≡ []
  pub in_one_turn : split (forward 3 6) ≡ []

pub one_end_cases : WorkedOneEnd
unfolding gaps_of is_split one_end_by
one_end_cases =
    record {
      from_inside = refl;
      to_inside = refl;
      backward = refl;
      same_point = refl;
      both_inside = refl;
      none_inside = refl;
      from_do = refl;
      to_enddo = refl;
      in_one_turn = refl;
    }
