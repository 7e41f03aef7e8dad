-- Lent records of P's points, computed from the definitions: which are faulty, and which P's key cuts.
-- Main statements: `forward_record`, `forward_listed`, `forward_cut`, `own_ends_record`.
use mathlib.Core.Path.{◌≡◌, refl}
use mathlib.Core.List.{[], ◌∷◌}
use Rattle.paper_nests.proofs.Cases.{forward, carried, paper_P}
use Rattle.desk.specs.Desks.{fault, record_fault, list_fault, list_uncut}

-- 02, job 1: a carried record with s before t has no fault
pub forward_record : record_fault paper_P.points (carried 1 3 4) ≡ 0
forward_record = refl

-- nor has a list with it
pub forward_listed : list_fault 1 paper_P.points (forward 4 9 ∷ carried 1 3 4 ∷ forward 11 12 ∷ []) ≡ fault 0 0
forward_listed = refl

-- P's key cuts it at gap 5; the first that it does not cut stands at place 3
pub forward_cut : list_uncut 1 paper_P.points (forward 4 9 ∷ carried 1 3 4 ∷ forward 11 12 ∷ []) (5 ∷ 11 ∷ []) ≡ 3
forward_cut = refl

-- from the loop's own DO to its own ENDDO is 7 as before, at its place
pub own_ends_record : list_fault 1 paper_P.points (carried 1 3 4 ∷ carried 1 1 6 ∷ []) ≡ fault 7 2
own_ends_record = refl
