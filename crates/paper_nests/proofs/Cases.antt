-- The papers of document 01, and cases of loops, gaps, valid nests and numbers 6 and 7 on them, computed from the
-- definitions. The starred cases, with keys and verdicts, are another table (crate plan_theorem, `starred_keys`).
-- Main definitions: the papers. Main statement: `worked_cases`.
use mathlib.Core.Path.{◌≡◌, refl}
use mathlib.Core.Bool.{Bool, true, false, ◌&&◌, not}
use mathlib.Core.List.{List, [], ◌∷◌, ◌++◌}
use Prim.Native.Nat.{ℕ, zero, suc}
use lib.Dec.{eqb}
use lib.ListN.{length, replicate}
use Rattle.laws.specs.Choice.{pick}
use Rattle.paper_nests.specs.Kinds.{DO, ENDDO, STATEMENT, INDEPENDENT, CARRIED}
use Rattle.paper_nests.specs.Nests.{Dep, dep, Nest, barring, nest, with_dep, with_bar}
use Rattle.paper_nests.specs.Loops.{end_of, owner_of}
use Rattle.paper_nests.specs.Gaps.{has_gap}
use Rattle.paper_nests.specs.Valid.{is_shape, dep_fault, bar_fault, is_valid}

-- lines 11 s t and 12 d s t
abbrev pub forward : ℕ → ℕ → Dep
forward s t = dep INDEPENDENT 0 s t

abbrev pub carried : ℕ → ℕ → ℕ → Dep
carried d s t = dep CARRIED d s t

-- 01 01 03 03 03 03 02 01 03 03 03 03 02 02 with 110205, 12010403, 11080b, 12070a09, 12000a02, 110409 (001, figure 4)
abbrev pub paper_P : Nest
paper_P =
    nest
    (1 ∷ 1 ∷ 3 ∷ 3 ∷ 3 ∷ 3 ∷ 2 ∷ 1 ∷ 3 ∷ 3 ∷ 3 ∷ 3 ∷ 2 ∷ 2 ∷ [])
    (forward 2 5 ∷ carried 1 4 3 ∷ forward 8 11 ∷ carried 7 10 9 ∷ carried 0 10 2 ∷ forward 4 9 ∷ [])

-- 01 03 01 01 03 03 02 03 02 02 with 110105, 12030504, 110407 (001, figure 7)
abbrev pub paper_Q : Nest
paper_Q = nest (1 ∷ 3 ∷ 1 ∷ 1 ∷ 3 ∷ 3 ∷ 2 ∷ 3 ∷ 2 ∷ 2 ∷ []) (forward 1 5 ∷ carried 3 5 4 ∷ forward 4 7 ∷ [])

-- 01, six times 03, 02 with 110104, 110306, 12000502
abbrev pub paper_R : Nest
paper_R = nest (1 ∷ 3 ∷ 3 ∷ 3 ∷ 3 ∷ 3 ∷ 3 ∷ 2 ∷ []) (forward 1 4 ∷ forward 3 6 ∷ carried 0 5 2 ∷ [])

-- 01 03 02 with 12000101
abbrev pub paper_turn : Nest
paper_turn = nest (1 ∷ 3 ∷ 2 ∷ []) (carried 0 1 1 ∷ [])

-- 01 02
abbrev pub paper_bare : Nest
paper_bare = nest (1 ∷ 2 ∷ []) []

-- 01 03 02 with 110102, 12000101: the smallest ring on which cutting at the first interval end and going on greedily
-- takes one barrier too many
abbrev pub paper_ring : Nest
paper_ring = nest (1 ∷ 3 ∷ 2 ∷ []) (forward 1 2 ∷ carried 0 1 1 ∷ [])

-- 01 01 03 02 02 with 12010202: one barrier inside is enough
abbrev pub paper_inner : Nest
paper_inner = nest (1 ∷ 1 ∷ 3 ∷ 2 ∷ 2 ∷ []) (carried 1 2 2 ∷ [])

-- 01 03 01 03 02 02 with 110103, 110205: gap 3 alone cuts both, and lies in loop 2, where no barrier is needed
abbrev pub paper_door : Nest
paper_door = nest (1 ∷ 3 ∷ 1 ∷ 3 ∷ 2 ∷ 2 ∷ []) (forward 1 3 ∷ forward 2 5 ∷ [])

-- 01 03 03 03 02 with 12000103: carried, and s before t, so any gap of the loop serves
abbrev pub paper_forward : Nest
paper_forward = nest (1 ∷ 3 ∷ 3 ∷ 3 ∷ 2 ∷ []) (carried 0 1 3 ∷ [])

-- P with 12010304 beside its own
abbrev pub paper_P_forward : Nest
paper_P_forward = with_dep paper_P (carried 1 3 4)

-- 01, five times 03, 02 with 12000503, 12000401, 110005 and gaps 1, 2 and 4 barred: of 12000401 only gap 5 is left
-- before the ENDDO and none before t
abbrev pub paper_barred : Nest
paper_barred =
    barring
    (1 ∷ 3 ∷ 3 ∷ 3 ∷ 3 ∷ 3 ∷ 2 ∷ [])
    (carried 0 5 3 ∷ carried 0 4 1 ∷ forward 0 5 ∷ [])
    (1 ∷ 2 ∷ 4 ∷ [])

-- 01 03 03 02 with 110102 and gap 2 barred, which is its only gap
abbrev pub paper_blocked : Nest
paper_blocked = barring (1 ∷ 3 ∷ 3 ∷ 2 ∷ []) (forward 1 2 ∷ []) (2 ∷ 2 ∷ [])

-- P whose inner loop may not run, and P with a flag at a point that is no DO
abbrev pub paper_may_not : Nest
paper_may_not =
    record { points = paper_P.points; deps = paper_P.deps; barred = []; flagged = 1 ∷ [] }

abbrev paper_no_loop : Nest
paper_no_loop =
    record { points = paper_P.points; deps = paper_P.deps; barred = []; flagged = 1 ∷ 3 ∷ [] }

-- numbers listed for each number below a bound, and compared
abbrev pub same_list : List ℕ → List ℕ → Bool
same_list [] [] = true
same_list [] (y ∷ ys) = false
same_list (x ∷ xs) [] = false
same_list (x ∷ xs) (y ∷ ys) = eqb x y && same_list xs ys

abbrev each_from : (ℕ → ℕ) → ℕ → ℕ → List ℕ
each_from f zero i = []
each_from f (suc k) i = f i ∷ each_from f k (suc i)

-- the gaps, rising, that all of some dependences have
abbrev are_its : List ℕ → List Dep → ℕ → Bool
are_its ps [] g = true
are_its ps (e ∷ es) g = has_gap ps e g && are_its ps es g

abbrev shared_from : ℕ → ℕ → List ℕ → List Dep → List ℕ
shared_from zero g ps es = []
shared_from (suc f) g ps es = pick (are_its ps es g) (g ∷ []) [] ++ shared_from f (suc g) ps es

abbrev pub share : Nest → List Dep → List ℕ → Bool
share n es gs = same_list (shared_from (length n.points) 0 n.points es) gs

-- k loops, each directly inside the one before
abbrev deep : ℕ → List ℕ
deep k = replicate k DO ++ replicate k ENDDO

-- the papers break no rule; loops 8 deep are accepted, 9 are not, nor a point after the outermost loop, nor a loop left
-- open
abbrev valid_papers : Bool
valid_papers =
    is_valid paper_P &&
    (is_valid paper_Q &&
    (is_valid paper_R &&
    (is_valid paper_turn &&
    (is_valid paper_bare &&
    (is_valid paper_forward &&
    (is_valid paper_P_forward &&
    (is_valid paper_barred &&
    (is_valid paper_blocked &&
    (not (is_valid (with_bar paper_P 5)) && (is_valid paper_may_not && not (is_valid paper_no_loop)))))))))))

abbrev shapes : Bool
shapes =
    is_shape (deep 8) &&
    (not (is_shape (deep 9)) &&
    (not (is_shape (DO ∷ ENDDO ∷ STATEMENT ∷ [])) &&
    (not (is_shape (DO ∷ DO ∷ ENDDO ∷ [])) && not (is_shape (STATEMENT ∷ [])))))

-- the ENDDOs of Q's loops 0, 2 and 3, and the loops of its gaps 1 to 9: the gap before a DO is of the loop outside
abbrev loops : Bool
loops =
    eqb (end_of paper_Q.points 0) 9 &&
    (eqb (end_of paper_Q.points 2) 8 &&
    (eqb (end_of paper_Q.points 3) 6 &&
    same_list (each_from (owner_of paper_Q.points) 9 1) (0 ∷ 0 ∷ 2 ∷ 3 ∷ 3 ∷ 3 ∷ 2 ∷ 2 ∷ 0 ∷ [])))

-- s + 1 to t; d + 1 to t and s + 1 to e, which is d + 1 to e where s is before t
abbrev gaps : Bool
gaps =
    share paper_P (forward 4 9 ∷ []) (5 ∷ 6 ∷ 7 ∷ 8 ∷ 9 ∷ []) &&
    (share paper_P (carried 7 10 9 ∷ []) (8 ∷ 9 ∷ 11 ∷ 12 ∷ []) &&
    (share paper_forward (carried 0 1 3 ∷ []) (1 ∷ 2 ∷ 3 ∷ 4 ∷ []) &&
    share paper_P_forward (carried 1 3 4 ∷ []) (2 ∷ 3 ∷ 4 ∷ 5 ∷ 6 ∷ [])))

abbrev each_fault : List Dep → List ℕ
each_fault [] = []
each_fault (e ∷ es) = dep_fault paper_Q.points e ∷ each_fault es

-- numbers 6 and 7 of dependences on Q's points: a good one; no point 10; s an ENDDO; t a DO; d no DO; independent with
-- s at t; carried with s before t is none, nor s at t; s not inside; t not inside; s the loop's own DO; t its own
-- ENDDO; from the one to the other
abbrev faults : Bool
faults =
    same_list
    (each_fault
    (carried 2 7 4 ∷
    forward 4 10 ∷
    forward 6 7 ∷
    forward 1 3 ∷
    carried 4 5 5 ∷
    forward 4 4 ∷
    carried 2 4 7 ∷
    carried 3 5 5 ∷
    carried 3 7 4 ∷
    carried 3 4 7 ∷
    carried 2 2 7 ∷
    carried 2 4 8 ∷
    carried 2 2 8 ∷
    []))
    (0 ∷ 6 ∷ 6 ∷ 6 ∷ 6 ∷ 7 ∷ 0 ∷ 0 ∷ 7 ∷ 7 ∷ 7 ∷ 7 ∷ 7 ∷ [])

-- numbers 8 and 14 of barred gaps: gap 0, the last gap and one behind it, on one loop; on Q
abbrev bar_faults : Bool
bar_faults =
    same_list
    (bar_fault paper_R.points 0 ∷
    bar_fault paper_R.points 7 ∷
    bar_fault paper_R.points 8 ∷
    bar_fault paper_Q.points 9 ∷
    bar_fault paper_Q.points 10 ∷
    [])
    (8 ∷ 0 ∷ 8 ∷ 14 ∷ 8 ∷ [])

pub worked_cases : (valid_papers && (shapes && (loops && (gaps && (faults && bar_faults))))) ≡ true
worked_cases = refl
