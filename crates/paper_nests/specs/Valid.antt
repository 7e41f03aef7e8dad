-- When a nest is valid; numbers 6 and 7 of a dependence, 8 and 14 of a barred gap.
-- Main definitions: `is_shape`, `is_statement_or`, `dep_fault`, `is_dep`, `bar_fault`, `is_bar`, `are_flags`, `is_valid`.
use Rattle.std.specs.Prelude.{◌≡◌, Bool, true, false, ◌&&◌, ◌||◌, not, List, [], ◌∷◌, ℕ, zero, suc, eqb, ltb, leb, length, get_or}
use Rattle.laws.specs.Choice.{pick, when, first_of}
use Rattle.paper_nests.specs.Kinds.{DO, ENDDO, STATEMENT, INDEPENDENT, CARRIED, POINTS, DEPTH, DEPENDENCES, BARS}
use Rattle.paper_nests.specs.Nests.{Dep, Nest}
use Rattle.paper_nests.specs.Loops.{is_do, end_of, in_loop}
use Rattle.paper_nests.specs.Gaps.{is_gap}
use Rattle.paper_nests.specs.Ring.{one_loop}

-- the rest of a nest's points at depth d: every loop closes, none deeper than the limit, nothing after the outermost
abbrev pub closes : ℕ → List ℕ → Bool
closes zero [] = true
closes zero (p ∷ ps) = false
closes (suc d) [] = false
closes (suc d) (p ∷ ps) =
    pick
    (eqb p DO)
    (ltb (suc d) DEPTH && closes (suc (suc d)) ps)
    (pick (eqb p ENDDO) (closes d ps) (eqb p STATEMENT && closes (suc d) ps))

-- 01, "The nest and its gaps": point 0 is a DO and its ENDDO is the last point; loops at most 8 deep
abbrev pub is_shape : List ℕ → Bool
is_shape [] = false
is_shape (p ∷ ps) = eqb p DO && closes 1 ps

-- a point that may be an end of a dependence: a statement, or one of the kind k
abbrev pub is_statement_or : ℕ → List ℕ → ℕ → Bool
is_statement_or k ps p = ltb p (length ps) && (eqb (get_or ps p 0) STATEMENT || eqb (get_or ps p 0) k)

-- 01, "The nest and its gaps": s is a statement or a DO, t a statement or an ENDDO
abbrev pub is_source : List ℕ → ℕ → Bool
is_source ps s = ltb s (length ps) && (eqb (get_or ps s 0) STATEMENT || eqb (get_or ps s 0) DO)

abbrev pub is_target : List ℕ → ℕ → Bool
is_target ps t = ltb t (length ps) && (eqb (get_or ps t 0) STATEMENT || eqb (get_or ps t 0) ENDDO)

-- 01, "Numbers from the input", 6: s, t or d names no point, or a point of the wrong sort
abbrev pub names_points : List ℕ → Dep → Bool
names_points ps e = is_source ps e.s && (is_target ps e.t && (not (eqb e.kind CARRIED) || is_do ps e.d))

-- 01, "Numbers from the input", 7, as 02, job 1, leaves it: independent with s at or after t; carried with a point not
-- inside L
abbrev pub runs_right : List ℕ → Dep → Bool
runs_right ps e =
    pick
    (eqb e.kind CARRIED)
    (in_loop ps e.d e.s && in_loop ps e.d e.t)
    (ltb e.s e.t)

-- `end` is the ENDDO of the loop that carries the dependence; nothing is said of one that no loop carries
abbrev pub CarriedTo : List ℕ → Dep → ℕ → Type 0
CarriedTo ps e end = e.kind ≡ CARRIED → is_do ps e.d ≡ true → end ≡ end_of ps e.d

-- 6 or 7, of a dependence of either kind; 0 for none
abbrev pub dep_fault : List ℕ → Dep → ℕ
dep_fault ps e = first_of (when (not (names_points ps e)) 6) (when (not (runs_right ps e)) 7)

-- one of the two kinds; an independent dependence has no d
abbrev pub is_of_kind : Dep → Bool
is_of_kind e = (eqb e.kind INDEPENDENT && eqb e.d 0) || eqb e.kind CARRIED

-- a dependence as the paper says
abbrev pub is_dep : List ℕ → Dep → Bool
is_dep ps e = is_of_kind e && (names_points ps e && runs_right ps e)

abbrev pub are_deps : List ℕ → List Dep → Bool
are_deps ps [] = true
are_deps ps (e ∷ es) = is_dep ps e && are_deps ps es

-- 02, job 7: 8, a barred gap out of range; then 14, more than one loop; 0 for none
abbrev pub bar_fault : List ℕ → ℕ → ℕ
bar_fault ps g = first_of (when (not (is_gap ps g)) 8) (when (not (one_loop ps)) 14)

-- a barred gap as the job says
abbrev pub is_bar : List ℕ → ℕ → Bool
is_bar ps g = is_gap ps g && one_loop ps

abbrev pub are_bars : List ℕ → List ℕ → Bool
are_bars ps [] = true
are_bars ps (g ∷ gs) = is_bar ps g && are_bars ps gs

-- 02, job 10: along the points, of which the first is point i, the flagged ones are DOs, in order
abbrev pub are_flags : ℕ → List ℕ → List ℕ → Bool
are_flags i ps [] = true
are_flags i [] (f ∷ fs) = false
are_flags i (p ∷ ps) (f ∷ fs) =
    pick (eqb i f) (eqb p DO && are_flags (suc i) ps fs) (are_flags (suc i) ps (f ∷ fs))

-- a nest that breaks no rule
abbrev pub is_valid : Nest → Bool
is_valid n =
    is_shape n.points &&
    (leb (length n.points) POINTS &&
    (leb (length n.deps) DEPENDENCES &&
    (are_deps n.points n.deps &&
    (leb (length n.barred) BARS &&
    (are_bars n.points n.barred && are_flags 0 n.points n.flagged)))))
