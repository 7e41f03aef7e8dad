-- Placements as rising lists of gaps: which dependences they cut, what they count.
-- Main definitions: `cuts`, `uncut`, `avoids`, `is_correct`, `loop_count`, `loops_of`, `differ`.
use Rattle.std.specs.Prelude.{Bool, true, false, ◌&&◌, ◌||◌, not, List, [], ◌∷◌, ◌++◌, ℕ, zero, suc, ◌+◌, eqb, ltb, length}
use Rattle.laws.specs.Choice.{pick, when, is_in}
use Rattle.paper_nests.specs.Nests.{Dep, Nest}
use Rattle.paper_nests.specs.Loops.{is_end, owner_of}
use Rattle.paper_nests.specs.Gaps.{has_gap}

-- 01, "The nest and its gaps": a dependence is cut by a placement that holds one of its gaps
abbrev pub cuts : List ℕ → Dep → List ℕ → Bool
cuts ps e [] = false
cuts ps e (g ∷ gs) = has_gap ps e g || cuts ps e gs

-- the lowest gap of the placement that cuts the dependence; 0 for none
abbrev pub cut_by : List ℕ → Dep → List ℕ → ℕ
cut_by ps e [] = 0
cut_by ps e (g ∷ gs) = pick (has_gap ps e g) g (cut_by ps e gs)

-- the number of the first dependence that is not cut, counted from i, plus 1; 0 for none
abbrev pub uncut_from : ℕ → List ℕ → List Dep → List ℕ → ℕ
uncut_from i ps [] gs = 0
uncut_from i ps (e ∷ es) gs = pick (cuts ps e gs) (uncut_from (suc i) ps es gs) (suc i)

abbrev pub uncut : Nest → List ℕ → ℕ
uncut n gs = uncut_from 0 n.points n.deps gs

-- 01, "The nest and its gaps": gaps 1 to n - 1; rising, so that a list is a set
abbrev pub are_gaps_from : ℕ → ℕ → List ℕ → Bool
are_gaps_from last n [] = true
are_gaps_from last n (g ∷ gs) = ltb last g && (ltb g n && are_gaps_from g n gs)

abbrev pub are_gaps : Nest → List ℕ → Bool
are_gaps n gs = are_gaps_from 0 (length n.points) gs

-- a gap that is not barred
abbrev pub is_free : List ℕ → ℕ → Bool
is_free bs g = not (is_in g bs)

-- a placement without barred gaps
abbrev pub avoids : List ℕ → List ℕ → Bool
avoids bs [] = true
avoids bs (g ∷ gs) = is_free bs g && avoids bs gs

-- 01, "The nest and its gaps": a placement is correct if every dependence is cut; 02, job 7: it avoids barred gaps
abbrev pub is_correct : Nest → List ℕ → Bool
is_correct n gs = are_gaps n gs && (avoids n.barred gs && eqb (uncut n gs) 0)

-- 01, "The nest and its gaps": a loop's count is the ones among its own gaps
abbrev pub loop_count : Nest → List ℕ → ℕ → ℕ
loop_count n [] d = 0
loop_count n (g ∷ gs) d = when (eqb (owner_of n.points g) d) 1 + loop_count n gs d

-- the loops by their ENDDO, so that each comes after all inside it
abbrev pub loops_from : ℕ → ℕ → List ℕ → List ℕ
loops_from zero e ps = []
loops_from (suc f) e ps = pick (is_end ps e) (owner_of ps e ∷ []) [] ++ loops_from f (suc e) ps

abbrev pub loops_of : Nest → List ℕ
loops_of n = loops_from (length n.points) 0 n.points

-- 01, "The desk": the first loop by ENDDO at which the counts differ, plus 1; 0 for none
abbrev pub differ_from : Nest → List ℕ → List ℕ → List ℕ → ℕ
differ_from n a b [] = 0
differ_from n a b (d ∷ ds) = pick (eqb (loop_count n a d) (loop_count n b d)) (differ_from n a b ds) (suc d)

abbrev pub differ : Nest → List ℕ → List ℕ → ℕ
differ n a b = differ_from n a b (loops_of n)
