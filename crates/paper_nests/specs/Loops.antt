-- Loops: depth, the ENDDO of a DO, the loop that a gap belongs to.
-- Main definitions: `is_do`, `depth`, `end_of`, `HasEnds`, `owner_of`, `in_loop`, `is_closed`.
use Rattle.std.specs.Prelude.{◌≡◌, Bool, true, false, ◌&&◌, List, [], ◌∷◌, ℕ, zero, suc, ◌-◌, eqb, ltb, leb, length, get_or, drop}
use Rattle.laws.specs.Choice.{pick}
use Rattle.paper_nests.specs.Kinds.{DO, ENDDO}

abbrev pub is_do : List ℕ → ℕ → Bool
is_do ps i = eqb (get_or ps i 0) DO

abbrev pub is_end : List ℕ → ℕ → Bool
is_end ps i = eqb (get_or ps i 0) ENDDO

-- the depth after one more point
abbrev pub deeper : ℕ → ℕ → ℕ
deeper d p = pick (eqb p DO) (suc d) (pick (eqb p ENDDO) (d - 1) d)

-- the depth after some points, from depth d
abbrev pub depth_from : ℕ → List ℕ → ℕ
depth_from d [] = d
depth_from d (p ∷ ps) = depth_from (deeper d p) ps

abbrev pub depth : List ℕ → ℕ
depth ps = depth_from 0 ps

-- the point of the first ENDDO that closes the loop open at depth 1, counted from i
abbrev pub end_from : ℕ → ℕ → List ℕ → ℕ
end_from i d [] = i
end_from i d (p ∷ ps) = pick (eqb p ENDDO && eqb d 1) i (end_from (suc i) (deeper d p) ps)

-- 01, "The nest and its gaps": a loop is named by its DO's point d; this is the point of its ENDDO
abbrev pub end_of : List ℕ → ℕ → ℕ
end_of ps d = end_from d 0 (drop d ps)

-- the table has the ENDDO of every DO, by the DO's point
abbrev pub HasEnds : List ℕ → List ℕ → Type 0
HasEnds ps ends = (d : ℕ) → is_do ps d ≡ true → get_or ends d 0 ≡ end_of ps d

-- 01, "The nest and its gaps": gap g belongs to the innermost loop with DO below g and ENDDO at or above g
abbrev pub owner_from : ℕ → ℕ → List ℕ → ℕ
owner_from zero g ps = 0
owner_from (suc d) g ps = elim (is_do ps d && leb g (end_of ps d)) [ true ↦ d | false ↦ owner_from d g ps ]

abbrev pub owner_of : List ℕ → ℕ → ℕ
owner_of ps g = owner_from g g ps

-- gap g is one of the gaps d + 1 to e of the loop with DO d and ENDDO e
abbrev pub is_around : List ℕ → ℕ → ℕ → Bool
is_around ps g d = ltb d g && leb g (end_of ps d)

-- 01, "The nest and its gaps": a point lies inside a loop if it is strictly between that DO and its ENDDO
abbrev pub is_inside : ℕ → ℕ → ℕ → Bool
is_inside d end p = ltb d p && ltb p end

abbrev pub in_loop : List ℕ → ℕ → ℕ → Bool
in_loop ps d p = is_inside d (end_of ps d) p

-- all points are there: begun, and the outermost loop closed
abbrev pub is_closed : List ℕ → Bool
is_closed ps = leb 1 (length ps) && eqb (depth ps) 0
