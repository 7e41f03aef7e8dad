-- Loops that may not run, which are flagged, and the dependences that they are foreign to. The flags stand beside the
-- points, as a list of DOs.
-- Main definitions: `AreFlags`, `belongs`, `is_foreign`, `in_foreign`.
use Rattle.std.specs.Prelude.{◌≡◌, Bool, true, false, ◌&&◌, ◌||◌, not, List, [], ◌∷◌, ℕ, eqb}
use Rattle.laws.specs.Choice.{is_in}
use Rattle.paper_nests.specs.Nests.{Dep}
use Rattle.paper_nests.specs.Loops.{is_do, end_of, in_loop, is_around}

-- the test holds of a member of the list
abbrev pub some_in : (ℕ → Bool) → List ℕ → Bool
some_in passes [] = false
some_in passes (x ∷ xs) = passes x || some_in passes xs

-- the flagged loops are loops
abbrev pub AreFlags : List ℕ → List ℕ → Type 0
AreFlags ps fs = (d : ℕ) → is_in d fs ≡ true → is_do ps d ≡ true

-- the point is inside the loop of DO d, or is its DO or its ENDDO
abbrev pub belongs : List ℕ → ℕ → ℕ → Bool
belongs ps d p = in_loop ps d p || (eqb p d || eqb p (end_of ps d))

-- a loop is foreign to a dependence if it is flagged and neither end belongs to it
unfoldable pub is_foreign : List ℕ → List ℕ → Dep → ℕ → Bool
is_foreign ps fs e d = is_in d fs && (not (belongs ps d e.s) && not (belongs ps d e.t))

-- gap g is inside one of the loops that are foreign to the dependence: one of such a loop's gaps, d + 1 to its ENDDO
unfoldable pub in_foreign : List ℕ → List ℕ → Dep → ℕ → Bool
in_foreign ps fs e g = some_in (λ d. is_foreign ps fs e d && is_around ps g d) fs
