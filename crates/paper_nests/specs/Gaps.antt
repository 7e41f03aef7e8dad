-- The gaps of a nest, and those of a dependence.
-- Main definitions: `is_gap`, `has_gap`.
use Rattle.std.specs.Prelude.{Bool, ◌&&◌, ◌||◌, List, ℕ, suc, eqb, ltb, length}
use Rattle.laws.specs.Choice.{pick, between}
use Rattle.paper_nests.specs.Kinds.{INDEPENDENT}
use Rattle.paper_nests.specs.Nests.{Dep}
use Rattle.paper_nests.specs.Loops.{end_of}

-- 01, "The nest and its gaps": gaps 1 to n - 1
abbrev pub is_gap : List ℕ → ℕ → Bool
is_gap ps g = ltb 0 g && ltb g (length ps)

-- 01, "The nest and its gaps": independent, s + 1 to t; carried by the loop of DO d and ENDDO e, d + 1 to t and
-- s + 1 to e
abbrev pub has_gap : List ℕ → Dep → ℕ → Bool
has_gap ps e g =
    pick
    (eqb e.kind INDEPENDENT)
    (between (suc e.s) g e.t)
    (between (suc e.d) g e.t || between (suc e.s) g (end_of ps e.d))
