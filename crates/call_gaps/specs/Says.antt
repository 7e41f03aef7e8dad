-- The gaps of a dependence, and what the call promises.
-- Main definitions: `gaps_had`, `gaps_at`, `gaps_fault`, `GapsSays`.
use Rattle.std.specs.Prelude.{false, not, List, [], ◌∷◌, ℕ, zero, suc, ◌-◌, ltb, length}
use Rattle.laws.specs.Choice.{when, first_of}
use Rattle.paper_nests.specs.Nests.{Dep}
use Rattle.paper_nests.specs.Gaps.{has_gap}
use Rattle.paper_placements.specs.Words.{gaps_of}
use Rattle.desk.specs.declared.Desk as DD
use Rattle.desk.specs.declared.Chosen as DC
use Rattle.desk.specs.Desks.{Desk, desk_in, state_fault}
use Rattle.desk.specs.Says.{ChosenSays}

-- the gaps of a dependence, rising
abbrev pub gaps_had : List ℕ → Dep → List ℕ
gaps_had ps e = gaps_of (has_gap ps e) (length ps - 1) 1

-- those of dependence i; none where there is no such dependence
abbrev pub gaps_at : List ℕ → List Dep → ℕ → List ℕ
gaps_at ps [] i = []
gaps_at ps (e ∷ es) zero = gaps_had ps e
gaps_at ps (e ∷ es) (suc i) = gaps_at ps es i

-- 10; 6, no dependence has this number
abbrev pub gaps_fault : Desk → ℕ → ℕ
gaps_fault x i = first_of (state_fault false x) (when (not (ltb i (length x.nest_is.deps))) 6)

-- 10, 6; then all gaps of the dependence, rising, barred ones too; the call changes nothing
abbrev pub GapsSays : DD.Desk → ℕ → DC.Chosen → Type 0
GapsSays d i r =
    let x = desk_in d in
    ChosenSays (gaps_fault x i) (gaps_at x.nest_is.points x.nest_is.deps i) r
