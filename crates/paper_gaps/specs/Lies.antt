-- Where a dependence lies, and all its gaps put.
-- Main definitions: `WithEnds`, `LiesTo`, `EndsIn`, `GapsPut`.
use Rattle.std.specs.Prelude.{◌≡◌, true, ◌||◌, List, ℕ, ◌<◌}
use Rattle.paper_nests.specs.declared.Dependence as DE
use Rattle.paper_nests.specs.declared.Nest as DN
use Rattle.paper_nests.specs.Kinds.{INDEPENDENT, POINTS}
use Rattle.paper_nests.specs.Loops.{end_of, HasEnds}
use Rattle.paper_nests.specs.Gaps.{has_gap}
use Rattle.paper_nests.specs.Valid.{is_valid}
use Rattle.paper_nests.specs.Stored.{dep_in, nest_in, IsCounted}
use Rattle.paper_placements.specs.Words.{holds}

-- a nest within the limits, with the ENDDO of every loop
pub record WithEnds (nest : DN.Nest) (ends : List ℕ) : Type 0 where
  pub counted : IsCounted nest
  pub valid : is_valid (nest_in nest) ≡ true
  pub ends_are : HasEnds (nest_in nest).points ends

-- where the dependence lies, `end` being the ENDDO of the loop that carries it
pub record LiesTo (e : DE.Dependence) (end : ℕ) : Type 0 where
  pub forward : e.kind ≡ INDEPENDENT → e.s < e.t
  pub target_after : (e.kind ≡ INDEPENDENT → ⊥) → e.d < e.t
  pub target_before : (e.kind ≡ INDEPENDENT → ⊥) → e.t < end
  pub source_before : (e.kind ≡ INDEPENDENT → ⊥) → e.s < end
  pub inside : (e.kind ≡ INDEPENDENT → ⊥) → end < POINTS

-- `end` is the ENDDO of the loop that carries the dependence in a nest with these points
abbrev pub EndsIn : List ℕ → DE.Dependence → ℕ → Type 0
EndsIn ps e end = (e.kind ≡ INDEPENDENT → ⊥) → end ≡ end_of ps e.d

-- the words vs are ws with all gaps of the dependence as well
abbrev pub GapsPut : ℕ → DE.Dependence → List ℕ → List ℕ → Type 0
GapsPut end e ws vs =
    (ps : List ℕ) →
    EndsIn ps e end →
    (g : ℕ) →
    holds vs g ≡ (has_gap ps (dep_in e) g || holds ws g)
