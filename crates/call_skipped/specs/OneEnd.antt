-- The flagged loops that have one end alone of a dependence that goes forward into the next turn: such a loop may be
-- skipped in one of its two turns while the dependence occurs.
-- Main definitions: `has_one_end`, `is_split`, `one_end_by`, `one_end_at`; `Splits`, the same as a statement; `is_one_end`,
-- `WithOneEnd`.
use Rattle.std.specs.Prelude.{◌≡◌, Bool, true, false, ◌&&◌, ◌||◌, not, List, ◌⊎◌, ℕ, ◌<◌, eqb, ltb, length}
use Rattle.laws.specs.Choice.{between, is_in}
use Rattle.laws.specs.Entries.{at}
use Rattle.paper_nests.specs.Kinds.{CARRIED}
use Rattle.paper_nests.specs.Nests.{Dep, Nest}
use Rattle.paper_nests.specs.Loops.{in_loop, is_inside}
use Rattle.paper_placements.specs.Words.{GAPS, holds, gaps_of}
use Rattle.call_missing.specs.Foreign.{belongs}
use Rattle.call_skipped.specs.Relied.{of_number}

-- one end is inside the loop of DO d, and the other does not belong to it
abbrev pub has_one_end : List ℕ → Dep → ℕ → Bool
has_one_end ps e d =
    (in_loop ps d e.s && not (belongs ps d e.t)) || (in_loop ps d e.t && not (belongs ps d e.s))

-- carried, with s before t
abbrev pub goes_on : Dep → Bool
goes_on e = eqb e.kind CARRIED && ltb e.s e.t

-- loop d is flagged and has one end alone of such a dependence
unfoldable pub is_split : List ℕ → List ℕ → Dep → ℕ → Bool
is_split ps fs e d = is_in d fs && (goes_on e && has_one_end ps e d)

-- the DOs of these loops, rising; those of dependence i of a nest
unfoldable pub one_end_by : List ℕ → List ℕ → Dep → List ℕ
one_end_by ps fs e = gaps_of (is_split ps fs e) (length ps) 0

abbrev pub one_end_at : Nest → ℕ → List ℕ
one_end_at n i = of_number (one_end_by n.points n.flagged) n.deps i

pub record Splits (ps fs : List ℕ) (e : Dep) (d : ℕ) : Type 0 where
  pub flagged : is_in d fs ≡ true
  pub carried : e.kind ≡ CARRIED
  pub forward : e.s < e.t
  pub one_end
      : ((in_loop ps d e.s ≡ true) × (belongs ps d e.t ≡ false)) ⊎
      ((in_loop ps d e.t ≡ true) × (belongs ps d e.s ≡ false))

-- the same of a loop by its DO and ENDDO
abbrev pub is_one_end : ℕ → ℕ → ℕ → ℕ → Bool
is_one_end d end s t = (is_inside d end s && not (between d t end)) || (is_inside d end t && not (between d s end))

-- r has those of the loops that have one of s and t alone
abbrev pub WithOneEnd : List ℕ → List ℕ → ℕ → ℕ → List ℕ → Type 0
WithOneEnd ends ws s t r = (d : ℕ) → d < GAPS → holds r d ≡ (holds ws d && is_one_end d (at ends d) s t)
