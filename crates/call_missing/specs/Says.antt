-- What the call promises, and what the code says of listed loops. A set of loops is 256 bits: bit d is the loop of DO d.
-- Main definitions: `missing_on`, `MissingSays`; `AreDos`, `FlagBits`, `ListedSays`.
use Rattle.std.specs.Prelude.{◌≡◌, true, List, ℕ, ◌<◌}
use Rattle.laws.specs.Choice.{is_in}
use Rattle.paper_nests.specs.Nests.{Dep}
use Rattle.paper_nests.specs.Loops.{is_do}
use Rattle.paper_placements.specs.Words.{GAPS, holds, gaps_in}
use Rattle.desk.specs.declared.Desk as DD
use Rattle.desk.specs.declared.Chosen as DC
use Rattle.desk.specs.Desks.{Desk, desk_in, state_fault}
use Rattle.desk.specs.Says.{ChosenSays}
use Rattle.call_missing.specs.Foreign.{AreFlags}
use Rattle.call_missing.specs.Listed.{listed_of}

-- the listed loops of the desk's nest and key
abbrev pub missing_on : Desk → List ℕ
missing_on x = listed_of x.nest_is.points x.nest_is.deps x.nest_is.flagged x.key

-- 02, job 10: 10 and 11 as Count, then the DOs of the listed loops, rising; the call changes nothing
abbrev pub MissingSays : DD.Desk → DC.Chosen → Type 0
MissingSays d r = ChosenSays (state_fault true (desk_in d)) (missing_on (desk_in d)) r

-- each bit is a DO
abbrev pub AreDos : List ℕ → List ℕ → Type 0
AreDos ps ws = (d : ℕ) → d < GAPS → holds ws d ≡ true → is_do ps d ≡ true

-- the words have the flagged loops of the list
pub record FlagBits (ps fs ws : List ℕ) : Type 0 where
  pub flags : AreFlags ps fs
  pub bits_are : (d : ℕ) → d < GAPS → holds ws d ≡ is_in d fs

-- r has the listed loops, whichever list the flagged ones are given in
abbrev pub ListedSays : List ℕ → List Dep → List ℕ → List ℕ → List ℕ → Type 0
ListedSays ps ds flagged key r = (fs : List ℕ) → FlagBits ps fs flagged → gaps_in r ≡ listed_of ps ds fs (gaps_in key)
