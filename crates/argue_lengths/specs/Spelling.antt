-- Arguments that a text spells: a frame has a byte for each number of a claim, and two for the number of a dependence
-- or of the claim that leads; the text has its limits.
-- Main definition: `Spells`.
use Rattle.std.specs.Prelude.{List, ℕ, ◌+◌, ◌≤◌, ◌<◌, length}
use Rattle.laws.specs.Members.{Among}
use Rattle.argue_claims.specs.Arguments.{Step, Claim}
use Rattle.argue_texts.specs.ArgumentTexts.{CLAIMS, STEPS}

-- what one byte, and what two can say
abbrev pub BYTE : ℕ
BYTE = 256

abbrev pub WORD : ℕ
WORD = 65536

-- the set of a dependence is its number and 2, via the number of a claim and 1
pub record StepSpells (s : Step) : Type 0 where
  pub set-fits : s.set < WORD + 2
  pub via_fits : s.via < WORD + 1

pub record ClaimSpells (k : Claim) : Type 0 where
  pub loop_fits : k.loop < BYTE
  pub from_fits : k.from < BYTE
  pub upto_fits : k.upto < BYTE
  pub few_steps : length k.steps ≤ STEPS
  pub each : (s : Step) → Among s k.steps → StepSpells s

pub record Spells (cs : List Claim) : Type 0 where
  pub few_claims : length cs ≤ CLAIMS
  pub each : (k : Claim) → Among k cs → ClaimSpells k
