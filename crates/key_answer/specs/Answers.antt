-- What the program's one function promises: the bytes of the program's definition, for the key of the nest.
-- Main definitions: `answer_to`, `Answered`.
use Rattle.std.specs.Prelude.{◌≡◌, List, ◌++◌, ℕ, length}
use Rattle.paper_nests.specs.Nests.{Nest}
use Rattle.paper_lines.specs.Writing.{over}
use Rattle.paper_texts.specs.NestTexts.{read_nest}
use Rattle.paper_texts.specs.PlacementTexts.{key_text}
use Rattle.paper_texts.specs.Counts.{counts_text}
use Rattle.paper_texts.specs.Program.{program_text}
use Rattle.plan_theorem.specs.KeyOf.{key_of}

-- the bytes that a buffer must have for every answer
abbrev pub ROOM : ℕ
ROOM = 4096

-- a line number fits two bytes
abbrev pub LINES : ℕ
LINES = 65536

-- the key's frames, then the counts
abbrev pub key_and_counts : Nest → List ℕ → List ℕ
key_and_counts n key = key_text key ++ counts_text n key

-- 01, "The program": what is written for an input; 02, job 6: with the key of the nest that it spells
abbrev pub answer_to : List ℕ → List ℕ
answer_to input = program_text input (key_of (read_nest input).nest_is)

-- over the start of the buffer, and its length
pub record Answered (input out out' : List ℕ) (r : ℕ) : Type 0 where
  pub length_is : r ≡ length (answer_to input)
  pub out_is : out' ≡ over (answer_to input) out
