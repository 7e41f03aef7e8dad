-- What the program writes: the key and the counts of a nest text, or one line for a refusal.
-- Main definition: `program_text`.
use Rattle.std.specs.Prelude.{List, [], ◌∷◌, ◌++◌, ℕ, ◌/◌, ◌%◌, eqb, ltb, length}
use Rattle.laws.specs.Choice.{pick}
use Rattle.paper_nests.specs.Nests.{Nest}
use Rattle.paper_lines.specs.Lines.{line_text}
use Rattle.paper_barred.specs.Reduced.{is_blocked}
use Rattle.paper_texts.specs.NestTexts.{Got, read_nest}
use Rattle.paper_texts.specs.PlacementTexts.{key_text}
use Rattle.paper_texts.specs.Counts.{counts_text}

-- 01, "The program": a refusal is one line 2f, number, line in two bytes
abbrev pub REFUSAL : ℕ
REFUSAL = 47

-- 01, "The program": the longest input that is read, in bytes
abbrev pub LONGEST : ℕ
LONGEST = 8192

-- 01, "The program": 2f, number, line in two bytes, high first
abbrev pub refusal_text : ℕ → ℕ → List ℕ
refusal_text number place = line_text (REFUSAL ∷ (number ∷ (place / 256 ∷ (place % 256 ∷ []))))

-- of a nest that was loaded: the key's frames, then the counts; 02, job 7: Plan refuses a nest that is blocked
abbrev pub planned_text : Nest → List ℕ → List ℕ
planned_text n key = pick (is_blocked n) (refusal_text 15 0) (key_text key ++ counts_text n key)

-- of a text that was read: the key and the counts of its nest, or the refusal
abbrev pub answer_text : Got → List ℕ → List ℕ
answer_text g key =
    pick (eqb g.number 0) (planned_text g.nest_is key) (refusal_text g.number g.place)

-- 01, "The program": what is written for an input, with the key of its nest; input above 8,192 bytes gives 2f050000
unfoldable pub program_text : List ℕ → List ℕ → List ℕ
program_text input key = pick (ltb LONGEST (length input)) (refusal_text 5 0) (answer_text (read_nest input) key)
