-- A text that is added to what stands in a lent buffer, from a place on.
-- Main definitions: `head_text`, `step_text`, `Added`.
use Rattle.std.specs.Prelude.{◌≡◌, List, [], ◌∷◌, ◌++◌, ℕ, ◌+◌, ◌≤◌, length}
use Rattle.paper_lines.specs.Lines.{line_text}
use Rattle.paper_lines.specs.Writing.{over}
use Rattle.argue_claims.specs.Arguments.{Step}
use Rattle.argue_texts.specs.ArgumentTexts.{CLAIM, set_frame, by_text}

-- no place of a text is further on
abbrev pub FAR : ℕ
FAR = 1099511627776

-- the greatest set or claim that is spelled
abbrev pub WORD : ℕ
WORD = 65536

-- a claim's own line, and the lines of a step
abbrev pub head_text : ℕ → ℕ → ℕ → List ℕ
head_text d a b = line_text (CLAIM ∷ (d ∷ (a ∷ (b ∷ []))))

abbrev pub step_text : Step → List ℕ
step_text s = by_text s.via ++ line_text (set_frame s.set)

-- the text was added at a place, which is then `next`: if what came before, `done`, stood over what the buffer held
-- first, and there is room, all of it does now. Without room the place alone moves on.
pub record Added (text : List ℕ) (at : ℕ) (out out' : List ℕ) (next : ℕ) : Type 0 where
  pub next_is : next ≡ at + length text
  pub size : length out' ≡ length out
  pub written
      : (done first : List ℕ)
      → length done ≡ at
      → length first ≡ length out
      → (at ≤ length out → out ≡ over done first)
      → next ≤ length out
      → out' ≡ over (done ++ text) first
