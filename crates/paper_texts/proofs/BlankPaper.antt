-- The blank paper: an empty nest text is accepted with the nest 01, 02, and every other text is read line by line.
-- Main statements: `blank_read`, `lines_read`, `blank_made`.
use mathlib.Core.Path.{◌≡◌, refl, ap, ◌∙◌}
use mathlib.Core.List.{List, [], ◌∷◌}
use Prim.Native.Nat.{ℕ, ◌<◌}
use native.Mathlib.Omega.{arith}
use lib.ListN.{length}
use Rattle.paper_nests.specs.Kinds.{DO, ENDDO}
use Rattle.paper_nests.specs.Nests.{Nest, empty, with_point}
use Rattle.paper_nests.specs.Stored.{nest_in, IsEmpty, PointAdded}
use Rattle.paper_nests.specs.declared.Nest as DN
use Rattle.paper_lines.specs.Lines.{lines_of}
use Rattle.paper_texts.specs.NestTexts.{got, read_lines, blank, read_nest}

pub blank_read : (s : List ℕ) → length s ≡ 0 → read_nest s ≡ got 0 0 blank
unfolding read_nest
blank_read [] h = refl
blank_read (b ∷ s) h = absurd (omega arith)

-- a text with a line is read as before
pub lines_read : (s : List ℕ) → 0 < length s → read_nest s ≡ read_lines 1 empty (lines_of s)
unfolding read_nest
lines_read [] h = absurd (omega arith)
lines_read (b ∷ s) h = refl

-- a DO and an ENDDO put into an empty nest
pub blank_made
    : (a b c : DN.Nest)
    → IsEmpty a
    → PointAdded a DO b
    → PointAdded b ENDDO c
    → nest_in c ≡ blank
blank_made a b c e f g =
    g.nest_is
    ∙ ap (λ (x : Nest). with_point x ENDDO) f.nest_is
    ∙ ap (λ (x : Nest). with_point (with_point x DO) ENDDO) e.nest_is
