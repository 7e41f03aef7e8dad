-- Text written into a lent buffer.
-- Main definition: `over`.
use Rattle.std.specs.Prelude.{List, ◌++◌, ℕ, length, drop}

-- 01, "The desk": a text written from the start of a buffer; later bytes stay
abbrev pub over : List ℕ → List ℕ → List ℕ
over xs ys = xs ++ drop (length xs) ys
