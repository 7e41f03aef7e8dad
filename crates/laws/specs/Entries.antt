-- A list of numbers as a table.
-- Main definition: `at`.
use Rattle.std.specs.Prelude.{List, ℕ, get_or}

-- an entry of the list; 0 beyond its end
abbrev pub at : List ℕ → ℕ → ℕ
at xs i = get_or xs i 0
