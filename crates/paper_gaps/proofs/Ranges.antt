-- Ranges of gaps put into words.
-- Main statement: `Ranged`, what a turn keeps.
use mathlib.Core.Path.{◌≡◌}
use mathlib.Core.Bool.{◌&&◌, ◌||◌}
use mathlib.Core.List.{List}
use Prim.Native.Nat.{ℕ, ◌+◌, ◌≤◌}
use lib.Dec.{ltb, leb}
use Rattle.paper_placements.specs.Words.{holds}

-- the gaps from lo up to g are put
pub record Ranged (ws : List ℕ) (lo hi g : ℕ) (vs : List ℕ) : Type 0 where
  pub low : lo ≤ g
  pub high : g ≤ hi + 1
  pub held : (i : ℕ) → holds vs i ≡ ((leb lo i && ltb i g) || holds ws i)
