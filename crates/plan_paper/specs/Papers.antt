-- What planning a paper gives: the key of its nest, or none where the nest is blocked.
-- Main definitions: `gaps_of_key`, `PaperSays`.
use Rattle.std.specs.Prelude.{◌≡◌, List, [], ℕ, Option, Some, None, is_none}
use Rattle.laws.specs.Choice.{pick}
use Rattle.paper_nests.specs.Nests.{Nest}
use Rattle.paper_placements.specs.Words.{gaps_in}
use Rattle.paper_placements.specs.declared.Placement.{Placement}
use Rattle.paper_barred.specs.Reduced.{is_blocked}
use Rattle.plan_theorem.specs.KeyOf.{key_of}

-- the gaps of a key that there may be
abbrev pub gaps_of_key : Option Placement → List ℕ
gaps_of_key None = []
gaps_of_key (Some key) = gaps_in key.words

-- whether the nest is blocked, and its key; no gap where it is
pub record PaperSays (n : Nest) (r : Option Placement) : Type 0 where
  pub blocked_is : is_none r ≡ is_blocked n
  pub key_is : gaps_of_key r ≡ pick (is_blocked n) [] (key_of n)
