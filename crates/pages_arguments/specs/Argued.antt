-- Arguments on one page: what the page of the demands (crate pages, specs/Demands) says of keys is so of every set of
-- gaps with an argument that holds, whoever found the two; and the key of every desk has one. `argued_kept`
-- (proofs/Kept) proves it.
use Rattle.std.specs.Prelude.{◌≡◌, true, List, ℕ}
use Rattle.paper_nests.specs.Stored.{nest_in}
use Rattle.argue_claims.specs.Arguments.{Claim, holds}
use Rattle.desk.specs.declared.Desk.{Desk}
use Rattle.pages.specs.Demands.{paper_in, Key, Reached, Since, KeyOn}

-- cs is an argument for the set gs of gaps of the desk's paper
abbrev pub Argues : Desk → List ℕ → List Claim → Type 0
Argues d gs cs = holds (nest_in d.nest) gs cs ≡ true

pub record Argued : Type 0 where
  -- of the paper that the last accepted Load read: a set with an argument is a key
  pub sound
      : (t : List ℕ) (d : Desk) (gs : List ℕ) (cs : List Claim) → Since t d → Argues d gs cs
      → Key (paper_in d.nest) gs
  -- the key of every desk has one
  pub planned : (d : Desk) (gs : List ℕ) → Reached d → KeyOn d gs → (cs : List Claim) × Argues d gs cs
