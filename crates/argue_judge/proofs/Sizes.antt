-- How long the lists of the loop over the lines stay.
-- Main definition: `Long`. Main statements: `long_named`, `long_closed`.
use mathlib.Core.Path.{◌≡◌, ◌∙◌}
use mathlib.Core.List.{List}
use Prim.Native.Nat.{ℕ}
use lib.ListN.{length, set, length-set}
use Rattle.paper_nests.specs.Kinds.{POINTS}
use Rattle.argue_texts.specs.declared.Claimed.{Claimed}
use Rattle.argue_texts.specs.ArgumentTexts.{CLAIMS}

pub record Long (claims : List Claimed) (struck times : List ℕ) : Type 0 where
  pub claims_long : length claims ≡ CLAIMS
  pub struck_long : length struck ≡ POINTS
  pub times_long : length times ≡ POINTS

module _ {claims : List Claimed} {struck times : List ℕ} (l : Long claims struck times) where
  pub long_named : (new : List ℕ) → length new ≡ length times → Long claims struck new
  long_named new e =
      record { claims_long = l.claims_long; struck_long = l.struck_long; times_long = e ∙ l.times_long }

  pub long_closed
      : (i : ℕ) (k : Claimed) (new clean : List ℕ)
      → length new ≡ length struck
      → length clean ≡ POINTS
      → Long (set claims i k) new clean
  long_closed i k new clean e z =
      record { claims_long = length-set claims i k ∙ l.claims_long; struck_long = e ∙ l.struck_long; times_long = z }
