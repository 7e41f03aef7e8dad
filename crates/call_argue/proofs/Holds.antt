-- The argument whose text is given holds of the desk's key.
-- Main statement: `given_holds`.
use mathlib.Core.Path.{◌≡◌, sym, subst}
use mathlib.Core.Bool.{true}
use mathlib.Core.List.{List}
use Prim.Native.Nat.{ℕ}
use Rattle.argue_claims.specs.Arguments.{holds}
use Rattle.argue_key.specs.Laps.{argument_of}
use Rattle.argue_key.proofs.Argued.{argued}
use Rattle.desk.specs.declared.Desk as DD
use Rattle.desk.specs.Desks.{desk_in, IsMade}

-- no desk that the calls make has a key of which its argument does not hold
pub given_holds
    : (d : DD.Desk) → IsMade d → d.loaded ≡ true → d.planned ≡ true
    → holds (desk_in d).nest_is (desk_in d).key (argument_of (desk_in d).nest_is) ≡ true
given_holds d m l p =
    subst (λ (x : List ℕ). holds (desk_in d).nest_is x (argument_of (desk_in d).nest_is) ≡ true)
    (sym (m.paper.key_is p))
    (argued (desk_in d).nest_is (m.paper.valid l) (m.paper.opens p))
