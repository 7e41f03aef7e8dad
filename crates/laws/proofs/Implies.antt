-- One test where another holds, written `not a || b`.
-- Main statements: `implied`, `implies_by`.
use mathlib.Core.Path.{◌≡◌, refl}
use mathlib.Core.Bool.{Bool, true, false, ◌||◌, not}
use Rattle.laws.proofs.Tests.{never}

pub implied : (a b : Bool) → (not a || b) ≡ true → a ≡ true → b ≡ true
implied true b h p = h
implied false b h p = never p

pub implies_by : (a b : Bool) → (a ≡ true → b ≡ true) → (not a || b) ≡ true
implies_by true b f = f refl
implies_by false b f = refl
