-- The first of two values, or the second where the first is the zero of their type.
-- Main definition: `FirstOr`.
use Rattle.std.specs.Prelude.{◌≡◌, Bool}
use Rattle.laws.specs.Choice.{pick}

pub record FirstOr {T : Type 0} (eq : T → T → Bool) (is_zero : T → Type 0) (first other given : T) : Type 0 where
  pub zero : T
  pub zero_is : is_zero zero
  pub given_is : given ≡ pick (eq first zero) other first
