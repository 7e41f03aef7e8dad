-- And, or with a test that is known on the right.
-- Main statements: `and_off`, `or_off`.
use mathlib.Core.Path.{◌≡◌, refl}
use mathlib.Core.Bool.{Bool, true, false, ◌&&◌, ◌||◌}

pub and_off : (b : Bool) → (b && false) ≡ false
and_off true = refl
and_off false = refl

pub or_off : (b : Bool) → (b || false) ≡ b
or_off true = refl
or_off false = refl
