-- Choices by a test: the words in which the other definitions are written.
-- Main definitions: `pick`, `when`, `first_of`, `between`, `is_in`.
use Rattle.std.specs.Prelude.{Bool, true, false, ◌&&◌, ◌||◌, List, [], ◌∷◌, ℕ, zero, suc, eqb, leb}

-- the first where the test holds, else the second
abbrev pub pick : {A : Type 0} → Bool → A → A → A
pick true a b = a
pick false a b = b

-- the same for statements
abbrev pub pick_t : Bool → Type 0 → Type 0 → Type 0
pick_t true a b = a
pick_t false a b = b

-- the number where the test holds, else 0
abbrev pub when : Bool → ℕ → ℕ
when true n = n
when false n = 0

-- the first number, or the second where the first is 0
abbrev pub first_of : ℕ → ℕ → ℕ
first_of zero b = b
first_of (suc a) b = suc a

-- x lies from a to b, both included
abbrev pub between : ℕ → ℕ → ℕ → Bool
between a x b = leb a x && leb x b

-- x stands in the list
abbrev pub is_in : ℕ → List ℕ → Bool
is_in x [] = false
is_in x (y ∷ ys) = eqb x y || is_in x ys
