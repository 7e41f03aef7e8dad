-- Rising lists of gaps with one gap more or one less.
-- Main definitions: `with_gap`, `without`.
use Rattle.std.specs.Prelude.{List, [], ◌∷◌, ℕ, eqb, ltb}
use Rattle.laws.specs.Choice.{pick}

-- the rising list with gap g, which it did not have
abbrev pub with_gap : ℕ → List ℕ → List ℕ
with_gap g [] = g ∷ []
with_gap g (x ∷ xs) = pick (ltb g x) (g ∷ (x ∷ xs)) (x ∷ with_gap g xs)

-- the list without gap g
abbrev pub without : ℕ → List ℕ → List ℕ
without g [] = []
without g (x ∷ xs) = pick (eqb g x) xs (x ∷ without g xs)
