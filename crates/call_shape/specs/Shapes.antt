-- The shape of a nest, place by place.
-- Main definitions: `owner_at`, `end_at`, `inside_of`, `depth_at`.
use Rattle.std.specs.Prelude.{List, ℕ, ◌-◌, eqb, get_or, take}
use Rattle.laws.specs.Choice.{pick, when}
use Rattle.paper_nests.specs.Kinds.{ENDDO}
use Rattle.paper_nests.specs.Loops.{is_do, depth, end_of, owner_of}
use Rattle.paper_nests.specs.Gaps.{is_gap}

-- the loop of gap g; 0 where g is no gap
abbrev pub owner_at : List ℕ → ℕ → ℕ
owner_at ps g = when (is_gap ps g) (owner_of ps g)

-- the ENDDO of the loop of DO d; 0 where d is no DO
abbrev pub end_at : List ℕ → ℕ → ℕ
end_at ps d = when (is_do ps d) (end_of ps d)

-- how many of the loops open before a point it is inside: an ENDDO is not inside its own
abbrev pub inside_of : ℕ → ℕ → ℕ
inside_of kind depth = pick (eqb kind ENDDO) (depth - 1) depth

-- how many loops point p is inside; 0 where there is no such point
abbrev pub depth_at : List ℕ → ℕ → ℕ
depth_at ps p = inside_of (get_or ps p 0) (depth (take p ps))
