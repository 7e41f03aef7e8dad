-- The joint text in its parts, and what their writers promise and ask.
-- Main definitions: `points_text`, `is_next`, `deps_text`, `Writes`, `StayBytes`.
use Rattle.std.specs.Prelude.{◌≡◌, Bool, false, List, [], ◌∷◌, ◌++◌, ℕ, ◌+◌, ◌<◌, eqb, length}
use Rattle.laws.specs.Members.{Among}
use Rattle.paper_nests.specs.declared.Nest as DN
use Rattle.paper_nests.specs.Stored.{nest_in}
use Rattle.paper_nests.specs.Kinds.{ENDDO, INDEPENDENT}
use Rattle.paper_nests.specs.Nests.{Dep, Nest}
use Rattle.paper_lines.specs.Lines.{line_text}
use Rattle.paper_lines.specs.Writing.{over}
use Rattle.paper_texts.specs.Pieces.{pieces_text}
use Rattle.paper_texts.specs.NestTexts.{point_pieces, dep_pieces}
use Rattle.call_join.specs.JointNests.{joined}

-- the joint nest of two that the code keeps
abbrev pub joint_in : DN.Nest → DN.Nest → Nest
joint_in n m = joined (nest_in n) (nest_in m)

-- the points of a nest as text, the flagged ones as such
abbrev pub points_text : Nest → List ℕ
points_text n = pieces_text (point_pieces 0 n.points n.flagged)

-- point i is the first of these flagged ones
abbrev pub is_next : ℕ → List ℕ → Bool
is_next i [] = false
is_next i (f ∷ fs) = eqb i f

-- what follows the first nest's points in a joint nest, and what follows its DO
abbrev pub second_text : Nest → List ℕ
second_text m = points_text m ++ line_text (ENDDO ∷ [])

abbrev pub inside_text : Nest → Nest → List ℕ
inside_text n m = points_text n ++ second_text m

-- dependences as text
abbrev pub deps_text : List Dep → List ℕ
deps_text es = pieces_text (dep_pieces es)

-- a text is written from the start of a buffer: r is its length, and later bytes stay
abbrev pub Writes : List ℕ → List ℕ → List ℕ → ℕ → Type 0
Writes text out out' r = (r ≡ length text) × (out' ≡ over text out)

-- the points of a dependence are still bytes when they are moved along by k
pub record StaysBytes (k : ℕ) (e : Dep) : Type 0 where
  pub d_fits : (e.kind ≡ INDEPENDENT → ⊥) → k + e.d < 256
  pub s_fits : k + e.s < 256
  pub t_fits : k + e.t < 256

abbrev pub StayBytes : ℕ → List Dep → Type 0
StayBytes k es = (e : Dep) → Among e es → StaysBytes k e
