-- An argument in a buffer, and the costs of a nest's loops.
-- Main definitions: `Spelled`, `CostsAre`.
use Rattle.std.specs.Prelude.{◌≡◌, true, List, ℕ, ◌≤◌, length}
use Rattle.laws.specs.Entries.{at}
use Rattle.paper_nests.specs.Nests.{Nest}
use Rattle.paper_nests.specs.Loops.{is_do}
use Rattle.plan_method.specs.Plan.{table_of}
use Rattle.plan_method.specs.Home.{loops_in, lines_in}
use Rattle.argue_claims.specs.Arguments.{Claim}
use Rattle.argue_texts.specs.ArgumentTexts.{CLAIMS, argument_text}
use Rattle.argue_spell.specs.Added.{Added}

-- how many claims the argument has, and, if they are not too many, its text from the start of the buffer on
pub record Spelled (cs : List Claim) (out out' : List ℕ) (many next : ℕ) : Type 0 where
  pub many_is : many ≡ length cs
  pub text_is : many ≤ CLAIMS → Added (argument_text cs) 0 out out' next

-- the costs of the loops in the planner's tables
abbrev pub CostsAre : Nest → List ℕ → Type 0
CostsAre n costs =
    (d : ℕ) →
    is_do n.points d ≡ true →
    at costs d ≡ (table_of (loops_in n.points) (lines_in n.points n.deps) (length n.points)).cost d
