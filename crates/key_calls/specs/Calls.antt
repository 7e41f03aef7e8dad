-- The program's answer beside the desk's calls: what Load, Plan, Write and Count of a desk give.
-- Main definitions: `counted_from`, `Calls`, `answer_of`, `AnswersByCalls`.
use Rattle.std.specs.Prelude.{◌≡◌, List, [], ◌∷◌, ◌++◌, ℕ, suc, ◌≤◌, eqb, length, take}
use Rattle.laws.specs.Choice.{pick}
use Rattle.paper_nests.specs.Kinds.{DO}
use Rattle.paper_lines.specs.Lines.{line_text}
use Rattle.paper_texts.specs.Counts.{COUNT}
use Rattle.paper_texts.specs.Program.{LONGEST, refusal_text}
use Rattle.desk.specs.declared.Desk as DD
use Rattle.desk.specs.declared.Reply as DR
use Rattle.desk.specs.declared.Answer as DA
use Rattle.desk.specs.Desks.{desk_in, IsMade}
use Rattle.desk.specs.Says.{LoadSays, PlanSays, CountSays, WriteSays}
use Rattle.key_answer.specs.Answers.{answer_to}

-- a line for each DO among the points from i on, with what `count` gives for it
unfoldable pub counted_from : (ℕ → ℕ) → ℕ → List ℕ → List ℕ
counted_from count i [] = []
counted_from count i (p ∷ ps) =
    pick (eqb p DO) (line_text (COUNT ∷ (i ∷ (count i ∷ [])))) [] ++ counted_from count (suc i) ps

-- whatever desk made by calls it is: Load of the text s, Plan of the desk that it leaves, then Write into a buffer and
-- Count for each point, with their replies. Where neither is refused, the buffer is long enough.
pub record Calls (s : List ℕ) : Type 0 where
  pub desk : DD.Desk
  pub made : IsMade desk
  pub load : DR.Reply
  pub load_says : LoadSays desk s load
  pub plan : DR.Reply
  pub plan_says : PlanSays load.desk plan
  pub out : List ℕ
  pub out' : List ℕ
  pub write : DA.Answer
  pub write_says : WriteSays plan.desk out out' write
  pub fits : load.number ≡ 0 → plan.number ≡ 0 → write.number ≡ 0
  pub count : ℕ → DA.Answer
  pub count_says : (d : ℕ) → CountSays plan.desk d (count d)

-- the bytes written, then the counts; or the refusal of Load, or that of Plan
abbrev pub planned_of : (s : List ℕ) → Calls s → List ℕ
planned_of s c =
    pick
    (eqb c.plan.number 0)
    (take c.write.value c.out' ++
    counted_from (λ d. (c.count d).value) 0 (desk_in c.plan.desk).nest_is.points)
    (refusal_text c.plan.number c.plan.line)

abbrev pub answer_of : (s : List ℕ) → Calls s → List ℕ
answer_of s c =
    pick (eqb c.load.number 0) (planned_of s c) (refusal_text c.load.number c.load.line)

-- 01, "The program": it loads and plans, and writes the key's frames, then the counts
abbrev pub AnswersByCalls : Type 0
AnswersByCalls = (s : List ℕ) (c : Calls s) → length s ≤ LONGEST → answer_to s ≡ answer_of s c
