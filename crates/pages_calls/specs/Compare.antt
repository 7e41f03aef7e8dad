-- Two placement texts held beside each other, on one page: which is better (01, "Which placement is better"), and which
-- loops decide. It rests on the page of the demands and, of the project, on the structs and the name of the contract
-- CompareSays (compare); `compare_kept` (proofs/CompareKept) proves it.
use Rattle.std.specs.Prelude.{◌≡◌, true, false, List, ◌↔◌, ℕ, ◌<◌}
use Rattle.desk.specs.declared.Desk.{Desk}
use Rattle.call_compare.specs.declared.Compared.{Compared}
use Rattle.call_compare.specs.Says.{CompareSays}
use Rattle.pages.specs.Demands.{Loop, Paper, paper_in, Same, AsGood, Places, Reached}
use Rattle.pages_calls.specs.MissingRuns.{Bit}

-- the loop of DO l decides: its counts differ, and those of all loops inside it are the same
pub record Decides (ps xs ys : List ℕ) (l : ℕ) : Type 0 where
  pub end : ℕ
  pub loop : Loop ps l end
  pub inside : (d e : ℕ) → Loop ps d e → l < d → e < end → Same ps xs ys d e
  pub differ : Same ps xs ys l end → ⊥

-- a refusal has a number and names the text at fault
abbrev pub Refused : Compared → ℕ → Type 0
Refused r text = (r.number ≡ 0 → ⊥) × (r.text ≡ text) × (r.first ≡ false) × (r.second ≡ false)

-- an answer: whether the first is as good or better than the second, the second than the first, and what decides
pub record Weighed (p : Paper) (xs ys : List ℕ) (r : Compared) : Type 0 where
  pub accepted : (r.number ≡ 0) × (r.text ≡ 0) × (r.line ≡ 0)
  pub first : (r.first ≡ true) ↔ AsGood p.points xs ys
  pub second : (r.second ≡ true) ↔ AsGood p.points ys xs
  pub deciding : (l : ℕ) → ((l < 256) × Bit r.deciding.words l) ↔ Decides p.points xs ys l

pub record Comparison : Type 0 where
  pub no_nest
      : (d : Desk) (s t : List ℕ) (r : Compared) → CompareSays d s t r → d.loaded ≡ false
      → (r.number ≡ 10) × (r.text ≡ 0) × (r.line ≡ 0)
  -- faults of the first text before those of the second
  pub first_refused
      : (d : Desk) (s t : List ℕ) (r : Compared) → Reached d → d.loaded ≡ true → CompareSays d s t r
      → ((xs : List ℕ) → Places (paper_in d.nest) s xs → ⊥) → Refused r 1
  pub second_refused
      : (d : Desk) (s t xs : List ℕ) (r : Compared) → Reached d → d.loaded ≡ true → CompareSays d s t r
      → Places (paper_in d.nest) s xs → ((ys : List ℕ) → Places (paper_in d.nest) t ys → ⊥) → Refused r 2
  pub weighed
      : (d : Desk) (s t xs ys : List ℕ) (r : Compared) → Reached d → d.loaded ≡ true → CompareSays d s t r
      → Places (paper_in d.nest) s xs → Places (paper_in d.nest) t ys → Weighed (paper_in d.nest) xs ys r
