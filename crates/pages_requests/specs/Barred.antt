-- Request 7 on one page: barred gaps. On the page of the demands a nest text of one loop may have lines 13 g (hex)
-- among its dependences, at most 255 (`Tells`, `Valid`), and a placement has no barred gap (`Gaps`), so that `Correct`,
-- `Best` and `Key` are read over those that avoid them; here stands what follows, and the numbers 14 to 16.
-- `barred_kept` (proofs/BarredKept) proves it.
use Rattle.std.specs.Prelude.{◌≡◌, Bool, true, false, List, [], ◌∷◌, ◌++◌, ℕ, suc, ◌≤◌, ◌<◌, length, Result, Err}
use Rattle.paper_refusals.specs.declared.Fault.{Fault}
use Rattle.paper_nests.specs.declared.Dependence.{Dependence}
use Rattle.desk.specs.declared.Desk.{Desk}
use Rattle.desk.specs.declared.Reply.{Reply}
use Rattle.desk.specs.declared.Verdict.{Verdict}
use Rattle.desk.specs.Says.{LoadSays, PlanSays, MarkSays}
use Rattle.pages.specs.Demands.{At, In, Rising, OneLoop, GapOf, Paper, paper_in, Correct, Key, Frames, Lines, Spells}
use Rattle.pages.specs.Demands.{barriers}
use Rattle.pages.specs.Demands.{Reached, Since, KeyOn, number_told}
use Rattle.pages_requests.specs.FirstKey.{Before}

-- some dependence has all its gaps barred
abbrev pub Blocked : Paper → Type 0
Blocked p = (x : Dependence) × (In x p.deps × ((g : ℕ) → GapOf p.points x g → In g p.barred))

-- the number of Plan
pub data PlanNumber (loaded : Bool) (p : Paper) : ℕ → Type 0 where
  no_nest : loaded ≡ false → PlanNumber loaded p 10
  blocked : loaded ≡ true → Blocked p → PlanNumber loaded p 15
  none : loaded ≡ true → (Blocked p → ⊥) → PlanNumber loaded p 0

pub record Barred : Type 0 where
  -- the key has no barred gap; of one loop it is a smallest correct set, the first in list order
  pub avoids
      : (d : Desk) (key : List ℕ) (g : ℕ) → Reached d → KeyOn d key → In g key → In g (paper_in d.nest).barred → ⊥
  pub smallest
      : (d : Desk) (key ys : List ℕ) → Reached d → KeyOn d key → OneLoop (paper_in d.nest).points
      → Correct (paper_in d.nest) ys → length key ≤ length ys
  pub first
      : (d : Desk) (key ys : List ℕ) → Reached d → KeyOn d key → OneLoop (paper_in d.nest).points
      → Correct (paper_in d.nest) ys → length ys ≤ length key → Before key ys
  -- 15 from Plan, after 10, just if some dependence has all its gaps barred; every other accepted nest gets a key
  pub plan
      : (d : Desk) (r : Reply) → Reached d → PlanSays d r
      → PlanNumber d.loaded (paper_in d.nest) r.number × (r.line ≡ 0)
  pub promised
      : (t : List ℕ) (d : Desk) (r : Reply) → Since t d → PlanSays d r → (Blocked (paper_in d.nest) → ⊥)
      → (key : List ℕ) × (KeyOn r.desk key × Key (paper_in d.nest) key)
  -- 14: a line 13 g, with a gap of the nest, behind lines that spell a nest of more than one loop
  pub several
      : (d : Desk) (s t : List ℕ) (p : Paper) (fs gs : Frames) (g i : ℕ) (r : Reply) → Spells s p → Lines s fs
      → Lines t (fs ++ ((19 ∷ g ∷ []) ∷ gs)) → At p.points (suc i) 1 → 0 < g → g < length p.points
      → LoadSays d t r → (r.number ≡ 14) × (r.line ≡ suc (length fs))
  -- 16: the first barred gap of a placement text that has no other fault before it
  pub marked
      : (d : Desk) (key t xs ys : List ℕ) (g : ℕ) (m : Result Verdict Fault) → Reached d → KeyOn d key
      → Lines t (barriers (xs ++ (g ∷ ys))) → Rising (length (paper_in d.nest).points) 0 (xs ++ (g ∷ []))
      → ((x : ℕ) → In x xs → In x (paper_in d.nest).barred → ⊥) → In g (paper_in d.nest).barred → MarkSays d t m
      → (f : Fault) × ((m ≡ Err f) × (number_told f.refusal ≡ 16) × (f.line ≡ suc (length xs)))
