-- Request 10 on one page: loops that may not run. It rests on the page of the demands and, of the project, on the
-- structs and the name of the contract MissingSays (missing_runs); `missing_kept` (proofs/MissingKept) proves it.
use Rattle.std.specs.Prelude.{◌≡◌, List, [], ◌∷◌, ◌⊎◌, ◌↔◌, ℕ, ◌/◌, ◌%◌, ◌^◌, ◌≤◌, ◌<◌, take, get_or}
use Rattle.paper_nests.specs.declared.Dependence.{Dependence}
use Rattle.paper_nests.specs.declared.Nest.{Nest}
use Rattle.desk.specs.declared.Desk.{Desk}
use Rattle.desk.specs.declared.Chosen.{Chosen}
use Rattle.call_missing.specs.Says.{MissingSays}
use Rattle.pages.specs.Demands.{At, In, Loop, GapOf, Paper, paper_in, Frames, Lines, Reached, Since, KeyOn, OutOfTurn}

-- the flagged loops that the nest keeps, by their DOs
abbrev pub flags_in : Nest → List ℕ
flags_in n = take n.flags n.flagged

-- bit l of a set of loops: the loop of DO l
abbrev pub Bit : List ℕ → ℕ → Type 0
Bit words l = get_or words (l / 64) 0 / 2 ^ (l % 64) % 2 ≡ 1

-- gap g is inside the loop of DO l, one of its gaps l + 1 to its ENDDO
pub record Inside (ps : List ℕ) (l g : ℕ) : Type 0 where
  pub end : ℕ
  pub loop : Loop ps l end
  pub within : (l < g) × (g ≤ end)

-- the loop of DO l is foreign to a dependence: flagged, and neither end is inside it or is its DO or ENDDO
pub record Foreign (ps flags : List ℕ) (x : Dependence) (l : ℕ) : Type 0 where
  pub flagged : In l flags
  pub end : ℕ
  pub loop : Loop ps l end
  pub source : (l ≤ x.s) × (x.s ≤ end) → ⊥
  pub target : (l ≤ x.t) × (x.t ≤ end) → ⊥

-- a barrier at g cuts a dependence
abbrev pub Cuts : Paper → List ℕ → Dependence → ℕ → Type 0
Cuts p key x g = In g key × GapOf p.points x g

-- the loop needs a barrier for its missing run: for some dependence that it is foreign to, a barrier inside it cuts
-- that dependence, and no cutting barrier lies outside all its foreign loops
pub record Needs (p : Paper) (flags key : List ℕ) (l : ℕ) : Type 0 where
  pub dep : Dependence
  pub is-dep : In dep p.deps
  pub foreign : Foreign p.points flags dep l
  pub cut_inside : (g : ℕ) × (Cuts p key dep g × Inside p.points l g)
  pub none_outside
      : (g : ℕ) → Cuts p key dep g → ((j : ℕ) → Foreign p.points flags dep j → Inside p.points j g → ⊥) → ⊥

-- some loops are skipped: a cutting barrier in none of them; or one inside a skipped loop that the call gives, with no
-- skipped loop around it, so that its substitute is reached
pub record Clear (p : Paper) (key skipped : List ℕ) (x : Dependence) : Type 0 where
  pub gap : ℕ
  pub cuts : Cuts p key x gap
  pub clear : (l : ℕ) → In l skipped → Inside p.points l gap → ⊥

pub record Substituted (p : Paper) (key skipped : List ℕ) (given : ℕ → Type 0) (x : Dependence) : Type 0 where
  pub gap : ℕ
  pub cuts : Cuts p key x gap
  pub loop : ℕ
  pub skipped_and_given : In loop skipped × given loop
  pub inside : Inside p.points loop gap
  pub outermost : (l e : ℕ) → In l skipped → Loop p.points l e → l < loop → loop < e → ⊥

pub record MissingRuns : Type 0 where
  -- a line 04 is a DO, and the nest keeps its flag. A paper has no flags, so that the key is worked out as before
  -- (FirstKey, `of_paper`)
  pub flags
      : (t : List ℕ) (d : Desk) (fs : Frames) (l : ℕ) → Since t d → Lines t fs
      → In l (flags_in d.nest) ↔ At fs l (4 ∷ [])
  -- 10 and 11 as Count does, else no refusal
  pub turn : (d : Desk) (r : Chosen) (n : ℕ) → MissingSays d r → OutOfTurn d n → (r.number ≡ n) × (r.line ≡ 0)
  pub answers : (d : Desk) (key : List ℕ) (r : Chosen) → Reached d → KeyOn d key → MissingSays d r → r.number ≡ 0
  -- the call gives the loops that need a barrier
  pub listed
      : (d : Desk) (key : List ℕ) (r : Chosen) (l : ℕ) → Reached d → KeyOn d key → MissingSays d r
      → ((l < 256) × Bit r.set.words l) ↔ Needs (paper_in d.nest) (flags_in d.nest) key l
  -- whichever are skipped, a dependence to which all of them are foreign is still cut
  pub reached
      : (d : Desk) (key skipped : List ℕ) (r : Chosen) (x : Dependence) → Reached d → KeyOn d key → MissingSays d r
      → In x (paper_in d.nest).deps
      → ((l : ℕ) → In l skipped → Foreign (paper_in d.nest).points (flags_in d.nest) x l)
      → Clear (paper_in d.nest) key skipped x ⊎
      Substituted (paper_in d.nest) key skipped (λ l. Bit r.set.words l) x
