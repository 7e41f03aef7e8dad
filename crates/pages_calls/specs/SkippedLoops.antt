-- Loops that may not run, of one dependence, on one page: on which of them a placement relies to cut it, and which have
-- one of its ends alone. It rests on the page of the demands, on that of request 10 and, of the project, on the structs
-- and the names of the contracts ReliedSays (relied_on) and OneEndSays (one_end); `skipped_kept` (proofs/SkippedKept)
-- proves it.
use Rattle.std.specs.Prelude.{◌≡◌, true, false, List, ◌⊎◌, ◌↔◌, ℕ, ◌<◌}
use Rattle.paper_nests.specs.declared.Dependence.{Dependence}
use Rattle.desk.specs.declared.Desk.{Desk}
use Rattle.desk.specs.declared.Chosen.{Chosen}
use Rattle.call_skipped.specs.Says.{ReliedSays, OneEndSays}
use Rattle.pages.specs.Demands.{At, In, Loop, Paper, paper_in, Places, Reached}
use Rattle.pages_calls.specs.MissingRuns.{flags_in, Bit, Inside, Foreign, Cuts, Clear}

-- the reply gives the loop of DO l
abbrev pub Gives : Chosen → ℕ → Type 0
Gives r l = (l < 256) × Bit r.set.words l

-- the placement xs relies on the loop of DO l for a dependence: the loop is foreign to it, a barrier inside the loop
-- cuts it, and no cutting barrier lies outside all its foreign loops
pub record Relies (p : Paper) (flags xs : List ℕ) (x : Dependence) (l : ℕ) : Type 0 where
  pub foreign : Foreign p.points flags x l
  pub cut_inside : (g : ℕ) × (Cuts p xs x g × Inside p.points l g)
  pub none_outside
      : (g : ℕ) → Cuts p xs x g → ((j : ℕ) → Foreign p.points flags x j → Inside p.points j g → ⊥) → ⊥

-- a loop has point q alone, of the two points q and o: q is strictly between its DO and its ENDDO, o before the DO or
-- behind the ENDDO
abbrev pub Alone : ℕ → ℕ → ℕ → ℕ → Type 0
Alone l end q o = ((l < q) × (q < end)) × ((o < l) ⊎ (end < o))

-- the loop of DO l is flagged and has one end alone of a dependence that is carried, with s before t
pub record Splits (ps flags : List ℕ) (x : Dependence) (l : ℕ) : Type 0 where
  pub flagged : In l flags
  pub carried : x.kind ≡ 18
  pub forward : x.s < x.t
  pub end : ℕ
  pub loop : Loop ps l end
  pub one_end : Alone l end x.s x.t ⊎ Alone l end x.t x.s

-- a desk with a nest; a text that places xs; dependence i of the paper
pub record Asked (d : Desk) (s xs : List ℕ) (i : ℕ) (x : Dependence) : Type 0 where
  pub reached : Reached d
  pub nest : d.loaded ≡ true
  pub numbered : At (paper_in d.nest).deps i x
  pub places : Places (paper_in d.nest) s xs

pub record SkippedLoops : Type 0 where
  -- 10, then what the text breaks, then 6
  pub no_nest
      : (d : Desk) (s : List ℕ) (i : ℕ) (r : Chosen) → ReliedSays d s i r → d.loaded ≡ false
      → (r.number ≡ 10) × (r.line ≡ 0)
  pub unread
      : (d : Desk) (s : List ℕ) (i : ℕ) (r : Chosen) → Reached d → d.loaded ≡ true → ReliedSays d s i r
      → ((xs : List ℕ) → Places (paper_in d.nest) s xs → ⊥) → r.number ≡ 0 → ⊥
  pub no_dependence
      : (d : Desk) (s xs : List ℕ) (i : ℕ) (r : Chosen) → Reached d → d.loaded ≡ true → ReliedSays d s i r
      → Places (paper_in d.nest) s xs → ((x : Dependence) → At (paper_in d.nest).deps i x → ⊥)
      → (r.number ≡ 6) × (r.line ≡ 0)
  -- else the loops on which the placement relies for the dependence
  pub relied
      : (d : Desk) (s xs : List ℕ) (i : ℕ) (x : Dependence) (r : Chosen) → Asked d s xs i x → ReliedSays d s i r
      → (r.number ≡ 0) × ((l : ℕ) → Gives r l ↔ Relies (paper_in d.nest) (flags_in d.nest) xs x l)
  -- where loops are given and all of them are skipped, nothing cuts it
  pub uncut
      : (d : Desk) (s xs : List ℕ) (i : ℕ) (x : Dependence) (r : Chosen) → Asked d s xs i x → ReliedSays d s i r
      → (l : ℕ) (skipped : List ℕ) → Gives r l → ((k : ℕ) → Gives r k → In k skipped)
      → ((k : ℕ) → In k skipped → (e : ℕ) × Loop (paper_in d.nest).points k e)
      → Clear (paper_in d.nest) xs skipped x → ⊥
  -- where none is given and it is cut, it is cut whichever loops that are foreign to it are skipped
  pub still_cut
      : (d : Desk) (s xs : List ℕ) (i : ℕ) (x : Dependence) (r : Chosen) → Asked d s xs i x → ReliedSays d s i r
      → (g : ℕ) (skipped : List ℕ) → Cuts (paper_in d.nest) xs x g → ((l : ℕ) → Gives r l → ⊥)
      → ((k : ℕ) → In k skipped → Foreign (paper_in d.nest).points (flags_in d.nest) x k)
      → Clear (paper_in d.nest) xs skipped x
  -- one end alone: 10, 6, else the loops
  pub one_end_no_nest
      : (d : Desk) (i : ℕ) (r : Chosen) → OneEndSays d i r → d.loaded ≡ false → (r.number ≡ 10) × (r.line ≡ 0)
  pub one_end_no_dependence
      : (d : Desk) (i : ℕ) (r : Chosen) → Reached d → d.loaded ≡ true → OneEndSays d i r
      → ((x : Dependence) → At (paper_in d.nest).deps i x → ⊥) → (r.number ≡ 6) × (r.line ≡ 0)
  pub one_end
      : (d : Desk) (i : ℕ) (x : Dependence) (r : Chosen) → Reached d → d.loaded ≡ true
      → At (paper_in d.nest).deps i x → OneEndSays d i r
      → (r.number ≡ 0) × ((l : ℕ) → Gives r l ↔ Splits (paper_in d.nest).points (flags_in d.nest) x l)
