-- Requests 4 and 5 on one page: the candidate's own placement at the screen. It rests on the page of the demands and,
-- of the project, on the structs and the names of contracts only; `sittings_kept` (proofs/SittingsKept) proves it. The
-- numbers of Put, Lift and Take back, and how many moves can be taken back, stand on the page of the numbers.
use Rattle.std.specs.Prelude.{◌≡◌, List, [], ◌⊎◌, ◌↔◌, ℕ, suc, get_or}
use Rattle.paper_nests.specs.declared.Dependence.{Dependence}
use Rattle.desk.specs.declared.Desk.{Desk}
use Rattle.desk.specs.declared.PlainDesk.{PlainDesk}
use Rattle.desk.specs.declared.Reply.{Reply}
use Rattle.call_moves.specs.declared.Moved.{Moved}
use Rattle.desk.specs.Says.{LoadSays, PlanSays, OverSays}
use Rattle.call_moves.specs.Says.{PutSays, LiftSays, BackSays}
use Rattle.pages.specs.Demands.{At, In, HowMany, GapOf, Paper, paper_in, Cut, OldOf, Reached, SetIn, KeyOn}

abbrev pub Seat : Desk → List ℕ → Type 0
Seat d gs = SetIn d.sitting.placement.words gs

-- as many dependences are cut by none of the gaps
abbrev pub Remain : Paper → List ℕ → ℕ → Type 0
Remain p gs k = HowMany (λ x. Cut p.points x gs → ⊥) p.deps k

-- a move that is made leaves the set gs, tells how many dependences remain uncut, and touches neither paper nor key
pub record Left (d : Desk) (r : Moved) (gs : List ℕ) : Type 0 where
  pub seat : Seat r.desk gs
  pub told : Remain (paper_in d.nest) gs r.uncut
  pub paper_same : paper_in r.desk.nest ≡ paper_in d.nest
  pub key_same : (key : List ℕ) → KeyOn d key → KeyOn r.desk key

-- calls from d to e in which every move is taken back, the latest first, at most h moves standing at a time; Plan may
-- lie between, and whatever is refused, since it changes nothing
pub data Undone : ℕ → Desk → Desk → Type 0 where
  done : {h : ℕ} {d e : Desk} → d ≡ e → Undone h d e
  plan : {h : ℕ} {d e : Desk} (r : Reply) → PlanSays d r → Undone h r.desk e → Undone h d e
  put
      : {h : ℕ} {d b e : Desk} (g : ℕ) (r q : Moved) → PutSays d g r → r.number ≡ 0 → Undone h r.desk b
      → BackSays b q
      → Undone (suc h) q.desk e → Undone (suc h) d e
  lift
      : {h : ℕ} {d b e : Desk} (g : ℕ) (r q : Moved) → LiftSays d g r → r.number ≡ 0 → Undone h r.desk b
      → BackSays b q
      → Undone (suc h) q.desk e → Undone (suc h) d e

pub record Sittings : Type 0 where
  -- 4: empty after Load, untouched by Plan; what is kept equals a fresh count
  pub seated : (d : Desk) → Reached d → (gs : List ℕ) × Seat d gs
  pub fresh : (d : Desk) (t : List ℕ) (r : Reply) → LoadSays d t r → r.number ≡ 0 → Seat r.desk []
  pub plan : (d : Desk) (r : Reply) (gs : List ℕ) → PlanSays d r → Seat d gs → Seat r.desk gs
  -- a desk of the kind before goes over with its nest and an empty sitting
  pub over
      : (d e : Desk) (old : PlainDesk) → Reached d → OldOf d old → OverSays old e
      → Seat e [] × (paper_in e.nest ≡ paper_in old.nest) × (e.loaded ≡ old.loaded)
  pub counts
      : (d : Desk) (gs : List ℕ) (i : ℕ) (x : Dependence) → Reached d → Seat d gs → At (paper_in d.nest).deps i x
      → HowMany (GapOf (paper_in d.nest).points x) gs (get_or d.sitting.counts i 0)
  pub uncut : (d : Desk) (gs : List ℕ) → Reached d → Seat d gs → Remain (paper_in d.nest) gs d.sitting.uncut
  -- Put and Lift
  pub put
      : (d : Desk) (gs : List ℕ) (g : ℕ) (r : Moved) → Reached d → Seat d gs → PutSays d g r → r.number ≡ 0
      → (hs : List ℕ) × (Left d r hs × ((x : ℕ) → In x hs ↔ ((x ≡ g) ⊎ In x gs)))
  pub lift
      : (d : Desk) (gs : List ℕ) (g : ℕ) (r : Moved) → Reached d → Seat d gs → LiftSays d g r → r.number ≡ 0
      → (hs : List ℕ) × (Left d r hs × ((x : ℕ) → In x hs ↔ ((x ≡ g → ⊥) × In x gs)))
  -- 5: Take back replies as Put does
  pub back : (d : Desk) (r : Moved) → Reached d → BackSays d r → r.number ≡ 0 → (hs : List ℕ) × Left d r hs
  -- up to 64 moves are taken back; after them the sitting is what it was
  pub taken-back : (d e : Desk) (gs : List ℕ) → Reached d → Undone 64 d e → Seat d gs → Seat e gs
