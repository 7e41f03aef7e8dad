-- Request 12 on one page: two papers into one. It rests on the page of the demands and, of the project, on the structs
-- and the name of the contract JoinSays (join), which needs no desk; `join_Kept` (proofs/JoinKept) proves it.
use Rattle.std.specs.Prelude.{◌≡◌, List, [], ◌∷◌, ◌++◌, ◌↔◌, ℕ, suc, ◌+◌, ◌≤◌, ◌<◌, length, take, drop}
use Rattle.paper_nests.specs.declared.Dependence.{Dependence}
use Rattle.desk.specs.declared.Desk.{Desk}
use Rattle.desk.specs.declared.Reply.{Reply}
use Rattle.desk.specs.Says.{LoadSays}
use Rattle.call_join.specs.declared.Joined.{Joined}
use Rattle.call_join.specs.Says.{JoinSays}
use Rattle.pages.specs.Demands.{At, In, HowMany, Loop, Own, Paper, Valid, Best, Frames, Lines, Spells}

-- dependences whose points are moved along by k; an independent one has no d to move
pub data Along (k : ℕ) : List Dependence → List Dependence → Type 0 where
  none : Along k [] []
  line
      : {x y : Dependence} {xs ys : List Dependence} → x.kind ≡ 17 → y.kind ≡ 17 → y.d ≡ x.d → y.s ≡ k + x.s
      → y.t ≡ k + x.t → Along k xs ys → Along k (x ∷ xs) (y ∷ ys)
  round
      : {x y : Dependence} {xs ys : List Dependence} → x.kind ≡ 18 → y.kind ≡ 18 → y.d ≡ k + x.d → y.s ≡ k + x.s
      → y.t ≡ k + x.t → Along k xs ys → Along k (x ∷ xs) (y ∷ ys)

-- a new outer loop round the first nest, then the second, all point numbers moved along, the first paper's dependences
-- before the second's
pub record Joint (p q j : Paper) : Type 0 where
  pub points : j.points ≡ 1 ∷ (p.points ++ (q.points ++ (2 ∷ [])))
  pub firsts : List Dependence
  pub seconds : List Dependence
  pub first : Along 1 p.deps firsts
  pub second : Along (suc (length p.points)) q.deps seconds
  pub deps : j.deps ≡ firsts ++ seconds
  pub barred : j.barred ≡ []

-- two papers without barred gaps, spelled by two texts
pub record Papers (s t : List ℕ) (p q : Paper) : Type 0 where
  pub first : Spells s p
  pub second : Spells t q
  pub unbarred : (p.barred ≡ []) × (q.barred ≡ [])

-- a loop of one paper and the same loop of the joint paper have one count
abbrev pub OneCount : List ℕ → List ℕ → List ℕ → List ℕ → ℕ → ℕ → ℕ → Type 0
OneCount ps gs js key k d e = (c : ℕ) × (HowMany (Own ps d e) gs c × HowMany (Own js (k + d) (k + e)) key c)

-- the least tree of the joint paper: the two old trees under a root with count 0
pub record Tree (p q j : Paper) (a b key : List ℕ) : Type 0 where
  pub root : (e : ℕ) → Loop j.points 0 e → HowMany (Own j.points 0 e) key 0
  pub first : (d e : ℕ) → Loop p.points d e → OneCount p.points a j.points key 1 d e
  pub second : (d e : ℕ) → Loop q.points d e → OneCount q.points b j.points key (suc (length p.points)) d e

-- a refusal leaves the buffer
abbrev pub Refuses : ℕ → ℕ → ℕ → List ℕ → List ℕ → Joined → Type 0
Refuses n t l out out' r = (r.number ≡ n) × (r.text ≡ t) × (r.line ≡ l) × (out' ≡ out)

-- the joint text, written as by Write; 9 if the buffer is too short
pub record Writes (text out out' : List ℕ) (r : Joined) : Type 0 where
  pub fits
      : length text ≤ length out
      → (r.number ≡ 0) × (r.value ≡ length text) × (take r.value out' ≡ text) ×
      (drop r.value out' ≡ drop r.value out)
  pub short : length out < length text → Refuses 9 0 0 out out' r

pub record Joining : Type 0 where
  -- faults of the first text, as by Load, before those of the second; the reply says which text it was
  pub first_refused
      : (s t out out' : List ℕ) (r : Joined) (d : Desk) (l : Reply) → JoinSays s t out out' r → LoadSays d s l
      → (l.number ≡ 0 → ⊥) → Refuses l.number 1 l.line out out' r
  pub second_refused
      : (s t out out' : List ℕ) (r : Joined) (p : Paper) (d : Desk) (l : Reply) → JoinSays s t out out' r → Spells s p
      → LoadSays d t l → (l.number ≡ 0 → ⊥) → Refuses l.number 2 l.line out out' r
  -- then 14 for barred gaps, the first such text named; then 18, where the joint nest would exceed a limit; then 9
  pub first_barred
      : (s t out out' : List ℕ) (r : Joined) (p q : Paper) (g : ℕ) → JoinSays s t out out' r → Spells s p → Spells t q
      → In g p.barred → Refuses 14 1 0 out out' r
  pub second_barred
      : (s t out out' : List ℕ) (r : Joined) (p q : Paper) (g : ℕ) → JoinSays s t out out' r → Spells s p → Spells t q
      → p.barred ≡ [] → In g q.barred → Refuses 14 2 0 out out' r
  pub exceeds
      : (s t out out' : List ℕ) (r : Joined) (p q : Paper) → JoinSays s t out out' r → Papers s t p q
      → ((j : Paper) → Joint p q j → Valid j → ⊥) → Refuses 18 0 0 out out' r
  -- the text that is written spells the joint paper, and keeps the flags
  pub joined
      : (s t out out' : List ℕ) (r : Joined) (p q j : Paper) → JoinSays s t out out' r → Papers s t p q → Joint p q j
      → Valid j → (text : List ℕ) × (Spells text j × Writes text out out' r)
  pub flags
      : (s t out out' : List ℕ) (r : Joined) (p q : Paper) (fs gs hs : Frames) (i : ℕ) → JoinSays s t out out' r
      → Papers s t p q → r.number ≡ 0 → Lines s fs → Lines t gs → Lines (take r.value out') hs
      → (i < length p.points → At hs (suc i) (4 ∷ []) ↔ At fs i (4 ∷ [])) ×
      (i < length q.points → At hs (suc (length p.points) + i) (4 ∷ []) ↔ At gs i (4 ∷ []))
  -- its best sets have the two old trees under a root with count 0
  pub tree
      : (s t : List ℕ) (p q j : Paper) (a b key : List ℕ) → Papers s t p q → Joint p q j → Valid j → Best p a → Best q b
      → Best j key → Tree p q j a b key
