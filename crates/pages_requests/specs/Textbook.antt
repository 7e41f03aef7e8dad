-- Request 8 on one page: the textbook method for one loop. It rests on the page of the demands and, of the project, on
-- the structs and the name of the contract TextbookSays (textbook); `textbook_kept` (proofs/TextbookKept) proves it.
use Rattle.std.specs.Prelude.{◌≡◌, Bool, true, false, List, [], ◌∷◌, ◌++◌, ◌⊎◌, ◌↔◌, ℕ, suc, ◌≤◌, ◌<◌, length}
use Rattle.paper_nests.specs.declared.Dependence.{Dependence}
use Rattle.desk.specs.declared.Desk.{Desk}
use Rattle.desk.specs.declared.Chosen.{Chosen}
use Rattle.call_textbook.specs.Says.{TextbookSays}
use Rattle.pages.specs.Demands.{In, Rising, OneLoop, GapOf, Paper, paper_in, Cut, Correct, Reached, SetIn, KeyOn}
use Rattle.pages_requests.specs.Barred.{Blocked}

-- the unbarred gaps from a up to, but not, b
pub data Stretch (p : Paper) : ℕ → ℕ → List ℕ → Type 0 where
  done : {a b : ℕ} → a ≡ b → Stretch p a b []
  free : {a b : ℕ} {gs : List ℕ} → (In a p.barred → ⊥) → Stretch p (suc a) b gs → Stretch p a b (a ∷ gs)
  barred : {a b : ℕ} {gs : List ℕ} → In a p.barred → Stretch p (suc a) b gs → Stretch p a b gs

-- with barriers put so far, a dependence is still open; it ends at gap h of a line that goes on with hs
abbrev pub Open : Paper → List ℕ → Dependence → Type 0
Open p put x = In x p.deps × (Cut p.points x put → ⊥)

abbrev pub EndsAt : Paper → ℕ → List ℕ → Dependence → Type 0
EndsAt p h hs x = GapOf p.points x h × (Cut p.points x hs → ⊥)

-- a line cut greedily: at each gap at which an open dependence ends, so at the last unbarred gap of the interval that
-- ends first
pub data Greedy (p : Paper) : List ℕ → List ℕ → List ℕ → Type 0 where
  none : {put : List ℕ} → Greedy p put [] []
  cut
      : {put hs out : List ℕ} {h : ℕ} (x : Dependence) → Open p put x → EndsAt p h hs x → Greedy p (h ∷ put) hs out
      → Greedy p put (h ∷ hs) (h ∷ out)
  pass
      : {put hs out : List ℕ} {h : ℕ} → ((x : Dependence) → Open p put x → EndsAt p h hs x → ⊥) → Greedy p put hs out
      → Greedy p put (h ∷ hs) out

-- gap g tried as a first barrier: the line behind it round the ring is cut greedily; the result as a set
pub record Try (p : Paper) (g : ℕ) (out : List ℕ) : Type 0 where
  pub gap : (0 < g) × (g < length p.points) × (In g p.barred → ⊥)
  pub after : List ℕ
  pub before : List ℕ
  pub cuts : List ℕ
  pub after_are : Stretch p (suc g) (length p.points) after
  pub before_are : Stretch p 1 g before
  pub greedy : Greedy p (g ∷ []) (after ++ before) cuts
  pub rising : Rising (length p.points) 0 out
  pub members : (h : ℕ) → In h out ↔ ((h ≡ g) ⊎ In h cuts)

-- the smallest result, the first tried of equals, gaps rising; a paper with no dependence needs none
pub data Textbook (p : Paper) (gs : List ℕ) : Type 0 where
  none : p.deps ≡ [] → gs ≡ [] → Textbook p gs
  best
      : (g : ℕ) → (p.deps ≡ [] → ⊥) → Try p g gs
      → ((h : ℕ) (hs : List ℕ) → Try p h hs → (length gs ≤ length hs) × (h < g → length gs < length hs))
      → Textbook p gs

-- 10, then 14 for several loops, then 15 as in Plan
pub data Number (loaded : Bool) (p : Paper) : ℕ → Type 0 where
  no_nest : loaded ≡ false → Number loaded p 10
  several : loaded ≡ true → (OneLoop p.points → ⊥) → Number loaded p 14
  blocked : loaded ≡ true → OneLoop p.points → Blocked p → Number loaded p 15
  none : loaded ≡ true → OneLoop p.points → (Blocked p → ⊥) → Number loaded p 0

-- what an answer gives: a set that the method finds, correct, as many barriers as in whatever key the desk has
pub record Given (d : Desk) (r : Chosen) : Type 0 where
  pub gaps : List ℕ
  pub set : SetIn r.set.words gaps
  pub method : Textbook (paper_in d.nest) gaps
  pub correct : Correct (paper_in d.nest) gaps
  pub count : (key : List ℕ) → KeyOn d key → length gaps ≡ length key

pub record TextbookMethod : Type 0 where
  pub number
      : (d : Desk) (r : Chosen) → Reached d → TextbookSays d r
      → Number d.loaded (paper_in d.nest) r.number × (r.line ≡ 0)
  pub answer : (d : Desk) (r : Chosen) → Reached d → TextbookSays d r → r.number ≡ 0 → Given d r
