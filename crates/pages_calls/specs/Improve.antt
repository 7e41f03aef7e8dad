-- Request 13 on one page: fewer barrier calls where loops run once. It rests on the page of the demands and that of
-- request 11 and, of the project, on the structs and the name of the contract ImproveSays (improve); `improve_kept`
-- (proofs/ImproveKept) proves it.
use Rattle.std.specs.Prelude.{◌≡◌, List, [], ◌∷◌, ◌++◌, ◌⊎◌, ◌↔◌, ℕ, suc, ◌+◌, ◌≤◌, ◌<◌, length}
use Rattle.paper_nests.specs.declared.Dependence.{Dependence}
use Rattle.desk.specs.declared.Desk.{Desk}
use Rattle.call_improve.specs.declared.Improved.{Improved}
use Rattle.call_improve.specs.Says.{ImproveSays}
use Rattle.pages.specs.Demands.{In, Rising, GapOf, Paper, paper_in, Cut, Correct, Reached, SetIn, KeyOn}
use Rattle.pages_calls.specs.CallsInRun.{Times, Calls, CallsNumber}

-- ys is the set xs with gap g; or without it; or all gaps that xs has not
pub record With (p : Paper) (g : ℕ) (xs ys : List ℕ) : Type 0 where
  pub rising : Rising (length p.points) 0 ys
  pub members : (h : ℕ) → In h ys ↔ ((h ≡ g) ⊎ In h xs)

pub record Without (p : Paper) (g : ℕ) (xs ys : List ℕ) : Type 0 where
  pub rising : Rising (length p.points) 0 ys
  pub members : (h : ℕ) → In h ys ↔ ((h ≡ g → ⊥) × In h xs)

pub record Free (p : Paper) (xs ys : List ℕ) : Type 0 where
  pub rising : Rising (length p.points) 0 ys
  pub members : (h : ℕ) → In h ys ↔ ((0 < h) × (h < length p.points) × (In h xs → ⊥))

-- each barrier of a list, in its order, is taken away from xs if what is left is still correct; zs is left in the end
pub data TakenAway (p : Paper) : List ℕ → List ℕ → List ℕ → Type 0 where
  done : {xs : List ℕ} → TakenAway p [] xs xs
  away
      : {h : ℕ} {hs xs ys zs : List ℕ} → Without p h xs ys → Correct p ys → TakenAway p hs ys zs
      → TakenAway p (h ∷ hs) xs zs
  stays
      : {h : ℕ} {hs xs ys zs : List ℕ} → Without p h xs ys → (Correct p ys → ⊥) → TakenAway p hs xs zs
      → TakenAway p (h ∷ hs) xs zs

-- a try: a barrier at g, then each other barrier, rising
pub record Try (p : Paper) (xs : List ℕ) (g : ℕ) (zs : List ℕ) : Type 0 where
  pub put : List ℕ
  pub is_put : With p g xs put
  pub taken : TakenAway p xs put zs

-- rounds from xs, with b tries left, the gaps gs of the round still to try, and k tries made; they end with a
-- placement, a number of tries, and 0 for a whole round, 1 for the budget, named only if a try of the round was still
-- undone
pub data Rounds (p : Paper) (ts : List ℕ) : ℕ → List ℕ → List ℕ → ℕ → List ℕ → ℕ → ℕ → Type 0 where
  whole : {b k : ℕ} {xs : List ℕ} → Rounds p ts b xs [] k xs k 0
  budget : {k g : ℕ} {xs gs : List ℕ} → Rounds p ts 0 xs (g ∷ gs) k xs k 1
  taken
      : {b k g m e : ℕ} {xs gs ys hs out : List ℕ} (c f : ℕ) → Try p xs g ys → Calls p.points ts xs c
      → Calls p.points ts ys f → f < c → Free p ys hs → Rounds p ts b ys hs (suc k) out m e
      → Rounds p ts (suc b) xs (g ∷ gs) k out m e
  left
      : {b k g m e : ℕ} {xs gs ys out : List ℕ} (c f : ℕ) → Try p xs g ys → Calls p.points ts xs c
      → Calls p.points ts ys f → c ≤ f → Rounds p ts b xs gs (suc k) out m e
      → Rounds p ts (suc b) xs (g ∷ gs) k out m e

-- all gaps of a dependence; c is the calls of the cheapest of some gaps
abbrev pub Had : List ℕ → Dependence → List ℕ → Type 0
Had ps x hs = (g : ℕ) → In g hs ↔ GapOf ps x g

pub record Cheapest (ps ts hs : List ℕ) (c : ℕ) : Type 0 where
  pub one : (g : ℕ) × (In g hs × Times ps ts g g c)
  pub least : (g k : ℕ) → In g hs → Times ps ts g g k → c ≤ k

-- the dependences in order, each taken that shares no gap with those taken; it adds the calls of its cheapest gap. Here
-- `had` are the gaps of those taken
pub data Floor (ps ts : List ℕ) : List ℕ → List Dependence → ℕ → Type 0 where
  none : {had : List ℕ} → Floor ps ts had [] 0
  shared
      : {x : Dependence} {xs : List Dependence} {had : List ℕ} {f : ℕ} → Cut ps x had → Floor ps ts had xs f
      → Floor ps ts had (x ∷ xs) f
  taken
      : {x : Dependence} {xs : List Dependence} {had : List ℕ} (hs : List ℕ) (c f : ℕ) → (Cut ps x had → ⊥)
      → Had ps x hs
      → Cheapest ps ts hs c → Floor ps ts (hs ++ had) xs f → Floor ps ts had (x ∷ xs) (c + f)

-- what an answer gives
pub record Given (p : Paper) (key ts : List ℕ) (budget : ℕ) (r : Improved) : Type 0 where
  pub gaps : List ℕ
  pub free : List ℕ
  pub set : SetIn r.placement.words gaps
  pub is-free : Free p key free
  pub tried : Rounds p ts budget key free 0 gaps r.tries r.ended
  pub calls : Calls p.points ts gaps r.calls
  pub correct : Correct p gaps
  pub floor : Floor p.points ts [] p.deps r.floor

pub record Improving : Type 0 where
  -- turns from 1 to 16, else under 17 as before
  pub number
      : (d : Desk) (ts : List ℕ) (b : ℕ) (r : Improved) → Reached d → ImproveSays d ts b r
      → CallsNumber 1 d ts r.number × (r.line ≡ 0)
  pub given
      : (d : Desk) (key ts : List ℕ) (b : ℕ) (r : Improved) → Reached d → KeyOn d key → ImproveSays d ts b r
      → r.number ≡ 0
      → Given (paper_in d.nest) key ts b r
  -- every correct set has at least the floor's calls; the tries are never above the budget, and a larger budget never
  -- gives more calls
  pub below
      : (d : Desk) (ts gs : List ℕ) (b c : ℕ) (r : Improved) → Reached d → ImproveSays d ts b r → r.number ≡ 0
      → Correct (paper_in d.nest) gs → Calls (paper_in d.nest).points ts gs c → r.floor ≤ c
  pub within : (d : Desk) (ts : List ℕ) (b : ℕ) (r : Improved) → ImproveSays d ts b r → r.tries ≤ b
  pub larger
      : (d : Desk) (ts : List ℕ) (b c : ℕ) (r s : Improved) → b ≤ c → ImproveSays d ts b r → ImproveSays d ts c s
      → s.calls ≤ r.calls
