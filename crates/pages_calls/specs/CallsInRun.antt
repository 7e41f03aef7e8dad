-- Request 11 on one page: barrier calls in a run (001, lemma 2). It rests on the page of the demands and, of the
-- project, on the structs and the name of the contract CallsSays (count_calls); `calls_kept` (proofs/CallsKept) proves
-- it.
use Rattle.std.specs.Prelude.{◌≡◌, true, List, [], ◌∷◌, ℕ, suc, ◌+◌, ◌*◌, ◌≤◌, length}
use Rattle.paper_nests.specs.declared.Nest.{Nest}
use Rattle.desk.specs.declared.Desk.{Desk}
use Rattle.call_runs.specs.declared.Calls as DC
use Rattle.call_runs.specs.Says.{CallsSays}
use Rattle.pages.specs.Demands.{At, Loop, paper_in, Correct, Reached, KeyOn, OutOfTurn}
use Rattle.pages_calls.specs.MissingRuns.{flags_in}

-- before point a there are i DOs
pub data Dos (ps : List ℕ) : ℕ → ℕ → Type 0 where
  none : Dos ps 0 0
  one : {a i : ℕ} → At ps a 1 → Dos ps a i → Dos ps (suc a) (suc i)
  other : {a i : ℕ} → (At ps a 1 → ⊥) → Dos ps a i → Dos ps (suc a) i

-- the product of the turns of the loops with DO before point a and ENDDO at or above g; ts has the turns in order of DO
pub data Times (ps ts : List ℕ) (g : ℕ) : ℕ → ℕ → Type 0 where
  none : Times ps ts g 0 1
  around
      : {a e i k : ℕ} (t : ℕ) → Loop ps a e → g ≤ e → Dos ps a i → At ts i t → Times ps ts g a k
      → Times ps ts g (suc a) (t * k)
  other : {a k : ℕ} → ((e : ℕ) → Loop ps a e → g ≤ e → ⊥) → Times ps ts g a k → Times ps ts g (suc a) k

-- each barrier counts the product of the turns of the loops around it
pub data Calls (ps ts : List ℕ) : List ℕ → ℕ → Type 0 where
  none : Calls ps ts [] 0
  more : {g k c : ℕ} {gs : List ℕ} → Times ps ts g g k → Calls ps ts gs c → Calls ps ts (g ∷ gs) (k + c)

-- the turns fit: one for each loop, from `inner` to 16, the outermost from 1; nothing is flagged, nothing barred
pub record Countable (inner : ℕ) (n : Nest) (ts : List ℕ) : Type 0 where
  pub many : Dos (paper_in n).points (length (paper_in n).points) (length ts)
  pub outermost : (t : ℕ) → At ts 0 t → (1 ≤ t) × (t ≤ 16)
  pub others : (i t : ℕ) → At ts (suc i) t → (inner ≤ t) × (t ≤ 16)
  pub unflagged : flags_in n ≡ []
  pub unbarred : (paper_in n).barred ≡ []

-- 10, 11, then 17
pub data CallsNumber (inner : ℕ) (d : Desk) (ts : List ℕ) : ℕ → Type 0 where
  turn : {n : ℕ} → OutOfTurn d n → CallsNumber inner d ts n
  not_countable : d.planned ≡ true → (Countable inner d.nest ts → ⊥) → CallsNumber inner d ts 17
  none : d.planned ≡ true → Countable inner d.nest ts → CallsNumber inner d ts 0

-- where the call answers, it gives the key's calls, and no correct set has fewer
pub record CallsInRun : Type 0 where
  pub number
      : (d : Desk) (ts : List ℕ) (r : DC.Calls) → Reached d → CallsSays d ts r
      → CallsNumber 2 d ts r.number × (r.line ≡ 0)
  pub key_calls
      : (d : Desk) (key ts : List ℕ) (r : DC.Calls) → Reached d → KeyOn d key → CallsSays d ts r → r.number ≡ 0
      → Calls (paper_in d.nest).points ts key r.calls
  pub fewest
      : (d : Desk) (ts ys : List ℕ) (r : DC.Calls) (c : ℕ) → Reached d → CallsSays d ts r → r.number ≡ 0
      → Correct (paper_in d.nest) ys → Calls (paper_in d.nest).points ts ys c → r.calls ≤ c
