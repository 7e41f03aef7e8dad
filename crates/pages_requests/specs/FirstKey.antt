-- Request 6 on one page: of all best sets the key is the first in list order, so that a paper has one key. It rests on
-- the page of the demands; `first_kept` (proofs/FirstKeys) proves it.
use Rattle.std.specs.Prelude.{◌≡◌, true, List, ◌∷◌, ℕ, ◌<◌}
use Rattle.desk.specs.declared.Desk.{Desk}
use Rattle.desk.specs.declared.PlainDesk.{PlainDesk}
use Rattle.desk.specs.Says.{OverSays}
use Rattle.pages.specs.Demands.{paper_in, Correct, Best, OldOf, Reached, Since, KeyOn}

-- the same list, or the smaller gap at the first place where they differ
pub data Before : List ℕ → List ℕ → Type 0 where
  same : {xs ys : List ℕ} → xs ≡ ys → Before xs ys
  less : {x y : ℕ} {xs ys : List ℕ} → x < y → Before (x ∷ xs) (y ∷ ys)
  on : {x : ℕ} {xs ys : List ℕ} → Before xs ys → Before (x ∷ xs) (x ∷ ys)

pub record FirstKey : Type 0 where
  pub first : (d : Desk) (key ys : List ℕ) → Reached d → KeyOn d key → Best (paper_in d.nest) ys → Before key ys
  -- the key is a function of the paper, whatever calls made the desk: on two desks with one paper, or one text
  pub of_paper
      : (d e : Desk) (j k : List ℕ) → Reached d → Reached e → paper_in d.nest ≡ paper_in e.nest → KeyOn d j
      → KeyOn e k
      → j ≡ k
  pub of_text : (t : List ℕ) (d e : Desk) (j k : List ℕ) → Since t d → Since t e → KeyOn d j → KeyOn e k → j ≡ k
  -- a desk that goes over with a key gets this one, where any placement is correct
  pub over
      : (d e : Desk) (old : PlainDesk) (ys : List ℕ) → Reached d → OldOf d old → OverSays old e → old.planned ≡ true
      → Correct (paper_in d.nest) ys → (key : List ℕ) × (KeyOn e key × Best (paper_in d.nest) key)
