-- The calls that weigh an argument text, on one page: when they are out of turn, and what a reply without number is worth
-- on the page of the demands (crate pages, specs/Demands). It rests on that page and, of the project, on the structs, on
-- the names of the contracts WeighSays (weigh) and WeighPlacementSays (weigh_placement), and on what arguments and their
-- texts are; `weighing_kept` (proofs/Weighing) proves it.
use Rattle.std.specs.Prelude.{◌≡◌, false, true, List, ◌↔◌, ℕ}
use Rattle.argue_texts.specs.ArgumentTexts.{argument_fault, claims_in}
use Rattle.desk.specs.declared.Desk.{Desk}
use Rattle.call_argument.specs.declared.Weighed.{Weighed}
use Rattle.call_argument.specs.Says.{WeighSays, WeighPlacementSays}
use Rattle.pages.specs.Demands.{paper_in, Key, Reached, Since, KeyOn, Places, OutOfTurn}
use Rattle.pages_arguments.specs.Argued.{Argues}

-- a reply that names no text
abbrev pub Named : Weighed → ℕ → Type 0
Named r n = (r.number ≡ n) × (r.text ≡ 0) × (r.line ≡ 0)

-- the text is read, and its argument is one for the set gs
abbrev pub Holds : Desk → List ℕ → List ℕ → Type 0
Holds d gs s = ((argument_fault s).number ≡ 0) × Argues d gs (claims_in s)

pub record Weighing : Type 0 where
  -- out of turn: 10 without a nest, and 11 without a key, which a placement text does not want
  pub key_wanted
      : (d : Desk) (s : List ℕ) (n : ℕ) (r : Weighed) → WeighSays d s r → OutOfTurn d n → Named r n
  pub nest_wanted
      : (d : Desk) (p s : List ℕ) (r : Weighed) → WeighPlacementSays d p s r → d.loaded ≡ false → Named r 10
  -- a text that places nothing is refused, and named
  pub unplaced
      : (d : Desk) (p s : List ℕ) (r : Weighed) → Reached d → d.loaded ≡ true → WeighPlacementSays d p s r
      → ((gs : List ℕ) → Places (paper_in d.nest) p gs → ⊥) → (r.number ≡ 0 → ⊥) × (r.text ≡ 1)
  -- no number exactly where the argument holds: of the key, of the placement that is read
  pub key_held
      : (d : Desk) (gs s : List ℕ) (r : Weighed) → Reached d → KeyOn d gs → WeighSays d s r
      → (r.number ≡ 0) ↔ Holds d gs s
  pub placement_held
      : (d : Desk) (p s gs : List ℕ) (r : Weighed) → Reached d → d.loaded ≡ true → WeighPlacementSays d p s r
      → Places (paper_in d.nest) p gs → (r.number ≡ 0) ↔ Holds d gs s
  -- of the paper that the last accepted Load read: such a placement is a key
  pub placement_key
      : (t : List ℕ) (d : Desk) (p s gs : List ℕ) (r : Weighed) → Since t d → WeighPlacementSays d p s r
      → Places (paper_in d.nest) p gs → r.number ≡ 0 → Key (paper_in d.nest) gs
