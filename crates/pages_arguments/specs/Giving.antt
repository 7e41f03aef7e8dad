-- The call that gives the argument of the key, on one page: when it is out of turn, how long a buffer it wants, and
-- what it writes there. It rests on the page of the demands (crate pages, specs/Demands) and on that of the calls that
-- weigh and, of the project, on the structs and on the name of the contract ArgueSays (argue); `giving_kept`
-- (proofs/Giving) proves it.
use Rattle.std.specs.Prelude.{◌≡◌, List, ℕ, ◌≤◌, ◌<◌, length, take, drop}
use Rattle.desk.specs.declared.Desk.{Desk}
use Rattle.desk.specs.declared.Answer.{Answer}
use Rattle.call_argument.specs.declared.Weighed.{Weighed}
use Rattle.call_argument.specs.Says.{WeighSays}
use Rattle.call_argue.specs.Says.{ArgueSays}
use Rattle.pages.specs.Demands.{Reached, KeyOn, OutOfTurn}
use Rattle.pages_arguments.specs.Weighing.{Holds}

-- the length of the argument's text, whatever is lent: without number where there is room for it, else with 9
pub record Wants (d : Desk) (long : ℕ) : Type 0 where
  pub at_most : long ≤ 18337280
  pub told
      : (out out' : List ℕ) (a : Answer) → ArgueSays d out out' a → (a.value ≡ long) × (a.line ≡ 0)
  pub room : (out out' : List ℕ) (a : Answer) → ArgueSays d out out' a → long ≤ length out → a.number ≡ 0
  pub short : (out out' : List ℕ) (a : Answer) → ArgueSays d out out' a → length out < long → a.number ≡ 9

pub record Giving : Type 0 where
  -- out of turn: 10 without a nest, and 11 without a key
  pub turn
      : (d : Desk) (out out' : List ℕ) (a : Answer) (n : ℕ) → ArgueSays d out out' a → OutOfTurn d n
      → (a.number ≡ n) × (a.line ≡ 0)
  -- a call with a number leaves every byte
  pub bytes_kept
      : (d : Desk) (out out' : List ℕ) (a : Answer) → ArgueSays d out out' a → (a.number ≡ 0 → ⊥) → out' ≡ out
  -- in turn there is no other number than 9
  pub wants : (d : Desk) (gs : List ℕ) → Reached d → KeyOn d gs → (long : ℕ) × Wants d long
  -- what is written is read, and its argument is one for the key; later bytes stay
  pub written
      : (d : Desk) (gs out out' : List ℕ) (a : Answer) → Reached d → KeyOn d gs → ArgueSays d out out' a
      → a.number ≡ 0 → Holds d gs (take a.value out') × (drop a.value out' ≡ drop a.value out)
  -- so Weigh has no number for it
  pub weighed
      : (d : Desk) (gs out out' : List ℕ) (a : Answer) (r : Weighed) → Reached d → KeyOn d gs → ArgueSays d out out' a
      → a.number ≡ 0 → WeighSays d (take a.value out') r → r.number ≡ 0
