-- The planner's definitions at loops and tables that are lists: what the code's arrays mean.
-- Main definitions: `listed`, `tabled`, `Stepped`, `sweep_of`, `SweepRoom`.
use Rattle.std.specs.Prelude.{◌≡◌, Bool, List, ℕ, suc, ◌+◌, ◌≤◌, ◌<◌, ltb, length, get_or}
use Rattle.laws.specs.Choice.{pick}
use Rattle.laws.specs.Entries.{at}
use Rattle.paper_nests.specs.Loops.{is_do, is_end}
use Rattle.plan_method.specs.Sweep.{Loops, Tables, State, st, only, also, step_child, sweep}

-- one loop that ends at e: points, and the loop of each ENDDO
abbrev pub listed : List ℕ → List ℕ → ℕ → Loops
listed ps own e = record { is_do = is_do ps; is_end = is_end ps; stop = λ d. e; own = at own }

-- a row of the table `left` that starts at `kids`
abbrev pub row : List ℕ → ℕ → ℕ → ℕ
row left kids q = get_or left (kids + q) 0

-- the rows of the loops directly inside it; what they lay is free
abbrev pub tabled : List ℕ → ℕ → (ℕ → ℕ → ℕ → Bool) → Tables
tabled left kids lay = record { cost = λ d. 0; left = λ l q. row left kids q; choice = λ l q. 0; lay = lay }

-- what a step lays: what the child lays, and a barrier after it where the count grew
abbrev pub laid : Bool → ℕ → (ℕ → Bool) → (ℕ → Bool) → ℕ → Bool
laid grew p x w = also x (pick grew (also (only (suc p)) w) w)

-- a step over the child l with its ENDDO p, from c and f to c' and f'; the child is asked with the bound `ask`
pub record Stepped (need left : List ℕ) (kids l p c f c' f' ask : ℕ) : Type 0 where
  pub step_is
      : (lay : ℕ → ℕ → Bool) (w : ℕ → Bool)
      → step_child (at need) (row left kids) lay l p (st c f w) ≡ st c' f' (laid (ltb c c') p (lay ask) w)
  pub low : l < ask
  pub high : l < p → ask ≤ p
  pub grows : c' ≤ c + 1

-- a whole sweep of the loop d with its ENDDO e
abbrev pub sweep_of : List ℕ → List ℕ → List ℕ → List ℕ → ℕ → (ℕ → ℕ → ℕ → Bool) → ℕ → ℕ → State
sweep_of ps own need left kids lay d e = sweep (listed ps own e) (tabled left kids lay) (at need) d

-- no loop starts after its ENDDO
abbrev pub Low : List ℕ → Type 0
Low own = (i : ℕ) → at own i ≤ i

-- room for a sweep of a loop with its ENDDO e
pub record SweepRoom (ps own need left : List ℕ) (kids e : ℕ) : Type 0 where
  pub points_room : e < length ps
  pub own_room : e < length own
  pub own_low : Low own
  pub need_room : e < length need
  pub left_room : kids + e < length left
