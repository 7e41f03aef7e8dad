-- The planner's tables as the code's arrays: at one height the ranges of the loops are disjoint, so that they share a
-- row of 256 places; row h starts at h * 256, and row 0 is spare.
-- Main definitions: `HasHeight`, `Charts`, `LinesAt`, `Rows`, `Fronts`, `KeptColumns`, `Unset`, `Quiet`, `SettleSays`.
use Rattle.std.specs.Prelude.{◌≡◌, Bool, true, List, ℕ, ◌+◌, ◌*◌, ◌≤◌, ◌<◌, length, take}
use Rattle.laws.specs.Bits.{one}
use Rattle.laws.specs.Entries.{at}
use Rattle.paper_nests.specs.Kinds.{POINTS, DEPTH}
use Rattle.paper_nests.specs.Loops.{is_do, depth, end_of, owner_of}
use Rattle.paper_nests.specs.Valid.{is_shape}
use Rattle.plan_method.specs.Sweep.{Lines, Tables, IsTable}
use Rattle.plan_method.specs.Home.{loops_in}
use Rattle.plan_sweeps.specs.Listed.{row, Low}
use Rattle.plan_starts.specs.Grounds.{Within}

-- the height of a loop: 8 less the depth around it
abbrev pub HasHeight : List ℕ → ℕ → ℕ → Type 0
HasHeight ps d h = h + depth (take d ps) ≡ DEPTH

-- the points of a nest, the loop of each gap, the ENDDO of each DO
pub record Charts (ps own ends : List ℕ) : Type 0 where
  pub shape : is_shape ps ≡ true
  pub few : length ps ≤ POINTS
  pub own_is : (g : ℕ) → g < length ps → at own g ≡ owner_of ps g
  pub own_low : Low own
  pub ends_is : (d : ℕ) → is_do ps d ≡ true → at ends d ≡ end_of ps d
  pub own_room : POINTS ≤ length own
  pub ends_room : POINTS ≤ length ends

-- the lines of each loop, in the row of its height
pub record LinesAt (ps : List ℕ) (N : Lines) (reach limit has : List ℕ) : Type 0 where
  pub reach_is
      : (d h a : ℕ) → is_do ps d ≡ true → HasHeight ps d h → d < a → a ≤ end_of ps d → row reach (h * 256) a ≡
      N.reach d a
  pub limit_is
      : (d h q : ℕ) → is_do ps d ≡ true → HasHeight ps d h → d < q → q ≤ end_of ps d → row limit (h * 256) q ≡
      N.limit d q
  pub has_is : (d : ℕ) → is_do ps d ≡ true → at has d ≡ one (N.has d)

-- room for nine rows, or for one
pub record Room (reach limit has left choice : List ℕ) : Type 0 where
  pub reach_room : 2304 ≤ length reach
  pub limit_room : 2304 ≤ length limit
  pub has_room : POINTS ≤ length has
  pub left_room : 2304 ≤ length left
  pub choice_room : 2304 ≤ length choice

-- the fronts of the loops from low up to high, and where they come from
pub record Rows (ps : List ℕ) (T : Tables) (left choice : List ℕ) (low high : ℕ) : Type 0 where
  pub left_is
      : (l h q : ℕ)
      → is_do ps l ≡ true
      → low ≤ l
      → l < high
      → HasHeight ps l h
      → l < q
      → q ≤ end_of ps l
      → row left (h * 256) q ≡ T.left l q
  pub choice_is
      : (l h q : ℕ)
      → is_do ps l ≡ true
      → low ≤ l
      → l < high
      → HasHeight ps l h
      → l < q
      → q ≤ end_of ps l
      → row choice (h * 256) q ≡ T.choice l q

-- the fronts of the loops from low up to high lie in the ranges of their loops
abbrev pub Fronts : List ℕ → List ℕ → ℕ → ℕ → Type 0
Fronts ps left low high =
    (l h q : ℕ) →
    is_do ps l ≡ true →
    low ≤ l →
    l < high →
    HasHeight ps l h →
    l < q →
    q ≤ end_of ps l →
    Within l (end_of ps l) (row left (h * 256) q)

-- in each row the places outside d + 1 … e are as before
abbrev pub KeptColumns : List ℕ → List ℕ → ℕ → ℕ → Type 0
KeptColumns xs xs' d e = (r q : ℕ) → q < POINTS → (d < q → e < q) → row xs' (r * 256) q ≡ row xs (r * 256) q

-- in the row of each height the places d + 1 … e are 0
abbrev pub Unset : List ℕ → ℕ → ℕ → Type 0
Unset xs d e = (h q : ℕ) → 0 < h → h ≤ DEPTH → d < q → q ≤ e → row xs (h * 256) q ≡ 0

-- no loop from d up to e is the home of a dependence
abbrev pub Quiet : List ℕ → ℕ → ℕ → Type 0
Quiet has d e = (l : ℕ) → d ≤ l → l < e → at has l ≡ 0

pub record QuietSays (has : List ℕ) (d e : ℕ) (quiet : Bool) : Type 0 where
  pub none : quiet ≡ true → Quiet has d e
  pub all : Quiet has d e → quiet ≡ true

-- the rows of d and the loops inside it, of any lines that the tables hold
pub record SettleSays (ps reach limit has left choice left' choice' : List ℕ) (d : ℕ) : Type 0 where
  pub rows
      : (N : Lines) (T : Tables)
      → IsTable (loops_in ps) N T
      → LinesAt ps N reach limit has
      → Rows ps T left' choice' d (end_of ps d)
  pub fronts : Fronts ps left' d (end_of ps d)
  pub left_kept : KeptColumns left left' d (end_of ps d)
  pub choice_kept : KeptColumns choice choice' d (end_of ps d)
