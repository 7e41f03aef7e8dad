-- The loops of a nest as tables: for each gap its loop, for each DO its ENDDO and its height.
-- Main definitions: `Charted`, `cell`, `Rows`.
use Rattle.std.specs.Prelude.{◌≡◌, true, List, ℕ, ◌+◌, ◌*◌, ◌≤◌, ◌<◌, length, take}
use Rattle.laws.specs.Entries.{at}
use Rattle.paper_nests.specs.Kinds.{POINTS, DEPTH}
use Rattle.paper_nests.specs.Loops.{is_do, depth, end_of, owner_of}
use Rattle.paper_nests.specs.Valid.{is_shape}

-- a table with a row of 256 entries for each height, 0 to 8
abbrev pub ROW : ℕ
ROW = 256

abbrev pub TABLE : ℕ
TABLE = 2304

-- the place of q in the row of loop d. At one height the loops' ranges are disjoint, so that they share a row
abbrev pub cell : List ℕ → ℕ → ℕ → ℕ
cell heights d q = at heights d * ROW + q

-- the points of a nest within the limits
pub record Points (ps : List ℕ) : Type 0 where
  pub shape : is_shape ps ≡ true
  pub few : length ps ≤ POINTS

-- of each gap its loop
abbrev pub OwnIs : List ℕ → List ℕ → Type 0
OwnIs ps own = (g : ℕ) → g < length ps → at own g ≡ owner_of ps g

-- of each DO its ENDDO
abbrev pub EndsAre : List ℕ → List ℕ → Type 0
EndsAre ps ends = (d : ℕ) → is_do ps d ≡ true → at ends d ≡ end_of ps d

-- of each DO its height: 8 less the depth, which is 0 for the outermost
abbrev pub HeightsAre : List ℕ → List ℕ → Type 0
HeightsAre ps heights = (d : ℕ) → is_do ps d ≡ true → at heights d + depth (take d ps) ≡ DEPTH

pub record Charted (ps own ends heights : List ℕ) : Type 0 where
  pub own_is : OwnIs ps own
  pub own_low : (g : ℕ) → at own g ≤ g
  pub ends_are : EndsAre ps ends
  pub heights_are : HeightsAre ps heights

-- a table whose entry for each loop d and each gap q of its range is f d q
abbrev pub Rows : List ℕ → List ℕ → List ℕ → (ℕ → ℕ → ℕ) → Type 0
Rows ps heights xs f = (d q : ℕ) → is_do ps d ≡ true → d < q → q ≤ end_of ps d → at xs (cell heights d q) ≡ f d q

-- of no gap a loop is noted
abbrev pub Unowned : List ℕ → Type 0
Unowned own = (g : ℕ) → at own g ≡ 0

-- room for an entry at each point
pub record ChartRoom (own ends heights : List ℕ) : Type 0 where
  pub own_room : POINTS ≤ length own
  pub ends_room : POINTS ≤ length ends
  pub heights_room : POINTS ≤ length heights
