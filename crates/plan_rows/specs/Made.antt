-- The row of one loop, made from the values of its suffixes: what is written, and that nothing else is.
-- Main definitions: `Copied`, `Cleared`, `RowsCleared`, `Chosen`, `RowRoom`, `ListsRoom`, `RowMade`.
use Rattle.std.specs.Prelude.{◌≡◌, Bool, List, ℕ, suc, ◌+◌, ◌-◌, ◌*◌, ◌≤◌, ◌<◌, ltb, length}
use Rattle.laws.specs.Entries.{at}
use Rattle.plan_method.specs.Sweep.{State, front, better, best, some_of, left_of, choice_of}
use Rattle.plan_sweeps.specs.Listed.{row, listed, tabled, Low}
use Rattle.plan_starts.specs.Grounds.{Within, Ground, Kept}
use Rattle.plan_rows.specs.Valued.{lined}

-- the entries from low + 1 to high of the row that starts at base stand in a list
abbrev pub Copied : List ℕ → ℕ → ℕ → ℕ → List ℕ → Type 0
Copied from base low high xs = (a : ℕ) → low < a → a ≤ high → at xs a ≡ row from base a

-- they are 0, and the others as before
pub record Cleared (xs xs' : List ℕ) (base low high : ℕ) : Type 0 where
  pub zero_at : (q : ℕ) → low < q → q ≤ high → row xs' base q ≡ 0
  pub kept : Kept xs xs' (base + low) (base + high)

-- of the rows 1 to h, row r at r * 256, the entries from 1 to e are 0, and all others as before
pub record RowsCleared (xs xs' : List ℕ) (h e : ℕ) : Type 0 where
  pub zero_at : (r q : ℕ) → 0 < r → r ≤ h → 0 < q → q ≤ e → row xs' (r * 256) q ≡ 0
  pub kept
      : (r q : ℕ)
      → q < 256
      → (0 < r → r ≤ h → 0 < q → e < q)
      → row xs' (r * 256) q ≡ row xs (r * 256) q

-- the better of two fronts
abbrev pub BetterSays : ℕ → ℕ → ℕ → ℕ → ℕ → ℕ → ℕ → ℕ → Type 0
BetterSays f at m q c here f' at' = (v : State) → c ≡ v.c → here ≡ v.f → front f' at' ≡ better m q v (front f at)

-- the fronts with c barriers of the suffixes above d up to e, and where they come from
pub record Chosen (v : ℕ → State) (c : ℕ) (left choice : List ℕ) (base d e : ℕ) : Type 0 where
  pub left_is : (q : ℕ) → d < q → q ≤ e → row left base q ≡ (best v c e (suc e) q).f
  pub choice_is : (q : ℕ) → d < q → q ≤ e → row choice base q ≡ (best v c e (suc e) q).at

-- of all values that two lists hold
abbrev pub ChooseSays : List ℕ → List ℕ → ℕ → List ℕ → List ℕ → ℕ → ℕ → ℕ → Type 0
ChooseSays cs fs c left choice base d e =
    (v : ℕ → State) →
    ((q : ℕ) → d < q → q ≤ e → at cs q ≡ (v q).c) →
    ((q : ℕ) → d < q → q ≤ e → at fs q ≡ (v q).f) →
    Chosen v c left choice base d e

-- room for the row of the loop d with its ENDDO e, which starts at base; the row before it is that of the loops inside
pub record RowRoom (ps own reach limit left choice : List ℕ) (base d e : ℕ) : Type 0 where
  pub points_room : e < length ps
  pub own_room : e < length own
  pub own_low : Low own
  pub reach_room : base + e < length reach
  pub limit_room : base + e < length limit
  pub left_room : base + e < length left
  pub choice_room : base + e < length choice
  pub long : d < e
  pub short : e < 256
  pub inner : 256 ≤ base
  pub ground : Ground ps own left (base - 256) d e

-- room for an entry at each point, whatever stands there
pub record ListsRoom (need cs fs link : List ℕ) : Type 0 where
  pub need_room : 256 ≤ length need
  pub cs_room : 256 ≤ length cs
  pub fs_room : 256 ≤ length fs
  pub link_room : 256 ≤ length link

-- the row of the loop d with its ENDDO e, by some list of needs that agrees with its row of reach on its range
pub record RowMade (ps own reach limit left choice left' choice' : List ℕ) (base d e some : ℕ) : Type 0 where
  pub need : List ℕ
  pub need_is : Copied reach base d e need
  pub left_is
      : (has : Bool) (lay : ℕ → ℕ → ℕ → Bool)
      → some_of (listed ps own e) (lined has need limit base) (tabled left (base - 256) lay) d ≡ ltb 0 some
      → (q : ℕ)
      → d < q
      → q ≤ e
      → row left' base q ≡ left_of (listed ps own e) (lined has need limit base) (tabled left (base - 256) lay) d q
  pub choice_is
      : (has : Bool) (lay : ℕ → ℕ → ℕ → Bool)
      → some_of (listed ps own e) (lined has need limit base) (tabled left (base - 256) lay) d ≡ ltb 0 some
      → (q : ℕ)
      → d < q
      → q ≤ e
      → row choice' base q ≡ choice_of (listed ps own e) (lined has need limit base) (tabled left (base - 256) lay) d q
  pub within : (q : ℕ) → d < q → q ≤ e → Within d e (row left' base q)
  pub left_kept : Kept left left' (base + d) (base + e)
  pub choice_kept : Kept choice choice' (base + d) (base + e)
