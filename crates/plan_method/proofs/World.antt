-- A nest as the theorem sees it: loops, the independent dependences and the carried ones of each loop, and their laws.
-- Main definitions: `World`, `Inside`, `Lawful` (with `LoopLaws` and `LineLaws`).
use mathlib.Core.Path.{◌≡◌}
use mathlib.Core.Bool.{true, false}
use mathlib.Core.Logic.{◌⊎◌}
use Prim.Native.Nat.{ℕ, suc, ◌≤◌, ◌<◌}
use Rattle.plan_method.specs.Sweep.{Loops, Lines}

-- Line d a b: an independent dependence with home d has the gaps a … b
-- Back d a t: one carried by d has the gaps d + 1 … t and a … stop d
pub record World : Type 1 where
  pub loops : Loops
  pub Line : ℕ → ℕ → ℕ → Type 0
  pub Back : ℕ → ℕ → ℕ → Type 0

-- loop l is d or lies inside d
pub record Inside (B : Loops) (d l : ℕ) : Type 0 where
  pub is-do : B.is_do l ≡ true
  pub from : d ≤ l
  pub below : l < B.stop d

-- P holds of every loop strictly inside d
abbrev pub EachInside : Loops → ℕ → (ℕ → Type 0) → Type 0
EachInside B d P = (l : ℕ) → Inside B d l → d < l → P l

-- the loop of a gap g of d's range
pub record Owner (B : Loops) (d g : ℕ) : Type 0 where
  pub is-do : B.is_do (B.own g) ≡ true
  pub from : d ≤ B.own g
  pub below : B.own g < g
  pub above : g ≤ B.stop (B.own g)

-- loop l lies directly inside d and ends at p
pub record Child (B : Loops) (d p l : ℕ) : Type 0 where
  pub is-do : B.is_do l ≡ true
  pub below : d < l
  pub ends : B.stop l ≡ p
  pub owner : B.own l ≡ d

-- point p, just before an own gap of d, is d itself or no end of a loop at all
pub record Plain (B : Loops) (d p : ℕ) : Type 0 where
  pub owner : B.own p ≡ d
  pub no-do : B.is_do p ≡ false

pub record LoopLaws (B : Loops) : Type 0 where
  pub long : (d : ℕ) → B.is_do d ≡ true → d < B.stop d
  pub own_stop : (d : ℕ) → B.is_do d ≡ true → B.own (B.stop d) ≡ d
  pub own_below : (g : ℕ) → B.own (suc g) ≤ g
  pub owner : (d g : ℕ) → B.is_do d ≡ true → d < g → g ≤ B.stop d → Owner B d g
  pub nested : (d l : ℕ) → B.is_do d ≡ true → B.is_do l ≡ true → d < l → l ≤ B.stop d → B.stop l < B.stop d
  pub child : (d p : ℕ) → B.is_do d ≡ true → d ≤ p → p < B.stop d → B.own (suc p) ≡ d → B.is_end p ≡ true →
      Child B d p (B.own p)
  pub plain : (d p : ℕ) → B.is_do d ≡ true → d ≤ p → p < B.stop d → B.own (suc p) ≡ d → B.is_end p ≡ false →
      (p ≡ d) ⊎ Plain B d p

-- a dependence carried by d whose later gaps start above q ends its earlier ones at t
pub record Behind (W : World) (d q t : ℕ) : Type 0 where
  pub a : ℕ
  pub above : q < a
  pub back : W.Back d a t

-- some dependence has home d
pub data Home (W : World) (d : ℕ) : Type 0 where
  by_line : (a b : ℕ) → W.Line d a b → Home W d
  by_back : (a t : ℕ) → W.Back d a t → Home W d

pub record LineLaws (W : World) (N : Lines) : Type 0 where
  pub line_low : (d a b : ℕ) → W.loops.is_do d ≡ true → W.Line d a b → d < a
  pub line_long : (d a b : ℕ) → W.loops.is_do d ≡ true → W.Line d a b → a ≤ b
  pub line_high : (d a b : ℕ) → W.loops.is_do d ≡ true → W.Line d a b → b ≤ W.loops.stop d
  pub line_leaves : (d a b l : ℕ) → W.loops.is_do d ≡ true → W.Line d a b →
      Child W.loops d (W.loops.stop l) l → l < a → a ≤ W.loops.stop l → W.loops.stop l < b
  pub back_low : (d a t : ℕ) → W.loops.is_do d ≡ true → W.Back d a t → d < a
  pub back_end : (d a t : ℕ) → W.loops.is_do d ≡ true → W.Back d a t → d < t
  pub back_high : (d a t : ℕ) → W.loops.is_do d ≡ true → W.Back d a t → t ≤ W.loops.stop d
  pub reach_least : (d a b : ℕ) → W.loops.is_do d ≡ true → W.Line d a b → N.reach d a ≤ b
  pub reach_is : (d a : ℕ) → W.loops.is_do d ≡ true → d < a → a ≤ W.loops.stop d →
      N.reach d a ≤ W.loops.stop d → W.Line d a (N.reach d a)
  pub limit_least : (d q a t : ℕ) → W.loops.is_do d ≡ true → d < q → q ≤ W.loops.stop d → q < a → W.Back d a t →
      N.limit d q ≤ t
  pub limit_is : (d q : ℕ) → W.loops.is_do d ≡ true → d < q → q ≤ W.loops.stop d →
      (N.limit d q ≡ W.loops.stop d) ⊎ Behind W d q (N.limit d q)
  pub has_line : (d a b : ℕ) → W.loops.is_do d ≡ true → W.Line d a b → N.has d ≡ true
  pub has_back : (d a t : ℕ) → W.loops.is_do d ≡ true → W.Back d a t → N.has d ≡ true
  pub has_is : (d : ℕ) → W.loops.is_do d ≡ true → N.has d ≡ true → Home W d

pub record Lawful (W : World) (N : Lines) : Type 0 where
  pub of-loops : LoopLaws W.loops
  pub of_lines : LineLaws W N
