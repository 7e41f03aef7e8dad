-- What the planner's tables mean: sound, settled and best placements, and the claim about each loop.
-- Main definitions: `Sound`, `Settled`, `Best`, `Laid`, `Idle`, `Claim`.
use mathlib.Core.Path.{◌≡◌}
use mathlib.Core.Bool.{Bool, true, ◌&&◌}
use mathlib.Core.Logic.{◌⊎◌}
use Prim.Native.Nat.{ℕ, suc, ◌≤◌, ◌<◌}
use lib.Dec.{eqb}
use Rattle.plan_method.specs.Sweep.{Loops, Tables}
use Rattle.plan_method.proofs.World.{World, Inside}
use Rattle.plan_method.proofs.Counts.{cnt}

-- the placement x has a gap in a … b
pub record Hit (x : ℕ → Bool) (a b : ℕ) : Type 0 where
  pub gap : ℕ
  pub low : a ≤ gap
  pub high : gap ≤ b
  pub holds : x gap ≡ true

-- the own gaps of d in x, and how many
unfoldable pub mine_of : Loops → (ℕ → Bool) → ℕ → ℕ → Bool
mine_of B x d g = eqb (B.own g) d && x g

abbrev pub count : Loops → (ℕ → Bool) → ℕ → ℕ
count B x d = cnt (mine_of B x d) (B.stop d)

-- x cuts every dependence whose home is d or a loop inside d
pub record Sound (W : World) (x : ℕ → Bool) (d : ℕ) : Type 0 where
  pub lines : (l a b : ℕ) → Inside W.loops d l → W.Line l a b → Hit x a b
  pub backs : (l a t : ℕ) → Inside W.loops d l → W.Back l a t → Hit x (suc l) t ⊎ Hit x a (W.loops.stop l)

-- and has the costs in all the loops strictly inside d
pub record Settled (W : World) (cost : ℕ → ℕ) (x : ℕ → Bool) (d : ℕ) : Type 0 where
  pub sound : Sound W x d
  pub inside : (l : ℕ) → Inside W.loops d l → d < l → count W.loops x l ≡ cost l

-- and at d
pub record Best (W : World) (cost : ℕ → ℕ) (x : ℕ → Bool) (d : ℕ) : Type 0 where
  pub settled : Settled W cost x d
  pub exact : count W.loops x d ≡ cost d

-- what the table lays for q: best in d, in d's range, with a gap from q on, its first gap the table's
pub record Laid (W : World) (T : Tables) (d q : ℕ) (x : ℕ → Bool) : Type 0 where
  pub low : (g : ℕ) → x g ≡ true → d < g
  pub high : (g : ℕ) → x g ≡ true → g ≤ W.loops.stop d
  pub best : Best W T.cost x d
  pub hit : Hit x q (W.loops.stop d)
  pub holds : x (T.left d q) ≡ true
  pub first : (g : ℕ) → x g ≡ true → T.left d q ≤ g

-- a loop with nothing to cut
pub record Idle (W : World) (T : Tables) (l : ℕ) : Type 0 where
  pub free : T.cost l ≡ 0
  pub no_line : (a b : ℕ) → W.Line l a b → ⊥
  pub no_back : (a t : ℕ) → W.Back l a t → ⊥

-- the table's front for q is there and lies before every gap of x in d's range
pub record Leads (W : World) (T : Tables) (d q : ℕ) (x : ℕ → Bool) : Type 0 where
  pub there : 0 < T.left d q
  pub least : (g : ℕ) → d < g → g ≤ W.loops.stop d → x g ≡ true → T.left d q ≤ g

pub record Claim (W : World) (T : Tables) (d : ℕ) : Type 0 where
  pub lower : (x : ℕ → Bool) → Settled W T.cost x d → T.cost d ≤ count W.loops x d
  pub leftmost : (x : ℕ → Bool) (q : ℕ) → Best W T.cost x d → d < q → Hit x q (W.loops.stop d) → Leads W T d q x
  pub some : (x : ℕ → Bool) → 0 < T.left d (suc d) → Settled W T.cost x d → Hit x (suc d) (W.loops.stop d)
  pub attained : (q : ℕ) → d < q → q ≤ W.loops.stop d → 0 < T.left d q → Laid W T d q (T.lay d q)
  pub blank : (q : ℕ) → d < q → q ≤ W.loops.stop d → T.left d q ≡ 0 → (g : ℕ) → T.lay d q g ≡ true → ⊥
  pub empty : T.left d (suc d) ≡ 0 → (l : ℕ) → Inside W.loops d l → Idle W T l
