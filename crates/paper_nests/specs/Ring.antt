-- The ring of the gaps of a nest of one loop, and runs of gaps round it.
-- Main definitions: `one_loop`, `next_gap`, `run_of`, `Interval`, `Meets`.
use Rattle.std.specs.Prelude.{◌≡◌, Bool, true, ◌&&◌, not, List, [], ◌∷◌, ℕ, zero, suc, ◌-◌, ◌≤◌, eqb, ltb, length, drop}
use Rattle.laws.specs.Choice.{pick, is_in}
use Rattle.paper_nests.specs.Kinds.{DO}
use Rattle.paper_nests.specs.Nests.{Dep}
use Rattle.paper_nests.specs.Gaps.{has_gap}

abbrev pub no_do : List ℕ → Bool
no_do [] = true
no_do (p ∷ ps) = not (eqb p DO) && no_do ps

-- a nest of one loop: no DO but the first point
abbrev pub one_loop : List ℕ → Bool
one_loop ps = no_do (drop 1 ps)

-- 01, "The nest and its gaps": in a nest of one loop the gaps form a ring, 1 following n - 1; here m is n - 1
abbrev pub next_gap : ℕ → ℕ → ℕ
next_gap m g = pick (ltb g m) (suc g) 1

-- the unbroken run of k gaps from a, round the ring 1 … m
abbrev pub run_of : ℕ → ℕ → ℕ → List ℕ
run_of m a zero = []
run_of m a (suc k) = a ∷ run_of m (next_gap m a) k

-- 01, "The nest and its gaps": the gaps of a dependence lie in the ring without a break, at most the whole ring
pub record Interval (ps : List ℕ) (e : Dep) : Type 0 where
  pub start : ℕ
  pub size : ℕ
  pub start_first : 1 ≤ start
  pub start_last : start ≤ length ps - 1
  pub size_first : 1 ≤ size
  pub size_last : size ≤ length ps - 1
  pub gaps : (g : ℕ) → has_gap ps e g ≡ is_in g (run_of (length ps - 1) start size)

-- 01, "The nest and its gaps": a set of gaps cuts the interval if it holds one of its gaps
pub record Meets (ps : List ℕ) (e : Dep) (i : Interval ps e) (gs : List ℕ) : Type 0 where
  pub gap : ℕ
  pub held : is_in gap gs ≡ true
  pub within : is_in gap (run_of (length ps - 1) i.start i.size) ≡ true
