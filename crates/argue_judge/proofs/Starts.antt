-- What is excluded before any claim: the table is filled gap by gap, and says what the definition does of no claims.
-- Main definitions: `Filling`, `FirstTables`. Main statement: `first_excludes`.
use mathlib.Core.Path.{◌≡◌, refl, ◌∙◌}
use mathlib.Core.Bool.{Bool, true, false, ◌&&◌, ◌||◌, not}
use mathlib.Core.List.{List, []}
use mathlib.Core.Logic.{◌⊎◌, inl, inr}
use Prim.Native.Nat.{ℕ, suc, ◌≤◌, ◌<◌}
use native.Mathlib.Omega.{arith}
use lib.Dec.{eqb, ltb, leb}
use lib.ListN.{length}
use borrow.Author.Tests.{lt-ltb, le-ltb, ltb-true, leb-true, eq-eqb, ne_eqb}
use Rattle.laws.specs.Choice.{is_in}
use Rattle.laws.specs.Entries.{at}
use Rattle.laws.proofs.Tests.{and_true, eq_or}
use Rattle.paper_nests.specs.Kinds.{POINTS}
use Rattle.paper_nests.specs.Nests.{Nest}
use Rattle.paper_nests.specs.Loops.{is_do, end_of, owner_of, is_around}
use Rattle.paper_nests.specs.Valid.{is_shape}
use Rattle.paper_nests.proofs.Loops.{owner-inside, owner_at_most, end_there}
use Rattle.paper_placements.specs.Placements.{loop_count}
use Rattle.paper_placements.specs.Words.{holds}
use Rattle.argue_weigh.specs.Excluding.{Excludes, excluded_in}
use Rattle.argue_judge.specs.Starts.{first_at, FirstStruck}

-- the gaps below g have their numbers
pub record Filling (ws owners counts : List ℕ) (g : ℕ) (struck : List ℕ) : Type 0 where
  pub long : length struck ≡ POINTS
  pub done : (i : ℕ) → i < g → at struck i ≡ first_at (holds ws i) (at owners i) (at counts (at owners i))

-- the table of a nest of this shape, from its owners, the key's counts and its barred gaps
pub record FirstTables (n : Nest) (key : List ℕ) (count : ℕ) (ws owners counts : List ℕ) : Type 0 where
  pub shape : is_shape n.points ≡ true
  pub count_is : length n.points ≡ count
  pub small : count ≤ POINTS
  pub barred_are : (g : ℕ) → holds ws g ≡ is_in g n.barred
  pub owners_are : (g : ℕ) → g < count → at owners g ≡ owner_of n.points g
  pub counts_are : (d : ℕ) → d < count → at counts d ≡ loop_count n key d

module _ (n : Nest) (key : List ℕ) (count : ℕ) (ws owners counts struck : List ℕ)
    (t : FirstTables n key count ws owners counts) (f : FirstStruck count ws owners counts struck) where
  -- of a gap that d lies around, whose loop is d or inside it
  tells
      : (d o : ℕ) (b : Bool) (c : ℕ)
      → d ≤ o
      → d < POINTS
      → ltb (suc d) (first_at b o c) ≡ (b || ((not (eqb o d) && eqb c 0) || false))
  tells d o true c le small = lt-ltb (suc d) (suc POINTS) (omega (arith, small))
  tells d o false c le small = go (eq_or c 0) (eq_or o d)
    where
      go
          : (c ≡ 0) ⊎ ((c ≡ 0) → ⊥)
          → (o ≡ d) ⊎ ((o ≡ d) → ⊥)
          → ltb (suc d) (first_at false o c) ≡ ((not (eqb o d) && eqb c 0) || false)
      go (inl z) (inl e) = rw (eq-eqb c 0 z, eq-eqb o d e) (le-ltb (suc d) (suc o) (omega (arith, e)))
      go (inl z) (inr e) = rw (eq-eqb c 0 z, ne_eqb o d e) (lt-ltb (suc d) (suc o) (omega (arith, e, le)))
      go (inr z) (inl e) = rw (ne_eqb c 0 z, eq-eqb o d e) (le-ltb (suc d) 0 (omega arith))
      go (inr z) (inr e) = rw (ne_eqb c 0 z, ne_eqb o d e) (le-ltb (suc d) 0 (omega arith))

  pub first_excludes : Excludes n key [] struck
  first_excludes = record { tells = here }
    where
      here
          : (d g : ℕ)
          → is_do n.points d ≡ true
          → is_around n.points g d ≡ true
          → ltb (suc d) (at struck g) ≡ excluded_in n key d [] g
      here d g i a =
          let p = and_true (ltb d g) (leb g (end_of n.points d)) a in
          let low : d < g = ltb-true d g p.0 in
          let high : g ≤ end_of n.points d = leb-true g (end_of n.points d) p.1 in
          let there : end_of n.points d < length n.points = end_there n.points t.shape d i in
          let in-all : g < count = omega (arith, high, there, t.count_is) in
          let o : at owners g ≡ owner_of n.points g = t.owners_are g in-all in
          let above : d ≤ owner_of n.points g = owner-inside n.points t.shape d g i low high in
          let below : owner_of n.points g < count = omega (arith, owner_at_most n.points g, in-all) in
          let c : at counts (owner_of n.points g) ≡ loop_count n key (owner_of n.points g) =
          t.counts_are (owner_of n.points g) below in
          let e : at struck g ≡
          first_at (is_in g n.barred) (owner_of n.points g) (loop_count n key (owner_of n.points g)) =
          f.first g in-all ∙ rw (t.barred_are g, o, c) refl in
          rw e
          (tells d (owner_of n.points g) (is_in g n.barred) (loop_count n key (owner_of n.points g)) above
          (omega (arith, low, in-all, t.small)))
