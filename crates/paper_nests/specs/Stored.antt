-- The nest of the code as a nest of the paper: the first points, dependences, barred gaps and flagged DOs of its arrays,
-- up to their counts.
-- Main definitions: `dep_in`, `deps_in`, `nest_in`, `IsCounted`, `PointAdded`, `DependenceAdded`, `BarAdded`, `FlaggedAdded`.
use Rattle.std.specs.Prelude.{◌≡◌, List, [], ◌∷◌, ℕ, zero, suc, ◌+◌, ◌≤◌, length, take}
use Rattle.paper_nests.specs.declared.Dependence as DE
use Rattle.paper_nests.specs.declared.Nest as DN
use Rattle.paper_nests.specs.Kinds.{POINTS, DEPENDENCES, BARS}
use Rattle.paper_nests.specs.Nests.{Dep, dep, Nest, empty, with_point, with_dep, with_bar, with_flagged}

abbrev pub dep_in : DE.Dependence → Dep
dep_in e = dep e.kind e.d e.s e.t

-- the first dependences of an array
abbrev pub deps_in : ℕ → List DE.Dependence → List Dep
deps_in zero xs = []
deps_in (suc n) [] = []
deps_in (suc n) (x ∷ xs) = dep_in x ∷ deps_in n xs

abbrev pub nest_in : DN.Nest → Nest
nest_in n =
    record {
      points = take n.count n.points;
      deps = deps_in n.many n.deps;
      barred = take n.bars n.barred;
      flagged = take n.flags n.flagged;
    }

-- the counts are those of the nest, within the limits
pub record IsCounted (n : DN.Nest) : Type 0 where
  pub count_is : n.count ≡ length (nest_in n).points
  pub count_fits : n.count ≤ POINTS
  pub many_is : n.many ≡ length (nest_in n).deps
  pub many_fits : n.many ≤ DEPENDENCES
  pub bars_is : n.bars ≡ length (nest_in n).barred
  pub bars_fit : n.bars ≤ BARS
  pub flags_is : n.flags ≡ length (nest_in n).flagged
  pub flags_fit : n.flags ≤ n.count

-- r is an empty nest
pub record IsEmpty (r : DN.Nest) : Type 0 where
  pub nest_is : nest_in r ≡ empty
  pub no_points : r.count ≡ 0
  pub no_deps : r.many ≡ 0
  pub no_bars : r.bars ≡ 0
  pub no_flags : r.flags ≡ 0
  pub long : length r.deps ≡ DEPENDENCES
  pub counted : IsCounted r

-- r is n with one point more
pub record PointAdded (n : DN.Nest) (kind : ℕ) (r : DN.Nest) : Type 0 where
  pub nest_is : nest_in r ≡ with_point (nest_in n) kind
  pub one_more : r.count ≡ n.count + 1
  pub same_many : r.many ≡ n.many
  pub same_bars : r.bars ≡ n.bars
  pub same_flags : r.flags ≡ n.flags
  pub counted : IsCounted r

-- r is n with one dependence more
pub record DependenceAdded (n : DN.Nest) (e : DE.Dependence) (r : DN.Nest) : Type 0 where
  pub nest_is : nest_in r ≡ with_dep (nest_in n) (dep_in e)
  pub same_count : r.count ≡ n.count
  pub one_more : r.many ≡ n.many + 1
  pub same_bars : r.bars ≡ n.bars
  pub same_flags : r.flags ≡ n.flags
  pub counted : IsCounted r

-- r is n with one barred gap more
pub record BarAdded (n : DN.Nest) (g : ℕ) (r : DN.Nest) : Type 0 where
  pub nest_is : nest_in r ≡ with_bar (nest_in n) g
  pub same_count : r.count ≡ n.count
  pub same_many : r.many ≡ n.many
  pub one_more : r.bars ≡ n.bars + 1
  pub same_flags : r.flags ≡ n.flags
  pub counted : IsCounted r

-- r is n with the DO of a flagged loop more
pub record FlaggedAdded (n r : DN.Nest) : Type 0 where
  pub nest_is : nest_in r ≡ with_flagged (nest_in n)
  pub one_more : r.count ≡ n.count + 1
  pub same_many : r.many ≡ n.many
  pub same_bars : r.bars ≡ n.bars
  pub counted : IsCounted r
