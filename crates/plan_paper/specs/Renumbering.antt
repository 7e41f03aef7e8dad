-- A dependence renumbered, in the steps of the code: s and t are the ranks of its points, m is the greatest rank.
-- Main definitions: `is_shut_at`, `stays`, `stretch`, `ring_end`, `ring_of`, `RingSays`, `ReduceSays`.
use Rattle.std.specs.Prelude.{◌≡◌, Bool, ◌&&◌, not, ℕ, eqb, ltb, leb, Option, is_none, IfSome}
use Rattle.laws.specs.Choice.{pick}
use Rattle.paper_nests.specs.Kinds.{INDEPENDENT}
use Rattle.paper_nests.specs.Nests.{Dep, dep, Nest}
use Rattle.paper_nests.specs.Stored.{nest_in, IsCounted}
use Rattle.paper_nests.specs.declared.Nest as DN
use Rattle.paper_barred.specs.Reduced.{is_blocked, reduced}

-- all its gaps are barred: no rank rises along them
abbrev pub is_shut_at : ℕ → ℕ → ℕ → ℕ → Bool
is_shut_at kind m s t = pick (eqb kind INDEPENDENT) (eqb s t) (eqb t 0 && eqb s m)

-- it has unbarred gaps and keeps its kind; of a carried one neither stretch is empty, and they are not all gaps
abbrev pub stays : ℕ → ℕ → ℕ → ℕ → Bool
stays kind m s t = pick (eqb kind INDEPENDENT) (not (eqb s t)) (ltb t s && (ltb 0 t && ltb s m))

-- a carried one that does not stay has become one stretch
abbrev pub stretch : ℕ → ℕ → ℕ → Dep
stretch m s t =
    pick
    (leb s t)
    (dep INDEPENDENT 0 0 m)
    (pick (eqb t 0) (dep INDEPENDENT 0 s m) (dep INDEPENDENT 0 0 t))

-- the ENDDO of a loop with the gaps 1 to m
abbrev pub ring_end : ℕ → ℕ
ring_end m = pick (eqb m 0) 1 m

-- the nest of the unbarred gaps, or the nest itself where it is blocked
abbrev pub ring_of : Nest → Nest
ring_of n = pick (is_blocked n) n (reduced n.points n.barred n.deps)

-- what a ring is
pub record RingSays (n : Nest) (ring : DN.Nest) : Type 0 where
  pub ring_is : nest_in ring ≡ ring_of n
  pub counted : IsCounted ring

-- whether the nest is blocked, and the ring where it is not
pub record ReduceSays (n : Nest) (r : Option DN.Nest) : Type 0 where
  pub blocked_is : is_none r ≡ is_blocked n
  pub ring_says : IfSome r (RingSays n)
