-- Nests as lists: the kinds of the points in text order, the dependences, the barred gaps, and the DOs of the loops that
-- may not run.
-- Main definitions: `Dep`, `Nest`, `with_point`, `with_dep`, `with_bar`, `with_flagged`.
use Rattle.std.specs.Prelude.{List, [], ◌∷◌, ◌++◌, ℕ, length}
use Rattle.paper_nests.specs.Kinds.{DO}

-- 01, "The nest and its gaps": a dependence runs from point s to point t, independent or carried by the loop of DO d;
-- an independent one has d = 0
pub record Dep : Type 0 where
  pub kind : ℕ
  pub d : ℕ
  pub s : ℕ
  pub t : ℕ

abbrev pub dep : ℕ → ℕ → ℕ → ℕ → Dep
dep k d s t = record { kind = k; d = d; s = s; t = t }

-- 01, "The nest and its gaps": n control points in text order, each DO, ENDDO or statement; dependences numbered from
-- 0; 02, job 7: the barred gaps in text order, of which some may repeat; 02, job 10: the DOs of the loops that may not
-- run, which are flagged, rising
pub record Nest : Type 0 where
  pub points : List ℕ
  pub deps : List Dep
  pub barred : List ℕ
  pub flagged : List ℕ

-- a nest with nothing flagged, and one with nothing barred either
abbrev pub barring : List ℕ → List Dep → List ℕ → Nest
barring p d b = record { points = p; deps = d; barred = b; flagged = [] }

abbrev pub nest : List ℕ → List Dep → Nest
nest p d = barring p d []

abbrev pub empty : Nest
empty = nest [] []

-- a nest with one point more, with one dependence more, with one barred gap more
abbrev pub with_point : Nest → ℕ → Nest
with_point n k =
    record { points = n.points ++ (k ∷ []); deps = n.deps; barred = n.barred; flagged = n.flagged }

abbrev pub with_dep : Nest → Dep → Nest
with_dep n e =
    record { points = n.points; deps = n.deps ++ (e ∷ []); barred = n.barred; flagged = n.flagged }

abbrev pub with_bar : Nest → ℕ → Nest
with_bar n g =
    record { points = n.points; deps = n.deps; barred = n.barred ++ (g ∷ []); flagged = n.flagged }

-- with the DO of a flagged loop more
abbrev pub with_flagged : Nest → Nest
with_flagged n =
    record {
      points = n.points ++ (DO ∷ []);
      deps = n.deps;
      barred = n.barred;
      flagged = n.flagged ++ (length n.points ∷ []);
    }
