-- The list taken record by record: what holds before the record at index i, and what a turn of the loop keeps.
-- Main statements: `Taken`; `taken_none`, `taken_one`, `taken_all`.
use mathlib.Core.Path.{◌≡◌, refl, sym, ◌∙◌}
use mathlib.Core.List.{List, [], ◌∷◌}
use Prim.Native.Nat.{ℕ, zero, suc, ◌+◌, ◌≤◌, ◌<◌}
use native.Mathlib.Omega.{arith}
use lib.ListN.{length, drop, get_or}
use Rattle.paper_nests.specs.declared.Dependence as DE
use Rattle.paper_nests.specs.Nests.{Dep}
use Rattle.paper_nests.specs.Stored.{dep_in}
use Rattle.desk.specs.declared.Desk as DD
use Rattle.desk.specs.declared.Answer as DA
use Rattle.desk.specs.Desks.{Desk, desk_in}
use Rattle.desk.specs.Says.{ListSays}
use Rattle.call_list.specs.Lists.{all_deps, begun, step_of, steps_from}
use Rattle.call_list.proofs.Steps.{steps_say}

-- a is the answer after the records before i: the rest makes of it what the whole list makes of nothing
pub record Taken (x : Desk) (es : List Dep) (i : ℕ) (a : DA.Answer) : Type 0 where
  pub rest : steps_from x i a (drop i es) ≡ steps_from x 0 (begun x) es

pub taken_none : (x : Desk) (es : List Dep) (a : DA.Answer) → a ≡ begun x → Taken x es 0 a
taken_none x es a e = record { rest = rw e }

-- the record at i stands in front of the rest
deps_at
    : (ys : List DE.Dependence) (i : ℕ) (z : DE.Dependence)
    → i < length ys
    → drop i (all_deps ys) ≡ dep_in (get_or ys i z) ∷ drop (suc i) (all_deps ys)
deps_at [] i z h = absurd (omega arith)
deps_at (y ∷ ys) zero z h = refl
deps_at (y ∷ ys) (suc i) z h = deps_at ys i z (omega arith)

deps_end : (ys : List DE.Dependence) (i : ℕ) → length ys ≤ i → drop i (all_deps ys) ≡ []
deps_end [] zero h = refl
deps_end [] (suc i) h = refl
deps_end (y ∷ ys) zero h = absurd (omega arith)
deps_end (y ∷ ys) (suc i) h = deps_end ys i (omega arith)

module _ (x : Desk) (ys : List DE.Dependence) (i : ℕ) (a : DA.Answer) (p : Taken x (all_deps ys) i a) where
  pub taken_one
      : (z : DE.Dependence) (b : DA.Answer)
      → i < length ys
      → b ≡ step_of x a (dep_in (get_or ys i z)) i
      → Taken x (all_deps ys) (i + 1) b
  unfolding steps_from
  taken_one z b h e =
      let y : i + 1 ≡ suc i = omega arith in
      let f : steps_from x i a (drop i (all_deps ys)) ≡ steps_from x (suc i) b (drop (suc i) (all_deps ys)) =
      rw (deps_at ys i z h, e) in
      record { rest = rw y (sym f ∙ p.rest) }

  taken_end : length ys ≤ i → a ≡ steps_from x 0 (begun x) (all_deps ys)
  unfolding steps_from
  taken_end h =
      let f : steps_from x i a (drop i (all_deps ys)) ≡ a = rw (deps_end ys i h) in
      sym f ∙ p.rest

pub taken_all
    : (d : DD.Desk) (ys : List DE.Dependence) (i : ℕ) (a : DA.Answer)
    → Taken (desk_in d) (all_deps ys) i a
    → length ys ≤ i
    → ListSays d (all_deps ys) a
taken_all d ys i a p h = steps_say d (all_deps ys) a (taken_end (desk_in d) ys i a p h)
