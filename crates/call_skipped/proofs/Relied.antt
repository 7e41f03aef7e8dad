-- What one dependence of a list has, and the dependence of a number as the code reads it.
-- Main statements: `of-number`; `number_among`, `number_has`.
use mathlib.Core.Path.{◌≡◌, ap}
use mathlib.Core.List.{List, [], ◌∷◌}
use Prim.Native.Nat.{ℕ, zero, suc, ◌<◌}
use native.Mathlib.Omega.{arith}
use lib.ListN.{length, drop, get_or}
use Rattle.laws.specs.Members.{Among}
use Rattle.laws.proofs.Members.{among_drop}
use Rattle.paper_nests.specs.declared.Dependence as DE
use Rattle.paper_nests.specs.declared.Nest as DN
use Rattle.paper_nests.specs.Nests.{Dep}
use Rattle.paper_nests.specs.Stored.{dep_in, nest_in, IsCounted}
use Rattle.paper_nests.proofs.Stored.{deps_in_at, counted_many}
use Rattle.call_skipped.specs.Relied.{of_number}

-- what dependence i of a list has
pub of-number
    : (has : Dep → List ℕ) (es : List Dep) (i : ℕ) (e : Dep) (rest : List Dep)
    → drop i es ≡ e ∷ rest
    → of_number has es i ≡ has e
of-number has [] zero e rest h = absurd (omega (arith, ap (λ (l : List Dep). length l) h))
of-number has [] (suc i) e rest h = absurd (omega (arith, ap (λ (l : List Dep). length l) h))
of-number has (x ∷ es) zero e rest h = ap (λ (l : List Dep). has (get_or l 0 e)) h
of-number has (x ∷ es) (suc i) e rest h = of-number has es i e rest h

-- dependence i as the code reads it
abbrev pub dep_at : DN.Nest → ℕ → DE.Dependence
dep_at n i = get_or n.deps i (record { kind = 0; d = 0; s = 0; t = 0 })

module _ (n : DN.Nest) (m : IsCounted n) (i : ℕ) (there : i < n.many) where
  found : drop i (nest_in n).deps ≡ dep_in (dep_at n i) ∷ drop (suc i) (nest_in n).deps
  found = deps_in_at n.many n.deps i (record { kind = 0; d = 0; s = 0; t = 0 }) there (counted_many n m)

  pub number_among : Among (dep_in (dep_at n i)) (nest_in n).deps
  number_among = among_drop (dep_in (dep_at n i)) (nest_in n).deps (drop (suc i) (nest_in n).deps) i found

  pub number_has : (has : Dep → List ℕ) → of_number has (nest_in n).deps i ≡ has (dep_in (dep_at n i))
  number_has has = of-number has (nest_in n).deps i (dep_in (dep_at n i)) (drop (suc i) (nest_in n).deps) found
