-- The dependences tried one by one, for the first that is not cut.
-- Main statements: `Tried`, what a turn keeps; `tried_start`, `tried_cut`, `tried_uncut`, `tried_done`;
-- `carried_by_loop`; `lent_at`.
use mathlib.Core.Path.{◌≡◌, refl, sym, ◌∙◌}
use mathlib.Core.Bool.{true, false}
use mathlib.Core.List.{List, [], ◌∷◌}
use mathlib.Core.Logic.{⊎_elim}
use Prim.Native.Nat.{ℕ, zero, suc, ◌+◌, ◌≤◌, ◌<◌}
use native.Mathlib.Omega.{arith}
use lib.ListN.{length, get_or, take, drop, drop_of_length-le}
use Rattle.laws.proofs.Tests.{and_true}
use Rattle.paper_nests.specs.declared.Dependence as DE
use Rattle.paper_nests.specs.Kinds.{INDEPENDENT}
use Rattle.paper_nests.specs.Nests.{Dep}
use Rattle.paper_nests.specs.Loops.{is_do}
use Rattle.paper_nests.specs.Stored.{dep_in, deps_in}
use Rattle.paper_nests.specs.Valid.{is_dep, are_deps}
use Rattle.paper_nests.proofs.Deps.{dep_fits, Line, Back}
use Rattle.paper_placements.specs.Placements.{cuts, uncut_from}

-- those before i are cut: the rest decides
pub record Tried (ps : List ℕ) (ds : List Dep) (gs : List ℕ) (i : ℕ) : Type 0 where
  pub rest : uncut_from i ps (drop i ds) gs ≡ uncut_from 0 ps ds gs

pub tried_start : (ps : List ℕ) (ds : List Dep) (gs : List ℕ) → Tried ps ds gs 0
tried_start ps ds gs = record { rest = refl }

module _ (ps : List ℕ) (ds : List Dep) (gs : List ℕ) (i : ℕ) (p : Tried ps ds gs i) where
  module _ (e : Dep) (here : drop i ds ≡ e ∷ drop (suc i) ds) where
    pub tried_cut : cuts ps e gs ≡ true → Tried ps ds gs (i + 1)
    tried_cut h =
        let y : i + 1 ≡ suc i = omega arith in
        let z : uncut_from i ps (drop i ds) gs ≡ uncut_from (suc i) ps (drop (suc i) ds) gs = rw (here, h) in
        record { rest = rw y (sym z ∙ p.rest) }

    pub tried_uncut : cuts ps e gs ≡ false → i + 1 ≡ uncut_from 0 ps ds gs
    tried_uncut h =
        let z : uncut_from i ps (drop i ds) gs ≡ suc i = rw (here, h) in
        omega (arith, z, p.rest)

  pub tried_done : length ds ≤ i → 0 ≡ uncut_from 0 ps ds gs
  tried_done h =
      let z : uncut_from i ps (drop i ds) gs ≡ 0 = rw (drop_of_length-le ds h) in
      sym z ∙ p.rest

-- each dependence is one
dep-at : (ps : List ℕ) (ds : List Dep) (i : ℕ) (e : Dep) (es : List Dep) →
    are_deps ps ds ≡ true → drop i ds ≡ e ∷ es → is_dep ps e ≡ true
dep-at ps [] zero e es h q = let z : ◌≡◌ {A = ℕ} 0 1 = cc q in absurd (omega arith)
dep-at ps [] (suc i) e es h q = let z : ◌≡◌ {A = ℕ} 0 1 = cc q in absurd (omega arith)
dep-at ps (x ∷ xs) zero e es h q = let z : x ≡ e = cc q in rw z at (and_true (is_dep ps x) (are_deps ps xs) h).0
dep-at ps (x ∷ xs) (suc i) e es h q = dep-at ps xs i e es (and_true (is_dep ps x) (are_deps ps xs) h).1 q

-- a dependence that is not independent is carried by a loop
pub carried_by_loop
    : (ps : List ℕ) (ds : List Dep) (i : ℕ) (e : Dep) (es : List Dep)
    → are_deps ps ds ≡ true
    → drop i ds ≡ e ∷ es
    → (e.kind ≡ INDEPENDENT → ⊥)
    → is_do ps e.d ≡ true
carried_by_loop ps ds i e es h q n =
    ⊎_elim
    (λ (z : Line ps e). absurd (n z.kind_is))
    (λ (z : Back ps e). z.loop)
    (dep_fits ps e (dep-at ps ds i e es h q))

-- of the dependences lent as a list, the one at i stands in front of the rest
pub lent_at
    : (n : ℕ) (xs : List DE.Dependence) (i : ℕ) (z : DE.Dependence)
    → i < length (take n xs)
    → drop i (deps_in n xs) ≡ dep_in (get_or (take n xs) i z) ∷ drop (suc i) (deps_in n xs)
lent_at zero xs i z h = absurd (omega arith)
lent_at (suc n) [] i z h = absurd (omega arith)
lent_at (suc n) (x ∷ xs) zero z h = refl
lent_at (suc n) (x ∷ xs) (suc i) z h = lent_at n xs i z (omega arith)
