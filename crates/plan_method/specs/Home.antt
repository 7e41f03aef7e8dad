-- The dependences of a nest, by the loop that has to cut them.
-- Main definitions: `home_of`, `reach_of`, `limit_of`, `has_at`; the nest as the sweeps see it, `loops_in` and `lines_in`;
-- `key_in`.
use Rattle.std.specs.Prelude.{Bool, false, ◌&&◌, ◌||◌, not, List, [], ◌∷◌, ℕ, suc, min, eqb, ltb, length}
use Rattle.laws.specs.Choice.{pick}
use Rattle.paper_nests.specs.Kinds.{INDEPENDENT}
use Rattle.paper_nests.specs.Nests.{Dep}
use Rattle.paper_nests.specs.Loops.{is_do, is_end, end_of, owner_from, owner_of}
use Rattle.plan_method.specs.Sweep.{Loops, Lines}
use Rattle.plan_method.specs.Plan.{key_of}

-- the innermost loop whose range holds all the gaps of a dependence
abbrev pub home_of : List ℕ → Dep → ℕ
home_of ps e = pick (eqb e.kind INDEPENDENT) (owner_from (suc e.s) e.t ps) e.d

-- an independent dependence with home d whose gaps start at a
abbrev pub starts_at : List ℕ → ℕ → ℕ → Dep → Bool
starts_at ps d a e = eqb e.kind INDEPENDENT && (eqb (home_of ps e) d && eqb (suc e.s) a)

-- a dependence carried by d whose later gaps start above q
abbrev pub returns_after : List ℕ → ℕ → ℕ → Dep → Bool
returns_after ps d q e = not (eqb e.kind INDEPENDENT) && (eqb (home_of ps e) d && ltb q (suc e.s))

-- the least t of the dependences that pass a test, or a number for none
unfoldable pub least_end : (Dep → Bool) → ℕ → List Dep → ℕ
least_end p none [] = none
least_end p none (e ∷ es) =
    let r = least_end p none es in
    pick (p e) (min e.t r) r

-- the least end of the independent dependences with home d whose gaps start at a; n, above every gap, for none
unfoldable pub reach_of : List ℕ → List Dep → ℕ → ℕ → ℕ
reach_of ps ds d a = least_end (starts_at ps d a) (length ps) ds

-- the least t of the dependences carried by d whose later gaps start above q; d's ENDDO for none
unfoldable pub limit_of : List ℕ → List Dep → ℕ → ℕ → ℕ
limit_of ps ds d q = least_end (returns_after ps d q) (end_of ps d) ds

-- some dependence has home d
unfoldable pub has_at : List ℕ → List Dep → ℕ → Bool
has_at ps [] d = false
has_at ps (e ∷ es) d = eqb (home_of ps e) d || has_at ps es d

-- the nest as the sweeps see it
abbrev pub loops_in : List ℕ → Loops
loops_in ps = record { is_do = is_do ps; is_end = is_end ps; stop = end_of ps; own = owner_of ps }

abbrev pub lines_in : List ℕ → List Dep → Lines
lines_in ps ds = record { has = has_at ps ds; reach = reach_of ps ds; limit = limit_of ps ds }

-- the key of a nest
unfoldable pub key_in : List ℕ → List Dep → ℕ → Bool
key_in ps ds = key_of (loops_in ps) (lines_in ps ds) (length ps)
