-- The dependences of a nest as tables: by the row of their home, the least t.
-- Main definitions: `back_of`, `Collected`, `Entered`, `Blank`, `Limited`, `lowest_from`, `Narrowed`.
use Rattle.std.specs.Prelude.{◌≡◌, Bool, true, ◌&&◌, not, List, ◌∷◌, ◌⊎◌, ℕ, zero, suc, ◌+◌, ◌≤◌, ◌<◌, min, eqb, length}
use Rattle.laws.specs.Bits.{one}
use Rattle.laws.specs.Entries.{at}
use Rattle.paper_nests.specs.Kinds.{INDEPENDENT, POINTS}
use Rattle.paper_nests.specs.Nests.{Dep}
use Rattle.paper_nests.specs.Loops.{is_do}
use Rattle.plan_method.specs.Home.{home_of, least_end, reach_of, limit_of, has_at}
use Rattle.plan_method.proofs.Instance.{AllFit}
use Rattle.plan_tables.specs.Charts.{Rows, TABLE}

-- a dependence carried by d from the point q
abbrev pub leaves_at : List ℕ → ℕ → ℕ → Dep → Bool
leaves_at ps d q e = not (eqb e.kind INDEPENDENT) && (eqb (home_of ps e) d && eqb e.s q)

-- the least t of the dependences carried by d from the point q; n, above every gap, for none
unfoldable pub back_of : List ℕ → List Dep → ℕ → ℕ → ℕ
back_of ps ds d q = least_end (leaves_at ps d q) (length ps) ds

-- each dependence stands in the row of its home: independent ones where their gaps start, carried ones at their source
pub record Collected (ps : List ℕ) (ds : List Dep) (heights reach back has : List ℕ) : Type 0 where
  pub reach_is : Rows ps heights reach (reach_of ps ds)
  pub back_is : Rows ps heights back (back_of ps ds)
  pub has_is : (d : ℕ) → is_do ps d ≡ true → at has d ≡ one (has_at ps ds d)

-- one dependence more
abbrev pub Entered : List ℕ → List ℕ → Dep → List ℕ → List ℕ → List ℕ → List ℕ → List ℕ → List ℕ → Type 0
Entered ps heights e reach back has reach' back' has' =
    (ds : List Dep) → Collected ps ds heights reach back has → Collected ps (e ∷ ds) heights reach' back' has'

-- room for a row at each height, and for an entry at each point
pub record LinesRoom (reach limit has : List ℕ) : Type 0 where
  pub reach_room : TABLE ≤ length reach
  pub limit_room : TABLE ≤ length limit
  pub has_room : POINTS ≤ length has

-- no dependence is entered: the least t is n everywhere, and no loop is a home
pub record Blank (n : ℕ) (reach back has : List ℕ) : Type 0 where
  pub reach_is : (i : ℕ) → i < TABLE → at reach i ≡ n
  pub back_is : (i : ℕ) → i < TABLE → at back i ≡ n
  pub has_is : (d : ℕ) → at has d ≡ 0

-- the limits of each loop from what goes back in it
abbrev pub Limited : List ℕ → List ℕ → List ℕ → List ℕ → Type 0
Limited ps heights back limit =
    (ds : List Dep) → AllFit ps ds → Rows ps heights back (back_of ps ds) → Rows ps heights limit (limit_of ps ds)

-- the least of e and of f at the k places from q
unfoldable pub lowest_from : (ℕ → ℕ) → ℕ → ℕ → ℕ → ℕ
lowest_from f e zero q = e
lowest_from f e (suc k) q = min (f q) (lowest_from f e k (suc q))

-- in xs' each entry of d + 1 … e, counted from base, is the least from there to e, and at most e; the others are those
-- of xs
pub record Narrowed (xs : List ℕ) (base d e : ℕ) (xs' : List ℕ) : Type 0 where
  pub inside
      : (q k : ℕ)
      → d < q
      → q + k ≡ e
      → at xs' (base + q) ≡ lowest_from (λ i. at xs (base + i)) e (suc k) q
  pub outside : (i : ℕ) → (i ≤ base + d) ⊎ (base + e < i) → at xs' i ≡ at xs i
