-- The tables of a nest, from their parts.
-- Main statements: `unowned_filled`, `blank_filled`, `all_prepared`, and what a valid nest gives:
-- `points_of`, `fits_of`.
use mathlib.Core.Path.{◌≡◌, ◌∙◌}
use mathlib.Core.Bool.{true}
use mathlib.Core.List.{List}
use Prim.Native.Nat.{ℕ}
use Rattle.laws.proofs.Copies.{copies, copies_at, copies_there}
use Rattle.paper_nests.specs.Nests.{Dep, Nest}
use Rattle.paper_nests.specs.Valid.{is_valid}
use Rattle.paper_nests.proofs.Deps.{valid_is, deps_fit}
use Rattle.plan_method.proofs.Instance.{AllFit}
use Rattle.plan_tables.specs.Charts.{ROW, TABLE, Points, Charted, Unowned}
use Rattle.plan_tables.specs.Collected.{Collected, Blank, Limited}
use Rattle.plan_tables.specs.Prepared.{Prepared}

-- new lists, filled with 0 and with n
pub unowned_filled : Unowned (copies ROW 0)
unowned_filled = copies_at ROW 0

pub blank_filled : (n m : ℕ) → n ≡ m → Blank m (copies TABLE n) (copies TABLE n) (copies ROW 0)
blank_filled n m e =
    record {
      reach_is = λ i l. copies_there TABLE n i 0 l ∙ e;
      back_is = λ i l. copies_there TABLE n i 0 l ∙ e;
      has_is = copies_at ROW 0;
    }

pub all_prepared :
    {ps : List ℕ} {ds : List Dep} {own ends heights reach back limit has : List ℕ} → Charted ps own ends heights →
    Collected ps ds heights reach back has → AllFit ps ds → Limited ps heights back limit →
    Prepared ps ds own ends heights reach limit has
all_prepared {ds = ds} c l f n =
    record { charted = c; reach_is = l.reach_is; limit_is = n ds f l.back_is; has_is = l.has_is }

-- a valid nest is one that can be prepared
pub points_of : (n : Nest) → is_valid n ≡ true → Points n.points
points_of n v = let p = valid_is n v in record { shape = p.shape; few = p.few_points }

pub fits_of : (n : Nest) → is_valid n ≡ true → AllFit n.points n.deps
fits_of n v = deps_fit n.points n.deps (valid_is n v).all-deps
