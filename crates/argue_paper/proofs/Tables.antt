-- The planner's tables are what the claims are given from, and what is given is the argument.
-- Main statements: `unset_filled`, `small_filled`, `fine`, `ground`, `spelled`.
use mathlib.Core.Path.{◌≡◌, refl, sym, ◌∙◌}
use mathlib.Core.Bool.{true}
use mathlib.Core.List.{List, []}
use Prim.Native.Nat.{ℕ, ◌+◌, ◌*◌, ◌≤◌, ◌<◌}
use native.Mathlib.Omega.{arith}
use lib.ListN.{length}
use Rattle.laws.specs.Entries.{at}
use Rattle.laws.proofs.Copies.{copies, copies_at}
use Rattle.paper_nests.specs.Nests.{Dep}
use Rattle.paper_nests.specs.Kinds.{POINTS}
use Rattle.paper_nests.specs.Loops.{is_do, end_of}
use Rattle.paper_nests.specs.Valid.{is_valid}
use Rattle.paper_nests.specs.declared.Nest as DN
use Rattle.paper_nests.specs.Stored.{nest_in, IsCounted}
use Rattle.plan_method.specs.Sweep.{Tables}
use Rattle.plan_method.specs.Plan.{table_of}
use Rattle.plan_method.specs.Home.{loops_in, lines_in}
use Rattle.plan_method.proofs.Cuts.{in_outermost}
use Rattle.plan_tables.specs.Charts.{TABLE, Rows}
use Rattle.plan_tables.specs.Prepared.{Prepared}
use Rattle.plan_tables.proofs.Preparing.{points_of, fits_of}
use Rattle.plan_settle.specs.Settled.{HasHeight, Unset, SettleSays}
use Rattle.plan_nest.proofs.Planning.{charts, lines}
use Rattle.argue_key.specs.Laps.{heads_from, plain_argument}
use Rattle.argue_key.proofs.AllClaims.{made_length}
use Rattle.argue_key.proofs.Plain.{table}
use Rattle.argue_sets.specs.Numbered.{line_set}
use Rattle.argue_spell.specs.Added.{WORD}
use Rattle.argue_loops.specs.Whole.{GiveTables, TableGround, GivenAll}
use Rattle.argue_paper.specs.Spelled.{Spelled, CostsAre}

-- new lists, filled with one number
pub unset_filled : {d e : ℕ} → Unset (copies TABLE 0) d e
unset_filled h q a b c e = copies_at TABLE 0 (h * 256 + q)

pub small_filled : (a : ℕ) → at (copies 256 0) a ≤ WORD
small_filled a = let z : at (copies 256 0) a ≡ 0 = copies_at 256 0 a in omega arith

module _
    {nest : DN.Nest} (counted : IsCounted nest) (valid : is_valid (nest_in nest) ≡ true)
    {own ends heights reach limit has : List ℕ}
    (p : Prepared (nest_in nest).points (nest_in nest).deps own ends heights reach limit has)
    {left₀ choice₀ left choice : List ℕ}
    (s : SettleSays (nest_in nest).points reach limit has left₀ choice₀ left choice 0)
  where
    abbrev ps : List ℕ
    ps = (nest_in nest).points

    abbrev ds : List Dep
    ds = (nest_in nest).deps

    abbrev T : Tables
    T = table_of (loops_in ps) (lines_in ps ds) (length ps)

    same : (d h : ℕ) → is_do ps d ≡ true → HasHeight ps d h → h ≡ at heights d
    same d h i e = omega (arith, p.charted.heights_are d i)

    outermost : (d : ℕ) → is_do ps d ≡ true → d < end_of ps 0
    outermost d i = (in_outermost ps (points_of (nest_in nest) valid).shape d i).below

    pub fine : {numbers costs : List ℕ} → POINTS ≤ length own → POINTS ≤ length ends → 256 ≤ length heights →
        2304 ≤ length left → 2304 ≤ length reach → 2304 ≤ length numbers → 256 ≤ length costs →
        GiveTables nest ps own ends heights left reach numbers costs
    fine a b c d e f g =
        record {
          counted = counted;
          points_are = refl;
          fit = fits_of (nest_in nest) valid;
          charts = charts ps ds own ends heights reach limit has (points_of (nest_in nest) valid) p a b;
          heights_are = p.charted.heights_are;
          heights_room = c;
          left_room = d;
          reach_room = e;
          numbers_room = f;
          costs_room = g;
          fronts = λ l h q i x y z. (s.fronts l h q i (omega arith) (outermost l i) x y z).high;
        }

    pub ground : {numbers costs : List ℕ} → Rows ps heights numbers (line_set ps ds) → CostsAre (nest_in nest) costs →
        TableGround nest ps own left reach numbers costs T
    ground n c =
        record {
          left_is = λ l h q i x y z.
              (s.rows (lines_in ps ds) T
              (table (nest_in nest) (points_of (nest_in nest) valid).shape (fits_of (nest_in nest) valid))
              (lines ps ds own ends heights reach limit has (points_of (nest_in nest) valid) p)).left_is l h q i
              (omega arith) (outermost l i) x y z;
          reach_is = λ d h a i x y z. rw (same d h i x) (p.reach_is d a i y z);
          numbers_is = λ d h a i x y z. rw (same d h i x) (n d a i y z);
          costs_are = c;
        }

    pub spelled : {numbers costs out out' : List ℕ} {many next : ℕ} → Rows ps heights numbers (line_set ps ds) →
        CostsAre (nest_in nest) costs → GivenAll nest ps own left reach numbers costs out out' many next →
        Spelled (plain_argument ps ds) out out' many next
    unfolding plain_argument
    spelled n c g =
        record {
          many_is = g.many_is T (ground n c) ∙ sym (made_length ps ds T [] (heads_from ps T (length ps) 0 []));
          text_is = λ h. g.text_is T (ground n c) h;
        }
