-- The tables of a nest are what settling and laying ask, and what the outermost loop lays is the key.
-- Main statements: `charts`, `lines`, `choices`, `key`, `unset_top`.
use mathlib.Core.Path.{◌≡◌, ◌∙◌}
use mathlib.Core.Bool.{true, false}
use mathlib.Core.List.{List}
use mathlib.Core.Logic.{⊎_elim}
use Prim.Native.Nat.{ℕ, ◌-◌, ◌≤◌, ◌<◌}
use native.Mathlib.Omega.{arith}
use lib.ListN.{length}
use Rattle.laws.specs.Entries.{at}
use Rattle.laws.proofs.Connectives.{or_off}
use Rattle.laws.proofs.Tests.{test}
use Rattle.paper_nests.specs.Kinds.{POINTS, DEPTH}
use Rattle.paper_nests.specs.Nests.{Dep}
use Rattle.paper_nests.specs.Loops.{is_do, end_of}
use Rattle.paper_nests.specs.Valid.{is_shape}
use Rattle.paper_nests.proofs.Levels.{point_in}
use Rattle.paper_nests.proofs.Loops.{outermost}
use Rattle.paper_placements.specs.Words.{holds}
use Rattle.plan_method.specs.Sweep.{Loops, Lines, Tables, some_of, IsTable}
use Rattle.plan_method.specs.Plan.{table_of, key_of}
use Rattle.plan_method.specs.Home.{loops_in, lines_in, key_in}
use Rattle.plan_method.proofs.World.{LoopLaws}
use Rattle.plan_method.proofs.Instance.{loop_laws}
use Rattle.plan_method.proofs.Rows.{row_fronts, row_idle}
use Rattle.plan_method.proofs.Tables.{table_is}
use Rattle.plan_tables.specs.Charts.{Points}
use Rattle.plan_tables.specs.Prepared.{Prepared}
use Rattle.plan_rows.specs.Made.{RowsCleared}
use Rattle.plan_settle.specs.Settled.{HasHeight, Charts, LinesAt, Rows, Unset}
use Rattle.plan_lay.specs.Laid.{Choices, LaySays}

-- a front comes from a suffix of the loop's range
chosen_in_range
    : (B : Loops) → LoopLaws B → (N : Lines) (T : Tables) → IsTable B N T → (d : ℕ) → B.is_do d ≡ true → (q : ℕ) →
    d < q → q ≤ B.stop d
    → 0 < T.left d q → (d < T.choice d q) × (T.choice d q ≤ B.stop d)
chosen_in_range B laws N T t d i q a b h = ⊎_elim
    (λ (z : some_of B N T d ≡ true).
    let f = row_fronts B laws N T t d i q a b z in
    (omega (arith, f.low h), f.high h))
    (λ (z : some_of B N T d ≡ false). absurd (omega (arith, (row_idle B laws N T t d i q a b z).1)))
    (test (some_of B N T d))

module _ (ps : List ℕ) (ds : List Dep) (own ends heights reach limit has : List ℕ) (w : Points ps)
    (p : Prepared ps ds own ends heights reach limit has) where
  -- the planner's tables
  abbrev table : Tables
  table = table_of (loops_in ps) (lines_in ps ds) (length ps)

  tabled : IsTable (loops_in ps) (lines_in ps ds) table
  tabled = table_is (loops_in ps) (loop_laws ps w.shape) (lines_in ps ds) (length ps) (λ d i. point_in ps d 0 i)

  pub charts : POINTS ≤ length own → POINTS ≤ length ends → Charts ps own ends
  charts a b =
      record {
        shape = w.shape;
        few = w.few;
        own_is = p.charted.own_is;
        own_low = p.charted.own_low;
        ends_is = p.charted.ends_are;
        own_room = a;
        ends_room = b;
      }

  pub lines : LinesAt ps (lines_in ps ds) reach limit has
  lines =
      record {
        reach_is = λ d h a i e l m. rw (same d h i e) (p.reach_is d a i l m);
        limit_is = λ d h q i e l m. rw (same d h i e) (p.limit_is d q i l m);
        has_is = p.has_is;
      }
    where
      same : (d h : ℕ) → is_do ps d ≡ true → HasHeight ps d h → h ≡ at heights d
      same d h i e = omega (arith, p.charted.heights_are d i)

  module _ (left choice : List ℕ)
      (settled : (N : Lines) (T : Tables) → IsTable (loops_in ps) N T → LinesAt ps N reach limit has →
      Rows ps T left choice 0 (end_of ps 0)) where
    rows : Rows ps table left choice 0 (end_of ps 0)
    rows = settled (lines_in ps ds) table tabled lines

    pub choices : Choices ps left choice 0 (end_of ps 0)
    choices l h q i a b e c f g =
        let r = chosen_in_range (loops_in ps) (loop_laws ps w.shape) (lines_in ps ds) table tabled l i q c f
        (rw (rows.left_is l h q i a b e c f) at g) in
        rw (rows.choice_is l h q i a b e c f) r

    pub key : (none words : List ℕ) → ((g : ℕ) → holds none g ≡ false) →
        LaySays ps reach limit left choice 0 1 none words → (g : ℕ) → holds words g ≡ key_in ps ds g
    unfolding key_in key_of
    key none words e l g = l (lines_in ps ds) table has tabled lines rows g ∙ rw (e g) (or_off (table.lay 0 1 g))

-- the rows, cleared as far as the points go, are 0 in the range of the outermost loop
pub unset_top : (ps : List ℕ) {xs xs' : List ℕ} {n : ℕ} → is_shape ps ≡ true → n ≡ length ps →
    RowsCleared xs xs' DEPTH (n - 1) → Unset xs' 0 (end_of ps 0)
unset_top ps shape e c h q low high a b = c.zero_at h q low high a (omega (arith, outermost ps shape))
