-- The pass over the points: before point p the three tables have what is before it, and the depth is that of p.
-- Main statements: `beyond_owner`, `beyond_end`, `beyond_depth`; `Passed`, `pass_start`, `pass_on`; `end_here`,
-- `end_few`, `depth_few`, `inside_few`; `done_owners`, `done_ends`, `done_depths`.
use mathlib.Core.Path.{◌≡◌, refl, sym, ap, ◌∙◌}
use mathlib.Core.Bool.{Bool, true, false, ◌&&◌}
use mathlib.Core.List.{List}
use Prim.Native.Nat.{ℕ, zero, suc, ◌+◌, ◌-◌, ◌≤◌, ◌<◌}
use native.Mathlib.Numerals.{add-one}
use native.Mathlib.Omega.{arith}
use lib.Dec.{eqb, ltb}
use lib.ListN.{length, get_or, take, set, get_or-eq_default}
use lib.Seq.{take_all}
use borrow.Author.Tests.{lt-ltb, le-ltb}
use Rattle.laws.specs.Choice.{pick, when}
use Rattle.laws.specs.Entries.{at}
use Rattle.laws.proofs.Tests.{false_by}
use Rattle.paper_nests.specs.Kinds.{DO, ENDDO, POINTS, DEPTH}
use Rattle.paper_nests.specs.Loops.{deeper, depth, is_do, end_of, HasEnds, owner_of}
use Rattle.paper_nests.specs.Valid.{is_shape}
use Rattle.paper_nests.proofs.Levels.{lev, lev_depth, lev_step, lev_zero, lev_last, lev_deep, point_in}
use Rattle.paper_nests.proofs.Loops.{end_there}
use Rattle.call_shape.specs.Shapes.{owner_at, end_at, inside_of, depth_at}
use Rattle.call_shape.proofs.Filling.{Filled, fill_none, fill_next, fill_all}

-- nothing stands behind the last point
pub beyond_owner : (ps : List ℕ) (i : ℕ) → length ps ≤ i → owner_at ps i ≡ 0
beyond_owner ps i h = rw (le-ltb i (length ps) h) (none (ltb 0 i))
  where
    none : (b : Bool) → when (b && false) (owner_of ps i) ≡ 0
    none true = refl
    none false = refl

pub beyond_end : (ps : List ℕ) (i : ℕ) → length ps ≤ i → end_at ps i ≡ 0
beyond_end ps i h =
    let no : is_do ps i ≡ false = false_by (λ z. omega (arith, point_in ps i 0 z)) in
    rw no

pub beyond_depth : (ps : List ℕ) → depth ps ≡ 0 → (i : ℕ) → length ps ≤ i → depth_at ps i ≡ 0
beyond_depth ps closed i h =
    let k : get_or ps i 0 ≡ 0 = get_or-eq_default ps 0 h in
    let w : depth (take i ps) ≡ 0 = ap depth (take_all i ps h) ∙ closed in
    rw (k, w)

-- what a turn keeps
pub record Passed (ps owners ends depths : List ℕ) (depth p : ℕ) : Type 0 where
  pub within : p ≤ length ps
  pub owners_are : Filled (owner_at ps) p owners
  pub ends_are : Filled (end_at ps) p ends
  pub depths_are : Filled (depth_at ps) p depths
  pub depth_is : depth ≡ lev ps p

pub pass_start
    : (ps zeros : List ℕ) → length zeros ≡ POINTS → ((i : ℕ) → at zeros i ≡ 0) → Passed ps zeros zeros zeros 0 0
pass_start ps zeros l z =
    record {
      within = omega arith;
      owners_are = fill_none (owner_at ps) zeros l z;
      ends_are = fill_none (end_at ps) zeros l z;
      depths_are = fill_none (depth_at ps) zeros l z;
      depth_is = sym (lev_zero ps);
    }

-- the loop of a gap; gap 0 is none, and has 0
owner_here : (ps : List ℕ) (p : ℕ) → p < length ps → owner_of ps p ≡ owner_at ps p
owner_here ps zero l = refl
owner_here ps (suc p) l = rw (lt-ltb 0 (suc p) (omega arith), lt-ltb (suc p) (length ps) l)

module _ (ps : List ℕ) (ends : List ℕ) (are : HasEnds ps ends) (p : ℕ) where
  pub end_here : when (eqb (get_or ps p 0) DO) (get_or ends p 0) ≡ end_at ps p
  end_here = go (is_do ps p) refl
    where
      go : (t : Bool) → is_do ps p ≡ t → when t (get_or ends p 0) ≡ when t (end_of ps p)
      go true e = are p e
      go false e = refl

  module _ (shape : is_shape ps ≡ true) (few : length ps ≤ POINTS) where
    -- what is written fits a byte
    pub end_few : when (eqb (get_or ps p 0) DO) (get_or ends p 0) < POINTS
    end_few = go (is_do ps p) refl
      where
        go : (t : Bool) → is_do ps p ≡ t → when t (get_or ends p 0) < POINTS
        go true e = omega (arith, are p e, end_there ps shape p e)
        go false e = omega arith

module _
    {ps owners ends depths : List ℕ} {d p : ℕ} (t : Passed ps owners ends depths d p)
    (shape : is_shape ps ≡ true) (few : length ps ≤ POINTS)
  where
    pub depth_few : d ≤ DEPTH
    depth_few = omega (arith, t.depth_is, lev_deep ps shape p)

    pub inside_few : (kind : ℕ) → inside_of kind d ≤ DEPTH
    inside_few kind = go (eqb kind ENDDO)
      where
        go : (b : Bool) → pick b (d - 1) d ≤ DEPTH
        go true = omega (arith, depth_few)
        go false = depth_few

    pub pass_on
        : (l : p < length ps)
        → (o e i next : ℕ)
        → o ≡ owner_of ps p
        → e ≡ end_at ps p
        → i ≡ inside_of (get_or ps p 0) d
        → next ≡ deeper d (get_or ps p 0)
        → Passed ps (set owners p o) (set ends p e) (set depths p i) next (p + 1)
    pass_on l o e i next same-owner same_end same-depth same_next =
        record {
          within = omega arith;
          owners_are = fill_next t.owners_are o (omega arith) (same-owner ∙ owner_here ps p l);
          ends_are = fill_next t.ends_are e (omega arith) same_end;
          depths_are =
              fill_next t.depths_are i (omega arith)
              (same-depth ∙ ap (inside_of (get_or ps p 0)) (t.depth_is ∙ lev_depth ps p));
          depth_is = same_next ∙ rw (add-one, t.depth_is) (sym (lev_step ps p));
        }

    -- the loops are all closed
    closed : depth ps ≡ 0
    closed =
        ap depth (sym (take_all (length ps) ps (omega arith))) ∙ sym (lev_depth ps (length ps)) ∙ lev_last ps shape

    module _ (end : length ps ≤ p) where
      pub done_owners : (g : ℕ) → at owners g ≡ owner_at ps g
      done_owners = fill_all t.owners_are (λ i h. beyond_owner ps i (omega arith))

      pub done_ends : (l : ℕ) → at ends l ≡ end_at ps l
      done_ends = fill_all t.ends_are (λ i h. beyond_end ps i (omega arith))

      pub done_depths : (i : ℕ) → at depths i ≡ depth_at ps i
      done_depths = fill_all t.depths_are (λ i h. beyond_depth ps closed i (omega arith))
