-- One dependence more in the tables: the least end in the cell where it stands, and its home noted.
-- Main statements: `line_there`, `back_there`, `line_entered`, `back_entered`.
use mathlib.Core.Path.{◌≡◌, refl, sym, ap, ◌∙◌}
use mathlib.Core.Bool.{Bool, true, false, ◌&&◌, not}
use mathlib.Core.List.{List, ◌∷◌}
use mathlib.Core.Logic.{⊎_elim}
use Prim.Native.Nat.{ℕ, suc, ◌+◌, ◌≤◌, ◌<◌, min}
use native.Mathlib.Omega.{arith}
use lib.Dec.{eqb}
use lib.ListN.{length, set}
use borrow.Author.Tests.{eqb-true, eq-eqb, ne_eqb}
use Rattle.laws.specs.Bits.{one}
use Rattle.laws.specs.Choice.{pick}
use Rattle.laws.specs.Entries.{at}
use Rattle.laws.proofs.Tests.{never_both, eq_or, and_true, and_intro}
use Rattle.paper_nests.specs.Kinds.{INDEPENDENT, POINTS}
use Rattle.paper_nests.specs.Nests.{Dep}
use Rattle.paper_nests.specs.Loops.{is_do, end_of, owner_from}
use Rattle.paper_nests.proofs.Loops.{Owner, end_there}
use Rattle.paper_nests.proofs.Deps.{Line, Back}
use Rattle.paper_nests.proofs.Gaps.{home_law}
use Rattle.plan_method.specs.Home.{home_of, starts_at, least_end, reach_of, has_at}
use Rattle.plan_tables.specs.Charts.{ROW, TABLE, cell, Rows}
use Rattle.plan_tables.specs.Collected.{leaves_at, back_of, Collected, LinesRoom}
use Rattle.plan_tables.proofs.Entries.{entry_here, entry_elsewhere}
use Rattle.plan_tables.proofs.Cells.{Tall, cell_fits, same_cell}

-- the least ends that pass a test of a loop and a gap
abbrev Ends : List ℕ → List ℕ → (ℕ → ℕ → Dep → Bool) → List Dep → List ℕ → Type 0
Ends ps heights test ds xs = Rows ps heights xs (λ d q. least_end (test d q) (length ps) ds)

-- a dependence that passes none of the tests changes nothing
ends_kept :
    (ps heights : List ℕ) (test : ℕ → ℕ → Dep → Bool) (ds : List Dep) (e : Dep) (xs : List ℕ) →
    ((d q : ℕ) → test d q e ≡ false) → Ends ps heights test ds xs → Ends ps heights test (e ∷ ds) xs
unfolding least_end
ends_kept ps heights test ds e xs f p d q h l m = rw (f d q) (p d q h l m)

module _ {ps heights : List ℕ} (w : Tall ps heights) where
  range_fits : (d q : ℕ) → is_do ps d ≡ true → q ≤ end_of ps d → q < ROW
  range_fits d q h m = omega (arith, end_there ps w.points.shape d h, w.points.few)

  pub cell_there : (d q : ℕ) → is_do ps d ≡ true → d < q → q ≤ end_of ps d → cell heights d q < TABLE
  cell_there d q h l m = cell_fits w d q h (range_fits d q h m)

  -- where a dependence stands: its home is a point, and its cell is in the table
  line_home : {e : Dep} {x : ℕ} → Line ps e → x ≡ owner_from (suc e.s) e.t ps → Owner ps (suc e.s) e.t x
  line_home {e} f x_is = rw x_is (home_law ps w.points.shape e.s e.t f.target_there)

  pub line_there :
      {e : Dep} {x : ℕ} → Line ps e → x ≡ owner_from (suc e.s) e.t ps →
      (x < POINTS) × (cell heights x (e.s + 1) < TABLE)
  line_there {e} {x} f x_is =
      let o = line_home f x_is in
      let c = cell_there x (e.s + 1) o.loop (omega (arith, o.below)) (omega (arith, o.holds, f.forward)) in
      (omega (arith, range_fits x e.t o.loop o.holds, o.below, f.forward), c)

  pub back_there : {e : Dep} → Back ps e → (e.d < POINTS) × (cell heights e.d e.s < TABLE)
  back_there {e} f =
      let c = cell_there e.d e.s f.loop f.source_after (omega (arith, f.source_before)) in
      (omega (arith, range_fits e.d e.s f.loop (omega (arith, f.source_before)), f.source_after), c)

  -- one that passes the test of one loop and gap lowers that cell
  ends_lowered :
      (test : ℕ → ℕ → Dep → Bool) (ds : List Dep) (e : Dep) (xs : List ℕ) → TABLE ≤ length xs → (x r : ℕ) →
      is_do ps x ≡ true → x < r → r ≤ end_of ps x → test x r e ≡ true →
      ((d q : ℕ) → test d q e ≡ true → (d ≡ x) × (q ≡ r)) → Ends ps heights test ds xs →
      Ends ps heights test (e ∷ ds) (set xs (cell heights x r) (min e.t (at xs (cell heights x r))))
  unfolding least_end
  ends_lowered test ds e xs room x r k a b hit once p d q h l m = go (test d q e) refl
    where
      v : ℕ
      v = min e.t (at xs (cell heights x r))

      u : ℕ
      u = least_end (test d q) (length ps) ds

      go : (y : Bool) → test d q e ≡ y → at (set xs (cell heights x r) v) (cell heights d q) ≡ pick y (min e.t u) u
      go true z =
          let o = once d q z in
          let there : cell heights d q ≡ cell heights x r = rw (o.0, o.1) in
          let same : at xs (cell heights x r) ≡ u = sym (ap (at xs) there) ∙ p d q h l m in
          ap (at (set xs (cell heights x r) v)) there ∙
          entry_here xs (cell heights x r) v (omega (arith, cell_there x r k a b)) ∙
          ap (min e.t) same
      go false z =
          entry_elsewhere xs (cell heights x r) v (cell heights d q)
          (λ s.
          let o = same_cell w d q x r h l m k a b s in
          never_both (rw (← o.0, ← o.1) at hit) z) ∙
          p d q h l m

  -- one more home
  has_more :
      (ds : List Dep) (e : Dep) (has : List ℕ) (x : ℕ) → x < length has → home_of ps e ≡ x →
      ((d : ℕ) → is_do ps d ≡ true → at has d ≡ one (has_at ps ds d)) → (d : ℕ) → is_do ps d ≡ true →
      at (set has x 1) d ≡ one (has_at ps (e ∷ ds) d)
  unfolding has_at
  has_more ds e has x l k p d h = ⊎_elim
      (λ (z : d ≡ x). rw (z, k, eq-eqb x x refl) (entry_here has x 1 l))
      (λ (z : d ≡ x → ⊥). rw (k, ne_eqb x d (λ y. z (sym y))) (entry_elsewhere has x 1 d z ∙ p d h))
      (eq_or d x)

  module _
      {reach back has : List ℕ} (room : LinesRoom reach back has) {ds : List Dep}
      (p : Collected ps ds heights reach back has) {e : Dep}
    where
      pub line_entered :
          {x : ℕ} → Line ps e → x ≡ owner_from (suc e.s) e.t ps →
          Collected ps (e ∷ ds) heights
          (set reach (cell heights x (e.s + 1)) (min e.t (at reach (cell heights x (e.s + 1))))) back (set has x 1)
      unfolding reach_of back_of
      line_entered {x} f x_is =
          record {
            reach_is =
                ends_lowered (starts_at ps) ds e reach room.reach_room x (e.s + 1) o.loop
                (omega (arith, o.below)) (omega (arith, o.holds, f.forward)) hit once p.reach_is;
            back_is = ends_kept ps heights (leaves_at ps) ds e back (λ d q. rw f.kind_is) p.back_is;
            has_is = has_more ds e has x (omega (arith, (line_there f x_is).0, room.has_room)) home_is p.has_is;
          }
        where
          o : Owner ps (suc e.s) e.t x
          o = line_home f x_is

          home_is : home_of ps e ≡ x
          home_is = rw f.kind_is (sym x_is)

          hit : starts_at ps x (e.s + 1) e ≡ true
          hit =
              and_intro (eq-eqb e.kind INDEPENDENT f.kind_is)
              (and_intro (eq-eqb (home_of ps e) x home_is) (eq-eqb (suc e.s) (e.s + 1) (omega arith)))

          once : (d q : ℕ) → starts_at ps d q e ≡ true → (d ≡ x) × (q ≡ e.s + 1)
          once d q h =
              let y = and_true (eqb e.kind INDEPENDENT) (eqb (home_of ps e) d && eqb (suc e.s) q) h in
              let z = and_true (eqb (home_of ps e) d) (eqb (suc e.s) q) y.1 in
              (sym (eqb-true (home_of ps e) d z.0) ∙ home_is, omega (arith, eqb-true (suc e.s) q z.1))

      pub back_entered :
          Back ps e →
          Collected ps (e ∷ ds) heights reach
          (set back (cell heights e.d e.s) (min e.t (at back (cell heights e.d e.s)))) (set has e.d 1)
      unfolding reach_of back_of
      back_entered f =
          record {
            reach_is = ends_kept ps heights (starts_at ps) ds e reach (λ d q. rw f.kind_is) p.reach_is;
            back_is =
                ends_lowered (leaves_at ps) ds e back room.limit_room e.d e.s f.loop f.source_after
                (omega (arith, f.source_before)) hit once p.back_is;
            has_is = has_more ds e has e.d (omega (arith, (back_there f).0, room.has_room)) home_is p.has_is;
          }
        where
          home_is : home_of ps e ≡ e.d
          home_is = rw f.kind_is

          hit : leaves_at ps e.d e.s e ≡ true
          hit = rw f.kind_is (and_intro (eq-eqb e.d e.d refl) (eq-eqb e.s e.s refl))

          once : (d q : ℕ) → leaves_at ps d q e ≡ true → (d ≡ e.d) × (q ≡ e.s)
          once d q h =
              let y = and_true (not (eqb e.kind INDEPENDENT)) (eqb (home_of ps e) d && eqb e.s q) h in
              let z = and_true (eqb (home_of ps e) d) (eqb e.s q) y.1 in
              (sym (eqb-true (home_of ps e) d z.0) ∙ home_is, sym (eqb-true e.s q z.1))
