-- All gaps of a dependence are barred exactly if no rank rises along them: of an independent one from s to t, of a
-- carried one from the DO to t and from s to the ENDDO.
-- Main statement: `shut_ranked`.
use mathlib.Core.Path.{◌≡◌, refl, sym, ◌∙◌}
use mathlib.Core.Bool.{Bool, true, false, ◌&&◌}
use mathlib.Core.List.{List}
use mathlib.Core.Logic.{inl, inr, ⊎_elim}
use Prim.Native.Nat.{ℕ, suc, ◌-◌, ◌≤◌, ◌<◌}
use native.Mathlib.Omega.{arith}
use lib.Dec.{eqb}
use lib.ListN.{length}
use borrow.Author.Tests.{eqb-false, ne_eqb}
use Rattle.laws.proofs.Connectives.{and_off}
use Rattle.laws.proofs.Tests.{and_false, true_by, lt_by}
use Rattle.paper_nests.specs.Nests.{Dep}
use Rattle.paper_nests.specs.Loops.{end_of}
use Rattle.paper_nests.specs.Ring.{one_loop}
use Rattle.paper_nests.specs.Valid.{is_shape}
use Rattle.paper_nests.proofs.Deps.{Line, Back, Fits, line_gap, gap_of_line, back_gap, gap_before_target, gap_after_source}
use Rattle.paper_nests.proofs.Loops.{outermost}
use Rattle.paper_nests.proofs.Ring.{one_loop_is_first}
use Rattle.paper_placements.specs.Placements.{is_free}
use Rattle.paper_barred.specs.Ranks.{rank}
use Rattle.paper_barred.specs.Reduced.{is_shut}
use Rattle.paper_barred.proofs.Ranks.{rank_monotone, rank_of_free, rank_first, rank_found}
use Rattle.paper_barred.proofs.Reduced.{Open, open_there, open_by}
use Rattle.plan_paper.specs.Renumbering.{is_shut_at}

-- a test that fails exactly where a gap is open
shut_by
    : (ps bs : List ℕ) (e : Dep) (b : Bool)
    → (b ≡ false → Open ps bs e)
    → (Open ps bs e → b ≡ false)
    → is_shut ps bs e ≡ b
shut_by ps bs e true f g = true_by (λ z. absurd (off (g (open_there ps bs e z))))
  where
    off : true ≡ false → ⊥
    off z = let y : ◌≡◌ {A = ℕ} 0 1 = cc z in absurd (omega arith)
shut_by ps bs e false f g = open_by ps bs e (f refl)

module _ (bs : List ℕ) where
  -- where the rank rises there is an unbarred gap between
  pub record Between (a b : ℕ) : Type 0 where
    pub gap : ℕ
    pub above : a < gap
    pub below : gap ≤ b
    pub free : is_free bs gap ≡ true

  rising_between : (a b : ℕ) → rank bs a < rank bs b → Between a b
  rising_between a b l =
      let r = rank_found bs b (suc (rank bs a)) (omega arith) (omega arith) in
      record {
        gap = r.gap;
        above = lt_by (λ z. omega (arith, r.rank_is, rank_monotone bs r.gap a z));
        below = r.last;
        free = r.free;
      }

module _
    (ps bs : List ℕ) (e : Dep)
    (shape : is_shape ps ≡ true) (one : one_loop ps ≡ true) where
  abbrev top : ℕ
  top = rank bs (length ps - 1)

  line_shut : Line ps e → is_shut ps bs e ≡ eqb (rank bs e.s) (rank bs e.t)
  line_shut line =
      shut_by ps bs e (eqb (rank bs e.s) (rank bs e.t))
      (λ h.
      let n = eqb-false (rank bs e.s) (rank bs e.t) h in
      let m = rank_monotone bs e.s e.t (omega (arith, line.forward)) in
      let g = rising_between bs e.s e.t (omega (arith, n)) in
      record {
        gap = g.gap;
        first = omega (arith, g.above);
        last = omega (arith, g.below, line.target_there);
        its = gap_of_line ps e g.gap line.kind_is g.above g.below;
        free = g.free;
      })
      (λ o.
      let g = line_gap ps e o.gap line.kind_is o.its in
      let a = rank_of_free bs o.gap e.s o.free g.0 in
      let b = rank_monotone bs o.gap e.t g.1 in
      ne_eqb (rank bs e.s) (rank bs e.t) (λ z. omega arith))

  module _ (back : Back ps e) where
    first_loop : e.d ≡ 0
    first_loop = one_loop_is_first ps one e.d back.loop

    end : end_of ps e.d ≡ length ps - 1
    end = rw first_loop (omega (arith, outermost ps shape))

    back_shut : is_shut ps bs e ≡ (eqb (rank bs e.t) 0 && eqb (rank bs e.s) (rank bs (length ps - 1)))
    back_shut = shut_by ps bs e (eqb (rank bs e.t) 0 && eqb (rank bs e.s) top) opened shut
      where
        before : eqb (rank bs e.t) 0 ≡ false → Open ps bs e
        before h =
            let n = eqb-false (rank bs e.t) 0 h in
            let r = rank_found bs e.t (rank bs e.t) (omega (arith, n)) (omega arith) in
            record {
              gap = r.gap;
              first = r.first;
              last = omega (arith, r.last, back.target_before, end);
              its = gap_before_target ps e r.gap back.kind_is (omega (arith, first_loop, r.first)) r.last;
              free = r.free;
            }

        after : eqb (rank bs e.s) (rank bs (length ps - 1)) ≡ false → Open ps bs e
        after h =
            let n = eqb-false (rank bs e.s) top h in
            let m = rank_monotone bs e.s (length ps - 1) (omega (arith, back.source_before, end)) in
            let g = rising_between bs e.s (length ps - 1) (omega (arith, n)) in
            record {
              gap = g.gap;
              first = omega (arith, g.above);
              last = g.below;
              its = gap_after_source ps e g.gap back.kind_is g.above (omega (arith, g.below, end));
              free = g.free;
            }

        opened : (eqb (rank bs e.t) 0 && eqb (rank bs e.s) (rank bs (length ps - 1))) ≡ false → Open ps bs e
        opened h = ⊎_elim before after (and_false (eqb (rank bs e.t) 0) (eqb (rank bs e.s) top) h)

        shut : Open ps bs e → (eqb (rank bs e.t) 0 && eqb (rank bs e.s) (rank bs (length ps - 1))) ≡ false
        shut o = ⊎_elim
            (λ (z : (e.d < o.gap) × (o.gap ≤ e.t)).
            let a = rank_first bs o.gap o.free o.first in
            let b = rank_monotone bs o.gap e.t z.1 in
            rw (ne_eqb (rank bs e.t) 0 (λ y. omega arith)) refl)
            (λ (z : (e.s < o.gap) × (o.gap ≤ end_of ps e.d)).
            let a = rank_of_free bs o.gap e.s o.free z.0 in
            let b = rank_monotone bs o.gap (length ps - 1) o.last in
            rw (ne_eqb (rank bs e.s) top (λ y. omega arith)) (and_off (eqb (rank bs e.t) 0)))
            (back_gap ps e o.gap back.kind_is o.its)

  pub shut_ranked
      : Fits ps e
      → is_shut ps bs e ≡ is_shut_at e.kind (rank bs (length ps - 1)) (rank bs e.s) (rank bs e.t)
  shut_ranked (inl line) =
      let k : is_shut_at e.kind top (rank bs e.s) (rank bs e.t) ≡ eqb (rank bs e.s) (rank bs e.t) =
      rw line.kind_is refl in
      line_shut line ∙ sym k
  shut_ranked (inr back) =
      let k : is_shut_at e.kind top (rank bs e.s) (rank bs e.t) ≡
      (eqb (rank bs e.t) 0 && eqb (rank bs e.s) top) =
      rw back.kind_is refl in
      back_shut back ∙ sym k
