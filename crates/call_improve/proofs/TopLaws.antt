-- The highest barrier that cuts a dependence; there is one. From the table of the highest barrier up to each gap: of an
-- independent dependence it is the highest up to its target; of a carried one the highest up to the ENDDO, if that lies
-- behind its source, and else the highest up to its target.
-- Main definition: `Top`. Main statements: `one_top`, `top_is`, `top_there`, `top-at`; `top_of_line`,
-- `top_after_source`, `top_before_target`.
use mathlib.Core.Path.{◌≡◌, refl, sym, ◌∙◌}
use mathlib.Core.Bool.{Bool, true, false, ◌||◌}
use mathlib.Core.List.{List, [], ◌∷◌}
use mathlib.Core.Logic.{⊎_elim}
use Prim.Native.Nat.{ℕ, zero, suc, ◌≤◌, ◌<◌}
use native.Mathlib.Omega.{arith}
use lib.ListN.{get_or, drop}
use Rattle.laws.specs.Choice.{pick, when, between, is_in}
use Rattle.laws.proofs.Tests.{le_or, or-true, or_left, or_right, never, never_both}
use Rattle.laws.proofs.Members.{in_here, in_later, in_cons}
use Rattle.laws.proofs.Ranges.{between_in}
use Rattle.paper_nests.specs.declared.Dependence as DE
use Rattle.paper_nests.specs.Kinds.{INDEPENDENT}
use Rattle.paper_nests.specs.Nests.{Dep}
use Rattle.paper_nests.specs.Gaps.{has_gap}
use Rattle.paper_nests.specs.Stored.{dep_in}
use Rattle.paper_nests.proofs.Deps.{line_gap, gap_of_line}
use Rattle.paper_placements.specs.Placements.{cuts, are_gaps_from}
use Rattle.paper_placements.specs.Words.{GAPS, gaps_in}
use Rattle.paper_placements.proofs.Cuts.{CutBy, cut_has_gap, gap_cuts}
use Rattle.paper_placements.proofs.Rising.{Rises, rises, rising_in}
use Rattle.paper_placements.proofs.Words.{in_gaps}
use Rattle.paper_gaps.specs.Lies.{LiesTo, EndsIn}
use Rattle.paper_gaps.proofs.Lies.{ring_gaps, of_ring}
use Rattle.call_improve.specs.Places.{IsLatest, HasLatest}
use Rattle.call_improve.specs.Tops.{top_of, top_at}

-- of the barriers x, h is the highest that cuts the dependence
pub record Top (ps : List ℕ) (e : Dep) (x : List ℕ) (h : ℕ) : Type 0 where
  pub placed : is_in h x ≡ true
  pub has : has_gap ps e h ≡ true
  pub last : (k : ℕ) → is_in k x ≡ true → has_gap ps e k ≡ true → k ≤ h

pub one_top : {ps : List ℕ} {e : Dep} {x : List ℕ} {h k : ℕ} → Top ps e x h → Top ps e x k → h ≡ k
one_top {ps} {e} {x} {h} {k} a b =
    omega (arith, a.last k b.placed b.has, b.last h a.placed a.has)

module _ (ps : List ℕ) (e : Dep) where
  -- what cuts has a highest gap that cuts
  top_from
      : (low n : ℕ) (x : List ℕ)
      → are_gaps_from low n x ≡ true
      → cuts ps e x ≡ true
      → Top ps e x (top_of ps e x)
  top_from low n [] r h = never h
  top_from low n (g ∷ gs) r h = go (cuts ps e gs) refl h (rises low n g gs r) (top_from g n gs)
    where
      go
          : (t : Bool)
          → cuts ps e gs ≡ t
          → (has_gap ps e g || t) ≡ true
          → Rises low n g gs
          → (are_gaps_from g n gs ≡ true → cuts ps e gs ≡ true → Top ps e gs (top_of ps e gs))
          → Top ps e (g ∷ gs) (pick t (top_of ps e gs) (when (has_gap ps e g) g))
      go true p q up rest = later (rest up.rest p)
        where
          later : Top ps e gs (top_of ps e gs) → Top ps e (g ∷ gs) (top_of ps e gs)
          later t =
              record {
                placed = in_later (top_of ps e gs) g gs t.placed;
                has = t.has;
                last =
                    λ k a b.
                    ⊎_elim
                    (λ (z : k ≡ g). omega (arith, (rising_in g n gs (top_of ps e gs) up.rest t.placed).0))
                    (λ (z : is_in k gs ≡ true). t.last k z b)
                    (in_cons k g gs a);
              }
      go false p q up rest = rw here first
        where
          here : has_gap ps e g ≡ true
          here =
              ⊎_elim (λ (z : has_gap ps e g ≡ true). z) (λ (z : false ≡ true). never z) (or-true (has_gap ps e g) false q)

          first : Top ps e (g ∷ gs) g
          first =
              record {
                placed = in_here g gs;
                has = here;
                last =
                    λ k a b.
                    ⊎_elim
                    (λ (z : k ≡ g). omega arith)
                    (λ (z : is_in k gs ≡ true). never_both (gap_cuts ps e gs k z b) p)
                    (in_cons k g gs a);
              }

  pub top_there : (n : ℕ) (x : List ℕ) → are_gaps_from 0 n x ≡ true → cuts ps e x ≡ true → Top ps e x (top_of ps e x)
  top_there n x = top_from 0 n x

  pub top_is
      : (n : ℕ) (x : List ℕ) (h : ℕ)
      → are_gaps_from 0 n x ≡ true
      → cuts ps e x ≡ true
      → Top ps e x h
      → h ≡ top_of ps e x
  top_is n x h r c t = one_top t (top_there n x r c)

-- that of the dependence in front of the rest
pub top-at
    : (ps : List ℕ) (ds : List Dep) (x : List ℕ) (i : ℕ) (e : Dep) (es : List Dep)
    → drop i ds ≡ e ∷ es
    → top_at ps ds x i ≡ top_of ps e x
top-at ps [] x zero e es q = let z : ◌≡◌ {A = ℕ} 0 1 = cc q in absurd (omega arith)
top-at ps [] x (suc i) e es q = let z : ◌≡◌ {A = ℕ} 0 1 = cc q in absurd (omega arith)
top-at ps (d ∷ ds) x zero e es q = let z : d ≡ e = cc q in rw z
top-at ps (d ∷ ds) x (suc i) e es q = top-at ps ds x i e es q

-- ---- from the table

-- a barrier up to g is at most the highest
latest_most : (ws : List ℕ) (g r k : ℕ) → IsLatest ws g r → g < GAPS → is_in k (gaps_in ws) ≡ true → k ≤ g → k ≤ r
latest_most ws g r k l h p q =
    ⊎_elim
    (λ (z : k ≤ r). z)
    (λ (z : r < k). never_both (sym (in_gaps ws k (omega arith)) ∙ p) (l.none k z q))
    (le_or k r)

module _
    (ps ws table : List ℕ) (has : HasLatest ws table) (e : DE.Dependence)
    (cut : cuts ps (dep_in e) (gaps_in ws) ≡ true)
  where
    by : CutBy ps (dep_in e) (gaps_in ws)
    by = cut_has_gap ps (dep_in e) (gaps_in ws) cut

    -- what the table names is a barrier
    latest_in : (g : ℕ) → g < GAPS → 0 < get_or table g 0 → is_in (get_or table g 0) (gaps_in ws) ≡ true
    latest_in g h p =
        let l = has g h in
        in_gaps ws (get_or table g 0) (omega (arith, l.low)) ∙ l.held p

    -- the highest barrier up to the target
    module _ (t : e.t < GAPS) where
      target_most : (k : ℕ) → is_in k (gaps_in ws) ≡ true → k ≤ e.t → k ≤ get_or table e.t 0
      target_most k = latest_most ws e.t (get_or table e.t 0) k (has e.t t) t

      pub top_of_line : e.kind ≡ INDEPENDENT → Top ps (dep_in e) (gaps_in ws) (get_or table e.t 0)
      top_of_line kind =
          let g = line_gap ps (dep_in e) by.gap kind by.its in
          record {
            placed =
                latest_in e.t t (omega (arith, g.0, target_most by.gap by.placed g.1));
            has =
                gap_of_line ps (dep_in e) (get_or table e.t 0) kind
                (omega (arith, g.0, target_most by.gap by.placed g.1))
                (has e.t t).low;
            last = λ k p q. target_most k p (line_gap ps (dep_in e) k kind q).1;
          }

    module _ (end : ℕ) (lies : LiesTo e end) (ends : EndsIn ps e end) (kind : e.kind ≡ INDEPENDENT → ⊥) where
      end_most : (k : ℕ) → is_in k (gaps_in ws) ≡ true → k ≤ end → k ≤ get_or table end 0
      end_most k =
          let l : end < GAPS = omega (arith, lies.inside kind) in
          latest_most ws end (get_or table end 0) k (has end l) l

      pub top_after_source : e.s < get_or table end 0 → Top ps (dep_in e) (gaps_in ws) (get_or table end 0)
      top_after_source h =
          record {
            placed = latest_in end (omega (arith, lies.inside kind)) (omega arith);
            has =
                ring_gaps ps e end ends kind (get_or table end 0) ∙
                or_right
                (between (suc e.d) (get_or table end 0) e.t)
                (between_in (suc e.s) (get_or table end 0) end h (has end (omega (arith, lies.inside kind))).low);
            last =
                λ k p q.
                ⊎_elim
                (λ (z : (e.d < k) × (k ≤ e.t)). end_most k p (omega (arith, z.1, lies.target_before kind)))
                (λ (z : (e.s < k) × (k ≤ end)). end_most k p z.1)
                (of_ring ps e end ends kind k q);
          }

      pub top_before_target : get_or table end 0 ≤ e.s → Top ps (dep_in e) (gaps_in ws) (get_or table e.t 0)
      top_before_target h =
          record {
            placed =
                let g = lower by.gap by.placed by.its in
                latest_in e.t t (omega (arith, g.0, target_most t by.gap by.placed g.1));
            has =
                let g = lower by.gap by.placed by.its in
                ring_gaps ps e end ends kind r ∙
                or_left
                (between (suc e.s) r end)
                (between_in (suc e.d) r e.t
                (omega (arith, g.0, target_most t by.gap by.placed g.1))
                (has e.t t).low);
            last = λ k p q. target_most t k p (lower k p q).1;
          }
        where
          r : ℕ
          r = get_or table e.t 0

          t : e.t < GAPS
          t = omega (arith, lies.target_before kind, lies.inside kind)

          -- no barrier lies behind the source
          lower
              : (k : ℕ)
              → is_in k (gaps_in ws) ≡ true
              → has_gap ps (dep_in e) k ≡ true
              → (e.d < k) × (k ≤ e.t)
          lower k p q =
              ⊎_elim
              (λ (z : (e.d < k) × (k ≤ e.t)). z)
              (λ (z : (e.s < k) × (k ≤ end)). absurd (omega (arith, z.0, end_most k p z.1)))
              (of_ring ps e end ends kind k q)
