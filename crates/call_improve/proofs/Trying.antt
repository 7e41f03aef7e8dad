-- A try as the code makes it: from the lowest gap on, the chain of each barrier is gone through until a dependence is
-- found that nothing kept so far cuts; then the barrier is kept.
-- Main statements: `Trying`, what a turn keeps; `Trying-start`, `trying_cut`, `trying_kept`, `trying_next`,
-- `trying_done`.
use mathlib.Core.Path.{◌≡◌, refl, sym, ◌∙◌}
use mathlib.Core.Bool.{true, false}
use mathlib.Core.List.{List, [], ◌∷◌}
use mathlib.Core.Logic.{◌⊎◌, inl, inr, ⊎_elim}
use Prim.Native.Nat.{ℕ, zero, suc, ◌+◌, ◌≤◌, ◌<◌}
use native.Mathlib.Omega.{arith}
use lib.Dec.{eqb}
use lib.ListN.{length, get_or, drop}
use borrow.Author.Tests.{eq-eqb, ne_eqb}
use Rattle.laws.specs.Choice.{is_in}
use Rattle.laws.specs.Members.{Among}
use Rattle.laws.proofs.Tests.{le_or, eq_or, false_by, never_both, or_right}
use Rattle.paper_nests.specs.Nests.{Dep, Nest}
use Rattle.paper_placements.specs.Placements.{cuts, are_gaps}
use Rattle.paper_placements.specs.GapLists.{with_gap}
use Rattle.paper_placements.proofs.Cuts.{CutBy, cut_has_gap, gap_cuts, AllCut}
use Rattle.paper_placements.proofs.Rising.{rising_in}
use Rattle.paper_placements.proofs.GapLists.{in_with, rising_with}
use Rattle.run_count.specs.Times.{sum_in}
use Rattle.run_count.proofs.Summing.{calls_with}
use Rattle.call_improve.specs.Tries.{try_at}
use Rattle.call_improve.specs.Tops.{top_at, NextOf}
use Rattle.call_improve.proofs.TopLaws.{Top, top_there, top-at}
use Rattle.call_improve.proofs.Trimmed.{Needed, one_trimmed, try_gaps, try_trimmed}

-- dependence j stands at its place
abbrev pub At : List Dep → ℕ → Dep → Type 0
At ds j e = drop j ds ≡ e ∷ drop (suc j) ds

-- the chains of the barriers below h are done, and of h's chain what comes before dependence i; y is what is kept
pub record Trying (n : Nest) (x : List ℕ) (g : ℕ) (table : List ℕ) (h i : ℕ) (y : List ℕ) (calls : ℕ) : Type 0 where
  pub inside : h < length n.points
  pub within : i ≤ length n.deps
  pub in_chain : i < length n.deps → top_at n.points n.deps x i ≡ h
  pub gaps : are_gaps n y ≡ true
  pub new : is_in g y ≡ true
  pub old : (k : ℕ) → is_in k y ≡ true → (k ≡ g → ⊥) → (is_in k x ≡ true) × (k ≤ h)
  pub needed : (k : ℕ) → is_in k y ≡ true → (k ≡ g → ⊥) → Needed n.points n.deps x g y k
  pub done
      : (j : ℕ) (e : Dep)
      → At n.deps j e
      → (top_at n.points n.deps x j < h) ⊎ ((top_at n.points n.deps x j ≡ h) × (j < i))
      → cuts n.points e y ≡ true
  pub calls_are : calls ≡ sum_in table y

-- a member has a place, and a place is below the length
at_place : (ds : List Dep) (e : Dep) → Among e ds → (j : ℕ) × (j < length ds) × At ds j e
at_place [] e a = absurd a
at_place (d ∷ ds) e a =
    ⊎_elim
    (λ (z : e ≡ d). (0, omega arith, rw z refl))
    (λ (z : Among e ds). let p = at_place ds e z in (suc p.0, omega (arith, p.1), p.2))
    a

at_below : (ds : List Dep) (j : ℕ) (e : Dep) → At ds j e → j < length ds
at_below [] zero e q = let z : ◌≡◌ {A = ℕ} 0 1 = cc q in absurd (omega arith)
at_below [] (suc j) e q = let z : ◌≡◌ {A = ℕ} 0 1 = cc q in absurd (omega arith)
at_below (d ∷ ds) zero e q = omega arith
at_below (d ∷ ds) (suc j) e q = omega (arith, at_below ds j e q)

at_among : (ds : List Dep) (j : ℕ) (e : Dep) → At ds j e → Among e ds
at_among [] zero e q = let z : ◌≡◌ {A = ℕ} 0 1 = cc q in absurd (omega arith)
at_among [] (suc j) e q = let z : ◌≡◌ {A = ℕ} 0 1 = cc q in absurd (omega arith)
at_among (d ∷ ds) zero e q = inl (cc q)
at_among (d ∷ ds) (suc j) e q = inr (at_among ds j e q)

-- a gap more cuts no less
cuts_with : (ps : List ℕ) (e : Dep) (g : ℕ) (y : List ℕ) → cuts ps e y ≡ true → cuts ps e (with_gap g y) ≡ true
cuts_with ps e g y h = go (cut_has_gap ps e y h)
  where
    go : CutBy ps e y → cuts ps e (with_gap g y) ≡ true
    go c =
        gap_cuts ps e (with_gap g y) c.gap (in_with g c.gap y ∙ or_right (eqb c.gap g) c.placed) c.its

module _
    (n : Nest) (x : List ℕ) (gaps : are_gaps n x ≡ true) (cut : AllCut n.points n.deps x) (g : ℕ)
    (free : is_in g x ≡ false) (some : 0 < g) (inside : g < length n.points)
  where
    abbrev ps : List ℕ
    ps = n.points

    abbrev ds : List Dep
    ds = n.deps

    abbrev top : ℕ → ℕ
    top = top_at ps ds x

    -- each dependence has its highest barrier
    top_of : (j : ℕ) (e : Dep) → At ds j e → Top ps e x (top j)
    top_of j e q =
        rw (top-at ps ds x j e (drop (suc j) ds) q)
        (top_there ps e (length ps) x gaps (cut e (at_among ds j e q)))

    -- it is a gap of the nest
    top_in : (j : ℕ) (e : Dep) → At ds j e → (0 < top j) × (top j < length ps)
    top_in j e q = rising_in 0 (length ps) x (top j) gaps (top_of j e q).placed

    -- the new barrier is none of x
    not_new : (k : ℕ) → is_in k x ≡ true → (k ≡ g → ⊥)
    not_new k p z = never_both p (rw z free)

    pub Trying-start
        : (table : List ℕ) (i : ℕ)
        → i ≡ length ds
        → Trying n x g table 0 i (g ∷ []) (get_or table g 0)
    Trying-start table i e =
        record {
          inside = omega arith;
          within = omega arith;
          in_chain = λ z. absurd (omega arith);
          gaps = rising_with 0 (length ps) g [] refl some inside refl;
          new = rw (eq-eqb g g refl);
          old = λ k p q. never_both p (only k q);
          needed = λ k p q. never_both p (only k q);
          done =
              λ j d q z.
              ⊎_elim
              (λ (y : top j < 0). absurd (omega arith))
              (λ (y : (top j ≡ 0) × (j < i)). absurd (omega (arith, (top_in j d q).0, y.0)))
              z;
          calls_are = omega arith;
        }
      where
        only : (k : ℕ) → (k ≡ g → ⊥) → is_in k (g ∷ []) ≡ false
        only k q = rw (ne_eqb k g q)

    module _ {table : List ℕ} {h i : ℕ} {y : List ℕ} {calls : ℕ} (t : Trying n x g table h i y calls) where
      -- ---- in a chain

      module _ (e : Dep) (here : At ds i e) where
        is_h : top i ≡ h
        is_h = t.in_chain (at_below ds i e here)

        -- it is cut: on to the next of the chain
        pub trying_cut
            : (r : ℕ)
            → NextOf top (length ds) (suc i) (top i) r
            → cuts ps e y ≡ true
            → Trying n x g table h r y calls
        trying_cut r next c =
            record {
              inside = t.inside;
              within = next.fits;
              in_chain = λ z. (next.found z).1 ∙ is_h;
              gaps = t.gaps;
              new = t.new;
              old = t.old;
              needed = t.needed;
              done = λ j d q z. ⊎_elim (λ (u : top j < h). t.done j d q (inl u)) (chain j d q) z;
              calls_are = t.calls_are;
            }
          where
            chain : (j : ℕ) (d : Dep) → At ds j d → (top j ≡ h) × (j < r) → cuts ps d y ≡ true
            chain j d q u =
                ⊎_elim
                (λ (a : suc j ≤ i). t.done j d q (inr (u.0, a)))
                (λ (a : i < suc j).
                ⊎_elim
                (λ (b : suc i ≤ j). absurd (next.none j b u.1 (u.0 ∙ sym is_h)))
                (λ (b : j < suc i).
                let f : j ≡ i = omega arith in
                let k : At ds i d = rw f at q in
                let s : d ≡ e = cc (k, here) in
                rw s c)
                (le_or (suc i) j))
                (le_or (suc j) i)

        -- it is not: the barrier is needed
        module _ (miss : cuts ps e y ≡ false) where
          top_h : Top ps e x h
          top_h = rw is_h at (top_of i e here)

          pub kept_new : is_in h y ≡ false
          kept_new = false_by (λ z. never_both (gap_cuts ps e y h z top_h.has) miss)

          pub kept_gaps : are_gaps n (with_gap h y) ≡ true
          kept_gaps =
              let r = rising_in 0 (length ps) x h gaps top_h.placed in
              rising_with 0 (length ps) h y t.gaps r.0 r.1 kept_new

          in_kept : (k : ℕ) → (k ≡ h → ⊥) → is_in k (with_gap h y) ≡ true → is_in k y ≡ true
          in_kept k q p = sym (in_with h k y ∙ rw (ne_eqb k h q)) ∙ p

          kept_needed
              : (k : ℕ)
              → is_in k (with_gap h y) ≡ true
              → (k ≡ g → ⊥)
              → Needed ps ds x g (with_gap h y) k
          kept_needed k p q =
              ⊎_elim
              (λ (z : k ≡ h).
              rw z
              (record {
                by = e;
                among = at_among ds i e here;
                top = top_h;
                alone =
                    λ m a b.
                    ⊎_elim
                    (λ (u : m ≡ h). (λ v. not_new h top_h.placed (sym u ∙ v), omega arith))
                    (λ (u : m ≡ h → ⊥). never_both (gap_cuts ps e y m (in_kept m u a) b) miss)
                    (eq_or m h);
              }))
              (λ (z : k ≡ h → ⊥). before z (t.needed k (in_kept k z p) q))
              (eq_or k h)
            where
              before : (k ≡ h → ⊥) → Needed ps ds x g y k → Needed ps ds x g (with_gap h y) k
              before z w =
                  record {
                    by = w.by;
                    among = w.among;
                    top = w.top;
                    alone =
                        λ m a b.
                        ⊎_elim
                        (λ (u : m ≡ h). (
                          λ v. not_new h top_h.placed (sym u ∙ v),
                          omega (arith, (t.old k (in_kept k z p) q).1),
                        ))
                        (λ (u : m ≡ h → ⊥). w.alone m (in_kept m u a) b)
                        (eq_or m h);
                  }

          pub trying_kept
              : (r : ℕ)
              → r ≡ length ds
              → Trying n x g table h r (with_gap h y) (calls + get_or table h 0)
          trying_kept r z =
              record {
                inside = t.inside;
                within = omega arith;
                in_chain = λ u. absurd (omega arith);
                gaps = kept_gaps;
                new = in_with h g y ∙ or_right (eqb g h) t.new;
                old =
                    λ k p q.
                    ⊎_elim
                    (λ (u : k ≡ h). (rw u top_h.placed, omega arith))
                    (λ (u : k ≡ h → ⊥). t.old k (in_kept k u p) q)
                    (eq_or k h);
                needed = kept_needed;
                done =
                    λ j d q u.
                    ⊎_elim
                    (λ (v : top j < h). cuts_with ps d h y (t.done j d q (inl v)))
                    (λ (v : (top j ≡ h) × (j < r)).
                    gap_cuts ps d (with_gap h y) h
                    (in_with h h y ∙ rw (eq-eqb h h refl))
                    (rw v.0 at (top_of j d q).has))
                    u;
                calls_are = omega (arith, t.calls_are, calls_with table h y);
              }

      -- ---- at a chain's end

      module _ (ended : length ds ≤ i) where
        done_to : (j : ℕ) (d : Dep) → At ds j d → top j ≤ h → cuts ps d y ≡ true
        done_to j d q l =
            ⊎_elim
            (λ (z : suc (top j) ≤ h). t.done j d q (inl z))
            (λ (z : h < suc (top j)). t.done j d q (inr (omega arith, omega (arith, at_below ds j d q))))
            (le_or (suc (top j)) h)

        -- the next gap
        pub trying_next
            : (r : ℕ)
            → h + 1 < length ps
            → NextOf top (length ds) 0 (h + 1) r
            → Trying n x g table (h + 1) r y calls
        trying_next r l first =
            record {
              inside = l;
              within = first.fits;
              in_chain = λ z. (first.found z).1;
              gaps = t.gaps;
              new = t.new;
              old = λ k p q. let o = t.old k p q in (o.0, omega (arith, o.1));
              needed = t.needed;
              done =
                  λ j d q z.
                  ⊎_elim
                  (λ (u : top j < h + 1). done_to j d q (omega arith))
                  (λ (u : (top j ≡ h + 1) × (j < r)). absurd (first.none j (omega arith) u.1 u.0))
                  z;
              calls_are = t.calls_are;
            }

        -- no gap is left
        pub trying_done : length ps ≤ h + 1 → y ≡ try_at n x g
        trying_done l =
            one_trimmed ps ds x g (length ps) y (try_at n x g)
            t.gaps
            (try_gaps n x g gaps cut free some inside)
            (record {
              new = t.new;
              old = λ k p q. (t.old k p q).0;
              cut = λ e a. all e (at_place ds e a);
              needed = t.needed;
            })
            (try_trimmed n x g gaps cut free some inside)
          where
            all : (e : Dep) → (j : ℕ) × (j < length ds) × At ds j e → cuts ps e y ≡ true
            all e p = done_to p.0 e p.2 (omega (arith, (top_in p.0 e p.2).1))
