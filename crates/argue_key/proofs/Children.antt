-- What the claims known say of a child, as its row does: the claim that leads into it, and what is out before its
-- front, and behind a gap from which on it has none.
-- Main definition: `Inner`. Main statement: `kid_says`.
use mathlib.Core.Path.{◌≡◌, refl, sym, ◌∙◌}
use mathlib.Core.Bool.{true, ◌&&◌}
use mathlib.Core.List.{List}
use mathlib.Core.Logic.{inl, ⊎_elim}
use Prim.Native.Nat.{ℕ, zero, suc, ◌≤◌, ◌<◌}
use native.Mathlib.Omega.{arith}
use lib.Dec.{eqb, leb}
use lib.ListN.{length}
use borrow.Author.Tests.{eq-eqb, lt-ltb, le-leb}
use Rattle.laws.proofs.Tests.{le_or, and_intro, or_left, or_right}
use Rattle.laws.proofs.Members.{among_front, among_back}
use Rattle.paper_nests.specs.Nests.{Dep, Nest}
use Rattle.paper_nests.specs.Loops.{is_do, end_of, owner_of, is_around, in_loop}
use Rattle.paper_nests.proofs.Loops.{inside_by}
use Rattle.paper_placements.specs.Placements.{loop_count}
use Rattle.plan_method.specs.Sweep.{Tables, IsTable}
use Rattle.plan_method.specs.Home.{loops_in, lines_in}
use Rattle.plan_method.proofs.World.{Lawful, Inside, Owner}
use Rattle.plan_method.proofs.Walk.{AtChild}
use Rattle.plan_method.proofs.Claim.{Hit, Laid, Leads}
use Rattle.plan_method.proofs.Theorem as PT
use Rattle.plan_method.proofs.Instance.{world_of, AllFit}
use Rattle.argue_claims.specs.Arguments.{Claim, Known, Fact, claim, known_at, is_out}
use Rattle.argue_key.specs.Laps.{before, head, lead_in}
use Rattle.argue_key.specs.Laps.{row_heads}
use Rattle.argue_key.proofs.Traces.{KidSays}
use Rattle.argue_key.proofs.Heads.{left_low, left_high}
use Rattle.argue_key.proofs.Known.{Match, Kn, Found, found, known-out, out_known, out_zero}
use Rattle.argue_key.proofs.HeadLists.{LoopKnown, up_heads, side_in, RowIn, row_in}

module _
    (n : Nest) (key : List ℕ) (laws : Lawful (world_of n.points n.deps) (lines_in n.points n.deps))
    (fit : AllFit n.points n.deps) (T : Tables)
    (table : IsTable (loops_in n.points) (lines_in n.points n.deps) T)
    (costs : (m : ℕ) → is_do n.points m ≡ true → loop_count n key m ≡ T.cost m) where
  abbrev ps : List ℕ
  ps = n.points

  abbrev ds : List Dep
  ds = n.deps

  -- every loop strictly inside d that has claims has them known
  abbrev pub Inner : ℕ → List Known → Type 0
  Inner d ks = (l : ℕ) → d < l → LoopKnown n key laws fit T table costs l ks

  module _ (d : ℕ) (is-do : is_do ps d ≡ true) (cs : List Claim) (ks : List Known) (match : Match cs ks)
      (inner : Inner d ks)
      (p l : ℕ) (at : AtChild (loops_in ps) d p l) where
    loop : is_do ps l ≡ true
    loop = at.child.is-do

    ends : end_of ps l ≡ p
    ends = at.child.ends

    pos : 0 < l
    pos = omega (arith, at.child.below)

    in-loop : in_loop ps d l ≡ true
    in-loop = inside_by ps d l at.child.below (omega (arith, at.short, at.high))

    around : (g : ℕ) → l < g → g ≤ end_of ps l → is_around ps g l ≡ true
    around g a b = and_intro (lt-ltb l g a) (le-leb g (end_of ps l) b)

    upto_known : suc l < T.left l (suc l) → Kn ks l 0 (before (T.left l (suc l)))
    upto_known b = inner l at.child.below (head l 0 (before (T.left l (suc l))))
        (side_in n key laws fit T table costs l loop (omega (arith, b)) (head l 0 (before (T.left l (suc l)))) pos
        (among_front (head l 0 (before (T.left l (suc l)))) (up_heads n key laws fit T table costs l)
        (row_heads T l (end_of ps l))
        (rw (lt-ltb (suc l) (T.left l (suc l)) b) (inl refl))))

    record RowKnown (a : ℕ) : Type 0 where
      first : ℕ
      low : l < first
      high : first ≤ a
      same : T.left l first ≡ T.left l a
      kn : Kn ks l first (before (T.left l first))

    row_known : 0 < T.left l (suc l) → (a : ℕ) → l < a → a ≤ end_of ps l → (T.left l a ≡ suc l → ⊥) → RowKnown a
    row_known b a u w ne = go (row_in n key laws fit T table costs l a (end_of ps l) u w ne)
      where
        go : RowIn n key laws fit T table costs l a (end_of ps l) → RowKnown a
        go r = record {
          first = r.at;
          low = r.low;
          high = r.high;
          same = r.same;
          kn =
              inner l at.child.below (head l r.at (before (T.left l r.at)))
              (side_in n key laws fit T table costs l loop b (head l r.at (before (T.left l r.at))) pos
              (among_back (head l r.at (before (T.left l r.at))) (up_heads n key laws fit T table costs l)
              (row_heads T l (end_of ps l))
              r.among));
        }

    -- a loop with no front has no barriers in and at it
    idle : T.left l (suc l) ≡ 0 → (fs : List Fact) (g : ℕ) → l < g → g ≤ end_of ps l → is_out n key d ks fs g ≡ true
    idle z fs g a b =
        let o : Owner (loops_in ps) l g = laws.of-loops.owner l g loop a b in
        let i : Inside (loops_in ps) l (owner_of ps g) =
        record { is-do = o.is-do; from = o.from; below = omega (arith, o.below, b) } in
        out_zero n key d ks fs g (λ y. omega (arith, y, o.from, at.child.below))
        (costs (owner_of ps g) o.is-do ∙
        ((PT.claim (world_of ps ds) (lines_in ps ds) laws T table l loop).empty z (owner_of ps g) i).free)

    -- a front for some q is one for all
    there : (a : ℕ) → l < a → a ≤ end_of ps l → 0 < T.left l a → 0 < T.left l (suc l)
    there a u w h = ⊎_elim
        (λ (z : T.left l (suc l) ≤ 0). absurd (none (omega (arith, z))))
        (λ (z : 0 < T.left l (suc l)). z) (le_or (T.left l (suc l)) 0)
      where
        none : T.left l (suc l) ≡ 0 → ⊥
        none z = some_none ((PT.claim (world_of ps ds) (lines_in ps ds) laws T table l loop).attained a u w h) z
          where
            some_none : Laid (world_of ps ds) T l a (T.lay l a) → T.left l (suc l) ≡ 0 → ⊥
            some_none x y =
                let i : Hit (T.lay l a) (suc l) (end_of ps l) = record {
                  gap = T.left l a;
                  low = x.low (T.left l a) x.holds;
                  high = x.high (T.left l a) x.holds;
                  holds = x.holds;
                } in
                let r : Leads (world_of ps ds) T l (suc l) (T.lay l a) =
                (PT.claim (world_of ps ds) (lines_in ps ds) laws T table l loop).leftmost (T.lay l a) (suc l) x.best
                (omega arith) i in
                omega (arith, r.there, y)

    lead_found : (b : ℕ) → l < b → b ≤ end_of ps l → suc l < T.left l b → Found ks l b (T.left l b) (lead_in T cs l b)
    lead_found b u w h = go (row_known (there b u w (omega (arith, h))) b u w (λ z. omega (arith, z, h)))
      where
        go : RowKnown b → Found ks l b (T.left l b) (lead_in T cs l b)
        go r =
            let x : Kn ks l r.first (before (T.left l r.first)) = r.kn in
            let y : suc x.known.upto ≡ T.left l r.first =
            suc_before (T.left l r.first) x.known.upto x.upto_is (omega (arith, h, r.same)) in
            found cs ks match l b (T.left l b) x.known x.among x.loop_is (omega (arith, x.from_is, r.low))
            (omega (arith, x.from_is, r.high)) (y ∙ r.same)
          where
            suc_before : (m u : ℕ) → u ≡ before m → 0 < m → suc u ≡ m
            suc_before zero u h p = absurd (omega arith)
            suc_before (suc m) u h p = omega (arith, h)

    pub kid_says : KidSays n key d ks T (lead_in T cs) l
    kid_says =
        record {
          high = λ b u w. left_high n key laws fit T table costs l b loop u w;
          low = λ b u w h. left_low n key laws fit T table costs l b loop u w h;
          led = λ b u w h. (let f = lead_found b u w h in
              let e : T.left l b ≡ suc (known_at ks (lead_in T cs l b)).upto = sym f.upto_is in
              let j : in_loop ps d (known_at ks (lead_in T cs l b)).loop ≡ true = rw f.loop_is in-loop in
              and_intro (lt-ltb (lead_in T cs l b) (length ks) f.short)
              (and_intro j
              (and_intro (lt-ltb 0 (known_at ks (lead_in T cs l b)).from f.from_low)
              (lt-ltb 0 (known_at ks (lead_in T cs l b)).upto (omega (arith, e, h, pos))))));
          loop = λ b u w h. (lead_found b u w h).loop_is;
          from = λ b u w h. (lead_found b u w h).from_high;
          upto = λ b u w h. (lead_found b u w h).upto_is;
          none_from = λ fs b g u w v z. ⊎_elim
              (λ (y : T.left l (suc l) ≤ 0). idle (omega (arith, y)) fs g (omega (arith, u, w)) v)
              (λ (y : 0 < T.left l (suc l)). by_from fs b g u w v z
              (row_known y b u (omega (arith, w, v)) (λ o. omega (arith, o, z))))
              (le_or (T.left l (suc l)) 0);
          none_upto = λ fs g u w z. ⊎_elim
              (λ (y : T.left l (suc l) ≤ 0). idle (omega (arith, y)) fs g u w)
              (λ (y : 0 < T.left l (suc l)). ⊎_elim
              (λ (v : T.left l (suc l) ≡ 0). absurd (omega (arith, v, y)))
              (λ (v : g < T.left l (suc l)). by_upto fs g u w v (upto_known (omega (arith, u, v)))) z)
              (le_or (T.left l (suc l)) 0);
        }
      where
        by_from : (fs : List Fact) (b g : ℕ) → l < b → b ≤ g → g ≤ end_of ps l → T.left l b ≡ 0 →
            RowKnown b → is_out n key d ks fs g ≡ true
        by_from fs b g u w v z r =
            let x : Kn ks l r.first (before (T.left l r.first)) = r.kn in
            let e : before (T.left l r.first) ≡ 0 = rw (r.same ∙ z) in
            out_known n key d ks fs g (known-out n key d ks x.known g x.among (rw x.loop_is in-loop)
            (rw x.loop_is (around g (omega (arith, u, w)) v))
            (or_right (eqb x.known.from 0 && leb g x.known.upto)
            (or_left _ (and_intro (eq-eqb x.known.upto 0 (x.upto_is ∙ e))
            (and_intro (lt-ltb 0 x.known.from (omega (arith, x.from_is, r.low)))
            (le-leb x.known.from g (omega (arith, x.from_is, r.high, w))))))))

        less : (m g : ℕ) → g < m → g ≤ before m
        less zero g h = absurd (omega arith)
        less (suc m) g h = omega (arith, h)

        by_upto : (fs : List Fact) (g : ℕ) → l < g → g ≤ end_of ps l → g < T.left l (suc l) →
            Kn ks l 0 (before (T.left l (suc l))) → is_out n key d ks fs g ≡ true
        by_upto fs g u w v x =
            out_known n key d ks fs g (known-out n key d ks x.known g x.among (rw x.loop_is in-loop)
            (rw x.loop_is (around g u w))
            (or_left _ (and_intro (eq-eqb x.known.from 0 x.from_is)
            (le-leb g x.known.upto (omega (arith, x.upto_is, less (T.left l (suc l)) g v))))))
