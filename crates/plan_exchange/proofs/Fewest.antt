-- 001, lemma 2: where each loop inside turns at least twice, no placement that cuts every dependence has fewer barrier
-- calls than the planner's. Loops are taken in order of their ENDDO. Where the placement has more gaps of a loop's own
-- than the loop's cost, its barriers in the loop's range are swapped for those that the planner lays there: that saves
-- the price of a barrier of the loop at least, and adds two of the loop around it at most. When all the loops inside
-- the outermost have their costs, the placement is settled, and the outermost has at least its own.
-- Main definition: `Reached`. Main statements: `fewest`, `computed_fewest`, `nest_fewest`.
use mathlib.Core.Path.{◌≡◌, sym, ◌∙◌}
use mathlib.Core.Bool.{Bool, true, false, ◌&&◌}
use mathlib.Core.List.{List}
use mathlib.Core.Logic.{⊎_elim}
use Prim.Native.Nat.{ℕ, zero, suc, ◌+◌, ◌*◌, ◌≤◌, ◌<◌}
use native.Mathlib.Omega.{arith}
use lib.Dec.{eqb}
use lib.ListN.{length}
use borrow.Author.Tests.{eqb-true, eq-eqb}
use Rattle.laws.specs.Members.{Among}
use Rattle.laws.proofs.Tests.{test, never_both, le_or, lt_by, eq_or, and_true, and_intro}
use Rattle.paper_nests.specs.Nests.{Dep}
use Rattle.paper_nests.specs.Loops.{is_do, end_of}
use Rattle.paper_nests.specs.Valid.{is_shape}
use Rattle.paper_nests.proofs.Levels.{starts_with_do, point_in}
use Rattle.paper_nests.proofs.Loops.{end-after, end_in_outermost}
use Rattle.plan_method.specs.Sweep.{Loops, Lines, Tables, IsTable}
use Rattle.plan_method.specs.Plan.{table_of, key_of}
use Rattle.plan_method.specs.Home.{loops_in, lines_in, key_in}
use Rattle.plan_method.proofs.World.{World, Inside, Lawful}
use Rattle.plan_method.proofs.Inside.{inside_self, self_or_inside}
use Rattle.plan_method.proofs.Claim.{count, Sound}
use Rattle.plan_method.proofs.AttainedBody.{Part, part_sound}
use Rattle.plan_method.proofs.Tables.{table_is}
use Rattle.plan_method.proofs.Theorem.{laid, least_at}
use Rattle.plan_method.proofs.Instance.{world_of, AllFit, lawful}
use Rattle.plan_method.proofs.Cuts.{Cut, cuts_sound}
use Rattle.plan_exchange.proofs.Totals.{total_shift}
use Rattle.plan_exchange.proofs.Prices.{Prices, calls_at, calls, more_of, fewer_of, calls_le}
use Rattle.plan_exchange.proofs.Beside.{same_end, inside_or, parent_of, parent_ends}
use Rattle.plan_exchange.proofs.Swap.{swap, swap_sound}
use Rattle.plan_exchange.proofs.SwapCounts.{swap_inside, swap_elsewhere, swap_parent}

-- every loop is d or lies inside d
abbrev pub AllInside : Loops → ℕ → Type 0
AllInside B d = (m : ℕ) → B.is_do m ≡ true → Inside B d m

module _
    (W : World) (N : Lines) (laws : Lawful W N) (T : Tables) (table : IsTable W.loops N T)
    (d : ℕ) (is-do : W.loops.is_do d ≡ true) (all : AllInside W.loops d)
    (price : ℕ → ℕ) (prices : Prices W.loops d price) where
  abbrev B : Loops
  B = W.loops

  abbrev run : (ℕ → Bool) → ℕ
  run x = calls B d price x

  -- a sound placement with the costs at every loop whose ENDDO lies before point p
  record Stands (x : ℕ → Bool) (p : ℕ) : Type 0 where
    sound : Sound W x d
    done : (m : ℕ) → B.is_do m ≡ true → B.stop m < p → count B x m ≡ T.cost m

  -- one such placement has no more calls than y
  record Reached (y : ℕ → Bool) (p : ℕ) : Type 0 where
    x : ℕ → Bool
    stands : Stands x p
    fewer : run x ≤ run y

  -- the loops inside l end before l
  least_here : (x : ℕ → Bool) (l : ℕ) → Inside B d l → Stands x (B.stop l) → T.cost l ≤ count B x l
  least_here x l i s =
      least_at W N laws T table d is-do x l s.sound i
      (λ m j k. s.done m j.is-do (laws.of-loops.nested l m i.is-do j.is-do k (omega (arith, j.below))))

  -- loop l, strictly inside d, has more than its cost
  module _ (x : ℕ → Bool) (l : ℕ) (i : Inside B d l) (strict : d < l) (s : Stands x (B.stop l))
      (more : T.cost l < count B x l) where
    part : Part W T l (T.lay l (suc l))
    part = laid W N laws T table l i.is-do

    abbrev swapped : ℕ → Bool
    swapped = swap B l (T.lay l (suc l)) x

    -- in l and the loops inside it the swap has the costs, at the loops not around it what x has
    inside_cost : (m : ℕ) → Inside B l m → count B swapped m ≡ T.cost m
    inside_cost m j =
        swap_inside B laws.of-loops d l is-do i strict (T.lay l (suc l)) x m j ∙ (part.done m j).exact

    kept : (m : ℕ) → B.is_do m ≡ true → (Inside B l m → ⊥) → (m ≡ B.own l → ⊥) → count B swapped m ≡ count B x m
    kept = swap_elsewhere B laws.of-loops d l is-do i strict (T.lay l (suc l)) x

    done : (m : ℕ) → B.is_do m ≡ true → B.stop m ≤ B.stop l → count B swapped m ≡ T.cost m
    done m h e = ⊎_elim (inside_cost m) out (inside_or B laws.of-loops l m h)
      where
        out : (Inside B l m → ⊥) → count B swapped m ≡ T.cost m
        out u = kept m h u other ∙ s.done m h (omega (arith, e, earlier))
          where
            other : m ≡ B.own l → ⊥
            other z =
                let q : B.stop m ≡ B.stop (B.own l) = rw z in
                omega (arith, parent_ends B laws.of-loops d l is-do i strict)

            earlier : B.stop m ≡ B.stop l → ⊥
            earlier z =
                let q : m ≡ l = same_end B laws.of-loops l m i.is-do h z in
                u (rw q (inside_self B laws.of-loops l i.is-do))

    fewer : run swapped ≤ run x
    unfolding calls
    fewer =
        total_shift (calls_at B price swapped) (calls_at B price x) (B.own l) l (2 * price (B.own l)) (B.stop d)
        (parent_of B laws.of-loops d l is-do i strict).below i.below others at_parent at-loop
      where
        others : (m : ℕ) → (m ≡ B.own l → ⊥) → (m ≡ l → ⊥) → calls_at B price swapped m ≡ calls_at B price x m
        others m p q = ⊎_elim same (λ (z : B.is_do m ≡ false). rw z) (test (B.is_do m))
          where
            same : B.is_do m ≡ true → calls_at B price swapped m ≡ calls_at B price x m
            same h =
                let e : count B swapped m ≡ count B x m =
                ⊎_elim (within h) (λ u. kept m h u p) (inside_or B laws.of-loops l m h) in
                rw (h, e)
              where
                within : B.is_do m ≡ true → Inside B l m → count B swapped m ≡ count B x m
                within h j = inside_cost m j ∙ sym (s.done m h ends)
                  where
                    after : l < m
                    after = omega (arith, q, j.from)

                    ends : B.stop m < B.stop l
                    ends = laws.of-loops.nested l m i.is-do h after (omega (arith, j.below))

        at_parent : calls_at B price swapped (B.own l) ≤ calls_at B price x (B.own l) + 2 * price (B.own l)
        at_parent =
            rw (parent_of B laws.of-loops d l is-do i strict).is-do
            (more_of (count B swapped (B.own l)) (count B x (B.own l)) (price (B.own l))
            (swap_parent B laws.of-loops d l is-do i strict (T.lay l (suc l)) x))

        at-loop : calls_at B price swapped l + 2 * price (B.own l) ≤ calls_at B price x l
        at-loop =
            let e : count B swapped l ≡ T.cost l = inside_cost l (inside_self B laws.of-loops l i.is-do) in
            rw i.is-do
            (fewer_of (count B swapped l) (count B x l) (price l) (2 * price (B.own l)) (omega arith)
            (prices.twice l i strict))

    exchanged : Reached x (suc (B.stop l))
    exchanged =
        record {
          x = swapped;
          stands = record {
            sound = swap_sound W N laws T d l i (T.lay l (suc l)) x (part_sound part) s.sound;
            done = λ m h e. done m h (omega arith);
          };
          fewer = fewer;
        }

  -- one point more: a loop that ends at p has its cost, or is exchanged
  module _ (x : ℕ → Bool) (p : ℕ) (s : Stands x p) where
    -- no loop ends at p
    pass : ((m : ℕ) → B.is_do m ≡ true → B.stop m ≡ p → ⊥) → Stands x (suc p)
    pass none =
        record { sound = s.sound; done = λ m h e. s.done m h (omega (arith, none m h)) }

    -- the loop that ends at p has its cost
    fits : (l : ℕ) → B.is_do l ≡ true → B.stop l ≡ p → count B x l ≡ T.cost l → Stands x (suc p)
    fits l h e c = record { sound = s.sound; done = done }
      where
        done : (m : ℕ) → B.is_do m ≡ true → B.stop m < suc p → count B x m ≡ T.cost m
        done m k u =
            ⊎_elim
            (λ (z : B.stop m ≡ p). (
            let q : m ≡ l = same_end B laws.of-loops l m h k (omega arith) in
            rw q c))
            (λ (z : B.stop m ≡ p → ⊥). s.done m k (omega arith))
            (eq_or (B.stop m) p)

    closes : p < B.stop d → (l : ℕ) → B.is_do l ≡ true → B.stop l ≡ p → Reached x (suc p)
    closes short l h e = ⊎_elim equal above (le_or (count B x l) (T.cost l))
      where
        here : Stands x (B.stop l)
        here = rw e s

        strict : d < l
        strict = lt_by outermost
          where
            outermost : l ≤ d → ⊥
            outermost z =
                let q : l ≡ d = omega (arith, (all l h).from) in
                let t : B.stop l ≡ B.stop d = rw q in
                omega arith

        equal : count B x l ≤ T.cost l → Reached x (suc p)
        equal z =
            record {
              x = x;
              stands = fits l h e (omega (arith, least_here x l (all l h) here));
              fewer = omega arith;
            }

        above : T.cost l < count B x l → Reached x (suc p)
        above z = rw (← e) (exchanged x l (all l h) strict here z)

    advance : p < B.stop d → Reached x (suc p)
    advance short = ⊎_elim found none (test (B.is_do (B.own p) && eqb (B.stop (B.own p)) p))
      where
        found : (B.is_do (B.own p) && eqb (B.stop (B.own p)) p) ≡ true → Reached x (suc p)
        found t =
            let u = and_true (B.is_do (B.own p)) (eqb (B.stop (B.own p)) p) t in
            closes short (B.own p) u.0 (eqb-true (B.stop (B.own p)) p u.1)

        -- a loop that ends at p would own p
        none : (B.is_do (B.own p) && eqb (B.stop (B.own p)) p) ≡ false → Reached x (suc p)
        none t = record { x = x; stands = pass ends_here; fewer = omega arith }
          where
            ends_here : (m : ℕ) → B.is_do m ≡ true → B.stop m ≡ p → ⊥
            ends_here m h e = never_both (and_intro is (eq-eqb (B.stop (B.own p)) p at)) t
              where
                owns : B.own p ≡ m
                owns = rw (← e) (laws.of-loops.own_stop m h)

                is : B.is_do (B.own p) ≡ true
                is = rw owns h

                at : B.stop (B.own p) ≡ p
                at = rw owns e

  module _ (y : ℕ → Bool) (sound : Sound W y d) where
    reached : (p : ℕ) → p ≤ B.stop d → Reached y p
    reached zero h =
        record {
          x = y;
          stands = record { sound = sound; done = λ m i e. absurd (omega arith) };
          fewer = omega arith;
        }
    reached (suc p) h = go (reached p (omega arith))
      where
        go : Reached y p → Reached y (suc p)
        go r = further (advance r.x p r.stands h)
          where
            further : Reached r.x (suc p) → Reached y (suc p)
            further q = record { x = q.x; stands = q.stands; fewer = omega (arith, q.fewer, r.fewer) }

    -- at the end of the outermost loop no count is below the planner's
    at_end : (x : ℕ → Bool) → Stands x (B.stop d) → run (T.lay d (suc d)) ≤ run x
    at_end x s = calls_le B d price (T.lay d (suc d)) x at
      where
        at : (m : ℕ) → B.is_do m ≡ true → count B (T.lay d (suc d)) m ≤ count B x m
        at m h =
            omega (
              arith,
              ((laid W N laws T table d is-do).done m (all m h)).exact,
              self_or_inside B d m (λ l. T.cost l ≤ count B x l) (all m h)
                  (least_here x d (inside_self B laws.of-loops d is-do) s) inner,
            )
          where
            inner : d < m → T.cost m ≤ count B x m
            inner z =
                omega (
                  arith,
                  s.done m h (laws.of-loops.nested d m is-do h z (omega (arith, (all m h).below))),
                )

    pub fewest : run (T.lay d (suc d)) ≤ run y
    fewest = go (reached (B.stop d) (omega arith))
      where
        go : Reached y (B.stop d) → run (T.lay d (suc d)) ≤ run y
        go r = omega (arith, at_end r.x r.stands, r.fewer)

-- the computed key, of a nest of n points whose outermost loop is 0
pub computed_fewest :
    (W : World) (N : Lines) → Lawful W N → (n : ℕ) → W.loops.is_do 0 ≡ true →
    ((d : ℕ) → W.loops.is_do d ≡ true → d < n) → AllInside W.loops 0 →
    (price : ℕ → ℕ) → Prices W.loops 0 price → (y : ℕ → Bool) → Sound W y 0 →
    calls W.loops 0 price (key_of W.loops N n) ≤ calls W.loops 0 price y
unfolding key_of
computed_fewest W N laws n first below all price prices y sound =
    fewest W N laws (table_of W.loops N n) (table_is W.loops laws.of-loops N n below) 0 first all price prices
    y sound

-- of a nest itself: no placement that cuts every dependence has fewer calls than the key
pub nest_fewest :
    (ps : List ℕ) (ds : List Dep) → is_shape ps ≡ true → AllFit ps ds → (price : ℕ → ℕ) →
    Prices (loops_in ps) 0 price → (y : ℕ → Bool) → ((e : Dep) → Among e ds → Cut ps e y) →
    calls (loops_in ps) 0 price (key_in ps ds) ≤ calls (loops_in ps) 0 price y
unfolding key_in
nest_fewest ps ds shape fit price prices y cut =
    computed_fewest (world_of ps ds) (lines_in ps ds) (lawful ps ds shape fit) (length ps) (starts_with_do ps shape)
    (λ d h. point_in ps d 0 h) inside price prices y (cuts_sound ps ds y cut 0)
  where
    inside : AllInside (loops_in ps) 0
    inside d h =
        let l : d < end_of ps 0 = omega (arith, end-after ps shape d h, end_in_outermost ps shape d h) in
        record { is-do = h; from = omega arith; below = l }
