-- A step that the code takes is the step of the definition: whether it holds, and the count after it.
-- Main statements: `known_ends`; `unfit`, `unled`, `step_tables`, `fine_is`, `count_after`; `says_unfit`, `says_unled`,
-- `says_unnamed`, `says_taken`.
use mathlib.Core.Path.{◌≡◌, refl, sym, ap, ◌∙◌}
use Rattle.std.proofs.Common.{Option, Some, None}
use Rattle.std.specs.Option.{is_some, IfSome}
use mathlib.Core.Bool.{Bool, true, false, ◌&&◌, ◌||◌}
use mathlib.Core.List.{List}
use mathlib.Core.Logic.{◌⊎◌, inl, inr, ⊎_elim}
use Prim.Native.Nat.{ℕ, zero, suc, ◌+◌, ◌≤◌, ◌<◌}
use native.Mathlib.Omega.{arith}
use lib.Dec.{ltb, leb}
use lib.ListN.{length}
use borrow.Author.Tests.{lt-ltb, le-ltb, ltb-true, leb-true, leb-false}
use Rattle.laws.specs.Choice.{when, between}
use Rattle.laws.specs.Entries.{at}
use Rattle.laws.proofs.Tests.{never, le_or, false_by, and_true, and_false}
use Rattle.laws.proofs.Ranges.{in_between, between_in}
use Rattle.laws.proofs.Ors.{or_turned}
use Rattle.laws.proofs.Connectives.{and_off}
use Rattle.paper_nests.specs.Kinds.{POINTS}
use Rattle.paper_nests.specs.Nests.{Nest}
use Rattle.paper_nests.specs.Stored.{dep_in}
use Rattle.paper_nests.specs.Loops.{end_of, is_around}
use Rattle.paper_nests.specs.Gaps.{has_gap}
use Rattle.paper_nests.proofs.Deps.{valid_is, deps_fit}
use Rattle.paper_nests.proofs.Loops.{end-after, end_there}
use Rattle.paper_placements.specs.declared.Placement as DP
use Rattle.paper_placements.specs.Words.{holds}
use Rattle.paper_gaps.proofs.Lies.{gap_inside}
use Rattle.argue_claims.specs.Arguments.{Step, Claim, Known, Count, st, every, counted, known_at, dep_at, named}
use Rattle.argue_claims.specs.Arguments.{facts_after, fact_out, in_set, is_set, is_led, leads, is_left, step}
use Rattle.argue_claims.proofs.Listed.{dep_among}
use Rattle.argue_claims.proofs.Lots.{every_at}
use Rattle.argue_texts.specs.declared.Claimed as DC
use Rattle.argue_texts.specs.Parts.{set_in, led_in}
use Rattle.argue_weigh.specs.declared.Open as DO
use Rattle.argue_weigh.specs.declared.Ended as DX
use Rattle.argue_weigh.specs.declared.Asked as DA
use Rattle.argue_weigh.specs.declared.Taken as DT
use Rattle.argue_weigh.specs.Naming.{left_at, fine_at, Named}
use Rattle.argue_weigh.specs.Taking.{claim_at, set_fits, gap_of, set_at, IsSetOf, leads_on, led_at, leads_at}
use Rattle.argue_weigh.specs.Taking.{gone_after}
use Rattle.argue_weigh.specs.Taking.{PaperTables, KnownTables, OpenTables, AskedTables, CountTables, StepSays}
use Rattle.argue_weigh.proofs.Stepping.{asked, StepTables, step_fine, step_named}

-- what leads is there
led_there
    : (o : DO.Open) (claims : List DC.Claimed) (by : ℕ)
    → led_at o claims by ≡ true
    → by ≤ length claims
led_there o claims zero h = omega arith
led_there o claims (suc m) h =
    ltb-true m (length claims) (and_true (ltb m (length claims)) (leads_on o (claim_at claims m)) h).0

module _ {n : Nest} {key : List ℕ} {last : ℕ} {ends owners : List ℕ} (p : PaperTables n key last ends owners)
    {ks : List Known} {claims : List DC.Claimed} {struck : List ℕ} (q : KnownTables n key ks claims struck) where
  -- ---- what leads

  -- the loop of a claim so far, with its ENDDO
  known_end : (m : ℕ) → m < length claims → at ends (known_at ks m).loop ≡ end_of n.points (known_at ks m).loop
  known_end m h = p.ends_are (known_at ks m).loop (q.loops_do m h)

  pub known_ends : (m : ℕ) → m < length claims → at ends (claim_at claims m).d < POINTS
  known_ends m h =
      let v = valid_is n p.valid in
      let there : end_of n.points (known_at ks m).loop < length n.points =
      end_there n.points v.shape (known_at ks m).loop (q.loops_do m h) in
      let same : at ends (claim_at claims m).d ≡ at ends (known_at ks m).loop = ap (at ends) (q.loops_are m h) in
      omega (arith, same, known_end m h, there, v.few_points)

  leads_alike
      : (by : ℕ) → by ≤ length claims → (g : ℕ) → leads_at claims ends by g ≡ leads n key ks by g
  leads_alike zero h g = refl
  leads_alike (suc m) h g = rw (q.loops_are m h, q.froms_are m h, known_end m h) refl

  gone_alike
      : (gone : List ℕ) (x : Count) (by : ℕ)
      → by ≤ length claims
      → ((g : ℕ) → holds gone g ≡ fact_out n key x.facts g)
      → (g : ℕ)
      → gone_after gone claims ends by g ≡ fact_out n key (facts_after ks by x.facts) g
  gone_alike gone x zero h t g = refl
  gone_alike gone x (suc m) h t g =
      rw (q.loops_are m h, q.uptos_are m h, known_end m h, t g) refl

  module _ {k : Claim} {o : DO.Open} (w : OpenTables n key k o) where
    led_alike : (by : ℕ) → led_at o claims by ≡ is_led n key k.loop ks by
    led_alike zero = refl
    led_alike (suc m) =
        ⊎_elim (λ (h : length claims ≤ m). late h) (λ (h : m < length claims). there h) (le_or (length claims) m)
      where
        late : length claims ≤ m → led_at o claims (suc m) ≡ is_led n key k.loop ks (suc m)
        late h = rw (le-ltb m (length claims) h, le-ltb m (length ks) (omega (arith, h, q.count_is))) refl

        there : m < length claims → led_at o claims (suc m) ≡ is_led n key k.loop ks (suc m)
        there h =
            rw (
              lt-ltb m (length claims) h,
              lt-ltb m (length ks) (omega (arith, h, q.count_is)),
              w.loop_is,
              w.end_is,
              q.loops_are m h,
              q.froms_are m h,
              q.uptos_are m h,
            )
            refl

    -- ---- the set

    -- the loop's ENDDO is a point
    open_end : o.e ≤ last
    open_end =
        let v = valid_is n p.valid in
        omega (arith, w.end_is, end_there n.points v.shape k.loop w.loop_do, p.all)

    module _ {s : DA.Asked} (a : AskedTables n key s) where
      set_alike
          : (i : ℕ)
          → set_in s.set ≡ i
          → set_fits o (is_some s.dependence) i ≡ true
          → (g : ℕ)
          → set_at n.points o s i g ≡ in_set n key k i g
      set_alike zero e h g =
          let some : ltb 0 k.from ≡ true = rw w.from_is at h in
          rw (some, w.from_is, w.end_is) refl
      set_alike (suc zero) e h g = rw (w.loop_is, w.upto_is) refl
      set_alike (suc (suc m)) e h g = put s.dependence h (a.dep_is m e)
        where
          put
              : (x : Option DX.Ended)
              → is_some x ≡ true
              → IfSome x (λ (y : DX.Ended). dep_in y.e ≡ dep_at n.deps m)
              → gap_of n.points x g ≡ has_gap n.points (dep_at n.deps m) g
          put None t d = never t
          put (Some x) t d = rw (← d) refl

      -- the gap behind the last is in no set
      set_ends
          : (i : ℕ)
          → set_in s.set ≡ i
          → set_fits o (is_some s.dependence) i ≡ true
          → in_set n key k i (suc last) ≡ false
      set_ends zero e h = false_by (λ z. out (in_between k.from (suc last) (end_of n.points k.loop)
          (and_true (ltb 0 k.from) (between k.from (suc last) (end_of n.points k.loop)) z).1).1)
        where
          out : suc last ≤ end_of n.points k.loop → ⊥
          out z = omega (arith, z, open_end, w.end_is)
      set_ends (suc zero) e h = false_by (λ z. out (in_between (suc k.loop) (suc last) k.upto z).1)
        where
          out : suc last ≤ k.upto → ⊥
          out z =
              let y = and_true (ltb 0 o.b) (leb o.b o.e) h in
              omega (arith, z, w.upto_is, leb-true o.b o.e y.1, open_end)
      set_ends (suc (suc m)) e h = false_by (λ z. out z)
        where
          out : has_gap n.points (dep_at n.deps m) (suc last) ≡ true → ⊥
          out z =
              let v = valid_is n p.valid in
              let there : m < length n.deps = ltb-true m (length n.deps) (sym (a.there_is m e) ∙ h) in
              let fits = deps_fit n.points n.deps v.all-deps (dep_at n.deps m)
              (dep_among n.deps m there) in
              let inside = gap_inside n.points (dep_at n.deps m) (suc last) v.shape fits z in
              omega (arith, inside.1, p.all)

      -- ---- a step that does not hold

      module _ (x : Count) (f : x.fine ≡ true) (by : ℕ) where
        -- up to b, beyond the ENDDO
        beyond_end : o.e < o.b → every (asked n key k ks x (st 1 by)) (length n.points) ≡ false
        beyond_end h =
            false_by
            (λ z. never (sym gap_out ∙ every_at (asked n key k ks x (st 1 by)) (length n.points) (suc o.e) z
            (omega arith) (omega (arith, open_end, p.all))))
          where
            in-set : in_set n key k 1 (suc o.e) ≡ true
            in-set =
                between_in (suc k.loop) (suc o.e) k.upto
                (omega (arith, w.end_is, end-after n.points (valid_is n p.valid).shape k.loop w.loop_do))
                (omega (arith, h, w.upto_is))

            apart : is_around n.points (suc o.e) k.loop ≡ false
            apart =
                false_by
                (λ z. behind (leb-true (suc o.e) (end_of n.points k.loop)
                (and_true (ltb k.loop (suc o.e)) (leb (suc o.e) (end_of n.points k.loop)) z).1))
              where
                behind : suc o.e ≤ end_of n.points k.loop → ⊥
                behind z = omega (arith, z, w.end_is)

            gap_out : asked n key k ks x (st 1 by) (suc o.e) ≡ false
            gap_out = rw (in-set, apart) refl

        unfit
            : (there : Bool) (i : ℕ)
            → ((m : ℕ) → i ≡ suc (suc m) → there ≡ ltb m (length n.deps))
            → set_fits o there i ≡ false
            → (step n key k ks (st i by) x).fine ≡ false
        unfit there zero e h =
            let none : ltb 0 k.from ≡ false = rw w.from_is at h in
            rw (f, none) refl
        unfit there (suc zero) e h =
            ⊎_elim (λ (z : ltb 0 o.b ≡ false). no_upto z) (λ (z : leb o.b o.e ≡ false). far z)
            (and_false (ltb 0 o.b) (leb o.b o.e) h)
          where
            no_upto : ltb 0 o.b ≡ false → (step n key k ks (st 1 by) x).fine ≡ false
            no_upto z =
                let none : ltb 0 k.upto ≡ false = rw w.upto_is at z in
                rw (f, none) refl

            far : leb o.b o.e ≡ false → (step n key k ks (st 1 by) x).fine ≡ false
            far z =
                rw (f, beyond_end (leb-false o.b o.e z))
                (all_off (ltb 0 k.upto) (is_led n key k.loop ks by))
              where
                all_off : (u v : Bool) → (u && (v && false)) ≡ false
                all_off true true = refl
                all_off true false = refl
                all_off false v = refl
        unfit there (suc (suc m)) e h =
            let none : ltb m (length n.deps) ≡ false = sym (e m refl) ∙ h in
            rw (f, none) refl

        unled : (i : ℕ) → led_at o claims by ≡ false → (step n key k ks (st i by) x).fine ≡ false
        unled i h =
            let none : is_led n key k.loop ks by ≡ false = sym (led_alike by) ∙ h in
            rw (f, none) (and_off (is_set n key k i))

      -- ---- a step that may hold

      module _ {x : Count} {steps c : ℕ} {old gone : List ℕ} (t : CountTables n key x last steps c old gone)
          (fits : set_fits o (is_some s.dependence) (set_in s.set) ≡ true)
          (led : led_at o claims (led_in s.by) ≡ true)
          (ws us : List ℕ) (set_is : IsSetOf o s ws)
          (with_led : (g : ℕ) → holds us g ≡ (leads_at claims ends (led_in s.by) g || holds gone g)) where
        -- the step, by its numbers
        abbrev asks : Step
        asks = st (set_in s.set) (led_in s.by)

        there : led_in s.by ≤ length claims
        there = led_there o claims (led_in s.by) led

        step_tables : StepTables n key k ks x asks last ws us owners struck
        step_tables =
            record {
              all = p.all;
              ends = omega (arith, open_end, w.end_is);
              set_is = λ g h l. set_is n.points a.end_is g ∙ set_alike (set_in s.set) refl fits g;
              set_ends = set_ends (set_in s.set) refl fits;
              owners_are = p.owners_are;
              gone_is =
                  λ g h. with_led g ∙ rw (leads_alike (led_in s.by) there g, t.gone_is g)
                  (or_turned (leads n key ks (led_in s.by) g) (fact_out n key x.facts g));
              struck_is = λ g h. q.excluded.tells k.loop g w.loop_do h;
            }

        -- all that the definition asks but of the gaps
        fine_by
            : (i : ℕ) (b : Bool)
            → set_in s.set ≡ i
            → set_fits o (is_some s.dependence) i ≡ true
            → every (asked n key k ks x (st i (led_in s.by))) (length n.points) ≡ b
            → (step n key k ks (st i (led_in s.by)) x).fine ≡ b
        fine_by i b e h z = rw (t.fine, set_there i e h, sym (led_alike (led_in s.by)) ∙ led, z) refl
          where
            set_there
                : (i : ℕ) → set_in s.set ≡ i → set_fits o (is_some s.dependence) i ≡ true → is_set n key k i ≡ true
            set_there zero e h = rw w.from_is at h
            set_there (suc zero) e h =
                let y : ltb 0 o.b ≡ true = (and_true (ltb 0 o.b) (leb o.b o.e) h).0 in
                rw w.upto_is at y
            set_there (suc (suc m)) e h = sym (a.there_is m e) ∙ h

        asked_as
            : (b : Bool)
            → every (fine_at ws us owners struck o.d o.e) last ≡ b
            → every (asked n key k ks x asks) (length n.points) ≡ b
        asked_as b z =
            let y : every (fine_at ws us owners struck k.loop (end_of n.points k.loop)) last ≡ b =
            rw (w.loop_is, w.end_is) at z in
            sym (step_fine n key k ks x asks step_tables) ∙ y

        fine_is
            : (b : Bool)
            → every (fine_at ws us owners struck o.d o.e) last ≡ b
            → (step n key k ks asks x).fine ≡ b
        fine_is b z = fine_by (set_in s.set) b refl fits (asked_as b z)

        count_after
            : (new vs : List ℕ) (c' : ℕ)
            → every (fine_at ws us owners struck o.d o.e) last ≡ true
            → Named (left_at ws us struck o.d) last old new
            → c' ≡ counted (led_in s.by) c
            → ((g : ℕ) → holds vs g ≡ gone_after gone claims ends (led_in s.by) g)
            → CountTables n key (step n key k ks asks x) last (suc steps) c' new vs
        count_after new vs c' z m more after =
            record {
              fine = fine_is true z;
              c_is = more ∙ rw t.c_is refl;
              times_are = step_named n key k ks x asks step_tables old new here again t.times_are;
              beyond = last_is;
              few = λ g. grown g;
              gone_is = λ g. after g ∙ gone_alike gone x (led_in s.by) there t.gone_is g;
            }
          where
            here : every (fine_at ws us owners struck k.loop (end_of n.points k.loop)) last ≡ true
            here = rw (w.loop_is, w.end_is) at z

            again : Named (left_at ws us struck k.loop) last old new
            again = rw w.loop_is at m

            last_is : named (is_left n key k ks x.facts asks) x.times (suc last) ≡ 0
            last_is =
                let y : is_left n key k ks x.facts asks (suc last) ≡ false =
                rw (set_ends (set_in s.set) refl fits) refl in
                rw (y, t.beyond) refl

            at_most : (b : Bool) (v : ℕ) → v ≤ steps → when b 1 + v ≤ suc steps
            at_most true v h = omega (arith, h)
            at_most false v h = omega (arith, h)

            grown : (g : ℕ) → at new g ≤ suc steps
            grown g =
                ⊎_elim (λ (h : g ≤ 0). kept (inl h))
                (λ (h : 0 < g). ⊎_elim (λ (l : g ≤ last). raised h l) (λ (l : last < g). kept (inr l)) (le_or g last))
                (le_or g 0)
              where
                kept : (g ≤ 0) ⊎ (last < g) → at new g ≤ suc steps
                kept h = omega (arith, m.rest g h, t.few g)

                raised : 0 < g → g ≤ last → at new g ≤ suc steps
                raised h l =
                    omega (arith, m.more g h l, at_most (left_at ws us struck o.d g) (at old g) (t.few g))

-- ---- what the code promises, for each way through it

module _ (last : ℕ) (o : DO.Open) (s : DA.Asked) (c : ℕ) (gone : DP.Placement) (claims : List DC.Claimed)
    (ends owners struck old new : List ℕ) where
  pub says_unfit
      : set_fits o (is_some s.dependence) (set_in s.set) ≡ false
      → StepSays last o s c gone claims ends owners struck old new None
  says_unfit h n key k ks x steps p q w a t =
      (sym (unfit p q w a x t.fine (led_in s.by) (is_some s.dependence) (set_in s.set) a.there_is h), tt)

  pub says_unled
      : led_at o claims (led_in s.by) ≡ false
      → StepSays last o s c gone claims ends owners struck old new None
  says_unled h n key k ks x steps p q w a t = (sym (unled p q w a x t.fine (led_in s.by) (set_in s.set) h), tt)

  module _ (fits : set_fits o (is_some s.dependence) (set_in s.set) ≡ true) (led : led_at o claims (led_in s.by) ≡ true)
      (ws us : List ℕ) (set_is : IsSetOf o s ws)
      (with_led : (g : ℕ) → holds us g ≡ (leads_at claims ends (led_in s.by) g || holds gone.words g)) where
    pub says_unnamed
        : every (fine_at ws us owners struck o.d o.e) last ≡ false
        → StepSays last o s c gone claims ends owners struck old new None
    says_unnamed h n key k ks x steps p q w a t =
        (sym (fine_is p q w a t fits led ws us set_is with_led false h), tt)

    pub says_taken
        : (r : DT.Taken)
        → every (fine_at ws us owners struck o.d o.e) last ≡ true
        → Named (left_at ws us struck o.d) last old new
        → r.c ≡ counted (led_in s.by) c
        → ((g : ℕ) → holds r.gone.words g ≡ gone_after gone.words claims ends (led_in s.by) g)
        → StepSays last o s c gone claims ends owners struck old new (Some r)
    says_taken r h m more after n key k ks x steps p q w a t = (
      sym (fine_is p q w a t fits led ws us set_is with_led true h),
      count_after p q w a t fits led ws us set_is with_led new r.gone.words r.c h m more after,
    )
