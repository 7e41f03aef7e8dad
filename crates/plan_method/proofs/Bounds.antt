-- What every settled placement owes, for a loop d from the claims of the loops inside it. The ring is a family of
-- lines: with q the last gap of x in d's range, the carried dependences that start above q force a gap of x at or
-- before the limit, so the value for q stands in the exchange relation to x.
-- Main definition: `Bound`. Main statements: `meets`, `value_bound`, `value_exact`, `lower`, `some_gap`, `leftmost`.
use mathlib.Core.Path.{◌≡◌, refl, ◌∙◌}
use mathlib.Core.Bool.{Bool, true, false}
use mathlib.Core.Logic.{⊎_elim}
use Prim.Native.Nat.{ℕ, suc, ◌≤◌, ◌<◌}
use native.Mathlib.Omega.{arith}
use Rattle.laws.proofs.Tests.{test, lt_by}
use Rattle.plan_method.specs.Sweep.{Loops, Lines, Tables, State, put, sweep, close, need_of, value}
use Rattle.plan_method.specs.Sweep.{some_of, front, IsTable}
use Rattle.plan_method.proofs.World.{World, Inside, EachInside, Owner, Home, by_line, by_back}
use Rattle.plan_method.proofs.World.{Lawful}
use Rattle.plan_method.proofs.Inside.{inside_self, self_or_inside}
use Rattle.plan_method.proofs.Counts.{cnt_some}
use Rattle.plan_method.proofs.Claim.{Hit, mine_of, count, Settled, Best, Leads, Idle, Claim}
use Rattle.plan_method.proofs.Hits.{hit_wider, Last, last_gap, last_late}
use Rattle.plan_method.proofs.Needs.{need_cases, Cuts}
use Rattle.plan_method.proofs.Walk.{close_cases}
use Rattle.plan_method.proofs.Ring.{limit_high, ring_gap}
use Rattle.plan_method.proofs.Choices.{Fronts, least_le}
use Rattle.plan_method.proofs.Rows.{Holder, some_home, row_cost, row_fronts, row_idle, row_busy}
use Rattle.plan_method.proofs.Exchange.{Inv, exchange, settled_inside, mine_own}

-- the relation of a value to x at d
pub record Bound (B : Loops) (x : ℕ → Bool) (d : ℕ) (s : State) : Type 0 where
  pub le : s.c ≤ count B x d
  pub tight : s.c ≡ count B x d → (g : ℕ) → d < g → g ≤ B.stop d → x g ≡ true → s.f ≤ g

inv_bound : (B : Loops) (x : ℕ → Bool) (d : ℕ) (s : State) → Inv B x d d s → Bound B x d s
inv_bound B x d s i = record { le = omega (arith, i.le); tight = λ z. i.tight (omega (arith, i.le)) }

-- closing the prefix keeps it, if x has a gap at or before the limit
close_bound : (B : Loops) (x : ℕ → Bool) (d t : ℕ) (s : State) → Bound B x d s → t ≤ B.stop d → Hit x (suc d) t →
    Bound B x d (close d t s)
unfolding put
close_bound B x d t s b high h =
    close_cases (Bound B x d) d t s (λ e. b) (λ e. record { le = fewer e; tight = λ z g i j k. i })
  where
    fewer : t < s.f → s.c < count B x d
    fewer z = lt_by (λ y. (
        let i : h.gap ≤ B.stop d = omega (arith, h.high) in
        omega (arith, b.tight (omega (arith, b.le)) h.gap h.low i h.holds, h.high)))

module _
    (W : World) (N : Lines) (laws : Lawful W N) (T : Tables) (table : IsTable W.loops N T)
    (d : ℕ) (is-do : W.loops.is_do d ≡ true) (kids : EachInside W.loops d (Claim W T)) where
  abbrev e : ℕ
  e = W.loops.stop d

  abbrev valued : ℕ → State
  valued q = value W.loops N T d q

  -- something is to cut
  abbrev some : Bool
  some = some_of W.loops N T d

  long : d < e
  long = laws.of-loops.long d is-do

  self : Inside W.loops d d
  self = inside_self W.loops laws.of-loops d is-do

  -- a placement that is settled in d meets the needs of a sweep whose suffix it cuts
  pub meets : (x : ℕ → Bool) (q : ℕ) → Settled W T.cost x d → Hit x q e → Cuts (need_of (N.reach d) q e) e d x
  meets x q s k =
      record {
        cut = λ a low high. need_cases (N.reach d) q e (λ n. n ≤ e → Hit x a n) a
            (λ h. s.sound.lines d a (N.reach d a) self (laws.of_lines.reach_is d a is-do low high h))
            (λ z y h. rw z k);
      }

  -- with q the last gap of x, the value for q stands in the exchange relation to x
  pub value_bound : (x : ℕ → Bool) → Settled W T.cost x d → (k : Last x (suc d) e) →
      Bound W.loops x d (valued k.gap)
  unfolding value
  value_bound x s k =
      close_bound W.loops x d (N.limit d k.gap) swept (inv_bound W.loops x d swept i)
      (limit_high W N laws d is-do k.gap k.low k.high)
      (ring_gap W N laws d is-do x (λ a t. s.sound.backs d a t self) k)
    where
      need : ℕ → ℕ
      need = need_of (N.reach d) k.gap e

      swept : State
      swept = sweep W.loops T need d

      hit : Hit x k.gap e
      hit = record { gap = k.gap; low = omega arith; high = k.high; holds = k.holds }

      i : Inv W.loops x d d swept
      i = exchange W laws.of-loops T d is-do kids need x s (meets x k.gap s hit)

  -- with something to cut, every settled placement has a gap in d's range
  has-gap : (x : ℕ → Bool) → Settled W T.cost x d → some ≡ true → Hit x (suc d) e
  has-gap x s h = ⊎_elim (λ z. home (laws.of_lines.has_is d is-do z)) holder (some_home W.loops N T d h)
    where
      home : Home W d → Hit x (suc d) e
      home (by_line a b z) =
          hit_wider (laws.of_lines.line_low d a b is-do z) (laws.of_lines.line_high d a b is-do z)
          (s.sound.lines d a b self z)
      home (by_back a t z) =
          ⊎_elim
          (hit_wider (omega arith) (laws.of_lines.back_high d a t is-do z))
          (hit_wider (laws.of_lines.back_low d a t is-do z) (omega arith))
          (s.sound.backs d a t self z)

      holder : Holder W.loops T d → Hit x (suc d) e
      holder z =
          let l = z.loop in
          let i : Inside W.loops d l =
          record { is-do = z.is-do; from = omega (arith, z.above); below = z.below } in
          let b : Best W T.cost x l = settled_inside W laws.of-loops T x d l is-do s i z.above in
          let n : W.loops.stop l < e =
          laws.of-loops.nested d l is-do z.is-do z.above (omega (arith, z.below)) in
          hit_wider (omega (arith, z.above)) (omega arith) ((kids l i z.above).some x z.there b.settled)

  -- the cost is at most each value's
  cost_le : some ≡ true → (q : ℕ) → d < q → q ≤ e → T.cost d ≤ (valued q).c
  cost_le h q low high =
      omega (
        arith,
        row_cost W.loops laws.of-loops N T table d is-do h,
        least_le (λ q. (valued q).c) d e q low high,
      )

  pub lower : (x : ℕ → Bool) → Settled W T.cost x d → T.cost d ≤ count W.loops x d
  lower x s = ⊎_elim busy idle (test some)
    where
      busy : some ≡ true → T.cost d ≤ count W.loops x d
      busy h =
          let k : Last x (suc d) e = last_gap x (suc d) e (has-gap x s h) in
          omega (arith, cost_le h k.gap k.low k.high, (value_bound x s k).le)

      idle : some ≡ false → T.cost d ≤ count W.loops x d
      idle h =
          omega (arith, (row_idle W.loops laws.of-loops N T table d is-do (suc d) (omega arith) long h).0)

  pub some_gap : (x : ℕ → Bool) → 0 < T.left d (suc d) → Settled W T.cost x d → Hit x (suc d) e
  some_gap x h s =
      has-gap x s (row_busy W.loops laws.of-loops N T table d is-do (suc d) (omega arith) long h)

  -- a placement that is best in d and has a gap from q on: its last gap, whose value has d's cost
  module _ (x : ℕ → Bool) (q : ℕ) (best : Best W T.cost x d) (low : d < q) (hit : Hit x q e) where
    pub last-from : Last x (suc d) e
    last-from = last_gap x (suc d) e (hit_wider (omega arith) (omega arith) hit)

    pub last_after : q ≤ last-from.gap
    last_after = omega (arith, hit.low, last_late last-from hit.gap hit.high hit.holds)

    pub value_exact : some ≡ true → (valued last-from.gap).c ≡ T.cost d
    value_exact h =
        omega (
          arith,
          cost_le h last-from.gap last-from.low last-from.high,
          (value_bound x best.settled last-from).le,
          best.exact,
        )

    -- and whose front lies before all its gaps
    pub value_before : some ≡ true → (g : ℕ) → d < g → g ≤ e → x g ≡ true → (valued last-from.gap).f ≤ g
    value_before h = (value_bound x best.settled last-from).tight (omega (arith, value_exact h, best.exact))

  module _ (empty : T.left d (suc d) ≡ 0 → (l : ℕ) → Inside W.loops d l → Idle W T l) where
    -- a best placement has no gap where all loops are idle
    no_gap : (x : ℕ → Bool) → Best W T.cost x d → T.left d (suc d) ≡ 0 → (g : ℕ) → d < g → g ≤ e → x g ≡ true → ⊥
    no_gap x b z g low high h = omega (arith, some_own, exact, (empty z l inside).free)
      where
        l : ℕ
        l = W.loops.own g

        o : Owner W.loops d g
        o = laws.of-loops.owner d g is-do low high

        inside : Inside W.loops d l
        inside = record { is-do = o.is-do; from = o.from; below = omega (arith, o.below) }

        some_own : 0 < count W.loops x l
        some_own =
            cnt_some (mine_of W.loops x l) (W.loops.stop l) g (omega arith) o.above
            (mine_own W.loops x l g refl ∙ h)

        exact : count W.loops x l ≡ T.cost l
        exact =
            self_or_inside W.loops d l (λ m. count W.loops x m ≡ T.cost m) inside
            b.exact (b.settled.inside l inside)

    pub leftmost : (x : ℕ → Bool) (q : ℕ) → Best W T.cost x d → d < q → Hit x q e → Leads W T d q x
    leftmost x q b low h = ⊎_elim busy idle (test some)
      where
        inside : q ≤ e
        inside = omega (arith, h.low, h.high)

        idle : some ≡ false → Leads W T d q x
        idle z =
            let n = row_idle W.loops laws.of-loops N T table d is-do (suc d) (omega arith) long z in
            absurd (no_gap x b n.1 h.gap (omega (arith, h.low)) h.high h.holds)

        busy : some ≡ true → Leads W T d q x
        busy z =
            let k : Last x (suc d) e = last-from x q b low h in
            let m : q ≤ k.gap = last_after x q b low h in
            let c : (valued k.gap).c ≡ T.cost d = value_exact x q b low h z in
            let r : Fronts valued (T.cost d) e q (front (T.left d q) (T.choice d q)) =
            row_fronts W.loops laws.of-loops N T table d is-do q low inside z in
            record {
              there = r.there k.gap m k.high c;
              least = λ g i j y. omega (arith, r.least k.gap m k.high c, value_before x q b low h z g i j y);
            }
