-- The numbers of an argument fit its frames. A step names a supposed set or that of a dependence, and is led by a claim
-- made before. The numbers of a claim are points: its loop, a gap of its range, and one before a front of its row.
-- Main statements: `steps_named`, `plain_numbered`, `argument_spells`.
use mathlib.Core.Path.{◌≡◌, ap, subst}
use mathlib.Core.Bool.{Bool, true, false, ◌&&◌}
use mathlib.Core.List.{List, [], ◌∷◌, ◌++◌}
use mathlib.Core.Logic.{⊎_elim}
use Prim.Native.Nat.{ℕ, zero, suc, ◌+◌, ◌≤◌, ◌<◌}
use native.Mathlib.Omega.{arith}
use lib.Dec.{eqb, ltb, leb}
use lib.ListN.{length}
use Rattle.laws.specs.Choice.{pick}
use Rattle.laws.specs.Members.{Among}
use Rattle.paper_nests.specs.Kinds.{POINTS, DEPENDENCES}
use Rattle.paper_nests.specs.Nests.{Dep, Nest}
use Rattle.paper_nests.specs.Loops.{is_do, end_of}
use Rattle.paper_nests.specs.Valid.{is_shape, is_valid}
use Rattle.paper_nests.proofs.Deps.{valid_is, deps_fit}
use Rattle.paper_nests.proofs.Levels.{point_in}
use Rattle.paper_nests.proofs.Loops.{end_there}
use Rattle.paper_barred.specs.Reduced.{is_blocked}
use Rattle.plan_method.specs.Sweep.{Loops, Tables, State, seek, next, step, start}
use Rattle.plan_method.specs.Home.{loops_in, starts_at, reach_of}
use Rattle.plan_method.proofs.Instance.{AllFit}
use Rattle.plan_theorem.specs.KeyOf.{plain_key}
use Rattle.argue_claims.specs.Arguments.{Step, Claim, st}
use Rattle.argue_claims.proofs.Listed.{among_or}
use Rattle.argue_key.specs.Laps.{event_plain, event_at, event_child, event, trace, Start, is_back, starts_later, last_back}
use Rattle.argue_key.specs.Laps.{line_num, suffix_of, lap_need, lap_set, close_step, is_enough, lap_swept, lap_end, lap_steps}
use Rattle.argue_key.specs.Laps.{laps, before, Head, few_for, steps_for, is_from, find_claim, lead_in}
use Rattle.argue_key.specs.Laps.{loop_heads, plain_argument, argument_of}
use Rattle.argue_key.proofs.Heads.{left_high, Low, Side}
use Rattle.argue_key.proofs.HeadLists.{HeadOf, head_of}
use Rattle.argue_key.proofs.Plain.{T, laws, table, costs}
use Rattle.argue_lengths.specs.Spelling.{ClaimSpells, Spells}
use Rattle.argue_lengths.specs.Lengths.{MOST-CLAIMS, MOST-STEPS}
use Rattle.argue_lengths.proofs.Plain.{PlainOf, plain_of}
use Rattle.argue_lengths.proofs.Claims.{few_claims}
use Rattle.argue_lengths.proofs.Made.{each_claim}
use Rattle.argue_lengths.proofs.Steps.{few_steps}

-- ---- what holds of every step

pub record Each (P : Step → Type 0) (ss : List Step) : Type 0 where
  pub of : (s : Step) → Among s ss → P s

module _ (P : Step → Type 0) where
  each_none : Each P []
  each_none = record { of = λ s a. absurd a }

  each_one : (s : Step) → P s → Each P (s ∷ [])
  each_one s h = record { of = λ x a. ⊎_elim (λ (e : x ≡ s). rw e h) (λ (z : ⊥). absurd z) a }

  each_both : (ss ts : List Step) → Each P ss → Each P ts → Each P (ss ++ ts)
  each_both ss ts f g = record { of = λ s a. ⊎_elim (f.of s) (g.of s) (among_or s ss ts a) }

  each_pick : (t : Bool) (ss ts : List Step) → Each P ss → Each P ts → Each P (pick t ss ts)
  each_pick true ss ts f g = f
  each_pick false ss ts f g = g

  each_if : (t : Bool) (s : Step) → P s → Each P (pick t (s ∷ []) [])
  each_if t s h = each_pick t (s ∷ []) [] (each_one s h) each_none

-- a step of a lap counts or leads
module _ (P : Step → Type 0) (set : ℕ → ℕ) (lead : ℕ → ℕ → ℕ) (counts : (b : ℕ) → P (st (set b) 0))
    (leads : (l b : ℕ) → P (st (set b) (suc (lead l b)))) where
  plain_each : (need : ℕ → ℕ) (p f : ℕ) → Each P (event_plain need set p f)
  unfolding event_plain
  plain_each need p f = each_if P (ltb (need (suc p)) f) (st (set (suc p)) 0) (counts (suc p))

  at_each : (left : ℕ → ℕ) (l p b : ℕ) → Each P (event_at left set (lead l) l p b)
  unfolding event_at
  at_each left l p b =
      each_pick P (eqb b 0) [] _ (each_none P) (each_pick P (leb b p && ltb 0 (left b)) _ (st (set b) 0 ∷ [])
      (each_if P (ltb (suc l) (left b)) (st (set b) (suc (lead l b))) (leads l b))
      (each_one P (st (set b) 0) (counts b)))

  event_each : (B : Loops) (T : Tables) (need : ℕ → ℕ) (p f : ℕ) → Each P (event B T need set lead p f)
  unfolding event event_child
  event_each B T need p f =
      each_pick P (B.is_end p) _ _
      (at_each (T.left (B.own p)) (B.own p) p (seek need f (B.own p) (suc p))) (plain_each need p f)

  trace_each : (B : Loops) (T : Tables) (need : ℕ → ℕ) (d k p : ℕ) (s : State) →
      Each P (trace B T need set lead d k p s)
  unfolding trace
  trace_each B T need d zero p s = each_none P
  trace_each B T need d (suc k) zero s = each_none P
  trace_each B T need d (suc k) (suc p) s =
      each_pick P (ltb p d) [] _ (each_none P) (each_both P _ _ (event_each B T need p s.f)
      (trace_each B T need d k (next B p) (step B T need p s)))

-- ---- the numbers of a lap's steps

pick_most : (t : Bool) (a b m : ℕ) → a ≤ m → b ≤ m → pick t a b ≤ m
pick_most true a b m f g = f
pick_most false a b m f g = g

num_most : (t : Bool) (a b : Start) (m : ℕ) → a.num ≤ m → b.num ≤ m → (pick t a b).num ≤ m
num_most true a b m f g = f
num_most false a b m f g = g

line-num : (ps : List ℕ) (d a t : ℕ) (ds : List Dep) → line_num ps d a t ds ≤ length ds
unfolding line_num
line-num ps d a t [] = omega arith
line-num ps d a t (e ∷ es) =
    pick_most (starts_at ps d a e && eqb e.t t) 0 (suc (line_num ps d a t es)) (suc (length es)) (omega arith)
    (omega (arith, line-num ps d a t es))

back_num : (ps : List ℕ) (d f : ℕ) (ds : List Dep) → (last_back ps d f ds).num ≤ length ds
unfolding last_back
back_num ps d f [] = omega arith
back_num ps d f (e ∷ es) =
    num_most (is_back ps d f e && starts_later (last_back ps d f es) e) _ _ (suc (length es)) (omega arith)
    (omega (arith, back_num ps d f es))

suffix_num : (ps : List ℕ) (ds : List Dep) (d from f : ℕ) → (suffix_of ps ds d from f).num ≤ 2 + length ds
unfolding suffix_of
suffix_num ps ds d from f =
    num_most (ltb from (last_back ps d f ds).at) _ _ (2 + length ds) (omega (arith, back_num ps d f ds)) (omega arith)

set_num : (ps : List ℕ) (ds : List Dep) (d from f a : ℕ) → lap_set ps ds d from f a ≤ 2 + length ds
unfolding lap_set
set_num ps ds d from f a =
    pick_most (eqb a (suffix_of ps ds d from f).at && ltb (end_of ps d) (reach_of ps ds d a)) _ _ (2 + length ds)
    (suffix_num ps ds d from f) (omega (arith, line-num ps d a (reach_of ps ds d a) ds))

claim_num : (cs : List Claim) (l a t : ℕ) → find_claim cs l a t ≤ length cs
unfolding find_claim
claim_num [] l a t = omega arith
claim_num (k ∷ ks) l a t =
    pick_most (is_from k l a t) 0 (suc (find_claim ks l a t)) (suc (length ks)) (omega arith)
    (omega (arith, claim_num ks l a t))

-- a set of at most x dependences, a claim of at most m
pub record Named (x m : ℕ) (s : Step) : Type 0 where
  pub set_in : s.set ≤ 2 + x
  pub via_in : s.via ≤ 1 + m

module _ (ps : List ℕ) (ds : List Dep) (T : Tables) (lead : ℕ → ℕ → ℕ) (m : ℕ) (led : (l b : ℕ) → lead l b ≤ m) where
  abbrev P : Step → Type 0
  P = Named (length ds) m

  lap_named : (d from upto few f : ℕ) → Each P (lap_steps ps ds T lead d from upto few f)
  unfolding lap_steps close_step
  lap_named d from upto few f =
      each_both P _ _
      (trace_each P (lap_set ps ds d from f) lead
      (λ b. record { set_in = set_num ps ds d from f b; via_in = omega arith })
      (λ l b. record { set_in = set_num ps ds d from f b; via_in = omega (arith, led l b) })
      (loops_in ps) T (lap_need ps ds d from f) d (end_of ps d) (end_of ps d) (start (end_of ps d)))
      (each_if P (ltb 0 upto && ltb upto (lap_swept ps ds T lead d from upto few f).f) (st 1 0)
      (record { set_in = omega arith; via_in = omega arith }))

  laps_named : (d from upto few j f : ℕ) → Each P (laps ps ds T lead d from upto few j f)
  unfolding laps
  laps_named d from upto few zero f = each_none P
  laps_named d from upto few (suc j) f =
      each_pick P (is_enough few (lap_end ps ds T lead d from upto few f).c) _ _ (lap_named d from upto few f)
      (each_both P _ _ (lap_named d from upto few f)
      (laps_named d from upto few j (lap_end ps ds T lead d from upto few f).f))

  pub steps_named : (h : Head) → Each P (steps_for ps ds T lead h)
  unfolding steps_for
  steps_named h =
      laps_named h.loop h.from h.upto (few_for T h) (suc (suc (end_of ps h.loop))) (suc h.loop)

-- ---- the numbers of a claim

-- points, all three
pub record HeadIn (m : ℕ) (h : Head) : Type 0 where
  pub loop_in : h.loop < m
  pub from_in : h.from < m
  pub upto_in : h.upto < m

before_most : (m : ℕ) → before m ≤ m
before_most zero = omega arith
before_most (suc m) = omega arith

module _ (n : Nest) (shape : is_shape n.points ≡ true) (fit : AllFit n.points n.deps) where
  abbrev tables : Tables
  tables = T n shape fit

  abbrev OfLoop : ℕ → Head → Type 0
  OfLoop = HeadOf n (plain_key n) (laws n shape fit) fit tables (table n shape fit) (costs n shape fit)

  abbrev IsLow : Head → Type 0
  IsLow = Low n (plain_key n) (laws n shape fit) fit tables (table n shape fit) (costs n shape fit)

  abbrev IsSide : Head → Type 0
  IsSide = Side n (plain_key n) (laws n shape fit) fit tables (table n shape fit) (costs n shape fit)

  front_high : (d q : ℕ) → is_do n.points d ≡ true → d < q → q ≤ end_of n.points d →
      tables.left d q ≤ end_of n.points d
  front_high = left_high n (plain_key n) (laws n shape fit) fit tables (table n shape fit) (costs n shape fit)

  loop_head : (d : ℕ) (h : Head) → OfLoop d h → HeadIn (length n.points) h
  loop_head d h of = ⊎_elim
      (λ (l : IsLow h).
      record { loop_in = loop; from_in = omega (arith, loop, l.from_is); upto_in = omega (arith, loop, l.upto_is) })
      (λ (s : IsSide h).
      record {
        loop_in = loop;
        from_in = ⊎_elim (λ (z : h.from ≡ s.at). omega (arith, z, s.high, end))
            (λ (z : (h.from ≡ 0) × (s.at ≡ suc h.loop)). omega (arith, z.0, loop)) s.from_is;
        upto_in = omega (
          arith,
          s.upto_is,
          before_most (tables.left h.loop s.at),
          front_high h.loop s.at of.is-do s.low s.high,
          end,
        );
      })
      of.kind
    where
      loop : h.loop < length n.points
      loop = point_in n.points h.loop 0 of.is-do

      end : end_of n.points h.loop < length n.points
      end = end_there n.points shape h.loop of.is-do

  of-loop : (d : ℕ) (h : Head) → Among h (loop_heads n.points tables d) → OfLoop d h
  of-loop = head_of n (plain_key n) (laws n shape fit) fit tables (table n shape fit) (costs n shape fit)

-- ---- all claims

-- a claim as its head and the claims before it make it
pub record Numbered (p x m : ℕ) (k : Claim) : Type 0 where
  pub loop_in : k.loop < p
  pub from_in : k.from < p
  pub upto_in : k.upto < p
  pub each : (s : Step) → Among s k.steps → Named x m s

-- of a nest without barred gaps: the numbers of its points, of its dependences and 2, of its claims and 1
pub plain_numbered : (n : Nest) → is_valid n ≡ true → (k : Claim) → Among k (plain_argument n.points n.deps) →
    Numbered (length n.points) (length n.deps) (length (plain_argument n.points n.deps)) k
plain_numbered n valid =
    let v = valid_is n valid in
    let fit = deps_fit n.points n.deps v.all-deps in
    let t : Tables = T n v.shape fit in
    each_claim n.points n.deps
    (Numbered (length n.points) (length n.deps) (length (plain_argument n.points n.deps)))
    (λ h before l a few.
    (let i = loop_head n v.shape fit l h (of-loop n v.shape fit l h a) in
    let f = steps_named n.points n.deps t (lead_in t before) (length (plain_argument n.points n.deps))
    (λ l b. omega (arith, claim_num before l b (t.left l b), few)) h in
    record { loop_in = i.loop_in; from_in = i.from_in; upto_in = i.upto_in; each = f.of }))

-- the argument of a key is one that a text spells
pub argument_spells : (n : Nest) → is_valid n ≡ true → is_blocked n ≡ false → Spells (argument_of n)
argument_spells n valid unblocked =
    record {
      few_claims = omega (arith, few_claims n valid unblocked);
      each = λ k a. spelled k (few_steps n valid unblocked k a) (numbered (plain_of n valid unblocked) k a);
    }
  where
    numbered : PlainOf (argument_of n) → (k : Claim) → Among k (argument_of n) → Numbered POINTS DEPENDENCES MOST-CLAIMS k
    numbered p k a =
        let v = valid_is p.nest p.valid in
        let b : Among k (plain_argument p.nest.points p.nest.deps) =
        subst (λ (cs : List Claim). Among k cs) p.is a in
        let i = plain_numbered p.nest p.valid k b in
        let few : length (plain_argument p.nest.points p.nest.deps) ≤ MOST-CLAIMS =
        omega (arith, few_claims n valid unblocked, ap length p.is) in
        record {
          loop_in = omega (arith, i.loop_in, v.few_points);
          from_in = omega (arith, i.from_in, v.few_points);
          upto_in = omega (arith, i.upto_in, v.few_points);
          each = λ s c. (
              let j = i.each s c in
              record {
                set_in = omega (arith, j.set_in, v.few_deps);
                via_in = omega (arith, j.via_in, few);
              });
        }

    spelled : (k : Claim) → length k.steps ≤ MOST-STEPS → Numbered POINTS DEPENDENCES MOST-CLAIMS k → ClaimSpells k
    spelled k h i =
        record {
          loop_fits = i.loop_in;
          from_fits = i.from_in;
          upto_fits = i.upto_in;
          few_steps = omega (arith, h);
          each = λ s c. (
              let j = i.each s c in
              record { set-fits = omega (arith, j.set_in); via_fits = omega (arith, j.via_in) });
        }
