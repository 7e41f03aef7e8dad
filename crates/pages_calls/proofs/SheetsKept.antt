-- The call on timing sheets keeps its page: a finish time of the page is that of the project's definition, since the
-- latest of some times is attained where there is one, and everyone waits for itself.
-- Main statements: `sets_are`, `are-sets`, `finish-is`, `finished`, `sheets_kept`.
use mathlib.Core.Path.{◌≡◌, refl, sym, ◌∙◌, ap, subst}
use mathlib.Core.Bool.{Bool, true, false, not}
use mathlib.Core.List.{List, [], ◌∷◌}
use mathlib.Core.Logic.{◌⊎◌, inl, inr, ⊎_elim}
use Prim.Native.Nat.{ℕ, zero, suc, ◌+◌, ◌-◌, ◌*◌, ◌/◌, ◌%◌, ◌^◌, ◌≤◌, ◌<◌}
use native.Mathlib.Nat.{suc-mul, mul-le-mul_right, mul-add-mod_self_right, mod-eq_of_lt, le-div_iff_mul-le, pow-suc}
use native.Mathlib.Omega.{arith}
use lib.Dec.{eqb, ltb}
use lib.Count.{count_trailing_zeros}
use lib.ListN.{length, get_or, get_or-eq_default}
use lib.Pow.{pow_pos}
use borrow.Author.Tests.{eq-eqb, eqb-true, ltb-true, lt-ltb, le-ltb}
use Rattle.laws.specs.Choice.{pick, when, first_of}
use Rattle.laws.specs.Bits.{bit}
use Rattle.laws.proofs.Tests.{never_both, and_true, and_intro, lt_by, le_or, eq_or}
use Rattle.laws.proofs.Ranges.{between_in}
use Rattle.laws.proofs.Bits.{bit_zero, bit_high, bit_shifted, lowest_set}
use Rattle.call_sheet.specs.declared.RunEnds.{RunEnds}
use Rattle.call_sheet.specs.Sheets as S
use Rattle.call_sheet.specs.Sheets.{Sheet, sheet, latest, anyone, finish_by, is_sized, is_set, next_of, are_sets, sheet_fault}
use Rattle.call_sheet.specs.Says.{ends_of}
use Rattle.call_sheet.proofs.Latest.{latest_at}
use Rattle.call_sheet.proofs.Sets as C
use Rattle.call_sheet.proofs.FewerWaits as F
use Rattle.call_sheet.proofs.OwnWork as W
use Rattle.pages.specs.Demands.{At}
use Rattle.pages.proofs.Lists.{at_is, is_at}
use Rattle.pages_calls.specs.Sheets.{Member, Sized, OwnSets, Number, Waiting, Everyone, Latest, Finish, End}
use Rattle.pages_calls.specs.Sheets.{Work, Within, Told, Sheets}

-- ---- sets

member_is : (v q : ℕ) → Member v q → bit v q ≡ true
unfolding bit
member_is v q h = eq-eqb (v / 2 ^ q % 2) 1 h

is_member : (v q : ℕ) → bit v q ≡ true → Member v q
unfolding bit
is_member v q h = eqb-true (v / 2 ^ q % 2) 1 h

-- every number has few bits
below_power : (n : ℕ) → n < 2 ^ n
below_power zero = omega arith
below_power (suc n) = omega (arith, below_power n, pow-suc 2 n)

-- a set with none at or above m is below the m-th power of 2
set_below : (m v : ℕ) → ((q : ℕ) → Member v q → q < m) → v < 2 ^ m
set_below m v h =
    lt_by
    (λ (z : 2 ^ m ≤ v).
    let one : 1 ≤ v / 2 ^ m = (le-div_iff_mul-le (pow_pos m)).1 (omega arith) in
    let t = lowest_set (v / 2 ^ m) (v / 2 ^ m) one (below_power (v / 2 ^ m)) in
    let k = count_trailing_zeros (v / 2 ^ m) (v / 2 ^ m) in
    let l = h (m + k) (is_member v (m + k) (sym (bit_shifted v m k) ∙ t.1.set_there)) in
    omega (arith, l))

module _ (m : ℕ) where
  -- sets that follow each other from place k * m + p on
  sets_are
      : (k p : ℕ) (vs : List ℕ) → p < m
      → ((j i q v : ℕ) → q < m → At vs j v → k * m + p + j ≡ i * m + q → is_set m q v ≡ true) → are_sets m p vs ≡ true
  unfolding are_sets
  sets_are k p [] l h = refl
  sets_are k p (v ∷ vs) l h =
      and_intro (h 0 k p v l refl (omega arith))
      (⊎_elim
      (λ (z : m ≤ suc p).
      subst (λ (x : ℕ). are_sets m x vs ≡ true) (sym (ap (λ (t : Bool). pick t (suc p) 0) (le-ltb (suc p) m z)))
      (sets_are (suc k) 0 vs (omega arith)
      (λ j i q w a b e. h (suc j) i q w a b (omega (arith, e, suc-mul k m)))))
      (λ (z : suc p < m).
      subst (λ (x : ℕ). are_sets m x vs ≡ true) (sym (ap (λ (t : Bool). pick t (suc p) 0) (lt-ltb (suc p) m z)))
      (sets_are k (suc p) vs z (λ j i q w a b e. h (suc j) i q w a b (omega (arith, e)))))
      (le_or m (suc p)))

  one_place : (k p i q : ℕ) → p < m → q < m → k * m + p ≡ i * m + q → p ≡ q
  one_place k p i q l b e =
      sym (mod-eq_of_lt l) ∙ sym (mul-add-mod_self_right k m p) ∙
      ap (λ (x : ℕ). x % m) e ∙ mul-add-mod_self_right i m q ∙
      mod-eq_of_lt b

  are-sets
      : (k p : ℕ) (vs : List ℕ) → p < m → are_sets m p vs ≡ true → (j i q v : ℕ) → q < m → At vs j v
      → k * m + p + j ≡ i * m + q → is_set m q v ≡ true
  unfolding are_sets
  are-sets k p [] l h j i q v b a e = absurd a
  are-sets k p (w ∷ vs) l h zero i q v b a e =
      let z = one_place k p i q l b (omega (arith, e)) in
      subst (λ (x : ℕ). is_set m x v ≡ true) z
      (subst (λ (x : ℕ). is_set m p x ≡ true) a (and_true (is_set m p w) (are_sets m (next_of m p) vs) h).0)
  are-sets k p (w ∷ vs) l h (suc j) i q v b a e =
      let r = (and_true (is_set m p w) (are_sets m (next_of m p) vs) h).1 in
      ⊎_elim
      (λ (z : m ≤ suc p).
      are-sets (suc k) 0 vs (omega arith)
      (subst (λ (x : ℕ). are_sets m x vs ≡ true) (ap (λ (t : Bool). pick t (suc p) 0) (le-ltb (suc p) m z)) r)
      j i q v b a (omega (arith, e, suc-mul k m)))
      (λ (z : suc p < m).
      are-sets k (suc p) vs z
      (subst (λ (x : ℕ). are_sets m x vs ≡ true) (ap (λ (t : Bool). pick t (suc p) 0) (lt-ltb (suc p) m z)) r)
      j i q v b a (omega (arith, e)))
      (le_or m (suc p))

module _ (m n : ℕ) (ds ws : List ℕ) where
  abbrev s : Sheet
  s = sheet m n ds ws

  sized_is : Sized m n ds ws → is_sized s ≡ true
  sized_is z =
      let w : length ws ≡ (n - 1) * m = short (n - 1) (omega (arith, z.phases.0)) z.waits in
      and_intro (between_in 1 m 16 z.processors.0 z.processors.1)
      (and_intro (between_in 1 n 64 z.phases.0 z.phases.1)
      (and_intro (eq-eqb (length ds) (n * m) z.durations) (eq-eqb (length ws) ((n - 1) * m) w)))
    where
      short : (k : ℕ) → n ≡ suc k → length ws + m ≡ n * m → length ws ≡ k * m
      short k e h = let q : length ws + m ≡ suc k * m = rw e at h in omega (arith, q, suc-mul k m)

  is-sized : is_sized s ≡ true → Sized m n ds ws
  is-sized h =
      let c = C.sized_is s h in
      record {
        processors = (c.some_processor, c.few_processors);
        phases = (c.some_phase, c.few_phases);
        durations = c.durations_are;
        waits = long (n - 1) (omega (arith, c.some_phase)) c.waits_are;
      }
    where
      long : (k : ℕ) → n ≡ suc k → length ws ≡ (n - 1) * m → length ws + m ≡ n * m
      long k e h =
          let q : length ws ≡ (suc k - 1) * m = rw e at h in
          let y : suc k - 1 ≡ k = omega arith in
          let x : length ws ≡ k * m = rw y at q in
          rw e (omega (arith, x, suc-mul k m))

  own_are : 1 ≤ m → OwnSets m ws → are_sets m 0 ws ≡ true
  own_are l o =
      sets_are m 0 0 ws l
      (λ j i q v b a e.
      let z : j ≡ i * m + q = omega (arith, e) in
      let at : At ws (i * m + q) v = subst (λ (x : ℕ). At ws x v) z a in
      and_intro (member_is v q (o.own i q v b at))
      (lt-ltb v (2 ^ m) (set_below m v (λ x y. o.there i q v x b at y))))

  are_own : 1 ≤ m → are_sets m 0 ws ≡ true → OwnSets m ws
  are_own l h =
      record { own = λ k p v b a. is_member v p (one k p v b a).0; there = λ k p v q b a y. bound k p v q b a y }
    where
      one : (k p v : ℕ) → p < m → At ws (k * m + p) v → (bit v p ≡ true) × (ltb v (2 ^ m) ≡ true)
      one k p v b a =
          and_true (bit v p) (ltb v (2 ^ m))
          (are-sets m 0 0 ws l h (k * m + p) k p v b a (omega arith))

      bound : (k p v q : ℕ) → p < m → At ws (k * m + p) v → Member v q → q < m
      bound k p v q b a y =
          lt_by
          (λ (z : m ≤ q).
          never_both (member_is v q y) (bit_high v m q (ltb-true v (2 ^ m) (one k p v b a).1) z))

  number_is : Number m n ds ws (sheet_fault s)
  number_is = go (is_sized s) (are_sets m 0 ws) refl refl
    where
      go
          : (a b : Bool) → is_sized s ≡ a → are_sets m 0 ws ≡ b
          → Number m n ds ws (first_of (when (not a) 19) (when (not b) 20))
      go false b x y = Number.size (λ z. never_both (sized_is z) x)
      go true false x y =
          let z = is-sized x in
          Number.sets z (λ o. never_both (own_are z.processors.0 o) y)
      go true true x y = let z = is-sized x in Number.none z (are_own z.processors.0 y)

-- ---- the latest of some times

-- it is the time of one of those chosen, if there is one
record Attained (x : ℕ → Bool) (f : ℕ → ℕ) (n : ℕ) : Type 0 where
  who : ℕ
  low : who < n
  chosen : x who ≡ true
  is : f who ≡ latest x f n

abbrev Idle : (ℕ → Bool) → (ℕ → ℕ) → ℕ → Type 0
Idle x f n = ((q : ℕ) → q < n → x q ≡ true → ⊥) × (latest x f n ≡ 0)

latest_found : (x : ℕ → Bool) (f : ℕ → ℕ) (n : ℕ) → Attained x f n ⊎ Idle x f n
unfolding latest
latest_found x f zero = inr ((λ q l h. omega arith), refl)
latest_found x f (suc n) = go (x n) refl (latest_found x f n)
  where
    go : (t : Bool) → x n ≡ t → Attained x f n ⊎ Idle x f n → Attained x f (suc n) ⊎ Idle x f (suc n)
    go true e (inl a) =
        inl
        (⊎_elim
        (λ (z : latest x f n ≤ f n). record { who = n; low = omega arith; chosen = e; is = rw e (omega arith) })
        (λ (z : f n < latest x f n).
        record { who = a.who; low = omega (arith, a.low); chosen = a.chosen; is = rw e (omega (arith, a.is)) })
        (le_or (latest x f n) (f n)))
    go true e (inr a) = inl (record { who = n; low = omega arith; chosen = e; is = rw e (omega (arith, a.1)) })
    go false e (inl a) =
        inl (record { who = a.who; low = omega (arith, a.low); chosen = a.chosen; is = rw e (omega (arith, a.is)) })
    go false e (inr a) = inr ((λ q l h. none q l h (eq_or q n)), rw e (omega (arith, a.1)))
      where
        none : (q : ℕ) → q < suc n → x q ≡ true → (q ≡ n) ⊎ (q ≡ n → ⊥) → ⊥
        none q l h (inl z) = never_both (ap x (sym z) ∙ h) e
        none q l h (inr z) = a.0 q (omega arith) h

attained : (x : ℕ → Bool) (f : ℕ → ℕ) (n q : ℕ) → q < n → x q ≡ true → Attained x f n
attained x f n q l h = go (latest_found x f n)
  where
    go : Attained x f n ⊎ Idle x f n → Attained x f n
    go (inl a) = a
    go (inr i) = absurd (i.0 q l h)

-- two answers to the latest are one
one_latest : (Of : ℕ → Type 0) (Time : ℕ → ℕ → Type 0) (a b : ℕ) → Latest Of Time a → Latest Of Time b → a ≡ b
one_latest Of Time a b x y =
    let p = x.one in
    let q = y.one in
    omega (arith, y.none_later p.0 a p.1.0 p.1.1, x.none_later q.0 b q.1.0 q.1.1)

-- ---- finish times

-- who waits for whom, on the page and by a test
record Tested (m n : ℕ) (W : ℕ → ℕ → ℕ → Type 0) (w : S.Waits) : Type 0 where
  to : (k p q : ℕ) → suc k < n → p < m → W k p q → (w k p q ≡ true) × (q < m)
  from : (k p q : ℕ) → suc k < n → p < m → q < m → w k p q ≡ true → W k p q
  own : (k p : ℕ) → suc k < n → p < m → w k p p ≡ true

module _ (m n : ℕ) (ds ws : List ℕ) (W : ℕ → ℕ → ℕ → Type 0) (w : S.Waits) (tested : Tested m n W w)
    (long : length ds ≡ n * m) where
  abbrev finish : ℕ → ℕ → ℕ
  finish = finish_by w (sheet m n ds ws)

  there : (k p : ℕ) → k < n → p < m → k * m + p < length ds
  there k p l b =
      let rows : suc k ≤ n = l in
      omega (arith, long, suc-mul k m, mul-le-mul_right m rows)

  duration : (k p : ℕ) → k < n → p < m → At ds (k * m + p) (get_or ds (k * m + p) 0)
  duration k p l b = is_at ds (k * m + p) (get_or ds (k * m + p) 0) 0 (there k p l b) refl

  -- the finish time by the definition is one, and the only one, on the page
  record Finished (k p : ℕ) : Type 0 where
    made : Finish m ds W k p (finish k p)
    only : (x : ℕ) → Finish m ds W k p x → x ≡ finish k p

  latest_made
      : (k p : ℕ) → suc k < n → p < m → ((q : ℕ) → q < m → Finished k q)
      → Latest (W k p) (Finish m ds W k) (latest (w k p) (finish k) m)
  latest_made k p l b before =
      let a = attained (w k p) (finish k) m p b (tested.own k p l b) in
      record {
        one = (
          a.who,
          (
            tested.from k p a.who l b a.low a.chosen,
            subst (λ (x : ℕ). Finish m ds W k a.who x) a.is (before a.who a.low).made,
          ),
        );
        none_later =
            λ q x h f.
            let t = tested.to k p q l b h in
            omega (arith, (before q t.1).only x f, latest_at (w k p) (finish k) m q t.1 t.0);
      }

  finished : (k : ℕ) → k < n → (p : ℕ) → p < m → Finished k p
  unfolding finish_by
  finished zero l p b =
      let z : 0 * m + p ≡ p = omega arith in
      let a : At ds p (get_or ds (0 * m + p) 0) =
      subst (λ (i : ℕ). At ds i (get_or ds (0 * m + p) 0)) z (duration 0 p l b) in
      record { made = a; only = λ x f. sym (at_is ds p x 0 f) ∙ at_is ds p (get_or ds (0 * m + p) 0) 0 a }
  finished (suc k) l p b =
      let t = latest_made k p l b (λ q c. finished k (omega arith) q c) in
      record {
        made = (latest (w k p) (finish k) m, (get_or ds (suc k * m + p) 0, (t, duration (suc k) p l b, refl)));
        only =
            λ x f.
            let y = f.1 in
            let u = one_latest (W k p) (Finish m ds W k) f.0 (latest (w k p) (finish k) m) y.1.0 t in
            let v = at_is ds (suc k * m + p) y.0 0 y.1.1 in
            omega (arith, y.1.2, u, v);
      }

  ended : 1 ≤ n → 1 ≤ m → End m n ds W (S.end_by w (sheet m n ds ws))
  ended l b =
      let before : (q : ℕ) → q < m → Finished (n - 1) q = finished (n - 1) (omega arith) in
      let a = attained anyone (finish (n - 1)) m 0 b refl in (
        n - 1,
        (
          omega arith,
          record {
            one = (
              a.who,
              (
                a.low,
                subst (λ (x : ℕ). Finish m ds W (n - 1) a.who x) a.is (before a.who a.low).made,
              ),
            );
            none_later =
                λ q x h f.
                omega (arith, (before q h).only x f, latest_at anyone (finish (n - 1)) m q h refl);
          },
        ),
      )

-- ---- a sheet without fault

module _ (m n : ℕ) (ds ws : List ℕ) (z : Sized m n ds ws) (o : OwnSets m ws) where
  asked : (k p : ℕ) → suc k < n → p < m → At ws (k * m + p) (get_or ws (k * m + p) 0)
  asked k p l b =
      let rows : suc (suc k) ≤ n = l in
      is_at ws (k * m + p) (get_or ws (k * m + p) 0) 0
      (omega (arith, z.waits, suc-mul k m, suc-mul (suc k) m, mul-le-mul_right m rows)) refl

  waiting_tested : Tested m n (Waiting ws m) (S.waits_of (sheet m n ds ws))
  waiting_tested =
      record {
        to =
            λ k p q l b h. (
              ap (λ (x : ℕ). bit x q) (at_is ws (k * m + p) h.0 0 h.1.0) ∙ member_is h.0 q h.1.1,
              o.there k p h.0 q b h.1.0 h.1.1,
            );
        from = λ k p q l b c h. (get_or ws (k * m + p) 0, (asked k p l b, is_member (get_or ws (k * m + p) 0) q h));
        own = λ k p l b. member_is (get_or ws (k * m + p) 0) p (o.own k p (get_or ws (k * m + p) 0) b (asked k p l b));
      }

  everyone_tested : Tested m n (Everyone m) S.everyone
  everyone_tested =
      record {
        to = λ k p q l b h. (refl, h);
        from = λ k p q l b c h. c;
        own = λ k p l b. refl;
      }

  ends_waiting : End m n ds (Waiting ws m) (S.end_waiting (sheet m n ds ws))
  ends_waiting =
      ended m n ds ws (Waiting ws m) (S.waits_of (sheet m n ds ws)) waiting_tested z.durations z.phases.0
      z.processors.0

  ends_barriers : End m n ds (Everyone m) (S.end_barriers (sheet m n ds ws))
  ends_barriers =
      ended m n ds ws (Everyone m) S.everyone everyone_tested z.durations z.phases.0 z.processors.0

-- ---- the reply

module _ (m n : ℕ) (ds ws : List ℕ) where
  faultless : sheet_fault (sheet m n ds ws) ≡ 0 → Sized m n ds ws × OwnSets m ws
  faultless h = go (sheet_fault (sheet m n ds ws)) (number_is m n ds ws) h
    where
      go : (k : ℕ) → Number m n ds ws k → k ≡ 0 → Sized m n ds ws × OwnSets m ws
      go k (Number.size x) e = absurd (omega arith)
      go k (Number.sets x y) e = absurd (omega arith)
      go k (Number.none x y) e = (x, y)

  work_is : (p k x : ℕ) → Work m ds p k x → S.work_before (sheet m n ds ws) k p ≡ x
  unfolding S.work_before
  work_is p k x Work.none = refl
  work_is p k x (Work.more {k = j} w y r a) = omega (arith, work_is p j w r, at_is ds (j * m + p) y 0 a)

  module _ (r : RunEnds) (h : r ≡ ends_of (sheet m n ds ws)) where
    fault_is : r.number ≡ sheet_fault (sheet m n ds ws)
    fault_is = ap (λ (x : RunEnds). x.number) h

    waiting_is : r.number ≡ 0 → r.waiting ≡ S.end_waiting (sheet m n ds ws)
    waiting_is z =
        ap (λ (x : RunEnds). x.waiting) h ∙
        ap (λ (t : Bool). when t (S.end_waiting (sheet m n ds ws)))
        (eq-eqb (sheet_fault (sheet m n ds ws)) 0 (sym fault_is ∙ z))

    barriers_is : r.number ≡ 0 → r.barriers ≡ S.end_barriers (sheet m n ds ws)
    barriers_is z =
        ap (λ (x : RunEnds). x.barriers) h ∙
        ap (λ (t : Bool). when t (S.end_barriers (sheet m n ds ws)))
        (eq-eqb (sheet_fault (sheet m n ds ws)) 0 (sym fault_is ∙ z))

    told : Told m n ds ws r
    told =
        record {
          number = subst (λ (k : ℕ). Number m n ds ws k) (sym fault_is) (number_is m n ds ws);
          line = ap (λ (x : RunEnds). x.line) h;
          waiting =
              λ z.
              let f = faultless (sym fault_is ∙ z) in
              subst (λ (x : ℕ). End m n ds (Waiting ws m) x) (sym (waiting_is z))
              (ends_waiting m n ds ws f.0 f.1);
          barriers =
              λ z.
              let f = faultless (sym fault_is ∙ z) in
              subst (λ (x : ℕ). End m n ds (Everyone m) x) (sym (barriers_is z))
              (ends_barriers m n ds ws f.0 f.1);
        }

    none_earlier : r.waiting ≤ r.barriers
    none_earlier = go (eqb (sheet_fault (sheet m n ds ws)) 0) h
      where
        go
            : (t : Bool)
            → r ≡ record {
              number = sheet_fault (sheet m n ds ws);
              line = 0;
              waiting = when t (S.end_waiting (sheet m n ds ws));
              barriers = when t (S.end_barriers (sheet m n ds ws));
            }
            → r.waiting ≤ r.barriers
        go true e =
            omega (
              arith,
              ap (λ (x : RunEnds). x.waiting) e,
              ap (λ (x : RunEnds). x.barriers) e,
              F.barriers_last (sheet m n ds ws),
            )
        go false e = omega (arith, ap (λ (x : RunEnds). x.waiting) e, ap (λ (x : RunEnds). x.barriers) e)

    work_within
        : (p w : ℕ) → r.number ≡ 0 → p < m → Work m ds p n w → (w ≤ r.waiting) × (w ≤ r.barriers)
    work_within p w z l k =
        let o = W.own_work (sheet m n ds ws) (sym fault_is ∙ z) in
        let a = latest_at anyone (S.work_of (sheet m n ds ws)) m p l refl in
        let e = work_is p n w k in
        (omega (arith, o.0, a, e, waiting_is z), omega (arith, o.1, a, e, barriers_is z))

within_is : (ws vs : List ℕ) → Within ws vs → S.IsWithin ws vs
within_is ws vs h i q b =
    ⊎_elim
    (λ (z : length ws ≤ i).
    let y : get_or ws i 0 ≡ 0 = get_or-eq_default ws 0 z in
    never_both (ap (λ (x : ℕ). bit x q) (sym y) ∙ b) (bit_zero q))
    (λ (z : i < length ws).
    let u = h i q (get_or ws i 0) (is_at ws i (get_or ws i 0) 0 z refl) (is_member (get_or ws i 0) q b) in
    ap (λ (x : ℕ). bit x q) (at_is vs i u.0 0 u.1.0) ∙ member_is u.0 q u.1.1)
    (le_or (length ws) i)

pub sheets_kept : Sheets
sheets_kept =
    record {
      told = told;
      fewer_waits =
          λ m n ds ws vs r s h k y z w.
          omega (
            arith,
            waiting_is m n ds ws r h y,
            waiting_is m n ds vs s k z,
            F.fewer_waits m n ds ws vs (within_is ws vs w),
          );
      barriers_last = none_earlier;
      own_work = λ m n ds ws r p w h z l k. work_within m n ds ws r h p w z l k;
    }
