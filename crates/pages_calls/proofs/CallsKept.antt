-- The count of barrier calls keeps the page of request 11.
-- Main statements: `times_is`, `times_made`, `calls_are`, `calls_made`, `calls_number`, `calls_kept`.
use mathlib.Core.Path.{◌≡◌, refl, sym, ◌∙◌, ap, subst}
use mathlib.Core.Bool.{Bool, true, false, ◌&&◌, not}
use mathlib.Core.List.{List, [], ◌∷◌}
use mathlib.Core.Logic.{⊎_elim}
use Prim.Native.Nat.{ℕ, zero, suc, ◌+◌, ◌*◌, ◌≤◌, ◌<◌}
use native.Mathlib.Omega.{arith}
use lib.Dec.{eqb, leb}
use lib.ListN.{length, get_or}
use borrow.Author.Tests.{eq-eqb, eqb-true, leb-true, le-leb}
use Rattle.laws.specs.Choice.{pick, when, first_of, between}
use Rattle.laws.proofs.Ranges.{in_between, between_in}
use Rattle.laws.proofs.Choices.{first_zero, unless_zero}
use Rattle.laws.proofs.Tests.{never_both, and_true, and_intro, false_by, le_or}
use Rattle.paper_nests.specs.declared.Nest as DN
use Rattle.paper_nests.specs.Nests.{Nest}
use Rattle.paper_nests.specs.Loops.{is_do, end_of}
use Rattle.paper_nests.specs.Valid.{is_shape, is_valid}
use Rattle.paper_nests.specs.Stored.{nest_in}
use Rattle.paper_nests.proofs.Levels.{point_in}
use Rattle.paper_placements.specs.Placements.{is_correct}
use Rattle.paper_placements.specs.Words.{gaps_in}
use Rattle.run_barriers.specs.Calls.{INNER, OUTER, dos_before, turns_of, times_from, calls_in, are_turns}
use Rattle.desk.specs.declared.Desk as DD
use Rattle.desk.specs.Desks.{desk_in, IsMade, state_fault}
use Rattle.desk.proofs.Ready.{ready}
use Rattle.call_runs.specs.declared.Calls as CC
use Rattle.call_runs.specs.Says.{can_count, calls_fault, CallsSays}
use Rattle.call_runs.proofs.Countable.{countable}
use Rattle.call_runs.proofs.Fewest.{no_fewer}
use Rattle.pages.specs.Demands.{At, Loop, paper_in, Correct, KeyOn, OutOfTurn}
use Rattle.pages_calls.specs.MissingRuns.{flags_in}
use Rattle.pages_calls.specs.CallsInRun.{Dos, Times, Calls, Countable, CallsNumber, CallsInRun}
use Rattle.pages.proofs.Lists.{at_is, is_at}
use Rattle.pages.proofs.Bodies.{loop_end, loop_do, loop_at}
use Rattle.pages.proofs.Placements.{nest_of, nest_of_paper, correct_is}
use Rattle.pages.proofs.Keys.{shaped}
use Rattle.pages.proofs.Desks.{reached_made}
use Rattle.pages.proofs.Kept.{paper_on, flags_of, key_same}

module _ (ps : List ℕ) where
  at_do : (a : ℕ) → is_do ps a ≡ true → At ps a 1
  at_do a h = is_at ps a 1 0 (point_in ps a 0 h) (eqb-true (get_or ps a 0) 1 h)

  do_at : (a : ℕ) → At ps a 1 → is_do ps a ≡ true
  do_at a h = eq-eqb (get_or ps a 0) 1 (at_is ps a 1 0 h)

  dos_is : (a i : ℕ) → Dos ps a i → dos_before ps a ≡ i
  unfolding dos_before
  dos_is a i Dos.none = refl
  dos_is a i (Dos.one {a = b} {i = j} h r) = let z = dos_is b j r in rw (do_at b h) (omega arith)
  dos_is a i (Dos.other {a = b} {i = j} h r) =
      let z = dos_is b j r in
      rw (false_by (λ (q : is_do ps b ≡ true). h (at_do b q))) (omega arith)

  dos_made : (a : ℕ) → Dos ps a (dos_before ps a)
  unfolding dos_before
  dos_made zero = Dos.none
  dos_made (suc a) = go (is_do ps a) refl (dos_made a)
    where
      go : (t : Bool) → is_do ps a ≡ t → Dos ps a (dos_before ps a) → Dos ps (suc a) (when t 1 + dos_before ps a)
      go true h r = let w : 1 + dos_before ps a ≡ suc (dos_before ps a) = omega arith in rw w (Dos.one (at_do a h) r)
      go false h r =
          let w : 0 + dos_before ps a ≡ dos_before ps a = omega arith in
          rw w (Dos.other (λ q. never_both (do_at a q) h) r)

  -- a DO before b counts
  dos_below : (a b : ℕ) → is_do ps a ≡ true → a < b → dos_before ps a < dos_before ps b
  unfolding dos_before
  dos_below a zero h l = absurd (omega arith)
  dos_below a (suc b) h l = ⊎_elim here (λ (z : a < b). later (dos_below a b h z)) (le_or b a)
    where
      more : (t : Bool) → dos_before ps b ≤ when t 1 + dos_before ps b
      more true = omega arith
      more false = omega arith

      here : b ≤ a → dos_before ps a < when (is_do ps b) 1 + dos_before ps b
      here z = let e : a ≡ b = omega arith in rw (← e) (rw h (omega arith))

      later : dos_before ps a < dos_before ps b → dos_before ps a < when (is_do ps b) 1 + dos_before ps b
      later z = omega (arith, z, more (is_do ps b))

module _ (ps ts : List ℕ) (shape : is_shape ps ≡ true) (g : ℕ) where
  around : (b : ℕ) → (is_do ps b && leb g (end_of ps b)) ≡ true → Loop ps b (end_of ps b) × (g ≤ end_of ps b)
  around b q =
      let z = and_true (is_do ps b) (leb g (end_of ps b)) q in
      (loop_at ps shape b z.0, leb-true g (end_of ps b) z.1)

  pub times_is : (a k : ℕ) → Times ps ts g a k → times_from ps ts a g ≡ k
  unfolding times_from
  times_is a k Times.none = refl
  times_is a k (Times.around {a = b} {e = e} {i = i} {k = j} t l m d h r) =
      let z = times_is b j r in
      let on : (is_do ps b && leb g (end_of ps b)) ≡ true =
      and_intro (loop_do ps b e l) (le-leb g (end_of ps b) (omega (arith, m, loop_end ps b e l))) in
      let turn : turns_of ps ts b ≡ t = ap (λ (x : ℕ). get_or ts x 1) (dos_is ps b i d) ∙ at_is ts i t 1 h in
      rw on (rw (turn, z))
  times_is a k (Times.other {a = b} {k = j} h r) =
      let z = times_is b j r in
      let off : (is_do ps b && leb g (end_of ps b)) ≡ false =
      false_by (λ (q : (is_do ps b && leb g (end_of ps b)) ≡ true). h (end_of ps b) (around b q).0 (around b q).1) in
      rw off z

  module _ (long : length ts ≡ dos_before ps (length ps)) where
    pub times_made : (a : ℕ) → Times ps ts g a (times_from ps ts a g)
    unfolding times_from
    times_made zero = Times.none
    times_made (suc a) = go (is_do ps a && leb g (end_of ps a)) refl (times_made a)
      where
        go
            : (t : Bool) → (is_do ps a && leb g (end_of ps a)) ≡ t → Times ps ts g a (times_from ps ts a g)
            → Times ps ts g (suc a) (pick t (turns_of ps ts a * times_from ps ts a g) (times_from ps ts a g))
        go true h r =
            let z = and_true (is_do ps a) (leb g (end_of ps a)) h in
            let l = dos_below ps a (length ps) z.0 (point_in ps a 0 z.0) in
            Times.around (turns_of ps ts a) (loop_at ps shape a z.0) (leb-true g (end_of ps a) z.1) (dos_made ps a)
            (is_at ts (dos_before ps a) (turns_of ps ts a) 1 (omega arith) refl) r
        go false h r =
            Times.other
            (λ e l m.
            never_both
            (and_intro (loop_do ps a e l) (le-leb g (end_of ps a) (omega (arith, m, loop_end ps a e l))))
            h)
            r

module _ (ps ts : List ℕ) (shape : is_shape ps ≡ true) where
  pub calls_are : (gs : List ℕ) (c : ℕ) → Calls ps ts gs c → calls_in ps ts gs ≡ c
  unfolding calls_in
  calls_are gs c Calls.none = refl
  calls_are gs c (Calls.more {g = g} {k = k} {c = b} {gs = hs} t r) =
      let y = times_is ps ts shape g g k t in
      let z = calls_are hs b r in
      omega arith

  pub calls_made : length ts ≡ dos_before ps (length ps) → (gs : List ℕ) → Calls ps ts gs (calls_in ps ts gs)
  unfolding calls_in
  calls_made long [] = Calls.none
  calls_made long (g ∷ gs) = Calls.more (times_made ps ts shape g long g) (calls_made long gs)

module _ (d : DD.Desk) (m : IsMade d) (ts : List ℕ) (r : CC.Calls) (h : CallsSays d ts r) (z : r.number ≡ 0) where
  no_fault : calls_fault INNER (desk_in d) ts ≡ 0
  no_fault = sym h.number_is ∙ z

  parts : (state_fault true (desk_in d) ≡ 0) × (when (not (can_count INNER (nest_in d.nest) ts)) 17 ≡ 0)
  parts = first_zero (state_fault true (desk_in d)) (when (not (can_count INNER (nest_in d.nest) ts)) 17) no_fault

  long : length ts ≡ dos_before (paper_on d).points (length (paper_on d).points)
  long =
      let f =
      countable INNER (nest_in d.nest) ts (unless_zero (can_count INNER (nest_in d.nest) ts) 16 parts.1) in
      eqb-true (length ts) (dos_before (paper_on d).points (length (paper_on d).points))
      (and_true (eqb (length ts) (dos_before (paper_on d).points (length (paper_on d).points)))
      (are_turns OUTER INNER ts) f.fits).0

  shape : is_shape (paper_on d).points ≡ true
  shape = (ready d m parts.0).shape

  right_valid : is_valid (nest_of (paper_on d) (flags_of d)) ≡ true
  right_valid = ap is_valid (sym (nest_of_paper d.nest)) ∙ (ready d m parts.0).valid

  key_called : (key : List ℕ) → KeyOn d key → Calls (paper_on d).points ts key r.calls
  key_called key k =
      let c : r.calls ≡ calls_in (paper_on d).points ts (gaps_in d.key.words) =
      rw (eq-eqb (calls_fault INNER (desk_in d) ts) 0 no_fault) at h.calls_are in
      subst (λ (x : ℕ). Calls (paper_on d).points ts key x)
      (ap (λ (x : List ℕ). calls_in (paper_on d).points ts x) (key_same d m key k) ∙ sym c)
      (calls_made (paper_on d).points ts shape long key)

  none_fewer : (ys : List ℕ) (c : ℕ) → Correct (paper_on d) ys → Calls (paper_on d).points ts ys c → r.calls ≤ c
  none_fewer ys c ok w =
      let n = nest_of (paper_on d) (flags_of d) in
      let i = correct_is (paper_on d) (flags_of d) (shaped (paper_on d) (flags_of d) right_valid) ys ok in
      let j : is_correct (nest_in d.nest) ys ≡ true =
      ap (λ (x : Nest). is_correct x ys) (nest_of_paper d.nest) ∙ i in
      let l = no_fewer d ts ys r m h z j in
      let e = calls_are (paper_on d).points ts shape ys c w in
      omega (arith, l, e)

-- ---- the numbers

module _ (inner : ℕ) where
  turns_each
      : (low : ℕ) (ts : List ℕ) → are_turns low inner ts ≡ true
      → ((t : ℕ) → At ts 0 t → (low ≤ t) × (t ≤ 16)) × ((i t : ℕ) → At ts (suc i) t → (inner ≤ t) × (t ≤ 16))
  turns_each low [] h = ((λ t a. absurd a), (λ i t a. absurd a))
  turns_each low (x ∷ xs) h =
      let z = and_true (between low x 16) (are_turns inner inner xs) h in
      let b = in_between low x 16 z.0 in
      let r = turns_each inner xs z.1 in (
        (λ t a. (omega (arith, a, b.0), omega (arith, a, b.1))),
        (λ i t a. rest i t a r),
      )
    where
      rest
          : (i t : ℕ) → At xs i t
          → ((t : ℕ) → At xs 0 t → (inner ≤ t) × (t ≤ 16)) × ((i t : ℕ) → At xs (suc i) t → (inner ≤ t) × (t ≤ 16))
          → (inner ≤ t) × (t ≤ 16)
      rest zero t a r = r.0 t a
      rest (suc i) t a r = r.1 i t a

  each_turns
      : (low : ℕ) (ts : List ℕ) → ((t : ℕ) → At ts 0 t → (low ≤ t) × (t ≤ 16))
      → ((i t : ℕ) → At ts (suc i) t → (inner ≤ t) × (t ≤ 16)) → are_turns low inner ts ≡ true
  each_turns low [] f g = refl
  each_turns low (x ∷ xs) f g =
      let b = f x refl in
      and_intro (between_in low x 16 b.0 b.1) (each_turns inner xs (λ t a. g 0 t a) (λ i t a. g (suc i) t a))

  countable_is : (n : DN.Nest) (ts : List ℕ) → Countable inner n ts → can_count inner (nest_in n) ts ≡ true
  countable_is n ts c =
      and_intro (eq-eqb (length (paper_in n).barred) 0 (ap length c.unbarred))
      (and_intro (eq-eqb (length (flags_in n)) 0 (ap length c.unflagged))
      (and_intro
      (eq-eqb (length ts) (dos_before (paper_in n).points (length (paper_in n).points))
      (sym (dos_is (paper_in n).points (length (paper_in n).points) (length ts) c.many)))
      (each_turns 1 ts c.outermost c.others)))

  is_countable : (n : DN.Nest) (ts : List ℕ) → can_count inner (nest_in n) ts ≡ true → Countable inner n ts
  is_countable n ts h =
      let c = countable inner (nest_in n) ts h in
      let ps = (paper_in n).points in
      let z = and_true (eqb (length ts) (dos_before ps (length ps))) (are_turns OUTER inner ts) c.fits in
      let t = turns_each OUTER ts z.1 in
      record {
        many =
            subst (λ (k : ℕ). Dos ps (length ps) k) (sym (eqb-true (length ts) (dos_before ps (length ps)) z.0))
            (dos_made ps (length ps));
        outermost = t.0;
        others = t.1;
        unflagged = c.none_flagged;
        unbarred = c.none_barred;
      }

  pub calls_number : (d : DD.Desk) (ts : List ℕ) → CallsNumber inner d ts (calls_fault inner (desk_in d) ts)
  calls_number d ts = go d.loaded d.planned (can_count inner (nest_in d.nest) ts) refl refl refl
    where
      go
          : (a b c : Bool) → d.loaded ≡ a → d.planned ≡ b → can_count inner (nest_in d.nest) ts ≡ c
          → CallsNumber inner d ts (first_of (first_of (when (not a) 10) (when (true && not b) 11)) (when (not c) 17))
      go false b c x y z = CallsNumber.turn (OutOfTurn.no_nest x)
      go true false c x y z = CallsNumber.turn (OutOfTurn.no_key x y)
      go true true false x y z = CallsNumber.not_countable y (λ k. never_both (countable_is d.nest ts k) z)
      go true true true x y z = CallsNumber.none y (is_countable d.nest ts z)

pub calls_kept : CallsInRun
calls_kept =
    record {
      number =
          λ d ts r q h. (
            subst (λ (k : ℕ). CallsNumber 2 d ts k) (sym h.number_is)
                (calls_number 2 d ts),
            h.line_is,
          );
      key_calls = λ d key ts r q k h z. key_called d (reached_made d q) ts r h z key k;
      fewest = λ d ts ys r c q h z ok w. none_fewer d (reached_made d q) ts r h z ys c ok w;
    }
