-- A loop in which nothing is to be cut, nor in the loops inside it: its rows are 0, as they were.
-- Main statements: `quiet_row`, `quiet_done`.
use mathlib.Core.Path.{◌≡◌, refl, sym, ◌∙◌}
use mathlib.Core.Bool.{Bool, true, false}
use mathlib.Core.List.{List}
use mathlib.Core.Logic.{⊎_elim}
use Prim.Native.Nat.{ℕ, zero, suc, ◌+◌, ◌*◌, ◌≤◌, ◌<◌}
use native.Mathlib.Omega.{arith}
use Rattle.laws.specs.Bits.{one}
use Rattle.laws.specs.Entries.{at}
use Rattle.laws.proofs.Tests.{eq_or, false_by, never_both}
use Rattle.paper_nests.specs.Loops.{is_do, end_of}
use Rattle.paper_nests.specs.Valid.{is_shape}
use Rattle.paper_nests.proofs.Loops.{end-after, nested}
use Rattle.plan_method.specs.Sweep.{Lines, Tables, some_of, front_of, choice_of, IsTable}
use Rattle.plan_method.specs.Home.{loops_in}
use Rattle.plan_method.proofs.World.{LoopLaws}
use Rattle.plan_method.proofs.Instance.{loop_laws}
use Rattle.plan_method.proofs.Rows.{Holder, some_home, row_idle}
use Rattle.plan_sweeps.specs.Listed.{row}
use Rattle.plan_settle.specs.Settled.{HasHeight, LinesAt, Quiet, Unset, SettleSays}
use Rattle.plan_settle.proofs.Heights.{height_low, height_high}
use Rattle.plan_settle.proofs.Calls.{Call}

-- what is no home
one_none : (b : Bool) → one b ≡ 0 → b ≡ false
one_none false h = refl
one_none true h = absurd (omega arith)

module _
    {ps own ends reach limit has left choice : List ℕ} {d h : ℕ} (a : Call ps own ends reach limit has left choice d h)
    (quiet : Quiet has d (at ends d))
  where
    abbrev shape : is_shape ps ≡ true
    shape = a.charts.shape

    -- a loop of d's range ends no later than d
    inside : (l : ℕ) → is_do ps l ≡ true → d ≤ l → l < end_of ps d → end_of ps l ≤ end_of ps d
    inside l j x y = ⊎_elim
        (λ (z : l ≡ d). rw z (omega arith))
        (λ (z : l ≡ d → ⊥). omega (arith, nested ps shape d l a.is-do j (omega arith) (omega arith)))
        (eq_or l d)

    module _
        (N : Lines) (T : Tables) (t : IsTable (loops_in ps) N T) (n : LinesAt ps N reach limit has)
      where
        laws : LoopLaws (loops_in ps)
        laws = loop_laws ps shape

        no_home : (l : ℕ) → is_do ps l ≡ true → d ≤ l → l < end_of ps d → N.has l ≡ false
        no_home l j x y = one_none (N.has l) (sym (n.has_is l j) ∙ quiet l x (omega (arith, a.e_is)))

        -- nothing is to be cut in the loop l, as in those after it; k is how many points there are from l on
        nothing : (k l : ℕ) → end_of ps d ≤ l + k → is_do ps l ≡ true → d ≤ l → l < end_of ps d →
            some_of (loops_in ps) N T l ≡ false
        nothing zero l m j x y = absurd (omega arith)
        nothing (suc k) l m j x y = false_by λ z. ⊎_elim
            (λ (b : N.has l ≡ true). never_both b (no_home l j x y))
            (λ (b : Holder (loops_in ps) T l). holds b (nothing k b.loop))
            (some_home (loops_in ps) N T l z)
          where
            holds
                : (b : Holder (loops_in ps) T l)
                → (end_of ps d ≤ b.loop + k → is_do ps b.loop ≡ true → d ≤ b.loop → b.loop < end_of ps d →
                some_of (loops_in ps) N T b.loop ≡ false)
                → ⊥
            holds b r =
                let c = b.loop in
                let s : some_of (loops_in ps) N T c ≡ false =
                r (omega (arith, b.above)) b.is-do (omega (arith, b.above))
                (omega (arith, b.below, inside l j x y)) in
                let e = end-after ps shape c b.is-do in
                let o = row_idle (loops_in ps) laws N T t c b.is-do (suc c) (omega arith) e s in
                omega (arith, o.1, b.there)

        pub quiet_row : (l q : ℕ) → is_do ps l ≡ true → d ≤ l → l < end_of ps d → l < q → q ≤ end_of ps l →
            (T.left l q ≡ 0) × (T.choice l q ≡ 0)
        unfolding choice_of front_of
        quiet_row l q j x y u v =
            let s = nothing (end_of ps d) l (omega arith) j x y in
            ((row_idle (loops_in ps) laws N T t l j q u v s).1, t.choice_is l q j u v ∙ rw (s, choice_of))

    -- the places of a loop of d's range
    unset : (xs : List ℕ) → Unset xs d (end_of ps d) → (l k q : ℕ) → is_do ps l ≡ true → d ≤ l → l < end_of ps d →
        HasHeight ps l k → l < q → q ≤ end_of ps l → row xs (k * 256) q ≡ 0
    unset xs w l k q j x y c u v = w k q (height_low ps shape l k j c) (height_high ps l k c) (omega arith)
        (omega (arith, inside l j x y))

    pub quiet_done : SettleSays ps reach limit has left choice left choice d
    quiet_done =
        record {
          rows = λ N T t n. record {
            left_is = λ l k q j x y c u v. unset left a.left_unset l k q j x y c u v ∙
                sym (quiet_row N T t n l q j x y u v).0;
            choice_is = λ l k q j x y c u v. unset choice a.choice_unset l k q j x y c u v ∙
                sym (quiet_row N T t n l q j x y u v).1;
          };
          fronts = λ l k q j x y c u v. rw (unset left a.left_unset l k q j x y c u v)
              record { low = λ z. absurd (omega arith); high = omega arith };
          left_kept = λ r q x y. refl;
          choice_kept = λ r q x y. refl;
        }
