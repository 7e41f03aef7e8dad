-- The loop's own row, made when all loops inside it are settled: the code's lists agree with the nest on the loop's
-- range, so that the row is the one of the planner's tables.
-- Main statements: `agree`, `done`.
use mathlib.Core.Path.{◌≡◌, refl, sym, ◌∙◌}
use mathlib.Core.Bool.{true, ◌||◌}
use mathlib.Core.List.{List}
use mathlib.Core.Logic.{⊎_elim}
use Prim.Native.Nat.{ℕ, suc, ◌-◌, ◌*◌, ◌≤◌, ◌<◌}
use native.Mathlib.Omega.{arith}
use lib.Dec.{ltb}
use Rattle.laws.specs.Entries.{at}
use Rattle.laws.proofs.Tests.{le_or}
use Rattle.paper_nests.specs.Kinds.{POINTS}
use Rattle.paper_nests.specs.Loops.{is_do, end_of}
use Rattle.paper_nests.specs.Valid.{is_shape}
use Rattle.paper_nests.proofs.Loops.{end_there}
use Rattle.plan_method.specs.Sweep.{Loops, Lines, Tables, some_of, child_some, IsTable}
use Rattle.plan_method.specs.Home.{loops_in}
use Rattle.plan_method.proofs.World.{Child, LoopLaws}
use Rattle.plan_method.proofs.Instance.{loop_laws}
use Rattle.plan_method.proofs.Alike.{Alike}
use Rattle.plan_method.proofs.AlikeRows.{some_alike, left_alike, choice_alike}
use Rattle.plan_sweeps.specs.Listed.{row, listed, tabled}
use Rattle.plan_starts.specs.Grounds.{Within}
use Rattle.plan_rows.specs.Valued.{lined}
use Rattle.plan_rows.specs.Made.{Copied, RowMade}
use Rattle.plan_settle.specs.Settled.{HasHeight, Charts, LinesAt, Rows, SettleSays}
use Rattle.plan_settle.proofs.Heights.{height_low, child_height, inner_height, kept_columns, kept_row}
use Rattle.plan_settle.proofs.Calls.{Call}
use Rattle.plan_settle.proofs.Turns.{Sofar, Settling}

-- the nest and the code's lists agree on the range of d
pub agree
    : (ps own ends reach limit has left choice : List ℕ) (d e h : ℕ) (need : List ℕ) (N : Lines) (T : Tables)
    → Charts ps own ends
    → is_do ps d ≡ true
    → HasHeight ps d h
    → e ≡ end_of ps d
    → LinesAt ps N reach limit has
    → Rows ps T left choice (suc d) e
    → Copied reach (h * 256) d e need
    → Alike (loops_in ps) (listed ps own e) N (lined (N.has d) need limit (h * 256)) T
    (tabled left (h * 256 - 256) T.lay) d
agree ps own ends reach limit has left choice d e h need N T w is-do height e_is n r c =
    record {
      stop_is = sym e_is;
      do_is = λ l a b. refl;
      end_is = λ p a b. refl;
      own_is = λ p a b. sym (w.own_is p (omega (arith, end_there ps w.shape d is-do)));
      has_is = refl;
      reach_is = λ a i j. sym (c a i (omega arith) ∙ n.reach_is d h a is-do height i j);
      limit_is = λ q i j. sym (n.limit_is d h q is-do height i j);
      left_is = λ l q k a b f. sym (kid l q k a b f);
      lay_is = λ l q g k a b f. refl;
    }
  where
    kid : (l q : ℕ) → Child (loops_in ps) d (end_of ps l) l → l < end_of ps d → l < q → q ≤ end_of ps l →
        row left (h * 256 - 256) q ≡ T.left l q
    kid l q k a b f =
        let u : h * 256 - 256 ≡ (h - 1) * 256 = omega (arith, height_low ps w.shape d h is-do height) in
        rw u
        (r.left_is l (h - 1) q k.is-do k.below (omega arith)
        (child_height ps w.shape d l h is-do k.is-do k.below k.owner height) b f)

module _
    {ps own ends reach limit has left₀ choice₀ : List ℕ} {d h : ℕ}
    (a : Call ps own ends reach limit has left₀ choice₀ d h) {left choice : List ℕ} {some i : ℕ}
    (s : Settling ps reach limit has left₀ choice₀ d left choice some i) (all : at ends d ≤ i)
    {left' choice' : List ℕ} (m : RowMade ps own reach limit left choice left' choice' (h * 256) d (at ends d) some)
  where
    abbrev shape : is_shape ps ≡ true
    shape = a.charts.shape

    abbrev e : ℕ
    e = at ends d

    narrow : (l q : ℕ) → is_do ps l ≡ true → q ≤ end_of ps l → q < POINTS
    narrow l q j b = omega (arith, end_there ps shape l j, a.charts.few)

    at_end : i ≡ end_of ps d
    at_end = omega (arith, s.high, a.e_is)

    own_row : (N : Lines) (T : Tables) → IsTable (loops_in ps) N T → LinesAt ps N reach limit has → (q : ℕ) → d < q →
        q ≤ end_of ps d → (row left' (h * 256) q ≡ T.left d q) × (row choice' (h * 256) q ≡ T.choice d q)
    unfolding some_of
    own_row N T t n q x y = (
      m.left_is (N.has d) T.lay some_is q x (omega (arith, a.e_is)) ∙
          sym (left_alike (loops_in ps) B' laws N N' T T' d a.is-do alike q x y) ∙
          sym (t.left_is d q a.is-do x y),
      m.choice_is (N.has d) T.lay some_is q x (omega (arith, a.e_is)) ∙
          sym (choice_alike (loops_in ps) B' laws N N' T T' d a.is-do alike q x y) ∙
          sym (t.choice_is d q a.is-do x y),
    )
      where
        B' : Loops
        B' = listed ps own e

        N' : Lines
        N' = lined (N.has d) m.need limit (h * 256)

        T' : Tables
        T' = tabled left (h * 256 - 256) T.lay

        laws : LoopLaws (loops_in ps)
        laws = loop_laws ps shape

        f : Sofar ps N T left choice d some i
        f = s.sofar N T t n

        alike : Alike (loops_in ps) (listed ps own e) N (lined (N.has d) m.need limit (h * 256)) T
            (tabled left (h * 256 - 256) T.lay) d
        alike =
            let z : i ≡ e = omega (arith, at_end) in
            agree ps own ends reach limit has left choice d e h m.need N T a.charts a.is-do a.height
            a.e_is n (rw z at f.rows) m.need_is

        some-of : some_of (loops_in ps) N T d ≡ (N.has d || child_some (loops_in ps) T d (end_of ps d))
        some-of = refl

        some_is : some_of (listed ps own e) (lined (N.has d) m.need limit (h * 256))
            (tabled left (h * 256 - 256) T.lay) d ≡ ltb 0 some
        some_is = sym (some_alike (loops_in ps) B' laws N N' T T' d a.is-do alike) ∙ some-of ∙
            sym (rw at_end at f.some_is)

    pub done : SettleSays ps reach limit has left₀ choice₀ left' choice' d
    done =
        record {
          rows = rows;
          fronts = λ l k q j x b c u v. ⊎_elim
              (λ (y : l ≤ d).
              let z : l ≡ d = omega arith in
              own_front l k q z c u v)
              (λ (y : d < l). rw (kept_row left left' d e h short m.left_kept k q
              (inner_height ps shape d l h k a.is-do y (omega arith) a.height c) (narrow l q j v))
              (s.fronts l k q j y (omega (arith, at_end)) c u v))
              (le_or l d);
          left_kept = λ r q x y.
              rw a.e_is at (kept_columns left left' d e h short m.left_kept) r q x y ∙
              rw at_end at s.left_kept r q x y;
          choice_kept = λ r q x y.
              rw a.e_is at (kept_columns choice choice' d e h short m.choice_kept) r q x y ∙
              rw at_end at s.choice_kept r q x y;
        }
      where
        short : e < 256
        short = omega (arith, a.short, a.charts.few)

        own_front : (l k q : ℕ) → l ≡ d → HasHeight ps l k → l < q → q ≤ end_of ps l →
            Within l (end_of ps l) (row left' (k * 256) q)
        own_front l k q z c u v =
            let x : HasHeight ps d k = rw z at c in
            let y : k ≡ h = omega arith in
            let p : d < q = rw z at u in
            let b : q ≤ end_of ps d = rw z at v in
            rw (z, y, ← a.e_is) (m.within q p (omega arith))

        rows : (N : Lines) (T : Tables) → IsTable (loops_in ps) N T → LinesAt ps N reach limit has →
            Rows ps T left' choice' d (end_of ps d)
        rows N T t n =
            record {
              left_is = λ l k q j x b c u v. ⊎_elim
                  (λ (y : l ≤ d).
                  let z : l ≡ d = omega arith in
                  (here l k q z c u v).0)
                  (λ (y : d < l). kept_row left left' d e h short m.left_kept k q (lower l k j y b c)
                  (narrow l q j v) ∙ f.rows.left_is l k q j y (omega (arith, at_end)) c u v)
                  (le_or l d);
              choice_is = λ l k q j x b c u v. ⊎_elim
                  (λ (y : l ≤ d).
                  let z : l ≡ d = omega arith in
                  (here l k q z c u v).1)
                  (λ (y : d < l). kept_row choice choice' d e h short m.choice_kept k q (lower l k j y b c)
                  (narrow l q j v) ∙ f.rows.choice_is l k q j y (omega (arith, at_end)) c u v)
                  (le_or l d);
            }
          where
            f : Sofar ps N T left choice d some i
            f = s.sofar N T t n

            lower : (l k : ℕ) → is_do ps l ≡ true → d < l → l < end_of ps d → HasHeight ps l k → k < h
            lower l k j y b c = inner_height ps shape d l h k a.is-do y (omega arith) a.height c

            here : (l k q : ℕ) → l ≡ d → HasHeight ps l k → l < q → q ≤ end_of ps l →
                (row left' (k * 256) q ≡ T.left l q) × (row choice' (k * 256) q ≡ T.choice l q)
            here l k q z c u v =
                let x : HasHeight ps d k = rw z at c in
                let y : k ≡ h = omega arith in
                let p : d < q = rw z at u in
                let b : q ≤ end_of ps d = rw z at v in
                rw (z, y) (own_row N T t n q p b)
