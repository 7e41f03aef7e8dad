-- What the whole sweep lays, with the barrier after the DO where the front lies beyond the limit, is what the loop
-- lays.
-- Main definition: `Lowered`. Main statements: `lowered_size`, `blank`, `done`.
use mathlib.Core.Path.{◌≡◌, refl, sym, ◌∙◌, ap}
use mathlib.Core.Bool.{Bool, true, ◌||◌}
use mathlib.Core.List.{List}
use mathlib.Core.Logic.{⊎_elim}
use Prim.Native.Nat.{ℕ, suc, ◌+◌, ◌-◌, ◌*◌, ◌≤◌, ◌<◌, min}
use native.Mathlib.Numerals.{add-one}
use native.Mathlib.Omega.{arith}
use lib.Dec.{eqb, leb}
use lib.ListN.{length, set, length-set}
use borrow.Author.Tests.{lt-ltb, le-ltb, le-leb, lt-leb}
use Rattle.laws.specs.Choice.{pick}
use Rattle.laws.specs.Entries.{at}
use Rattle.laws.proofs.Ors.{or_assoc}
use Rattle.laws.proofs.Tests.{le_or}
use Rattle.paper_nests.specs.Loops.{end_of}
use Rattle.paper_nests.specs.Valid.{is_shape}
use Rattle.paper_nests.proofs.Loops.{end-after}
use Rattle.paper_placements.specs.Words.{holds}
use Rattle.plan_method.specs.Sweep.{Loops, Lines, Tables, State, st, need_of, put, sweep, close, value}
use Rattle.plan_method.specs.Home.{loops_in}
use Rattle.plan_method.proofs.Instance.{loop_laws}
use Rattle.plan_method.proofs.Alike.{Alike, value_alike}
use Rattle.plan_method.proofs.Rows.{row_lay, row_blank}
use Rattle.plan_sweeps.specs.Listed.{row, listed, tabled, sweep_of}
use Rattle.plan_sweeps.proofs.Turns as sweeps
use Rattle.plan_rows.specs.Valued.{lined}
use Rattle.plan_rows.specs.Made.{Copied}
use Rattle.plan_rows.proofs.Suffix.{lowered}
use Rattle.plan_settle.specs.Settled.{Rows}
use Rattle.plan_settle.proofs.Own.{agree}
use Rattle.plan_lay.specs.Laid.{PutSays, LaySays}
use Rattle.plan_lay.proofs.Calls.{Call, picked}
use Rattle.plan_lay.proofs.Turns.{Held, Laying}

-- the row that is swept: a copy of the loop's own, lowered at the chosen suffix
pub record Lowered (reach : List ℕ) (base d e last : ℕ) (need : List ℕ) : Type 0 where
  pub copy : List ℕ
  pub copied : Copied reach base d e copy
  pub size : 256 ≤ length copy
  pub need_is : need ≡ set copy last (min (at copy last) e)

pub lowered_size
    : {reach need : List ℕ} {base d e last : ℕ} → Lowered reach base d e last need → 256 ≤ length need
lowered_size {e = e} {last = last} m =
    rw (m.need_is, length-set m.copy last (min (at m.copy last) e)) m.size

-- the gaps of a sweep with its prefix, added to a key
closed
    : (d t c f : ℕ) (w : ℕ → Bool) (key k k' : List ℕ)
    → ((g : ℕ) → holds k g ≡ (w g || holds key g))
    → PutSays k t f (d + 1) k'
    → (g : ℕ)
    → holds k' g ≡ ((close d t (st c f w)).w g || holds key g)
unfolding close put
closed d t c f w key k k' h p g = ⊎_elim low high (le_or f t)
  where
    low : f ≤ t → holds k' g ≡ ((pick (leb f t) (st c f w) (put d (st c f w))).w g || holds key g)
    low l = p g ∙ rw (le-ltb t f l, le-leb f t l) (h g)

    high : t < f → holds k' g ≡ ((pick (leb f t) (st c f w) (put d (st c f w))).w g || holds key g)
    high l = p g ∙ rw (lt-ltb t f l, lt-leb f t l, add-one d, h g) (or_assoc (eqb g (suc d)) (w g) (holds key g))

-- a value is its sweep and its prefix
value_is
    : (ps own need left : List ℕ) (kids : ℕ) (limit : List ℕ) (base d e q c f : ℕ) (w : ℕ → Bool) (has : Bool)
    (lay : ℕ → ℕ → ℕ → Bool)
    → q < length need
    → st c f w ≡ sweep_of ps own (set need q (min (at need q) e)) left kids lay d e
    → value (listed ps own e) (lined has need limit base) (tabled left kids lay) d q ≡
    close d (row limit base q) (st c f w)
unfolding value
value_is ps own need left kids limit base d e q c f w has lay l s =
    let z : st c f w ≡ sweep (listed ps own e) (tabled left kids lay) (need_of (at need) q e) d =
    rw (lowered need q e l) at s in
    rw z refl

module _
    {ps own ends reach limit left choice : List ℕ} {d q h : ℕ} (a : Call ps own ends reach limit left choice d q h)
  where
    abbrev shape : is_shape ps ≡ true
    shape = a.charts.shape

    abbrev e : ℕ
    e = at ends d

    -- where the rows of d and the loops inside it stand, d's own row is there
    own_front : (T : Tables) → Rows ps T left choice d (end_of ps d) → row left (h * 256) q ≡ T.left d q
    own_front T r = r.left_is d h q a.is-do (omega arith) (end-after ps shape d a.is-do) a.height
        a.after a.within

    -- where there is no front, nothing is laid
    pub blank : (key : List ℕ) → row left (h * 256) q ≡ 0 → LaySays ps reach limit left choice d q key key
    blank key z N T has t n r g =
        rw (row_blank (loops_in ps) (loop_laws ps shape) N T t d a.is-do q g a.after a.within
        (sym (own_front T r) ∙ z)) refl

    abbrev last : ℕ
    last = row choice (h * 256) q

    pub done
        : {swept need key k : List ℕ} {c f p : ℕ} (k' : List ℕ)
        → (row left (h * 256) q ≡ 0 → ⊥)
        → Lowered reach (h * 256) d e last swept
        → Laying ps own ends reach limit left choice d h swept need key k c f p
        → p ≤ d
        → PutSays k (row limit (h * 256) last) f (d + 1) k'
        → LaySays ps reach limit left choice d q key k'
    done {swept} {key = key} {k} {c} {f} {p} k' some m s all grown N T has t n r g =
        closed d (row limit (h * 256) last) c f x.w key k k' x.held grown g ∙
        ap (λ (b : Bool). b || holds key g) laid
      where
        x : Held ps own swept left (h * 256 - 256) d e T.lay key k c f p
        x = s.held N T has t n r

        B' : Loops
        B' = listed ps own e

        N' : Lines
        N' = lined (N.has d) m.copy limit (h * 256)

        T' : Tables
        T' = tabled left (h * 256 - 256) T.lay

        inside : Rows ps T left choice (suc d) e
        inside =
            record {
              left_is = λ l k q i m n. r.left_is l k q i (omega arith) (omega (arith, a.e_is));
              choice_is = λ l k q i m n. r.choice_is l k q i (omega arith) (omega (arith, a.e_is));
            }

        alike : Alike (loops_in ps) (listed ps own e) N (lined (N.has d) m.copy limit (h * 256)) T
            (tabled left (h * 256 - 256) T.lay) d
        alike = agree ps own ends reach limit has left choice d e h m.copy N T a.charts a.is-do a.height
            a.e_is n inside m.copied

        there : 0 < T.left d q
        there = omega (arith, some, own_front T r)

        chosen : T.choice d q ≡ last
        chosen = sym (r.choice_is d h q a.is-do (omega arith) (end-after ps shape d a.is-do) a.height
            a.after a.within)

        low : (d < last) × (last ≤ e)
        low = picked a some

        valued
            : value (listed ps own e) (lined (N.has d) m.copy limit (h * 256))
            (tabled left (h * 256 - 256) T.lay) d last ≡
            close d (row limit (h * 256) last) (st c f x.w)
        valued = value_is ps own m.copy left (h * 256 - 256) limit (h * 256) d e last c f x.w (N.has d)
            T.lay (omega (arith, low, m.size, a.short, a.charts.few))
            (sweeps.done ps own swept left (h * 256 - 256) d e T.lay p c f x.w all x.turn ∙
            ap (λ (y : List ℕ). sweep_of ps own y left (h * 256 - 256) T.lay d e) m.need_is)

        laid : (close d (row limit (h * 256) last) (st c f x.w)).w g ≡ T.lay d q g
        laid =
            let z : T.lay d q g ≡ (value (loops_in ps) N T d (T.choice d q)).w g =
            row_lay (loops_in ps) (loop_laws ps shape) N T t d a.is-do q g a.after a.within there in
            let b : (value (loops_in ps) N T d last).w g ≡ (value B' N' T' d last).w g =
            (value_alike (loops_in ps) B' (loop_laws ps shape) N N' T T' d a.is-do alike last low.0
            (omega (arith, low, a.e_is))).w_is g in
            ap (λ (v : State). v.w g) (sym valued) ∙ sym b ∙ sym (rw chosen at z)
