-- What a sweep makes from a boundary on is what is made from the last open start on: its event, and so on from its
-- link.
-- Main definitions: `Total`, `Ends`. Main statement: `ends`.
use mathlib.Core.Path.{◌≡◌, refl, sym, ◌∙◌, ap}
use mathlib.Core.Bool.{Bool, true, false}
use mathlib.Core.List.{List}
use mathlib.Core.Logic.{⊎_elim}
use Prim.Native.Nat.{ℕ, zero, suc, ◌+◌, ◌≤◌, ◌<◌}
use native.Mathlib.Omega.{arith}
use borrow.Author.Tests.{lt-ltb, le-ltb}
use Rattle.laws.specs.Choice.{first_of}
use Rattle.laws.specs.Entries.{at}
use Rattle.laws.proofs.Choices.{first_set, first_none, first_zero}
use Rattle.laws.proofs.Tests.{le_or}
use Rattle.paper_nests.specs.Loops.{is_end}
use Rattle.plan_method.specs.Sweep.{State, put, step_plain, seek, free, inner, outer, step_child, next, step, walk}
use Rattle.plan_method.proofs.Walk.{plain_cases, child_cases, Free, Inner, Outer}
use Rattle.plan_sweeps.specs.Listed.{row, listed, tabled}
use Rattle.plan_sweeps.proofs.Seek.{seek_none}
use Rattle.plan_starts.specs.Grounds.{Bound, Kid, Ground}
use Rattle.plan_starts.specs.Started.{marked, cost_at, front_at, Passed, top, plain, child}
use Rattle.plan_starts.proofs.Seeks.{seek_found, seek_down}
use Rattle.plan_starts.proofs.Marks.{mark_plain, mark_le, mark_some, mark_none, mark_later}
use Rattle.plan_starts.proofs.Happenings.{cost_inner, front_inner, cost_outer, front_outer}

-- C x and F x are what is made from the start x on: its event c, f, and what is made from its link on
pub record Total (need : ℕ → ℕ) (d e : ℕ) (C F : ℕ → ℕ) (b x c f : ℕ) : Type 0 where
  pub c_is : C x ≡ c + C (seek need f d b)
  pub f_is : F x ≡ first_of (F (seek need f d b)) f
  pub low : 0 < f
  pub high : f ≤ e

-- from the state s to r with what is made from the start a on, or with nothing where a is 0
pub record Comes (C F : ℕ → ℕ) (s r : State) (a : ℕ) : Type 0 where
  pub c_is : r.c ≡ s.c + C a
  pub f_is : r.f ≡ first_of (F a) s.f

-- an event, then the rest
event_then
    : (C F : ℕ → ℕ) (s t r : State) (a n c f : ℕ) → t.c ≡ s.c + c → t.f ≡ f → 0 < f → C a ≡ c + C n → F a ≡
    first_of (F n) f → Comes C F t r n → Comes C F s r a
event_then C F s t r a n c f tc tf h ca fa k =
    record {
      c_is = omega (arith, k.c_is, tc, ca);
      f_is = k.f_is ∙ ap (first_of (F n)) tf ∙ sym fa ∙
          sym (first_set (F a) s.f (λ z. omega (arith, (first_zero (F n) f (sym fa ∙ z)).1)));
    }

-- no event
none_then : (C F : ℕ → ℕ) (s t r : State) (a : ℕ) → t.c ≡ s.c → t.f ≡ s.f → Comes C F t r a → Comes C F s r a
none_then C F s t r a tc tf k =
    record { c_is = omega (arith, k.c_is, tc); f_is = k.f_is ∙ ap (first_of (F a)) tf }

pub comes_at : (C F : ℕ → ℕ) (s r : State) (a b : ℕ) → a ≡ b → Comes C F s r a → Comes C F s r b
comes_at C F s r a b z k = rw z at k

module _ (ps own left : List ℕ) (kids d e : ℕ) (ground : Ground ps own left kids d e) (need : ℕ → ℕ) (C F : ℕ → ℕ)
    (c_none : C 0 ≡ 0) (f_none : F 0 ≡ 0) (lay : ℕ → ℕ → ℕ → Bool) where
  abbrev m : ℕ → ℕ
  m = marked ps own need (row left kids) d

  abbrev pub goes : ℕ → ℕ → State → State
  goes k p s = walk (listed ps own e) (tabled left kids lay) need d k p s

  -- whatever the sweep holds at the boundary p
  abbrev pub Ends : ℕ → Type 0
  Ends p = (k : ℕ) (s : State) → p ≤ k → 0 < s.f → Comes C F s (goes k p s) (seek m s.f d p)

  goes_none : (k p : ℕ) (s : State) → p ≤ d → goes k p s ≡ s
  unfolding walk
  goes_none zero p s h = refl
  goes_none (suc k) zero s h = refl
  goes_none (suc k) (suc p) s h = rw (lt-ltb p d h)

  goes_plain : (k p : ℕ) (s : State) → d ≤ p → is_end ps p ≡ false → goes (suc k) (suc p) s ≡ goes k p
      (step_plain need p s)
  unfolding walk next step
  goes_plain k p s h i = rw (le-ltb p d h, i)

  goes_child : (k p : ℕ) (s : State) → d ≤ p → is_end ps p ≡ true → goes (suc k) (suc p) s ≡
      goes k (at own p) (step_child need (row left kids) (lay (at own p)) (at own p) p s)
  unfolding walk next step
  goes_child k p s h i = rw (le-ltb p d h, i)

  pub at_do : Ends d
  at_do k s h q =
      rw (goes_none k d s (omega arith), seek_none m s.f d d (omega arith))
      record { c_is = omega (arith, c_none); f_is = sym (first_none (F 0) s.f f_none) }

  module _ (p : ℕ) (low : d ≤ p) (b : Bound own d e (suc p)) where
    on_plain : is_end ps p ≡ false → Total m d e C F p (suc p) 1 (suc p) → Ends p → Ends (suc p)
    unfolding put
    on_plain i t r zero s h q = absurd (omega arith)
    on_plain i t r (suc k) s h q =
        rw (goes_plain k p s low i)
        (plain_cases (λ u. Comes C F s (goes k p u) (seek m s.f d (suc p))) need p s yes' no')
      where
        same : m (suc p) ≡ need (suc p)
        same = mark_plain ps own left kids d need p (ground.plain p low b i)

        yes' : need (suc p) < s.f → Comes C F s (goes k p (put p s)) (seek m s.f d (suc p))
        yes' n =
            rw (seek_found m s.f d (suc p) (suc p) (omega arith) (omega arith) (omega (arith, same))
            (λ y a c l. absurd (omega arith)))
            (event_then C F s (put p s) (goes k p (put p s)) (suc p) (seek m (suc p) d p) 1 (suc p) (omega arith) refl
            (omega arith) t.c_is t.f_is (r k (put p s) (omega arith) (omega arith)))

        no' : s.f ≤ need (suc p) → Comes C F s (goes k p s) (seek m s.f d (suc p))
        no' n =
            rw (seek_down m s.f d p (suc p) (omega arith) (λ y a c l. above y c l n)) (r k s (omega arith) q)
          where
            above : (y : ℕ) → y ≤ suc p → p < y → s.f ≤ need (suc p) → s.f ≤ m y
            above y c l n =
                let z : y ≡ suc p = omega arith in
                rw z (omega (arith, same))

    on_child
        : (l : ℕ) → l ≡ at own p → is_end ps p ≡ true
        → ((x : ℕ) → l < x → x ≤ suc p → Total m d e C F l x (cost_at (row left kids) p x)
        (front_at (row left kids) l p x))
        → Ends l → Ends (suc p)
    unfolding free inner outer
    on_child l e_is i t r zero s h q = absurd (omega arith)
    on_child l e_is i t r (suc k) s h q =
        rw (goes_child k p s low i, ← e_is)
        (child_cases (λ u. Comes C F s (goes k l u) (seek m s.f d (suc p))) need (row left kids) (lay l) l p s free'
        inner' outer')
      where
        kid : Kid ps own left kids d p l
        kid = rw e_is (ground.child p low b i)

        -- after the first gap of the loop the marks are the ends
        later : (y : ℕ) → suc l < y → y ≤ suc p → s.f ≤ need y → s.f ≤ m y
        later y a c n = omega (arith, n, mark_later ps own left kids d need p l kid y a c)

        -- the event at x, and the rest
        found
            : (x c f : ℕ) (u : State)
            → l < x
            → x ≤ suc p
            → m x < s.f
            → ((y : ℕ) → l < y → y ≤ suc p → x < y → s.f ≤ need y)
            → cost_at (row left kids) p x ≡ c
            → front_at (row left kids) l p x ≡ f
            → u.c ≡ s.c + c
            → u.f ≡ f
            → Comes C F s (goes k l u) (seek m s.f d (suc p))
        found x c f u a v n above ci fi uc uf =
            let w : Total m d e C F l x c f = rw (ci, fi) at (t x a v) in
            let z : Comes C F u (goes k l u) (seek m f d l) =
            comes_at C F u (goes k l u) (seek m u.f d l) (seek m f d l) (ap (λ (y : ℕ). seek m y d l) uf)
            (r k u (omega (arith, kid.short)) (omega (arith, uf, w.low))) in
            rw (seek_found m s.f d (suc p) x (omega (arith, kid.below)) v n
            (λ y i j o. later y (omega arith) j (above y (omega arith) j o)))
            (event_then C F s u (goes k l u) x (seek m f d l) c f uc uf w.low w.c_is w.f_is z)

        free' : Free need s.f l p → Comes C F s (goes k l (free (row left kids) (lay l) l s))
            (seek m s.f d (suc p))
        free' z = ⊎_elim
            (λ (y : row left kids (suc l) ≤ 0).
            let o : row left kids (suc l) ≡ 0 = omega arith in
            let u = free (row left kids) (lay l) l s in
            let v : u.f ≡ s.f = first_none (row left kids (suc l)) s.f o in
            let w : Comes C F u (goes k l u) (seek m s.f d l) =
            comes_at C F u (goes k l u) (seek m u.f d l) (seek m s.f d l) (ap (λ (y : ℕ). seek m y d l) v)
            (r k u (omega (arith, kid.short)) (omega (arith, v))) in
            rw (seek_down m s.f d l (suc p) (omega (arith, kid.short)) (λ y i j a. closed o y a j))
            (none_then C F s u (goes k l u) (seek m s.f d l) refl v w))
            (λ (y : 0 < row left kids (suc l)).
            found (suc l) 0 (row left kids (suc l)) (free (row left kids) (lay l) l s) (omega arith)
            (omega (arith, kid.short)) (omega (arith, mark_some ps own left kids d need p l kid y))
            (λ x a b c. z.above x a b) (cost_inner (row left kids) l p (suc l) kid.short y)
            (front_inner (row left kids) l p (suc l) kid.short y) (omega arith)
            (first_set (row left kids (suc l)) s.f (λ o. omega arith)))
            (le_or (row left kids (suc l)) 0)
          where
            closed : row left kids (suc l) ≡ 0 → (y : ℕ) → l < y → y ≤ suc p → s.f ≤ m y
            closed o y a j = ⊎_elim
                (λ (v : y ≤ suc l).
                let w : y ≡ suc l = omega arith in
                rw w (omega (
                  arith,
                  mark_none ps own left kids d need p l kid o,
                  z.above (suc l) (omega arith)
                      (omega (arith, kid.short)),
                )))
                (λ (v : suc l < y). later y v j (z.above y a j))
                (le_or y (suc l))

        inner' : (x : ℕ) → Inner need (row left kids) s.f l p x →
            Comes C F s (goes k l (inner (row left kids) (lay l) x s)) (seek m s.f d (suc p))
        inner' x z = found x 0 (row left kids x) (inner (row left kids) (lay l) x s) z.low (omega (arith, z.high))
            (omega (arith, z.uncut, mark_le ps own left kids d need x)) z.above
            (cost_inner (row left kids) l p x z.high z.there)
            (front_inner (row left kids) l p x z.high z.there)
            (omega arith) refl

        outer' : (x : ℕ) → Outer need (row left kids) s.f l p x →
            Comes C F s (goes k l (outer (row left kids) (lay l) l p s)) (seek m s.f d (suc p))
        outer' x z = found x 1 (first_of (row left kids (suc l)) (suc p)) (outer (row left kids) (lay l) l p s) z.low
            z.high (omega (arith, z.uncut, mark_le ps own left kids d need x)) z.above
            (cost_outer (row left kids) l p x z.lacks) (front_outer (row left kids) l p x z.lacks) (omega arith)
            refl

  -- from a boundary to the ENDDO, where the sweep starts
  pub ends : (p : ℕ) → Passed ps own left kids d e (Total m d e C F) p → Ends p → Ends e
  ends p top r = r
  ends q (plain p low b i t k) r = ends (suc p) k (on_plain p low b i t r)
  ends q (child p low b i t k) r = ends (suc p) k (on_child p low b (at own p) refl i t r)
