-- The value of a suffix: one sweep with the suffix's place in `need` lowered, then the prefix.
-- Main statements: `lowered`, `close_low`, `close_high`.
use mathlib.Core.Path.{◌≡◌, refl, fun_ext}
use mathlib.Core.Bool.{Bool, true, false, ◌&&◌}
use mathlib.Core.List.{List}
use mathlib.Core.Logic.{⊎_elim}
use Prim.Native.Nat.{ℕ, ◌+◌, ◌≤◌, ◌<◌, min}
use native.Mathlib.Omega.{arith}
use lib.Dec.{eqb, ltb, leb}
use lib.ListN.{length, get_or, set}
use lib.Seq.{get_or-set_same, get_or-set_other}
use borrow.Author.Tests.{ltb-true, ltb-false, eq-eqb, ne_eqb, le-leb, lt-leb}
use Rattle.laws.specs.Choice.{pick}
use Rattle.laws.specs.Entries.{at}
use Rattle.laws.proofs.Tests.{eq_or}
use Rattle.plan_method.specs.Sweep.{need_of, put, close}
use Rattle.plan_rows.specs.Valued.{CloseSays}

lower : (need : List ℕ) (q e a : ℕ) → q < length need → get_or (set need q (min (at need q) e)) a 0 ≡
    need_of (at need) q e a
unfolding need_of
lower need q e a h = ⊎_elim (λ (z : a ≡ q). same z) (λ (z : a ≡ q → ⊥). other z) (eq_or a q)
  where
    least : (x : ℕ) (t : Bool) → ltb e x ≡ t → min x e ≡ pick t e x
    least x true z = omega (arith, ltb-true e x z)
    least x false z = omega (arith, ltb-false e x z)

    same : a ≡ q → get_or (set need q (min (at need q) e)) a 0 ≡ pick (eqb a q && ltb e (at need a)) e (at need a)
    same z = rw (z, eq-eqb q q refl, get_or-set_same need q (min (at need q) e) 0 h)
        (least (at need q) (ltb e (at need q)) refl)

    other : (a ≡ q → ⊥) → get_or (set need q (min (at need q) e)) a 0 ≡
        pick (eqb a q && ltb e (at need a)) e (at need a)
    other z = rw (ne_eqb a q z) (get_or-set_other need q a (min (at need q) e) 0 z)

-- the lowered row is what the sweep for q needs
pub lowered : (need : List ℕ) (q e : ℕ) → q < length need → at (set need q (min (at need q) e)) ≡ need_of (at need) q e
lowered need q e h = fun_ext (λ a. lower need q e a h)

pub close_low : (d t c f : ℕ) → f ≤ t → CloseSays d t c f c f
unfolding close
close_low d t c f l s i j =
    let z : leb s.f t ≡ true = le-leb s.f t (omega arith) in
    record { c_is = rw z i; f_is = rw z j }

pub close_high : (d t c f : ℕ) → t < f → CloseSays d t c f (c + 1) (d + 1)
unfolding close put
close_high d t c f l s i j =
    let z : leb s.f t ≡ false = lt-leb s.f t (omega arith) in
    record { c_is = rw z (omega (arith, i)); f_is = rw z (omega arith) }
