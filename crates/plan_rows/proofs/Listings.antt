-- The values of all suffixes, one after the other, and the least number of barriers among them.
-- Main statement: `listing_more`.
use mathlib.Core.Path.{◌≡◌, refl, ◌∙◌}
use mathlib.Core.Bool.{◌||◌}
use mathlib.Core.List.{List}
use mathlib.Core.Logic.{⊎_elim}
use Prim.Native.Nat.{ℕ, ◌+◌, ◌≤◌, ◌<◌}
use native.Mathlib.Numerals.{add-one}
use native.Mathlib.Omega.{arith}
use lib.Dec.{leb}
use lib.ListN.{length, set}
use borrow.Author.Tests.{le-leb}
use Rattle.laws.specs.Choice.{pick}
use Rattle.laws.proofs.Tests.{le_or}
use Rattle.laws.proofs.Stores.{stored}
use Rattle.plan_method.specs.Sweep.{State, least}
use Rattle.plan_rows.specs.Valued.{Valued, Listing}

Least-more
    : (v : ℕ → State) (d p m c m' : ℕ) → (d < p → m ≡ least (λ q. (v q).c) d p) → c ≡ (v (p + 1)).c → m' ≡
    pick (leb p d || leb c m) c m
    → m' ≡ least (λ q. (v q).c) d (p + 1)
unfolding least
Least-more v d p m c m' l e n = ⊎_elim first later (le_or p d)
  where
    first : p ≤ d → m' ≡ least (λ q. (v q).c) d (p + 1)
    first h = n ∙ rw (add-one p, le-leb p d h) (rw (add-one p) at e)

    later : d < p → m' ≡ least (λ q. (v q).c) d (p + 1)
    later h = n ∙ rw (l h, add-one p, e, add-one p) refl

pub listing_more
    : (v : ℕ → State) (cs fs : List ℕ) (d p m c f m' : ℕ) → p + 1 < length cs → p + 1 < length fs →
    Valued (v (p + 1)) c f
    → m' ≡ pick (leb p d || leb c m) c m → Listing v cs fs d p m →
    Listing v (set cs (p + 1) c) (set fs (p + 1) f) d (p + 1) m'
listing_more v cs fs d p m c f m' h k u n s =
    record {
      c_at = λ q a b. stored cs (p + 1) c q (v q).c h (λ z. rw z u.c_is) (λ z. s.c_at q a (omega (arith, z)));
      f_at = λ q a b. stored fs (p + 1) f q (v q).f k (λ z. rw z u.f_is) (λ z. s.f_at q a (omega (arith, z)));
      least_is = λ _. Least-more v d p m c m' s.least_is u.c_is n;
    }
