-- The pass over the points from left to right: the loop of the gap here is the DO just passed, the loop around the one
-- that just ended, or the same as before.
-- Main definition: `Walked`, what a turn keeps. Main statements: `walk_start`, `walk_do`, `walk_end`, `walk_plain`.
use mathlib.Core.Path.{◌≡◌, refl, sym, ap, ◌∙◌}
use mathlib.Core.Bool.{true}
use mathlib.Core.List.{List}
use Prim.Native.Nat.{ℕ, suc, ◌+◌, ◌≤◌, ◌<◌}
use native.Mathlib.Numerals.{add-one}
use native.Mathlib.Omega.{arith}
use lib.ListN.{length, get_or, set, length-set}
use lib.Seq.{get_or-set_other}
use borrow.Author.Tests.{eq-eqb, ne_eqb}
use Rattle.laws.specs.Entries.{at}
use Rattle.laws.proofs.Stores.{stored}
use Rattle.paper_nests.specs.Kinds.{DO, ENDDO, POINTS}
use Rattle.paper_nests.specs.Loops.{is_end, owner_of}
use Rattle.paper_nests.specs.Valid.{is_shape}
use Rattle.paper_nests.proofs.Levels.{end_not_first}
use Rattle.paper_nests.proofs.Loops.{owner_at_most, owner_below}
use Rattle.paper_nests.proofs.Gaps.{owner_after_do, owner_after_end, owner_after_plain}

-- before point g: the loop there, and the table of those before
pub record Walked (ps : List ℕ) (g around : ℕ) (owners : List ℕ) : Type 0 where
  pub long : length owners ≡ POINTS
  pub low : around ≤ g
  pub around_is : g < length ps → around ≡ owner_of ps g
  pub known : (i : ℕ) → i < g → at owners i ≡ owner_of ps i

pub walk_start : (ps owners : List ℕ) → length owners ≡ POINTS → Walked ps 0 0 owners
walk_start ps owners l =
    record { long = l; low = omega arith; around_is = λ h. refl; known = λ i h. absurd (omega arith) }

module _
    (ps : List ℕ) (shape : is_shape ps ≡ true) (few : length ps ≤ POINTS)
    (g around : ℕ) (owners : List ℕ) (w : Walked ps g around owners) (l : g < length ps)
  where
    known_here : (i : ℕ) → i < g + 1 → at (set owners g around) i ≡ owner_of ps i
    known_here i h =
        stored owners g around i (owner_of ps i) (omega (arith, w.long))
        (λ e. rw e (w.around_is l))
        (λ n. w.known i (omega arith))

    pub walk_do : get_or ps g 0 ≡ DO → Walked ps (g + 1) g (set owners g around)
    walk_do k =
        record {
          long = length-set owners g around ∙ w.long;
          low = omega arith;
          around_is = λ m. rw add-one (sym (owner_after_do ps shape g (eq-eqb (get_or ps g 0) DO k)));
          known = known_here;
        }

    module _ (j : get_or ps g 0 ≡ DO → ⊥) where
      pub walk_end :
          get_or ps g 0 ≡ ENDDO → Walked ps (g + 1) (at (set owners g around) around) (set owners g around)
      walk_end k =
          record {
            long = length-set owners g around ∙ w.long;
            low = omega (arith, outside, owner_at_most ps around, w.low);
            around_is = λ m. rw add-one (outside ∙ ap (owner_of ps) (w.around_is l) ∙ after m);
            known = known_here;
          }
        where
          is-end : is_end ps g ≡ true
          is-end = eq-eqb (get_or ps g 0) ENDDO k

          below : around < g
          below = omega (arith, w.around_is l, owner_below ps shape g (end_not_first ps shape g is-end) l)

          outside : at (set owners g around) around ≡ owner_of ps around
          outside =
              get_or-set_other owners g around around 0 (λ e. omega (arith, below)) ∙ w.known around below

          after : g + 1 < length ps → owner_of ps (owner_of ps g) ≡ owner_of ps (suc g)
          after m = sym (owner_after_end ps shape g (omega arith) is-end)

      pub walk_plain : (get_or ps g 0 ≡ ENDDO → ⊥) → Walked ps (g + 1) around (set owners g around)
      walk_plain k =
          record {
            long = length-set owners g around ∙ w.long;
            low = omega (arith, w.low);
            around_is = λ m. rw add-one (w.around_is l ∙ after m);
            known = known_here;
          }
        where
          after : g + 1 < length ps → owner_of ps g ≡ owner_of ps (suc g)
          after m =
              sym
              (owner_after_plain ps shape g (omega arith) (ne_eqb (get_or ps g 0) DO j) (ne_eqb (get_or ps g 0) ENDDO k))
