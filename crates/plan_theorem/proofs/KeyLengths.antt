-- A placement has as many gaps as its loops count together, so placements with the same counts, and all keys, have
-- lists of one length.
-- Main statements: `same_length`, `keys_length`.
use mathlib.Core.Path.{◌≡◌, refl, sym, ap, ◌∙◌}
use mathlib.Core.Bool.{Bool, true, false}
use mathlib.Core.List.{List, [], ◌∷◌}
use mathlib.Core.Logic.{◌⊎◌, inl, inr, ⊎_elim}
use Prim.Native.Nat.{ℕ, zero, suc, ◌+◌, ◌≤◌, ◌<◌}
use native.Mathlib.Omega.{arith}
use lib.ListN.{length}
use borrow.Author.Tests.{eq-eqb, ne_eqb}
use Rattle.laws.specs.Choice.{when}
use Rattle.laws.proofs.Tests.{test, eq_or}
use Rattle.paper_nests.specs.Nests.{Nest}
use Rattle.paper_nests.specs.Loops.{is_do, owner_of}
use Rattle.paper_nests.specs.Valid.{is_shape}
use Rattle.paper_nests.proofs.Loops.{owner_is_do, owner_below}
use Rattle.paper_placements.specs.Placements.{are_gaps_from, are_gaps, loop_count}
use Rattle.paper_order.specs.Keys.{IsKey}
use Rattle.paper_placements.proofs.Cuts.{correct_gaps}
use Rattle.paper_order.proofs.Keys.{keys_agree}
use Rattle.paper_order.proofs.LoopOrder.{SameCounts}
use Rattle.paper_placements.proofs.Rising.{Rises, rises}

-- the counts of the loops with a DO below k, together
unfoldable total_to : Nest → List ℕ → ℕ → ℕ
total_to n gs zero = 0
total_to n gs (suc d) = when (is_do n.points d) (loop_count n gs d) + total_to n gs d

-- placements with the same count at d: their totals differ after d as before
total_step : (n : Nest) (gs hs : List ℕ) (c d : ℕ) →
    (is_do n.points d ≡ true → loop_count n gs d ≡ loop_count n hs d) → total_to n gs d ≡ c + total_to n hs d →
    total_to n gs (suc d) ≡ c + total_to n hs (suc d)
unfolding total_to
total_step n gs hs c d here below = go (is_do n.points d) refl
  where
    go : (t : Bool) → is_do n.points d ≡ t →
        when t (loop_count n gs d) + total_to n gs d ≡ c + (when t (loop_count n hs d) + total_to n hs d)
    go true e = omega (arith, here e)
    go false e = omega arith

total_same : (n : Nest) (gs hs : List ℕ) → SameCounts n gs hs → (k : ℕ) → total_to n gs k ≡ total_to n hs k
unfolding total_to
total_same n gs hs same zero = refl
total_same n gs hs same (suc d) =
    omega (arith, total_step n gs hs 0 d (same d) (omega (arith, total_same n gs hs same d)))

total_none : (n : Nest) (k : ℕ) → total_to n [] k ≡ 0
unfolding total_to
total_none n zero = refl
total_none n (suc d) =
    ⊎_elim
    (λ (z : is_do n.points d ≡ true). rw z (omega (arith, total_none n d)))
    (λ (z : is_do n.points d ≡ false). rw z (omega (arith, total_none n d)))
    (test (is_do n.points d))

-- one more gap counts once: at its own loop
module _ (n : Nest) (g : ℕ) (gs : List ℕ) where
  abbrev o : ℕ
  o = owner_of n.points g

  elsewhere : (d : ℕ) → (o ≡ d → ⊥) → loop_count n (g ∷ gs) d ≡ loop_count n gs d
  elsewhere d h = rw (ne_eqb o d h) (omega arith)

  before_owner : (k : ℕ) → k ≤ o → total_to n (g ∷ gs) k ≡ total_to n gs k
  unfolding total_to
  before_owner zero h = refl
  before_owner (suc d) h =
      omega (
        arith,
        total_step n (g ∷ gs) gs 0 d (λ z. elsewhere d (λ y. omega arith))
            (omega (arith, before_owner d (omega arith))),
      )

  at_owner : is_do n.points o ≡ true → total_to n (g ∷ gs) (suc o) ≡ suc (total_to n gs (suc o))
  unfolding total_to
  at_owner is-do = rw (is-do, eq-eqb o o refl) (omega (arith, before_owner o (omega arith)))

  after_owner : is_do n.points o ≡ true → (k : ℕ) → o < k → total_to n (g ∷ gs) k ≡ suc (total_to n gs k)
  after_owner is-do zero h = absurd (omega arith)
  after_owner is-do (suc d) h = go (eq_or o d) (after_owner is-do d)
    where
      go : (o ≡ d) ⊎ ((o ≡ d) → ⊥) → (o < d → total_to n (g ∷ gs) d ≡ suc (total_to n gs d)) →
          total_to n (g ∷ gs) (suc d) ≡ suc (total_to n gs (suc d))
      go (inl z) rest = rw z at (at_owner is-do)
      go (inr z) rest =
          omega (arith, total_step n (g ∷ gs) gs 1 d (λ y. elsewhere d z) (omega (arith, rest (omega (arith, z)))))

total_length : (n : Nest) → is_shape n.points ≡ true → (last : ℕ) (gs : List ℕ) →
    are_gaps_from last (length n.points) gs ≡ true → total_to n gs (length n.points) ≡ length gs
total_length n shape last [] h = total_none n (length n.points)
total_length n shape last (g ∷ gs) h = go (rises last (length n.points) g gs h) (total_length n shape g gs)
  where
    go : Rises last (length n.points) g gs →
        (are_gaps_from g (length n.points) gs ≡ true → total_to n gs (length n.points) ≡ length gs) →
        total_to n (g ∷ gs) (length n.points) ≡ suc (length gs)
    go r rest =
        let low : 0 < g = omega (arith, r.above) in
        let b : owner_of n.points g < g = owner_below n.points shape g low r.below in
        after_owner n g gs (owner_is_do n.points shape g low r.below) (length n.points)
        (omega (arith, r.below)) ∙ ap suc (rest r.rest)

pub same_length : (n : Nest) → is_shape n.points ≡ true → (gs hs : List ℕ) → are_gaps n gs ≡ true →
    are_gaps n hs ≡ true → SameCounts n gs hs → length gs ≡ length hs
same_length n shape gs hs a b same =
    sym (total_length n shape 0 gs a) ∙ total_same n gs hs same (length n.points) ∙ total_length n shape 0 hs b

pub keys_length : (n : Nest) → is_shape n.points ≡ true → (j k : List ℕ) → IsKey n j → IsKey n k →
    length j ≡ length k
keys_length n shape j k p q =
    same_length n shape j k (correct_gaps n j p.correct) (correct_gaps n k q.correct) (keys_agree n shape j k p q)
