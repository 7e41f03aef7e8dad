-- How many gaps a placement has: the sum of its counts. So all keys of a nest have equally many, with equal counts.
-- Main statements: `size_is_total`, `same_counts_of`, `keys_same_counts`, `keys_same_size`.
use mathlib.Core.Path.{◌≡◌, refl, sym, ap, ◌∙◌}
use mathlib.Core.Bool.{Bool, true, false}
use mathlib.Core.List.{List, [], ◌∷◌, ◌++◌}
use mathlib.Core.Logic.{◌⊎◌, inl, inr}
use Prim.Native.Nat.{ℕ, zero, suc, ◌+◌, ◌≤◌, ◌<◌}
use native.Mathlib.Omega.{arith}
use lib.ListN.{length}
use borrow.Author.Tests.{eq-eqb, ne_eqb}
use Rattle.laws.specs.Choice.{pick}
use Rattle.laws.proofs.Tests.{never_both, eq_or}
use Rattle.paper_nests.specs.Nests.{Nest}
use Rattle.paper_nests.specs.Loops.{is_do, owner_of}
use Rattle.paper_nests.specs.Valid.{is_shape}
use Rattle.paper_nests.proofs.Levels.{point_in}
use Rattle.paper_nests.proofs.Loops.{owner_is_do}
use Rattle.paper_placements.specs.Placements.{are_gaps_from, are_gaps, loop_count}
use Rattle.paper_order.specs.Keys.{IsKey}
use Rattle.paper_order.proofs.Cases.{counts_from, counts_of}
use Rattle.paper_placements.proofs.Cuts.{correct_gaps}
use Rattle.paper_placements.proofs.Rising.{Rises, rises}
use Rattle.paper_order.proofs.LoopOrder.{SameCounts}
use Rattle.paper_order.proofs.Keys.{keys_agree}

abbrev pub total : List ℕ → ℕ
total [] = 0
total (c ∷ cs) = c + total cs

module _ (n : Nest) where
  none_total : (f d : ℕ) → total (counts_from f d n []) ≡ 0
  none_total zero d = refl
  none_total (suc f) d = go (is_do n.points d) (none_total f (suc d))
    where
      go
          : (t : Bool)
          → total (counts_from f (suc d) n []) ≡ 0
          → total (pick t (0 ∷ []) [] ++ counts_from f (suc d) n []) ≡ 0
      go true r = omega arith
      go false r = r

  module _ (g : ℕ) (gs : List ℕ) where
    abbrev owner : ℕ
    owner = owner_of n.points g

    -- a gap of another loop adds nothing to a loop's count, one of its own adds 1
    other : (d : ℕ) → (owner ≡ d → ⊥) → loop_count n (g ∷ gs) d ≡ loop_count n gs d
    other d h = rw (ne_eqb owner d h) (omega arith)

    own : (d : ℕ) → owner ≡ d → loop_count n (g ∷ gs) d ≡ suc (loop_count n gs d)
    own d h = rw (eq-eqb owner d h) (omega arith)

    -- the counts of the loops after the gap's
    after_owner : (f d : ℕ) → owner < d → total (counts_from f d n (g ∷ gs)) ≡ total (counts_from f d n gs)
    after_owner zero d l = refl
    after_owner (suc f) d l = go (is_do n.points d) (after_owner f (suc d) (omega arith))
      where
        go
            : (t : Bool)
            → total (counts_from f (suc d) n (g ∷ gs)) ≡ total (counts_from f (suc d) n gs)
            → total (pick t (loop_count n (g ∷ gs) d ∷ []) [] ++ counts_from f (suc d) n (g ∷ gs)) ≡
            total (pick t (loop_count n gs d ∷ []) [] ++ counts_from f (suc d) n gs)
        go true r = let z = other d (λ e. omega arith) in omega arith
        go false r = r

    -- the counts of loops with the gap's among them
    with_owner
        : (f d : ℕ)
        → is_do n.points owner ≡ true
        → d ≤ owner
        → owner < d + f
        → total (counts_from f d n (g ∷ gs)) ≡ suc (total (counts_from f d n gs))
    with_owner zero d h l m = absurd (omega arith)
    with_owner (suc f) d h l m = go (is_do n.points d) refl (eq_or owner d) (with_owner f (suc d) h)
      where
        go
            : (t : Bool)
            → is_do n.points d ≡ t
            → (owner ≡ d) ⊎ ((owner ≡ d) → ⊥)
            → (suc d ≤ owner
            → owner < suc d + f
            → total (counts_from f (suc d) n (g ∷ gs)) ≡ suc (total (counts_from f (suc d) n gs)))
            → total (pick t (loop_count n (g ∷ gs) d ∷ []) [] ++ counts_from f (suc d) n (g ∷ gs)) ≡
            suc (total (pick t (loop_count n gs d ∷ []) [] ++ counts_from f (suc d) n gs))
        go true e (inl z) r =
            let a = own d z in
            let b = after_owner f (suc d) (omega arith) in
            omega arith
        go true e (inr z) r =
            let a = other d z in
            let b = r (omega (arith, z)) (omega arith) in
            omega arith
        go false e (inl z) r = never_both (rw z at h) e
        go false e (inr z) r = r (omega (arith, z)) (omega arith)

  size_from
      : (last : ℕ) (gs : List ℕ)
      → is_shape n.points ≡ true
      → are_gaps_from last (length n.points) gs ≡ true
      → total (counts_of n gs) ≡ length gs
  size_from last [] shape h = none_total (length n.points) 0
  size_from last (g ∷ gs) shape h = go (rises last (length n.points) g gs h) (size_from g gs shape)
    where
      go
          : Rises last (length n.points) g gs
          → (are_gaps_from g (length n.points) gs ≡ true → total (counts_of n gs) ≡ length gs)
          → total (counts_of n (g ∷ gs)) ≡ suc (length gs)
      go r rest =
          let loop = owner_is_do n.points shape g (omega (arith, r.above)) r.below in
          let o = owner_of n.points g in
          let there : o < length n.points = point_in n.points o 0 loop in
          omega (arith, with_owner g gs (length n.points) 0 loop (omega arith) (omega arith), rest r.rest)

-- a placement has as many gaps as its counts make together
pub size_is_total
    : (n : Nest) (gs : List ℕ)
    → is_shape n.points ≡ true
    → are_gaps n gs ≡ true
    → total (counts_of n gs) ≡ length gs
size_is_total n gs shape h = size_from n 0 gs shape h

-- equal counts at every loop are equal lists of counts
same_from : (n : Nest) (a b : List ℕ) → SameCounts n a b → (f d : ℕ) → counts_from f d n a ≡ counts_from f d n b
same_from n a b s zero d = refl
same_from n a b s (suc f) d = go (is_do n.points d) refl (same_from n a b s f (suc d))
  where
    go
        : (t : Bool)
        → is_do n.points d ≡ t
        → counts_from f (suc d) n a ≡ counts_from f (suc d) n b
        → pick t (loop_count n a d ∷ []) [] ++ counts_from f (suc d) n a ≡
        pick t (loop_count n b d ∷ []) [] ++ counts_from f (suc d) n b
    go true e r = cc (s d e)
    go false e r = r

pub same_counts_of : (n : Nest) (a b : List ℕ) → SameCounts n a b → counts_of n a ≡ counts_of n b
same_counts_of n a b s = same_from n a b s (length n.points) 0

-- all keys of a nest have the same counts, and equally many gaps
module _ (n : Nest) (shape : is_shape n.points ≡ true) (j k : List ℕ) (p : IsKey n j) (q : IsKey n k) where
  pub keys_same_counts : counts_of n j ≡ counts_of n k
  keys_same_counts = same_counts_of n j k (keys_agree n shape j k p q)

  pub keys_same_size : length j ≡ length k
  keys_same_size =
      sym (size_is_total n j shape (correct_gaps n j p.correct)) ∙
      ap total keys_same_counts ∙
      size_is_total n k shape (correct_gaps n k q.correct)
