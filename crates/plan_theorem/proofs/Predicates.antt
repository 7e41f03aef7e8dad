-- Placements as rising lists and as predicates: a list stands for the predicate that holds of its members. Both cut the
-- same dependences and have the same counts, so what the planner's theorem says of predicates holds of lists.
-- Main statements: `list_cuts`, `cuts_list`, `list_count`, `list_key`.
use mathlib.Core.Path.{◌≡◌, refl, sym, ap, ◌∙◌}
use mathlib.Core.Bool.{Bool, true, false, ◌&&◌}
use mathlib.Core.List.{List, [], ◌∷◌}
use mathlib.Core.Logic.{◌⊎◌, inl, inr, ⊎_elim}
use Prim.Native.Nat.{ℕ, suc, ◌≤◌, ◌<◌}
use native.Mathlib.Omega.{arith}
use lib.Dec.{eqb}
use borrow.Author.Tests.{eqb-true, eq-eqb, ne_eqb}
use Rattle.laws.specs.Choice.{is_in}
use Rattle.laws.specs.Members.{Among}
use Rattle.laws.proofs.Tests.{never, eq_or, false_by, and_true}
use Rattle.paper_nests.specs.Nests.{Dep, Nest}
use Rattle.paper_nests.specs.Loops.{is_do, end_of, owner_of}
use Rattle.paper_nests.specs.Valid.{is_shape}
use Rattle.paper_nests.proofs.Loops.{inside_by, outermost, end_in_outermost, owner_holds}
use Rattle.paper_placements.specs.Placements.{cuts, are_gaps_from, are_gaps, avoids, is_correct, loop_count}
use Rattle.paper_order.specs.LoopOrder.{as_good}
use Rattle.paper_order.specs.Keys.{IsKey}
use Rattle.paper_placements.proofs.Cuts.{cut_has_gap, gap_cuts, correct_by, correct_gaps, correct_cuts}
use Rattle.paper_placements.proofs.Rising.{Rises, rises, rising_out}
use Rattle.paper_order.proofs.LoopOrder.{SameInside, as_good_intro}
use Rattle.plan_method.specs.Home.{loops_in}
use Rattle.plan_method.proofs.Counts.{cnt, cnt_same, cnt_skip, cnt_none, cnt_put}
use Rattle.plan_method.proofs.Claim.{mine_of, count}
use Rattle.plan_method.proofs.Cuts.{Cut}
use Rattle.plan_method.proofs.NestKey.{NestKey}

-- ---- cuts

-- the predicate of a list
abbrev pub member_of : List ℕ → ℕ → Bool
member_of gs g = is_in g gs

pub list_cuts : (ps : List ℕ) (e : Dep) (gs : List ℕ) → cuts ps e gs ≡ true → Cut ps e (member_of gs)
list_cuts ps e gs h =
    let c = cut_has_gap ps e gs h in
    record { gap = c.gap; of = c.its; holds = c.placed }

pub cuts_list : (ps : List ℕ) (e : Dep) (gs : List ℕ) → Cut ps e (member_of gs) → cuts ps e gs ≡ true
cuts_list ps e gs c = gap_cuts ps e gs c.gap c.holds c.of

-- ---- counts

-- placements that hold the same gaps have the same counts
pub same_count
    : (ps : List ℕ) (x y : ℕ → Bool) (d : ℕ)
    → ((g : ℕ) → x g ≡ y g)
    → count (loops_in ps) x d ≡ count (loops_in ps) y d
unfolding mine_of
same_count ps x y d h =
    cnt_same
    (mine_of (loops_in ps) x d)
    (mine_of (loops_in ps) y d)
    (end_of ps d)
    (λ g p q. ap (λ (t : Bool). eqb (owner_of ps g) d && t) (h g))

module _ (n : Nest) (d : ℕ) where
  abbrev mine : List ℕ → ℕ → Bool
  mine gs = mine_of (loops_in n.points) (member_of gs) d

  -- a gap in front of the others, of loop d or of another loop
  with_own
      : (last k g : ℕ) (gs : List ℕ)
      → Rises last (suc k) g gs
      → owner_of n.points g ≡ d
      → cnt (mine (g ∷ gs)) k ≡ suc (cnt (mine gs) k)
  unfolding mine_of
  with_own last k g gs r o =
      cnt_put (mine (g ∷ gs)) (mine gs) k g (omega (arith, r.above)) (omega (arith, r.below))
      (rw (eq-eqb (owner_of n.points g) d o, eq-eqb g g refl))
      (rw (eq-eqb (owner_of n.points g) d o) (rising_out g (suc k) gs g r.rest (omega arith)))
      (λ i z. rw (ne_eqb i g z))

  with_other
      : (k g : ℕ) (gs : List ℕ)
      → (owner_of n.points g ≡ d → ⊥)
      → cnt (mine (g ∷ gs)) k ≡ cnt (mine gs) k
  unfolding mine_of
  with_other k g gs o = cnt_same (mine (g ∷ gs)) (mine gs) k same
    where
      same : (i : ℕ) → 0 < i → i ≤ k → mine (g ∷ gs) i ≡ mine gs i
      same i p q =
          ⊎_elim
          (λ (z : i ≡ g). rw (z, ne_eqb (owner_of n.points g) d o))
          (λ (z : i ≡ g → ⊥). rw (ne_eqb i g z))
          (eq_or i g)

  -- over all the gaps
  count_over
      : (last k : ℕ) (gs : List ℕ)
      → are_gaps_from last (suc k) gs ≡ true
      → loop_count n gs d ≡ cnt (mine gs) k
  unfolding mine_of
  count_over last k [] h = sym (cnt_none (mine []) k (λ g p q. false_by (λ z. none g z)))
    where
      none : (g : ℕ) → mine [] g ≡ true → ⊥
      none g z = never (and_true (eqb (owner_of n.points g) d) false z).1
  count_over last k (g ∷ gs) h = go (rises last (suc k) g gs h) (eq_or (owner_of n.points g) d) (count_over g k gs)
    where
      go
          : Rises last (suc k) g gs
          → (owner_of n.points g ≡ d) ⊎ ((owner_of n.points g ≡ d) → ⊥)
          → (are_gaps_from g (suc k) gs ≡ true → loop_count n gs d ≡ cnt (mine gs) k)
          → loop_count n (g ∷ gs) d ≡ cnt (mine (g ∷ gs)) k
      go r (inl o) rest =
          rw (eq-eqb (owner_of n.points g) d o) (omega (arith, with_own last k g gs r o, rest r.rest))
      go r (inr o) rest =
          rw (ne_eqb (owner_of n.points g) d o) (omega (arith, with_other k g gs o, rest r.rest))

-- a list's count at a loop is its predicate's: no gap above the loop's ENDDO belongs to the loop
pub list_count
    : (n : Nest) (gs : List ℕ) (d : ℕ)
    → is_shape n.points ≡ true
    → are_gaps n gs ≡ true
    → is_do n.points d ≡ true
    → loop_count n gs d ≡ count (loops_in n.points) (member_of gs) d
unfolding mine_of
list_count n gs d shape h loop =
    let ps = n.points in
    let all = outermost ps shape in
    let over : loop_count n gs d ≡ cnt (mine n d gs) (end_of ps 0) = count_over n d 0 (end_of ps 0) gs (rw (← all) at h) in
    over ∙ cnt_skip (mine n d gs) (end_of ps d) (end_of ps 0) (end_in_outermost ps shape d loop) beyond
  where
    beyond : (g : ℕ) → end_of n.points d < g → g ≤ end_of n.points 0 → mine n d gs g ≡ false
    beyond g p q = false_by (λ z. owned (and_true (eqb (owner_of n.points g) d) (is_in g gs) z).0)
      where
        owned : eqb (owner_of n.points g) d ≡ true → ⊥
        owned z =
            let o : owner_of n.points g ≡ d = eqb-true (owner_of n.points g) d z in
            let e : end_of n.points (owner_of n.points g) ≡ end_of n.points d = ap (end_of n.points) o in
            omega (arith, owner_holds n.points shape g (omega arith) (omega (arith, outermost n.points shape)))

-- ---- keys

-- a list without barred gaps that holds the gaps of a placement to which the planner's theorem applies is a key
module _
    (n : Nest) (x : ℕ → Bool) (ks : List ℕ) (shape : is_shape n.points ≡ true) (key : NestKey n.points n.deps x)
    (gaps : are_gaps n ks ≡ true) (avoiding : avoids n.barred ks ≡ true) (same : (g : ℕ) → is_in g ks ≡ x g) where
  counted : (d : ℕ) → is_do n.points d ≡ true → loop_count n ks d ≡ count (loops_in n.points) x d
  counted d h = list_count n ks d shape gaps h ∙ same_count n.points (member_of ks) x d same

  all_cut : (e : Dep) → Among e n.deps → cuts n.points e ks ≡ true
  all_cut e a =
      let c = key.cuts e a in
      cuts_list n.points e ks (record { gap = c.gap; of = c.of; holds = same c.gap ∙ c.holds })

  as-good : (gs : List ℕ) → is_correct n gs ≡ true → as_good n ks gs ≡ true
  as-good gs c = as_good_intro n shape ks gs at_most
    where
      count_of : (d : ℕ) → is_do n.points d ≡ true → loop_count n gs d ≡ count (loops_in n.points) (member_of gs) d
      count_of d h = list_count n gs d shape (correct_gaps n gs c) h

      at_most : (d : ℕ) → is_do n.points d ≡ true → SameInside n ks gs d → loop_count n ks d ≤ loop_count n gs d
      at_most d h s =
          omega (
            arith,
            counted d h,
            count_of d h,
            key.least (member_of gs) d (λ e a. list_cuts n.points e gs (correct_cuts n gs c e a)) h inside,
          )
        where
          inside
              : (l : ℕ)
              → is_do n.points l ≡ true
              → d < l
              → l < end_of n.points d
              → count (loops_in n.points) (member_of gs) l ≡ count (loops_in n.points) x l
          inside l k p q =
              sym (count_of l k) ∙ sym (s l k (inside_by n.points d l p q)) ∙ counted l k

  pub list_key : IsKey n ks
  list_key = record { correct = correct_by n ks gaps avoiding all_cut; least = as-good }
