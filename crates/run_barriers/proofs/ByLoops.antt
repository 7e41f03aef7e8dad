-- A placement's calls loop by loop: each loop's count times how often its own gaps are passed. So the calls of a list
-- of gaps are those of the predicate that holds of its members.
-- Main definition: `price_of`. Main statements: `calls_by_loops`, `same_calls`, `list_calls`, `doubling`.
use mathlib.Core.Path.{◌≡◌, refl, sym, ap, ◌∙◌}
use mathlib.Core.Bool.{Bool, true, false}
use mathlib.Core.List.{List, [], ◌∷◌}
use mathlib.Core.Logic.{⊎_elim}
use Prim.Native.Nat.{ℕ, zero, suc, ◌+◌, ◌*◌, ◌≤◌, ◌<◌}
use native.Mathlib.Nat.{zero-mul, suc-mul, mul-le-mul_right}
use native.Mathlib.Omega.{arith}
use lib.ListN.{length}
use borrow.Author.Tests.{eq-eqb, ne_eqb}
use Rattle.laws.specs.Choice.{when}
use Rattle.laws.proofs.Tests.{test}
use Rattle.paper_nests.specs.Nests.{Nest}
use Rattle.paper_nests.specs.Loops.{is_do, end_of, owner_of}
use Rattle.paper_nests.specs.Valid.{is_shape}
use Rattle.paper_nests.proofs.Levels.{point_in}
use Rattle.paper_nests.proofs.Loops.{outermost, owner_is_do, owner_below}
use Rattle.paper_placements.specs.Placements.{are_gaps_from, are_gaps, loop_count}
use Rattle.paper_placements.proofs.Rising.{Rises, rises}
use Rattle.plan_method.specs.Home.{loops_in}
use Rattle.plan_method.proofs.Claim.{count}
use Rattle.plan_exchange.proofs.Totals.{total, total_same, total_put}
use Rattle.plan_exchange.proofs.Prices.{Prices, calls_at, calls}
use Rattle.plan_theorem.proofs.Predicates.{member_of, list_count}
use Rattle.run_barriers.specs.Calls.{INNER, OUTER, turns_of, times_at, calls_in, calls_of, turns_fit}
use Rattle.run_barriers.proofs.Turns.{turns_least}
use Rattle.run_barriers.proofs.Times.{times_own, times_do}

-- how often a loop's own gaps are passed
abbrev pub price_of : List ℕ → List ℕ → ℕ → ℕ
price_of ps ts l = times_at ps ts (suc l)

-- the calls at a loop
abbrev at_loop : Nest → List ℕ → List ℕ → ℕ → ℕ
at_loop n ts gs l = when (is_do n.points l) (loop_count n gs l * price_of n.points ts l)

module _ (n : Nest) (shape : is_shape n.points ≡ true) (ts : List ℕ) where
  abbrev ps : List ℕ
  ps = n.points

  none_at : (k : ℕ) → total (at_loop n ts []) k ≡ 0
  unfolding total
  none_at zero = refl
  none_at (suc k) =
      let z : at_loop n ts [] k ≡ 0 = pick_zero (is_do ps k) (zero-mul (price_of ps ts k)) in
      omega (arith, none_at k)
    where
      pick_zero : (t : Bool) {m : ℕ} → m ≡ 0 → when t m ≡ 0
      pick_zero true h = h
      pick_zero false h = refl

  -- a gap in front of the others counts at its own loop alone
  one_more : (g : ℕ) (gs : List ℕ) → 0 < g → g < length ps →
      total (at_loop n ts (g ∷ gs)) (end_of ps 0) ≡ total (at_loop n ts gs) (end_of ps 0) + times_at ps ts g
  one_more g gs a b =
      total_put (at_loop n ts (g ∷ gs)) (at_loop n ts gs) l (times_at ps ts g) (end_of ps 0) below others here
    where
      l : ℕ
      l = owner_of ps g

      below : l < end_of ps 0
      below = omega (arith, owner_below ps shape g a b, outermost ps shape)

      others : (m : ℕ) → m < end_of ps 0 → (m ≡ l → ⊥) → at_loop n ts (g ∷ gs) m ≡ at_loop n ts gs m
      others m i p = ap (λ (k : ℕ). when (is_do ps m) (k * price_of ps ts m)) same
        where
          same : loop_count n (g ∷ gs) m ≡ loop_count n gs m
          same = rw (ne_eqb l m (λ z. p (sym z))) (omega arith)

      here : at_loop n ts (g ∷ gs) l ≡ at_loop n ts gs l + times_at ps ts g
      here =
          let w = price_of ps ts l in
          let own : is_do ps l ≡ true = owner_is_do ps shape g a b in
          let more : loop_count n (g ∷ gs) l ≡ suc (loop_count n gs l) = rw (eq-eqb l l refl) (omega arith) in
          let new : at_loop n ts (g ∷ gs) l ≡ loop_count n (g ∷ gs) l * w = rw own in
          let old : at_loop n ts gs l ≡ loop_count n gs l * w = rw own in
          let grown : loop_count n (g ∷ gs) l * w ≡ suc (loop_count n gs l) * w = ap (λ (k : ℕ). k * w) more in
          omega (arith, suc-mul (loop_count n gs l) w, times_own ps shape ts g a b)

  calls_from : (last : ℕ) (gs : List ℕ) → are_gaps_from last (length ps) gs ≡ true →
      calls_of n ts gs ≡ total (at_loop n ts gs) (end_of ps 0)
  unfolding calls_in
  calls_from last [] h = sym (none_at (end_of ps 0))
  calls_from last (g ∷ gs) h = go (rises last (length ps) g gs h) (calls_from g gs)
    where
      go :
          Rises last (length ps) g gs →
          (are_gaps_from g (length ps) gs ≡ true → calls_of n ts gs ≡ total (at_loop n ts gs) (end_of ps 0)) →
          times_at ps ts g + calls_of n ts gs ≡ total (at_loop n ts (g ∷ gs)) (end_of ps 0)
      go r rest = omega (arith, one_more g gs (omega (arith, r.above)) r.below, rest r.rest)

  pub calls_by_loops : (gs : List ℕ) → are_gaps n gs ≡ true → calls_of n ts gs ≡ total (at_loop n ts gs) (end_of ps 0)
  calls_by_loops gs h = calls_from 0 gs h

  -- placements with the same counts have the same calls (001: the same tree cost, the same dynamic count)
  pub same_calls : (gs hs : List ℕ) → are_gaps n gs ≡ true → are_gaps n hs ≡ true →
      ((l : ℕ) → is_do ps l ≡ true → loop_count n gs l ≡ loop_count n hs l) → calls_of n ts gs ≡ calls_of n ts hs
  same_calls gs hs h k e =
      calls_by_loops gs h ∙
      total_same (at_loop n ts gs) (at_loop n ts hs) (end_of ps 0) (λ l i. at l) ∙
      sym (calls_by_loops hs k)
    where
      at : (l : ℕ) → at_loop n ts gs l ≡ at_loop n ts hs l
      at l =
          ⊎_elim
          (λ (z : is_do ps l ≡ true). ap (λ (k : ℕ). when (is_do ps l) (k * price_of ps ts l)) (e l z))
          (λ (z : is_do ps l ≡ false). rw z)
          (test (is_do ps l))

  -- the calls of a list are those of its predicate
  pub list_calls : (gs : List ℕ) → are_gaps n gs ≡ true →
      calls_of n ts gs ≡ calls (loops_in ps) 0 (price_of ps ts) (member_of gs)
  unfolding calls
  list_calls gs h =
      calls_by_loops gs h ∙
      total_same (at_loop n ts gs) (calls_at (loops_in ps) (price_of ps ts) (member_of gs)) (end_of ps 0) (λ l i. at l)
    where
      at : (l : ℕ) → at_loop n ts gs l ≡ calls_at (loops_in ps) (price_of ps ts) (member_of gs) l
      at l =
          ⊎_elim
          (λ (z : is_do ps l ≡ true). (
          let e : loop_count n gs l ≡ count (loops_in ps) (member_of gs) l = list_count n gs l shape h z in
          ap (λ (k : ℕ). when (is_do ps l) (k * price_of ps ts l)) e))
          (λ (z : is_do ps l ≡ false). rw z)
          (test (is_do ps l))

  -- a loop inside another is passed at least twice as often
  pub doubling : turns_fit n ts ≡ true → Prices (loops_in ps) 0 (price_of ps ts)
  doubling fit = record { twice = λ l i h. twice l i.is-do h }
    where
      twice : (l : ℕ) → is_do ps l ≡ true → 0 < l → 2 * price_of ps ts (owner_of ps l) ≤ price_of ps ts l
      twice l h i =
          let e : times_at ps ts l ≡ price_of ps ts (owner_of ps l) = times_own ps shape ts l i (point_in ps l 0 h) in
          let t : 2 * times_at ps ts l ≤ turns_of ps ts l * times_at ps ts l =
          mul-le-mul_right (times_at ps ts l) (turns_least OUTER INNER ps ts fit shape l h i) in
          omega (arith, times_do ps shape ts l h)
