-- A correct placement that is cheapest by some cost, found by trying them all. Costs are lists of numbers, the first
-- place where two differ decides. With it a planner that compares placements in another way than the paper is a planner
-- that there is.
-- Main definitions: `IsCheapest`, `cheapest`. Main statement: `cheapest_is`.
use mathlib.Core.Path.{◌≡◌, refl, ap}
use mathlib.Core.Bool.{Bool, true, false, ◌&&◌}
use mathlib.Core.List.{List, [], ◌∷◌, ◌++◌}
use mathlib.Core.Logic.{◌⊎◌, inl, inr}
use Prim.Native.Nat.{ℕ, zero, suc, ◌+◌, ◌-◌}
use native.Mathlib.Omega.{arith}
use lib.ListN.{length}
use borrow.Author.Tests.{lt-ltb}
use Rattle.laws.specs.Choice.{pick}
use Rattle.laws.specs.Members.{Among}
use Rattle.laws.proofs.Tests.{eq_or, and_intro}
use Rattle.laws.proofs.Members.{among_front, among_back}
use Rattle.paper_nests.specs.Nests.{Nest}
use Rattle.paper_nests.specs.Valid.{is_valid}
use Rattle.paper_nests.proofs.Deps.{valid_is}
use Rattle.paper_nests.proofs.Loops.{outermost}
use Rattle.paper_placements.specs.Placements.{are_gaps_from, is_correct}
use Rattle.paper_placements.proofs.Cuts.{correct_gaps}
use Rattle.paper_placements.proofs.Rising.{Rises, rises}
use Rattle.paper_barred.specs.Reduced.{is_blocked}
use Rattle.plan_theorem.specs.KeyOf.{key_of}
use Rattle.plan_theorem.specs.ListOrder.{first_in_order}
use Rattle.plan_theorem.proofs.KeyIsKey.{key_is_key}
use Rattle.plan_theorem.proofs.ListOrder.{order_refl, order_total, order_trans}

-- correct, and no correct placement costs less
pub record IsCheapest (cost : Nest → List ℕ → List ℕ) (n : Nest) (gs : List ℕ) : Type 0 where
  pub correct : is_correct n gs ≡ true
  pub least : (hs : List ℕ) → is_correct n hs ≡ true → first_in_order (cost n gs) (cost n hs) ≡ true

-- every list with the gap in front
abbrev in_front : ℕ → List (List ℕ) → List (List ℕ)
in_front g [] = []
in_front g (gs ∷ gss) = (g ∷ gs) ∷ in_front g gss

-- the rising lists of the k gaps above p
unfoldable pub rising_lists : ℕ → ℕ → List (List ℕ)
rising_lists zero p = [] ∷ []
rising_lists (suc k) p =
    let rest = rising_lists k (suc p) in
    in_front (suc p) rest ++ rest

module _ (cost : Nest → List ℕ → List ℕ) (n : Nest) where
  -- the cheaper of two, if it is correct
  abbrev cheaper : List ℕ → List ℕ → List ℕ
  cheaper gs best = pick (is_correct n gs && first_in_order (cost n gs) (cost n best)) gs best

  -- the cheapest of the lists, or the best before them
  unfoldable pub cheapest_of : List (List ℕ) → List ℕ → List ℕ
  cheapest_of [] best = best
  cheapest_of (gs ∷ gss) best = cheapest_of gss (cheaper gs best)

  -- of all placements: no correct one costs less
  unfoldable pub cheapest : List ℕ
  cheapest = cheapest_of (rising_lists (length n.points - 1) 0) (key_of n)

  -- it costs at most as much
  abbrev Beats : List ℕ → List ℕ → Type 0
  Beats gs hs = first_in_order (cost n gs) (cost n hs) ≡ true

  cheaper_correct : (gs best : List ℕ) → is_correct n best ≡ true → is_correct n (cheaper gs best) ≡ true
  cheaper_correct gs best c = go (is_correct n gs) (first_in_order (cost n gs) (cost n best)) refl
    where
      go : (t u : Bool) → is_correct n gs ≡ t → is_correct n (pick (t && u) gs best) ≡ true
      go true true e = e
      go true false e = c
      go false u e = c

  cheaper_best : (gs best : List ℕ) → Beats (cheaper gs best) best
  cheaper_best gs best = go (is_correct n gs) (first_in_order (cost n gs) (cost n best)) refl
    where
      go : (t u : Bool) → first_in_order (cost n gs) (cost n best) ≡ u → Beats (pick (t && u) gs best) best
      go true true e = e
      go true false e = order_refl (cost n best)
      go false u e = order_refl (cost n best)

  cheaper_both : (gs best : List ℕ) → is_correct n gs ≡ true → Beats (cheaper gs best) gs
  cheaper_both gs best c = rw c (go (first_in_order (cost n gs) (cost n best)) refl)
    where
      go : (u : Bool) → first_in_order (cost n gs) (cost n best) ≡ u → Beats (pick u gs best) gs
      go true e = order_refl (cost n gs)
      go false e = order_total (cost n gs) (cost n best) e

  then_beats : (a b c : List ℕ) → Beats a b → Beats b c → Beats a c
  then_beats a b c = order_trans (cost n a) (cost n b) (cost n c)

  of_correct
      : (gss : List (List ℕ)) (best : List ℕ)
      → is_correct n best ≡ true
      → is_correct n (cheapest_of gss best) ≡ true
  unfolding cheapest_of
  of_correct [] best c = c
  of_correct (gs ∷ gss) best c = of_correct gss (cheaper gs best) (cheaper_correct gs best c)

  of_best : (gss : List (List ℕ)) (best : List ℕ) → Beats (cheapest_of gss best) best
  unfolding cheapest_of
  of_best [] best = order_refl (cost n best)
  of_best (gs ∷ gss) best =
      then_beats (cheapest_of gss (cheaper gs best)) (cheaper gs best) best (of_best gss (cheaper gs best))
      (cheaper_best gs best)

  of_each
      : (gss : List (List ℕ)) (best hs : List ℕ) → Among hs gss → is_correct n hs ≡ true → Beats (cheapest_of gss best) hs
  unfolding cheapest_of
  of_each [] best hs a c = absurd a
  of_each (gs ∷ gss) best hs (inl e) c =
      then_beats (cheapest_of gss (cheaper gs best)) (cheaper gs best) hs (of_best gss (cheaper gs best))
      (rw e (cheaper_both gs best (rw e at c)))
  of_each (gs ∷ gss) best hs (inr a) c = of_each gss (cheaper gs best) hs a c

-- membership, of lists with a gap in front of each
in-front : (g : ℕ) (gs : List ℕ) (xs : List (List ℕ)) → Among gs xs → Among (g ∷ gs) (in_front g xs)
in-front g gs [] a = absurd a
in-front g gs (x ∷ xs) (inl e) = inl (ap (λ (hs : List ℕ). g ∷ hs) e)
in-front g gs (x ∷ xs) (inr a) = inr (in-front g gs xs a)

-- every rising list is tried
listed
    : (k p n : ℕ) (gs : List ℕ) → n ≡ suc (p + k) → are_gaps_from p n gs ≡ true → Among gs (rising_lists k p)
unfolding rising_lists
listed zero p n [] e h = inl refl
listed zero p n (g ∷ gs) e h =
    let r = rises p n g gs h in
    absurd (omega (arith, r.above, r.below))
listed (suc k) p n [] e h =
    among_back [] (in_front (suc p) (rising_lists k (suc p))) (rising_lists k (suc p))
    (listed k (suc p) n [] (omega arith) refl)
listed (suc k) p n (g ∷ gs) e h =
    go (rises p n g gs h) (eq_or g (suc p)) (listed k (suc p) n gs (omega arith))
    (listed k (suc p) n (g ∷ gs) (omega arith))
  where
    rest : List (List ℕ)
    rest = rising_lists k (suc p)

    go
        : Rises p n g gs
        → (g ≡ suc p) ⊎ ((g ≡ suc p) → ⊥)
        → (are_gaps_from (suc p) n gs ≡ true → Among gs (rising_lists k (suc p)))
        → (are_gaps_from (suc p) n (g ∷ gs) ≡ true → Among (g ∷ gs) (rising_lists k (suc p)))
        → Among (g ∷ gs) (in_front (suc p) (rising_lists k (suc p)) ++ rising_lists k (suc p))
    go r (inl z) with_it without =
        rw z
        (among_front (suc p ∷ gs) (in_front (suc p) rest) rest (in-front (suc p) gs rest (with_it (rw z at r.rest))))
    go r (inr z) with_it without =
        among_back (g ∷ gs) (in_front (suc p) rest) rest
        (without
        (and_intro (lt-ltb (suc p) g (omega (arith, r.above, z))) (and_intro (lt-ltb g n r.below) r.rest)))

pub cheapest_is
    : (cost : Nest → List ℕ → List ℕ) (n : Nest)
    → is_valid n ≡ true
    → is_blocked n ≡ false
    → IsCheapest cost n (cheapest cost n)
unfolding cheapest
cheapest_is cost n v unblocked = record {
  correct = of_correct cost n tried (key_of n) (key_is_key n v unblocked).correct;
  least = λ hs c. of_each cost n tried (key_of n) hs (each hs (correct_gaps n hs c)) c;
}
  where
    tried : List (List ℕ)
    tried = rising_lists (length n.points - 1) 0

    each
        : (hs : List ℕ)
        → are_gaps_from 0 (length n.points) hs ≡ true
        → Among hs (rising_lists (length n.points - 1) 0)
    each hs h =
        listed (length n.points - 1) 0 (length n.points) hs
        (omega (arith, outermost n.points (valid_is n v).shape)) h
