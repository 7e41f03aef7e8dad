-- Cuts: which gap cuts a dependence, the lowest uncut dependence, and correct placements taken apart.
-- Main statements: `cut_has_gap`, `gap_cuts`, `avoids_in`, `avoids_by`, `avoids_none`, `uncut_none`, `none_uncut`,
-- `uncut_first`, `first-uncut`, `correct_by`, `correct_gaps`, `correct_avoids`, `correct_cuts`.
use mathlib.Core.Path.{◌≡◌, refl}
use mathlib.Core.Bool.{Bool, true, false, ◌&&◌}
use mathlib.Core.List.{List, [], ◌∷◌}
use mathlib.Core.Logic.{inl, inr, ⊎_elim}
use Prim.Native.Nat.{ℕ, zero, suc, ◌+◌, ◌<◌}
use native.Mathlib.Omega.{arith}
use lib.Dec.{eqb}
use lib.ListN.{length, get_or}
use borrow.Author.Tests.{eqb-true, eq-eqb}
use Rattle.laws.specs.Choice.{pick, is_in}
use Rattle.laws.specs.Members.{Among}
use Rattle.laws.proofs.Tests.{never, and_intro, and_true, or_left, or_right, or-true}
use Rattle.laws.proofs.Members.{in_here, in_later, in_cons}
use Rattle.paper_nests.specs.Nests.{Dep, Nest}
use Rattle.paper_nests.specs.Gaps.{has_gap}
use Rattle.paper_placements.specs.Placements.{cuts, uncut_from, uncut, are_gaps, is_free, avoids, is_correct}

-- a gap of the placement that is one of the dependence's
pub record CutBy (ps : List ℕ) (e : Dep) (gs : List ℕ) : Type 0 where
  pub gap : ℕ
  pub placed : is_in gap gs ≡ true
  pub its : has_gap ps e gap ≡ true

pub cut_has_gap : (ps : List ℕ) (e : Dep) (gs : List ℕ) → cuts ps e gs ≡ true → CutBy ps e gs
cut_has_gap ps e [] h = never h
cut_has_gap ps e (g ∷ gs) h = ⊎_elim
    (λ (z : has_gap ps e g ≡ true). record { gap = g; placed = in_here g gs; its = z })
    (λ (z : cuts ps e gs ≡ true). later (cut_has_gap ps e gs z))
    (or-true (has_gap ps e g) (cuts ps e gs) h)
  where
    later : CutBy ps e gs → CutBy ps e (g ∷ gs)
    later c = record { gap = c.gap; placed = in_later c.gap g gs c.placed; its = c.its }

pub gap_cuts :
    (ps : List ℕ) (e : Dep) (gs : List ℕ) (g : ℕ) → is_in g gs ≡ true → has_gap ps e g ≡ true → cuts ps e gs ≡ true
gap_cuts ps e [] g h k = never h
gap_cuts ps e (x ∷ xs) g h k = ⊎_elim
    (λ (z : g ≡ x). or_left (cuts ps e xs) (rw z at k))
    (λ (z : is_in g xs ≡ true). or_right (has_gap ps e x) (gap_cuts ps e xs g z k))
    (in_cons g x xs h)

-- the dependence numbered k is the lowest that is not cut; e₀ stands past the end of the list
pub record LowestUncut (ps : List ℕ) (es : List Dep) (gs : List ℕ) (e₀ : Dep) (k : ℕ) : Type 0 where
  pub there : k < length es
  pub not_cut : cuts ps (get_or es k e₀) gs ≡ false
  pub lower : (j : ℕ) → j < k → cuts ps (get_or es j e₀) gs ≡ true

-- every dependence is cut
abbrev pub AllCut : List ℕ → List Dep → List ℕ → Type 0
AllCut ps es gs = (e : Dep) → Among e es → cuts ps e gs ≡ true

module _ (ps gs : List ℕ) where
  from_none : (es : List Dep) (i : ℕ) → uncut_from i ps es gs ≡ 0 → AllCut ps es gs
  from_none [] i h = λ x m. absurd m
  from_none (e ∷ es) i h = go (cuts ps e gs) refl h (from_none es (suc i))
    where
      go :
          (t : Bool) → cuts ps e gs ≡ t → pick t (uncut_from (suc i) ps es gs) (suc i) ≡ 0 →
          (uncut_from (suc i) ps es gs ≡ 0 → AllCut ps es gs) → AllCut ps (e ∷ es) gs
      go true p q r x m = ⊎_elim (λ (z : x ≡ e). rw z p) (λ (z : Among x es). r q x z) m
      go false p q r x m = absurd (omega arith)

  none_from : (es : List Dep) (i : ℕ) → AllCut ps es gs → uncut_from i ps es gs ≡ 0
  none_from [] i h = refl
  none_from (e ∷ es) i h = rw (h e (inl refl)) (none_from es (suc i) (λ x m. h x (inr m)))

module _ (ps gs : List ℕ) (e₀ : Dep) where
  lowest_cons :
      (e : Dep) (es : List Dep) (k : ℕ) → cuts ps e gs ≡ true → LowestUncut ps es gs e₀ k →
      LowestUncut ps (e ∷ es) gs e₀ (suc k)
  lowest_cons e es k h r = record { there = omega arith; not_cut = r.not_cut; lower = lower }
    where
      lower : (j : ℕ) → j < suc k → cuts ps (get_or (e ∷ es) j e₀) gs ≡ true
      lower zero l = h
      lower (suc j) l = r.lower j (omega arith)

  from_lowest :
      (es : List Dep) (i v : ℕ) → uncut_from i ps es gs ≡ suc v → (k : ℕ) × (v ≡ i + k) × LowestUncut ps es gs e₀ k
  from_lowest [] i v h = absurd (omega arith)
  from_lowest (e ∷ es) i v h = go (cuts ps e gs) refl h (from_lowest es (suc i) v)
    where
      go :
          (t : Bool) → cuts ps e gs ≡ t → pick t (uncut_from (suc i) ps es gs) (suc i) ≡ suc v →
          (uncut_from (suc i) ps es gs ≡ suc v → (k : ℕ) × (v ≡ suc i + k) × LowestUncut ps es gs e₀ k) →
          (k : ℕ) × (v ≡ i + k) × LowestUncut ps (e ∷ es) gs e₀ k
      go true p q r = let z = r q in (suc z.0, omega (arith, z.1), lowest_cons e es z.0 p z.2)
      go false p q r =
          (0, omega arith, record { there = omega arith; not_cut = p; lower = λ j l. absurd (omega arith) })

  lowest-from : (es : List Dep) (i k : ℕ) → LowestUncut ps es gs e₀ k → uncut_from i ps es gs ≡ suc (i + k)
  lowest-from [] i k r = absurd (omega (arith, r.there))
  lowest-from (e ∷ es) i zero r = rw r.not_cut (omega arith)
  lowest-from (e ∷ es) i (suc k) r =
      rw (r.lower 0 (omega arith)) (omega (arith, lowest-from es (suc i) k rest))
    where
      rest : LowestUncut ps es gs e₀ k
      rest =
          record {
            there = omega (arith, r.there);
            not_cut = r.not_cut;
            lower = λ j l. r.lower (suc j) (omega arith);
          }

-- a placement avoids barred gaps if each of its gaps is unbarred
module _ (bs : List ℕ) where
  pub avoids_in : (gs : List ℕ) → avoids bs gs ≡ true → (i : ℕ) → is_in i gs ≡ true → is_free bs i ≡ true
  avoids_in [] h i p = never p
  avoids_in (g ∷ gs) h i p =
      let a = and_true (is_free bs g) (avoids bs gs) h in
      ⊎_elim
      (λ (z : i ≡ g). rw z a.0)
      (λ (z : is_in i gs ≡ true). avoids_in gs a.1 i z)
      (in_cons i g gs p)

  pub avoids_by : (gs : List ℕ) → ((i : ℕ) → is_in i gs ≡ true → is_free bs i ≡ true) → avoids bs gs ≡ true
  avoids_by [] h = refl
  avoids_by (g ∷ gs) h = and_intro (h g (in_here g gs)) (avoids_by gs (λ i p. h i (in_later i g gs p)))

-- where nothing is barred, each does
pub avoids_none : (bs : List ℕ) → bs ≡ [] → (gs : List ℕ) → avoids bs gs ≡ true
avoids_none bs e gs = avoids_by bs gs (λ i p. rw e refl)

-- of a nest and a placement
module _ (n : Nest) (gs : List ℕ) where
  pub uncut_none : uncut n gs ≡ 0 → AllCut n.points n.deps gs
  uncut_none h = from_none n.points gs n.deps 0 h

  pub none_uncut : AllCut n.points n.deps gs → uncut n gs ≡ 0
  none_uncut h = none_from n.points gs n.deps 0 h

  pub uncut_first : (e₀ : Dep) (k : ℕ) → uncut n gs ≡ suc k → LowestUncut n.points n.deps gs e₀ k
  uncut_first e₀ k h =
      let z = from_lowest n.points gs e₀ n.deps 0 k h in
      let e : k ≡ z.0 = omega (arith, z.1) in
      rw e z.2

  pub first-uncut : (e₀ : Dep) (k : ℕ) → LowestUncut n.points n.deps gs e₀ k → uncut n gs ≡ suc k
  first-uncut e₀ k r = omega (arith, lowest-from n.points gs e₀ n.deps 0 k r)

  -- 01, "The nest and its gaps": a placement is correct if every dependence is cut
  pub correct_by
      : are_gaps n gs ≡ true → avoids n.barred gs ≡ true → AllCut n.points n.deps gs → is_correct n gs ≡ true
  correct_by g v h = and_intro g (and_intro v (eq-eqb (uncut n gs) 0 (none_uncut h)))

  pub correct_gaps : is_correct n gs ≡ true → are_gaps n gs ≡ true
  correct_gaps h = (and_true (are_gaps n gs) (avoids n.barred gs && eqb (uncut n gs) 0) h).0

  avoids_and_cuts : is_correct n gs ≡ true → (avoids n.barred gs ≡ true) × (eqb (uncut n gs) 0 ≡ true)
  avoids_and_cuts h =
      let rest = avoids n.barred gs && eqb (uncut n gs) 0 in
      and_true (avoids n.barred gs) (eqb (uncut n gs) 0) (and_true (are_gaps n gs) rest h).1

  pub correct_avoids : is_correct n gs ≡ true → avoids n.barred gs ≡ true
  correct_avoids h = (avoids_and_cuts h).0

  pub correct_uncut : is_correct n gs ≡ true → uncut n gs ≡ 0
  correct_uncut h = eqb-true (uncut n gs) 0 (avoids_and_cuts h).1

  pub correct_cuts : is_correct n gs ≡ true → AllCut n.points n.deps gs
  correct_cuts h = uncut_none (correct_uncut h)
