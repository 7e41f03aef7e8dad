-- What the key is as a list: rising gaps that are not barred; of the plain key, those that the planner's placement
-- holds, and no other list has them.
-- Main statements: `plain_gaps`, `in_plain`, `is_plain`, `plain_words`; `key_plain`, `key_barred`, `key_by`; of a valid
-- nest, `planned_words`, `valid_gaps`, `valid_avoids`.
use mathlib.Core.Path.{◌≡◌, refl, sym, ap, ◌∙◌, subst}
use mathlib.Core.Bool.{Bool, true, false}
use mathlib.Core.List.{List, [], ◌∷◌}
use mathlib.Core.Logic.{◌⊎◌, inl, inr, ⊎_elim}
use Prim.Native.Nat.{ℕ, suc, ◌-◌, ◌≤◌, ◌<◌}
use native.Mathlib.Omega.{arith}
use lib.ListN.{length}
use borrow.Author.Tests.{ne_eqb}
use Rattle.laws.specs.Choice.{is_in}
use Rattle.laws.proofs.Tests.{le_or, false_by}
use Rattle.paper_nests.specs.Nests.{Nest}
use Rattle.paper_nests.specs.Ring.{one_loop}
use Rattle.paper_nests.specs.Valid.{is_shape, is_valid}
use Rattle.paper_nests.proofs.Bars.{bars_or_one_loop}
use Rattle.paper_nests.proofs.Deps.{valid_is, deps_fit}
use Rattle.paper_nests.proofs.Loops.{outermost}
use Rattle.paper_placements.specs.Placements.{are_gaps, avoids}
use Rattle.paper_placements.specs.Words.{GAPS, holds, gaps_of, gaps_in}
use Rattle.paper_placements.proofs.Words.{gaps_of_from, gaps_of_in, gaps_of_to, gaps_of_rising}
use Rattle.paper_placements.proofs.Words.{in_gaps, in_gaps_beyond, gaps_rising}
use Rattle.paper_placements.proofs.Cuts.{avoids_none}
use Rattle.paper_placements.proofs.Rising.{rising_equal, rising_wider}
use Rattle.paper_barred.proofs.Renumbered.{unranked_rising, unranked_avoids}
use Rattle.plan_method.specs.Home.{key_in}
use Rattle.plan_method.proofs.Instance.{AllFit}
use Rattle.plan_method.proofs.NestKey.{NestKey, nest_key}
use Rattle.plan_theorem.specs.KeyOf.{plain_key, key_ranks, barred_key, key_of}

-- of points that make loops and dependences that are placed well
module _ (n : Nest) (shape : is_shape n.points ≡ true) (fit : AllFit n.points n.deps) where
  planned : NestKey n.points n.deps (key_in n.points n.deps)
  planned = nest_key n.points n.deps shape fit

  -- the plain key is a rising list of gaps 1 … n - 1
  pub plain_gaps : are_gaps n (plain_key n) ≡ true
  unfolding plain_key
  plain_gaps =
      gaps_of_rising (key_in n.points n.deps) (length n.points) (length n.points - 1) 1 0
      (λ i l m h. (planned.low i h, planned.high i h))

  -- with the gaps that the planner's placement holds
  pub in_plain : (g : ℕ) → is_in g (plain_key n) ≡ key_in n.points n.deps g
  unfolding plain_key
  in_plain g = ⊎_elim (λ (z : 1 ≤ g). from_first z (le_or (length n.points) g)) (λ (z : g < 1). before z) (le_or 1 g)
    where
      size : ℕ
      size = length n.points - 1

      held : ℕ → Bool
      held = key_in n.points n.deps

      before : g < 1 → is_in g (gaps_of held size 1) ≡ held g
      before z = gaps_of_from held size 1 g z ∙ sym (false_by (λ h. omega (arith, planned.low g h)))

      from_first : 1 ≤ g → (length n.points ≤ g) ⊎ (g < length n.points) → is_in g (gaps_of held size 1) ≡ held g
      from_first z (inl y) =
          gaps_of_to held size 1 g (omega (arith, outermost n.points shape)) ∙
          sym (false_by (λ h. omega (arith, planned.high g h)))
      from_first z (inr y) = gaps_of_in held size 1 g z (omega arith)

  -- and no other rising list has them
  pub is_plain
      : (ks : List ℕ)
      → are_gaps n ks ≡ true
      → ((g : ℕ) → is_in g ks ≡ key_in n.points n.deps g)
      → ks ≡ plain_key n
  is_plain ks gaps same =
      rising_equal 0 (length n.points) ks (plain_key n) gaps plain_gaps (λ g. same g ∙ sym (in_plain g))

  -- the words that hold them are the plain key's
  pub plain_words
      : (ws : List ℕ)
      → length n.points ≤ GAPS
      → ((g : ℕ) → g < GAPS → holds ws g ≡ key_in n.points n.deps g)
      → gaps_in ws ≡ plain_key n
  plain_words ws few same = is_plain (gaps_in ws) rising members
    where
      held : ℕ → Bool
      held = key_in n.points n.deps

      none : (g : ℕ) → (held g ≡ true → ⊥) → g < GAPS → holds ws g ≡ false
      none g h l = same g l ∙ false_by h

      rising : are_gaps n (gaps_in ws) ≡ true
      rising =
          gaps_rising ws (length n.points) (none 0 (λ h. omega (arith, planned.low 0 h)) (omega arith))
          (λ i l m. none i (λ h. omega (arith, planned.high i h)) l)

      members : (g : ℕ) → is_in g (gaps_in ws) ≡ held g
      members g =
          ⊎_elim
          (λ (z : GAPS ≤ g). in_gaps_beyond ws g z ∙ sym (false_by (λ h. omega (arith, planned.high g h))))
          (λ (z : g < GAPS). in_gaps ws g z ∙ same g z)
          (le_or GAPS g)

-- of a valid nest: what the planner's code gives is the plain key
pub planned_words
    : (n : Nest) (ws : List ℕ)
    → is_valid n ≡ true
    → ((g : ℕ) → holds ws g ≡ key_in n.points n.deps g)
    → gaps_in ws ≡ plain_key n
planned_words n ws h same =
    let v = valid_is n h in
    plain_words n v.shape (deps_fit n.points n.deps v.all-deps) ws v.few_points (λ g l. same g)

-- ---- which of the two the key is

pub key_plain : (n : Nest) → n.barred ≡ [] → key_of n ≡ plain_key n
unfolding key_of
key_plain n none = rw none refl

pub key_barred : (n : Nest) → 0 < length n.barred → key_of n ≡ barred_key n
unfolding key_of
key_barred n some = rw (ne_eqb (length n.barred) 0 (λ z. omega arith))

module _ (n : Nest) (valid : is_valid n ≡ true) where
  -- the key of a valid nest by cases: nothing is barred, or the nest has one loop
  pub key_by
      : (P : List ℕ → Type 0)
      → (n.barred ≡ [] → P (plain_key n))
      → (one_loop n.points ≡ true → P (barred_key n))
      → P (key_of n)
  key_by P plain ring = go n.barred refl
    where
      go : (bs : List ℕ) → n.barred ≡ bs → P (key_of n)
      go [] e = subst P (sym (key_plain n e)) (plain e)
      go (b ∷ bs) e =
          let some = ap length e in
          subst P (sym (key_barred n (omega arith)))
          (ring
          (⊎_elim
          (λ (z : n.barred ≡ []). let none = ap length z in absurd (omega arith))
          (λ (z : one_loop n.points ≡ true). z)
          (bars_or_one_loop n.points n.barred (valid_is n valid).all_bars)))

  pub valid_gaps : are_gaps n (key_of n) ≡ true
  valid_gaps =
      let v = valid_is n valid in
      key_by (λ (ks : List ℕ). are_gaps n ks ≡ true)
      (λ none. plain_gaps n v.shape (deps_fit n.points n.deps v.all-deps))
      (λ one. rising_wider 0 (suc (length n.points - 1)) (length n.points) (barred_key n)
      (omega (arith, outermost n.points v.shape))
      (unranked_rising n.barred (length n.points - 1) (key_ranks n)))

  pub valid_avoids : avoids n.barred (key_of n) ≡ true
  valid_avoids =
      key_by (λ (ks : List ℕ). avoids n.barred ks ≡ true)
      (λ none. avoids_none n.barred none (plain_key n))
      (λ one. unranked_avoids n.barred (length n.points - 1) (key_ranks n))
