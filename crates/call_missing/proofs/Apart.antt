-- Points apart from a loop, as facts; the loops that are foreign to a dependence are the flagged ones apart from it.
-- Main statements: `apart_source`, `apart_target`, `belongs_between`, `foreign_apart`.
use mathlib.Core.Path.{◌≡◌}
use mathlib.Core.Bool.{true, ◌&&◌, ◌||◌, not}
use mathlib.Core.List.{List}
use mathlib.Core.Logic.{◌⊎◌, inl, inr, ⊎_elim}
use Prim.Native.Nat.{ℕ, ◌≤◌, ◌<◌}
use native.Mathlib.Omega.{arith}
use lib.Dec.{eqb, ltb}
use borrow.Author.Tests.{eqb-true, eq-eqb, ltb-true, lt-ltb, not-true}
use Rattle.laws.specs.Choice.{between, is_in}
use Rattle.laws.proofs.Tests.{never_both, eq_or, lt_by, bool_by, and_true, and_intro, or-true, or_left, or_right}
use Rattle.laws.proofs.Ranges.{in_between, between_in}
use Rattle.paper_nests.specs.Nests.{Dep}
use Rattle.paper_nests.specs.Loops.{end_of, in_loop}
use Rattle.call_missing.specs.Foreign.{belongs, is_foreign}
use Rattle.call_missing.specs.Covering.{is_apart}

module _ (d end s t : ℕ) (h : is_apart d end s t ≡ true) where
  both : (not (between d s end) ≡ true) × (not (between d t end) ≡ true)
  both = and_true (not (between d s end)) (not (between d t end)) h

  -- a point apart that is not before the DO is behind the ENDDO
  pub apart_source : d ≤ s → end < s
  apart_source l = lt_by (λ z. never_both (between_in d s end l z) (not-true (between d s end) both.0))

  pub apart_target : d ≤ t → end < t
  apart_target l = lt_by (λ z. never_both (between_in d t end l z) (not-true (between d t end) both.1))

-- inside, its DO or its ENDDO: from its DO to its ENDDO
pub belongs_between : (ps : List ℕ) (d p : ℕ) → d < end_of ps d → belongs ps d p ≡ between d p (end_of ps d)
belongs_between ps d p l = bool_by (belongs ps d p) (between d p end) to from
  where
    end : ℕ
    end = end_of ps d

    to : belongs ps d p ≡ true → between d p end ≡ true
    to h = ⊎_elim
        (λ (z : in_loop ps d p ≡ true).
        let y = and_true (ltb d p) (ltb p end) z in
        let a = ltb-true d p y.0 in
        let b = ltb-true p end y.1 in
        between_in d p end (omega arith) (omega arith))
        (λ (z : (eqb p d || eqb p end) ≡ true). edge (or-true (eqb p d) (eqb p end) z))
        (or-true (in_loop ps d p) (eqb p d || eqb p end) h)
      where
        edge : (eqb p d ≡ true) ⊎ (eqb p end ≡ true) → between d p end ≡ true
        edge (inl z) = let y = eqb-true p d z in between_in d p end (omega arith) (omega (arith, l))
        edge (inr z) = let y = eqb-true p end z in between_in d p end (omega (arith, l)) (omega arith)

    from : between d p end ≡ true → belongs ps d p ≡ true
    from h = go (in_between d p end h) (eq_or p d) (eq_or p end)
      where
        go :
            (d ≤ p) × (p ≤ end) → (p ≡ d) ⊎ ((p ≡ d) → ⊥) → (p ≡ end) ⊎ ((p ≡ end) → ⊥) → belongs ps d p ≡ true
        go r (inl z) w = or_right (in_loop ps d p) (or_left (eqb p end) (eq-eqb p d z))
        go r (inr z) (inl w) = or_right (in_loop ps d p) (or_right (eqb p d) (eq-eqb p end w))
        go r (inr z) (inr w) =
            or_left (eqb p d || eqb p end)
            (and_intro (lt-ltb d p (omega (arith, r.0, z))) (lt-ltb p end (omega (arith, r.1, w))))

-- foreign: flagged, and apart from both ends
pub foreign_apart :
    (ps fs : List ℕ) (e : Dep) (d : ℕ) → d < end_of ps d →
    is_foreign ps fs e d ≡ (is_in d fs && is_apart d (end_of ps d) e.s e.t)
unfolding is_foreign
foreign_apart ps fs e d l = rw (belongs_between ps d e.s l, belongs_between ps d e.t l)
