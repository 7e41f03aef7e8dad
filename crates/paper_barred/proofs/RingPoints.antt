-- The loop with the gaps 1 to m is a nest of one loop, and between its points go all the dependences that the
-- renumbering makes.
-- Main statements: `ring_length`, `ring_shape`, `ring_one`, `ring-end`, `line_dep`, `back_dep`.
use mathlib.Core.Path.{◌≡◌, refl, ap}
use mathlib.Core.Bool.{true, ◌||◌}
use mathlib.Core.Logic.{⊎_elim}
use Prim.Native.Nat.{ℕ, zero, suc, ◌≤◌, ◌<◌}
use native.Mathlib.Omega.{arith}
use lib.Dec.{eqb}
use lib.ListN.{length, get_or}
use borrow.Author.Tests.{lt-ltb}
use Rattle.laws.proofs.Tests.{and_intro, eq_or}
use Rattle.paper_nests.specs.Kinds.{DO, ENDDO, STATEMENT, INDEPENDENT, CARRIED}
use Rattle.paper_nests.specs.Nests.{dep}
use Rattle.paper_nests.specs.Loops.{is_do, end_of}
use Rattle.paper_nests.specs.Ring.{no_do, one_loop}
use Rattle.paper_nests.specs.Valid.{closes, is_shape, is_source, is_target, is_dep}
use Rattle.paper_nests.proofs.Loops.{outermost}
use Rattle.paper_barred.specs.Reduced.{statements_to, ring_points}

statements_length : (k : ℕ) → length (statements_to k) ≡ suc k
unfolding statements_to
statements_length zero = refl
statements_length (suc k) = ap suc (statements_length k)

statements_close : (k : ℕ) → closes 1 (statements_to k) ≡ true
unfolding statements_to
statements_close zero = refl
statements_close (suc k) = statements_close k

statements_no_do : (k : ℕ) → no_do (statements_to k) ≡ true
unfolding statements_to
statements_no_do zero = refl
statements_no_do (suc k) = statements_no_do k

statement_at : (k i : ℕ) → i < k → get_or (statements_to k) i 0 ≡ STATEMENT
unfolding statements_to
statement_at zero i l = absurd (omega arith)
statement_at (suc k) zero l = refl
statement_at (suc k) (suc i) l = statement_at k i (omega arith)

end-at : (k : ℕ) → get_or (statements_to k) k 0 ≡ ENDDO
unfolding statements_to
end-at zero = refl
end-at (suc k) = end-at k

pub ring_shape : (m : ℕ) → is_shape (ring_points m) ≡ true
ring_shape zero = refl
ring_shape (suc k) = statements_close k

pub ring_one : (m : ℕ) → one_loop (ring_points m) ≡ true
ring_one zero = refl
ring_one (suc k) = statements_no_do k

pub ring_length : (m : ℕ) → 0 < m → length (ring_points m) ≡ suc m
ring_length zero l = absurd (omega arith)
ring_length (suc k) l = ap suc (statements_length k)

pub ring-end : (m : ℕ) → 0 < m → end_of (ring_points m) 0 ≡ m
ring-end m l = omega (arith, outermost (ring_points m) (ring_shape m), ring_length m l)

module _ (m : ℕ) (some : 0 < m) where
  -- a point before the ENDDO is a source, one after the DO a target
  source : (s : ℕ) → s < m → is_source (ring_points m) s ≡ true
  source s l =
      and_intro (lt-ltb s (length (ring_points m)) (omega (arith, ring_length m some))) (go m s l)
    where
      go
          : (m s : ℕ) → s < m
          → (eqb (get_or (ring_points m) s 0) STATEMENT || eqb (get_or (ring_points m) s 0) DO) ≡ true
      go zero s l = absurd (omega arith)
      go (suc k) zero l = refl
      go (suc k) (suc s) l = rw (statement_at k s (omega arith))

  target : (t : ℕ) → 0 < t → t ≤ m → is_target (ring_points m) t ≡ true
  target t f l =
      and_intro (lt-ltb t (length (ring_points m)) (omega (arith, ring_length m some))) (go m t f l)
    where
      go
          : (m t : ℕ) → 0 < t → t ≤ m
          → (eqb (get_or (ring_points m) t 0) STATEMENT || eqb (get_or (ring_points m) t 0) ENDDO) ≡ true
      go zero t f l = absurd (omega arith)
      go (suc k) zero f l = absurd (omega arith)
      go (suc k) (suc t) f l = ⊎_elim
          (λ (z : t ≡ k). rw (z, end-at k))
          (λ (z : t ≡ k → ⊥). rw (statement_at k t (omega (arith, z))))
          (eq_or t k)

  -- an independent dependence of two of its points, and a carried one of two inside
  pub line_dep : (s t : ℕ) → s < t → t ≤ m → is_dep (ring_points m) (dep INDEPENDENT 0 s t) ≡ true
  line_dep s t l h =
      and_intro
      (and_intro (source s (omega arith)) (and_intro (target t (omega arith) h) refl))
      (lt-ltb s t l)

  pub back_dep : (s t : ℕ) → 0 < t → 0 < s → s < m → t < m → is_dep (ring_points m) (dep CARRIED 0 s t) ≡ true
  back_dep s t f g l h =
      let e = ring-end m some in
      and_intro
      (and_intro (source s l) (and_intro (target t f (omega arith)) (first m)))
      (and_intro
      (and_intro (lt-ltb 0 s g) (lt-ltb s (end_of (ring_points m) 0) (omega arith)))
      (and_intro (lt-ltb 0 t f) (lt-ltb t (end_of (ring_points m) 0) (omega arith))))
    where
      first : (m : ℕ) → is_do (ring_points m) 0 ≡ true
      first zero = refl
      first (suc k) = refl
