-- The points of a nest of one loop: a DO, statements, the ENDDO. So the first of them, with an ENDDO behind, are those of
-- a shorter ring.
-- Main statements: `one_loop_points`, `ring_cut`.
use mathlib.Core.Path.{◌≡◌, refl, ap, ◌∙◌}
use mathlib.Core.Bool.{Bool, true, false, ◌&&◌, not}
use mathlib.Core.List.{List, [], ◌∷◌, ◌++◌}
use Prim.Native.Nat.{ℕ, zero, suc, ◌-◌, ◌≤◌, ◌<◌}
use native.Mathlib.Omega.{arith}
use lib.Dec.{eqb}
use lib.ListN.{length, take}
use borrow.Author.Tests.{eqb-true, not-true}
use Rattle.laws.specs.Choice.{pick}
use Rattle.laws.proofs.Tests.{never, and_true}
use Rattle.paper_nests.specs.Kinds.{DO, ENDDO, STATEMENT}
use Rattle.paper_nests.specs.Ring.{no_do, one_loop}
use Rattle.paper_nests.specs.Valid.{closes, is_shape}
use Rattle.paper_barred.specs.Reduced.{statements_to, ring_points}
use Rattle.paper_barred.proofs.RingPoints.{ring_length}

-- nothing stands behind the ENDDO
nothing_behind : (ps : List ℕ) → closes 0 ps ≡ true → ps ≡ []
nothing_behind [] h = refl
nothing_behind (p ∷ ps) h = never h

record Statements (ps : List ℕ) : Type 0 where
  many : ℕ
  are : ps ≡ statements_to many

only_end : (p : ℕ) (ps : List ℕ) → p ≡ ENDDO → ps ≡ [] → p ∷ ps ≡ statements_to 0
unfolding statements_to
only_end p ps x y = cc (x, y)

one_more : (p : ℕ) (ps : List ℕ) (k : ℕ) → p ≡ STATEMENT → ps ≡ statements_to k → p ∷ ps ≡ statements_to (suc k)
unfolding statements_to
one_more p ps k x y = cc (x, y)

-- behind the DO there are statements, up to the ENDDO
statements_are : (ps : List ℕ) → closes 1 ps ≡ true → no_do ps ≡ true → Statements ps
statements_are [] h d = never h
statements_are (p ∷ ps) h d =
    let a = and_true (not (eqb p DO)) (no_do ps) d in
    let plain : pick (eqb p ENDDO) (closes 0 ps) (eqb p STATEMENT && closes 1 ps) ≡ true =
    rw (not-true (eqb p DO) a.0) at h in
    go (eqb p ENDDO) refl plain (λ z. statements_are ps z a.1)
  where
    go
        : (t : Bool) → eqb p ENDDO ≡ t → pick t (closes 0 ps) (eqb p STATEMENT && closes 1 ps) ≡ true
        → (closes 1 ps ≡ true → Statements ps) → Statements (p ∷ ps)
    go true e c rest = record { many = 0; are = only_end p ps (eqb-true p ENDDO e) (nothing_behind ps c) }
    go false e c rest =
        let z = and_true (eqb p STATEMENT) (closes 1 ps) c in
        let r = rest z.1 in
        record { many = suc r.many; are = one_more p ps r.many (eqb-true p STATEMENT z.0) r.are }

-- so the points are those of a ring
pub one_loop_points
    : (ps : List ℕ) → is_shape ps ≡ true → one_loop ps ≡ true → (0 < length ps - 1) × (ps ≡ ring_points (length ps - 1))
one_loop_points [] h d = never h
one_loop_points (p ∷ ps) h d =
    let a = and_true (eqb p DO) (closes 1 ps) h in
    let s = statements_are ps a.1 d in
    ring p ps s.many (eqb-true p DO a.0) s.are
  where
    ring
        : (p : ℕ) (ps : List ℕ) (k : ℕ) → p ≡ DO → ps ≡ statements_to k
        → (0 < length (p ∷ ps) - 1) × (p ∷ ps ≡ ring_points (length (p ∷ ps) - 1))
    ring p ps k x y =
        let whole : p ∷ ps ≡ ring_points (suc k) = cc (x, y) in
        let long : length (p ∷ ps) ≡ suc (suc k) = ap length whole ∙ ring_length (suc k) (omega arith) in
        let size : length (p ∷ ps) - 1 ≡ suc k = omega arith in
        (omega arith, rw size whole)

statements_cut : (j k : ℕ) → j ≤ k → take j (statements_to k) ++ (ENDDO ∷ []) ≡ statements_to j
unfolding statements_to
statements_cut zero k l = refl
statements_cut (suc j) zero l = absurd (omega arith)
statements_cut (suc j) (suc k) l = ap (λ (ps : List ℕ). STATEMENT ∷ ps) (statements_cut j k (omega arith))

-- an ENDDO behind the first j points
pub ring_cut : (j k : ℕ) → 0 < j → j ≤ k → take j (ring_points k) ++ (ENDDO ∷ []) ≡ ring_points j
ring_cut zero k f l = absurd (omega arith)
ring_cut (suc j) zero f l = absurd (omega arith)
ring_cut (suc j) (suc k) f l = ap (λ (ps : List ℕ). DO ∷ ps) (statements_cut j k (omega arith))
