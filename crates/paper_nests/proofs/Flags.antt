-- Flagged DOs of a valid nest: DOs of the nest, whatever points follow.
-- Main statements: `flags_from`, `flags_Joined`, `flags_more`, `flags_flagged`, `flags_few`, `flag_is_do`.
use mathlib.Core.Path.{◌≡◌, refl}
use mathlib.Core.Bool.{Bool, true, false, ◌&&◌}
use mathlib.Core.List.{List, [], ◌∷◌, ◌++◌, append-nil}
use mathlib.Core.Logic.{◌⊎◌, inl, inr, ⊎_elim}
use Prim.Native.Nat.{ℕ, suc, ◌+◌, ◌≤◌}
use native.Mathlib.Omega.{arith}
use lib.Dec.{eqb}
use lib.ListN.{length}
use borrow.Author.Tests.{eqb-true, eqb-false, eq-eqb, ne_eqb}
use Rattle.laws.specs.Choice.{pick, is_in}
use Rattle.laws.proofs.Members.{in_cons}
use Rattle.laws.proofs.Tests.{never, and_intro, and_true}
use Rattle.paper_nests.specs.Kinds.{DO}
use Rattle.paper_nests.specs.Loops.{is_do}
use Rattle.paper_nests.specs.Valid.{are_flags}

-- at point p, which is point i, the first flag is p's, or stands behind it
abbrev Step : ℕ → ℕ → List ℕ → ℕ → List ℕ → Type 0
Step i p ps f fs =
    ((i ≡ f) × (eqb p DO ≡ true) × (are_flags (suc i) ps fs ≡ true)) ⊎ ((i ≡ f → ⊥) × (are_flags (suc i) ps (f ∷ fs) ≡ true))

flags_step
    : (i p : ℕ) (ps : List ℕ) (f : ℕ) (fs : List ℕ) → are_flags i (p ∷ ps) (f ∷ fs) ≡ true → Step i p ps f fs
flags_step i p ps f fs h = go (eqb i f) refl h
  where
    go
        : (t : Bool)
        → eqb i f ≡ t
        → pick t (eqb p DO && are_flags (suc i) ps fs) (are_flags (suc i) ps (f ∷ fs)) ≡ true
        → Step i p ps f fs
    go true e h =
        let z = and_true (eqb p DO) (are_flags (suc i) ps fs) h in
        inl (eqb-true i f e, z.0, z.1)
    go false e h = inr (eqb-false i f e, h)

step_flags
    : (i p : ℕ) (ps : List ℕ) (f : ℕ) (fs : List ℕ) → Step i p ps f fs → are_flags i (p ∷ ps) (f ∷ fs) ≡ true
step_flags i p ps f fs (inl z) = rw (eq-eqb i f z.0) (and_intro z.1 z.2)
step_flags i p ps f fs (inr z) = rw (ne_eqb i f z.0) z.1

-- flags begin where the points do
pub flags_from : (i : ℕ) (ps : List ℕ) (f : ℕ) (fs : List ℕ) → are_flags i ps (f ∷ fs) ≡ true → i ≤ f
flags_from i [] f fs h = never h
flags_from i (p ∷ ps) f fs h =
    let later = flags_from (suc i) ps f fs in
    ⊎_elim
    (λ (z : (i ≡ f) × (eqb p DO ≡ true) × (are_flags (suc i) ps fs ≡ true)). omega (arith, z.0))
    (λ (z : (i ≡ f → ⊥) × (are_flags (suc i) ps (f ∷ fs) ≡ true)). omega (arith, later z.1))
    (flags_step i p ps f fs h)

-- the flags of two runs of points, one behind the other
flags_behind
    : (i j : ℕ) (ps qs gs : List ℕ)
    → j ≡ i + length ps
    → are_flags j qs gs ≡ true
    → are_flags i (ps ++ qs) gs ≡ true
flags_behind i j ps qs [] at h = refl
flags_behind i j [] qs (g ∷ gs) at h = let same : j ≡ i = omega (arith, at) in rw same at h
flags_behind i j (p ∷ ps) qs (g ∷ gs) at h =
    let from = flags_from j qs g gs h in
    step_flags i p (ps ++ qs) g gs
    (inr (λ z. omega (arith, z, from, at), flags_behind (suc i) j ps qs (g ∷ gs) (omega (arith, at)) h))

pub flags_Joined
    : (i j : ℕ) (ps qs fs gs : List ℕ)
    → j ≡ i + length ps
    → are_flags i ps fs ≡ true
    → are_flags j qs gs ≡ true
    → are_flags i (ps ++ qs) (fs ++ gs) ≡ true
flags_Joined i j ps qs [] gs at h k = flags_behind i j ps qs gs at k
flags_Joined i j [] qs (f ∷ fs) gs at h k = never h
flags_Joined i j (p ∷ ps) qs (f ∷ fs) gs at h k =
    let next : j ≡ suc i + length ps = omega (arith, at) in
    let taken = flags_Joined (suc i) j ps qs fs gs next in
    let later = flags_Joined (suc i) j ps qs (f ∷ fs) gs next in
    step_flags i p (ps ++ qs) f (fs ++ gs)
    (⊎_elim
    (λ (z : (i ≡ f) × (eqb p DO ≡ true) × (are_flags (suc i) ps fs ≡ true)). inl (z.0, z.1, taken z.2 k))
    (λ (z : (i ≡ f → ⊥) × (are_flags (suc i) ps (f ∷ fs) ≡ true)). inr (z.0, later z.1 k))
    (flags_step i p ps f fs h))

-- so the flags stay with one point more, and with the DO of a flagged loop more
pub flags_more : (ps : List ℕ) (p : ℕ) (fs : List ℕ) → are_flags 0 ps fs ≡ true → are_flags 0 (ps ++ (p ∷ [])) fs ≡ true
flags_more ps p fs h =
    rw (append-nil fs) at (flags_Joined 0 (length ps) ps (p ∷ []) fs [] (omega arith) h refl)

pub flags_flagged
    : (ps fs : List ℕ) → are_flags 0 ps fs ≡ true → are_flags 0 (ps ++ (DO ∷ [])) (fs ++ (length ps ∷ [])) ≡ true
flags_flagged ps fs h =
    flags_Joined 0 (length ps) ps (DO ∷ []) fs (length ps ∷ []) (omega arith) h (rw (eq-eqb (length ps) (length ps) refl))

-- there are no more of them than points
pub flags_few : (i : ℕ) (ps fs : List ℕ) → are_flags i ps fs ≡ true → length fs ≤ length ps
flags_few i ps [] h = omega arith
flags_few i [] (f ∷ fs) h = never h
flags_few i (p ∷ ps) (f ∷ fs) h =
    let taken = flags_few (suc i) ps fs in
    let later = flags_few (suc i) ps (f ∷ fs) in
    ⊎_elim
    (λ (z : (i ≡ f) × (eqb p DO ≡ true) × (are_flags (suc i) ps fs ≡ true)). omega (arith, taken z.2))
    (λ (z : (i ≡ f → ⊥) × (are_flags (suc i) ps (f ∷ fs) ≡ true)). omega (arith, later z.1))
    (flags_step i p ps f fs h)

-- a flagged DO is a DO, so many points on
abbrev Found : ℕ → List ℕ → ℕ → Type 0
Found i ps d = (k : ℕ) × (d ≡ i + k) × (is_do ps k ≡ true)

found-on : (i : ℕ) (p : ℕ) (ps : List ℕ) (d : ℕ) → Found (suc i) ps d → Found i (p ∷ ps) d
found-on i p ps d z = (suc z.0, omega (arith, z.1), z.2)

flag_point : (i : ℕ) (ps fs : List ℕ) → are_flags i ps fs ≡ true → (d : ℕ) → is_in d fs ≡ true → Found i ps d
flag_point i ps [] h d a = never a
flag_point i [] (f ∷ fs) h d a = never h
flag_point i (p ∷ ps) (f ∷ fs) h d a =
    let taken = flag_point (suc i) ps fs in
    let later = flag_point (suc i) ps (f ∷ fs) in
    ⊎_elim
    (λ (z : (i ≡ f) × (eqb p DO ≡ true) × (are_flags (suc i) ps fs ≡ true)).
    ⊎_elim
    (λ (w : d ≡ f). (0, omega (arith, w, z.0), z.1))
    (λ (w : is_in d fs ≡ true). found-on i p ps d (taken z.2 d w))
    (in_cons d f fs a))
    (λ (z : (i ≡ f → ⊥) × (are_flags (suc i) ps (f ∷ fs) ≡ true)). found-on i p ps d (later z.1 d a))
    (flags_step i p ps f fs h)

pub flag_is_do : (ps fs : List ℕ) → are_flags 0 ps fs ≡ true → (d : ℕ) → is_in d fs ≡ true → is_do ps d ≡ true
flag_is_do ps fs h d a =
    let z = flag_point 0 ps fs h d a in
    let same : d ≡ z.0 = omega (arith, z.1) in
    rw same z.2
