-- Dependences that are placed well: an independent one runs forward, a carried one has both points inside its loop. The
-- order of a carried one's two points plays no part.
-- Main definition: `Fits`. Main statements: `dep_fits`, `deps_fit`, `is-line`, `is-back`, `valid_is`, `is-valid`, and
-- the gaps as facts: `line_gap`, `gap_of_line`, `back_gap`, `gap_before_target`, `gap_after_source`, `target_gap`,
-- `forward_ring`.
use mathlib.Core.Path.{◌≡◌, sym, ◌∙◌}
use mathlib.Core.Bool.{true, ◌&&◌, ◌||◌, not}
use mathlib.Core.List.{List, [], ◌∷◌}
use mathlib.Core.Logic.{◌⊎◌, inl, inr, ⊎_elim}
use Prim.Native.Nat.{ℕ, suc, ◌≤◌, ◌<◌}
use native.Mathlib.Omega.{arith}
use lib.Dec.{eqb, ltb, leb}
use lib.ListN.{length, get_or}
use borrow.Author.Tests.{ltb-true, eqb-true, leb-true, le-leb}
use Rattle.laws.specs.Choice.{between}
use Rattle.laws.specs.Members.{Among}
use Rattle.laws.proofs.Ranges.{in_between, between_in}
use Rattle.laws.proofs.Tests.{le_or, bool_by, and_intro, and_true, or-true, or_left, or_right}
use Rattle.paper_nests.specs.Kinds.{STATEMENT, ENDDO, INDEPENDENT, CARRIED, POINTS, DEPENDENCES, BARS}
use Rattle.paper_nests.specs.Nests.{Dep, Nest}
use Rattle.paper_nests.specs.Loops.{is_do, end_of, in_loop}
use Rattle.paper_nests.specs.Gaps.{has_gap}
use Rattle.paper_nests.specs.Valid.{is_source, is_target, names_points, runs_right, is_dep, are_deps, are_bars, are_flags}
use Rattle.paper_nests.specs.Valid.{is_shape, is_valid}
use Rattle.paper_nests.proofs.Loops.{inside_lies}

-- an independent dependence
pub record Line (ps : List ℕ) (e : Dep) : Type 0 where
  pub kind_is : e.kind ≡ INDEPENDENT
  pub forward : e.s < e.t
  pub target_there : e.t < length ps

-- a carried dependence
pub record Back (ps : List ℕ) (e : Dep) : Type 0 where
  pub kind_is : e.kind ≡ CARRIED
  pub loop : is_do ps e.d ≡ true
  pub source_after : e.d < e.s
  pub source_before : e.s < end_of ps e.d
  pub target_after : e.d < e.t
  pub target_before : e.t < end_of ps e.d

abbrev pub Fits : List ℕ → Dep → Type 0
Fits ps e = Line ps e ⊎ Back ps e

-- a dependence by its kind
pub is-line : (ps : List ℕ) (e : Dep) → Fits ps e → e.kind ≡ INDEPENDENT → Line ps e
is-line ps e (inl f) k = f
is-line ps e (inr f) k = let z : ◌≡◌ {A = ℕ} INDEPENDENT CARRIED = sym k ∙ f.kind_is in absurd (omega arith)

pub is-back : (ps : List ℕ) (e : Dep) → Fits ps e → (e.kind ≡ INDEPENDENT → ⊥) → Back ps e
is-back ps e (inl f) k = absurd (k f.kind_is)
is-back ps e (inr f) k = f

module _ (ps : List ℕ) (e : Dep) (names : names_points ps e ≡ true) (right : runs_right ps e ≡ true) where
  pub target_and_loop : (is_target ps e.t ≡ true) × ((not (eqb e.kind CARRIED) || is_do ps e.d) ≡ true)
  target_and_loop =
      let carrier = not (eqb e.kind CARRIED) || is_do ps e.d in
      and_true (is_target ps e.t) carrier (and_true (is_source ps e.s) (is_target ps e.t && carrier) names).1

  target_there : e.t < length ps
  target_there =
      let sort = eqb (get_or ps e.t 0) STATEMENT || eqb (get_or ps e.t 0) ENDDO in
      ltb-true e.t (length ps) (and_true (ltb e.t (length ps)) sort target_and_loop.0).0

  line_fits : e.kind ≡ INDEPENDENT → Line ps e
  line_fits k = record { kind_is = k; forward = ltb-true e.s e.t (rw k at right); target_there = target_there }

  back_fits : e.kind ≡ CARRIED → Back ps e
  back_fits k =
      let c : (in_loop ps e.d e.s && in_loop ps e.d e.t) ≡ true = rw k at right in
      let g = and_true (in_loop ps e.d e.s) (in_loop ps e.d e.t) c in
      let s = inside_lies ps e.d e.s g.0 in
      let t = inside_lies ps e.d e.t g.1 in
      record {
        kind_is = k;
        loop = rw k at target_and_loop.1;
        source_after = s.0;
        source_before = s.1;
        target_after = t.0;
        target_before = t.1;
      }

pub dep_fits : (ps : List ℕ) (e : Dep) → is_dep ps e ≡ true → Fits ps e
dep_fits ps e h =
    let kinds = (eqb e.kind INDEPENDENT && eqb e.d 0) || eqb e.kind CARRIED in
    let a = and_true kinds (names_points ps e && runs_right ps e) h in
    let b = and_true (names_points ps e) (runs_right ps e) a.1 in
    ⊎_elim
    (λ (z : (eqb e.kind INDEPENDENT && eqb e.d 0) ≡ true).
    let k = and_true (eqb e.kind INDEPENDENT) (eqb e.d 0) z in
    inl (line_fits ps e b.0 b.1 (eqb-true e.kind INDEPENDENT k.0)))
    (λ (z : eqb e.kind CARRIED ≡ true). inr (back_fits ps e b.0 b.1 (eqb-true e.kind CARRIED z)))
    (or-true (eqb e.kind INDEPENDENT && eqb e.d 0) (eqb e.kind CARRIED) a.0)

pub deps_fit : (ps : List ℕ) (ds : List Dep) → are_deps ps ds ≡ true → (e : Dep) → Among e ds → Fits ps e
deps_fit ps [] h e a = absurd a
deps_fit ps (x ∷ xs) h e a =
    let z = and_true (is_dep ps x) (are_deps ps xs) h in
    ⊎_elim (λ (q : e ≡ x). rw q (dep_fits ps x z.0)) (λ (q : Among e xs). deps_fit ps xs z.1 e q) a

-- a valid nest taken apart, and put together again
pub record Valid (n : Nest) : Type 0 where
  pub shape : is_shape n.points ≡ true
  pub few_points : length n.points ≤ POINTS
  pub few_deps : length n.deps ≤ DEPENDENCES
  pub all-deps : are_deps n.points n.deps ≡ true
  pub few_bars : length n.barred ≤ BARS
  pub all_bars : are_bars n.points n.barred ≡ true
  pub all_flags : are_flags 0 n.points n.flagged ≡ true

pub valid_is : (n : Nest) → is_valid n ≡ true → Valid n
valid_is n h =
    let points = leb (length n.points) POINTS in
    let many = leb (length n.deps) DEPENDENCES in
    let deps = are_deps n.points n.deps in
    let few = leb (length n.barred) BARS in
    let bars = are_bars n.points n.barred in
    let flags = are_flags 0 n.points n.flagged in
    let a = and_true (is_shape n.points) (points && (many && (deps && (few && (bars && flags))))) h in
    let b = and_true points (many && (deps && (few && (bars && flags)))) a.1 in
    let c = and_true many (deps && (few && (bars && flags))) b.1 in
    let d = and_true deps (few && (bars && flags)) c.1 in
    let e = and_true few (bars && flags) d.1 in
    let f = and_true bars flags e.1 in
    record {
      shape = a.0;
      few_points = leb-true (length n.points) POINTS b.0;
      few_deps = leb-true (length n.deps) DEPENDENCES c.0;
      all-deps = d.0;
      few_bars = leb-true (length n.barred) BARS e.0;
      all_bars = f.0;
      all_flags = f.1;
    }

pub is-valid : (n : Nest) → Valid n → is_valid n ≡ true
is-valid n v =
    and_intro
    v.shape
    (and_intro
    (le-leb (length n.points) POINTS v.few_points)
    (and_intro
    (le-leb (length n.deps) DEPENDENCES v.few_deps)
    (and_intro
    v.all-deps
    (and_intro (le-leb (length n.barred) BARS v.few_bars) (and_intro v.all_bars v.all_flags)))))

-- the gaps of a well placed dependence, as facts
pub line_gap : (ps : List ℕ) (e : Dep) (g : ℕ) → e.kind ≡ INDEPENDENT → has_gap ps e g ≡ true → (e.s < g) × (g ≤ e.t)
line_gap ps e g k h = in_between (suc e.s) g e.t (rw k at h)

pub gap_of_line : (ps : List ℕ) (e : Dep) (g : ℕ) → e.kind ≡ INDEPENDENT → e.s < g → g ≤ e.t → has_gap ps e g ≡ true
gap_of_line ps e g k p q = rw k (between_in (suc e.s) g e.t p q)

pub back_gap :
    (ps : List ℕ) (e : Dep) (g : ℕ) → e.kind ≡ CARRIED → has_gap ps e g ≡ true →
    ((e.d < g) × (g ≤ e.t)) ⊎ ((e.s < g) × (g ≤ end_of ps e.d))
back_gap ps e g k h = ⊎_elim
    (λ (z : between (suc e.d) g e.t ≡ true). inl (in_between (suc e.d) g e.t z))
    (λ (z : between (suc e.s) g (end_of ps e.d) ≡ true). inr (in_between (suc e.s) g (end_of ps e.d) z))
    (or-true (between (suc e.d) g e.t) (between (suc e.s) g (end_of ps e.d)) (rw k at h))

pub gap_before_target :
    (ps : List ℕ) (e : Dep) (g : ℕ) → e.kind ≡ CARRIED → e.d < g → g ≤ e.t → has_gap ps e g ≡ true
gap_before_target ps e g k p q =
    rw k (or_left (between (suc e.s) g (end_of ps e.d)) (between_in (suc e.d) g e.t p q))

pub gap_after_source :
    (ps : List ℕ) (e : Dep) (g : ℕ) → e.kind ≡ CARRIED → e.s < g → g ≤ end_of ps e.d → has_gap ps e g ≡ true
gap_after_source ps e g k p q =
    rw k (or_right (between (suc e.d) g e.t) (between_in (suc e.s) g (end_of ps e.d) p q))

-- each has the gap before its target
pub target_gap : (ps : List ℕ) (e : Dep) → Fits ps e → has_gap ps e e.t ≡ true
target_gap ps e (inl l) = gap_of_line ps e e.t l.kind_is l.forward (omega arith)
target_gap ps e (inr b) = gap_before_target ps e e.t b.kind_is b.target_after (omega arith)

-- a carried one that runs forward has every gap of its loop
whole_loop : (ps : List ℕ) (e : Dep) → Back ps e → e.s < e.t → (g : ℕ) →
    has_gap ps e g ≡ between (suc e.d) g (end_of ps e.d)
whole_loop ps e b f g = bool_by (has_gap ps e g) (between (suc e.d) g (end_of ps e.d)) to from
  where
    to : has_gap ps e g ≡ true → between (suc e.d) g (end_of ps e.d) ≡ true
    to h = ⊎_elim
        (λ (z : (e.d < g) × (g ≤ e.t)). between_in (suc e.d) g (end_of ps e.d) z.0
        (omega (arith, b.target_before)))
        (λ (z : (e.s < g) × (g ≤ end_of ps e.d)).
        between_in (suc e.d) g (end_of ps e.d) (omega (arith, b.source_after)) z.1)
        (back_gap ps e g b.kind_is h)

    from : between (suc e.d) g (end_of ps e.d) ≡ true → has_gap ps e g ≡ true
    from h =
        let y = in_between (suc e.d) g (end_of ps e.d) h in
        ⊎_elim
        (λ (z : g ≤ e.t). gap_before_target ps e g b.kind_is y.0 z)
        (λ (z : e.t < g). gap_after_source ps e g b.kind_is (omega arith) y.1)
        (le_or g e.t)

-- 02, job 1: of a carried dependence with s before t the gaps are all gaps from d + 1 to e
pub forward_ring :
    (ps : List ℕ) (e : Dep) → is_dep ps e ≡ true → e.kind ≡ CARRIED → e.s < e.t → (g : ℕ) →
    has_gap ps e g ≡ between (suc e.d) g (end_of ps e.d)
forward_ring ps e h k f g = go (dep_fits ps e h)
  where
    go : Fits ps e → has_gap ps e g ≡ between (suc e.d) g (end_of ps e.d)
    go (inl l) = let z : ◌≡◌ {A = ℕ} INDEPENDENT CARRIED = sym l.kind_is ∙ k in absurd (omega arith)
    go (inr b) = whole_loop ps e b f g
