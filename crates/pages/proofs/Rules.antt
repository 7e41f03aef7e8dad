-- A paper that breaks no rule on the page breaks none of the project's, and the other way round.
-- Main statements: `valid_page`, `page_valid`.
use mathlib.Core.Path.{◌≡◌, refl, sym, ◌∙◌, ap}
use mathlib.Core.Bool.{true, ◌&&◌, ◌||◌, not}
use mathlib.Core.List.{List, [], ◌∷◌}
use mathlib.Core.Logic.{◌⊎◌, inl, inr, ⊎_elim}
use Prim.Native.Nat.{ℕ, zero, suc, ◌<◌}
use native.Mathlib.Omega.{arith}
use lib.Dec.{eqb, ltb}
use lib.ListN.{length, get_or}
use borrow.Author.Tests.{eq-eqb, eqb-true, ltb-true, lt-ltb}
use Rattle.laws.proofs.Tests.{and_true, and_intro, or-true, or_left, or_right}
use Rattle.paper_nests.specs.declared.Dependence as DE
use Rattle.paper_nests.specs.Nests.{Dep}
use Rattle.paper_nests.specs.Loops.{is_do, end_of, in_loop}
use Rattle.paper_nests.specs.Gaps.{is_gap}
use Rattle.paper_nests.specs.Ring.{one_loop}
use Rattle.paper_nests.specs.Valid.{is_shape, is_source, is_target, names_points, runs_right, is_of_kind, is_dep, are_deps}
use Rattle.paper_nests.specs.Valid.{is_bar, are_bars}
use Rattle.paper_nests.specs.Valid.{are_flags, is_valid}
use Rattle.paper_nests.specs.Stored.{dep_in}
use Rattle.paper_nests.proofs.Levels.{point_in}
use Rattle.paper_nests.proofs.Loops.{inside_by}
use Rattle.paper_nests.proofs.Deps.{Fits, valid_is, is-valid, dep_fits, target_and_loop}
use Rattle.paper_nests.proofs.Bars.{gap_within, bar_is_gap}
use Rattle.paper_nests.proofs.Ring.{one_loop_is_first, first_is_one_loop}
use Rattle.pages.specs.Demands as P
use Rattle.pages.specs.Demands.{At, In, OneLoop, Paper, Runs}
use Rattle.pages.proofs.Lists.{at_in, at_is, is_at, in_is}
use Rattle.pages.proofs.Bodies.{loop_end, loop_do, loop_at, shape_of, shape_whole}
use Rattle.pages.proofs.Placements.{mapped, nest_of, mapped_length}

-- a point of one of two kinds
pub either
    : (ps : List ℕ) (i a b : ℕ) → At ps i a ⊎ At ps i b
    → (ltb i (length ps) && (eqb (get_or ps i 0) a || eqb (get_or ps i 0) b)) ≡ true
either ps i a b (inl h) =
    and_intro (lt-ltb i (length ps) (at_in ps i a h))
    (or_left (eqb (get_or ps i 0) b) (eq-eqb (get_or ps i 0) a (at_is ps i a 0 h)))
either ps i a b (inr h) =
    and_intro (lt-ltb i (length ps) (at_in ps i b h))
    (or_right (eqb (get_or ps i 0) a) (eq-eqb (get_or ps i 0) b (at_is ps i b 0 h)))

pub is_either
    : (ps : List ℕ) (i a b : ℕ) → (ltb i (length ps) && (eqb (get_or ps i 0) a || eqb (get_or ps i 0) b)) ≡ true
    → At ps i a ⊎ At ps i b
is_either ps i a b h =
    let z = and_true (ltb i (length ps)) (eqb (get_or ps i 0) a || eqb (get_or ps i 0) b) h in
    let l = ltb-true i (length ps) z.0 in
    ⊎_elim
    (λ (y : eqb (get_or ps i 0) a ≡ true). inl (is_at ps i a 0 l (eqb-true (get_or ps i 0) a y)))
    (λ (y : eqb (get_or ps i 0) b ≡ true). inr (is_at ps i b 0 l (eqb-true (get_or ps i 0) b y)))
    (or-true (eqb (get_or ps i 0) a) (eqb (get_or ps i 0) b) z.1)

pub one_is : (ps : List ℕ) → OneLoop ps → one_loop ps ≡ true
one_is ps one = first_is_one_loop ps (λ d h. one d (is_at ps d 1 0 (point_in ps d 0 h) (eqb-true (get_or ps d 0) 1 h)))

pub is_one : (ps : List ℕ) → one_loop ps ≡ true → OneLoop ps
is_one ps h i a = one_loop_is_first ps h i (eq-eqb (get_or ps i 0) 1 (at_is ps i 1 0 a))

-- ---- dependences

dep_by
    : (ps : List ℕ) (x : DE.Dependence) → At ps x.s 3 ⊎ At ps x.s 1 → At ps x.t 3 ⊎ At ps x.t 2 → Runs ps x
    → is_dep ps (dep_in x) ≡ true
dep_by ps x a b (Runs.line k z l) =
    let s : is_source ps x.s ≡ true = either ps x.s 3 1 a in
    let t : is_target ps x.t ≡ true = either ps x.t 3 2 b in
    and_intro (or_left (eqb x.kind 18) (and_intro (eq-eqb x.kind 17 k) (eq-eqb x.d 0 z)))
    (and_intro (and_intro s (and_intro t (rw k))) (rw k (lt-ltb x.s x.t l)))
dep_by ps x a b (Runs.round e k l m n o q) =
    let s : is_source ps x.s ≡ true = either ps x.s 3 1 a in
    let t : is_target ps x.t ≡ true = either ps x.t 3 2 b in
    let z = loop_end ps x.d e l in
    let i : in_loop ps x.d x.s ≡ true = inside_by ps x.d x.s m (omega arith) in
    let j : in_loop ps x.d x.t ≡ true = inside_by ps x.d x.t o (omega arith) in
    and_intro (or_right (eqb x.kind 17 && eqb x.d 0) (eq-eqb x.kind 18 k))
    (and_intro (and_intro s (and_intro t (or_right (not (eqb x.kind 18)) (loop_do ps x.d e l))))
    (rw k (and_intro i j)))

deps_by
    : (ps : List ℕ) (xs : List DE.Dependence) → ((x : DE.Dependence) → In x xs → is_dep ps (dep_in x) ≡ true)
    → are_deps ps (mapped xs) ≡ true
deps_by ps [] h = refl
deps_by ps (x ∷ xs) h = and_intro (h x (0, refl)) (deps_by ps xs (λ y i. h y (suc i.0, i.1)))

deps_each
    : (ps : List ℕ) (xs : List DE.Dependence) → are_deps ps (mapped xs) ≡ true → (i : ℕ) (x : DE.Dependence) → At xs i x
    → is_dep ps (dep_in x) ≡ true
deps_each ps [] h i x a = absurd a
deps_each ps (y ∷ ys) h zero x a =
    ap (λ (e : DE.Dependence). is_dep ps (dep_in e)) (sym a) ∙ (and_true (is_dep ps (dep_in y)) (are_deps ps (mapped ys)) h).0
deps_each ps (y ∷ ys) h (suc i) x a =
    deps_each ps ys (and_true (is_dep ps (dep_in y)) (are_deps ps (mapped ys)) h).1 i x a

module _ (ps : List ℕ) (shape : is_shape ps ≡ true) (x : DE.Dependence) (h : is_dep ps (dep_in x) ≡ true) where
  abbrev e : Dep
  e = dep_in x

  kinds : is_of_kind e ≡ true
  kinds = (and_true (is_of_kind e) (names_points ps e && runs_right ps e) h).0

  both : (names_points ps e ≡ true) × (runs_right ps e ≡ true)
  both = and_true (names_points ps e) (runs_right ps e) (and_true (is_of_kind e) (names_points ps e && runs_right ps e) h).1

  source_is : At ps x.s 3 ⊎ At ps x.s 1
  source_is =
      is_either ps x.s 3 1
      (and_true (is_source ps x.s) (is_target ps x.t && (not (eqb x.kind 18) || is_do ps x.d)) both.0).0

  target_is : At ps x.t 3 ⊎ At ps x.t 2
  target_is = is_either ps x.t 3 2 (target_and_loop ps e both.0 both.1).0

  runs_is : Runs ps x
  runs_is = go (dep_fits ps e h)
    where
      go : Fits ps e → Runs ps x
      go (inl f) =
          ⊎_elim
          (λ (z : (eqb x.kind 17 && eqb x.d 0) ≡ true).
          Runs.line f.kind_is (eqb-true x.d 0 (and_true (eqb x.kind 17) (eqb x.d 0) z).1) f.forward)
          (λ (z : eqb x.kind 18 ≡ true).
          let q : ◌≡◌ {A = ℕ} 17 18 = sym f.kind_is ∙ eqb-true x.kind 18 z in
          absurd (omega arith))
          (or-true (eqb x.kind 17 && eqb x.d 0) (eqb x.kind 18) kinds)
      go (inr f) =
          Runs.round (end_of ps x.d) f.kind_is (loop_at ps shape x.d f.loop) f.source_after
          f.source_before
          f.target_after f.target_before

-- ---- barred gaps

bars_by
    : (ps gs : List ℕ) → ((g : ℕ) → In g gs → (0 < g) × (g < length ps) × OneLoop ps) → are_bars ps gs ≡ true
bars_by ps [] h = refl
bars_by ps (g ∷ gs) h =
    let z = h g (0, refl) in
    and_intro (and_intro (and_intro (lt-ltb 0 g z.0) (lt-ltb g (length ps) z.1)) (one_is ps z.2))
    (bars_by ps gs (λ i j. h i (suc j.0, j.1)))

bar_one : (ps gs : List ℕ) → are_bars ps gs ≡ true → (i g : ℕ) → At gs i g → one_loop ps ≡ true
bar_one ps [] h i g a = absurd a
bar_one ps (b ∷ bs) h i g a = (and_true (is_gap ps b) (one_loop ps) (and_true (is_bar ps b) (are_bars ps bs) h).0).1

-- ---- papers

pub page_valid : (p : Paper) (fs : List ℕ) → are_flags 0 p.points fs ≡ true → P.Valid p → is_valid (nest_of p fs) ≡ true
page_valid p fs flags v =
    let w = v.whole in
    let long = mapped_length p.deps in
    is-valid (nest_of p fs)
    (record {
      shape = shape_of p.points w.0 w.1.0 w.1.1;
      few_points = v.few.0;
      few_deps = omega (arith, v.few.1, long);
      all-deps =
          deps_by p.points p.deps (λ x i. dep_by p.points x (v.source x i) (v.target x i) (v.runs x i));
      few_bars = v.few.2;
      all_bars = bars_by p.points p.barred v.bars;
      all_flags = flags;
    })

pub valid_page : (p : Paper) (fs : List ℕ) → is_valid (nest_of p fs) ≡ true → P.Valid p
valid_page p fs h =
    let v = valid_is (nest_of p fs) h in
    let w = shape_whole p.points v.shape in
    let long = mapped_length p.deps in
    record {
      whole = (w.end, (w.loop, w.last));
      few = (v.few_points, omega (arith, v.few_deps), v.few_bars);
      source =
          λ x i. source_is p.points v.shape x (deps_each p.points p.deps v.all-deps i.0 x i.1);
      target =
          λ x i. target_is p.points v.shape x (deps_each p.points p.deps v.all-deps i.0 x i.1);
      runs = λ x i. runs_is p.points v.shape x (deps_each p.points p.deps v.all-deps i.0 x i.1);
      bars =
          λ g i.
          let z =
          gap_within p.points g
          (bar_is_gap p.points p.barred v.all_bars g (in_is g p.barred i.0 i.1)) in
          (z.0, z.1, is_one p.points (bar_one p.points p.barred v.all_bars i.0 g i.1));
    }
