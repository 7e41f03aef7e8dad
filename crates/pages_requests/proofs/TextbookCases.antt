-- A paper worked out by the page alone: 01 03 02 with 12000101, a whole ring. The textbook method gives gap 1. So the
-- page excludes a program that gives no barrier, one that gives every gap, and one that keeps the last tried of equals.
-- Main statements: `turn_found`, `turn_only`, `textbook_excluded`.
use mathlib.Core.Path.{◌≡◌, refl, sym, ◌∙◌, ap, subst}
use mathlib.Core.List.{List, [], ◌∷◌}
use mathlib.Core.Logic.{◌⊎◌, inl, inr}
use Prim.Native.Nat.{ℕ, zero, suc, ◌≤◌, ◌<◌}
use native.Mathlib.Omega.{arith}
use lib.ListN.{length}
use Rattle.paper_nests.specs.declared.Dependence.{Dependence}
use Rattle.pages.specs.Demands.{In, Rising, GapOf, Paper}
use Rattle.pages_requests.specs.Textbook.{Stretch, Greedy, Try, Textbook}

abbrev pub round : Dependence
round = record { kind = 18; d = 0; s = 1; t = 1 }

abbrev pub turn : Paper
turn = record { points = 1 ∷ 3 ∷ 2 ∷ []; deps = round ∷ []; barred = [] }

pub has_1 : (x : Dependence) → In x (round ∷ []) → GapOf turn.points x 1
has_1 x (zero, e) =
    subst (λ (y : Dependence). GapOf turn.points y 1) e (GapOf.front refl (omega arith) (omega arith))
has_1 x (suc i, e) = absurd e

try_1 : Try turn 1 (1 ∷ [])
try_1 =
    record {
      gap = (omega arith, omega arith, λ i. i.1);
      after = 2 ∷ [];
      before = [];
      cuts = [];
      after_are = Stretch.free (λ i. i.1) (Stretch.done refl);
      before_are = Stretch.done refl;
      greedy = Greedy.pass (λ x u e. u.1 (1, ((0, refl), has_1 x u.0))) Greedy.none;
      rising = Rising.more {low = 0} {g = 1} (omega arith) (omega arith) Rising.none;
      members = λ h. (to h, from h);
    }
  where
    to : (h : ℕ) → In h (1 ∷ []) → (h ≡ 1) ⊎ In h []
    to h (zero, e) = inl (sym e)
    to h (suc i, e) = absurd e

    from : (h : ℕ) → (h ≡ 1) ⊎ In h [] → In h (1 ∷ [])
    from h (inl e) = (0, sym e)
    from h (inr i) = absurd i.1

-- what is tried stands in the result
tried_in : (g : ℕ) (gs : List ℕ) → Try turn g gs → In g gs
tried_in g gs t = (t.members g).1 (inl refl)

some : (g : ℕ) (gs : List ℕ) → In g gs → 1 ≤ length gs
some g [] i = absurd i.1
some g (x ∷ xs) i = omega arith

pub turn_found : Textbook turn (1 ∷ [])
turn_found =
    Textbook.best 1 (λ z. let y : ◌≡◌ {A = ℕ} 0 1 = cc z in omega arith) try_1
    (λ h hs t. (some h hs (tried_in h hs t), λ l. absurd (omega (arith, t.gap.0, l))))

pub turn_only : (gs : List ℕ) → Textbook turn gs → gs ≡ 1 ∷ []
turn_only gs (Textbook.none e f) = let y : ◌≡◌ {A = ℕ} 0 1 = cc e in absurd (omega arith)
turn_only gs (Textbook.best g e t least) =
    let l = least 1 (1 ∷ []) try_1 in
    alone gs g (tried_in g gs t) l.0 (λ z. omega (arith, l.1 z, some g gs (tried_in g gs t))) t.gap.0
  where
    alone : (gs : List ℕ) (g : ℕ) → In g gs → length gs ≤ 1 → (1 < g → ⊥) → 0 < g → gs ≡ 1 ∷ []
    alone [] g i l u v = absurd i.1
    alone (x ∷ (y ∷ ys)) g i l u v = absurd (omega arith)
    alone (x ∷ []) g (suc i, e) l u v = absurd e
    alone (x ∷ []) zero (zero, e) l u v = absurd (omega arith)
    alone (x ∷ []) (suc zero) (zero, e) l u v = ap (λ (z : ℕ). z ∷ []) e
    alone (x ∷ []) (suc (suc g)) (zero, e) l u v = absurd (u (omega arith))

abbrev Keeps : (Paper → List ℕ) → Type 0
Keeps f = (p : Paper) → Textbook p (f p)

pub record TextbookExcluded : Type 0 where
  pub no_barrier : (f : Paper → List ℕ) → f turn ≡ [] → Keeps f → ⊥
  pub every-gap : (f : Paper → List ℕ) → f turn ≡ 1 ∷ 2 ∷ [] → Keeps f → ⊥
  pub last_of_equals : (f : Paper → List ℕ) → f turn ≡ 2 ∷ [] → Keeps f → ⊥

pub textbook_excluded : TextbookExcluded
textbook_excluded =
    record {
      no_barrier = λ f h k. let z : ◌≡◌ {A = ℕ} 0 1 = cc (h, turn_only (f turn) (k turn)) in omega arith;
      every-gap = λ f h k. let z : ◌≡◌ {A = ℕ} 2 1 = ap length (sym h ∙ turn_only (f turn) (k turn)) in omega arith;
      last_of_equals = λ f h k. let z : ◌≡◌ {A = ℕ} 2 1 = cc (h, turn_only (f turn) (k turn)) in omega arith;
    }
