-- What is wrong with a dependence on the page of the numbers is what the project's 6 and 7 say.
-- Main statements: `misfit-decided`, `record_decided`.
use mathlib.Core.Path.{◌≡◌, refl, sym}
use mathlib.Core.Bool.{Bool, true, false, ◌&&◌, ◌||◌, not}
use mathlib.Core.List.{List}
use mathlib.Core.Logic.{◌⊎◌, inl, inr, ⊎_elim}
use Prim.Native.Nat.{ℕ, ◌≤◌, ◌<◌}
use native.Mathlib.Omega.{arith}
use lib.Dec.{eqb, ltb}
use lib.ListN.{get_or}
use borrow.Author.Tests.{eq-eqb, eqb-true, ltb-true, ltb-false, not-false}
use Rattle.laws.specs.Choice.{when}
use Rattle.laws.proofs.Tests.{never, never_both, false_by, and_intro, and_false, and_true, or-true, or_false, or_left}
use Rattle.laws.proofs.Tests.{or_right}
use Rattle.laws.proofs.Choices.{when_le, unless_zero}
use Rattle.paper_nests.specs.declared.Dependence as DE
use Rattle.paper_nests.specs.Kinds.{INDEPENDENT, CARRIED}
use Rattle.paper_nests.specs.Loops.{is_do, end_of, in_loop}
use Rattle.paper_nests.specs.Valid.{is_shape, is_source, is_target, names_points, runs_right, dep_fault}
use Rattle.paper_nests.specs.Stored.{dep_in}
use Rattle.paper_nests.proofs.Levels.{point_in}
use Rattle.paper_nests.proofs.Loops.{inside_lies, inside_by}
use Rattle.desk.specs.Desks.{record_fault}
use Rattle.pages.specs.Numbers.{Misfit, RecordBreaks}
use Rattle.pages.proofs.Lists.{at_is, is_at}
use Rattle.pages.proofs.Bodies.{loop_end, loop_at}
use Rattle.pages.proofs.Rules.{either, is_either}
use Rattle.pages.proofs.Chains.{Upto, Decides, first_upto, later_upto, when_upto, first_found, when_found}

pub not_is : (b : Bool) → b ≡ false → not b ≡ true
not_is true h = never (sym h)
not_is false h = refl

pub is_not : (b : Bool) → not b ≡ true → b ≡ false
is_not true h = never h
is_not false h = refl

module _ (ps : List ℕ) (x : DE.Dependence) where
  abbrev names : Bool
  names = names_points ps (dep_in x)

  abbrev right : Bool
  right = runs_right ps (dep_in x)

  abbrev pub fault : ℕ
  fault = dep_fault ps (dep_in x)

  abbrev carrier : Bool
  carrier = not (eqb x.kind CARRIED) || is_do ps x.d

  abbrev inner : Bool
  inner = in_loop ps x.d x.s && in_loop ps x.d x.t

  target_and_carrier : names ≡ true → (is_target ps x.t ≡ true) × (carrier ≡ true)
  target_and_carrier z =
      and_true (is_target ps x.t) carrier (and_true (is_source ps x.s) (is_target ps x.t && carrier) z).1

  carried_do : x.kind ≡ 18 → carrier ≡ true → is_do ps x.d ≡ true
  carried_do k z = rw k at z

  -- ---- what is wrong on the page has a number in the project, no higher

  unnamed : (names ≡ true → ⊥) → Upto fault 6
  unnamed h =
      first_upto (when (not names) 6) (when (not right) 7) 6
      (when_upto (not names) 6 (omega arith) (not_is names (false_by h)))

  astray : (right ≡ true → ⊥) → Upto fault 7
  astray h =
      later_upto (when (not names) 6) (when (not right) 7) 7 (when_le (not names) 6 7 (omega arith))
      (when_upto (not right) 7 (omega arith) (not_is right (false_by h)))

  pub misfit_upto : (n : ℕ) → Misfit ps x n → Upto fault n
  misfit_upto n (Misfit.source h) =
      unnamed (λ z. h (is_either ps x.s 3 1 (and_true (is_source ps x.s) (is_target ps x.t && carrier) z).0))
  misfit_upto n (Misfit.target h) = unnamed (λ z. h (is_either ps x.t 3 2 (target_and_carrier z).0))
  misfit_upto n (Misfit.loop k h) =
      unnamed
      (λ z.
      let i = carried_do k (target_and_carrier z).1 in
      h (is_at ps x.d 1 0 (point_in ps x.d 0 i) (eqb-true (get_or ps x.d 0) 1 i)))
  misfit_upto n (Misfit.backward k l) =
      astray
      (λ z.
      let y : ltb x.s x.t ≡ true = rw k at z in
      omega (arith, ltb-true x.s x.t y))
  misfit_upto n (Misfit.outside e k l h) =
      astray
      (λ z.
      let y : inner ≡ true = rw k at z in
      let i = and_true (in_loop ps x.d x.s) (in_loop ps x.d x.t) y in
      let a = inside_lies ps x.d x.s i.0 in
      let b = inside_lies ps x.d x.t i.1 in
      let w = loop_end ps x.d e l in
      h (a.0, omega (arith, a.1), b.0, omega (arith, b.1)))

  pub misfit_big : (n : ℕ) → Misfit ps x n → 6 ≤ n
  misfit_big n (Misfit.source h) = omega arith
  misfit_big n (Misfit.target h) = omega arith
  misfit_big n (Misfit.loop k h) = omega arith
  misfit_big n (Misfit.backward k l) = omega arith
  misfit_big n (Misfit.outside e k l h) = omega arith

  -- ---- and a number of the project is one of the page

  module _ (kinds : (x.kind ≡ 17) ⊎ (x.kind ≡ 18)) (shape : is_shape ps ≡ true) where
    six : names ≡ false → Misfit ps x 6
    six h =
        ⊎_elim
        (λ (z : is_source ps x.s ≡ false). Misfit.source (λ a. never_both (either ps x.s 3 1 a) z))
        (λ (z : (is_target ps x.t && carrier) ≡ false).
        ⊎_elim
        (λ (y : is_target ps x.t ≡ false). Misfit.target (λ a. never_both (either ps x.t 3 2 a) y))
        (λ (y : carrier ≡ false). no_loop (or_false (not (eqb x.kind CARRIED)) (is_do ps x.d) y))
        (and_false (is_target ps x.t) carrier z))
        (and_false (is_source ps x.s) (is_target ps x.t && carrier) h)
      where
        no_loop : (not (eqb x.kind CARRIED) ≡ false) × (is_do ps x.d ≡ false) → Misfit ps x 6
        no_loop w =
            Misfit.loop (eqb-true x.kind 18 (not-false (eqb x.kind CARRIED) w.0))
            (λ a. never_both (eq-eqb (get_or ps x.d 0) 1 (at_is ps x.d 1 0 a)) w.1)

    seven : names ≡ true → right ≡ false → Misfit ps x 7
    seven named h = ⊎_elim line round kinds
      where
        line : x.kind ≡ 17 → Misfit ps x 7
        line k = let y : ltb x.s x.t ≡ false = rw k at h in Misfit.backward k (ltb-false x.s x.t y)

        round : x.kind ≡ 18 → Misfit ps x 7
        round k =
            let i = carried_do k (target_and_carrier named).1 in
            let y : inner ≡ false = rw k at h in
            Misfit.outside (end_of ps x.d) k (loop_at ps shape x.d i)
            (λ w.
            never_both (and_intro (inside_by ps x.d x.s w.0 w.1) (inside_by ps x.d x.t w.2 w.3))
            y)

    pub misfit_found : 0 < fault → Misfit ps x fault
    misfit_found =
        first_found (Misfit ps x) (when (not names) 6) (when (not right) 7)
        (when_found (Misfit ps x) (not names) 6 (λ z. six (is_not names z)))
        (λ z. when_found (Misfit ps x) (not right) 7 (λ y. seven (unless_zero names 5 z) (is_not right y)))

-- ---- records of a lent list

module _ (ps : List ℕ) (shape : is_shape ps ≡ true) (x : DE.Dependence) where
  abbrev known : Bool
  known = eqb x.kind INDEPENDENT || eqb x.kind CARRIED

  is_known : known ≡ true → (x.kind ≡ 17) ⊎ (x.kind ≡ 18)
  is_known h =
      ⊎_elim
      (λ (z : eqb x.kind 17 ≡ true). inl (eqb-true x.kind 17 z))
      (λ (z : eqb x.kind 18 ≡ true). inr (eqb-true x.kind 18 z))
      (or-true (eqb x.kind INDEPENDENT) (eqb x.kind CARRIED) h)

  known_is : (x.kind ≡ 17) ⊎ (x.kind ≡ 18) → known ≡ true
  known_is (inl h) = or_left (eqb x.kind CARRIED) (eq-eqb x.kind 17 h)
  known_is (inr h) = or_right (eqb x.kind INDEPENDENT) (eq-eqb x.kind 18 h)

  pub record_decided : Decides (RecordBreaks ps x) (record_fault ps (dep_in x))
  record_decided = record { found = found; least = least }
    where
      least : (n : ℕ) → RecordBreaks ps x n → Upto (record_fault ps (dep_in x)) n
      least n (RecordBreaks.kind h) =
          first_upto (when (not known) 2) (fault ps x) 2
          (when_upto (not known) 2 (omega arith) (not_is known (false_by (λ z. h (is_known z)))))
      least n (RecordBreaks.misfit m) =
          later_upto (when (not known) 2) (fault ps x) n
          (omega (arith, when_le (not known) 2 2 (omega arith), misfit_big ps x n m)) (misfit_upto ps x n m)

      found : 0 < record_fault ps (dep_in x) → RecordBreaks ps x (record_fault ps (dep_in x))
      found =
          first_found (RecordBreaks ps x) (when (not known) 2) (fault ps x)
          (when_found (RecordBreaks ps x) (not known) 2
          (λ z. RecordBreaks.kind (λ k. never_both (known_is k) (is_not known z))))
          (λ z h. RecordBreaks.misfit (misfit_found ps x (is_known (unless_zero known 1 z)) shape h))
