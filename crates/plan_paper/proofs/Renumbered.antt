-- One dependence renumbered: it stays with the ranks of its points, or has become one stretch, or is shut.
-- Main statements: `first_loop`, `kept_dep`, `kept_open`, `stretch_dep`.
use mathlib.Core.Path.{◌≡◌, refl, sym}
use mathlib.Core.Bool.{Bool, true, false, ◌&&◌, ◌||◌, not}
use mathlib.Core.List.{List}
use mathlib.Core.Logic.{inl, inr, ⊎_elim}
use Prim.Native.Nat.{ℕ, ◌≤◌, ◌<◌}
use native.Mathlib.Omega.{arith}
use lib.Dec.{eqb, ltb, leb}
use borrow.Author.Tests.{eqb-true, eqb-false, ne_eqb, ltb-true, leb-false, lt-leb, lt-ltb}
use Rattle.laws.specs.Choice.{pick}
use Rattle.laws.proofs.Tests.{never, never_both, and_true, and_intro, or-true}
use Rattle.paper_nests.specs.Kinds.{INDEPENDENT, CARRIED}
use Rattle.paper_nests.specs.Nests.{Dep, dep}
use Rattle.paper_nests.specs.Ring.{one_loop}
use Rattle.paper_nests.specs.Valid.{is_of_kind, names_points, runs_right, is_dep}
use Rattle.paper_nests.proofs.Deps.{Fits, dep_fits}
use Rattle.paper_nests.proofs.Ring.{one_loop_is_first}
use Rattle.paper_barred.specs.Ranks.{rank}
use Rattle.paper_barred.specs.Reduced.{carried_round, reduced_dep}
use Rattle.plan_paper.specs.Renumbering.{is_shut_at, stays, stretch}

-- in a nest of one loop an independent dependence has no d, and a carried one that of the first point
pub first_loop : (ps : List ℕ) (e : Dep) → one_loop ps ≡ true → is_dep ps e ≡ true → e.d ≡ 0
first_loop ps e one h = go (dep_fits ps e h)
  where
    independent : e.kind ≡ INDEPENDENT → e.d ≡ 0
    independent k =
        let a = (and_true (is_of_kind e) (names_points ps e && runs_right ps e) h).0 in
        let kinds : ((true && eqb e.d 0) || false) ≡ true = rw k at a in
        ⊎_elim
        (λ (z : (true && eqb e.d 0) ≡ true). eqb-true e.d 0 z)
        (λ (z : false ≡ true). never z)
        (or-true (true && eqb e.d 0) false kinds)

    go : Fits ps e → e.d ≡ 0
    go (inl line) = independent line.kind_is
    go (inr back) = one_loop_is_first ps one e.d back.loop

-- a carried one, by the ranks of its points
module _ (m s t : ℕ) where
  abbrev round_stays : Bool
  round_stays = ltb t s && (ltb 0 t && ltb s m)

  round_kept : round_stays ≡ true → carried_round m s t ≡ dep CARRIED 0 s t
  round_kept h =
      let a = and_true (ltb t s) (ltb 0 t && ltb s m) h in
      let b = and_true (ltb 0 t) (ltb s m) a.1 in
      let below = ltb-true t s a.0 in
      let some = ltb-true 0 t b.0 in
      let inside = ltb-true s m b.1 in
      rw (lt-leb s t below, ne_eqb t 0 (λ z. omega arith), ne_eqb s m (λ z. omega arith)) refl

  round_open : round_stays ≡ true → (eqb t 0 && eqb s m) ≡ false
  round_open h =
      let a = and_true (ltb t s) (ltb 0 t && ltb s m) h in
      let some = ltb-true 0 t (and_true (ltb 0 t) (ltb s m) a.1).0 in
      rw (ne_eqb t 0 (λ z. omega arith)) refl

  round_stretch : s ≤ m → round_stays ≡ false → carried_round m s t ≡ stretch m s t
  round_stretch l h = whole (leb s t) refl
    where
      -- both stretches have gaps, so the second has none
      before
          : (u : Bool) → t < s → 0 < t → eqb s m ≡ u
          → pick u (dep INDEPENDENT 0 0 t) (dep CARRIED 0 s t) ≡ dep INDEPENDENT 0 0 t
      before true a b e = refl
      before false a b e =
          let n = eqb-false s m e in
          never_both
          (and_intro (lt-ltb t s a) (and_intro (lt-ltb 0 t b) (lt-ltb s m (omega (arith, n)))))
          h

      after
          : (u : Bool) → t < s → eqb t 0 ≡ u
          → pick u (dep INDEPENDENT 0 s m) (pick (eqb s m) (dep INDEPENDENT 0 0 t) (dep CARRIED 0 s t)) ≡
          pick u (dep INDEPENDENT 0 s m) (dep INDEPENDENT 0 0 t)
      after true a e = refl
      after false a e =
          let n = eqb-false t 0 e in
          before (eqb s m) a (omega (arith, n)) refl

      whole
          : (u : Bool) → leb s t ≡ u
          → pick u (dep INDEPENDENT 0 0 m)
          (pick (eqb t 0) (dep INDEPENDENT 0 s m) (pick (eqb s m) (dep INDEPENDENT 0 0 t) (dep CARRIED 0 s t))) ≡
          pick u (dep INDEPENDENT 0 0 m) (pick (eqb t 0) (dep INDEPENDENT 0 s m) (dep INDEPENDENT 0 0 t))
      whole true e = refl
      whole false e = after (eqb t 0) (leb-false s t e) refl

module _ (ps bs : List ℕ) (e : Dep) (m : ℕ) (fits : Fits ps e) where
  abbrev from : ℕ
  from = rank bs e.s

  abbrev to : ℕ
  to = rank bs e.t

  pub kept_dep : stays e.kind m (rank bs e.s) (rank bs e.t) ≡ true
      → reduced_dep bs m e ≡ dep e.kind 0 (rank bs e.s) (rank bs e.t)
  kept_dep h = go fits
    where
      go : Fits ps e → reduced_dep bs m e ≡ dep e.kind 0 from to
      go (inl line) = rw line.kind_is refl
      go (inr back) =
          let h' : (ltb to from && (ltb 0 to && ltb from m)) ≡ true = rw back.kind_is at h in
          rw back.kind_is (round_kept m from to h')

  pub kept_open : stays e.kind m (rank bs e.s) (rank bs e.t) ≡ true
      → is_shut_at e.kind m (rank bs e.s) (rank bs e.t) ≡ false
  kept_open h = go fits
    where
      off : (b : Bool) → not b ≡ true → b ≡ false
      off true z = never z
      off false z = refl

      go : Fits ps e → is_shut_at e.kind m from to ≡ false
      go (inl line) =
          let h' : not (eqb from to) ≡ true = rw line.kind_is at h in
          rw line.kind_is (off (eqb from to) h')
      go (inr back) =
          let h' : (ltb to from && (ltb 0 to && ltb from m)) ≡ true = rw back.kind_is at h in
          rw back.kind_is (round_open m from to h')

  pub stretch_dep : rank bs e.s ≤ m
      → stays e.kind m (rank bs e.s) (rank bs e.t) ≡ false
      → is_shut_at e.kind m (rank bs e.s) (rank bs e.t) ≡ false
      → reduced_dep bs m e ≡ stretch m (rank bs e.s) (rank bs e.t)
  stretch_dep l h n = go fits
    where
      both_off : {A : Type 0} (b : Bool) → not b ≡ false → b ≡ false → A
      both_off true y z = never (sym z)
      both_off false y z = never (sym y)

      go : Fits ps e → reduced_dep bs m e ≡ stretch m from to
      go (inl line) =
          let h' : not (eqb from to) ≡ false = rw line.kind_is at h in
          let n' : eqb from to ≡ false = rw line.kind_is at n in
          both_off (eqb from to) h' n'
      go (inr back) =
          let h' : (ltb to from && (ltb 0 to && ltb from m)) ≡ false = rw back.kind_is at h in
          rw back.kind_is (round_stretch m from to l h')
