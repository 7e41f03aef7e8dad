-- Foreign loops: the test as facts, and gaps inside and outside them.
-- Main statements: `foreign_flagged`, `in-foreign`, `not_outside`, `outside`.
use mathlib.Core.Path.{◌≡◌}
use mathlib.Core.Bool.{Bool, true, false, ◌&&◌, not}
use mathlib.Core.List.{List}
use Prim.Native.Nat.{ℕ}
use Rattle.laws.specs.Choice.{is_in}
use Rattle.laws.proofs.Tests.{and_true, and_intro, false_by, never_both}
use Rattle.paper_nests.specs.Nests.{Dep}
use Rattle.paper_nests.specs.Loops.{is_around}
use Rattle.call_missing.specs.Foreign.{belongs, is_foreign, in_foreign}
use Rattle.call_missing.specs.Listed.{Outside}
use Rattle.call_missing.proofs.Some.{some-in, in_some}

module _ (ps fs : List ℕ) (e : Dep) where
  pub foreign_flagged : (d : ℕ) → is_foreign ps fs e d ≡ true → is_in d fs ≡ true
  unfolding is_foreign
  foreign_flagged d h = (and_true (is_in d fs) (not (belongs ps d e.s) && not (belongs ps d e.t)) h).0

  abbrev covers : ℕ → ℕ → Bool
  covers g d = is_foreign ps fs e d && is_around ps g d

  -- a gap inside a foreign loop, with the loop
  pub record Inside (g : ℕ) : Type 0 where
    pub loop : ℕ
    pub foreign : is_foreign ps fs e loop ≡ true
    pub around : is_around ps g loop ≡ true

  pub in-foreign : (g : ℕ) → in_foreign ps fs e g ≡ true → Inside g
  unfolding in_foreign
  in-foreign g h =
      let m = some-in (covers g) fs h in
      let z = and_true (is_foreign ps fs e m.at) (is_around ps g m.at) m.passed in
      record { loop = m.at; foreign = z.0; around = z.1 }

  pub foreign_in : (g : ℕ) → Inside g → in_foreign ps fs e g ≡ true
  unfolding in_foreign
  foreign_in g i =
      in_some (covers g) fs i.loop (foreign_flagged i.loop i.foreign) (and_intro i.foreign i.around)

  -- outside all of them
  pub not_outside : (g : ℕ) → in_foreign ps fs e g ≡ true → Outside ps fs e g → ⊥
  not_outside g h o = let i = in-foreign g h in never_both i.around (o i.loop i.foreign)

  pub outside : (g : ℕ) → in_foreign ps fs e g ≡ false → Outside ps fs e g
  outside g h d f =
      false_by (λ z. never_both (foreign_in g (record { loop = d; foreign = f; around = z })) h)
