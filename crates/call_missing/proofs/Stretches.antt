-- The stretches of gaps that a dependence has: one of an independent dependence, two of a carried one. A loop apart
-- from both its ends that has a gap of a stretch lies in it whole.
-- Main definition: `Stretch`. Main statements: `line_stretch`, `front_stretch`, `rear_stretch`.
use mathlib.Core.Path.{◌≡◌}
use mathlib.Core.Bool.{true}
use mathlib.Core.List.{List}
use mathlib.Core.Logic.{◌⊎◌, inl, inr}
use Prim.Native.Nat.{ℕ, ◌+◌, ◌≤◌, ◌<◌}
use native.Mathlib.Omega.{arith}
use Rattle.laws.proofs.Tests.{le_by, eq_or}
use Rattle.paper_nests.specs.Nests.{Dep}
use Rattle.paper_nests.specs.Loops.{is_do, end_of}
use Rattle.paper_nests.specs.Gaps.{has_gap}
use Rattle.paper_nests.specs.Valid.{is_shape}
use Rattle.paper_nests.proofs.Deps.{Line, Back, gap_of_line, gap_before_target, gap_after_source}
use Rattle.paper_nests.proofs.Loops.{nested}
use Rattle.call_missing.specs.Covering.{is_apart}
use Rattle.call_missing.proofs.Apart.{apart_source, apart_target}

-- the loop of DO d is apart from both ends
abbrev pub Apart : List ℕ → Dep → ℕ → Type 0
Apart ps e d = is_apart d (end_of ps d) e.s e.t ≡ true

pub record Stretch (ps : List ℕ) (e : Dep) (lo hi : ℕ) : Type 0 where
  pub gaps : (g : ℕ) → lo ≤ g → g ≤ hi → has_gap ps e g ≡ true
  pub begins :
      (d g : ℕ) → is_do ps d ≡ true → Apart ps e d → lo ≤ g → g ≤ hi → d < g → g ≤ end_of ps d → lo ≤ d
  pub ends : (d : ℕ) → is_do ps d ≡ true → Apart ps e d → lo ≤ d → d ≤ hi → end_of ps d ≤ hi

module _ (ps : List ℕ) (e : Dep) where
  -- what starts behind the source begins behind it, what ends at the target ends before it
  behind_source : (d g : ℕ) → Apart ps e d → e.s + 1 ≤ g → g ≤ end_of ps d → e.s + 1 ≤ d
  behind_source d g a l m =
      le_by λ z. omega (arith, apart_source d (end_of ps d) e.s e.t a (omega arith))

  before_target : (d : ℕ) → Apart ps e d → d ≤ e.t → end_of ps d ≤ e.t
  before_target d a l = omega (arith, apart_target d (end_of ps d) e.s e.t a l)

  -- s + 1 to t
  pub line_stretch : Line ps e → Stretch ps e (e.s + 1) e.t
  line_stretch k =
      record {
        gaps = λ g a b. gap_of_line ps e g k.kind_is (omega arith) b;
        begins = λ d g h a l m u v. behind_source d g a l v;
        ends = λ d h a l m. before_target d a m;
      }

  module _ (shape : is_shape ps ≡ true) (k : Back ps e) where
    -- d + 1 to t
    pub front_stretch : Stretch ps e (e.d + 1) e.t
    front_stretch =
        record {
          gaps = λ g a b. gap_before_target ps e g k.kind_is (omega arith) b;
          begins = λ d g h a l m u v. le_by λ z. begins d g h a l v (omega arith) (eq_or d e.d);
          ends = λ d h a l m. before_target d a m;
        }
      where
        -- not the loop that carries it, nor one around that
        begins :
            (d g : ℕ) → is_do ps d ≡ true → Apart ps e d → e.d + 1 ≤ g → g ≤ end_of ps d → d ≤ e.d →
            (d ≡ e.d) ⊎ ((d ≡ e.d) → ⊥) → ⊥
        begins d g h a l v z (inl q) =
            let b : is_apart e.d (end_of ps e.d) e.s e.t ≡ true = rw q at a in
            let c = apart_source e.d (end_of ps e.d) e.s e.t b (omega (arith, k.source_after)) in
            omega (arith, k.source_before)
        begins d g h a l v z (inr q) =
            let n = nested ps shape d e.d h k.loop (omega (arith, q)) (omega arith) in
            let c = apart_target d (end_of ps d) e.s e.t a (omega (arith, k.target_after)) in
            omega (arith, k.target_before)

    -- s + 1 to the ENDDO
    pub rear_stretch : Stretch ps e (e.s + 1) (end_of ps e.d)
    rear_stretch =
        record {
          gaps = λ g a b. gap_after_source ps e g k.kind_is (omega arith) b;
          begins = λ d g h a l m u v. behind_source d g a l v;
          ends =
              λ d h a l m.
              let n = nested ps shape e.d d k.loop h (omega (arith, k.source_after)) m in
              omega arith;
        }
