-- The loops directly inside a loop: every loop inside it is one of them, or inside one of them.
-- Main statement: `right_in_around`.
use mathlib.Core.Path.{◌≡◌}
use mathlib.Core.Bool.{true, ◌&&◌}
use mathlib.Core.List.{List}
use mathlib.Core.Logic.{◌⊎◌, inl, inr, ⊎_elim}
use Prim.Native.Nat.{ℕ}
use native.Mathlib.Omega.{arith}
use lib.Dec.{eqb}
use borrow.Author.Tests.{eqb-true, eq-eqb}
use Rattle.laws.proofs.Tests.{and_intro, and_true, eq_or}
use Rattle.paper_nests.specs.Loops.{is_do, owner_of, in_loop}
use Rattle.paper_nests.specs.Valid.{is_shape}
use Rattle.paper_nests.proofs.Loops.{inside_lies, inside_by, end-after}
use Rattle.paper_nests.proofs.Gaps.{LoopInChild, loop_in_child, child_ends_inside}
use Rattle.paper_order.specs.Trees.{is_right_in}

-- a loop directly inside d that is y or lies around y
pub record Around (ps : List ℕ) (d y : ℕ) : Type 0 where
  pub loop : ℕ
  pub right_in : is_right_in ps d loop ≡ true
  pub holds : (y ≡ loop) ⊎ (in_loop ps loop y ≡ true)

-- what a loop directly inside another is
pub record RightIn (ps : List ℕ) (d x : ℕ) : Type 0 where
  pub loop : is_do ps x ≡ true
  pub inside : in_loop ps d x ≡ true
  pub owner : owner_of ps x ≡ d

pub right_in_lies : (ps : List ℕ) (d x : ℕ) → is_right_in ps d x ≡ true → RightIn ps d x
right_in_lies ps d x h =
    let z = and_true (is_do ps x) (in_loop ps d x && eqb (owner_of ps x) d) h in
    let y = and_true (in_loop ps d x) (eqb (owner_of ps x) d) z.1 in
    record { loop = z.0; inside = y.0; owner = eqb-true (owner_of ps x) d y.1 }

module _ (ps : List ℕ) (shape : is_shape ps ≡ true) where
  -- a loop inside d is directly inside it, or inside a loop that is
  pub right_in_around : (d y : ℕ) → is_do ps d ≡ true → is_do ps y ≡ true → in_loop ps d y ≡ true → Around ps d y
  right_in_around d y h m i =
      let z = inside_lies ps d y i in
      go (loop_in_child ps shape d y h m z.0 (omega (arith, z.1)))
    where
      go : LoopInChild ps d y → Around ps d y
      go r = record { loop = x; right_in = right_in; holds = holds }
        where
          x : ℕ
          x = r.at

          right_in : is_right_in ps d x ≡ true
          right_in =
              and_intro r.child.loop
              (and_intro
              (inside_by ps d x r.child.inside
              (omega (arith, end-after ps shape x r.child.loop, child_ends_inside ps shape d x r.child)))
              (eq-eqb (owner_of ps x) d r.child.owned))

          holds : (y ≡ x) ⊎ (in_loop ps x y ≡ true)
          holds = ⊎_elim
              (λ (z : y ≡ x). inl z)
              (λ (z : y ≡ x → ⊥).
              inr (inside_by ps x y (omega (arith, r.after)) (omega (arith, r.within, end-after ps shape y m))))
              (eq_or y x)
