-- Whether there is something to cut in a loop, gathered from the loops directly inside it from left to right.
-- Main statements: `some_none`, `some_plain`, `some_child`.
use mathlib.Core.Path.{◌≡◌, refl, ◌∙◌}
use mathlib.Core.Bool.{Bool, true, false, ◌&&◌, ◌||◌}
use mathlib.Core.List.{List}
use mathlib.Core.Logic.{◌⊎◌, inl, inr}
use Prim.Native.Nat.{ℕ, zero, suc, ◌≤◌, ◌<◌}
use native.Mathlib.Omega.{arith}
use lib.Dec.{eqb, ltb}
use borrow.Author.Tests.{lt-ltb, le-ltb, eq-eqb, ne_eqb}
use Rattle.laws.proofs.Tests.{le_or}
use Rattle.paper_nests.specs.Loops.{is_do, end_of, owner_of}
use Rattle.paper_nests.specs.Valid.{is_shape}
use Rattle.paper_nests.proofs.Loops.{owner-inside}
use Rattle.plan_method.specs.Sweep.{Tables, child_some}
use Rattle.plan_method.specs.Home.{loops_in}

module _ (ps : List ℕ) (shape : is_shape ps ≡ true) (T : Tables) (d : ℕ) where
  -- right after the DO there is none yet
  pub some_none : (n : ℕ) → n ≤ suc d → child_some (loops_in ps) T d n ≡ false
  unfolding child_some
  some_none zero h = refl
  some_none (suc l) h = rw (le-ltb d l (omega arith), some_none l (omega arith))

  -- a point that is no DO adds none
  pub some_plain : (i : ℕ) → is_do ps i ≡ false → child_some (loops_in ps) T d (suc i) ≡ child_some (loops_in ps) T d i
  unfolding child_some
  some_plain i h = go (ltb d i)
    where
      go : (t : Bool) → ((t && (is_do ps i && (eqb (owner_of ps i) d && ltb 0 (T.left i (suc i))))) || child_some
          (loops_in ps) T d i) ≡ child_some (loops_in ps) T d i
      go true = rw h
      go false = refl

  -- a loop that lies in another loop inside d adds none
  some_deep : (i l : ℕ) → is_do ps i ≡ true → d < i → i < l → l ≤ end_of ps i → child_some (loops_in ps) T d (suc l) ≡
      child_some (loops_in ps) T d l
  unfolding child_some
  some_deep i l h a b c = go (ltb d l) (is_do ps l)
    where
      other : eqb (owner_of ps l) d ≡ false
      other = ne_eqb (owner_of ps l) d (λ (z : owner_of ps l ≡ d). omega (arith, owner-inside ps shape i l h b c))

      go : (t u : Bool) → ((t && (u && (eqb (owner_of ps l) d && ltb 0 (T.left l (suc l))))) || child_some
          (loops_in ps) T d l) ≡ child_some (loops_in ps) T d l
      go true true = rw other
      go true false = refl
      go false true = refl
      go false false = refl

  some_skip : (i : ℕ) → is_do ps i ≡ true → d < i → (n : ℕ) → suc i ≤ n → n ≤ suc (end_of ps i) →
      child_some (loops_in ps) T d n ≡ child_some (loops_in ps) T d (suc i)
  some_skip i h a zero b c = absurd (omega arith)
  some_skip i h a (suc l) b c = go (le_or l i) (some_skip i h a l)
    where
      go : (l ≤ i) ⊎ (i < l) →
          (suc i ≤ l → l ≤ suc (end_of ps i) → child_some (loops_in ps) T d l ≡ child_some (loops_in ps) T d (suc i)) →
          child_some (loops_in ps) T d (suc l) ≡ child_some (loops_in ps) T d (suc i)
      go (inl z) r = let y : l ≡ i = omega arith in rw y refl
      go (inr z) r = some_deep i l h a z (omega arith) ∙ r z (omega arith)

  some_here : (i : ℕ) → is_do ps i ≡ true → d < i → owner_of ps i ≡ d → child_some (loops_in ps) T d (suc i) ≡
      (ltb 0 (T.left i (suc i)) || child_some (loops_in ps) T d i)
  unfolding child_some
  some_here i h a o = rw (lt-ltb d i a, h, eq-eqb (owner_of ps i) d o) refl

  -- a loop directly inside d adds its own
  pub some_child : (i : ℕ) → is_do ps i ≡ true → d < i → owner_of ps i ≡ d → i < end_of ps i →
      child_some (loops_in ps) T d (suc (end_of ps i)) ≡ (ltb 0 (T.left i (suc i)) || child_some (loops_in ps) T d i)
  some_child i h a o l = some_skip i h a (suc (end_of ps i)) (omega arith) (omega arith) ∙ some_here i h a o
