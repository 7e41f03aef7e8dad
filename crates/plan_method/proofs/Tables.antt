-- The computed tables are tables: the row of d is made from rows of loops after d, which never change again.
-- Main statement: `table_is`.
use mathlib.Core.Path.{◌≡◌, refl, sym, ◌∙◌, ap}
use mathlib.Core.Bool.{Bool, true, false}
use mathlib.Core.Logic.{⊎_elim}
use Prim.Native.Nat.{ℕ, zero, suc, ◌+◌, ◌≤◌, ◌<◌}
use native.Mathlib.Omega.{arith}
use borrow.Author.Tests.{eq-eqb, ne_eqb}
use Rattle.laws.specs.Choice.{pick}
use Rattle.laws.proofs.Tests.{never_both, le_or}
use Rattle.plan_method.specs.Sweep.{Loops, Lines, Tables, cost_of, left_of, choice_of, lay_of, IsTable}
use Rattle.plan_method.specs.Plan.{with_row, table_from, table_of}
use Rattle.plan_method.proofs.World.{LoopLaws}
use Rattle.plan_method.proofs.Alike.{Alike}
use Rattle.plan_method.proofs.AlikeRows.{cost_alike, left_alike, choice_alike, lay_alike}

-- the row of x in T is made from the rows of S
pub record RowOf (B : Loops) (N : Lines) (S T : Tables) (x : ℕ) : Type 0 where
  pub cost_is : T.cost x ≡ cost_of B N S x
  pub left_is : (q : ℕ) → x < q → q ≤ B.stop x → T.left x q ≡ left_of B N S x q
  pub choice_is : (q : ℕ) → x < q → q ≤ B.stop x → T.choice x q ≡ choice_of B N S x q
  pub lay_is : (q g : ℕ) → x < q → q ≤ B.stop x → T.lay x q g ≡ lay_of B N S x q g

-- S and T have the same rows after d
record After (S T : Tables) (d : ℕ) : Type 0 where
  pub cost_is : (x : ℕ) → d < x → S.cost x ≡ T.cost x
  pub left_is : (x : ℕ) → d < x → S.left x ≡ T.left x
  pub choice_is : (x : ℕ) → d < x → S.choice x ≡ T.choice x
  pub lay_is : (x : ℕ) → d < x → S.lay x ≡ T.lay x

-- then a row of x from d on that is made from S is made from T
row_kept : (B : Loops) → LoopLaws B → (N : Lines) (S T : Tables) (d x : ℕ) → B.is_do x ≡ true → d ≤ x → After S T d →
    RowOf B N S T x → RowOf B N T T x
row_kept B laws N S T d x is-do h a r =
    record {
      cost_is = r.cost_is ∙ cost_alike B B laws N N S T x is-do alike;
      left_is = λ q i j. r.left_is q i j ∙ left_alike B B laws N N S T x is-do alike q i j;
      choice_is = λ q i j. r.choice_is q i j ∙ choice_alike B B laws N N S T x is-do alike q i j;
      lay_is = λ q g i j. r.lay_is q g i j ∙ lay_alike B B laws N N S T x is-do alike q g i j;
    }
  where
    alike : Alike B B N N S T x
    alike =
        record {
          stop_is = refl;
          do_is = λ l i j. refl;
          end_is = λ p i j. refl;
          own_is = λ p i j. refl;
          has_is = refl;
          reach_is = λ a i j. refl;
          limit_is = λ q i j. refl;
          left_is = λ l q c i j k. ap (λ (f : ℕ → ℕ). f q) (a.left_is l (omega (arith, c.below)));
          lay_is = λ l q g c i j k. ap (λ (f : ℕ → ℕ → Bool). f q g) (a.lay_is l (omega (arith, c.below)));
        }

module _ (B : Loops) (laws : LoopLaws B) (N : Lines) where
  row_after : (T : Tables) (d : ℕ) → After T (with_row B N d T) d
  unfolding with_row
  row_after T d =
      record {
        cost_is = λ x h. rw (ne_eqb x d (λ e. omega arith));
        left_is = λ x h. rw (ne_eqb x d (λ e. omega arith));
        choice_is = λ x h. rw (ne_eqb x d (λ e. omega arith));
        lay_is = λ x h. rw (ne_eqb x d (λ e. omega arith));
      }

  row_here : (T : Tables) (d : ℕ) → RowOf B N T (with_row B N d T) d
  unfolding with_row
  row_here T d =
      record {
        cost_is = rw (eq-eqb d d refl);
        left_is = λ q i j. rw (eq-eqb d d refl);
        choice_is = λ q i j. rw (eq-eqb d d refl);
        lay_is = λ q g i j. rw (eq-eqb d d refl);
      }

  -- a later row stays
  row_later : (T : Tables) (d x : ℕ) → d < x → RowOf B N T T x → RowOf B N T (with_row B N d T) x
  row_later T d x h r =
      let a : After T (with_row B N d T) d = row_after T d in
      record {
        cost_is = sym (a.cost_is x h) ∙ r.cost_is;
        left_is = λ q i j. ap (λ (f : ℕ → ℕ). f q) (sym (a.left_is x h)) ∙ r.left_is q i j;
        choice_is = λ q i j. ap (λ (f : ℕ → ℕ). f q) (sym (a.choice_is x h)) ∙ r.choice_is q i j;
        lay_is = λ q g i j. ap (λ (f : ℕ → ℕ → Bool). f q g) (sym (a.lay_is x h)) ∙ r.lay_is q g i j;
      }

  rows_from : (k d x : ℕ) → B.is_do x ≡ true → d ≤ x → x < d + k → RowOf B N (table_from B N k d) (table_from B N k d) x
  unfolding table_from
  rows_from zero d x is-do low high = absurd (omega arith)
  rows_from (suc k) d x is-do low high = go (B.is_do d) refl (table_from B N k (suc d))
      (λ h. rows_from k (suc d) x is-do h (omega arith))
    where
      go : (t : Bool) → B.is_do d ≡ t → (T : Tables) → (d < x → RowOf B N T T x) →
          RowOf B N (pick t (with_row B N d T) T) (pick t (with_row B N d T) T) x
      go true e T r = row_kept B laws N T (with_row B N d T) d x is-do low (row_after T d)
          (⊎_elim at (λ (z : d < x). row_later T d x z (r z)) (le_or x d))
        where
          at : x ≤ d → RowOf B N T (with_row B N d T) x
          at z =
              let y : x ≡ d = omega arith in
              rw y (row_here T d)
      go false e T r =
          ⊎_elim
          (λ (z : x ≤ d). (
          let y : x ≡ d = omega arith in
          never_both is-do (rw y e)))
          r
          (le_or x d)

  pub table_is : (n : ℕ) → ((d : ℕ) → B.is_do d ≡ true → d < n) → IsTable B N (table_of B N n)
  unfolding table_of
  table_is n h =
      record {
        cost_is = λ d i. (row d i).cost_is;
        left_is = λ d q i. (row d i).left_is q;
        choice_is = λ d q i. (row d i).choice_is q;
        lay_is = λ d q g i. (row d i).lay_is q g;
      }
    where
      row : (d : ℕ) → B.is_do d ≡ true → RowOf B N (table_from B N n 0) (table_from B N n 0) d
      row d i = rows_from n 0 d i (omega arith) (omega (arith, h d i))
