-- The fronts of a row, chosen from the last suffix to the first.
-- Main definition: `Choosing`. Main statements: `choosing_none`, `choosing_more`, `choosing_all`.
use mathlib.Core.Path.{◌≡◌, refl, sym, ◌∙◌, ap}
use mathlib.Core.List.{List}
use Prim.Native.Nat.{ℕ, zero, suc, ◌+◌, ◌-◌, ◌≤◌, ◌<◌}
use native.Mathlib.Omega.{arith}
use lib.ListN.{length, set, length-set}
use lib.Seq.{get_or-set_other}
use borrow.Author.Tests.{lt-ltb, le-ltb}
use Rattle.laws.specs.Entries.{at}
use Rattle.laws.proofs.Tests.{lt_by}
use Rattle.laws.proofs.Stores.{stored}
use Rattle.plan_method.specs.Sweep.{State, Front, front, better, best}
use Rattle.plan_starts.specs.Grounds.{Kept}
use Rattle.plan_rows.specs.Made.{BetterSays, Chosen}

-- nothing but low + 1 … high has changed
pub kept_none : (xs : List ℕ) (low high : ℕ) → Kept xs xs low high
kept_none xs low high i h = refl

pub kept_more : (xs ys : List ℕ) (base q e x : ℕ) → 0 < q → q ≤ e → Kept xs ys (base + q) (base + e) →
    Kept xs (set ys (base + q) x) (base + (q - 1)) (base + e)
kept_more xs ys base q e x a b k i h =
    get_or-set_other ys (base + q) i x 0 (λ (z : i ≡ base + q). absurd (omega (arith, h (omega arith)))) ∙
    k i (λ l. h (omega arith))

-- the best front of the suffixes after q
abbrev pub Run : (ℕ → State) → ℕ → ℕ → ℕ → ℕ → ℕ → Type 0
Run v c e q f at = (k : ℕ) → e ≤ k + q → best v c e k (suc q) ≡ front f at

pub run_none : (v : ℕ → State) (c e : ℕ) → Run v c e e 0 0
unfolding best
run_none v c e zero h = refl
run_none v c e (suc k) h = rw (lt-ltb e (suc e) (omega arith))

pub run_more : (v : ℕ → State) (c e q f at f' at' : ℕ) → 0 < q → q ≤ e → front f' at' ≡
    better c q (v q) (front f at) → Run v c e q f at → Run v c e (q - 1) f' at'
unfolding best
run_more v c e zero f at f' at' a b n r k h = absurd (omega arith)
run_more v c e (suc q) f at f' at' a b n r zero h = absurd (omega arith)
run_more v c e (suc q) f at f' at' a b n r (suc k) h =
    let z : suc q - 1 ≡ q = omega arith in
    rw (z, le-ltb e (suc q) b, r k (omega (arith, h))) (sym n)

pub chosen_none : (v : ℕ → State) (c : ℕ) (left choice : List ℕ) (base e : ℕ) → Chosen v c left choice base e e
chosen_none v c left choice base e =
    record { left_is = λ q a b. absurd (omega arith); choice_is = λ q a b. absurd (omega arith) }

pub Chosen-more
    : (v : ℕ → State) (c : ℕ) (left choice : List ℕ) (base q e f at : ℕ) → 0 < q → q ≤ e → base + q < length left →
    base + q < length choice
    → Run v c e (q - 1) f at → Chosen v c left choice base q e →
    Chosen v c (set left (base + q) f) (set choice (base + q) at) base (q - 1) e
Chosen-more v c left choice base q e f at a b h k r s =
    record {
      left_is = λ p i j. stored left (base + q) f (base + p) (best v c e (suc e) p).f h
          (λ z. sym (rw (same p z) (ap (λ (x : Front). x.f) now))) (λ z. s.left_is p (later p i z) j);
      choice_is = λ p i j. stored choice (base + q) at (base + p) (best v c e (suc e) p).at k
          (λ z. sym (rw (same p z) (ap (λ (x : Front). x.at) now))) (λ z. s.choice_is p (later p i z) j);
    }
  where
    now : best v c e (suc e) q ≡ front f at
    now =
        let z : suc (q - 1) ≡ q = omega arith in
        rw z at (r (suc e) (omega arith))

    same : (p : ℕ) → base + p ≡ base + q → p ≡ q
    same p z = omega arith

    later : (p : ℕ) → q - 1 < p → (base + p ≡ base + q → ⊥) → q < p
    later p i z = lt_by λ l. z (omega arith)

-- the rows so far: the suffixes after q are done, f and a are the front and its place
pub record Choosing (cs fs : List ℕ) (m : ℕ) (left₀ choice₀ : List ℕ) (base d e : ℕ) (left choice : List ℕ)
    (f a q : ℕ) : Type 0 where
  pub from : d ≤ q
  pub high : q ≤ e
  pub left_length : length left ≡ length left₀
  pub choice_length : length choice ≡ length choice₀
  pub left_kept : Kept left₀ left (base + q) (base + e)
  pub choice_kept : Kept choice₀ choice (base + q) (base + e)
  pub run
      : (v : ℕ → State)
      → ((p : ℕ) → d < p → p ≤ e → at cs p ≡ (v p).c)
      → ((p : ℕ) → d < p → p ≤ e → at fs p ≡ (v p).f)
      → Run v m e q f a
  pub chosen
      : (v : ℕ → State)
      → ((p : ℕ) → d < p → p ≤ e → at cs p ≡ (v p).c)
      → ((p : ℕ) → d < p → p ≤ e → at fs p ≡ (v p).f)
      → Chosen v m left choice base q e

pub choosing_none
    : {cs fs : List ℕ} {m : ℕ} {left choice : List ℕ} {base d e : ℕ} → d < e →
    Choosing cs fs m left choice base d e left choice 0 0 e
choosing_none {m = m} {left} {choice} {base} {e = e} long =
    record {
      from = omega arith;
      high = omega arith;
      left_length = refl;
      choice_length = refl;
      left_kept = kept_none left (base + e) (base + e);
      choice_kept = kept_none choice (base + e) (base + e);
      run = λ v x y. run_none v m e;
      chosen = λ v x y. chosen_none v m left choice base e;
    }

module _
    {cs fs : List ℕ} {m : ℕ} {left₀ choice₀ : List ℕ} {base d e : ℕ} {left choice : List ℕ} {f a q : ℕ}
    (s : Choosing cs fs m left₀ choice₀ base d e left choice f a q)
  where
    pub choosing_more
        : {f' a' : ℕ}
        → d < q
        → base + q < length left
        → base + q < length choice
        → BetterSays f a m q (at cs q) (at fs q) f' a'
        → Choosing cs fs m left₀ choice₀ base d e (set left (base + q) f') (set choice (base + q) a') f' a' (q - 1)
    choosing_more {f'} {a'} h i j b =
        record {
          from = omega arith;
          high = omega (arith, s.high);
          left_length = length-set left (base + q) f' ∙ s.left_length;
          choice_length = length-set choice (base + q) a' ∙ s.choice_length;
          left_kept = kept_more left₀ left base q e f' (omega arith) s.high s.left_kept;
          choice_kept = kept_more choice₀ choice base q e a' (omega arith) s.high s.choice_kept;
          run = run;
          chosen = λ v x y. Chosen-more v m left choice base q e f' a' (omega arith) s.high i j (run v x y)
              (s.chosen v x y);
        }
      where
        run
            : (v : ℕ → State)
            → ((p : ℕ) → d < p → p ≤ e → at cs p ≡ (v p).c)
            → ((p : ℕ) → d < p → p ≤ e → at fs p ≡ (v p).f)
            → Run v m e (q - 1) f' a'
        run v x y = run_more v m e q f a f' a' (omega arith) s.high (b (v q) (x q h s.high) (y q h s.high))
            (s.run v x y)

    pub choosing_all : q ≤ d → Choosing cs fs m left₀ choice₀ base d e left choice f a d
    choosing_all h =
        let z : q ≡ d = omega (arith, s.from) in
        rw z at s
