-- The table of how often each gap is passed, filled from the first point on: after a DO as often as before it, times
-- the loop's turns; elsewhere as often as right behind the DO of the gap's loop.
-- Main definition: `Timed`, what a turn keeps. Main statements: `time_start`, `time_do`, `time_other`;
-- `entry`.
use mathlib.Core.Path.{◌≡◌, refl, sym, ap, ◌∙◌}
use mathlib.Core.Bool.{true}
use mathlib.Core.List.{List, [], ◌∷◌}
use Prim.Native.Nat.{ℕ, zero, suc, ◌+◌, ◌*◌, ◌^◌, ◌≤◌, ◌<◌}
use native.Mathlib.Numerals.{add-one}
use native.Mathlib.Omega.{arith}
use lib.ListN.{length, get_or, set, length-set}
use borrow.Author.Tests.{eq-eqb, ne_eqb}
use Rattle.laws.specs.Entries.{at}
use Rattle.laws.proofs.Tests.{lt_by, never_both}
use Rattle.laws.proofs.Stores.{stored}
use Rattle.paper_nests.specs.Kinds.{DO, POINTS, DEPTH}
use Rattle.paper_nests.specs.Loops.{is_do, owner_of}
use Rattle.paper_nests.specs.Valid.{is_shape}
use Rattle.paper_nests.proofs.Levels.{starts_with_do, point_in}
use Rattle.paper_nests.proofs.Loops.{owner_is_do, owner_below}
use Rattle.paper_counts.specs.Tables.{OwnersAre}
use Rattle.run_barriers.specs.Calls.{TURNS, dos_before, turns_of, times_from, times_at, fit_in}
use Rattle.run_barriers.proofs.Turns.{in_list, turns_most}
use Rattle.run_barriers.proofs.Times.{times_own, times_do}
use Rattle.run_barriers.proofs.Sizes.{times_most}
use Rattle.run_count.proofs.Fitting.{dos_on, dos_skip}

-- an entry of a list is the same whatever stands for none
pub entry : (xs : List ℕ) (i a b : ℕ) → i < length xs → get_or xs i a ≡ get_or xs i b
entry [] i a b h = absurd (omega arith)
entry (x ∷ xs) zero a b h = refl
entry (x ∷ xs) (suc i) a b h = entry xs i a b (omega arith)

-- up to gap i the table is filled, and the turns of the loops with DO before i are used
pub record Timed (ps ts times : List ℕ) (next i : ℕ) : Type 0 where
  pub here : i < length ps
  pub long : length times ≡ POINTS
  pub counted : next ≡ dos_before ps i
  pub told : (g : ℕ) → g ≤ i → at times g ≡ times_at ps ts g

-- before the first point a gap would be passed once
pub time_start
    : (ps ts : List ℕ) (shape : is_shape ps ≡ true) (times : List ℕ) → length times ≡ POINTS → at times 0 ≡ 1
    → Timed ps ts times 0 0
unfolding dos_before times_from
time_start ps ts shape times l e =
    record {
      here = point_in ps 0 0 (starts_with_do ps shape);
      long = l;
      counted = refl;
      told = λ g h. (let z : g ≡ 0 = omega arith in rw z e);
    }

module _
    {ps ts times : List ℕ} {next i : ℕ} (p : Timed ps ts times next i)
    (shape : is_shape ps ≡ true) (few : length ps ≤ POINTS) (l : i + 1 < length ps)
  where
    -- one gap more
    told_on :
        (v : ℕ) → v ≡ times_at ps ts (suc i) → (g : ℕ) → g ≤ i + 1 →
        at (set times (i + 1) v) g ≡ times_at ps ts g
    told_on v e g h =
        stored times (i + 1) v g (times_at ps ts g) (omega (arith, p.long))
        (λ z. let y : g ≡ suc i = omega arith in rw y e)
        (λ z. p.told g (omega arith))

    -- ---- after a DO

    module _ (fit : fit_in 0 0 ps ts ≡ true) (h : get_or ps i 0 ≡ DO) where
      loop : is_do ps i ≡ true
      loop = eq-eqb (get_or ps i 0) DO h

      pub next_in : next < length ts
      next_in = omega (arith, p.counted, in_list 0 0 ps ts fit i loop)

      inside : get_or ts next 0 * at times i ≡ times_at ps ts (suc i)
      inside =
          let t : get_or ts next 0 ≡ turns_of ps ts i =
          entry ts next 0 1 next_in ∙ ap (λ (k : ℕ). get_or ts k 1) p.counted in
          rw (t, p.told i (omega arith)) (sym (times_do ps shape ts i loop))

      -- the product fits
      pub inside_most : get_or ts next 0 * at times i ≤ TURNS ^ DEPTH
      inside_most = rw inside (times_most ps shape ts (turns_most 0 0 ps ts fit) (suc i) (omega arith))

      pub time_do : Timed ps ts (set times (i + 1) (get_or ts next 0 * at times i)) (next + 1) (i + 1)
      time_do =
          record {
            here = l;
            long = length-set times (i + 1) (get_or ts next 0 * at times i) ∙ p.long;
            counted = dos_on ps next i p.counted h;
            told = told_on (get_or ts next 0 * at times i) inside;
          }

    -- ---- after another point

    module _ (owners : List ℕ) (own : OwnersAre ps owners) (h : get_or ps i 0 ≡ DO → ⊥) where
      owner : at owners (i + 1) ≡ owner_of ps (suc i)
      owner = rw add-one (own (suc i) (omega arith))

      -- the gap's loop has its DO before
      pub around_before : at owners (i + 1) < i
      around_before =
          lt_by (λ z. (
          let d = owner_of ps (suc i) in
          let e : d ≡ i = omega (arith, owner, owner_below ps shape (suc i) (omega arith) (omega arith)) in
          let loop_there : is_do ps d ≡ true = owner_is_do ps shape (suc i) (omega arith) (omega arith) in
          never_both (rw e at loop_there) (ne_eqb (get_or ps i 0) DO h)))

      again : at times (at owners (i + 1) + 1) ≡ times_at ps ts (suc i)
      again =
          p.told (at owners (i + 1) + 1) (omega (arith, around_before)) ∙
          rw (owner, add-one (owner_of ps (suc i))) (sym (times_own ps shape ts (suc i) (omega arith) (omega arith)))

      pub time_other : Timed ps ts (set times (i + 1) (at times (at owners (i + 1) + 1))) next (i + 1)
      time_other =
          record {
            here = l;
            long = length-set times (i + 1) (at times (at owners (i + 1) + 1)) ∙ p.long;
            counted = dos_skip ps next i p.counted h;
            told = told_on (at times (at owners (i + 1) + 1)) again;
          }
