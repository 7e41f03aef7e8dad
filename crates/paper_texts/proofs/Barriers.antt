-- Barriers: the refusals of a frame of a placement text, as the line reader hands it on.
-- Main statements: `barrier_barred`, `barrier_good`, `barrier_rises`.
use mathlib.Core.Path.{◌≡◌}
use mathlib.Core.Bool.{true, false, ◌&&◌, not}
use mathlib.Core.List.{List}
use Prim.Native.Nat.{ℕ, ◌<◌}
use lib.Dec.{eqb, ltb}
use lib.ListN.{length, get_or}
use borrow.Author.Tests.{lt-ltb, ltb-true, not-false}
use Rattle.laws.specs.Choice.{when, first_of, is_in}
use Rattle.laws.proofs.Tests.{and_true}
use Rattle.laws.proofs.Choices.{first_zero, when_zero}
use Rattle.paper_lines.specs.declared.Frame.{Frame}
use Rattle.paper_lines.specs.Reading.{IsFrame}
use Rattle.paper_texts.specs.PlacementTexts.{BARRIER, barrier_fault}

module _ (last n : ℕ) (bs : List ℕ) (x : Frame) (l : List ℕ) (i : IsFrame x l) where
  barrier_is
      : barrier_fault last n bs l
      ≡ first_of
      (when (not (eqb x.kind BARRIER && eqb x.len 2)) 2)
      (first_of (when (not (ltb last x.a && ltb x.a n)) 8) (when (is_in x.a bs) 16))
  barrier_is = rw (i.kind_is, i.len_is, i.a_is)

  module _ (k : x.kind ≡ BARRIER) (e : x.len ≡ 2) where
    module _ (low : last < x.a) (high : x.a < n) where
      pub barrier_barred : is_in x.a bs ≡ true → 16 ≡ barrier_fault last n bs l
      barrier_barred h = rw (barrier_is, k, e, lt-ltb last x.a low, lt-ltb x.a n high, h)

      pub barrier_good : is_in x.a bs ≡ false → 0 ≡ barrier_fault last n bs l
      barrier_good h = rw (barrier_is, k, e, lt-ltb last x.a low, lt-ltb x.a n high, h)

-- a barrier that is not refused lies above the last gap and below n
pub barrier_rises
    : (last n : ℕ) (bs l : List ℕ) → barrier_fault last n bs l ≡ 0 → (last < get_or l 1 0) × (get_or l 1 0 < n)
barrier_rises last n bs l h =
    let g = get_or l 1 0 in
    let wrong = when (not (eqb (get_or l 0 0) BARRIER && eqb (length l) 2)) 2 in
    let out = not (ltb last g && ltb g n) in
    let range = when out 8 in
    let late = when (is_in g bs) 16 in
    let both : (ltb last g && ltb g n) ≡ true =
    not-false (ltb last g && ltb g n)
    (when_zero out 7 (first_zero range late (first_zero wrong (first_of range late) h).1).0) in
    let parts = and_true (ltb last g) (ltb g n) both in
    (ltb-true last g parts.0, ltb-true g n parts.1)
