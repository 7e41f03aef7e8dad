-- What a sheet without fault has: counts in their ranges, lists of the right length, each processor in its own sets.
-- Main statements: `sized_is`, `fault_none`, `own_set`.
use mathlib.Core.Path.{◌≡◌, refl}
use mathlib.Core.Bool.{true, ◌&&◌, not}
use mathlib.Core.List.{List, [], ◌∷◌}
use Prim.Native.Nat.{ℕ, zero, suc, ◌+◌, ◌-◌, ◌*◌, ◌^◌, ◌≤◌, ◌<◌}
use native.Mathlib.Nat.{suc-mul, mul-le-mul_right}
use native.Mathlib.Omega.{arith}
use lib.Dec.{eqb, ltb}
use lib.ListN.{length, get_or, drop, length-drop}
use lib.Seq.{get_or-drop, drop-drop}
use borrow.Author.Tests.{eqb-true, lt-ltb, le-ltb}
use Rattle.laws.specs.Choice.{when, between}
use Rattle.laws.specs.Bits.{bit}
use Rattle.laws.proofs.Tests.{and_true}
use Rattle.laws.proofs.Ranges.{in_between}
use Rattle.laws.proofs.Choices.{first_zero, unless_zero}
use Rattle.call_sheet.specs.Sheets.{PROCESSORS, PHASES, Sheet, waits_of, is_sized, is_set, next_of, are_sets, sheet_fault}

pub record Sized (s : Sheet) : Type 0 where
  pub some_processor : 1 ≤ s.processors
  pub few_processors : s.processors ≤ PROCESSORS
  pub some_phase : 1 ≤ s.phases
  pub few_phases : s.phases ≤ PHASES
  pub durations_are : length s.durations ≡ s.phases * s.processors
  pub waits_are : length s.waits ≡ (s.phases - 1) * s.processors

pub sized_is : (s : Sheet) → is_sized s ≡ true → Sized s
sized_is s h =
    let m = s.processors in
    let n = s.phases in
    let d = eqb (length s.durations) (n * m) in
    let w = eqb (length s.waits) ((n - 1) * m) in
    let a = and_true (between 1 m PROCESSORS) (between 1 n PHASES && (d && w)) h in
    let b = and_true (between 1 n PHASES) (d && w) a.1 in
    let c = and_true d w b.1 in
    let p = in_between 1 m PROCESSORS a.0 in
    let q = in_between 1 n PHASES b.0 in
    record {
      some_processor = p.0;
      few_processors = p.1;
      some_phase = q.0;
      few_phases = q.1;
      durations_are = eqb-true (length s.durations) (n * m) c.0;
      waits_are = eqb-true (length s.waits) ((n - 1) * m) c.1;
    }

pub fault_none : (s : Sheet) → sheet_fault s ≡ 0 → Sized s × (are_sets s.processors 0 s.waits ≡ true)
fault_none s h =
    let z = first_zero (when (not (is_sized s)) 19) (when (not (are_sets s.processors 0 s.waits)) 20) h in
    (sized_is s (unless_zero (is_sized s) 18 z.0), unless_zero (are_sets s.processors 0 s.waits) 19 z.1)

module _ (m : ℕ) where
  -- p's set, and the sets after it
  sets_split : (p v : ℕ) (vs : List ℕ) → are_sets m p (v ∷ vs) ≡ true →
      (is_set m p v ≡ true) × (are_sets m (next_of m p) vs ≡ true)
  unfolding are_sets
  sets_split p v vs h = and_true (is_set m p v) (are_sets m (next_of m p) vs) h

  next_in : (p : ℕ) (vs : List ℕ) → suc p < m → are_sets m (next_of m p) vs ≡ true → are_sets m (suc p) vs ≡ true
  next_in p vs l h = rw (lt-ltb (suc p) m l) at h

  next_first : (p : ℕ) (vs : List ℕ) → m ≤ suc p → are_sets m (next_of m p) vs ≡ true → are_sets m 0 vs ≡ true
  next_first p vs l h = rw (le-ltb (suc p) m l) at h

  -- a set of the same phase
  set_in : (j p q : ℕ) (vs : List ℕ) → are_sets m p vs ≡ true → p + j ≡ q → q < m → j < length vs →
      is_set m q (get_or vs j 0) ≡ true
  set_in j p q [] h e l i = absurd (omega arith)
  set_in zero p q (v ∷ vs) h e l i =
      let z : q ≡ p = omega arith in
      rw z (sets_split p v vs h).0
  set_in (suc j) p q (v ∷ vs) h e l i =
      set_in j (suc p) q vs (next_in p vs (omega arith) (sets_split p v vs h).1) (omega arith) l (omega arith)

  -- the sets from the next phase on
  sets_after : (j p : ℕ) (vs : List ℕ) → are_sets m p vs ≡ true → 0 < j → p + j ≡ m → are_sets m 0 (drop j vs) ≡ true
  unfolding are_sets
  sets_after zero p vs h l e = absurd (omega arith)
  sets_after (suc j) p [] h l e = refl
  sets_after (suc zero) p (v ∷ vs) h l e = next_first p vs (omega arith) (sets_split p v vs h).1
  sets_after (suc (suc j)) p (v ∷ vs) h l e =
      sets_after (suc j) (suc p) vs (next_in p vs (omega arith) (sets_split p v vs h).1) (omega arith) (omega arith)

  sets_from : (k : ℕ) (vs : List ℕ) → 1 ≤ m → are_sets m 0 vs ≡ true → are_sets m 0 (drop (k * m) vs) ≡ true
  sets_from zero vs l h =
      let z : 0 * m ≡ 0 = omega arith in
      rw z h
  sets_from (suc k) vs l h =
      let one : are_sets m 0 (drop m (drop (k * m) vs)) ≡ true =
      sets_after m 0 (drop (k * m) vs) (sets_from k vs l h) l (omega arith) in
      rw (suc-mul k m) (rw drop-drop at one)

-- a processor is in its own set
pub own_set : (s : Sheet) → sheet_fault s ≡ 0 → (k p : ℕ) → suc k < s.phases → p < s.processors →
    waits_of s k p p ≡ true
own_set s h k p i l = go (fault_none s h)
  where
    m : ℕ
    m = s.processors

    go : Sized s × (are_sets m 0 s.waits ≡ true) → bit (get_or s.waits (k * m + p) 0) p ≡ true
    go z =
        let there : p < length (drop (k * m) s.waits) =
        simp length-drop (omega (arith, z.0.waits_are, suc-mul k m, mul-le-mul_right m rows)) in
        let set = set_in m p 0 p (drop (k * m) s.waits) (sets_from m k s.waits z.0.some_processor z.1)
        (omega arith) l there in
        let own = and_true (bit (get_or (drop (k * m) s.waits) p 0) p)
        (ltb (get_or (drop (k * m) s.waits) p 0) (2 ^ m)) set in
        rw get_or-drop at own.0
      where
        rows : suc k ≤ s.phases - 1
        rows = omega arith
