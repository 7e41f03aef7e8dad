-- Both ends of a run as the code finds them: the times of each phase from those of the phase before, and the longest
-- durations one after the other.
-- Main definitions: `row_of`, `Waited`, `Summed`. Main statements: `waited_start`, `waited_room`, `waited_on`,
-- `waited_done`, `summed_start`, `summed_on`, `summed_done`, `barriers_end`.
use mathlib.Core.Path.{◌≡◌, refl, sym, ap, ◌∙◌}
use mathlib.Core.Bool.{true}
use mathlib.Core.List.{List, ◌++◌}
use Prim.Native.Nat.{ℕ, zero, suc, ◌+◌, ◌-◌, ◌*◌, ◌≤◌, ◌<◌}
use native.Mathlib.Nat.{suc-mul, mul-le-mul_right, le_of_mul-le-mul_right, lt_of_mul-lt-mul_right}
use native.Mathlib.Numerals.{add-one}
use native.Mathlib.Omega.{arith}
use lib.ListN.{length, get_or, take, drop, length-take, length-drop, length-append, get_or-append}
use lib.Seq.{get_or-take, get_or-drop, drop-drop, drop-append_seam}
use Rattle.std.proofs.lemmas.List.{length-take-le}
use Rattle.laws.specs.Bits.{bit}
use Rattle.laws.proofs.Members.{every-below}
use Rattle.call_sheet.specs.Sheets.{PROCESSORS, PHASES, Sheet, duration_at, everyone, anyone}
use Rattle.call_sheet.specs.Sheets.{latest, finish_by, finish_of, end_waiting, end_barriers}
use Rattle.call_sheet.specs.Says.{LONGEST, IsShort, time_at, longest_from, barriers_to, Timed, pass_time, PassRoom}
use Rattle.call_sheet.proofs.Latest.{latest_bound, latest_same, latest_plus}
use Rattle.call_sheet.proofs.Sets.{Sized}

-- a phase lies in the list
pub row_in : (k n m : ℕ) → k < n → k * m + m ≤ n * m
row_in k n m h =
    let z : suc k * m ≤ n * m = mul-le-mul_right m h in
    omega (arith, suc-mul k m)

-- the m entries of a phase, as the code cuts them out of the list
abbrev pub row_of : List ℕ → ℕ → ℕ → List ℕ
row_of xs k m = take m (take (length xs - k * m) (drop (k * m) xs))

module _ (xs : List ℕ) (k n m : ℕ) (h : k < n) (e : length xs ≡ n * m) where
  row_length : length (row_of xs k m) ≡ m
  row_length = simp (length-take, length-drop) (omega (arith, row_in k n m h, e))

  row_at : (p : ℕ) → p < m → get_or (row_of xs k m) p 0 ≡ get_or xs (k * m + p) 0
  row_at p l =
      get_or-take m (take (length xs - k * m) (drop (k * m) xs)) p 0 l ∙
      (get_or-take (length xs - k * m) (drop (k * m) xs) p 0 (omega (arith, row_in k n m h, e)) ∙
      get_or-drop (k * m) xs p 0)

-- ---- with the waits

-- the set of all holds every processor
all_in : (q : ℕ) → q < PROCESSORS → bit 65535 q ≡ true
unfolding bit
all_in q l = every-below (bit 65535) PROCESSORS refl q l

-- the times of phase k, and room for those of the next
pub record Waited (s : Sheet) (k : ℕ) (earlier times : List ℕ) : Type 0 where
  pub below : k < s.phases
  pub long : length earlier ≡ PROCESSORS
  pub room : length times ≡ PROCESSORS
  pub times_are : (p : ℕ) → p < s.processors → time_at earlier p ≡ finish_of s k p
  pub low : (p : ℕ) → p < s.processors → time_at earlier p ≤ suc k * LONGEST

module _ (s : Sheet) (z : Sized s) where
  abbrev pub m : ℕ
  m = s.processors

  pub waited_start :
      (before after times : List ℕ) → length before ≡ PROCESSORS → length times ≡ PROCESSORS →
      Timed (time_at (take m s.durations)) before after (length (take m s.durations)) → IsShort (take m s.durations) →
      Waited s 0 after times
  unfolding finish_by
  waited_start before after times l r t short =
      record {
        below = z.some_phase;
        long = t.same_length ∙ l;
        room = r;
        times_are = λ p h. is p h ∙ (get_or-take m s.durations p 0 h ∙ ap (time_at s.durations) (omega arith));
        low = λ p h. omega (arith, is p h, short p);
      }
    where
      first_length : length (take m s.durations) ≡ m
      first_length = length-take-le m s.durations (omega (arith, z.durations_are, row_in 0 s.phases m z.some_phase))

      is : (p : ℕ) → p < m → time_at after p ≡ time_at (take m s.durations) p
      is p h = t.times_are p (omega (arith, first_length))

  module _ (k : ℕ) (earlier times : List ℕ) (w : Waited s k earlier times) where
    now_there : length (take m earlier) ≡ m
    now_there = length-take-le m earlier (omega (arith, w.long, z.few_processors))

    -- the times of the phase, at its processors
    now_is : (p : ℕ) → p < m → time_at (take m earlier) p ≡ finish_of s k p
    now_is p l = get_or-take m earlier p 0 l ∙ w.times_are p l

    -- the next phase
    module _ (more : k + 1 < s.phases) where
      durations_there : length (row_of s.durations (k + 1) m) ≡ m
      durations_there = row_length s.durations (k + 1) s.phases m more z.durations_are

      sets_there : length (row_of s.waits k m) ≡ m
      sets_there = row_length s.waits k (s.phases - 1) m (omega arith) z.waits_are

      pub waited_room : PassRoom (row_of s.durations (k + 1) m) (row_of s.waits k m) (take m earlier) times
      waited_room =
          record {
            few = omega (arith, now_there, z.few_processors);
            sets_there = omega (arith, durations_there, sets_there);
            now_there = omega (arith, durations_there, w.room, z.few_processors);
            low = λ p l. low p (omega (arith, now_there));
          }
        where
          low : (p : ℕ) → p < m → time_at (take m earlier) p ≤ PHASES * LONGEST
          low p l =
              omega (arith, get_or-take m earlier p 0 l, w.low p l, z.few_phases)

      pub waited_on :
          (after : List ℕ) →
          Timed (pass_time (row_of s.durations (k + 1) m) (row_of s.waits k m) (take m earlier)) times after
          (length (row_of s.durations (k + 1) m)) →
          IsShort (row_of s.durations (k + 1) m) → Waited s (k + 1) after after
      unfolding finish_by
      waited_on after t short =
          record {
            below = more;
            long = t.same_length ∙ w.room;
            room = t.same_length ∙ w.room;
            times_are = λ p l. is p l ∙ passed p l;
            low = λ p l. omega (arith, is p l, short p, before p);
          }
        where
          is : (p : ℕ) → p < m →
              time_at after p ≡ pass_time (row_of s.durations (k + 1) m) (row_of s.waits k m) (take m earlier) p
          is p l = t.times_are p (omega (arith, durations_there))

          passed : (p : ℕ) → p < m →
              pass_time (row_of s.durations (k + 1) m) (row_of s.waits k m) (take m earlier) p ≡ finish_of s (k + 1) p
          passed p l =
              let set = bit (get_or s.waits (k * m + p) 0) in
              let same = latest_same set set (time_at (take m earlier)) (finish_of s k) m (λ q l. refl) now_is in
              rw (
                now_there,
                row_at s.waits k (s.phases - 1) m (omega arith) z.waits_are p l,
                row_at s.durations (k + 1) s.phases m more z.durations_are p l,
                same,
              ) (rw add-one refl)

          before : (p : ℕ) →
              latest (bit (get_or (row_of s.waits k m) p 0)) (time_at (take m earlier)) (length (take m earlier)) ≤
              suc k * LONGEST
          before p =
              latest_bound (bit (get_or (row_of s.waits k m) p 0)) (time_at (take m earlier)) (length (take m earlier))
              (suc k * LONGEST)
              (λ q h.
              let l : q < m = omega (arith, now_there) in
              omega (arith, get_or-take m earlier q 0 l, w.low q l))

    -- the last phase
    pub waited_done :
        (r : ℕ) → s.phases ≤ k + 1 →
        r ≡ latest (bit 65535) (time_at (take m earlier)) (length (take m earlier)) → r ≡ end_waiting s
    waited_done r h e =
        e ∙ rw now_there
        (latest_same (bit 65535) anyone (time_at (take m earlier)) (finish_of s (s.phases - 1)) m
        (λ q l. all_in q (omega (arith, z.few_processors)))
        (λ q l. now_is q l ∙ ap (λ (i : ℕ). finish_of s i q) last))
      where
        last : k ≡ s.phases - 1
        last = omega (arith, w.below)

-- ---- with all barriers kept

-- the phases below k are added up, and the others are left
pub record Summed (m n : ℕ) (ds : List ℕ) (k : ℕ) (rest : List ℕ) (size end : ℕ) : Type 0 where
  pub below : k ≤ n
  pub width : size ≡ m
  pub left : rest ≡ drop (k * m) ds
  pub sum : end ≡ barriers_to m ds k
  pub low : end ≤ k * LONGEST

pub summed_start : (m n : ℕ) (ds rest : List ℕ) (size : ℕ) → rest ≡ ds → size ≡ m → Summed m n ds 0 rest size 0
unfolding barriers_to
summed_start m n ds rest size e h =
    record {
      below = omega arith;
      width = h;
      left = e ∙ ap (λ (i : ℕ). drop i ds) (let z : 0 ≡ 0 * m = omega arith in z);
      sum = refl;
      low = omega arith;
    }

module _ (m n : ℕ) (ds : List ℕ) (some : 1 ≤ m) (long : length ds ≡ n * m) where
  module _ (k : ℕ) (rest : List ℕ) (size end : ℕ) (t : Summed m n ds k rest size end) where
    left_long : length rest ≡ n * m - k * m
    left_long = ap length t.left ∙ (length-drop (k * m) ds ∙ omega (arith, long))

    module _ (row after : List ℕ) (e : rest ≡ row ++ after) (l : length row ≡ size) where
      -- one more phase is there
      summed_more : k < n
      summed_more =
          let there : suc k * m ≤ n * m =
          omega (arith, left_long, ap length e, length-append row after, l, t.width, suc-mul k m) in
          le_of_mul-le-mul_right there some

      row_is : (p : ℕ) → p < m → get_or row p 0 ≡ get_or ds (k * m + p) 0
      row_is p h =
          sym (get_or-append row after 0 p (omega (arith, l, t.width))) ∙
          (ap (λ xs. get_or xs p 0) (sym e ∙ t.left) ∙ get_or-drop (k * m) ds p 0)

      pub summed_on :
          (r : ℕ) → r ≡ latest anyone (time_at row) (length row) → r ≤ LONGEST →
          Summed m n ds (k + 1) after size (end + r)
      unfolding barriers_to
      summed_on r f h =
          record {
            below = omega (arith, summed_more);
            width = t.width;
            left = rest_is;
            sum = rw add-one (omega (arith, t.sum, longest_is));
            low = omega (arith, t.low);
          }
        where
          rest_is : after ≡ drop ((k + 1) * m) ds
          rest_is =
              sym (drop-append_seam row after) ∙
              (ap (drop (length row)) (sym e ∙ t.left) ∙
              (drop-drop (length row) (k * m) ds ∙ ap (λ (i : ℕ). drop i ds) far))
            where
              far : k * m + length row ≡ (k + 1) * m
              far = rw add-one (omega (arith, l, t.width, suc-mul k m))

          longest_is : r ≡ longest_from ds (k * m) m
          longest_is =
              f ∙ rw (l ∙ t.width)
              (latest_same anyone anyone (time_at row) (λ p. get_or ds (k * m + p) 0) m (λ p h. refl) row_is)

    pub summed_done : length rest < size → end ≡ barriers_to m ds n
    summed_done l = t.sum ∙ ap (λ (i : ℕ). barriers_to m ds i) last
      where
        last : k ≡ n
        last =
            let few : n < suc k = lt_of_mul-lt-mul_right m (omega (arith, left_long, l, t.width, suc-mul k m)) in
            omega (arith, few, t.below)

-- everyone finishes a phase the longest duration after all have finished the one before
barriers_at : (s : Sheet) → 1 ≤ s.processors → (k : ℕ) →
    latest anyone (finish_by everyone s k) s.processors ≡ barriers_to s.processors s.durations (suc k)
unfolding finish_by barriers_to
barriers_at s some zero = omega arith
barriers_at s some (suc k) =
    let all = latest anyone (finish_by everyone s k) s.processors in
    omega (
      arith,
      barriers_at s some k,
      latest_plus all (duration_at s (suc k)) s.processors some,
      latest_same anyone anyone (finish_by everyone s (suc k)) (λ p. all + duration_at s (suc k) p) s.processors
          (λ p l. refl) (λ p l. refl),
    )

pub barriers_end : (s : Sheet) → Sized s → barriers_to s.processors s.durations s.phases ≡ end_barriers s
barriers_end s z =
    let last : s.phases ≡ suc (s.phases - 1) = omega (arith, z.some_phase) in
    ap (λ (k : ℕ). barriers_to s.processors s.durations k) last ∙
    sym (barriers_at s z.some_processor (s.phases - 1))
