-- Laws of the ring: a move is written where none of the latest 63 stands.
-- Main statements: `moves_many`, `back_set`, `push_more`, `push_full`, `back_first`, `back_rest`.
use mathlib.Core.Path.{◌≡◌, refl, sym, ap, ◌∙◌}
use mathlib.Core.List.{List, ◌∷◌}
use mathlib.Core.Logic.{◌⊎◌, inl, inr}
use mathlib.Core.Bool.{false}
use Prim.Native.Nat.{ℕ, zero, suc, ◌+◌, ◌-◌, ◌≤◌, ◌<◌}
use native.Mathlib.Omega.{arith}
use lib.ListN.{length, set, take, drop}
use lib.Seq.{get_or-set_same, get_or-set_other, take_all}
use Rattle.desk_moves.specs.declared.Move as DM
use Rattle.desk_moves.specs.declared.Moves as DR
use Rattle.desk_moves.specs.Ring.{KEPT, before, move_at, back_from, moves_in}

-- as many as asked for
pub back_length : (ring : List DM.Move) (k i : ℕ) → length (back_from ring k i) ≡ k
unfolding back_from
back_length ring zero i = refl
back_length ring (suc k) i = ap suc (back_length ring k (before i))

pub moves_many : (r : DR.Moves) → length (moves_in r) ≡ r.many
moves_many r = back_length r.ring r.many r.head

-- the latest k of them
pub back_take : (ring : List DM.Move) (k j i : ℕ) → back_from ring k i ≡ take k (back_from ring (k + j) i)
unfolding back_from
back_take ring zero j i = refl
back_take ring (suc k) j i =
    let z : suc k + j ≡ suc (k + j) = omega arith in
    rw z (ap (λ (l : List DM.Move). move_at ring i ∷ l) (back_take ring k j (before i)))

-- place n is not among the k places from i back, i itself the first: they all stand above it, or they begin below it
-- and, gone round the ring, end above it
abbrev Clear : ℕ → ℕ → ℕ → Type 0
Clear n k i = (n + k ≤ i) ⊎ ((i < n) × (n + k ≤ i + KEPT))

clear_here : (n k i : ℕ) → Clear n (suc k) i → i ≡ n → ⊥
clear_here n k i (inl a) e = omega arith
clear_here n k i (inr a) e = omega (arith, a.0)

clear_before : (n k i : ℕ) → Clear n (suc k) i → Clear n k (before i)
clear_before n k zero (inl a) = absurd (omega arith)
clear_before n k zero (inr a) = inl (omega (arith, a.1))
clear_before n k (suc i) (inl a) = inl (omega arith)
clear_before n k (suc i) (inr a) = inr (omega (arith, a.0), omega (arith, a.1))

-- what is written at such a place is not seen
pub back_set
    : (ring : List DM.Move) (m : DM.Move) (n k i : ℕ)
    → Clear n k i
    → back_from (set ring n m) k i ≡ back_from ring k i
unfolding back_from
back_set ring m n zero i c = refl
back_set ring m n (suc k) i c =
    let a : move_at (set ring n m) i ≡ move_at ring i =
    get_or-set_other ring n i m (record { gap = 0; put = false }) (clear_here n k i c) in
    rw a (ap (λ (l : List DM.Move). move_at ring i ∷ l) (back_set ring m n k (before i) (clear_before n k i c)))

-- ---- one move more

module _ (ring : List DM.Move) (m : DM.Move) (many head n : ℕ) (long : length ring ≡ KEPT) (fits : n < KEPT) where
  -- written after the head
  written
      : (k : ℕ)
      → before n ≡ head
      → head < KEPT
      → k < KEPT
      → back_from (set ring n m) (suc k) n ≡ m ∷ back_from ring k head
  unfolding back_from
  written k e h l =
      let a : move_at (set ring n m) n ≡ m = get_or-set_same ring n m (record { gap = 0; put = false }) (omega arith) in
      rw (a, e) (ap (λ (ms : List DM.Move). m ∷ ms) (back_set ring m n k head (clear n e)))
    where
      clear : (x : ℕ) → before x ≡ head → Clear x k head
      clear zero e = inl (omega (arith, e))
      clear (suc x) e = inr (omega (arith, e), omega (arith, e))

  pub push_more
      : before n ≡ head
      → head < KEPT
      → many < KEPT
      → back_from (set ring n m) (many + 1) n ≡ take KEPT (m ∷ back_from ring many head)
  push_more e h l =
      let z : many + 1 ≡ suc many = omega arith in
      let short : take 63 (back_from ring many head) ≡ back_from ring many head =
      take_all 63 (back_from ring many head) (omega (arith, back_length ring many head)) in
      rw z (written many e h l ∙ ap (λ (ms : List DM.Move). m ∷ ms) (sym short))

  pub push_full
      : before n ≡ head
      → head < KEPT
      → many ≡ KEPT
      → back_from (set ring n m) many n ≡ take KEPT (m ∷ back_from ring many head)
  push_full e h l =
      rw l (written 63 e h (omega arith) ∙ ap (λ (ms : List DM.Move). m ∷ ms) (back_take ring 63 1 head))

-- ---- one move less

module _ (ring : List DM.Move) (many head : ℕ) (some : 0 < many) where
  pub back_first : back_from ring many head ≡ move_at ring head ∷ drop 1 (back_from ring many head)
  unfolding back_from
  back_first = go many some
    where
      go : (k : ℕ) → 0 < k → back_from ring k head ≡ move_at ring head ∷ drop 1 (back_from ring k head)
      go zero h = absurd (omega arith)
      go (suc k) h = refl

  pub back_rest : (at : ℕ) → at ≡ before head → back_from ring (many - 1) at ≡ drop 1 (back_from ring many head)
  unfolding back_from
  back_rest at e = go many some
    where
      go : (k : ℕ) → 0 < k → back_from ring (k - 1) at ≡ drop 1 (back_from ring k head)
      go zero h = absurd (omega arith)
      go (suc k) h = let z : suc k - 1 ≡ k = omega arith in rw (z, e)
