-- How large a number of calls can be: a gap lies in at most 8 loops of at most 16 turns, and a placement has at most
-- 255 gaps.
-- Main definition: `FewTurns`. Main statements: `times_deep`, `times_most`, `calls_most`, `calls_within`,
-- `calls_in_fit`, `calls_fit`.
use mathlib.Core.Path.{◌≡◌, ap, ◌∙◌}
use mathlib.Core.Bool.{true}
use mathlib.Core.List.{List, [], ◌∷◌}
use mathlib.Core.Logic.{⊎_elim}
use Prim.Native.Nat.{ℕ, zero, suc, ◌+◌, ◌-◌, ◌*◌, ◌^◌, ◌≤◌, ◌<◌}
use native.Mathlib.Nat.{suc-mul, mul-le-mul, mul-le-mul_right, pow-succ', pow-le-pow_right}
use native.Mathlib.Omega.{arith}
use lib.ListN.{length}
use Rattle.laws.proofs.Tests.{le_or}
use Rattle.paper_nests.specs.Kinds.{POINTS, DEPTH}
use Rattle.paper_nests.specs.Nests.{Nest}
use Rattle.paper_nests.specs.Loops.{is_do, owner_of}
use Rattle.paper_nests.specs.Valid.{is_shape, is_valid}
use Rattle.paper_nests.proofs.Deps.{valid_is}
use Rattle.paper_nests.proofs.Levels.{lev, lev_zero, lev_deep}
use Rattle.paper_nests.proofs.Loops.{outermost, owner_is_do, owner_below, owner_lower}
use Rattle.paper_placements.specs.Placements.{are_gaps_from, are_gaps}
use Rattle.paper_placements.proofs.Rising.{Rises, rises}
use Rattle.paper_placements.proofs.GapLists.{rising_short}
use Rattle.run_barriers.specs.Calls.{TURNS, INNER, OUTER, CALLS, turns_of, times_from, times_at, calls_in, calls_of}
use Rattle.run_barriers.specs.Calls.{fit_in, turns_fit}
use Rattle.run_barriers.proofs.Turns.{turns_most}
use Rattle.run_barriers.proofs.Times.{times_own, times_do}

-- no loop turns more often than the limit
abbrev pub FewTurns : List ℕ → List ℕ → Type 0
FewTurns ps ts = (d : ℕ) → is_do ps d ≡ true → turns_of ps ts d ≤ TURNS

module _
    (ps : List ℕ) (shape : is_shape ps ≡ true) (ts : List ℕ) (most : FewTurns ps ts)
  where
    -- before the first point once
    at_first : times_at ps ts 0 ≤ TURNS ^ lev ps 0
    unfolding times_from
    at_first = rw (lev_zero ps) (omega arith)

    -- a gap at depth k lies in k loops
    deep_at : (g : ℕ) → 0 < g → g < length ps → times_at ps ts (owner_of ps g) ≤ TURNS ^ lev ps (owner_of ps g) →
        times_at ps ts g ≤ TURNS ^ lev ps g
    deep_at g a b r =
        let e : times_at ps ts g ≡ turns_of ps ts d * times_at ps ts d =
        times_own ps shape ts g a b ∙ times_do ps shape ts d loop in
        let m : turns_of ps ts d * times_at ps ts d ≤ TURNS * TURNS ^ lev ps d =
        mul-le-mul (most d loop) r in
        let p : TURNS ^ suc (lev ps d) ≡ TURNS ^ lev ps g = ap (λ (i : ℕ). TURNS ^ i) (owner_lower ps shape g a b) in
        omega (arith, pow-succ' TURNS (lev ps d))
      where
        d : ℕ
        d = owner_of ps g

        loop : is_do ps d ≡ true
        loop = owner_is_do ps shape g a b

    deep_to : (k g : ℕ) → g ≤ k → g < length ps → times_at ps ts g ≤ TURNS ^ lev ps g
    deep_to zero g h l =
        let z : g ≡ 0 = omega arith in
        rw z at_first
    deep_to (suc k) g h l = ⊎_elim
        (λ (z : 1 ≤ g). (
        let below : owner_of ps g < g = owner_below ps shape g z l in
        deep_at g z l (deep_to k (owner_of ps g) (omega arith) (omega arith))))
        (λ (z : g < 1). deep_to k g (omega arith) l)
        (le_or 1 g)

    pub times_deep : (g : ℕ) → g < length ps → times_at ps ts g ≤ TURNS ^ lev ps g
    times_deep g l = deep_to g g (omega arith) l

    pub times_most : (g : ℕ) → g < length ps → times_at ps ts g ≤ TURNS ^ DEPTH
    times_most g l =
        let m : TURNS ^ lev ps g ≤ TURNS ^ DEPTH = pow-le-pow_right {n = TURNS} (omega arith) (lev_deep ps shape g) in
        omega (arith, times_deep g l)

    -- of any part of a placement
    pub calls_most : (last : ℕ) (gs : List ℕ) → are_gaps_from last (length ps) gs ≡ true →
        calls_in ps ts gs ≤ length gs * TURNS ^ DEPTH
    unfolding calls_in
    calls_most last [] h = omega arith
    calls_most last (g ∷ gs) h = go (rises last (length ps) g gs h) (calls_most g gs)
      where
        go :
            Rises last (length ps) g gs →
            (are_gaps_from g (length ps) gs ≡ true → calls_in ps ts gs ≤ length gs * TURNS ^ DEPTH) →
            times_at ps ts g + calls_in ps ts gs ≤ suc (length gs) * TURNS ^ DEPTH
        go r rest = omega (arith, times_most g r.below, rest r.rest, suc-mul (length gs) (TURNS ^ DEPTH))

-- the calls of a placement are at most 255 · 16⁸, so no sum wraps
pub calls_in_within :
    (ps ts gs : List ℕ) → is_shape ps ≡ true → length ps ≤ POINTS → FewTurns ps ts →
    are_gaps_from 0 (length ps) gs ≡ true → calls_in ps ts gs ≤ CALLS
calls_in_within ps ts gs shape few most gaps =
    let short = rising_short 0 (length ps) gs gaps (omega (arith, outermost ps shape)) in
    let less : length gs ≤ POINTS - 1 = omega arith in
    let m : length gs * TURNS ^ DEPTH ≤ CALLS = mul-le-mul_right (TURNS ^ DEPTH) less in
    omega (arith, calls_most ps shape ts most 0 gs gaps)

pub calls_within :
    (n : Nest) → is_valid n ≡ true → (ts : List ℕ) → FewTurns n.points ts → (gs : List ℕ) → are_gaps n gs ≡ true →
    calls_of n ts gs ≤ CALLS
calls_within n h ts most gs gaps =
    let v = valid_is n h in
    calls_in_within n.points ts gs v.shape v.few_points most gaps

-- under turns that fit
pub calls_in_fit :
    (ps ts gs : List ℕ) (first inner : ℕ) → is_shape ps ≡ true → length ps ≤ POINTS → fit_in first inner ps ts ≡ true →
    are_gaps_from 0 (length ps) gs ≡ true → calls_in ps ts gs ≤ CALLS
calls_in_fit ps ts gs first inner shape few fit gaps =
    calls_in_within ps ts gs shape few (turns_most first inner ps ts fit) gaps

pub calls_fit :
    (n : Nest) (ts gs : List ℕ) → is_valid n ≡ true → turns_fit n ts ≡ true → are_gaps n gs ≡ true →
    calls_of n ts gs ≤ CALLS
calls_fit n ts gs h fit gaps = calls_within n h ts (turns_most OUTER INNER n.points ts fit) gs gaps
