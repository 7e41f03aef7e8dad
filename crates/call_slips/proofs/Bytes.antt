-- The numbers on a slip fit their places: one byte, or two for a dependence.
-- Main statements: `uncut_most`, `first_Halves`, `cut_byte`, `verdict_bytes`.
use mathlib.Core.Path.{◌≡◌, refl, ap}
use mathlib.Core.Bool.{Bool, true, false}
use mathlib.Core.List.{List, [], ◌∷◌}
use Prim.Native.Nat.{ℕ, zero, suc, ◌/◌, ◌%◌, ◌≤◌, ◌<◌}
use native.Mathlib.Omega.{arith}
use Rattle.laws.specs.Choice.{pick}
use Rattle.paper_nests.specs.Kinds.{DEPENDENCES}
use Rattle.paper_nests.specs.Nests.{Dep, Nest, dep}
use Rattle.paper_nests.specs.Valid.{is_valid}
use Rattle.paper_nests.specs.Gaps.{has_gap}
use Rattle.paper_nests.proofs.Levels.{point_in}
use Rattle.paper_nests.proofs.Deps.{valid_is}
use Rattle.paper_lines.specs.Lines.{line_text}
use Rattle.paper_placements.specs.Placements.{uncut, cut_by, are_gaps_from, are_gaps, differ, loop_count}
use Rattle.paper_order.specs.Verdicts.{Dearer, verdict_by, mark_of}
use Rattle.paper_placements.proofs.Cuts.{uncut_first}
use Rattle.paper_placements.proofs.LoopLists.{differ_at}
use Rattle.paper_placements.proofs.Rising.{Rises, rises}
use Rattle.paper_texts.proofs.Counting.{count_byte}
use Rattle.call_slips.specs.Texts.{FIRST-UNCUT, VERDICT, shown, first_text, verdict_line}
use Rattle.call_slips.specs.Writers.{InBytes}

-- the first uncut dependence is one of the nest's
pub uncut_most : (n : Nest) (gs : List ℕ) → is_valid n ≡ true → uncut n gs ≤ DEPENDENCES
uncut_most n gs valid = go (uncut n gs) refl
  where
    go : (u : ℕ) → uncut n gs ≡ u → u ≤ DEPENDENCES
    go zero e = omega arith
    go (suc k) e = omega (arith, (uncut_first n gs (dep 0 0 0 0) k e).there, (valid_is n valid).few_deps)

shown_most : (u : ℕ) → u ≤ DEPENDENCES → shown u < 65536
shown_most zero h = omega arith
shown_most (suc u) h = omega arith

-- its number in two bytes
pub first_Halves
    : (u k : ℕ)
    → u ≤ DEPENDENCES
    → k ≡ shown u
    → line_text (FIRST-UNCUT ∷ (k / 256 % 256 ∷ (k % 256 ∷ []))) ≡ first_text u
first_Halves u k h e =
    let most = shown_most u h in
    let high : k / 256 % 256 ≡ shown u / 256 = omega arith in
    let low : k % 256 ≡ shown u % 256 = ap (λ (x : ℕ). x % 256) e in
    rw (high, low)

-- a verdict's numbers, each in a byte
pub verdict-line
    : (code d t o : ℕ)
    → d < 256
    → t < 256
    → o < 256
    → line_text (VERDICT ∷ (code ∷ (d % 256 ∷ (t % 256 ∷ (o % 256 ∷ []))))) ≡ verdict_line code d t o
verdict-line code d t o i j k =
    let x : d % 256 ≡ d = omega arith in
    let y : t % 256 ≡ t = omega arith in
    let z : o % 256 ≡ o = omega arith in
    rw (x, y, z)

-- the gap that cuts a dependence is one of the placement's
pub cut_byte
    : (ps : List ℕ) (e : Dep) (last n : ℕ) (gs : List ℕ)
    → 0 < n
    → are_gaps_from last n gs ≡ true
    → cut_by ps e gs < n
cut_byte ps e last n [] some h = some
cut_byte ps e last n (g ∷ gs) some h = go (has_gap ps e g) (rises last n g gs h) (cut_byte ps e g n gs some)
  where
    go
        : (t : Bool)
        → Rises last n g gs
        → (are_gaps_from g n gs ≡ true → cut_by ps e gs < n)
        → pick t g (cut_by ps e gs) < n
    go true r rest = r.below
    go false r rest = rest r.rest

-- a verdict's loop is a point, and its counts are at most the placement's barriers
pub verdict_bytes
    : (n : Nest) (key gs : List ℕ)
    → is_valid n ≡ true
    → are_gaps n key ≡ true
    → are_gaps n gs ≡ true
    → InBytes (mark_of n key gs)
verdict_bytes n key gs valid keys gaps d t o = go (uncut n gs) (differ n key gs) refl
  where
    go
        : (u k : ℕ)
        → differ n key gs ≡ k
        → verdict_by n key gs u k ≡ Dearer d t o
        → (d < 256) × ((t < 256) × (o < 256))
    go (suc u) k e h = let z : ◌≡◌ {A = ℕ} 0 1 = cc h in absurd (omega arith)
    go zero zero e h = let z : ◌≡◌ {A = ℕ} 0 1 = cc h in absurd (omega arith)
    go zero (suc k) e h =
        let v = valid_is n valid in
        let few = v.few_points in
        let loop : k ≡ d = cc h in
        let theirs : loop_count n gs k ≡ t = cc h in
        let ours : loop_count n key k ≡ o = cc h in
        let is-do = (differ_at n v.shape key gs k e).loop in (
          omega (arith, point_in n.points k 0 is-do),
          (omega (arith, count_byte n gs k few gaps), omega (arith, count_byte n key k few keys)),
        )
