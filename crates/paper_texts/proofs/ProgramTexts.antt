-- What the program writes, case by case: a valid nest's spelling is never too long for it, so its key and counts are
-- written.
-- Main statements: `frame_length`, `spelling_short`, `program_accepted`, `program_blocked`, `program_blank`,
-- `program_refused`, `program_long`, `refusal_bytes`.
use mathlib.Core.Path.{◌≡◌, refl}
use mathlib.Core.Bool.{Bool, true, false}
use mathlib.Core.List.{List, [], ◌∷◌, ◌++◌}
use Prim.Native.Nat.{ℕ, suc, ◌+◌, ◌*◌, ◌/◌, ◌%◌, ◌≤◌, ◌<◌}
use native.Mathlib.Omega.{arith}
use lib.Dec.{eqb}
use lib.ListN.{length, length-append}
use borrow.Author.Tests.{lt-ltb, le-ltb, ne_eqb}
use Rattle.laws.specs.Choice.{pick}
use Rattle.laws.proofs.Tests.{and_intro}
use Rattle.laws.proofs.Choices.{pick_by}
use Rattle.paper_nests.specs.Kinds.{INDEPENDENT, CARRIED}
use Rattle.paper_nests.specs.Nests.{Dep, Nest}
use Rattle.paper_nests.specs.Valid.{is_valid}
use Rattle.paper_nests.proofs.Deps.{valid_is}
use Rattle.paper_lines.specs.Lines.{line_text}
use Rattle.paper_lines.proofs.Spelling.{are_bytes}
use Rattle.paper_barred.specs.Reduced.{is_blocked}
use Rattle.paper_texts.specs.Pieces.{Piece, Point, Flagged, dep_frame, pieces_text}
use Rattle.paper_texts.specs.NestTexts.{blank, read_nest, point_pieces, dep_pieces, bar_pieces, nest_text}
use Rattle.paper_texts.specs.PlacementTexts.{key_text}
use Rattle.paper_texts.specs.Counts.{counts_text}
use Rattle.paper_texts.specs.Program.{REFUSAL, LONGEST, refusal_text, program_text}
use Rattle.paper_texts.proofs.Refusals.{numbers_to_14, place_within}
use Rattle.paper_texts.proofs.Spelled.{valid_accepted}

-- a point's line has 3 bytes, a dependence's at most 9, a barred gap's 5
pub frame_length : (e : Dep) → length (line_text (dep_frame e)) ≤ 9
frame_length e = go (eqb e.kind INDEPENDENT)
  where
    go
        : (t : Bool)
        → length (line_text (pick t (INDEPENDENT ∷ (e.s ∷ (e.t ∷ []))) (CARRIED ∷ (e.d ∷ (e.s ∷ (e.t ∷ []))))))
        ≤ 9
    go true = omega arith
    go false = omega arith

bars_length : (bs : List ℕ) → length (pieces_text (bar_pieces bs)) ≡ 5 * length bs
unfolding bar_pieces pieces_text
bars_length [] = omega arith
bars_length (b ∷ bs) = omega (arith, bars_length bs)

deps_length
    : (ds : List Dep) (xs : List Piece)
    → length (pieces_text (dep_pieces ds ++ xs)) ≤ 9 * length ds + length (pieces_text xs)
unfolding dep_pieces pieces_text
deps_length [] xs = omega arith
deps_length (e ∷ ds) xs =
    omega (
      arith,
      deps_length ds xs,
      frame_length e,
      length-append (line_text (dep_frame e)) (pieces_text (dep_pieces ds ++ xs)),
    )

points_length
    : (i : ℕ) (ps fs : List ℕ) (xs : List Piece)
    → length (pieces_text (point_pieces i ps fs ++ xs)) ≡ 3 * length ps + length (pieces_text xs)
unfolding point_pieces pieces_text
points_length i [] fs xs = omega arith
points_length i (p ∷ ps) [] xs = omega (arith, points_length (suc i) ps [] xs)
points_length i (p ∷ ps) (f ∷ fs) xs =
    pick_by
    (λ (ys : List Piece). length (pieces_text (ys ++ xs)) ≡ 3 * length (p ∷ ps) + length (pieces_text xs))
    {t = eqb i f}
    {a = Flagged ∷ point_pieces (suc i) ps fs}
    {b = Point p ∷ point_pieces (suc i) ps (f ∷ fs)}
    (λ z. omega (arith, points_length (suc i) ps fs xs))
    (λ z. omega (arith, points_length (suc i) ps (f ∷ fs) xs))

-- a valid nest's spelling is within the longest input
pub spelling_short : (n : Nest) → is_valid n ≡ true → length (nest_text n) ≤ LONGEST
unfolding nest_text
spelling_short n h =
    let v = valid_is n h in
    let points = points_length 0 n.points n.flagged (dep_pieces n.deps ++ bar_pieces n.barred) in
    let deps = deps_length n.deps (bar_pieces n.barred) in
    let bars = bars_length n.barred in
    omega (arith, v.few_points, v.few_deps, v.few_bars)

-- a valid nest: its key, then its counts
pub program_accepted
    : (n : Nest) (key : List ℕ)
    → is_valid n ≡ true
    → is_blocked n ≡ false
    → program_text (nest_text n) key ≡ key_text key ++ counts_text n key
unfolding program_text
program_accepted n key h b = rw (le-ltb LONGEST (length (nest_text n)) (spelling_short n h), valid_accepted n h, b)

-- 02, job 7: one that is blocked gives 2f0f0000
pub program_blocked
    : (n : Nest) (key : List ℕ)
    → is_valid n ≡ true
    → is_blocked n ≡ true
    → program_text (nest_text n) key ≡ 0x32 ∷ 0x66 ∷ 0x30 ∷ 0x66 ∷ 0x30 ∷ 0x30 ∷ 0x30 ∷ 0x30 ∷ 0x0a ∷ []
unfolding program_text
program_blocked n key h b = rw (le-ltb LONGEST (length (nest_text n)) (spelling_short n h), valid_accepted n h, b)

-- the blank paper: the same
pub program_blank : (key : List ℕ) → program_text [] key ≡ key_text key ++ counts_text blank key
unfolding program_text read_nest
program_blank key = refl

-- a text that is not accepted: its number and its line
pub program_refused
    : (s key : List ℕ)
    → length s ≤ LONGEST
    → ((read_nest s).number ≡ 0 → ⊥)
    → program_text s key ≡ refusal_text (read_nest s).number (read_nest s).place
unfolding program_text
program_refused s key short h = rw (le-ltb LONGEST (length s) short, ne_eqb (read_nest s).number 0 h)

-- 01, "The program": input above 8,192 bytes gives 2f050000
pub program_long
    : (s key : List ℕ)
    → LONGEST < length s
    → program_text s key ≡ 0x32 ∷ 0x66 ∷ 0x30 ∷ 0x35 ∷ 0x30 ∷ 0x30 ∷ 0x30 ∷ 0x30 ∷ 0x0a ∷ []
unfolding program_text
program_long s key long = rw (lt-ltb LONGEST (length s) long)

-- a refusal's number and line are bytes
pub refusal_bytes
    : (s : List ℕ)
    → length s ≤ LONGEST
    → are_bytes (REFUSAL ∷ ((read_nest s).number ∷ ((read_nest s).place / 256 ∷ ((read_nest s).place % 256 ∷ [])))) ≡ true
refusal_bytes s short =
    let number = numbers_to_14 s in
    let place = place_within s in
    and_intro
    (lt-ltb (read_nest s).number 256 (omega arith))
    (and_intro
    (lt-ltb ((read_nest s).place / 256) 256 (omega arith))
    (and_intro (lt-ltb ((read_nest s).place % 256) 256 (omega arith)) refl))
