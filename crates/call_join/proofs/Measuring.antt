-- The numbers that joining works out first: how deep points go, the length of the text of dependences.
-- Main definitions: `Deepest`, `Summed`, what a turn keeps. Main statements: `deepest_on`; `lent_deps`, `next_dep`;
-- `summed_on`, `summed_within`, `summed_done`; `deps_short`.
use mathlib.Core.Path.{◌≡◌, ◌∙◌}
use mathlib.Core.List.{List, [], ◌∷◌}
use Prim.Native.Nat.{ℕ, suc, ◌+◌, ◌*◌, ◌≤◌, ◌<◌, max}
use native.Mathlib.Numerals.{add-one}
use native.Mathlib.Omega.{arith}
use lib.ListN.{length, get_or, take, drop, length-append, drop_of_length-le}
use lib.Seq.{drop-cons, length-take-le, get_or-take}
use Rattle.paper_nests.specs.declared.Dependence as DE
use Rattle.paper_nests.specs.declared.Nest as DN
use Rattle.paper_nests.specs.Nests.{Dep}
use Rattle.paper_nests.specs.Loops.{deeper}
use Rattle.paper_nests.specs.Stored.{dep_in, nest_in, IsCounted}
use Rattle.paper_nests.proofs.Scan.{deeper_grows}
use Rattle.paper_nests.proofs.Stored.{deps_in_at, counted_many}
use Rattle.paper_lines.specs.Lines.{line_text}
use Rattle.paper_texts.specs.Pieces.{Piece, Depend, piece_frame, dep_frame, pieces_text}
use Rattle.paper_texts.specs.NestTexts.{dep_pieces}
use Rattle.paper_texts.proofs.ProgramTexts.{frame_length}
use Rattle.call_join.specs.JointNests.{deepest_from, deepest}
use Rattle.call_join.specs.Written.{deps_text}
use Rattle.call_join.proofs.Depths.{start_deepest}

-- ---- how deep points go

-- the most so far and what the points from i on reach are the most of all
pub record Deepest (ps : List ℕ) (most depth i : ℕ) : Type 0 where
  pub low : i ≤ length ps
  pub shallow : depth ≤ i
  pub covers : depth ≤ most
  pub is : max most (deepest_from depth (drop i ps)) ≡ deepest ps

module _ {ps : List ℕ} {most depth i : ℕ} (p : Deepest ps most depth i) where
  pub deepest_on
      : {d m : ℕ}
      → i < length ps
      → d ≡ deeper depth (get_or ps i 0)
      → m ≡ max most d
      → Deepest ps m d (i + 1)
  deepest_on {d} {m} l e f =
      let z : deepest_from depth (drop i ps) ≡ max depth (deepest_from d (drop (i + 1) ps)) =
      rw (drop-cons ps i 0 l, add-one i, e) in
      record {
        low = omega arith;
        shallow = omega (arith, p.shallow, deeper_grows depth (get_or ps i 0));
        covers = omega arith;
        is = omega (arith, p.is, p.covers, start_deepest d (drop (i + 1) ps));
      }

-- ---- the dependences of a counted nest, as it lends them

module _ (n : DN.Nest) {es : List DE.Dependence} (p : IsCounted n) (lent : es ≡ take n.many n.deps) where
  pub lent_deps : length es ≡ length (nest_in n).deps
  lent_deps = rw lent (length-take-le n.many n.deps (counted_many n p) ∙ p.many_is)

  pub next_dep
      : (z : DE.Dependence) {i : ℕ}
      → i < length es
      → drop i (nest_in n).deps ≡ dep_in (get_or es i z) ∷ drop (suc i) (nest_in n).deps
  next_dep z {i} l =
      let under : i < n.many = omega (arith, lent_deps, p.many_is) in
      rw (lent, get_or-take n.many n.deps i z under) (deps_in_at n.many n.deps i z under (counted_many n p))

-- ---- the text of dependences

pub record Summed (es : List Dep) (sum i : ℕ) : Type 0 where
  pub low : i ≤ length es
  pub is : sum + length (deps_text (drop i es)) ≡ length (deps_text es)

pub pieces_cons
    : (x : Piece) (xs : List Piece)
    → length (pieces_text (x ∷ xs)) ≡ length (line_text (piece_frame x)) + length (pieces_text xs)
unfolding pieces_text
pieces_cons x xs = length-append (line_text (piece_frame x)) (pieces_text xs)

pub deps_cons
    : (e : Dep) (es : List Dep)
    → length (deps_text (e ∷ es)) ≡ length (line_text (dep_frame e)) + length (deps_text es)
unfolding dep_pieces
deps_cons e es = pieces_cons (Depend e) (dep_pieces es)

module _ {es : List Dep} {sum i : ℕ} (p : Summed es sum i) where
  pub summed_on
      : {e : Dep} {r : ℕ}
      → i < length es
      → drop i es ≡ e ∷ drop (suc i) es
      → r ≡ length (line_text (dep_frame e))
      → Summed es (sum + r) (i + 1)
  summed_on {e} l next f =
      let z : length (deps_text (drop i es)) ≡ length (line_text (dep_frame e)) + length (deps_text (drop (i + 1) es)) =
      rw (next, add-one i) (deps_cons e (drop (suc i) es)) in
      record { low = omega arith; is = omega (arith, p.is) }

  pub summed_done : length es ≤ i → sum ≡ length (deps_text es)
  unfolding pieces_text dep_pieces
  summed_done l =
      let z : length (deps_text (drop i es)) ≡ 0 = rw (drop_of_length-le es {i = i} l) in
      omega (arith, p.is)

-- a line has at most 9 bytes, so that no sum is large
pub deps_short : (es : List Dep) → length (deps_text es) ≤ 9 * length es
unfolding pieces_text dep_pieces
deps_short [] = omega arith
deps_short (e ∷ es) = omega (arith, deps_cons e es, frame_length e, deps_short es)

pub summed_within : {es : List Dep} {sum i : ℕ} → Summed es sum i → sum ≤ 9 * length es
summed_within {es} p = omega (arith, p.is, deps_short es)
