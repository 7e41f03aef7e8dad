-- The points of the nest of the unbarred gaps: those of the nest, up to an ENDDO behind the last of them.
-- Main definition: `IsRing`. Main statements: `some_gap`, `top_is`, `end_fits`, `ring_start`, `ring_kept`.
use mathlib.Core.Path.{◌≡◌, refl, sym, ap, ◌∙◌}
use mathlib.Core.Bool.{true}
use mathlib.Core.List.{List, [], ◌∷◌, ◌++◌}
use Prim.Native.Nat.{ℕ, zero, suc, ◌+◌, ◌-◌, ◌≤◌, ◌<◌}
use native.Mathlib.Numerals.{add-one}
use native.Mathlib.Omega.{arith}
use lib.ListN.{length, set, take}
use lib.Seq.{take-suc-set, take-take}
use borrow.Author.Tests.{ne_eqb}
use Rattle.laws.specs.Entries.{at}
use Rattle.paper_nests.specs.declared.Dependence as DE
use Rattle.paper_nests.specs.declared.Nest as DN
use Rattle.paper_nests.specs.Kinds.{ENDDO, POINTS}
use Rattle.paper_nests.specs.Ring.{one_loop}
use Rattle.paper_nests.specs.Stored.{nest_in, IsCounted}
use Rattle.paper_nests.specs.Valid.{is_shape, is_valid}
use Rattle.paper_nests.proofs.Deps.{valid_is}
use Rattle.paper_nests.proofs.Stored.{counted_points}
use Rattle.paper_barred.specs.Ranks.{rank}
use Rattle.paper_barred.specs.Reduced.{ring_points, statements_to}
use Rattle.paper_barred.proofs.Ranks.{rank_le}
use Rattle.paper_barred.proofs.RingNests.{one_loop_points, ring_cut}
use Rattle.paper_barred.proofs.RingPoints.{ring_length}
use Rattle.plan_paper.specs.Tables.{HasRanks}
use Rattle.plan_paper.specs.Renumbering.{ring_end}

-- the ring with no gap is the one with one
ring_first : (m : ℕ) → ring_points (ring_end m) ≡ ring_points m
unfolding statements_to
ring_first zero = refl
ring_first (suc m) = rw (ne_eqb (suc m) 0 (λ z. omega arith)) refl

ring_long : (m : ℕ) → length (ring_points m) ≡ suc (ring_end m)
ring_long zero = refl
ring_long (suc m) = rw (ne_eqb (suc m) 0 (λ z. omega arith)) (ring_length (suc m) (omega arith))

end_within : (m k : ℕ) → m ≤ k → 0 < k → (0 < ring_end m) × (ring_end m ≤ k)
end_within zero k l f = (omega arith, omega arith)
end_within (suc m) k l f = rw (ne_eqb (suc m) 0 (λ z. omega arith)) (omega arith, l)

-- the greatest rank
abbrev pub top_of : DN.Nest → ℕ
top_of n = rank (nest_in n).barred (length (nest_in n).points - 1)

-- the stored nest has the points of the ring, as many dependences as before, and nothing barred or
-- flagged
pub record IsRing (n ring : DN.Nest) : Type 0 where
  pub points_are : (nest_in ring).points ≡ ring_points (top_of n)
  pub count_is : ring.count ≡ length (nest_in ring).points
  pub count_fits : ring.count ≤ POINTS
  pub same_many : ring.many ≡ n.many
  pub no_bars : ring.bars ≡ 0
  pub no_flags : ring.flags ≡ 0

-- a stored nest with other dependences
abbrev pub with_deps : DN.Nest → List DE.Dependence → DN.Nest
with_deps n ds =
    record {
      count = n.count;
      points = n.points;
      many = n.many;
      deps = ds;
      bars = n.bars;
      barred = n.barred;
      flags = n.flags;
      flagged = n.flagged;
    }

pub ring_kept : (n ring : DN.Nest) (ds : List DE.Dependence) → IsRing n ring → IsRing n (with_deps ring ds)
ring_kept n ring ds r =
    record {
      points_are = r.points_are;
      count_is = r.count_is;
      count_fits = r.count_fits;
      same_many = r.same_many;
      no_bars = r.no_bars;
      no_flags = r.no_flags;
    }

module _ (n : DN.Nest) (counted : IsCounted n) (valid : is_valid (nest_in n) ≡ true)
    (one : one_loop (nest_in n).points ≡ true) where
  abbrev ps : List ℕ
  ps = (nest_in n).points

  shape : is_shape ps ≡ true
  shape = (valid_is (nest_in n) valid).shape

  -- the nest has a gap
  pub some_gap : 0 < n.count - 1
  some_gap = omega (arith, (one_loop_points ps shape one).0, counted.count_is)

  pub top_is : (ranks : List ℕ) → HasRanks (nest_in n).barred ranks → at ranks (n.count - 1) ≡ top_of n
  top_is ranks has =
      has (n.count - 1) (omega (arith, counted.count_fits, some_gap)) ∙
      ap (λ (c : ℕ). rank (nest_in n).barred (c - 1)) counted.count_is

  top_fits : top_of n ≤ length (nest_in n).points - 1
  top_fits = rank_le (nest_in n).barred (length ps - 1)

  end_there : (0 < ring_end (top_of n)) × (ring_end (top_of n) ≤ length (nest_in n).points - 1)
  end_there = end_within (top_of n) (length ps - 1) top_fits (one_loop_points ps shape one).0

  pub end_fits : ring_end (top_of n) < n.count
  end_fits = omega (arith, end_there.1, some_gap, counted.count_is)

  -- an ENDDO in its place makes of the first points those of the ring
  points_reduced : take (ring_end (top_of n) + 1) (set n.points (ring_end (top_of n)) ENDDO) ≡ ring_points (top_of n)
  points_reduced =
      let e = ring_end (top_of n) in
      let first : take (ring_end (top_of n)) n.points ≡ take (ring_end (top_of n)) ps =
      sym (take-take e n.count n.points (omega (arith, end_fits))) in
      rw add-one
      (take-suc-set n.points e ENDDO (omega (arith, end_fits, counted_points n counted)) ∙
      ap (λ (xs : List ℕ). xs ++ (ENDDO ∷ [])) (first ∙ ap (take e) (one_loop_points ps shape one).1) ∙
      ring_cut e (length ps - 1) end_there.0 end_there.1 ∙
      ring_first (top_of n))

  -- the nest before its dependences are renumbered
  pub ring_start
      : (end : ℕ)
      → end ≡ ring_end (top_of n)
      → IsRing n
      (record {
        count = end + 1;
        points = set n.points end ENDDO;
        many = n.many;
        deps = n.deps;
        bars = 0;
        barred = n.barred;
        flags = 0;
        flagged = n.flagged;
      })
  ring_start end e =
      let are : take (end + 1) (set n.points end ENDDO) ≡ ring_points (top_of n) = rw e points_reduced in
      record {
        points_are = are;
        count_is = rw are (omega (arith, ring_long (top_of n)));
        count_fits = omega (arith, end_fits, counted.count_fits);
        same_many = refl;
        no_bars = refl;
        no_flags = refl;
      }
