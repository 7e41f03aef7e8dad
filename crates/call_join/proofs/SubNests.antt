-- A nest inside another, with its dependences: what a placement of the whole has within the part is a placement of the
-- part, with the same counts, and correct where the whole's is. So a key of the part is least there in the whole.
-- Main definition: `SubNest`. Main statements: `part_gaps`, `part_count`, `part_correct`, `part_least`, `part_key`.
use mathlib.Core.Path.{◌≡◌, refl, sym, ◌∙◌}
use mathlib.Core.Bool.{Bool, true, false}
use mathlib.Core.List.{List, [], ◌∷◌}
use Prim.Native.Nat.{ℕ, ◌+◌, ◌-◌, ◌≤◌}
use native.Mathlib.Omega.{arith}
use lib.Dec.{eqb}
use lib.ListN.{length}
use borrow.Author.Tests.{ne_eqb}
use Rattle.laws.specs.Choice.{pick, when, is_in}
use Rattle.laws.specs.Members.{Among}
use Rattle.laws.proofs.Tests.{never_both}
use Rattle.paper_nests.specs.Nests.{Dep, Nest}
use Rattle.paper_nests.specs.Loops.{is_do, owner_of}
use Rattle.paper_nests.specs.Gaps.{has_gap}
use Rattle.paper_nests.proofs.Deps.{Fits}
use Rattle.paper_placements.specs.Placements.{cuts, are_gaps_from, are_gaps, is_correct, loop_count}
use Rattle.paper_order.specs.Keys.{IsKey}
use Rattle.paper_placements.proofs.Cuts.{cut_has_gap, gap_cuts, avoids_none, correct_by, correct_gaps, correct_cuts}
use Rattle.paper_order.proofs.Keys.{same_counts_key}
use Rattle.paper_order.proofs.LoopOrder.{SameInside, as_good_elim}
use Rattle.paper_placements.proofs.Rising.{Rises, rises}
use Rattle.call_join.specs.JointNests.{moved_dep}
use Rattle.call_join.proofs.Parts.{Part, do_moved, owner_moved, owner_in_part, inside_moved}
use Rattle.call_join.proofs.PartDeps.{gap_moved, gap_in_part}
use Rattle.call_join.proofs.MovedGaps.{is_within, within_is, is-within, eqb_moved}
use Rattle.call_join.proofs.MovedGaps.{gaps_within, within_rising, in_within}

-- the nest n, with nothing barred, stands at point k of the nest q
pub record SubNest (n q : Nest) (k : ℕ) : Type 0 where
  pub part : Part n.points q.points k
  pub fit : (e : Dep) → Among e n.deps → Fits n.points e
  pub kept : (e : Dep) → Among e n.deps → Among (moved_dep k e) q.deps
  pub unbarred : n.barred ≡ []

module _ (n q : Nest) (k : ℕ) (sub : SubNest n q k) where
  -- what a placement of q has within n
  abbrev pub part_of : List ℕ → List ℕ
  part_of gs = gaps_within k (length n.points) gs

  pub part_gaps : (gs : List ℕ) → are_gaps q gs ≡ true → are_gaps n (part_of gs) ≡ true
  part_gaps gs h =
      let z : 0 - k ≡ 0 = omega arith in
      rw z at (within_rising k (length n.points) 0 (length q.points) gs h)

  -- the same counts at the loops of n
  count_from
      : (d last : ℕ) (gs : List ℕ)
      → is_do n.points d ≡ true
      → are_gaps_from last (length q.points) gs ≡ true
      → loop_count q gs (k + d) ≡ loop_count n (part_of gs) d
  count_from d last [] h g = refl
  count_from d last (x ∷ gs) h g =
      go (is_within k (length n.points) x) refl (rises last (length q.points) x gs g) (count_from d x gs h)
    where
      go
          : (t : Bool)
          → is_within k (length n.points) x ≡ t
          → Rises last (length q.points) x gs
          → (are_gaps_from x (length q.points) gs ≡ true → loop_count q gs (k + d) ≡ loop_count n (part_of gs) d)
          → when (eqb (owner_of q.points x) (k + d)) 1 + loop_count q gs (k + d)
          ≡ loop_count n (pick t ((x - k) ∷ part_of gs) (part_of gs)) d
      go true e r rest =
          let z = within_is k (length n.points) x e in
          let y : k + (x - k) ≡ x = omega arith in
          let o : owner_of q.points x ≡ k + owner_of n.points (x - k) =
          rw y at (owner_moved n.points q.points k sub.part (x - k) (omega arith) (omega arith)) in
          rw (o, eqb_moved k (owner_of n.points (x - k)) d, rest r.rest)
      go false e r rest =
          let o : eqb (owner_of q.points x) (k + d) ≡ false =
          ne_eqb (owner_of q.points x) (k + d)
          (λ i.
          let z = owner_in_part n.points q.points k sub.part x d (omega (arith, r.above)) r.below h i in
          never_both (is-within k (length n.points) x z.0 z.1) e) in
          rw o (omega (arith, rest r.rest))

  pub part_count
      : (gs : List ℕ) (d : ℕ)
      → are_gaps q gs ≡ true
      → is_do n.points d ≡ true
      → loop_count q gs (k + d) ≡ loop_count n (part_of gs) d
  part_count gs d g h = count_from d 0 gs h g

  -- it cuts what the whole placement cuts
  part_cuts
      : (gs : List ℕ) (e : Dep)
      → Fits n.points e
      → cuts q.points (moved_dep k e) gs ≡ true
      → cuts n.points e (part_of gs) ≡ true
  part_cuts gs e f h =
      let c = cut_has_gap q.points (moved_dep k e) gs h in
      let z = gap_in_part n.points q.points k sub.part e c.gap f c.its in
      let y : k + (c.gap - k) ≡ c.gap = omega (arith, z.0) in
      let its : has_gap n.points e (c.gap - k) ≡ true =
      sym (gap_moved n.points q.points k sub.part e (c.gap - k) f) ∙ rw y c.its in
      let there : is_in (c.gap - k) (part_of gs) ≡ true =
      in_within k (length n.points) (c.gap - k) gs (omega (arith, z.0)) (omega (arith, z.0, z.1)) ∙
      rw y c.placed in
      gap_cuts n.points e (part_of gs) (c.gap - k) there its

  pub part_correct : (gs : List ℕ) → is_correct q gs ≡ true → is_correct n (part_of gs) ≡ true
  part_correct gs h =
      correct_by n (part_of gs) (part_gaps gs (correct_gaps q gs h)) (avoids_none n.barred sub.unbarred (part_of gs))
      (λ e a. part_cuts gs e (sub.fit e a) (correct_cuts q gs h (moved_dep k e) (sub.kept e a)))

  -- a placement of q with the counts of a key of n: least at the loops of n
  module _ (a : List ℕ) (key : IsKey n a) where
    -- q's placement has the key's counts there
    abbrev pub HasCounts : List ℕ → Type 0
    HasCounts gs = (d : ℕ) → is_do n.points d ≡ true → loop_count q gs (k + d) ≡ loop_count n a d

    pub part_least
        : (ks gs : List ℕ) (d : ℕ)
        → HasCounts ks
        → is_correct q gs ≡ true
        → is_do n.points d ≡ true
        → SameInside q ks gs (k + d)
        → loop_count q ks (k + d) ≤ loop_count q gs (k + d)
    part_least ks gs d same c h inside =
        omega (
          arith,
          same d h,
          part_count gs d gaps h,
          as_good_elim n sub.part.shape a (part_of gs) (key.least (part_of gs) (part_correct gs c)) d h same_inside,
        )
      where
        gaps : are_gaps q gs ≡ true
        gaps = correct_gaps q gs c

        same_inside : SameInside n a (part_of gs) d
        same_inside x i m =
            sym (same x i) ∙
            inside (k + x) (do_moved n.points q.points k sub.part x i)
            (inside_moved n.points q.points k sub.part d x h ∙ m) ∙
            part_count gs x gaps i

    -- and within n it is a key
    pub part_key : (gs : List ℕ) → is_correct q gs ≡ true → HasCounts gs → IsKey n (part_of gs)
    part_key gs c same =
        same_counts_key n sub.part.shape a (part_of gs) key (part_correct gs c)
        (λ x h. sym (same x h) ∙ part_count gs x (correct_gaps q gs c) h)
