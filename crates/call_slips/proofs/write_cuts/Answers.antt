use mathlib.Core.Path.{◌≡◌, refl, ap, ◌∙◌}
use mathlib.Core.List.{List, ◌∷◌}
use Prim.Native.Nat.{ℕ, suc, ◌<◌}
use native.Mathlib.Omega.{arith}
use lib.ListN.{length, get_or, take, drop, length-take, length-drop}
use lib.Seq.{length-take-le}
use Rattle.std.specs.Option.{unwrap_or}
use Rattle.std.proofs.Common.{Option, Some, None}
use Rattle.paper_nests.specs.declared.Dependence as DE
use Rattle.paper_nests.specs.declared.Nest as DN
use Rattle.paper_nests.specs.Stored.{dep_in, deps_in, nest_in}
use Rattle.paper_nests.proofs.Stored.{counted_many}
use Rattle.paper_nests.proofs.Deps.{valid_is}
use Rattle.paper_placements.specs.Words.{gaps_in}
use Rattle.paper_placements.specs.Answers.{cut_of}
use Rattle.paper_placements.proofs.Trying.{carried_by_loop, lent_at}
use Rattle.call_slips.proofs.CutLines.{cut_start, cut_inside, cut_room, cut_Line, cut_done}
use Rattle.call_slips.proofs.write_cuts.Goals as goal

-- the gap that cuts, or 0
gap_or : (r : Option ℕ) → unwrap_or r 0 ≡ cut_of r
gap_or (Some g) = refl
gap_or None = refl

-- the next of the dependences lent stands in front of the rest of the nest's
next : (n : DN.Nest) {es : List DE.Dependence} (lent : es ≡ take n.many n.deps) {i : ℕ} (h : i < length es)
    → drop i (deps_in n.many n.deps)
    ≡ dep_in (get_or es i (record { kind = 0; d = 0; s = 0; t = 0 })) ∷ drop (suc i) (deps_in n.many n.deps)
next n lent {i} h = rw lent (lent_at n.many n.deps i (record { kind = 0; d = 0; s = 0; t = 0 }) (rw lent at h))

pub ends_of-ends-requires : goal.ends_of-ends-requires
ends_of-ends-requires c =
    omega (arith, ap length c.points.ensures, c.requires.counted.count_is, c.requires.counted.count_fits)

pub loop-e-init : goal.loop-e-init
loop-e-init c = cut_start (nest_in c.args.nest) (gaps_in c.args.placement.words) c.args.out.now

pub put_frame-at-requires : goal.put_frame-at-requires
put_frame-at-requires c =
    let a = c.args in
    let n = nest_in a.nest in
    let here = next a.nest c.dependences-e-items.ensures.entries c.loop-e-test.true in
    let inside =
    cut_inside n (gaps_in a.placement.words) c.requires.nest_value c.requires.words_value a.out.now
    c.loop-e.out c.loop-e.at c.loop-e.e-index c.loop-e.invariant c.requires.words_in_bounds in
    let room =
    cut_room n (gaps_in a.placement.words) c.requires.nest_value c.requires.words_value a.out.now
    c.loop-e.out c.loop-e.at c.loop-e.e-index c.loop-e.invariant c.requires.words_in_bounds _ here in
    simp (length-take, length-drop) (omega (arith, inside.0, room))

pub overflow_add-at : goal.overflow_add-at
overflow_add-at c =
    let a = c.args in
    let n = nest_in a.nest in
    let here = next a.nest c.dependences-e-items.ensures.entries c.loop-e-test.true in
    let room =
    cut_room n (gaps_in a.placement.words) c.requires.nest_value c.requires.words_value a.out.now
    c.loop-e.out c.loop-e.at c.loop-e.e-index c.loop-e.invariant c.requires.words_in_bounds _ here in
    let y : c.put_frame-at.result ≡ 5 = c.put_frame-at.ensures.value in
    omega (arith, room)

pub loop-e-preserved : goal.loop-e-preserved
loop-e-preserved c =
    let a = c.args in
    let n = nest_in a.nest in
    let here = next a.nest c.dependences-e-items.ensures.entries c.loop-e-test.true in
    let told =
    c.cut_in.ensures
    n.points
    (λ k.
    (rw c.points.ensures at c.ends_of-ends.ensures) _
    (carried_by_loop n.points n.deps c.loop-e.e-index _ _ (valid_is n c.requires.nest_value).all-deps here k)) in
    cut_Line n (gaps_in a.placement.words) c.requires.nest_value c.requires.words_value a.out.now
    c.loop-e.out c.loop-e.at c.loop-e.e-index c.loop-e.invariant c.requires.words_in_bounds _ here
    c.unwrap_or-gap.result c.put_frame-at.new.out c.put_frame-at.result
    (c.unwrap_or-gap.ensures ∙ gap_or c.cut_in.result ∙ told.by_gap) c.put_frame-at.ensures.value c.put_frame-at.ensures.out_after

pub returns : goal.returns
returns c =
    let a = c.args in
    cut_done (nest_in a.nest) (gaps_in a.placement.words) c.requires.nest_value c.requires.words_value a.out.now
    c.loop-e.out c.loop-e.at _ c.loop-e.invariant c.requires.words_in_bounds (omega (
      arith,
      ap length c.dependences-e-items.ensures.entries,
      length-take-le a.nest.many a.nest.deps (counted_many a.nest c.requires.counted),
      c.requires.counted.many_is,
    ))
