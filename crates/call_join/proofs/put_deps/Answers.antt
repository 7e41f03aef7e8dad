use mathlib.Core.Path.{ap, ◌∙◌}
use mathlib.Core.List.{List}
use Prim.Native.Nat.{ℕ, ◌-◌}
use native.Mathlib.Omega.{arith}
use lib.ListN.{length, length-take, length-drop}
use borrow.Rule.Slice.PartMut.{mid_of}
use Rattle.paper_nests.specs.declared.Dependence as DE
use Rattle.paper_nests.specs.Nests.{Dep}
use Rattle.paper_nests.specs.Stored.{nest_in}
use Rattle.paper_lines.specs.Lines.{line_text}
use Rattle.paper_lines.specs.Writing.{over}
use Rattle.paper_texts.specs.Pieces.{dep_frame}
use Rattle.call_join.proofs.Measuring.{lent_deps, next_dep}
use Rattle.call_join.proofs.PiecesWritten.{piece_length, piece_within, piece_room, piece_on, piece_done}
use Rattle.call_join.proofs.PiecesWritten.{dep_next, deps-out, among_next}
use Rattle.call_join.proofs.put_deps.Goals as goal

abbrev none : DE.Dependence
none = record { kind = 0; d = 0; s = 0; t = 0 }

pub moved-requires : goal.moved-requires
moved-requires c =
    let n = c.args.nest.now in
    let next = next_dep n c.requires.counted c.dependences-e-items.ensures.entries none c.loop-e-test.true in
    c.requires.stay_bytes _ (among_next (nest_in n).deps c.loop-e.e-index next)

pub put_dep-at-requires : goal.put_dep-at-requires
put_dep-at-requires c =
    let n = c.args.nest.now in
    let p = c.loop-e.invariant in
    let fits = c.requires.room in
    let next = next_dep n c.requires.counted c.dependences-e-items.ensures.entries none c.loop-e-test.true in
    let room = piece_room p fits (dep_next c.args.by (nest_in n).deps c.loop-e.e-index next) in
    let line = ap (λ (e : Dep). length (line_text (dep_frame e))) c.moved.ensures in
    simp (length-take, length-drop) (omega (arith, room, line, piece_length p fits, piece_within p fits))

pub loop-e-preserved : goal.loop-e-preserved
loop-e-preserved c =
    let n = c.args.nest.now in
    let p = c.loop-e.invariant in
    let fits = c.requires.room in
    let next = next_dep n c.requires.counted c.dependences-e-items.ensures.entries none c.loop-e-test.true in
    let line = ap (λ (e : Dep). line_text (dep_frame e)) c.moved.ensures in
    piece_on p fits (dep_next c.args.by (nest_in n).deps c.loop-e.e-index next)
    (c.put_dep-at.ensures.0 ∙ ap length line)
    (c.put_dep-at.ensures.1 ∙
    ap (λ (s : List ℕ). over s (mid_of c.loop-e.at (length c.loop-e.out - c.loop-e.at) c.loop-e.out)) line)

pub returns : goal.returns
returns c =
    let n = c.args.nest.now in
    piece_done c.loop-e.invariant c.requires.room
    (deps-out c.args.by (nest_in n).deps c.loop-e.e-index
    (omega (arith, lent_deps n c.requires.counted c.dependences-e-items.ensures.entries)))
