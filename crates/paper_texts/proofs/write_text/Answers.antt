use mathlib.Core.Path.{◌≡◌, ap}
use Prim.Native.Nat.{ℕ, ◌+◌, ◌%◌, ◌≤◌, ◌<◌}
use native.Mathlib.Omega.{arith}
use mathlib.Core.List.{List, [], ◌∷◌}
use lib.ListN.{length, length-take, length-drop}
use borrow.Author.Rules.{rules}
use Rattle.paper_placements.specs.Words.{GAPS, gaps_in}
use Rattle.paper_texts.specs.PlacementTexts.{key_text}
use Rattle.paper_texts.proofs.Written.{WriteInv, lowest_up, write_in, write_begin, write_room, write_on, write_done}
use Rattle.paper_texts.proofs.write_text.Goals as goal

module _ {ws o out : List ℕ} {at g : ℕ} (fits : length (key_text (gaps_in ws)) ≤ length o)
    (now : WriteInv ws o out at g) where
  -- what is written lies within the buffer, and so does the next frame
  inside : (length out ≡ length o) × (at ≤ length o)
  inside = write_in ws o out at g fits now

  room : g < GAPS → at + 5 ≤ length o
  room more = write_room ws o out at g more now fits

pub loop-g-init : goal.loop-g-init
loop-g-init c =
    let i = c.args in
    write_begin i.p.words i.out.now c.lowest_from-g.result c.lowest_from-g.ensures

pub slice_bounds-put_frame-count : goal.slice_bounds-put_frame-count
slice_bounds-put_frame-count c =
    let z = inside c.requires c.loop-g.invariant in
    omega arith

pub slice_bounds-put_frame-start : goal.slice_bounds-put_frame-start
slice_bounds-put_frame-start c =
    let z = inside c.requires c.loop-g.invariant in
    search rules

pub slice_bounds-put_frame-end : goal.slice_bounds-put_frame-end
slice_bounds-put_frame-end c =
    let z = inside c.requires c.loop-g.invariant in
    search rules

pub put_frame-at-requires : goal.put_frame-at-requires
put_frame-at-requires c =
    let z = inside c.requires c.loop-g.invariant in
    let y = room c.requires c.loop-g.invariant c.loop-g-test.true in
    simp (length-take, length-drop) (omega arith)

pub overflow_add-at : goal.overflow_add-at
overflow_add-at c =
    let z = room c.requires c.loop-g.invariant c.loop-g-test.true in
    let y = c.put_frame-at.ensures.value in
    omega arith

pub overflow_add-g : goal.overflow_add-g
overflow_add-g c = omega (arith, c.loop-g-test.true)

pub loop-g-smaller : goal.loop-g-smaller
loop-g-smaller c =
    let ws = c.args.p.words in
    let t = c.loop-g-test.true in
    omega (arith, lowest_up ws c.loop-g.g c.lowest_from-g-in-loop-g.result t c.lowest_from-g-in-loop-g.ensures, t)

pub loop-g-preserved : goal.loop-g-preserved
loop-g-preserved c =
    let l = c.loop-g in
    let t : l.g < 256 = c.loop-g-test.true in
    let e : l.g % 256 ≡ l.g = omega arith in
    let put = c.put_frame-at in
    let next = c.lowest_from-g-in-loop-g in
    write_on c.args.p.words c.args.out.now l.out l.at l.g t l.invariant (33 ∷ (l.g % 256 ∷ [])) put.new.out put.result
    next.result c.requires (ap (λ (x : ℕ). 33 ∷ (x ∷ [])) e) put.ensures.value put.ensures.out_after next.ensures

pub shape_of-out : goal.shape_of-out
shape_of-out c =
    (inside c.requires c.loop-g.invariant).0

pub returns : goal.returns
returns c =
    let i = c.args in
    let z = write_done i.p.words i.out.now c.loop-g.out c.loop-g.at c.loop-g.g c.loop-g-test.false c.loop-g.invariant in
    record { value = z.0; out_after = z.1 }
