use mathlib.Core.Path.{◌≡◌, refl, ◌∙◌}
use native.Mathlib.Omega.{arith}
use lib.ListN.{get_or}
use Rattle.paper_nests.specs.Loops.{owner_of}
use Rattle.paper_nests.proofs.Loops.{owner_at_most}
use Rattle.laws.proofs.Copies.{copies, copies_at}
use Rattle.call_shape.proofs.Passing.{pass_start, pass_on, end_here, end_few, depth_few, inside_few}
use Rattle.call_shape.proofs.Passing.{done_owners, done_ends, done_depths}
use Rattle.call_shape.proofs.shape_of.Goals as goal

pub loop-p-init : goal.loop-p-init
unfolding copies
loop-p-init _ = pass_start _ (copies 256 0) refl (copies_at 256 0)

pub overflow_cast-owners : goal.overflow_cast-owners
overflow_cast-owners c =
    let owner_here : let ps = c.args.points.now in
    get_or c.owners_of-around.result c.loop-p.p 0 ≡ owner_of ps c.loop-p.p = c.owners_of-around.ensures c.loop-p.p c.loop-p-test.true in
    let low = owner_at_most c.args.points.now c.loop-p.p in
    record { fits = omega (arith, owner_here, low, c.requires.1) }

pub overflow_cast-ends : goal.overflow_cast-ends
overflow_cast-ends c =
    let few = end_few c.args.points.now c.ends_of-closing.result c.ends_of-closing.ensures c.loop-p.p c.requires.0 c.requires.1 in
    record { fits = omega (arith, c.end_at.ensures, few) }

pub overflow_cast-depths : goal.overflow_cast-depths
overflow_cast-depths c =
    let few = inside_few c.loop-p.invariant c.requires.0 c.requires.1 (get_or c.args.points.now c.loop-p.p 0) in
    record { fits = omega (arith, c.inside.ensures, few) }

pub deeper-depth-requires : goal.deeper-depth-requires
deeper-depth-requires c = omega (arith, depth_few c.loop-p.invariant c.requires.0 c.requires.1)

pub loop-p-preserved : goal.loop-p-preserved
loop-p-preserved c =
    pass_on c.loop-p.invariant c.requires.0 c.requires.1 c.loop-p-test.true _ _ _ _
    (c.owners_of-around.ensures c.loop-p.p c.loop-p-test.true)
    (c.end_at.ensures ∙ end_here c.args.points.now c.ends_of-closing.result c.ends_of-closing.ensures c.loop-p.p)
    c.inside.ensures c.deeper-depth.ensures

pub returns : goal.returns
returns c =
    let end = c.loop-p-test.false in
    record {
      number_is = refl;
      line_is = refl;
      owners_are = done_owners c.loop-p.invariant c.requires.0 c.requires.1 end;
      ends_are = done_ends c.loop-p.invariant c.requires.0 c.requires.1 end;
      depths_are = done_depths c.loop-p.invariant c.requires.0 c.requires.1 end;
    }
