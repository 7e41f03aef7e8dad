-- `nest_shape` meets its contract: a nest of a desk made by calls has a shape.
use borrow.Author.Tests.{not-false}
use Rattle.paper_nests.specs.Stored.{nest_in}
use Rattle.paper_nests.proofs.Deps.{valid_is}
use Rattle.call_shape.proofs.nest_shape.Goals as goal

pub shape_of-requires : goal.shape_of-requires
shape_of-requires c =
    let loaded = not-false c.args.desk.loaded c.if-not-desk.false in
    let v = valid_is (nest_in c.args.desk.nest) (c.requires.paper.valid loaded) in
    (v.shape, v.few_points)
