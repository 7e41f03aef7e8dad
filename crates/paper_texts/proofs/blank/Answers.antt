-- An empty nest with a DO and an ENDDO more is the blank paper.
use mathlib.Core.Path.{refl, sym, ◌∙◌, ap}
use mathlib.Core.List.{[]}
use Rattle.paper_texts.specs.NestTexts.{got}
use Rattle.paper_texts.proofs.BlankPaper.{blank_read, blank_made}
use Rattle.paper_texts.proofs.blank.Goals as goal

pub returns : goal.returns
returns c =
    let made =
    blank_made
    c.empty-none.result
    c.with_point-open.result
    c.with_point.result
    c.empty-none.ensures
    c.with_point-open.ensures
    c.with_point.ensures in
    record {
      got_is = ap (got 0 0) made ∙ sym (blank_read [] refl);
      counted = c.with_point.ensures.counted;
    }
