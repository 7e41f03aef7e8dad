-- `digits_from` meets its contract: what the chain counts are the digits at the start.
use mathlib.Core.Path.{◌≡◌, ap, ◌∙◌}
use lib.ListN.{length}
use borrow.Author.Rules.{rules}
use borrow.Author.Tests.{tests}
use Rattle.std.specs.List.{take_while}
use Rattle.std.proofs.lemmas.Iterator.{YieldsList-from_slice}
use Rattle.std.proofs.lemmas.Iterator.Consumers.{count_from_yields_List}
use Rattle.std.proofs.lemmas.Iterator.Search.{YieldsList-from_take_while}
use Rattle.paper_lines.specs.Lines.{is_hex}
use Rattle.paper_lines.proofs.Reading.{digits_while}
use Rattle.paper_lines.proofs.digits_from.Goals as goal

pub returns : goal.returns
returns c =
    let text = c.args.text.now in
    let whole : c.take_while.result.iter.rest.now ≡ text = cc in
    let e : c.count.result ≡ length (take_while is_hex text) =
    count_from_yields_List c.take_while.result c.count.result c.count.ensures.ran
    (YieldsList-from_take_while _ is_hex (YieldsList-from_slice text whole) c.take_while.ensures.closure
    c.take_while.ensures.done
    (λ x b q k. search (rules, tests))) in
    e ∙ ap length (digits_while text)
