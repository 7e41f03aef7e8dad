-- `placement_calls` meets its contract: one law for each way through the text (proofs/Answers). It is read as the
-- desk's nest says (`read_as`), and what was read rises within the nest's gaps (`read_rising`).
use mathlib.Core.Path.{◌≡◌, refl, sym}
use mathlib.Core.Bool.{true, not}
use mathlib.Core.List.{[]}
use lib.ListN.{length}
use Rattle.laws.specs.Choice.{when}
use Rattle.laws.proofs.Choices.{first_zero, unless_zero}
use Rattle.paper_refusals.specs.Numbers.{number_of}
use Rattle.paper_refusals.proofs.Numbers.{never_zero}
use Rattle.paper_nests.specs.Stored.{nest_in}
use Rattle.paper_nests.specs.Valid.{is_valid}
use Rattle.paper_placements.specs.Words.{gaps_in}
use Rattle.desk.proofs.Ready.{read_as, read_rising}
use Rattle.call_runs.proofs.Answers.{placement_unread, placement_counted}
use Rattle.call_runs.proofs.placement_calls.Goals as goal

pub calls_under-requires-clause-words_value : goal.calls_under-requires-clause-words_value
calls_under-requires-clause-words_value c =
    let n = nest_in c.args.desk.nest in
    let valid : is_valid n ≡ true =
    c.requires.paper.valid
    (unless_zero c.args.desk.loaded 9 (first_zero (when (not c.args.desk.loaded) 10) 0 (sym c.in_default.ensures)).0) in
    let read =
    read_as n _ 0 0 _ c.args.text.now (gaps_in c.in-Ok.placement.words) valid c.requires.counted.count_is
    c.barred_of.ensures c.in-Ok.ensures.placed_is in
    read_rising (length n.points) 0 0 n.barred c.args.text.now _ read

pub returns-in-Err-read_placement : goal.returns-in-Err-read_placement
returns-in-Err-read_placement c =
    let n = nest_in c.args.desk.nest in
    let none = sym c.in_default.ensures in
    let valid : is_valid n ≡ true =
    c.requires.paper.valid
    (unless_zero c.args.desk.loaded 9 (first_zero (when (not c.args.desk.loaded) 10) 0 none).0) in
    let f = c.in-Err-read_placement.fault in
    let read =
    read_as n _ (number_of f.refusal) f.line _ c.args.text.now [] valid c.requires.counted.count_is
    c.barred_of.ensures c.in-Err-read_placement.ensures.placed_is in
    placement_unread c.args.desk c.args.text.now c.args.turns.now none (number_of f.refusal) f.line [] read
    (never_zero f.refusal) _ c.refused-in-Err-read_placement.ensures

pub returns-in-Ok : goal.returns-in-Ok
returns-in-Ok c =
    let n = nest_in c.args.desk.nest in
    let none = sym c.in_default.ensures in
    let valid : is_valid n ≡ true =
    c.requires.paper.valid
    (unless_zero c.args.desk.loaded 9 (first_zero (when (not c.args.desk.loaded) 10) 0 none).0) in
    let read =
    read_as n _ 0 0 _ c.args.text.now (gaps_in c.in-Ok.placement.words) valid c.requires.counted.count_is
    c.barred_of.ensures c.in-Ok.ensures.placed_is in
    placement_counted c.args.desk c.args.text.now c.args.turns.now none 0 0 _ read refl _ c.calls_under.ensures
