-- `relied_on` meets its contract: one law for each way through the text (proofs/Answers). It is read as the desk's nest
-- says (`reads_here`).
use mathlib.Core.Path.{◌≡◌, refl, sym, ◌∙◌}
use mathlib.Core.Bool.{false, not}
use mathlib.Core.List.{List, []}
use Prim.Native.Nat.{ℕ}
use Rattle.laws.specs.Choice.{when, is_in}
use Rattle.laws.proofs.Choices.{first_zero, unless_zero}
use Rattle.paper_refusals.specs.Numbers.{number_of}
use Rattle.paper_refusals.proofs.Numbers.{never_zero}
use Rattle.paper_nests.specs.Stored.{nest_in}
use Rattle.paper_placements.specs.Words.{holds, gaps_in}
use Rattle.paper_texts.specs.PlacementTexts.{placed, read_placement}
use Rattle.desk.specs.declared.Desk as DD
use Rattle.desk.specs.Desks.{desk_in, IsMade, state_fault}
use Rattle.desk.specs.Says.{read_in}
use Rattle.desk.proofs.Ready.{read_as}
use Rattle.call_missing.specs.Listed.{listed_by}
use Rattle.call_skipped.proofs.Relied.{number_among, number_has}
use Rattle.call_skipped.proofs.Answers.{relied_unread, relied_no_dependence, relied_given}
use Rattle.call_skipped.proofs.relied_on.Goals as goal

-- a made desk with a nest reads the text as its nest says
reads_here
    : (d : DD.Desk) (text : List ℕ) {n l : ℕ} (ws : List ℕ) {gs : List ℕ}
    → IsMade d
    → state_fault false (desk_in d) ≡ 0
    → ((g : ℕ) → holds ws g ≡ is_in g (nest_in d.nest).barred)
    → placed n l gs ≡ read_placement d.nest.count (gaps_in ws) text
    → placed n l gs ≡ read_in (desk_in d) text
reads_here d text ws made none barred is =
    let loaded = unless_zero d.loaded 9 (first_zero (when (not d.loaded) 10) 0 none).0 in
    read_as (nest_in d.nest) _ _ _ ws text _ (made.paper.valid loaded) made.counted.count_is barred is

pub returns-in-Err-read_placement : goal.returns-in-Err-read_placement
returns-in-Err-read_placement c =
    let d = c.args.desk in
    let none = sym c.in_default.ensures in
    let f = c.in-Err-read_placement.fault in
    let read =
    reads_here d c.args.text.now _ c.requires none c.barred_of-barred.ensures
    c.in-Err-read_placement.ensures.placed_is in
    relied_unread d c.args.dependence c.requires.counted c.args.text.now none (number_of f.refusal) f.line [] read
    (never_zero f.refusal) _ c.none_chosen-in-Err-read_placement.ensures

pub returns-then-nest-dependence : goal.returns-then-nest-dependence
returns-then-nest-dependence c =
    let d = c.args.desk in
    let none = sym c.in_default.ensures in
    let read = reads_here d c.args.text.now _ c.requires none c.barred_of-barred.ensures c.in-Ok.ensures.placed_is in
    relied_no_dependence d c.args.dependence c.requires.counted c.args.text.now none 0 0 _ read refl
    c.if-nest-dependence.true _
    (rw c.from-then-nest-dependence.ensures at c.none_chosen-then-nest-dependence.ensures)

pub listed_by-requires-clause-among : goal.listed_by-requires-clause-among
listed_by-requires-clause-among c =
    number_among c.args.desk.nest c.requires.counted c.args.dependence c.if-nest-dependence.false

pub returns : goal.returns
returns c =
    let d = c.args.desk in
    let none = sym c.in_default.ensures in
    let read = reads_here d c.args.text.now _ c.requires none c.barred_of-barred.ensures c.in-Ok.ensures.placed_is in
    let there = c.if-nest-dependence.false in
    let has =
    number_has d.nest c.requires.counted c.args.dependence there
    (listed_by (nest_in d.nest) (gaps_in c.in-Ok.placement.words)) in
    relied_given d c.args.dependence c.requires.counted c.args.text.now none 0 0 _ read refl there _ refl refl
    (c.listed_by.ensures ∙ sym has)
