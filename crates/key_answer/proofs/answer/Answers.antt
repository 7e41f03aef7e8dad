-- `answer` meets its contract: too long, refused or accepted, each with the program's text (Answering).
use mathlib.Core.Path.{sym}
use Rattle.paper_nests.specs.Stored.{nest_in}
use Rattle.key_answer.proofs.Answering.{key-gaps, line_fits, accepted_nest}
use Rattle.key_answer.proofs.Answering.{answer_long, answer_refused, answer_blocked, answer_key}
use Rattle.key_answer.proofs.answer.Goals as goal

pub returns-then-input-gt-LONGEST : goal.returns-then-input-gt-LONGEST
returns-then-input-gt-LONGEST c =
    let w = c.write_refusal.ensures in
    answer_long c.args.input.now _ _ _ c.if-input-gt-LONGEST.true w.value
    (rw c.from.ensures at w.out_after)

pub write_refusal-requires-in-Err-clause-line_bound : goal.write_refusal-requires-in-Err-clause-line_bound
write_refusal-requires-in-Err-clause-line_bound c =
    line_fits c.args.input.now c.if-input-gt-LONGEST.false c.in-Err.fault c.in-Err.ensures

pub returns-in-Err : goal.returns-in-Err
returns-in-Err c =
    let w = c.write_refusal-in-Err.ensures in
    answer_refused c.args.input.now c.if-input-gt-LONGEST.false c.in-Err.fault c.in-Err.ensures _ _ _ w.value w.out_after

pub plan_paper-requires-clause-nest_value : goal.plan_paper-requires-clause-nest_value
plan_paper-requires-clause-nest_value c =
    accepted_nest c.args.input.now c.if-input-gt-LONGEST.false c.in-Ok.nest c.in-Ok.ensures

pub write_both-requires-clause-nest_value : goal.write_both-requires-clause-nest_value
write_both-requires-clause-nest_value c =
    accepted_nest c.args.input.now c.if-input-gt-LONGEST.false c.in-Ok.nest c.in-Ok.ensures

pub write_both-requires-clause-words_value : goal.write_both-requires-clause-words_value
write_both-requires-clause-words_value c =
    let valid = accepted_nest c.args.input.now c.if-input-gt-LONGEST.false c.in-Ok.nest c.in-Ok.ensures in
    let says = c.in-Some.ensures in
    key-gaps (nest_in c.in-Ok.nest) c.in-Some.key.words valid (rw (← says.blocked_is) at says.key_is)

pub returns-in-None : goal.returns-in-None
returns-in-None c =
    let w = c.write_refusal-in-None.ensures in
    answer_blocked c.args.input.now c.if-input-gt-LONGEST.false c.in-Ok.nest c.in-Ok.ensures _ _ _
    (sym c.in-None.ensures.blocked_is) w.value (rw c.from-in-None.ensures at w.out_after)

pub returns-in-Some : goal.returns-in-Some
returns-in-Some c =
    let w = c.write_both.ensures in
    let says = c.in-Some.ensures in
    answer_key c.args.input.now c.if-input-gt-LONGEST.false c.in-Ok.nest c.in-Ok.ensures _ _ _ c.in-Some.key.words
    (sym says.blocked_is) (rw (← says.blocked_is) at says.key_is) w.value w.out_after
