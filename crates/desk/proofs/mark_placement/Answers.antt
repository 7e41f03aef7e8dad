-- `mark_placement` meets its contract: one law for each way through it (proofs/Answers). A desk with a key is ready to
-- judge (`ready`), and a placement that was read rises within the nest's gaps (`read_rising`).
use mathlib.Core.Path.{◌≡◌, refl, sym}
use mathlib.Core.List.{List, []}
use Prim.Native.Nat.{ℕ}
use Rattle.std.proofs.Common.{Result, Ok, Err, IsErr, IsErrAnd}
use lib.ListN.{length}
use Rattle.paper_nests.specs.Stored.{nest_in}
use Rattle.paper_refusals.specs.declared.Fault as PF
use Rattle.paper_refusals.specs.Numbers.{number_of}
use Rattle.paper_refusals.proofs.Numbers.{never_zero}
use Rattle.desk.specs.declared.Desk as DD
use Rattle.desk.specs.declared.Verdict as DV
use Rattle.desk.specs.Desks.{desk_in}
use Rattle.desk.specs.Says.{mark_in, marked, MarkSays}
use Rattle.desk.proofs.Answers.{mark_unread, mark_given}
use Rattle.desk.proofs.Ready.{ready, read_as, read_rising}
use Rattle.desk.proofs.mark_placement.Goals as goal

-- the fault that is handed on
unread
    : (d : DD.Desk) (s : List ℕ) (f : PF.Fault) (r : Result DV.Verdict PF.Fault)
    → IsErr r × IsErrAnd r (λ (e : PF.Fault). e ≡ f)
    → mark_in (Err f) ≡ marked (desk_in d) s
    → MarkSays d s r
unread d s f (Err e) h m = rw h.1 m
unread d s f (Ok v) h m = absurd h.1

pub returns-in_err-placement : goal.returns-in_err-placement
returns-in_err-placement c =
    let state = sym c.in_ok-key_fault.ensures in
    let y = ready c.args.desk c.requires state in
    let read =
    read_as (nest_in c.args.desk.nest) _ _ _ _ c.args.text.now _ y.valid c.requires.counted.count_is c.barred_of.ensures
    c.in_err-placement.ensures.placed_is in
    let f = c.in_err-placement.field-0.0 in
    unread c.args.desk c.args.text.now f _ c.from_residual-in_err-placement.ensures
    (mark_unread c.args.desk c.args.text.now (number_of f.refusal) f.line [] state read (never_zero f.refusal))

pub judge-requires : goal.judge-requires
judge-requires c =
    let state = sym c.in_ok-key_fault.ensures in
    let n = nest_in c.args.desk.nest in
    let y = ready c.args.desk c.requires state in
    let read =
    read_as n _ _ _ _ c.args.text.now _ y.valid c.requires.counted.count_is c.barred_of.ensures
    c.in_ok-placement.ensures.placed_is in
    record {
      counted = y.counted;
      nest_value = y.valid;
      words_value = y.key-gaps;
      words_value_2 = read_rising (length n.points) 0 0 n.barred c.args.text.now _ read;
    }

pub returns : goal.returns
returns c =
    let state = sym c.in_ok-key_fault.ensures in
    let y = ready c.args.desk c.requires state in
    let read =
    read_as (nest_in c.args.desk.nest) _ _ _ _ c.args.text.now _ y.valid c.requires.counted.count_is c.barred_of.ensures
    c.in_ok-placement.ensures.placed_is in
    mark_given c.args.desk c.args.text.now 0 0 _ _ state read refl c.judge.ensures
