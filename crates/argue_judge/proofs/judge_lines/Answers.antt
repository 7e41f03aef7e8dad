use mathlib.Core.Path.{◌≡◌, refl, sym, subst}
use Rattle.std.proofs.Common.{Some, None}
use Rattle.std.specs.Option.{IfSome}
use mathlib.Core.Bool.{true, false}
use Prim.Native.Nat.{ℕ, suc, ◌-◌}
use native.Mathlib.Omega.{arith}
use lib.ListN.{length}
use Rattle.paper_nests.specs.Stored.{nest_in}
use Rattle.paper_gaps.specs.Lies.{LiesTo}
use Rattle.argue_texts.specs.Parts.{set_in}
use Rattle.argue_weigh.specs.declared.Ended.{Ended}
use Rattle.argue_weigh.specs.declared.Asked.{Asked}
use Rattle.argue_judge.proofs.Sizes.{long_named, long_closed}
use Rattle.argue_judge.proofs.Turns.{end_unshown, never_refused, turned, goes-on}
use Rattle.argue_judge.proofs.Turns.{never_unknown}
use Rattle.argue_judge.proofs.Turns.{Led-on, claim_unshown, claim_of_none, claim_on, step_not, step_on}
use Rattle.argue_judge.proofs.Lines.{first_room, lines_begun, striking_room, closing_room, count_begun}
use Rattle.argue_judge.proofs.Lines.{end_holds, end_lacks, is_loop, step_room, stepped_as, asked_lies}
use Rattle.argue_judge.proofs.judge_lines.Goals.{in-Claims+else-not-close-2+else-not-is_do, in-By, in-Names+in-Some}
use Rattle.argue_judge.proofs.judge_lines.Goals as goal

pub first_struck-struck-requires : goal.first_struck-struck-requires
first_struck-struck-requires c = first_room c.requires.judgeable

pub loop-times-init : goal.loop-times-init
loop-times-init c =
    record {
      judges =
          lines_begun c.requires.judgeable c.args.text.now _ c.empty-low.result.words c.empty-gone.result.words
          c.no_claims-claims.result c.first_struck-struck.result
          c.no_times-times.result refl refl refl c.empty-low.ensures c.empty-gone.ensures
          c.first_struck-struck.ensures c.no_times-times.ensures.by_index;
      long = record {
        claims_long = c.no_claims-claims.ensures;
        struck_long = c.first_struck-struck.ensures.long;
        times_long = c.no_times-times.ensures.result_len;
      };
    }

-- ---- the text's end

pub close-requires-clause-striking_room : goal.close-requires-clause-striking_room
close-requires-clause-striking_room c =
    let w = c.requires.judgeable in
    let v = c.loop-times.invariant in
    striking_room w c.requires.text_value (v.judges w.key w.tables) c.open_of-claim.result c.open_of-claim.ensures.value
    v.long.times_long v.long.struck_long

pub close-requires-clause-closing_room : goal.close-requires-clause-closing_room
close-requires-clause-closing_room c =
    let w = c.requires.judgeable in
    closing_room w c.requires.text_value (c.loop-times.invariant.judges w.key w.tables) c.open_of-claim.result
    c.open_of-claim.ensures.value

pub returns-then-not-close-clause-first : goal.returns-then-not-close-clause-first
returns-then-not-close-clause-first c = λ key t.
    end_unshown (nest_in c.args.nest) key c.args.text.now t c.requires.text_value (c.loop-times.invariant.judges key t)
    (sym (rw c.in-Ok-None.field-0-is at c.in-Ok-None.ensures)) c.open_of-claim.result c.open_of-claim.ensures.value
    c.close.result c.close.ensures.value c.if-not-close.true

pub returns-then-not-close-clause-found : goal.returns-then-not-close-clause-found
returns-then-not-close-clause-found c =
    let w = c.requires.judgeable in
    (c.loop-times.invariant.judges w.key w.tables).stands.opened_late

pub returns-then-not-all_low-clause-first : goal.returns-then-not-all_low-clause-first
returns-then-not-all_low-clause-first c = λ key t.
    end_lacks c.requires.judgeable t c.requires.text_value (c.loop-times.invariant.judges key t)
    (sym (rw c.in-Ok-None.field-0-is at c.in-Ok-None.ensures)) c.open_of-claim.result c.open_of-claim.ensures.value
    c.close.result c.close.ensures.value c.if-not-close.false c.with_low-lows.result.words c.with_low-lows.ensures
    c.all_low.result c.all_low.ensures c.if-not-all_low.true

pub returns-in-Ok-None-clause-first : goal.returns-in-Ok-None-clause-first
returns-in-Ok-None-clause-first c = λ key t.
    end_holds c.requires.judgeable t c.requires.text_value (c.loop-times.invariant.judges key t)
    (sym (rw c.in-Ok-None.field-0-is at c.in-Ok-None.ensures)) c.open_of-claim.result c.open_of-claim.ensures.value
    c.close.result c.close.ensures.value c.if-not-close.false c.with_low-lows.result.words c.with_low-lows.ensures
    c.all_low.result c.all_low.ensures c.if-not-all_low.false

pub returns-in-Err-clause-first : goal.returns-in-Err-clause-first
returns-in-Err-clause-first c = λ key t.
    absurd
    (never_refused (nest_in c.args.nest) key c.args.text.now t c.requires.text_value
    (c.loop-times.invariant.judges key t) c.in-Err.field-0 (sym c.in-Err.ensures))

-- ---- a claim

pub close-requires-in-Claims-clause-striking_room : goal.close-requires-in-Claims-clause-striking_room
close-requires-in-Claims-clause-striking_room c =
    let w = c.requires.judgeable in
    let v = c.loop-times.invariant in
    striking_room w c.requires.text_value (v.judges w.key w.tables) c.open_of-claim.result c.open_of-claim.ensures.value
    v.long.times_long v.long.struck_long

pub close-requires-in-Claims-clause-closing_room : goal.close-requires-in-Claims-clause-closing_room
close-requires-in-Claims-clause-closing_room c =
    let w = c.requires.judgeable in
    closing_room w c.requires.text_value (c.loop-times.invariant.judges w.key w.tables) c.open_of-claim.result
    c.open_of-claim.ensures.value

pub returns-then-not-close-2-clause-first : goal.returns-then-not-close-2-clause-first
returns-then-not-close-2-clause-first c =
    let turn = turned c.in-Ok-Some.f c.part_of.result c.loop-times.invariant c.requires.text_value
    (sym (rw c.in-Ok-Some.field-0-is at c.in-Ok-Some.ensures)) c.part_of.ensures in
    λ key t.
    claim_unshown (turn key t) c.in-Claims.is c.open_of-claim.result c.open_of-claim.ensures.value
    c.close-in-Claims.result c.close-in-Claims.ensures.value c.if-not-close-2.true

pub returns-then-not-close-2-clause-found : goal.returns-then-not-close-2-clause-found
returns-then-not-close-2-clause-found c =
    let w = c.requires.judgeable in
    (c.loop-times.invariant.judges w.key w.tables).stands.opened_late

pub returns-then-not-is_do-clause-first : goal.returns-then-not-is_do-clause-first
returns-then-not-is_do-clause-first c =
    let turn = turned c.in-Ok-Some.f c.part_of.result c.loop-times.invariant c.requires.text_value
    (sym (rw c.in-Ok-Some.field-0-is at c.in-Ok-Some.ensures)) c.part_of.ensures in
    λ key t.
    claim_of_none (turn key t) c.in-Claims.is c.open_of-claim.result c.open_of-claim.ensures.value
    c.close-in-Claims.result c.close-in-Claims.ensures.value c.if-not-close-2.false
    (is_loop c.requires.judgeable c.is_do.result c.in-Claims.k.d false c.is_do.ensures c.if-not-is_do.true)

-- ---- a step

pub take_step-requires : goal.take_step-requires
take_step-requires c =
    let w = c.requires.judgeable in
    let v = c.loop-times.invariant in
    step_room w c.requires.text_value (v.judges w.key w.tables) c.open_of-claim.result c.open_of-claim.ensures.value
    c.asked_of-asked.result
    (subst
    (λ (q : Asked). (m : ℕ) → set_in q.set ≡ suc (suc m) → IfSome q.dependence (λ (x : Ended). LiesTo x.e x.end))
    (sym c.asked_of-asked.ensures)
    (asked_lies w c.in-Names.s c.loop-times.by c.dependences-deps.ensures.entries))
    c.open_of-claim.ensures.a_bound.0 c.open_of-claim.ensures.a_bound.1 v.long.times_long v.long.struck_long

pub returns-in_default-clause-first : goal.returns-in_default-clause-first
returns-in_default-clause-first c =
    let turn = turned c.in-Ok-Some.f c.part_of.result c.loop-times.invariant c.requires.text_value
    (sym (rw c.in-Ok-Some.field-0-is at c.in-Ok-Some.ensures)) c.part_of.ensures in
    λ key t.
    let told = stepped_as c.requires.judgeable t (turn key t).judges c.open_of-claim.result
    c.open_of-claim.ensures.value c.in-Names.s c.loop-times.by refl c.dependences-deps.ensures.entries
    c.asked_of-asked.result c.asked_of-asked.ensures c.take_step.new.times None c.in_default.ensures in
    step_not (turn key t) c.in-Names.is told.0

-- ---- no other part, and the next line

pub returns-in-Unknown-clause-first : goal.returns-in-Unknown-clause-first
returns-in-Unknown-clause-first c =
    let turn = turned c.in-Ok-Some.f c.part_of.result c.loop-times.invariant c.requires.text_value
    (sym (rw c.in-Ok-Some.field-0-is at c.in-Ok-Some.ensures)) c.part_of.ensures in
    λ key t. absurd (never_unknown (turn key t) c.in-Unknown.is)

pub loop-times-smaller : goal.loop-times-smaller
loop-times-smaller c =
    let turn = turned c.in-Ok-Some.f c.part_of.result c.loop-times.invariant c.requires.text_value
    (sym (rw c.in-Ok-Some.field-0-is at c.in-Ok-Some.ensures)) c.part_of.ensures in
    let on = goes-on (turn c.requires.judgeable.key c.requires.judgeable.tables) in
    omega (arith, on.0, on.1)

pub loop-times-preserved : goal.loop-times-preserved
loop-times-preserved c =
    let v = c.loop-times.invariant in
    let turn = turned c.in-Ok-Some.f c.part_of.result v c.requires.text_value
    (sym (rw c.in-Ok-Some.field-0-is at c.in-Ok-Some.ensures)) c.part_of.ensures in
    elim c.match-part_of.branch [
      | in-Claims+else-not-close-2+else-not-is_do w ↦
          let clean = w.no_times-times-in-Claims in
          rw (w.struck-is, w.times-is, w.claims-is, w.low-is, w.gone-is)
          (rw (w.head-is, w.opened-is, w.c-is, w.by-is, w.known-is)
          (record {
            judges = λ key t.
                claim_on (turn key t) w.in-Claims.is c.open_of-claim.result c.open_of-claim.ensures.value
                w.close-in-Claims.result w.close-in-Claims.ensures.value w.if-not-close-2.false
                w.with_known-known.result w.with_low-low.result.words w.empty-gone-in-Claims.result.words
                w.close-in-Claims.new.struck clean.result
                (is_loop c.requires.judgeable w.is_do.result w.in-Claims.k.d true w.is_do.ensures w.if-not-is_do.false)
                (w.close-in-Claims.ensures.closed w.if-not-close-2.false) v.long.claims_long
                w.with_known-known.ensures w.with_low-low.ensures
                (count_begun (nest_in c.args.nest) key (length c.args.points.now - 1) clean.result
                w.empty-gone-in-Claims.result.words clean.ensures.by_index w.empty-gone-in-Claims.ensures);
            long = long_closed v.long c.loop-times.known c.loop-times.head w.close-in-Claims.new.struck clean.result
                w.close-in-Claims.auto.struck clean.ensures.result_len;
          }))
      | in-By w ↦
          rw (w.struck-is, w.times-is, w.claims-is, w.low-is, w.gone-is)
          (rw (w.head-is, w.opened-is, w.c-is, w.by-is, w.known-is)
          (record { judges = λ key t. Led-on (turn key t) (suc w.in-By.m) w.in-By.is (omega arith); long = v.long }))
      | in-Names+in-Some w ↦
          let taken = w.in-Some.taken in
          rw (w.struck-is, w.times-is, w.claims-is, w.low-is, w.gone-is)
          (rw (w.head-is, w.opened-is, w.c-is, w.by-is, w.known-is)
          (record {
            judges = λ key t.
                let told = stepped_as c.requires.judgeable t (turn key t).judges c.open_of-claim.result
                c.open_of-claim.ensures.value w.in-Names.s c.loop-times.by refl c.dependences-deps.ensures.entries
                w.asked_of-asked.result w.asked_of-asked.ensures w.take_step.new.times (Some taken) w.in-Some.ensures in
                step_on (turn key t) w.in-Names.is taken.c taken.gone.words w.take_step.new.times told.0 told.1;
            long = long_named v.long w.take_step.new.times w.take_step.auto.times;
          }))
    ]
