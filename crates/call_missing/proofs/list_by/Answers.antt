-- `list_by` meets its contract: by the stretches of the dependence, one where it is independent (`line_listed`), two
-- where it is carried (`back_listed`); a bare barrier in one of them, and nothing is listed.
use Prim.Native.Nat.{◌+◌}
use Rattle.laws.specs.Entries.{at}
use Rattle.paper_nests.specs.Stored.{dep_in}
use Rattle.paper_nests.proofs.Deps.{is-line, is-back}
use Rattle.call_missing.specs.Covering.{CoverSays}
use Rattle.call_missing.proofs.Listing.{line_bare, line_listed}
use Rattle.call_missing.proofs.Listing.{front_bare, rear_bare, back_listed}
use Rattle.call_missing.proofs.list_by.Goals as goal
use Rattle.call_missing.proofs.list_by.Goals.{else-is_covered-2-via-then-is_covered-2+else-is_covered-3}
use Rattle.call_missing.proofs.list_by.Goals.{else-is_covered-2-via-else-is_covered-2}

pub returns-then-is_covered : goal.returns-then-is_covered
returns-then-is_covered c ps fs b w =
    let a = c.args in
    let e = dep_in a.e in
    line_listed b e (is-line ps e w c.if-e-eq-INDEPENDENT.true) c.is_covered.ensures
    c.if-is_covered.true
    a.listed.words c.list_range.result.words c.list_range.ensures

pub returns-then-e-eq-INDEPENDENT : goal.returns-then-e-eq-INDEPENDENT
returns-then-e-eq-INDEPENDENT c ps fs b w d l =
    let a = c.args in
    let e = dep_in a.e in
    line_bare b e (is-line ps e w c.if-e-eq-INDEPENDENT.true) c.is_covered.ensures c.if-is_covered.false
    a.listed.words d

pub returns-then-is_covered-3 : goal.returns-then-is_covered-3
returns-then-is_covered-3 c ps fs b w =
    let rear-told : let a = c.args in
    let e = dep_in a.e in
    CoverSays a.ends.now a.loops.words a.key.words e.s e.t (e.s + 1) (at a.ends.now e.d)
    c.is_covered-then-is_covered-2.result = c.is_covered-then-is_covered-2.ensures in
    let a =
    c.args in
    let e = dep_in a.e in
    let k = is-back ps e w c.if-e-eq-INDEPENDENT.false in
    back_listed b e k c.is_covered-2.ensures (at a.ends.now e.d)
    (b.ends_are e.d k.loop)
    (rear-told) c.if-is_covered-2.true
    c.if-is_covered-3.true a.listed.words
    c.list_range-front.result.words c.list_range-then-is_covered-3.result.words c.list_range-front.ensures
    c.list_range-then-is_covered-3.ensures

pub returns : goal.returns
returns c ps fs b w d l =
    let a = c.args in
    let e = dep_in a.e in
    let k = is-back ps e w c.if-e-eq-INDEPENDENT.false in
    elim c.else-is_covered-2.branch [
      | else-is_covered-2-via-then-is_covered-2+else-is_covered-3 x ↦
          rear_bare b e k c.is_covered-2.ensures (at a.ends.now e.d) (b.ends_are e.d k.loop)
          x.is_covered-then-is_covered-2.ensures x.if-is_covered-3.false a.listed.words d
      | else-is_covered-2-via-else-is_covered-2 x ↦
          front_bare b e k c.is_covered-2.ensures x.if-is_covered-2.false a.listed.words d
    ]
