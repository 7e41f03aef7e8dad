-- `judge` meets its contract: the verdict follows from what the uncut test and the comparison answer (proofs/Judged).
use mathlib.Core.Path.{◌≡◌, sym}
use Prim.Native.Nat.{suc, ◌-◌}
use native.Mathlib.Omega.{arith}
use Rattle.paper_nests.specs.Stored.{nest_in}
use Rattle.paper_nests.proofs.Deps.{valid_is}
use Rattle.paper_placements.specs.Words.{gaps_in}
use Rattle.desk.proofs.Judged.{uncut_is, dearer_is, best_is}
use Rattle.desk.proofs.judge.Goals as goal

pub returns-in-Some : goal.returns-in-Some
returns-in-Some c =
    let first = c.in-Some.first in
    let back : suc first - 1 ≡ first = omega arith in
    rw
    back at
    (uncut_is (nest_in c.args.nest) (gaps_in c.args.key.words) (gaps_in c.args.placement.words)
    (suc first) c.in-Some.ensures (λ z. omega (arith, z)))

pub compare-requires : goal.compare-requires
compare-requires c =
    let v = valid_is (nest_in c.args.nest) c.requires.nest_value in
    rw c.points.ensures record {
      points_value = (v.shape, v.few_points);
      words_value = c.requires.words_value;
      words_value_2 = c.requires.words_value_2;
    }

pub returns-in-Some-compare : goal.returns-in-Some-compare
returns-in-Some-compare c =
    let n = nest_in c.args.nest in
    dearer_is n (gaps_in c.args.key.words) (gaps_in c.args.placement.words) _ _ _
    (sym c.in_default.ensures) (c.in-Some-compare.ensures n (sym c.points.ensures))

pub returns-in-None : goal.returns-in-None
returns-in-None c =
    let n = nest_in c.args.nest in
    best_is n (gaps_in c.args.key.words) (gaps_in c.args.placement.words)
    (sym c.in_default.ensures) (c.in-None.ensures n (sym c.points.ensures))
