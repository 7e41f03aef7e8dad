use mathlib.Core.Path.{◌≡◌, sym, ap, ◌∙◌}
use mathlib.Core.Bool.{not}
use mathlib.Core.List.{List, ◌∷◌}
use Prim.Native.Nat.{ℕ, suc, ◌<◌}
use native.Mathlib.Omega.{arith}
use lib.ListN.{length, get_or, take, drop}
use Rattle.std.proofs.lemmas.List.{length-map}
use Rattle.paper_nests.specs.declared.Dependence as DE
use Rattle.paper_nests.specs.Loops.{HasEnds}
use Rattle.paper_nests.specs.Stored.{dep_in, deps_in, nest_in}
use Rattle.paper_nests.proofs.Deps.{valid_is}
use Rattle.paper_placements.specs.Answers.{CutSays}
use Rattle.paper_placements.specs.Words.{gaps_in}
use Rattle.paper_placements.proofs.CutTest.{cut_some}
use Rattle.paper_placements.proofs.Trying.{tried_start, tried_cut, tried_uncut, tried_done}
use Rattle.paper_placements.proofs.Trying.{carried_by_loop, lent_at}
use Rattle.paper_placements.proofs.uncut.Goals as goal
use Rattle.paper_placements.proofs.uncut.Goals.{After-cut_in}

abbrev none : DE.Dependence
none = record { kind = 0; d = 0; s = 0; t = 0 }

-- the dependence of a turn is the first of those from there on
here
    : (n : ℕ) (xs es : List DE.Dependence) (i : ℕ)
    → es ≡ take n xs
    → i < length es
    → drop i (deps_in n xs) ≡ dep_in (get_or es i none) ∷ drop (suc i) (deps_in n xs)
here n xs es i e l = rw e (lent_at n xs i none (rw e at l))

-- what the cut test says of it
told
    : (c : After-cut_in)
    → CutSays (nest_in c.args.nest).points (dep_in (get_or c.dependences-e-items.result.now c.loop-i.i none)) (gaps_in c.args.p.words) c.cut_in.result
told c =
    let n = nest_in c.args.nest in
    let ends : HasEnds n.points c.ends_of-ends.result = rw c.points.ensures at c.ends_of-ends.ensures in
    c.cut_in.ensures _
    (λ k.
    ends _
    (carried_by_loop n.points n.deps c.loop-i.i _ _ (valid_is n c.requires.nest_value).all-deps
    (here _ _ _ _ c.dependences-e-items.ensures.entries c.loop-i-test.true) k))

pub ends_of-ends-requires : goal.ends_of-ends-requires
ends_of-ends-requires c =
    omega (arith, ap length c.points.ensures, c.requires.counted.count_is, c.requires.counted.count_fits)

pub loop-i-init : goal.loop-i-init
loop-i-init c =
    let n = nest_in c.args.nest in
    tried_start n.points n.deps (gaps_in c.args.p.words)

pub returns-then-is_none : goal.returns-then-is_none
returns-then-is_none c =
    omega (
      arith,
      tried_uncut _ _ _ _ c.loop-i.invariant _ (here _ _ _ _ c.dependences-e-items.ensures.entries c.loop-i-test.true)
          (sym (told (goal.at.returns-then-is_none c).After-cut_in).cut ∙ cut_some c.cut_in.result ∙ c.is_none.ensures ∙ ap not c.if-is_none.true),
    )

pub loop-i-preserved : goal.loop-i-preserved
loop-i-preserved c =
    tried_cut _ _ _ _ c.loop-i.invariant _ (here _ _ _ _ c.dependences-e-items.ensures.entries c.loop-i-test.true)
    (sym (told (goal.at.loop-i-preserved c).After-cut_in).cut ∙ cut_some c.cut_in.result ∙ c.is_none.ensures ∙ ap not c.if-is_none.false)

pub returns : goal.returns
returns c =
    tried_done _ _ _ _ c.loop-i.invariant
    (omega (arith, ap length c.dependences-e-items.ensures.as_listed, length-map c.dependences-e-items.result.now dep_in))
