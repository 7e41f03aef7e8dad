-- `is_one_loop` meets its contract: what the chain says of each point behind the first is `no_do`.
use mathlib.Core.Path.{◌∙◌}
use mathlib.Core.Bool.{not}
use Prim.Native.Nat.{ℕ}
use lib.Dec.{eqb}
use lib.ListN.{drop}
use borrow.Author.Rules.{rules}
use borrow.Author.Tests.{tests}
use Rattle.std.proofs.lemmas.Iterator.{YieldsList-from_slice}
use Rattle.std.proofs.lemmas.Iterator.Adapters.{YieldsList-from_skip}
use Rattle.std.proofs.lemmas.Iterator.Search.{all_from_yields_List}
use Rattle.paper_nests.specs.Kinds.{DO}
use Rattle.paper_nests.proofs.Scan.{none_is_do}
use Rattle.paper_nests.proofs.is_one_loop.Goals as goal

pub returns : goal.returns
returns c =
    all_from_yields_List (λ (p : ℕ). not (eqb p DO)) _ _ _ c.all.ensures.ran
    (YieldsList-from_skip 1 (YieldsList-from_slice c.args.points.now cc) cc)
    (λ x b q k. search (rules, tests)) ∙
    none_is_do (drop 1 c.args.points.now)
