-- The argument of a valid nest that is not blocked is that of a valid nest without barred gaps.
-- Main definition: `PlainOf`. Main statement: `plain_of`.
use mathlib.Core.Path.{◌≡◌, refl, ap}
use mathlib.Core.Bool.{Bool, true, false}
use mathlib.Core.List.{List, []}
use mathlib.Core.Logic.{⊎_elim}
use lib.Dec.{eqb}
use lib.ListN.{length}
use borrow.Author.Tests.{eqb-false}
use Rattle.laws.specs.Choice.{pick}
use Rattle.paper_nests.specs.Nests.{Nest}
use Rattle.paper_nests.specs.Ring.{one_loop}
use Rattle.paper_nests.specs.Valid.{is_valid}
use Rattle.paper_nests.proofs.Bars.{bars_or_one_loop}
use Rattle.paper_nests.proofs.Deps.{valid_is, deps_fit}
use Rattle.paper_barred.specs.Reduced.{is_blocked, reduced}
use Rattle.paper_barred.proofs.ReducedNest.{reduced_valid}
use Rattle.argue_claims.specs.Arguments.{Claim}
use Rattle.argue_key.specs.Laps.{plain_argument, argument_of}

pub record PlainOf (cs : List Claim) : Type 0 where
  pub nest : Nest
  pub valid : is_valid nest ≡ true
  pub is : cs ≡ plain_argument nest.points nest.deps

pub plain_of : (n : Nest) → is_valid n ≡ true → is_blocked n ≡ false → PlainOf (argument_of n)
unfolding argument_of
plain_of n valid unblocked = go (eqb (length n.barred) 0) refl
  where
    go : (t : Bool) → eqb (length n.barred) 0 ≡ t →
        PlainOf (pick t (plain_argument n.points n.deps)
        (plain_argument (reduced n.points n.barred n.deps).points
        (reduced n.points n.barred n.deps).deps))
    go true e = record { nest = n; valid = valid; is = refl }
    go false e =
        let v = valid_is n valid in
        let one : one_loop n.points ≡ true = ⊎_elim
        (λ (z : n.barred ≡ []). absurd (eqb-false (length n.barred) 0 e (ap length z)))
        (λ (z : one_loop n.points ≡ true). z)
        (bars_or_one_loop n.points n.barred v.all_bars) in
        record {
          nest = reduced n.points n.barred n.deps;
          valid = reduced_valid n.points n.barred v.shape one n.deps v.few_points v.few_deps
              (deps_fit n.points n.deps v.all-deps) unblocked;
          is = refl;
        }
