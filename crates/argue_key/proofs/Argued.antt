-- Every key has its argument. (That it has one is proved from the planner's theorem; that a placement with an argument
-- is a key is not: crate argue_claims, `argued_key`.)
-- Main statements: `argued`, `shorter_argued`.
use mathlib.Core.Path.{◌≡◌, refl, ap}
use mathlib.Core.Bool.{Bool, true, false}
use mathlib.Core.List.{List, [], ◌∷◌}
use Prim.Native.Nat.{ℕ, ◌<◌}
use native.Mathlib.Omega.{arith}
use lib.ListN.{length}
use borrow.Author.Tests.{ne_eqb}
use Rattle.laws.specs.Choice.{pick}
use mathlib.Core.Logic.{⊎_elim}
use Rattle.paper_nests.specs.Nests.{Nest}
use Rattle.paper_nests.specs.Ring.{one_loop}
use Rattle.paper_nests.specs.Valid.{is_valid}
use Rattle.paper_nests.proofs.Bars.{bars_or_one_loop}
use Rattle.paper_nests.proofs.Deps.{valid_is}
use Rattle.paper_order.specs.Keys.{IsKey}
use Rattle.paper_barred.specs.Reduced.{is_blocked, reduced}
use Rattle.plan_theorem.specs.KeyOf.{key_of}
use Rattle.plan_theorem.proofs.KeyGaps.{key_plain, key_barred}
use Rattle.argue_claims.specs.Arguments.{Claim, holds}
use Rattle.argue_claims.proofs.Theorem.{argued_key}
use Rattle.argue_key.specs.Laps.{plain_argument, argument_of}
use Rattle.argue_key.proofs.Plain.{plain_argued}
use Rattle.argue_key.proofs.Barred.{barred_argued}

argument_plain : (n : Nest) → n.barred ≡ [] → argument_of n ≡ plain_argument n.points n.deps
unfolding argument_of
argument_plain n none = rw none

argument_barred : (n : Nest) → 0 < length n.barred →
    argument_of n ≡ plain_argument (reduced n.points n.barred n.deps).points
    (reduced n.points n.barred n.deps).deps
unfolding argument_of
argument_barred n some = rw (ne_eqb (length n.barred) 0 (λ z. omega arith))

-- whatever nest is accepted and not blocked, the argument given for its key holds
pub argued : (n : Nest) → is_valid n ≡ true → is_blocked n ≡ false → holds n (key_of n) (argument_of n) ≡ true
argued n valid unblocked = go n.barred refl
  where
    go : (bs : List ℕ) → n.barred ≡ bs → holds n (key_of n) (argument_of n) ≡ true
    go [] e = rw (key_plain n e, argument_plain n e) (plain_argued n valid e)
    go (b ∷ bs) e =
        let some : length n.barred ≡ length (b ∷ bs) = ap length e in
        let pos : 0 < length n.barred = omega (arith, some) in
        let one : one_loop n.points ≡ true = ⊎_elim
        (λ (z : n.barred ≡ []). (let none : length n.barred ≡ 0 = ap length z in absurd (omega (arith, none, pos))))
        (λ (z : one_loop n.points ≡ true). z)
        (bars_or_one_loop n.points n.barred (valid_is n valid).all_bars) in
        rw (key_barred n pos, argument_barred n pos) (barred_argued n valid one unblocked)

-- the two together
pub key_by_argument : (n : Nest) → is_valid n ≡ true → is_blocked n ≡ false → IsKey n (key_of n)
key_by_argument n valid unblocked =
    argued_key n (valid_is n valid).shape (key_of n) (argument_of n) (argued n valid unblocked)

-- shortening owes nothing: whatever list is tried first, it is given only if it holds
pub shorter_argued : (short : Nest → List Claim) (n : Nest) → is_valid n ≡ true → is_blocked n ≡ false →
    holds n (key_of n) (pick (holds n (key_of n) (short n)) (short n) (argument_of n)) ≡ true
shorter_argued short n valid unblocked = go (holds n (key_of n) (short n)) refl
  where
    go : (b : Bool) → holds n (key_of n) (short n) ≡ b → holds n (key_of n) (pick b (short n) (argument_of n)) ≡ true
    go true z = z
    go false z = argued n valid unblocked
