-- What a reply without number is worth: the text is read and the argument holds, so the placement is a key.
-- Main statements: `weighed_holds`, `weighed_iff`, `weighed_key`.
use mathlib.Core.Path.{◌≡◌, refl, sym, ◌∙◌}
use mathlib.Core.Bool.{Bool, true, false, ◌&&◌}
use mathlib.Core.List.{List}
use mathlib.Core.Logic.{◌↔◌}
use Prim.Native.Nat.{ℕ}
use lib.Dec.{eqb}
use borrow.Author.Tests.{eqb-true, eq-eqb}
use Rattle.laws.specs.Choice.{pick}
use Rattle.laws.proofs.Tests.{and_true, and_intro}
use Rattle.paper_nests.specs.Nests.{Nest}
use Rattle.paper_nests.specs.Valid.{is_shape}
use Rattle.paper_placements.specs.Placements.{is_correct}
use Rattle.paper_order.specs.Keys.{IsKey}
use Rattle.argue_claims.specs.Arguments.{holds}
use Rattle.argue_claims.proofs.Theorem.{argued_key}
use Rattle.argue_texts.specs.ArgumentTexts.{argument_fault, claims_in}
use Rattle.argue_texts.proofs.Holding.{text_holds}
use Rattle.call_argument.specs.Says.{PLACEMENT, ARGUMENT, UNHELD, reply, unheld_of, weighed_by}

module _ (n : Nest) (gs s : List ℕ) where
  -- the reply has no number exactly where the text is read and its argument holds
  pub weighed_holds
      : eqb (weighed_by n gs s).number 0 ≡ (eqb (argument_fault s).number 0 && holds n gs (claims_in s))
  weighed_holds = go (eqb (argument_fault s).number 0) refl
    where
      held
          : (c u : Bool)
          → eqb
          (pick c (pick u (reply 0 0 0) (reply UNHELD ARGUMENT (unheld_of n gs s))) (reply UNHELD PLACEMENT 0)).number
          0
          ≡ (c && u)
      held true true = refl
      held true false = refl
      held false true = refl
      held false false = refl

      go
          : (t : Bool)
          → eqb (argument_fault s).number 0 ≡ t
          → eqb
          (pick t
          (pick (is_correct n gs)
          (pick (eqb (unheld_of n gs s) 0) (reply 0 0 0) (reply UNHELD ARGUMENT (unheld_of n gs s)))
          (reply UNHELD PLACEMENT 0))
          (reply (argument_fault s).number ARGUMENT (argument_fault s).place)
          ).number
          0
          ≡ (t && holds n gs (claims_in s))
      go true e =
          held (is_correct n gs) (eqb (unheld_of n gs s) 0) ∙
          text_holds n gs s (eqb-true (argument_fault s).number 0 e)
      go false e = e

  pub weighed_iff
      : ((weighed_by n gs s).number ≡ 0) ↔ (((argument_fault s).number ≡ 0) × (holds n gs (claims_in s) ≡ true))
  weighed_iff = (
    (λ z.
        let both =
        and_true (eqb (argument_fault s).number 0) (holds n gs (claims_in s))
        (sym weighed_holds ∙ eq-eqb (weighed_by n gs s).number 0 z) in
        (eqb-true (argument_fault s).number 0 both.0, both.1)),
    (λ h.
        eqb-true (weighed_by n gs s).number 0
        (weighed_holds ∙ and_intro (eq-eqb (argument_fault s).number 0 h.0) h.1)),
  )

  -- then the placement is a key of the nest, whoever found it
  pub weighed_key : is_shape n.points ≡ true → (weighed_by n gs s).number ≡ 0 → IsKey n gs
  weighed_key shape none = argued_key n shape gs (claims_in s) (weighed_iff.0 none).1
