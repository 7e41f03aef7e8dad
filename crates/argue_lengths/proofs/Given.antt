-- The text of a key's argument is read as that argument, and so it holds.
-- Main statements: `text_back`, `text_weighs`.
use mathlib.Core.Path.{◌≡◌}
use mathlib.Core.Bool.{true, false}
use Rattle.paper_nests.specs.Nests.{Nest}
use Rattle.paper_nests.specs.Valid.{is_valid}
use Rattle.paper_barred.specs.Reduced.{is_blocked}
use Rattle.plan_theorem.specs.KeyOf.{key_of}
use Rattle.argue_claims.specs.Arguments.{holds}
use Rattle.argue_key.specs.Laps.{argument_of}
use Rattle.argue_key.proofs.Argued.{argued}
use Rattle.argue_texts.specs.ArgumentTexts.{argument_fault, claims_in, argument_text}
use Rattle.argue_lengths.proofs.ReadsBack.{claims_back, spelled_holds}
use Rattle.argue_lengths.proofs.Numbers.{argument_spells}

module _ (n : Nest) (valid : is_valid n ≡ true) (unblocked : is_blocked n ≡ false) where
  pub text_back : claims_in (argument_text (argument_of n)) ≡ argument_of n
  text_back = claims_back (argument_of n) (argument_spells n valid unblocked)

  -- what Weigh asks of it, against the key
  pub text_weighs : ((argument_fault (argument_text (argument_of n))).number ≡ 0) ×
      (holds n (key_of n) (claims_in (argument_text (argument_of n))) ≡ true)
  text_weighs = spelled_holds (argument_of n) (argument_spells n valid unblocked) n (key_of n) (argued n valid unblocked)
