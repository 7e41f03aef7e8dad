-- The arguments of P, Q and R as texts: read, refused and judged, by computation.
-- Main statement: `argument_cases`.
use mathlib.Core.Path.{◌≡◌, refl}
use mathlib.Core.List.{List, [], ◌∷◌, ◌++◌}
use Prim.Native.Nat.{ℕ}
use Rattle.paper_nests.proofs.Cases.{paper_P, paper_Q, paper_R}
use Rattle.paper_lines.specs.Lines.{lines_of, frame_of, line_text}
use Rattle.argue_claims.specs.Arguments.{Claim, claim, st, lots}
use Rattle.argue_texts.specs.ArgumentTexts.{argument_fault, fault_from, fault, claims_in, rest_of, parts_of}
use Rattle.argue_texts.specs.ArgumentTexts.{argument_text, steps_text, CLAIM, BY, DEPENDENCE, FROM, UPTO}
use Rattle.argue_texts.specs.Judged.{judge_from, judged}

abbrev for_P : List Claim
for_P = claim 1 0 0 (st 2 0 ∷ []) ∷ claim 7 0 0 (st 4 0 ∷ []) ∷ []

abbrev for_Q : List Claim
for_Q =
    claim 3 0 0 (st 3 0 ∷ []) ∷ claim 3 5 4 (st 0 0 ∷ st 1 0 ∷ []) ∷ claim 0 0 0 (st 4 2 ∷ st 2 0 ∷ []) ∷ []

abbrev for_R : List Claim
for_R = claim 0 0 0 (st 3 0 ∷ st 4 0 ∷ st 2 0 ∷ []) ∷ []

-- Q's argument, a frame a line
abbrev text_Q : List ℕ
text_Q =
    line_text (CLAIM ∷ 3 ∷ 0 ∷ 0 ∷ []) ++ line_text (DEPENDENCE ∷ 0 ∷ 1 ∷ []) ++ line_text (CLAIM ∷ 3 ∷ 5 ∷ 4 ∷ []) ++
    line_text (FROM ∷ []) ++ line_text (UPTO ∷ []) ++ line_text (CLAIM ∷ 0 ∷ 0 ∷ 0 ∷ []) ++ line_text (BY ∷ 0 ∷ 1 ∷ []) ++
    line_text (DEPENDENCE ∷ 0 ∷ 2 ∷ []) ++ line_text (DEPENDENCE ∷ 0 ∷ 0 ∷ [])

pub record Argument-cases : Type 0 where
  pub spelled_Q : argument_text for_Q ≡ text_Q
  pub accepted_Q : argument_fault text_Q ≡ fault 0 0
  pub claims_Q : claims_in text_Q ≡ for_Q
  pub holds_P : judged paper_P (5 ∷ 11 ∷ []) (parts_of (lines_of (argument_text for_P))) ≡ 0
  pub holds_Q : judged paper_Q (2 ∷ 6 ∷ []) (parts_of (lines_of text_Q)) ≡ 0
  pub holds_R : judged paper_R (1 ∷ 4 ∷ []) (parts_of (lines_of (argument_text for_R))) ≡ 0
  pub dearer_P : judged paper_P (3 ∷ 9 ∷ 13 ∷ []) (parts_of (lines_of (argument_text for_P))) ≡ 5
  pub dearer_Q : judged paper_Q (4 ∷ 7 ∷ []) (parts_of (lines_of text_Q)) ≡ 8
  pub no_claim : argument_fault (line_text (FROM ∷ [])) ≡ fault 4 1
  pub leads_none : argument_fault (line_text (CLAIM ∷ 0 ∷ 0 ∷ 0 ∷ []) ++ line_text (BY ∷ 0 ∷ 0 ∷ [])) ≡ fault 4 3
  pub not_known : argument_fault (line_text (CLAIM ∷ 0 ∷ 0 ∷ [])) ≡ fault 2 1
  pub not_ended : argument_fault (51 ∷ 49 ∷ []) ≡ fault 1 1

pub argument_cases : Argument-cases
unfolding lots lines_of frame_of argument_fault fault_from claims_in rest_of argument_text steps_text judge_from judged
argument_cases =
    record {
      spelled_Q = refl;
      accepted_Q = refl;
      claims_Q = refl;
      holds_P = refl;
      holds_Q = refl;
      holds_R = refl;
      dearer_P = refl;
      dearer_Q = refl;
      no_claim = refl;
      leads_none = refl;
      not_known = refl;
      not_ended = refl;
    }
