-- The list of the listed loops, and the words' list.
-- Main statements: `in_listed`, `in_listed_iff`; `in_words`.
use mathlib.Core.Path.{◌≡◌, sym, ◌∙◌}
use mathlib.Core.Bool.{true, false}
use mathlib.Core.List.{List}
use mathlib.Core.Logic.{◌↔◌, ⊎_elim}
use Prim.Native.Nat.{ℕ, ◌≤◌, ◌<◌}
use native.Mathlib.Omega.{arith}
use lib.ListN.{length}
use Rattle.laws.specs.Choice.{is_in}
use Rattle.laws.proofs.Tests.{le_or, false_by, never_both}
use Rattle.paper_nests.specs.Nests.{Dep}
use Rattle.paper_nests.proofs.Levels.{point_in}
use Rattle.paper_placements.specs.Words.{GAPS, holds, gaps_in}
use Rattle.paper_placements.proofs.Words.{gaps_of_in, gaps_of_to, in_gaps, in_gaps_beyond}
use Rattle.call_missing.specs.Foreign.{AreFlags}
use Rattle.call_missing.specs.Listed.{is_listed, listed_of, NeedsBarrier}
use Rattle.call_missing.proofs.Foreign.{foreign_flagged}
use Rattle.call_missing.proofs.Listed.{listed_iff}

module _ (ps : List ℕ) (ds : List Dep) (fs gs : List ℕ) (flags : AreFlags ps fs) where
  -- a listed loop is one of the points
  pub listed_below : (d : ℕ) → length ps ≤ d → is_listed ps ds fs gs d ≡ false
  listed_below d h = false_by λ z.
      let n = (listed_iff ps fs gs ds d).0 z in
      omega (arith, point_in ps d 0 (flags d (foreign_flagged ps fs n.dep d n.foreign)))

  -- the list has the listed loops
  pub in_listed : (d : ℕ) → is_in d (listed_of ps ds fs gs) ≡ is_listed ps ds fs gs d
  unfolding listed_of
  in_listed d = ⊎_elim
      (λ (z : length ps ≤ d).
      gaps_of_to (is_listed ps ds fs gs) (length ps) 0 d (omega arith) ∙ sym (listed_below d z))
      (λ (z : d < length ps). gaps_of_in (is_listed ps ds fs gs) (length ps) 0 d (omega arith) (omega arith))
      (le_or (length ps) d)

  pub in_listed_iff : (d : ℕ) → (is_in d (listed_of ps ds fs gs) ≡ true) ↔ NeedsBarrier ps ds fs gs d
  in_listed_iff d =
      let z = listed_iff ps fs gs ds d in
      (λ h. z.0 (sym (in_listed d) ∙ h), λ n. in_listed d ∙ z.1 n)

-- a member of the words' list is a bit of the words
pub in_words : (ws : List ℕ) (d : ℕ) → is_in d (gaps_in ws) ≡ true → (d < GAPS) × (holds ws d ≡ true)
in_words ws d h = ⊎_elim
    (λ (z : GAPS ≤ d). never_both h (in_gaps_beyond ws d z))
    (λ (z : d < GAPS). (z, sym (in_gaps ws d z) ∙ h))
    (le_or GAPS d)
