-- The call, one law for each way through it.
-- Main statements: `compare_refused`, `compare_first`, `compare_second`, `compare_given`.
use mathlib.Core.Path.{◌≡◌, ap, ◌∙◌}
use mathlib.Core.Bool.{false}
use mathlib.Core.List.{List}
use Prim.Native.Nat.{ℕ}
use borrow.Author.Tests.{eq-eqb, ne_eqb}
use Rattle.paper_texts.specs.PlacementTexts.{placed}
use Rattle.desk.specs.Desks.{Desk, state_fault}
use Rattle.desk.specs.Says.{read_in}
use Rattle.call_compare.specs.Says.{refusal, weighed, compare_of}

module _ (x : Desk) (s t : List ℕ) where
  -- 10
  pub compare_refused
      : (k : ℕ) → k ≡ state_fault false x → (k ≡ 0 → ⊥) → refusal k 0 0 ≡ compare_of x s t
  compare_refused k e h = rw (ne_eqb (state_fault false x) 0 (λ z. h (e ∙ z))) (ap (λ (n : ℕ). refusal n 0 0) e)

  module _ (none : state_fault false x ≡ 0) (n l : ℕ) (gs : List ℕ) (r : placed n l gs ≡ read_in x s) where
    -- a fault of the first text
    pub compare_first : (n ≡ 0 → ⊥) → refusal n 1 l ≡ compare_of x s t
    compare_first h = rw (eq-eqb (state_fault false x) 0 none, ← r, ne_eqb n 0 h)

    module _ (good : n ≡ 0) (m k : ℕ) (hs : List ℕ) (q : placed m k hs ≡ read_in x t) where
      pub compare_second : (m ≡ 0 → ⊥) → refusal m 2 k ≡ compare_of x s t
      compare_second h = rw (eq-eqb (state_fault false x) 0 none, ← r, eq-eqb n 0 good, ← q, ne_eqb m 0 h)

      pub compare_given : m ≡ 0 → weighed x.nest_is gs hs ≡ compare_of x s t
      compare_given h = rw (eq-eqb (state_fault false x) 0 none, ← r, eq-eqb n 0 good, ← q, eq-eqb m 0 h)
