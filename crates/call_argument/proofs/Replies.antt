-- The calls, one law for each way through them.
-- Main statements: `key_refused`, `key_weighed`; `placement_refused`, `placement_faulty`, `placement_weighed`,
-- `placement_avoids`.
use mathlib.Core.Path.{◌≡◌, ap, ◌∙◌}
use mathlib.Core.Bool.{true, false}
use mathlib.Core.List.{List}
use Prim.Native.Nat.{ℕ}
use lib.ListN.{length}
use borrow.Author.Tests.{eq-eqb, ne_eqb}
use Rattle.paper_placements.specs.Placements.{avoids}
use Rattle.paper_texts.specs.PlacementTexts.{Placed, placed}
use Rattle.paper_texts.proofs.PlacedTexts.{read_avoids}
use Rattle.desk.specs.Desks.{Desk, state_fault}
use Rattle.desk.specs.Says.{read_in}
use Rattle.call_argument.specs.Says.{PLACEMENT, reply, weighed_by}
use Rattle.call_argument.specs.Says.{weigh_of, weigh_placement_of}

-- against the key
module _ (x : Desk) (s : List ℕ) where
  -- 10, 11
  pub key_refused : (k : ℕ) → k ≡ state_fault true x → (k ≡ 0 → ⊥) → reply k 0 0 ≡ weigh_of x s
  key_refused k e h = rw (ne_eqb (state_fault true x) 0 (λ z. h (e ∙ z))) (ap (λ (n : ℕ). reply n 0 0) e)

  pub key_weighed : state_fault true x ≡ 0 → weighed_by x.nest_is x.key s ≡ weigh_of x s
  key_weighed none = rw (eq-eqb (state_fault true x) 0 none)

-- against a placement text
module _ (x : Desk) (p s : List ℕ) where
  -- 10
  pub placement_refused : (k : ℕ) → k ≡ state_fault false x → (k ≡ 0 → ⊥) → reply k 0 0 ≡ weigh_placement_of x p s
  placement_refused k e h = rw (ne_eqb (state_fault false x) 0 (λ z. h (e ∙ z))) (ap (λ (n : ℕ). reply n 0 0) e)

  module _ (none : state_fault false x ≡ 0) (n l : ℕ) (gs : List ℕ) (r : placed n l gs ≡ read_in x p) where
    pub placement_faulty : (n ≡ 0 → ⊥) → reply n PLACEMENT l ≡ weigh_placement_of x p s
    placement_faulty h = rw (eq-eqb (state_fault false x) 0 none, ← r, ne_eqb n 0 h)

    pub placement_weighed : n ≡ 0 → weighed_by x.nest_is gs s ≡ weigh_placement_of x p s
    placement_weighed h = rw (eq-eqb (state_fault false x) 0 none, ← r, eq-eqb n 0 h)

-- what was read has no barred gap
pub placement_avoids
    : (x : Desk) (p : List ℕ) (n l : ℕ) (gs : List ℕ)
    → placed n l gs ≡ read_in x p
    → avoids x.nest_is.barred gs ≡ true
placement_avoids x p n l gs e =
    rw (ap (λ (y : Placed). y.gaps) e) (read_avoids (length x.nest_is.points) x.nest_is.barred p)
