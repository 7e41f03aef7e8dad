-- The argument of a paper is that of its nest, or of the nest of the gaps that are not barred.
-- Main statements: `spelled_open`, `ring_there`, `spelled_ring`.
use mathlib.Core.Path.{◌≡◌, refl, sym, ◌∙◌, subst}
use mathlib.Core.Bool.{false}
use mathlib.Core.List.{List}
use Prim.Native.Nat.{ℕ}
use Rattle.std.specs.Prelude.{Option, Some, None, IsSome}
use lib.ListN.{length}
use borrow.Author.Tests.{eq-eqb, ne_eqb}
use Rattle.paper_nests.specs.Nests.{Nest}
use Rattle.paper_nests.specs.declared.Nest as DN
use Rattle.paper_nests.specs.Stored.{nest_in, IsCounted}
use Rattle.paper_barred.specs.Reduced.{is_blocked, reduced}
use Rattle.plan_paper.specs.Renumbering.{ReduceSays}
use Rattle.argue_key.specs.Laps.{plain_argument, argument_of}
use Rattle.argue_paper.specs.Spelled.{Spelled}

module _ (nest : DN.Nest) (counted : IsCounted nest) {out out' : List ℕ} {many next : ℕ} where
  -- nothing is barred
  pub spelled_open : nest.bars ≡ 0 →
      Spelled (plain_argument (nest_in nest).points (nest_in nest).deps) out out' many next →
      Spelled (argument_of (nest_in nest)) out out' many next
  unfolding argument_of
  spelled_open z s = rw (eq-eqb (length (nest_in nest).barred) 0 (sym counted.bars_is ∙ z)) s

  -- some gaps are
  module _ (ring : DN.Nest) (says : ReduceSays (nest_in nest) (Some ring)) (unblocked : is_blocked (nest_in nest) ≡ false) where
    pub spelled_ring : (nest.bars ≡ 0 → ⊥) →
        Spelled (plain_argument (nest_in ring).points (nest_in ring).deps) out out' many next →
        Spelled (argument_of (nest_in nest)) out out' many next
    unfolding argument_of
    spelled_ring n s =
        let z : nest_in ring ≡ reduced (nest_in nest).points (nest_in nest).barred (nest_in nest).deps =
        says.ring_says.ring_is ∙ rw unblocked refl in
        let y : Spelled (plain_argument (reduced (nest_in nest).points (nest_in nest).barred (nest_in nest).deps).points
        (reduced (nest_in nest).points (nest_in nest).barred (nest_in nest).deps).deps) out out' many next =
        subst (λ (m : Nest). Spelled (plain_argument m.points m.deps) out out' many next) z s in
        rw (ne_eqb (length (nest_in nest).barred) 0 (λ (x : length (nest_in nest).barred ≡ 0). n (counted.bars_is ∙ x))) y

-- there is a ring of a nest that is not blocked
pub ring_there : (nest : DN.Nest) (r : Option DN.Nest) → ReduceSays (nest_in nest) r → is_blocked (nest_in nest) ≡ false →
    IsSome r
ring_there nest None says z = let y = says.blocked_is ∙ z in cc
ring_there nest (Some ring) says z = refl
