-- The key of a paper: where nothing is barred, that of the nest itself; else that of the nest of the unbarred gaps, taken
-- back; or the nest is blocked.
-- Main statements: `open_paper`, `one_loop_paper`, `paper_plain`, `ring_valid`, `paper_barred`.
use mathlib.Core.Path.{◌≡◌, refl, sym, ap, ◌∙◌}
use mathlib.Core.Bool.{true, false}
use mathlib.Core.List.{List, [], ◌∷◌}
use mathlib.Core.Logic.{⊎_elim}
use Prim.Native.Nat.{ℕ, ◌-◌, ◌<◌}
use native.Mathlib.Omega.{arith}
use lib.ListN.{length}
use Rattle.std.specs.Prelude.{Some}
use Rattle.paper_nests.specs.Nests.{Nest}
use Rattle.paper_nests.specs.Ring.{one_loop}
use Rattle.paper_nests.specs.Valid.{is_valid}
use Rattle.paper_nests.specs.Stored.{nest_in, IsCounted}
use Rattle.paper_nests.specs.declared.Nest as DN
use Rattle.paper_nests.proofs.Deps.{valid_is, deps_fit}
use Rattle.paper_nests.proofs.Bars.{bars_or_one_loop}
use Rattle.paper_placements.specs.Words.{gaps_in}
use Rattle.paper_placements.specs.declared.Placement as PL
use Rattle.paper_barred.specs.Ranks.{unranked}
use Rattle.paper_barred.specs.Reduced.{is_blocked, reduced}
use Rattle.paper_barred.proofs.ReducedNest.{reduced_valid}
use Rattle.paper_barred.proofs.Blocked.{unbarred_open}
use Rattle.plan_theorem.specs.KeyOf.{plain_key, key_of}
use Rattle.plan_theorem.proofs.KeyGaps.{planned_words, key_plain, key_barred}
use Rattle.plan_nest.specs.Planned as Plan
use Rattle.plan_paper.specs.Renumbering.{ReduceSays}
use Rattle.plan_paper.specs.Papers.{PaperSays}

module _ (nest : DN.Nest) (counted : IsCounted nest) (valid : is_valid (nest_in nest) ≡ true) where
  abbrev n : Nest
  n = nest_in nest

  -- no barred gap is counted, so nothing is barred
  none_barred : nest.bars ≡ 0 → (nest_in nest).barred ≡ []
  none_barred z = empty (nest_in nest).barred (sym counted.bars_is ∙ z)
    where
      empty : (bs : List ℕ) → length bs ≡ 0 → bs ≡ []
      empty [] e = refl
      empty (b ∷ bs) e = absurd (omega arith)

  pub open_paper : nest.bars ≡ 0 → is_blocked (nest_in nest) ≡ false
  open_paper z = unbarred_open n valid (none_barred z)

  pub paper_plain
      : (key : PL.Placement) → nest.bars ≡ 0 → Plan.PlanSays (nest_in nest) key.words
      → PaperSays (nest_in nest) (Some key)
  paper_plain key z p =
      let o = open_paper z in
      let k = planned_words n key.words valid p ∙ sym (key_plain n (none_barred z)) in
      record { blocked_is = sym o; key_is = rw o k }

  module _ (some : nest.bars ≡ 0 → ⊥) where
    -- a nest with barred gaps has one loop
    pub one_loop_paper : one_loop (nest_in nest).points ≡ true
    one_loop_paper = ⊎_elim
        (λ (z : n.barred ≡ []). absurd (some (counted.bars_is ∙ ap length z)))
        (λ (z : one_loop n.points ≡ true). z)
        (bars_or_one_loop n.points n.barred (valid_is n valid).all_bars)

    module _ (ring : DN.Nest) (says : ReduceSays (nest_in nest) (Some ring)) where
      unblocked : is_blocked (nest_in nest) ≡ false
      unblocked = sym says.blocked_is

      ring_is : nest_in ring ≡ reduced (nest_in nest).points (nest_in nest).barred (nest_in nest).deps
      ring_is = says.ring_says.ring_is ∙ rw unblocked refl

      -- the nest of the unbarred gaps is valid
      pub ring_valid : is_valid (nest_in ring) ≡ true
      ring_valid =
          let v = valid_is n valid in
          ap is_valid ring_is ∙
          reduced_valid n.points n.barred v.shape one_loop_paper n.deps v.few_points v.few_deps
          (deps_fit n.points n.deps v.all-deps) unblocked

      pub paper_barred
          : (key back : PL.Placement)
          → Plan.PlanSays (nest_in ring) key.words
          → gaps_in back.words ≡ unranked (nest_in nest).barred (nest.count - 1) (gaps_in key.words)
          → PaperSays (nest_in nest) (Some back)
      paper_barred key back p e =
          let many : 0 < length n.barred = omega (arith, counted.bars_is, some) in
          let k : gaps_in key.words ≡ plain_key (reduced n.points n.barred n.deps) =
          planned_words (nest_in ring) key.words ring_valid p ∙ ap plain_key ring_is in
          let z : gaps_in back.words ≡ key_of n =
          e ∙ ap (λ (c : ℕ). unranked n.barred (c - 1) (gaps_in key.words)) counted.count_is ∙
          ap (unranked n.barred (length n.points - 1)) k ∙ sym (key_barred n many) in
          record { blocked_is = sym unblocked; key_is = rw unblocked z }
