-- Each condition of `holds` is needed: without it an argument is accepted for a placement that is no key. Of each a
-- small paper, the placement, its argument, which `holds` refuses, and a correct placement that is better.
-- Reason 1 for "out" has no condition to drop: without it the keys of a paper with barred gaps have no argument
-- (`bars_needed`). Not among them, as no paper is known where they matter: that a gap out by a count of 0 is not the
-- claim's own loop's, that a claim which is known or led to speaks of a loop inside, and that one led to has both ends.
-- Main definitions: `Refuted`, `Needed`. Main statements: `needed`, `bars_needed`.
use mathlib.Core.Path.{◌≡◌, refl}
use mathlib.Core.Bool.{true, false}
use mathlib.Core.List.{List, [], ◌∷◌}
use Prim.Native.Nat.{ℕ}
use Rattle.laws.proofs.Tests.{never}
use Rattle.paper_nests.specs.Nests.{Nest, nest}
use Rattle.paper_nests.specs.Valid.{is_valid}
use Rattle.paper_nests.proofs.Cases.{forward, carried, paper_barred}
use Rattle.paper_placements.specs.Placements.{is_correct}
use Rattle.paper_order.specs.LoopOrder.{as_good}
use Rattle.paper_order.specs.Keys.{IsKey}
use Rattle.argue_claims.specs.Arguments.{Claim, claim, st, lots, all_hold, holds}
use Rattle.argue_claims.proofs.Theorem.{argued_key}
use Rattle.argue_claims.proofs.Conditions.{without, ruled, CORRECT, ALL-LOW, THERE, IN-RANGE, OWN, FORGETS}
use Rattle.argue_claims.proofs.Conditions.{STAYS, LEADS-FROM, LEADS-IN, LOW-END, MORE-END, MOST, EMPTY, EXACT}
use Rattle.argue_claims.proofs.Conditions.{STANDS, FACT-IN, FACT-UPTO, CLAIM-IN, NO-FROM, NO-UPTO}

-- the rule without condition c accepts an argument of a placement that is no key
pub record Refuted (c : ℕ) (n : Nest) (key : List ℕ) (cs : List Claim) : Type 0 where
  pub valid : is_valid n ≡ true
  pub accepted : ruled (without c) n key cs ≡ true
  pub refused : holds n key cs ≡ false
  pub no_key : IsKey n key → ⊥

no_best : (n : Nest) (key other : List ℕ) → is_correct n other ≡ true → as_good n key other ≡ false → IsKey n key → ⊥
no_best n key other c b k = never (rw b at (k.least other c))

-- ---- papers

-- 01 03 02 with 110001: of gaps 1 and 2 the first alone does
abbrev one : Nest
one = nest (1 ∷ 3 ∷ 2 ∷ []) (forward 0 1 ∷ [])

-- a loop in a loop, with no statement or one in it; outer gaps 1 and the last
abbrev bare : ℕ → ℕ → Nest
bare s t = nest (1 ∷ 1 ∷ 2 ∷ 2 ∷ []) (forward s t ∷ [])

abbrev inner : ℕ → ℕ → Nest
inner s t = nest (1 ∷ 1 ∷ 3 ∷ 2 ∷ 2 ∷ []) (forward s t ∷ [])

abbrev two : ℕ → ℕ → ℕ → ℕ → Nest
two s t u v = nest (1 ∷ 1 ∷ 3 ∷ 2 ∷ 2 ∷ []) (forward s t ∷ forward u v ∷ [])

-- an inner ring like R, where gap 5 lies in one dependence only, and one that leaves it there
abbrev ring : Nest
ring = nest (1 ∷ 1 ∷ 3 ∷ 3 ∷ 3 ∷ 2 ∷ 2 ∷ []) (forward 1 3 ∷ forward 2 4 ∷ carried 1 3 2 ∷ forward 4 6 ∷ [])

-- three loops, the middle one with its barrier before the innermost
abbrev deep : Nest
deep = nest (1 ∷ 1 ∷ 3 ∷ 1 ∷ 3 ∷ 2 ∷ 2 ∷ 2 ∷ []) (forward 1 2 ∷ forward 3 5 ∷ forward 4 7 ∷ [])

-- the low claim of a loop by single dependences
abbrev low : ℕ → ℕ → Claim
low d e = claim d 0 0 (st e 0 ∷ [])

-- ---- all of them

pub record Needed : Type 0 where
  pub correct : Refuted CORRECT one [] []
  pub all-low : Refuted ALL-LOW one (1 ∷ 2 ∷ []) []
  pub there : Refuted THERE one (1 ∷ 2 ∷ []) (claim 0 0 0 (st 0 0 ∷ st 0 0 ∷ []) ∷ [])
  pub in_range : Refuted IN-RANGE (bare 1 3) (2 ∷ []) (low 1 2 ∷ [])
  pub own : Refuted OWN (bare 1 2) (1 ∷ 2 ∷ []) (low 1 2 ∷ low 0 2 ∷ [])
  pub forgets
      : Refuted FORGETS (two 1 2 2 4) (1 ∷ 2 ∷ 4 ∷ [])
      (low 1 2 ∷ claim 1 3 2 (st 2 0 ∷ st 0 0 ∷ []) ∷ claim 0 0 0 (st 3 2 ∷ st 2 0 ∷ st 2 0 ∷ []) ∷ [])
  pub stays
      : Refuted STAYS (inner 2 3) (1 ∷ 3 ∷ [])
      (low 1 2 ∷ claim 1 3 2 (st 2 0 ∷ st 1 0 ∷ []) ∷ claim 0 0 0 (st 2 2 ∷ []) ∷ [])
  pub leads_from
      : Refuted LEADS-FROM (inner 1 2) (1 ∷ 2 ∷ [])
      (low 1 2 ∷ claim 1 3 2 (st 2 0 ∷ st 0 0 ∷ []) ∷ claim 0 0 0 (st 2 2 ∷ st 2 0 ∷ []) ∷ [])
  pub leads_in
      : Refuted LEADS-IN (two 1 2 2 4) (1 ∷ 2 ∷ 4 ∷ [])
      (low 1 2 ∷ claim 1 3 2 (st 2 0 ∷ st 0 0 ∷ []) ∷ claim 0 0 0 (st 3 0 ∷ st 3 2 ∷ st 2 0 ∷ []) ∷ [])
  pub low_end : Refuted LOW-END one (1 ∷ 2 ∷ []) (low 0 2 ∷ [])
  pub more_end
      : Refuted MORE-END (inner 1 3) (1 ∷ 2 ∷ [])
      (low 1 2 ∷ claim 1 0 2 (st 2 0 ∷ []) ∷ claim 1 3 0 (st 2 0 ∷ []) ∷ low 0 2 ∷ [])
  pub most : Refuted MOST one (1 ∷ 2 ∷ []) (claim 0 0 0 (st 2 0 ∷ st 2 0 ∷ []) ∷ [])
  pub empty : Refuted EMPTY (bare 1 2) (1 ∷ 2 ∷ []) (low 1 2 ∷ low 0 2 ∷ [])
  pub exact : Refuted EXACT ring (2 ∷ 3 ∷ 6 ∷ []) (claim 1 0 0 (st 2 0 ∷ st 3 0 ∷ st 4 0 ∷ []) ∷ low 0 5 ∷ [])
  pub stands : Refuted STANDS deep (2 ∷ 4 ∷ 7 ∷ []) (low 3 3 ∷ low 1 2 ∷ low 0 4 ∷ [])
  pub fact_in
      : Refuted FACT-IN (two 0 2 2 3) (1 ∷ 3 ∷ 4 ∷ [])
      (low 1 3 ∷ claim 1 3 2 (st 3 0 ∷ st 1 0 ∷ []) ∷ claim 0 0 0 (st 2 0 ∷ st 3 2 ∷ st 2 0 ∷ []) ∷ [])
  pub fact_upto
      : Refuted FACT-UPTO (inner 2 3) (1 ∷ 3 ∷ [])
      (low 1 2 ∷ claim 1 3 2 (st 2 0 ∷ st 1 0 ∷ []) ∷ claim 0 0 0 (st 2 2 ∷ st 2 0 ∷ []) ∷ [])
  pub claim_in
      : Refuted CLAIM-IN (inner 0 4) (1 ∷ 4 ∷ [])
      (claim 1 0 2 (st 1 0 ∷ []) ∷ claim 1 3 0 (st 0 0 ∷ []) ∷ claim 0 0 0 (st 2 0 ∷ st 2 0 ∷ []) ∷ [])
  pub no_from
      : Refuted NO-FROM (inner 1 2) (1 ∷ 2 ∷ []) (low 1 2 ∷ claim 1 3 2 (st 2 0 ∷ st 0 0 ∷ []) ∷ low 0 2 ∷ [])
  pub no_upto
      : Refuted NO-UPTO (inner 2 3) (1 ∷ 3 ∷ []) (low 1 2 ∷ claim 1 3 2 (st 2 0 ∷ st 1 0 ∷ []) ∷ low 0 2 ∷ [])

-- where all four are computed
abbrev by : {c : ℕ} {n : Nest} {key : List ℕ} {cs : List Claim} → is_valid n ≡ true →
    ruled (without c) n key cs ≡ true → holds n key cs ≡ false → (IsKey n key → ⊥) → Refuted c n key cs
by v a r k = record { valid = v; accepted = a; refused = r; no_key = k }

pub needed : Needed
unfolding lots
needed =
    record {
      correct = by refl refl refl (λ k. never k.correct);
      all-low = by refl refl refl (no_best one (1 ∷ 2 ∷ []) (1 ∷ []) refl refl);
      there = by refl refl refl (no_best one (1 ∷ 2 ∷ []) (1 ∷ []) refl refl);
      in_range = by refl refl refl (no_best (bare 1 3) (2 ∷ []) (3 ∷ []) refl refl);
      own = by refl refl refl (no_best (bare 1 2) (1 ∷ 2 ∷ []) (2 ∷ []) refl refl);
      forgets = by refl refl refl (no_best (two 1 2 2 4) (1 ∷ 2 ∷ 4 ∷ []) (2 ∷ 4 ∷ []) refl refl);
      stays = by refl refl refl (no_best (inner 2 3) (1 ∷ 3 ∷ []) (3 ∷ []) refl refl);
      leads_from = by refl refl refl (no_best (inner 1 2) (1 ∷ 2 ∷ []) (2 ∷ []) refl refl);
      leads_in = by refl refl refl (no_best (two 1 2 2 4) (1 ∷ 2 ∷ 4 ∷ []) (2 ∷ 4 ∷ []) refl refl);
      low_end = by refl refl refl (no_best one (1 ∷ 2 ∷ []) (1 ∷ []) refl refl);
      more_end = by refl refl refl (no_best (inner 1 3) (1 ∷ 2 ∷ []) (2 ∷ []) refl refl);
      most = by refl refl refl (no_best one (1 ∷ 2 ∷ []) (1 ∷ []) refl refl);
      empty = by refl refl refl (no_best (bare 1 2) (1 ∷ 2 ∷ []) (2 ∷ []) refl refl);
      exact = by refl refl refl (no_best ring (2 ∷ 3 ∷ 6 ∷ []) (3 ∷ 5 ∷ []) refl refl);
      stands = by refl refl refl (no_best deep (2 ∷ 4 ∷ 7 ∷ []) (2 ∷ 5 ∷ []) refl refl);
      fact_in = by refl refl refl (no_best (two 0 2 2 3) (1 ∷ 3 ∷ 4 ∷ []) (1 ∷ 3 ∷ []) refl refl);
      fact_upto = by refl refl refl (no_best (inner 2 3) (1 ∷ 3 ∷ []) (3 ∷ []) refl refl);
      claim_in = by refl refl refl (no_best (inner 0 4) (1 ∷ 4 ∷ []) (1 ∷ []) refl refl);
      no_from = by refl refl refl (no_best (inner 1 2) (1 ∷ 2 ∷ []) (2 ∷ []) refl refl);
      no_upto = by refl refl refl (no_best (inner 2 3) (1 ∷ 3 ∷ []) (3 ∷ []) refl refl);
    }

-- reason 1: without it, what is said of 3 and 5 on the paper with gaps 1, 2 and 4 barred is said of the paper without
-- bars, where gap 1 alone does
pub bars_needed : (cs : List Claim) →
    all_hold (nest paper_barred.points paper_barred.deps) (3 ∷ 5 ∷ []) [] cs ≡ true → ⊥
bars_needed cs h =
    no_best (nest paper_barred.points paper_barred.deps) (3 ∷ 5 ∷ []) (1 ∷ []) refl refl
    (argued_key (nest paper_barred.points paper_barred.deps) refl (3 ∷ 5 ∷ []) cs h)
