-- The end of a claim, and the low claims at the end of an argument.
-- Main definition: `LowFrom`. Main statements: `shown_low`, `shown_more`, `exact_low`, `count_few`, `shown_room`.
use mathlib.Core.Path.{◌≡◌, refl, sym, ◌∙◌}
use mathlib.Core.Bool.{Bool, true, false, ◌&&◌}
use mathlib.Core.List.{List, [], ◌∷◌}
use Prim.Native.Nat.{ℕ, zero, suc, ◌+◌, ◌*◌, ◌≤◌, ◌<◌}
use native.Mathlib.Nat.{suc-mul, zero-mul}
use native.Mathlib.Omega.{arith}
use lib.Dec.{eqb, ltb}
use borrow.Author.Tests.{ltb-true}
use Rattle.laws.specs.Choice.{when}
use Rattle.laws.specs.Entries.{at}
use Rattle.laws.proofs.Tests.{and_true}
use Rattle.paper_nests.specs.Nests.{Nest}
use Rattle.paper_nests.specs.Loops.{owner_of}
use Rattle.paper_placements.specs.Placements.{are_gaps_from, loop_count}
use Rattle.argue_claims.specs.Arguments.{lots, greatest}
use Rattle.argue_claims.proofs.Lots.{lots_zero, lots_suc, greatest_in}
use Rattle.argue_texts.specs.ArgumentTexts.{STEPS}
use Rattle.argue_judge.specs.Ends.{shown_by, exact_by, ShownRoom, ClosingRoom, all_low_in}

-- ---- a claim that its steps show

pub lots_product : (m c : ℕ) → c * m ≡ lots m c
lots_product m zero = zero-mul m ∙ sym (lots_zero m)
lots_product m (suc c) =
    let s : suc c * m ≡ c * m + m = suc-mul c m in
    omega (arith, s, lots_product m c, lots_suc m c)

pub shown_low : (low : Bool) (c most count : ℕ) → low ≡ true → ltb (count * most) (c + most) ≡ shown_by low c most count
shown_low low c most count h = rw (h, lots_product most count) refl

pub shown_more : (low : Bool) (c most count : ℕ) → low ≡ false → ltb (count * most) c ≡ shown_by low c most count
shown_more low c most count h =
    let z : c + 0 ≡ c = omega arith in
    rw (h, lots_product most count, z) refl

pub exact_low : (low : Bool) (c most count : ℕ) → low ≡ true → eqb c (count * most) ≡ exact_by low c most count
exact_low low c most count h = rw (h, lots_product most count) refl

-- a loop has no more barriers than there are gaps
pub count_few
    : (n : Nest) (last all : ℕ) (gs : List ℕ) (d : ℕ)
    → last ≤ all
    → are_gaps_from last all gs ≡ true
    → loop_count n gs d + last ≤ all
count_few n last all [] d le h = omega (arith, le)
count_few n last all (g ∷ gs) d le h =
    let p = and_true (ltb last g) (ltb g all && are_gaps_from g all gs) h in
    let q = and_true (ltb g all) (are_gaps_from g all gs) p.1 in
    let up : last < g = ltb-true last g p.0 in
    let in-all : g < all = ltb-true g all q.0 in
    let rest : loop_count n gs d + g ≤ all = count_few n g all gs d (omega (arith, in-all)) q.1 in
    go (eqb (owner_of n.points g) d) up rest
  where
    go : (b : Bool) → last < g → loop_count n gs d + g ≤ all → (when b 1 + loop_count n gs d) + last ≤ all
    go true up rest = omega (arith, up, rest)
    go false up rest = omega (arith, up, rest)

module _ {last c count : ℕ} {times : List ℕ} (r : ClosingRoom last c count times) where
  pub shown_room : (most : ℕ) → most ≡ greatest (at times) last → ShownRoom c most count
  shown_room most e =
      record {
        few_sets = r.few_sets;
        few_times =
            rw e (greatest_in (at times) STEPS last (omega arith) (λ g p q. r.few_times g));
        few_barriers = r.few_barriers;
      }

-- ---- the low claims at the end

module _ (ps counts ws : List ℕ) where
  -- the points from d on have theirs, and those below decide
  pub record LowFrom (all d : ℕ) : Type 0 where
    pub below : d ≤ all
    pub decide : all_low_in ps counts ws all ≡ all_low_in ps counts ws d
