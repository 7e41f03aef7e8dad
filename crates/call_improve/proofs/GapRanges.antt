-- Ranges of gaps: the least entry of a table in a range, and with it the cheapest gap of a dependence.
-- Main statements: `least_on`; `cheapest_line`, `cheapest_ring`.
use mathlib.Core.Path.{◌≡◌, refl, ◌∙◌}
use mathlib.Core.Bool.{true}
use mathlib.Core.List.{List}
use mathlib.Core.Logic.{⊎_elim}
use Prim.Native.Nat.{ℕ, suc, ◌+◌, ◌≤◌, ◌<◌, min}
use native.Mathlib.Omega.{arith}
use lib.ListN.{get_or}
use Rattle.laws.specs.Choice.{between}
use Rattle.laws.proofs.Tests.{le_or, or_left, or_right}
use Rattle.laws.proofs.Ranges.{between_in}
use Rattle.paper_nests.specs.declared.Dependence as DE
use Rattle.paper_nests.specs.Kinds.{INDEPENDENT}
use Rattle.paper_nests.specs.Gaps.{has_gap}
use Rattle.paper_nests.specs.Stored.{dep_in}
use Rattle.paper_nests.proofs.Deps.{line_gap, gap_of_line}
use Rattle.paper_gaps.specs.Lies.{EndsIn}
use Rattle.paper_gaps.proofs.Lies.{ring_gaps, of_ring}
use Rattle.call_improve.specs.Cheapest.{LeastIn, CheapestSays}

-- ---- the least entry

module _ {table : List ℕ} {lo g r : ℕ} (l : LeastIn table lo g r) where
  up_to : (s : ℕ) → s ≤ r → s ≤ get_or table (g + 1) 0 → (i : ℕ) → lo ≤ i → i ≤ g + 1 → s ≤ get_or table i 0
  up_to s p q i a b =
      ⊎_elim
      (λ (z : i ≤ g). omega (arith, l.least i a z))
      (λ (z : g < i). let y : i ≡ g + 1 = omega arith in rw y q)
      (le_or i g)

  pub least_less : get_or table (g + 1) 0 < r → LeastIn table lo (g + 1) (get_or table (g + 1) 0)
  least_less h =
      record {
        at = g + 1;
        low = omega (arith, l.low, l.high);
        high = omega arith;
        is = refl;
        least = up_to (get_or table (g + 1) 0) (omega arith) (omega arith);
      }

  pub least_same : r ≤ get_or table (g + 1) 0 → LeastIn table lo (g + 1) r
  least_same h =
      record {
        at = l.at;
        low = l.low;
        high = omega (arith, l.high);
        is = l.is;
        least = up_to r (omega arith) h;
      }

  pub least_on : {v : ℕ} → v ≡ min r (get_or table (g + 1) 0) → LeastIn table lo (g + 1) v
  least_on {v} e =
      ⊎_elim
      (λ (z : r ≤ get_or table (g + 1) 0). let y : v ≡ r = omega arith in rw y (least_same z))
      (λ (z : get_or table (g + 1) 0 < r).
      let y : v ≡ get_or table (g + 1) 0 = omega arith in
      rw y (least_less z))
      (le_or r (get_or table (g + 1) 0))

-- ---- the cheapest gap of a dependence

module _ {table : List ℕ} (e : DE.Dependence) (end : ℕ) where
  pub cheapest_line
      : (r : ℕ)
      → e.kind ≡ INDEPENDENT
      → LeastIn table (e.s + 1) e.t r
      → CheapestSays table end e r
  cheapest_line r k l ps ends =
      record {
        at = l.at;
        its = gap_of_line ps (dep_in e) l.at k (omega (arith, l.low)) l.high;
        is = l.is;
        least = λ g p. let q = line_gap ps (dep_in e) g k p in l.least g (omega (arith, q.0)) q.1;
      }

  module _
      {a b : ℕ} (k : e.kind ≡ INDEPENDENT → ⊥) (p : LeastIn table (e.d + 1) e.t a)
      (q : LeastIn table (e.s + 1) end b)
    where
      each : (r : ℕ) → r ≤ a → r ≤ b → (ps : List ℕ) → EndsIn ps e end → (g : ℕ) → has_gap ps (dep_in e) g ≡ true →
          r ≤ get_or table g 0
      each r u v ps ends g h =
          ⊎_elim
          (λ (z : (e.d < g) × (g ≤ e.t)). omega (arith, p.least g (omega (arith, z.0)) z.1))
          (λ (z : (e.s < g) × (g ≤ end)). omega (arith, q.least g (omega (arith, z.0)) z.1))
          (of_ring ps e end ends k g h)

      cheapest_first : a ≤ b → CheapestSays table end e a
      cheapest_first h ps ends =
          record {
            at = p.at;
            its =
                ring_gaps ps e end ends k p.at ∙
                or_left
                (between (suc e.s) p.at end)
                (between_in (suc e.d) p.at e.t (omega (arith, p.low)) p.high);
            is = p.is;
            least = each a (omega arith) (omega arith) ps ends;
          }

      cheapest_second : b < a → CheapestSays table end e b
      cheapest_second h ps ends =
          record {
            at = q.at;
            its =
                ring_gaps ps e end ends k q.at ∙
                or_right
                (between (suc e.d) q.at e.t)
                (between_in (suc e.s) q.at end (omega (arith, q.low)) q.high);
            is = q.is;
            least = each b (omega arith) (omega arith) ps ends;
          }

      pub cheapest_ring : {v : ℕ} → v ≡ min a b → CheapestSays table end e v
      cheapest_ring {v} m =
          ⊎_elim
          (λ (z : a ≤ b). let y : v ≡ a = omega arith in rw y (cheapest_first z))
          (λ (z : b < a). let y : v ≡ b = omega arith in rw y (cheapest_second z))
          (le_or a b)
