-- The gaps of a dependence as words, and the call.
-- Main statements: `gaps-had`, `gaps-at`; `with_ends`, `gaps_given`.
use mathlib.Core.Path.{◌≡◌, refl, sym, ap, ◌∙◌}
use mathlib.Core.Bool.{true, false}
use mathlib.Core.List.{List, [], ◌∷◌}
use Prim.Native.Nat.{ℕ, zero, suc, ◌-◌, ◌≤◌, ◌<◌}
use native.Mathlib.Omega.{arith}
use lib.Dec.{ltb}
use lib.ListN.{length, get_or, drop}
use borrow.Author.Tests.{lt-ltb}
use Rattle.laws.proofs.Connectives.{or_off}
use Rattle.laws.proofs.Tests.{false_by}
use Rattle.paper_nests.specs.Nests.{Dep}
use Rattle.paper_nests.specs.Loops.{HasEnds}
use Rattle.paper_nests.specs.Gaps.{has_gap}
use Rattle.paper_nests.specs.Stored.{dep_in, nest_in}
use Rattle.paper_nests.proofs.Deps.{Valid, valid_is}
use Rattle.paper_placements.specs.Words.{GAPS, holds, gaps_of, gaps_in}
use Rattle.paper_placements.proofs.Words.{gaps_of_same, gaps_of_up_to}
use Rattle.paper_gaps.specs.Lies.{WithEnds, GapsPut}
use Rattle.paper_gaps.proofs.Lies.{gap_inside, dep_at, found_at, found_ends, found_fits}
use Rattle.desk.specs.declared.Desk as DD
use Rattle.desk.specs.declared.Chosen as DC
use Rattle.desk.specs.Desks.{desk_in, IsMade}
use Rattle.desk.proofs.Choosing.{chooses}
use Rattle.call_gaps.specs.Says.{gaps_had, gaps_at, gaps_fault, GapsSays}

-- words with these gaps and no other
pub gaps-had
    : (ps : List ℕ) (e : Dep) (ws : List ℕ)
    → length ps ≤ GAPS
    → ((g : ℕ) → has_gap ps e g ≡ true → (0 < g) × (g < length ps))
    → ((g : ℕ) → holds ws g ≡ has_gap ps e g)
    → gaps_in ws ≡ gaps_had ps e
unfolding gaps_in gaps_of
gaps-had ps e ws few inside same =
    gaps_of_same (holds ws) (has_gap ps e) GAPS 0 (λ g a l. same g) ∙
    gaps_of_up_to (has_gap ps e) (length ps) GAPS few (λ g a l. false_by (λ h. omega (arith, (inside g h).1))) ∙
    first (length ps)
  where
    none : has_gap ps e 0 ≡ false
    none = false_by (λ h. omega (arith, (inside 0 h).0))

    first : (k : ℕ) → gaps_of (has_gap ps e) k 0 ≡ gaps_of (has_gap ps e) (k - 1) 1
    first zero = refl
    first (suc k) = let z : suc k - 1 ≡ k = omega arith in rw (none, z)

-- those of dependence i of a list
gaps-at
    : (ps : List ℕ) (es : List Dep) (i : ℕ) (e : Dep) (rest : List Dep)
    → drop i es ≡ e ∷ rest
    → gaps_had ps e ≡ gaps_at ps es i
gaps-at ps [] zero e rest h = absurd (omega (arith, ap (λ (l : List Dep). length l) h))
gaps-at ps [] (suc i) e rest h = absurd (omega (arith, ap (λ (l : List Dep). length l) h))
gaps-at ps (x ∷ es) zero e rest h = ap (λ (l : List Dep). gaps_had ps (get_or l 0 e)) (sym h)
gaps-at ps (x ∷ es) (suc i) e rest h = gaps-at ps es i e rest h

module _ (d : DD.Desk) (i : ℕ) (m : IsMade d) where
  module _ (nest : d.loaded ≡ true) where
    module _ (ends : List ℕ) (are : HasEnds (nest_in d.nest).points ends) where
      pub with_ends : WithEnds d.nest ends
      with_ends = record { counted = m.counted; valid = m.paper.valid nest; ends_are = are }

      module _ (there : i < d.nest.many) where
        pub gaps_given
            : (ws : List ℕ) (r : DC.Chosen)
            → ((g : ℕ) → holds ws g ≡ false)
            → r.number ≡ 0
            → r.line ≡ 0
            → GapsPut (get_or ends (dep_at d.nest i).d 0) (dep_at d.nest i) ws r.set.words
            → GapsSays d i r
        gaps_given ws r empty n l put =
            let yes : ltb i (length (nest_in d.nest).deps) ≡ true =
            lt-ltb i (length (nest_in d.nest).deps) (omega (arith, m.counted.many_is)) in
            chooses (gaps_fault (desk_in d) i) _ r (rw (nest, yes)) n l
            (gaps-had ps e r.set.words v.few_points inside same ∙
            gaps-at ps (nest_in d.nest).deps i e _ (found_at with_ends there))
          where
            ps : List ℕ
            ps = (nest_in d.nest).points

            e : Dep
            e = dep_in (dep_at d.nest i)

            v : Valid (nest_in d.nest)
            v = valid_is (nest_in d.nest) (m.paper.valid nest)

            inside : (g : ℕ) → has_gap ps e g ≡ true → (0 < g) × (g < length ps)
            inside g = gap_inside ps e g v.shape (found_fits with_ends there)

            same : (g : ℕ) → holds r.set.words g ≡ has_gap ps e g
            same g = put ps (found_ends with_ends there) g ∙ rw (empty g) (or_off (has_gap ps e g))
