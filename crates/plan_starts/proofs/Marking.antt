-- The marks, one gap after the other.
-- Main definition: `Marking`. Main statements: `marking_do`, `marking_other`.
use mathlib.Core.Path.{◌≡◌, refl, sym, ◌∙◌}
use mathlib.Core.Bool.{Bool, true, false, ◌&&◌}
use mathlib.Core.List.{List}
use Prim.Native.Nat.{ℕ, suc, ◌+◌, ◌≤◌, ◌<◌}
use native.Mathlib.Numerals.{add-one}
use native.Mathlib.Omega.{arith}
use lib.ListN.{length, set, get_or, length-set}
use lib.Dec.{ltb}
use borrow.Author.Tests.{eq-eqb, ne_eqb}
use Rattle.laws.specs.Choice.{pick}
use Rattle.laws.specs.Entries.{at}
use Rattle.laws.proofs.Stores.{stored}
use Rattle.paper_nests.specs.Loops.{is_do}
use Rattle.plan_sweeps.specs.Listed.{row}
use Rattle.plan_starts.specs.Started.{marked, Marked, end_after, MarkRoom}

-- the gaps up to p are marked
pub record Marking (ps own reach : List ℕ) (base : ℕ) (left : List ℕ) (kids d e : ℕ) (need₀ need : List ℕ) (p : ℕ) :
    Type 0 where
  pub low : d ≤ p
  pub high : p ≤ e
  pub same : length need ≡ length need₀
  pub marks : Marked ps own (row reach base) left kids d p need

module _
    {ps own reach : List ℕ} {base : ℕ} {left : List ℕ} {kids d e : ℕ} {need₀ : List ℕ}
    (room : MarkRoom ps own reach base left kids d e need₀)
  where
    module _
        {need : List ℕ} {p : ℕ} (s : Marking ps own reach base left kids d e need₀ need p) (before : p < e)
      where
        more : {x : ℕ} → x ≡ marked ps own (row reach base) (row left kids) d (p + 1) →
            Marking ps own reach base left kids d e need₀ (set need (p + 1) x) (p + 1)
        more {x} is =
            record {
              low = omega (arith, s.low);
              high = omega arith;
              same = length-set need (p + 1) x ∙ s.same;
              marks = λ a i j.
                  stored need (p + 1) x a (marked ps own (row reach base) (row left kids) d a)
                  (omega (arith, room.need_room, s.same)) (λ z. rw z is) (λ z. s.marks a i (omega (arith, z)));
            }

        pub marking_do
            : {x : ℕ}
            → get_or ps p 0 ≡ 1
            → x ≡ end_after (at own p) d p (row left kids (p + 1)) (row reach base (p + 1))
            → Marking ps own reach base left kids d e need₀ (set need (p + 1) x) (p + 1)
        unfolding marked
        marking_do k is = more (is ∙ rw (add-one p, eq-eqb (get_or ps p 0) 1 k) refl)

        pub marking_other
            : (get_or ps p 0 ≡ 1 → ⊥)
            → Marking ps own reach base left kids d e need₀ (set need (p + 1) (row reach base (p + 1))) (p + 1)
        unfolding marked
        marking_other k = more (sym (go (ne_eqb (get_or ps p 0) 1 k)))
          where
            go : is_do ps p ≡ false → marked ps own (row reach base) (row left kids) d (p + 1) ≡ row reach base (p + 1)
            go z = rw (add-one p, z) (both (ltb d p))
              where
                both : (t : Bool) → pick (t && false) 0 (row reach base (suc p)) ≡ row reach base (suc p)
                both true = refl
                both false = refl
