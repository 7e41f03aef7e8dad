-- The barriers of a placement in a loop's range are swapped for others, and the gaps before and after the loop are
-- added. What is sound stays sound: a dependence with its home in the loop is cut by the new barriers; any other that
-- was cut in the loop's range enters the loop or leaves it, so it has the gap before or the gap after.
-- Main definition: `swap`. Main statements: `swap_in`, `swap_aside`, `swap_sound`.
use mathlib.Core.Path.{◌≡◌, refl, ◌∙◌}
use mathlib.Core.Bool.{Bool, true, false, ◌&&◌, ◌||◌}
use mathlib.Core.Logic.{◌⊎◌, inl, inr, ⊎_elim}
use Prim.Native.Nat.{ℕ, suc, ◌≤◌, ◌<◌}
use native.Mathlib.Omega.{arith}
use lib.Dec.{eqb, ltb, leb}
use borrow.Author.Tests.{eq-eqb, ne_eqb, lt-ltb, le-leb, ltb-true, leb-true}
use Rattle.laws.specs.Choice.{pick}
use Rattle.laws.proofs.Tests.{le_or, and_true, false_by, or_left, or_right}
use Rattle.laws.proofs.Connectives.{or_off}
use Rattle.plan_method.specs.Sweep.{Loops, Lines, Tables}
use Rattle.plan_method.proofs.World.{World, Inside, Lawful}
use Rattle.plan_method.proofs.Claim.{Hit, Sound}
use Rattle.plan_method.proofs.AttainedEmpty.{InChild, each_in_child}
use Rattle.plan_exchange.proofs.Beside.{beside, ends_within, inside_or, lies_around}

-- z in the range of l; elsewhere x, with the gaps beside l
unfoldable pub swap : Loops → ℕ → (ℕ → Bool) → (ℕ → Bool) → ℕ → Bool
swap B l z x g =
    pick (ltb l g && leb g (B.stop l)) (z g) (x g || beside B l g)

module _ (B : Loops) (l : ℕ) (z x : ℕ → Bool) where
  pub swap_in : (g : ℕ) → l < g → g ≤ B.stop l → swap B l z x g ≡ z g
  unfolding swap
  swap_in g low high = rw (lt-ltb l g low, le-leb g (B.stop l) high)

  swap_out : (g : ℕ) → (l < g → g ≤ B.stop l → ⊥) →
      swap B l z x g ≡ (x g || beside B l g)
  unfolding swap
  swap_out g out = rw outside
    where
      outside : (ltb l g && leb g (B.stop l)) ≡ false
      outside = false_by (λ h. (
          let t = and_true (ltb l g) (leb g (B.stop l)) h in
          out (ltb-true l g t.0) (leb-true g (B.stop l) t.1)))

  swap_keeps : (g : ℕ) → (l < g → g ≤ B.stop l → ⊥) → x g ≡ true → swap B l z x g ≡ true
  swap_keeps g out h = rw (swap_out g out) (or_left (beside B l g) h)

  swap_before : swap B l z x l ≡ true
  swap_before =
      rw (swap_out l (λ i j. omega arith)) (or_right (x l) (or_left _ (eq-eqb l l refl)))

  swap_after : swap B l z x (suc (B.stop l)) ≡ true
  swap_after =
      rw (swap_out after (λ i j. omega arith)) (or_right (x after) (or_right (eqb after l) (eq-eqb after after refl)))
    where
      after : ℕ
      after = suc (B.stop l)

  -- outside l's range and not beside l nothing changes
  pub swap_aside :
      (g : ℕ) → (l < g → g ≤ B.stop l → ⊥) → (g ≡ l → ⊥) → (g ≡ suc (B.stop l) → ⊥) → swap B l z x g ≡ x g
  swap_aside g out p q =
      swap_out g out ∙ rw (ne_eqb g l p, ne_eqb g (suc (B.stop l)) q) (or_off (x g))

  -- a line that was cut is cut still, if it begins before l's range or ends after it wherever the two share a gap
  swap_hit : (a b : ℕ) → ((g : ℕ) → a ≤ g → g ≤ b → l < g → g ≤ B.stop l → (a ≤ l) ⊎ (B.stop l < b)) →
      Hit x a b → Hit (swap B l z x) a b
  swap_hit a b crosses h = go (le_or h.gap l) (le_or h.gap (B.stop l))
    where
      kept : (l < h.gap → h.gap ≤ B.stop l → ⊥) → Hit (swap B l z x) a b
      kept out =
          record { gap = h.gap; low = h.low; high = h.high; holds = swap_keeps h.gap out h.holds }

      go : (h.gap ≤ l) ⊎ (l < h.gap) → (h.gap ≤ B.stop l) ⊎ (B.stop l < h.gap) → Hit (swap B l z x) a b
      go (inl i) j = kept (λ u v. omega arith)
      go (inr i) (inr j) = kept (λ u v. omega arith)
      go (inr i) (inl j) =
          ⊎_elim
          (λ (u : a ≤ l). record { gap = l; low = u; high = omega (arith, h.high); holds = swap_before })
          (λ (u : B.stop l < b).
          record { gap = suc (B.stop l); low = omega (arith, h.low); high = u; holds = swap_after })
          (crosses h.gap h.low h.high i j)

  -- and one in l's range that z cuts
  swap_hit_in : (a b : ℕ) → l < a → b ≤ B.stop l → Hit z a b → Hit (swap B l z x) a b
  swap_hit_in a b low high h =
      record {
        gap = h.gap;
        low = h.low;
        high = h.high;
        holds = rw (swap_in h.gap (omega (arith, h.low)) (omega (arith, h.high))) h.holds;
      }

module _
    (W : World) (N : Lines) (laws : Lawful W N) (T : Tables) (d l : ℕ) (i : Inside W.loops d l)
    (z x : ℕ → Bool) (within : Sound W z l) (sound : Sound W x d) where
  abbrev B : Loops
  B = W.loops

  abbrev swapped : ℕ → Bool
  swapped = swap B l z x

  -- a line of a home around l that starts in l's range leaves it
  leaves : (m a b : ℕ) → B.is_do m ≡ true → m < l → W.Line m a b → l < a → a ≤ B.stop l → B.stop l < b
  leaves m a b h j k low high = go (each_in_child B laws.of-loops T m h l around j)
    where
      around : Inside B m l
      around =
          record {
            is-do = i.is-do;
            from = omega arith;
            below = omega (arith, laws.of_lines.line_high m a b h k, laws.of_lines.line_long m a b h k);
          }

      go : InChild B m l → B.stop l < b
      go c =
          let e : B.stop l ≤ B.stop c.loop = ends_within B laws.of-loops c.loop l c.is-do c.inside in
          let t = laws.of_lines.line_leaves m a b c.loop h k
          record { is-do = c.is-do; below = c.above; ends = refl; owner = c.owner }
          (omega (arith, c.inside.from)) (omega arith) in
          omega arith

  lines : (m a b : ℕ) → Inside B d m → W.Line m a b → Hit swapped a b
  lines m a b j k = ⊎_elim inner outer (inside_or B laws.of-loops l m j.is-do)
    where
      low : m < a
      low = laws.of_lines.line_low m a b j.is-do k

      inner : Inside B l m → Hit swapped a b
      inner u =
          let e : B.stop m ≤ B.stop l = ends_within B laws.of-loops l m i.is-do u in
          let high : b ≤ B.stop m = laws.of_lines.line_high m a b j.is-do k in
          swap_hit_in B l z x a b (omega (arith, low, u.from)) (omega arith) (within.lines m a b u k)

      outer : (Inside B l m → ⊥) → Hit swapped a b
      outer u = swap_hit B l z x a b crosses (sound.lines m a b j k)
        where
          crosses : (g : ℕ) → a ≤ g → g ≤ b → l < g → g ≤ B.stop l → (a ≤ l) ⊎ (B.stop l < b)
          crosses g p q r s =
              let around : m < l = lies_around B laws.of-loops l m g j.is-do u (omega (arith, low)) s in
              ⊎_elim
              (λ (t : a ≤ l). inl t)
              (λ (t : l < a). inr (leaves m a b j.is-do around k t (omega arith)))
              (le_or a l)

  backs : (m a t : ℕ) → Inside B d m → W.Back m a t → Hit swapped (suc m) t ⊎ Hit swapped a (B.stop m)
  backs m a t j k = ⊎_elim inner outer (inside_or B laws.of-loops l m j.is-do)
    where
      low : m < a
      low = laws.of_lines.back_low m a t j.is-do k

      inner : Inside B l m → Hit swapped (suc m) t ⊎ Hit swapped a (B.stop m)
      inner u =
          ⊎_elim
          (λ (h : Hit z (suc m) t). inl (swap_hit_in B l z x (suc m) t (omega (arith, u.from)) high h))
          (λ (h : Hit z a (B.stop m)). inr (swap_hit_in B l z x a (B.stop m) (omega (arith, low, u.from)) e h))
          (within.backs m a t u k)
        where
          e : B.stop m ≤ B.stop l
          e = ends_within B laws.of-loops l m i.is-do u

          high : t ≤ B.stop l
          high = omega (arith, e, laws.of_lines.back_high m a t j.is-do k)

      outer : (Inside B l m → ⊥) → Hit swapped (suc m) t ⊎ Hit swapped a (B.stop m)
      outer u =
          ⊎_elim
          (λ (h : Hit x (suc m) t). inl (swap_hit B l z x (suc m) t early h))
          (λ (h : Hit x a (B.stop m)). inr (swap_hit B l z x a (B.stop m) late h))
          (sound.backs m a t j k)
        where
          around : (g : ℕ) → m < g → g ≤ B.stop l → m < l
          around g = lies_around B laws.of-loops l m g j.is-do u

          early : (g : ℕ) → suc m ≤ g → g ≤ t → l < g → g ≤ B.stop l → (suc m ≤ l) ⊎ (B.stop l < t)
          early g p q r s = inl (around g p s)

          late : (g : ℕ) → a ≤ g → g ≤ B.stop m → l < g → g ≤ B.stop l → (a ≤ l) ⊎ (B.stop l < B.stop m)
          late g p q r s =
              let before : m < l = around g (omega (arith, low)) s in
              inr (laws.of-loops.nested m l j.is-do i.is-do before (omega arith))

  pub swap_sound : Sound W swapped d
  swap_sound = record { lines = lines; backs = backs }
