-- What one first barrier gives: a correct set, and, from a gap of any correct set, no more gaps than that set has.
-- Main statements: `try_correct`, `try_few`.
use mathlib.Core.Path.{◌≡◌, sym, ap, ◌∙◌}
use mathlib.Core.Bool.{Bool, true, false, ◌&&◌}
use mathlib.Core.List.{List, [], ◌∷◌}
use mathlib.Core.Logic.{⊎_elim}
use Prim.Native.Nat.{ℕ, suc, ◌+◌, ◌-◌, ◌≤◌}
use native.Mathlib.Omega.{arith}
use lib.ListN.{length}
use Rattle.laws.specs.Choice.{is_in}
use Rattle.laws.specs.Members.{Among}
use Rattle.laws.proofs.Tests.{never, never_both, and_intro, or_left, or_right, test, false_by}
use Rattle.laws.proofs.Members.{in_cons}
use Rattle.paper_nests.specs.Nests.{Dep}
use Rattle.paper_nests.specs.Gaps.{has_gap}
use Rattle.paper_nests.specs.Ring.{one_loop}
use Rattle.paper_nests.specs.Valid.{is_shape}
use Rattle.paper_nests.proofs.Deps.{Fits}
use Rattle.paper_placements.specs.Placements.{cuts, are_gaps_from}
use Rattle.paper_placements.proofs.Cuts.{cut_has_gap, gap_cuts, avoids_in, avoids_by}
use Rattle.paper_placements.proofs.Rising.{rising_in}
use Rattle.paper_barred.proofs.Reduced.{Open}
use Rattle.call_textbook.specs.Places.{gap_at}
use Rattle.call_textbook.specs.Sets.{CorrectSet}
use Rattle.call_textbook.specs.Tries.{lacking, cuts_on, rising, try_at}
use Rattle.call_textbook.proofs.Greedy.{lacking_in, in_lacking, cuts_in_line, line_cut}
use Rattle.call_textbook.proofs.Greedy.{is_unbroken, counted, meets, cuts_few}
use Rattle.call_textbook.proofs.Apart.{are_apart, apart, apart_by, cuts_apart, in_rising, rising_length, rising_gaps}
use Rattle.call_textbook.proofs.Apart.{counted_few}
use Rattle.call_textbook.proofs.Places.{gap_low, gap_first, gap_last, span, stretch}
use Rattle.call_textbook.proofs.Lines.{line_from, line-after, in_line, not_again, line_apart, others_in}
use Rattle.call_textbook.proofs.Lines.{line_unbroken}
use Rattle.call_textbook.proofs.Tried.{Tried}

-- a gap of the set that stands in the line and is one of the dependence's
meets_by
    : (ps : List ℕ) (x : ℕ → Bool) (e : Dep) (hs : List ℕ) (h : ℕ) → is_in h hs ≡ true → x h ≡ true
    → has_gap ps e h ≡ true → meets ps x e hs ≡ true
meets_by ps x e [] h i y z = never i
meets_by ps x e (k ∷ ks) h i y z = ⊎_elim
    (λ (q : h ≡ k). or_left (meets ps x e ks) (and_intro (rw q at y) (rw q at z)))
    (λ (q : is_in h ks ≡ true). or_right (x k && has_gap ps e k) (meets_by ps x e ks h q y z))
    (in_cons h k ks i)

module _
    (ps bs : List ℕ) (ds : List Dep) (m : ℕ) (m_is : m ≡ length ps - 1) (g : ℕ) (t : Tried bs m g) where
  abbrev line : List ℕ
  line = line_from bs m (m - 1) (suc g)

  -- the first barrier, then the cuts
  abbrev barriers : List ℕ
  barriers = g ∷ cuts_on ps line (lacking ps g ds)

  pub try_is : try_at ps bs ds g ≡ rising (g ∷ cuts_on ps (line_from bs m (m - 1) (suc g)) (lacking ps g ds))
  unfolding try_at
  try_is =
      ap (λ (hs : List ℕ). rising (g ∷ cuts_on ps hs (lacking ps g ds)))
      (line-after bs m ps g m_is t.first t.inside)

  -- what stands in the line, and so each barrier, is an unbarred gap
  line_its : (h : ℕ) → is_in h line ≡ true → Tried bs m h
  line_its h i =
      let a = in_line bs m (m - 1) (suc g) h i in
      record {
        first = omega (arith, a.low, a.gap_is, gap_first m a.place (omega (arith, a.low)));
        inside = omega (arith, a.gap_is, gap_last m a.place (omega (arith, a.high, t.inside)));
        free = a.free;
      }

  barrier_its : (h : ℕ) → is_in h barriers ≡ true → Tried bs m h
  barrier_its h i = ⊎_elim
      (λ (z : h ≡ g). rw z t)
      (λ (z : is_in h (cuts_on ps line (lacking ps g ds)) ≡ true).
      line_its h (cuts_in_line ps line (lacking ps g ds) h z))
      (in_cons h g (cuts_on ps line (lacking ps g ds)) i)

  -- and none stands twice
  line_once : are_apart (g ∷ line) ≡ true
  line_once =
      let e : gap_at m g ≡ g = gap_low m g t.inside in
      let l = t.first in
      let h = t.inside in
      apart_by g line
      (rw e at (not_again bs m (m - 1) g l (omega arith) (omega arith)))
      (line_apart bs m (m - 1) (suc g) (omega arith) (omega arith) (omega arith))

  barriers_once : are_apart barriers ≡ true
  barriers_once =
      let a = apart g line line_once in
      apart_by g (cuts_on ps line (lacking ps g ds))
      (false_by (λ z. never_both (cuts_in_line ps line (lacking ps g ds) g z) a.once))
      (cuts_apart ps line (lacking ps g ds) a.rest)

  pub try_gaps : are_gaps_from 0 (length ps) (try_at ps bs ds g) ≡ true
  try_gaps =
      rw try_is
      (rising_gaps (length ps) barriers barriers_once
      (λ i h. let x = barrier_its i h in (x.first, omega (arith, x.first, x.inside))))

  -- a dependence with an unbarred gap has g, or that gap stands in the line
  barriers_cut : (e : Dep) → Among e ds → Open ps bs e → cuts ps e barriers ≡ true
  barriers_cut e a o = ⊎_elim
      (λ (z : has_gap ps e g ≡ true). or_left (cuts ps e (cuts_on ps line (lacking ps g ds))) z)
      (λ (z : has_gap ps e g ≡ false).
      let other : (o.gap ≡ g) → ⊥ = λ q. never_both o.its (rw q z) in
      let there =
      others_in bs m g o.gap t.first t.inside o.first (omega (arith, o.last)) other o.free in
      or_right (has_gap ps e g)
      (line_cut ps line (lacking ps g ds) e (in_lacking ps g ds e a z)
      (gap_cuts ps e line o.gap there o.its)))
      (test (has_gap ps e g))

  pub try_correct : ((e : Dep) → Among e ds → Open ps bs e) → CorrectSet ps bs ds (try_at ps bs ds g)
  try_correct opens =
      rw try_is
      (record {
        gaps = rw try_is at try_gaps;
        avoiding = avoids_by bs (rising barriers)
            (λ i h. (barrier_its i (sym (in_rising i barriers) ∙ h)).free);
        cut = λ e a.
            let c = cut_has_gap ps e barriers (barriers_cut e a (opens e a)) in
            gap_cuts ps e (rising barriers) c.gap (in_rising c.gap barriers ∙ c.placed) c.its;
      })

  -- from a gap of a correct set
  module _
      (shape : is_shape ps ≡ true) (one-loop : one_loop ps ≡ true)
      (fits : (e : Dep) → Among e ds → Fits ps e)
      (gs : List ℕ) (correct : CorrectSet ps bs ds gs) (there : is_in g gs ≡ true)
    where
      -- the set meets what the first barrier does not cut
      met : (e : Dep) → Among e (lacking ps g ds) → meets ps (λ i. is_in i gs) e line ≡ true
      met e a =
          let l = lacking_in ps g ds e a in
          let c = cut_has_gap ps e gs (correct.cut e l.0) in
          let r = rising_in 0 (length ps) gs c.gap correct.gaps c.placed in
          let other : (c.gap ≡ g) → ⊥ = λ q. never_both c.its (rw q l.1) in
          let free = avoids_in bs gs correct.avoiding c.gap c.placed in
          meets_by ps (λ i. is_in i gs) e line c.gap
          (others_in bs m g c.gap t.first t.inside r.0 (omega (arith, r.1)) other free)
          c.placed
          c.its

      unbroken : (e : Dep) → Among e (lacking ps g ds) → is_unbroken ps e line ≡ true
      unbroken e a =
          let l = lacking_in ps g ds e a in
          let s = span ps e shape one-loop m m_is (fits e l.0) in
          let x = stretch m ps e s g t.first t.inside l.1 in
          let h = t.inside in
          line_unbroken bs m ps e g x (m - 1) (suc g) (omega arith) (omega (arith, t.first))

      cuts_few_here : length (cuts_on ps line (lacking ps g ds)) ≤ counted ps (λ i. is_in i gs) line
      cuts_few_here = cuts_few ps (λ i. is_in i gs) line (lacking ps g ds) unbroken (λ e a k. met e a)

      -- the set has g besides
      with_first : counted ps (λ i. is_in i gs) (g ∷ line) ≡ 1 + counted ps (λ i. is_in i gs) line
      with_first = rw there

      pub try_few : length (try_at ps bs ds g) ≤ length gs
      try_few =
          omega (
            arith,
            ap length try_is,
            rising_length barriers,
            cuts_few_here,
            with_first,
            counted_few ps 0 (length ps) gs (g ∷ line) correct.gaps line_once,
          )
