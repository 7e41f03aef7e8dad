-- Listed loops: the computed test holds exactly where some dependence needs a barrier for the loop's missing run.
-- Main statements: `listed-by`, `by_listed`, `listed_iff`, `Listed-in`.
use mathlib.Core.Path.{◌≡◌, refl}
use mathlib.Core.Bool.{Bool, true, false, ◌&&◌, not}
use mathlib.Core.List.{List, [], ◌∷◌}
use mathlib.Core.Logic.{◌⊎◌, inl, inr, ⊎_elim, ◌↔◌}
use Prim.Native.Nat.{ℕ}
use Rattle.laws.specs.Choice.{is_in}
use Rattle.laws.specs.Members.{Among}
use borrow.Author.Tests.{not-true}
use Rattle.laws.proofs.Tests.{test, never, never_both, and_true, and_intro, or-true, or_left, or_right}
use Rattle.paper_nests.specs.Nests.{Dep}
use Rattle.paper_nests.specs.Loops.{is_around}
use Rattle.paper_nests.specs.Gaps.{has_gap}
use Rattle.call_missing.specs.Foreign.{is_foreign, in_foreign}
use Rattle.call_missing.specs.Listed.{cuts_inside, cuts_outside, is_listed_by, is_listed, NeedsBarrier}
use Rattle.call_missing.proofs.Some.{some-in, in_some, not_some}
use Rattle.call_missing.proofs.Foreign.{not_outside, outside}

module _ (ps fs gs : List ℕ) where
  -- one dependence that has loop d listed
  pub record By (e : Dep) (d : ℕ) : Type 0 where
    pub foreign : is_foreign ps fs e d ≡ true
    pub gap : ℕ
    pub placed : is_in gap gs ≡ true
    pub inside : is_around ps gap d ≡ true
    pub cut : has_gap ps e gap ≡ true
    pub covered : (g : ℕ) → is_in g gs ≡ true → has_gap ps e g ≡ true → in_foreign ps fs e g ≡ true

  abbrev cut_in : Dep → ℕ → ℕ → Bool
  cut_in e d g = is_around ps g d && has_gap ps e g

  abbrev cut_out : Dep → ℕ → Bool
  cut_out e g = has_gap ps e g && not (in_foreign ps fs e g)

  pub listed-by : (e : Dep) (d : ℕ) → is_listed_by ps fs gs e d ≡ true → By e d
  unfolding is_listed_by cuts_inside cuts_outside
  listed-by e d h =
      let a = and_true (is_foreign ps fs e d) (cuts_inside ps e d gs && not (cuts_outside ps fs e gs)) h in
      let b = and_true (cuts_inside ps e d gs) (not (cuts_outside ps fs e gs)) a.1 in
      let m = some-in (cut_in e d) gs b.0 in
      let c = and_true (is_around ps m.at d) (has_gap ps e m.at) m.passed in
      record {
        foreign = a.0;
        gap = m.at;
        placed = m.is-in;
        inside = c.0;
        cut = c.1;
        covered = λ g p q. covered (not-true (cuts_outside ps fs e gs) b.1) g p q (test (in_foreign ps fs e g));
      }
    where
      covered :
          cuts_outside ps fs e gs ≡ false → (g : ℕ) → is_in g gs ≡ true → has_gap ps e g ≡ true →
          (in_foreign ps fs e g ≡ true) ⊎ (in_foreign ps fs e g ≡ false) → in_foreign ps fs e g ≡ true
      covered n g p q (inl z) = z
      covered n g p q (inr z) = never_both (in_some (cut_out e) gs g p (rw (q, z))) n

  pub by_listed : (e : Dep) (d : ℕ) → By e d → is_listed_by ps fs gs e d ≡ true
  unfolding is_listed_by cuts_inside cuts_outside
  by_listed e d b =
      and_intro b.foreign
      (and_intro
      (in_some (cut_in e d) gs b.gap b.placed (and_intro b.inside b.cut))
      (rw (not_some (cut_out e) gs none)))
    where
      none : (g : ℕ) → is_in g gs ≡ true → cut_out e g ≡ true → ⊥
      none g p q =
          let z = and_true (has_gap ps e g) (not (in_foreign ps fs e g)) q in
          never_both (b.covered g p z.0) (not-true (in_foreign ps fs e g) z.1)

  -- by some dependence
  listed_some : (ds : List Dep) (d : ℕ) → is_listed ps ds fs gs d ≡ true → (e : Dep) × Among e ds × By e d
  unfolding is_listed
  listed_some [] d h = never h
  listed_some (x ∷ xs) d h = ⊎_elim
      (λ (z : is_listed_by ps fs gs x d ≡ true). (x, inl refl, listed-by x d z))
      (λ (z : is_listed ps xs fs gs d ≡ true). let r = listed_some xs d z in (r.0, inr r.1, r.2))
      (or-true (is_listed_by ps fs gs x d) (is_listed ps xs fs gs d) h)

  some_listed : (ds : List Dep) (d : ℕ) (e : Dep) → Among e ds → By e d → is_listed ps ds fs gs d ≡ true
  unfolding is_listed
  some_listed [] d e a b = absurd a
  some_listed (x ∷ xs) d e a b = ⊎_elim
      (λ (z : e ≡ x). or_left (is_listed ps xs fs gs d) (rw z at (by_listed e d b)))
      (λ (z : Among e xs). or_right (is_listed_by ps fs gs x d) (some_listed xs d e z b))
      a

  -- a flagged loop is listed exactly if, for some dependence that it is foreign to, a barrier inside it cuts that
  -- dependence and no barrier that cuts it is outside all its foreign loops
  pub listed_iff : (ds : List Dep) (d : ℕ) → (is_listed ps ds fs gs d ≡ true) ↔ NeedsBarrier ps ds fs gs d
  listed_iff ds d = (to, from)
    where
      to : is_listed ps ds fs gs d ≡ true → NeedsBarrier ps ds fs gs d
      to h =
          let r = listed_some ds d h in
          let b = r.2 in
          record {
            dep = r.0;
            among = r.1;
            foreign = b.foreign;
            gap = b.gap;
            placed = b.placed;
            inside = b.inside;
            cut = b.cut;
            none_outside = λ g p q. not_outside ps fs r.0 g (b.covered g p q);
          }

      from : NeedsBarrier ps ds fs gs d → is_listed ps ds fs gs d ≡ true
      from n =
          some_listed ds d n.dep n.among
          (record {
            foreign = n.foreign;
            gap = n.gap;
            placed = n.placed;
            inside = n.inside;
            cut = n.cut;
            covered = λ g p q. covered g p q (test (in_foreign ps fs n.dep g));
          })
        where
          covered :
              (g : ℕ) → is_in g gs ≡ true → has_gap ps n.dep g ≡ true →
              (in_foreign ps fs n.dep g ≡ true) ⊎ (in_foreign ps fs n.dep g ≡ false) →
              in_foreign ps fs n.dep g ≡ true
          covered g p q (inl z) = z
          covered g p q (inr z) = absurd (n.none_outside g p q (outside ps fs n.dep g z))
