-- Whichever flagged loops are skipped, a dependence to which all of them are foreign is still cut: by a barrier in no
-- skipped loop, or by one inside a listed one whose substitute is reached. If each barrier that cuts the dependence is
-- in a skipped loop, take the least DO of a skipped loop around such a barrier: it is listed, and a skipped loop around
-- it would have a lower DO and the same barrier inside.
-- Main statements: `skipped_reached`, `key_reached`.
use mathlib.Core.Path.{◌≡◌}
use mathlib.Core.Bool.{Bool, true, false, ◌&&◌, not}
use mathlib.Core.List.{List}
use mathlib.Core.Logic.{inl, inr, ⊎_elim}
use Prim.Native.Nat.{ℕ}
use native.Mathlib.Omega.{arith}
use lib.Dec.{ltb, leb}
use borrow.Author.Tests.{ltb-true, leb-true, lt-ltb, le-leb, not-true}
use Rattle.laws.specs.Choice.{is_in}
use Rattle.laws.specs.Members.{Among}
use Rattle.laws.proofs.Tests.{test, never_both, and_true, and_intro, false_by, true_by}
use Rattle.paper_nests.specs.Nests.{Dep, Nest}
use Rattle.paper_nests.specs.Loops.{is_do, end_of, in_loop, is_around}
use Rattle.paper_nests.specs.Gaps.{has_gap}
use Rattle.paper_nests.specs.Valid.{is_shape, is_valid}
use Rattle.paper_nests.proofs.Loops.{nested}
use Rattle.paper_nests.proofs.Deps.{valid_is}
use Rattle.paper_nests.proofs.Flags.{flag_is_do}
use Rattle.paper_placements.specs.Placements.{cuts, is_correct}
use Rattle.paper_placements.proofs.Cuts.{CutBy, cut_has_gap, correct_cuts}
use Rattle.paper_barred.specs.Reduced.{is_blocked}
use Rattle.plan_theorem.specs.KeyOf.{key_of}
use Rattle.plan_theorem.proofs.KeyIsKey.{key_is_key}
use Rattle.call_missing.specs.Foreign.{some_in, AreFlags, is_foreign}
use Rattle.call_missing.specs.Listed.{Outside}
use Rattle.call_missing.specs.Reached.{NotSkipped, Substituted, IsReached, AllForeign}
use Rattle.call_missing.proofs.Some.{Least, some-in, in_some, some_not, least_in}
use Rattle.call_missing.proofs.Foreign.{foreign_flagged}
use Rattle.call_missing.proofs.Listed.{listed_iff}

module _ (ps : List ℕ) (shape : is_shape ps ≡ true) (ds : List Dep) (fs : List ℕ) (flags : AreFlags ps fs) where
  module _
      (e : Dep) (among : Among e ds) (skipped : List ℕ)
      (foreign : (d : ℕ) → is_in d skipped ≡ true → is_foreign ps fs e d ≡ true) (gs : List ℕ) where
    -- a barrier that cuts e in no skipped loop; one inside loop d
    abbrev clear : ℕ → Bool
    clear g = has_gap ps e g && not (some_in (is_around ps g) skipped)

    abbrev cut_inside : ℕ → ℕ → Bool
    cut_inside d g = has_gap ps e g && is_around ps g d

    abbrev busy : ℕ → Bool
    busy d = some_in (cut_inside d) gs

    not_skipped : some_in clear gs ≡ true → NotSkipped ps e skipped gs
    not_skipped h =
        let m = some-in clear gs h in
        let z = and_true (has_gap ps e m.at) (not (some_in (is_around ps m.at) skipped)) m.passed in
        record {
          gap = m.at;
          placed = m.is-in;
          cut = z.0;
          clear = some_not (is_around ps m.at) skipped (not-true (some_in (is_around ps m.at) skipped) z.1);
        }

    -- where there is none, each barrier that cuts e is in a skipped loop
    module _ (none : some_in clear gs ≡ false) where
      within : (g : ℕ) → is_in g gs ≡ true → has_gap ps e g ≡ true → some_in (is_around ps g) skipped ≡ true
      within g p q = true_by (λ z. never_both (in_some clear gs g p (rw (q, z))) none)

      not_outside : (g : ℕ) → is_in g gs ≡ true → has_gap ps e g ≡ true → Outside ps fs e g → ⊥
      not_outside g p q o =
          let m = some-in (is_around ps g) skipped (within g p q) in
          never_both m.passed (o m.at (foreign m.at m.is-in))

      some_busy : CutBy ps e gs → some_in busy skipped ≡ true
      some_busy c =
          let m = some-in (is_around ps c.gap) skipped (within c.gap c.placed c.its) in
          in_some busy skipped m.at m.is-in
          (in_some (cut_inside m.at) gs c.gap c.placed (and_intro c.its m.passed))

      substituted : Least busy skipped → Substituted ps ds fs e skipped gs
      substituted l =
          let m = some-in (cut_inside l.at) gs l.passed in
          let z = and_true (has_gap ps e m.at) (is_around ps m.at l.at) m.passed in
          record {
            gap = m.at;
            placed = m.is-in;
            cut = z.0;
            loop = l.at;
            inside = z.1;
            is_skipped = l.is-in;
            is-listed =
                (listed_iff ps fs gs ds l.at).1
                (record {
                  dep = e;
                  among = among;
                  foreign = foreign l.at l.is-in;
                  gap = m.at;
                  placed = m.is-in;
                  inside = z.1;
                  cut = z.0;
                  none_outside = not_outside;
                });
            outermost = λ d s. outermost m.at m.is-in z.0 z.1 d s;
          }
        where
          is-do : (d : ℕ) → is_in d skipped ≡ true → is_do ps d ≡ true
          is-do d s = flags d (foreign_flagged ps fs e d (foreign d s))

          outermost :
              (g : ℕ) → is_in g gs ≡ true → has_gap ps e g ≡ true → is_around ps g l.at ≡ true →
              (d : ℕ) → is_in d skipped ≡ true → in_loop ps d l.at ≡ false
          outermost g p q i d s =
              false_by λ z.
              let a = and_true (ltb d l.at) (ltb l.at (end_of ps d)) z in
              let b = and_true (ltb l.at g) (leb g (end_of ps l.at)) i in
              let below = ltb-true d l.at a.0 in
              let past = ltb-true l.at (end_of ps d) a.1 in
              let after = ltb-true l.at g b.0 in
              let reach = leb-true g (end_of ps l.at) b.1 in
              let wider = nested ps shape d l.at (is-do d s) (is-do l.at l.is-in) below (omega arith) in
              let around : is_around ps g d ≡ true =
              and_intro (lt-ltb d g (omega arith)) (le-leb g (end_of ps d) (omega arith)) in
              let least = l.least d s (in_some (cut_inside d) gs g p (and_intro q around)) in
              omega arith

    reached : cuts ps e gs ≡ true → IsReached ps ds fs e skipped gs
    reached c = ⊎_elim
        (λ (z : some_in clear gs ≡ true). inl (not_skipped z))
        (λ (z : some_in clear gs ≡ false).
        inr (substituted z (least_in busy skipped (some_busy z (cut_has_gap ps e gs c)))))
        (test (some_in clear gs))

-- of every correct placement of a valid nest: whichever flagged loops are skipped, a dependence to which all of them
-- are foreign has a barrier that cuts it in no skipped loop, or one inside a skipped, listed loop with no skipped loop
-- around it
pub skipped_reached :
    (n : Nest) → is_valid n ≡ true → (gs : List ℕ) → is_correct n gs ≡ true →
    (skipped : List ℕ) (e : Dep) → Among e n.deps → AllForeign n e skipped →
    IsReached n.points n.deps n.flagged e skipped gs
skipped_reached n h gs c skipped e a foreign =
    let v = valid_is n h in
    reached n.points v.shape n.deps n.flagged (flag_is_do n.points n.flagged v.all_flags) e a
    skipped foreign gs (correct_cuts n gs c e a)

-- and so of the key
pub key_reached :
    (n : Nest) → is_valid n ≡ true → is_blocked n ≡ false →
    (skipped : List ℕ) (e : Dep) → Among e n.deps → AllForeign n e skipped →
    IsReached n.points n.deps n.flagged e skipped (key_of n)
key_reached n h o = skipped_reached n h (key_of n) (key_is_key n h o).correct
