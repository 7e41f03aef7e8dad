-- What the loops that the calls give are good for. Where a loop is given, every barrier that cuts the dependence is
-- inside a loop that is foreign to it, and each such loop is given too: so where all of them are skipped, none of these
-- barriers is left. Where none is given, some barrier that cuts it is outside all its foreign loops, or none cuts it.
-- Main statements: `relied_iff`, `relied_uncut`, `relied_cut`, `missing_each`, `one_end_iff`; `relied_alike`,
-- `one_end_alike`.
use mathlib.Core.Path.{◌≡◌, refl, sym, ◌∙◌}
use mathlib.Core.Bool.{Bool, true, false, ◌&&◌, ◌||◌, not}
use mathlib.Core.List.{List, [], ◌∷◌}
use mathlib.Core.Logic.{inl, ⊎_elim}
use Prim.Native.Nat.{ℕ, suc}
use native.Mathlib.Omega.{arith}
use lib.Dec.{eqb}
use lib.ListN.{drop}
use borrow.Author.Tests.{eq-eqb, not-true}
use Rattle.laws.specs.Choice.{pick, when, is_in}
use Rattle.laws.specs.Members.{Among}
use Rattle.laws.proofs.Tests.{test, never_both, and_true, true_by}
use Rattle.laws.proofs.Choices.{first_zero, unless_zero}
use Rattle.paper_nests.specs.Nests.{Dep, Nest}
use Rattle.paper_nests.specs.Gaps.{has_gap}
use Rattle.paper_nests.proofs.Deps.{valid_is}
use Rattle.paper_nests.proofs.Flags.{flag_is_do}
use Rattle.paper_placements.proofs.Cuts.{CutBy, cut_has_gap}
use Rattle.desk.specs.declared.Desk as DD
use Rattle.desk.specs.declared.Chosen as DC
use Rattle.desk.specs.Desks.{Desk, desk, desk_in, IsMade, state_fault}
use Rattle.desk.specs.Says.{read_in}
use Rattle.desk.proofs.Choosing.{same_chosen}
use Rattle.call_missing.specs.Foreign.{AreFlags, is_foreign, in_foreign}
use Rattle.call_missing.specs.Listed.{cuts_outside, is_listed_by, is_listed, listed_of, listed_by, NeedsBarrier}
use Rattle.call_missing.specs.Reached.{NotSkipped}
use Rattle.call_missing.proofs.Some.{some-in, in_some}
use Rattle.call_missing.proofs.Foreign.{in-foreign, not_outside, outside}
use Rattle.call_missing.proofs.Listed.{By, listed-by, by_listed}
use Rattle.call_missing.proofs.Members.{in_listed, in_listed_iff}
use Rattle.call_skipped.specs.Relied.{relied_at}
use Rattle.call_skipped.specs.OneEnd.{one_end_by, one_end_at}
use Rattle.call_skipped.specs.Says.{number_fault, relied_fault, ReliedSays, one_end_fault}
use Rattle.call_skipped.specs.Skipped.{IsNumbered, given, ReliedIff, ReliedUncut, ReliedCut, MissingEach}
use Rattle.call_skipped.specs.Skipped.{OneEndIff, ReliedAlike, OneEndAlike}
use Rattle.call_skipped.proofs.Relied.{of-number}
use Rattle.call_skipped.proofs.OneEnd.{splits_iff, in_one_end}

-- ---- one dependence

module _ (ps fs gs : List ℕ) (flags : AreFlags ps fs) (e : Dep) where
  abbrev relied : List ℕ
  relied = listed_of ps (e ∷ []) fs gs

  -- a loop of the list, as a fact, and back
  relied_by : (l : ℕ) → is_in l relied ≡ true → By ps fs gs e l
  unfolding is_listed
  relied_by l h =
      listed-by ps fs gs e l (alone (is_listed_by ps fs gs e l) (sym (in_listed ps (e ∷ []) fs gs flags l) ∙ h))
    where
      alone : (b : Bool) → (b || false) ≡ true → b ≡ true
      alone true h = refl
      alone false h = h

  by_relied : (l : ℕ) → By ps fs gs e l → is_in l relied ≡ true
  unfolding is_listed
  by_relied l b = in_listed ps (e ∷ []) fs gs flags l ∙ rw (by_listed ps fs gs e l b)

  -- all of them skipped: no barrier that cuts the dependence is left
  all_skipped
      : (l : ℕ) → is_in l relied ≡ true → (skipped : List ℕ)
      → ((k : ℕ) → is_in k relied ≡ true → is_in k skipped ≡ true) → NotSkipped ps e skipped gs → ⊥
  all_skipped l h skipped all n =
      let b = relied_by l h in
      let i = in-foreign ps fs e n.gap (b.covered n.gap n.placed n.cut) in
      let k = by_relied i.loop (record {
        foreign = i.foreign;
        gap = n.gap;
        placed = n.placed;
        inside = i.around;
        cut = n.cut;
        covered = b.covered;
      }) in
      never_both i.around (n.clear i.loop (all i.loop k))

  -- none of them: a barrier that cuts the dependence is outside all the loops that are foreign to it
  none_relied
      : ((l : ℕ) → is_in l relied ≡ false) → CutBy ps e gs → (skipped : List ℕ)
      → ((k : ℕ) → is_in k skipped ≡ true → is_foreign ps fs e k ≡ true) → NotSkipped ps e skipped gs
  unfolding cuts_outside
  none_relied none c skipped foreign = ⊎_elim
      (λ (z : cuts_outside ps fs e gs ≡ true).
      let m = some-in cut_out gs z in
      let y = and_true (has_gap ps e m.at) (not (in_foreign ps fs e m.at)) m.passed in
      record {
        gap = m.at;
        placed = m.is-in;
        cut = y.0;
        clear = λ k h. outside ps fs e m.at (not-true (in_foreign ps fs e m.at) y.1) k (foreign k h);
      })
      (λ (z : cuts_outside ps fs e gs ≡ false).
      let i = in-foreign ps fs e c.gap (covered z c.gap c.placed c.its) in
      let b : By ps fs gs e i.loop =
      record {
        foreign = i.foreign;
        gap = c.gap;
        placed = c.placed;
        inside = i.around;
        cut = c.its;
        covered = covered z;
      } in
      never_both (by_relied i.loop b) (none i.loop))
      (test (cuts_outside ps fs e gs))
    where
      cut_out : ℕ → Bool
      cut_out g = has_gap ps e g && not (in_foreign ps fs e g)

      covered
          : cuts_outside ps fs e gs ≡ false → (g : ℕ) → is_in g gs ≡ true → has_gap ps e g ≡ true
          → in_foreign ps fs e g ≡ true
      covered z g p q = true_by (λ y. never_both (in_some cut_out gs g p (rw (q, y))) z)

-- of a list: what it has listed is what some dependence of it has
module _ (ps fs gs : List ℕ) (flags : AreFlags ps fs) (ds : List Dep) (l : ℕ) where
  abbrev Each : Type 0
  Each = (e : Dep) × (Among e ds × (is_in l (listed_of ps (e ∷ []) fs gs) ≡ true))

  each_to : is_in l (listed_of ps ds fs gs) ≡ true → Each
  each_to h =
      let y = (in_listed_iff ps ds fs gs flags l).0 h in
      let own : NeedsBarrier ps (y.dep ∷ []) fs gs l =
      record {
        dep = y.dep;
        among = inl refl;
        foreign = y.foreign;
        gap = y.gap;
        placed = y.placed;
        inside = y.inside;
        cut = y.cut;
        none_outside = y.none_outside;
      } in
      (y.dep, (y.among, (in_listed_iff ps (y.dep ∷ []) fs gs flags l).1 own))

  each-from : Each → is_in l (listed_of ps ds fs gs) ≡ true
  each-from (e, (a, h)) =
      let b = relied_by ps fs gs flags e l h in
      (in_listed_iff ps ds fs gs flags l).1
      (record {
        dep = e;
        among = a;
        foreign = b.foreign;
        gap = b.gap;
        placed = b.placed;
        inside = b.inside;
        cut = b.cut;
        none_outside = λ g p q. not_outside ps fs e g (b.covered g p q);
      })

-- ---- the calls

-- a desk with a nest
flags_on
    : (d : DD.Desk) → IsMade d → d.loaded ≡ true
    → AreFlags (desk_in d).nest_is.points (desk_in d).nest_is.flagged
flags_on d m h =
    let n = (desk_in d).nest_is in
    flag_is_do n.points n.flagged (valid_is n (m.paper.valid h)).all_flags

loaded_by : (d : DD.Desk) → state_fault false (desk_in d) ≡ 0 → d.loaded ≡ true
loaded_by d h = unless_zero d.loaded 9 (first_zero (when (not d.loaded) 10) 0 h).0

module _ (d : DD.Desk) (m : IsMade d) where
  abbrev n : Nest
  n = (desk_in d).nest_is

  module _ (s : List ℕ) (i : ℕ) (r : DC.Chosen) (h : ReliedSays d s i r) (z : r.number ≡ 0) where
    abbrev gaps : List ℕ
    gaps = (read_in (desk_in d) s).gaps

    no_fault : (relied_fault (desk_in d) s i).number ≡ 0
    no_fault = sym h.number_is ∙ z

    -- a reply that is no refusal comes from a desk with a nest, and has the loops
    relied_loaded : d.loaded ≡ true
    relied_loaded = go d.loaded refl
      where
        go : (b : Bool) → d.loaded ≡ b → b ≡ true
        go true e = refl
        go false e = let z : ◌≡◌ {A = ℕ} 10 0 = rw e at no_fault in absurd (omega arith)

    gives : (e : Dep) → IsNumbered n.deps i e → given r ≡ listed_by n gaps e
    gives e at =
        (rw (eq-eqb (relied_fault (desk_in d) s i).number 0 no_fault) at h.set_is) ∙
        of-number (listed_by n gaps) n.deps i e (drop (suc i) n.deps) at

    relied_flags : AreFlags n.points n.flagged
    relied_flags = flags_on d m relied_loaded

pub relied_iff : ReliedIff
relied_iff d s i e r m h z at l =
    let x = (desk_in d).nest_is in
    rw (gives d m s i r h z e at)
    (in_listed_iff x.points (e ∷ []) x.flagged (read_in (desk_in d) s).gaps (relied_flags d m s i r h z) l)

pub relied_uncut : ReliedUncut
relied_uncut d s i e r m h z at l k skipped all =
    let x = (desk_in d).nest_is in
    let g = gives d m s i r h z e at in
    all_skipped x.points x.flagged (read_in (desk_in d) s).gaps (relied_flags d m s i r h z) e l (rw g at k)
    skipped
    (λ j q. all j (rw g q))

pub relied_cut : ReliedCut
relied_cut d s i e r m h z at none cut skipped foreign =
    let x = (desk_in d).nest_is in
    let g = gives d m s i r h z e at in
    none_relied x.points x.flagged (read_in (desk_in d) s).gaps (relied_flags d m s i r h z) e
    (λ l. rw g at (none l)) (cut_has_gap x.points e (read_in (desk_in d) s).gaps cut) skipped foreign

-- 02, job 10: the list of the key is made of these
pub missing_each : MissingEach
missing_each d m h l =
    let x = (desk_in d).nest_is in
    let flags = flags_on d m h in (
      each_to x.points x.flagged (desk_in d).key flags x.deps l,
      each-from x.points x.flagged (desk_in d).key flags x.deps l,
    )

pub one_end_iff : OneEndIff
one_end_iff d i e r m h z at l =
    let x = (desk_in d).nest_is in
    let none : one_end_fault (desk_in d) i ≡ 0 = sym h.number_is ∙ z in
    let loaded = loaded_by d (first_zero (state_fault false (desk_in d)) (number_fault (desk_in d) i) none).0 in
    let gives : given r ≡ one_end_by x.points x.flagged e =
    (rw (eq-eqb (one_end_fault (desk_in d) i) 0 none) at h.set_is) ∙
    of-number (one_end_by x.points x.flagged) x.deps i e (drop (suc i) x.deps) at in
    rw (gives, in_one_end x.points x.flagged e (flags_on d m loaded) l) (splits_iff x.points x.flagged e l)

-- two desks with the same nest
pub relied_alike : ReliedAlike
relied_alike d e s i a b loaded nest h k =
    record {
      same_number =
          h.number_is ∙ alike (λ l x. (relied_fault (desk l x false [] [] []) s i).number) ∙ sym k.number_is;
      same_line = h.line_is ∙ alike (λ l x. (relied_fault (desk l x false [] [] []) s i).place) ∙ sym k.line_is;
      same_set = h.set_is ∙ alike (λ l x. loops_on (desk l x false [] [] [])) ∙ sym k.set_is;
    }
  where
    loops_on : Desk → List ℕ
    loops_on x = pick (eqb (relied_fault x s i).number 0) (relied_at x.nest_is (read_in x s).gaps i) []

    alike
        : {A : Type 0} (f : Bool → Nest → A)
        → f d.loaded (desk_in d).nest_is ≡ f e.loaded (desk_in e).nest_is
    alike f = cc (loaded, nest)

pub one_end_alike : OneEndAlike
one_end_alike d e i a b loaded nest =
    same_chosen (one_end_fault (desk_in d) i) (one_end_fault (desk_in e) i) (one_end_at (desk_in d).nest_is i)
    (one_end_at (desk_in e).nest_is i) a b (cc (loaded, nest)) (cc nest)
