-- The call on loops that may not run keeps its page.
-- Main statements: `inside_is`, `belongs_is`, `foreign_is`, `is-foreign`, `needed`, `is_needed`, `missing_kept`.
use mathlib.Core.Path.{◌≡◌, sym, ◌∙◌, ap, subst}
use mathlib.Core.Bool.{true, ◌&&◌, ◌||◌, not}
use mathlib.Core.List.{List}
use mathlib.Core.Logic.{◌⊎◌, inl, inr, ⊎_elim, ◌↔◌}
use Prim.Native.Nat.{ℕ, ◌≤◌, ◌<◌}
use native.Mathlib.Omega.{arith}
use lib.Dec.{eqb, ltb, leb}
use borrow.Author.Tests.{eq-eqb, eqb-true, ltb-true, leb-true, lt-ltb, le-leb, not-true}
use Rattle.laws.specs.Choice.{is_in}
use Rattle.laws.specs.Members.{Among}
use Rattle.laws.proofs.Tests.{never_both, and_true, and_intro, or-true, or_left, or_right, false_by, eq_or}
use Rattle.paper_nests.specs.declared.Dependence as DE
use Rattle.paper_nests.specs.Nests.{Dep, Nest}
use Rattle.paper_nests.specs.Loops.{is_do, end_of, in_loop, is_around}
use Rattle.paper_nests.specs.Gaps.{has_gap}
use Rattle.paper_nests.specs.Valid.{is_shape, is_valid}
use Rattle.paper_nests.specs.Stored.{dep_in, nest_in}
use Rattle.paper_nests.proofs.Deps.{valid_is}
use Rattle.paper_nests.proofs.Flags.{flag_is_do}
use Rattle.paper_nests.proofs.Loops.{inside_by, inside_lies, end-after}
use Rattle.paper_placements.specs.Words.{gaps_in}
use Rattle.paper_placements.proofs.Words.{in_gaps}
use Rattle.desk.specs.declared.Desk as DD
use Rattle.desk.specs.declared.Chosen as DC
use Rattle.desk.specs.Desks.{IsMade}
use Rattle.call_missing.specs.Foreign.{belongs, is_foreign}
use Rattle.call_missing.specs.Listed.{is_listed, NeedsBarrier}
use Rattle.call_missing.specs.Reached as R
use Rattle.call_missing.specs.Says.{MissingSays}
use Rattle.call_missing.proofs.Members.{in_words}
use Rattle.call_missing.proofs.Listed.{listed_iff}
use Rattle.call_missing.proofs.Missing.{missing_iff, missing_reached}
use Rattle.pages.specs.Demands.{In, Paper, KeyOn}
use Rattle.pages.proofs.Lists.{in_is, is-in, in_among}
use Rattle.pages.proofs.Bodies.{loop_end, loop_do, loop_at}
use Rattle.pages.proofs.Placements.{mapped, nest_of, nest_of_paper, mapped_at, gap_is, is-gap}
use Rattle.pages.proofs.Keys.{shaped, fit}
use Rattle.pages.proofs.Desks.{reached_made}
use Rattle.pages.proofs.Kept.{paper_on, flags_of, key_same, right}
use Rattle.pages_requests.proofs.Papers.{mapped_in, key_state, turn_state, bit_is, is_bit}
use Rattle.pages_calls.proofs.Flags.{flags_kept}
use Rattle.pages_calls.specs.MissingRuns.{Bit, Inside, Foreign, Needs, Clear, Substituted, MissingRuns}

module _ (p : Paper) (fl : List ℕ) (valid : is_valid (nest_of p fl) ≡ true) where
  abbrev ps : List ℕ
  ps = p.points

  abbrev ds : List Dep
  ds = mapped p.deps

  shape : is_shape ps ≡ true
  shape = shaped p fl valid

  pub flag_do : (l : ℕ) → is_in l fl ≡ true → is_do ps l ≡ true
  flag_do l h = flag_is_do ps fl (valid_is (nest_of p fl) valid).all_flags l h

  -- inside a loop
  pub inside_is : (l g : ℕ) → Inside ps l g → is_around ps g l ≡ true
  inside_is l g i =
      and_intro (lt-ltb l g i.within.0) (le-leb g (end_of ps l)
      (omega (arith, i.within.1, loop_end ps l i.end i.loop)))

  pub is-inside : (l g : ℕ) → is_do ps l ≡ true → is_around ps g l ≡ true → Inside ps l g
  is-inside l g d h =
      let z = and_true (ltb l g) (leb g (end_of ps l)) h in
      record {
        end = end_of ps l;
        loop = loop_at ps shape l d;
        within = (ltb-true l g z.0, leb-true g (end_of ps l) z.1);
      }

  -- from its DO to its ENDDO
  pub belongs_is : (l q : ℕ) → is_do ps l ≡ true → belongs ps l q ≡ true → (l ≤ q) × (q ≤ end_of ps l)
  belongs_is l q d h =
      let e = end-after ps shape l d in
      ⊎_elim
      (λ (z : in_loop ps l q ≡ true). let y = inside_lies ps l q z in (omega (arith, y.0), omega (arith, y.1)))
      (λ (z : (eqb q l || eqb q (end_of ps l)) ≡ true).
      ⊎_elim
      (λ (y : eqb q l ≡ true). let w = eqb-true q l y in (omega (arith, w), omega (arith, w, e)))
      (λ (y : eqb q (end_of ps l) ≡ true). let w = eqb-true q (end_of ps l) y in (omega (arith, w, e), omega (arith, w)))
      (or-true (eqb q l) (eqb q (end_of ps l)) z))
      (or-true (in_loop ps l q) (eqb q l || eqb q (end_of ps l)) h)

  pub is_belonging : (l q : ℕ) → l ≤ q → q ≤ end_of ps l → belongs ps l q ≡ true
  is_belonging l q a b =
      ⊎_elim
      (λ (z : q ≡ l). or_right (in_loop ps l q) (or_left (eqb q (end_of ps l)) (eq-eqb q l z)))
      (λ (z : q ≡ l → ⊥).
      ⊎_elim
      (λ (y : q ≡ end_of ps l). or_right (in_loop ps l q) (or_right (eqb q l) (eq-eqb q (end_of ps l) y)))
      (λ (y : q ≡ end_of ps l → ⊥).
      or_left (eqb q l || eqb q (end_of ps l)) (inside_by ps l q (omega (arith, z)) (omega (arith, y))))
      (eq_or q (end_of ps l)))
      (eq_or q l)

  -- foreign
  pub foreign_is : (x : DE.Dependence) (l : ℕ) → Foreign ps fl x l → is_foreign ps fl (dep_in x) l ≡ true
  unfolding is_foreign
  foreign_is x l f =
      let e = loop_end ps l f.end f.loop in
      let d = loop_do ps l f.end f.loop in
      and_intro (in_is l fl f.flagged.0 f.flagged.1)
      (and_intro
      (ap not (false_by (λ z. let b = belongs_is l x.s d z in f.source (b.0, omega (arith, b.1, e)))))
      (ap not (false_by (λ z. let b = belongs_is l x.t d z in f.target (b.0, omega (arith, b.1, e))))))

  pub is-foreign : (x : DE.Dependence) (l : ℕ) → is_foreign ps fl (dep_in x) l ≡ true → Foreign ps fl x l
  unfolding is_foreign
  is-foreign x l h =
      let a = and_true (is_in l fl) (not (belongs ps l x.s) && not (belongs ps l x.t)) h in
      let b = and_true (not (belongs ps l x.s)) (not (belongs ps l x.t)) a.1 in
      record {
        flagged = is-in l fl a.0;
        end = end_of ps l;
        loop = loop_at ps shape l (flag_do l a.0);
        source = λ z. never_both (is_belonging l x.s z.0 z.1) (not-true (belongs ps l x.s) b.0);
        target = λ z. never_both (is_belonging l x.t z.0 z.1) (not-true (belongs ps l x.t) b.1);
      }

  -- needing a barrier
  module _ (key : List ℕ) where
    needed : (l : ℕ) → NeedsBarrier ps ds fl key l → Needs p fl key l
    needed l h = go (mapped_in p.deps h.dep h.among)
      where
        go : (x : DE.Dependence) × (In x p.deps × (h.dep ≡ dep_in x)) → Needs p fl key l
        go (x, (i, e)) =
            let f : is_foreign ps fl (dep_in x) l ≡ true = ap (λ (y : Dep). is_foreign ps fl y l) (sym e) ∙ h.foreign in
            let c : has_gap ps (dep_in x) h.gap ≡ true = ap (λ (y : Dep). has_gap ps y h.gap) (sym e) ∙ h.cut in
            record {
              dep = x;
              is-dep = i;
              foreign = is-foreign x l f;
              cut_inside = (
                h.gap,
                (
                  (is-in h.gap key h.placed, is-gap ps shape x h.gap (fit p fl valid x i) c),
                  is-inside l h.gap (loop_do ps l (is-foreign x l f).end (is-foreign x l f).loop) h.inside,
                ),
              );
              none_outside =
                  λ g k out.
                  h.none_outside g (in_is g key k.0.0 k.0.1)
                  (ap (λ (y : Dep). has_gap ps y g) e ∙ gap_is ps shape x g k.1)
                  (λ j u.
                  false_by
                  (λ z.
                  let v = is-foreign x j (ap (λ (y : Dep). is_foreign ps fl y j) (sym e) ∙ u) in
                  out j v (is-inside j g (loop_do ps j v.end v.loop) z)));
            }

    is_needed : (l : ℕ) → Needs p fl key l → NeedsBarrier ps ds fl key l
    is_needed l h =
        let x = h.dep in
        let c = h.cut_inside in
        record {
          dep = dep_in x;
          among = in_among (dep_in x) ds h.is-dep.0 (mapped_at p.deps h.is-dep.0 x h.is-dep.1);
          foreign = foreign_is x l h.foreign;
          gap = c.0;
          placed = in_is c.0 key c.1.0.0.0 c.1.0.0.1;
          inside = inside_is l c.0 c.1.1;
          cut = gap_is ps shape x c.0 c.1.0.1;
          none_outside =
              λ g i k out.
              h.none_outside g (is-in g key i, is-gap ps shape x g (fit p fl valid x h.is-dep) k)
              (λ j u v. never_both (inside_is j g v) (out j (foreign_is x j u)));
        }

    -- what is reached
    reached_is
        : (skipped : List ℕ) (given : ℕ → Type 0) → ((l : ℕ) → is_listed ps ds fl key l ≡ true → given l)
        → (x : DE.Dependence) → In x p.deps → ((l : ℕ) → In l skipped → Foreign ps fl x l)
        → R.IsReached ps ds fl (dep_in x) skipped key → Clear p key skipped x ⊎ Substituted p key skipped given x
    reached_is skipped given listed x i f (inl h) =
        inl
        (record {
          gap = h.gap;
          cuts = (is-in h.gap key h.placed, is-gap ps shape x h.gap (fit p fl valid x i) h.cut);
          clear = λ l k v. never_both (inside_is l h.gap v) (h.clear l (in_is l skipped k.0 k.1));
        })
    reached_is skipped given listed x i f (inr h) =
        let k = is-in h.loop skipped h.is_skipped in
        let v = f h.loop k in
        inr
        (record {
          gap = h.gap;
          cuts = (is-in h.gap key h.placed, is-gap ps shape x h.gap (fit p fl valid x i) h.cut);
          loop = h.loop;
          skipped_and_given = (k, listed h.loop h.is-listed);
          inside = is-inside h.loop h.gap (loop_do ps h.loop v.end v.loop) h.inside;
          outermost =
              λ l e j w a b.
              never_both (inside_by ps l h.loop a (omega (arith, b, loop_end ps l e w)))
              (h.outermost l (in_is l skipped j.0 j.1));
        })

-- ---- the call

module _ (d : DD.Desk) (m : IsMade d) (key : List ℕ) (k : KeyOn d key) (r : DC.Chosen) (h : MissingSays d r) where
  abbrev page : Paper
  page = paper_on d

  abbrev flags : List ℕ
  flags = flags_of d

  answered : r.number ≡ 0
  answered = h.number_is ∙ key_state d m key k

  valid : is_valid (nest_of page flags) ≡ true
  valid = right d m key k

  abbrev NeedsOn : Nest → ℕ → Type 0
  NeedsOn n l = NeedsBarrier n.points n.deps n.flagged key l

  listed_here : (l : ℕ) → ((l < 256) × Bit r.set.words l) ↔ Needs page flags key l
  listed_here l =
      let q : (is_in l (gaps_in r.set.words) ≡ true) ↔ NeedsOn (nest_of page flags) l =
      subst (λ (n : Nest). (is_in l (gaps_in r.set.words) ≡ true) ↔ NeedsOn n l) (nest_of_paper d.nest)
      (subst
      (λ (g : List ℕ).
      (is_in l (gaps_in r.set.words) ≡ true) ↔
      NeedsBarrier (nest_in d.nest).points (nest_in d.nest).deps (nest_in d.nest).flagged g l)
      (sym (key_same d m key k)) (missing_iff d r m h answered l)) in (
        (λ b. needed page flags valid key l (q.0 (in_gaps r.set.words l b.0 ∙
            bit_is r.set.words l b.1))),
        (λ n.
            let i = in_words r.set.words l (q.1 (is_needed page flags valid key l n)) in
            (i.0, is_bit r.set.words l i.1)),
      )

  abbrev ReachedOn : List ℕ → DE.Dependence → Nest → List ℕ → Type 0
  ReachedOn skipped x n g =
      Among (dep_in x) n.deps → R.AllForeign n (dep_in x) skipped
      → R.IsReached n.points n.deps n.flagged (dep_in x) skipped g

  reached_here
      : (skipped : List ℕ) (x : DE.Dependence) → In x page.deps
      → ((l : ℕ) → In l skipped → Foreign page.points flags x l)
      → Clear page key skipped x ⊎ Substituted page key skipped (λ l. Bit r.set.words l) x
  reached_here skipped x i f =
      reached_is page flags valid key skipped (λ l. Bit r.set.words l)
      (λ l z.
      ((listed_here l).1
      (needed page flags valid key l ((listed_iff page.points flags key (mapped page.deps) l).0 z))).1)
      x i f
      (on_page (in_among (dep_in x) (mapped page.deps) i.0 (mapped_at page.deps i.0 x i.1))
      (λ l z. foreign_is page flags valid x l (f l (is-in l skipped z))))
    where
      on_page : ReachedOn skipped x (nest_of page flags) key
      on_page =
          subst (λ (n : Nest). ReachedOn skipped x n key) (nest_of_paper d.nest)
          (subst (λ (g : List ℕ). ReachedOn skipped x (nest_in d.nest) g) (sym (key_same d m key k))
          (missing_reached d r m h answered skipped (dep_in x)))

pub missing_kept : MissingRuns
missing_kept =
    record {
      flags = flags_kept;
      turn = λ d r n h o. (h.number_is ∙ (turn_state d n o).0, h.line_is);
      answers = λ d key r q k h. answered d (reached_made d q) key k r h;
      listed = λ d key r l q k h. listed_here d (reached_made d q) key k r h l;
      reached = λ d key skipped r x q k h i f. reached_here d (reached_made d q) key k r h skipped x i f;
    }
