-- The calls keep the demands of the page.
-- Main statement: `demands_kept`.
use mathlib.Core.Path.{◌≡◌, refl, sym, ◌∙◌, ap, subst}
use mathlib.Core.Bool.{Bool, true, false}
use mathlib.Core.List.{List, [], ◌∷◌}
use mathlib.Core.Logic.{⊎_elim, ◌↔◌}
use Prim.Native.Nat.{ℕ, ◌*◌, ◌/◌, ◌%◌, ◌^◌, ◌≤◌, ◌<◌}
use native.Mathlib.Omega.{arith}
use lib.Dec.{eqb, ltb}
use lib.ListN.{length, take, drop, get_or}
use lib.Seq.{drop-append_seam}
use borrow.Author.Tests.{eq-eqb, ne_eqb, eqb-true, ltb-false, le-ltb}
use Rattle.std.proofs.Common.{Result, Ok, Err}
use Rattle.laws.specs.Bits.{bit}
use Rattle.laws.specs.Choice.{pick_t, when, is_in}
use Rattle.laws.proofs.Tests.{never_both, eq_or, le_or, bool_by}
use Rattle.paper_refusals.specs.declared.Fault as PF
use Rattle.paper_nests.specs.declared.Dependence as DE
use Rattle.paper_nests.specs.Nests.{Nest}
use Rattle.paper_nests.specs.Valid.{is_valid}
use Rattle.paper_nests.specs.Stored.{nest_in}
use Rattle.paper_nests.proofs.Deps.{valid_is}
use Rattle.paper_lines.specs.Writing.{over}
use Rattle.paper_barred.specs.Reduced.{is_blocked}
use Rattle.paper_placements.specs.Placements.{are_gaps_from, is_correct}
use Rattle.paper_placements.specs.Words.{holds, gaps_in}
use Rattle.paper_order.specs.Keys.{IsKey}
use Rattle.paper_order.specs.Verdicts.{mark_of}
use Rattle.paper_placements.proofs.Cuts.{correct_gaps, correct_avoids}
use Rattle.paper_placements.proofs.Words.{in_gaps}
use Rattle.paper_placements.proofs.Rising.{rising_in, rising_equal, rising_wider}
use Rattle.paper_texts.specs.NestTexts as T
use Rattle.paper_texts.specs.PlacementTexts.{Placed, read_placement, key_text}
use Rattle.paper_texts.proofs.Accepted.{accepted_means, accepted_valid, meaning_accepted}
use Rattle.paper_texts.proofs.PlacedTexts.{placed_spelling, placed_spells}
use Rattle.desk.specs.declared.Desk as DD
use Rattle.desk.specs.declared.Reply as DR
use Rattle.desk.specs.declared.Answer as DA
use Rattle.desk.specs.declared.Verdict as DV
use Rattle.desk.specs.Desks.{Desk, desk_in, IsMade, state_fault, fault}
use Rattle.desk.specs.Says.{PlanSays, MarkSays, WriteSays, mark_in, verdict_in, marked, write_fault}
use Rattle.desk.specs.Says.{given, refused}
use Rattle.desk.specs.Since as S
use Rattle.desk.proofs.Made.{since_holds, load_then_plan}
use Rattle.desk.proofs.Ready.{Ready, ready}
use Rattle.desk.proofs.TwoDesks.{made_first}
use Rattle.desk.proofs.ReadAgain.{written_text}
use Rattle.pages.specs.Demands.{Paper, paper_in, Spells, Places}
use Rattle.pages.specs.Demands.{Since, SetIn, KeyOn, Marks, Planned, Demands}
use Rattle.pages.proofs.Lists.{in_is, is-in}
use Rattle.pages.proofs.Placements.{nest_of, nest_of_paper}
use Rattle.pages.proofs.Placements.{rising_is, is_rising, correct_is}
use Rattle.pages.proofs.Keys.{shaped, key-of}
use Rattle.pages.proofs.Texts.{means_page, page_means, page_placed, placed_page, one_placed, unmapped, unmap}
use Rattle.pages.proofs.Texts.{map_back}
use Rattle.pages.proofs.Turns.{step_kept, unwritten, plan_early, mark_early, write_early}
use Rattle.pages.proofs.Verdicts.{verdict_means}
use Rattle.pages.proofs.Desks.{plain_made, old_reached, reached_made, since_made, since_is}

-- ---- the key's words

-- flags of a desk's nest, and its nest as one of a paper
abbrev pub flags_of : DD.Desk → List ℕ
flags_of d = take d.nest.flags d.nest.flagged

abbrev pub paper_on : DD.Desk → Paper
paper_on d = paper_in d.nest

held : (ws : List ℕ) (g : ℕ) → (holds ws g ≡ true) ↔ (get_or ws (g / 64) 0 / 2 ^ (g % 64) % 2 ≡ 1)
unfolding holds bit
held ws g = (eqb-true (get_or ws (g / 64) 0 / 2 ^ (g % 64) % 2) 1, eq-eqb (get_or ws (g / 64) 0 / 2 ^ (g % 64) % 2) 1)

pub set_here : (ws : List ℕ) → are_gaps_from 0 256 (gaps_in ws) ≡ true → SetIn ws (gaps_in ws)
set_here ws h =
    record {
      rising = is_rising 256 0 (gaps_in ws) h;
      bits =
          λ g l. (
            (λ i. (held ws g).0 (sym (in_gaps ws g l) ∙ in_is g (gaps_in ws) i.0 i.1)),
            (λ b. is-in g (gaps_in ws) (in_gaps ws g l ∙ (held ws g).1 b)),
          );
    }

pub set_is : (ws gs : List ℕ) → are_gaps_from 0 256 (gaps_in ws) ≡ true → SetIn ws gs → gs ≡ gaps_in ws
set_is ws gs h k = rising_equal 0 256 gs (gaps_in ws) (rising_is 256 0 gs k.rising) h (λ g. same g)
  where
    inside : (g : ℕ) → g < 256 → is_in g gs ≡ is_in g (gaps_in ws)
    inside g l =
        bool_by (is_in g gs) (is_in g (gaps_in ws))
        (λ i. in_gaps ws g l ∙ (held ws g).1 ((k.bits g l).0 (is-in g gs i)))
        (λ i.
        let q = (k.bits g l).1 ((held ws g).0 (sym (in_gaps ws g l) ∙ i)) in
        in_is g gs q.0 q.1)

    same : (g : ℕ) → is_in g gs ≡ is_in g (gaps_in ws)
    same g =
        ⊎_elim
        (λ (z : 256 ≤ g).
        bool_by (is_in g gs) (is_in g (gaps_in ws))
        (λ i. absurd (omega (arith, rising_in 0 256 gs g (rising_is 256 0 gs k.rising) i)))
        (λ i. absurd (omega (arith, rising_in 0 256 (gaps_in ws) g h i))))
        (λ (z : g < 256). inside g z)
        (le_or 256 g)

-- ---- demand 3

module _ (t : List ℕ) (d : DD.Desk) (q : S.Since t d) where
  nest_is : (T.read_nest t).nest_is ≡ nest_of (paper_on d) (flags_of d)
  nest_is = sym (since_holds t d q).nest_is ∙ nest_of_paper d.nest

  accepted : (T.read_nest t).number ≡ 0
  accepted = (since_holds t d q).accepted

  valid : is_valid (nest_of (paper_on d) (flags_of d)) ≡ true
  valid = ap is_valid (sym nest_is) ∙ accepted_valid t accepted

  spelled : Spells t (paper_on d)
  spelled = means_page t (paper_on d) (flags_of d) (subst (λ (n : Nest). T.Means t n) nest_is (accepted_means t accepted))

  module _ (r : DR.Reply) where
    none_planned : S.PlansNone t d r → Planned (paper_on d) r
    none_planned n =
        Planned.none n.number_is
        (λ gs c.
        n.none_correct gs
        (ap (λ (x : Nest). is_correct x gs) nest_is ∙
        correct_is (paper_on d) (flags_of d) (shaped (paper_on d) (flags_of d) valid) gs c))

    key_planned : S.PlansKey t r → Planned (paper_on d) r
    key_planned k =
        let key = gaps_in r.desk.key.words in
        let n = nest_of (paper_on d) (flags_of d) in
        let i : IsKey n key = subst (λ (x : Nest). IsKey x key) nest_is k.is_key in
        let few = (valid_is n valid).few_points in
        let wide = rising_wider 0 (length n.points) 256 key few (correct_gaps n key i.correct) in
        Planned.key key k.no_refusal (record { planned = k.has-key; set = set_here r.desk.key.words wide })
        (key-of (paper_on d) (flags_of d) valid key i)

plans : (t : List ℕ) (d : DD.Desk) (r : DR.Reply) → Since t d → PlanSays d r → Planned (paper_on d) r
plans t d r s h = go (is_blocked (T.read_nest t).nest_is) (load_then_plan t d r (since_is t d s) h)
  where
    go : (b : Bool) → pick_t b (S.PlansNone t d r) (S.PlansKey t r) → Planned (paper_on d) r
    go true n = none_planned t d (since_is t d s) r n
    go false k = key_planned t d (since_is t d s) r k

-- ---- demand 2: texts

pub text_accepted : (t : List ℕ) → (T.read_nest t).number ≡ 0 → (p : Paper) × Spells t p
text_accepted t z =
    let n = (T.read_nest t).nest_is in
    let p : Paper = record { points = n.points; deps = unmapped n.deps; barred = n.barred } in
    let same : n ≡ nest_of p n.flagged = rw (map_back n.deps) in
    (p, means_page t p n.flagged (subst (λ (x : Nest). T.Means t x) same (accepted_means t z)))

pub paper_read : (t : List ℕ) (p : Paper) → Spells t p → (fl : List ℕ) × (T.read_nest t ≡ T.got 0 0 (nest_of p fl))
paper_read t p s = let q = page_means t p s in (q.0, meaning_accepted t (nest_of p q.0) q.1)

abbrev pub paper : List ℕ → List DE.Dependence → List ℕ → Paper
paper a b c = record { points = a; deps = b; barred = c }

pub same_paper
    : (a x : List ℕ) (b y : List DE.Dependence) (c z : List ℕ) → a ≡ x → b ≡ y → c ≡ z → paper a b c ≡ paper x y z
same_paper a x b y c z i j k = cc

one_paper : (t : List ℕ) (p q : Paper) → Spells t p → Spells t q → p ≡ q
one_paper t p q a b =
    let x = paper_read t p a in
    let y = paper_read t q b in
    let e : nest_of p x.0 ≡ nest_of q y.0 = ap (λ (g : T.Got). g.nest_is) (sym x.1 ∙ y.1) in
    let i : p.points ≡ q.points = ap (λ (n : Nest). n.points) e in
    let j : p.deps ≡ q.deps = sym (unmap p.deps) ∙ ap unmapped (ap (λ (n : Nest). n.deps) e) ∙ unmap q.deps in
    let k : p.barred ≡ q.barred = ap (λ (n : Nest). n.barred) e in
    same_paper p.points q.points p.deps q.deps p.barred q.barred i j k

pub text_five : (gs : List ℕ) → length (key_text gs) ≡ 5 * length gs
unfolding key_text
text_five [] = refl
text_five (g ∷ gs) = let z = text_five gs in omega arith

-- ---- a desk with a key

module _ (d : DD.Desk) (m : IsMade d) (key : List ℕ) (k : KeyOn d key) where
  abbrev pub nest : Nest
  nest = nest_of (paper_on d) (flags_of d)

  nest_same : nest_in d.nest ≡ nest
  nest_same = nest_of_paper d.nest

  pub has-nest : d.loaded ≡ true
  has-nest = go d.loaded refl
    where
      go : (t : Bool) → d.loaded ≡ t → t ≡ true
      go true a = refl
      go false a = never_both k.planned (ap (λ (x : Desk). x.has_key) (m.paper.no_nest a))

  state : state_fault true (desk_in d) ≡ 0
  state = rw (has-nest, k.planned)

  all : Ready d
  all = ready d m state

  pub key_wide : are_gaps_from 0 256 (gaps_in d.key.words) ≡ true
  key_wide = rising_wider 0 (length (nest_in d.nest).points) 256 (gaps_in d.key.words) all.few all.key-gaps

  pub key_same : key ≡ gaps_in d.key.words
  key_same = set_is d.key.words key key_wide k.set

  pub key_key : IsKey nest key
  key_key =
      subst (λ (n : Nest). IsKey n key) nest_same
      (subst (λ (x : List ℕ). IsKey (nest_in d.nest) x) (sym key_same) (made_first d m k.planned).is_key)

  pub right : is_valid nest ≡ true
  right = ap is_valid (sym nest_same) ∙ all.valid

  few : length (paper_on d).points ≤ 256
  few = (valid_is nest right).few_points

  -- what Mark reads
  abbrev read : List ℕ → Placed
  read t = read_placement (length (paper_on d).points) (paper_on d).barred t

  mark_read : (t : List ℕ) → (read t).number ≡ 0 → marked (desk_in d) t ≡ given (mark_of nest key (read t).gaps)
  mark_read t z =
      let a : marked (desk_in d) t ≡ given (mark_of (nest_in d.nest) (gaps_in d.key.words) (read t).gaps) =
      rw (eq-eqb (state_fault true (desk_in d)) 0 state, eq-eqb (read t).number 0 z) in
      a ∙ ap (λ (n : Nest). given (mark_of n (gaps_in d.key.words) (read t).gaps)) nest_same ∙
      ap (λ (x : List ℕ). given (mark_of nest x (read t).gaps)) (sym key_same)

  mark_refused
      : (t : List ℕ) → ((read t).number ≡ 0 → ⊥) → marked (desk_in d) t ≡ refused (fault (read t).number (read t).place)
  mark_refused t z = rw (eq-eqb (state_fault true (desk_in d)) 0 state, ne_eqb (read t).number 0 z)

  mark_means : (t : List ℕ) (x : Result DV.Verdict PF.Fault) → MarkSays d t x → Marks (paper_on d) key t x
  mark_means t x h =
      ⊎_elim (λ z. yes z x (h ∙ mark_read t z)) (λ z. not_read z x (h ∙ mark_refused t z)) (eq_or (read t).number 0)
    where
      yes
          : (read t).number ≡ 0 → (x : Result DV.Verdict PF.Fault) → mark_in x ≡ given (mark_of nest key (read t).gaps)
          → Marks (paper_on d) key t x
      yes z (Err f) e = let q : ◌≡◌ {A = ℕ} 0 1 = cc e in absurd (omega arith)
      yes z (Ok v) e =
          let s = placed_spells (length (paper_on d).points) (paper_on d).barred t z in
          let w : verdict_in v ≡ mark_of nest key (read t).gaps = cc e in (
            (read t).gaps,
            (
              placed_page (paper_on d) t (read t).gaps few s,
              verdict_means (paper_on d) (flags_of d) right key key_key (read t).gaps s.gaps s.avoiding v w,
            ),
          )

      not_read
          : ((read t).number ≡ 0 → ⊥) → (x : Result DV.Verdict PF.Fault)
          → mark_in x ≡ refused (fault (read t).number (read t).place)
          → Marks (paper_on d) key t x
      not_read z (Ok v) e = let q : ◌≡◌ {A = ℕ} 0 1 = cc e in absurd (omega arith)
      not_read z (Err f) e =
          λ gs s.
          z (ap (λ (y : Placed). y.number)
          ((placed_spelling (length (paper_on d).points) (paper_on d).barred t gs few).1
          (page_placed (paper_on d) t gs s)))

  room_means
      : (out out' : List ℕ) (a : DA.Answer) → WriteSays d out out' a → (a.number ≡ 0) ↔ (5 * length key ≤ length out)
  room_means out out' a h =
      let t = key_text (gaps_in d.key.words) in
      let l : length t ≡ 5 * length key =
      text_five (gaps_in d.key.words) ∙ ap (λ (x : List ℕ). 5 * length x) (sym key_same) in
      let e : a.number ≡ when (ltb (length out) (length t)) 9 = rw state at h.number_is in (
        (λ z. fits (ltb (length out) (length t)) refl l (sym e ∙ z)),
        (λ z. e ∙ rw (le-ltb (length out) (length t) (omega (arith, l)))),
      )
    where
      fits
          : (b : Bool) → ltb (length out) (length (key_text (gaps_in d.key.words))) ≡ b
          → length (key_text (gaps_in d.key.words)) ≡ 5 * length key → when b 9 ≡ 0 → 5 * length key ≤ length out
      fits true q l z = absurd (omega arith)
      fits false q l z = omega (arith, ltb-false (length out) (length (key_text (gaps_in d.key.words))) q)

  write_means
      : (out out' : List ℕ) (a : DA.Answer) → WriteSays d out out' a → a.number ≡ 0
      → Places (paper_on d) (take a.value out') key × (drop a.value out' ≡ drop a.value out)
  write_means out out' a h z =
      let t = key_text (gaps_in d.key.words) in
      let ok : eqb (write_fault (desk_in d) out) 0 ≡ true =
      eq-eqb (write_fault (desk_in d) out) 0 (sym h.number_is ∙ z) in
      let l : a.value ≡ length t = rw ok at h.value_is in
      let o : out' ≡ over t out = rw ok at h.out_is in
      let text : take a.value out' ≡ key_text key = written_text d out out' a h z ∙ ap key_text (sym key_same) in (
        placed_page (paper_on d) (take a.value out') key few
            (record {
              gaps = correct_gaps nest key key_key.correct;
              avoiding = correct_avoids nest key key_key.correct;
              text = text;
            }),
        rw (o, l) (drop-append_seam t (drop (length t) out)),
      )

-- a desk with a key
pub key_there : (d : DD.Desk) → IsMade d → d.planned ≡ true → (key : List ℕ) × KeyOn d key
key_there d m z =
    let i = (made_first d m z).is_key in
    let l = rising_wider 0 (length (nest_in d.nest).points) 256 (gaps_in d.key.words) (few_points d m)
    (correct_gaps (nest_in d.nest) (gaps_in d.key.words) i.correct) in
    (gaps_in d.key.words, record { planned = z; set = set_here d.key.words l })
  where
    few_points : (d : DD.Desk) → IsMade d → length (nest_in d.nest).points ≤ 256
    few_points d m = omega (arith, m.counted.count_is, m.counted.count_fits)

-- the three demands
pub demands_kept : Demands
demands_kept =
    record {
      assumed = reached_made;
      assumed_old = λ old. (old_reached old, (λ r. plain_made r.0 old r.1.1 (reached_made r.0 r.1.0)));
      desk_kept = step_kept;
      bytes_kept = unwritten;
      plan_turn = plan_early;
      mark_turn = mark_early;
      write_turn = write_early;
      accepted =
          λ d t r h. (
            (λ z. text_accepted t (sym h.number_is ∙ z)),
            (λ s. h.number_is ∙ ap (λ (g : T.Got). g.number) (paper_read t s.0 s.1).1),
          );
      one_paper = one_paper;
      has-key = λ d q z. key_there d (reached_made d q) z;
      mark = λ d key t x q k h. mark_means d (reached_made d q) key k t x h;
      room = λ d key out out' a q k h. room_means d (reached_made d q) key k out out' a h;
      write = λ d key out out' a q k h z. write_means d (reached_made d q) key k out out' a h z;
      read_again = one_placed;
      spelled = λ t d q. spelled t d (since_is t d q);
      planned = plans;
      stays =
          λ t d gs q k.
          let m = since_made t d q in
          key-of (paper_on d) (flags_of d) (right d m gs k) gs (key_key d m gs k);
    }
