-- The calls keep the page of the numbers.
-- Main statement: `numbers_kept`.
use mathlib.Core.Path.{◌≡◌, refl, sym, ◌∙◌, ap, subst}
use mathlib.Core.Bool.{Bool, true, false, not}
use mathlib.Core.List.{List, [], ◌∷◌}
use mathlib.Core.Logic.{◌⊎◌, inl, inr, ⊎_elim}
use Prim.Native.Nat.{ℕ, zero, suc, ◌*◌, ◌≤◌, ◌<◌}
use native.Mathlib.Omega.{arith}
use lib.Dec.{eqb, ltb}
use lib.ListN.{length, get_or}
use borrow.Author.Tests.{eq-eqb, ne_eqb, eqb-true, ltb-true, ltb-false, not-true}
use Rattle.std.proofs.Common.{Err}
use Rattle.laws.specs.Choice.{pick, when, first_of, is_in}
use Rattle.laws.proofs.Tests.{never, never_both, test, false_by, or-true, eq_or}
use Rattle.paper_refusals.specs.declared.Fault as PF
use Rattle.paper_nests.specs.declared.Dependence as DE
use Rattle.paper_nests.specs.Nests.{Nest}
use Rattle.paper_nests.specs.Loops.{is_do}
use Rattle.paper_nests.specs.Valid.{is_shape, is_valid}
use Rattle.paper_nests.specs.Stored.{nest_in, dep_in}
use Rattle.paper_nests.proofs.Levels.{point_in}
use Rattle.paper_nests.proofs.Loops.{end_there}
use Rattle.paper_nests.proofs.Deps.{Fits, valid_is}
use Rattle.paper_placements.specs.Placements.{loop_count}
use Rattle.paper_placements.specs.Words.{gaps_in}
use Rattle.paper_placements.proofs.Cuts.{correct_gaps}
use Rattle.paper_barred.specs.Reduced.{is_shut, some_shut, is_blocked}
use Rattle.paper_barred.proofs.Reduced.{Open, open_by}
use Rattle.paper_barred.proofs.ReducedNest.{none_shut}
use Rattle.paper_texts.specs.NestTexts.{read_nest}
use Rattle.paper_texts.specs.PlacementTexts.{Placed, read_placement, key_text}
use Rattle.paper_order.specs.Verdicts.{mark_of}
use Rattle.desk.specs.declared.Desk as DD
use Rattle.desk.specs.declared.Reply as DR
use Rattle.desk.specs.declared.Answer as DA
use Rattle.desk.specs.Desks.{desk_in, IsMade, state_fault, plan_fault, Fault, fault, list_fault, list_uncut}
use Rattle.desk.specs.Says.{PlanSays, CountSays, MarkSays, WriteSays, ListSays, count_fault, write_fault}
use Rattle.desk.specs.Says.{check_fault, marked, Mark, given, refused}
use Rattle.call_list.specs.Lists.{all_deps}
use Rattle.pages.specs.Demands.{In, HowMany, Own, Loop, GapOf, Paper, KeyOn, OutOfTurn, number_told}
use Rattle.pages.specs.Numbers.{LoadNumber, PlaceNumber, ListNumber, FirstUncut, InTurn, points_on}
use Rattle.pages.specs.Numbers.{PlanNumber, CountNumber, WriteNumber}
use Rattle.pages.specs.Numbers.{Numbers}
use Rattle.pages.proofs.Lists.{at_in, at_is, is_at, in_is, is-in, in_among}
use Rattle.pages.proofs.Bodies.{loop_do}
use Rattle.pages.proofs.Placements.{mapped, nest_of, nest_of_paper, mapped_at, gap_is, is-gap, counted}
use Rattle.pages.proofs.Keys.{shaped, fit}
use Rattle.pages.proofs.Desks.{reached_made}
use Rattle.pages.proofs.Loading.{load_is, is_load}
use Rattle.pages.proofs.Placing.{place_is, is_place}
use Rattle.pages.proofs.Listing.{is_list, one_list, is_uncut}
use Rattle.pages.proofs.MoveNumbers.{put_kept, lift_kept, reached_standing, back_kept}
use Rattle.pages.proofs.Turns.{turn_state, fault_in, numbered}
use Rattle.pages.proofs.Kept.{paper_on, flags_of, key_there, has-nest, key_same, key_key, right, text_five}

-- ---- turns

-- out of turn, or in turn
turn_or : (d : DD.Desk) → ((n : ℕ) × OutOfTurn d n) ⊎ InTurn d
turn_or d = go d.loaded d.planned refl refl
  where
    go : (a b : Bool) → d.loaded ≡ a → d.planned ≡ b → ((n : ℕ) × OutOfTurn d n) ⊎ InTurn d
    go false b x y = inl (10, OutOfTurn.no_nest x)
    go true false x y = inl (11, OutOfTurn.no_key x y)
    go true true x y = inr (record { has-nest = x; has-key = y })

in_turn : (d : DD.Desk) → InTurn d → state_fault true (desk_in d) ≡ 0
in_turn d t = rw (t.has-nest, t.has-key)

state_first : (s n k : ℕ) → s ≡ n → 0 < n → first_of s k ≡ n
state_first s zero k q l = absurd (omega arith)
state_first s (suc n) k q l = rw q

list_checked
    : (d : DD.Desk) (xs : List DE.Dependence) → InTurn d
    → check_fault (desk_in d) (all_deps xs) ≡ list_fault 1 (points_on d) (all_deps xs)
list_checked d xs t =
    let z = in_turn d t in
    rw (eq-eqb (state_fault true (desk_in d)) 0 z)

-- ---- a desk with a nest

module _ (d : DD.Desk) (m : IsMade d) (loaded : d.loaded ≡ true) where
  abbrev page : Paper
  page = paper_on d

  abbrev nest : Nest
  nest = nest_of page (flags_of d)

  nest_same : nest_in d.nest ≡ nest
  nest_same = nest_of_paper d.nest

  sound : is_valid nest ≡ true
  sound = ap is_valid (sym nest_same) ∙ m.paper.valid loaded

  few : length page.points ≤ 256
  few = (valid_is nest sound).few_points

  -- ---- Plan

  shape : is_shape page.points ≡ true
  shape = shaped page (flags_of d) sound

  -- a gap of a dependence lies in the nest
  target_there : (x : DE.Dependence) → Fits page.points (dep_in x) → x.t < length page.points
  target_there x (inl l) = l.target_there
  target_there x (inr l) = omega (arith, l.target_before, end_there page.points shape x.d l.loop)

  gap_there
      : (x : DE.Dependence) (g : ℕ) → Fits page.points (dep_in x) → GapOf page.points x g
      → (0 < g) × (g < length page.points)
  gap_there x g f (GapOf.line k a b) = (omega arith, omega (arith, target_there x f))
  gap_there x g f (GapOf.front k a b) = (omega arith, omega (arith, target_there x f))
  gap_there x g f (GapOf.back e k l a b) = (omega arith, omega (arith, at_in page.points e 2 l.ends))

  open_here
      : (x : DE.Dependence) (g : ℕ) → Fits page.points (dep_in x) → GapOf page.points x g
      → (In g page.barred → ⊥) → Open page.points page.barred (dep_in x)
  open_here x g f i n =
      let r = gap_there x g f i in
      record {
        gap = g;
        first = r.0;
        last = omega (arith, r.1);
        its = gap_is page.points shape x g i;
        free = ap not (false_by (λ (z : is_in g page.barred ≡ true). n (is-in g page.barred z)));
      }

  -- some dependence has all its gaps barred, or each has one that is not
  shut_or
      : (xs : List DE.Dependence) → ((x : DE.Dependence) → In x xs → Fits page.points (dep_in x))
      → some_shut page.points page.barred (mapped xs) ≡ true
      → (x : DE.Dependence) × (In x xs × ((g : ℕ) → GapOf page.points x g → In g page.barred))
  shut_or [] f h = never h
  shut_or (x ∷ xs) f h =
      ⊎_elim
      (λ (z : is_shut page.points page.barred (dep_in x) ≡ true). (x, ((0, refl), (λ g i. barred z g i))))
      (λ (z : some_shut page.points page.barred (mapped xs) ≡ true).
      let r = shut_or xs (λ y i. f y (suc i.0, i.1)) z in
      (r.0, ((suc r.1.0.0, r.1.0.1), r.1.1)))
      (or-true (is_shut page.points page.barred (dep_in x)) (some_shut page.points page.barred (mapped xs)) h)
    where
      barred
          : is_shut page.points page.barred (dep_in x) ≡ true → (g : ℕ) → GapOf page.points x g
          → In g page.barred
      barred z g i =
          ⊎_elim
          (λ (y : is_in g page.barred ≡ true). is-in g page.barred y)
          (λ (y : is_in g page.barred ≡ false).
          absurd (never_both z (open_by page.points page.barred (dep_in x)
          (open_here x g (f x (0, refl)) i (λ j. never_both (in_is g page.barred j.0 j.1) y)))))
          (test (is_in g page.barred))

  plan_number : PlanNumber d (plan_fault (desk_in d))
  plan_number =
      let a : state_fault false (desk_in d) ≡ 0 = rw loaded in
      let b : plan_fault (desk_in d) ≡ when (is_blocked nest) 15 =
      ap (λ (k : ℕ). first_of k (when (is_blocked (nest_in d.nest)) 15)) a ∙
      ap (λ (n : Nest). when (is_blocked n) 15) nest_same in
      subst (PlanNumber d) (sym b) (go (is_blocked nest) refl)
    where
      go : (t : Bool) → is_blocked nest ≡ t → PlanNumber d (when t 15)
      go true e =
          let r = shut_or page.deps (fit page (flags_of d) sound) e in
          PlanNumber.blocked r.0 loaded r.1.0 r.1.1
      go false e =
          PlanNumber.planned loaded
          (λ x i.
          let o = none_shut page.points page.barred (mapped page.deps) e (dep_in x)
          (in_among (dep_in x) (mapped page.deps) i.0 (mapped_at page.deps i.0 x i.1)) in (
            o.gap,
            (
              is-gap page.points shape x o.gap (fit page (flags_of d) sound x i) o.its,
              (λ j. never_both (in_is o.gap page.barred j.0 j.1)
                  (not-true (is_in o.gap page.barred) o.free)),
            ),
          ))

-- ---- Plan and Count

plan_kept : (d : DD.Desk) (r : DR.Reply) → IsMade d → PlanSays d r → PlanNumber d r.number × (r.line ≡ 0)
plan_kept d r m h = (subst (PlanNumber d) (sym h.number_is) (go d.loaded refl), h.line_is)
  where
    go : (t : Bool) → d.loaded ≡ t → PlanNumber d (plan_fault (desk_in d))
    go true e = plan_number d m e
    go false e =
        let z : plan_fault (desk_in d) ≡ 10 = rw e in
        subst (PlanNumber d) (sym z) (PlanNumber.no_nest e)

module _ (d : DD.Desk) (i : ℕ) (a : DA.Answer) (h : CountSays d i a) where
  count_kept : CountNumber d i a.number × (a.line ≡ 0)
  count_kept = (subst (CountNumber d i) (sym h.number_is) (⊎_elim early turned (turn_or d)), h.line_is)
    where
      early : (n : ℕ) × OutOfTurn d n → CountNumber d i (count_fault (desk_in d) i)
      early o =
          let s = turn_state d o.0 o.1 in
          subst (CountNumber d i)
          (sym (state_first (state_fault true (desk_in d)) o.0 (when (not (is_do (points_on d) i)) 6) s.0 s.1))
          (CountNumber.turn o.1)

      go : (t : Bool) → is_do (points_on d) i ≡ t → InTurn d → CountNumber d i (when (not t) 6)
      go true e t =
          CountNumber.loop t (is_at (points_on d) i 1 0 (point_in (points_on d) i 0 e)
          (eqb-true (get_or (points_on d) i 0) 1 e))
      go false e t =
          CountNumber.no_loop t (λ q. never_both (eq-eqb (get_or (points_on d) i 0) 1 (at_is (points_on d) i 1 0 q)) e)

      turned : InTurn d → CountNumber d i (count_fault (desk_in d) i)
      turned t =
          let z : count_fault (desk_in d) i ≡ when (not (is_do (points_on d) i)) 6 =
          ap (λ (k : ℕ). first_of k (when (not (is_do (points_on d) i)) 6)) (in_turn d t) in
          subst (CountNumber d i) (sym z) (go (is_do (points_on d) i) refl t)

module _ (d : DD.Desk) (m : IsMade d) (key : List ℕ) (k : KeyOn d key) where
  turned : InTurn d
  turned = record { has-nest = has-nest d m key k; has-key = k.planned }

  counted_kept
      : (i e : ℕ) (a : DA.Answer) → CountSays d i a → Loop (points_on d) i e
      → HowMany (Own (points_on d) i e) key a.value
  counted_kept i e a h l =
      let gs = gaps_in d.key.words in
      let n = nest_of (paper_on d) (flags_of d) in
      let z : count_fault (desk_in d) i ≡ 0 = rw (in_turn d turned, loop_do (points_on d) i e l) in
      let v : a.value ≡ loop_count (nest_in d.nest) gs i =
      rw (eq-eqb (count_fault (desk_in d) i) 0 z) at h.value_is in
      let w : a.value ≡ loop_count n key i =
      v ∙ ap (λ (x : Nest). loop_count x gs i) (nest_of_paper d.nest) ∙
      ap (λ (x : List ℕ). loop_count n x i) (sym (key_same d m key k)) in
      subst (HowMany (Own (points_on d) i e) key) (sym w)
      (counted (points_on d) (shaped (paper_on d) (flags_of d) (right d m key k)) n refl i e 0 l key
      (correct_gaps n key (key_key d m key k).correct))

  -- ---- Write, the list

  write_number : (out : List ℕ) → WriteNumber d out (write_fault (desk_in d) out)
  write_number out =
      let t = length (key_text (gaps_in d.key.words)) in
      let long : t ≡ 5 * length key =
      text_five (gaps_in d.key.words) ∙ ap (λ (x : List ℕ). 5 * length x) (sym (key_same d m key k)) in
      let z : write_fault (desk_in d) out ≡ when (ltb (length out) t) 9 =
      ap (λ (j : ℕ). first_of j (when (ltb (length out) t) 9)) (in_turn d turned) in
      subst (WriteNumber d out) (sym z) (go t long (ltb (length out) t) refl)
    where
      go
          : (t : ℕ) → t ≡ 5 * length key → (b : Bool) → ltb (length out) t ≡ b → WriteNumber d out (when b 9)
      go t e true h = WriteNumber.short key turned k (omega (arith, ltb-true (length out) t h))
      go t e false h = WriteNumber.fits key turned k (omega (arith, ltb-false (length out) t h))

  uncut_kept
      : (xs : List DE.Dependence) (a : DA.Answer) → ListSays d (all_deps xs) a → a.number ≡ 0
      → FirstUncut (points_on d) key xs a.value
  uncut_kept xs a h z =
      let gs = gaps_in d.key.words in
      let c : check_fault (desk_in d) (all_deps xs) ≡ list_fault 1 (points_on d) (all_deps xs) =
      list_checked d xs turned in
      let n : (list_fault 1 (points_on d) (all_deps xs)).number ≡ 0 =
      ap (λ (f : Fault). f.number) (sym c) ∙ sym h.number_is ∙ z in
      let v : a.value ≡ list_uncut 1 (points_on d) (all_deps xs) gs =
      rw (eq-eqb (check_fault (desk_in d) (all_deps xs)).number 0 (sym h.number_is ∙ z)) at h.value_is in
      subst (FirstUncut (points_on d) key xs)
      (sym (v ∙ ap (list_uncut 1 (points_on d) (all_deps xs)) (sym (key_same d m key k))))
      (is_uncut (points_on d) (shaped (paper_on d) (flags_of d) (right d m key k)) key xs n)

write_Kept
    : (d : DD.Desk) (out out' : List ℕ) (a : DA.Answer) → IsMade d → WriteSays d out out' a
    → WriteNumber d out a.number × (a.line ≡ 0)
write_Kept d out out' a m h =
    (subst (WriteNumber d out) (sym h.number_is) (⊎_elim early later (turn_or d)), h.line_is)
  where
    early : (n : ℕ) × OutOfTurn d n → WriteNumber d out (write_fault (desk_in d) out)
    early o =
        let s = turn_state d o.0 o.1 in
        subst (WriteNumber d out)
        (sym (state_first (state_fault true (desk_in d)) o.0
        (when (ltb (length out) (length (key_text (gaps_in d.key.words)))) 9) s.0 s.1))
        (WriteNumber.turn o.1)

    later : InTurn d → WriteNumber d out (write_fault (desk_in d) out)
    later t = let q = key_there d m t.has-key in write_number d m q.0 q.1 out

list_early
    : (d : DD.Desk) (xs : List DE.Dependence) (a : DA.Answer) (n : ℕ) → ListSays d (all_deps xs) a → OutOfTurn d n
    → (a.number ≡ n) × (a.line ≡ 0)
list_early d xs a n h o =
    let s = turn_state d n o in
    let c : check_fault (desk_in d) (all_deps xs) ≡ fault n 0 =
    by (state_fault true (desk_in d)) n s.0 s.1 in
    (h.number_is ∙ ap (λ (f : Fault). f.number) c, h.place_is ∙ ap (λ (f : Fault). f.place) c)
  where
    by
        : (s n : ℕ) → s ≡ n → 0 < n
        → pick (eqb s 0) (list_fault 1 (desk_in d).nest_is.points (all_deps xs)) (fault s 0) ≡ fault n 0
    by s zero q l = absurd (omega arith)
    by s (suc n) q l = rw (q, ne_eqb (suc n) 0 (λ z. omega arith))

list_kept
    : (d : DD.Desk) (xs : List DE.Dependence) (a : DA.Answer) → IsMade d → InTurn d → ListSays d (all_deps xs) a
    → ListNumber (points_on d) xs a.number a.line
list_kept d xs a m t h =
    let c = list_checked d xs t in
    let n : a.number ≡ (list_fault 1 (points_on d) (all_deps xs)).number =
    h.number_is ∙ ap (λ (f : Fault). f.number) c in
    let p : a.line ≡ (list_fault 1 (points_on d) (all_deps xs)).place = h.place_is ∙ ap (λ (f : Fault). f.place) c in
    subst (λ (j : ℕ). ListNumber (points_on d) xs j a.line) (sym n)
    (subst (λ (j : ℕ). ListNumber (points_on d) xs (list_fault 1 (points_on d) (all_deps xs)).number j) (sym p)
    (is_list (points_on d) (shape d m t.has-nest) xs))

-- ---- Mark

mark_kept
    : (d : DD.Desk) (t : List ℕ) (f : PF.Fault) → IsMade d → InTurn d → MarkSays d t (Err f)
    → PlaceNumber (paper_on d) t (number_told f.refusal) f.line
mark_kept d t f m turn h = ⊎_elim (λ z. absurd (given_so z)) (λ z. refused_so z) (eq_or g.number 0)
  where
    g : Placed
    g = read_placement (length (points_on d)) (paper_on d).barred t

    given_so : g.number ≡ 0 → ⊥
    given_so z =
        let e : marked (desk_in d) t ≡ given (mark_of (nest_in d.nest) (gaps_in d.key.words) g.gaps) =
        rw (eq-eqb (state_fault true (desk_in d)) 0 (in_turn d turn), eq-eqb g.number 0 z) in
        let w : ◌≡◌ {A = ℕ} 0 1 = cc (h ∙ e) in
        omega arith

    refused_so : (g.number ≡ 0 → ⊥) → PlaceNumber (paper_on d) t (number_told f.refusal) f.line
    refused_so z =
        let e : marked (desk_in d) t ≡ refused (fault g.number g.place) =
        rw (eq-eqb (state_fault true (desk_in d)) 0 (in_turn d turn), ne_eqb g.number 0 z) in
        let n : number_told f.refusal ≡ g.number =
        sym (numbered f.refusal) ∙ ap (λ (x : Mark). (fault_in x).number) (h ∙ e) in
        let k : f.line ≡ g.place = ap (λ (x : Mark). (fault_in x).place) (h ∙ e) in
        subst (λ (j : ℕ). PlaceNumber (paper_on d) t j f.line) (sym n)
        (subst (λ (j : ℕ). PlaceNumber (paper_on d) t g.number j) (sym k)
        (is_place (paper_on d) (few d m turn.has-nest) t))

-- ---- the page

pub numbers_kept : Numbers
numbers_kept =
    record {
      load =
          λ d t r h.
          subst (λ (k : ℕ). LoadNumber t k r.line) (sym h.number_is)
          (subst (λ (k : ℕ). LoadNumber t (read_nest t).number k) (sym h.line_is) (is_load t));
      one_load =
          λ t m i n k a b.
          let x = load_is t m i a in
          let y = load_is t n k b in
          (sym x.0 ∙ y.0, sym x.1 ∙ y.1);
      mark = λ d t f q turn h. mark_kept d t f (reached_made d q) turn h;
      one_place =
          λ p t m i n k a b.
          let x = place_is p t m i a in
          let y = place_is p t n k b in
          (sym x.0 ∙ y.0, sym x.1 ∙ y.1);
      list = λ d xs a q t h. list_kept d xs a (reached_made d q) t h;
      one_list = one_list;
      listed = λ d key xs a q k h z. uncut_kept d (reached_made d q) key k xs a h z;
      list_turn = list_early;
      plan = λ d r q h. plan_kept d r (reached_made d q) h;
      count = count_kept;
      counted = λ d key i e a q k h l. counted_kept d (reached_made d q) key k i e a h l;
      write = λ d out out' a q h. write_Kept d out out' a (reached_made d q) h;
      put = λ d gs g r q s h. put_kept d (reached_made d q) gs s g r h;
      lift = λ d gs g r q s h. lift_kept d (reached_made d q) gs s g r h;
      standing = λ d q. let s = reached_standing d q in (s.0, s.1.0);
      take_back = back_kept;
    }
