-- 01, "What the contracts must say", c, for the pages: programs that the pages of the demands and of the numbers
-- exclude, each by a small paper or text. A planner, a marker and a reader of texts are functions here, and what a
-- page asks of them is what it asks of the calls; one of each sort, but for markers, shows that it can be kept. Main
-- definitions: `Plans`, `Marks`, `Accepts`, `Reads`, `PagesExclude`. Main statement: `pages_exclude`.
use mathlib.Core.Path.{◌≡◌, refl, sym, ◌∙◌, ap, subst}
use mathlib.Core.Bool.{Bool, true, false}
use mathlib.Core.List.{List, [], ◌∷◌}
use mathlib.Core.Logic.{◌⊎◌, ⊎_elim, ◌↔◌}
use Prim.Native.Nat.{ℕ, zero, suc, ◌≤◌, ◌<◌}
use native.Mathlib.Omega.{arith}
use lib.Dec.{eqb}
use lib.ListN.{length}
use borrow.Author.Tests.{eq-eqb, eqb-true}
use Rattle.laws.proofs.Tests.{never_both}
use Rattle.paper_nests.specs.Nests.{empty}
use Rattle.paper_nests.specs.Valid.{is_shape, is_valid}
use Rattle.paper_placements.specs.declared.Counts as DC
use Rattle.paper_placements.specs.Placements.{loop_count}
use Rattle.paper_barred.proofs.Blocked.{correct_open}
use Rattle.plan_theorem.specs.KeyOf.{key_of}
use Rattle.plan_theorem.proofs.KeyIsKey.{key_is_key}
use Rattle.paper_lines.specs.Lines.{lines_of, frame_of}
use Rattle.paper_texts.specs.NestTexts as T
use Rattle.paper_texts.proofs.TextCases.{P-lines}
use Rattle.desk.specs.declared.Verdict as DV
use Rattle.desk.specs.declared.Verdict.TheVariants as VV
use Rattle.desk.specs.Desks.{Fault}
use Rattle.pages.specs.Demands.{In, HowMany, Rising, Loop, Own, Paper, Valid, Gaps, Correct, Best, Key}
use Rattle.pages.specs.Demands.{Spells, Says}
use Rattle.pages.specs.Numbers.{IsGap, LoadNumber}
use Rattle.pages.proofs.Placements.{nest_of, is_rising, one_count, correct_is}
use Rattle.pages.proofs.Keys.{shaped, key-of}
use Rattle.pages.proofs.Rules.{valid_page, page_valid}
use Rattle.pages.proofs.Bodies.{loop_at}
use Rattle.pages.proofs.Kept.{text_accepted, paper_read}
use Rattle.pages.proofs.Loading.{load_is, is_load, blank_accepted}
use Rattle.pages.proofs.Computed.{line, round, one_held, two_held, correct, count, loop_in, own_in, line_gaps}
use Rattle.pages.proofs.WorkedPapers.{P, worked_papers}

-- ---- what the pages ask of planners, markers and readers

abbrev pub Planner : Type 0
Planner = Paper → List ℕ

-- demand 3: a key for every paper that breaks no rule and for which some set is correct
abbrev pub Plans : Planner → Type 0
Plans plan = (p : Paper) (gs : List ℕ) → Valid p → Correct p gs → Key p (plan p)

-- demand 2 of Mark: a paper, its key, and a set to mark
abbrev pub Marker : Type 0
Marker = Paper → List ℕ → List ℕ → DV.Verdict

abbrev pub Marks : Marker → Type 0
Marks mark = (p : Paper) (key gs : List ℕ) → Key p key → Gaps p gs → Says p key gs (mark p key gs)

-- demand 2 of Load: whether a text is accepted
abbrev pub Accepts : (List ℕ → Bool) → Type 0
Accepts load = (t : List ℕ) → (load t ≡ true) ↔ ((p : Paper) × Spells t p)

-- the numbers of Load
abbrev pub Reader : Type 0
Reader = List ℕ → Fault

abbrev pub Reads : Reader → Type 0
Reads read = (t : List ℕ) → LoadNumber t (read t).number (read t).place

-- ---- small papers

-- a statement that feeds itself round the loop; a loop with nothing in it
abbrev turn : Paper
turn = record { points = 1 ∷ 3 ∷ 2 ∷ []; deps = round 0 1 1 ∷ []; barred = [] }

abbrev bare : Paper
bare = record { points = 1 ∷ 2 ∷ []; deps = []; barred = [] }

-- a loop with a loop in it, of which gap 3 alone cuts all
abbrev door : Paper
door = record { points = 1 ∷ 3 ∷ 1 ∷ 3 ∷ 2 ∷ 2 ∷ []; deps = line 1 3 ∷ line 2 5 ∷ []; barred = [] }

turn_loop : Loop turn.points 0 2
turn_loop = loop_at turn.points refl 0 refl

bare_loop : Loop bare.points 0 1
bare_loop = loop_at bare.points refl 0 refl

door_loop : Loop door.points 2 4
door_loop = loop_at door.points refl 2 refl

-- no loop lies inside one with the last DO
in_one : (d : ℕ) → In d (0 ∷ []) → 0 < d → ⊥
in_one d (zero, e) l = omega arith
in_one d (suc i, q) l = q

in_two : (d : ℕ) → In d (0 ∷ 2 ∷ []) → 2 < d → ⊥
in_two d (zero, e) l = omega arith
in_two d (suc zero, e) l = omega arith
in_two d (suc (suc i), q) l = q

-- what is best has no more than a correct set, at a loop with none inside
module _ (p : Paper) (valid : is_valid (nest_of p []) ≡ true) (shape : is_shape p.points ≡ true) (gs ys : List ℕ)
    (k : Best p gs) (c : Correct p ys) (d e : ℕ) (l : Loop p.points d e)
    (innermost : (d' e' : ℕ) → Loop p.points d' e' → d < d' → ⊥) where
  bounded : (a : ℕ) × (HowMany (Own p.points d e) gs a × (a ≤ loop_count (nest_of p []) ys d))
  bounded =
      let n = k.least ys c d e l (λ i j m a b. absurd (innermost i j m a)) in
      let q = one_count (Own p.points d e) ys n.1.0 (loop_count (nest_of p []) ys d) n.1.1.1
      (count p valid shape ys c.gaps.rising d e l) in
      (n.0, (n.1.1.0, omega (arith, n.1.1.2)))

two_in : (gs : List ℕ) (g h : ℕ) → In g gs → In h gs → (g ≡ h → ⊥) → 2 ≤ length gs
two_in [] g h i j n = absurd i.1
two_in (x ∷ []) g h (zero, e) (zero, f) n = absurd (n (sym e ∙ f))
two_in (x ∷ []) g h (zero, e) (suc j, f) n = absurd f
two_in (x ∷ []) g h (suc i, e) j n = absurd e
two_in (x ∷ (y ∷ gs)) g h i j n = omega arith

-- ---- planners

-- a barrier in every gap
every_gap_fails : (plan : Planner) → ((p : Paper) (g : ℕ) → IsGap p.points g → In g (plan p)) → Plans plan → ⊥
every_gap_fails plan fills keeps =
    let one = correct turn refl refl (1 ∷ []) refl in
    let k = (keeps turn (1 ∷ []) (valid_page turn [] refl) one).best in
    let b = bounded turn refl refl (plan turn) (1 ∷ []) k one 0 2 turn_loop
    (λ d e l. in_one d (loop_in turn refl refl (0 ∷ []) refl d e l)) in
    let own : (g : ℕ) → 0 < g → g ≤ 2 → Own turn.points 0 2 g =
    λ g m n. own_in turn refl refl 0 2 0 2 turn_loop refl (omega arith) g m n in
    let two = two_held (Own turn.points 0 2) (plan turn) b.0 1 2 b.1.0
    (fills turn 1 (omega arith, omega arith)) (fills turn 2 (omega arith, omega arith))
    (own 1 (omega arith) (omega arith))
    (own 2 (omega arith) (omega arith)) (λ z. omega arith) in
    omega (arith, b.1.1)

-- a fixed key, empty or not
fixed_key_fails : (gs : List ℕ) → Plans (λ p. gs) → ⊥
fixed_key_fails [] keeps =
    let one = correct turn refl refl (1 ∷ []) refl in
    let c = (keeps turn (1 ∷ []) (valid_page turn [] refl) one).best.correct.cut (round 0 1 1) (0, refl) in
    c.1.0.1
fixed_key_fails (g ∷ gs) keeps =
    let none = correct bare refl refl [] refl in
    let k = (keeps bare [] (valid_page bare [] refl) none).best in
    let b = bounded bare refl refl (g ∷ gs) [] k none 0 1 bare_loop
    (λ d e l. in_one d (loop_in bare refl refl (0 ∷ []) refl d e l)) in
    let r = first_rising 2 g gs k.correct.gaps.rising in
    let own = own_in bare refl refl 0 1 0 1 bare_loop refl (omega arith) g r.0 (omega (arith, r.1)) in
    let some = one_held (Own bare.points 0 1) (g ∷ gs) b.0 g b.1.0 (0, refl) own in
    omega (arith, b.1.1)
  where
    first_rising : (n g : ℕ) (gs : List ℕ) → Rising n 0 (g ∷ gs) → (0 < g) × (g < n)
    first_rising n g gs (Rising.more l m r) = (l, m)

-- as few barriers in all as can be
fewest_fails
    : (plan : Planner) → ((p : Paper) (ys : List ℕ) → Correct p ys → length (plan p) ≤ length ys) → Plans plan → ⊥
fewest_fails plan fewest keeps =
    let three = correct door refl refl (3 ∷ []) refl in
    let pair = correct door refl refl (2 ∷ 5 ∷ []) refl in
    let k = (keeps door (3 ∷ []) (valid_page door [] refl) three).best in
    let b = bounded door refl refl (plan door) (2 ∷ 5 ∷ []) k pair 2 4 door_loop
    (λ d e l. in_two d (loop_in door refl refl (0 ∷ 2 ∷ []) refl d e l)) in
    let x = k.correct.cut (line 1 3) (0, refl) in
    let y = k.correct.cut (line 2 5) (1, refl) in
    let g = line_gaps door.points 1 3 x.0 x.1.1 in
    let h = line_gaps door.points 2 5 y.0 y.1.1 in
    let low : 2 < x.0 → ⊥ =
    λ z.
    let own = own_in door refl refl 2 4 2 4 door_loop refl (omega arith) x.0 z (omega (arith, g.1)) in
    omega (arith, b.1.1, one_held (Own door.points 2 4) (plan door) b.0 x.0 b.1.0 x.1.0 own) in
    let two = two_in (plan door) x.0 y.0 x.1.0 y.1.0 (λ z. low (omega (arith, h.0))) in
    omega (arith, fewest door (3 ∷ []) three)

-- ---- markers

P-gaps : Gaps P (3 ∷ 9 ∷ [])
P-gaps = record { rising = is_rising 14 0 (3 ∷ 9 ∷ []) refl; free = λ g i j. absurd j.1 }

-- Best, unlooked
best_fails : (mark : Marker) → ((p : Paper) (key gs : List ℕ) → mark p key gs ≡ VV.Best) → Marks mark → ⊥
best_fails mark says keeps =
    let v = subst (Says P (5 ∷ 11 ∷ []) (3 ∷ 9 ∷ [])) (says P (5 ∷ 11 ∷ []) (3 ∷ 9 ∷ []))
    (keeps P (5 ∷ 11 ∷ []) (3 ∷ 9 ∷ []) worked_papers.case_1 P-gaps) in
    let u = worked_papers.case_2.not_cut in
    u.1.1 (v.correct.cut u.0 (4, u.1.0))

-- the same dependence uncut, unlooked
uncut_fails : (mark : Marker) (i : ℕ) → ((p : Paper) (key gs : List ℕ) → mark p key gs ≡ VV.Uncut i) → Marks mark → ⊥
uncut_fails mark i says keeps =
    let k = worked_papers.case_1 in
    let c = k.best.correct in
    let v = subst (Says P (5 ∷ 11 ∷ []) (5 ∷ 11 ∷ [])) (says P (5 ∷ 11 ∷ []) (5 ∷ 11 ∷ []))
    (keeps P (5 ∷ 11 ∷ []) (5 ∷ 11 ∷ []) k c.gaps) in
    let u = v.not_cut in
    u.1.1 (c.cut u.0 (i, u.1.0))

-- Dearer with the same counts, unlooked
dearer_fails
    : (mark : Marker) (c : DC.Counts) → ((p : Paper) (key gs : List ℕ) → mark p key gs ≡ VV.Dearer c) → Marks mark → ⊥
dearer_fails mark c says keeps =
    let v = subst (Says P (5 ∷ 11 ∷ []) (3 ∷ 9 ∷ [])) (says P (5 ∷ 11 ∷ []) (3 ∷ 9 ∷ []))
    (keeps P (5 ∷ 11 ∷ []) (3 ∷ 9 ∷ []) worked_papers.case_1 P-gaps) in
    let u = worked_papers.case_2.not_cut in
    u.1.1 (v.correct.cut u.0 (4, u.1.0))

-- ---- readers

-- a line with no digit, of 0a alone: number 1, line 1; 03 before any DO: number 4, line 1
feed_read : T.read_nest (10 ∷ []) ≡ T.got 1 1 empty
unfolding T.read_nest T.read_lines lines_of frame_of
feed_read = refl

early_read : T.read_nest (48 ∷ 51 ∷ 10 ∷ []) ≡ T.got 4 1 empty
unfolding T.read_nest T.read_lines lines_of frame_of
early_read = refl

refuses_fails : (load : List ℕ → Bool) → ((t : List ℕ) → load t ≡ false) → Accepts load → ⊥
refuses_fails load says keeps = never_both ((keeps P-lines).1 (P, worked_papers.P-spelled)) (says P-lines)

accepts_fails : (load : List ℕ → Bool) → ((t : List ℕ) → load t ≡ true) → Accepts load → ⊥
accepts_fails load says keeps =
    let s = (keeps (10 ∷ [])).0 (says (10 ∷ [])) in
    let r = paper_read (10 ∷ []) s.0 s.1 in
    let z : ◌≡◌ {A = ℕ} 1 0 = ap (λ (g : T.Got). g.number) (sym feed_read ∙ r.1) in
    omega arith

-- a text of no byte refused as one without points (02, job 3)
blank_fails : (read : Reader) → (read []).number ≡ 4 → Reads read → ⊥
blank_fails read says keeps =
    let r = load_is [] (read []).number (read []).place (keeps []) in
    omega (arith, blank_accepted, r.0)

-- lines counted from 0
zero_fails : (read : Reader) → ((t : List ℕ) → (read t).place ≡ 0) → Reads read → ⊥
zero_fails read says keeps =
    let r = load_is (10 ∷ []) (read (10 ∷ [])).number (read (10 ∷ [])).place (keeps (10 ∷ [])) in
    let z : ◌≡◌ {A = ℕ} 1 0 = sym (ap (λ (g : T.Got). g.place) feed_read) ∙ r.1 ∙ says (10 ∷ []) in
    omega arith

-- one number for whatever is wrong
one_number_fails
    : (read : Reader) (n : ℕ) → ((t : List ℕ) → ((read t).number ≡ 0) ⊎ ((read t).number ≡ n)) → Reads read → ⊥
one_number_fails read n says keeps =
    let r = load_is (10 ∷ []) (read (10 ∷ [])).number (read (10 ∷ [])).place (keeps (10 ∷ [])) in
    let q = load_is (48 ∷ 51 ∷ 10 ∷ []) (read (48 ∷ 51 ∷ 10 ∷ [])).number (read (48 ∷ 51 ∷ 10 ∷ [])).place
    (keeps (48 ∷ 51 ∷ 10 ∷ [])) in
    let a : (read (10 ∷ [])).number ≡ 1 = sym r.0 ∙ ap (λ (g : T.Got). g.number) feed_read in
    let b : (read (48 ∷ 51 ∷ 10 ∷ [])).number ≡ 4 = sym q.0 ∙ ap (λ (g : T.Got). g.number) early_read in
    ⊎_elim
    (λ z. omega arith)
    (λ z. ⊎_elim (λ y. omega arith) (λ y. omega arith) (says (48 ∷ 51 ∷ 10 ∷ [])))
    (says (10 ∷ []))

-- ---- what the pages ask for can be had

planner_keeps : Plans (λ p. key_of (nest_of p []))
planner_keeps p gs v c =
    let right = page_valid p [] refl v in
    let unblocked = correct_open (nest_of p []) gs (correct_is p [] (shaped p [] right) gs c) in
    key-of p [] right (key_of (nest_of p [])) (key_is_key (nest_of p []) right unblocked)

loader_keeps : Accepts (λ t. eqb (T.read_nest t).number 0)
loader_keeps t = (
  (λ h. text_accepted t (eqb-true (T.read_nest t).number 0 h)),
  (λ s. eq-eqb (T.read_nest t).number 0 (ap (λ (g : T.Got). g.number) (paper_read t s.0 s.1).1)),
)

-- ---- all of them

pub record PagesExclude : Type 0 where
  -- the page of the demands
  pub every-gap : (plan : Planner) → ((p : Paper) (g : ℕ) → IsGap p.points g → In g (plan p)) → Plans plan → ⊥
  pub fixed_key : (gs : List ℕ) → Plans (λ p. gs) → ⊥
  pub fewest_in_all
      : (plan : Planner) → ((p : Paper) (ys : List ℕ) → Correct p ys → length (plan p) ≤ length ys) → Plans plan → ⊥
  pub best_unlooked : (mark : Marker) → ((p : Paper) (key gs : List ℕ) → mark p key gs ≡ VV.Best) → Marks mark → ⊥
  pub uncut_unlooked
      : (mark : Marker) (i : ℕ) → ((p : Paper) (key gs : List ℕ) → mark p key gs ≡ VV.Uncut i) → Marks mark → ⊥
  pub dearer_unlooked
      : (mark : Marker) (c : DC.Counts) → ((p : Paper) (key gs : List ℕ) → mark p key gs ≡ VV.Dearer c) → Marks mark → ⊥
  pub each_refused : (load : List ℕ → Bool) → ((t : List ℕ) → load t ≡ false) → Accepts load → ⊥
  pub each_accepted : (load : List ℕ → Bool) → ((t : List ℕ) → load t ≡ true) → Accepts load → ⊥
  pub planner : Plans (λ p. key_of (nest_of p []))
  pub loader : Accepts (λ t. eqb (T.read_nest t).number 0)
  -- the page of the numbers
  pub blank_refused : (read : Reader) → (read []).number ≡ 4 → Reads read → ⊥
  pub lines_from_0 : (read : Reader) → ((t : List ℕ) → (read t).place ≡ 0) → Reads read → ⊥
  pub one_number
      : (read : Reader) (n : ℕ) → ((t : List ℕ) → ((read t).number ≡ 0) ⊎ ((read t).number ≡ n)) → Reads read → ⊥
  pub reader : Reads (λ t. record { number = (T.read_nest t).number; place = (T.read_nest t).place })

pub pages_exclude : PagesExclude
pages_exclude =
    record {
      every-gap = every_gap_fails;
      fixed_key = fixed_key_fails;
      fewest_in_all = fewest_fails;
      best_unlooked = best_fails;
      uncut_unlooked = uncut_fails;
      dearer_unlooked = dearer_fails;
      each_refused = refuses_fails;
      each_accepted = accepts_fails;
      planner = planner_keeps;
      loader = loader_keeps;
      blank_refused = blank_fails;
      lines_from_0 = zero_fails;
      one_number = one_number_fails;
      reader = is_load;
    }
