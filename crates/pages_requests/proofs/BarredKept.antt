-- The calls keep the page of request 7.
-- Main statement: `barred_kept`.
use mathlib.Core.Path.{◌≡◌, refl, sym, ◌∙◌, ap, subst}
use mathlib.Core.Bool.{Bool, true, false, not}
use mathlib.Core.List.{List}
use Prim.Native.Nat.{ℕ, suc, ◌≤◌}
use native.Mathlib.Omega.{arith}
use lib.Dec.{eqb}
use lib.ListN.{length}
use borrow.Author.Tests.{ne_eqb}
use Rattle.std.proofs.Common.{Result, Ok, Err}
use Rattle.laws.specs.Choice.{pick, when, first_of}
use Rattle.laws.proofs.Tests.{never_both, false_by}
use Rattle.paper_refusals.specs.declared.Fault as PF
use Rattle.paper_nests.specs.Nests.{Nest}
use Rattle.paper_nests.specs.Valid.{is_valid}
use Rattle.paper_nests.specs.Stored.{nest_in}
use Rattle.paper_nests.proofs.Deps.{valid_is}
use Rattle.paper_order.specs.Verdicts.{Verdict, mark_of}
use Rattle.paper_barred.specs.Reduced.{is_blocked}
use Rattle.paper_barred.proofs.Blocked.{correct_open}
use Rattle.plan_theorem.specs.KeyOf.{key_of}
use Rattle.plan_theorem.specs.ListOrder.{first_in_order}
use Rattle.plan_theorem.proofs.RingKey.{ring_first_smallest}
use Rattle.paper_texts.specs.NestTexts as T
use Rattle.paper_texts.specs.PlacementTexts.{Placed}
use Rattle.desk.specs.declared.Desk as DD
use Rattle.desk.specs.declared.Reply as DR
use Rattle.desk.specs.declared.Verdict as DV
use Rattle.desk.specs.Desks.{desk_in, IsMade, state_fault, Fault, fault}
use Rattle.desk.specs.Says.{PlanSays, MarkSays, Mark, given, refused, mark_in, read_in}
use Rattle.pages.specs.Demands.{OneLoop, Paper, Correct, Key, Planned, Since, KeyOn, number_told}
use Rattle.pages.proofs.Lists.{in_is, is-in}
use Rattle.pages.proofs.Placements.{nest_of, nest_of_paper, correct_is}
use Rattle.pages.proofs.Keys.{shaped, best-of, key-of}
use Rattle.pages.proofs.Desks.{reached_made, since_made}
use Rattle.pages.proofs.Turns.{numbered}
use Rattle.pages.proofs.Kept.{paper_on, flags_of, key_same, key_key, right, demands_kept}
use Rattle.pages_requests.specs.Barred.{Blocked, PlanNumber, Barred}
use Rattle.pages_requests.specs.FirstKey.{Before}
use Rattle.pages_requests.proofs.Papers.{page_valid, key_state}
use Rattle.pages_requests.proofs.Blocking.{blocked_is, is-blocked, one_is}
use Rattle.pages_requests.proofs.BarredTexts.{several_14, barred_16}
use Rattle.pages_requests.proofs.FirstKeys.{before}

-- ---- the key

module _ (d : DD.Desk) (m : IsMade d) (key : List ℕ) (k : KeyOn d key) where
  abbrev page : Paper
  page = paper_on d

  abbrev n : Nest
  n = nest_of page (flags_of d)

  valid : is_valid n ≡ true
  valid = right d m key k

  key_of_nest : key ≡ key_of n
  key_of_nest = key_same d m key k ∙ m.paper.key_is k.planned ∙ ap key_of (nest_of_paper d.nest)

  unblocked : is_blocked n ≡ false
  unblocked = correct_open n key (key_key d m key k).correct

  first_smallest
      : (ys : List ℕ) → OneLoop page.points → Correct page ys → length ys ≤ length key → Before key ys
  first_smallest ys one c l =
      let f = ring_first_smallest n valid unblocked (one_is page.points one) in
      let i = correct_is page (flags_of d) (shaped page (flags_of d) valid) ys c in
      let e : length key ≡ length (key_of n) = ap length key_of_nest in
      before key ys (omega (arith, l, e, f.smallest ys i))
      (ap (λ (x : List ℕ). first_in_order x ys) key_of_nest ∙ f.first ys i (omega (arith, l, e)))

-- ---- Plan

plan_number : (d : DD.Desk) (r : DR.Reply) → IsMade d → PlanSays d r → PlanNumber d.loaded (paper_on d) r.number
plan_number d r m h =
    subst (λ (k : ℕ). PlanNumber d.loaded (paper_on d) k) (sym h.number_is)
    (go d.loaded (is_blocked (nest_in d.nest)) refl refl)
  where
    on_page : (b : Bool) → is_blocked (nest_in d.nest) ≡ b → is_blocked (nest_of (paper_on d) (flags_of d)) ≡ b
    on_page b z = ap is_blocked (sym (nest_of_paper d.nest)) ∙ z

    go
        : (a b : Bool) → d.loaded ≡ a → is_blocked (nest_in d.nest) ≡ b
        → PlanNumber d.loaded (paper_on d) (first_of (first_of (when (not a) 10) 0) (when b 15))
    go false b x y = PlanNumber.no_nest x
    go true true x y = PlanNumber.blocked x (is-blocked (paper_on d) (flags_of d) (page_valid d m x) (on_page true y))
    go true false x y =
        PlanNumber.none x (λ z. never_both (blocked_is (paper_on d) (flags_of d) (page_valid d m x) z) (on_page false y))

promised
    : (t : List ℕ) (d : DD.Desk) (r : DR.Reply) → Since t d → PlanSays d r → (Blocked (paper_on d) → ⊥)
    → (key : List ℕ) × (KeyOn r.desk key × Key (paper_on d) key)
promised t d r q h free = go (demands_kept.planned t d r q h)
  where
    none : (k : ℕ) → PlanNumber d.loaded (paper_on d) k → k ≡ 15 → Blocked (paper_on d)
    none k (PlanNumber.no_nest x) e = absurd (omega arith)
    none k (PlanNumber.blocked x b) e = b
    none k (PlanNumber.none x b) e = absurd (omega arith)

    go : Planned (paper_on d) r → (key : List ℕ) × (KeyOn r.desk key × Key (paper_on d) key)
    go (Planned.key gs z k i) = (gs, (k, i))
    go (Planned.none z i) = absurd (free (none r.number (plan_number d r (since_made t d q) h) z))

-- ---- Mark

abbrev fault_in : Mark → Fault
fault_in (refused f) = f
fault_in (given v) = fault 0 0

IsRefused-as
    : (m : Result DV.Verdict PF.Fault) (k l : ℕ) → mark_in m ≡ refused (fault k l)
    → (f : PF.Fault) × ((m ≡ Err f) × (number_told f.refusal ≡ k) × (f.line ≡ l))
IsRefused-as (Ok v) k l e = let q : ◌≡◌ {A = ℕ} 0 1 = cc e in absurd (omega arith)
IsRefused-as (Err f) k l e =
    (f, (refl, sym (numbered f.refusal) ∙ ap (λ (x : Mark). (fault_in x).number) e, ap (λ (x : Mark). (fault_in x).place) e))

module _ (d : DD.Desk) (m : IsMade d) (key : List ℕ) (k : KeyOn d key) where
  mark_refused
      : (t : List ℕ) (x : Result DV.Verdict PF.Fault) (e l : ℕ) → (read_in (desk_in d) t).number ≡ suc e
      → (read_in (desk_in d) t).place ≡ l
      → MarkSays d t x → (f : PF.Fault) × ((x ≡ Err f) × (number_told f.refusal ≡ suc e) × (f.line ≡ l))
  mark_refused t x e l a b h =
      IsRefused-as x (suc e) l
      (h ∙
      by (state_fault true (desk_in d)) (read_in (desk_in d) t)
      (mark_of (desk_in d).nest_is (desk_in d).key (read_in (desk_in d) t).gaps) (key_state d m key k) a b)
    where
      by
          : (s : ℕ) (p : Placed) (v : Verdict) → s ≡ 0 → p.number ≡ suc e → p.place ≡ l
          → pick (eqb (pick (eqb s 0) (fault p.number p.place) (fault s 0)).number 0) (given v)
          (refused (pick (eqb s 0) (fault p.number p.place) (fault s 0)))
          ≡ refused (fault (suc e) l)
      by s p v q a b = rw (q, a, b) (rw (ne_eqb (suc e) 0 (λ z. omega arith)))

pub barred_kept : Barred
barred_kept =
    record {
      avoids =
          λ d key g q k i j.
          let m = reached_made d q in
          (best-of (paper_on d) (flags_of d) (right d m key k) key (key_key d m key k)).correct.gaps.free g i j;
      smallest =
          λ d key ys q k one c.
          let m = reached_made d q in
          (key-of (paper_on d) (flags_of d) (right d m key k) key (key_key d m key k)).smallest one ys c;
      first = λ d key ys q k one c l. first_smallest d (reached_made d q) key k ys one c l;
      plan = λ d r q h. (plan_number d r (reached_made d q) h, h.line_is);
      promised = promised;
      several =
          λ d s t p fs gs g i r a b c e low high h.
          let z = several_14 s t p fs gs g i a b c e low high in
          (h.number_is ∙ ap (λ (x : T.Got). x.number) z, h.line_is ∙ ap (λ (x : T.Got). x.place) z);
      marked =
          λ d key t xs ys g x q k l r free b h.
          let m = reached_made d q in
          let z =
          barred_16 (length (paper_on d).points) (paper_on d).barred
          (valid_is (nest_of (paper_on d) (flags_of d)) (right d m key k)).few_points t xs ys g l r
          (λ y i. false_by (λ w. free y i (is-in y (paper_on d).barred w)))
          (in_is g (paper_on d).barred b.0 b.1) in
          mark_refused d m key k t x 15 (suc (length xs)) (ap (λ (y : Placed). y.number) z)
          (ap (λ (y : Placed). y.place) z) h;
    }
