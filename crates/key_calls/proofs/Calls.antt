-- The program's answer is what the desk's calls give: Load leaves the nest that the text spells, Plan its key or the
-- number of a blocked nest, Write the key's text, and Count of a DO that loop's count.
-- Main statement: `answers_by_calls`.
use mathlib.Core.Path.{◌≡◌, refl, sym, ◌∙◌, ap, subst}
use mathlib.Core.Bool.{Bool, true, false}
use mathlib.Core.List.{List, [], ◌∷◌, ◌++◌}
use mathlib.Core.Logic.{◌⊎◌, inl, inr}
use Prim.Native.Nat.{ℕ, suc, ◌+◌}
use native.Mathlib.Omega.{arith}
use lib.Dec.{eqb}
use lib.ListN.{length, take}
use borrow.Author.Tests.{eq-eqb, ne_eqb, le-ltb}
use Rattle.laws.specs.Choice.{pick, when}
use Rattle.laws.proofs.Tests.{eq_or}
use Rattle.paper_nests.specs.Kinds.{DO}
use Rattle.paper_nests.specs.Nests.{Nest}
use Rattle.paper_nests.specs.Loops.{is_do}
use Rattle.paper_lines.specs.Lines.{line_text}
use Rattle.paper_placements.specs.Placements.{loop_count}
use Rattle.paper_texts.specs.NestTexts.{read_nest}
use Rattle.paper_texts.specs.PlacementTexts.{key_text}
use Rattle.paper_texts.specs.Counts.{COUNT, counts_from, counts_text}
use Rattle.paper_texts.specs.Program.{LONGEST, refusal_text, answer_text, program_text}
use Rattle.paper_barred.specs.Reduced.{is_blocked}
use Rattle.plan_theorem.specs.KeyOf.{key_of}
use Rattle.desk.specs.Desks.{Desk, loaded_desk, with_key, desk_in, plan_fault}
use Rattle.desk.specs.Says.{count_fault}
use Rattle.desk.proofs.Made.{loaded_holds, plan_makes}
use Rattle.desk.proofs.ReadAgain.{written_text}
use Rattle.key_calls.specs.Calls.{counted_from, Calls, planned_of, answer_of, AnswersByCalls}

-- the counts' lines, from counts that are those of each DO
counted_counts
    : (n : Nest) (key : List ℕ) (count : ℕ → ℕ) (i : ℕ) (ps : List ℕ)
    → ((k j : ℕ) → k ≡ i + j → is_do ps j ≡ true → count k ≡ loop_count n key k)
    → counted_from count i ps ≡ counts_from n key i ps
unfolding counted_from counts_from
counted_counts n key count i [] h = refl
counted_counts n key count i (p ∷ ps) h =
    go (eqb p DO) refl (counted_counts n key count (suc i) ps (λ k j e q. h k (suc j) (omega arith) q))
  where
    go
        : (t : Bool) → eqb p DO ≡ t → counted_from count (suc i) ps ≡ counts_from n key (suc i) ps
        → pick t (line_text (COUNT ∷ (i ∷ (count i ∷ [])))) [] ++ counted_from count (suc i) ps
        ≡ pick t (line_text (COUNT ∷ (i ∷ (loop_count n key i ∷ [])))) [] ++ counts_from n key (suc i) ps
    go true e r = let z = h i 0 (omega arith) e in rw (z, r)
    go false e r = r

-- Count of a DO on a desk that holds a nest and its key
count_held
    : (x : Desk) (n : Nest) (d v : ℕ)
    → x ≡ with_key (loaded_desk n)
    → is_do n.points d ≡ true
    → v ≡ pick (eqb (count_fault x d) 0) (loop_count x.nest_is x.key d) 0
    → v ≡ loop_count n (key_of n) d
count_held x n d v e h q =
    q ∙ ap (λ (y : Desk). pick (eqb (count_fault y d) 0) (loop_count y.nest_is y.key d) 0) e ∙ rw h

-- after an accepted Load Plan is refused exactly where the nest is blocked
module _ (s : List ℕ) (c : Calls s) (accepted : c.load.number ≡ 0) where
  plan_number : c.plan.number ≡ when (is_blocked (read_nest s).nest_is) 15
  plan_number =
      c.plan_says.number_is ∙ ap plan_fault (loaded_holds c.desk s c.load c.load_says accepted).holds

module _
    (s : List ℕ) (c : Calls s) (accepted : c.load.number ≡ 0) (opens : is_blocked (read_nest s).nest_is ≡ false) where
  planned : c.plan.number ≡ 0
  planned = plan_number s c accepted ∙ ap (λ (t : Bool). when t 15) opens

  -- what the desk holds after Load and Plan
  held : desk_in c.plan.desk ≡ with_key (loaded_desk (read_nest s).nest_is)
  held =
      let l = loaded_holds c.desk s c.load c.load_says accepted in
      let a : c.load.desk.loaded ≡ true = ap (λ (x : Desk). x.has_nest) l.holds in
      let o : is_blocked (desk_in c.load.desk).nest_is ≡ false =
      ap (λ (x : Desk). is_blocked x.nest_is) l.holds ∙ opens in
      (plan_makes c.load.desk c.plan a o c.plan_says).holds ∙ ap with_key l.holds

  key_written : take c.write.value c.out' ≡ key_text (key_of (read_nest s).nest_is)
  key_written =
      written_text c.plan.desk c.out c.out' c.write c.write_says (c.fits accepted planned) ∙
      ap (λ (x : Desk). key_text x.key) held

  counts_given
      : counted_from (λ d. (c.count d).value) 0 (desk_in c.plan.desk).nest_is.points
      ≡ counts_text (read_nest s).nest_is (key_of (read_nest s).nest_is)
  counts_given =
      let n = (read_nest s).nest_is in
      ap (λ (x : Desk). counted_from (λ d. (c.count d).value) 0 x.nest_is.points) held ∙
      counted_counts n (key_of n) (λ d. (c.count d).value) 0 n.points
      (λ k j e h. given k (subst (λ (i : ℕ). is_do n.points i ≡ true) (omega arith) h))
    where
      given
          : (d : ℕ) → is_do (read_nest s).nest_is.points d ≡ true
          → (c.count d).value ≡ loop_count (read_nest s).nest_is (key_of (read_nest s).nest_is) d
      given d h =
          count_held (desk_in c.plan.desk) (read_nest s).nest_is d (c.count d).value held h
          (c.count_says d).value_is

pub answers_by_calls : AnswersByCalls
unfolding program_text
answers_by_calls s c short =
    rw (le-ltb LONGEST (length s) short) (go (eq_or c.load.number 0))
  where
    n : Nest
    n = (read_nest s).nest_is

    by_plan
        : c.load.number ≡ 0
        → (t : Bool)
        → is_blocked n ≡ t
        → pick t (refusal_text 15 0) (key_text (key_of n) ++ counts_text n (key_of n)) ≡ planned_of s c
    by_plan z false o =
        let p : eqb c.plan.number 0 ≡ true = eq-eqb c.plan.number 0 (planned s c z o) in
        rw (p, key_written s c z o, counts_given s c z o)
    by_plan z true b =
        let q : c.plan.number ≡ 15 = plan_number s c z ∙ ap (λ (t : Bool). when t 15) b in
        let l : c.plan.line ≡ 0 = c.plan_says.line_is in
        rw (q, l)

    go
        : (c.load.number ≡ 0) ⊎ ((c.load.number ≡ 0) → ⊥)
        → answer_text (read_nest s) (key_of n) ≡ answer_of s c
    go (inl z) =
        let a : eqb (read_nest s).number 0 ≡ true = eq-eqb (read_nest s).number 0 (sym c.load_says.number_is ∙ z) in
        let b : eqb c.load.number 0 ≡ true = eq-eqb c.load.number 0 z in
        rw (a, b) (by_plan z (is_blocked n) refl)
    go (inr z) =
        let a : eqb (read_nest s).number 0 ≡ false =
        ne_eqb (read_nest s).number 0 (λ q. z (c.load_says.number_is ∙ q)) in
        let b : eqb c.load.number 0 ≡ false = ne_eqb c.load.number 0 z in
        rw (a, b) (sym (cc (c.load_says.number_is, c.load_says.line_is)))
