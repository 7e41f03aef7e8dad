-- Count and Mark: what each way through the code says of the reply.
-- Main statements: `count_is`; `mark_refused`, `mark_unread`, `mark_given`.
use mathlib.Core.Path.{◌≡◌, sym, ◌∙◌, ap}
use mathlib.Core.Bool.{Bool, true, false, not}
use mathlib.Core.List.{List}
use Prim.Native.Nat.{ℕ}
use lib.Dec.{eqb}
use borrow.Author.Tests.{eq-eqb, ne_eqb}
use Rattle.laws.specs.Choice.{when}
use Rattle.laws.proofs.Choices.{first_none}
use Rattle.paper_nests.specs.Loops.{is_do}
use Rattle.paper_placements.specs.Placements.{loop_count}
use Rattle.paper_order.specs.Verdicts.{Verdict, mark_of}
use Rattle.paper_texts.specs.PlacementTexts.{Placed, placed}
use Rattle.desk.specs.declared.Desk as DD
use Rattle.desk.specs.declared.Answer as DA
use Rattle.desk.specs.Desks.{desk_in, state_fault, Fault, fault}
use Rattle.desk.specs.Says.{count_fault, CountSays}
use Rattle.desk.specs.Says.{refused, given, read_in, place_fault, marked}

-- the numbers that the calls look at, in their order: 10 and 11; then 6 of Count
abbrev state : DD.Desk → ℕ
state d = state_fault true (desk_in d)

abbrev no_do : DD.Desk → ℕ → ℕ
no_do d p = when (not (is_do (desk_in d).nest_is.points p)) 6

-- the number and the line of a reading
abbrev fault_in : Placed → Fault
fault_in x = fault x.number x.place

is-set : (f k : ℕ) → f ≡ k → (k ≡ 0 → ⊥) → eqb f 0 ≡ false
is-set f k e h = ne_eqb f 0 (λ q. h (sym e ∙ q))

module _ (d : DD.Desk) (p : ℕ) (r : DA.Answer) where
  do_fault
      : (t : Bool) → state d ≡ 0 → is_do (desk_in d).nest_is.points p ≡ t → count_fault (desk_in d) p ≡ when (not t) 6
  do_fault t e i = first_none (state d) (no_do d p) e ∙ ap (λ (x : Bool). when (not x) 6) i

  pub count_is
      : state d ≡ 0 → is_do (desk_in d).nest_is.points p ≡ true → r.number ≡ 0 → r.line ≡ 0
      → r.value ≡ loop_count (desk_in d).nest_is (desk_in d).key p → CountSays d p r
  count_is e i n l v =
      let z : count_fault (desk_in d) p ≡ 0 = do_fault true e i in
      record { number_is = n ∙ sym z; line_is = l; value_is = rw (eq-eqb (count_fault (desk_in d) p) 0 z) v }

module _ (d : DD.Desk) (s : List ℕ) where
  mark_by : (f : Fault) → place_fault (desk_in d) s ≡ f → (f.number ≡ 0 → ⊥) → refused f ≡ marked (desk_in d) s
  mark_by f e h =
      let z = is-set (place_fault (desk_in d) s).number f.number (ap (λ (x : Fault). x.number) e) h in
      rw z (ap refused (sym e))

  pub mark_refused : (k : ℕ) → k ≡ state d → (k ≡ 0 → ⊥) → refused (fault k 0) ≡ marked (desk_in d) s
  mark_refused k e h =
      let z = is-set (state d) k (sym e) h in
      mark_by (fault k 0) (rw z (ap (λ (x : ℕ). fault x 0) (sym e))) h

  read_fault
      : (n l : ℕ) (gs : List ℕ) → state d ≡ 0 → placed n l gs ≡ read_in (desk_in d) s
      → place_fault (desk_in d) s ≡ fault n l
  read_fault n l gs e q = rw (eq-eqb (state d) 0 e) (ap fault_in (sym q))

  pub mark_unread
      : (n l : ℕ) (gs : List ℕ) → state d ≡ 0 → placed n l gs ≡ read_in (desk_in d) s → (n ≡ 0 → ⊥)
      → refused (fault n l) ≡ marked (desk_in d) s
  mark_unread n l gs e q h = mark_by (fault n l) (read_fault n l gs e q) h

  pub mark_given
      : (n l : ℕ) (gs : List ℕ) (v : Verdict) → state d ≡ 0 → placed n l gs ≡ read_in (desk_in d) s → n ≡ 0
      → v ≡ mark_of (desk_in d).nest_is (desk_in d).key gs → given v ≡ marked (desk_in d) s
  mark_given n l gs v e q h m =
      let z : (place_fault (desk_in d) s).number ≡ 0 = ap (λ (x : Fault). x.number) (read_fault n l gs e q) ∙ h in
      rw (eq-eqb (place_fault (desk_in d) s).number 0 z)
      (ap given (m ∙ ap (λ (x : Placed). mark_of (desk_in d).nest_is (desk_in d).key x.gaps) q))
