-- The answer after all records of a list is what the desk promises of the list.
-- Main statements: `steps_say`.
use mathlib.Core.Path.{◌≡◌, refl, ◌∙◌, ap}
use mathlib.Core.Bool.{Bool, true, false}
use mathlib.Core.List.{List, [], ◌∷◌}
use Prim.Native.Nat.{ℕ, zero, suc, ◌+◌}
use native.Mathlib.Numerals.{add-one}
use native.Mathlib.Omega.{arith}
use lib.Dec.{eqb}
use borrow.Author.Tests.{ne_eqb}
use Rattle.laws.specs.Choice.{pick, first_of}
use Rattle.paper_nests.specs.Nests.{Dep}
use Rattle.paper_placements.specs.Placements.{cuts}
use Rattle.desk.specs.declared.Desk as DD
use Rattle.desk.specs.declared.Answer as DA
use Rattle.desk.specs.Desks.{Desk, desk_in, state_fault, record_fault, Fault, fault, list_fault, list_uncut}
use Rattle.desk.specs.Says.{check_fault, ListSays}
use Rattle.call_list.specs.Lists.{answer, begun, steps_from}

-- a refusal stays to the end of the list
refused_stays
    : (x : Desk) (i n l v : ℕ) (es : List Dep)
    → steps_from x i (answer (suc n) l v) es ≡ answer (suc n) l v
unfolding steps_from
refused_stays x i n l v [] = refl
refused_stays x i n l v (e ∷ es) = rw (ne_eqb (suc n) 0 (λ q. omega arith)) (refused_stays x (suc i) n l v es)

-- the list's answer from a fault, and from the place found before and the first uncut place
abbrev answer_by : Fault → ℕ → ℕ → DA.Answer
answer_by f v u = answer f.number f.place (pick (eqb f.number 0) (first_of v u) 0)

abbrev list_answer : Desk → ℕ → ℕ → List Dep → DA.Answer
list_answer x i v es =
    answer_by (list_fault (suc i) x.nest_is.points es) v (list_uncut (suc i) x.nest_is.points es x.key)

-- one record, with refusal r, cut or not
record_then
    : (x : Desk) (i v : ℕ) (es : List Dep) (r : ℕ) (c : Bool)
    → ((w : ℕ) → steps_from x (suc i) (answer 0 0 w) es ≡ list_answer x (suc i) w es)
    → steps_from
    x
    (suc i)
    (pick
    (eqb r 0)
    (pick (eqb v 0) (pick c (answer 0 0 v) (answer 0 0 (i + 1))) (answer 0 0 v))
    (answer r (i + 1) 0))
    es ≡
    answer_by
    (pick (eqb r 0) (list_fault (suc (suc i)) x.nest_is.points es) (fault r (suc i)))
    v
    (pick c (list_uncut (suc (suc i)) x.nest_is.points es x.key) (suc i))
record_then x i zero es zero true ih = ih 0
record_then x i zero es zero false ih = rw add-one (ih (suc i))
record_then x i (suc v) es zero true ih = rw (ne_eqb (suc v) 0 (λ q. omega arith)) (ih (suc v))
record_then x i (suc v) es zero false ih = rw (ne_eqb (suc v) 0 (λ q. omega arith)) (ih (suc v))
record_then x i v es (suc r) c ih =
    let z : eqb (suc r) 0 ≡ false = ne_eqb (suc r) 0 (λ q. omega arith) in
    rw (z, z, add-one) (refused_stays x (suc i) r (suc i) 0 es)

steps_list : (x : Desk) (i v : ℕ) (es : List Dep) → steps_from x i (answer 0 0 v) es ≡ list_answer x i v es
unfolding steps_from
steps_list x i zero [] = refl
steps_list x i (suc v) [] = refl
steps_list x i v (e ∷ es) =
    record_then x i v es (record_fault x.nest_is.points e) (cuts x.nest_is.points e x.key)
    (λ w. steps_list x (suc i) w es)

-- the whole list, where s is the number from the state
whole
    : (x : Desk) (es : List Dep) (s : ℕ)
    → steps_from x 0 (answer s 0 0) es ≡
    answer_by
    (pick (eqb s 0) (list_fault 1 x.nest_is.points es) (fault s 0))
    0
    (list_uncut 1 x.nest_is.points es x.key)
whole x es zero = steps_list x 0 0 es
whole x es (suc n) =
    let z : eqb (suc n) 0 ≡ false = ne_eqb (suc n) 0 (λ q. omega arith) in
    rw (z, z) (refused_stays x 0 n 0 0 es)

pub steps_say
    : (d : DD.Desk) (es : List Dep) (r : DA.Answer)
    → r ≡ steps_from (desk_in d) 0 (begun (desk_in d)) es
    → ListSays d es r
steps_say d es r e =
    let w : r ≡ answer_by (check_fault (desk_in d) es) 0 (list_uncut 1 (desk_in d).nest_is.points es (desk_in d).key) =
    e ∙ whole (desk_in d) es (state_fault true (desk_in d)) in
    record {
      number_is = ap (λ (a : DA.Answer). a.number) w;
      place_is = ap (λ (a : DA.Answer). a.line) w;
      value_is = ap (λ (a : DA.Answer). a.value) w;
    }
