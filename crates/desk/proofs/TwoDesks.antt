-- The key of a desk made by calls is the key of its nest, so desks with the same nest answer alike.
-- Main statements: `made_first`, `two_desks`.
use mathlib.Core.Path.{◌≡◌, refl, sym, ◌∙◌, ap, subst}
use mathlib.Core.Bool.{Bool, true, false}
use mathlib.Core.List.{List, []}
use Prim.Native.Nat.{ℕ}
use lib.Dec.{eqb}
use lib.ListN.{length}
use Rattle.laws.specs.Choice.{pick}
use Rattle.laws.proofs.Tests.{never_both}
use Rattle.paper_nests.specs.Nests.{Dep, Nest}
use Rattle.paper_lines.specs.Writing.{over}
use Rattle.paper_placements.specs.Placements.{loop_count}
use Rattle.paper_texts.specs.PlacementTexts.{key_text}
use Rattle.plan_theorem.specs.KeyOf.{key_of}
use Rattle.plan_theorem.specs.OneKey.{IsFirstKey}
use Rattle.plan_theorem.proofs.KeyFirst.{key_is_first}
use Rattle.desk.specs.declared.Desk as DD
use Rattle.desk.specs.declared.Answer as DA
use Rattle.desk.specs.Desks.{Desk, desk, desk_in, IsMade, list_uncut}
use Rattle.desk.specs.Says.{count_fault, write_fault, check_fault, marked}
use Rattle.desk.specs.TwoDesks.{Agree, TwoDesks}

-- there is no key without a nest
key_has_nest : (d : DD.Desk) → IsMade d → d.planned ≡ true → d.loaded ≡ true
key_has_nest d m p = go d.loaded refl
  where
    go : (t : Bool) → d.loaded ≡ t → t ≡ true
    go true a = refl
    go false a = never_both p (ap (λ (x : Desk). x.has_key) (m.paper.no_nest a))

-- 01, demand 3, of whatever desk has a key: correct, and as good or better than every other; 02, job 6: and the first
pub made_first : (d : DD.Desk) → IsMade d → d.planned ≡ true → IsFirstKey (desk_in d).nest_is (desk_in d).key
made_first d m p =
    subst
    (λ (x : List ℕ). IsFirstKey (desk_in d).nest_is x)
    (sym (m.paper.key_is p))
    (key_is_first (desk_in d).nest_is (m.paper.valid (key_has_nest d m p)) (m.paper.opens p))

abbrev answer : ℕ → ℕ → ℕ → DA.Answer
answer n l v = record { number = n; line = l; value = v }

same_answer : (n l v n' l' v' : ℕ) → n ≡ n' → l ≡ l' → v ≡ v' → answer n l v ≡ answer n' l' v'
same_answer n l v n' l' v' a b c = cc

-- answers are their numbers
pub answer-by : (a b : DA.Answer) → a.number ≡ b.number → a.line ≡ b.line → a.value ≡ b.value → a ≡ b
answer-by a b = same_answer a.number a.line a.value b.number b.line b.value

-- what the calls answer where they refuse nothing, 0 or the buffer as it was where they do
abbrev count_value : ℕ → Desk → ℕ
count_value p x = pick (eqb (count_fault x p) 0) (loop_count x.nest_is x.key p) 0

abbrev pub text_length : List ℕ → Desk → ℕ
text_length out x = pick (eqb (write_fault x out) 0) (length (key_text x.key)) 0

abbrev pub text_over : List ℕ → Desk → List ℕ
text_over out x = pick (eqb (write_fault x out) 0) (over (key_text x.key) out) out

abbrev pub list_value : List Dep → Desk → ℕ
list_value es x = pick (eqb (check_fault x es).number 0) (list_uncut 1 x.nest_is.points es x.key) 0

-- what the calls read of a desk: nest and key, and whether they are there
module _
    (d e : DD.Desk)
    (loaded : d.loaded ≡ e.loaded)
    (nest : (desk_in d).nest_is ≡ (desk_in e).nest_is)
    (planned : d.planned ≡ e.planned)
    (key : (desk_in d).key ≡ (desk_in e).key)
  where
    alike
        : {A : Type 0} (f : Bool → Nest → Bool → List ℕ → A)
        → f d.loaded (desk_in d).nest_is d.planned (desk_in d).key ≡
        f e.loaded (desk_in e).nest_is e.planned (desk_in e).key
    alike f = cc (loaded, nest, planned, key)

    agree : Agree d e
    agree =
        record {
          same_key = key;
          same_count = λ p a b h k.
              answer-by a b
              (h.number_is ∙ alike (λ l n q g. count_fault (desk l n q g [] []) p) ∙ sym k.number_is)
              (h.line_is ∙ sym k.line_is)
              (h.value_is ∙ alike (λ l n q g. count_value p (desk l n q g [] [])) ∙ sym k.value_is);
          same_mark = λ s a b h k. h ∙ alike (λ l n q g. marked (desk l n q g [] []) s) ∙ sym k;
          same_text = λ out o p a b h k. (
            answer-by a b
                (h.number_is ∙ alike (λ l n q g. write_fault (desk l n q g [] []) out) ∙ sym k.number_is)
                (h.line_is ∙ sym k.line_is)
                (h.value_is ∙ alike (λ l n q g. text_length out (desk l n q g [] [])) ∙ sym k.value_is),
            h.out_is ∙ alike (λ l n q g. text_over out (desk l n q g [] [])) ∙ sym k.out_is,
          );
          same-list = λ es a b h k.
              answer-by a b
              (h.number_is ∙ alike (λ l n q g. (check_fault (desk l n q g [] []) es).number) ∙ sym k.number_is)
              (h.place_is ∙ alike (λ l n q g. (check_fault (desk l n q g [] []) es).place) ∙ sym k.place_is)
              (h.value_is ∙ alike (λ l n q g. list_value es (desk l n q g [] [])) ∙ sym k.value_is);
        }

pub two_desks : TwoDesks
two_desks d e m n loaded nest planned = agree d e loaded nest planned (go d.planned refl)
  where
    go : (t : Bool) → d.planned ≡ t → (desk_in d).key ≡ (desk_in e).key
    go true p = m.paper.key_is p ∙ ap key_of nest ∙ sym (n.paper.key_is (sym planned ∙ p))
    go false p = m.paper.no_key p ∙ sym (n.paper.no_key (sym planned ∙ p))
