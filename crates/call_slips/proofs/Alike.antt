-- The candidate's slip reads of a desk whether there is a nest, and the nest; of a buffer its length. So it is the same
-- on two desks with the same nest. The examiner's reads the key too, which is that of the nest.
-- Main statements: `slip_alike`, `examiner_alike`.
use mathlib.Core.Path.{◌≡◌, refl, sym, ◌∙◌, ap}
use mathlib.Core.Bool.{Bool, true, false}
use mathlib.Core.List.{List, []}
use Prim.Native.Nat.{ℕ}
use lib.Dec.{eqb}
use lib.ListN.{length, take, drop}
use lib.Seq.{take-append_seam, drop-append_seam}
use Rattle.laws.specs.Choice.{pick}
use Rattle.laws.proofs.Tests.{never_both}
use Rattle.paper_nests.specs.Nests.{Nest, empty}
use Rattle.paper_nests.specs.Valid.{is_valid}
use Rattle.paper_lines.specs.Writing.{over}
use Rattle.desk.specs.declared.Desk as DD
use Rattle.desk.specs.declared.Answer as DA
use Rattle.desk.specs.Desks.{Desk, desk, desk_in, IsMade, Fault}
use Rattle.desk.proofs.TwoDesks.{answer-by, two_desks}
use Rattle.call_slips.specs.Says.{SlipSays, candidate_slip, candidate_fault, examiner_slip, examiner_fault}
use Rattle.call_slips.specs.Alike.{Alike, SlipAlike, ExaminerAlike}

-- there is a nest on both desks or on neither: the empty nest is not valid
same_loaded
    : (d e : DD.Desk) → IsMade d → IsMade e → (desk_in d).nest_is ≡ (desk_in e).nest_is → d.loaded ≡ e.loaded
same_loaded d e m n same = go d.loaded e.loaded refl refl
  where
    -- a desk with a nest beside one without
    apart : (x y : DD.Desk) → IsMade x → IsMade y → (desk_in x).nest_is ≡ (desk_in y).nest_is → x.loaded ≡ true →
        y.loaded ≡ false → ⊥
    apart x y p q s a b =
        let none : (desk_in y).nest_is ≡ empty = ap (λ (z : Desk). z.nest_is) (q.paper.no_nest b) in
        never_both (p.paper.valid a) (ap is_valid (s ∙ none))

    go : (a b : Bool) → d.loaded ≡ a → e.loaded ≡ b → a ≡ b
    go true true p q = refl
    go false false p q = refl
    go true false p q = absurd (apart d e m n same p q)
    go false true p q = absurd (apart e d n m (sym same) q p)

-- one reply: what stands in front is the slip or nothing, and behind it the buffer's own
module _ (f : Fault) (slip out out' : List ℕ) (r : DA.Answer) (h : SlipSays f slip out out' r) where
  front : take r.value out' ≡ pick (eqb f.number 0) slip []
  front = rw (h.value_is, h.out_is) (go (eqb f.number 0))
    where
      go : (t : Bool) → take (pick t (length slip) 0) (pick t (over slip out) out) ≡ pick t slip []
      go true = take-append_seam slip (drop (length slip) out)
      go false = refl

  behind : drop r.value out' ≡ drop r.value out
  behind = rw (h.value_is, h.out_is) (go (eqb f.number 0))
    where
      go : (t : Bool) → drop (pick t (length slip) 0) (pick t (over slip out) out) ≡ drop (pick t (length slip) 0) out
      go true = drop-append_seam slip (drop (length slip) out)
      go false = refl

-- the same fault and the same slip
alike_by
    : (f g : Fault) (slip slip' out out' other other' : List ℕ) (a b : DA.Answer)
    → SlipSays f slip out out' a
    → SlipSays g slip' other other' b
    → f ≡ g
    → slip ≡ slip'
    → Alike a b out out' other other'
alike_by f g slip slip' out out' other other' a b h k e q =
    record {
      same_reply =
          answer-by a b
          (h.number_is ∙ ap (λ (x : Fault). x.number) e ∙ sym k.number_is)
          (h.line_is ∙ ap (λ (x : Fault). x.place) e ∙ sym k.line_is)
          (h.value_is ∙ cc (e, q) ∙ sym k.value_is);
      same_bytes = front f slip out out' a h ∙ cc (e, q) ∙ sym (front g slip' other other' b k);
      own_tail = behind f slip out out' a h;
      other_tail = behind g slip' other other' b k;
    }

pub slip_alike : SlipAlike
slip_alike d e s out out' other other' a b m n nest long h k =
    alike_by _ _ _ _ out out' other other' a b h k
    (alike (λ l x r. candidate_fault (desk l x true [] [] []) s r) long)
    (alike (λ l x r. candidate_slip (desk l x true [] [] []) s) long)
  where
    alike
        : {A : Type 0} {i j : ℕ} (f : Bool → Nest → ℕ → A)
        → i ≡ j
        → f d.loaded (desk_in d).nest_is i ≡ f e.loaded (desk_in e).nest_is j
    alike f r = cc (same_loaded d e m n nest, nest)

pub examiner_alike : ExaminerAlike
examiner_alike d e s out out' other other' a b m n nest planned long h k =
    alike_by _ _ _ _ out out' other other' a b h k
    (alike (λ l x p g r. examiner_fault (desk l x p g [] []) s r) long)
    (alike (λ l x p g r. examiner_slip (desk l x p g [] []) s) long)
  where
    loaded : d.loaded ≡ e.loaded
    loaded = same_loaded d e m n nest

    key : (desk_in d).key ≡ (desk_in e).key
    key = (two_desks d e m n loaded nest planned).same_key

    alike
        : {A : Type 0} {i j : ℕ} (f : Bool → Nest → Bool → List ℕ → ℕ → A)
        → i ≡ j
        → f d.loaded (desk_in d).nest_is d.planned (desk_in d).key i ≡
        f e.loaded (desk_in e).nest_is e.planned (desk_in e).key j
    alike f r = cc (loaded, nest, planned, key)
