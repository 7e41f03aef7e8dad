-- The calls that weigh an argument text keep their page: what they reply is `weighed_by` of the placement that the page
-- says is placed, and without number the argument holds (`weighed_iff`).
-- Main statement: `weighing_kept`.
use mathlib.Core.Path.{◌≡◌, refl, sym, ◌∙◌, ap}
use mathlib.Core.Bool.{true}
use mathlib.Core.List.{List}
use mathlib.Core.Logic.{◌↔◌}
use Prim.Native.Nat.{ℕ}
use native.Mathlib.Omega.{arith}
use Rattle.paper_nests.specs.Stored.{nest_in}
use Rattle.argue_texts.specs.ArgumentTexts.{claims_in}
use Rattle.desk.specs.declared.Desk.{Desk}
use Rattle.desk.specs.Desks.{desk_in, IsMade, state_fault}
use Rattle.desk.specs.Says.{read_in}
use Rattle.desk.proofs.Made.{since_holds}
use Rattle.call_argument.specs.declared.Weighed.{Weighed}
use Rattle.call_argument.specs.Says.{WeighSays, WeighPlacementSays, weighed_by}
use Rattle.call_argument.proofs.Replies.{key_refused, key_weighed, placement_refused, placement_faulty}
use Rattle.call_argument.proofs.Replies.{placement_weighed}
use Rattle.call_argument.proofs.Holding.{weighed_iff}
use Rattle.pages.specs.Demands.{paper_in, Key, Since, KeyOn, Places}
use Rattle.pages.proofs.Desks.{reached_made, since_made, since_is}
use Rattle.pages.proofs.Kept.{has-nest, key_same, paper_on}
use Rattle.pages_requests.proofs.Papers.{nest_state, no_nest_state, turn_state}
use Rattle.pages_calls.proofs.Reading.{places_read, not_read}
use Rattle.pages_arguments.specs.Weighing.{Holds, Weighing}
use Rattle.pages_arguments.proofs.Kept.{argued_kept}

-- the parts of equal replies
named : (r x : Weighed) → r ≡ x → (r.number ≡ x.number) × (r.text ≡ x.text) × (r.line ≡ x.line)
named r x e =
    (ap (λ (w : Weighed). w.number) e, ap (λ (w : Weighed). w.text) e, ap (λ (w : Weighed). w.line) e)

-- a reply that is that of a placement
held_by
    : (d : Desk) (gs s : List ℕ) (r : Weighed)
    → r ≡ weighed_by (nest_in d.nest) gs s
    → (r.number ≡ 0) ↔ Holds d gs s
held_by d gs s r e =
    let n = ap (λ (w : Weighed). w.number) e in
    let i = weighed_iff (nest_in d.nest) gs s in
    ((λ z. i.0 (sym n ∙ z)), (λ h. n ∙ i.1 h))

key_held
    : (d : Desk) (gs s : List ℕ) (r : Weighed) → IsMade d → KeyOn d gs → WeighSays d s r
    → (r.number ≡ 0) ↔ Holds d gs s
key_held d gs s r m k h =
    let none : state_fault true (desk_in d) ≡ 0 = rw (has-nest d m gs k, k.planned) in
    held_by d gs s r
    (h ∙ sym (key_weighed (desk_in d) s none) ∙
    ap (λ (x : List ℕ). weighed_by (nest_in d.nest) x s) (sym (key_same d m gs k)))

module _ (d : Desk) (m : IsMade d) (loaded : d.loaded ≡ true) (p s : List ℕ) (r : Weighed)
    (h : WeighPlacementSays d p s r) where
  unplaced : ((gs : List ℕ) → Places (paper_on d) p gs → ⊥) → (r.number ≡ 0 → ⊥) × (r.text ≡ 1)
  unplaced bad =
      let x = read_in (desk_in d) p in
      let e =
      named r _ (h ∙ sym (placement_faulty (desk_in d) p s (nest_state d loaded) x.number x.place x.gaps refl
      (not_read d m loaded p bad))) in
      ((λ z. not_read d m loaded p bad (sym e.0 ∙ z)), e.1)

  placement_held : (gs : List ℕ) → Places (paper_on d) p gs → (r.number ≡ 0) ↔ Holds d gs s
  placement_held gs one =
      held_by d gs s r
      (h ∙
      sym (placement_weighed (desk_in d) p s (nest_state d loaded) 0 0 gs (sym (places_read d m loaded p gs one)) refl))

placement_key
    : (t : List ℕ) (d : Desk) (p s gs : List ℕ) (r : Weighed) → Since t d → WeighPlacementSays d p s r
    → Places (paper_in d.nest) p gs → r.number ≡ 0 → Key (paper_in d.nest) gs
placement_key t d p s gs r q h one z =
    let loaded = (since_holds t d (since_is t d q)).has-nest in
    let held = (placement_held d (since_made t d q) loaded p s r h gs one).0 z in
    argued_kept.sound t d gs (claims_in s) q held.1

pub weighing_kept : Weighing
weighing_kept =
    record {
      key_wanted =
          λ d s n r h o.
          let u = turn_state d n o in
          named r _ (h ∙ sym (key_refused (desk_in d) s n (sym u.0) u.1));
      nest_wanted =
          λ d p s r h z.
          named r _ (h ∙ sym (placement_refused (desk_in d) p s 10 (sym (no_nest_state d z)) (λ q. omega arith)));
      unplaced = λ d p s r q l h bad. unplaced d (reached_made d q) l p s r h bad;
      key_held = λ d gs s r q k h. key_held d gs s r (reached_made d q) k h;
      placement_held = λ d p s gs r q l h one. placement_held d (reached_made d q) l p s r h gs one;
      placement_key = placement_key;
    }
