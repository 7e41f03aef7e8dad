-- The call that gives the argument of the key keeps its page: what it writes is the text of `argument_of`, which is read
-- as that argument (`text_weighs`) and is not long (`longest`).
-- Main statement: `giving_kept`.
use mathlib.Core.Path.{◌≡◌, refl, sym, ◌∙◌, subst}
use mathlib.Core.Bool.{true, false, ◌||◌}
use mathlib.Core.List.{List}
use mathlib.Core.Logic.{⊎_elim}
use Prim.Native.Nat.{ℕ, ◌≤◌, ◌<◌}
use lib.Dec.{eqb}
use lib.ListN.{length, take, drop}
use lib.Seq.{take-append_seam, drop-append_seam}
use borrow.Author.Tests.{ne_eqb, lt-ltb, le-ltb}
use Rattle.laws.specs.Choice.{pick}
use Rattle.laws.proofs.Choices.{first_set, first_none}
use Rattle.laws.proofs.Tests.{le_or}
use Rattle.paper_nests.specs.Stored.{nest_in}
use Rattle.paper_lines.specs.Writing.{over}
use Rattle.argue_texts.specs.ArgumentTexts.{claims_in}
use Rattle.argue_lengths.proofs.Longest.{longest}
use Rattle.argue_lengths.proofs.Given.{text_weighs}
use Rattle.desk.specs.declared.Desk.{Desk}
use Rattle.desk.specs.declared.Answer.{Answer}
use Rattle.desk.specs.Desks.{desk_in, IsMade, state_fault}
use Rattle.call_argue.specs.Says.{text_of, room_fault, argue_fault, ArgueSays}
use Rattle.pages.specs.Demands.{KeyOn}
use Rattle.pages.proofs.Desks.{reached_made}
use Rattle.pages.proofs.Kept.{has-nest, key_same}
use Rattle.pages_requests.proofs.Papers.{turn_state}
use Rattle.pages_arguments.specs.Argued.{Argues}
use Rattle.pages_arguments.specs.Weighing.{Holds}
use Rattle.pages_arguments.specs.Giving.{Wants, Giving}
use Rattle.pages_arguments.proofs.Weighing.{weighing_kept}

module _ (d : Desk) (gs : List ℕ) (m : IsMade d) (k : KeyOn d gs) where
  abbrev text : List ℕ
  text = text_of (nest_in d.nest)

  no_state : state_fault true (desk_in d) ≡ 0
  no_state = rw (has-nest d m gs k, k.planned)

  room-fault : (out : List ℕ) → argue_fault (desk_in d) out ≡ room_fault (nest_in d.nest) out
  room-fault out = first_none (state_fault true (desk_in d)) (room_fault (nest_in d.nest) out) no_state

  -- read again it is an argument of the desk's key
  held : Holds d gs text
  held =
      let w = text_weighs (nest_in d.nest) (m.paper.valid (has-nest d m gs k)) (m.paper.opens k.planned) in (
        w.0,
        subst (λ (x : List ℕ). Argues d x (claims_in text)) (sym (key_same d m gs k ∙ m.paper.key_is k.planned))
            w.1,
      )

  -- with room there is no number, without it 9
  number_with : (out : List ℕ) → length text ≤ length out → argue_fault (desk_in d) out ≡ 0
  number_with out h =
      let z : room_fault (nest_in d.nest) out ≡ 0 = rw (le-ltb (length out) (length text) h) refl in
      room-fault out ∙ z

  number_without : (out : List ℕ) → length out < length text → argue_fault (desk_in d) out ≡ 9
  number_without out h =
      let z : room_fault (nest_in d.nest) out ≡ 9 = rw (lt-ltb (length out) (length text) h) refl in
      room-fault out ∙ z

  -- the value is told with both
  value_of : (out out' : List ℕ) (a : Answer) → ArgueSays d out out' a → (n : ℕ) → argue_fault (desk_in d) out ≡ n →
      (eqb n 0 || eqb n 9) ≡ true → a.value ≡ length text
  value_of out out' a h n f t =
      let v : pick (eqb (argue_fault (desk_in d) out) 0 || eqb (argue_fault (desk_in d) out) 9) (length text) 0 ≡
      length text = rw (f, t) refl in
      h.value_is ∙ v

  value_told : (out out' : List ℕ) (a : Answer) → ArgueSays d out out' a → a.value ≡ length text
  value_told out out' a h = ⊎_elim
      (λ (z : length text ≤ length out). value_of out out' a h 0 (number_with out z) refl)
      (λ (z : length out < length text). value_of out out' a h 9 (number_without out z) refl)
      (le_or (length text) (length out))

  wants : Wants d (length text)
  wants =
      record {
        at_most = longest (nest_in d.nest) (m.paper.valid (has-nest d m gs k)) (m.paper.opens k.planned);
        told = λ out out' a h. (value_told out out' a h, h.line_is);
        room = λ out out' a h l. h.number_is ∙ number_with out l;
        short = λ out out' a h l. h.number_is ∙ number_without out l;
      }

  -- without number the text stands at the start of the buffer
  module _ (out out' : List ℕ) (a : Answer) (h : ArgueSays d out out' a) (none : a.number ≡ 0) where
    out_is : out' ≡ over text out
    out_is =
        let f : argue_fault (desk_in d) out ≡ 0 = sym h.number_is ∙ none in
        let z : pick (eqb (argue_fault (desk_in d) out) 0) (over text out) out ≡ over text out = rw f refl in
        h.out_is ∙ z

    front : take a.value out' ≡ text
    front = rw (value_told out out' a h, out_is) (take-append_seam text (drop (length text) out))

    behind : drop a.value out' ≡ drop a.value out
    behind = rw (value_told out out' a h, out_is) (drop-append_seam text (drop (length text) out))

    written : Holds d gs (take a.value out') × (drop a.value out' ≡ drop a.value out)
    written = (rw front held, behind)

bytes_kept : (d : Desk) (out out' : List ℕ) (a : Answer) → ArgueSays d out out' a → (a.number ≡ 0 → ⊥) → out' ≡ out
bytes_kept d out out' a h some =
    let f : eqb (argue_fault (desk_in d) out) 0 ≡ false =
    ne_eqb (argue_fault (desk_in d) out) 0 (λ z. some (h.number_is ∙ z)) in
    let z : pick (eqb (argue_fault (desk_in d) out) 0) (over (text_of (nest_in d.nest)) out) out ≡ out = rw f refl in
    h.out_is ∙ z

pub giving_kept : Giving
giving_kept =
    record {
      turn =
          λ d out out' a n h o.
          let u = turn_state d n o in (
            h.number_is ∙
                first_set (state_fault true (desk_in d)) (room_fault (nest_in d.nest) out) (λ z. u.1 (sym u.0 ∙ z)) ∙
                u.0,
            h.line_is,
          );
      bytes_kept = bytes_kept;
      wants = λ d gs r k. (length (text_of (nest_in d.nest)), wants d gs (reached_made d r) k);
      written = λ d gs out out' a r k h none. written d gs (reached_made d r) k out out' a h none;
      weighed =
          λ d gs out out' a w r k h none says.
          (weighing_kept.key_held d gs (take a.value out') w r k says).1
          (written d gs (reached_made d r) k out out' a h none).0;
    }
