-- A key written and read again: what Write leaves in the buffer is the key's text, which is read as the key, and the key
-- of the nest is Best beside itself.
-- Main statements: `written_text`, `written_read_best`.
use mathlib.Core.Path.{◌≡◌, sym, ◌∙◌, ap, subst}
use mathlib.Core.Bool.{true}
use mathlib.Core.List.{List}
use Prim.Native.Nat.{ℕ}
use lib.Dec.{eqb, ltb}
use lib.ListN.{length, take, drop}
use lib.Seq.{take-append_seam}
use borrow.Author.Tests.{eq-eqb, le-leb}
use Rattle.laws.specs.Choice.{when}
use Rattle.laws.proofs.Choices.{first_zero}
use Rattle.paper_nests.specs.Kinds.{POINTS}
use Rattle.paper_lines.specs.Writing.{over}
use Rattle.paper_order.specs.Verdicts.{Best, mark_of}
use Rattle.paper_order.proofs.Verdicts.{key_best}
use Rattle.paper_texts.specs.PlacementTexts.{placed, key_text}
use Rattle.paper_texts.proofs.ReadsBack.{reads_back}
use Rattle.desk.specs.declared.Desk as DD
use Rattle.desk.specs.declared.Answer as DA
use Rattle.desk.specs.Desks.{desk_in, IsMade, state_fault}
use Rattle.desk.specs.Says.{given, read_in, marked, write_fault, WriteSays}
use Rattle.desk.specs.ReadAgain.{KeyBack, ReadAgain}
use Rattle.desk.proofs.Ready.{ready, ready_has}
use Rattle.desk.proofs.TwoDesks.{made_first}

-- what Mark says of a text that is read
marked_read
    : (d : DD.Desk) (s gs : List ℕ)
    → state_fault true (desk_in d) ≡ 0
    → read_in (desk_in d) s ≡ placed 0 0 gs
    → marked (desk_in d) s ≡ given (mark_of (desk_in d).nest_is (desk_in d).key gs)
marked_read d s gs state e = rw (eq-eqb (state_fault true (desk_in d)) 0 state, e)

module _ (d : DD.Desk) (m : IsMade d) (state : state_fault true (desk_in d) ≡ 0) where
  key_read : read_in (desk_in d) (key_text (desk_in d).key) ≡ placed 0 0 (desk_in d).key
  key_read =
      let r = ready d m state in
      let n = (desk_in d).nest_is in
      reads_back n (desk_in d).key r.key-gaps r.key_avoids (le-leb (length n.points) POINTS r.few)

  key_marked : marked (desk_in d) (key_text (desk_in d).key) ≡ given Best
  key_marked =
      let r = ready d m state in
      let k = (made_first d m (ready_has d state).1).is_key in
      marked_read d (key_text (desk_in d).key) (desk_in d).key state key_read ∙
      ap given (key_best (desk_in d).nest_is r.shape (desk_in d).key (desk_in d).key k r.key-gaps r.key_avoids k)

  key_back : KeyBack d (key_text (desk_in d).key)
  key_back = record { read_is = key_read; mark_is = λ r h. h ∙ key_marked }

-- what Write leaves where it answers 0
module _
    (d : DD.Desk) (out out' : List ℕ) (a : DA.Answer) (h : WriteSays d out out' a) (z : a.number ≡ 0) where
  no_fault : write_fault (desk_in d) out ≡ 0
  no_fault = sym h.number_is ∙ z

  pub written_text : take a.value out' ≡ key_text (desk_in d).key
  written_text =
      let t = key_text (desk_in d).key in
      let ok : eqb (write_fault (desk_in d) out) 0 ≡ true = eq-eqb (write_fault (desk_in d) out) 0 no_fault in
      let l : a.value ≡ length t = rw ok at h.value_is in
      let o : out' ≡ over t out = rw ok at h.out_is in
      rw (l, o) (take-append_seam t (drop (length t) out))

pub written_read_best : ReadAgain
written_read_best d out out' a m h z =
    let short = when (ltb (length out) (length (key_text (desk_in d).key))) 9 in
    let state = (first_zero (state_fault true (desk_in d)) short (no_fault d out out' a h z)).0 in
    subst (λ (s : List ℕ). KeyBack d s) (sym (written_text d out out' a h z)) (key_back d m state)
