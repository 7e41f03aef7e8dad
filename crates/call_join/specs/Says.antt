-- What joining two texts promises: the refusal, the joint text, and the buffer.
-- Main definitions: `join_fault`, `joint_text`, `JoinSays`.
use Rattle.std.specs.Prelude.{◌≡◌, List, ℕ, eqb, ltb, length}
use Rattle.laws.specs.Choice.{pick}
use Rattle.paper_lines.specs.Writing.{over}
use Rattle.paper_texts.specs.NestTexts.{Got, read_nest, nest_text}
use Rattle.call_join.specs.declared.Joined as DJ
use Rattle.call_join.specs.JointNests.{joined, exceeds}

-- a refusal: the number, the text at fault, 0 for neither, and its line
pub record Fault : Type 0 where
  pub number : ℕ
  pub text : ℕ
  pub line : ℕ

abbrev pub fault : ℕ → ℕ → ℕ → Fault
fault n t l = record { number = n; text = t; line = l }

-- the text of the joint nest of two texts that were read
abbrev pub joint_text : Got → Got → List ℕ
joint_text x y = nest_text (joined x.nest_is y.nest_is)

-- 9, for a buffer of so many bytes; 18 before it; these two name no text
abbrev pub room_fault : Got → Got → ℕ → Fault
room_fault x y room = pick (ltb room (length (joint_text x y))) (fault 9 0 0) (fault 0 0 0)

abbrev pub joint_fault : Got → Got → ℕ → Fault
joint_fault x y room = pick (exceeds x.nest_is y.nest_is) (fault 18 0 0) (room_fault x y room)

-- 14: a text that bars a gap, the first such one named, without a line; before 18
abbrev pub bars_fault : Got → Got → ℕ → Fault
bars_fault x y room =
    pick
    (eqb (length x.nest_is.barred) 0)
    (pick (eqb (length y.nest_is.barred) 0) (joint_fault x y room) (fault 14 2 0))
    (fault 14 1 0)

-- faults of the first text before those of the second, each with its line
abbrev pub texts_fault : Got → Got → ℕ → Fault
texts_fault x y room =
    pick
    (eqb x.number 0)
    (pick (eqb y.number 0) (bars_fault x y room) (fault y.number 2 y.place))
    (fault x.number 1 x.place)

abbrev pub join_fault : List ℕ → List ℕ → List ℕ → Fault
join_fault a b out = texts_fault (read_nest a) (read_nest b) (length out)

-- a reply
abbrev pub reply : ℕ → ℕ → ℕ → ℕ → DJ.Joined
reply n t l v = record { number = n; text = t; line = l; value = v }

-- Join: the joint text from the start of the buffer, every later byte as it was, and its length; a refusal leaves the
-- buffer
pub record JoinSays (a b out out' : List ℕ) (r : DJ.Joined) : Type 0 where
  pub number_is : r.number ≡ (join_fault a b out).number
  pub text_is : r.text ≡ (join_fault a b out).text
  pub line_is : r.line ≡ (join_fault a b out).line
  pub value_is : r.value ≡ pick (eqb (join_fault a b out).number 0) (length (joint_text (read_nest a) (read_nest b))) 0
  pub out_is
      : out' ≡ pick (eqb (join_fault a b out).number 0) (over (joint_text (read_nest a) (read_nest b)) out) out
