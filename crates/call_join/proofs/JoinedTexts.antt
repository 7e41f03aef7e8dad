-- What Join has written: an accepted text, the joint nest's, whose key is the two keys moved along.
-- Main definition: `IsJoint`. Main statement: `joined_read`.
use mathlib.Core.Path.{◌≡◌, refl, sym, ap, ◌∙◌}
use mathlib.Core.Bool.{Bool, true, false}
use mathlib.Core.List.{List, []}
use Prim.Native.Nat.{ℕ}
use native.Mathlib.Omega.{arith}
use lib.Dec.{eqb}
use lib.ListN.{length, take, drop}
use lib.Seq.{take_at}
use borrow.Author.Tests.{eqb-true, eqb-false}
use Rattle.laws.specs.Choice.{pick}
use Rattle.laws.proofs.Members.{no_members}
use Rattle.paper_nests.specs.Nests.{Nest}
use Rattle.paper_order.specs.Trees.{node, bare, beside, tree_of}
use Rattle.paper_lines.specs.Writing.{over}
use Rattle.paper_texts.specs.NestTexts.{Got, got, read_nest}
use Rattle.paper_texts.proofs.Accepted.{accepted_valid}
use Rattle.paper_texts.proofs.Spelled.{valid_accepted}
use Rattle.plan_theorem.specs.KeyOf.{key_of}
use Rattle.call_join.specs.declared.Joined as DJ
use Rattle.call_join.specs.JointNests.{joined, joined_gaps, Papers, exceeds}
use Rattle.call_join.specs.Says.{fault, joint_text, room_fault, texts_fault, join_fault, JoinSays}
use Rattle.call_join.proofs.JointValid.{joint_by}
use Rattle.call_join.proofs.JointKey.{joined_key}
use Rattle.call_join.proofs.JointTree.{least_tree_joined}

-- where there is no fault
record NoFault (x y : Got) : Type 0 where
  first : x.number ≡ 0
  second : y.number ≡ 0
  first_unbarred : x.nest_is.barred ≡ []
  second_unbarred : y.nest_is.barred ≡ []
  within : exceeds x.nest_is y.nest_is ≡ false

none_of : (x y : Got) (room : ℕ) → (texts_fault x y room).number ≡ 0 → NoFault x y
none_of x y room =
    go (eqb x.number 0) (eqb y.number 0) (eqb (length x.nest_is.barred) 0)
    (eqb (length y.nest_is.barred) 0) (exceeds x.nest_is y.nest_is) refl refl refl refl refl
  where
    go
        : (s t v w u : Bool)
        → eqb x.number 0 ≡ s
        → eqb y.number 0 ≡ t
        → eqb (length x.nest_is.barred) 0 ≡ v
        → eqb (length y.nest_is.barred) 0 ≡ w
        → exceeds x.nest_is y.nest_is ≡ u
        → (pick
        s
        (pick
        t
        (pick v (pick w (pick u (fault 18 0 0) (room_fault x y room)) (fault 14 2 0)) (fault 14 1 0))
        (fault y.number 2 y.place))
        (fault x.number 1 x.place)).number
        ≡ 0
        → NoFault x y
    go true true true true true p q i k r h = absurd (omega arith)
    go true true true true false p q i k r h =
        record {
          first = eqb-true x.number 0 p;
          second = eqb-true y.number 0 q;
          first_unbarred =
              no_members x.nest_is.barred (omega (arith, eqb-true (length x.nest_is.barred) 0 i));
          second_unbarred =
              no_members y.nest_is.barred (omega (arith, eqb-true (length y.nest_is.barred) 0 k));
          within = r;
        }
    go true true true false u p q i k r h = absurd (omega arith)
    go true true false w u p q i k r h = absurd (omega arith)
    go true false v w u p q i k r h = absurd (eqb-false y.number 0 q h)
    go false t v w u p q i k r h = absurd (eqb-false x.number 0 p h)

-- a text that was joined from two: it is accepted, as the joint nest, and its key is the two keys moved along, with the
-- two least trees under a root with count 0
pub record IsJoint (a b text : List ℕ) : Type 0 where
  pub is : text ≡ joint_text (read_nest a) (read_nest b)
  pub accepted : read_nest text ≡ got 0 0 (joined (read_nest a).nest_is (read_nest b).nest_is)
  pub key
      : let n = (read_nest a).nest_is in
      let m = (read_nest b).nest_is in
      key_of (read_nest text).nest_is ≡ joined_gaps n (key_of n) (key_of m)
  pub tree
      : let n = (read_nest a).nest_is in
      let m = (read_nest b).nest_is in
      tree_of (read_nest text).nest_is (key_of (read_nest text).nest_is)
      ≡ node 0 (beside (tree_of n (key_of n)) (beside (tree_of m (key_of m)) bare))

joint-text : (a b : List ℕ) → NoFault (read_nest a) (read_nest b) → IsJoint a b (joint_text (read_nest a) (read_nest b))
joint-text a b none =
    record {
      is = refl;
      accepted = accepted;
      key = ap (λ (g : Got). key_of g.nest_is) accepted ∙ joined_key n m papers none.within;
      tree =
          ap (λ (g : Got). tree_of g.nest_is (key_of g.nest_is)) accepted ∙
          least_tree_joined n m papers none.within;
    }
  where
    n : Nest
    n = (read_nest a).nest_is

    m : Nest
    m = (read_nest b).nest_is

    papers : Papers n m
    papers =
        record {
          first = accepted_valid a none.first;
          second = accepted_valid b none.second;
          first_unbarred = none.first_unbarred;
          second_unbarred = none.second_unbarred;
        }

    accepted : read_nest (joint_text (read_nest a) (read_nest b)) ≡ got 0 0 (joined n m)
    accepted = valid_accepted (joined n m) (joint_by n m papers none.within).valid

-- what Join writes where it answers 0
pub joined_read
    : (a b out out' : List ℕ) (r : DJ.Joined)
    → JoinSays a b out out' r
    → r.number ≡ 0
    → IsJoint a b (take r.value out')
joined_read a b out out' r says zero_is =
    let f = join_fault a b out in
    let none : (join_fault a b out).number ≡ 0 = sym says.number_is ∙ zero_is in
    let t = joint_text (read_nest a) (read_nest b) in
    let value : r.value ≡ length t = says.value_is ∙ rw none in
    let bytes : out' ≡ over t out = says.out_is ∙ rw none in
    let text : take r.value out' ≡ t =
    ap (λ (o : List ℕ). take r.value o) bytes ∙ take_at t (drop (length t) out) r.value (sym value) in
    rw text (joint-text a b (none_of (read_nest a) (read_nest b) (length out) none))
