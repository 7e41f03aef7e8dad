-- Desks since a Load: what demand 3, and the rule of one key for one paper, say of the calls.
-- Main definitions: `PlainSince`, `Since`, `PlansKey`, `PlansNone`, `LoadThenPlan`.
use Rattle.std.specs.Prelude.{◌≡◌, true, List, ℕ}
use Rattle.laws.specs.Choice.{pick_t}
use Rattle.paper_nests.specs.Ring.{one_loop}
use Rattle.paper_nests.specs.Stored.{nest_in}
use Rattle.paper_placements.specs.Placements.{is_correct}
use Rattle.paper_order.specs.Trees.{tree_of, as_good_tree}
use Rattle.paper_order.specs.Keys.{IsKey, By-loops, LeastOnRing}
use Rattle.desk_moves.specs.declared.Move as DM
use Rattle.desk_moves.specs.TakeBack.{Play}
use Rattle.paper_texts.specs.NestTexts.{read_nest}
use Rattle.paper_barred.specs.Reduced.{is_blocked}
use Rattle.plan_theorem.specs.KeyOf.{key_of}
use Rattle.plan_theorem.specs.OneKey.{IsFirstKey, IsFirstSmallest}
use Rattle.desk.specs.declared.Desk as DD
use Rattle.desk.specs.declared.PlainDesk as OD
use Rattle.desk.specs.declared.Reply as DR
use Rattle.desk.specs.Desks.{with_play, desk_in, IsMade, IsMadePlain}
use Rattle.desk.specs.Says.{Holds, LoadSays, PlanSays, OverSays}

-- a desk of the kind before sittings that holds the nest which the accepted text s spells
pub record PlainSince (s : List ℕ) (old : OD.PlainDesk) : Type 0 where
  pub made : IsMadePlain old
  pub accepted : (read_nest s).number ≡ 0
  pub has-nest : old.loaded ≡ true
  pub nest_is : nest_in old.nest ≡ (read_nest s).nest_is

-- 01, "Which placement is better": a desk whose last accepted Load read the text s, with no Reset since, whatever it
-- was used for before. Plans, refused Loads, moves of the sitting and take-backs may lie between, and going over; the
-- other calls change nothing.
pub data Since (s : List ℕ) : DD.Desk → Type 0 where
  loaded : (d : DD.Desk) (r : DR.Reply) → IsMade d → LoadSays d s r → r.number ≡ 0 → Since s r.desk
  refused
      : (d : DD.Desk) (t : List ℕ) (r : DR.Reply) → Since s d → LoadSays d t r → (r.number ≡ 0 → ⊥)
      → Since s r.desk
  planned : (d : DD.Desk) (r : DR.Reply) → Since s d → PlanSays d r → Since s r.desk
  moved : (d e : DD.Desk) (p : Play (List ℕ) DM.Move) → Since s d → Holds e (with_play p (desk_in d)) → Since s e
  went_over : (old : OD.PlainDesk) (r : DD.Desk) → PlainSince s old → OverSays old r → Since s r

-- demand 3 of the calls: where the nest that s spells is not blocked, Plan of such a desk is not refused and leaves a
-- key, and this is a key of that nest: correct, and as good or better than every correct placement in the tree order of 001, definition 1, and loop
-- by loop; of one loop, no set of gaps that meets all circular intervals has fewer; 02, job 6: it is the key of that
-- nest, the first of all its keys, and of one loop the first of the smallest
pub record PlansKey (s : List ℕ) (r : DR.Reply) : Type 0 where
  pub no_refusal : r.number ≡ 0
  pub has-key : (desk_in r.desk).has_key ≡ true
  pub is_key : IsKey (read_nest s).nest_is (desk_in r.desk).key
  pub least_tree
      : (gs : List ℕ)
      → is_correct (read_nest s).nest_is gs ≡ true
      → as_good_tree (tree_of (read_nest s).nest_is (desk_in r.desk).key) (tree_of (read_nest s).nest_is gs) ≡ true
  pub by_loops : By-loops (read_nest s).nest_is (desk_in r.desk).key
  pub on_ring
      : one_loop (read_nest s).nest_is.points ≡ true
      → LeastOnRing (read_nest s).nest_is (desk_in r.desk).key
  pub key_is : (desk_in r.desk).key ≡ key_of (read_nest s).nest_is
  pub is-first : IsFirstKey (read_nest s).nest_is (desk_in r.desk).key
  pub one-loop
      : one_loop (read_nest s).nest_is.points ≡ true
      → IsFirstSmallest (read_nest s).nest_is (desk_in r.desk).key

-- 02, job 7: where some dependence has all its gaps barred, no placement is correct, and Plan is refused with 15
pub record PlansNone (s : List ℕ) (d : DD.Desk) (r : DR.Reply) : Type 0 where
  pub number_is : r.number ≡ 15
  pub line_is : r.line ≡ 0
  pub desk_is : r.desk ≡ d
  pub none_correct : (gs : List ℕ) → is_correct (read_nest s).nest_is gs ≡ true → ⊥

abbrev pub LoadThenPlan : Type 0
LoadThenPlan =
    (s : List ℕ) (d : DD.Desk) (r : DR.Reply) →
    Since s d → PlanSays d r → pick_t (is_blocked (read_nest s).nest_is) (PlansNone s d r) (PlansKey s r)
