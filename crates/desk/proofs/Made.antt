-- Every call's desk is made by calls if the one it got was, and demand 3 of the calls with the rule of one key.
-- Main statements: `made_empty`, `made_load`, `made_plan`, `plan_again`, `Kept-fresh`, `load_then_plan`.
use mathlib.Core.Path.{◌≡◌, refl, sym, ◌∙◌, ap, subst}
use mathlib.Core.Bool.{Bool, true, false, ◌&&◌, not}
use mathlib.Core.List.{List, []}
use mathlib.Core.Logic.{◌⊎◌, inl, inr, ⊎_elim}
use Prim.Native.Nat.{ℕ}
use native.Mathlib.Omega.{arith}
use lib.ListN.{get_or}
use borrow.Author.Tests.{eq-eqb, ne_eqb}
use Rattle.laws.specs.Choice.{pick, pick_t}
use Rattle.laws.proofs.Tests.{never_both, eq_or}
use Rattle.paper_nests.specs.Nests.{Nest}
use Rattle.paper_nests.specs.Valid.{is_valid}
use Rattle.paper_nests.specs.Stored.{nest_in}
use Rattle.paper_nests.proofs.Deps.{valid_is}
use Rattle.paper_placements.specs.Placements.{avoids}
use Rattle.paper_order.specs.Keys.{LeastOnRing}
use Rattle.paper_order.proofs.Keys.{key_least_tree}
use Rattle.desk_sitting.specs.Counts.{count_at, uncut_count}
use Rattle.desk_moves.specs.declared.Move as DM
use Rattle.desk_moves.specs.TakeBack.{Play, History}
use Rattle.desk_moves.specs.Game.{sitting_game}
use Rattle.paper_texts.specs.NestTexts.{read_nest}
use Rattle.paper_texts.proofs.Accepted.{accepted_valid}
use Rattle.paper_barred.specs.Reduced.{is_blocked}
use Rattle.paper_barred.proofs.Blocked.{blocked_iff}
use Rattle.plan_theorem.specs.KeyOf.{key_of}
use Rattle.plan_theorem.specs.OneKey.{IsFirstKey, IsFirstSmallest}
use Rattle.plan_theorem.proofs.Demand3.{valid_by_loops}
use Rattle.plan_theorem.proofs.KeyFirst.{key_is_first}
use Rattle.plan_theorem.proofs.RingKey.{least_on_ring, ring_first_smallest}
use Rattle.desk.specs.declared.Desk as DD
use Rattle.desk.specs.declared.PlainDesk as OD
use Rattle.desk.specs.declared.Reply as DR
use Rattle.desk.specs.Desks.{Desk, desk, empty_desk, loaded_desk, with_play, with_key, desk_in, over_in}
use Rattle.desk.specs.Desks.{IsPaper, IsMade, plan_fault}
use Rattle.desk.specs.Says.{Holds, EmptySays, LoadSays, PlanSays}
use Rattle.desk.specs.Since.{Since, PlansKey, PlansNone, LoadThenPlan}

-- a desk that holds what calls leave
pub made_holds : (d : DD.Desk) (x : Desk) → IsPaper x → Holds d x → IsMade d
made_holds d x p h =
    record {
      counted = h.counted;
      paper = subst (λ (y : Desk). IsPaper y) (sym h.holds) p;
      kept = h.kept;
      ring = h.ring;
    }

pub made_empty : (d : DD.Desk) → EmptySays d → IsMade d
made_empty d h = made_holds d empty_desk
    (record {
      valid = λ z. never_both z refl;
      no_nest = λ _. refl;
      key_is = λ z. never_both z refl;
      no_key = λ _. refl;
      opens = λ z. never_both z refl;
      avoiding = refl;
      led = tt;
    })
    h

-- a valid nest and no key
pub loaded_paper : (n : Nest) → is_valid n ≡ true → IsPaper (loaded_desk n)
loaded_paper n v =
    record {
      valid = λ _. v;
      no_nest = λ z. never_both refl z;
      key_is = λ z. never_both z refl;
      no_key = λ _. refl;
      opens = λ z. never_both z refl;
      avoiding = refl;
      led = tt;
    }

-- another sitting without barred gaps on a desk with a nest, and the moves that led to it
pub played_paper
    : (x : Desk) (p : Play (List ℕ) DM.Move)
    → x.has_nest ≡ true
    → IsPaper x
    → avoids x.nest_is.barred p.state ≡ true
    → History (sitting_game x.nest_is) p.kept p.state
    → IsPaper (with_play p x)
played_paper x p a i v h =
    record {
      valid = i.valid;
      no_nest = λ z. never_both a z;
      key_is = i.key_is;
      no_key = i.no_key;
      opens = i.opens;
      avoiding = v;
      led = h;
    }

-- the key of its nest on a desk with a nest that is not blocked
pub planned_paper
    : (x : Desk) → x.has_nest ≡ true → is_blocked x.nest_is ≡ false → IsPaper x → IsPaper (with_key x)
planned_paper x a o i =
    record {
      valid = i.valid;
      no_nest = λ z. never_both a z;
      key_is = λ _. refl;
      no_key = λ z. never_both refl z;
      opens = λ _. o;
      avoiding = i.avoiding;
      led = i.led;
    }

-- 02, job 4: for every dependence the desk keeps how many barriers cut it, and the number uncut; what is kept always
-- equals a fresh count over the placement
pub Kept-fresh
    : (d : DD.Desk) → IsMade d
    → let n = (desk_in d).nest_is in
    ((i : ℕ) → get_or d.sitting.counts i 0 ≡ count_at n.points n.deps (desk_in d).sitting i) ×
    (d.sitting.uncut ≡ uncut_count n.points n.deps (desk_in d).sitting)
Kept-fresh d m = (m.kept.counts_are, m.kept.uncut_is)

-- an accepted Load's desk holds the nest that was read; a refused one's is the desk of before
pub loaded_holds
    : (d : DD.Desk) (s : List ℕ) (r : DR.Reply) → LoadSays d s r → r.number ≡ 0
    → Holds r.desk (loaded_desk (read_nest s).nest_is)
loaded_holds d s r h z = rw (eq-eqb (read_nest s).number 0 (sym h.number_is ∙ z)) at h.desk_is

pub refused_keeps
    : (d : DD.Desk) (s : List ℕ) (r : DR.Reply) → LoadSays d s r → (r.number ≡ 0 → ⊥) → r.desk ≡ d
refused_keeps d s r h z = rw (ne_eqb (read_nest s).number 0 (λ q. z (h.number_is ∙ q))) at h.desk_is

pub made_load : (d : DD.Desk) (s : List ℕ) (r : DR.Reply) → IsMade d → LoadSays d s r → IsMade r.desk
made_load d s r m h = ⊎_elim
    (λ (z : r.number ≡ 0).
    made_holds r.desk (loaded_desk (read_nest s).nest_is)
    (loaded_paper (read_nest s).nest_is (accepted_valid s (sym h.number_is ∙ z)))
    (loaded_holds d s r h z))
    (λ (z : r.number ≡ 0 → ⊥). subst (λ (x : DD.Desk). IsMade x) (sym (refused_keeps d s r h z)) m)
    (eq_or r.number 0)

-- Plan of a desk with a nest that is not blocked; and a refused one
pub plan_makes
    : (d : DD.Desk) (r : DR.Reply)
    → d.loaded ≡ true
    → is_blocked (desk_in d).nest_is ≡ false
    → PlanSays d r
    → Holds r.desk (with_key (desk_in d))
plan_makes d r a o h =
    let z : plan_fault (desk_in d) ≡ 0 = rw (a, o) in
    rw (eq-eqb (plan_fault (desk_in d)) 0 z) at h.desk_is

pub plan_keeps : (d : DD.Desk) (r : DR.Reply) → (plan_fault (desk_in d) ≡ 0 → ⊥) → PlanSays d r → r.desk ≡ d
plan_keeps d r z h = rw (ne_eqb (plan_fault (desk_in d)) 0 z) at h.desk_is

-- the one or the other
pub record PlanMade (d e : DD.Desk) : Type 0 where
  pub has-nest : d.loaded ≡ true
  pub opens : is_blocked (desk_in d).nest_is ≡ false
  pub holds : Holds e (with_key (desk_in d))

pub plan_either : (d : DD.Desk) (r : DR.Reply) → PlanSays d r → PlanMade d r.desk ⊎ (r.desk ≡ d)
plan_either d r h = go d.loaded (is_blocked (desk_in d).nest_is) refl refl
  where
    go
        : (s t : Bool) → d.loaded ≡ s → is_blocked (desk_in d).nest_is ≡ t
        → PlanMade d r.desk ⊎ (r.desk ≡ d)
    go true false a b = inl (record { has-nest = a; opens = b; holds = plan_makes d r a b h })
    go true true a b =
        let z : plan_fault (desk_in d) ≡ 15 = rw (a, b) in
        inr (plan_keeps d r (λ q. omega arith) h)
    go false t a b =
        let z : plan_fault (desk_in d) ≡ 10 = rw a in
        inr (plan_keeps d r (λ q. omega arith) h)

pub made_plan : (d : DD.Desk) (r : DR.Reply) → IsMade d → PlanSays d r → IsMade r.desk
made_plan d r m h = ⊎_elim
    (λ (p : PlanMade d r.desk).
    made_holds r.desk (with_key (desk_in d)) (planned_paper (desk_in d) p.has-nest p.opens m.paper) p.holds)
    (λ (e : r.desk ≡ d). subst (λ (x : DD.Desk). IsMade x) (sym e) m)
    (plan_either d r h)

-- Plan of a desk that has a key makes the same key again
pub plan_again
    : (d : DD.Desk) (r : DR.Reply) → IsMade d → d.loaded ≡ true → d.planned ≡ true → PlanSays d r
    → desk_in r.desk ≡ desk_in d
plan_again d r m a b h = (plan_makes d r a (m.paper.opens b) h).holds ∙ cc (b, m.paper.key_is b)

-- a desk since a Load of s holds the nest that s spells
pub record HoldsNest (s : List ℕ) (d : DD.Desk) : Type 0 where
  pub accepted : (read_nest s).number ≡ 0
  pub has-nest : d.loaded ≡ true
  pub nest_is : (desk_in d).nest_is ≡ (read_nest s).nest_is

-- going over keeps the nest, with a key or without
over_nest
    : (old : OD.PlainDesk) → ((over_in old).has_nest ≡ old.loaded) × ((over_in old).nest_is ≡ nest_in old.nest)
over_nest old = go (old.planned && not (is_blocked (nest_in old.nest)))
  where
    bare : Desk
    bare = desk old.loaded (nest_in old.nest) false [] [] []

    go
        : (t : Bool)
        → ((pick t (with_key bare) bare).has_nest ≡ old.loaded) × ((pick t (with_key bare) bare).nest_is ≡ nest_in old.nest)
    go true = (refl, refl)
    go false = (refl, refl)

pub since_holds : (s : List ℕ) (d : DD.Desk) → Since s d → HoldsNest s d
since_holds s d (Since.loaded d' r m h z) =
    let p = loaded_holds d' s r h z in
    record {
      accepted = sym h.number_is ∙ z;
      has-nest = ap (λ (x : Desk). x.has_nest) p.holds;
      nest_is = ap (λ (x : Desk). x.nest_is) p.holds;
    }
since_holds s d (Since.refused d' t r q h z) =
    subst (λ (x : DD.Desk). HoldsNest s x) (sym (refused_keeps d' t r h z)) (since_holds s d' q)
since_holds s d (Since.planned d' r q h) =
    planned_holds (since_holds s d' q) (plan_either d' r h)
  where
    planned_holds : HoldsNest s d' → PlanMade d' r.desk ⊎ (r.desk ≡ d') → HoldsNest s r.desk
    planned_holds i (inl p) =
        record {
          accepted = i.accepted;
          has-nest = ap (λ (x : Desk). x.has_nest) p.holds.holds ∙ i.has-nest;
          nest_is = ap (λ (x : Desk). x.nest_is) p.holds.holds ∙ i.nest_is;
        }
    planned_holds i (inr e) = subst (λ (x : DD.Desk). HoldsNest s x) (sym e) i
since_holds s d (Since.moved d' e p q h) =
    let i = since_holds s d' q in
    record {
      accepted = i.accepted;
      has-nest = ap (λ (x : Desk). x.has_nest) h.holds ∙ i.has-nest;
      nest_is = ap (λ (x : Desk). x.nest_is) h.holds ∙ i.nest_is;
    }
since_holds s d (Since.went_over old r i h) =
    record {
      accepted = i.accepted;
      has-nest = ap (λ (x : Desk). x.has_nest) h.holds ∙ (over_nest old).0 ∙ i.has-nest;
      nest_is = ap (λ (x : Desk). x.nest_is) h.holds ∙ (over_nest old).1 ∙ i.nest_is;
    }

-- 02, job 7: a blocked nest has no correct placement, and Plan says so
plans_none
    : (s : List ℕ) (d : DD.Desk) (r : DR.Reply)
    → HoldsNest s d
    → PlanSays d r
    → is_blocked (read_nest s).nest_is ≡ true
    → PlansNone s d r
plans_none s d r i h b =
    let q : is_blocked (desk_in d).nest_is ≡ true = ap is_blocked i.nest_is ∙ b in
    let z : plan_fault (desk_in d) ≡ 15 = rw (i.has-nest, q) in
    record {
      number_is = h.number_is ∙ z;
      line_is = h.line_is;
      desk_is = plan_keeps d r (λ q. omega arith) h;
      none_correct = (blocked_iff (read_nest s).nest_is).0 b;
    }

-- demand 3: whatever nest is accepted that is not blocked, Plan gives a key that is correct and, against every other
-- correct set of gaps, as good or better; of all such keys it is the first
plans_key
    : (s : List ℕ) (d : DD.Desk) (r : DR.Reply)
    → HoldsNest s d
    → PlanSays d r
    → is_blocked (read_nest s).nest_is ≡ false
    → PlansKey s r
plans_key s d r i h o =
    let z : is_blocked (desk_in d).nest_is ≡ false = ap is_blocked i.nest_is ∙ o in
    let p = plan_makes d r i.has-nest z h in
    let n = (read_nest s).nest_is in
    let key = (desk_in r.desk).key in
    let v = accepted_valid s i.accepted in
    let e : key ≡ key_of n = ap (λ (x : Desk). x.key) p.holds ∙ ap key_of i.nest_is in
    let k = subst (λ (x : List ℕ). IsFirstKey n x) (sym e) (key_is_first n v o) in
    record {
      no_refusal = rw (i.has-nest, z) at h.number_is;
      has-key = ap (λ (x : Desk). x.has_key) p.holds;
      is_key = k.is_key;
      least_tree = λ gs c. key_least_tree n (valid_is n v).shape key gs k.is_key c;
      by_loops = valid_by_loops n v key k.is_key;
      on_ring = λ one. subst (λ (x : List ℕ). LeastOnRing n x) (sym e) (least_on_ring n v o one);
      key_is = e;
      is-first = k;
      one-loop = λ one. subst (λ (x : List ℕ). IsFirstSmallest n x) (sym e) (ring_first_smallest n v o one);
    }

pub load_then_plan : LoadThenPlan
load_then_plan s d r q h = go (is_blocked (read_nest s).nest_is) refl
  where
    i : HoldsNest s d
    i = since_holds s d q

    go : (t : Bool) → is_blocked (read_nest s).nest_is ≡ t → pick_t t (PlansNone s d r) (PlansKey s r)
    go true b = plans_none s d r i h b
    go false o = plans_key s d r i h o
