-- What each way through the calls says of the reply.
-- Main statements: `fault_turns`; `calls_counted`; `placement_unread`, `placement_counted`.
use mathlib.Core.Path.{◌≡◌, refl, sym, ◌∙◌, ap, subst}
use mathlib.Core.Bool.{Bool, true, false, not}
use mathlib.Core.List.{List}
use Prim.Native.Nat.{ℕ}
use native.Mathlib.Omega.{arith}
use borrow.Author.Tests.{eq-eqb, ne_eqb}
use Rattle.laws.specs.Choice.{pick, when}
use Rattle.laws.proofs.Choices.{first_none}
use Rattle.paper_nests.specs.Nests.{Nest}
use Rattle.paper_texts.specs.PlacementTexts.{Placed, placed}
use Rattle.run_barriers.specs.Calls.{INNER, OUTER, calls_of}
use Rattle.desk.specs.declared.Desk as DD
use Rattle.desk.specs.Desks.{Desk, desk_in, state_fault, Fault, fault}
use Rattle.desk.specs.Says.{read_in}
use Rattle.call_runs.specs.declared.Calls as CC
use Rattle.call_runs.specs.Says.{can_count, calls_fault, refusal, counted, calls_under}
use Rattle.call_runs.specs.Says.{Says, CallsSays, placement_fault, PlacementSays}

-- 17, or none
pub fault_turns
    : (inner : ℕ) (x : Desk) (ts : List ℕ) → state_fault true x ≡ 0 → (t : Bool) → can_count inner x.nest_is ts ≡ t
    → calls_fault inner x ts ≡ when (not t) 17
fault_turns inner x ts none t e =
    first_none (state_fault true x) (when (not (can_count inner x.nest_is ts)) 17) none ∙
    ap (λ (b : Bool). when (not b) 17) e

-- a refusal with its number and line
refused_by :
    (f : Fault) (n l v : ℕ) (r : CC.Calls) → f ≡ fault n l → (n ≡ 0 → ⊥) → r ≡ refusal n l → Says f v r
refused_by f n l v r e h a =
    let z = ne_eqb n 0 h in
    subst (λ (g : Fault). Says g v r) (sym e)
    (rw a (record { number_is = refl; line_is = refl; calls_are = rw z }))

-- 17, or the calls
counted_by :
    (f : Fault) (inner : ℕ) (n : Nest) (ts gs : List ℕ) (r : CC.Calls) →
    f ≡ fault (when (not (can_count inner n ts)) 17) 0 → r ≡ calls_under inner n ts gs → Says f (calls_of n ts gs) r
counted_by f inner n ts gs r = go (can_count inner n ts)
  where
    go :
        (t : Bool) → f ≡ fault (when (not t) 17) 0 → r ≡ pick t (counted (calls_of n ts gs)) (refusal 17 0) →
        Says f (calls_of n ts gs) r
    go true e a = rw (e, a) (record { number_is = refl; line_is = refl; calls_are = refl })
    go false e a = refused_by f 17 0 (calls_of n ts gs) r e (λ q. omega arith) a

pub calls_counted :
    (d : DD.Desk) (ts : List ℕ) → state_fault true (desk_in d) ≡ 0 → (r : CC.Calls) →
    r ≡ calls_under INNER (desk_in d).nest_is ts (desk_in d).key → CallsSays d ts r
calls_counted d ts none r =
    counted_by (fault (calls_fault INNER (desk_in d) ts) 0) INNER (desk_in d).nest_is ts (desk_in d).key r
    (ap (λ (n : ℕ). fault n 0) (fault_turns INNER (desk_in d) ts none (can_count INNER (desk_in d).nest_is ts) refl))

module _ (d : DD.Desk) (s ts : List ℕ) (none : state_fault false (desk_in d) ≡ 0) (n l : ℕ) (gs : List ℕ)
    (e : placed n l gs ≡ read_in (desk_in d) s) where
  -- the faults of the text
  pub placement_unread : (n ≡ 0 → ⊥) → (r : CC.Calls) → r ≡ refusal n l → PlacementSays d s ts r
  placement_unread h r =
      let f : placement_fault (desk_in d) s ts ≡ fault n l =
      rw (eq-eqb (state_fault false (desk_in d)) 0 none, ← e, ne_eqb n 0 h) in
      refused_by (placement_fault (desk_in d) s ts) n l (calls_of (desk_in d).nest_is ts (read_in (desk_in d) s).gaps) r f h

  -- 17, or the calls
  pub placement_counted :
      n ≡ 0 → (r : CC.Calls) → r ≡ calls_under OUTER (desk_in d).nest_is ts gs → PlacementSays d s ts r
  placement_counted z r a =
      let f : placement_fault (desk_in d) s ts ≡ fault (when (not (can_count OUTER (desk_in d).nest_is ts)) 17) 0 =
      rw (eq-eqb (state_fault false (desk_in d)) 0 none, ← e, eq-eqb n 0 z) in
      subst (λ (x : Placed). Says (placement_fault (desk_in d) s ts) (calls_of (desk_in d).nest_is ts x.gaps) r) e
      (counted_by (placement_fault (desk_in d) s ts) OUTER (desk_in d).nest_is ts gs r f a)
