-- Going over: a desk of the kind before sittings goes over without its key, and is planned where it had one.
-- Main statements: `bare_made`, `over_planned`, `over_bare`, `over_key`, `over_blocked`, `made_over`, `over_agree`,
-- `Made-plain`.
use mathlib.Core.Path.{◌≡◌, refl, sym, ◌∙◌, ap, subst}
use mathlib.Core.Bool.{Bool, true, false, ◌&&◌, not}
use mathlib.Core.List.{[]}
use native.Mathlib.Omega.{arith}
use Rattle.laws.specs.Choice.{pick}
use Rattle.laws.proofs.Tests.{never_both}
use Rattle.laws.proofs.Connectives.{and_off}
use Rattle.paper_nests.specs.Stored.{nest_in}
use Rattle.paper_placements.specs.declared.Placement as DP
use Rattle.paper_barred.specs.Reduced.{is_blocked}
use Rattle.plan_theorem.specs.KeyOf.{key_of}
use Rattle.desk.specs.declared.Desk as DD
use Rattle.desk.specs.declared.PlainDesk as OD
use Rattle.desk.specs.declared.Reply as DR
use Rattle.desk.specs.Desks.{Desk, desk, with_key, desk_in, over_in, IsPaper, IsMade, IsMadePlain}
use Rattle.desk.specs.Desks.{plan_fault}
use Rattle.desk.specs.Says.{Holds, PlanSays, OverSays}
use Rattle.desk.specs.TwoDesks.{Agree}
use Rattle.desk.proofs.Made.{made_holds, planned_paper, plan_makes, plan_keeps}
use Rattle.desk.proofs.TwoDesks.{two_desks}

-- its nest alone
abbrev bare_in : OD.PlainDesk → Desk
bare_in d = desk d.loaded (nest_in d.nest) false [] [] []

module _ (old : OD.PlainDesk) (m : IsMadePlain old) where
  bare_paper : IsPaper (bare_in old)
  bare_paper =
      record {
        valid = m.valid;
        no_nest = λ z. cc (z, m.no_nest z);
        key_is = λ z. never_both z refl;
        no_key = λ _. refl;
        opens = λ z. never_both z refl;
        avoiding = refl;
        led = tt;
      }

  -- there is no key without a nest
  key_has_nest : old.planned ≡ true → old.loaded ≡ true
  key_has_nest p = go old.loaded refl
    where
      go : (t : Bool) → old.loaded ≡ t → t ≡ true
      go true a = refl
      go false a = never_both p (m.no_key a)

  pub bare_made : (d : DD.Desk) → Holds d (bare_in old) → IsMade d
  bare_made d h = made_holds d (bare_in old) bare_paper h

  -- with a key it is planned, without it stays
  pub over_planned
      : (d : DD.Desk) (r : DR.Reply)
      → Holds d (bare_in old)
      → PlanSays d r
      → old.planned ≡ true
      → OverSays old r.desk
  over_planned d r h s p = go (is_blocked (nest_in old.nest)) refl
    where
      a : d.loaded ≡ true
      a = ap (λ (x : Desk). x.has_nest) h.holds ∙ key_has_nest p

      same : is_blocked (desk_in d).nest_is ≡ is_blocked (nest_in old.nest)
      same = ap (λ (x : Desk). is_blocked x.nest_is) h.holds

      go
          : (t : Bool) → is_blocked (nest_in old.nest) ≡ t
          → Holds r.desk (pick (old.planned && not t) (with_key (bare_in old)) (bare_in old))
      go false o =
          rw p (subst (λ (x : Desk). Holds r.desk (with_key x)) h.holds (plan_makes d r a (same ∙ o) s))
      go true b =
          let z : plan_fault (desk_in d) ≡ 15 = rw (a, same ∙ b) in
          rw (p, plan_keeps d r (λ q. omega arith) s) h

  pub over_bare : (d : DD.Desk) → Holds d (bare_in old) → old.planned ≡ false → OverSays old d
  over_bare d h p = rw p h

  over_paper : IsPaper (over_in old)
  over_paper = go old.planned (is_blocked (nest_in old.nest)) refl refl
    where
      go
          : (s t : Bool) → old.planned ≡ s → is_blocked (nest_in old.nest) ≡ t
          → IsPaper (pick (s && not t) (with_key (bare_in old)) (bare_in old))
      go true false p o = planned_paper (bare_in old) (key_has_nest p) o bare_paper
      go true true p b = bare_paper
      go false t p b = bare_paper

  -- 02, job 6: whatever key it had, it now has that of its nest; 02, job 7: or none where the nest is blocked
  pub over_key
      : (r : DD.Desk)
      → OverSays old r
      → old.planned ≡ true
      → is_blocked (nest_in old.nest) ≡ false
      → (desk_in r).key ≡ key_of (nest_in old.nest)
  over_key r h p o = ap (λ (x : Desk). x.key) h.holds ∙ rw (p, o) refl

  pub over_blocked
      : (r : DD.Desk) → OverSays old r → is_blocked (nest_in old.nest) ≡ true → (desk_in r).has_key ≡ false
  over_blocked r h b = ap (λ (x : Desk). x.has_key) h.holds ∙ rw (b, and_off old.planned) refl

pub made_over : (old : OD.PlainDesk) (r : DD.Desk) → IsMadePlain old → OverSays old r → IsMade r
made_over old r m h = made_holds r (over_in old) (over_paper old m) h

-- 02, job 6: two desks with the same nest, and with keys of equal cost that may differ, go over to desks that agree
pub over_agree
    : (a b : OD.PlainDesk) (r s : DD.Desk)
    → IsMadePlain a
    → IsMadePlain b
    → a.loaded ≡ b.loaded
    → nest_in a.nest ≡ nest_in b.nest
    → a.planned ≡ b.planned
    → OverSays a r
    → OverSays b s
    → Agree r s
over_agree a b r s m n loaded nest planned h k =
    let same : over_in a ≡ over_in b = cc (loaded, nest, planned) in
    let e : desk_in r ≡ desk_in s = h.holds ∙ same ∙ sym k.holds in
    two_desks r s (made_over a r m h) (made_over b s n k)
    (ap (λ (x : Desk). x.has_nest) e)
    (ap (λ (x : Desk). x.nest_is) e)
    (ap (λ (x : Desk). x.has_key) e)

-- the nest of a desk, with whatever key, as one of the kind before sittings
pub Made-plain
    : (d : DD.Desk) (key : DP.Placement)
    → IsMade d
    → IsMadePlain (record { loaded = d.loaded; nest = d.nest; planned = d.planned; key = key })
Made-plain d key m =
    let p = m.paper in
    record {
      counted = m.counted;
      valid = p.valid;
      no_nest = λ z. ap (λ (x : Desk). x.nest_is) (p.no_nest z);
      no_key = λ z. ap (λ (x : Desk). x.has_key) (p.no_nest z);
    }
