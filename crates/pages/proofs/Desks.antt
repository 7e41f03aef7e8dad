-- Desks that calls make are made by calls.
-- Main statements: `reached_made`, `old_reached`, `since_made`, `since_is`.
use mathlib.Core.Path.{◌≡◌, refl, sym, ◌∙◌, ap, subst}
use mathlib.Core.Bool.{Bool, true, false}
use mathlib.Core.List.{List, [], ◌∷◌}
use Prim.Native.Nat.{ℕ}
use native.Mathlib.Omega.{arith}
use borrow.Author.Tests.{eq-eqb}
use Rattle.laws.proofs.Tests.{never_both, false_by}
use Rattle.paper_nests.specs.Valid.{is_valid}
use Rattle.paper_nests.specs.Nests.{Nest, empty}
use Rattle.paper_nests.specs.Stored.{nest_in, IsCounted}
use Rattle.paper_nests.specs.declared.Nest as DN
use Rattle.paper_placements.specs.declared.Placement as DP
use Rattle.paper_placements.proofs.Words.{holds_empty, gaps_none}
use Rattle.paper_texts.specs.NestTexts.{Got, read_nest, nest_text}
use Rattle.paper_texts.proofs.Spelled.{valid_accepted}
use Rattle.desk_moves.specs.Ring.{back_from}
use Rattle.desk.specs.declared.Desk as DD
use Rattle.desk.specs.declared.PlainDesk as OD
use Rattle.desk.specs.Desks.{Desk, desk, loaded_desk, IsMade, IsMadePlain}
use Rattle.desk.specs.Says.{Holds}
use Rattle.desk.proofs.Held.{held}
use Rattle.desk.specs.Since as S
use Rattle.desk.proofs.Made.{made_empty, made_load, made_plan, since_holds}
use Rattle.desk.proofs.Over.{made_over}
use Rattle.call_moves.proofs.Made.{made_put, made_lift, made_back, put_since, lift_since, back_since}
use Rattle.pages.specs.Demands.{OldOf, Step, Reached, Since}

-- a desk of the old kind with the nest of a desk made by calls
pub plain_made : (d : DD.Desk) (old : OD.PlainDesk) → OldOf d old → IsMade d → IsMadePlain old
plain_made d old o m =
    let n = o.nest_is in
    let l = o.loaded_is in
    record {
      counted = subst (λ (x : DN.Nest). IsCounted x) (sym n) m.counted;
      valid = λ z. ap (λ (x : DN.Nest). is_valid (nest_in x)) n ∙ m.paper.valid (sym l ∙ z);
      no_nest = λ z. ap nest_in n ∙ ap (λ (x : Desk). x.nest_is) (m.paper.no_nest (sym l ∙ z));
      no_key = λ z. false_by (λ q. never_both (o.with_nest q) (sym l ∙ z));
    }

pub step_made : (d e : DD.Desk) (n : ℕ) → Step d n e → IsMade d → IsMade e
step_made d e n (Step.refused t r h z) m = made_load d t r m h
step_made d e n (Step.plan r h) m = made_plan d r m h
step_made d e n (Step.put g r h) m = made_put d g r m h
step_made d e n (Step.lift g r h) m = made_lift d g r m h
step_made d e n (Step.take_back r h) m = made_back d r m h
step_made d e n (Step.over old o h) m = made_over old e (plain_made d old o m) h

pub reached_made : (d : DD.Desk) → Reached d → IsMade d
reached_made d (Reached.new_or_reset h) = made_empty d h
reached_made d (Reached.load d' t r q h) = made_load d' t r (reached_made d' q) h
reached_made d (Reached.step d' n q s) = step_made d' d n s (reached_made d' q)

-- ---- a desk of the old kind has the nest of a reached desk

abbrev no_words : DP.Placement
no_words = record { words = 0 ∷ 0 ∷ 0 ∷ 0 ∷ [] }

-- a desk with this nest, or with none, and nothing else
abbrev bare : Bool → DN.Nest → DD.Desk
bare loaded n =
    record {
      loaded = loaded;
      nest = n;
      planned = false;
      key = no_words;
      sitting = record { placement = no_words; counts = []; uncut = n.many };
      moves = record { ring = []; head = 0; many = 0 };
    }

bare_holds
    : (t : Bool) (n : DN.Nest) (m : Nest) → nest_in n ≡ m → IsCounted n → Holds (bare t n) (desk t m false [] [] [])
unfolding back_from
bare_holds t n m e c =
    let none = gaps_none (0 ∷ 0 ∷ 0 ∷ 0 ∷ []) (λ i l. holds_empty i) in
    held (bare t n) t m false [] refl e refl none c
    (record { no_gaps = none; no_cuts = λ i. refl; uncut_is = refl })
    (record { moves_are = refl; ring = record { head_fits = omega arith; many_fits = omega arith } })

abbrev no_nest : DN.Nest
no_nest = record { count = 0; points = []; many = 0; deps = []; bars = 0; barred = []; flags = 0; flagged = [] }

new_reached : Reached (bare false no_nest)
new_reached =
    Reached.new_or_reset
    (bare_holds false no_nest empty refl
    (record {
      count_is = refl;
      count_fits = omega arith;
      many_is = refl;
      many_fits = omega arith;
      bars_is = refl;
      bars_fit = omega arith;
      flags_is = refl;
      flags_fit = omega arith;
    }))

pub old_reached : (old : OD.PlainDesk) → IsMadePlain old → (d : DD.Desk) × (Reached d × OldOf d old)
old_reached old m = go old.loaded refl
  where
    n : Nest
    n = nest_in old.nest

    loads : old.loaded ≡ true → Reached (bare true old.nest)
    loads a =
        let e = valid_accepted n (m.valid a) in
        let z : (read_nest (nest_text n)).number ≡ 0 = ap (λ (g : Got). g.number) e in
        let h : Holds (bare true old.nest) (loaded_desk (read_nest (nest_text n)).nest_is) =
        bare_holds true old.nest (read_nest (nest_text n)).nest_is (sym (ap (λ (g : Got). g.nest_is) e))
        m.counted in
        Reached.load (bare false no_nest) (nest_text n)
        (record { number = 0; line = 0; desk = bare true old.nest }) new_reached
        (record {
          number_is = sym z;
          line_is = sym (ap (λ (g : Got). g.place) e);
          desk_is = rw (eq-eqb (read_nest (nest_text n)).number 0 z) h;
        })

    go : (t : Bool) → old.loaded ≡ t → (d : DD.Desk) × (Reached d × OldOf d old)
    go true a =
        (bare true old.nest, (loads a, record { nest_is = refl; loaded_is = a; with_nest = λ q. refl }))
    go false a = (
      bare false old.nest,
      (
        Reached.new_or_reset (bare_holds false old.nest empty (m.no_nest a) m.counted),
        record { nest_is = refl; loaded_is = a; with_nest = λ q. never_both q (m.no_key a) },
      ),
    )

-- a desk since an accepted Load of t is one of the project's
since_step : (t : List ℕ) (d e : DD.Desk) (n : ℕ) → Step d n e → IsMade d → S.Since t d → S.Since t e
since_step t d e n (Step.refused u r h z) m q = S.Since.refused d u r q h z
since_step t d e n (Step.plan r h) m q = S.Since.planned d r q h
since_step t d e n (Step.put g r h) m q = put_since d g r t q h
since_step t d e n (Step.lift g r h) m q = lift_since d g r t q h
since_step t d e n (Step.take_back r h) m q = back_since d r t q h
since_step t d e n (Step.over old o h) m q =
    let i = since_holds t d q in
    S.Since.went_over old e
    (record {
      made = plain_made d old o m;
      accepted = i.accepted;
      has-nest = o.loaded_is ∙ i.has-nest;
      nest_is = ap nest_in o.nest_is ∙ i.nest_is;
    })
    h

pub since_made : (t : List ℕ) (d : DD.Desk) → Since t d → IsMade d
since_made t d (Since.load d' r q h z) = made_load d' t r (reached_made d' q) h
since_made t d (Since.step d' n q s) = step_made d' d n s (since_made t d' q)

pub since_is : (t : List ℕ) (d : DD.Desk) → Since t d → S.Since t d
since_is t d (Since.load d' r q h z) = S.Since.loaded d' r (reached_made d' q) h z
since_is t d (Since.step d' n q s) = since_step t d' d n s (since_made t d' q) (since_is t d' q)
