-- The calls at the screen keep the page of requests 4 and 5.
-- Main statements: `back_left`, `sittings_kept`.
use mathlib.Core.Path.{◌≡◌, refl, sym, ◌∙◌, ap, subst}
use mathlib.Core.Bool.{Bool, true, false, ◌&&◌, not}
use mathlib.Core.List.{List, []}
use Prim.Native.Nat.{ℕ}
use borrow.Author.Tests.{eq-eqb}
use Rattle.laws.specs.Choice.{pick}
use Rattle.paper_nests.specs.Stored.{nest_in}
use Rattle.paper_placements.specs.Placements.{are_gaps_from}
use Rattle.paper_barred.specs.Reduced.{is_blocked}
use Rattle.desk_sitting.specs.Kept.{barriers}
use Rattle.desk_sitting.specs.declared.Sitting as DS
use Rattle.desk.specs.declared.Desk as DD
use Rattle.desk.specs.declared.PlainDesk as OD
use Rattle.desk.specs.Desks.{Desk, desk, with_key, desk_in, over_in, IsMade}
use Rattle.desk.specs.Says.{Holds}
use Rattle.desk.proofs.Made.{loaded_holds}
use Rattle.call_moves.specs.declared.Moved as DM
use Rattle.call_moves.specs.Says.{back_fault, after_back, uncut_on, BackSays}
use Rattle.call_moves.proofs.Made.{made_back}
use Rattle.pages.specs.Demands.{paper_in, SetIn}
use Rattle.pages.proofs.Desks.{reached_made}
use Rattle.pages.proofs.Kept.{set_here}
use Rattle.pages_requests.specs.Sitting.{Seat, Left, Sittings}
use Rattle.pages_requests.proofs.Papers.{papers_same}
use Rattle.pages_requests.proofs.Sittings.{seat_wide, kept_counts, kept_uncut, left}
use Rattle.pages_requests.proofs.Sittings.{put_left, lift_left, undone_seat}

-- an empty sitting
empty_seat : (d : DD.Desk) → barriers d.sitting ≡ [] → Seat d []
empty_seat d e =
    subst (λ (x : List ℕ). Seat d x) e
    (set_here d.sitting.placement.words (subst (λ (x : List ℕ). are_gaps_from 0 256 x ≡ true) (sym e) refl))

-- ---- going over

gone_over
    : (e : DD.Desk) (old : OD.PlainDesk) → desk_in e ≡ over_in old
    → Seat e [] × (paper_in e.nest ≡ paper_in old.nest) × (e.loaded ≡ old.loaded)
gone_over e old h = go (old.planned && not (is_blocked (nest_in old.nest))) h
  where
    bare : Desk
    bare = desk old.loaded (nest_in old.nest) false [] [] []

    go
        : (t : Bool) → desk_in e ≡ pick t (with_key bare) bare
        → Seat e [] × (paper_in e.nest ≡ paper_in old.nest) × (e.loaded ≡ old.loaded)
    go true q = (
      empty_seat e (ap (λ (x : Desk). x.sitting) q),
      papers_same old.nest e.nest (ap (λ (x : Desk). x.nest_is) q),
      ap (λ (x : Desk). x.has_nest) q,
    )
    go false q = (
      empty_seat e (ap (λ (x : Desk). x.sitting) q),
      papers_same old.nest e.nest (ap (λ (x : Desk). x.nest_is) q),
      ap (λ (x : Desk). x.has_nest) q,
    )

-- ---- Take back

back_left
    : (d : DD.Desk) (r : DM.Moved) → IsMade d → BackSays d r → r.number ≡ 0 → (hs : List ℕ) × Left d r hs
back_left d r m h z =
    let ok = eq-eqb (back_fault (desk_in d)) 0 (sym h.number_is ∙ z) in
    let p : Holds r.desk (after_back (desk_in d)) = rw ok at h.desk_is in
    let u : r.uncut ≡ uncut_on (after_back (desk_in d)) = rw ok at h.uncut_is in
    let hs = (after_back (desk_in d)).sitting in (
      hs,
      left d r m (made_back d r m h) hs (ap
          (λ (x : Desk). x.nest_is) p.holds) (ap (λ (x : Desk). x.has_key) p.holds)
          (ap (λ (x : Desk). x.key) p.holds) (ap (λ (x : Desk). x.sitting) p.holds) u,
    )

pub sittings_kept : Sittings
sittings_kept =
    record {
      seated =
          λ d q.
          (barriers d.sitting, set_here d.sitting.placement.words (seat_wide d (reached_made d q)));
      fresh = λ d t r h z. empty_seat r.desk (ap (λ (x : Desk). x.sitting) (loaded_holds d t r h z).holds);
      plan = λ d r gs h s. subst (λ (x : DS.Sitting). SetIn x.placement.words gs) (sym h.sitting_is) s;
      over = λ d e old q o h. gone_over e old h.holds;
      counts = λ d gs i x q s a. kept_counts d (reached_made d q) gs i x s a;
      uncut = λ d gs q s. kept_uncut d (reached_made d q) gs s;
      put = λ d gs g r q s h z. put_left d gs g r (reached_made d q) s h z;
      lift = λ d gs g r q s h z. lift_left d gs g r (reached_made d q) s h z;
      back = λ d r q h z. back_left d r (reached_made d q) h z;
      taken-back = λ d e gs q u s. undone_seat d e gs (reached_made d q) u s;
    }
