-- The events of a loop can be followed, and what is followed is what the sweeps make.
-- Main statements: `follow_room`, `joined`.
use mathlib.Core.Path.{◌≡◌, refl, sym, ◌∙◌, ap}
use mathlib.Core.List.{List}
use Prim.Native.Nat.{ℕ, suc, ◌+◌, ◌≤◌, ◌<◌}
use native.Mathlib.Numerals.{add-one}
use native.Mathlib.Omega.{arith}
use lib.ListN.{length, set, length-set}
use lib.Seq.{get_or-set_same, get_or-set_other}
use Rattle.laws.specs.Entries.{at}
use Rattle.plan_method.specs.Sweep.{seek}
use Rattle.plan_method.proofs.Walk.{seek_is}
use Rattle.plan_sweeps.specs.Listed.{Low}
use Rattle.plan_starts.specs.Grounds.{Ground}
use Rattle.plan_starts.specs.Started.{Event, EventsSay, Fit, Followed, FollowRoom, StartsSay, StartsRoom}
use Rattle.plan_starts.proofs.Passes.{passed_map, passed_all}
use Rattle.plan_starts.proofs.Eventing.{event_kept}
use Rattle.plan_starts.proofs.Suffixes.{swept}

module _
    {ps own need left : List ℕ} {kids d e : ℕ} {cs₀ fs₀ link₀ : List ℕ}
    (room : StartsRoom ps own need left kids d e cs₀ fs₀ link₀) {cs fs link : List ℕ}
    (events : EventsSay ps own need left kids d e cs fs link)
  where
    own_low : Low own
    own_low = room.sweep_room.own_low

    -- no event stands at 0
    passed_zero : EventsSay ps own need left kids d e (set cs 0 0) (set fs 0 0) link
    passed_zero =
        passed_map ps own left kids d e own_low (Event (at need) d e cs fs link)
        (Event (at need) d e (set cs 0 0) (set fs 0 0) link) d
        (λ b x c f l i j v. event_kept (at need) d e e cs fs link (set cs 0 0) (set fs 0 0) link b x c f (omega arith)
        (get_or-set_other cs 0 x 0 0 (λ (z : x ≡ 0). omega arith))
        (get_or-set_other fs 0 x 0 0 (λ (z : x ≡ 0). omega arith)) refl v)
        events

    fit : (b x c f : ℕ) → d ≤ b → b < x → x ≤ e → Event (at need) d e (set cs 0 0) (set fs 0 0) link b x c f →
        Fit d e (set cs 0 0) (set fs 0 0) link x
    fit b x c f l i j v =
        let s = seek_is (at need) f d b in
        let z : at link (at (set fs 0 0) x) ≡ seek (at need) f d b = ap (at link) v.front_is ∙ v.link_is in
        record {
          cost = omega (arith, v.cost_is, v.cost);
          front_low = omega (arith, v.front_is, v.low);
          front_high = omega (arith, v.front_is, v.high);
          link_low = λ h. omega (arith, z, s.low (omega (arith, z)));
          link_high = omega (arith, z, s.high);
        }

    -- the events can be followed
    pub follow_room
        : length cs ≡ length cs₀
        → length fs ≡ length fs₀
        → length link ≡ length link₀
        → FollowRoom d e link (set cs 0 0) (set fs 0 0)
    follow_room cs-same fs-same link-same =
        record {
          long = room.long;
          short = room.short;
          cs_room = omega (arith, room.cs_room, length-set cs 0 0, cs-same);
          fs_room = omega (arith, room.fs_room, length-set fs 0 0, fs-same);
          link_room = omega (arith, room.link_room, link-same);
          fits = passed_all ps own left kids d e own_low (Event (at need) d e (set cs 0 0) (set fs 0 0) link)
              (Fit d e (set cs 0 0) (set fs 0 0) link) d fit passed_zero;
          c_none = get_or-set_same cs 0 0 0 (omega (arith, room.cs_room, cs-same));
          f_none = get_or-set_same fs 0 0 0 (omega (arith, room.fs_room, fs-same));
        }

    pub joined
        : {cs' fs' : List ℕ} {first : ℕ}
        → Ground ps own left kids d e
        → first ≡ seek (at need) (e + 1) d e
        → Followed link (set cs 0 0) (set fs 0 0) cs' fs' d e e
        → StartsSay ps own need left kids d e cs' fs' first
    joined {cs'} {fs'} {first} ground i followed =
        let z : seek (at need) (suc e) d e ≡ first = sym (i ∙ ap (λ (x : ℕ). seek (at need) x d e) (add-one e)) in
        record {
          started = λ reach lay marks.
              rw z at (swept ps own left kids d e ground own_low need link (set cs 0 0) (set fs 0 0) cs' fs' passed_zero
              followed reach marks lay);
          ranged = record { small = followed.small; low = followed.low; high = followed.high };
          first_high = omega (arith, z, (seek_is (at need) (suc e) d e).high);
        }
