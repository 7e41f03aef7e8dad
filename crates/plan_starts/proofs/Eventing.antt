-- The events of a loop, unit by unit from the ENDDO: those above the boundary p are there.
-- Main definition: `Eventing`. Main statements: `event_kept`, `eventing_none`, `eventing_plain`, `child_room`,
-- `eventing_child`.
use mathlib.Core.Path.{◌≡◌, refl, ◌∙◌}
use mathlib.Core.Bool.{true, false}
use mathlib.Core.List.{List}
use Prim.Native.Nat.{ℕ, zero, suc, ◌+◌, ◌-◌, ◌≤◌, ◌<◌, min}
use native.Mathlib.Omega.{arith}
use lib.ListN.{length, get_or, set, length-set}
use lib.Seq.{get_or-set_same, get_or-set_other}
use borrow.Author.Tests.{eq-eqb, ne_eqb}
use Rattle.laws.specs.Entries.{at}
use Rattle.paper_nests.specs.Loops.{is_end}
use Rattle.plan_method.specs.Sweep.{seek}
use Rattle.plan_sweeps.specs.Listed.{row}
use Rattle.plan_starts.specs.Grounds.{Bound, Kid, Plain, Ground}
use Rattle.plan_starts.specs.Started.{cost_at, front_at, Passed, top, plain, child, Event, Late}
use Rattle.plan_starts.specs.Started.{ChildRoom, ChildSays, StartsRoom}
use Rattle.plan_starts.proofs.Seeks.{seek_skip, seek_late}
use Rattle.plan_starts.proofs.Passes.{passed_map}

-- an event whose entries are as before
pub event_kept
    : (need : ℕ → ℕ) (d e e' : ℕ) (cs fs link cs' fs' link' : List ℕ) (b x c f : ℕ) → e ≤ e' → at cs' x ≡ at cs x
    → at fs' x ≡ at fs x → at link' f ≡ at link f → Event need d e cs fs link b x c f
    → Event need d e' cs' fs' link' b x c f
event_kept need d e e' cs fs link cs' fs' link' b x c f h i j k v =
    record {
      cost_is = i ∙ v.cost_is;
      front_is = j ∙ v.front_is;
      link_is = k ∙ v.link_is;
      cost = v.cost;
      low = v.low;
      high = omega (arith, v.high);
    }

pub record Eventing (ps own need left : List ℕ) (kids d e : ℕ) (cs₀ fs₀ link₀ cs fs link : List ℕ) (a p : ℕ) :
    Type 0 where
  pub bound : Bound own d e p
  pub cs_length : length cs ≡ length cs₀
  pub fs_length : length fs ≡ length fs₀
  pub link_length : length link ≡ length link₀
  pub passed : Passed ps own left kids d e (Event (at need) d e cs fs link) p
  pub late : Late (at need) d p p a

module _
    {ps own need left : List ℕ} {kids d e : ℕ} {cs₀ fs₀ link₀ : List ℕ}
    (room : StartsRoom ps own need left kids d e cs₀ fs₀ link₀) (ground : Ground ps own left kids d e)
  where
    pub eventing_none : {a : ℕ} → a ≡ seek (at need) (e + 1) d e →
        Eventing ps own need left kids d e cs₀ fs₀ link₀ cs₀ fs₀ link₀ a e
    eventing_none i =
        record {
          bound = record { low = omega (arith, room.long); high = omega arith; owner = λ _. ground.owner };
          cs_length = refl;
          fs_length = refl;
          link_length = refl;
          passed = top;
          late = λ y l j k. omega (arith, seek_late (at need) (e + 1) d e y l (rw i at j) k);
        }

    module _ (cs fs link : List ℕ) (a : ℕ) where
      plain_at
          : (p b : ℕ)
          → d < p
          → (get_or ps (p - 1) 0 ≡ 2 → ⊥)
          → b ≡ seek (at need) p d (min a (p - 1))
          → Eventing ps own need left kids d e cs₀ fs₀ link₀ cs fs link a p
          → Eventing ps own need left kids d e cs₀ fs₀ link₀ (set cs p 1) (set fs p p) (set link p b) b (p - 1)
      plain_at zero b l n bi s = absurd (omega arith)
      plain_at (suc p) b l n bi s =
          let z : suc p - 1 ≡ p = omega arith in
          rw z (go (ne_eqb (get_or ps p 0) 2 (rw z at n)) (rw z at bi))
        where
          go : is_end ps p ≡ false → b ≡ seek (at need) (suc p) d (min a p) →
              Eventing ps own need left kids d e cs₀ fs₀ link₀ (set cs (suc p) 1) (set fs (suc p) (suc p))
              (set link (suc p) b) b p
          go i bi =
              record {
                bound = record { low = omega arith; high = omega (arith, s.bound.high); owner = k.owner };
                cs_length = length-set cs (suc p) 1 ∙ s.cs_length;
                fs_length = length-set fs (suc p) (suc p) ∙ s.fs_length;
                link_length = length-set link (suc p) b ∙ s.link_length;
                passed = plain p (omega arith) s.bound i here above;
                late = λ y u v w. omega (arith, seek_late (at need) (suc p) d p y u (rw found at v) w);
              }
            where
              rc : suc p < length cs
              rc = omega (arith, s.bound.high, room.cs_room, s.cs_length)

              rf : suc p < length fs
              rf = omega (arith, s.bound.high, room.fs_room, s.fs_length)

              rl : suc p < length link
              rl = omega (arith, s.bound.high, room.link_room, s.link_length)

              k : Plain ps own d p
              k = ground.plain p (omega arith) s.bound i

              found : b ≡ seek (at need) (suc p) d p
              found = bi ∙ seek_skip (at need) (suc p) d p (suc p) a (omega arith)
                  (λ y u v w. s.late y u v (omega arith))

              here : Event (at need) d e (set cs (suc p) 1) (set fs (suc p) (suc p)) (set link (suc p) b) p (suc p) 1
                  (suc p)
              here =
                  record {
                    cost_is = get_or-set_same cs (suc p) 1 0 rc;
                    front_is = get_or-set_same fs (suc p) (suc p) 0 rf;
                    link_is = get_or-set_same link (suc p) b 0 rl ∙ found;
                    cost = omega arith;
                    low = omega arith;
                    high = s.bound.high;
                  }

              above : Passed ps own left kids d e
                  (Event (at need) d e (set cs (suc p) 1) (set fs (suc p) (suc p)) (set link (suc p) b)) (suc p)
              above = passed_map ps own left kids d e room.sweep_room.own_low (Event (at need) d e cs fs link)
                  (Event (at need) d e (set cs (suc p) 1) (set fs (suc p) (suc p)) (set link (suc p) b)) (suc p)
                  (λ y x c f u v w t. event_kept (at need) d e e cs fs link (set cs (suc p) 1) (set fs (suc p) (suc p))
                  (set link (suc p) b) y x c f (omega arith)
                  (get_or-set_other cs (suc p) x 1 0 (λ (q : x ≡ suc p). omega arith))
                  (get_or-set_other fs (suc p) x (suc p) 0 (λ (q : x ≡ suc p). omega arith))
                  (get_or-set_other link (suc p) f b 0 (λ (q : f ≡ suc p). omega (arith, t.low))) t)
                  s.passed

      child-at
          : (p : ℕ) (cs' fs' link' : List ℕ) (b : ℕ)
          → d < p
          → get_or ps (p - 1) 0 ≡ 2
          → length cs' ≡ length cs
          → length fs' ≡ length fs
          → length link' ≡ length link
          → ChildSays need left kids d (at own (p - 1)) (p - 1) cs fs link cs' fs' link' b
          → Eventing ps own need left kids d e cs₀ fs₀ link₀ cs fs link a p
          → Eventing ps own need left kids d e cs₀ fs₀ link₀ cs' fs' link' b (at own (p - 1))
      child-at zero cs' fs' link' b l n lc lf ll says s = absurd (omega arith)
      child-at (suc p) cs' fs' link' b l n lc lf ll says s =
          let z : suc p - 1 ≡ p = omega arith in
          rw z (go (eq-eqb (get_or ps p 0) 2 (rw z at n)) (rw z at says))
        where
          go : is_end ps p ≡ true → ChildSays need left kids d (at own p) p cs fs link cs' fs' link' b →
              Eventing ps own need left kids d e cs₀ fs₀ link₀ cs' fs' link' b (at own p)
          go i t =
              record {
                bound = record {
                  low = omega (arith, k.below);
                  high = omega (arith, k.short, s.bound.high);
                  owner = λ _. k.owner;
                };
                cs_length = lc ∙ s.cs_length;
                fs_length = lf ∙ s.fs_length;
                link_length = ll ∙ s.link_length;
                passed = child p (omega arith) s.bound i here above;
                late = t.late;
              }
            where
              k : Kid ps own left kids d p (at own p)
              k = ground.child p (omega arith) s.bound i

              here : (x : ℕ) → at own p < x → x ≤ suc p → Event (at need) d e cs' fs' link' (at own p) x
                  (cost_at (row left kids) p x) (front_at (row left kids) (at own p) p x)
              here x u v = event_kept (at need) d (suc p) e cs' fs' link' cs' fs' link' (at own p) x
                  (cost_at (row left kids) p x) (front_at (row left kids) (at own p) p x) s.bound.high refl refl refl
                  (t.events x u v)

              above : Passed ps own left kids d e (Event (at need) d e cs' fs' link') (suc p)
              above = passed_map ps own left kids d e room.sweep_room.own_low (Event (at need) d e cs fs link)
                  (Event (at need) d e cs' fs' link') (suc p)
                  (λ y x c f u v w r. event_kept (at need) d e e cs fs link cs' fs' link' y x c f (omega arith)
                  (t.cs_kept x (λ _. omega arith)) (t.fs_kept x (λ _. omega arith))
                  (t.link_kept f (λ _. omega (arith, r.low))) r)
                  s.passed

      room_at
          : (p : ℕ)
          → d < p
          → get_or ps (p - 1) 0 ≡ 2
          → Eventing ps own need left kids d e cs₀ fs₀ link₀ cs fs link a p
          → ChildRoom need left kids d (at own (p - 1)) (p - 1) cs fs link a
      room_at zero l n s = absurd (omega arith)
      room_at (suc p) l n s =
          let z : suc p - 1 ≡ p = omega arith in
          rw z (go (eq-eqb (get_or ps p 0) 2 (rw z at n)))
        where
          go : is_end ps p ≡ true → ChildRoom need left kids d (at own p) p cs fs link a
          go i =
              let k = ground.child p (omega arith) s.bound i in
              record {
                short = k.short;
                narrow = omega (arith, s.bound.high, room.short);
                need_room = omega (arith, s.bound.high, room.sweep_room.need_room);
                left_room = omega (arith, s.bound.high, room.sweep_room.left_room);
                cs_room = omega (arith, s.bound.high, room.cs_room, s.cs_length);
                fs_room = omega (arith, s.bound.high, room.fs_room, s.fs_length);
                link_room = omega (arith, s.bound.high, room.link_room, s.link_length);
                fronts = k.fronts;
                late = s.late;
              }

    module _
        {cs fs link : List ℕ} {a p : ℕ} (s : Eventing ps own need left kids d e cs₀ fs₀ link₀ cs fs link a p)
        (more : d < p)
      where
        pub eventing_plain
            : {b : ℕ}
            → (get_or ps (p - 1) 0 ≡ 2 → ⊥)
            → b ≡ seek (at need) p d (min a (p - 1))
            → Eventing ps own need left kids d e cs₀ fs₀ link₀ (set cs p 1) (set fs p p) (set link p b) b (p - 1)
        eventing_plain {b} n bi = plain_at cs fs link a p b more n bi s

        module _ (Ends-there : get_or ps (p - 1) 0 ≡ 2) where
          -- what the events of a loop inside ask
          pub child_room : ChildRoom need left kids d (at own (p - 1)) (p - 1) cs fs link a
          child_room = room_at cs fs link a p more Ends-there s

          pub eventing_child
              : {cs' fs' link' : List ℕ} {b : ℕ}
              → length cs' ≡ length cs
              → length fs' ≡ length fs
              → length link' ≡ length link
              → ChildSays need left kids d (at own (p - 1)) (p - 1) cs fs link cs' fs' link' b
              → Eventing ps own need left kids d e cs₀ fs₀ link₀ cs' fs' link' b (at own (p - 1))
          eventing_child {cs'} {fs'} {link'} {b} lc lf ll says =
              child-at cs fs link a p cs' fs' link' b more Ends-there lc lf ll says s
