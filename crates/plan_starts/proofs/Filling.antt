-- The events of a loop inside, gap by gap from the right. The fronts lie further left than the gaps, so that the links
-- are joined to the events at the end.
-- Main definition: `Filling`. Main statements: `outer_is`, `filling_none`, `filling_more`, `filling_after`,
-- `rebased`, `room_on`, `said_on`, `filled`.
use mathlib.Core.Path.{◌≡◌, refl, sym, ◌∙◌}
use mathlib.Core.List.{List}
use Prim.Native.Nat.{ℕ, suc, ◌+◌, ◌-◌, ◌≤◌, ◌<◌, min}
use native.Mathlib.Numerals.{add-one}
use native.Mathlib.Omega.{arith}
use lib.ListN.{length, set, length-set}
use lib.Seq.{get_or-set_other}
use Rattle.laws.specs.Choice.{first_of}
use Rattle.laws.specs.Entries.{at}
use Rattle.laws.proofs.Tests.{lt_by}
use Rattle.laws.proofs.Stores.{stored}
use Rattle.plan_method.specs.Sweep.{seek}
use Rattle.plan_method.proofs.Walk.{seek_is}
use Rattle.plan_sweeps.specs.Listed.{row}
use Rattle.plan_starts.specs.Grounds.{Kept}
use Rattle.plan_starts.specs.Started.{cost_at, front_at, Late, ChildRoom, ChildSays}
use Rattle.plan_starts.proofs.Seeks.{seek_skip, seek_late}
use Rattle.plan_starts.proofs.Happenings.{cost_outer, front_outer, cost_one, front_within}

-- one more store, from the right
pub kept_down : (xs ys : List ℕ) (x high v : ℕ) → 0 < x → x ≤ high → Kept xs ys x high →
    Kept xs (set ys x v) (x - 1) high
kept_down xs ys x high v a b k i h =
    get_or-set_other ys x i v 0 (λ (z : i ≡ x). absurd (omega (arith, h (omega arith)))) ∙ k i (λ l. h (omega arith))

-- the gaps after x are done
pub record Filling (need left : List ℕ) (kids d l p : ℕ) (cs₀ fs₀ link₀ cs fs link : List ℕ) (a x : ℕ) : Type 0 where
  pub low : l ≤ x
  pub high : x ≤ suc p
  pub cs_length : length cs ≡ length cs₀
  pub fs_length : length fs ≡ length fs₀
  pub link_length : length link ≡ length link₀
  pub cost_is : (y : ℕ) → x < y → y ≤ suc p → at cs y ≡ cost_at (row left kids) p y
  pub front_is : (y : ℕ) → x < y → y ≤ suc p → at fs y ≡ front_at (row left kids) l p y
  pub link_is : (f : ℕ) → x < f → f ≤ suc p → at link f ≡ seek (at need) f d l
  pub cs_kept : Kept cs₀ cs x (suc p)
  pub fs_kept : Kept fs₀ fs x (suc p)
  pub link_kept : Kept link₀ link x (suc p)
  pub late : Late (at need) d l x a
  pub last_high : a ≤ l

module _
    {need left : List ℕ} {kids d l p : ℕ} {cs₀ fs₀ link₀ : List ℕ} {a₀ : ℕ}
    (room : ChildRoom need left kids d l p cs₀ fs₀ link₀ a₀)
  where
    -- the front of a barrier after the loop
    pub outer_is : {f : ℕ} → f ≡ first_of (row left kids (l + 1)) (p + 1) → f ≡ first_of (row left kids (suc l)) (suc p)
    outer_is h = h ∙ rw (add-one l, add-one p) refl

    pub filling_none : {a : ℕ} → a ≡ min a₀ l → Filling need left kids d l p cs₀ fs₀ link₀ cs₀ fs₀ link₀ a (p + 1)
    filling_none ai =
        rw (add-one p)
        record {
          low = omega (arith, room.short);
          high = omega arith;
          cs_length = refl;
          fs_length = refl;
          link_length = refl;
          cost_is = λ y i j. absurd (omega arith);
          front_is = λ y i j. absurd (omega arith);
          link_is = λ y i j. absurd (omega arith);
          cs_kept = λ i h. refl;
          fs_kept = λ i h. refl;
          link_kept = λ i h. refl;
          late = λ y i j k. room.late y i (omega arith) (omega (arith, room.short));
          last_high = omega arith;
        }

    module _ {cs fs link : List ℕ} {a x : ℕ} (s : Filling need left kids d l p cs₀ fs₀ link₀ cs fs link a x) where
      pub filling_more
          : {c f b : ℕ}
          → l < x
          → c ≡ cost_at (row left kids) p x
          → f ≡ front_at (row left kids) l p x
          → b ≡ seek (at need) x d a
          → Filling need left kids d l p cs₀ fs₀ link₀ (set cs x c) (set fs x f) (set link x b) b (x - 1)
      filling_more {c} {f} {b} h ci fi bi =
          record {
            low = omega arith;
            high = omega (arith, s.high);
            cs_length = length-set cs x c ∙ s.cs_length;
            fs_length = length-set fs x f ∙ s.fs_length;
            link_length = length-set link x b ∙ s.link_length;
            cost_is = λ y i j. stored cs x c y (cost_at (row left kids) p y)
                (omega (arith, s.high, s.cs_length, room.cs_room)) (λ z. rw z ci)
                (λ z. s.cost_is y (above y i z) j);
            front_is = λ y i j. stored fs x f y (front_at (row left kids) l p y)
                (omega (arith, s.high, s.fs_length, room.fs_room)) (λ z. rw z fi)
                (λ z. s.front_is y (above y i z) j);
            link_is = λ y i j. stored link x b y (seek (at need) y d l)
                (omega (arith, s.high, s.link_length, room.link_room)) (λ z. rw z found)
                (λ z. s.link_is y (above y i z) j);
            cs_kept = kept_down cs₀ cs x (suc p) c (omega arith) s.high s.cs_kept;
            fs_kept = kept_down fs₀ fs x (suc p) f (omega arith) s.high s.fs_kept;
            link_kept = kept_down link₀ link x (suc p) b (omega arith) s.high s.link_kept;
            late = λ y i j k. omega (arith, seek_late (at need) x d l y i (rw found at j) k);
            last_high = omega (arith, found, (seek_is (at need) x d l).high);
          }
        where
          found : b ≡ seek (at need) x d l
          found =
              let z : min a l ≡ a = omega (arith, s.last_high) in
              bi ∙ rw z at (seek_skip (at need) x d l x a (omega arith) s.late)

          above : (y : ℕ) → x - 1 < y → (y ≡ x → ⊥) → x < y
          above y i z = lt_by λ j. z (omega arith)

      -- what follows may be told of the lists as they stand
      pub rebased : Filling need left kids d l p cs fs link cs fs link a x
      rebased =
          record {
            low = s.low;
            high = s.high;
            cs_length = refl;
            fs_length = refl;
            link_length = refl;
            cost_is = s.cost_is;
            front_is = s.front_is;
            link_is = s.link_is;
            cs_kept = λ i h. refl;
            fs_kept = λ i h. refl;
            link_kept = λ i h. refl;
            late = s.late;
            last_high = s.last_high;
          }

      pub room_on : ChildRoom need left kids d l p cs fs link a₀
      room_on =
          record {
            short = room.short;
            narrow = room.narrow;
            need_room = room.need_room;
            left_room = room.left_room;
            cs_room = omega (arith, s.cs_length, room.cs_room);
            fs_room = omega (arith, s.fs_length, room.fs_room);
            link_room = omega (arith, s.link_length, room.link_room);
            fronts = room.fronts;
            late = room.late;
          }

      pub said_on
          : {cs' fs' link' : List ℕ} {b : ℕ}
          → ChildSays need left kids d l p cs fs link cs' fs' link' b
          → ChildSays need left kids d l p cs₀ fs₀ link₀ cs' fs' link' b
      said_on t =
          record {
            events = t.events;
            cs_kept = λ i h. t.cs_kept i h ∙ s.cs_kept i (λ j. h (omega (arith, s.low)));
            fs_kept = λ i h. t.fs_kept i h ∙ s.fs_kept i (λ j. h (omega (arith, s.low)));
            link_kept = λ i h. t.link_kept i h ∙ s.link_kept i (λ j. h (omega (arith, s.low)));
            late = t.late;
          }

      pub filled : x ≤ l → ChildSays need left kids d l p cs₀ fs₀ link₀ cs fs link a
      filled h =
          let e : x ≡ l = omega (arith, s.low) in
          let t : Filling need left kids d l p cs₀ fs₀ link₀ cs fs link a l = rw e at s in
          record {
            events = λ y i j.
                let w = front_within (row left kids) l p y room.short i room.fronts in
                record {
                  cost_is = t.cost_is y i j;
                  front_is = t.front_is y i j;
                  link_is = t.link_is (front_at (row left kids) l p y) w.0 w.1;
                  cost = cost_one (row left kids) l p y;
                  low = w.0;
                  high = w.1;
                };
            cs_kept = t.cs_kept;
            fs_kept = t.fs_kept;
            link_kept = t.link_kept;
            late = t.late;
          }

    -- the gap after the loop
    pub filling_after
        : {f a b : ℕ}
        → f ≡ first_of (row left kids (suc l)) (suc p)
        → a ≡ min a₀ l
        → b ≡ seek (at need) (p + 1) d a
        → Filling need left kids d l p cs₀ fs₀ link₀ (set cs₀ (p + 1) 1) (set fs₀ (p + 1) f) (set link₀ (p + 1) b) b p
    filling_after {f} fi ai bi =
        let z : p + 1 - 1 ≡ p = omega arith in
        let c : 1 ≡ cost_at (row left kids) p (p + 1) =
        sym (cost_outer (row left kids) l p (p + 1) (λ h. absurd (omega arith))) in
        let o : f ≡ front_at (row left kids) l p (p + 1) =
        fi ∙ sym (front_outer (row left kids) l p (p + 1) (λ h. absurd (omega arith))) in
        rw z at (filling_more (filling_none ai) (omega (arith, room.short)) c o bi)
