-- What the row of a loop asks of its range: the loops directly inside it are settled, so that their fronts lie in their
-- ranges, and no boundary of the loop lies in one of them.
-- Main statements: `grounded`, `row_room`.
use mathlib.Core.Path.{◌≡◌, sym, ◌∙◌}
use mathlib.Core.Bool.{true, false}
use mathlib.Core.List.{List}
use mathlib.Core.Logic.{⊎_elim}
use Prim.Native.Nat.{ℕ, suc, ◌+◌, ◌-◌, ◌*◌, ◌≤◌, ◌<◌}
use native.Mathlib.Omega.{arith}
use Rattle.laws.specs.Entries.{at}
use Rattle.paper_nests.specs.Loops.{is_end, owner_of}
use Rattle.paper_nests.specs.Valid.{is_shape}
use Rattle.plan_method.specs.Home.{loops_in}
use Rattle.plan_method.proofs.World as world
use Rattle.plan_method.proofs.Instance.{loop_laws}
use Rattle.plan_starts.specs.Grounds.{Bound, Kid, Plain, Ground}
use Rattle.plan_rows.specs.Made.{RowRoom}
use Rattle.plan_settle.specs.Settled.{HasHeight}
use Rattle.plan_settle.proofs.Heights.{child_height}
use Rattle.plan_settle.proofs.Calls.{Call}
use Rattle.plan_settle.proofs.Turns.{Settling}

module _
    {ps own ends reach limit has left₀ choice₀ : List ℕ} {d h : ℕ}
    (a : Call ps own ends reach limit has left₀ choice₀ d h) {left choice : List ℕ} {some i : ℕ}
    (s : Settling ps reach limit has left₀ choice₀ d left choice some i) (all : at ends d ≤ i)
  where
    abbrev shape : is_shape ps ≡ true
    shape = a.charts.shape

    abbrev e : ℕ
    e = at ends d

    laws : world.LoopLaws (loops_in ps)
    laws = loop_laws ps shape

    owned : (g : ℕ) → g ≤ e → at own g ≡ owner_of ps g
    owned g n = a.charts.own_is g (omega (arith, a.short))

    module _ (p : ℕ) (low : d ≤ p) (b : Bound own d e (suc p)) where
      after : owner_of ps (suc p) ≡ d
      after = sym (owned (suc p) b.high) ∙ b.owner (omega arith)

      plain : is_end ps p ≡ false → Plain ps own d p
      plain i = ⊎_elim
          (λ (z : p ≡ d). record { owner = λ l. absurd (omega arith); no-do = λ l. absurd (omega arith) })
          (λ (z : world.Plain (loops_in ps) d p). record {
            owner = λ l. owned p (omega (arith, b.high)) ∙ z.owner;
            no-do = λ l. z.no-do;
          })
          (laws.plain d p a.is-do low (omega (arith, b.high)) after i)

      child : is_end ps p ≡ true → Kid ps own left (h * 256 - 256) d p (at own p)
      child i = rw (owned p (omega (arith, b.high))) (go (owner_of ps p)
          (laws.child d p a.is-do low (omega (arith, b.high)) after i))
        where
          go : (l : ℕ) → world.Child (loops_in ps) d p l → Kid ps own left (h * 256 - 256) d p l
          go l k =
              record {
                is-do = k.is-do;
                below = k.below;
                short = short;
                owner = owned l (omega (arith, b.high, short)) ∙ k.owner;
                inside = λ g x y z. omega (
                  arith,
                  (laws.owner l g k.is-do x (omega (arith, k.ends))).from,
                  owned g (omega (arith, b.high)),
                  k.below,
                );
                fronts = λ q x y.
                    let u : (h - 1) * 256 ≡ h * 256 - 256 = omega (arith, a.low) in
                    let c : HasHeight ps l (h - 1) =
                    child_height ps shape d l h a.is-do k.is-do k.below k.owner a.height in
                    rw (u, k.ends) at (s.fronts l (h - 1) q k.is-do k.below (omega (arith, b.high, short)) c x
                    (omega (arith, k.ends)));
              }
            where
              short : l < p
              short = omega (arith, laws.long l k.is-do, k.ends)

    pub grounded : Ground ps own left (h * 256 - 256) d e
    grounded =
        record {
          owner = rw a.e_is (rw a.e_is at (owned e (omega arith)) ∙ laws.own_stop d a.is-do);
          plain = plain;
          child = child;
        }

    pub row_room : RowRoom ps own reach limit left choice (h * 256) d e
    row_room =
        record {
          points_room = a.short;
          own_room = omega (arith, a.short, a.charts.few, a.charts.own_room);
          own_low = a.charts.own_low;
          reach_room = inside a.room.reach_room;
          limit_room = inside a.room.limit_room;
          left_room = inside (omega (arith, s.left_length, a.room.left_room));
          choice_room = inside (omega (arith, s.choice_length, a.room.choice_room));
          long = a.long;
          short = omega (arith, a.short, a.charts.few);
          inner = omega (arith, a.low);
          ground = grounded;
        }
      where
        inside : {n : ℕ} → 2304 ≤ n → h * 256 + e < n
        inside room = omega (arith, a.high, a.short, a.charts.few)
