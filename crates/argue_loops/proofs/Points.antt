-- The claims of the loop at a point, from the tables of the nest.
-- Main definition: `Placed`. Main statements: `point_other`, `lists_after`, `placed`, `point_row`,
-- `point_room`, `point_idle`, `point_heads`, `point_ground`.
use mathlib.Core.Path.{◌≡◌, ◌∙◌, ap}
use mathlib.Core.Bool.{true}
use mathlib.Core.List.{List, [], ◌++◌}
use mathlib.Core.Logic.{⊎_elim}
use Prim.Native.Nat.{ℕ, suc, ◌+◌, ◌-◌, ◌*◌, ◌≤◌, ◌<◌}
use mir.Syntax.{w16}
use mir.Val.{Fits}
use native.Mathlib.Omega.{arith}
use lib.Dec.{ltb}
use lib.ListN.{length, get_or}
use borrow.Author.Tests.{eq-eqb, ne_eqb, lt-ltb}
use Rattle.laws.specs.Entries.{at}
use Rattle.laws.proofs.Tests.{and_intro, le_or}
use Rattle.laws.proofs.Connectives.{and_off}
use Rattle.paper_nests.specs.Loops.{is_do, end_of}
use Rattle.paper_nests.specs.declared.Nest as DN
use Rattle.paper_nests.proofs.Loops.{end-after, end_there}
use Rattle.plan_method.specs.Sweep.{Tables}
use Rattle.plan_method.specs.Home.{loops_in}
use Rattle.plan_method.proofs.World.{Child}
use Rattle.plan_sweeps.specs.Listed.{row}
use Rattle.plan_starts.specs.Grounds.{Kept}
use Rattle.plan_rows.specs.Made.{Copied}
use Rattle.plan_settle.specs.Settled.{HasHeight}
use Rattle.plan_settle.proofs.Heights.{height_low, height_high, child_height}
use Rattle.argue_texts.specs.declared.Claimed.{Claimed}
use Rattle.argue_key.specs.Laps.{low_heads, side_heads, loop_heads}
use Rattle.argue_spell.specs.Added.{WORD}
use Rattle.argue_give.specs.Given.{GiveRoom, RowRoom, RowGround}
use Rattle.argue_loops.specs.Whole.{GiveTables, TableGround, ListsRoom}

-- a point that is no DO
pub point_other : (ps : List ℕ) (T : Tables) (d : ℕ) → (get_or ps d 0 ≡ 1 → ⊥) → [] ≡ loop_heads ps T d
unfolding loop_heads
point_other ps T d n = rw (ne_eqb (get_or ps d 0) 1 n)

-- the lists have room as before
pub lists_after : {nest : DN.Nest} {ps own left : List ℕ} {kids : ℕ}
    {need sets need₁ sets₁ need' sets' : List ℕ} {claims claims' : List Claimed} {d e : ℕ} →
    ListsRoom need sets claims → GiveRoom nest ps own left kids need₁ sets₁ claims d e → need' ≡ need₁ →
    sets' ≡ sets₁ → length need₁ ≡ length need → length sets₁ ≡ length sets → length claims' ≡ length claims →
    ListsRoom need' sets' claims'
lists_after r w a b n s l =
    record {
      need_room = omega (arith, r.need_room, n, ap length a);
      sets_room = omega (arith, r.sets_room, s, ap length b);
      sets_small = λ i. rw b (w.sets_room.small i);
      claims_room = omega (arith, r.claims_room, l);
    }

-- a row behind the first, which starts at base, with the loop from d to e in it
pub record Placed (base d e : ℕ) : Type 0 where
  pub low : 256 ≤ base
  pub room : base + e < 2304
  pub long : d < e
  pub short : e < 256

module _
    {nest : DN.Nest} {ps own ends heights left reach numbers costs : List ℕ}
    (w : GiveTables nest ps own ends heights left reach numbers costs) (d : ℕ) (do_there : get_or ps d 0 ≡ 1)
  where
    pub is-do : is_do ps d ≡ true
    is-do = eq-eqb (get_or ps d 0) 1 do_there

    height : HasHeight ps d (at heights d)
    height = w.heights_are d is-do

    low : 0 < at heights d
    low = height_low ps w.charts.shape d (at heights d) is-do height

    pub high : at heights d ≤ 8
    high = height_high ps d (at heights d) height

    e_is : at ends d ≡ end_of ps d
    e_is = w.charts.ends_is d is-do

    long : d < at ends d
    long = omega (arith, e_is, end-after ps w.charts.shape d is-do)

    short : at ends d < length ps
    short = omega (arith, e_is, end_there ps w.charts.shape d is-do)

    -- its row in a table, as far as its ENDDO
    pub placed : Placed (at heights d * 256) d (at ends d)
    placed =
        record {
          low = omega (arith, low);
          room = omega (arith, high, short, w.charts.few);
          long = long;
          short = omega (arith, short, w.charts.few);
        }

    pub point_row : RowRoom left (at heights d * 256) d (at ends d)
    point_row =
        record {
          near = omega (arith, high);
          room = omega (arith, high, short, w.charts.few, w.left_room);
          high = λ q i j. rw e_is (w.fronts d (at heights d) q is-do height i (omega (arith, e_is)));
        }

    pub point_room : {need sets need' sets' : List ℕ} {claims : List Claimed} → ListsRoom need sets claims →
        length need' ≡ length need → length sets' ≡ length sets → ((i : ℕ) → Fits w16 (at numbers i)) →
        Copied numbers (at heights d * 256) d (at ends d) sets' → Kept sets sets' d (at ends d) →
        GiveRoom nest ps own left (at heights d * 256 - 256) need' sets' claims d (at ends d)
    point_room {sets = sets} {sets' = sets'} r a b n c k =
        record {
          counted = w.counted;
          points_are = w.points_are;
          shape = w.charts.shape;
          fit = w.fit;
          is-do = is-do;
          e_is = e_is;
          short = omega (arith, short, w.charts.few);
          sweeps =
              record {
                points_room = short;
                own_room = omega (arith, short, w.charts.few, w.charts.own_room);
                own_low = w.charts.own_low;
                need_room = omega (arith, short, w.charts.few, r.need_room);
                left_room = omega (arith, high, low, short, w.charts.few, w.left_room);
              };
          sets_room =
              record { room = omega (arith, short, w.charts.few, r.sets_room); small = small };
          claims_room = r.claims_room;
        }
      where
        small : (i : ℕ) → at sets' i ≤ WORD
        small i = ⊎_elim
            (λ (x : i ≤ d). rw (k i (λ y. omega arith)) (r.sets_small i))
            (λ (x : d < i). ⊎_elim
            (λ (y : i ≤ at ends d). rw (c i x y) (omega (arith, n (at heights d * 256 + i))))
            (λ (y : at ends d < i). rw (k i (λ z. y)) (r.sets_small i))
            (le_or i (at ends d)))
            (le_or i d)

    module _ (T : Tables) (g : TableGround nest ps own left reach numbers costs T) where
      first : row left (at heights d * 256) (d + 1) ≡ T.left d (suc d)
      first =
          let z : d + 1 ≡ suc d = omega arith in
          rw z (g.left_is d (at heights d) (suc d) is-do height (omega arith) (omega (arith, long, e_is)))

      -- nothing to cut
      pub point_idle : row left (at heights d * 256) (d + 1) ≡ 0 → [] ≡ loop_heads ps T d
      unfolding loop_heads
      point_idle z = rw (← first, z, and_off (is_do ps d))

      pub point_heads : (row left (at heights d * 256) (d + 1) ≡ 0 → ⊥) →
          low_heads T d ++ side_heads T d (at ends d) ≡ loop_heads ps T d
      unfolding loop_heads
      point_heads n =
          let z : ltb 0 (T.left d (suc d)) ≡ true = lt-ltb 0 (T.left d (suc d)) (omega (arith, n, first)) in
          rw (and_intro is-do z, e_is)

      pub point_ground : {need' sets' : List ℕ} → Copied reach (at heights d * 256) d (at ends d) need' →
          Copied numbers (at heights d * 256) d (at ends d) sets' →
          RowGround nest ps own left (at heights d * 256 - 256) (at heights d * 256) need' sets' d (at ends d)
          (at costs d) T
      point_ground a b =
          record {
            ground =
                record {
                  own_is = w.charts.own_is;
                  left_is = kid;
                  need_is = λ i x y. a i x y ∙ g.reach_is d (at heights d) i is-do height x (omega (arith, e_is));
                  sets_is = λ i x y. b i x y ∙ g.numbers_is d (at heights d) i is-do height x (omega (arith, e_is));
                };
            row_is = λ q x y. g.left_is d (at heights d) q is-do height x (omega (arith, e_is));
            cost_is = g.costs_are d is-do;
          }
        where
          kid : (l q : ℕ) → Child (loops_in ps) d (end_of ps l) l → l < end_of ps d → l < q → q ≤ end_of ps l →
              row left (at heights d * 256 - 256) q ≡ T.left l q
          kid l q x y i j =
              let u : at heights d * 256 - 256 ≡ (at heights d - 1) * 256 = omega (arith, low) in
              rw u
              (g.left_is l (at heights d - 1) q x.is-do
              (child_height ps w.charts.shape d l (at heights d) is-do x.is-do x.below x.owner height) i j)
