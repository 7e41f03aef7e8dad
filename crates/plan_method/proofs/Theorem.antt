-- The planner's theorem. Every loop meets its claim, by induction from the inside: what is laid for it is best, and no
-- settled placement has fewer of its own gaps. So what is laid for a loop cuts all its dependences with the costs at
-- every loop, and at each loop inside a sound placement that has the same counts further in has at least as many gaps.
-- Main statements: `claim`, `key_is`.
use mathlib.Core.Path.{◌≡◌, ◌∙◌}
use mathlib.Core.Bool.{Bool, true}
use Prim.Native.Nat.{ℕ, suc, ◌≤◌, ◌<◌}
use native.Mathlib.Omega.{arith}
use Rattle.plan_method.specs.Sweep.{Lines, Tables, IsTable}
use Rattle.plan_method.specs.Plan.{table_of, key_of}
use Rattle.plan_method.proofs.World.{World, Inside, EachInside, Lawful}
use Rattle.plan_method.proofs.Inside.{inside_trans, from_inside}
use Rattle.plan_method.proofs.Claim.{count, Sound, Claim}
use Rattle.plan_method.proofs.Bounds.{lower, leftmost, some_gap}
use Rattle.plan_method.proofs.AttainedBody.{Part, part_sound, whole_part}
use Rattle.plan_method.proofs.AttainedSweep.{Kids, kids_inside}
use Rattle.plan_method.proofs.Attained.{attained, blank}
use Rattle.plan_method.proofs.AttainedEmpty.{empty}
use Rattle.plan_method.proofs.Tables.{table_is}

-- a key of loop d: it lies in d's range and is sound there, and at each loop where a sound placement has the key's
-- counts in all the loops inside, that placement has at least as many gaps
pub record Key (W : World) (d : ℕ) (x : ℕ → Bool) : Type 0 where
  pub low : (g : ℕ) → x g ≡ true → d < g
  pub high : (g : ℕ) → x g ≡ true → g ≤ W.loops.stop d
  pub sound : Sound W x d
  pub least : (y : ℕ → Bool) (l : ℕ) → Sound W y d → Inside W.loops d l →
      ((m : ℕ) → Inside W.loops l m → l < m → count W.loops y m ≡ count W.loops x m) →
      count W.loops x l ≤ count W.loops y l

module _ (W : World) (N : Lines) (laws : Lawful W N) (T : Tables) (table : IsTable W.loops N T) where
  claim_from : (d : ℕ) → W.loops.is_do d ≡ true → EachInside W.loops d (Claim W T) → Claim W T d
  claim_from d is-do all =
      let kids : Kids W T d = kids_inside W T d all in
      record {
        lower = lower W N laws T table d is-do all;
        leftmost = leftmost W N laws T table d is-do all (empty W N laws T table d is-do kids);
        some = some_gap W N laws T table d is-do all;
        attained = attained W N laws T table d is-do kids;
        blank = blank W N laws T table d is-do kids;
        empty = empty W N laws T table d is-do kids;
      }

  pub claim : (d : ℕ) → W.loops.is_do d ≡ true → Claim W T d
  claim = from_inside W.loops laws.of-loops (Claim W T) claim_from

  module _ (d : ℕ) (is-do : W.loops.is_do d ≡ true) where
    -- what is laid for d: the cost at every loop, every dependence cut, in d's range
    pub laid : Part W T d (T.lay d (suc d))
    laid = whole_part W T d (laws.of-loops.long d is-do) (claim d is-do)

    widen : (l m : ℕ) → Inside W.loops d l → Inside W.loops l m → Inside W.loops d m
    widen l m = inside_trans W.loops laws.of-loops d l m is-do

    -- a placement that is sound at d and has the costs in all the loops inside l has at least l's cost
    pub least_at : (y : ℕ → Bool) (l : ℕ) → Sound W y d → Inside W.loops d l →
        ((m : ℕ) → Inside W.loops l m → l < m → count W.loops y m ≡ T.cost m) →
        T.cost l ≤ count W.loops y l
    least_at y l s i same = (claim l i.is-do).lower y record { sound = within; inside = same }
      where
        within : Sound W y l
        within = record {
          lines = λ m a b j. s.lines m a b (widen l m i j);
          backs = λ m a t j. s.backs m a t (widen l m i j);
        }

    pub key_is : Key W d (T.lay d (suc d))
    key_is =
        record {
          low = laid.low;
          high = laid.high;
          sound = part_sound laid;
          least = λ y l s i same. (
              let e : count W.loops (T.lay d (suc d)) l ≡ T.cost l = (laid.done l i).exact in
              omega (arith, least_at y l s i (λ m j k. same m j k ∙ (laid.done m (widen l m i j)).exact)));
        }

-- the computed key, of a nest of n points whose outermost loop is 0
pub computed_key : (W : World) (N : Lines) → Lawful W N → (n : ℕ) → W.loops.is_do 0 ≡ true →
    ((d : ℕ) → W.loops.is_do d ≡ true → d < n) → Key W 0 (key_of W.loops N n)
unfolding key_of
computed_key W N laws n first below = key_is W N laws (table_of W.loops N n)
    (table_is W.loops laws.of-loops N n below) 0 first
