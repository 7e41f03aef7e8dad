-- What a sweep lays is cut and counted: the loops passed have their costs and their dependences cut, and c is the
-- number of the loop's own gaps. A gap that is put counts for d alone; what is laid for a child counts for the child's
-- loops alone.
-- Main definitions: `Done`, `Part`, `Body`. Main statements: `laid_part`, `idle_part`, `whole_part`, `part_sound`,
-- `start_body`, `skip_body`, `put_body`, `join_body`.
use mathlib.Core.Path.{◌≡◌, sym, ◌∙◌, ap}
use mathlib.Core.Bool.{Bool, true, false}
use mathlib.Core.Logic.{◌⊎◌, inl, inr, ⊎_elim}
use Prim.Native.Nat.{ℕ, zero, suc, ◌≤◌, ◌<◌}
use native.Mathlib.Omega.{arith}
use Rattle.laws.proofs.Tests.{never, never_both, le_or, eq_or, false_by, or_left, or_right}
use Rattle.plan_method.specs.Sweep.{Loops, Tables, bare, only, also}
use Rattle.plan_method.proofs.World.{World, Inside, Child, Plain, LoopLaws}
use Rattle.plan_method.proofs.Inside.{self_or_inside, end_no_do}
use Rattle.plan_method.proofs.Counts.{cnt_same, cnt_none, cnt_put}
use Rattle.plan_method.proofs.Claim.{Hit, mine_of, count, Sound, Laid, Idle, Claim}
use Rattle.plan_method.proofs.Exchange.{mine_own, mine_other}
use Rattle.plan_method.proofs.Hits.{hit_more}
use Rattle.plan_method.proofs.Unions.{only_is, only_self, also_left, also_right}

-- x does what loop l asks: it has l's cost and cuts what has home l
pub record Done (W : World) (T : Tables) (l : ℕ) (x : ℕ → Bool) : Type 0 where
  pub exact : count W.loops x l ≡ T.cost l
  pub lines : (a b : ℕ) → W.Line l a b → Hit x a b
  pub backs : (a t : ℕ) → W.Back l a t → Hit x (suc l) t ⊎ Hit x a (W.loops.stop l)

-- what is laid for loop l: in l's range, and it does what l and all the loops inside l ask
pub record Part (W : World) (T : Tables) (l : ℕ) (x : ℕ → Bool) : Type 0 where
  pub low : (g : ℕ) → x g ≡ true → l < g
  pub high : (g : ℕ) → x g ≡ true → g ≤ W.loops.stop l
  pub done : (m : ℕ) → Inside W.loops l m → Done W T m x

-- what is laid for d down to point m: c own gaps, and what the loops inside from m on ask
pub record Body (W : World) (T : Tables) (d m c : ℕ) (w : ℕ → Bool) : Type 0 where
  pub mine : count W.loops w d ≡ c
  pub passed : (l : ℕ) → Inside W.loops d l → d < l → m ≤ l → Done W T l w

-- placements that agree on the own gaps of l count the same there
pub count_same : (B : Loops) (x y : ℕ → Bool) (l : ℕ)
    → ((g : ℕ) → 0 < g → g ≤ B.stop l → B.own g ≡ l → x g ≡ y g)
    → count B x l ≡ count B y l
count_same B x y l h =
    cnt_same (mine_of B x l) (mine_of B y l) (B.stop l) (λ g i j. go g i j (eq_or (B.own g) l))
  where
    go : (g : ℕ) → 0 < g → g ≤ B.stop l → (B.own g ≡ l) ⊎ ((B.own g ≡ l) → ⊥) → mine_of B x l g ≡ mine_of B y l g
    go g i j (inl z) = mine_own B x l g z ∙ h g i j z ∙ sym (mine_own B y l g z)
    go g i j (inr z) = mine_other B x l g z ∙ sym (mine_other B y l g z)

-- a placement with no gap of l's own counts nothing there
pub count_none : (B : Loops) (x : ℕ → Bool) (l : ℕ)
    → ((g : ℕ) → 0 < g → g ≤ B.stop l → B.own g ≡ l → x g ≡ true → ⊥)
    → count B x l ≡ 0
count_none B x l h = cnt_none (mine_of B x l) (B.stop l) (λ g i j. go g i j (eq_or (B.own g) l))
  where
    go : (g : ℕ) → 0 < g → g ≤ B.stop l → (B.own g ≡ l) ⊎ ((B.own g ≡ l) → ⊥) → mine_of B x l g ≡ false
    go g i j (inl z) = mine_own B x l g z ∙ false_by (h g i j z)
    go g i j (inr z) = mine_other B x l g z

-- more gaps, none of them l's own: what l asks is still done
pub done_more : (W : World) (T : Tables) (l : ℕ) (x y : ℕ → Bool)
    → ((g : ℕ) → x g ≡ true → y g ≡ true)
    → ((g : ℕ) → 0 < g → g ≤ W.loops.stop l → W.loops.own g ≡ l → y g ≡ x g)
    → Done W T l x → Done W T l y
done_more W T l x y h i k =
    record {
      exact = count_same W.loops y x l i ∙ k.exact;
      lines = λ a b j. hit_more h (k.lines a b j);
      backs = λ a t j. ⊎_elim
          (λ (z : Hit x (suc l) t). inl (hit_more h z))
          (λ (z : Hit x a (W.loops.stop l)). inr (hit_more h z))
          (k.backs a t j);
    }

-- what the table lays for a loop
pub laid_part : (W : World) (T : Tables) (l q : ℕ) (x : ℕ → Bool) → Laid W T l q x → Part W T l x
laid_part W T l q x k =
    record {
      low = k.low;
      high = k.high;
      done = λ m i. record {
        exact = self_or_inside W.loops l m (λ n. count W.loops x n ≡ T.cost n) i
            k.best.exact (k.best.settled.inside m i);
        lines = λ a b j. k.best.settled.sound.lines m a b i j;
        backs = λ a t j. k.best.settled.sound.backs m a t i j;
      };
    }

-- nothing, for a loop with nothing to cut
pub idle_part : (W : World) (T : Tables) (l : ℕ) (x : ℕ → Bool)
    → ((m : ℕ) → Inside W.loops l m → Idle W T m) → ((g : ℕ) → x g ≡ true → ⊥)
    → Part W T l x
idle_part W T l x h k =
    record {
      low = λ g i. absurd (k g i);
      high = λ g i. absurd (k g i);
      done = λ m i. record {
        exact = count_none W.loops x m (λ g u v o. k g) ∙ sym (h m i).free;
        lines = λ a b j. absurd ((h m i).no_line a b j);
        backs = λ a t j. absurd ((h m i).no_back a t j);
      };
    }

-- what is laid for a loop where no line asks more
pub whole_part : (W : World) (T : Tables) (l : ℕ) → l < W.loops.stop l → Claim W T l
    → Part W T l (T.lay l (suc l))
whole_part W T l long claim =
    ⊎_elim
    (λ (z : T.left l (suc l) ≤ 0). (
    let y : T.left l (suc l) ≡ 0 = omega arith in
    idle_part W T l (T.lay l (suc l)) (claim.empty y) (claim.blank (suc l) (omega arith) long y)))
    (λ (z : 0 < T.left l (suc l)). (
    laid_part W T l (suc l) (T.lay l (suc l)) (claim.attained (suc l) (omega arith) long z)))
    (le_or (T.left l (suc l)) 0)

-- a part cuts every dependence of its loop
pub part_sound : {W : World} {T : Tables} {l : ℕ} {x : ℕ → Bool} → Part W T l x → Sound W x l
part_sound k =
    record { lines = λ m a b i. (k.done m i).lines a b; backs = λ m a t i. (k.done m i).backs a t }

module _ (W : World) (laws : LoopLaws W.loops) (T : Tables) (d : ℕ) where
  -- an own gap lies above its loop's DO
  own_above : (g l : ℕ) → 0 < g → W.loops.own g ≡ l → l < g
  own_above zero l h e = absurd (omega arith)
  own_above (suc g) l h e = omega (arith, laws.own_below g)

  pub start_body : Body W T d (W.loops.stop d) 0 bare
  start_body =
      record {
        mine = count_none W.loops bare d (λ g i j o k. never k);
        passed = λ l i h j. absurd (omega (arith, i.below));
      }

  -- point p is no loop inside d
  pub skip_body : (p c : ℕ) (w : ℕ → Bool) → (p ≡ d) ⊎ Plain W.loops d p → Body W T d (suc p) c w → Body W T d p c w
  skip_body p c w h k = record { mine = k.mine; passed = λ l i j u. go l i j u (eq_or l p) }
    where
      go : (l : ℕ) → Inside W.loops d l → d < l → p ≤ l → (l ≡ p) ⊎ ((l ≡ p) → ⊥) → Done W T l w
      go l i j u (inl z) =
          ⊎_elim
          (λ (y : p ≡ d). absurd (omega arith))
          (λ (y : Plain W.loops d p). never_both i.is-do (rw z y.no-do))
          h
      go l i j u (inr z) = k.passed l i j (omega (arith, z))

  -- a gap of d's own, just before all that is laid
  module _
      (p c : ℕ) (w : ℕ → Bool) (own : W.loops.own (suc p) ≡ d) (high : p < W.loops.stop d)
      (low : (g : ℕ) → w g ≡ true → suc p < g) (k : Body W T d (suc p) c w) where
    abbrev put_gap : ℕ → Bool
    put_gap = also (only (suc p)) w

    put_here : mine_of W.loops put_gap d (suc p) ≡ true
    put_here = mine_own W.loops put_gap d (suc p) own ∙ or_left (w (suc p)) (only_self (suc p))

    not_yet : mine_of W.loops w d (suc p) ≡ false
    not_yet = mine_own W.loops w d (suc p) own ∙ false_by (λ z. omega (arith, low (suc p) z))

    elsewhere : (g : ℕ) → (g ≡ suc p → ⊥) → mine_of W.loops put_gap d g ≡ mine_of W.loops w d g
    unfolding mine_of
    elsewhere g z =
        let e : put_gap g ≡ w g = also_right (only (suc p)) w g (λ y. z (only_is (suc p) g y)) in
        rw e

    mine_put : count W.loops put_gap d ≡ suc (count W.loops w d)
    mine_put =
        cnt_put (mine_of W.loops put_gap d) (mine_of W.loops w d) (W.loops.stop d) (suc p)
        (omega arith) high put_here not_yet elsewhere

    -- a loop after the gap has its own gaps further on
    not_there : (l g : ℕ) → suc p ≤ l → 0 < g → W.loops.own g ≡ l → only (suc p) g ≡ true → ⊥
    not_there l g u a e z = omega (arith, own_above g l a e, only_is (suc p) g z)

    pub put_body : Body W T d (suc p) (suc c) put_gap
    put_body =
        record {
          mine = mine_put ∙ ap suc k.mine;
          passed = λ l i j u. done_more W T l w put_gap
              (λ g z. or_right (only (suc p) g) z)
              (λ g a b e. also_right (only (suc p)) w g (not_there l g u a e))
              (k.passed l i j u);
        }

  -- what is laid for a child, before all that is laid
  module _
      (p l c : ℕ) (x w : ℕ → Bool) (child : Child W.loops d p l) (part : Part W T l x)
      (low : (g : ℕ) → w g ≡ true → p < g) (k : Body W T d (suc p) c w) where
    -- an own gap of d does not lie in the child, nor does one of a loop after the child
    not_mine : (g : ℕ) → W.loops.own g ≡ d → x g ≡ true → ⊥
    not_mine g e h =
        omega (arith, (laws.owner l g child.is-do (part.low g h) (part.high g h)).from, child.below)

    not_after : (m g : ℕ) → 0 < g → W.loops.own g ≡ m → suc p ≤ m → x g ≡ true → ⊥
    not_after m g a e h z = omega (arith, own_above g m a e, part.high g z, child.ends)

    -- a loop inside the child ends with it at the latest
    ends_by : (m : ℕ) → Inside W.loops l m → W.loops.stop m ≤ p
    ends_by m i =
        self_or_inside W.loops l m (λ n. W.loops.stop n ≤ p) i (omega (arith, child.ends))
        (λ z. omega (arith, child.ends, laws.nested l m child.is-do i.is-do z (omega (arith, i.below))))

    in_child : (m : ℕ) → Inside W.loops l m → Done W T m (also x w)
    in_child m i =
        done_more W T m x (also x w)
        (λ g z. or_left (w g) z)
        (λ g a b e. also_left x w g (λ z. omega (arith, low g z, ends_by m i)))
        (part.done m i)

    after : (m : ℕ) → Inside W.loops d m → d < m → suc p ≤ m → Done W T m (also x w)
    after m i h j =
        done_more W T m w (also x w)
        (λ g z. or_right (x g) z)
        (λ g a b e. also_right x w g (not_after m g a e j))
        (k.passed m i h j)

    -- a loop from l on lies in the child or after it
    in_or_after : (m : ℕ) → Inside W.loops d m → d < m → l ≤ m → (suc p ≤ m) ⊎ (m < suc p) → Done W T m (also x w)
    in_or_after m i h j (inl z) = after m i h z
    in_or_after m i h j (inr z) =
        ⊎_elim
        (λ (y : m ≡ p). absurd (end_no_do W.loops laws d p l child (rw y at i.is-do)))
        (λ (y : m ≡ p → ⊥). in_child m record { is-do = i.is-do; from = j; below = omega (arith, y, child.ends) })
        (eq_or m p)

    pub join_body : Body W T d l c (also x w)
    join_body =
        record {
          mine = count_same W.loops (also x w) w d (λ g a b e. also_right x w g (not_mine g e)) ∙ k.mine;
          passed = λ m i h j. in_or_after m i h j (le_or (suc p) m);
        }
