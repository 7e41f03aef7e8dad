-- A nest's points that stand inside the points of another, one level deeper: loops, owners of gaps and what lies inside
-- a loop are the same, moved along.
-- Main definition: `Part`. Main statements: `do_moved`, `end_moved`, `owner_moved`, `owner_in_part`, `inside_moved`,
-- `inside_part`.
use mathlib.Core.Path.{◌≡◌, sym, ap, ◌∙◌}
use mathlib.Core.Bool.{true}
use mathlib.Core.List.{List}
use mathlib.Core.Logic.{⊎_elim}
use Prim.Native.Nat.{ℕ, suc, ◌+◌, ◌-◌, ◌≤◌, ◌<◌}
use native.Mathlib.Omega.{arith}
use lib.Dec.{eqb}
use lib.ListN.{length, get_or}
use Rattle.laws.proofs.Tests.{le_or, bool_by}
use Rattle.paper_nests.specs.Loops.{is_do, end_of, owner_of, in_loop}
use Rattle.paper_nests.specs.Valid.{is_shape}
use Rattle.paper_nests.proofs.Levels.{lev, point_in}
use Rattle.paper_nests.proofs.Loops.{Owner, end-after, end_there, range_above, range_back, end_is, owner_law, owner_is}
use Rattle.paper_nests.proofs.Loops.{inside_lies, inside_by}

-- the points ps stand at k in the points qs, one level deeper
pub record Part (ps qs : List ℕ) (k : ℕ) : Type 0 where
  pub shape : is_shape ps ≡ true
  pub whole : is_shape qs ≡ true
  pub there : k + length ps < length qs
  pub same : (i : ℕ) → i < length ps → get_or qs (k + i) 0 ≡ get_or ps i 0
  pub level : (i : ℕ) → i ≤ length ps → lev qs (k + i) ≡ suc (lev ps i)

module _ (ps qs : List ℕ) (k : ℕ) (part : Part ps qs k) where
  pub do_at : (i : ℕ) → i < length ps → is_do qs (k + i) ≡ is_do ps i
  do_at i l = ap (λ (p : ℕ). eqb p 1) (part.same i l)

  -- a loop of the part is a loop, and ends where it ended
  pub do_moved : (d : ℕ) → is_do ps d ≡ true → is_do qs (k + d) ≡ true
  do_moved d h = do_at d (point_in ps d 0 h) ∙ h

  level_at : (j : ℕ) → k ≤ j → j ≤ k + length ps → lev qs j ≡ suc (lev ps (j - k))
  level_at j l m =
      let z : k + (j - k) ≡ j = omega arith in
      rw z at (part.level (j - k) (omega arith))

  pub end_moved : (d : ℕ) → is_do ps d ≡ true → end_of qs (k + d) ≡ k + end_of ps d
  end_moved d h =
      end_is qs part.whole (k + d) (k + end_of ps d) (do_moved d h) (omega (arith, after)) above back
    where
      after : d < end_of ps d
      after = end-after ps part.shape d h

      there : end_of ps d < length ps
      there = end_there ps part.shape d h

      start : lev qs (k + d) ≡ suc (lev ps d)
      start = part.level d (omega (arith, after, there))

      above : (j : ℕ) → k + d < j → j ≤ k + end_of ps d → lev qs (k + d) < lev qs j
      above j l m =
          omega (
            arith,
            start,
            level_at j (omega arith) (omega (arith, there)),
            range_above ps part.shape d (j - k) h (omega arith) (omega arith),
          )

      back : lev qs (suc (k + end_of ps d)) ≤ lev qs (k + d)
      back =
          let z : suc (k + end_of ps d) - k ≡ suc (end_of ps d) = omega arith in
          let y = rw z at (level_at (suc (k + end_of ps d)) (omega arith) (omega (arith, there))) in
          omega (arith, start, y, range_back ps part.shape d h)

  -- the gap of a part belongs to the same loop
  pub owner_moved : (g : ℕ) → 0 < g → g < length ps → owner_of qs (k + g) ≡ k + owner_of ps g
  owner_moved g a b =
      owner_is qs part.whole (k + g) (k + owner_of ps g) (omega arith) (omega (arith, part.there)) moved
    where
      o : Owner ps g g (owner_of ps g)
      o = owner_law ps part.shape g a b

      most : (x : ℕ) → is_do qs x ≡ true → x < k + g → k + g ≤ end_of qs x → x ≤ k + owner_of ps g
      most x h l m = ⊎_elim
          (λ (z : k ≤ x).
          let e : k + (x - k) ≡ x = omega arith in
          let i : is_do ps (x - k) ≡ true = sym (do_at (x - k) (omega arith)) ∙ rw e h in
          let f : end_of qs x ≡ k + end_of ps (x - k) = rw e at (end_moved (x - k) i) in
          omega (arith, o.most (x - k) i (omega arith) (omega (arith, f))))
          (λ (z : x < k). omega arith)
          (le_or k x)

      moved : Owner qs (k + g) (k + g) (k + owner_of ps g)
      moved =
          record {
            loop = do_moved (owner_of ps g) o.loop;
            below = omega (arith, o.below);
            holds = omega (arith, o.holds, end_moved (owner_of ps g) o.loop);
            most = most;
          }

  -- a gap that belongs to a loop of the part is one of its gaps
  pub owner_in_part
      : (g d : ℕ) → 0 < g → g < length qs → is_do ps d ≡ true → owner_of qs g ≡ k + d → (k < g) × (g < k + length ps)
  owner_in_part g d a b h e =
      let o : Owner qs g g (k + d) = rw e at (owner_law qs part.whole g a b) in
      (omega (arith, o.below), omega (arith, o.holds, end_moved d h, end_there ps part.shape d h))

  -- what lies inside a loop of the part
  pub inside_moved : (d x : ℕ) → is_do ps d ≡ true → in_loop qs (k + d) (k + x) ≡ in_loop ps d x
  inside_moved d x h =
      bool_by (in_loop qs (k + d) (k + x)) (in_loop ps d x)
      (λ i.
      let z = inside_lies qs (k + d) (k + x) i in
      inside_by ps d x (omega (arith, z.0)) (omega (arith, z.1, end_moved d h)))
      (λ i.
      let z = inside_lies ps d x i in
      inside_by qs (k + d) (k + x) (omega (arith, z.0)) (omega (arith, z.1, end_moved d h)))

  -- is a point of the part
  pub record InPart (x : ℕ) : Type 0 where
    pub at : ℕ
    pub at_is : x ≡ k + at
    pub in_part : at < length ps

  pub inside_part : (d x : ℕ) → is_do ps d ≡ true → in_loop qs (k + d) x ≡ true → InPart x
  inside_part d x h i =
      let z = inside_lies qs (k + d) x i in
      record {
        at = x - k;
        at_is = omega (arith, z.0);
        in_part = omega (arith, z.0, z.1, end_moved d h, end_there ps part.shape d h);
      }
