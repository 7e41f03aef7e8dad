-- What a try leaves, told without its order: the new barrier, and of the others just those that are needed. A barrier
-- is needed if it is the highest of a dependence that neither the new barrier nor one kept below it cuts. No two
-- placements are so.
-- Main definitions: `Needed`, `Trimmed`. Main statements: `one_trimmed`, `try_trimmed`, `try_gaps`.
use mathlib.Core.Path.{◌≡◌, refl, sym, ◌∙◌}
use mathlib.Core.Bool.{Bool, true, false, ◌&&◌, not}
use mathlib.Core.List.{List, [], ◌∷◌}
use mathlib.Core.Logic.{inl, inr, ⊎_elim}
use Prim.Native.Nat.{ℕ, zero, suc, ◌≤◌, ◌<◌}
use native.Mathlib.Omega.{arith}
use lib.Dec.{eqb}
use lib.ListN.{length}
use borrow.Author.Tests.{eqb-true, eq-eqb, eqb-false, ne_eqb}
use Rattle.laws.specs.Choice.{pick, is_in}
use Rattle.laws.specs.Members.{Among}
use Rattle.laws.proofs.Tests.{le_or, eq_or, bool_by, never, never_both, and_true, or_right}
use Rattle.laws.proofs.Members.{in_here, in_later, in_cons}
use Rattle.paper_nests.specs.Nests.{Dep, Nest}
use Rattle.paper_nests.specs.Gaps.{has_gap}
use Rattle.paper_placements.specs.Placements.{cuts, uncut_from, uncut, are_gaps_from, are_gaps}
use Rattle.paper_placements.specs.GapLists.{with_gap, without}
use Rattle.paper_placements.proofs.Cuts.{CutBy, cut_has_gap, gap_cuts, AllCut, uncut_none}
use Rattle.paper_placements.proofs.Rising.{Rises, rises, rising_in, rising_equal}
use Rattle.paper_placements.proofs.GapLists.{in_with, rising_with, in_without, rising_without}
use Rattle.call_improve.specs.Tries.{taken_away, try_at}
use Rattle.call_improve.proofs.TopLaws.{Top}

-- a dependence with highest barrier h that, of the placement y, neither the new barrier g cuts nor one below h
pub record Needed (ps : List ℕ) (ds : List Dep) (x : List ℕ) (g : ℕ) (y : List ℕ) (h : ℕ) : Type 0 where
  pub by : Dep
  pub among : Among by ds
  pub top : Top ps by x h
  pub alone : (k : ℕ) → is_in k y ≡ true → has_gap ps by k ≡ true → (k ≡ g → ⊥) × (h ≤ k)

-- y has the new barrier g and, of the barriers x, those that are needed; it cuts every dependence
pub record Trimmed (ps : List ℕ) (ds : List Dep) (x : List ℕ) (g : ℕ) (y : List ℕ) : Type 0 where
  pub new : is_in g y ≡ true
  pub old : (k : ℕ) → is_in k y ≡ true → (k ≡ g → ⊥) → is_in k x ≡ true
  pub cut : AllCut ps ds y
  pub needed : (h : ℕ) → is_in h y ≡ true → (h ≡ g → ⊥) → Needed ps ds x g y h

-- ---- no two placements are so

module _ (ps : List ℕ) (ds : List Dep) (x : List ℕ) (g : ℕ) where
  -- where both have the same barriers below h, the other has h as well
  other_has
      : (y z : List ℕ) (h : ℕ)
      → Trimmed ps ds x g y
      → Trimmed ps ds x g z
      → ((k : ℕ) → k < h → is_in k z ≡ true → is_in k y ≡ true)
      → is_in h y ≡ true
      → is_in h z ≡ true
  other_has y z h a b below p =
      ⊎_elim
      (λ (q : h ≡ g). rw q b.new)
      (λ (q : h ≡ g → ⊥). found (a.needed h p q))
      (eq_or h g)
    where
      found : Needed ps ds x g y h → is_in h z ≡ true
      found w = go (cut_has_gap ps w.by z (b.cut w.by w.among))
        where
          go : CutBy ps w.by z → is_in h z ≡ true
          go c =
              let other : c.gap ≡ g → ⊥ = λ q. (w.alone g a.new (rw q at c.its)).0 refl in
              let low : c.gap ≤ h = w.top.last c.gap (b.old c.gap c.placed other) c.its in
              ⊎_elim
              (λ (q : h ≤ c.gap). let e : h ≡ c.gap = omega arith in rw e c.placed)
              (λ (q : c.gap < h).
              absurd (omega (arith, (w.alone c.gap (below c.gap q c.placed) c.its).1)))
              (le_or h c.gap)

  same_below
      : (y z : List ℕ)
      → Trimmed ps ds x g y
      → Trimmed ps ds x g z
      → (m h : ℕ)
      → h < m
      → is_in h y ≡ is_in h z
  same_below y z a b zero h l = absurd (omega arith)
  same_below y z a b (suc m) h l =
      bool_by
      (is_in h y)
      (is_in h z)
      (other_has y z h a b (λ k i q. same_below y z a b m k (omega arith) ∙ q))
      (other_has z y h b a (λ k i q. sym (same_below y z a b m k (omega arith)) ∙ q))

  -- rising lists that are so are equal
  pub one_trimmed
      : (n : ℕ) (y z : List ℕ)
      → are_gaps_from 0 n y ≡ true
      → are_gaps_from 0 n z ≡ true
      → Trimmed ps ds x g y
      → Trimmed ps ds x g z
      → y ≡ z
  one_trimmed n y z p q a b = rising_equal 0 n y z p q (λ h. same_below y z a b (suc h) h (omega arith))

-- ---- a try is so

-- a dependence that is not cut
record Missed (ps : List ℕ) (ds : List Dep) (y : List ℕ) : Type 0 where
  pub by : Dep
  pub among : Among by ds
  pub missed : cuts ps by y ≡ false

missed_from : (ps : List ℕ) (ds : List Dep) (y : List ℕ) (i : ℕ) → (uncut_from i ps ds y ≡ 0 → ⊥) → Missed ps ds y
missed_from ps [] y i h = absurd (h refl)
missed_from ps (e ∷ es) y i h = go (cuts ps e y) refl h (missed_from ps es y (suc i))
  where
    go
        : (t : Bool)
        → cuts ps e y ≡ t
        → (pick t (uncut_from (suc i) ps es y) (suc i) ≡ 0 → ⊥)
        → ((uncut_from (suc i) ps es y ≡ 0 → ⊥) → Missed ps es y)
        → Missed ps (e ∷ es) y
    go true q p rest = let m = rest p in record { by = m.by; among = inr m.among; missed = m.missed }
    go false q p rest = record { by = e; among = inl refl; missed = q }

-- when the barriers hs are still to be looked at, those of x above `last`
record Stage (n : Nest) (x : List ℕ) (g last : ℕ) (hs y : List ℕ) : Type 0 where
  pub gaps : are_gaps n y ≡ true
  pub new : is_in g y ≡ true
  pub old : (k : ℕ) → is_in k y ≡ true → (k ≡ g → ⊥) → is_in k x ≡ true
  pub cut : AllCut n.points n.deps y
  pub rising : are_gaps_from last (length n.points) hs ≡ true
  pub ahead : (k : ℕ) → is_in k hs ≡ true → (k ≡ g → ⊥) × (is_in k y ≡ true)
  pub all : (k : ℕ) → is_in k x ≡ true → last < k → is_in k hs ≡ true
  pub needed
      : (h : ℕ)
      → is_in h y ≡ true
      → (h ≡ g → ⊥)
      → is_in h hs ≡ false
      → Needed n.points n.deps x g y h

-- the result, with its gaps
record Left (n : Nest) (x : List ℕ) (g : ℕ) (y : List ℕ) : Type 0 where
  pub gaps : are_gaps n y ≡ true
  pub trimmed : Trimmed n.points n.deps x g y

-- fewer barriers leave a need
fewer_needed
    : (ps : List ℕ) (ds : List Dep) (x : List ℕ) (g : ℕ) (y z : List ℕ) (h : ℕ)
    → ((k : ℕ) → is_in k z ≡ true → is_in k y ≡ true)
    → Needed ps ds x g y h
    → Needed ps ds x g z h
fewer_needed ps ds x g y z h f w =
    record { by = w.by; among = w.among; top = w.top; alone = λ k p q. w.alone k (f k p) q }

module _ (n : Nest) (x : List ℕ) (g : ℕ) where
  -- the first of the barriers ahead is taken away, or kept
  module _ (last h : ℕ) (hs y : List ℕ) (s : Stage n x g last (h ∷ hs) y) where
    up : Rises last (length n.points) h hs
    up = rises last (length n.points) h hs s.rising

    in_less : (k : ℕ) → is_in k (without h y) ≡ (not (eqb k h) && is_in k y)
    in_less k = in_without 0 (length n.points) h k y s.gaps

    less_in : (k : ℕ) → is_in k (without h y) ≡ true → (k ≡ h → ⊥) × (is_in k y ≡ true)
    less_in k p =
        let q = and_true (not (eqb k h)) (is_in k y) (sym (in_less k) ∙ p) in
        (λ z. never (rw (eq-eqb k h z) at q.0), q.1)

    in_less_by : (k : ℕ) → (k ≡ h → ⊥) → is_in k y ≡ true → is_in k (without h y) ≡ true
    in_less_by k p q = in_less k ∙ rw (ne_eqb k h p) q

    -- what is ahead after h is not h
    past : (k : ℕ) → is_in k hs ≡ true → (k ≡ h → ⊥)
    past k p z = omega (arith, (rising_in h (length n.points) hs k up.rest p).0)

    later : (k : ℕ) → is_in k x ≡ true → h < k → is_in k hs ≡ true
    later k p l =
        ⊎_elim
        (λ (z : k ≡ h). absurd (omega arith))
        (λ (z : is_in k hs ≡ true). z)
        (in_cons k h hs (s.all k p (omega (arith, up.above))))

    taken : uncut n (without h y) ≡ 0 → Stage n x g h hs (without h y)
    taken z =
        record {
          gaps = rising_without 0 (length n.points) h y s.gaps;
          new = in_less_by g (λ q. (s.ahead h (in_here h hs)).0 (sym q)) s.new;
          old = λ k p q. s.old k (less_in k p).1 q;
          cut = uncut_none n (without h y) z;
          rising = up.rest;
          ahead =
              λ k p.
              let a = s.ahead k (in_later k h hs p) in
              (a.0, in_less_by k (past k p) a.1);
          all = later;
          needed =
              λ k p q r.
              let a = less_in k p in
              fewer_needed n.points n.deps x g y (without h y) k (λ i w. (less_in i w).1)
              (s.needed k a.1 q (rw (ne_eqb k h a.0) r));
        }

    -- what misses without h has h for its highest barrier, and no other
    need : Missed n.points n.deps (without h y) → Needed n.points n.deps x g y h
    need m = record { by = m.by; among = m.among; top = highest; alone = alone }
      where
        only : (k : ℕ) → is_in k y ≡ true → has_gap n.points m.by k ≡ true → k ≡ h
        only k p q =
            ⊎_elim
            (λ (z : k ≡ h). z)
            (λ (z : k ≡ h → ⊥).
            never_both (gap_cuts n.points m.by (without h y) k (in_less_by k z p) q) m.missed)
            (eq_or k h)

        has : has_gap n.points m.by h ≡ true
        has = go (cut_has_gap n.points m.by y (s.cut m.by m.among))
          where
            go : CutBy n.points m.by y → has_gap n.points m.by h ≡ true
            go c = let e : c.gap ≡ h = only c.gap c.placed c.its in rw e at c.its

        top : (k : ℕ) → is_in k x ≡ true → has_gap n.points m.by k ≡ true → k ≤ h
        top k p q =
            ⊎_elim
            (λ (z : k ≤ h). z)
            (λ (z : h < k). omega (arith, only k (s.ahead k (in_later k h hs (later k p z))).1 q))
            (le_or k h)

        highest : Top n.points m.by x h
        highest =
            let a = s.ahead h (in_here h hs) in
            record { placed = s.old h a.1 a.0; has = has; last = top }

        alone : (k : ℕ) → is_in k y ≡ true → has_gap n.points m.by k ≡ true → (k ≡ g → ⊥) × (h ≤ k)
        alone k p q =
            let e : k ≡ h = only k p q in
            (λ z. (s.ahead h (in_here h hs)).0 (sym e ∙ z), omega arith)

    kept : (uncut n (without h y) ≡ 0 → ⊥) → Stage n x g h hs y
    kept z =
        record {
          gaps = s.gaps;
          new = s.new;
          old = s.old;
          cut = s.cut;
          rising = up.rest;
          ahead = λ k p. s.ahead k (in_later k h hs p);
          all = later;
          needed =
              λ k p q r.
              ⊎_elim
              (λ (w : k ≡ h). rw w (need (missed_from n.points n.deps (without h y) 0 z)))
              (λ (w : k ≡ h → ⊥). s.needed k p q (rw (ne_eqb k h w) r))
              (eq_or k h);
        }

  stage_left : (hs y : List ℕ) (last : ℕ) → Stage n x g last hs y → Left n x g (taken_away n hs y)
  unfolding taken_away
  stage_left [] y last s =
      record {
        gaps = s.gaps;
        trimmed =
            record { new = s.new; old = s.old; cut = s.cut; needed = λ h p q. s.needed h p q refl };
      }
  stage_left (h ∷ hs) y last s =
      go (eqb (uncut n (without h y)) 0) refl (stage_left hs (without h y) h) (stage_left hs y h)
    where
      go
          : (t : Bool)
          → eqb (uncut n (without h y)) 0 ≡ t
          → (Stage n x g h hs (without h y) → Left n x g (taken_away n hs (without h y)))
          → (Stage n x g h hs y → Left n x g (taken_away n hs y))
          → Left n x g (taken_away n hs (pick t (without h y) y))
      go true e less same = less (taken last h hs y s (eqb-true (uncut n (without h y)) 0 e))
      go false e less same = same (kept last h hs y s (eqb-false (uncut n (without h y)) 0 e))

  -- from a correct placement without g
  module _
      (gaps : are_gaps n x ≡ true) (cut : AllCut n.points n.deps x) (free : is_in g x ≡ false) (some : 0 < g)
      (inside : g < length n.points)
    where
      begun : Stage n x g 0 x (with_gap g x)
      begun =
          record {
            gaps = rising_with 0 (length n.points) g x gaps some inside free;
            new = in_with g g x ∙ rw (eq-eqb g g refl);
            old = λ k p q. sym (in_with g k x ∙ rw (ne_eqb k g q)) ∙ p;
            cut = λ e a. wider e (cut_has_gap n.points e x (cut e a));
            rising = gaps;
            ahead = λ k p. (λ z. never_both p (rw z free), in_with g k x ∙ or_right (eqb k g) p);
            all = λ k p l. p;
            needed = λ k p q r. never_both (sym (in_with g k x ∙ rw (ne_eqb k g q)) ∙ p) r;
          }
        where
          wider : (e : Dep) → CutBy n.points e x → cuts n.points e (with_gap g x) ≡ true
          wider e c =
              gap_cuts n.points e (with_gap g x) c.gap
              (in_with g c.gap x ∙ or_right (eqb c.gap g) c.placed)
              c.its

      pub try_gaps : are_gaps n (try_at n x g) ≡ true
      try_gaps = (stage_left x (with_gap g x) 0 begun).gaps

      pub try_trimmed : Trimmed n.points n.deps x g (try_at n x g)
      try_trimmed = (stage_left x (with_gap g x) 0 begun).trimmed
