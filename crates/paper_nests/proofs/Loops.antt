-- Loops by levels: a loop's ENDDO is where the level first falls back to the level of its DO; a gap belongs to the last
-- point before it with a lower level. From here on nothing unfolds `end_of` or `owner_from`.
-- Main statements: `end-after`, `end_there`, `end_is_end`, `range_above`, `range_back`, `end_is`, `outermost`,
-- `nested`, `nested_or_disjoint`, `owner_law`, `owner-inside`, `owner_lower`, `end_has_do`, `owner_of_end`,
-- `owner_at_most`; of the test, `inside_lies`, `inside_by`.
use mathlib.Core.Path.{◌≡◌, refl, ap}
use mathlib.Core.Bool.{Bool, true, false, ◌&&◌}
use mathlib.Core.List.{List}
use mathlib.Core.Logic.{◌⊎◌, inl, inr, ⊎_elim}
use Prim.Native.Nat.{ℕ, zero, suc, ◌+◌, ◌-◌, ◌≤◌, ◌<◌}
use native.Mathlib.Omega.{arith}
use lib.Dec.{eqb, leb, ltb}
use lib.ListN.{length, get_or, drop}
use lib.Seq.{drop-cons}
use borrow.Author.Tests.{leb-true, le-leb, eqb-true, eqb-false, ltb-true, lt-ltb}
use Rattle.laws.specs.Choice.{pick}
use Rattle.laws.proofs.Tests.{never_both, le_or, le_by, lt_by, and_true, and_intro}
use Rattle.paper_nests.specs.Loops.{is_do, is_end, deeper, end_from, end_of, owner_from, owner_of, in_loop}
use Rattle.paper_nests.specs.Valid.{is_shape}
use Rattle.paper_nests.proofs.Levels.{lev, lev_up, lev_falls, lev_same, lev_zero, lev_inside, lev_last, point_in}
use Rattle.paper_nests.proofs.Levels.{starts_with_do, end_not_first, do_where_rises, Last, last_below}

-- a point inside a loop
pub inside_lies : (ps : List ℕ) (d x : ℕ) → in_loop ps d x ≡ true → (d < x) × (x < end_of ps d)
inside_lies ps d x h =
    let z = and_true (ltb d x) (ltb x (end_of ps d)) h in
    (ltb-true d x z.0, ltb-true x (end_of ps d) z.1)

pub inside_by : (ps : List ℕ) (d x : ℕ) → d < x → x < end_of ps d → in_loop ps d x ≡ true
inside_by ps d x l m = and_intro (lt-ltb d x l) (lt-ltb x (end_of ps d) m)

-- e is the first point at or after i at which the level falls back to b
record Falls (ps : List ℕ) (b i e : ℕ) : Type 0 where
  from : i ≤ e
  there : e < length ps
  ends : is_end ps e ≡ true
  back : lev ps (suc e) ≡ b
  above : (j : ℕ) → i ≤ j → j ≤ e → b < lev ps j

falls_now :
    (ps : List ℕ) (b i : ℕ) → i < length ps → is_end ps i ≡ true → lev ps (suc i) ≡ b → b < lev ps i → Falls ps b i i
falls_now ps b i l e h u = record { from = omega arith; there = l; ends = e; back = h; above = above }
  where
    above : (j : ℕ) → i ≤ j → j ≤ i → b < lev ps j
    above j p q = let z : j ≡ i = omega arith in rw z u

falls_later : (ps : List ℕ) (b i e : ℕ) → b < lev ps i → Falls ps b (suc i) e → Falls ps b i e
falls_later ps b i e u f =
    record { from = omega (arith, f.from); there = f.there; ends = f.ends; back = f.back; above = above }
  where
    above : (j : ℕ) → i ≤ j → j ≤ e → b < lev ps j
    above j p q = ⊎_elim
        (λ (z : suc i ≤ j). f.above j z q)
        (λ (z : j < suc i). let y : j ≡ i = omega arith in rw y u)
        (le_or (suc i) j)

-- the search of `end_from` finds it, at k levels above b
end_search :
    (ps : List ℕ) (w : is_shape ps ≡ true) (n b i k : ℕ) → i + n ≡ length ps → lev ps i ≡ b + suc k →
    Falls ps b i (end_from i (suc k) (drop i ps))
end_search ps w zero b i k l h =
    let z : i ≡ length ps = omega arith in
    absurd (omega (arith, lev_last ps w, ap (lev ps) z))
end_search ps w (suc n) b i k l h =
    rw (drop-cons ps i 0 (omega arith)) (go (is_do ps i) (is_end ps i) refl refl (end_search ps w n b (suc i)))
  where
    rest : ℕ → ℕ
    rest m = end_from (suc i) m (drop (suc i) ps)

    go :
        (x y : Bool) → is_do ps i ≡ x → is_end ps i ≡ y →
        ((m : ℕ) → suc i + n ≡ length ps → lev ps (suc i) ≡ b + suc m → Falls ps b (suc i) (rest (suc m))) →
        Falls ps b i (pick (is_end ps i && eqb (suc k) 1) i (rest (deeper (suc k) (get_or ps i 0))))
    go true y p q r =
        let z : get_or ps i 0 ≡ 1 = eqb-true (get_or ps i 0) 1 p in
        let f = r (suc k) (omega arith) (omega (arith, lev_up ps i p)) in
        rw z (falls_later ps b i (rest (suc (suc k))) (omega arith) f)
    go false true p q r =
        let z : get_or ps i 0 ≡ 2 = eqb-true (get_or ps i 0) 2 q in
        rw z (shut (eqb (suc k) 1) refl)
      where
        shut : (x : Bool) → eqb (suc k) 1 ≡ x → Falls ps b i (pick x i (rest (suc k - 1)))
        shut true e =
            let z : suc k ≡ 1 = eqb-true (suc k) 1 e in
            falls_now ps b i (omega arith) q (omega (arith, lev_falls ps w i q)) (omega arith)
        shut false e =
            let z = eqb-false (suc k) 1 e in
            let y : suc k - 1 ≡ suc (k - 1) = omega arith in
            let f = r (k - 1) (omega arith) (omega (arith, lev_falls ps w i q)) in
            rw y (falls_later ps b i (rest (suc (k - 1))) (omega arith) f)
    go false false p q r =
        let f = r k (omega arith) (omega (arith, lev_same ps i p q)) in
        rw (q, p) (falls_later ps b i (rest (suc k)) (omega arith) f)

-- a DO's range, by levels
record Range (ps : List ℕ) (d : ℕ) : Type 0 where
  after : d < end_of ps d
  there : end_of ps d < length ps
  ends : is_end ps (end_of ps d) ≡ true
  back : lev ps (suc (end_of ps d)) ≡ lev ps d
  above : (j : ℕ) → d < j → j ≤ end_of ps d → lev ps d < lev ps j

range_of : (ps : List ℕ) → is_shape ps ≡ true → (d : ℕ) → is_do ps d ≡ true → Range ps d
range_of ps w d h =
    let l : d < length ps = point_in ps d 0 h in
    let z : get_or ps d 0 ≡ 1 = eqb-true (get_or ps d 0) 1 h in
    let e : end_of ps d ≡ end_from (suc d) 1 (drop (suc d) ps) = rw (drop-cons ps d 0 l, z) in
    range e (end_search ps w (length ps - suc d) (lev ps d) (suc d) 0 (omega arith) (omega (arith, lev_up ps d h)))
  where
    range : {e : ℕ} → end_of ps d ≡ e → Falls ps (lev ps d) (suc d) e → Range ps d
    range {e} q f =
        record {
          after = rw q f.from;
          there = rw q f.there;
          ends = rw q f.ends;
          back = rw q f.back;
          above = λ j a c. f.above j a (rw q at c);
        }

-- h is the last DO below k whose loop ends at g or later
pub record Owner (ps : List ℕ) (k g h : ℕ) : Type 0 where
  pub loop : is_do ps h ≡ true
  pub below : h < k
  pub holds : g ≤ end_of ps h
  pub most : (d : ℕ) → is_do ps d ≡ true → d < k → g ≤ end_of ps d → d ≤ h

owner_now : (ps : List ℕ) (k g : ℕ) → is_do ps k ≡ true → g ≤ end_of ps k → Owner ps (suc k) g k
owner_now ps k g h e = record { loop = h; below = omega arith; holds = e; most = λ d a b c. omega arith }

owner_later :
    (ps : List ℕ) (k g h : ℕ) → (is_do ps k && leb g (end_of ps k)) ≡ false → Owner ps k g h → Owner ps (suc k) g h
owner_later ps k g h e o =
    record { loop = o.loop; below = omega (arith, o.below); holds = o.holds; most = most }
  where
    most : (d : ℕ) → is_do ps d ≡ true → d < suc k → g ≤ end_of ps d → d ≤ h
    most d a b c = ⊎_elim (λ (z : suc d ≤ k). o.most d a z c) (λ (z : k < suc d). same (omega arith)) (le_or (suc d) k)
      where
        same : d ≡ k → d ≤ h
        same z =
            let a' : is_do ps k ≡ true = rw z at a in
            let c' : g ≤ end_of ps k = rw z at c in
            never_both (and_intro a' (le-leb g (end_of ps k) c')) e

-- the search stays below its bound
pub owner_from_below : (ps : List ℕ) (k g : ℕ) → owner_from (suc k) g ps ≤ k
owner_from_below ps zero g = go (is_do ps 0 && leb g (end_of ps 0))
  where
    go : (t : Bool) → elim t [ true ↦ 0 | false ↦ 0 ] ≤ 0
    go true = omega arith
    go false = omega arith
owner_from_below ps (suc k) g = go (is_do ps (suc k) && leb g (end_of ps (suc k))) (owner_from_below ps k g)
  where
    go : (t : Bool) → owner_from (suc k) g ps ≤ k → elim t [ true ↦ suc k | false ↦ owner_from (suc k) g ps ] ≤ suc k
    go true h = omega arith
    go false h = omega arith

pub owner_at_most : (ps : List ℕ) (g : ℕ) → owner_of ps g ≤ g
owner_at_most ps zero = omega arith
owner_at_most ps (suc g) = omega (arith, owner_from_below ps g (suc g))

-- two of them are the same loop
pub owner_unique : {ps : List ℕ} {k g h x : ℕ} → Owner ps k g h → Owner ps k g x → h ≡ x
owner_unique {ps} {k} {g} {h} {x} o p =
    omega (arith, o.most x p.loop p.below p.holds, p.most h o.loop o.below o.holds)

module _ (ps : List ℕ) (shape : is_shape ps ≡ true) where
  -- every DO has its ENDDO after it
  pub end-after : (d : ℕ) → is_do ps d ≡ true → d < end_of ps d
  end-after d h = (range_of ps shape d h).after

  pub end_there : (d : ℕ) → is_do ps d ≡ true → end_of ps d < length ps
  end_there d h = (range_of ps shape d h).there

  pub end_is_end : (d : ℕ) → is_do ps d ≡ true → is_end ps (end_of ps d) ≡ true
  end_is_end d h = (range_of ps shape d h).ends

  -- the level over a loop's range, and after it
  pub range_above : (d j : ℕ) → is_do ps d ≡ true → d < j → j ≤ end_of ps d → lev ps d < lev ps j
  range_above d j h = (range_of ps shape d h).above j

  pub range_back : (d : ℕ) → is_do ps d ≡ true → lev ps (suc (end_of ps d)) ≡ lev ps d
  range_back d h = (range_of ps shape d h).back

  -- a loop reaches every place up to which the level stays above its own
  pub end_beyond :
      (d g : ℕ) → is_do ps d ≡ true → ((j : ℕ) → d < j → j ≤ g → lev ps d < lev ps j) → d < g → g ≤ end_of ps d
  end_beyond d g h u l =
      le_by λ z.
      let b = u (suc (end_of ps d)) (omega (arith, end-after d h)) (omega arith) in
      omega (arith, range_back d h)

  -- where the level first falls back, the loop ends
  pub end_is :
      (d e : ℕ) → is_do ps d ≡ true → d < e → ((j : ℕ) → d < j → j ≤ e → lev ps d < lev ps j) →
      lev ps (suc e) ≤ lev ps d → end_of ps d ≡ e
  end_is d e h l u b =
      let z : end_of ps d ≤ e = le_by λ y. let x = range_above d (suc e) h (omega arith) (omega arith) in omega arith in
      omega (arith, end_beyond d e h u l)

  -- the outermost loop
  pub outermost : suc (end_of ps 0) ≡ length ps
  outermost =
      let h = starts_with_do ps shape in
      let z = lev_zero ps in
      let t : end_of ps 0 < length ps = end_there 0 h in
      let y : length ps ≤ suc (end_of ps 0) =
      le_by λ x. let q = lev_inside ps shape (suc (end_of ps 0)) (omega arith) x in omega (arith, range_back 0 h) in
      omega arith

  pub end_in_outermost : (d : ℕ) → is_do ps d ≡ true → end_of ps d ≤ end_of ps 0
  end_in_outermost d h = omega (arith, outermost, end_there d h)

  -- ranges are nested or disjoint
  pub nested :
      (d x : ℕ) → is_do ps d ≡ true → is_do ps x ≡ true → d < x → x ≤ end_of ps d → end_of ps x < end_of ps d
  nested d x h k l m =
      lt_by λ z. ⊎_elim
      (λ (y : suc (end_of ps d) ≤ end_of ps x).
      omega (arith, range_above x (suc (end_of ps d)) k (omega arith) y, range_back d h, u))
      (λ (y : end_of ps x < suc (end_of ps d)). same (omega arith))
      (le_or (suc (end_of ps d)) (end_of ps x))
    where
      u : lev ps d < lev ps x
      u = range_above d x h l m

      same : end_of ps x ≡ end_of ps d → ⊥
      same e = omega (arith, u, range_back d h, range_back x k, ap (λ (i : ℕ). lev ps (suc i)) e)

  pub nested_or_disjoint :
      (d x : ℕ) → is_do ps d ≡ true → is_do ps x ≡ true → d < x → (end_of ps x < end_of ps d) ⊎ (end_of ps d < x)
  nested_or_disjoint d x h k l =
      ⊎_elim (λ (z : x ≤ end_of ps d). inl (nested d x h k l z)) (λ (z : end_of ps d < x). inr z) (le_or x (end_of ps d))

  -- two loops do not end at one point
  pub end_injective : (d x : ℕ) → is_do ps d ≡ true → is_do ps x ≡ true → end_of ps d ≡ end_of ps x → d ≡ x
  end_injective d x h k e =
      let a : x ≤ d = le_by λ z. omega (arith, nested d x h k z (omega (arith, end-after x k))) in
      let b : d ≤ x = le_by λ z. omega (arith, nested x d k h z (omega (arith, end-after d h))) in
      omega arith

  -- the search of `owner_from` finds the last DO below k whose loop reaches g
  pub owner_search : (k g : ℕ) → 0 < k → g < length ps → Owner ps k g (owner_from k g ps)
  owner_search zero g a b = absurd (omega arith)
  owner_search (suc zero) g a b = go (is_do ps 0 && leb g (end_of ps 0))
    where
      go : (t : Bool) → Owner ps 1 g (elim t [ true ↦ 0 | false ↦ 0 ])
      go true = owner_now ps 0 g (starts_with_do ps shape) (omega (arith, outermost))
      go false = owner_now ps 0 g (starts_with_do ps shape) (omega (arith, outermost))
  owner_search (suc (suc k)) g a b =
      go (is_do ps (suc k) && leb g (end_of ps (suc k))) refl (owner_search (suc k) g (omega arith) b)
    where
      go :
          (t : Bool) → (is_do ps (suc k) && leb g (end_of ps (suc k))) ≡ t → Owner ps (suc k) g (owner_from (suc k) g ps) →
          Owner ps (suc (suc k)) g (elim t [ true ↦ suc k | false ↦ owner_from (suc k) g ps ])
      go true e o =
          let z = and_true (is_do ps (suc k)) (leb g (end_of ps (suc k))) e in
          owner_now ps (suc k) g z.0 (leb-true g (end_of ps (suc k)) z.1)
      go false e o = owner_later ps (suc k) g (owner_from (suc k) g ps) e o

  pub owner_from_is : (k g h : ℕ) → 0 < k → g < length ps → Owner ps k g h → owner_from k g ps ≡ h
  owner_from_is k g h a b o = owner_unique (owner_search k g a b) o

  -- 01, "The nest and its gaps": gap g belongs to the innermost loop with DO below g and ENDDO at or above g
  pub owner_law : (g : ℕ) → 0 < g → g < length ps → Owner ps g g (owner_of ps g)
  owner_law g a b = owner_search g g a b

  pub owner_is : (g h : ℕ) → 0 < g → g < length ps → Owner ps g g h → owner_of ps g ≡ h
  owner_is g h a b o = owner_from_is g g h a b o

  -- by levels: the last point before g with a lower level
  owner_by_levels : (g : ℕ) → 0 < g → g < length ps → (l : Last (lev ps) (lev ps g) g) → Owner ps g g l.at
  owner_by_levels g a b l =
      record { loop = loop; below = l.before; holds = end_beyond l.at g loop above l.before; most = most }
    where
      u : lev ps g ≤ lev ps (suc l.at)
      u = ⊎_elim
          (λ (z : suc (suc l.at) ≤ g). l.after (suc l.at) (omega arith) z)
          (λ (z : g < suc (suc l.at)). let e : suc l.at ≡ g = omega (arith, l.before) in rw e (omega arith))
          (le_or (suc (suc l.at)) g)

      loop : is_do ps l.at ≡ true
      loop = do_where_rises ps l.at (omega (arith, l.low, u))

      above : (j : ℕ) → l.at < j → j ≤ g → lev ps l.at < lev ps j
      above j p q = ⊎_elim
          (λ (z : suc j ≤ g). omega (arith, l.low, l.after j p z))
          (λ (z : g < suc j). let e : j ≡ g = omega arith in rw e l.low)
          (le_or (suc j) g)

      most : (d : ℕ) → is_do ps d ≡ true → d < g → g ≤ end_of ps d → d ≤ l.at
      most d h p q = le_by λ z. omega (arith, l.after d z p, range_above d g h p q)

  last_lower : (g : ℕ) → 0 < g → g < length ps → Last (lev ps) (lev ps g) g
  last_lower g a b = last_below (lev ps) (lev ps g) g (omega (arith, lev_zero ps, lev_inside ps shape g a b)) a

  owner-at : (g : ℕ) (a : 0 < g) (b : g < length ps) → owner_of ps g ≡ (last_lower g a b).at
  owner-at g a b = owner_is g (last_lower g a b).at a b (owner_by_levels g a b (last_lower g a b))

  -- no point between a gap's loop and the gap has a lower level than the gap
  pub owner_last : (g j : ℕ) → 0 < g → g < length ps → owner_of ps g < j → j ≤ g → lev ps g ≤ lev ps j
  owner_last g j a b p q = ⊎_elim
      (λ (z : suc j ≤ g). (last_lower g a b).after j (rw (owner-at g a b) at p) z)
      (λ (z : g < suc j). let e : j ≡ g = omega arith in rw e (omega arith))
      (le_or (suc j) g)

  -- a gap's level is one above its loop's
  pub owner_lower : (g : ℕ) → 0 < g → g < length ps → suc (lev ps (owner_of ps g)) ≡ lev ps g
  owner_lower g a b =
      let o = owner_law g a b in
      let h = owner_of ps g in
      let u = owner_last g (suc h) a b (omega arith) o.below in
      omega (arith, lev_up ps h o.loop, range_above h g o.loop o.below o.holds)

  -- every ENDDO has its DO before it: the loop that the gap before it belongs to
  pub end_has_do : (e : ℕ) → is_end ps e ≡ true → end_of ps (owner_of ps e) ≡ e
  end_has_do e h =
      let a : 0 < e = end_not_first ps shape e h in
      let b : e < length ps = point_in ps e 1 h in
      let o = owner_law e a b in
      let d = owner_of ps e in
      let c = owner_lower e a b in
      let f = lev_falls ps shape e h in
      end_is d e o.loop o.below (λ j p q. omega (arith, owner_last e j a b p q)) (omega arith)

  pub owner_is_do : (g : ℕ) → 0 < g → g < length ps → is_do ps (owner_of ps g) ≡ true
  owner_is_do g a b = (owner_law g a b).loop

  pub owner_below : (g : ℕ) → 0 < g → g < length ps → owner_of ps g < g
  owner_below g a b = (owner_law g a b).below

  pub owner_holds : (g : ℕ) → 0 < g → g < length ps → g ≤ end_of ps (owner_of ps g)
  owner_holds g a b = (owner_law g a b).holds

  pub end_owner_before : (e : ℕ) → is_end ps e ≡ true → owner_of ps e < e
  end_owner_before e h = owner_below e (end_not_first ps shape e h) (point_in ps e 1 h)

  -- any loop whose range holds g is the gap's loop or lies around it
  pub owner-inside : (d g : ℕ) → is_do ps d ≡ true → d < g → g ≤ end_of ps d → d ≤ owner_of ps g
  owner-inside d g h l m = (owner_law g (omega arith) (omega (arith, end_there d h))).most d h l m

  pub owner_of_end : (d : ℕ) → is_do ps d ≡ true → owner_of ps (end_of ps d) ≡ d
  owner_of_end d h =
      let e = end_of ps d in
      let k : is_end ps e ≡ true = end_is_end d h in
      let a : 0 < e = end_not_first ps shape e k in
      end_injective (owner_of ps e) d (owner_is_do e a (end_there d h)) h (end_has_do e k)
