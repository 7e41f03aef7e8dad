-- The sets that a lap names are sets of the claim: a line of the loop, a dependence carried by it that the front of the
-- lap before leaves uncut, or the supposed suffix.
-- Main statements: `last-back`, `line-num`, `suffix_is`, `lap_sets`.
use mathlib.Core.Path.{◌≡◌, refl, sym, ap, ◌∙◌}
use mathlib.Core.Bool.{Bool, true, false, ◌&&◌}
use mathlib.Core.List.{List, [], ◌∷◌}
use mathlib.Core.Logic.{◌⊎◌, inl, inr, ⊎_elim}
use Prim.Native.Nat.{ℕ, suc, ◌≤◌, ◌<◌}
use native.Mathlib.Omega.{arith}
use lib.Dec.{eqb, ltb, leb}
use lib.ListN.{length}
use borrow.Author.Tests.{eqb-true, eq-eqb, ltb-true, ltb-false, lt-ltb, leb-true}
use Rattle.laws.specs.Choice.{pick, between}
use Rattle.laws.specs.Members.{Among}
use Rattle.laws.proofs.Tests.{never, never_both, and_true, and_false, and_intro}
use Rattle.paper_nests.specs.Kinds.{INDEPENDENT, CARRIED}
use Rattle.paper_nests.specs.Nests.{Dep, Nest}
use Rattle.paper_nests.specs.Loops.{is_do, end_of}
use Rattle.paper_nests.specs.Gaps.{has_gap}
use Rattle.paper_nests.proofs.Deps as D
use Rattle.plan_method.specs.Sweep.{need_of}
use Rattle.plan_method.specs.Home.{home_of, starts_at, reach_of, lines_in}
use Rattle.plan_method.proofs.World.{Lawful}
use Rattle.plan_method.proofs.Instance.{LineAt, BackAt, world_of, AllFit}
use Rattle.argue_claims.specs.Arguments.{Claim, dep_at, in_set, is_set}
use Rattle.argue_claims.proofs.Listed.{dep_among}
use Rattle.argue_key.specs.Laps.{Start, starting, is_back, starts_later, last_back, line_num, suffix_of}
use Rattle.argue_key.specs.Laps.{lap_need, lap_set}
use Rattle.argue_key.proofs.Traces.{Sets}

-- a dependence by its number
pub record Numbered (ds : List Dep) (p : Dep → Type 0) (m : ℕ) : Type 0 where
  pub short : m < length ds
  pub among : Among (dep_at ds m) ds
  pub is : p (dep_at ds m)

num_here : (e : Dep) (es : List Dep) (p : Dep → Type 0) → p e → Numbered (e ∷ es) p 0
num_here e es p h = record { short = omega arith; among = inl refl; is = h }

num_later : (e : Dep) (es : List Dep) (p : Dep → Type 0) (m : ℕ) → Numbered es p m → Numbered (e ∷ es) p (suc m)
num_later e es p m h = record { short = omega (arith, h.short); among = inr h.among; is = h.is }

abbrev pub is_line : List ℕ → ℕ → ℕ → ℕ → Dep → Bool
is_line ps d a t e = starts_at ps d a e && eqb e.t t

pub line-num : (ps : List ℕ) (d a t : ℕ) (ds : List Dep) (e : Dep) → Among e ds → is_line ps d a t e ≡ true →
    Numbered ds (λ x. is_line ps d a t x ≡ true) (line_num ps d a t ds)
unfolding line_num
line-num ps d a t [] e m h = absurd m
line-num ps d a t (x ∷ xs) e m h = go (is_line ps d a t x) refl m (λ z. line-num ps d a t xs e z h)
  where
    go : (b : Bool) → is_line ps d a t x ≡ b → (e ≡ x) ⊎ Among e xs →
        (Among e xs → Numbered xs (λ y. is_line ps d a t y ≡ true) (line_num ps d a t xs)) →
        Numbered (x ∷ xs) (λ y. is_line ps d a t y ≡ true) (pick b 0 (suc (line_num ps d a t xs)))
    go true z m r = num_here x xs (λ y. is_line ps d a t y ≡ true) z
    go false z (inl w) r = never_both (rw w at h) z
    go false z (inr w) r = num_later x xs (λ y. is_line ps d a t y ≡ true) (line_num ps d a t xs) (r w)

-- the greatest start of those that a front leaves uncut
pub record IsBack (ps : List ℕ) (d f a : ℕ) (e : Dep) : Type 0 where
  pub back : is_back ps d f e ≡ true
  pub starts : suc e.s ≡ a

pub record LastBack (ps : List ℕ) (d f : ℕ) (ds : List Dep) (r : Start) : Type 0 where
  pub found : 0 < r.at → Numbered ds (IsBack ps d f r.at) r.num
  pub most : (e : Dep) → Among e ds → is_back ps d f e ≡ true → suc e.s ≤ r.at

pub last-back : (ps : List ℕ) (d f : ℕ) (ds : List Dep) → LastBack ps d f ds (last_back ps d f ds)
unfolding last_back
last-back ps d f [] = record { found = λ z. absurd (omega arith); most = λ e m h. absurd m }
last-back ps d f (x ∷ xs) =
    go (is_back ps d f x && starts_later (last_back ps d f xs) x) refl (last_back ps d f xs) refl
    (last-back ps d f xs)
  where
    go : (b : Bool) → (is_back ps d f x && starts_later (last_back ps d f xs) x) ≡ b → (r : Start) →
        last_back ps d f xs ≡ r → LastBack ps d f xs r →
        LastBack ps d f (x ∷ xs) (pick b (starting (suc x.s) 0) (starting r.at (suc r.num)))
    go true z r w l =
        let h = and_true (is_back ps d f x) (ltb (last_back ps d f xs).at (suc x.s)) z in
        let v : (last_back ps d f xs).at ≡ r.at = ap (λ (y : Start). y.at) w in
        let u : (last_back ps d f xs).at < suc x.s = ltb-true (last_back ps d f xs).at (suc x.s) h.1 in
        record {
          found = λ p. num_here x xs (IsBack ps d f (suc x.s)) record { back = h.0; starts = refl };
          most = λ e m k. ⊎_elim
              (λ (q : e ≡ x). (let y : e.s ≡ x.s = ap (λ (j : Dep). j.s) q in omega (arith, y)))
              (λ (q : Among e xs). omega (arith, l.most e q k, u, v)) m;
        }
    go false z r w l =
        let v : (last_back ps d f xs).at ≡ r.at = ap (λ (y : Start). y.at) w in
        record {
          found = λ p. num_later x xs (IsBack ps d f r.at) r.num (l.found p);
          most = λ e m k. ⊎_elim
              (λ (q : e ≡ x). ⊎_elim
              (λ (y : is_back ps d f x ≡ false). never_both (rw q at k) y)
              (λ (y : ltb (last_back ps d f xs).at (suc x.s) ≡ false).
              (let o : e.s ≡ x.s = ap (λ (j : Dep). j.s) q in
              omega (arith, ltb-false (last_back ps d f xs).at (suc x.s) y, v, o)))
              (and_false (is_back ps d f x) (ltb (last_back ps d f xs).at (suc x.s)) z))
              (λ (q : Among e xs). l.most e q k) m;
        }

module _ (n : Nest) (key : List ℕ) (k : Claim) (laws : Lawful (world_of n.points n.deps)
    (lines_in n.points n.deps))
    (fit : AllFit n.points n.deps) (is-do : is_do n.points k.loop ≡ true)
    (from_low : 0 < k.from → k.loop < k.from) (from_high : k.from ≤ end_of n.points k.loop) where
  abbrev ps : List ℕ
  ps = n.points

  abbrev ds : List Dep
  ds = n.deps

  abbrev d : ℕ
  d = k.loop

  abbrev e : ℕ
  e = end_of n.points k.loop

  -- a carried dependence that a front f leaves uncut, as a fact
  pub record Uncut (f a m : ℕ) : Type 0 where
    pub short : m < length ds
    pub kind_is : (dep_at ds m).kind ≡ CARRIED
    pub home_is : (dep_at ds m).d ≡ d
    pub starts : suc (dep_at ds m).s ≡ a
    pub ends : (dep_at ds m).t < f
    pub low : d < a
    pub high : a ≤ e

  uncut : (f a m : ℕ) → Numbered ds (IsBack ps d f a) m → Uncut f a m
  uncut f a m h = go (fit (dep_at ds m) h.among)
    where
      go : D.Fits ps (dep_at ds m) → Uncut f a m
      go (inl l) = never (rw l.kind_is at h.is.back)
      go (inr b) =
          let y : (eqb (dep_at ds m).d d && ltb (dep_at ds m).t f) ≡ true = rw b.kind_is at h.is.back in
          let z = and_true (eqb (dep_at ds m).d d) (ltb (dep_at ds m).t f) y in
          let o : (dep_at ds m).d ≡ d = eqb-true (dep_at ds m).d d z.0 in
          let u : end_of ps (dep_at ds m).d ≡ e = ap (end_of ps) o in
          record {
            short = h.short;
            kind_is = b.kind_is;
            home_is = o;
            starts = h.is.starts;
            ends = ltb-true (dep_at ds m).t f z.1;
            low = omega (arith, b.source_after, o, h.is.starts);
            high = omega (arith, b.source_before, u, h.is.starts);
          }

  pub record Carried (f : ℕ) (r : Start) : Type 0 where
    pub num : ℕ
    pub is_num : r.num ≡ suc (suc num)
    pub uncut : Uncut f r.at num

  -- the suffix of a lap
  pub record Suffix (f : ℕ) (r : Start) : Type 0 where
    pub low : 0 < r.at → d < r.at
    pub high : r.at ≤ e
    pub from_le : k.from ≤ r.at
    pub covers : (a t : ℕ) → BackAt ps ds d a t → t < f → a ≤ r.at
    pub is : 0 < r.at → ((r.at ≡ k.from) × (r.num ≡ 0)) ⊎ Carried f r

  pub suffix_is : (f : ℕ) → Suffix f (suffix_of ps ds d k.from f)
  unfolding suffix_of
  suffix_is f = go (last_back ps d f ds) (last-back ps d f ds) (ltb k.from (last_back ps d f ds).at) refl
    where
      back_is : (a t : ℕ) (b : BackAt ps ds d a t) → t < f → is_back ps d f b.e ≡ true
      back_is a t b h = rw b.kind_is (and_intro (eq-eqb b.e.d d b.home_is)
          (lt-ltb b.e.t f (omega (arith, b.ends, h))))

      go : (r : Start) → LastBack ps d f ds r → (u : Bool) → ltb k.from r.at ≡ u →
          Suffix f (pick u (starting r.at (suc (suc r.num))) (starting k.from 0))
      go r l true z =
          let lt : k.from < r.at = ltb-true k.from r.at z in
          let c : Uncut f r.at r.num = uncut f r.at r.num (l.found (omega (arith, lt))) in
          record {
            low = λ p. c.low;
            high = c.high;
            from_le = omega (arith, lt);
            covers = λ a t b h. omega (arith, l.most b.e b.among (back_is a t b h), b.starts);
            is = λ p. inr (record { num = r.num; is_num = refl; uncut = c });
          }
      go r l false z =
          let le : r.at ≤ k.from = ltb-false k.from r.at z in
          record {
            low = from_low;
            high = from_high;
            from_le = omega arith;
            covers = λ a t b h. omega (arith, l.most b.e b.among (back_is a t b h), b.starts, le);
            is = λ p. inl (refl, refl);
          }

  -- one of the sets
  record One (f a m num : ℕ) : Type 0 where
    is-set : is_set n key k num ≡ true
    low : (g : ℕ) → in_set n key k num g ≡ true → d < g
    high : (g : ℕ) → in_set n key k num g ≡ true → g ≤ e
    shape : (g : ℕ) → in_set n key k num g ≡ true → ((a ≤ g) × (g ≤ m)) ⊎ ((m ≡ e) × (g < f))

  carried_one : (f a m : ℕ) → Uncut f a m → One f a e (suc (suc m))
  carried_one f a m c =
      record {
        is-set = lt-ltb m (length ds) c.short;
        low = λ g h. ⊎_elim
            (λ (z : ((dep_at ds m).d < g) × (g ≤ (dep_at ds m).t)). omega (arith, z.0, c.home_is))
            (λ (z : ((dep_at ds m).s < g) × (g ≤ end_of ps (dep_at ds m).d)). omega (arith, z.0, c.starts, c.low))
            (gap g h);
        high = λ g h. ⊎_elim
            (λ (z : ((dep_at ds m).d < g) × (g ≤ (dep_at ds m).t)). omega (arith, z.1, before))
            (λ (z : ((dep_at ds m).s < g) × (g ≤ end_of ps (dep_at ds m).d)). omega (arith, z.1, end_is)) (gap g h);
        shape = λ g h. ⊎_elim
            (λ (z : ((dep_at ds m).d < g) × (g ≤ (dep_at ds m).t)). inr (refl, omega (arith, z.1, c.ends)))
            (λ (z : ((dep_at ds m).s < g) × (g ≤ end_of ps (dep_at ds m).d)).
            inl (omega (arith, z.0, c.starts), omega (arith, z.1, end_is))) (gap g h);
      }
    where
      end_is : end_of ps (dep_at ds m).d ≡ e
      end_is = ap (end_of ps) c.home_is

      gap : (g : ℕ) → has_gap ps (dep_at ds m) g ≡ true →
          (((dep_at ds m).d < g) × (g ≤ (dep_at ds m).t)) ⊎ (((dep_at ds m).s < g) × (g ≤ end_of ps (dep_at ds m).d))
      gap g h = D.back_gap ps (dep_at ds m) g c.kind_is h

      before : (dep_at ds m).t ≤ e
      before = omega (
        arith,
        (D.is-back ps (dep_at ds m) (fit (dep_at ds m) (dep_among ds m c.short))
            (λ z. (let y : ◌≡◌ {A = ℕ} INDEPENDENT CARRIED = sym z ∙ c.kind_is in omega arith))).target_before,
        end_is,
      )

  from_one : (f : ℕ) → 0 < k.from → One f k.from e 0
  from_one f p =
      record {
        is-set = lt-ltb 0 k.from p;
        low = λ g h. omega (arith, from_low p, (at g h).0);
        high = λ g h. (at g h).1;
        shape = λ g h. inl (at g h);
      }
    where
      at : (g : ℕ) → (ltb 0 k.from && between k.from g e) ≡ true → (k.from ≤ g) × (g ≤ e)
      at g h =
          let z = and_true (leb k.from g) (leb g e) (and_true (ltb 0 k.from) (between k.from g e) h).1 in
          (leb-true k.from g z.0, leb-true g e z.1)

  suffix_one : (f : ℕ) (r : Start) → Suffix f r → 0 < r.at → One f r.at e r.num
  suffix_one f r s p = go (s.is p)
    where
      go : ((r.at ≡ k.from) × (r.num ≡ 0)) ⊎ Carried f r → One f r.at e r.num
      go (inl z) = rw (z.0, z.1) (from_one f (omega (arith, z.0, p)))
      go (inr c) = rw c.is_num (carried_one f r.at c.num c.uncut)

  line_one : (f a : ℕ) → d < a → a ≤ e → reach_of ps ds d a ≤ e →
      One f a (reach_of ps ds d a) (suc (suc (line_num ps d a (reach_of ps ds d a) ds)))
  line_one f a u w h = go (laws.of_lines.reach_is d a is-do u w h)
    where
      t : ℕ
      t = reach_of ps ds d a

      m : ℕ
      m = line_num ps d a (reach_of ps ds d a) ds

      go : LineAt ps ds d a (reach_of ps ds d a) →
          One f a (reach_of ps ds d a) (suc (suc (line_num ps d a (reach_of ps ds d a) ds)))
      go l = made (line-num ps d a (reach_of ps ds d a) ds l.e l.among (and_intro
          (and_intro (eq-eqb l.e.kind INDEPENDENT l.kind_is) (and_intro
          (eq-eqb (home_of ps l.e) d (home l)) (eq-eqb (suc l.e.s) a l.starts)))
          (eq-eqb l.e.t (reach_of ps ds d a) l.ends)))
        where
          home : (l : LineAt ps ds d a (reach_of ps ds d a)) → home_of ps l.e ≡ d
          home l = rw l.kind_is l.home_is

          made : Numbered ds (λ x. is_line ps d a (reach_of ps ds d a) x ≡ true) (line_num ps d a (reach_of ps ds d a) ds) →
              One f a (reach_of ps ds d a) (suc (suc (line_num ps d a (reach_of ps ds d a) ds)))
          made x =
              let y = and_true (starts_at ps d a (dep_at ds (line_num ps d a (reach_of ps ds d a) ds)))
              (eqb (dep_at ds (line_num ps d a (reach_of ps ds d a) ds)).t (reach_of ps ds d a)) x.is in
              let v = and_true (eqb (dep_at ds (line_num ps d a (reach_of ps ds d a) ds)).kind INDEPENDENT) _ y.0 in
              let o = and_true (eqb (home_of ps (dep_at ds (line_num ps d a (reach_of ps ds d a) ds))) d)
              (eqb (suc (dep_at ds (line_num ps d a (reach_of ps ds d a) ds)).s) a) v.1 in
              facts x.short (eqb-true (dep_at ds (line_num ps d a (reach_of ps ds d a) ds)).kind INDEPENDENT v.0)
              (eqb-true (suc (dep_at ds (line_num ps d a (reach_of ps ds d a) ds)).s) a o.1)
              (eqb-true (dep_at ds (line_num ps d a (reach_of ps ds d a) ds)).t (reach_of ps ds d a) y.1)
            where
              facts : line_num ps d a (reach_of ps ds d a) ds < length ds →
                  (dep_at ds (line_num ps d a (reach_of ps ds d a) ds)).kind ≡ INDEPENDENT →
                  suc (dep_at ds (line_num ps d a (reach_of ps ds d a) ds)).s ≡ a →
                  (dep_at ds (line_num ps d a (reach_of ps ds d a) ds)).t ≡ reach_of ps ds d a →
                  One f a (reach_of ps ds d a) (suc (suc (line_num ps d a (reach_of ps ds d a) ds)))
              facts short kind starts ends =
                  let at : (g : ℕ) → has_gap ps (dep_at ds (line_num ps d a (reach_of ps ds d a) ds)) g ≡ true →
                  ((dep_at ds (line_num ps d a (reach_of ps ds d a) ds)).s < g) ×
                  (g ≤ (dep_at ds (line_num ps d a (reach_of ps ds d a) ds)).t) =
                  λ g j. D.line_gap ps (dep_at ds (line_num ps d a (reach_of ps ds d a) ds)) g kind j in
                  record {
                    is-set = lt-ltb (line_num ps d a (reach_of ps ds d a) ds) (length ds) short;
                    low = λ g j. omega (arith, (at g j).0, starts, u);
                    high = λ g j. omega (arith, (at g j).1, ends, h);
                    shape = λ g j. inl (omega (arith, (at g j).0, starts), omega (arith, (at g j).1, ends));
                  }

  lap_one : (f a : ℕ) → d < a → a ≤ e → lap_need ps ds d k.from f a ≤ e →
      One f a (lap_need ps ds d k.from f a) (lap_set ps ds d k.from f a)
  unfolding lap_need lap_set need_of
  lap_one f a u w h =
      go (eqb a (suffix_of ps ds d k.from f).at && ltb e (reach_of ps ds d a)) refl h
    where
      go : (t : Bool) → (eqb a (suffix_of ps ds d k.from f).at && ltb e (reach_of ps ds d a)) ≡ t →
          pick t e (reach_of ps ds d a) ≤ e →
          One f a (pick t e (reach_of ps ds d a))
          (pick t (suffix_of ps ds d k.from f).num (suc (suc (line_num ps d a (reach_of ps ds d a) ds))))
      go true z j =
          let y : a ≡ (suffix_of ps ds d k.from f).at = eqb-true a (suffix_of ps ds d k.from f).at
          (and_true (eqb a (suffix_of ps ds d k.from f).at) (ltb e (reach_of ps ds d a)) z).0 in
          rw y (suffix_one f (suffix_of ps ds d k.from f) (suffix_is f) (omega (arith, y, u)))
      go false z j = line_one f a u w j

  pub lap_sets : (f : ℕ) → Sets n key k (lap_need ps ds d k.from f) (lap_set ps ds d k.from f) f
  lap_sets f =
      record {
        is-set = λ a u w h. (lap_one f a u w h).is-set;
        low = λ a g u w h. (lap_one f a u w h).low g;
        high = λ a g u w h. (lap_one f a u w h).high g;
        shape = λ a g u w h. (lap_one f a u w h).shape g;
      }
