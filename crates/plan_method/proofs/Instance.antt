-- Every nest is a world of the planner's theorem: its loops and the dependences by their homes obey the laws.
-- Assumed of the nest: its points are well shaped, and its dependences are placed well (a carried one's points in
-- either order).
-- Main definitions: `LineAt`, `BackAt`, `world_of`. Main statement: `lawful`.
use mathlib.Core.Path.{◌≡◌, refl, sym, ap, ◌∙◌}
use mathlib.Core.Bool.{Bool, true, false, ◌&&◌}
use mathlib.Core.List.{List, [], ◌∷◌}
use mathlib.Core.Logic.{◌⊎◌, inl, inr, ⊎_elim}
use Prim.Native.Nat.{ℕ, suc, ◌≤◌, ◌<◌, min}
use native.Mathlib.Omega.{arith}
use lib.Dec.{eqb, ltb}
use lib.ListN.{length}
use borrow.Author.Tests.{ltb-true, lt-ltb, eqb-true, eq-eqb}
use Rattle.laws.specs.Choice.{pick}
use Rattle.laws.specs.Members.{Among}
use Rattle.laws.proofs.Tests.{never, never_both, le_or, lt_by, and_true, and_intro, or-true, or_left, or_right}
use Rattle.paper_nests.specs.Kinds.{INDEPENDENT, CARRIED}
use Rattle.paper_nests.specs.Nests.{Dep}
use Rattle.paper_nests.specs.Loops.{is_do, is_end, end_of, owner_from, owner_of}
use Rattle.paper_nests.specs.Valid.{is_shape}
use Rattle.paper_nests.proofs.Loops as L
use Rattle.paper_nests.proofs.Gaps as G
use Rattle.paper_nests.proofs.Deps as D
use Rattle.plan_method.specs.Home.{home_of, starts_at, returns_after, least_end, reach_of, limit_of, has_at, loops_in}
use Rattle.plan_method.specs.Home.{lines_in}
use Rattle.plan_method.proofs.World.{World, Owner, Child, Plain, LoopLaws, Behind, Home, by_line, by_back, Lawful}

-- one of ds is independent, has home d and the gaps a … b
pub record LineAt (ps : List ℕ) (ds : List Dep) (d a b : ℕ) : Type 0 where
  pub e : Dep
  pub among : Among e ds
  pub kind_is : e.kind ≡ INDEPENDENT
  pub home_is : owner_from (suc e.s) e.t ps ≡ d
  pub starts : suc e.s ≡ a
  pub ends : e.t ≡ b

-- one of ds is carried by d and has the gaps d + 1 … t and a … end_of ps d
pub record BackAt (ps : List ℕ) (ds : List Dep) (d a t : ℕ) : Type 0 where
  pub e : Dep
  pub among : Among e ds
  pub kind_is : e.kind ≡ CARRIED
  pub home_is : e.d ≡ d
  pub starts : suc e.s ≡ a
  pub ends : e.t ≡ t

abbrev pub world_of : List ℕ → List Dep → World
world_of ps ds = record { loops = loops_in ps; Line = LineAt ps ds; Back = BackAt ps ds }

-- all dependences are placed well
abbrev pub AllFit : List ℕ → List Dep → Type 0
AllFit ps ds = (e : Dep) → Among e ds → D.Fits ps e

-- the least end is at most each, and is one of them, or the number for none
pub least_end_le :
    (p : Dep → Bool) (none : ℕ) (ds : List Dep) (e : Dep) → Among e ds → p e ≡ true → least_end p none ds ≤ e.t
unfolding least_end
least_end_le p none [] e a h = absurd a
least_end_le p none (x ∷ xs) e a h = go (p x) refl a (least_end_le p none xs e)
  where
    r : ℕ
    r = least_end p none xs

    go :
        (b : Bool) → p x ≡ b → (e ≡ x) ⊎ Among e xs → (Among e xs → p e ≡ true → r ≤ e.t) →
        pick b (min x.t r) r ≤ e.t
    go true z (inl q) i = let y : e.t ≡ x.t = rw q in omega arith
    go true z (inr q) i = omega (arith, i q h)
    go false z (inl q) i = never_both (rw q at h) z
    go false z (inr q) i = i q h

pub record Found (p : Dep → Bool) (ds : List Dep) (t : ℕ) : Type 0 where
  pub e : Dep
  pub among : Among e ds
  pub passes : p e ≡ true
  pub ends : e.t ≡ t

pub least_end_is :
    (p : Dep → Bool) (none : ℕ) (ds : List Dep) → (least_end p none ds ≡ none) ⊎ Found p ds (least_end p none ds)
unfolding least_end
least_end_is p none [] = inl refl
least_end_is p none (x ∷ xs) = go (p x) refl (least_end p none xs) (least_end_is p none xs)
  where
    also : {t : ℕ} → Found p xs t → Found p (x ∷ xs) t
    also f = record { e = f.e; among = inr f.among; passes = f.passes; ends = f.ends }

    later : {t : ℕ} → (t ≡ none) ⊎ Found p xs t → (t ≡ none) ⊎ Found p (x ∷ xs) t
    later (inl q) = inl q
    later (inr f) = inr (also f)

    go :
        (b : Bool) → p x ≡ b → (r : ℕ) → (r ≡ none) ⊎ Found p xs r →
        (pick b (min x.t r) r ≡ none) ⊎ Found p (x ∷ xs) (pick b (min x.t r) r)
    go false z r i = later i
    go true z r i = ⊎_elim
        (λ (l : x.t ≤ r). inr (record { e = x; among = inl refl; passes = z; ends = omega arith }))
        (λ (l : r < x.t). let q : min x.t r ≡ r = omega arith in rw q (later i))
        (le_or x.t r)

-- the tests of reach and limit, as facts
module _ (ps : List ℕ) (d a : ℕ) (e : Dep) where
  starts-at : e.kind ≡ INDEPENDENT → owner_from (suc e.s) e.t ps ≡ d → suc e.s ≡ a → starts_at ps d a e ≡ true
  starts-at k h s = rw k (and_intro (eq-eqb (owner_from (suc e.s) e.t ps) d h) (eq-eqb (suc e.s) a s))

  at_starts :
      starts_at ps d a e ≡ true →
      (e.kind ≡ INDEPENDENT) × (owner_from (suc e.s) e.t ps ≡ d) × (suc e.s ≡ a)
  at_starts h =
      let x = and_true (eqb e.kind INDEPENDENT) (eqb (home_of ps e) d && eqb (suc e.s) a) h in
      let y = and_true (eqb (home_of ps e) d) (eqb (suc e.s) a) x.1 in
      let k : e.kind ≡ INDEPENDENT = eqb-true e.kind INDEPENDENT x.0 in
      (k, eqb-true (owner_from (suc e.s) e.t ps) d (rw k at y.0), eqb-true (suc e.s) a y.1)

  returns-after : e.kind ≡ CARRIED → e.d ≡ d → a < suc e.s → returns_after ps d a e ≡ true
  returns-after k h s = rw k (and_intro (eq-eqb e.d d h) (lt-ltb a (suc e.s) s))

  after_returns : D.Fits ps e → returns_after ps d a e ≡ true → (e.kind ≡ CARRIED) × (e.d ≡ d) × (a < suc e.s)
  after_returns f h = carried f
    where
      carried : D.Fits ps e → (e.kind ≡ CARRIED) × (e.d ≡ d) × (a < suc e.s)
      carried (inl l) = never (rw l.kind_is at h)
      carried (inr b) =
          let y : (eqb e.d d && ltb a (suc e.s)) ≡ true = rw b.kind_is at h in
          let z = and_true (eqb e.d d) (ltb a (suc e.s)) y in
          (b.kind_is, eqb-true e.d d z.0, ltb-true a (suc e.s) z.1)

-- some dependence has home d
has-at : (ps : List ℕ) (ds : List Dep) (d : ℕ) (e : Dep) → Among e ds → home_of ps e ≡ d → has_at ps ds d ≡ true
unfolding has_at
has-at ps [] d e a h = absurd a
has-at ps (x ∷ xs) d e a h = ⊎_elim
    (λ (q : e ≡ x). or_left (has_at ps xs d) (eq-eqb (home_of ps x) d (rw q at h)))
    (λ (q : Among e xs). or_right (eqb (home_of ps x) d) (has-at ps xs d e q h))
    a

pub record HomeAt (ps : List ℕ) (ds : List Dep) (d : ℕ) : Type 0 where
  pub e : Dep
  pub among : Among e ds
  pub home_is : home_of ps e ≡ d

at_has : (ps : List ℕ) (ds : List Dep) (d : ℕ) → has_at ps ds d ≡ true → HomeAt ps ds d
unfolding has_at
at_has ps [] d h = never h
at_has ps (x ∷ xs) d h = ⊎_elim
    (λ (q : eqb (home_of ps x) d ≡ true). record { e = x; among = inl refl; home_is = eqb-true (home_of ps x) d q })
    (λ (q : has_at ps xs d ≡ true). later (at_has ps xs d q))
    (or-true (eqb (home_of ps x) d) (has_at ps xs d) h)
  where
    later : HomeAt ps xs d → HomeAt ps (x ∷ xs) d
    later r = record { e = r.e; among = inr r.among; home_is = r.home_is }

-- a dependence with its home, as the world sees it
home-of :
    (ps : List ℕ) (ds : List Dep) (d : ℕ) (e : Dep) → Among e ds → D.Fits ps e → home_of ps e ≡ d →
    Home (world_of ps ds) d
home-of ps ds d e a (inl l) h =
    by_line (suc e.s) e.t
    (record { e = e; among = a; kind_is = l.kind_is; home_is = rw l.kind_is at h; starts = refl; ends = refl })
home-of ps ds d e a (inr b) h =
    by_back (suc e.s) e.t
    (record { e = e; among = a; kind_is = b.kind_is; home_is = rw b.kind_is at h; starts = refl; ends = refl })

pub loop_laws : (ps : List ℕ) → is_shape ps ≡ true → LoopLaws (loops_in ps)
loop_laws ps w =
    record {
      long = L.end-after ps w;
      own_stop = L.owner_of_end ps w;
      own_below = λ g. L.owner_from_below ps g (suc g);
      owner = owner;
      nested = L.nested ps w;
      child = child;
      plain = plain;
    }
  where
    owner : (d g : ℕ) → is_do ps d ≡ true → d < g → g ≤ end_of ps d → Owner (loops_in ps) d g
    owner d g h l m =
        let o = L.owner_law ps w g (omega arith) (omega (arith, L.end_there ps w d h)) in
        record { is-do = o.loop; from = L.owner-inside ps w d g h l m; below = o.below; above = o.holds }

    child :
        (d p : ℕ) → is_do ps d ≡ true → d ≤ p → p < end_of ps d → owner_of ps (suc p) ≡ d → is_end ps p ≡ true →
        Child (loops_in ps) d p (owner_of ps p)
    child d p h l m o e =
        let c = G.child_law ps w d p (omega (arith, L.end_there ps w d h)) o e in
        record { is-do = c.loop; below = c.inside; ends = c.ends; owner = c.owned }

    plain :
        (d p : ℕ) → is_do ps d ≡ true → d ≤ p → p < end_of ps d → owner_of ps (suc p) ≡ d → is_end ps p ≡ false →
        (p ≡ d) ⊎ Plain (loops_in ps) d p
    plain d p h l m o e = ⊎_elim
        (λ (z : p ≡ d). inl z)
        (λ (z : (owner_of ps p ≡ d) × (is_do ps p ≡ false)). inr (record { owner = z.0; no-do = z.1 }))
        (G.plain_law ps w d p (omega (arith, L.end_there ps w d h)) o e)

module _ (ps : List ℕ) (ds : List Dep) (shape : is_shape ps ≡ true) (fit : AllFit ps ds) where
  -- what a line's and a carried dependence's placing says
  line_fits : {d a b : ℕ} (l : LineAt ps ds d a b) → D.Line ps l.e
  line_fits l = go (fit l.e l.among)
    where
      go : D.Fits ps l.e → D.Line ps l.e
      go (inl x) = x
      go (inr x) =
          let z : ◌≡◌ {A = ℕ} INDEPENDENT CARRIED = sym l.kind_is ∙ x.kind_is in
          absurd (omega arith)

  back_fits : {d a t : ℕ} (b : BackAt ps ds d a t) → D.Back ps b.e
  back_fits b = go (fit b.e b.among)
    where
      go : D.Fits ps b.e → D.Back ps b.e
      go (inl x) =
          let z : ◌≡◌ {A = ℕ} INDEPENDENT CARRIED = sym x.kind_is ∙ b.kind_is in
          absurd (omega arith)
      go (inr x) = x

  -- the home of a line, and that it is the innermost loop that holds it
  line_home : {d a b : ℕ} (l : LineAt ps ds d a b) → L.Owner ps (suc l.e.s) l.e.t d
  line_home l = rw l.home_is at (G.home_law ps shape l.e.s l.e.t (line_fits l).target_there)

  line_low : (d a b : ℕ) → is_do ps d ≡ true → LineAt ps ds d a b → d < a
  line_low d a b h l = omega (arith, l.starts, (line_home l).below)

  line_long : (d a b : ℕ) → is_do ps d ≡ true → LineAt ps ds d a b → a ≤ b
  line_long d a b h l = omega (arith, l.starts, l.ends, (line_fits l).forward)

  line_high : (d a b : ℕ) → is_do ps d ≡ true → LineAt ps ds d a b → b ≤ end_of ps d
  line_high d a b h l = omega (arith, l.ends, (line_home l).holds)

  line_leaves :
      (d a b x : ℕ) → is_do ps d ≡ true → LineAt ps ds d a b → Child (loops_in ps) d (end_of ps x) x → x < a →
      a ≤ end_of ps x → end_of ps x < b
  line_leaves d a b x h l c p q =
      lt_by λ z.
      omega
      (arith, c.below, (line_home l).most x c.is-do (omega (arith, l.starts)) (omega (arith, l.ends)))

  back_low : (d a t : ℕ) → is_do ps d ≡ true → BackAt ps ds d a t → d < a
  back_low d a t h b = omega (arith, b.starts, b.home_is, (back_fits b).source_after)

  back_end : (d a t : ℕ) → is_do ps d ≡ true → BackAt ps ds d a t → d < t
  back_end d a t h b = omega (arith, b.ends, b.home_is, (back_fits b).target_after)

  back_high : (d a t : ℕ) → is_do ps d ≡ true → BackAt ps ds d a t → t ≤ end_of ps d
  back_high d a t h b =
      let z : end_of ps b.e.d ≡ end_of ps d = ap (end_of ps) b.home_is in
      omega (arith, b.ends, (back_fits b).target_before)

  reach_least : (d a b : ℕ) → is_do ps d ≡ true → LineAt ps ds d a b → reach_of ps ds d a ≤ b
  unfolding reach_of
  reach_least d a b h l =
      let z =
      least_end_le (starts_at ps d a) (length ps) ds l.e l.among
      (starts-at ps d a l.e l.kind_is l.home_is l.starts) in
      omega (arith, l.ends)

  reach_is :
      (d a : ℕ) → is_do ps d ≡ true → d < a → a ≤ end_of ps d → reach_of ps ds d a ≤ end_of ps d →
      LineAt ps ds d a (reach_of ps ds d a)
  unfolding reach_of
  reach_is d a h p q r = ⊎_elim
      (λ (z : least_end (starts_at ps d a) (length ps) ds ≡ length ps). absurd (omega (arith, L.end_there ps shape d h)))
      (λ (f : Found (starts_at ps d a) ds (least_end (starts_at ps d a) (length ps) ds)).
      let s = at_starts ps d a f.e f.passes in
      record { e = f.e; among = f.among; kind_is = s.0; home_is = s.1; starts = s.2; ends = f.ends })
      (least_end_is (starts_at ps d a) (length ps) ds)

  limit_least :
      (d q a t : ℕ) → is_do ps d ≡ true → d < q → q ≤ end_of ps d → q < a → BackAt ps ds d a t → limit_of ps ds d q ≤ t
  unfolding limit_of
  limit_least d q a t h x y l b =
      let z =
      least_end_le (returns_after ps d q) (end_of ps d) ds b.e b.among
      (returns-after ps d q b.e b.kind_is b.home_is (omega (arith, b.starts))) in
      omega (arith, b.ends)

  limit_is :
      (d q : ℕ) → is_do ps d ≡ true → d < q → q ≤ end_of ps d →
      (limit_of ps ds d q ≡ end_of ps d) ⊎ Behind (world_of ps ds) d q (limit_of ps ds d q)
  unfolding limit_of
  limit_is d q h x y = ⊎_elim
      (λ (z : least_end (returns_after ps d q) (end_of ps d) ds ≡ end_of ps d). inl z)
      (λ (f : Found (returns_after ps d q) ds (least_end (returns_after ps d q) (end_of ps d) ds)).
      let s = after_returns ps d q f.e (fit f.e f.among) f.passes in
      inr
      (record {
        a = suc f.e.s;
        above = s.2;
        back = record { e = f.e; among = f.among; kind_is = s.0; home_is = s.1; starts = refl; ends = f.ends };
      }))
      (least_end_is (returns_after ps d q) (end_of ps d) ds)

  has_line : (d a b : ℕ) → is_do ps d ≡ true → LineAt ps ds d a b → has_at ps ds d ≡ true
  has_line d a b h l = has-at ps ds d l.e l.among (rw l.kind_is l.home_is)

  has_back : (d a t : ℕ) → is_do ps d ≡ true → BackAt ps ds d a t → has_at ps ds d ≡ true
  has_back d a t h b = has-at ps ds d b.e b.among (rw b.kind_is b.home_is)

  has_is : (d : ℕ) → is_do ps d ≡ true → has_at ps ds d ≡ true → Home (world_of ps ds) d
  has_is d h k =
      let r = at_has ps ds d k in
      home-of ps ds d r.e r.among (fit r.e r.among) r.home_is

  -- every nest with well shaped points and well placed dependences is a world of the theorem
  pub lawful : Lawful (world_of ps ds) (lines_in ps ds)
  lawful =
      record {
        of-loops = loop_laws ps shape;
        of_lines =
            record {
              line_low = line_low;
              line_long = line_long;
              line_high = line_high;
              line_leaves = line_leaves;
              back_low = back_low;
              back_end = back_end;
              back_high = back_high;
              reach_least = reach_least;
              reach_is = reach_is;
              limit_least = limit_least;
              limit_is = limit_is;
              has_line = has_line;
              has_back = has_back;
              has_is = has_is;
            };
      }
