-- Papers whose tests are computed: correct sets, counts and verdicts of the page of the demands from the project's
-- tests of single dependences and loops, which are those of the page; and a key from what each loop needs. Main
-- statements: `best`, `key_several`, `uncut`, `dearer`.
use mathlib.Core.Path.{◌≡◌, refl, sym, ◌∙◌, ap, subst}
use mathlib.Core.Bool.{Bool, true, false, ◌&&◌, ◌||◌, not}
use mathlib.Core.List.{List, [], ◌∷◌}
use mathlib.Core.Logic.{◌⊎◌, inl, inr}
use Prim.Native.Nat.{ℕ, zero, suc, ◌≤◌, ◌<◌}
use native.Mathlib.Omega.{arith}
use lib.Dec.{eqb, ltb, leb}
use lib.ListN.{length, get_or}
use borrow.Author.Tests.{eqb-true, lt-ltb, le-leb}
use Rattle.laws.specs.Choice.{is_in}
use Rattle.laws.proofs.Tests.{never_both, and_intro}
use Rattle.laws.proofs.Members.{every_below, every-below}
use Rattle.paper_nests.specs.declared.Dependence as DE
use Rattle.paper_nests.specs.Loops.{is_do, end_of, owner_of}
use Rattle.paper_nests.specs.Valid.{is_shape, is_valid}
use Rattle.paper_nests.specs.Stored.{dep_in}
use Rattle.paper_nests.proofs.Levels.{point_in}
use Rattle.paper_placements.specs.Placements.{cuts, is_correct, loop_count}
use Rattle.desk.specs.declared.Verdict.TheVariants as VV
use Rattle.pages.specs.Demands.{At, In, HowMany, Rising, Loop, Own, OneLoop, GapOf, Paper, Correct, NoMore}
use Rattle.pages.specs.Demands.{AsGood, Best, Key, Says}
use Rattle.pages.proofs.Lists.{at_is, is_at, is-in}
use Rattle.pages.proofs.Bodies.{loop_end, loop_do, loop_at}
use Rattle.pages.proofs.Placements.{nest_of, rising_is, is_own, counted, cut_is, is-cut, gaps_are, is-correct}
use Rattle.pages.proofs.Keys.{fit, same_is, is_same, good_tree}

-- a dependence of either kind
abbrev pub line : ℕ → ℕ → DE.Dependence
line s t = record { kind = 17; d = 0; s = s; t = t }

abbrev pub round : ℕ → ℕ → ℕ → DE.Dependence
round d s t = record { kind = 18; d = d; s = s; t = t }

-- ---- counting

-- a set that holds a gap of the sort has one at least; one that holds two has two at least
pub one_held : (A : ℕ → Type 0) (gs : List ℕ) (k g : ℕ) → HowMany A gs k → In g gs → A g → 1 ≤ k
one_held A gs k g HowMany.none i a = absurd i.1
one_held A gs k g (HowMany.one h r) i a = omega arith
one_held A gs k g (HowMany.other {xs = xs} n r) (zero, e) a = absurd (n (subst A (sym e) a))
one_held A gs k g (HowMany.other {xs = xs} n r) (suc i, q) a = one_held A xs k g r (i, q) a

pub two_held
    : (A : ℕ → Type 0) (gs : List ℕ) (k g h : ℕ) → HowMany A gs k → In g gs → In h gs → A g → A h → (g ≡ h → ⊥) → 2 ≤ k
two_held A gs k g h HowMany.none i j a b n = absurd i.1
two_held A gs k g h (HowMany.one {xs = xs} {k = m} c r) (zero, e) (zero, f) a b n = absurd (n (sym e ∙ f))
two_held A gs k g h (HowMany.one {xs = xs} {k = m} c r) (zero, e) (suc j, f) a b n =
    omega (arith, one_held A xs m h r (j, f) b)
two_held A gs k g h (HowMany.one {xs = xs} {k = m} c r) (suc i, e) j a b n =
    omega (arith, one_held A xs m g r (i, e) a)
two_held A gs k g h (HowMany.other c r) (zero, e) j a b n = absurd (c (subst A (sym e) a))
two_held A gs k g h (HowMany.other c r) (suc i, e) (zero, f) a b n = absurd (c (subst A (sym f) b))
two_held A gs k g h (HowMany.other {xs = xs} c r) (suc i, e) (suc j, f) a b n =
    two_held A xs k g h r (i, e) (j, f) a b n

-- no more of a sort than there are
pub few_held : (A : ℕ → Type 0) (gs : List ℕ) (k : ℕ) → HowMany A gs k → k ≤ length gs
few_held A gs k HowMany.none = omega arith
few_held A gs k (HowMany.one {xs = xs} {k = j} a r) = omega (arith, few_held A xs j r)
few_held A gs k (HowMany.other {xs = xs} n r) = omega (arith, few_held A xs k r)

-- ---- a paper whose tests are computed

module _ (p : Paper) (valid : is_valid (nest_of p []) ≡ true) (shape : is_shape p.points ≡ true) where
  abbrev pub ps : List ℕ
  ps = p.points

  -- a set that the tests find correct
  pub correct : (gs : List ℕ) → is_correct (nest_of p []) gs ≡ true → Correct p gs
  correct gs h = is-correct p [] shape (fit p [] valid) gs h

  -- how many own gaps of a loop a rising set has
  pub count
      : (gs : List ℕ) → Rising (length ps) 0 gs → (d e : ℕ) → Loop ps d e
      → HowMany (Own ps d e) gs (loop_count (nest_of p []) gs d)
  count gs r d e l = counted ps shape (nest_of p []) refl d e 0 l gs (rising_is (length ps) 0 gs r)

  -- no more, by the counts
  pub no_more
      : (xs ys : List ℕ) → Rising (length ps) 0 xs → Rising (length ps) 0 ys → (d e : ℕ) → Loop ps d e
      → loop_count (nest_of p []) xs d ≤ loop_count (nest_of p []) ys d → NoMore ps xs ys d e
  no_more xs ys r q d e l h =
      (loop_count (nest_of p []) xs d, (loop_count (nest_of p []) ys d, (count xs r d e l, count ys q d e l, h)))

  -- a gap of loop d in the set: one barrier at least
  pub held
      : (ys : List ℕ) → Rising (length ps) 0 ys → (d e g : ℕ) → Loop ps d e → In g ys → Own ps d e g
      → 1 ≤ loop_count (nest_of p []) ys d
  held ys r d e g l i o = one_held (Own ps d e) ys (loop_count (nest_of p []) ys d) g (count ys r d e l) i o

  -- an own gap, by its owner
  pub own : (d e g : ℕ) → Loop ps d e → 0 < g → g < length ps → owner_of ps g ≡ d → Own ps d e g
  own d e g l a b h = is_own ps shape d e g l a b h

  -- the loops are those of a list of DOs; all gaps from a + 1 to b belong to loop d
  pub loop_in : (ds : List ℕ) → every_below (λ i. not (is_do ps i) || is_in i ds) (length ps) ≡ true
      → (d e : ℕ) → Loop ps d e → In d ds
  loop_in ds h d e l =
      let i = loop_do ps d e l in
      let z : (not (is_do ps d) || is_in d ds) ≡ true =
      every-below (λ i. not (is_do ps i) || is_in i ds) (length ps) h d (point_in ps d 0 i) in
      let y : is_in d ds ≡ true = rw i at z in
      is-in d ds y

  abbrev pub owned : ℕ → ℕ → ℕ → Bool
  owned d a b = every_below (λ g. not (ltb a g && leb g b) || eqb (owner_of ps g) d) (length ps)

  pub own_in
      : (d e a b : ℕ) → Loop ps d e → owned d a b ≡ true → b < length ps → (g : ℕ) → a < g → g ≤ b → Own ps d e g
  own_in d e a b l h c g m n =
      let r : (ltb a g && leb g b) ≡ true = and_intro (lt-ltb a g m) (le-leb g b n) in
      let z : (not (ltb a g && leb g b) || eqb (owner_of ps g) d) ≡ true =
      every-below (λ g. not (ltb a g && leb g b) || eqb (owner_of ps g) d) (length ps) h g (omega arith) in
      let y : eqb (owner_of ps g) d ≡ true = rw r at z in
      is_own ps shape d e g l (omega arith) (omega arith) (eqb-true (owner_of ps g) d y)

-- the gaps of a dependence, in numbers
pub line_gaps : (ps : List ℕ) (s t g : ℕ) → GapOf ps (line s t) g → (s < g) × (g ≤ t)
line_gaps ps s t g (GapOf.line k a b) = (a, b)
line_gaps ps s t g (GapOf.front k a b) = absurd (omega arith)
line_gaps ps s t g (GapOf.back e k l a b) = absurd (omega arith)

pub round_gaps
    : (ps : List ℕ) (d s t e g : ℕ) → Loop ps d e → GapOf ps (round d s t) g → ((d < g) × (g ≤ t)) ⊎ ((s < g) × (g ≤ e))
round_gaps ps d s t e g l (GapOf.line k a b) = absurd (omega arith)
round_gaps ps d s t e g l (GapOf.front k a b) = inl (a, b)
round_gaps ps d s t e g l (GapOf.back f k m a b) = inr (a, omega (arith, loop_end ps d e l, loop_end ps d f m))

-- what holds of each number of a list
pub data All (A : ℕ → Type 0) : List ℕ → Type 0 where
  none : All A []
  both : {x : ℕ} {xs : List ℕ} → A x → All A xs → All A (x ∷ xs)

pub all_in : (A : ℕ → Type 0) (xs : List ℕ) (d : ℕ) → All A xs → In d xs → A d
all_in A xs d All.none i = absurd i.1
all_in A xs d (All.both a r) (zero, e) = subst A e a
all_in A xs d (All.both {xs = ys} a r) (suc i, q) = all_in A ys d r (i, q)

-- a key, from what each loop needs of a correct set
module _ (p : Paper) (valid : is_valid (nest_of p []) ≡ true) (shape : is_shape p.points ≡ true) (ds : List ℕ)
    (all_dos : every_below (λ i. not (is_do p.points i) || is_in i ds) (length p.points) ≡ true)
    (key : List ℕ) (right : is_correct (nest_of p []) key ≡ true) where
  abbrev pub counts : List ℕ → ℕ → ℕ
  counts gs d = loop_count (nest_of p []) gs d

  pub key_right : Correct p key
  key_right = correct p valid shape key right

  -- as many in all loops inside
  abbrev pub Inside : List ℕ → ℕ → ℕ → Type 0
  Inside ys d e =
      (d' e' : ℕ) → Loop p.points d' e' → d < d' → e' < e → counts key d' ≡ counts ys d'

  abbrev pub Needs : List ℕ → ℕ → Type 0
  Needs ys d = (e : ℕ) → Loop p.points d e → Inside ys d e → counts key d ≤ counts ys d

  module _ (needs : (ys : List ℕ) → Correct p ys → All (Needs ys) ds) where
    pub best : Best p key
    best = record { correct = key_right; least = least }
      where
        least : (ys : List ℕ) → Correct p ys → AsGood p.points key ys
        least ys c d e l same =
            no_more p valid shape key ys key_right.gaps.rising c.gaps.rising d e l
            (all_in (Needs ys) ds d (needs ys c) (loop_in p valid shape ds all_dos d e l) e l
            (λ x y m a b.
            same_is (nest_of p []) shape key ys (gaps_are p [] key key_right.gaps) (gaps_are p [] ys c.gaps) x y m
            (same x y m a b)))

    pub key_several : (OneLoop p.points → ⊥) → Key p key
    key_several several =
        record {
          best = best;
          by_trees =
              λ ys c e l.
              good_tree (nest_of p []) shape key ys (gaps_are p [] key key_right.gaps) (gaps_are p [] ys c.gaps)
              (best.least ys c) 0 e l;
          smallest = λ one. absurd (several one);
          ring = λ one. absurd (several one);
        }

-- ---- verdicts

module _ (p : Paper) (valid : is_valid (nest_of p []) ≡ true) (shape : is_shape p.points ≡ true) (key gs : List ℕ) where
  abbrev pub nothing : DE.Dependence
  nothing = record { kind = 0; d = 0; s = 0; t = 0 }

  abbrev pub cut_at : ℕ → Bool
  cut_at j = cuts p.points (dep_in (get_or p.deps j nothing)) gs

  dep_is : (j : ℕ) (x : DE.Dependence) → At p.deps j x → cut_at j ≡ cuts p.points (dep_in x) gs
  dep_is j x a = ap (λ (y : DE.Dependence). cuts p.points (dep_in y) gs) (at_is p.deps j x nothing a)

  -- Uncut, by the tests of single dependences
  pub uncut
      : (i : ℕ) → i < length p.deps → cut_at i ≡ false → every_below cut_at i ≡ true → Says p key gs (VV.Uncut i)
  uncut i l h b =
      let x = get_or p.deps i nothing in
      record {
        not_cut = (
          x,
          (
            is_at p.deps i x nothing l refl,
            (λ c. never_both (cut_is p.points shape x gs c) h),
          ),
        );
        lower_cut =
            λ j y m a.
            is-cut p.points shape y gs (fit p [] valid y (j, a))
            (sym (dep_is j y a) ∙ every-below cut_at i b j m);
      }

  abbrev pub same-at : ℕ → ℕ → Bool
  same-at end d =
      not (is_do p.points d && ltb (end_of p.points d) end) ||
      eqb (loop_count (nest_of p []) key d) (loop_count (nest_of p []) gs d)

  -- Dearer, by the counts of single loops
  pub dearer
      : (d : ℕ) → is_do p.points d ≡ true → is_correct (nest_of p []) key ≡ true → is_correct (nest_of p []) gs ≡ true
      → every_below (same-at (end_of p.points d)) (length p.points) ≡ true
      → loop_count (nest_of p []) key d < loop_count (nest_of p []) gs d
      → Says p key gs
      (VV.Dearer (record { d = d; theirs = loop_count (nest_of p []) gs d; ours = loop_count (nest_of p []) key d }))
  dearer d h right ours b m =
      let l = loop_at p.points shape d h in
      let x = correct p valid shape key right in
      let y = correct p valid shape gs ours in
      record {
        correct = y;
        end = end_of p.points d;
        loop = l;
        theirs_are = count p valid shape gs y.gaps.rising d (end_of p.points d) l;
        ours_are = count p valid shape key x.gaps.rising d (end_of p.points d) l;
        more = m;
        first =
            λ i e k w.
            is_same (nest_of p []) shape key gs (gaps_are p [] key x.gaps) (gaps_are p [] gs y.gaps) i e k
            (equal i e k w);
      }
    where
      end : ℕ
      end = end_of p.points d

      equal
          : (i e : ℕ) → Loop p.points i e → e < end_of p.points d
          → loop_count (nest_of p []) key i ≡ loop_count (nest_of p []) gs i
      equal i e k w =
          let f = loop_do p.points i e k in
          let r : (is_do p.points i && ltb (end_of p.points i) (end_of p.points d)) ≡ true =
          and_intro f (lt-ltb (end_of p.points i) (end_of p.points d)
          (omega (arith, w, loop_end p.points i e k))) in
          let z : same-at (end_of p.points d) i ≡ true =
          every-below (same-at (end_of p.points d)) (length p.points) b i (point_in p.points i 0 f) in
          let y : eqb (loop_count (nest_of p []) key i) (loop_count (nest_of p []) gs i) ≡ true = rw r at z in
          eqb-true (loop_count (nest_of p []) key i) (loop_count (nest_of p []) gs i) y
