-- The page's own gaps, counts, cuts and correct sets are those of the project's definitions.
-- Main definition: `nest_of`. Main statements: `own_is`, `is_own`, `counted`, `count_is`, `correct_is`, `is-correct`.
use mathlib.Core.Path.{◌≡◌, refl, sym, ◌∙◌, ap, subst}
use mathlib.Core.Bool.{Bool, true, false, not}
use mathlib.Core.List.{List, [], ◌∷◌}
use mathlib.Core.Logic.{inl, inr, ⊎_elim}
use Prim.Native.Nat.{ℕ, zero, suc, ◌+◌, ◌<◌}
use native.Mathlib.Omega.{arith}
use lib.Dec.{eqb}
use lib.ListN.{length, take}
use borrow.Author.Tests.{eqb-true, eqb-false, lt-ltb}
use Rattle.laws.specs.Choice.{when, is_in}
use Rattle.laws.specs.Members.{Among}
use Rattle.laws.proofs.Tests.{never, and_intro, false_by}
use Rattle.paper_nests.specs.declared.Dependence as DE
use Rattle.paper_nests.specs.declared.Nest as DN
use Rattle.paper_nests.specs.Nests.{Dep, Nest}
use Rattle.paper_nests.specs.Loops.{end_of, owner_of}
use Rattle.paper_nests.specs.Gaps.{has_gap}
use Rattle.paper_nests.specs.Valid.{is_shape}
use Rattle.paper_nests.specs.Stored.{dep_in, deps_in, nest_in}
use Rattle.paper_nests.proofs.Loops.{Owner, owner_is, owner_law}
use Rattle.paper_nests.proofs.Deps.{Fits, line_gap, gap_of_line, back_gap, gap_before_target, gap_after_source}
use Rattle.paper_placements.specs.Placements.{cuts, are_gaps_from, are_gaps, avoids, is_correct, loop_count}
use Rattle.paper_placements.proofs.Cuts.{cut_has_gap, gap_cuts, avoids_in, avoids_by}
use Rattle.paper_placements.proofs.Cuts.{correct_by, correct_gaps, correct_avoids, correct_cuts}
use Rattle.paper_placements.proofs.Rising.{rises}
use Rattle.pages.specs.Demands.{At, In, HowMany, Rising, Loop, Own, GapOf, Paper, paper_in, Gaps, Cut, Correct}
use Rattle.pages.proofs.Lists.{at_in, in_is, is-in, in_among}
use Rattle.pages.proofs.Bodies.{loop_end, loop_do, loop_at}

-- ---- a paper as a nest of the project

abbrev pub mapped : List DE.Dependence → List Dep
mapped [] = []
mapped (x ∷ xs) = dep_in x ∷ mapped xs

abbrev pub nest_of : Paper → List ℕ → Nest
nest_of p fs = record { points = p.points; deps = mapped p.deps; barred = p.barred; flagged = fs }

deps_mapped : (m : ℕ) (xs : List DE.Dependence) → deps_in m xs ≡ mapped (take m xs)
deps_mapped zero [] = refl
deps_mapped zero (x ∷ xs) = refl
deps_mapped (suc m) [] = refl
deps_mapped (suc m) (x ∷ xs) = ap (λ (l : List Dep). dep_in x ∷ l) (deps_mapped m xs)

pub nest_of_paper : (n : DN.Nest) → nest_in n ≡ nest_of (paper_in n) (take n.flags n.flagged)
nest_of_paper n = rw (deps_mapped n.many n.deps)

pub mapped_at : (xs : List DE.Dependence) (i : ℕ) (x : DE.Dependence) → At xs i x → At (mapped xs) i (dep_in x)
mapped_at [] i x h = absurd h
mapped_at (y ∷ ys) zero x h = ap dep_in h
mapped_at (y ∷ ys) (suc i) x h = mapped_at ys i x h

pub mapped_length : (xs : List DE.Dependence) → length (mapped xs) ≡ length xs
mapped_length [] = refl
mapped_length (x ∷ xs) = ap suc (mapped_length xs)

-- what all dependences of the paper have, those of the nest have
pub mapped_all
    : (P : Dep → Type 0) (xs : List DE.Dependence) → ((x : DE.Dependence) → In x xs → P (dep_in x))
    → (e : Dep) → Among e (mapped xs) → P e
mapped_all P [] h e a = absurd a
mapped_all P (x ∷ xs) h e (inl a) = subst P (sym a) (h x (0, refl))
mapped_all P (x ∷ xs) h e (inr a) = mapped_all P xs (λ y i. h y (suc i.0, i.1)) e a

-- ---- rising lists

pub rising_is : (n low : ℕ) (gs : List ℕ) → Rising n low gs → are_gaps_from low n gs ≡ true
rising_is n low [] r = refl
rising_is n low (g ∷ gs) (Rising.more l m r) =
    and_intro (lt-ltb low g l) (and_intro (lt-ltb g n m) (rising_is n g gs r))

pub is_rising : (n low : ℕ) (gs : List ℕ) → are_gaps_from low n gs ≡ true → Rising n low gs
is_rising n low [] h = Rising.none
is_rising n low (g ∷ gs) h =
    let z = rises low n g gs h in
    Rising.more z.above z.below (is_rising n g gs z.rest)

-- ---- counts

pub one_count : (P : ℕ → Type 0) (xs : List ℕ) (a b : ℕ) → HowMany P xs a → HowMany P xs b → a ≡ b
one_count P [] a b HowMany.none HowMany.none = refl
one_count P (x ∷ xs) a b (HowMany.one {k = j} h r) (HowMany.one {k = k} i s) = ap suc (one_count P xs j k r s)
one_count P (x ∷ xs) a b (HowMany.one h r) (HowMany.other i s) = absurd (i h)
one_count P (x ∷ xs) a b (HowMany.other h r) (HowMany.one i s) = absurd (h i)
one_count P (x ∷ xs) a b (HowMany.other h r) (HowMany.other i s) = one_count P xs a b r s

module _ (ps : List ℕ) (shape : is_shape ps ≡ true) where
  -- 01, "The nest and its gaps": gap g belongs to the innermost loop with DO below g and ENDDO at or above g
  pub own_is : (d e g : ℕ) → Own ps d e g → owner_of ps g ≡ d
  own_is d e g o =
      let l = o.loop in
      let b : g < length ps = omega (arith, o.upto, at_in ps e 2 l.ends) in
      owner_is ps shape g d (omega (arith, o.after)) b
      (record {
        loop = loop_do ps d e l;
        below = o.after;
        holds = omega (arith, o.upto, loop_end ps d e l);
        most = λ x h k m. o.innermost x (end_of ps x) (loop_at ps shape x h) k m;
      })

  pub is_own : (d e g : ℕ) → Loop ps d e → 0 < g → g < length ps → owner_of ps g ≡ d → Own ps d e g
  is_own d e g l a b q =
      let o = subst (λ (x : ℕ). Owner ps g g x) q (owner_law ps shape g a b) in
      record {
        loop = l;
        after = o.below;
        upto = omega (arith, o.holds, loop_end ps d e l);
        innermost =
            λ x y m i j. o.most x (loop_do ps x y m) i (omega (arith, j, loop_end ps x y m));
      }

  pub counted
      : (n : Nest) → n.points ≡ ps → (d e low : ℕ) → Loop ps d e → (gs : List ℕ)
      → are_gaps_from low (length ps) gs ≡ true
      → HowMany (Own ps d e) gs (loop_count n gs d)
  counted n q d e low l [] h = HowMany.none
  counted n q d e low l (g ∷ gs) h =
      let z = rises low (length ps) g gs h in
      go (eqb (owner_of n.points g) d) refl z.above z.below (counted n q d e g l gs z.rest)
    where
      go
          : (t : Bool) → eqb (owner_of n.points g) d ≡ t → low < g → g < length ps
          → HowMany (Own ps d e) gs (loop_count n gs d)
          → HowMany (Own ps d e) (g ∷ gs) (when t 1 + loop_count n gs d)
      go true x a b r =
          let y : owner_of ps g ≡ d = ap (λ (i : List ℕ). owner_of i g) (sym q) ∙ eqb-true (owner_of n.points g) d x in
          let w : 1 + loop_count n gs d ≡ suc (loop_count n gs d) = omega arith in
          rw w (HowMany.one (is_own d e g l (omega arith) b y) r)
      go false x a b r =
          let w : 0 + loop_count n gs d ≡ loop_count n gs d = omega arith in
          rw w
          (HowMany.other
          (λ o. eqb-false (owner_of n.points g) d x (ap (λ (i : List ℕ). owner_of i g) q ∙ own_is d e g o))
          r)

  pub count_is
      : (n : Nest) → n.points ≡ ps → (d e low k : ℕ) → Loop ps d e → (gs : List ℕ)
      → are_gaps_from low (length ps) gs ≡ true
      → HowMany (Own ps d e) gs k → loop_count n gs d ≡ k
  count_is n q d e low k l gs h c = one_count (Own ps d e) gs (loop_count n gs d) k (counted n q d e low l gs h) c

  -- ---- cuts

  pub gap_is : (x : DE.Dependence) (g : ℕ) → GapOf ps x g → has_gap ps (dep_in x) g ≡ true
  gap_is x g (GapOf.line k a b) = gap_of_line ps (dep_in x) g k a b
  gap_is x g (GapOf.front k a b) = gap_before_target ps (dep_in x) g k a b
  gap_is x g (GapOf.back e k l a b) =
      gap_after_source ps (dep_in x) g k a (omega (arith, b, loop_end ps x.d e l))

  pub is-gap : (x : DE.Dependence) (g : ℕ) → Fits ps (dep_in x) → has_gap ps (dep_in x) g ≡ true → GapOf ps x g
  is-gap x g (inl f) h = let z = line_gap ps (dep_in x) g f.kind_is h in GapOf.line f.kind_is z.0 z.1
  is-gap x g (inr f) h =
      ⊎_elim
      (λ z. GapOf.front f.kind_is z.0 z.1)
      (λ z. GapOf.back (end_of ps x.d) f.kind_is (loop_at ps shape x.d f.loop) z.0 z.1)
      (back_gap ps (dep_in x) g f.kind_is h)

  pub cut_is : (x : DE.Dependence) (gs : List ℕ) → Cut ps x gs → cuts ps (dep_in x) gs ≡ true
  cut_is x gs c =
      let i = c.1.0 in
      gap_cuts ps (dep_in x) gs c.0 (in_is c.0 gs i.0 i.1) (gap_is x c.0 c.1.1)

  pub is-cut : (x : DE.Dependence) (gs : List ℕ) → Fits ps (dep_in x) → cuts ps (dep_in x) gs ≡ true → Cut ps x gs
  is-cut x gs f h =
      let c = cut_has_gap ps (dep_in x) gs h in
      (c.gap, (is-in c.gap gs c.placed, is-gap x c.gap f c.its))

-- ---- correct sets

module _ (p : Paper) (fs : List ℕ) where
  pub gaps_are : (gs : List ℕ) → Gaps p gs → are_gaps (nest_of p fs) gs ≡ true
  gaps_are gs c = rising_is (length p.points) 0 gs c.rising

  pub gaps_avoid : (gs : List ℕ) → Gaps p gs → avoids p.barred gs ≡ true
  gaps_avoid gs c =
      avoids_by p.barred gs
      (λ g h.
      ap not (false_by (λ (z : is_in g p.barred ≡ true). c.free g (is-in g gs h) (is-in g p.barred z))))

  pub are-gaps : (gs : List ℕ) → are_gaps (nest_of p fs) gs ≡ true → avoids p.barred gs ≡ true → Gaps p gs
  are-gaps gs h k =
      record {
        rising = is_rising (length p.points) 0 gs h;
        free = λ g i j. taken g i j;
      }
    where
      taken : (g : ℕ) → In g gs → In g p.barred → ⊥
      taken g i j =
          let z : not (is_in g p.barred) ≡ true = avoids_in p.barred gs k g (in_is g gs i.0 i.1) in
          never (rw (in_is g p.barred j.0 j.1) at z)

  module _ (shape : is_shape p.points ≡ true) where
    pub correct_is : (gs : List ℕ) → Correct p gs → is_correct (nest_of p fs) gs ≡ true
    correct_is gs c =
        correct_by (nest_of p fs) gs (gaps_are gs c.gaps) (gaps_avoid gs c.gaps)
        (mapped_all (λ (e : Dep). cuts p.points e gs ≡ true) p.deps
        (λ x i. cut_is p.points shape x gs (c.cut x i)))

    pub is-correct
        : ((x : DE.Dependence) → In x p.deps → Fits p.points (dep_in x))
        → (gs : List ℕ) → is_correct (nest_of p fs) gs ≡ true → Correct p gs
    is-correct fit gs h =
        record {
          gaps = are-gaps gs (correct_gaps (nest_of p fs) gs h) (correct_avoids (nest_of p fs) gs h);
          cut =
              λ x i.
              is-cut p.points shape x gs (fit x i)
              (correct_cuts (nest_of p fs) gs h (dep_in x)
              (in_among (dep_in x) (mapped p.deps) i.0 (mapped_at p.deps i.0 x i.1)));
        }
