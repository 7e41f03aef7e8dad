-- 01, "Papers with known results": P, Q and R on the page of the demands, so that its definitions cannot be empty. The
-- texts spell the papers; that the keys are best is argued here from the page's own words, and so are the verdicts. No
-- planner, key or verdict of the project is used: only that its loops, owners and tests are those of the page, which
-- lets them be computed.
-- Main definitions: `P`, `Q`, `R`, `Worked`. Main statement: `worked_papers`.
use mathlib.Core.Path.{◌≡◌, refl, sym, ap, subst}
use mathlib.Core.Bool.{true}
use mathlib.Core.List.{List, [], ◌∷◌}
use mathlib.Core.Logic.{◌⊎◌, inl, inr, ⊎_elim}
use Prim.Native.Nat.{ℕ, zero, suc, ◌+◌, ◌≤◌, ◌<◌}
use native.Mathlib.Omega.{arith}
use lib.ListN.{length}
use Rattle.laws.proofs.Tests.{eq_or, eq_by, le_by}
use Rattle.paper_nests.specs.declared.Dependence as DE
use Rattle.paper_placements.specs.declared.Counts as DC
use Rattle.paper_placements.specs.Placements.{is_correct, loop_count}
use Rattle.paper_texts.specs.NestTexts as T
use Rattle.paper_texts.proofs.Accepted.{accepted_means}
use Rattle.paper_texts.proofs.TextCases.{P-lines, Q-lines, R-lines, P-read, Q-read, R-read}
use Rattle.desk.specs.declared.Verdict.TheVariants as VV
use Rattle.pages.specs.Demands.{In, Rising, Loop, Own, GapOf, Paper, Correct}
use Rattle.pages.specs.Demands.{Best, Interval, Key, Spells, Says}
use Rattle.pages.proofs.Bodies.{loop_end, loop_at}
use Rattle.pages.proofs.Placements.{nest_of, gaps_are}
use Rattle.pages.proofs.Keys.{good_tree}
use Rattle.pages.proofs.Texts.{means_page}
use Rattle.pages.proofs.Computed.{line, round, two_held, few_held, count, held, own_in, line_gaps, round_gaps}
use Rattle.pages.proofs.Computed.{All, Inside, Needs, best, key_several, uncut, dearer}

-- ---- the papers

-- 001, figure 4
abbrev pub P : Paper
P =
    record {
      points = 1 ∷ 1 ∷ 3 ∷ 3 ∷ 3 ∷ 3 ∷ 2 ∷ 1 ∷ 3 ∷ 3 ∷ 3 ∷ 3 ∷ 2 ∷ 2 ∷ [];
      deps = line 2 5 ∷ round 1 4 3 ∷ line 8 11 ∷ round 7 10 9 ∷ round 0 10 2 ∷ line 4 9 ∷ [];
      barred = [];
    }

-- 001, figure 7
abbrev pub Q : Paper
Q =
    record {
      points = 1 ∷ 3 ∷ 1 ∷ 1 ∷ 3 ∷ 3 ∷ 2 ∷ 3 ∷ 2 ∷ 2 ∷ [];
      deps = line 1 5 ∷ round 3 5 4 ∷ line 4 7 ∷ [];
      barred = [];
    }

abbrev pub R : Paper
R =
    record {
      points = 1 ∷ 3 ∷ 3 ∷ 3 ∷ 3 ∷ 3 ∷ 3 ∷ 2 ∷ [];
      deps = line 1 4 ∷ line 3 6 ∷ round 0 5 2 ∷ [];
      barred = [];
    }

-- ---- P: a barrier in loop 1 and one in loop 7 for what these carry, and none in loop 0

P-needs
    : (ys : List ℕ) → Correct P ys
    → All (Needs P refl refl (0 ∷ 1 ∷ 7 ∷ []) refl (5 ∷ 11 ∷ []) refl ys) (0 ∷ 1 ∷ 7 ∷ [])
P-needs ys c =
    All.both (λ e l i. none) (All.both (λ e l i. first e l) (All.both (λ e l i. second e l) All.none))
  where
    rising : Rising 14 0 ys
    rising = c.gaps.rising

    none : 0 ≤ loop_count (nest_of P []) ys 0
    none = omega arith

    first : (e : ℕ) → Loop P.points 1 e → 1 ≤ loop_count (nest_of P []) ys 1
    first e l =
        let x = c.cut (round 1 4 3) (1, refl) in
        let z = loop_end P.points 1 e l in
        let o : Own P.points 1 e x.0 =
        ⊎_elim
        (λ r. own_in P refl refl 1 e 1 6 l refl (omega arith) x.0 r.0 (omega (arith, r.1)))
        (λ r. own_in P refl refl 1 e 1 6 l refl (omega arith) x.0 (omega (arith, r.0)) (omega (arith, r.1)))
        (round_gaps P.points 1 4 3 e x.0 l x.1.1) in
        held P refl refl ys rising 1 e x.0 l x.1.0 o

    second : (e : ℕ) → Loop P.points 7 e → 1 ≤ loop_count (nest_of P []) ys 7
    second e l =
        let x = c.cut (round 7 10 9) (3, refl) in
        let z = loop_end P.points 7 e l in
        let o : Own P.points 7 e x.0 =
        ⊎_elim
        (λ r. own_in P refl refl 7 e 7 12 l refl (omega arith) x.0 r.0 (omega (arith, r.1)))
        (λ r. own_in P refl refl 7 e 7 12 l refl (omega arith) x.0 (omega (arith, r.0)) (omega (arith, r.1)))
        (round_gaps P.points 7 10 9 e x.0 l x.1.1) in
        held P refl refl ys rising 7 e x.0 l x.1.0 o

P-keyed : Key P (5 ∷ 11 ∷ [])
P-keyed =
    key_several P refl refl (0 ∷ 1 ∷ 7 ∷ []) refl (5 ∷ 11 ∷ []) refl P-needs
    (λ one. omega (arith, one 1 refl))

-- ---- Q: a barrier in loop 3 for what it carries; if there is one only and none in loop 2, it is gap 6, and the first
-- dependence needs a barrier in loop 0

Q-needs
    : (ys : List ℕ) → Correct Q ys → All (Needs Q refl refl (0 ∷ 2 ∷ 3 ∷ []) refl (2 ∷ 6 ∷ []) refl ys) (0 ∷ 2 ∷ 3 ∷ [])
Q-needs ys c =
    All.both (λ e l i. outer e l i) (All.both (λ e l i. none) (All.both (λ e l i. inner e l) All.none))
  where
    rising : Rising 10 0 ys
    rising = c.gaps.rising

    none : 0 ≤ loop_count (nest_of Q []) ys 2
    none = omega arith

    L3 : Loop Q.points 3 6
    L3 = loop_at Q.points refl 3 refl

    L2 : Loop Q.points 2 8
    L2 = loop_at Q.points refl 2 refl

    in3 : (g : ℕ) → 3 < g → g ≤ 6 → Own Q.points 3 6 g
    in3 g a b = own_in Q refl refl 3 6 3 6 L3 refl (omega arith) g a b

    carried : (g : ℕ) → GapOf Q.points (round 3 5 4) g → (g ≡ 4) ⊎ (g ≡ 6)
    carried g h =
        ⊎_elim
        (λ r. inl (omega (arith, r.0, r.1)))
        (λ r. inr (omega (arith, r.0, r.1)))
        (round_gaps Q.points 3 5 4 6 g L3 h)

    inner : (e : ℕ) → Loop Q.points 3 e → 1 ≤ loop_count (nest_of Q []) ys 3
    inner e l =
        let x = c.cut (round 3 5 4) (1, refl) in
        let o : Own Q.points 3 6 x.0 =
        ⊎_elim (λ r. in3 x.0 (omega arith) (omega arith)) (λ r. in3 x.0 (omega arith) (omega arith))
        (carried x.0 x.1.1) in
        held Q refl refl ys rising 3 6 x.0 L3 x.1.0 o

    -- two gaps of loop 3 are one, where the set has one there
    same3 : loop_count (nest_of Q []) ys 3 ≡ 1 → (g h : ℕ) → In g ys → In h ys → 3 < g → g ≤ 6 → 3 < h → h ≤ 6 → g ≡ h
    same3 q g h i j a b m n =
        eq_by
        (λ z.
        omega (
          arith,
          two_held (Own Q.points 3 6) ys (loop_count (nest_of Q []) ys 3) g h (count Q refl refl ys rising 3 6 L3) i j
              (in3 g a b)
              (in3 h m n) z,
        ))

    not2 : loop_count (nest_of Q []) ys 2 ≡ 0 → (g : ℕ) → In g ys → Own Q.points 2 8 g → ⊥
    not2 q g i o = omega (arith, held Q refl refl ys rising 2 8 g L2 i o)

    L0 : Loop Q.points 0 9
    L0 = loop_at Q.points refl 0 refl

    outer
        : (e : ℕ) → Loop Q.points 0 e
        → Inside Q refl refl (0 ∷ 2 ∷ 3 ∷ []) refl (2 ∷ 6 ∷ []) refl ys 0 e → 1 ≤ loop_count (nest_of Q []) ys 0
    outer e l i =
        let end = loop_end Q.points 0 e l in
        let q3 : loop_count (nest_of Q []) ys 3 ≡ 1 = sym (i 3 6 L3 (omega arith) (omega arith)) in
        let q2 : loop_count (nest_of Q []) ys 2 ≡ 0 = sym (i 2 8 L2 (omega arith) (omega arith)) in
        let x = c.cut (round 3 5 4) (1, refl) in
        let y = c.cut (line 4 7) (2, refl) in
        let z = c.cut (line 1 5) (0, refl) in
        let h = line_gaps Q.points 4 7 y.0 y.1.1 in
        let k = line_gaps Q.points 1 5 z.0 z.1.1 in
        let g : (x.0 ≡ 4) ⊎ (x.0 ≡ 6) = carried x.0 x.1.1 in
        let six : x.0 ≡ 6 = sixth q2 q3 x.0 y.0 g x.1.0 y.1.0 h.0 h.1 in
        second q2 q3 x.0 z.0 six x.1.0 z.1.0 k.0 k.1
      where
        -- the barrier that the last dependence needs is not gap 7
        sixth
            : loop_count (nest_of Q []) ys 2 ≡ 0 → loop_count (nest_of Q []) ys 3 ≡ 1 → (g h : ℕ) → (g ≡ 4) ⊎ (g ≡ 6)
            → In g ys
            → In h ys → 4 < h → h ≤ 7 → g ≡ 6
        sixth q2 q3 g h w i j a b =
            let n : h ≡ 7 → ⊥ =
            λ e. not2 q2 h j (own_in Q refl refl 2 8 6 8 L2 refl (omega arith) h (omega arith) (omega arith)) in
            let r : (3 < g) × (g ≤ 6) =
            ⊎_elim (λ (v : g ≡ 4). (omega arith, omega arith)) (λ (v : g ≡ 6). (omega arith, omega arith)) w in
            let s = same3 q3 g h i j r.0 r.1 (omega arith) (omega (arith, n)) in
            ⊎_elim (λ (v : g ≡ 4). omega arith) (λ (v : g ≡ 6). v) w

        -- and the one that the first needs is gap 2
        second
            : loop_count (nest_of Q []) ys 2 ≡ 0 → loop_count (nest_of Q []) ys 3 ≡ 1 → (g k : ℕ) → g ≡ 6 → In g ys
            → In k ys
            → 1 < k → k ≤ 5 → 1 ≤ loop_count (nest_of Q []) ys 0
        second q2 q3 g k e i j a b =
            let n : k ≡ 3 → ⊥ =
            λ w. not2 q2 k j (own_in Q refl refl 2 8 2 3 L2 refl (omega arith) k (omega arith) (omega arith)) in
            let m : 3 < k → ⊥ =
            λ w. let s = same3 q3 g k i j (omega arith) (omega arith) w (omega arith) in omega arith in
            let two : k ≤ 2 = le_by (λ w. m (omega (arith, n))) in
            held Q refl refl ys rising 0 9 k L0 j (own_in Q refl refl 0 9 0 2 L0 refl (omega arith) k (omega arith) two)

Q-keyed : Key Q (2 ∷ 6 ∷ [])
Q-keyed =
    key_several Q refl refl (0 ∷ 2 ∷ 3 ∷ []) refl (2 ∷ 6 ∷ []) refl Q-needs
    (λ one. omega (arith, one 2 refl))

-- ---- R: no gap lies in all three intervals

R-loop : Loop R.points 0 7
R-loop = loop_at R.points refl 0 refl

R-two : (ys : List ℕ) → Correct R ys → 2 ≤ loop_count (nest_of R []) ys 0
R-two ys c =
    let x = c.cut (line 1 4) (0, refl) in
    let y = c.cut (line 3 6) (1, refl) in
    let z = c.cut (round 0 5 2) (2, refl) in
    let g = line_gaps R.points 1 4 x.0 x.1.1 in
    let h = line_gaps R.points 3 6 y.0 y.1.1 in
    ⊎_elim
    (λ (e : x.0 ≡ y.0). two x.0 z.0 x.1.0 z.1.0 (omega (arith, g.0)) (omega (arith, g.1))
    (other z.0 z.1.1).0 (other z.0 z.1.1).1.0
    (λ w. (other z.0 z.1.1).1.1 (omega (arith, g.0, g.1, h.0, h.1))))
    (λ (n : x.0 ≡ y.0 → ⊥).
    two x.0 y.0 x.1.0 y.1.0 (omega (arith, g.0)) (omega (arith, g.1)) (omega (arith, h.0))
    (omega (arith, h.1)) n)
    (eq_or x.0 y.0)
  where
    two : (g h : ℕ) → In g ys → In h ys → 0 < g → g ≤ 7 → 0 < h → h ≤ 7 → (g ≡ h → ⊥) → 2 ≤ loop_count (nest_of R []) ys 0
    two g h i j a b m n w =
        two_held (Own R.points 0 7) ys (loop_count (nest_of R []) ys 0) g h
        (count R refl refl ys c.gaps.rising 0 7 R-loop) i j
        (own_in R refl refl 0 7 0 7 R-loop refl (omega arith) g a b)
        (own_in R refl refl 0 7 0 7 R-loop refl (omega arith) h m n) w

    -- the gaps of the third interval, among which 4 is not
    other : (g : ℕ) → GapOf R.points (round 0 5 2) g → (0 < g) × ((g ≤ 7) × (g ≡ 4 → ⊥))
    other g h =
        ⊎_elim
        (λ r. (r.0, (omega (arith, r.1), (λ e. omega (arith, r.1)))))
        (λ r. (omega (arith, r.0), (r.1, (λ e. omega (arith, r.0)))))
        (round_gaps R.points 0 5 2 7 g R-loop h)

module _ (key : List ℕ) (right : is_correct (nest_of R []) key ≡ true) (two : loop_count (nest_of R []) key 0 ≡ 2) where
  R-best : Best R key
  R-best =
      best R refl refl (0 ∷ []) refl key right (λ ys c. All.both (λ e l i. omega (arith, R-two ys c)) All.none)

-- the intervals of R: gaps 2 to 4, 4 to 6, and 6, 7, 1, 2
abbrev OnRing : DE.Dependence → ℕ → Type 0
OnRing x m = (a : ℕ) × ((k : ℕ) × Interval R.points x m a k)

R-first : OnRing (line 1 4) 7
R-first = (
  2,
  (
    3,
    record {
      start = (omega arith, omega arith);
      size = (omega arith, omega arith);
      gaps =
          λ g. (
            (λ h. let r = line_gaps R.points 1 4 g h in
                (omega (arith, r.0), omega (arith, r.1), inl (r.0, omega (arith, r.1)))),
            (λ h. GapOf.line refl (⊎_elim (λ z. z.0) (λ (z : g + 7 < 2 + 3). absurd (omega arith)) h.2)
                (⊎_elim (λ z. omega (arith, z.1)) (λ (z : g + 7 < 2 + 3). absurd (omega arith)) h.2)),
          );
    },
  ),
)

R-second : OnRing (line 3 6) 7
R-second = (
  4,
  (
    3,
    record {
      start = (omega arith, omega arith);
      size = (omega arith, omega arith);
      gaps =
          λ g. (
            (λ h. let r = line_gaps R.points 3 6 g h in
                (omega (arith, r.0), omega (arith, r.1), inl (r.0, omega (arith, r.1)))),
            (λ h. GapOf.line refl (⊎_elim (λ z. z.0) (λ (z : g + 7 < 4 + 3). absurd (omega (arith, h.0))) h.2)
                (⊎_elim (λ z. omega (arith, z.1)) (λ (z : g + 7 < 4 + 3). absurd (omega (arith, h.0))) h.2)),
          );
    },
  ),
)

R-third : OnRing (round 0 5 2) 7
R-third = (
  6,
  (
    4,
    record {
      start = (omega arith, omega arith);
      size = (omega arith, omega arith);
      gaps =
          λ g. (
            (λ h.
                ⊎_elim
                (λ r. (r.0, omega (arith, r.1), inr (omega (arith, r.1))))
                (λ r. (omega (arith, r.0), r.1, inl (r.0, omega (arith, r.1))))
                (round_gaps R.points 0 5 2 7 g R-loop h)),
            (λ h.
                ⊎_elim
                (λ z. GapOf.back 7 refl R-loop z.0 h.1)
                (λ (z : g + 7 < 6 + 4). GapOf.front refl h.0 (omega arith))
                h.2),
          );
    },
  ),
)

R-ring : (m : ℕ) → length R.points ≡ suc m → (x : DE.Dependence) → In x R.deps → OnRing x m
R-ring m e x i =
    let z : 7 ≡ m = omega arith in
    subst (OnRing x) z (go x i)
  where
    go : (x : DE.Dependence) → In x R.deps → OnRing x 7
    go x (zero, q) = subst (λ (y : DE.Dependence). OnRing y 7) q R-first
    go x (suc zero, q) = subst (λ (y : DE.Dependence). OnRing y 7) q R-second
    go x (suc (suc zero), q) = subst (λ (y : DE.Dependence). OnRing y 7) q R-third
    go x (suc (suc (suc i)), q) = absurd q

R-keyed : Key R (1 ∷ 4 ∷ [])
R-keyed =
    let b = R-best (1 ∷ 4 ∷ []) refl refl in
    record {
      best = b;
      by_trees =
          λ ys c e l.
          good_tree (nest_of R []) refl (1 ∷ 4 ∷ []) ys refl (gaps_are R [] ys c.gaps) (b.least ys c) 0 e l;
      smallest =
          λ one ys c.
          omega (
            arith,
            R-two ys c,
            few_held (Own R.points 0 7) ys (loop_count (nest_of R []) ys 0)
                (count R refl refl ys c.gaps.rising 0 7 R-loop),
          );
      ring = λ one m e x i. R-ring m e x i;
    }

-- ---- the texts

spelled : (t : List ℕ) (p : Paper) → T.read_nest t ≡ T.got 0 0 (nest_of p []) → Spells t p
spelled t p e =
    means_page t p []
    (subst (T.Means t) (ap (λ (g : T.Got). g.nest_is) e) (accepted_means t (ap (λ (g : T.Got). g.number) e)))

-- ---- the cases, by their numbers

abbrev told : ℕ → ℕ → ℕ → DC.Counts
told d theirs ours = record { d = d; theirs = theirs; ours = ours }

pub record Worked : Type 0 where
  pub P-spelled : Spells P-lines P
  pub Q-spelled : Spells Q-lines Q
  pub R-spelled : Spells R-lines R
  pub case_1 : Key P (5 ∷ 11 ∷ [])
  pub case_2 : Says P (5 ∷ 11 ∷ []) (3 ∷ 9 ∷ []) (VV.Uncut 4)
  pub case_3 : Says P (5 ∷ 11 ∷ []) (3 ∷ 11 ∷ []) (VV.Uncut 5)
  pub case_4 : Says P (5 ∷ 11 ∷ []) (3 ∷ 9 ∷ 13 ∷ []) (VV.Dearer (told 0 1 0))
  pub case_5 : Says P (5 ∷ 11 ∷ []) (5 ∷ 10 ∷ 11 ∷ []) (VV.Dearer (told 7 2 1))
  pub case_6 : Key Q (2 ∷ 6 ∷ [])
  pub case_7 : Says Q (2 ∷ 6 ∷ []) (4 ∷ 7 ∷ []) (VV.Dearer (told 2 1 0))
  pub case_8 : Key R (1 ∷ 4 ∷ [])
  pub case_8_other : Says R (1 ∷ 4 ∷ []) (2 ∷ 4 ∷ []) VV.Best

pub worked_papers : Worked
worked_papers =
    record {
      P-spelled = spelled P-lines P P-read;
      Q-spelled = spelled Q-lines Q Q-read;
      R-spelled = spelled R-lines R R-read;
      case_1 = P-keyed;
      case_2 = uncut P refl refl (5 ∷ 11 ∷ []) (3 ∷ 9 ∷ []) 4 (omega arith) refl refl;
      case_3 = uncut P refl refl (5 ∷ 11 ∷ []) (3 ∷ 11 ∷ []) 5 (omega arith) refl refl;
      case_4 = dearer P refl refl (5 ∷ 11 ∷ []) (3 ∷ 9 ∷ 13 ∷ []) 0 refl refl refl refl (omega arith);
      case_5 = dearer P refl refl (5 ∷ 11 ∷ []) (5 ∷ 10 ∷ 11 ∷ []) 7 refl refl refl refl (omega arith);
      case_6 = Q-keyed;
      case_7 = dearer Q refl refl (2 ∷ 6 ∷ []) (4 ∷ 7 ∷ []) 2 refl refl refl refl (omega arith);
      case_8 = R-keyed;
      case_8_other = R-best (2 ∷ 4 ∷ []) refl refl;
    }
