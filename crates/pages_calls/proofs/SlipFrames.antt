-- The lines of slips on their page are the texts of the definitions.
-- Main statements: `candidate_lines`, `examiner_lines`.
use mathlib.Core.Path.{◌≡◌, refl, sym, ◌∙◌, ap, subst}
use mathlib.Core.Bool.{Bool, true, false, ◌&&◌}
use mathlib.Core.List.{List, [], ◌∷◌, ◌++◌, append_assoc}
use mathlib.Core.Logic.{◌⊎◌, inl, inr}
use Prim.Native.Nat.{ℕ, zero, suc, ◌+◌, ◌/◌, ◌%◌, ◌≤◌, ◌<◌}
use native.Mathlib.Omega.{arith}
use lib.Dec.{eqb, leb}
use lib.ListN.{length, get_or}
use borrow.Author.Tests.{eq-eqb, eqb-true, eqb-false, lt-ltb}
use Rattle.laws.specs.Choice.{pick}
use Rattle.laws.proofs.Tests.{never, never_both, and_true, and_intro}
use Rattle.paper_nests.specs.declared.Dependence as DE
use Rattle.paper_nests.specs.Nests.{Dep, Nest}
use Rattle.paper_nests.specs.Loops.{end_of}
use Rattle.paper_nests.specs.Gaps.{has_gap}
use Rattle.paper_nests.specs.Valid.{is_shape, is_valid}
use Rattle.paper_nests.specs.Stored.{dep_in}
use Rattle.paper_nests.proofs.Deps.{Fits, valid_is}
use Rattle.paper_lines.specs.Lines.{line_text}
use Rattle.paper_lines.proofs.Spelling.{are_bytes, frames_text, are_frames}
use Rattle.paper_placements.specs.Placements.{cuts, cut_by, uncut, are_gaps_from, are_gaps, is_correct, loop_count}
use Rattle.paper_placements.proofs.Cuts.{LowestUncut, correct_cuts}
use Rattle.paper_placements.proofs.GapLists.{count_few, rising_length}
use Rattle.paper_placements.proofs.Rising.{rises, rising_in}
use Rattle.paper_order.specs.Verdicts.{mark_of}
use Rattle.paper_order.proofs.Verdicts.{uncut_lowest}
use Rattle.paper_texts.specs.Counts.{counts_from}
use Rattle.desk.specs.declared.Verdict as DV
use Rattle.desk.specs.declared.Verdict.TheVariants as VV
use Rattle.desk.specs.Says.{verdict_in}
use Rattle.call_slips.specs.Texts.{first_text, slip_text, verdict_text, cuts_text, examiner_text}
use Rattle.pages.specs.Demands as P
use Rattle.pages.specs.Demands.{At, In, Own, HowMany, GapOf, Paper, Cut, Frames, Gaps}
use Rattle.pages.proofs.Lists.{at_in, at_is, is_at, in_is, in_among}
use Rattle.pages.proofs.Bodies.{loop_at}
use Rattle.pages.proofs.Placements.{mapped, nest_of, mapped_at, mapped_length, gap_is, is-gap, cut_is, is-cut, counted}
use Rattle.pages.proofs.Placements.{gaps_are, gaps_avoid}
use Rattle.pages.proofs.Keys.{shaped, fit}
use Rattle.pages_calls.specs.Slips.{FirstLine, CountLines, VerdictLine, CutLines, CandidateSlip, ExaminerSlip}

-- texts of frames behind one another
frames_append : (fs gs : Frames) → frames_text (fs ++ gs) ≡ frames_text fs ++ frames_text gs
frames_append [] gs = refl
frames_append (f ∷ fs) gs =
    ap (λ (t : List ℕ). line_text f ++ t) (frames_append fs gs) ∙
    sym (append_assoc (line_text f) (frames_text fs) (frames_text gs))

all_frames : (fs gs : Frames) → are_frames fs ≡ true → are_frames gs ≡ true → are_frames (fs ++ gs) ≡ true
all_frames [] gs h k = k
all_frames (f ∷ fs) gs h k =
    let z = and_true (leb 1 (length f) && are_bytes f) (are_frames fs) h in
    and_intro z.0 (all_frames fs gs z.1 k)

module _ (p : Paper) (fl : List ℕ) (valid : is_valid (nest_of p fl) ≡ true) (gs : List ℕ) (g : Gaps p gs) where
  abbrev n : Nest
  n = nest_of p fl

  abbrev ps : List ℕ
  ps = p.points

  shape : is_shape ps ≡ true
  shape = shaped p fl valid

  rising : are_gaps n gs ≡ true
  rising = gaps_are p fl gs g

  few : length ps ≤ 256
  few = (valid_is n valid).few_points

  count_byte : (xs : List ℕ) → are_gaps n xs ≡ true → (d : ℕ) → 1 ≤ length ps → loop_count n xs d < 256
  count_byte xs r d l = omega (arith, count_few n xs d, rising_length 0 (length ps) xs r, few)

  some_point : 1 ≤ length ps
  some_point = go ps shape
    where
      go : (qs : List ℕ) → is_shape qs ≡ true → 1 ≤ length qs
      go [] h = never h
      go (q ∷ qs) h = omega arith

  -- ---- the first uncut dependence

  record First : Type 0 where
    line : List ℕ
    is : FirstLine p gs line
    text : first_text (uncut n gs) ≡ line_text line
    bytes : are_frames (line ∷ []) ≡ true

  no_dep : Dep
  no_dep = record { kind = 0; d = 0; s = 0; t = 0 }

  lowest : (i : ℕ) → LowestUncut ps (mapped p.deps) gs no_dep i → P.Uncut p gs i
  lowest i l =
      let there : i < length p.deps = omega (arith, l.there, mapped_length p.deps) in
      let none : DE.Dependence = record { kind = 0; d = 0; s = 0; t = 0 } in
      let x = get_or p.deps i none in
      let at : At p.deps i x = is_at p.deps i x none there refl in
      record {
        not_cut = (
          x,
          (
            at,
            λ c. never_both (cut_is ps shape x gs c)
                (ap (λ (e : Dep). cuts ps e gs) (sym (dep-at i x at)) ∙ l.not_cut),
          ),
        );
        lower_cut =
            λ j y b a.
            is-cut ps shape y gs (fit p fl valid y (j, a))
            (ap (λ (e : Dep). cuts ps e gs) (sym (dep-at j y a)) ∙ l.lower j b);
      }
    where
      dep-at : (i : ℕ) (x : DE.Dependence) → At p.deps i x → get_or (mapped p.deps) i no_dep ≡ dep_in x
      dep-at i x a = at_is (mapped p.deps) i (dep_in x) no_dep (mapped_at p.deps i x a)

  first_is : First
  first_is = go (uncut n gs) refl
    where
      go : (k : ℕ) → uncut n gs ≡ k → First
      go zero e =
          record {
            line = 35 ∷ 255 ∷ 255 ∷ [];
            is = FirstLine.none (λ x i. all x i);
            text = rw e;
            bytes = refl;
          }
        where
          right : is_correct n gs ≡ true
          right = and_intro rising (and_intro (gaps_avoid p fl gs g) (eq-eqb (uncut n gs) 0 e))

          all : (x : DE.Dependence) → In x p.deps → Cut ps x gs
          all x i =
              is-cut ps shape x gs (fit p fl valid x i)
              (correct_cuts n gs right (dep_in x)
              (in_among (dep_in x) (mapped p.deps) i.0 (mapped_at p.deps i.0 x i.1)))
      go (suc k) e =
          let l = uncut_lowest n [] gs no_dep k (rw e) in
          let b : k < 512 = omega (arith, l.there, mapped_length p.deps, (valid_is n valid).few_deps) in
          record {
            line = 35 ∷ k / 256 ∷ k % 256 ∷ [];
            is = FirstLine.uncut k (lowest k l);
            text = rw e;
            bytes =
                and_intro (and_intro refl (and_intro refl (and_intro (lt-ltb (k / 256) 256 (omega arith))
                (and_intro (lt-ltb (k % 256) 256 (omega arith)) refl)))) refl;
          }

  -- ---- the counts

  abbrev count_frames : ℕ → List ℕ → Frames
  count_frames a [] = []
  count_frames a (q ∷ qs) =
      pick (eqb q 1) ((34 ∷ a ∷ loop_count n gs a ∷ []) ∷ count_frames (suc a) qs) (count_frames (suc a) qs)

  counts-text : (a : ℕ) (qs : List ℕ) → counts_from n gs a qs ≡ frames_text (count_frames a qs)
  unfolding counts_from
  counts-text a [] = refl
  counts-text a (q ∷ qs) = go (eqb q 1) (counts-text (suc a) qs)
    where
      go
          : (t : Bool) → counts_from n gs (suc a) qs ≡ frames_text (count_frames (suc a) qs)
          → pick t (line_text (34 ∷ (a ∷ (loop_count n gs a ∷ [])))) [] ++ counts_from n gs (suc a) qs ≡
          frames_text (pick t ((34 ∷ a ∷ loop_count n gs a ∷ []) ∷ count_frames (suc a) qs) (count_frames (suc a) qs))
      go true r = ap (λ (t : List ℕ). line_text (34 ∷ (a ∷ (loop_count n gs a ∷ []))) ++ t) r
      go false r = r

  -- the points from a on
  record From (a : ℕ) (qs : List ℕ) : Type 0 where
    there : (j q : ℕ) → At qs j q → At ps (a + j) q

  from_next : (a q : ℕ) (qs : List ℕ) → From a (q ∷ qs) → From (suc a) qs
  from_next a q qs f =
      record {
        there =
            λ j x h.
            let z : a + suc j ≡ suc a + j = omega arith in
            subst (λ (i : ℕ). At ps i x) z (f.there (suc j) x h);
      }

  from_here : (a q : ℕ) (qs : List ℕ) → From a (q ∷ qs) → At ps a q
  from_here a q qs f =
      let z : a + 0 ≡ a = omega arith in
      subst (λ (i : ℕ). At ps i q) z (f.there 0 q refl)

  counts_lines : (a : ℕ) (qs : List ℕ) → From a qs → CountLines ps gs a qs (count_frames a qs)
  counts_lines a [] f = CountLines.none
  counts_lines a (q ∷ qs) f = go (eqb q 1) refl (counts_lines (suc a) qs (from_next a q qs f))
    where
      go
          : (t : Bool) → eqb q 1 ≡ t → CountLines ps gs (suc a) qs (count_frames (suc a) qs)
          → CountLines ps gs a (q ∷ qs)
          (pick t ((34 ∷ a ∷ loop_count n gs a ∷ []) ∷ count_frames (suc a) qs) (count_frames (suc a) qs))
      go true e r =
          let one = eqb-true q 1 e in
          let at : At ps a 1 = subst (λ (x : ℕ). At ps a x) one (from_here a q qs f) in
          let l = loop_at ps shape a (eq-eqb (get_or ps a 0) 1 (at_is ps a 1 0 at)) in
          subst
          (λ (x : ℕ). CountLines ps gs a (x ∷ qs) ((34 ∷ a ∷ loop_count n gs a ∷ []) ∷ count_frames (suc a) qs))
          (sym one) (CountLines.loop l (counted ps shape n refl a (end_of ps a) 0 l gs rising) r)
      go false e r = CountLines.other (eqb-false q 1 e) r

  counts_bytes : (a : ℕ) (qs : List ℕ) → From a qs → are_frames (count_frames a qs) ≡ true
  counts_bytes a [] f = refl
  counts_bytes a (q ∷ qs) f = go (eqb q 1) (counts_bytes (suc a) qs (from_next a q qs f))
    where
      go
          : (t : Bool) → are_frames (count_frames (suc a) qs) ≡ true
          → are_frames (pick t ((34 ∷ a ∷ loop_count n gs a ∷ []) ∷ count_frames (suc a) qs)
          (count_frames (suc a) qs)) ≡ true
      go true r =
          let l = at_in ps a q (from_here a q qs f) in
          and_intro
          (and_intro refl
          (and_intro refl
          (and_intro (lt-ltb a 256 (omega (arith, l, few)))
          (and_intro (lt-ltb (loop_count n gs a) 256 (count_byte gs rising a some_point)) refl))))
          r
      go false r = r

  whole : From 0 ps
  whole = record { there = λ j q h. let z : 0 + j ≡ j = omega arith in subst (λ (i : ℕ). At ps i q) (sym z) h }

  -- ---- what cuts each dependence

  record Lowest (x : DE.Dependence) (hs : List ℕ) (i : ℕ) : Type 0 where
    there : In i hs
    its : GapOf ps x i
    least : (h : ℕ) → In h hs → GapOf ps x h → i ≤ h

  abbrev Cutting : DE.Dependence → List ℕ → Type 0
  Cutting x hs =
      ((Cut ps x hs → ⊥) × (cut_by ps (dep_in x) hs ≡ 0)) ⊎ Lowest x hs (cut_by ps (dep_in x) hs)

  cutting
      : (x : DE.Dependence) → Fits ps (dep_in x) → (low : ℕ) (hs : List ℕ) → are_gaps_from low (length ps) hs ≡ true
      → Cutting x hs
  cutting x f low [] r = inl ((λ c. c.1.0.1), refl)
  cutting x f low (h ∷ hs) r =
      let z = rises low (length ps) h hs r in
      go (has_gap ps (dep_in x) h) refl z.rest (cutting x f h hs z.rest)
    where
      go
          : (t : Bool) → has_gap ps (dep_in x) h ≡ t → are_gaps_from h (length ps) hs ≡ true → Cutting x hs
          → ((Cut ps x (h ∷ hs) → ⊥) × (pick t h (cut_by ps (dep_in x) hs) ≡ 0)) ⊎
          Lowest x (h ∷ hs) (pick t h (cut_by ps (dep_in x) hs))
      go true e w c =
          inr
          (record {
            there = (0, refl);
            its = is-gap ps shape x h f e;
            least = λ k i o. least k i;
          })
        where
          least : (k : ℕ) → In k (h ∷ hs) → h ≤ k
          least k (zero, q) = omega (arith, q)
          least k (suc j, q) = omega (arith, (rising_in h (length ps) hs k w (in_is k hs j q)).0)
      go false e w (inl c) = inl ((λ u. none u), c.1)
        where
          none : Cut ps x (h ∷ hs) → ⊥
          none (k, ((zero, q), o)) = never_both (gap_is ps shape x h (subst (λ (y : ℕ). GapOf ps x y) (sym q) o)) e
          none (k, ((suc j, q), o)) = c.0 (k, ((j, q), o))
      go false e w (inr l) =
          inr
          (record {
            there = (suc l.there.0, l.there.1);
            its = l.its;
            least = λ k i o. least k i o;
          })
        where
          least : (k : ℕ) → In k (h ∷ hs) → GapOf ps x k → cut_by ps (dep_in x) hs ≤ k
          least k (zero, q) o = never_both (gap_is ps shape x h (subst (λ (y : ℕ). GapOf ps x y) (sym q) o)) e
          least k (suc j, q) o = l.least k (j, q) o

  abbrev cut_frames : List DE.Dependence → Frames
  cut_frames [] = []
  cut_frames (x ∷ xs) = (37 ∷ cut_by ps (dep_in x) gs ∷ []) ∷ cut_frames xs

  cuts-text : (xs : List DE.Dependence) → cuts_text ps (mapped xs) gs ≡ frames_text (cut_frames xs)
  unfolding cuts_text
  cuts-text [] = refl
  cuts-text (x ∷ xs) = ap (λ (t : List ℕ). line_text (37 ∷ (cut_by ps (dep_in x) gs ∷ [])) ++ t) (cuts-text xs)

  cut_lines
      : (xs : List DE.Dependence) → ((x : DE.Dependence) → In x xs → Fits ps (dep_in x))
      → CutLines ps gs xs (cut_frames xs)
  cut_lines [] f = CutLines.none
  cut_lines (x ∷ xs) f =
      go (cutting x (f x (0, refl)) 0 gs rising) (cut_lines xs (λ y i. f y (suc i.0, i.1)))
    where
      go : Cutting x gs → CutLines ps gs xs (cut_frames xs) → CutLines ps gs (x ∷ xs) (cut_frames (x ∷ xs))
      go (inl (c, e)) r =
          subst (λ (g : ℕ). CutLines ps gs (x ∷ xs) ((37 ∷ g ∷ []) ∷ cut_frames xs)) (sym e) (CutLines.uncut c r)
      go (inr l) r = CutLines.cut l.there l.its l.least r

  cuts_bytes
      : (xs : List DE.Dependence) → ((x : DE.Dependence) → In x xs → Fits ps (dep_in x))
      → are_frames (cut_frames xs) ≡ true
  cuts_bytes [] f = refl
  cuts_bytes (x ∷ xs) f =
      and_intro
      (and_intro refl (and_intro refl (and_intro
      (lt-ltb (cut_by ps (dep_in x) gs) 256 (go (cutting x (f x (0, refl)) 0 gs rising))) refl)))
      (cuts_bytes xs (λ y i. f y (suc i.0, i.1)))
    where
      go : Cutting x gs → cut_by ps (dep_in x) gs < 256
      go (inl (c, e)) = omega (arith, e)
      go (inr l) =
          omega (
            arith,
            few,
            (rising_in 0 (length ps) gs (cut_by ps (dep_in x) gs) rising
                (in_is (cut_by ps (dep_in x) gs) gs l.there.0 l.there.1)).1,
          )

  -- ---- the candidate's slip

  pub record Candidate : Type 0 where
    pub frames : Frames
    pub is : CandidateSlip p gs frames
    pub text : slip_text n gs ≡ frames_text frames
    pub bytes : are_frames frames ≡ true

  pub candidate_lines : Candidate
  unfolding slip_text
  candidate_lines =
      let f = first_is in
      let cs = count_frames 0 ps in
      record {
        frames = f.line ∷ cs;
        is =
            record {
              line = f.line;
              counts = cs;
              first_line = f.is;
              count_lines = counts_lines 0 ps whole;
              lines_are = refl;
            };
        text = cc (f.text, counts-text 0 ps);
        bytes = all_frames (f.line ∷ []) cs f.bytes (counts_bytes 0 ps whole);
      }

-- ---- the verdict

how_few : (P : ℕ → Type 0) (xs : List ℕ) (k : ℕ) → HowMany P xs k → k ≤ length xs
how_few P xs k HowMany.none = omega arith
how_few P xs k (HowMany.one {xs = ys} {k = j} h r) = omega (arith, how_few P ys j r)
how_few P xs k (HowMany.other {xs = ys} h r) = omega (arith, how_few P ys k r)

abbrev verdict_frame : DV.Verdict → List ℕ
verdict_frame (VV.Uncut i) = 36 ∷ 0 ∷ 0 ∷ 0 ∷ 0 ∷ []
verdict_frame (VV.Dearer c) = 36 ∷ 1 ∷ c.d ∷ c.theirs ∷ c.ours ∷ []
verdict_frame VV.Best = 36 ∷ 2 ∷ 0 ∷ 0 ∷ 0 ∷ []

verdict-line
    : (p : Paper) (key gs : List ℕ) (v : DV.Verdict) → P.Says p key gs v → VerdictLine p key gs (verdict_frame v)
verdict-line p key gs (VV.Uncut i) h = VerdictLine.uncut i h
verdict-line p key gs (VV.Dearer c) h = VerdictLine.dearer c h
verdict-line p key gs VV.Best h = VerdictLine.best h

verdict-text : (v : DV.Verdict) → verdict_text (verdict_in v) ≡ line_text (verdict_frame v)
verdict-text (VV.Uncut i) = refl
verdict-text (VV.Dearer c) = refl
verdict-text VV.Best = refl

verdict_bytes
    : (p : Paper) (key gs : List ℕ) → length p.points ≤ 256 → length key < 256 → length gs < 256 → (v : DV.Verdict)
    → P.Says p key gs v → are_frames (verdict_frame v ∷ []) ≡ true
verdict_bytes p key gs few a b (VV.Uncut i) h = refl
verdict_bytes p key gs few a b VV.Best h = refl
verdict_bytes p key gs few a b (VV.Dearer c) h =
    let l = at_in p.points c.d 1 h.loop.begins in
    let t = how_few (Own p.points c.d h.end) gs c.theirs h.theirs_are in
    let o = how_few (Own p.points c.d h.end) key c.ours h.ours_are in
    and_intro
    (and_intro refl
    (and_intro refl
    (and_intro refl
    (and_intro (lt-ltb c.d 256 (omega (arith, l, few)))
    (and_intro (lt-ltb c.theirs 256 (omega (arith, t, b)))
    (and_intro (lt-ltb c.ours 256 (omega (arith, o, a))) refl))))))
    refl

-- ---- the examiner's slip

module _ (p : Paper) (fl : List ℕ) (valid : is_valid (nest_of p fl) ≡ true) (gs : List ℕ) (g : Gaps p gs) (key : List ℕ)
    (k : Gaps p key) (v : DV.Verdict) (says : P.Says p key gs v)
    (marked : mark_of (nest_of p fl) key gs ≡ verdict_in v) where
  short : (xs : List ℕ) → Gaps p xs → length xs < 256
  short xs h =
      let few = (valid_is (nest_of p fl) valid).few_points in
      let some = some_point p fl valid gs g in
      omega (arith, few, some, rising_length 0 (length p.points) xs (gaps_are p fl xs h))

  pub record Examiner : Type 0 where
    pub frames : Frames
    pub is : ExaminerSlip p key gs frames
    pub text : examiner_text (nest_of p fl) key gs ≡ frames_text frames
    pub bytes : are_frames frames ≡ true

  pub examiner_lines : Examiner
  unfolding examiner_text
  examiner_lines =
      let c = candidate_lines p fl valid gs g in
      let ds = cut_frames p fl valid gs g p.deps in
      let all = fit p fl valid in
      record {
        frames = c.frames ++ (verdict_frame v ∷ ds);
        is =
            record {
              candidate = c.frames;
              verdict = verdict_frame v;
              cuts = ds;
              candidate-slip = c.is;
              verdict-line = verdict-line p key gs v says;
              cut_lines = cut_lines p fl valid gs g p.deps all;
              lines_are = refl;
            };
        text =
            cc (
              c.text,
              ap verdict_text marked,
              verdict-text v,
              cuts-text p fl valid gs g p.deps,
              frames_append c.frames (verdict_frame v ∷ ds),
            );
        bytes =
            all_frames c.frames (verdict_frame v ∷ ds) c.bytes
            (all_frames (verdict_frame v ∷ []) ds
            (verdict_bytes p key gs (valid_is (nest_of p fl) valid).few_points (short key k) (short gs g) v says)
            (cuts_bytes p fl valid gs g p.deps all));
      }
