-- The sitting as a set, its kept counts as fresh ones, and what moves leave.
-- Main statements: `kept_counts`, `kept_uncut`, `left`, `put_left`, `lift_left`, `undone_seat`.
use mathlib.Core.Path.{◌≡◌, refl, sym, ◌∙◌, ap, subst}
use mathlib.Core.Bool.{Bool, true, false, ◌&&◌, not}
use mathlib.Core.List.{List, [], ◌∷◌}
use mathlib.Core.Logic.{◌⊎◌, inl, inr, ⊎_elim, ◌↔◌}
use Prim.Native.Nat.{ℕ, zero, suc, ◌+◌, ◌≤◌}
use native.Mathlib.Omega.{arith}
use lib.Dec.{eqb, ltb}
use lib.ListN.{length, get_or}
use borrow.Author.Tests.{eq-eqb, ne_eqb, eqb-true}
use Rattle.laws.specs.Bits.{one}
use Rattle.laws.specs.Choice.{pick, is_in}
use Rattle.laws.proofs.Tests.{never, never_both, and_true, and_intro, or-true, or_left, or_right}
use Rattle.paper_nests.specs.declared.Dependence as DE
use Rattle.paper_nests.specs.Nests.{Nest}
use Rattle.paper_nests.specs.Gaps.{has_gap}
use Rattle.paper_nests.specs.Valid.{is_valid}
use Rattle.paper_nests.specs.Stored.{nest_in, dep_in}
use Rattle.paper_nests.proofs.Deps.{Fits}
use Rattle.paper_placements.specs.Placements.{cuts, are_gaps_from}
use Rattle.paper_placements.specs.Words.{gaps_in}
use Rattle.paper_placements.specs.GapLists.{with_gap, without}
use Rattle.paper_placements.proofs.GapLists.{in_with, in_without}
use Rattle.paper_placements.proofs.Rising.{rising_wider}
use Rattle.desk_sitting.specs.Counts.{cut_count, count_at, uncut_count}
use Rattle.desk_sitting.specs.Kept.{barriers}
use Rattle.desk_moves.specs.declared.Move as DG
use Rattle.desk_moves.specs.TakeBack.{most}
use Rattle.desk_moves.specs.Game.{put_at, lift_at}
use Rattle.desk.specs.declared.Desk as DD
use Rattle.desk.specs.Desks.{Desk, desk_in, IsMade}
use Rattle.desk.specs.Says.{Holds}
use Rattle.desk.proofs.Made.{made_plan}
use Rattle.call_moves.specs.declared.Moved as DM
use Rattle.call_moves.specs.Says.{put_fault, lift_fault, after_put, after_lift, uncut_on, PutSays, LiftSays}
use Rattle.call_moves.specs.Runs as R
use Rattle.call_moves.proofs.Made.{made_put, made_lift, made_back}
use Rattle.call_moves.proofs.Runs.{taken-back, none_refused}
use Rattle.pages.specs.Demands.{At, In, HowMany, GapOf, Paper, paper_in, Cut, SetIn, KeyOn}
use Rattle.pages_requests.specs.Sitting.{Seat, Remain, Left, Undone}
use Rattle.pages.proofs.Lists.{in_is, is-in}
use Rattle.pages.proofs.Placements.{mapped, nest_of, nest_of_paper, gap_is, is-gap, cut_is, is-cut}
use Rattle.pages.proofs.Keys.{shaped, fit}
use Rattle.pages.proofs.Texts.{unmapped, unmap}
use Rattle.pages_requests.proofs.Papers.{papers_same}
use Rattle.pages.proofs.Kept.{paper_on, flags_of, set_here, set_is, key_same, key_wide}

-- ---- the sitting as a set

points_few : (d : DD.Desk) → IsMade d → length (nest_in d.nest).points ≤ 256
points_few d m = omega (arith, m.counted.count_is, m.counted.count_fits)

pub seat_wide : (d : DD.Desk) → IsMade d → are_gaps_from 0 256 (barriers d.sitting) ≡ true
seat_wide d m =
    rising_wider 0 (length (nest_in d.nest).points) 256 (barriers d.sitting) (points_few d m) m.kept.gaps_fit

pub seat_is : (d : DD.Desk) (gs : List ℕ) → IsMade d → Seat d gs → gs ≡ barriers d.sitting
seat_is d gs m s = set_is d.sitting.placement.words gs (seat_wide d m) s

-- another desk with the same barriers
seat_on
    : (d e : DD.Desk) (gs : List ℕ) → IsMade d → IsMade e → barriers e.sitting ≡ barriers d.sitting → Seat d gs
    → Seat e gs
seat_on d e gs m w q s =
    subst (λ (x : List ℕ). Seat e x) (q ∙ sym (seat_is d gs m s))
    (set_here e.sitting.placement.words (seat_wide e w))

-- ---- fresh counts

module _ (p : Paper) (fs : List ℕ) (valid : is_valid (nest_of p fs) ≡ true) where
  remain : (gs : List ℕ) (xs : List DE.Dependence) → ((x : DE.Dependence) → In x xs → Fits p.points (dep_in x))
      → HowMany (λ x. Cut p.points x gs → ⊥) xs (uncut_count p.points (mapped xs) gs)
  remain gs [] f = HowMany.none
  remain gs (x ∷ xs) f = go (cuts p.points (dep_in x) gs) refl (remain gs xs (λ y i. f y (suc i.0, i.1)))
    where
      go
          : (t : Bool) → cuts p.points (dep_in x) gs ≡ t
          → HowMany (λ x. Cut p.points x gs → ⊥) xs (uncut_count p.points (mapped xs) gs)
          → HowMany (λ x. Cut p.points x gs → ⊥) (x ∷ xs) (one (not t) + uncut_count p.points (mapped xs) gs)
      go true h r =
          let w : 0 + uncut_count p.points (mapped xs) gs ≡ uncut_count p.points (mapped xs) gs = omega arith in
          rw w (HowMany.other (λ c. c (is-cut p.points (shaped p fs valid) x gs (f x (0, refl)) h)) r)
      go false h r =
          let w : 1 + uncut_count p.points (mapped xs) gs ≡ suc (uncut_count p.points (mapped xs) gs) =
          omega arith in
          rw w (HowMany.one (λ c. never_both (cut_is p.points (shaped p fs valid) x gs c) h) r)

  remains : (gs : List ℕ) → Remain p gs (uncut_count p.points (mapped p.deps) gs)
  remains gs = remain gs p.deps (fit p fs valid)

  cuts_counted : (x : DE.Dependence) → Fits p.points (dep_in x) → (gs : List ℕ)
      → HowMany (GapOf p.points x) gs (cut_count p.points (dep_in x) gs)
  cuts_counted x f [] = HowMany.none
  cuts_counted x f (g ∷ gs) = go (has_gap p.points (dep_in x) g) refl (cuts_counted x f gs)
    where
      go
          : (t : Bool) → has_gap p.points (dep_in x) g ≡ t
          → HowMany (GapOf p.points x) gs (cut_count p.points (dep_in x) gs)
          → HowMany (GapOf p.points x) (g ∷ gs) (one t + cut_count p.points (dep_in x) gs)
      go true h r =
          let w : 1 + cut_count p.points (dep_in x) gs ≡ suc (cut_count p.points (dep_in x) gs) = omega arith in
          rw w (HowMany.one (is-gap p.points (shaped p fs valid) x g f h) r)
      go false h r =
          let w : 0 + cut_count p.points (dep_in x) gs ≡ cut_count p.points (dep_in x) gs = omega arith in
          rw w (HowMany.other (λ c. never_both (gap_is p.points (shaped p fs valid) x g c) h) r)

count-at : (ps : List ℕ) (xs : List DE.Dependence) (gs : List ℕ) (i : ℕ) (x : DE.Dependence) → At xs i x
    → count_at ps (mapped xs) gs i ≡ cut_count ps (dep_in x) gs
count-at ps [] gs i x a = absurd a
count-at ps (y ∷ ys) gs zero x a = ap (λ (z : DE.Dependence). cut_count ps (dep_in z) gs) a
count-at ps (y ∷ ys) gs (suc i) x a = count-at ps ys gs i x a

-- ---- a desk made by calls

module _ (d : DD.Desk) (m : IsMade d) where
  abbrev page : Paper
  page = paper_on d

  abbrev nest : Nest
  nest = nest_of page (flags_of d)

  nest_same : nest_in d.nest ≡ nest
  nest_same = nest_of_paper d.nest

  right : d.loaded ≡ true → is_valid nest ≡ true
  right h = ap is_valid (sym nest_same) ∙ m.paper.valid h

  -- without a nest there is no dependence
  no_deps : d.loaded ≡ false → page.deps ≡ []
  no_deps h =
      sym (unmap page.deps) ∙
      ap unmapped (ap (λ (n : Nest). n.deps) (sym nest_same ∙ ap (λ (x : Desk). x.nest_is) (m.paper.no_nest h)))

  uncut_here : (gs : List ℕ) → Remain page gs (uncut_count (nest_in d.nest).points (nest_in d.nest).deps gs)
  uncut_here gs =
      subst (λ (n : Nest). Remain page gs (uncut_count n.points n.deps gs)) (sym nest_same) (go d.loaded refl)
    where
      go : (t : Bool) → d.loaded ≡ t → Remain page gs (uncut_count nest.points nest.deps gs)
      go true h = remains page (flags_of d) (right h) gs
      go false h =
          subst (λ (xs : List DE.Dependence). HowMany (λ x.
          Cut page.points x gs → ⊥) xs (uncut_count page.points (mapped xs) gs))
          (sym (no_deps h)) HowMany.none

  pub kept_uncut : (gs : List ℕ) → Seat d gs → Remain page gs d.sitting.uncut
  kept_uncut gs s =
      let q = seat_is d gs m s in
      subst (λ (k : ℕ). Remain page gs k)
      (ap (λ (x : List ℕ). uncut_count (nest_in d.nest).points (nest_in d.nest).deps x) q ∙
      sym m.kept.uncut_is)
      (uncut_here gs)

  pub kept_counts : (gs : List ℕ) (i : ℕ) (x : DE.Dependence) → Seat d gs → At page.deps i x
      → HowMany (GapOf page.points x) gs (get_or d.sitting.counts i 0)
  kept_counts gs i x s a = go d.loaded refl
    where
      go : (t : Bool) → d.loaded ≡ t → HowMany (GapOf page.points x) gs (get_or d.sitting.counts i 0)
      go true h =
          let q = seat_is d gs m s in
          let c : get_or d.sitting.counts i 0 ≡ cut_count page.points (dep_in x) gs =
          m.kept.counts_are i ∙ ap (λ (n : Nest). count_at n.points n.deps (barriers d.sitting) i) nest_same ∙
          ap (λ (y : List ℕ). count_at page.points (mapped page.deps) y i) (sym q) ∙
          count-at page.points page.deps gs i x a in
          subst (λ (k : ℕ). HowMany (GapOf page.points x) gs k) (sym c)
          (cuts_counted page (flags_of d) (right h) x (fit page (flags_of d) (right h) x (i, a)) gs)
      go false h = absurd (none page.deps (no_deps h) a)
        where
          none : (xs : List DE.Dependence) → xs ≡ [] → At xs i x → ⊥
          none [] e b = b
          none (y ∷ ys) e b = let z : ◌≡◌ {A = ℕ} 0 1 = cc e in absurd (omega arith)

-- ---- a move that is made

module _ (d : DD.Desk) (r : DM.Moved) (m : IsMade d) (w : IsMade r.desk) (hs : List ℕ)
    (same_nest : (desk_in r.desk).nest_is ≡ (desk_in d).nest_is) (same_has : (desk_in r.desk).has_key ≡ (desk_in d).has_key)
    (same_key : (desk_in r.desk).key ≡ (desk_in d).key) (now_is : (desk_in r.desk).sitting ≡ hs)
    (told : r.uncut ≡ uncut_count (desk_in d).nest_is.points (desk_in d).nest_is.deps hs) where
  pub left : Left d r hs
  left =
      record {
        seat =
            subst (λ (x : List ℕ). Seat r.desk x) now_is
            (set_here r.desk.sitting.placement.words (seat_wide r.desk w));
        told = subst (λ (k : ℕ). Remain (paper_in d.nest) hs k) (sym told) (uncut_here d m hs);
        paper_same = papers_same d.nest r.desk.nest same_nest;
        key_same = λ key k. moved key k;
      }
    where
      moved : (key : List ℕ) → KeyOn d key → KeyOn r.desk key
      moved key k =
          let e : gaps_in r.desk.key.words ≡ key = same_key ∙ sym (key_same d m key k) in
          record {
            planned = same_has ∙ k.planned;
            set =
                subst (λ (x : List ℕ). SetIn r.desk.key.words x) e
                (set_here r.desk.key.words (subst
                (λ (x : List ℕ). are_gaps_from 0 256 x ≡ true) (sym same_key) (key_wide d m key k)));
          }

module _ (d : DD.Desk) (gs : List ℕ) (g : ℕ) (r : DM.Moved) (m : IsMade d) (s : Seat d gs) where
  pub put_left
      : PutSays d g r → r.number ≡ 0 → (hs : List ℕ) × (Left d r hs × ((x : ℕ) → In x hs ↔ ((x ≡ g) ⊎ In x gs)))
  put_left h z =
      let none : put_fault (desk_in d) g ≡ 0 = sym h.number_is ∙ z in
      let ok = eq-eqb (put_fault (desk_in d) g) 0 none in
      let p : Holds r.desk (after_put (desk_in d) g) = rw ok at h.desk_is in
      let u : r.uncut ≡ uncut_on (after_put (desk_in d) g) = rw ok at h.uncut_is in
      let hs = with_gap g (barriers d.sitting) in
      let q = seat_is d gs m s in (
        hs,
        (
          left d r m (made_put d g r m h) hs (ap
              (λ (x : Desk). x.nest_is) p.holds) (ap (λ (x : Desk). x.has_key) p.holds)
              (ap (λ (x : Desk). x.key) p.holds) (ap (λ (x : Desk). x.sitting) p.holds) u,
          (λ x. (
            (λ i.
                ⊎_elim
                (λ (y : eqb x g ≡ true). inl (eqb-true x g y))
                (λ (y : is_in x (barriers d.sitting) ≡ true). inr (is-in x gs (ap (is_in x) q ∙ y)))
                (or-true (eqb x g) (is_in x (barriers d.sitting))
                (sym (in_with g x (barriers d.sitting)) ∙ in_is x hs i.0 i.1))),
            (λ i.
                is-in x hs
                (in_with g x (barriers d.sitting) ∙
                ⊎_elim
                (λ (y : x ≡ g). or_left (is_in x (barriers d.sitting)) (eq-eqb x g y))
                (λ (y : In x gs). or_right (eqb x g) (ap (is_in x) (sym q) ∙ in_is x gs y.0 y.1))
                i)),
          )),
        ),
      )

  pub lift_left
      : LiftSays d g r → r.number ≡ 0 → (hs : List ℕ) × (Left d r hs × ((x : ℕ) → In x hs ↔ ((x ≡ g → ⊥) × In x gs)))
  lift_left h z =
      let none : lift_fault (desk_in d) g ≡ 0 = sym h.number_is ∙ z in
      let ok = eq-eqb (lift_fault (desk_in d) g) 0 none in
      let p : Holds r.desk (after_lift (desk_in d) g) = rw ok at h.desk_is in
      let u : r.uncut ≡ uncut_on (after_lift (desk_in d) g) = rw ok at h.uncut_is in
      let hs = without g (barriers d.sitting) in
      let q = seat_is d gs m s in
      let law : (x : ℕ) → is_in x hs ≡ (not (eqb x g) && is_in x (barriers d.sitting)) =
      λ x. in_without 0 256 g x (barriers d.sitting) (seat_wide d m) in (
        hs,
        (
          left d r m (made_lift d g r m h) hs (ap
              (λ (x : Desk). x.nest_is) p.holds) (ap (λ (x : Desk). x.has_key) p.holds)
              (ap (λ (x : Desk). x.key) p.holds) (ap (λ (x : Desk). x.sitting) p.holds) u,
          (λ x. (
            (λ i.
                let y =
                and_true (not (eqb x g)) (is_in x (barriers d.sitting)) (sym (law x) ∙ in_is x hs i.0 i.1) in
                ((λ e. never (rw (eq-eqb x g e) at y.0)), is-in x gs (ap (is_in x) q ∙ y.1))),
            (λ i.
                is-in x hs
                (law x ∙
                and_intro (ap not (ne_eqb x g i.0)) (ap (is_in x) (sym q) ∙ in_is x gs i.1.0 i.1.1))),
          )),
        ),
      )

-- ---- moves taken back

-- the run of the project behind calls in which every move is taken back
record Ran (d : DD.Desk) (ms : List DG.Move) (e : DD.Desk) : Type 0 where
  peak : ℕ
  few : peak ≤ 64
  run : R.Run d peak ms e

most_few : (a b c : ℕ) → a ≤ c → b ≤ c → most a b ≤ c
most_few a b c x y = go (ltb a b)
  where
    go : (t : Bool) → pick t b a ≤ c
    go true = y
    go false = x

ran
    : (o : DD.Desk) → IsMade o → (ms : List DG.Move) (h : ℕ) (d e : DD.Desk) → length ms + h ≤ 64 → Undone h d e
    → Ran o ms d
    → Ran o ms e
ran o m ms h d e l (Undone.done q) u = subst (λ (x : DD.Desk). Ran o ms x) q u
ran o m ms h d e l (Undone.plan r p q) u =
    ran o m ms h r.desk e l q
    (record {
      peak = u.peak;
      few = u.few;
      run = R.Run.other u.peak ms d r.desk u.run
          (R.Unmoved.planned r p);
    })
ran o m ms h d e l (Undone.put {h = k} {b = b} g r q p z i f j) u =
    let a = ran o m (put_at g ∷ ms) k r.desk b (omega arith) i
    (record {
      peak = most u.peak (suc (length ms));
      few = most_few u.peak (suc (length ms)) 64 u.few (omega arith);
      run = R.Run.put u.peak ms d g r u.run p z;
    }) in
    let n = none_refused o b b a.peak 0 (put_at g ∷ ms) q m a.run a.few R.Backs.start (omega arith) f in
    ran o m ms (suc k) q.desk e l j
    (record { peak = a.peak; few = a.few; run = R.Run.back a.peak ms (put_at g) b q a.run f n })
ran o m ms h d e l (Undone.lift {h = k} {b = b} g r q p z i f j) u =
    let a = ran o m (lift_at g ∷ ms) k r.desk b (omega arith) i
    (record {
      peak = most u.peak (suc (length ms));
      few = most_few u.peak (suc (length ms)) 64 u.few (omega arith);
      run = R.Run.lift u.peak ms d g r u.run p z;
    }) in
    let n = none_refused o b b a.peak 0 (lift_at g ∷ ms) q m a.run a.few R.Backs.start (omega arith) f in
    ran o m ms (suc k) q.desk e l j
    (record { peak = a.peak; few = a.few; run = R.Run.back a.peak ms (lift_at g) b q a.run f n })

undone_made : (h : ℕ) (d e : DD.Desk) → Undone h d e → IsMade d → IsMade e
undone_made h d e (Undone.done q) m = subst (λ (x : DD.Desk). IsMade x) q m
undone_made h d e (Undone.plan r p q) m = undone_made h r.desk e q (made_plan d r m p)
undone_made h d e (Undone.put {h = k} {b = b} g r q p z i f j) m =
    undone_made (suc k) q.desk e j (made_back b q (undone_made k r.desk b i (made_put d g r m p)) f)
undone_made h d e (Undone.lift {h = k} {b = b} g r q p z i f j) m =
    undone_made (suc k) q.desk e j (made_back b q (undone_made k r.desk b i (made_lift d g r m p)) f)

pub undone_seat : (d e : DD.Desk) (gs : List ℕ) → IsMade d → Undone 64 d e → Seat d gs → Seat e gs
undone_seat d e gs m u s =
    let a = ran d m [] 64 d e (omega arith) u (record { peak = 0; few = omega arith; run = R.Run.start }) in
    let q = taken-back d e e a.peak [] m a.run a.few R.Backs.start in
    seat_on d e gs m (undone_made 64 d e u m) (sym q.placement_is) s
