-- The call that holds two placements beside each other keeps its page.
-- Main statements: `good_as`, `decides_is`, `is_deciding`, `compare_kept`.
use mathlib.Core.Path.{◌≡◌, refl, sym, ◌∙◌, ap, subst}
use mathlib.Core.Bool.{true, false, ◌||◌, not}
use mathlib.Core.List.{List, [], ◌∷◌}
use mathlib.Core.Logic.{⊎_elim}
use Prim.Native.Nat.{ℕ, ◌≤◌, ◌<◌}
use native.Mathlib.Omega.{arith}
use lib.Dec.{eqb}
use lib.ListN.{length}
use borrow.Author.Tests.{eq-eqb, eqb-true, eqb-false, not-true}
use Rattle.laws.specs.Choice.{is_in}
use Rattle.laws.proofs.Members.{in_cons}
use Rattle.laws.proofs.Tests.{never, never_both, and_true, and_intro, or-true, or_left, or_right, false_by, le_or, test}
use Rattle.paper_nests.specs.Nests.{Nest}
use Rattle.paper_nests.specs.Loops.{is_do, end_of, in_loop}
use Rattle.paper_nests.specs.Valid.{is_shape}
use Rattle.paper_nests.proofs.Levels.{point_in}
use Rattle.paper_nests.proofs.Loops.{inside_by, inside_lies, end-after}
use Rattle.paper_placements.specs.Placements.{are_gaps, loop_count, loops_of}
use Rattle.paper_placements.specs.Words.{gaps_in}
use Rattle.paper_placements.proofs.Inside.{inside_ends}
use Rattle.paper_placements.proofs.LoopLists.{loop_listed, listed_loop}
use Rattle.paper_placements.proofs.Words.{gaps_of_in, gaps_of_to, in_gaps}
use Rattle.paper_order.specs.LoopOrder.{inside_same, as_good}
use Rattle.paper_order.proofs.LoopOrder.{as_good_intro}
use Rattle.paper_weigh.specs.Weighed.{decides, decides_at, deciding_of}
use Rattle.paper_texts.specs.PlacementTexts.{Placed, placed}
use Rattle.desk.specs.declared.Desk as DD
use Rattle.desk.specs.Desks.{desk_in, IsMade, state_fault}
use Rattle.desk.specs.Says.{read_in}
use Rattle.call_missing.proofs.Members.{in_words}
use Rattle.call_compare.specs.declared.Compared as DC
use Rattle.call_compare.specs.Says as S
use Rattle.call_compare.specs.Says.{reply_in, CompareSays}
use Rattle.call_compare.proofs.Replies.{compare_refused, compare_first, compare_second, compare_given}
use Rattle.pages.specs.Demands.{Paper, AsGood, Places}
use Rattle.pages.proofs.Bodies.{loop_end, loop_do, loop_at}
use Rattle.pages.proofs.Placements.{nest_of, nest_of_paper, count_is, gaps_are}
use Rattle.pages.proofs.Keys.{shaped, same_is, is_same, as-good}
use Rattle.pages.proofs.Desks.{reached_made}
use Rattle.pages.proofs.Kept.{paper_on, flags_of}
use Rattle.pages_requests.proofs.Papers.{page_valid, nest_state, no_nest_state, bit_is, is_bit}
use Rattle.pages_calls.specs.Compare.{Decides, Refused, Weighed, Comparison}
use Rattle.pages_calls.proofs.Reading.{places_read, not_read}

-- ---- the same counts inside a loop

module _ (n : Nest) (a b : List ℕ) (d : ℕ) where
  inside_elim
      : (xs : List ℕ) → inside_same n a b d xs ≡ true → (x : ℕ) → is_in x xs ≡ true → in_loop n.points d x ≡ true
      → loop_count n a x ≡ loop_count n b x
  inside_elim [] h x i l = never i
  inside_elim (y ∷ ys) h x i l =
      let z =
      and_true (not (in_loop n.points d y) || eqb (loop_count n a y) (loop_count n b y)) (inside_same n a b d ys) h in
      ⊎_elim
      (λ (q : x ≡ y).
      ⊎_elim
      (λ (w : not (in_loop n.points d y) ≡ true).
      never_both (subst (λ (v : ℕ). in_loop n.points d v ≡ true) q l) (not-true (in_loop n.points d y) w))
      (λ (w : eqb (loop_count n a y) (loop_count n b y) ≡ true).
      subst (λ (v : ℕ). loop_count n a v ≡ loop_count n b v) (sym q) (eqb-true (loop_count n a y) (loop_count n b y) w))
      (or-true (not (in_loop n.points d y)) (eqb (loop_count n a y) (loop_count n b y)) z.0))
      (λ (q : is_in x ys ≡ true). inside_elim ys z.1 x q l)
      (in_cons x y ys i)

  inside_intro
      : (xs : List ℕ)
      → ((x : ℕ) → is_in x xs ≡ true → in_loop n.points d x ≡ true → loop_count n a x ≡ loop_count n b x)
      → inside_same n a b d xs ≡ true
  inside_intro [] h = refl
  inside_intro (y ∷ ys) h =
      and_intro
      (⊎_elim
      (λ (z : in_loop n.points d y ≡ true).
      or_right (not (in_loop n.points d y))
      (eq-eqb (loop_count n a y) (loop_count n b y) (h y (or_left (is_in y ys) (eq-eqb y y refl)) z)))
      (λ (z : in_loop n.points d y ≡ false).
      or_left (eqb (loop_count n a y) (loop_count n b y)) (ap not z))
      (test (in_loop n.points d y)))
      (inside_intro ys (λ x i l. h x (or_right (eqb x y) i) l))

module _ (n : Nest) (shape : is_shape n.points ≡ true) (xs ys : List ℕ)
    (risen : are_gaps n xs ≡ true) (rising : are_gaps n ys ≡ true) where
  abbrev ps : List ℕ
  ps = n.points

  -- the order of the page is the project's
  good_as : AsGood ps xs ys → as_good n xs ys ≡ true
  good_as good =
      as_good_intro n shape xs ys
      (λ d h s.
      let l = loop_at ps shape d h in
      let q =
      good d (end_of ps d) l
      (λ x e k u v.
      is_same n shape xs ys risen rising x e k
      (s x (loop_do ps x e k)
      (inside_by ps d x u (omega (arith, v, loop_end ps x e k, end-after ps shape x (loop_do ps x e k)))))) in
      omega (
        arith,
        q.1.1.2,
        count_is ps shape n refl d (end_of ps d) 0 q.0 l xs risen q.1.1.0,
        count_is ps shape n refl d (end_of ps d) 0 q.1.0 l ys rising q.1.1.1,
      ))

  -- which loops decide
  decides_is : (l : ℕ) → Decides ps xs ys l → decides_at n xs ys l ≡ true
  decides_is l h =
      let e = loop_end ps l h.end h.loop in
      let d = loop_do ps l h.end h.loop in
      and_intro d
      (and_intro
      (inside_intro n xs ys l (loops_of n)
      (λ x i k.
      let y = listed_loop n shape x i in
      let z = inside_lies ps l x k in
      same_is n shape xs ys risen rising x (end_of ps x) (loop_at ps shape x y)
      (h.inside x (end_of ps x) (loop_at ps shape x y) z.0
      (omega (arith, e, inside_ends ps shape l x d y k)))))
      (ap not
      (false_by
      (λ z.
      h.differ (is_same n shape xs ys risen rising l h.end h.loop
      (eqb-true (loop_count n xs l) (loop_count n ys l) z))))))

  is_deciding : (l : ℕ) → decides_at n xs ys l ≡ true → Decides ps xs ys l
  is_deciding l h =
      let a = and_true (is_do ps l) (decides n xs ys l) h in
      let b = and_true (inside_same n xs ys l (loops_of n)) (not (eqb (loop_count n xs l) (loop_count n ys l))) a.1 in
      record {
        end = end_of ps l;
        loop = loop_at ps shape l a.0;
        inside =
            λ d e k u v.
            is_same n shape xs ys risen rising d e k
            (inside_elim n xs ys l (loops_of n) b.0 d (loop_listed n shape d (loop_do ps d e k))
            (inside_by ps l d u (omega (arith, v, loop_end ps d e k, end-after ps shape d (loop_do ps d e k)))));
        differ =
            λ s.
            eqb-false (loop_count n xs l) (loop_count n ys l)
            (not-true (eqb (loop_count n xs l) (loop_count n ys l)) b.1)
            (same_is n shape xs ys risen rising l (end_of ps l) (loop_at ps shape l a.0) s);
      }

  deciding_in : (l : ℕ) → is_in l (deciding_of n xs ys) ≡ decides_at n xs ys l
  deciding_in l =
      ⊎_elim
      (λ (z : length ps ≤ l).
      gaps_of_to (decides_at n xs ys) (length ps) 0 l (omega arith) ∙
      sym (false_by (λ (w : decides_at n xs ys l ≡ true). omega
      (arith, point_in ps l 0 (and_true (is_do ps l) (decides n xs ys l) w).0))))
      (λ (z : l < length ps). gaps_of_in (decides_at n xs ys) (length ps) 0 l (omega arith) (omega arith))
      (le_or (length ps) l)

-- ---- the call

module _ (d : DD.Desk) (m : IsMade d) (loaded : d.loaded ≡ true) (s t : List ℕ) (r : DC.Compared)
    (h : CompareSays d s t r) where
  abbrev page : Paper
  page = paper_on d

  abbrev n : Nest
  n = nest_of page (flags_of d)

  none : state_fault false (desk_in d) ≡ 0
  none = nest_state d loaded

  same : (p : Placed) → placed p.number p.place p.gaps ≡ p
  same p = refl

  first_refused : ((xs : List ℕ) → Places page s xs → ⊥) → Refused r 1
  first_refused bad =
      let p = read_in (desk_in d) s in
      let e =
      h ∙ sym (compare_first (desk_in d) s t none p.number p.place p.gaps refl (not_read d m loaded s bad)) in (
        (λ z. not_read d m loaded s bad (sym (ap (λ (x : S.Reply). x.number) e) ∙ z)),
        ap (λ (x : S.Reply). x.text) e,
        ap (λ (x : S.Reply). x.first) e,
        ap (λ (x : S.Reply). x.second) e,
      )

  module _ (xs : List ℕ) (one : Places page s xs) where
    second_refused : ((ys : List ℕ) → Places page t ys → ⊥) → Refused r 2
    second_refused bad =
        let p = read_in (desk_in d) t in
        let e =
        h ∙
        sym (compare_second (desk_in d) s t none 0 0 xs (sym (places_read d m loaded s xs one)) refl p.number
        p.place p.gaps refl
        (not_read d m loaded t bad)) in (
          (λ z. not_read d m loaded t bad (sym (ap (λ (x : S.Reply). x.number) e) ∙ z)),
          ap (λ (x : S.Reply). x.text) e,
          ap (λ (x : S.Reply). x.first) e,
          ap (λ (x : S.Reply). x.second) e,
        )

    weighed : (ys : List ℕ) → Places page t ys → Weighed page xs ys r
    weighed ys two =
        let shape = shaped page (flags_of d) (page_valid d m loaded) in
        let risen = gaps_are page (flags_of d) xs one.gaps in
        let rising = gaps_are page (flags_of d) ys two.gaps in
        let e : reply_in r ≡ S.weighed n xs ys =
        h ∙
        sym (compare_given (desk_in d) s t none 0 0 xs (sym (places_read d m loaded s xs one)) refl 0 0 ys
        (sym (places_read d m loaded t ys two)) refl) ∙
        ap (λ (x : Nest). S.weighed x xs ys) (nest_of_paper d.nest) in
        let first : r.first ≡ as_good n xs ys = ap (λ (x : S.Reply). x.first) e in
        let second : r.second ≡ as_good n ys xs = ap (λ (x : S.Reply). x.second) e in
        let deciding : (l : ℕ) → is_in l (gaps_in r.deciding.words) ≡ decides_at n xs ys l =
        λ l. ap (λ (x : S.Reply). is_in l x.deciding) e ∙ deciding_in n shape xs ys risen rising l in
        record {
          accepted =
              (ap (λ (x : S.Reply). x.number) e, ap (λ (x : S.Reply). x.text) e, ap (λ (x : S.Reply). x.line) e);
          first = (
            (λ z. as-good n shape xs ys risen rising (sym first ∙ z)),
            (λ z. first ∙ good_as n shape xs ys risen rising z),
          );
          second = (
            (λ z. as-good n shape ys xs rising risen (sym second ∙ z)),
            (λ z. second ∙ good_as n shape ys xs rising risen z),
          );
          deciding =
              λ l. (
                (λ b.
                    is_deciding n shape xs ys risen rising l
                    (sym (deciding l) ∙ in_gaps r.deciding.words l b.0 ∙ bit_is r.deciding.words l b.1)),
                (λ z.
                    let i = in_words r.deciding.words l (deciding l ∙ decides_is n shape xs ys risen rising l z) in
                    (i.0, is_bit r.deciding.words l i.1)),
              );
        }

pub compare_kept : Comparison
compare_kept =
    record {
      no_nest =
          λ d s t r h z.
          let e = h ∙ sym (compare_refused (desk_in d) s t 10 (sym (no_nest_state d z)) (λ q. omega arith)) in
          (ap (λ (x : S.Reply). x.number) e, ap (λ (x : S.Reply). x.text) e, ap (λ (x : S.Reply). x.line) e);
      first_refused = λ d s t r q l h bad. first_refused d (reached_made d q) l s t r h bad;
      second_refused = λ d s t xs r q l h one bad. second_refused d (reached_made d q) l s t r h xs one bad;
      weighed = λ d s t xs ys r q l h one two. weighed d (reached_made d q) l s t r h xs one ys two;
    }
