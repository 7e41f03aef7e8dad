-- What is wrong with a frame of a nest text on the page of the numbers is what the project's 3 to 8 and 14 say.
-- Main definitions: `So-far`, `word_fault`. Main statement: `breaks_decided`.
use mathlib.Core.Path.{◌≡◌, refl, sym, ap, subst}
use mathlib.Core.Bool.{Bool, true, ◌&&◌, ◌||◌, not}
use mathlib.Core.List.{List, [], ◌∷◌}
use mathlib.Core.Logic.{◌⊎◌, ⊎_elim}
use Prim.Native.Nat.{ℕ, suc, ◌-◌, ◌<◌}
use native.Mathlib.Omega.{arith}
use lib.Dec.{eqb, leb}
use lib.ListN.{length}
use borrow.Author.Tests.{eq-eqb, eqb-true, ne_eqb, leb-true, le-leb, lt-ltb}
use Rattle.laws.specs.Choice.{when, first_of}
use Rattle.laws.proofs.Tests.{never, never_both, false_by, and_intro, and_true, or-true, or_left, or_right}
use Rattle.laws.proofs.Choices.{when_le, unless_zero}
use Rattle.paper_nests.specs.declared.Dependence as DE
use Rattle.paper_nests.specs.Kinds.{DO, POINTS, DEPTH, DEPENDENCES, BARS}
use Rattle.paper_nests.specs.Loops.{depth_from, depth, is_closed}
use Rattle.paper_nests.specs.Gaps.{is_gap}
use Rattle.paper_nests.specs.Ring.{one_loop}
use Rattle.paper_nests.specs.Valid.{dep_fault, bar_fault}
use Rattle.paper_nests.specs.Stored.{dep_in}
use Rattle.paper_nests.proofs.Bars.{gap_within}
use Rattle.paper_texts.specs.Pieces.{is_past, point_fault, dependence_fault, barred_fault}
use Rattle.paper_texts.proofs.Shapes.{Begins, begins_closed}
use Rattle.pages.specs.Demands.{Paper, Told}
use Rattle.pages.specs.Numbers.{Open, Closed, Breaks}
use Rattle.pages.proofs.Placements.{mapped, nest_of, mapped_length}
use Rattle.pages.proofs.Rules.{one_is, is_one}
use Rattle.pages.proofs.Misfits.{is_not, misfit_upto, misfit_big, misfit_found}
use Rattle.pages.proofs.Chains.{Upto, Decides, first_upto, later_upto, when_upto, first_found, when_found}

-- ---- loops that are open

pub open_depth : (i k : ℕ) (ps : List ℕ) → Open i ps k → depth_from i ps ≡ k
open_depth i k ps Open.none = refl
open_depth i k ps (Open.begin {ps = qs} o) = open_depth (suc i) k qs o
open_depth i k ps (Open.end {i = j} {ps = qs} o) =
    let z : suc j - 1 ≡ j = omega arith in
    rw z (open_depth j k qs o)
open_depth i k ps (Open.statement {ps = qs} o) = open_depth i k qs o

pub closed_is : (ps : List ℕ) → Closed ps → is_closed ps ≡ true
closed_is [] c = absurd (c.0 refl)
closed_is (p ∷ ps) c =
    and_intro (le-leb 1 (suc (length ps)) (omega arith)) (eq-eqb (depth (p ∷ ps)) 0 (open_depth 0 0 (p ∷ ps) c.1))

-- what is known of the points of lines that break no rule
pub record So-far (ps : List ℕ) : Type 0 where
  pub opens : Open 0 ps (depth ps)
  pub begins : Begins ps

pub is-closed : (ps : List ℕ) → So-far ps → is_closed ps ≡ true → Closed ps
is-closed ps s h =
    let z = and_true (leb 1 (length ps)) (eqb (depth ps) 0) h in
    ((λ e. some ps e z.0), subst (λ (k : ℕ). Open 0 ps k) (eqb-true (depth ps) 0 z.1) s.opens)
  where
    some : (qs : List ℕ) → qs ≡ [] → leb 1 (length qs) ≡ true → ⊥
    some qs e l = never (rw e at l)

-- ---- the project's number of what a frame tells

abbrev pub word_fault : Paper → Told → ℕ
word_fault p (Told.point k) = point_fault (nest_of p []) k
word_fault p (Told.dependence x) = dependence_fault (nest_of p []) (dep_in x)
word_fault p (Told.bar g) = barred_fault (nest_of p []) g

-- a dependence that a frame tells has one of the two kinds
abbrev pub Known : Told → Type 0
Known (Told.point k) = Unit
Known (Told.dependence x) = (x.kind ≡ 17) ⊎ (x.kind ≡ 18)
Known (Told.bar g) = Unit

module _ (p : Paper) (s : So-far p.points) where
  abbrev ps : List ℕ
  ps = p.points

  abbrev closed : Bool
  closed = is_closed ps

  -- ---- points

  abbrev past : Bool
  past = is_past (nest_of p [])

  abbrev misplaced : ℕ → Bool
  misplaced k = closed || (eqb (length ps) 0 && not (eqb k DO))

  abbrev beyond : ℕ → Bool
  beyond k = leb POINTS (length ps) || (eqb k DO && leb DEPTH (depth ps))

  four : (k : ℕ) → misplaced k ≡ true → Upto (point_fault (nest_of p []) k) 4
  four k h =
      later_upto (when past 3) (first_of (when (misplaced k) 4) (when (beyond k) 5)) 4
      (when_le past 3 4 (omega arith))
      (first_upto (when (misplaced k) 4) (when (beyond k) 5) 4 (when_upto (misplaced k) 4 (omega arith) h))

  five : (k : ℕ) → beyond k ≡ true → Upto (point_fault (nest_of p []) k) 5
  five k h =
      later_upto (when past 3) (first_of (when (misplaced k) 4) (when (beyond k) 5)) 5
      (when_le past 3 5 (omega arith))
      (later_upto (when (misplaced k) 4) (when (beyond k) 5) 5 (when_le (misplaced k) 4 5 (omega arith))
      (when_upto (beyond k) 5 (omega arith) h))

  least_point : (k n : ℕ) → Breaks p (Told.point k) n → Upto (point_fault (nest_of p []) k) n
  least_point k n (Breaks.late h) =
      first_upto (when past 3) (first_of (when (misplaced k) 4) (when (beyond k) 5)) 3
      (when_upto past 3 (omega arith) (past_is p.deps p.barred h))
    where
      past_is
          : (xs : List DE.Dependence) (bs : List ℕ) → ((xs ≡ []) × (bs ≡ []) → ⊥)
          → (leb 1 (length (mapped xs)) || leb 1 (length bs)) ≡ true
      past_is [] [] h = absurd (h (refl, refl))
      past_is (x ∷ xs) bs h = or_left (leb 1 (length bs)) (le-leb 1 (suc (length (mapped xs))) (omega arith))
      past_is [] (b ∷ bs) h = le-leb 1 (suc (length bs)) (omega arith)
  least_point k n (Breaks.first e h) =
      let z : eqb (length ps) 0 ≡ true = eq-eqb (length ps) 0 (ap length e) in
      four k (or_right closed (and_intro z (ap not (ne_eqb k 1 h))))
  least_point k n (Breaks.after c) = four k (or_left (eqb (length ps) 0 && not (eqb k DO)) (closed_is ps c))
  least_point k n (Breaks.points l) =
      five k (or_left (eqb k DO && leb DEPTH (depth ps)) (le-leb POINTS (length ps) l))
  least_point k n (Breaks.deep {j = j} o l) =
      five 1 (or_right (leb POINTS (length ps)) (le-leb DEPTH (depth ps) (omega (arith, open_depth 0 j ps o))))

  found_point : (k : ℕ) → 0 < point_fault (nest_of p []) k → Breaks p (Told.point k) (point_fault (nest_of p []) k)
  found_point k =
      first_found (Breaks p (Told.point k)) (when past 3) (first_of (when (misplaced k) 4) (when (beyond k) 5))
      (when_found (Breaks p (Told.point k)) past 3 (λ z. Breaks.late (none p.deps p.barred z)))
      (λ z. first_found (Breaks p (Told.point k)) (when (misplaced k) 4) (when (beyond k) 5)
      (when_found (Breaks p (Told.point k)) (misplaced k) 4
      (λ y. ⊎_elim
      (λ (w : closed ≡ true). Breaks.after (is-closed ps s w))
      (λ (w : (eqb (length ps) 0 && not (eqb k DO)) ≡ true).
      let q = and_true (eqb (length ps) 0) (not (eqb k DO)) w in
      Breaks.first (empty ps (eqb-true (length ps) 0 q.0))
      (λ e. never_both (eq-eqb k 1 e) (is_not (eqb k 1) q.1)))
      (or-true closed (eqb (length ps) 0 && not (eqb k DO)) y)))
      (λ y. when_found (Breaks p (Told.point k)) (beyond k) 5
      (λ w. ⊎_elim
      (λ (v : leb POINTS (length ps) ≡ true). Breaks.points (leb-true POINTS (length ps) v))
      (λ (v : (eqb k DO && leb DEPTH (depth ps)) ≡ true).
      let q = and_true (eqb k DO) (leb DEPTH (depth ps)) v in
      subst (λ (i : ℕ). Breaks p (Told.point i) 5) (sym (eqb-true k 1 q.0))
      (Breaks.deep s.opens (leb-true DEPTH (depth ps) q.1)))
      (or-true (leb POINTS (length ps)) (eqb k DO && leb DEPTH (depth ps)) w))))
    where
      none
          : (xs : List DE.Dependence) (bs : List ℕ) → (leb 1 (length (mapped xs)) || leb 1 (length bs)) ≡ true
          → (xs ≡ []) × (bs ≡ []) → ⊥
      none xs bs h e = never (rw (e.0, e.1) at h)

      empty : (qs : List ℕ) → length qs ≡ 0 → qs ≡ []
      empty [] e = refl
      empty (q ∷ qs) e = absurd (omega arith)

  -- ---- dependences

  module _ (x : DE.Dependence) (kinds : (x.kind ≡ 17) ⊎ (x.kind ≡ 18)) where
    abbrev full : Bool
    full = leb DEPENDENCES (length (nest_of p []).deps)

    abbrev rest : ℕ
    rest = first_of (when full 5) (dep_fault ps (dep_in x))

    least_dependence : (n : ℕ) → Breaks p (Told.dependence x) n → Upto (dependence_fault (nest_of p []) (dep_in x)) n
    least_dependence n (Breaks.early h) =
        first_upto (when (not closed) 4) rest 4
        (when_upto (not closed) 4 (omega arith) (ap not (false_by (λ (z : closed ≡ true). h (is-closed ps s z)))))
    least_dependence n (Breaks.deps l) =
        later_upto (when (not closed) 4) rest 5 (when_le (not closed) 4 5 (omega arith))
        (first_upto (when full 5) (dep_fault ps (dep_in x)) 5
        (when_upto full 5 (omega arith)
        (le-leb DEPENDENCES (length (nest_of p []).deps) (omega (arith, mapped_length p.deps)))))
    least_dependence n (Breaks.misfit m) =
        let big = misfit_big ps x n m in
        later_upto (when (not closed) 4) rest n (omega (arith, when_le (not closed) 4 4 (omega arith)))
        (later_upto (when full 5) (dep_fault ps (dep_in x)) n (omega (arith, when_le full 5 5 (omega arith)))
        (misfit_upto ps x n m))

    found_dependence
        : 0 < dependence_fault (nest_of p []) (dep_in x)
        → Breaks p (Told.dependence x) (dependence_fault (nest_of p []) (dep_in x))
    found_dependence =
        first_found (Breaks p (Told.dependence x)) (when (not closed) 4) rest
        (when_found (Breaks p (Told.dependence x)) (not closed) 4
        (λ z. Breaks.early (λ c. never_both (closed_is ps c) (is_not closed z))))
        (λ z. first_found (Breaks p (Told.dependence x)) (when full 5) (dep_fault ps (dep_in x))
        (when_found (Breaks p (Told.dependence x)) full 5
        (λ y. Breaks.deps
        (omega (arith, leb-true DEPENDENCES (length (nest_of p []).deps) y, mapped_length p.deps))))
        (λ y h. Breaks.misfit (misfit_found ps x kinds (begins_closed ps s.begins (unless_zero closed 3 z)) h)))

  -- ---- barred gaps

  module _ (g : ℕ) where
    abbrev many : Bool
    many = leb BARS (length p.barred)

    abbrev inside : Bool
    inside = is_gap ps g

    abbrev one : Bool
    one = one_loop ps

    least_bar : (n : ℕ) → Breaks p (Told.bar g) n → Upto (barred_fault (nest_of p []) g) n
    least_bar n (Breaks.bar_early h) =
        first_upto (when (not closed) 4) (first_of (when many 5) (bar_fault ps g)) 4
        (when_upto (not closed) 4 (omega arith) (ap not (false_by (λ (z : closed ≡ true). h (is-closed ps s z)))))
    least_bar n (Breaks.bars l) =
        later_upto (when (not closed) 4) (first_of (when many 5) (bar_fault ps g)) 5
        (when_le (not closed) 4 5 (omega arith))
        (first_upto (when many 5) (bar_fault ps g) 5
        (when_upto many 5 (omega arith) (le-leb BARS (length p.barred) l)))
    least_bar n (Breaks.range h) =
        later_upto (when (not closed) 4) (first_of (when many 5) (bar_fault ps g)) 8
        (when_le (not closed) 4 8 (omega arith))
        (later_upto (when many 5) (bar_fault ps g) 8 (when_le many 5 8 (omega arith))
        (first_upto (when (not inside) 8) (when (not one) 14) 8
        (when_upto (not inside) 8 (omega arith)
        (ap not (false_by (λ (z : inside ≡ true). h (gap_within ps g z)))))))
    least_bar n (Breaks.several h) =
        later_upto (when (not closed) 4) (first_of (when many 5) (bar_fault ps g)) 14
        (when_le (not closed) 4 14 (omega arith))
        (later_upto (when many 5) (bar_fault ps g) 14 (when_le many 5 14 (omega arith))
        (later_upto (when (not inside) 8) (when (not one) 14) 14 (when_le (not inside) 8 14 (omega arith))
        (when_upto (not one) 14 (omega arith) (ap not (false_by (λ (z : one ≡ true). h (is_one ps z)))))))

    found_bar : 0 < barred_fault (nest_of p []) g → Breaks p (Told.bar g) (barred_fault (nest_of p []) g)
    found_bar =
        first_found (Breaks p (Told.bar g)) (when (not closed) 4) (first_of (when many 5) (bar_fault ps g))
        (when_found (Breaks p (Told.bar g)) (not closed) 4
        (λ z. Breaks.bar_early (λ c. never_both (closed_is ps c) (is_not closed z))))
        (λ z. first_found (Breaks p (Told.bar g)) (when many 5) (bar_fault ps g)
        (when_found (Breaks p (Told.bar g)) many 5 (λ y. Breaks.bars (leb-true BARS (length p.barred) y)))
        (λ y. first_found (Breaks p (Told.bar g)) (when (not inside) 8) (when (not one) 14)
        (when_found (Breaks p (Told.bar g)) (not inside) 8
        (λ w. Breaks.range (λ i. never_both (and_intro (lt-ltb 0 g i.0) (lt-ltb g (length ps) i.1))
        (is_not inside w))))
        (λ w. when_found (Breaks p (Told.bar g)) (not one) 14
        (λ v. Breaks.several (λ i. never_both (one_is ps i) (is_not one v))))))

  pub breaks_decided : (w : Told) → Known w → Decides (Breaks p w) (word_fault p w)
  breaks_decided (Told.point k) u = record { found = found_point k; least = least_point k }
  breaks_decided (Told.dependence x) u = record { found = found_dependence x u; least = least_dependence x u }
  breaks_decided (Told.bar g) u = record { found = found_bar g; least = least_bar g }
