-- The pass over the loops by their ENDDOs. A loop that ends at e has inside it just the loops that ended before e and
-- begin behind its DO, so the last DO of those with different counts says whether it may decide.
-- Main definitions: `Weighing`, what a turn keeps; `Quiet`, a loop that changes nothing. Main statements:
-- `weigh_other`, `weigh_hidden`, `weigh_same`, `weigh_less`, `weigh_more`, `weigh_done`.
use mathlib.Core.Path.{◌≡◌, refl, sym, ap, ◌∙◌}
use mathlib.Core.Bool.{Bool, true, false, not, ◌||◌}
use mathlib.Core.List.{List}
use mathlib.Core.Logic.{◌⊎◌, inl, inr, ⊎_elim}
use Prim.Native.Nat.{ℕ, ◌+◌, ◌≤◌, ◌<◌}
use native.Mathlib.Omega.{arith}
use lib.Dec.{eqb}
use lib.ListN.{length, get_or}
use borrow.Author.Tests.{eqb-true, eq-eqb, ne_eqb}
use Rattle.laws.proofs.Tests.{eq_or, bool_by, false_by, and_true, and_intro, or-true, or_left, or_right}
use Rattle.laws.proofs.Tests.{never, never_both}
use Rattle.paper_nests.specs.Kinds.{ENDDO}
use Rattle.paper_nests.specs.Nests.{Nest}
use Rattle.paper_nests.specs.Loops.{is_do, is_end, end_of, owner_of}
use Rattle.paper_nests.specs.Valid.{is_shape}
use Rattle.paper_nests.proofs.Levels.{point_in, end_not_first}
use Rattle.paper_nests.proofs.Loops.{inside_lies, inside_by, owner_is_do}
use Rattle.paper_nests.proofs.Loops.{end-after, end_there, end_is_end, end_has_do, end_injective}
use Rattle.paper_placements.specs.Placements.{loop_count, loops_of}
use Rattle.paper_placements.specs.Words.{GAPS, holds, gaps_in}
use Rattle.paper_placements.proofs.Inside.{inside_ends}
use Rattle.paper_placements.proofs.Words.{gaps_of_same, gaps_of_up_to}
use Rattle.paper_order.specs.LoopOrder.{inside_same, as_good}
use Rattle.paper_order.proofs.LoopOrder.{SameInside, same_in_is, same_in_by, as_good_elim, as_good_intro}
use Rattle.paper_weigh.specs.declared.Standing as DS
use Rattle.paper_weigh.specs.Weighed.{decides, decides_at, IsWeighed}

-- a loop that ended before point e
pub record Ended (ps : List ℕ) (e x : ℕ) : Type 0 where
  pub loop : is_do ps x ≡ true
  pub before : end_of ps x < e

-- whether a is as good or better than b, by the loops that ended before e
pub record Good (n : Nest) (a b : List ℕ) (e : ℕ) (t : Bool) : Type 0 where
  pub so : t ≡ true → (x : ℕ) → Ended n.points e x → SameInside n a b x → loop_count n a x ≤ loop_count n b x
  pub not_so : t ≡ false → as_good n a b ≡ false

-- the last DO of those with different counts; 0 for none, as the outermost loop is inside no other
pub record Latest (n : Nest) (a b : List ℕ) (e latest : ℕ) : Type 0 where
  pub behind : (x : ℕ) → Ended n.points e x → latest < x → loop_count n a x ≡ loop_count n b x
  pub ended : 0 < latest → Ended n.points e latest
  pub differs : 0 < latest → loop_count n a latest ≡ loop_count n b latest → ⊥

-- the words have those that decide, and nothing that does not
pub record Decided (n : Nest) (a b : List ℕ) (e : ℕ) (ws : List ℕ) : Type 0 where
  pub all : (x : ℕ) → Ended n.points e x → decides n a b x ≡ true → holds ws x ≡ true
  pub only : (i : ℕ) → holds ws i ≡ true → decides_at n a b i ≡ true

pub record Weighing (n : Nest) (a b : List ℕ) (e latest : ℕ) (first second : Bool) (ws : List ℕ) : Type 0 where
  pub last : Latest n a b e latest
  pub of_first : Good n a b e first
  pub of_second : Good n b a e second
  pub decided : Decided n a b e ws

-- a loop that does not decide, and has the same counts if it is the last
pub record Quiet (n : Nest) (a b : List ℕ) (latest x : ℕ) : Type 0 where
  pub same : SameInside n a b x → loop_count n a x ≡ loop_count n b x
  pub behind : latest < x → loop_count n a x ≡ loop_count n b x

module _ (n : Nest) (a b : List ℕ) (e : ℕ) where
  -- what is so of the loops before is so of those that ended by now, if it is so of the new ones
  good_on
      : (t : Bool)
      → Good n a b e t
      → ((x : ℕ) → Ended n.points (e + 1) x
      → Ended n.points e x ⊎ (SameInside n a b x → loop_count n a x ≤ loop_count n b x))
      → Good n a b (e + 1) t
  good_on t g new =
      record {
        so = λ z x r s. ⊎_elim (λ (q : Ended n.points e x). g.so z x q s) (λ q. q s) (new x r);
        not_so = g.not_so;
      }

  -- more at a loop with the same counts inside it
  good_not
      : (shape : is_shape n.points ≡ true) (d : ℕ)
      → is_do n.points d ≡ true
      → SameInside n a b d
      → loop_count n b d < loop_count n a d
      → Good n a b (e + 1) false
  good_not shape d h s l =
      record {
        so = λ z. never z;
        not_so = λ z. false_by (λ y. omega (arith, as_good_elim n shape a b y d h s));
      }

  good_done
      : (shape : is_shape n.points ≡ true) (t : Bool) → Good n a b e t → length n.points ≤ e → t ≡ as_good n a b
  good_done shape true g l =
      sym
      (as_good_intro n shape a b
      (λ d h s.
      g.so refl d (record { loop = h; before = omega (arith, end_there n.points shape d h) }) s))
  good_done shape false g l = sym (g.not_so refl)

module _ (n : Nest) (shape : is_shape n.points ≡ true) (a b : List ℕ) where
  -- a loop decides exactly if the counts inside it are the same and its own differ
  decides_by : (d : ℕ) → SameInside n a b d → (loop_count n a d ≡ loop_count n b d → ⊥) → decides n a b d ≡ true
  decides_by d s k =
      let z : eqb (loop_count n a d) (loop_count n b d) ≡ false = ne_eqb (loop_count n a d) (loop_count n b d) k in
      rw (same_in_by n shape a b d s, z)

  decides_is : (d : ℕ) → decides n a b d ≡ true → SameInside n a b d × (loop_count n a d ≡ loop_count n b d → ⊥)
  decides_is d h =
      let z = and_true (inside_same n a b d (loops_of n)) (not (eqb (loop_count n a d) (loop_count n b d))) h in
      (same_in_is n shape a b d z.0, λ q. differ (eq-eqb (loop_count n a d) (loop_count n b d) q) z.1)
    where
      differ : {t : Bool} → t ≡ true → not t ≡ true → ⊥
      differ {t} q r = never_both r (ap not q)

  module _ (e latest : ℕ) (first second : Bool) (ws : List ℕ) (w : Weighing n a b e latest first second ws) where
    -- no new loop decides
    quiet
        : ((x : ℕ) → Ended n.points (e + 1) x → Ended n.points e x ⊎ Quiet n a b latest x)
        → Weighing n a b (e + 1) latest first second ws
    quiet new =
        record {
          last =
              record {
                behind =
                    λ x r l.
                    ⊎_elim
                    (λ (q : Ended n.points e x). w.last.behind x q l)
                    (λ (q : Quiet n a b latest x). q.behind l)
                    (new x r);
                ended =
                    λ z.
                    let r = w.last.ended z in
                    record { loop = r.loop; before = omega (arith, r.before) };
                differs = w.last.differs;
              };
          of_first =
              good_on n a b e first w.of_first
              (λ x r.
              ⊎_elim
              (λ (q : Ended n.points e x). inl q)
              (λ (q : Quiet n a b latest x). inr (λ s. omega (arith, q.same s)))
              (new x r));
          of_second =
              good_on n b a e second w.of_second
              (λ x r.
              ⊎_elim
              (λ (q : Ended n.points e x). inl q)
              (λ (q : Quiet n a b latest x). inr (λ s. omega (arith, q.same (λ y h i. sym (s y h i)))))
              (new x r));
          decided =
              record {
                all =
                    λ x r h.
                    ⊎_elim
                    (λ (q : Ended n.points e x). w.decided.all x q h)
                    (λ (q : Quiet n a b latest x).
                    let z = decides_is x h in absurd (z.1 (q.same z.0)))
                    (new x r);
                only = w.decided.only;
              };
        }

    -- a point that ends no loop
    pub weigh_other : (get_or n.points e 0 ≡ ENDDO → ⊥) → Weighing n a b (e + 1) latest first second ws
    weigh_other k = quiet (λ x r. inl (record { loop = r.loop; before = omega (arith, r.before, apart x r) }))
      where
        apart : (x : ℕ) → Ended n.points (e + 1) x → end_of n.points x ≡ e → ⊥
        apart x r q =
            let z : is_end n.points e ≡ true = rw (← q) (end_is_end n.points shape x r.loop) in
            k (eqb-true (get_or n.points e 0) ENDDO z)

    -- the loop d ends here
    module _ (ends : get_or n.points e 0 ≡ ENDDO) (d : ℕ) (owner : d ≡ owner_of n.points e) where
      is-end : is_end n.points e ≡ true
      is-end = eq-eqb (get_or n.points e 0) ENDDO ends

      is_loop : is_do n.points d ≡ true
      is_loop =
          rw owner
          (owner_is_do n.points shape e (end_not_first n.points shape e is-end) (point_in n.points e 1 is-end))

      end_here : end_of n.points d ≡ e
      end_here = rw owner (end_has_do n.points shape e is-end)

      here : Ended n.points (e + 1) d
      here = record { loop = is_loop; before = omega (arith, end_here) }

      -- a loop that ended by now ended before, or is this one
      before_or : (x : ℕ) → Ended n.points (e + 1) x → Ended n.points e x ⊎ (x ≡ d)
      before_or x r =
          ⊎_elim
          (λ (q : end_of n.points x ≡ e).
          inr (end_injective n.points shape x d r.loop is_loop (q ∙ sym end_here)))
          (λ (q : end_of n.points x ≡ e → ⊥). inl (record { loop = r.loop; before = omega (arith, r.before) }))
          (eq_or (end_of n.points x) e)

      -- the loops inside d ended before, behind d
      same_here : latest ≤ d → SameInside n a b d
      same_here l x h i =
          let z = inside_lies n.points d x i in
          let y = inside_ends n.points shape d x is_loop h i in
          w.last.behind x (record { loop = h; before = omega (arith, end_here) }) (omega arith)

      -- one of them has different counts
      pub weigh_hidden : d < latest → Weighing n a b (e + 1) latest first second ws
      weigh_hidden l =
          quiet
          (λ x r.
          ⊎_elim
          (λ (q : Ended n.points e x). inl q)
          (λ (q : x ≡ d).
          inr (record { same = λ s. absurd (other (rw q at s)); behind = λ m. absurd (omega arith) }))
          (before_or x r))
        where
          other : SameInside n a b d → ⊥
          other s =
              let r = w.last.ended (omega arith) in
              let z = end-after n.points shape latest r.loop in
              w.last.differs (omega arith)
              (s latest r.loop (inside_by n.points d latest l (omega (arith, r.before, end_here))))

      -- its own counts are the same
      pub weigh_same : loop_count n a d ≡ loop_count n b d → Weighing n a b (e + 1) latest first second ws
      weigh_same c =
          quiet
          (λ x r.
          ⊎_elim
          (λ (q : Ended n.points e x). inl q)
          (λ (q : x ≡ d). inr (record { same = λ s. rw q c; behind = λ m. rw q c }))
          (before_or x r))

      module _ (l : latest ≤ d) (vs : List ℕ) (with_d : (i : ℕ) → holds vs i ≡ (eqb i d || holds ws i)) where
        module _ (k : loop_count n a d ≡ loop_count n b d → ⊥) where
          -- it decides
          latest_here : Latest n a b (e + 1) d
          latest_here =
              record {
                behind =
                    λ x r m.
                    ⊎_elim
                    (λ (q : Ended n.points e x). w.last.behind x q (omega arith))
                    (λ (q : x ≡ d). absurd (omega arith))
                    (before_or x r);
                ended = λ z. here;
                differs = λ z. k;
              }

          decided_here : Decided n a b (e + 1) vs
          decided_here =
              record {
                all =
                    λ x r h.
                    with_d x ∙
                    ⊎_elim
                    (λ (q : Ended n.points e x). or_right (eqb x d) (w.decided.all x q h))
                    (λ (q : x ≡ d). or_left (holds ws x) (eq-eqb x d q))
                    (before_or x r);
                only =
                    λ i h.
                    ⊎_elim
                    (λ (q : eqb i d ≡ true).
                    let z : decides_at n a b d ≡ true = and_intro is_loop (decides_by d (same_here l) k) in
                    rw (eqb-true i d q) z)
                    (λ (q : holds ws i ≡ true). w.decided.only i q)
                    (or-true (eqb i d) (holds ws i) (sym (with_d i) ∙ h));
              }

        pub weigh_less : loop_count n a d < loop_count n b d → Weighing n a b (e + 1) d first false vs
        weigh_less m =
            record {
              last = latest_here (λ q. omega arith);
              of_first =
                  good_on n a b e first w.of_first
                  (λ x r.
                  ⊎_elim
                  (λ (q : Ended n.points e x). inl q)
                  (λ (q : x ≡ d). inr (λ s. rw q (omega arith)))
                  (before_or x r));
              of_second = good_not n b a e shape d is_loop (λ x h i. sym (same_here l x h i)) m;
              decided = decided_here (λ q. omega arith);
            }

        pub weigh_more : loop_count n b d < loop_count n a d → Weighing n a b (e + 1) d false second vs
        weigh_more m =
            record {
              last = latest_here (λ q. omega arith);
              of_first = good_not n a b e shape d is_loop (same_here l) m;
              of_second =
                  good_on n b a e second w.of_second
                  (λ x r.
                  ⊎_elim
                  (λ (q : Ended n.points e x). inl q)
                  (λ (q : x ≡ d). inr (λ s. rw q (omega arith)))
                  (before_or x r));
              decided = decided_here (λ q. omega arith);
            }

  -- all loops have ended
  pub weigh_done
      : (e latest : ℕ) (r : DS.Standing)
      → length n.points ≤ e
      → length n.points ≤ GAPS
      → Weighing n a b e latest r.first r.second r.deciding.words
      → IsWeighed n a b r
  unfolding gaps_in
  weigh_done e latest r end few w =
      record {
        first_is = good_done n a b e shape r.first w.of_first end;
        second_is = good_done n b a e shape r.second w.of_second end;
        deciding_is =
            gaps_of_up_to (holds ws) (length ps) GAPS few
            (λ i k l. false_by (λ z. omega (arith, point_in ps i 0 (of-loop i z)))) ∙
            gaps_of_same (holds ws) (decides_at n a b) (length ps) 0
            (λ i k l. bool_by (holds ws i) (decides_at n a b i) (w.decided.only i) (put i));
      }
    where
      ps : List ℕ
      ps = n.points

      ws : List ℕ
      ws = r.deciding.words

      of-loop : (i : ℕ) → holds ws i ≡ true → is_do ps i ≡ true
      of-loop i z = (and_true (is_do ps i) (decides n a b i) (w.decided.only i z)).0

      put : (i : ℕ) → decides_at n a b i ≡ true → holds ws i ≡ true
      put i h =
          let z = and_true (is_do ps i) (decides n a b i) h in
          w.decided.all i (record { loop = z.0; before = omega (arith, end_there ps shape i z.0) }) z.1
