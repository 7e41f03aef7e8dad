-- Joining two texts keeps its page.
-- Main statements: `joined`, `flags_Joined`, `join_kept`.
use mathlib.Core.Path.{◌≡◌, sym, ◌∙◌, ap, subst}
use mathlib.Core.Bool.{Bool, true, false, not}
use mathlib.Core.List.{List, [], ◌∷◌, ◌++◌}
use mathlib.Core.Logic.{◌↔◌, ⊎_elim}
use Prim.Native.Nat.{ℕ, suc, ◌+◌, ◌<◌}
use native.Mathlib.Omega.{arith}
use lib.ListN.{length, take, drop}
use lib.Seq.{take-append_seam, drop-append_seam}
use borrow.Author.Tests.{eq-eqb, ne_eqb, lt-ltb, le-ltb}
use Rattle.laws.specs.Choice.{pick, is_in}
use Rattle.laws.proofs.Tests.{true_by, bool_by}
use Rattle.paper_nests.specs.Nests.{Nest}
use Rattle.paper_nests.specs.Valid.{is_valid}
use Rattle.paper_nests.proofs.Levels.{point_in}
use Rattle.paper_nests.proofs.Flags.{flag_is_do}
use Rattle.paper_nests.proofs.Deps.{valid_is}
use Rattle.paper_lines.specs.Writing.{over}
use Rattle.paper_texts.specs.NestTexts as T
use Rattle.paper_texts.specs.NestTexts.{Got, got, read_nest}
use Rattle.paper_texts.proofs.Accepted.{accepted_means}
use Rattle.paper_texts.proofs.Spelled.{valid_accepted}
use Rattle.call_join.specs.declared.Joined as DJ
use Rattle.call_join.specs.JointNests as N
use Rattle.call_join.specs.JointNests.{moved_gaps, second_at}
use Rattle.call_join.specs.Says.{Fault, fault, joint_text, room_fault, join_fault, JoinSays}
use Rattle.call_join.proofs.BothLists.{in_both, in-front, in_back}
use Rattle.call_join.proofs.JointValid as J
use Rattle.call_join.proofs.JoinedTexts.{joined_read}
use Rattle.call_join.proofs.MovedGaps.{in_moved}
use Rattle.pages.specs.Demands as P
use Rattle.pages.specs.Demands.{At, In, Paper, Frames, Lines, Spells}
use Rattle.pages.proofs.Placements.{nest_of}
use Rattle.pages.proofs.Rules.{valid_page}
use Rattle.pages.proofs.Texts.{means_page}
use Rattle.pages_calls.specs.Join.{Joint, Refuses, Writes, Joining}
use Rattle.pages_calls.proofs.Flags.{text_flags}
use Rattle.pages_calls.proofs.JointPapers.{read_of, papers, joint_paper, joint_nest, joint_made}
use Rattle.pages_calls.proofs.JointPapers.{joint_is, joint_tree, joint_within, valid_read, moved_from, moved_low}

-- ---- the call

refuses_by
    : (s t out out' : List ℕ) (r : DJ.Joined) (n x l : ℕ) → JoinSays s t out out' r → join_fault s t out ≡ fault n x l
    → (n ≡ 0 → ⊥) → Refuses n x l out out' r
refuses_by s t out out' r n x l h e z =
    let k : (join_fault s t out).number ≡ n = ap (λ (f : Fault). f.number) e in
    let bad = ne_eqb (join_fault s t out).number 0 (λ y. z (sym k ∙ y)) in (
      h.number_is ∙ k,
      h.text_is ∙ ap (λ (f : Fault). f.text) e,
      h.line_is ∙ ap (λ (f : Fault). f.line) e,
      rw bad at h.out_is,
    )

-- the faults, in their order
module _ (s t out : List ℕ) where
  first_fault : ((read_nest s).number ≡ 0 → ⊥) → join_fault s t out ≡ fault (read_nest s).number 1 (read_nest s).place
  first_fault z = rw (ne_eqb (read_nest s).number 0 z)

  second_fault
      : (read_nest s).number ≡ 0 → ((read_nest t).number ≡ 0 → ⊥)
      → join_fault s t out ≡ fault (read_nest t).number 2 (read_nest t).place
  second_fault y z = rw (eq-eqb (read_nest s).number 0 y, ne_eqb (read_nest t).number 0 z)

  module _ (y : (read_nest s).number ≡ 0) (z : (read_nest t).number ≡ 0) where
    first_bars : (length (read_nest s).nest_is.barred ≡ 0 → ⊥) → join_fault s t out ≡ fault 14 1 0
    first_bars a =
        rw (
          eq-eqb (read_nest s).number 0 y,
          eq-eqb (read_nest t).number 0 z,
          ne_eqb (length (read_nest s).nest_is.barred) 0 a,
        )

    second_bars
        : length (read_nest s).nest_is.barred ≡ 0 → (length (read_nest t).nest_is.barred ≡ 0 → ⊥)
        → join_fault s t out ≡ fault 14 2 0
    second_bars a b =
        rw (
          eq-eqb (read_nest s).number 0 y,
          eq-eqb (read_nest t).number 0 z,
          eq-eqb (length (read_nest s).nest_is.barred) 0 a,
          ne_eqb (length (read_nest t).nest_is.barred) 0 b,
        )

    module _ (a : length (read_nest s).nest_is.barred ≡ 0) (b : length (read_nest t).nest_is.barred ≡ 0) where
      limit_fault : N.exceeds (read_nest s).nest_is (read_nest t).nest_is ≡ true → join_fault s t out ≡ fault 18 0 0
      limit_fault c =
          rw (
            eq-eqb (read_nest s).number 0 y,
            eq-eqb (read_nest t).number 0 z,
            eq-eqb (length (read_nest s).nest_is.barred) 0 a,
            eq-eqb (length (read_nest t).nest_is.barred) 0 b,
            c,
          )

      room-fault
          : N.exceeds (read_nest s).nest_is (read_nest t).nest_is ≡ false
          → join_fault s t out ≡ room_fault (read_nest s) (read_nest t) (length out)
      room-fault c =
          rw (
            eq-eqb (read_nest s).number 0 y,
            eq-eqb (read_nest t).number 0 z,
            eq-eqb (length (read_nest s).nest_is.barred) 0 a,
            eq-eqb (length (read_nest t).nest_is.barred) 0 b,
            c,
          )

some_bar : (g : ℕ) (xs : List ℕ) → In g xs → length xs ≡ 0 → ⊥
some_bar g [] i z = i.1
some_bar g (x ∷ xs) i z = omega arith

none_bar : (xs : List ℕ) → xs ≡ [] → length xs ≡ 0
none_bar xs e = ap length e

module _ (s t out out' : List ℕ) (r : DJ.Joined) (p q : Paper) (h : JoinSays s t out out' r) (x : Spells s p)
    (y : Spells t q) where
  abbrev fp : List ℕ
  fp = (read_of s p x).flags

  abbrev fq : List ℕ
  fq = (read_of t q y).flags

  one_read : read_nest s ≡ got 0 0 (nest_of p fp)
  one_read = (read_of s p x).read

  two_read : read_nest t ≡ got 0 0 (nest_of q fq)
  two_read = (read_of t q y).read

  number_one : (read_nest s).number ≡ 0
  number_one = ap (λ (g : Got). g.number) one_read

  number_two : (read_nest t).number ≡ 0
  number_two = ap (λ (g : Got). g.number) two_read

  bars_one : (read_nest s).nest_is.barred ≡ p.barred
  bars_one = ap (λ (g : Got). g.nest_is.barred) one_read

  bars_two : (read_nest t).nest_is.barred ≡ q.barred
  bars_two = ap (λ (g : Got). g.nest_is.barred) two_read

  one_valid : is_valid (nest_of p fp) ≡ true
  one_valid = valid_read s p fp one_read

  two_valid : is_valid (nest_of q fq) ≡ true
  two_valid = valid_read t q fq two_read

  first_barred : (g : ℕ) → In g p.barred → Refuses 14 1 0 out out' r
  first_barred g i =
      refuses_by s t out out' r 14 1 0 h
      (first_bars s t out number_one number_two (λ z. some_bar g p.barred i (sym (ap length bars_one) ∙ z)))
      (λ z. omega arith)

  second_barred : (g : ℕ) → p.barred ≡ [] → In g q.barred → Refuses 14 2 0 out out' r
  second_barred g e i =
      refuses_by s t out out' r 14 2 0 h
      (second_bars s t out number_one number_two (ap length (bars_one ∙ e))
      (λ z. some_bar g q.barred i (sym (ap length bars_two) ∙ z)))
      (λ z. omega arith)

  module _ (np : p.barred ≡ []) (nq : q.barred ≡ []) where
    abbrev n : Nest
    n = nest_of p fp

    abbrev m : Nest
    m = nest_of q fq

    exceeds_is : N.exceeds (read_nest s).nest_is (read_nest t).nest_is ≡ N.exceeds n m
    exceeds_is =
        ap (λ (g : Got). N.exceeds g.nest_is (read_nest t).nest_is) one_read ∙
        ap (λ (g : Got). N.exceeds n g.nest_is) two_read

    valid_or : is_valid (N.joined n m) ≡ not (N.exceeds n m)
    valid_or = J.joined_valid n m (papers p q fp fq one_valid two_valid np nq)

    exceeded : ((j : Paper) → Joint p q j → P.Valid j → ⊥) → Refuses 18 0 0 out out' r
    exceeded none =
        refuses_by s t out out' r 18 0 0 h
        (limit_fault s t out number_one number_two (ap length (bars_one ∙ np)) (ap length (bars_two ∙ nq)) (exceeds_is ∙
        over_limit))
        (λ z. omega arith)
      where
        over_limit : N.exceeds n m ≡ true
        over_limit =
            true_by
            (λ z.
            let v : is_valid (N.joined n m) ≡ true = valid_or ∙ ap not z in
            none (joint_paper p q fp fq one_valid two_valid np nq) (joint_made p q fp fq one_valid two_valid np nq)
            (valid_page (joint_paper p q fp fq one_valid two_valid np nq) (N.joined n m).flagged
            (ap is_valid (joint_nest p q fp fq one_valid two_valid np nq) ∙ v)))

    within : (j : Paper) → Joint p q j → P.Valid j → N.exceeds n m ≡ false
    within j k v = joint_within p q fp fq one_valid two_valid np nq j k v

    joint_valid : (j : Paper) → Joint p q j → P.Valid j → is_valid (N.joined n m) ≡ true
    joint_valid j k v = valid_or ∙ ap not (within j k v)

    text_is : joint_text (read_nest s) (read_nest t) ≡ T.nest_text (N.joined n m)
    text_is =
        ap (λ (g : Got). T.nest_text (N.joined g.nest_is (read_nest t).nest_is)) one_read ∙
        ap (λ (g : Got). T.nest_text (N.joined n g.nest_is)) two_read

    joined : (j : Paper) → Joint p q j → P.Valid j → (text : List ℕ) × (Spells text j × Writes text out out' r)
    joined j k v =
        let w = joint_valid j k v in
        let text = T.nest_text (N.joined n m) in
        let e = valid_accepted (N.joined n m) w in
        let means : T.Means text (N.joined n m) =
        subst (λ (g : Got). T.Means text g.nest_is) e (accepted_means text (ap (λ (g : Got). g.number) e)) in
        let f =
        room-fault s t out number_one number_two (ap length (bars_one ∙ np)) (ap length (bars_two ∙ nq))
        (exceeds_is ∙ within j k v) in (
          text,
          (
            means_page text j (N.joined n m).flagged
                (subst (λ (x : Nest). T.Means text x) (sym (joint_is p q fp fq one_valid two_valid np nq j k)) means),
            subst (λ (o : List ℕ). Writes o out out' r) text_is (writes f),
          ),
        )
      where
        writes
            : join_fault s t out ≡ room_fault (read_nest s) (read_nest t) (length out)
            → Writes (joint_text (read_nest s) (read_nest t)) out out' r
        writes f =
            record {
              fits =
                  λ l. fits (f ∙ ap (λ (b : Bool). pick b (fault 9 0 0) (fault 0 0 0))
                  (le-ltb (length out) (length (joint_text (read_nest s) (read_nest t))) l));
              short =
                  λ l.
                  refuses_by s t out out' r 9 0 0 h
                  (f ∙ ap (λ (b : Bool). pick b (fault 9 0 0) (fault 0 0 0))
                  (lt-ltb (length out) (length (joint_text (read_nest s) (read_nest t))) l))
                  (λ z. omega arith);
            }
          where
            fits
                : join_fault s t out ≡ fault 0 0 0
                → (r.number ≡ 0) × (r.value ≡ length (joint_text (read_nest s) (read_nest t))) ×
                (take r.value out' ≡ joint_text (read_nest s) (read_nest t)) ×
                (drop r.value out' ≡ drop r.value out)
            fits e =
                let k : (join_fault s t out).number ≡ 0 = ap (λ (x : Fault). x.number) e in
                let ok = eq-eqb (join_fault s t out).number 0 k in
                let l : r.value ≡ length (joint_text (read_nest s) (read_nest t)) = rw ok at h.value_is in
                let o : out' ≡ over (joint_text (read_nest s) (read_nest t)) out = rw ok at h.out_is in (
                  h.number_is ∙ k,
                  l,
                  rw (l, o) (take-append_seam (joint_text (read_nest s) (read_nest t))
                      (drop (length (joint_text (read_nest s) (read_nest t))) out)),
                  rw (l, o) (drop-append_seam (joint_text (read_nest s) (read_nest t))
                      (drop (length (joint_text (read_nest s) (read_nest t))) out)),
                )

    -- the flags of the joint text
    module _ (zero_is : r.number ≡ 0) (fs gs hs : Frames) (one_lines : Lines s fs) (two_lines : Lines t gs)
        (lines : Lines (take r.value out') hs) where
      both_flags : List ℕ
      both_flags = moved_gaps 1 fp ++ moved_gaps (second_at n) fq

      written : (l : ℕ) → (is_in l (moved_gaps 1 fp ++ moved_gaps (second_at n) fq) ≡ true) ↔ At hs l (4 ∷ [])
      written l =
          let k = joined_read s t out out' r h zero_is in
          let text = take r.value out' in
          let e : read_nest text ≡ got 0 0 (N.joined n m) =
          k.accepted ∙ ap (λ (g : Got). got 0 0 (N.joined g.nest_is (read_nest t).nest_is)) one_read ∙
          ap (λ (g : Got). got 0 0 (N.joined n g.nest_is)) two_read in
          text_flags text (N.joined n m)
          (subst (λ (g : Got). T.Means text g.nest_is) e
          (accepted_means text (ap (λ (g : Got). g.number) e))) hs lines l

      one_flags : (l : ℕ) → (is_in l fp ≡ true) ↔ At fs l (4 ∷ [])
      one_flags l =
          text_flags s n
          (subst (λ (g : Got). T.Means s g.nest_is) one_read (accepted_means s number_one)) fs one_lines l

      two_flags : (l : ℕ) → (is_in l fq ≡ true) ↔ At gs l (4 ∷ [])
      two_flags l =
          text_flags t m
          (subst (λ (g : Got). T.Means t g.nest_is) two_read (accepted_means t number_two)) gs two_lines l

      in_first
          : (i : ℕ) → i < length p.points → is_in (suc i) (moved_gaps 1 fp ++ moved_gaps (second_at n) fq) ≡ is_in i fp
      in_first i l =
          let z : 1 + i ≡ suc i = omega arith in
          let e : is_in (suc i) (moved_gaps 1 fp) ≡ is_in i fp =
          subst (λ (x : ℕ). is_in x (moved_gaps 1 fp) ≡ is_in i fp) z (in_moved 1 i fp) in
          bool_by (is_in (suc i) (moved_gaps 1 fp ++ moved_gaps (second_at n) fq)) (is_in i fp)
          (λ w.
          ⊎_elim
          (λ (u : is_in (suc i) (moved_gaps 1 fp) ≡ true). sym e ∙ u)
          (λ (u : is_in (suc i) (moved_gaps (second_at n) fq) ≡ true). absurd
          (omega (arith, l, moved_low (second_at n) (suc i) fq u)))
          (in_both (suc i) (moved_gaps 1 fp) (moved_gaps (second_at n) fq) w))
          (λ w. in-front (suc i) (moved_gaps 1 fp) (moved_gaps (second_at n) fq) (e ∙ w))

      in_second
          : (i : ℕ) → is_in (second_at n + i) (moved_gaps 1 fp ++ moved_gaps (second_at n) fq) ≡ is_in i fq
      in_second i =
          bool_by (is_in (second_at n + i) (moved_gaps 1 fp ++ moved_gaps (second_at n) fq)) (is_in i fq)
          (λ w.
          ⊎_elim
          (λ (u : is_in (second_at n + i) (moved_gaps 1 fp) ≡ true).
          let f = moved_from 1 (second_at n + i) fp u in
          absurd
          (omega (
            arith,
            f.1.1,
            point_in p.points f.0 0 (flag_is_do p.points fp (valid_is n one_valid).all_flags f.0
                f.1.0),
          )))
          (λ (u : is_in (second_at n + i) (moved_gaps (second_at n) fq) ≡ true). sym (in_moved (second_at n) i fq) ∙ u)
          (in_both (second_at n + i) (moved_gaps 1 fp) (moved_gaps (second_at n) fq) w))
          (λ w. in_back (second_at n + i) (moved_gaps 1 fp) (moved_gaps (second_at n) fq) (in_moved (second_at n) i fq ∙ w))

      flags_Joined
          : (i : ℕ)
          → (i < length p.points → At hs (suc i) (4 ∷ []) ↔ At fs i (4 ∷ [])) ×
          (i < length q.points → At hs (suc (length p.points) + i) (4 ∷ []) ↔ At gs i (4 ∷ []))
      flags_Joined i = (
        (λ l. (
          (λ a. (one_flags i).0 (sym (in_first i l) ∙ (written (suc i)).1 a)),
          (λ a. (written (suc i)).0 (in_first i l ∙ (one_flags i).1 a)),
        )),
        (λ l. (
          (λ a. (two_flags i).0 (sym (in_second i) ∙ (written (second_at n + i)).1 a)),
          (λ a. (written (second_at n + i)).0 (in_second i ∙ (two_flags i).1 a)),
        )),
      )

pub join_kept : Joining
join_kept =
    record {
      first_refused =
          λ s t out out' r d l h k z.
          let bad : (read_nest s).number ≡ 0 → ⊥ = λ w. z (k.number_is ∙ w) in
          let f =
          refuses_by s t out out' r (read_nest s).number 1 (read_nest s).place h (first_fault s t out bad) bad in
          (f.0 ∙ sym k.number_is, f.1, f.2 ∙ sym k.line_is, f.3);
      second_refused =
          λ s t out out' r p d l h x k z.
          let bad : (read_nest t).number ≡ 0 → ⊥ = λ w. z (k.number_is ∙ w) in
          let good = ap (λ (g : Got). g.number) (read_of s p x).read in
          let f =
          refuses_by s t out out' r (read_nest t).number 2 (read_nest t).place h (second_fault s t out good bad) bad in
          (f.0 ∙ sym k.number_is, f.1, f.2 ∙ sym k.line_is, f.3);
      first_barred = λ s t out out' r p q g h x y i. first_barred s t out out' r p q h x y g i;
      second_barred = λ s t out out' r p q g h x y e i. second_barred s t out out' r p q h x y g e i;
      exceeds =
          λ s t out out' r p q h w none.
          exceeded s t out out' r p q h w.first w.second w.unbarred.0 w.unbarred.1 none;
      joined =
          λ s t out out' r p q j h w k v.
          joined s t out out' r p q h w.first w.second w.unbarred.0 w.unbarred.1 j k v;
      flags =
          λ s t out out' r p q fs gs hs i h w z a b c.
          flags_Joined s t out out' r p q h w.first w.second w.unbarred.0 w.unbarred.1 z fs gs hs a b c i;
      tree =
          λ s t p q j a b key w k v x y z.
          let f = read_of s p w.first in
          let g = read_of t q w.second in
          let one = valid_read s p f.flags f.read in
          let two = valid_read t q g.flags g.read in
          let np = w.unbarred.0 in
          let nq = w.unbarred.1 in
          let within = joint_within p q f.flags g.flags one two np nq j k v in
          joint_tree p q f.flags g.flags one two np nq j k
          (J.joined_valid (nest_of p f.flags) (nest_of q g.flags) (papers p q f.flags g.flags one two np nq) ∙
          ap not within)
          within a b key x y z;
    }
