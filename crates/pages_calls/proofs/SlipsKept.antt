-- The calls that write slips keep their page.
-- Main statements: `written_by`, `refuses_by`, `slips_kept`.
use mathlib.Core.Path.{◌≡◌, refl, sym, ◌∙◌, ap, subst}
use mathlib.Core.Bool.{Bool, true, false}
use mathlib.Core.List.{List}
use mathlib.Core.Logic.{⊎_elim}
use Prim.Native.Nat.{ℕ}
use native.Mathlib.Omega.{arith}
use lib.Dec.{ltb}
use lib.ListN.{length, take, drop}
use lib.Seq.{take-append_seam, drop-append_seam}
use borrow.Author.Tests.{eq-eqb, ne_eqb, lt-ltb, le-ltb}
use Rattle.std.proofs.Common.{Ok, Err}
use Rattle.laws.specs.Choice.{when}
use Rattle.laws.proofs.Tests.{eq_or}
use Rattle.paper_refusals.specs.declared.Fault as PF
use Rattle.paper_nests.specs.Nests.{Nest}
use Rattle.paper_nests.specs.Stored.{nest_in}
use Rattle.paper_lines.specs.Writing.{over}
use Rattle.paper_lines.proofs.Spelling.{frames_text}
use Rattle.paper_order.specs.Verdicts.{Verdict, Uncut, Dearer, Best, mark_of}
use Rattle.paper_texts.specs.PlacementTexts.{Placed, placed}
use Rattle.desk.specs.declared.Desk as DD
use Rattle.desk.specs.declared.Answer as DA
use Rattle.desk.specs.declared.Verdict as DV
use Rattle.desk.specs.declared.Verdict.TheVariants as VV
use Rattle.desk.specs.Desks.{desk_in, IsMade, state_fault, Fault, fault}
use Rattle.desk.specs.Says.{MarkSays, Mark, given, refused, verdict_in, marked, read_in}
use Rattle.call_slips.specs.Texts.{slip_text, examiner_text}
use Rattle.call_slips.specs.Says.{SlipSays, slip_fault, candidate_slip, candidate_fault, CandidateSays, examiner_slip}
use Rattle.call_slips.specs.Says.{examiner_fault, ExaminerSays}
use Rattle.call_slips.proofs.Alike.{slip_alike}
use Rattle.pages.specs.Demands as P
use Rattle.pages.specs.Demands.{Paper, Frames, Lines, Places, Reached, KeyOn, number_told}
use Rattle.pages.proofs.Placements.{nest_of, nest_of_paper}
use Rattle.pages.proofs.Keys.{best-of}
use Rattle.pages.proofs.Spelling.{lines_made}
use Rattle.pages.proofs.Desks.{reached_made}
use Rattle.pages.proofs.Turns.{numbered}
use Rattle.pages.proofs.Kept.{paper_on, flags_of, key_same, key_key, right, demands_kept}
use Rattle.pages_requests.proofs.Papers.{page_valid, key_loaded, key_state, nest_state, no_nest_state, turn_state}
use Rattle.pages_calls.specs.Slips.{CandidateSlip, ExaminerSlip, Written, Refuses, Slips}
use Rattle.pages_calls.proofs.Reading.{places_read}
use Rattle.pages_calls.proofs.SlipFrames.{candidate_lines, examiner_lines}

-- ---- buffers

written_by
    : (f : Fault) (slip text out out' : List ℕ) (a : DA.Answer) → SlipSays f slip out out' a
    → f ≡ fault (when (ltb (length out) (length slip)) 9) 0 → slip ≡ text → Written text out out' a
written_by f slip text out out' a h e q =
    subst (λ (t : List ℕ). Written t out out' a) q
    (record {
      fits = λ l. fits (le-ltb (length out) (length slip) l);
      short = λ l. short (lt-ltb (length out) (length slip) l);
      line = h.line_is ∙ ap (λ (x : Fault). x.place) e;
    })
  where
    number_by : (t : Bool) → ltb (length out) (length slip) ≡ t → f.number ≡ when t 9
    number_by t z = ap (λ (x : Fault). x.number) e ∙ ap (λ (b : Bool). when b 9) z

    fits
        : ltb (length out) (length slip) ≡ false
        → (a.number ≡ 0) × (a.value ≡ length slip) × (take a.value out' ≡ slip) ×
        (drop a.value out' ≡ drop a.value out)
    fits z =
        let none = number_by false z in
        let ok = eq-eqb f.number 0 none in
        let l : a.value ≡ length slip = rw ok at h.value_is in
        let o : out' ≡ over slip out = rw ok at h.out_is in (
          h.number_is ∙ none,
          l,
          rw (l, o) (take-append_seam slip (drop (length slip) out)),
          rw (l, o) (drop-append_seam slip (drop (length slip) out)),
        )

    short : ltb (length out) (length slip) ≡ true → (a.number ≡ 9) × (out' ≡ out)
    short z =
        let nine = number_by true z in
        let bad = ne_eqb f.number 0 (λ y. omega (arith, nine, y)) in
        (h.number_is ∙ nine, rw bad at h.out_is)

refuses_by
    : (f : Fault) (slip out out' : List ℕ) (a : DA.Answer) (n l : ℕ) → SlipSays f slip out out' a → f ≡ fault n l
    → (n ≡ 0 → ⊥) → Refuses n l out out' a
refuses_by f slip out out' a n l h e z =
    let k : f.number ≡ n = ap (λ (x : Fault). x.number) e in
    let bad = ne_eqb f.number 0 (λ y. z (sym k ∙ y)) in
    (h.number_is ∙ k, h.line_is ∙ ap (λ (x : Fault). x.place) e, rw bad at h.out_is)

-- ---- faults

state-fault
    : (b : Bool) (d : DD.Desk) (s slip : List ℕ) (room n : ℕ) → state_fault b (desk_in d) ≡ n → (n ≡ 0 → ⊥)
    → slip_fault b (desk_in d) s slip room ≡ fault n 0
state-fault b d s slip room n e z =
    let bad = ne_eqb (state_fault b (desk_in d)) 0 (λ y. z (sym e ∙ y)) in
    rw bad (ap (λ (x : ℕ). fault x 0) e)

read_fault
    : (b : Bool) (d : DD.Desk) (s slip : List ℕ) (room n l : ℕ) → state_fault b (desk_in d) ≡ 0
    → (read_in (desk_in d) s).number ≡ n → (read_in (desk_in d) s).place ≡ l → (n ≡ 0 → ⊥)
    → slip_fault b (desk_in d) s slip room ≡ fault n l
read_fault b d s slip room n l e x y z =
    let bad = ne_eqb (read_in (desk_in d) s).number 0 (λ w. z (sym x ∙ w)) in
    rw (eq-eqb (state_fault b (desk_in d)) 0 e, bad) (cc (x, y))

room-fault
    : (b : Bool) (d : DD.Desk) (s slip : List ℕ) (room : ℕ) → state_fault b (desk_in d) ≡ 0
    → (read_in (desk_in d) s).number ≡ 0 → slip_fault b (desk_in d) s slip room ≡ fault (when (ltb room (length slip)) 9) 0
room-fault b d s slip room e x =
    rw (eq-eqb (state_fault b (desk_in d)) 0 e, eq-eqb (read_in (desk_in d) s).number 0 x)

-- Mark's refusal is that of the reading
record Misread (d : DD.Desk) (s : List ℕ) (f : PF.Fault) : Type 0 where
  bad : number_told f.refusal ≡ 0 → ⊥
  number_is : (read_in (desk_in d) s).number ≡ number_told f.refusal
  place_is : (read_in (desk_in d) s).place ≡ f.line

misread
    : (d : DD.Desk) (key s : List ℕ) (f : PF.Fault) → IsMade d → KeyOn d key → MarkSays d s (Err f)
    → Misread d s f
misread d key s f m k h =
    ⊎_elim
    (λ (z : (read_in (desk_in d) s).number ≡ 0).
    let e : marked (desk_in d) s ≡ given (mark_of (desk_in d).nest_is (desk_in d).key (read_in (desk_in d) s).gaps) =
    rw (eq-eqb (state_fault true (desk_in d)) 0 (key_state d m key k), eq-eqb (read_in (desk_in d) s).number 0 z) in
    let y : ◌≡◌ {A = ℕ} 0 1 = cc (h, e) in
    absurd (omega arith))
    (λ (z : (read_in (desk_in d) s).number ≡ 0 → ⊥).
    let e : marked (desk_in d) s ≡ refused (fault (read_in (desk_in d) s).number (read_in (desk_in d) s).place) =
    rw (eq-eqb (state_fault true (desk_in d)) 0 (key_state d m key k), ne_eqb (read_in (desk_in d) s).number 0 z) in
    let q = sym (h ∙ e) in
    let number : (read_in (desk_in d) s).number ≡ number_told f.refusal =
    ap (λ (x : Mark). (fault_in x).number) q ∙ numbered f.refusal in
    record { bad = λ y. z (number ∙ y); number_is = number; place_is = ap (λ (x : Mark). (fault_in x).place) q })
    (eq_or (read_in (desk_in d) s).number 0)
  where
    fault_in : Mark → Fault
    fault_in (refused x) = x
    fault_in (given v) = fault 0 0

-- ---- slips

-- the verdict as the reply's
abbrev verdict_out : Verdict → DV.Verdict
verdict_out (Uncut i) = VV.Uncut i
verdict_out (Dearer l t o) = VV.Dearer (record { d = l; theirs = t; ours = o })
verdict_out Best = VV.Best

verdict_back : (v : Verdict) → verdict_in (verdict_out v) ≡ v
verdict_back (Uncut i) = refl
verdict_back (Dearer l t o) = refl
verdict_back Best = refl

module _ (d : DD.Desk) (q : Reached d) (s gs out out' : List ℕ) (a : DA.Answer) (places : Places (paper_on d) s gs) where
  abbrev page : Paper
  page = paper_on d

  abbrev n : Nest
  n = nest_of page (flags_of d)

  made : IsMade d
  made = reached_made d q

  module _ (loaded : d.loaded ≡ true) where
    read : read_in (desk_in d) s ≡ placed 0 0 gs
    read = places_read d made loaded s gs places

    candidate
        : CandidateSays d s out out' a
        → (text : List ℕ) × ((fs : Frames) × (CandidateSlip page gs fs × Lines text fs × Written text out out' a))
    candidate h =
        let c = candidate_lines page (flags_of d) (page_valid d made loaded) gs places.gaps in
        let slip : candidate_slip (desk_in d) s ≡ frames_text c.frames =
        ap (λ (x : Nest). slip_text x (read_in (desk_in d) s).gaps) (nest_of_paper d.nest) ∙
        ap (λ (x : Placed). slip_text n x.gaps) read ∙ c.text in (
          frames_text c.frames,
          (
            c.frames,
            (
              c.is,
              lines_made c.frames c.bytes,
              written_by (candidate_fault (desk_in d) s (length out)) (candidate_slip (desk_in d) s)
                  (frames_text c.frames) out out' a h
                  (room-fault false d s (candidate_slip (desk_in d) s) (length out) (nest_state d loaded)
                  (ap (λ (x : Placed). x.number) read))
                  slip,
            ),
          ),
        )

  module _ (key : List ℕ) (k : KeyOn d key) where
    has-nest : d.loaded ≡ true
    has-nest = key_loaded d made k.planned

    abbrev verdict : DV.Verdict
    verdict = verdict_out (mark_of n key gs)

    says : P.Says page key gs verdict
    says =
        let e : MarkSays d s (Ok verdict) =
        ap given (verdict_back (mark_of n key gs)) ∙
        sym
        (rw (eq-eqb (state_fault true (desk_in d)) 0 (key_state d made key k), read has-nest)
        (ap (λ (x : Nest). given (mark_of x (desk_in d).key gs)) (nest_of_paper d.nest) ∙
        ap (λ (x : List ℕ). given (mark_of n x gs)) (sym (key_same d made key k)))) in
        let m = demands_kept.mark d key s (Ok verdict) q k e in
        subst (λ (x : List ℕ). P.Says page key x verdict) (demands_kept.read_again page s m.0 gs m.1.0 places)
        m.1.1

    examiner
        : ExaminerSays d s out out' a
        → (text : List ℕ) × ((fs : Frames) × (ExaminerSlip page key gs fs × Lines text fs × Written text out out' a))
    examiner h =
        let best = best-of page (flags_of d) (right d made key k) key (key_key d made key k) in
        let c =
        examiner_lines page (flags_of d) (page_valid d made has-nest) gs places.gaps key
        best.correct.gaps verdict says
        (sym (verdict_back (mark_of n key gs))) in
        let slip : examiner_slip (desk_in d) s ≡ frames_text c.frames =
        ap (λ (x : Nest). examiner_text x (desk_in d).key (read_in (desk_in d) s).gaps) (nest_of_paper d.nest) ∙
        ap (λ (x : List ℕ). examiner_text n x (read_in (desk_in d) s).gaps) (sym (key_same d made key k)) ∙
        ap (λ (x : Placed). examiner_text n key x.gaps) (read has-nest) ∙ c.text in (
          frames_text c.frames,
          (
            c.frames,
            (
              c.is,
              lines_made c.frames c.bytes,
              written_by (examiner_fault (desk_in d) s (length out)) (examiner_slip (desk_in d) s)
                  (frames_text c.frames) out out' a h
                  (room-fault true d s (examiner_slip (desk_in d) s) (length out) (key_state d made key k)
                  (ap (λ (x : Placed). x.number) (read has-nest)))
                  slip,
            ),
          ),
        )

pub slips_kept : Slips
slips_kept =
    record {
      candidate_turn =
          λ d s out out' a h z.
          refuses_by (candidate_fault (desk_in d) s (length out)) (candidate_slip (desk_in d) s) out out' a 10 0 h
          (state-fault false d s (candidate_slip (desk_in d) s) (length out) 10 (no_nest_state d z) (λ y. omega arith))
          (λ y. omega arith);
      examiner_turn =
          λ d s out out' a n h o.
          let t = turn_state d n o in
          refuses_by (examiner_fault (desk_in d) s (length out)) (examiner_slip (desk_in d) s) out out' a n 0 h
          (state-fault true d s (examiner_slip (desk_in d) s) (length out) n t.0 t.1) t.1;
      candidate_faults =
          λ d key s out out' a f q k h w.
          let m = reached_made d q in
          let b = misread d key s f m k w in
          refuses_by (candidate_fault (desk_in d) s (length out)) (candidate_slip (desk_in d) s) out out' a
          (number_told f.refusal) f.line h
          (read_fault false d s (candidate_slip (desk_in d) s) (length out) (number_told f.refusal) f.line
          (nest_state d (key_loaded d m k.planned)) b.number_is b.place_is b.bad)
          b.bad;
      examiner_faults =
          λ d key s out out' a f q k h w.
          let m = reached_made d q in
          let b = misread d key s f m k w in
          refuses_by (examiner_fault (desk_in d) s (length out)) (examiner_slip (desk_in d) s) out out' a
          (number_told f.refusal) f.line h
          (read_fault true d s (examiner_slip (desk_in d) s) (length out) (number_told f.refusal) f.line
          (key_state d m key k) b.number_is b.place_is b.bad)
          b.bad;
      candidate = λ d s gs out out' a q l p h. candidate d q s gs out out' a p l h;
      examiner = λ d key s gs out out' a q k p h. examiner d q s gs out out' a p key k h;
      two_desks =
          λ d e s out out' other other' a b q r paper flags long h k.
          let nest : nest_in d.nest ≡ nest_in e.nest =
          nest_of_paper d.nest ∙ ap (λ (x : Paper). nest_of x (flags_of d)) paper ∙ ap (nest_of (paper_on e)) flags ∙
          sym (nest_of_paper e.nest) in
          let z = slip_alike d e s out out' other other' a b (reached_made d q) (reached_made e r) nest long h k in
          (z.same_reply, z.same_bytes ∙ ap (λ (x : DA.Answer). take x.value other') (sym z.same_reply));
    }
