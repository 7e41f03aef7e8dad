-- Mark, Load and Write as functions, and one of each that keeps its promise: so a call that is excluded (Excluded) is so
-- by what it says, and not since none could say anything.
-- Main definitions: `Marks`, `Loads`, `Writes`. Main statements: `marks`, `loads`, `writes`.
use mathlib.Core.Path.{◌≡◌, refl, sym, ap}
use Rattle.std.proofs.Common.{Result, Ok, Err}
use mathlib.Core.Bool.{Bool, true, false, ◌&&◌, not}
use mathlib.Core.List.{List, [], ◌∷◌, ◌++◌}
use Prim.Native.Nat.{ℕ, suc}
use native.Mathlib.Omega.{arith}
use lib.Dec.{eqb, ltb}
use lib.ListN.{length, get_or}
use lib.Seq.{take-length}
use borrow.Author.Tests.{eqb-true, eqb-false}
use Rattle.laws.specs.Choice.{pick, pick_t, when, first_of, is_in}
use Rattle.paper_nests.specs.declared.Dependence as DE
use Rattle.paper_nests.specs.Nests.{Dep, Nest}
use Rattle.paper_nests.specs.Stored.{deps_in, nest_in}
use Rattle.paper_nests.specs.Valid.{is_valid}
use Rattle.paper_nests.proofs.Deps.{valid_is}
use Rattle.paper_nests.proofs.Flags.{flags_few}
use Rattle.paper_order.specs.Verdicts.{Verdict, Uncut, Dearer, Best, mark_of}
use Rattle.paper_placements.proofs.Words.{holds_empty, gaps_none}
use Rattle.desk_moves.specs.Ring as Ring
use Rattle.paper_lines.specs.Lines.{Line, lines_of, is_good, frame_of}
use Rattle.paper_texts.specs.NestTexts.{read_nest}
use Rattle.paper_texts.specs.PlacementTexts.{BARRIER, barrier_fault, placed_fault, Placed, placed, place_lines, read_placement}
use Rattle.paper_texts.proofs.Accepted.{accepted_valid}
use Rattle.desk.specs.declared.Desk as DD
use Rattle.desk.specs.declared.Reply as DR
use Rattle.desk.specs.declared.Answer as DA
use Rattle.paper_refusals.specs.declared.Refusal.{Refusal}
use Rattle.paper_refusals.specs.declared.Refusal.TheVariants.{NoFrame, WrongKind, WrongGap, NoNest, NoKey, BarredGap}
use Rattle.paper_refusals.specs.declared.Fault as PF
use Rattle.paper_refusals.specs.Numbers.{number_of}
use Rattle.desk.specs.declared.Verdict as DV
use Rattle.desk.specs.declared.Verdict.TheVariants as VV
use Rattle.desk.specs.Desks.{loaded_desk, desk_in, IsMade, Fault, fault, state_fault}
use Rattle.desk.specs.Says.{Holds, LoadSays, Mark, refused, given, mark_in, read_in, marked, MarkSays}
use Rattle.desk.specs.Says.{write_fault, WriteSays}
use Rattle.desk.proofs.Held.{held}
use Rattle.desk.proofs.TwoDesks.{text_length, text_over}

abbrev pub Marker : Type 0
Marker = DD.Desk → List ℕ → Result DV.Verdict PF.Fault

abbrev pub Loader : Type 0
Loader = DD.Desk → List ℕ → DR.Reply

-- the buffer after the call, and the answer
pub record Written : Type 0 where
  pub out : List ℕ
  pub answer : DA.Answer

abbrev pub Writer : Type 0
Writer = DD.Desk → List ℕ → Written

abbrev pub Marks : Marker → Type 0
Marks mark = (d : DD.Desk) (s : List ℕ) → IsMade d → MarkSays d s (mark d s)

abbrev pub Loads : Loader → Type 0
Loads load = (d : DD.Desk) (s : List ℕ) → LoadSays d s (load d s)

abbrev pub Writes : Writer → Type 0
Writes write = (d : DD.Desk) (out : List ℕ) → WriteSays d out (write d out).out (write d out).answer

-- ---- a marker

abbrev verdict_out : Verdict → DV.Verdict
verdict_out (Uncut i) = VV.Uncut i
verdict_out (Dearer loop theirs ours) = VV.Dearer (record { d = loop; theirs = theirs; ours = ours })
verdict_out Best = VV.Best

-- the refusal of a number that Mark gives
abbrev refusal_of : ℕ → Refusal
refusal_of n =
    pick
    (eqb n 1)
    NoFrame
    (pick (eqb n 2) WrongKind (pick (eqb n 8) WrongGap (pick (eqb n 16) BarredGap (pick (eqb n 10) NoNest NoKey))))

abbrev mark_out : Mark → Result DV.Verdict PF.Fault
mark_out (refused f) = Err (record { refusal = refusal_of f.number; line = f.place })
mark_out (given v) = Ok (verdict_out v)

-- Mark's numbers: none, or one of these
abbrev Numbered : ℕ → Type 0
Numbered n = (n ≡ 0 → ⊥) → number_of (refusal_of n) ≡ n

of_state : (a b : Bool) → Numbered (first_of (when a 10) (when b 11))
of_state true b z = refl
of_state false true z = refl
of_state false false z = absurd (z refl)

of_barrier : (k l b : Bool) → Numbered (first_of (when k 2) (first_of (when l 8) (when b 16)))
of_barrier true l b z = refl
of_barrier false true b z = refl
of_barrier false false true z = refl
of_barrier false false false z = absurd (z refl)

of_line : (g : Bool) (n : ℕ) → Numbered n → Numbered (first_of (when g 1) n)
of_line true n h z = refl
of_line false n h z = h z

by_fault
    : (e k : ℕ) (rest : Placed) → Numbered e → Numbered rest.number
    → Numbered (pick (eqb e 0) rest (placed e k [])).number
by_fault e k rest h r = go (eqb e 0)
  where
    go : (t : Bool) → Numbered (pick t rest (placed e k [])).number
    go true = r
    go false = h

of_lines : (k last n : ℕ) (bs gs : List ℕ) (ls : List Line) → Numbered (place_lines k last n bs gs ls).number
unfolding place_lines
of_lines k last n bs gs [] = λ z. absurd (z refl)
of_lines k last n bs gs (l ∷ ls) =
    by_fault
    (placed_fault last n bs l)
    k
    (place_lines (suc k) (get_or (frame_of l.bytes) 1 0) n bs (gs ++ (get_or (frame_of l.bytes) 1 0 ∷ [])) ls)
    (of_line
    (not (is_good l))
    (barrier_fault last n bs (frame_of l.bytes))
    (of_barrier
    (not (eqb (get_or (frame_of l.bytes) 0 0) BARRIER && eqb (length (frame_of l.bytes)) 2))
    (not (ltb last (get_or (frame_of l.bytes) 1 0) && ltb (get_or (frame_of l.bytes) 1 0) n))
    (is_in (get_or (frame_of l.bytes) 1 0) bs)))
    (of_lines (suc k) (get_or (frame_of l.bytes) 1 0) n bs (gs ++ (get_or (frame_of l.bytes) 1 0 ∷ [])) ls)

of_text : (n : ℕ) (bs s : List ℕ) → Numbered (read_placement n bs s).number
unfolding read_placement
of_text n bs s = of_lines 1 0 n bs [] (lines_of s)

mark-given : (v : Verdict) → mark_in (Ok (verdict_out v)) ≡ given v
mark-given (Uncut i) = refl
mark-given (Dearer loop theirs ours) = refl
mark-given Best = refl

mark-refused : (f : Fault) → number_of (refusal_of f.number) ≡ f.number → mark_in (mark_out (refused f)) ≡ refused f
mark-refused f e = ap (λ (n : ℕ). refused (fault n f.place)) e

pub marks : Marks (λ d s. mark_out (marked (desk_in d) s))
marks d s m = by_state (eqb (state_fault true (desk_in d)) 0) refl
  where
    of_fault
        : (f : Fault)
        → Numbered f.number
        → mark_in
        (mark_out
        (pick (eqb f.number 0) (given (mark_of (desk_in d).nest_is (desk_in d).key (read_in (desk_in d) s).gaps)) (refused f)))
        ≡ pick (eqb f.number 0) (given (mark_of (desk_in d).nest_is (desk_in d).key (read_in (desk_in d) s).gaps)) (refused f)
    of_fault f h = go (eqb f.number 0) refl
      where
        go
            : (t : Bool)
            → eqb f.number 0 ≡ t
            → mark_in (mark_out (pick t (given (mark_of (desk_in d).nest_is (desk_in d).key (read_in (desk_in d) s).gaps)) (refused f)))
            ≡ pick t (given (mark_of (desk_in d).nest_is (desk_in d).key (read_in (desk_in d) s).gaps)) (refused f)
        go true e = mark-given (mark_of (desk_in d).nest_is (desk_in d).key (read_in (desk_in d) s).gaps)
        go false e = mark-refused f (h (eqb-false f.number 0 e))

    by_state
        : (t : Bool)
        → eqb (state_fault true (desk_in d)) 0 ≡ t
        → mark_in (mark_out (marked (desk_in d) s)) ≡ marked (desk_in d) s
    by_state true e =
        rw e
        (of_fault
        (fault (read_in (desk_in d) s).number (read_in (desk_in d) s).place)
        (of_text (length (desk_in d).nest_is.points) (desk_in d).nest_is.barred s))
    by_state false e =
        rw e
        (of_fault
        (fault (state_fault true (desk_in d)) 0)
        (of_state (not (desk_in d).has_nest) (not (desk_in d).has_key)))

-- ---- a writer

abbrev pub write_out : Writer
write_out d out =
    record {
      out = text_over out (desk_in d);
      answer = record { number = write_fault (desk_in d) out; line = 0; value = text_length out (desk_in d) };
    }

pub writes : Writes write_out
writes d out = record { number_is = refl; line_is = refl; value_is = refl; out_is = refl }

-- ---- a loader

abbrev deps_out : List Dep → List DE.Dependence
deps_out [] = []
deps_out (e ∷ es) = record { kind = e.kind; d = e.d; s = e.s; t = e.t } ∷ deps_out es

abbrev desk_out : Nest → DD.Desk
desk_out n =
    record {
      loaded = true;
      nest =
          record {
            count = length n.points;
            points = n.points;
            many = length n.deps;
            deps = deps_out n.deps;
            bars = length n.barred;
            barred = n.barred;
            flags = length n.flagged;
            flagged = n.flagged;
          };
      planned = false;
      key = record { words = 0 ∷ (0 ∷ (0 ∷ (0 ∷ []))) };
      sitting =
          record { placement = record { words = 0 ∷ (0 ∷ (0 ∷ (0 ∷ []))) }; counts = []; uncut = length n.deps };
      moves = record { ring = []; head = 0; many = 0 };
    }

deps-out : (es : List Dep) → deps_in (length es) (deps_out es) ≡ es
deps-out [] = refl
deps-out (e ∷ es) = ap (λ (fs : List Dep). e ∷ fs) (deps-out es)

same_nest
    : (n m : Nest)
    → n.points ≡ m.points
    → n.deps ≡ m.deps
    → n.barred ≡ m.barred
    → n.flagged ≡ m.flagged
    → n ≡ m
same_nest n m p q b f = rw (← p, ← q, ← b, ← f)

nest_out : (n : Nest) → nest_in (desk_out n).nest ≡ n
nest_out n =
    let p : (nest_in (desk_out n).nest).points ≡ n.points = take-length n.points in
    let q : (nest_in (desk_out n).nest).deps ≡ n.deps = deps-out n.deps in
    let b : (nest_in (desk_out n).nest).barred ≡ n.barred = take-length n.barred in
    let f : (nest_in (desk_out n).nest).flagged ≡ n.flagged = take-length n.flagged in
    same_nest (nest_in (desk_out n).nest) n p q b f

holds_out : (n : Nest) → is_valid n ≡ true → Holds (desk_out n) (loaded_desk n)
unfolding Ring.back_from
holds_out n v =
    let e = nest_out n in
    let p : length (nest_in (desk_out n).nest).points ≡ length n.points = ap (λ (m : Nest). length m.points) e in
    let q : length (nest_in (desk_out n).nest).deps ≡ length n.deps = ap (λ (m : Nest). length m.deps) e in
    let b : length (nest_in (desk_out n).nest).barred ≡ length n.barred = ap (λ (m : Nest). length m.barred) e in
    let f : length (nest_in (desk_out n).nest).flagged ≡ length n.flagged = ap (λ (m : Nest). length m.flagged) e in
    let w = valid_is n v in
    let none = gaps_none (0 ∷ (0 ∷ (0 ∷ (0 ∷ [])))) (λ i l. holds_empty i) in
    held (desk_out n) true n false [] refl e refl none
    (record {
      count_is = sym p;
      count_fits = w.few_points;
      many_is = sym q;
      many_fits = w.few_deps;
      bars_is = sym b;
      bars_fit = w.few_bars;
      flags_is = sym f;
      flags_fit = flags_few 0 n.points n.flagged w.all_flags;
    })
    (record { no_gaps = none; no_cuts = λ i. refl; uncut_is = refl })
    (record { moves_are = refl; ring = record { head_fits = omega arith; many_fits = omega arith } })

abbrev pub load_out : Loader
load_out d s =
    record {
      number = (read_nest s).number;
      line = (read_nest s).place;
      desk = pick (eqb (read_nest s).number 0) (desk_out (read_nest s).nest_is) d;
    }

pub loads : Loads load_out
loads d s = record { number_is = refl; line_is = refl; desk_is = go (eqb (read_nest s).number 0) refl }
  where
    n : Nest
    n = (read_nest s).nest_is

    go
        : (t : Bool)
        → eqb (read_nest s).number 0 ≡ t
        → pick_t t (Holds (pick t (desk_out n) d) (loaded_desk n)) (pick t (desk_out n) d ≡ d)
    go true e = holds_out n (accepted_valid s (eqb-true (read_nest s).number 0 e))
    go false e = refl
