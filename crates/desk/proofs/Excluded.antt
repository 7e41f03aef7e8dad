-- 01, "What the contracts must say", c: calls that the promises exclude. A marker that says Best, or Uncut, unlooked,
-- one whose Dearer has invented counts, a desk that refuses each text and a writer that writes nothing each break the
-- promise of their call at a desk that holds P and its key. Planners are excluded in crate plan_theorem (Excluded).
-- Main definitions: `P-desk`, `CallsExcluded`. Main statements: `P-made`, `calls_excluded`, `all_excluded`.
use mathlib.Core.Path.{◌≡◌, refl, sym, ◌∙◌, ap, subst}
use mathlib.Core.Bool.{Bool, true, false}
use mathlib.Core.List.{List, [], ◌∷◌, ◌++◌}
use mathlib.Core.Logic.{⊎_elim}
use Prim.{Unit, tt}
use Prim.Native.Nat.{ℕ, zero, suc}
use native.Mathlib.Omega.{arith}
use lib.Dec.{eqb}
use lib.ListN.{get_or}
use Rattle.laws.specs.Choice.{pick}
use Rattle.laws.specs.Bits.{bit}
use Rattle.laws.proofs.Copies.{copies, copies_at}
use Rattle.laws.proofs.Tests.{test, never}
use Rattle.paper_nests.specs.declared.Dependence as DE
use Rattle.paper_nests.specs.declared.Nest as DN
use Rattle.paper_nests.specs.Kinds.{INDEPENDENT, CARRIED}
use Rattle.paper_nests.proofs.Cases.{paper_P}
use Rattle.paper_lines.specs.Lines.{lines_of, frame_of}
use Rattle.paper_placements.specs.Placements.{uncut, differ, loop_count}
use Rattle.paper_order.specs.Verdicts.{Verdict, Uncut, Dearer, Best, verdict_by, mark_of}
use Rattle.paper_placements.specs.Words.{holds, gaps_of, gaps_in}
use Rattle.desk_moves.specs.Ring as Ring
use Rattle.paper_texts.specs.NestTexts.{Got}
use Rattle.paper_texts.specs.PlacementTexts.{place_lines, read_placement, key_text}
use Rattle.paper_texts.proofs.TextCases.{P-lines, P-read}
use Rattle.paper_barred.specs.Reduced.{is_blocked}
use Rattle.paper_barred.proofs.Blocked.{unbarred_open}
use Rattle.plan_theorem.proofs.Excluded.{Excluded, excluded}
use Rattle.plan_theorem.proofs.KeyCases.{computed_keys}
use Rattle.desk.specs.declared.Desk as DD
use Rattle.desk.specs.Desks.{Desk, desk, loaded_desk, with_key, desk_in, IsMade}
use Rattle.desk.specs.Says.{Holds, Mark, refused, given, read_in, place_fault, mark_in, marked}
use Rattle.desk.proofs.Held.{held}
use Rattle.desk.proofs.Made.{made_holds, loaded_paper, planned_paper}
use Rattle.desk.proofs.TwoDesks.{text_over}
use Rattle.desk.proofs.Promises.{Marker, Loader, Writer, Marks, Loads, Writes}

-- ---- a desk that has read P and made its key

abbrev dependence : ℕ → ℕ → ℕ → ℕ → DE.Dependence
dependence k d s t = record { kind = k; d = d; s = s; t = t }

abbrev P-nest : DN.Nest
P-nest =
    record {
      count = 14;
      points = paper_P.points ++ copies 242 0;
      many = 6;
      deps =
          dependence INDEPENDENT 0 2 5 ∷ dependence CARRIED 1 4 3 ∷ dependence INDEPENDENT 0 8 11 ∷
          dependence CARRIED 7 10 9 ∷ dependence CARRIED 0 10 2 ∷ dependence INDEPENDENT 0 4 9 ∷
          copies 506 (dependence 0 0 0 0);
      bars = 0;
      barred = copies 255 0;
      flags = 0;
      flagged = copies 256 0;
    }

-- the key's word has the bits 5 and 11
abbrev pub P-desk : DD.Desk
P-desk =
    record {
      loaded = true;
      nest = P-nest;
      planned = true;
      key = record { words = 2080 ∷ 0 ∷ 0 ∷ 0 ∷ [] };
      sitting = record { placement = record { words = 0 ∷ 0 ∷ 0 ∷ 0 ∷ [] }; counts = copies 512 0; uncut = 6 };
      moves = record { ring = copies 64 (record { gap = 0; put = false }); head = 0; many = 0 };
    }

key_words : gaps_in (2080 ∷ 0 ∷ 0 ∷ 0 ∷ []) ≡ 5 ∷ 11 ∷ []
unfolding gaps_in gaps_of holds bit
key_words = refl

no_words : gaps_in (0 ∷ 0 ∷ 0 ∷ 0 ∷ []) ≡ []
unfolding gaps_in gaps_of holds bit
no_words = refl

P-holds : Holds P-desk (with_key (loaded_desk paper_P))
unfolding Ring.back_from
P-holds =
    held P-desk true paper_P true _ refl refl refl (key_words ∙ sym computed_keys.of_P)
    (record {
      count_is = refl;
      count_fits = omega arith;
      many_is = refl;
      many_fits = omega arith;
      bars_is = refl;
      bars_fit = omega arith;
      flags_is = refl;
      flags_fit = omega arith;
    })
    (record { no_gaps = no_words; no_cuts = λ i. copies_at 512 0 i; uncut_is = refl })
    (record { moves_are = refl; ring = record { head_fits = omega arith; many_fits = omega arith } })

P-open : is_blocked paper_P ≡ false
P-open = unbarred_open paper_P refl refl

pub P-made : IsMade P-desk
P-made =
    made_holds P-desk (with_key (loaded_desk paper_P))
    (planned_paper (loaded_desk paper_P) refl P-open (loaded_paper paper_P refl)) P-holds

-- what it holds, with the key computed
abbrev P-keyed : Desk
P-keyed = desk true paper_P true (5 ∷ 11 ∷ []) [] []

P-is : desk_in P-desk ≡ P-keyed
P-is = P-holds.holds ∙ ap (λ (k : List ℕ). desk true paper_P true k [] []) computed_keys.of_P

-- ---- markers

-- it says Best of whatever it marks
abbrev pub SaysBest : Marker → Type 0
SaysBest mark = (d : DD.Desk) (s : List ℕ) (v : Verdict) → IsMade d → mark_in (mark d s) ≡ given v → v ≡ Best

-- it says Uncut of whatever it marks, with some number
abbrev pub SaysUncut : Marker → Type 0
SaysUncut mark =
    (d : DD.Desk) (s : List ℕ) (v : Verdict) → IsMade d → mark_in (mark d s) ≡ given v → (i : ℕ) × (v ≡ Uncut i)

-- one Dearer of it has counts that are not those of the loop, in the placement read and in the key
pub record InventsCounts (mark : Marker) : Type 0 where
  pub d : DD.Desk
  pub s : List ℕ
  pub loop : ℕ
  pub theirs : ℕ
  pub ours : ℕ
  pub made : IsMade d
  pub says : mark_in (mark d s) ≡ given (Dearer loop theirs ours)
  pub invented
      : theirs ≡ loop_count (desk_in d).nest_is (read_in (desk_in d) s).gaps loop
      → ours ≡ loop_count (desk_in d).nest_is (desk_in d).key loop
      → ⊥

-- its Dearer has these counts whatever is marked
abbrev pub SameCounts : ℕ → ℕ → Marker → Type 0
SameCounts a b mark =
    (d : DD.Desk) (s : List ℕ) (loop theirs ours : ℕ) →
    IsMade d →
    mark_in (mark d s) ≡ given (Dearer loop theirs ours) →
    (theirs ≡ a) × (ours ≡ b)

-- ---- loaders and writers

abbrev pub RefusesEach : Loader → Type 0
RefusesEach load = (d : DD.Desk) (s : List ℕ) → (load d s).number ≡ 0 → ⊥

abbrev pub WritesNothing : Writer → Type 0
WritesNothing write = (d : DD.Desk) (out : List ℕ) → (write d out).out ≡ out

-- ---- what P's desk must answer

-- 01, cases 2, 1, 4 and 5
P-uncut : marked P-keyed (key_text (3 ∷ 9 ∷ [])) ≡ given (Uncut 4)
unfolding read_placement place_lines key_text lines_of frame_of
P-uncut = refl

P-best : marked P-keyed (key_text (5 ∷ 11 ∷ [])) ≡ given Best
unfolding read_placement place_lines key_text lines_of frame_of
P-best = refl

P-dearer : marked P-keyed (key_text (3 ∷ 9 ∷ 13 ∷ [])) ≡ given (Dearer 0 1 0)
unfolding read_placement place_lines key_text lines_of frame_of
P-dearer = refl

P-dearer-inside : marked P-keyed (key_text (5 ∷ 10 ∷ 11 ∷ [])) ≡ given (Dearer 7 2 1)
unfolding read_placement place_lines key_text lines_of frame_of
P-dearer-inside = refl

abbrev is_best : Verdict → Bool
is_best (Uncut i) = false
is_best (Dearer loop theirs ours) = false
is_best Best = true

-- what a verdict Dearer says of its counts
abbrev CountsAre : Desk → List ℕ → Mark → Type 0
CountsAre x s (refused f) = Unit {0}
CountsAre x s (given (Uncut i)) = Unit {0}
CountsAre x s (given (Dearer loop theirs ours)) =
    (theirs ≡ loop_count x.nest_is (read_in x s).gaps loop) × (ours ≡ loop_count x.nest_is x.key loop)
CountsAre x s (given Best) = Unit {0}

counts_are : (x : Desk) (s : List ℕ) → CountsAre x s (marked x s)
counts_are x s = by_number (place_fault x s).number
  where
    by_verdict
        : (u d : ℕ)
        → CountsAre x s (given (verdict_by x.nest_is x.key (read_in x s).gaps u d))
    by_verdict (suc u) d = tt
    by_verdict zero zero = tt
    by_verdict zero (suc d) = (refl, refl)

    by_number
        : (k : ℕ)
        → CountsAre x s
        (pick (eqb k 0) (given (mark_of x.nest_is x.key (read_in x s).gaps)) (refused (place_fault x s)))
    by_number k = ⊎_elim
        (λ (e : eqb k 0 ≡ true).
        rw e
        (by_verdict (uncut x.nest_is (read_in x s).gaps) (differ x.nest_is x.key (read_in x s).gaps)))
        (λ (e : eqb k 0 ≡ false). rw e tt)
        (test (eqb k 0))

dearer_counts
    : (x : Desk) (s : List ℕ) (loop theirs ours : ℕ)
    → marked x s ≡ given (Dearer loop theirs ours)
    → CountsAre x s (given (Dearer loop theirs ours))
dearer_counts x s loop theirs ours e = subst (λ (m : Mark). CountsAre x s m) e (counts_are x s)

module _ (mark : Marker) (keeps : Marks mark) where
  answers : (s : List ℕ) (v : Verdict) → marked P-keyed s ≡ given v → mark_in (mark P-desk s) ≡ given v
  answers s v h = keeps P-desk s P-made ∙ ap (λ (x : Desk). marked x s) P-is ∙ h

  best_fails : SaysBest mark → ⊥
  best_fails best =
      never (ap is_best (best P-desk s (Uncut 4) P-made (answers s (Uncut 4) P-uncut)))
    where
      s : List ℕ
      s = key_text (3 ∷ 9 ∷ [])

  uncut_fails : SaysUncut mark → ⊥
  uncut_fails uncut =
      never (sym (ap is_best (uncut P-desk s Best P-made (answers s Best P-best)).1))
    where
      s : List ℕ
      s = key_text (5 ∷ 11 ∷ [])

  same_fails : (a b : ℕ) → SameCounts a b mark → ⊥
  same_fails a b same =
      omega (
        arith,
        (same P-desk s 0 1 0 P-made (answers s (Dearer 0 1 0) P-dearer)).0,
        (same P-desk t 7 2 1 P-made (answers t (Dearer 7 2 1) P-dearer-inside)).0,
      )
    where
      s : List ℕ
      s = key_text (3 ∷ 9 ∷ 13 ∷ [])

      t : List ℕ
      t = key_text (5 ∷ 10 ∷ 11 ∷ [])

  -- the counts are those of the definitions
  invented_fails : InventsCounts mark → ⊥
  invented_fails c =
      let x = desk_in c.d in
      let h : given (Dearer c.loop c.theirs c.ours) ≡ marked x c.s =
      sym c.says ∙ keeps c.d c.s c.made in
      let k = dearer_counts x c.s c.loop c.theirs c.ours (sym h) in
      c.invented k.0 k.1

loader_fails : (load : Loader) → Loads load → RefusesEach load → ⊥
loader_fails load keeps refuses =
    refuses P-desk P-lines ((keeps P-desk P-lines).number_is ∙ ap (λ (g : Got). g.number) P-read)

-- a buffer of ten bytes takes the text of P's key, whose first byte is 32
P-text : (x : Desk) → x ≡ P-keyed → get_or (text_over (copies 10 0) x) 0 0 ≡ 0x32
unfolding key_text copies
P-text x e = rw e

writer_fails : (write : Writer) → Writes write → WritesNothing write → ⊥
unfolding copies
writer_fails write keeps nothing =
    let out : List ℕ = copies 10 0 in
    let e : get_or (write P-desk out).out 0 0 ≡ 0x32 =
    ap (λ (o : List ℕ). get_or o 0 0) (keeps P-desk out).out_is ∙ P-text (desk_in P-desk) P-is in
    let z : get_or (write P-desk out).out 0 0 ≡ 0 = ap (λ (o : List ℕ). get_or o 0 0) (nothing P-desk out) in
    omega arith

-- none of these keeps the promise of its call
pub record CallsExcluded : Type 0 where
  pub best_unlooked : (mark : Marker) → Marks mark → SaysBest mark → ⊥
  pub uncut_unlooked : (mark : Marker) → Marks mark → SaysUncut mark → ⊥
  pub invented_counts : (mark : Marker) → Marks mark → InventsCounts mark → ⊥
  pub same_counts : (mark : Marker) (a b : ℕ) → Marks mark → SameCounts a b mark → ⊥
  pub each_refused : (load : Loader) → Loads load → RefusesEach load → ⊥
  pub nothing_written : (write : Writer) → Writes write → WritesNothing write → ⊥

pub calls_excluded : CallsExcluded
calls_excluded =
    record {
      best_unlooked = best_fails;
      uncut_unlooked = uncut_fails;
      invented_counts = invented_fails;
      same_counts = λ mark a b keeps same. same_fails mark keeps a b same;
      each_refused = loader_fails;
      nothing_written = writer_fails;
    }

-- the whole of c, with the plausible planners
pub all_excluded : Excluded × CallsExcluded
all_excluded = (excluded, calls_excluded)
