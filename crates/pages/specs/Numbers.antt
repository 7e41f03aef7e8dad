-- The numbers of refusals on one page (01, "Numbers from the input" and "Numbers from the state"; 02, jobs 3 to 5 and
-- 7): which number and which line each call gives, for every text, list, buffer and desk. It rests on the page of the
-- demands, whose legend it shares, and of the project on the names of three contracts more: CountSays (loop_count),
-- ListSays with allDeps, the lent records (check_list). `numbers_kept` (proofs/NumbersKept) proves it of whatever
-- keeps the contracts. With it demand 1 is whole, but for what the language asks of every function: that no call reads
-- or writes outside a buffer, wraps a sum or runs for ever.
--
-- The rule of every text: the first faulty line decides, and on it the lowest number; lines count from 1, and the end
-- of the text as the line after the last. A relation like Breaks lists all that can be wrong with a line, each with
-- its number; Lowest takes the least of them. Numbers from the state come first. A number without a line has line 0.
use Rattle.std.specs.Prelude.{◌≡◌, true, false, List, [], ◌∷◌, ◌++◌, ◌⊎◌, ℕ, suc, ◌*◌, ◌≤◌, ◌<◌, length, Err}
use Rattle.paper_refusals.specs.declared.Fault.{Fault}
use Rattle.paper_nests.specs.declared.Dependence.{Dependence}
use Rattle.desk.specs.declared.Desk.{Desk}
use Rattle.desk.specs.declared.PlainDesk.{PlainDesk}
use Rattle.desk.specs.declared.Reply.{Reply}
use Rattle.desk.specs.declared.Answer.{Answer}
use Rattle.call_moves.specs.declared.Moved.{Moved}
use Rattle.desk.specs.Says.{EmptySays, LoadSays, PlanSays, CountSays, MarkSays, WriteSays, ListSays, OverSays}
use Rattle.call_moves.specs.Says.{PutSays, LiftSays, BackSays}
use Rattle.call_list.specs.Lists.{all_deps}
use Rattle.pages.specs.Demands.{At, In, HowMany, Loop, Own, OneLoop, GapOf, Paper, paper_in, Cut}
use Rattle.pages.specs.Demands.{Line, Told, Means, Spells, Places, Reached, SetIn, KeyOn, OutOfTurn, number_told}

-- 01, "Numbers from the input": on a line the lowest number decides
pub record Lowest (Wrong : ℕ → Type 0) (n : ℕ) : Type 0 where
  pub wrong : Wrong n
  pub least : (m : ℕ) → Wrong m → n ≤ m

-- ==== dependences, of a text or of a lent list

-- what can be wrong with one, in a nest with the points ps
pub data Misfit (ps : List ℕ) (x : Dependence) : ℕ → Type 0 where
  -- 6: s names no statement and no DO, t no statement and no ENDDO, d no DO
  source : (At ps x.s 3 ⊎ At ps x.s 1 → ⊥) → Misfit ps x 6
  target : (At ps x.t 3 ⊎ At ps x.t 2 → ⊥) → Misfit ps x 6
  loop : x.kind ≡ 18 → (At ps x.d 1 → ⊥) → Misfit ps x 6
  -- 7: independent with s at or after t; carried with a point not inside the loop; 02, job 1: in whatever order
  backward : x.kind ≡ 17 → x.t ≤ x.s → Misfit ps x 7
  outside
      : (e : ℕ) → x.kind ≡ 18 → Loop ps x.d e → ((x.d < x.s) × (x.s < e) × (x.d < x.t) × (x.t < e) → ⊥)
      → Misfit ps x 7

-- ==== lines of a nest text

-- where i loops are open, the points leave k open
pub data Open : ℕ → List ℕ → ℕ → Type 0 where
  none : {k : ℕ} → Open k [] k
  begin : {i k : ℕ} {ps : List ℕ} → Open (suc i) ps k → Open i (1 ∷ ps) k
  end : {i k : ℕ} {ps : List ℕ} → Open i ps k → Open (suc i) (2 ∷ ps) k
  statement : {i k : ℕ} {ps : List ℕ} → Open i ps k → Open i (3 ∷ ps) k

-- all points are there: begun, and no loop open
abbrev pub Closed : List ℕ → Type 0
Closed ps = (ps ≡ [] → ⊥) × Open 0 ps 0

-- gaps 1 to n - 1
abbrev pub IsGap : List ℕ → ℕ → Type 0
IsGap ps g = (0 < g) × (g < length ps)

-- what can be wrong with what a frame tells, after frames that told p
pub data Breaks (p : Paper) : Told → ℕ → Type 0 where
  -- a point: 3, after a dependence or a barred gap; 4, before any DO, or after the outermost loop is closed; 5, the
  -- 257th, or a loop 9 deep
  late : {k : ℕ} → ((p.deps ≡ []) × (p.barred ≡ []) → ⊥) → Breaks p (Told.point k) 3
  first : {k : ℕ} → p.points ≡ [] → (k ≡ 1 → ⊥) → Breaks p (Told.point k) 4
  after : {k : ℕ} → Closed p.points → Breaks p (Told.point k) 4
  points : {k : ℕ} → 256 ≤ length p.points → Breaks p (Told.point k) 5
  deep : {j : ℕ} → Open 0 p.points j → 8 ≤ j → Breaks p (Told.point 1) 5
  -- a dependence: 4, before all points are there; 5, the 513th; 6 and 7, one that does not fit
  early : {x : Dependence} → (Closed p.points → ⊥) → Breaks p (Told.dependence x) 4
  deps : {x : Dependence} → 512 ≤ length p.deps → Breaks p (Told.dependence x) 5
  misfit : {x : Dependence} {n : ℕ} → Misfit p.points x n → Breaks p (Told.dependence x) n
  -- 02, job 7, a barred gap: 4, before all points are there; 5, the 256th; 8, out of range; 14, more than one loop
  bar_early : {g : ℕ} → (Closed p.points → ⊥) → Breaks p (Told.bar g) 4
  bars : {g : ℕ} → 255 ≤ length p.barred → Breaks p (Told.bar g) 5
  range : {g : ℕ} → (IsGap p.points g → ⊥) → Breaks p (Told.bar g) 8
  several : {g : ℕ} → (OneLoop p.points → ⊥) → Breaks p (Told.bar g) 14

-- and with a line: 1, it is not an even, nonzero number of digits and 0a; 2, a kind not of this text, or the wrong
-- length
pub data LineBreaks (p : Paper) (l : List ℕ) : ℕ → Type 0 where
  spelling : ((b : ℕ) (f : List ℕ) → Line l (b ∷ f) → ⊥) → LineBreaks p l 1
  unknown : (b : ℕ) (f : List ℕ) → Line l (b ∷ f) → ((w : Told) → Means (b ∷ f) w → ⊥) → LineBreaks p l 2
  rule : {n : ℕ} (f : List ℕ) (w : Told) → Line l f → Means f w → Breaks p w n → LineBreaks p l n

-- ==== nest texts

-- the first line of a text, its 10 included, and what follows it; the last line may lack the 10
pub data First : List ℕ → List ℕ → List ℕ → Type 0 where
  feed : {s : List ℕ} → First (10 ∷ s) (10 ∷ []) s
  last : {b : ℕ} → (b ≡ 10 → ⊥) → First (b ∷ []) (b ∷ []) []
  more : {b : ℕ} {s l t : List ℕ} → (b ≡ 10 → ⊥) → First s l t → First (b ∷ s) (b ∷ l) t

-- a paper with one frame more
abbrev pub added : Paper → Told → Paper
added p (Told.point k) = record { points = p.points ++ (k ∷ []); deps = p.deps; barred = p.barred }
added p (Told.dependence x) = record { points = p.points; deps = p.deps ++ (x ∷ []); barred = p.barred }
added p (Told.bar g) = record { points = p.points; deps = p.deps; barred = p.barred ++ (g ∷ []) }

-- k lines that break no rule, and what they tell
pub data Read : List ℕ → ℕ → Paper → Type 0 where
  none : Read [] 0 (record { points = []; deps = []; barred = [] })
  more
      : {u l f : List ℕ} {w : Told} {k : ℕ} {p : Paper} → Read u k p → Line l f → Means f w
      → ((n : ℕ) → Breaks p w n → ⊥) → Read (u ++ l) (suc k) (added p w)

-- number and line of Load: of the first faulty line, or 4 at the end of a text that has not all points; 02, job 3: a
-- text of no byte at all is accepted
pub data LoadNumber (t : List ℕ) : ℕ → ℕ → Type 0 where
  accepted : (p : Paper) → Spells t p → LoadNumber t 0 0
  line
      : {n k : ℕ} (u s l rest : List ℕ) (p : Paper) → t ≡ u ++ s → Read u k p → First s l rest
      → Lowest (LineBreaks p l) n
      → LoadNumber t n (suc k)
  end : {k : ℕ} (p : Paper) → (t ≡ [] → ⊥) → Read t k p → (Closed p.points → ⊥) → LoadNumber t 4 (suc k)

-- ==== placement texts

-- what can be wrong with a line, after lines that spell gs: 1 and 2 as above; 8, a gap out of range, or not above the
-- one before; 02, job 7: 16, a barred gap
pub data PlaceBreaks (p : Paper) (gs l : List ℕ) : ℕ → Type 0 where
  spelling : ((b : ℕ) (f : List ℕ) → Line l (b ∷ f) → ⊥) → PlaceBreaks p gs l 1
  unknown : (b : ℕ) (f : List ℕ) → Line l (b ∷ f) → ((g : ℕ) → b ∷ f ≡ 33 ∷ g ∷ [] → ⊥) → PlaceBreaks p gs l 2
  range : (g : ℕ) → Line l (33 ∷ g ∷ []) → (IsGap p.points g → ⊥) → PlaceBreaks p gs l 8
  falling : (g h : ℕ) → Line l (33 ∷ g ∷ []) → In h gs → g ≤ h → PlaceBreaks p gs l 8
  barred : (g : ℕ) → Line l (33 ∷ g ∷ []) → In g p.barred → PlaceBreaks p gs l 16

-- number and line of a placement text
pub data PlaceNumber (p : Paper) (t : List ℕ) : ℕ → ℕ → Type 0 where
  accepted : (gs : List ℕ) → Places p t gs → PlaceNumber p t 0 0
  line
      : {n : ℕ} (u s l rest gs : List ℕ) → t ≡ u ++ s → Places p u gs → First s l rest → Lowest (PlaceBreaks p gs l) n
      → PlaceNumber p t n (suc (length gs))

-- ==== lent lists

-- 01, "Numbers from the input": of a listed record only 2 (unknown kind), 6 and 7 apply
pub data RecordBreaks (ps : List ℕ) (x : Dependence) : ℕ → Type 0 where
  kind : ((x.kind ≡ 17) ⊎ (x.kind ≡ 18) → ⊥) → RecordBreaks ps x 2
  misfit : {n : ℕ} → Misfit ps x n → RecordBreaks ps x n

-- number and place, from 1, of the first faulty record
pub data ListNumber (ps : List ℕ) : List Dependence → ℕ → ℕ → Type 0 where
  accepted
      : {xs : List Dependence} → ((x : Dependence) (n : ℕ) → In x xs → RecordBreaks ps x n → ⊥)
      → ListNumber ps xs 0 0
  faulty
      : {xs : List Dependence} {n i : ℕ} (x : Dependence) → At xs i x → Lowest (RecordBreaks ps x) n
      → ((j : ℕ) (y : Dependence) (m : ℕ) → j < i → At xs j y → RecordBreaks ps y m → ⊥) → ListNumber ps xs n (suc i)

-- 01, "The desk": the place, from 1, of the first record that the key doesn't cut, or 0
pub data FirstUncut (ps key : List ℕ) (xs : List Dependence) : ℕ → Type 0 where
  none : ((x : Dependence) → In x xs → Cut ps x key) → FirstUncut ps key xs 0
  place
      : {i : ℕ} (x : Dependence) → At xs i x → (Cut ps x key → ⊥)
      → ((j : ℕ) (y : Dependence) → j < i → At xs j y → Cut ps y key) → FirstUncut ps key xs (suc i)

-- ==== calls that take no text: each case says that those before it do not apply

-- a nest and a key
pub record InTurn (d : Desk) : Type 0 where
  pub has-nest : d.loaded ≡ true
  pub has-key : d.planned ≡ true

abbrev pub points_on : Desk → List ℕ
points_on d = (paper_in d.nest).points

-- Plan: 10; 02, job 7: 15, some dependence has all its gaps barred
pub data PlanNumber (d : Desk) : ℕ → Type 0 where
  no_nest : d.loaded ≡ false → PlanNumber d 10
  blocked
      : (x : Dependence) → d.loaded ≡ true → In x (paper_in d.nest).deps
      → ((g : ℕ) → GapOf (points_on d) x g → In g (paper_in d.nest).barred) → PlanNumber d 15
  planned
      : d.loaded ≡ true
      → ((x : Dependence) → In x (paper_in d.nest).deps
      → (g : ℕ) × (GapOf (points_on d) x g × (In g (paper_in d.nest).barred → ⊥)))
      → PlanNumber d 0

-- Count: 10, 11; 6, a point that is no DO
pub data CountNumber (d : Desk) (i : ℕ) : ℕ → Type 0 where
  turn : {n : ℕ} → OutOfTurn d n → CountNumber d i n
  no_loop : InTurn d → (At (points_on d) i 1 → ⊥) → CountNumber d i 6
  loop : InTurn d → At (points_on d) i 1 → CountNumber d i 0

-- Write: 10, 11; 9, a buffer shorter than the key's text
pub data WriteNumber (d : Desk) (out : List ℕ) : ℕ → Type 0 where
  turn : {n : ℕ} → OutOfTurn d n → WriteNumber d out n
  short : (key : List ℕ) → InTurn d → KeyOn d key → length out < 5 * length key → WriteNumber d out 9
  fits : (key : List ℕ) → InTurn d → KeyOn d key → 5 * length key ≤ length out → WriteNumber d out 0

-- 02, job 4: Put and Lift, where the sitting holds gs: 10; 8, a gap out of range; 12, one that is there, or is not; 02,
-- job 7: 16, a barred gap
pub data PutNumber (d : Desk) (gs : List ℕ) (g : ℕ) : ℕ → Type 0 where
  no_nest : d.loaded ≡ false → PutNumber d gs g 10
  no_gap : d.loaded ≡ true → (IsGap (points_on d) g → ⊥) → PutNumber d gs g 8
  there : d.loaded ≡ true → IsGap (points_on d) g → In g gs → PutNumber d gs g 12
  barred
      : d.loaded ≡ true → IsGap (points_on d) g → (In g gs → ⊥) → In g (paper_in d.nest).barred → PutNumber d gs g 16
  put
      : d.loaded ≡ true → IsGap (points_on d) g → (In g gs → ⊥) → (In g (paper_in d.nest).barred → ⊥)
      → PutNumber d gs g 0

pub data LiftNumber (d : Desk) (gs : List ℕ) (g : ℕ) : ℕ → Type 0 where
  no_nest : d.loaded ≡ false → LiftNumber d gs g 10
  no_gap : d.loaded ≡ true → (IsGap (points_on d) g → ⊥) → LiftNumber d gs g 8
  not_there : d.loaded ≡ true → IsGap (points_on d) g → (In g gs → ⊥) → LiftNumber d gs g 12
  lifted : d.loaded ≡ true → IsGap (points_on d) g → In g gs → LiftNumber d gs g 0

-- 02, job 5: with one move more one more can be taken back, up to 64; older moves are forgotten
pub data Next : ℕ → ℕ → Type 0 where
  more : {k : ℕ} → k < 64 → Next k (suc k)
  forgotten : Next 64 64

-- so many moves can be taken back: none after Load, Reset and going over; Plan and what is refused change nothing
pub data Standing : Desk → ℕ → Type 0 where
  new_or_reset : {d : Desk} → EmptySays d → Standing d 0
  load : (d : Desk) (t : List ℕ) (r : Reply) → LoadSays d t r → r.number ≡ 0 → Standing r.desk 0
  over : (old : PlainDesk) {e : Desk} → OverSays old e → Standing e 0
  refused
      : (d : Desk) (t : List ℕ) (r : Reply) {k : ℕ} → Standing d k → LoadSays d t r → (r.number ≡ 0 → ⊥)
      → Standing r.desk k
  plan : (d : Desk) (r : Reply) {k : ℕ} → Standing d k → PlanSays d r → Standing r.desk k
  put
      : (d : Desk) (g : ℕ) (r : Moved) {k j : ℕ} → Standing d k → PutSays d g r → r.number ≡ 0 → Next k j
      → Standing r.desk j
  lift
      : (d : Desk) (g : ℕ) (r : Moved) {k j : ℕ} → Standing d k → LiftSays d g r → r.number ≡ 0 → Next k j
      → Standing r.desk j
  take_back : (d : Desk) (r : Moved) {k : ℕ} → Standing d (suc k) → BackSays d r → r.number ≡ 0 → Standing r.desk k

-- Take back, where k moves can be taken back: 10; 13, no move
pub data BackNumber (d : Desk) : ℕ → ℕ → Type 0 where
  no_nest : {k : ℕ} → d.loaded ≡ false → BackNumber d k 10
  no_move : d.loaded ≡ true → BackNumber d 0 13
  taken : {k : ℕ} → d.loaded ≡ true → BackNumber d (suc k) 0

-- ==== the numbers
pub record Numbers : Type 0 where
  -- Load, Mark: number and line; no text has two
  pub load : (d : Desk) (t : List ℕ) (r : Reply) → LoadSays d t r → LoadNumber t r.number r.line
  pub one_load : (t : List ℕ) (m i n k : ℕ) → LoadNumber t m i → LoadNumber t n k → (m ≡ n) × (i ≡ k)
  pub mark
      : (d : Desk) (t : List ℕ) (f : Fault) → Reached d → InTurn d → MarkSays d t (Err f)
      → PlaceNumber (paper_in d.nest) t (number_told f.refusal) f.line
  pub one_place
      : (p : Paper) (t : List ℕ) (m i n k : ℕ) → PlaceNumber p t m i → PlaceNumber p t n k → (m ≡ n) × (i ≡ k)
  -- the list: number and place; where it is accepted, the first that the key doesn't cut
  pub list
      : (d : Desk) (xs : List Dependence) (a : Answer) → Reached d → InTurn d → ListSays d (all_deps xs) a
      → ListNumber (points_on d) xs a.number a.line
  pub one_list
      : (ps : List ℕ) (xs : List Dependence) (m i n k : ℕ) → ListNumber ps xs m i → ListNumber ps xs n k
      → (m ≡ n) × (i ≡ k)
  pub listed
      : (d : Desk) (key : List ℕ) (xs : List Dependence) (a : Answer) → Reached d → KeyOn d key
      → ListSays d (all_deps xs) a → a.number ≡ 0 → FirstUncut (points_on d) key xs a.value
  pub list_turn
      : (d : Desk) (xs : List Dependence) (a : Answer) (n : ℕ) → ListSays d (all_deps xs) a → OutOfTurn d n
      → (a.number ≡ n) × (a.line ≡ 0)
  -- the others, with line 0; what Count counts
  pub plan : (d : Desk) (r : Reply) → Reached d → PlanSays d r → PlanNumber d r.number × (r.line ≡ 0)
  pub count
      : (d : Desk) (i : ℕ) (a : Answer) → CountSays d i a → CountNumber d i a.number × (a.line ≡ 0)
  pub counted
      : (d : Desk) (key : List ℕ) (i e : ℕ) (a : Answer) → Reached d → KeyOn d key → CountSays d i a
      → Loop (points_on d) i e → HowMany (Own (points_on d) i e) key a.value
  pub write
      : (d : Desk) (out out' : List ℕ) (a : Answer) → Reached d → WriteSays d out out' a
      → WriteNumber d out a.number × (a.line ≡ 0)
  pub put
      : (d : Desk) (gs : List ℕ) (g : ℕ) (r : Moved) → Reached d → SetIn d.sitting.placement.words gs
      → PutSays d g r → PutNumber d gs g r.number × (r.line ≡ 0)
  pub lift
      : (d : Desk) (gs : List ℕ) (g : ℕ) (r : Moved) → Reached d → SetIn d.sitting.placement.words gs
      → LiftSays d g r → LiftNumber d gs g r.number × (r.line ≡ 0)
  pub standing : (d : Desk) → Reached d → (k : ℕ) × Standing d k
  pub take_back
      : (d : Desk) (k : ℕ) (r : Moved) → Standing d k → BackSays d r → BackNumber d k r.number × (r.line ≡ 0)
