-- The three demands on one page, from nothing: in the words of 01 and of Darte and Schreiber (001), to be read in half
-- an hour. `demands_kept` (proofs/Kept) proves the record `Demands` at the end.
--
-- Of the project the page uses the structs and enums as the source declares them, and the names of the contracts that
-- the source attaches to the calls. No contract need be read: whatever keeps it keeps what stands here.
--
--   EmptySays  Desk::empty, reset     MarkSays   mark_placement     PutSays   put_gap
--   LoadSays   load_nest              WriteSays  write_key          LiftSays  lift_gap
--   PlanSays   plan_key               OverSays   go_over            BackSays  take_back
--   IsMade, IsMadePlain               all that these calls require of the desk that they get
--
-- Left out: the numbers of refusals and their lines (specs/Numbers), and which of several keys is the key (02, job 6).
-- Not stated anywhere, because the language asks it of every function: no read or write outside a buffer, no sum that
-- wraps, and every call ends.
--
-- How to read it. (x : A) → B says "for every x of A, B", and A → B "if A then B"; (x : A) × B "there is an x with B";
-- × is and, ⊎ or, → ⊥ not, ↔ just if. A record lists what holds together; data lists the ways in which something can
-- hold, and it holds in no other way; abbrev gives a name. {x} are variables, x.f is the field f of x. A list is []
-- or x ∷ xs, and xs ++ ys is one behind the other; suc n is n + 1; take and drop are the first n and the rest. Numbers
-- are decimal.
--
-- Points are 1 DO, 2 ENDDO, 3 statement. Frames are 17 s t (hexadecimal 11), 18 d s t (12), 19 g (13) and 33 g (21).
use Rattle.std.specs.Prelude.{◌≡◌, true, false, List, [], ◌∷◌, ◌++◌, ◌⊎◌, ◌↔◌, ℕ, zero, suc, ◌+◌, ◌*◌, ◌/◌, ◌%◌, ◌^◌, ◌≤◌, ◌<◌, length, take, drop, get_or, Result, Ok, Err}
use Rattle.paper_refusals.specs.declared.Fault.{Fault}
use Rattle.paper_refusals.specs.declared.Refusal.{Refusal}
use Rattle.paper_refusals.specs.declared.Refusal.TheVariants as R
use Rattle.paper_nests.specs.declared.Dependence.{Dependence}
use Rattle.paper_nests.specs.declared.Nest.{Nest}
use Rattle.paper_placements.specs.declared.Counts.{Counts}
use Rattle.desk.specs.declared.Desk.{Desk}
use Rattle.desk.specs.declared.PlainDesk.{PlainDesk}
use Rattle.desk.specs.declared.Reply.{Reply}
use Rattle.desk.specs.declared.Answer.{Answer}
use Rattle.desk.specs.declared.Verdict as DV
use Rattle.desk.specs.declared.Verdict.TheVariants as Verdict
use Rattle.call_moves.specs.declared.Moved.{Moved}
use Rattle.desk.specs.Desks.{IsMade, IsMadePlain}
use Rattle.desk.specs.Says.{EmptySays, LoadSays, PlanSays, MarkSays, WriteSays, OverSays}
use Rattle.call_moves.specs.Says.{PutSays, LiftSays, BackSays}

-- ==== numbers of refusals

-- the number of a refusal, as callers are told it
abbrev pub number_told : Refusal → ℕ
number_told R.NoFrame = 1
number_told R.WrongKind = 2
number_told R.LatePoint = 3
number_told R.Misplaced = 4
number_told R.TooMany = 5
number_told R.WrongPoint = 6
number_told R.WrongOrder = 7
number_told R.WrongGap = 8
number_told R.ShortBuffer = 9
number_told R.NoNest = 10
number_told R.NoKey = 11
number_told R.NothingMoved = 12
number_told R.NoMoveLeft = 13
number_told R.NotOneLoop = 14
number_told R.Blocked = 15
number_told R.BarredGap = 16
number_told R.WrongTurns = 17
number_told R.TooLarge = 18
number_told R.WrongSize = 19
number_told R.WrongSet = 20
number_told R.Unheld = 21

-- ==== lists

-- number i of the list, counted from 0, is x
abbrev pub At : {A : Type 0} → List A → ℕ → A → Type 0
At [] i x = ⊥
At (y ∷ ys) zero x = y ≡ x
At (y ∷ ys) (suc i) x = At ys i x

-- x is one of the list
abbrev pub In : {A : Type 0} → A → List A → Type 0
In x xs = (i : ℕ) × At xs i x

-- just k of the list have P
pub data HowMany {A : Type 0} (P : A → Type 0) : List A → ℕ → Type 0 where
  none : HowMany P [] 0
  one : {x : A} {xs : List A} {k : ℕ} → P x → HowMany P xs k → HowMany P (x ∷ xs) (suc k)
  other : {x : A} {xs : List A} {k : ℕ} → (P x → ⊥) → HowMany P xs k → HowMany P (x ∷ xs) k

-- a set of numbers, written as a list that rises, from above low to below n
pub data Rising (n : ℕ) : ℕ → List ℕ → Type 0 where
  none : {low : ℕ} → Rising n low []
  more : {low g : ℕ} {gs : List ℕ} → low < g → g < n → Rising n g gs → Rising n low (g ∷ gs)

-- ==== loops and gaps

-- the points from a up to, but not, b are statements and whole loops, at most h deep
pub data Body (ps : List ℕ) : ℕ → ℕ → ℕ → Type 0 where
  done : {h a b : ℕ} → a ≡ b → Body ps h a b
  statement : {h a b : ℕ} → At ps a 3 → Body ps h (suc a) b → Body ps h a b
  loop : {h a e b : ℕ} → At ps a 1 → Body ps h (suc a) e → At ps e 2 → Body ps (suc h) (suc e) b → Body ps (suc h) a b

-- 01, "The nest and its gaps": a loop goes by its DO's point d, and e is its ENDDO; loops are at most 8 deep
pub record Loop (ps : List ℕ) (d e : ℕ) : Type 0 where
  pub begins : At ps d 1
  pub body : Body ps 7 (suc d) e
  pub ends : At ps e 2

-- 01, "The nest and its gaps": gap g lies just before point g, and belongs to the innermost loop with its DO before the
-- gap and its ENDDO at the gap or after it
pub record Own (ps : List ℕ) (d e g : ℕ) : Type 0 where
  pub loop : Loop ps d e
  pub after : d < g
  pub upto : g ≤ e
  pub innermost : (d' e' : ℕ) → Loop ps d' e' → d' < g → g ≤ e' → d' ≤ d

-- no DO but the first point
abbrev pub OneLoop : List ℕ → Type 0
OneLoop ps = (i : ℕ) → At ps i 1 → i ≡ 0

-- 01, "The nest and its gaps": an independent dependence has the gaps s + 1 to t; one that the loop of DO d carries
-- has d + 1 to t, and s + 1 to the loop's ENDDO
pub data GapOf (ps : List ℕ) (x : Dependence) (g : ℕ) : Type 0 where
  line : x.kind ≡ 17 → x.s < g → g ≤ x.t → GapOf ps x g
  front : x.kind ≡ 18 → x.d < g → g ≤ x.t → GapOf ps x g
  back : (e : ℕ) → x.kind ≡ 18 → Loop ps x.d e → x.s < g → g ≤ e → GapOf ps x g

-- ==== papers and their rules

-- 01, "The nest and its gaps": points in text order, dependences; 02, job 7: barred gaps
pub record Paper : Type 0 where
  pub points : List ℕ
  pub deps : List Dependence
  pub barred : List ℕ

-- the paper in the arrays of a nest, each as far as its count
abbrev pub paper_in : Nest → Paper
paper_in n =
    record {
      points = take n.count n.points;
      deps = take n.many n.deps;
      barred = take n.bars n.barred;
    }

-- 01, "The nest and its gaps": independent, s before t; or carried by a loop, both points inside it; 02, job 1: in
-- whatever order
pub data Runs (ps : List ℕ) (x : Dependence) : Type 0 where
  line : x.kind ≡ 17 → x.d ≡ 0 → x.s < x.t → Runs ps x
  round : (e : ℕ) → x.kind ≡ 18 → Loop ps x.d e → x.d < x.s → x.s < e → x.d < x.t → x.t < e → Runs ps x

-- a paper that breaks no rule: one outermost loop, which is all; the limits; from a statement or a DO to a statement
-- or an ENDDO; barred gaps in range, and only in a nest of one loop
pub record Valid (p : Paper) : Type 0 where
  pub whole : (e : ℕ) × (Loop p.points 0 e × (length p.points ≡ suc e))
  pub few : (length p.points ≤ 256) × (length p.deps ≤ 512) × (length p.barred ≤ 255)
  pub source : (x : Dependence) → In x p.deps → At p.points x.s 3 ⊎ At p.points x.s 1
  pub target : (x : Dependence) → In x p.deps → At p.points x.t 3 ⊎ At p.points x.t 2
  pub runs : (x : Dependence) → In x p.deps → Runs p.points x
  pub bars : (g : ℕ) → In g p.barred → (0 < g) × (g < length p.points) × OneLoop p.points

-- ==== placements

-- a set of gaps of the nest; 02, job 7: none of them barred
pub record Gaps (p : Paper) (gs : List ℕ) : Type 0 where
  pub rising : Rising (length p.points) 0 gs
  pub free : (g : ℕ) → In g gs → In g p.barred → ⊥

-- 01, "The nest and its gaps": a placement cuts a dependence if it holds one of its gaps
abbrev pub Cut : List ℕ → Dependence → List ℕ → Type 0
Cut ps x gs = (g : ℕ) × (In g gs × GapOf ps x g)

-- 01, "The nest and its gaps": it is correct if every dependence is cut
pub record Correct (p : Paper) (gs : List ℕ) : Type 0 where
  pub gaps : Gaps p gs
  pub cut : (x : Dependence) → In x p.deps → Cut p.points x gs

-- ==== which placement is better

-- of the loop's own gaps the sets xs and ys have as many; xs has no more of them than ys
abbrev pub Same : List ℕ → List ℕ → List ℕ → ℕ → ℕ → Type 0
Same ps xs ys d e = (k : ℕ) × (HowMany (Own ps d e) xs k × HowMany (Own ps d e) ys k)

abbrev pub NoMore : List ℕ → List ℕ → List ℕ → ℕ → ℕ → Type 0
NoMore ps xs ys d e = (a : ℕ) × ((b : ℕ) × (HowMany (Own ps d e) xs a × HowMany (Own ps d e) ys b × (a ≤ b)))

-- 01, "Which placement is better": loop by loop, wherever they have as many in all loops inside, at any depth
abbrev pub AsGood : List ℕ → List ℕ → List ℕ → Type 0
AsGood ps xs ys =
    (d e : ℕ) → Loop ps d e →
    ((d' e' : ℕ) → Loop ps d' e' → d < d' → e' < e → Same ps xs ys d' e') → NoMore ps xs ys d e

-- 001, definition 1, the same by trees: each subtree right under the root is as good or better, and where all of these
-- are equal, the root has no more. A loop lies right under another if the gap before its DO belongs to that one.
abbrev pub SameTree : List ℕ → List ℕ → List ℕ → ℕ → ℕ → Type 0
SameTree ps xs ys d e = (d' e' : ℕ) → Loop ps d' e' → d ≤ d' → e' ≤ e → Same ps xs ys d' e'

pub data GoodTree (ps xs ys : List ℕ) : ℕ → ℕ → Type 0 where
  node
      : {d e : ℕ}
      → ((d' e' : ℕ) → Loop ps d' e' → Own ps d e d' → GoodTree ps xs ys d' e')
      → (((d' e' : ℕ) → Loop ps d' e' → Own ps d e d' → SameTree ps xs ys d' e') → NoMore ps xs ys d e)
      → GoodTree ps xs ys d e

-- correct, and as good or better than every correct set, however it is found
pub record Best (p : Paper) (gs : List ℕ) : Type 0 where
  pub correct : Correct p gs
  pub least : (ys : List ℕ) → Correct p ys → AsGood p.points gs ys

-- 01, "The nest and its gaps": in a nest of one loop the gaps 1 to m form a ring, 1 following m, and the gaps of a
-- dependence lie there without a break: k of them, from a on
pub record Interval (ps : List ℕ) (x : Dependence) (m a k : ℕ) : Type 0 where
  pub start : (1 ≤ a) × (a ≤ m)
  pub size : (1 ≤ k) × (k ≤ m)
  pub gaps : (g : ℕ) → GapOf ps x g ↔ ((1 ≤ g) × (g ≤ m) × (((a ≤ g) × (g < a + k)) ⊎ (g + m < a + k)))

-- a key: best, by trees too; in a nest of one loop no correct set is smaller, and each dependence is a circular
-- interval
pub record Key (p : Paper) (key : List ℕ) : Type 0 where
  pub best : Best p key
  pub by_trees : (ys : List ℕ) → Correct p ys → (e : ℕ) → Loop p.points 0 e → GoodTree p.points key ys 0 e
  pub smallest : OneLoop p.points → (ys : List ℕ) → Correct p ys → length key ≤ length ys
  pub ring
      : OneLoop p.points → (m : ℕ) → length p.points ≡ suc m → (x : Dependence) → In x p.deps
      → (a : ℕ) × ((k : ℕ) × Interval p.points x m a k)

-- ==== texts

abbrev pub Frames : Type 0
Frames = List (List ℕ)

-- 01, "Text": digits 0-9 a-f, each with its value
pub data Digit : ℕ → ℕ → Type 0 where
  to9 : {v : ℕ} → v < 10 → Digit (48 + v) v
  a_f : {v : ℕ} → v < 6 → Digit (97 + v) (10 + v)

-- 01, "Text": a line is two digits a byte, then the byte 0a, which is 10
pub data Line : List ℕ → List ℕ → Type 0 where
  feed : Line (10 ∷ []) []
  byte : {c b v w : ℕ} {s f : List ℕ} → Digit c v → Digit b w → Line s f → Line (c ∷ b ∷ s) ((16 * v + w) ∷ f)

-- a text, line by line, and the frames that it spells, none of them empty
pub data Lines : List ℕ → Frames → Type 0 where
  none : Lines [] []
  line : {s t f : List ℕ} {b : ℕ} {fs : Frames} → Line s (b ∷ f) → Lines t fs → Lines (s ++ t) ((b ∷ f) ∷ fs)

-- what a frame of a nest text tells: a point, a dependence, a barred gap
pub data Told : Type 0 where
  point : ℕ → Told
  dependence : Dependence → Told
  bar : ℕ → Told

-- 01, "Text": points are 01, 02, 03, one byte alone; dependences are 11 s t and 12 d s t; 02, job 7: a barred gap is
-- 13 g; 02, job 10: 04 is a DO as well
pub data Means : List ℕ → Told → Type 0 where
  point : {k : ℕ} → 1 ≤ k → k ≤ 3 → Means (k ∷ []) (Told.point k)
  flagged : Means (4 ∷ []) (Told.point 1)
  line : {s t : ℕ} → Means (17 ∷ s ∷ t ∷ []) (Told.dependence (record { kind = 17; d = 0; s = s; t = t }))
  round : {d s t : ℕ} → Means (18 ∷ d ∷ s ∷ t ∷ []) (Told.dependence (record { kind = 18; d = d; s = s; t = t }))
  bar : {g : ℕ} → Means (19 ∷ g ∷ []) (Told.bar g)

-- 01, "Text": all points, then all dependences; 02, job 7: with barred gaps among these
pub data Tells : Frames → List ℕ → List Dependence → List ℕ → Type 0 where
  none : Tells [] [] [] []
  point
      : {f : List ℕ} {k : ℕ} {fs : Frames} {ps : List ℕ} {ds : List Dependence} {bs : List ℕ}
      → Means f (Told.point k) → Tells fs ps ds bs → Tells (f ∷ fs) (k ∷ ps) ds bs
  dependence
      : {f : List ℕ} {x : Dependence} {fs : Frames} {ds : List Dependence} {bs : List ℕ}
      → Means f (Told.dependence x) → Tells fs [] ds bs → Tells (f ∷ fs) [] (x ∷ ds) bs
  bar
      : {f : List ℕ} {g : ℕ} {fs : Frames} {ds : List Dependence} {bs : List ℕ}
      → Means f (Told.bar g) → Tells fs [] ds bs → Tells (f ∷ fs) [] ds (g ∷ bs)

-- a nest text spells a paper that breaks no rule; 02, job 3: a text of no byte spells the blank paper
pub data Spells (t : List ℕ) (p : Paper) : Type 0 where
  blank : t ≡ [] → p.points ≡ 1 ∷ 2 ∷ [] → p.deps ≡ [] → p.barred ≡ [] → Spells t p
  lines : (fs : Frames) → Lines t fs → Tells fs p.points p.deps p.barred → Valid p → Spells t p

-- 01, "Text": a placement text has barriers 21 g only, gaps rising; 02, job 7: none barred
abbrev pub barriers : List ℕ → Frames
barriers [] = []
barriers (g ∷ gs) = (33 ∷ g ∷ []) ∷ barriers gs

pub record Places (p : Paper) (t gs : List ℕ) : Type 0 where
  pub gaps : Gaps p gs
  pub lines : Lines t (barriers gs)

-- ==== the desks that calls make

-- 02, job 4: a desk of the kind before sittings, with the nest of a desk d, or none as d, and whatever key
pub record OldOf (d : Desk) (old : PlainDesk) : Type 0 where
  pub nest_is : old.nest ≡ d.nest
  pub loaded_is : old.loaded ≡ d.loaded
  pub with_nest : old.planned ≡ true → d.loaded ≡ true

-- one call that is neither Reset nor an accepted Load: it gets d, replies the number, and leaves the desk behind it
pub data Step (d : Desk) : ℕ → Desk → Type 0 where
  refused : (t : List ℕ) (r : Reply) → LoadSays d t r → (r.number ≡ 0 → ⊥) → Step d r.number r.desk
  plan : (r : Reply) → PlanSays d r → Step d r.number r.desk
  put : (g : ℕ) (r : Moved) → PutSays d g r → Step d r.number r.desk
  lift : (g : ℕ) (r : Moved) → LiftSays d g r → Step d r.number r.desk
  take_back : (r : Moved) → BackSays d r → Step d r.number r.desk
  over : (old : PlainDesk) {e : Desk} → OldOf d old → OverSays old e → Step d 0 e

-- 01, "The desk": desks come only from these calls
pub data Reached : Desk → Type 0 where
  new_or_reset : {d : Desk} → EmptySays d → Reached d
  load : (d : Desk) (t : List ℕ) (r : Reply) → Reached d → LoadSays d t r → Reached r.desk
  step : (d : Desk) (n : ℕ) {e : Desk} → Reached d → Step d n e → Reached e

-- 01, "Which placement is better": the last accepted Load read the text t, with no Reset since, whatever the desk was
-- used for before
pub data Since (t : List ℕ) : Desk → Type 0 where
  load : (d : Desk) (r : Reply) → Reached d → LoadSays d t r → r.number ≡ 0 → Since t r.desk
  step : (d : Desk) (n : ℕ) {e : Desk} → Since t d → Step d n e → Since t e

-- the words of a placement hold a set: gap g is bit g mod 64 of word g / 64
pub record SetIn (words gs : List ℕ) : Type 0 where
  pub rising : Rising 256 0 gs
  pub bits : (g : ℕ) → g < 256 → In g gs ↔ (get_or words (g / 64) 0 / 2 ^ (g % 64) % 2 ≡ 1)

-- the desk has a key, and it is this set
pub record KeyOn (d : Desk) (key : List ℕ) : Type 0 where
  pub planned : d.planned ≡ true
  pub set : SetIn d.key.words key

-- ==== what Mark's replies mean (01, "The desk")

-- Uncut: the lowest number of a dependence that is not cut
pub record Uncut (p : Paper) (gs : List ℕ) (i : ℕ) : Type 0 where
  pub not_cut : (x : Dependence) × (At p.deps i x × (Cut p.points x gs → ⊥))
  pub lower_cut : (j : ℕ) (x : Dependence) → j < i → At p.deps j x → Cut p.points x gs

-- else Dearer: loop, their count, our count; of the loops at which the counts differ, the one with the first ENDDO
pub record Dearer (p : Paper) (key gs : List ℕ) (c : Counts) : Type 0 where
  pub correct : Correct p gs
  pub end : ℕ
  pub loop : Loop p.points c.d end
  pub theirs_are : HowMany (Own p.points c.d end) gs c.theirs
  pub ours_are : HowMany (Own p.points c.d end) key c.ours
  pub more : c.ours < c.theirs
  pub first : (d' e' : ℕ) → Loop p.points d' e' → e' < end → Same p.points key gs d' e'

-- else Best
abbrev pub Says : Paper → List ℕ → List ℕ → DV.Verdict → Type 0
Says p key gs (Verdict.Uncut i) = Uncut p gs i
Says p key gs (Verdict.Dearer c) = Dearer p key gs c
Says p key gs Verdict.Best = Best p gs

-- refused is a text that spells no placement; else the verdict is on the placement that it spells
abbrev pub Marks : Paper → List ℕ → List ℕ → Result DV.Verdict Fault → Type 0
Marks p key t (Err f) = (gs : List ℕ) → Places p t gs → ⊥
Marks p key t (Ok v) = (gs : List ℕ) × (Places p t gs × Says p key gs v)

-- ==== the demands

-- 01, "Numbers from the state": the number of a call out of turn that wants a key
pub data OutOfTurn (d : Desk) : ℕ → Type 0 where
  no_nest : d.loaded ≡ false → OutOfTurn d 10
  no_key : d.loaded ≡ true → d.planned ≡ false → OutOfTurn d 11

-- what Plan leaves: a key; 02, job 7: or 15, where no placement is correct
pub data Planned (p : Paper) (r : Reply) : Type 0 where
  key : (gs : List ℕ) → r.number ≡ 0 → KeyOn r.desk gs → Key p gs → Planned p r
  none : r.number ≡ 15 → ((gs : List ℕ) → Correct p gs → ⊥) → Planned p r

pub record Demands : Type 0 where
  -- demand 1: calls require nothing but that their desk was reached by calls; go_over, that it has the nest of one
  pub assumed : (d : Desk) → Reached d → IsMade d
  pub assumed_old : (old : PlainDesk) → IsMadePlain old ↔ ((d : Desk) × (Reached d × OldOf d old))
  -- a refused call leaves the desk as it was, and every byte of a lent buffer
  pub desk_kept : (d e : Desk) (n : ℕ) → Step d n e → (n ≡ 0 → ⊥) → e ≡ d
  pub bytes_kept
      : (d : Desk) (out out' : List ℕ) (a : Answer) → WriteSays d out out' a → (a.number ≡ 0 → ⊥) → out' ≡ out
  -- a call out of turn gets its number, with line 0, whatever else is wrong
  pub plan_turn : (d : Desk) (r : Reply) → PlanSays d r → d.loaded ≡ false → (r.number ≡ 10) × (r.line ≡ 0)
  pub mark_turn
      : (d : Desk) (t : List ℕ) (m : Result DV.Verdict Fault) (n : ℕ) → MarkSays d t m → OutOfTurn d n
      → (f : Fault) × ((m ≡ Err f) × (number_told f.refusal ≡ n) × (f.line ≡ 0))
  pub write_turn
      : (d : Desk) (out out' : List ℕ) (a : Answer) (n : ℕ) → WriteSays d out out' a → OutOfTurn d n
      → (a.number ≡ n) × (a.line ≡ 0)
  -- demand 2: a text is accepted just if it spells a paper, and it spells one only
  pub accepted
      : (d : Desk) (t : List ℕ) (r : Reply) → LoadSays d t r → (r.number ≡ 0) ↔ ((p : Paper) × Spells t p)
  pub one_paper : (t : List ℕ) (p q : Paper) → Spells t p → Spells t q → p ≡ q
  -- which dependences are cut and which placements are correct or best: what Mark says is so
  pub has-key : (d : Desk) → Reached d → d.planned ≡ true → (key : List ℕ) × KeyOn d key
  pub mark
      : (d : Desk) (key t : List ℕ) (m : Result DV.Verdict Fault) → Reached d → KeyOn d key → MarkSays d t m
      → Marks (paper_in d.nest) key t m
  -- a key is written where there is room, 5 bytes a gap; the text spells it, later bytes stay, and no text spells two
  -- sets
  pub room
      : (d : Desk) (key out out' : List ℕ) (a : Answer) → Reached d → KeyOn d key → WriteSays d out out' a
      → (a.number ≡ 0) ↔ (5 * length key ≤ length out)
  pub write
      : (d : Desk) (key out out' : List ℕ) (a : Answer) → Reached d → KeyOn d key → WriteSays d out out' a
      → a.number ≡ 0
      → Places (paper_in d.nest) (take a.value out') key × (drop a.value out' ≡ drop a.value out)
  pub read_again : (p : Paper) (t xs ys : List ℕ) → Places p t xs → Places p t ys → xs ≡ ys
  -- demand 3: the desk holds the paper that the text spells; Plan leaves a key of it, or none is correct; the key stays
  pub spelled : (t : List ℕ) (d : Desk) → Since t d → Spells t (paper_in d.nest)
  pub planned : (t : List ℕ) (d : Desk) (r : Reply) → Since t d → PlanSays d r → Planned (paper_in d.nest) r
  pub stays : (t : List ℕ) (d : Desk) (gs : List ℕ) → Since t d → KeyOn d gs → Key (paper_in d.nest) gs
