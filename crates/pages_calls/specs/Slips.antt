-- Request 9 on one page: slips for two readers. It rests on the page of the demands and, of the project, on the structs
-- and the names of the contracts CandidateSays (candidate_slip) and ExaminerSays (examiner_slip); `slips_kept`
-- (proofs/SlipsKept) proves it. Lines, decimal: 35 (hex 23) first uncut, 34 (22) a count, 36 (24) verdict, 37 (25) a
-- cut.
use Rattle.std.specs.Prelude.{◌≡◌, true, false, List, [], ◌∷◌, ◌++◌, ℕ, suc, ◌/◌, ◌%◌, ◌≤◌, ◌<◌, length, take, drop, Err}
use Rattle.paper_refusals.specs.declared.Fault.{Fault}
use Rattle.paper_nests.specs.declared.Dependence.{Dependence}
use Rattle.paper_placements.specs.declared.Counts.{Counts}
use Rattle.desk.specs.declared.Desk.{Desk}
use Rattle.desk.specs.declared.Answer.{Answer}
use Rattle.desk.specs.Says.{MarkSays}
use Rattle.call_slips.specs.Says.{CandidateSays, ExaminerSays}
use Rattle.pages.specs.Demands.{In, HowMany, Loop, Own, GapOf, Paper, paper_in, Cut, Best, Frames, Lines, Places}
use Rattle.pages.specs.Demands.{Reached, KeyOn, Uncut, Dearer, OutOfTurn, number_told}
use Rattle.pages_calls.specs.MissingRuns.{flags_in}

-- the first uncut dependence in two bytes, high first; ffff for none
pub data FirstLine (p : Paper) (gs : List ℕ) : List ℕ → Type 0 where
  uncut : (i : ℕ) → Uncut p gs i → FirstLine p gs (35 ∷ i / 256 ∷ i % 256 ∷ [])
  none : ((x : Dependence) → In x p.deps → Cut p.points x gs) → FirstLine p gs (35 ∷ 255 ∷ 255 ∷ [])

-- for each loop in order of its DO its count; of the points from a on
pub data CountLines (ps gs : List ℕ) : ℕ → List ℕ → Frames → Type 0 where
  none : {a : ℕ} → CountLines ps gs a [] []
  loop
      : {a e k : ℕ} {qs : List ℕ} {fs : Frames} → Loop ps a e → HowMany (Own ps a e) gs k
      → CountLines ps gs (suc a) qs fs
      → CountLines ps gs a (1 ∷ qs) ((34 ∷ a ∷ k ∷ []) ∷ fs)
  other
      : {a q : ℕ} {qs : List ℕ} {fs : Frames} → (q ≡ 1 → ⊥) → CountLines ps gs (suc a) qs fs
      → CountLines ps gs a (q ∷ qs) fs

-- the verdict: 00 Uncut, 01 Dearer with loop, their count, our count, 02 Best
pub data VerdictLine (p : Paper) (key gs : List ℕ) : List ℕ → Type 0 where
  uncut : (i : ℕ) → Uncut p gs i → VerdictLine p key gs (36 ∷ 0 ∷ 0 ∷ 0 ∷ 0 ∷ [])
  dearer : (c : Counts) → Dearer p key gs c → VerdictLine p key gs (36 ∷ 1 ∷ c.d ∷ c.theirs ∷ c.ours ∷ [])
  best : Best p gs → VerdictLine p key gs (36 ∷ 2 ∷ 0 ∷ 0 ∷ 0 ∷ [])

-- for each dependence in order the lowest gap that cuts it, 00 for none
pub data CutLines (ps gs : List ℕ) : List Dependence → Frames → Type 0 where
  none : CutLines ps gs [] []
  cut
      : {x : Dependence} {xs : List Dependence} {fs : Frames} {g : ℕ} → In g gs → GapOf ps x g
      → ((h : ℕ) → In h gs → GapOf ps x h → g ≤ h) → CutLines ps gs xs fs → CutLines ps gs (x ∷ xs) ((37 ∷ g ∷ []) ∷ fs)
  uncut
      : {x : Dependence} {xs : List Dependence} {fs : Frames} → (Cut ps x gs → ⊥) → CutLines ps gs xs fs
      → CutLines ps gs (x ∷ xs) ((37 ∷ 0 ∷ []) ∷ fs)

-- the slips as lines; the examiner's goes on where the candidate's ends
pub record CandidateSlip (p : Paper) (gs : List ℕ) (fs : Frames) : Type 0 where
  pub line : List ℕ
  pub counts : Frames
  pub first_line : FirstLine p gs line
  pub count_lines : CountLines p.points gs 0 p.points counts
  pub lines_are : fs ≡ line ∷ counts

pub record ExaminerSlip (p : Paper) (key gs : List ℕ) (fs : Frames) : Type 0 where
  pub candidate : Frames
  pub verdict : List ℕ
  pub cuts : Frames
  pub candidate-slip : CandidateSlip p gs candidate
  pub verdict-line : VerdictLine p key gs verdict
  pub cut_lines : CutLines p.points gs p.deps cuts
  pub lines_are : fs ≡ candidate ++ (verdict ∷ cuts)

-- a text written as by Write: from the start of the buffer, later bytes stay, the length is given; 9 if it is too short
pub record Written (text out out' : List ℕ) (a : Answer) : Type 0 where
  pub fits
      : length text ≤ length out
      → (a.number ≡ 0) × (a.value ≡ length text) × (take a.value out' ≡ text) ×
      (drop a.value out' ≡ drop a.value out)
  pub short : length out < length text → (a.number ≡ 9) × (out' ≡ out)
  pub line : a.line ≡ 0

-- a refusal leaves the buffer
abbrev pub Refuses : ℕ → ℕ → List ℕ → List ℕ → Answer → Type 0
Refuses number line out out' a = (a.number ≡ number) × (a.line ≡ line) × (out' ≡ out)

pub record Slips : Type 0 where
  pub candidate_turn
      : (d : Desk) (s out out' : List ℕ) (a : Answer) → CandidateSays d s out out' a → d.loaded ≡ false
      → Refuses 10 0 out out' a
  pub examiner_turn
      : (d : Desk) (s out out' : List ℕ) (a : Answer) (n : ℕ) → ExaminerSays d s out out' a → OutOfTurn d n
      → Refuses n 0 out out' a
  -- the text is read as by Mark
  pub candidate_faults
      : (d : Desk) (key s out out' : List ℕ) (a : Answer) (f : Fault) → Reached d → KeyOn d key
      → CandidateSays d s out out' a
      → MarkSays d s (Err f) → Refuses (number_told f.refusal) f.line out out' a
  pub examiner_faults
      : (d : Desk) (key s out out' : List ℕ) (a : Answer) (f : Fault) → Reached d → KeyOn d key
      → ExaminerSays d s out out' a
      → MarkSays d s (Err f) → Refuses (number_told f.refusal) f.line out out' a
  -- the slips; the candidate's needs no key
  pub candidate
      : (d : Desk) (s gs out out' : List ℕ) (a : Answer) → Reached d → d.loaded ≡ true
      → Places (paper_in d.nest) s gs
      → CandidateSays d s out out' a
      → (text : List ℕ) × ((fs : Frames) × (CandidateSlip
      (paper_in d.nest) gs fs × Lines text fs × Written text out out' a))
  pub examiner
      : (d : Desk) (key s gs out out' : List ℕ) (a : Answer) → Reached d → KeyOn d key → Places (paper_in d.nest) s gs
      → ExaminerSays d s out out' a
      → (text : List ℕ) ×
      ((fs : Frames) × (ExaminerSlip (paper_in d.nest) key gs fs × Lines text fs × Written text out out' a))
  -- two desks with the same nest, whatever calls made them: the candidate's slip is the same, refusals included
  pub two_desks
      : (d e : Desk) (s out out' other other' : List ℕ) (a b : Answer) → Reached d → Reached e
      → paper_in d.nest ≡ paper_in e.nest → flags_in d.nest ≡ flags_in e.nest → length out ≡ length other
      → CandidateSays d s out out' a → CandidateSays e s other other' b
      → (a ≡ b) × (take a.value out' ≡ take a.value other')
