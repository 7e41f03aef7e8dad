-- Argument texts: claims, each before its steps, one frame a line; read with refusals 1, 2, 4 and 5, and written.
-- Main definitions: `Part`, `part_of`, `part_fault`, `claims_in`, `read_argument`, `argument_text`.
use Rattle.std.specs.Prelude.{Bool, ◌&&◌, ◌||◌, not, List, [], ◌∷◌, ◌++◌, ℕ, zero, suc, ◌+◌, ◌*◌, ◌/◌, ◌%◌, eqb, leb, length, get_or}
use Rattle.laws.specs.Choice.{pick, when, first_of}
use Rattle.paper_lines.specs.Lines.{Line, lines_of, is_good, frame_of, line_text}
use Rattle.argue_claims.specs.Arguments.{Step, Claim, st, claim}

-- a claim is 31 d a b
abbrev pub CLAIM : ℕ
CLAIM = 49

-- 32 m: the next step is led by claim m, in two bytes, high first
abbrev pub BY : ℕ
BY = 50

-- steps: 33 k, dependence k, in two bytes, high first; 34, the supposed gap from a on; 35, the one up to b
abbrev pub DEPENDENCE : ℕ
DEPENDENCE = 51

abbrev pub FROM : ℕ
FROM = 52

abbrev pub UPTO : ℕ
UPTO = 53

-- limits: claims of an argument, steps of a claim
abbrev pub CLAIMS : ℕ
CLAIMS = 4096

abbrev pub STEPS : ℕ
STEPS = 1024

-- what a frame tells: a claim of loop d; that claim m leads the next step; a step with a set, numbered as in `Step`;
-- nothing that is known
pub data Part : Type 0 where
  Claims : ℕ → ℕ → ℕ → Part
  By : ℕ → Part
  Names : ℕ → Part
  Unknown : Part

-- the frame has this kind and length
abbrev pub is_kind : ℕ → ℕ → List ℕ → Bool
is_kind k n f = eqb (get_or f 0 0) k && eqb (length f) n

-- a number in two bytes, high first
abbrev pub word_at : List ℕ → ℕ
word_at f = 256 * get_or f 1 0 + get_or f 2 0

abbrev pub part_of : List ℕ → Part
part_of f =
    pick
    (is_kind CLAIM 4 f)
    (Claims (get_or f 1 0) (get_or f 2 0) (get_or f 3 0))
    (pick
    (is_kind BY 3 f)
    (By (word_at f))
    (pick
    (is_kind DEPENDENCE 3 f)
    (Names (suc (suc (word_at f))))
    (pick (is_kind FROM 1 f) (Names 0) (pick (is_kind UPTO 1 f) (Names 1) Unknown))))

-- what was read so far: how many claims; how many steps of the last; 0, or one more than the claim that leads the next
pub record Progress : Type 0 where
  pub claims : ℕ
  pub steps : ℕ
  pub by : ℕ

abbrev pub progress : ℕ → ℕ → ℕ → Progress
progress c s b = record { claims = c; steps = s; by = b }

-- 2, unknown; 4, a step before any claim, or a claim that leads none; 5, one too many; 0 for none
abbrev pub part_fault : Progress → Part → ℕ
part_fault x (Claims d a b) = first_of (when (not (eqb x.by 0)) 4) (when (leb CLAIMS x.claims) 5)
part_fault x (By m) = when (eqb x.claims 0 || not (eqb x.by 0)) 4
part_fault x (Names s) = first_of (when (eqb x.claims 0) 4) (when (leb STEPS x.steps) 5)
part_fault x Unknown = 2

abbrev pub after : Progress → Part → Progress
after x (Claims d a b) = progress (suc x.claims) 0 0
after x (By m) = progress x.claims x.steps (suc m)
after x (Names s) = progress x.claims (suc x.steps) 0
after x Unknown = x

abbrev pub argue_fault : Progress → Line → ℕ
argue_fault x l = first_of (when (not (is_good l)) 1) (part_fault x (part_of (frame_of l.bytes)))

-- the number of a refusal and its line, 0 and 0 for none
pub record Fault : Type 0 where
  pub number : ℕ
  pub place : ℕ

abbrev pub fault : ℕ → ℕ → Fault
fault n p = record { number = n; place = p }

-- the first faulty line, of lines from k on; at the end a claim may not wait for its step
unfoldable pub fault_from : ℕ → Progress → List Line → Fault
fault_from k x [] = pick (eqb x.by 0) (fault 0 0) (fault 4 k)
fault_from k x (l ∷ ls) =
    let r = fault_from (suc k) (after x (part_of (frame_of l.bytes))) ls in
    pick (eqb (argue_fault x l) 0) r (fault (argue_fault x l) k)

unfoldable pub argument_fault : List ℕ → Fault
argument_fault s = fault_from 1 (progress 0 0 0) (lines_of s)

abbrev pub parts_of : List Line → List Part
parts_of [] = []
parts_of (l ∷ ls) = part_of (frame_of l.bytes) ∷ parts_of ls

-- what some parts say: steps of the claim before them, then claims
pub record Rest : Type 0 where
  pub steps : List Step
  pub claims : List Claim

abbrev pub rest : List Step → List Claim → Rest
rest ss cs = record { steps = ss; claims = cs }

-- `by` as in `Progress`
unfoldable pub rest_of : ℕ → List Part → Rest
rest_of by [] = rest [] []
rest_of by (Claims d a b ∷ ps) =
    let r = rest_of 0 ps in
    rest [] (claim d a b r.steps ∷ r.claims)
rest_of by (By m ∷ ps) = rest_of (suc m) ps
rest_of by (Names s ∷ ps) =
    let r = rest_of 0 ps in
    rest (st s by ∷ r.steps) r.claims
rest_of by (Unknown ∷ ps) = rest_of by ps

-- the claims that a text makes
unfoldable pub claims_in : List ℕ → List Claim
claims_in s = (rest_of 0 (parts_of (lines_of s))).claims

-- an argument text read: its refusal, and the claims, of which there is none where it is refused
pub record ReadArgument : Type 0 where
  pub refusal : Fault
  pub claims : List Claim

abbrev pub read_argument : List ℕ → ReadArgument
read_argument s =
    record {
      refusal = argument_fault s;
      claims = pick (eqb (argument_fault s).number 0) (claims_in s) [];
    }

-- a number in two bytes
abbrev pub word_of : ℕ → List ℕ
word_of m = (m / 256) ∷ ((m % 256) ∷ [])

abbrev pub set_frame : ℕ → List ℕ
set_frame zero = FROM ∷ []
set_frame (suc zero) = UPTO ∷ []
set_frame (suc (suc k)) = DEPENDENCE ∷ word_of k

abbrev pub by_text : ℕ → List ℕ
by_text zero = []
by_text (suc m) = line_text (BY ∷ word_of m)

unfoldable pub steps_text : List Step → List ℕ
steps_text [] = []
steps_text (s ∷ ss) = by_text s.via ++ (line_text (set_frame s.set) ++ steps_text ss)

-- an argument as text, a frame a line
unfoldable pub argument_text : List Claim → List ℕ
argument_text [] = []
argument_text (k ∷ cs) =
    line_text (CLAIM ∷ (k.loop ∷ (k.from ∷ (k.upto ∷ [])))) ++ (steps_text k.steps ++ argument_text cs)
