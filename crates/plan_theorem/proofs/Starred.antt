-- 01, "Papers with known results": the starred cases, 1 to 10, as one table of the definitions and one theorem over it.
-- A row says two things: what is the key of the paper and which counts all its keys have, by the planner's theorem; and
-- what is computed beside that key, the verdict on a marked placement and the gaps that dependences share.
-- Main definitions: `Case`, `starred`, `added`. Main statements: `starred_keys`; `added_keys`, of the rows that the
-- repository adds to the paper's.
use mathlib.Core.Path.{◌≡◌, refl}
use mathlib.Core.Bool.{Bool, true, ◌&&◌}
use mathlib.Core.List.{List, [], ◌∷◌}
use Prim.Native.Nat.{ℕ}
use Rattle.paper_nests.specs.Nests.{Dep, Nest}
use Rattle.paper_nests.proofs.Cases.{forward, carried, paper_P, paper_Q, paper_R, paper_turn, paper_bare, paper_ring}
use Rattle.paper_nests.proofs.Cases.{paper_forward, paper_P_forward, paper_door, paper_barred, share}
use Rattle.paper_order.specs.Verdicts.{Verdict, Uncut, Dearer, Best, mark_of}
use Rattle.plan_theorem.proofs.KeyCases.{HasKey, P-key, Q-key, R-key, turn_key, bare_key, ring_key}
use Rattle.plan_theorem.proofs.KeyCases.{forward_key, P-forward-key, door_key, barred-key, paper_all_barred}
use Rattle.plan_theorem.proofs.KeyCases.{all_barred_key}

-- dependences of the paper, and the gaps that all of them have
pub record Shared : Type 0 where
  pub deps : List Dep
  pub gaps : List ℕ

abbrev shared : List Dep → List ℕ → Shared
shared es gs = record { deps = es; gaps = gs }

-- a row: the case's number, the paper, its key and the counts in order of the loops' DO, a placement marked and the
-- verdict, the gaps shared
pub record Case : Type 0 where
  pub number : ℕ
  pub paper : Nest
  pub key : List ℕ
  pub counts : List ℕ
  pub marked : List ℕ
  pub verdict : Verdict
  pub shares : List Shared

abbrev row : ℕ → Nest → List ℕ → List ℕ → List ℕ → Verdict → List Shared → Case
row i n k c gs v ss =
    record {
      number = i;
      paper = n;
      key = k;
      counts = c;
      marked = gs;
      verdict = v;
      shares = ss;
    }

abbrev pub starred : List Case
starred =
    row 1 paper_P (5 ∷ 11 ∷ []) (0 ∷ 1 ∷ 1 ∷ []) (5 ∷ 11 ∷ []) Best [] ∷
    row 2 paper_P (5 ∷ 11 ∷ []) (0 ∷ 1 ∷ 1 ∷ []) (3 ∷ 9 ∷ []) (Uncut 4) [] ∷
    row 3 paper_P (5 ∷ 11 ∷ []) (0 ∷ 1 ∷ 1 ∷ []) (3 ∷ 11 ∷ []) (Uncut 5) [] ∷
    row 4 paper_P (5 ∷ 11 ∷ []) (0 ∷ 1 ∷ 1 ∷ []) (3 ∷ 9 ∷ 13 ∷ []) (Dearer 0 1 0) [] ∷
    row 5 paper_P (5 ∷ 11 ∷ []) (0 ∷ 1 ∷ 1 ∷ []) (5 ∷ 10 ∷ 11 ∷ []) (Dearer 7 2 1) [] ∷
    row 6 paper_Q (2 ∷ 6 ∷ []) (1 ∷ 0 ∷ 1 ∷ []) (2 ∷ 6 ∷ []) Best [] ∷
    row 7 paper_Q (2 ∷ 6 ∷ []) (1 ∷ 0 ∷ 1 ∷ []) (4 ∷ 7 ∷ []) (Dearer 2 1 0) [] ∷
    -- each two intervals share a gap, all three share none
    row 8 paper_R (1 ∷ 4 ∷ []) (2 ∷ []) (2 ∷ 4 ∷ []) Best
    (shared (forward 1 4 ∷ forward 3 6 ∷ []) (4 ∷ []) ∷
    shared (forward 3 6 ∷ carried 0 5 2 ∷ []) (6 ∷ []) ∷
    shared (forward 1 4 ∷ carried 0 5 2 ∷ []) (2 ∷ []) ∷
    shared paper_R.deps [] ∷
    []) ∷
    -- gaps 1 and 2
    row 9 paper_turn (1 ∷ []) (1 ∷ []) (2 ∷ []) Best (shared paper_turn.deps (1 ∷ 2 ∷ []) ∷ []) ∷
    row 10 paper_bare [] (0 ∷ []) [] Best [] ∷
    []

-- beside the paper's, with no number there: the ring on which greedy cutting takes 1 and 2; the paper on which fewer
-- barriers in all are dearer; 02, job 1: a carried dependence with s before t, alone and beside P's; 02, job 7: a paper
-- with barred gaps, and a later key of it; a paper on which every gap is barred
abbrev pub added : List Case
added =
    row 0 paper_ring (2 ∷ []) (1 ∷ []) (1 ∷ 2 ∷ []) (Dearer 0 2 1) [] ∷
    row 0 paper_door (2 ∷ 5 ∷ []) (2 ∷ 0 ∷ []) (3 ∷ []) (Dearer 2 1 0) [] ∷
    row 0 paper_forward (1 ∷ []) (1 ∷ []) (4 ∷ []) Best (shared paper_forward.deps (1 ∷ 2 ∷ 3 ∷ 4 ∷ []) ∷ []) ∷
    row 0 paper_P_forward (5 ∷ 11 ∷ []) (0 ∷ 1 ∷ 1 ∷ []) (5 ∷ 6 ∷ 11 ∷ []) (Dearer 1 2 1) [] ∷
    row 0 paper_barred (3 ∷ 5 ∷ []) (2 ∷ []) (5 ∷ 6 ∷ []) Best (shared paper_barred.deps (1 ∷ []) ∷ []) ∷
    row 0 paper_all_barred [] (0 ∷ []) [] Best [] ∷
    []

abbrev all_share : Nest → List Shared → Bool
all_share n [] = true
all_share n (s ∷ ss) = share n s.deps s.gaps && all_share n ss

-- what a row says
pub record Holds (c : Case) : Type 0 where
  pub has-key : HasKey c.paper c.key c.counts
  pub verdict_is : mark_of c.paper c.key c.marked ≡ c.verdict
  pub gaps_shared : all_share c.paper c.shares ≡ true

infixr 30 ◌then◌
pub data AllHold : List Case → Type 0 where
  none : AllHold []
  ◌then◌ : {c : Case} {cs : List Case} → Holds c → AllHold cs → AllHold (c ∷ cs)

-- a row from its paper's key: the rest is computed
by_key
    : {c : Case}
    → HasKey c.paper c.key c.counts
    → mark_of c.paper c.key c.marked ≡ c.verdict
    → all_share c.paper c.shares ≡ true
    → Holds c
by_key k v s = record { has-key = k; verdict_is = v; gaps_shared = s }

pub starred_keys : AllHold starred
starred_keys =
    by_key P-key refl refl then
    by_key P-key refl refl then
    by_key P-key refl refl then
    by_key P-key refl refl then
    by_key P-key refl refl then
    by_key Q-key refl refl then
    by_key Q-key refl refl then
    by_key R-key refl refl then
    by_key turn_key refl refl then
    by_key bare_key refl refl then
    none

pub added_keys : AllHold added
added_keys =
    by_key ring_key refl refl then
    by_key door_key refl refl then
    by_key forward_key refl refl then
    by_key P-forward-key refl refl then
    by_key barred-key refl refl then
    by_key all_barred_key refl refl then
    none
