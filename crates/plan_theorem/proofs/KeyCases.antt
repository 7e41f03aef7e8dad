-- The keys of the papers. Each is computed from `key_of`, is the first of its paper's keys by the planner's theorem, and
-- every other has the same counts. The starred cases' table is made of them (Starred).
-- Main definitions: `HasKey`, `HasNoKey`. Main statements: `computed_keys`; `P-key`, `Q-key`, `R-key` and so on;
-- `blocked_no_key`; `case_1_program`, `case_11_program`, `barred_program`, `blocked_program`.
use mathlib.Core.Path.{◌≡◌, refl, ◌∙◌}
use mathlib.Core.Bool.{true, false}
use mathlib.Core.List.{List, [], ◌∷◌}
use Prim.Native.Nat.{ℕ}
use lib.ListN.{length}
use Rattle.paper_nests.specs.Nests.{Nest, barring, nest}
use Rattle.paper_nests.specs.Valid.{is_valid}
use Rattle.paper_nests.proofs.Cases.{paper_P, paper_Q, paper_R, paper_turn, paper_bare, paper_ring, paper_inner}
use Rattle.paper_nests.proofs.Cases.{forward, carried, paper_forward, paper_P_forward, paper_door}
use Rattle.paper_nests.proofs.Cases.{paper_barred, paper_blocked}
use Rattle.paper_nests.proofs.Deps.{valid_is}
use Rattle.paper_order.specs.Keys.{IsKey}
use Rattle.paper_placements.specs.Placements.{is_correct}
use Rattle.paper_placements.specs.Words.{gaps_of}
use Rattle.paper_order.proofs.Cases.{counts_of}
use Rattle.paper_barred.specs.Ranks.{rank}
use Rattle.paper_barred.specs.Reduced.{is_blocked, statements_to}
use Rattle.paper_barred.proofs.Blocked.{blocked_iff, unbarred_open}
use Rattle.paper_lines.proofs.Spelling.{frames_text}
use Rattle.paper_texts.specs.Counts.{counts_from}
use Rattle.paper_texts.specs.NestTexts.{blank, read_nest, nest_text}
use Rattle.paper_texts.specs.PlacementTexts.{key_text}
use Rattle.paper_texts.specs.Program.{program_text}
use Rattle.paper_texts.proofs.ProgramTexts.{program_accepted, program_blocked}
use Rattle.paper_texts.proofs.TextCases.{P-lines, P-read, case_1_written, case_11_read, case_11_written}
use Rattle.plan_method.specs.Home.{least_end, reach_of, limit_of, has_at, key_in}
use Rattle.plan_method.specs.Sweep.{need_of, put, step_plain, seek, free, inner, outer, child_at}
use Rattle.plan_method.specs.Sweep.{step_child, next, step, walk, sweep, close, value, least, better, best}
use Rattle.plan_method.specs.Sweep.{child_some, some_of, cost_of, front_of, left_of, choice_of, lay_of}
use Rattle.plan_method.specs.Plan.{table_of, table_from, with_row, no_tables}
use Rattle.plan_method.specs.Plan as Plan
use Rattle.plan_theorem.specs.KeyOf.{plain_key, key_of}
use Rattle.plan_theorem.specs.OneKey.{IsFirstKey}
use Rattle.plan_theorem.proofs.KeyFirst.{key_is_first}
use Rattle.plan_theorem.proofs.Sizes.{keys_same_counts, keys_same_size}

-- P's loop 1 by itself, and loop 7 as well: 01 03 03 03 03 02 with 110104, 12000302
abbrev pub paper_P_inner : Nest
paper_P_inner = nest (1 ∷ 3 ∷ 3 ∷ 3 ∷ 3 ∷ 2 ∷ []) (forward 1 4 ∷ carried 0 3 2 ∷ [])

-- 01 03 02 with every gap barred and no dependence
abbrev pub paper_all_barred : Nest
paper_all_barred = barring (1 ∷ 3 ∷ 2 ∷ []) [] (2 ∷ 1 ∷ [])

-- the keys as they are computed
pub record Computed : Type 0 where
  pub of_P : key_of paper_P ≡ 5 ∷ 11 ∷ []
  pub of_Q : key_of paper_Q ≡ 2 ∷ 6 ∷ []
  pub of_R : key_of paper_R ≡ 1 ∷ 4 ∷ []
  pub of_turn : key_of paper_turn ≡ 1 ∷ []
  pub of_bare : key_of paper_bare ≡ []
  pub of_ring : key_of paper_ring ≡ 2 ∷ []
  pub of_inner : key_of paper_inner ≡ 2 ∷ []
  pub of_forward : key_of paper_forward ≡ 1 ∷ []
  pub of_P_forward : key_of paper_P_forward ≡ 5 ∷ 11 ∷ []
  pub of_P_inner : key_of paper_P_inner ≡ 2 ∷ []
  pub of_door : key_of paper_door ≡ 2 ∷ 5 ∷ []
  pub of_barred : key_of paper_barred ≡ 3 ∷ 5 ∷ []
  pub of_all_barred : key_of paper_all_barred ≡ []

pub computed_keys : Computed
unfolding rank statements_to plain_key key_of gaps_of key_in least_end reach_of limit_of has_at Plan.key_of table_of table_from
    with_row no_tables need_of put step_plain seek free inner outer child_at step_child next step walk sweep close value
    least better best child_some some_of cost_of front_of left_of choice_of lay_of
computed_keys =
    record {
      of_P = refl;
      of_Q = refl;
      of_R = refl;
      of_turn = refl;
      of_bare = refl;
      of_ring = refl;
      of_inner = refl;
      of_forward = refl;
      of_P_forward = refl;
      of_P_inner = refl;
      of_door = refl;
      of_barred = refl;
      of_all_barred = refl;
    }

-- the paper breaks no rule and is not blocked; its key is this one, the first of all its keys, with these counts in
-- order of the loops' DO; all keys have its counts and its number of gaps
pub record HasKey (n : Nest) (key counts : List ℕ) : Type 0 where
  pub valid : is_valid n ≡ true
  pub unblocked : is_blocked n ≡ false
  pub key_is : key_of n ≡ key
  pub counts_are : counts_of n key ≡ counts
  pub is-first : IsFirstKey n key
  pub all_counts : (gs : List ℕ) → IsKey n gs → counts_of n gs ≡ counts
  pub all_sizes : (gs : List ℕ) → IsKey n gs → length gs ≡ length key

by_theorem
    : (n : Nest) (key counts : List ℕ)
    → is_valid n ≡ true
    → is_blocked n ≡ false
    → key_of n ≡ key
    → counts_of n key ≡ counts
    → HasKey n key counts
by_theorem n key counts valid unblocked e c =
    let k : IsFirstKey n key = rw e at (key_is_first n valid unblocked) in
    let shape = (valid_is n valid).shape in
    record {
      valid = valid;
      unblocked = unblocked;
      key_is = e;
      counts_are = c;
      is-first = k;
      all_counts = λ gs h. keys_same_counts n shape gs key h k.is_key ∙ c;
      all_sizes = λ gs h. keys_same_size n shape gs key h k.is_key;
    }

-- of a paper with nothing barred
unbarred_by
    : (n : Nest) (key counts : List ℕ)
    → is_valid n ≡ true
    → n.barred ≡ []
    → key_of n ≡ key
    → counts_of n key ≡ counts
    → HasKey n key counts
unbarred_by n key counts valid none = by_theorem n key counts valid (unbarred_open n valid none)

-- cases 1 to 5: P has key 5 and 11, counts 0, 1, 1 for loops 0, 1, 7
pub P-key : HasKey paper_P (5 ∷ 11 ∷ []) (0 ∷ 1 ∷ 1 ∷ [])
P-key = unbarred_by paper_P (5 ∷ 11 ∷ []) (0 ∷ 1 ∷ 1 ∷ []) refl refl computed_keys.of_P refl

-- cases 6 and 7: Q has key 2 and 6, counts 1, 0, 1 for loops 0, 2, 3
pub Q-key : HasKey paper_Q (2 ∷ 6 ∷ []) (1 ∷ 0 ∷ 1 ∷ [])
Q-key = unbarred_by paper_Q (2 ∷ 6 ∷ []) (1 ∷ 0 ∷ 1 ∷ []) refl refl computed_keys.of_Q refl

-- case 8: R has count 2
pub R-key : HasKey paper_R (1 ∷ 4 ∷ []) (2 ∷ [])
R-key = unbarred_by paper_R (1 ∷ 4 ∷ []) (2 ∷ []) refl refl computed_keys.of_R refl

-- case 9: count 1
pub turn_key : HasKey paper_turn (1 ∷ []) (1 ∷ [])
turn_key = unbarred_by paper_turn (1 ∷ []) (1 ∷ []) refl refl computed_keys.of_turn refl

-- case 10: the empty key
pub bare_key : HasKey paper_bare [] (0 ∷ [])
bare_key = unbarred_by paper_bare [] (0 ∷ []) refl refl computed_keys.of_bare refl

-- the smallest ring on which greedy cutting from the first interval end fails: the key is 2
pub ring_key : HasKey paper_ring (2 ∷ []) (1 ∷ [])
ring_key = unbarred_by paper_ring (2 ∷ []) (1 ∷ []) refl refl computed_keys.of_ring refl

-- one barrier inside is enough: none in loop 0
pub inner_key : HasKey paper_inner (2 ∷ []) (0 ∷ 1 ∷ [])
inner_key = unbarred_by paper_inner (2 ∷ []) (0 ∷ 1 ∷ []) refl refl computed_keys.of_inner refl

-- gap 3 alone would do, but the key has no barrier in loop 2
pub door_key : HasKey paper_door (2 ∷ 5 ∷ []) (2 ∷ 0 ∷ [])
door_key = unbarred_by paper_door (2 ∷ 5 ∷ []) (2 ∷ 0 ∷ []) refl refl computed_keys.of_door refl

-- forward over the ring: any gap of the loop serves, and the key is the first of them
pub forward_key : HasKey paper_forward (1 ∷ []) (1 ∷ [])
forward_key = unbarred_by paper_forward (1 ∷ []) (1 ∷ []) refl refl computed_keys.of_forward refl

-- beside P's own: the key of P serves
pub P-forward-key : HasKey paper_P_forward (5 ∷ 11 ∷ []) (0 ∷ 1 ∷ 1 ∷ [])
P-forward-key = unbarred_by paper_P_forward (5 ∷ 11 ∷ []) (0 ∷ 1 ∷ 1 ∷ []) refl refl computed_keys.of_P_forward refl

-- 02, job 7: with gaps 1, 2 and 4 barred the key is 3 and 5, where gap 1 alone would cut all
pub barred-key : HasKey paper_barred (3 ∷ 5 ∷ []) (2 ∷ [])
unfolding gaps_of
barred-key = by_theorem paper_barred (3 ∷ 5 ∷ []) (2 ∷ []) refl refl computed_keys.of_barred refl

-- nothing to cut, and no gap for a barrier
pub all_barred_key : HasKey paper_all_barred [] (0 ∷ [])
all_barred_key = by_theorem paper_all_barred [] (0 ∷ []) refl refl computed_keys.of_all_barred refl

-- a paper that breaks no rule and has no correct placement
pub record HasNoKey (n : Nest) : Type 0 where
  pub valid : is_valid n ≡ true
  pub blocked : is_blocked n ≡ true
  pub none : (gs : List ℕ) → is_correct n gs ≡ true → ⊥

-- 02, job 7: the only gap of its dependence is barred
pub blocked_no_key : HasNoKey paper_blocked
unfolding gaps_of
blocked_no_key = record { valid = refl; blocked = refl; none = (blocked_iff paper_blocked).0 refl }

-- case 1: the program writes 2105, 210b, 220000, 220101, 220701 for P
pub case_1_program
    : program_text P-lines (key_of (read_nest P-lines).nest_is)
    ≡ frames_text
    ((0x21 ∷ 0x05 ∷ []) ∷
    (0x21 ∷ 0x0b ∷ []) ∷
    (0x22 ∷ 0x00 ∷ 0x00 ∷ []) ∷
    (0x22 ∷ 0x01 ∷ 0x01 ∷ []) ∷
    (0x22 ∷ 0x07 ∷ 0x01 ∷ []) ∷
    [])
case_1_program = rw (P-read, computed_keys.of_P) case_1_written

-- case 11: the key of the blank paper is empty, and the program writes 220000 for the empty text
pub blank_key : HasKey blank [] (0 ∷ [])
blank_key = bare_key

pub case_11_program
    : program_text [] (key_of (read_nest []).nest_is) ≡ frames_text ((0x22 ∷ 0x00 ∷ 0x00 ∷ []) ∷ [])
case_11_program = rw (case_11_read, computed_keys.of_bare) case_11_written

-- 02, job 7: the program writes 2103, 2105, 220002 for the paper with barred gaps, and 2f0f0000 for the one that is
-- blocked, whatever key is given
pub barred_program
    : program_text (nest_text paper_barred) (key_of paper_barred)
    ≡ frames_text ((0x21 ∷ 0x03 ∷ []) ∷ (0x21 ∷ 0x05 ∷ []) ∷ (0x22 ∷ 0x00 ∷ 0x02 ∷ []) ∷ [])
unfolding key_text counts_from
barred_program =
    program_accepted paper_barred (key_of paper_barred) refl barred-key.unblocked ∙ rw computed_keys.of_barred

pub blocked_program
    : (key : List ℕ)
    → program_text (nest_text paper_blocked) key ≡ frames_text ((0x2f ∷ 0x0f ∷ 0x00 ∷ 0x00 ∷ []) ∷ [])
blocked_program key = program_blocked paper_blocked key refl blocked_no_key.blocked
