-- The paper 01 03 02 with 3 turns, worked out by the page alone: gap 1 is called 3 times. So the page of request 11
-- excludes a program that counts each barrier once, and one that counts the turns once for all barriers.
-- Main statements: `three_calls`, `six_calls`, `runs_excluded`.
use mathlib.Core.Path.{◌≡◌, refl, subst}
use mathlib.Core.List.{List, [], ◌∷◌}
use Prim.Native.Nat.{ℕ, ◌*◌, ◌≤◌}
use native.Mathlib.Omega.{arith}
use lib.ListN.{length}
use Rattle.pages.specs.Demands.{At, Loop}
use Rattle.pages_requests.proofs.TextbookCases.{turn}
use Rattle.pages_requests.proofs.FirstCases.{loop_0}
use Rattle.pages_calls.specs.CallsInRun.{Dos, Times, Calls}

abbrev ps : List ℕ
ps = turn.points

abbrev three : List ℕ
three = 3 ∷ []

no_dos : (i : ℕ) → Dos ps 0 i → i ≡ 0
no_dos i Dos.none = refl

start : (g k : ℕ) → Times ps three g 0 k → k ≡ 1
start g k Times.none = refl

-- up to and with point 0
times_1 : (g k : ℕ) → g ≤ 2 → Times ps three g 1 k → k ≡ 3
times_1 g k l (Times.around {i = i} {k = j} t o m d h r) =
    let z = subst (λ (x : ℕ). At three x t) (no_dos i d) h in
    let y = start g j r in
    let w : t * j ≡ 3 * 1 = cc (z, y) in
    omega (arith, w)
times_1 g k l (Times.other h r) = absurd (h 2 loop_0 l)

-- point 1 is no DO
no_loop_1 : (e : ℕ) → Loop ps 1 e → ⊥
no_loop_1 e l = omega (arith, l.begins)

times_2 : (g k : ℕ) → g ≤ 2 → Times ps three g 2 k → k ≡ 3
times_2 g k l (Times.around {e = e} t o m d h r) = absurd (no_loop_1 e o)
times_2 g k l (Times.other h r) = times_1 g k l r

pub three_calls : (c : ℕ) → Calls ps three (1 ∷ []) c → c ≡ 3
three_calls c (Calls.more {k = k} t Calls.none) = omega (arith, times_1 1 k (omega arith) t)

pub six_calls : (c : ℕ) → Calls ps three (1 ∷ 2 ∷ []) c → c ≡ 6
six_calls c (Calls.more {k = k} t (Calls.more {k = j} u Calls.none)) =
    omega (arith, times_1 1 k (omega arith) t, times_2 2 j (omega arith) u)

abbrev Counts : Type 0
Counts = List ℕ → List ℕ → List ℕ → ℕ

abbrev Keeps : Counts → Type 0
Keeps f = (ps ts gs : List ℕ) → Calls ps ts gs (f ps ts gs)

pub record RunsExcluded : Type 0 where
  pub each_once : (f : Counts) → ((ps ts gs : List ℕ) → f ps ts gs ≡ length gs) → Keeps f → ⊥
  pub turns_once : (f : Counts) → ((ps : List ℕ) (t : ℕ) (gs : List ℕ) → f ps (t ∷ []) gs ≡ t) → Keeps f → ⊥

pub runs_excluded : RunsExcluded
runs_excluded =
    record {
      each_once =
          λ f h k. omega (arith, h ps three (1 ∷ []), three_calls (f ps three (1 ∷ [])) (k ps three (1 ∷ [])));
      turns_once =
          λ f h k.
          omega (arith, h ps 3 (1 ∷ 2 ∷ []), six_calls (f ps three (1 ∷ 2 ∷ [])) (k ps three (1 ∷ 2 ∷ [])));
    }
