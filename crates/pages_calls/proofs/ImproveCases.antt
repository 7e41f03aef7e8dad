-- The case of request 13: with all turns 1 and a budget of 10 the nest 01 03 01 03 03 03 02 03 02 with 110104, 110307
-- goes from 2, 7 to gap 4 alone in 10 tries, ended by a whole round: the page's rounds lead there. What the page says
-- of each end excludes a program that tries nothing, and one that names the budget with tries left.
-- Main statements: `worked_rounds`, `some_tries`, `budget_used`, `improve_excluded`.
use mathlib.Core.Path.{◌≡◌, refl, subst}
use mathlib.Core.Bool.{true}
use mathlib.Core.List.{List, [], ◌∷◌}
use Prim.Native.Nat.{ℕ, suc, ◌+◌, ◌≤◌, ◌<◌}
use native.Mathlib.Omega.{arith}
use Rattle.laws.specs.Choice.{pick}
use Rattle.paper_nests.specs.declared.Dependence.{Dependence}
use Rattle.paper_nests.specs.Valid.{is_valid}
use Rattle.paper_placements.specs.Words.{gaps_of}
use Rattle.run_barriers.specs.Calls.{dos_before}
use Rattle.call_improve.specs.Rounds.{Outcome}
use Rattle.call_improve.specs.Tries.{free_of}
use Rattle.call_improve.proofs.ImprovingCases.{worked_tries}
use Rattle.pages.specs.Demands.{Paper}
use Rattle.pages.proofs.Placements.{nest_of}
use Rattle.pages_calls.specs.Improve.{Rounds}
use Rattle.pages_calls.proofs.ImproveKept.{free_in, rounds_made}

abbrev forward : ℕ → ℕ → Dependence
forward s t = record { kind = 17; d = 0; s = s; t = t }

abbrev once : Paper
once = record { points = 1 ∷ 3 ∷ 1 ∷ 3 ∷ 3 ∷ 3 ∷ 2 ∷ 3 ∷ 2 ∷ []; deps = forward 1 4 ∷ forward 3 7 ∷ []; barred = [] }

valid : is_valid (nest_of once []) ≡ true
valid = refl

long : 2 ≡ dos_before once.points 9
unfolding dos_before
long = refl

free_are : free_of (nest_of once []) (2 ∷ 7 ∷ []) ≡ 1 ∷ 3 ∷ 4 ∷ 5 ∷ 6 ∷ 8 ∷ []
unfolding gaps_of
free_are = refl

pub worked_rounds : Rounds once (1 ∷ 1 ∷ []) 10 (2 ∷ 7 ∷ []) (1 ∷ 3 ∷ 4 ∷ 5 ∷ 6 ∷ 8 ∷ []) 0 (4 ∷ []) 10 0
worked_rounds =
    subst (λ (gs : List ℕ). Rounds once (1 ∷ 1 ∷ []) 10 (2 ∷ 7 ∷ []) gs 0 (4 ∷ []) 10 0) free_are
    (subst
    (λ (o : Outcome). Rounds once (1 ∷ 1 ∷ []) 10 (2 ∷ 7 ∷ []) (free_of (nest_of once []) (2 ∷ 7 ∷ [])) 0 o.gaps
    o.tries (pick o.whole 0 1))
    worked_tries.ten
    (rounds_made once [] valid refl (1 ∷ 1 ∷ []) long 10 (2 ∷ 7 ∷ []) (free_of (nest_of once []) (2 ∷ 7 ∷ [])) 0 refl
    (free_in once [] valid refl (2 ∷ 7 ∷ []))))

module _ (p : Paper) (ts : List ℕ) where
  -- tries are only added
  tries_grow
      : (b : ℕ) (xs gs : List ℕ) (k : ℕ) (out : List ℕ) (m e : ℕ) → Rounds p ts b xs gs k out m e → k ≤ m
  tries_grow b xs gs k out m e Rounds.whole = omega arith
  tries_grow b xs gs k out m e Rounds.budget = omega arith
  tries_grow b xs gs k out m e (Rounds.taken {b = c} {ys = ys} {hs = hs} u v t w x l f r) =
      omega (arith, tries_grow c ys hs (suc k) out m e r)
  tries_grow b xs gs k out m e (Rounds.left {b = c} {gs = hs} u v t w x l r) =
      omega (arith, tries_grow c xs hs (suc k) out m e r)

  -- with a gap to try and a budget there is a try
  pub some_tries
      : (b : ℕ) (xs gs : List ℕ) (g k : ℕ) (out : List ℕ) (m e : ℕ) → Rounds p ts (suc b) xs (g ∷ gs) k out m e → k < m
  some_tries b xs gs g k out m e (Rounds.taken {ys = ys} {hs = hs} u v t w x l f r) =
      omega (arith, tries_grow b ys hs (suc k) out m e r)
  some_tries b xs gs g k out m e (Rounds.left u v t w x l r) = omega (arith, tries_grow b xs gs (suc k) out m e r)

  -- the budget is named only if all its tries are made
  pub budget_used
      : (b : ℕ) (xs gs : List ℕ) (k : ℕ) (out : List ℕ) (m : ℕ) → Rounds p ts b xs gs k out m 1 → m ≡ k + b
  budget_used b xs gs k out m Rounds.budget = omega arith
  budget_used b xs gs k out m (Rounds.taken {b = c} {ys = ys} {hs = hs} u v t w x l f r) =
      omega (arith, budget_used c ys hs (suc k) out m r)
  budget_used b xs gs k out m (Rounds.left {b = c} {gs = hs} u v t w x l r) =
      omega (arith, budget_used c xs hs (suc k) out m r)

-- how many tries a program makes on the case's paper, with what end
abbrev Ends : ℕ → ℕ → Type 0
Ends m e = (out : List ℕ) × Rounds once (1 ∷ 1 ∷ []) 10 (2 ∷ 7 ∷ []) (1 ∷ 3 ∷ 4 ∷ 5 ∷ 6 ∷ 8 ∷ []) 0 out m e

pub record ImproveExcluded : Type 0 where
  pub tries_nothing : (e : ℕ) → Ends 0 e → ⊥
  pub budget_left : Ends 9 1 → ⊥

pub improve_excluded : ImproveExcluded
improve_excluded =
    record {
      tries_nothing =
          λ e r. omega (
            arith,
            some_tries once (1 ∷ 1 ∷ []) 9 (2 ∷ 7 ∷ []) (3 ∷ 4 ∷ 5 ∷ 6 ∷ 8 ∷ []) 1 0 r.0 0 e
                r.1,
          );
      budget_left =
          λ r.
          omega (
            arith,
            budget_used once (1 ∷ 1 ∷ []) 10 (2 ∷ 7 ∷ []) (1 ∷ 3 ∷ 4 ∷ 5 ∷ 6 ∷ 8 ∷ []) 0 r.0 9 r.1,
          );
    }
