-- The first line of an argument that does not hold.
-- Main definitions: `Judging`, `judge_from`, `judged`.
use Rattle.std.specs.Prelude.{Bool, ◌||◌, List, [], ◌∷◌, ◌++◌, ℕ, suc, eqb, length}
use Rattle.laws.specs.Choice.{pick}
use Rattle.paper_nests.specs.Nests.{Nest}
use Rattle.paper_nests.specs.Loops.{is_do}
use Rattle.argue_claims.specs.Arguments.{Claim, Known, Count, claim, st, step, begun, ended, known_of, all_low}
use Rattle.argue_texts.specs.ArgumentTexts.{Part, Claims, By, Names, Unknown, rest_of}

-- the claim that is open and its line, 0 where there is none yet; what its steps so far count; one more than the claim
-- that leads its next step, or 0; the claims before it
pub record Judging : Type 0 where
  pub line : ℕ
  pub open_is : Claim
  pub count : Count
  pub by : ℕ
  pub known : List Known

abbrev pub unbegun : Judging
unbegun = record { line = 0; open_is = claim 0 0 0 []; count = begun; by = 0; known = [] }

abbrev pub led_by : ℕ → Judging → Judging
led_by m x = record { line = x.line; open_is = x.open_is; count = x.count; by = suc m; known = x.known }

module _ (n : Nest) (key : List ℕ) where
  -- the claim that is open holds, or there is none
  abbrev pub closes : Judging → Bool
  closes x = eqb x.line 0 || ended n key x.open_is x.count

  -- the claims up to the one that is open
  abbrev pub known_now : Judging → List Known
  known_now x = pick (eqb x.line 0) [] (x.known ++ (known_of n key x.open_is x.count ∷ []))

  abbrev pub opened : ℕ → Claim → Judging → Judging
  opened k c x = record { line = k; open_is = c; count = begun; by = 0; known = known_now x }

  abbrev pub counting : ℕ → Judging → Count
  counting s x = step n key x.open_is x.known (st s x.by) x.count

  abbrev pub stepped : ℕ → Judging → Judging
  stepped s x =
      record { line = x.line; open_is = x.open_is; count = counting s x; by = 0; known = x.known }

  -- the first line that does not hold, of parts from line k on, 0 for none: a step's, or that of a claim which its
  -- steps do not show, or which is of no loop; the line after the last where a loop has no low claim
  unfoldable pub judge_from : ℕ → Judging → List Part → ℕ
  judge_from k x [] = pick (closes x) (pick (all_low n key (known_now x) (length n.points)) 0 k) x.line
  judge_from k x (Claims d a b ∷ ps) =
      let r = judge_from (suc k) (opened k (claim d a b (rest_of 0 ps).steps) x) ps in
      pick (closes x) (pick (is_do n.points d) r k) x.line
  judge_from k x (By m ∷ ps) = judge_from (suc k) (led_by m x) ps
  judge_from k x (Names s ∷ ps) =
      let r = judge_from (suc k) (stepped s x) ps in
      pick (counting s x).fine r k
  judge_from k x (Unknown ∷ ps) = judge_from (suc k) x ps

  unfoldable pub judged : List Part → ℕ
  judged ps = judge_from 1 unbegun ps
