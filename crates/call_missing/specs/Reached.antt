-- What is left of a placement where some flagged loops are skipped.
-- Main definitions: `NotSkipped`, `Substituted`, `IsReached`, `AllForeign`.
use Rattle.std.specs.Prelude.{◌≡◌, true, false, List, ◌⊎◌, ℕ}
use Rattle.laws.specs.Choice.{is_in}
use Rattle.paper_nests.specs.Nests.{Dep, Nest}
use Rattle.paper_nests.specs.Loops.{in_loop, is_around}
use Rattle.paper_nests.specs.Gaps.{has_gap}
use Rattle.call_missing.specs.Foreign.{is_foreign}
use Rattle.call_missing.specs.Listed.{is_listed}

-- a barrier that cuts the dependence in no skipped loop
pub record NotSkipped (ps : List ℕ) (e : Dep) (skipped gs : List ℕ) : Type 0 where
  pub gap : ℕ
  pub placed : is_in gap gs ≡ true
  pub cut : has_gap ps e gap ≡ true
  pub clear : (d : ℕ) → is_in d skipped ≡ true → is_around ps gap d ≡ false

-- a barrier that cuts the dependence inside a loop that is skipped and listed, with no skipped loop around that loop:
-- the barrier for its missing run is reached
pub record Substituted (ps : List ℕ) (ds : List Dep) (fs : List ℕ) (e : Dep) (skipped gs : List ℕ) : Type 0 where
  pub gap : ℕ
  pub placed : is_in gap gs ≡ true
  pub cut : has_gap ps e gap ≡ true
  pub loop : ℕ
  pub inside : is_around ps gap loop ≡ true
  pub is_skipped : is_in loop skipped ≡ true
  pub is-listed : is_listed ps ds fs gs loop ≡ true
  pub outermost : (d : ℕ) → is_in d skipped ≡ true → in_loop ps d loop ≡ false

abbrev pub IsReached : List ℕ → List Dep → List ℕ → Dep → List ℕ → List ℕ → Type 0
IsReached ps ds fs e skipped gs = NotSkipped ps e skipped gs ⊎ Substituted ps ds fs e skipped gs

-- all the skipped loops are foreign to the dependence
abbrev pub AllForeign : Nest → Dep → List ℕ → Type 0
AllForeign n e skipped = (d : ℕ) → is_in d skipped ≡ true → is_foreign n.points n.flagged e d ≡ true
