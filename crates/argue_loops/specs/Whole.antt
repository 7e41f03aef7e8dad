-- The claims of all loops, from the planner's tables.
-- Main definitions: `GiveTables`, `TableGround`, `ListsRoom`, `GivenAll`.
use Rattle.std.specs.Prelude.{◌≡◌, true, List, [], ℕ, ◌*◌, ◌≤◌, ◌<◌, length}
use Rattle.laws.specs.Entries.{at}
use Rattle.paper_nests.specs.Loops.{is_do, end_of}
use Rattle.paper_nests.specs.declared.Nest as DN
use Rattle.paper_nests.specs.Stored.{nest_in, IsCounted}
use Rattle.plan_method.specs.Sweep.{Tables}
use Rattle.plan_method.specs.Home.{reach_of}
use Rattle.plan_method.proofs.Instance.{AllFit}
use Rattle.plan_tables.specs.Charts.{HeightsAre}
use Rattle.plan_sweeps.specs.Listed.{row}
use Rattle.plan_settle.specs.Settled.{HasHeight, Charts}
use Rattle.argue_texts.specs.ArgumentTexts.{CLAIMS, argument_text}
use Rattle.argue_texts.specs.declared.Claimed.{Claimed}
use Rattle.argue_key.specs.Laps.{heads_from, made}
use Rattle.argue_sets.specs.Numbered.{line_set}
use Rattle.argue_spell.specs.Added.{WORD, Added}

-- the tables of a nest: its charts, the heights of its loops, room for the rows, and fronts that lie in their loops
pub record GiveTables
    (nest : DN.Nest)
    (ps own ends heights left reach numbers costs : List ℕ)
    : Type 0 where
  pub counted : IsCounted nest
  pub points_are : ps ≡ (nest_in nest).points
  pub fit : AllFit ps (nest_in nest).deps
  pub charts : Charts ps own ends
  pub heights_are : HeightsAre ps heights
  pub heights_room : 256 ≤ length heights
  pub left_room : 2304 ≤ length left
  pub reach_room : 2304 ≤ length reach
  pub numbers_room : 2304 ≤ length numbers
  pub costs_room : 256 ≤ length costs
  pub fronts
      : (l h q : ℕ) → is_do ps l ≡ true → HasHeight ps l h → l < q → q ≤ end_of ps l → row left (h * 256) q ≤
      end_of ps l

-- they hold the tables T, with the lines of each loop and their sets
pub record TableGround
    (nest : DN.Nest)
    (ps own left reach numbers costs : List ℕ)
    (T : Tables)
    : Type 0 where
  pub left_is
      : (l h q : ℕ) → is_do ps l ≡ true → HasHeight ps l h → l < q → q ≤ end_of ps l → row left (h * 256) q ≡ T.left l q
  pub reach_is
      : (d h a : ℕ) → is_do ps d ≡ true → HasHeight ps d h → d < a → a ≤ end_of ps d → row reach (h * 256) a ≡
      reach_of ps (nest_in nest).deps d a
  pub numbers_is
      : (d h a : ℕ) → is_do ps d ≡ true → HasHeight ps d h → d < a → a ≤ end_of ps d → row numbers (h * 256) a ≡
      line_set ps (nest_in nest).deps d a
  pub costs_are : (d : ℕ) → is_do ps d ≡ true → at costs d ≡ T.cost d

-- room for a row of needs and one of sets, and for the claims
pub record ListsRoom (need sets : List ℕ) (claims : List Claimed) : Type 0 where
  pub need_room : 256 ≤ length need
  pub sets_room : 256 ≤ length sets
  pub sets_small : (a : ℕ) → at sets a ≤ WORD
  pub claims_room : CLAIMS ≤ length claims

-- all claims: how many they are, and, if they are not too many, their text from the start of the buffer on
pub record GivenAll
    (nest : DN.Nest)
    (ps own left reach numbers costs out out' : List ℕ)
    (many at : ℕ)
    : Type 0 where
  pub many_is
      : (T : Tables) → TableGround nest ps own left reach numbers costs T → many ≡
      length (heads_from ps T (length ps) 0 [])
  pub text_is
      : (T : Tables)
      → TableGround nest ps own left reach numbers costs T
      → many ≤ CLAIMS
      → Added (argument_text (made ps (nest_in nest).deps T [] (heads_from ps T (length ps) 0 []))) 0 out out' at
