-- Desks: a nest at most, a key at most, the candidate's sitting and moves; numbers 10, 11 and 15; what the calls answer.
-- Main definitions: `Desk`, `with_play`, `with_key`, `desk_in`, `over_in`, `IsMade`, `IsMadePlain`, `state_fault`,
-- `plan_fault`, `list_fault`, `list_uncut`.
use Rattle.std.specs.Prelude.{◌≡◌, Bool, true, false, ◌&&◌, ◌||◌, not, List, [], ◌∷◌, ℕ, suc, eqb}
use Rattle.laws.specs.Choice.{pick, when, first_of}
use Rattle.paper_nests.specs.Kinds.{INDEPENDENT, CARRIED}
use Rattle.paper_nests.specs.Nests.{Dep, Nest, empty}
use Rattle.paper_nests.specs.Valid.{is_valid, dep_fault}
use Rattle.paper_nests.specs.Stored.{nest_in, IsCounted}
use Rattle.paper_placements.specs.Placements.{cuts, avoids}
use Rattle.paper_placements.specs.Words.{gaps_in}
use Rattle.paper_barred.specs.Reduced.{is_blocked}
use Rattle.plan_theorem.specs.KeyOf.{key_of}
use Rattle.desk_sitting.specs.Kept.{barriers, Kept}
use Rattle.desk_moves.specs.declared.Move as DM
use Rattle.desk_moves.specs.Ring.{moves_in, IsRing}
use Rattle.desk_moves.specs.TakeBack.{Play, play, History}
use Rattle.desk_moves.specs.Game.{sitting_game}
use Rattle.desk.specs.declared.Desk as DD
use Rattle.desk.specs.declared.PlainDesk as OD

-- 01, "The desk": a desk holds one nest, and at most one key; 02, job 4: and the candidate's own placement; 02, job 5:
-- and the moves that can be taken back, the latest first
pub record Desk : Type 0 where
  pub has_nest : Bool
  pub nest_is : Nest
  pub has_key : Bool
  pub key : List ℕ
  pub sitting : List ℕ
  pub moves : List DM.Move

abbrev pub desk : Bool → Nest → Bool → List ℕ → List ℕ → List DM.Move → Desk
desk a n b k gs ms = record { has_nest = a; nest_is = n; has_key = b; key = k; sitting = gs; moves = ms }

-- 01, "The desk": it starts empty
abbrev pub empty_desk : Desk
empty_desk = desk false empty false [] [] []

-- 02, jobs 4 and 5: after Load there is no key, the sitting is empty and there are no moves
abbrev pub loaded_desk : Nest → Desk
loaded_desk n = desk true n false [] [] []

-- the sitting with its moves, and the desk with another such, all else as it was
abbrev pub play_on : Desk → Play (List ℕ) DM.Move
play_on x = play x.sitting x.moves

abbrev pub with_play : Play (List ℕ) DM.Move → Desk → Desk
with_play p x = desk x.has_nest x.nest_is x.has_key x.key p.state p.kept

-- 02, job 6: the key follows from the nest alone
abbrev pub with_key : Desk → Desk
with_key x = desk x.has_nest x.nest_is true (key_of x.nest_is) x.sitting x.moves

-- what the code's desk holds
abbrev pub desk_in : DD.Desk → Desk
desk_in d =
    desk
    d.loaded
    (nest_in d.nest)
    d.planned
    (gaps_in d.key.words)
    (barriers d.sitting)
    (moves_in d.moves)

-- 02, job 4: a desk of the kind before sittings goes over with its nest and an empty sitting; 02, job 6: with the
-- key of its nest where it had one; 02, job 7: and the nest is not blocked
abbrev pub over_in : OD.PlainDesk → Desk
over_in d =
    let x = desk d.loaded (nest_in d.nest) false [] [] [] in
    pick (d.planned && not (is_blocked (nest_in d.nest))) (with_key x) x

-- 01, "The desk": desks come only from these calls; this is what such a desk holds. Its moves led to its sitting. 02,
-- job 7: a blocked nest has no key, and the sitting avoids barred gaps.
pub record IsPaper (x : Desk) : Type 0 where
  pub valid : x.has_nest ≡ true → is_valid x.nest_is ≡ true
  pub no_nest : x.has_nest ≡ false → x ≡ empty_desk
  pub key_is : x.has_key ≡ true → x.key ≡ key_of x.nest_is
  pub no_key : x.has_key ≡ false → x.key ≡ []
  pub opens : x.has_key ≡ true → is_blocked x.nest_is ≡ false
  pub avoiding : avoids x.nest_is.barred x.sitting ≡ true
  pub led : History (sitting_game x.nest_is) x.moves x.sitting

-- a desk made by calls; 02, job 4: what its sitting keeps equals a fresh count over the placement
pub record IsMade (d : DD.Desk) : Type 0 where
  pub counted : IsCounted d.nest
  pub paper : IsPaper (desk_in d)
  pub kept : Kept (nest_in d.nest) d.sitting
  pub ring : IsRing d.moves

-- one of the kind before sittings, whatever its key
pub record IsMadePlain (d : OD.PlainDesk) : Type 0 where
  pub counted : IsCounted d.nest
  pub valid : d.loaded ≡ true → is_valid (nest_in d.nest) ≡ true
  pub no_nest : d.loaded ≡ false → nest_in d.nest ≡ empty
  pub no_key : d.loaded ≡ false → d.planned ≡ false

-- 01, "Numbers from the state": 10, no nest; 11, a nest but no key
abbrev pub state_fault : Bool → Desk → ℕ
state_fault wants_key d = first_of (when (not d.has_nest) 10) (when (wants_key && not d.has_key) 11)

-- 02, job 7: 15, some dependence has all its gaps barred, from Plan after 10
abbrev pub plan_fault : Desk → ℕ
plan_fault x = first_of (state_fault false x) (when (is_blocked x.nest_is) 15)

-- a refusal: its number and its line, or the record's place in a list; 0 and 0 for none
pub record Fault : Type 0 where
  pub number : ℕ
  pub place : ℕ

abbrev pub fault : ℕ → ℕ → Fault
fault n p = record { number = n; place = p }

-- 01, "Numbers from the input": of a listed record only 2 (unknown kind), 6 and 7 apply
abbrev pub record_fault : List ℕ → Dep → ℕ
record_fault ps e = first_of (when (not (eqb e.kind INDEPENDENT || eqb e.kind CARRIED)) 2) (dep_fault ps e)

-- the first faulty record of a list, with its place counted from k
abbrev pub list_fault : ℕ → List ℕ → List Dep → Fault
list_fault k ps [] = fault 0 0
list_fault k ps (e ∷ es) = pick (eqb (record_fault ps e) 0) (list_fault (suc k) ps es) (fault (record_fault ps e) k)

-- the place of the first record that the gaps don't cut, counted from k; 0 for none
abbrev pub list_uncut : ℕ → List ℕ → List Dep → List ℕ → ℕ
list_uncut k ps [] gs = 0
list_uncut k ps (e ∷ es) gs = pick (cuts ps e gs) (list_uncut (suc k) ps es gs) k
