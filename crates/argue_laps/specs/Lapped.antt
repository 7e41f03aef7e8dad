-- The laps of a claim, of any tables and claims that the code's lists hold.
-- Main definitions: `LapRoom`, `LapGround`, `CloseSays`, `LapSays`, `LapsSay`.
use Rattle.std.specs.Prelude.{◌≡◌, true, List, ℕ, suc, ◌+◌, ◌*◌, ◌≤◌, ◌<◌, ltb, length}
use Rattle.laws.specs.Choice.{pick}
use Rattle.laws.specs.Entries.{at}
use Rattle.paper_nests.specs.Loops.{is_do, end_of, owner_of}
use Rattle.paper_nests.specs.Valid.{is_shape}
use Rattle.paper_nests.specs.declared.Nest as DN
use Rattle.paper_nests.specs.Stored.{nest_in, IsCounted}
use Rattle.plan_method.specs.Sweep.{Tables, State}
use Rattle.plan_method.specs.Home.{reach_of, loops_in}
use Rattle.plan_method.proofs.World.{Child}
use Rattle.plan_method.proofs.Instance.{AllFit}
use Rattle.plan_sweeps.specs.Listed.{row, SweepRoom}
use Rattle.argue_claims.specs.Arguments.{Claim}
use Rattle.argue_texts.specs.ArgumentTexts.{CLAIMS, steps_text}
use Rattle.argue_texts.specs.declared.Claimed.{Claimed}
use Rattle.argue_key.specs.Laps.{Start, starting, find_claim, lead_in, close_up, close_step, lap_end, lap_steps, laps}
use Rattle.argue_sets.specs.Numbered.{line_set}
use Rattle.argue_spell.specs.Added.{Added}
use Rattle.argue_trace.specs.Traced.{claims_in, SetsRoom}

-- no lap has more bytes
abbrev pub LAP : ℕ
LAP = 3584

-- the loop d with its ENDDO e in its nest, and room for its sweeps
pub record LapRoom
    (nest : DN.Nest)
    (ps own left : List ℕ)
    (kids : ℕ)
    (need sets : List ℕ)
    (claims : List Claimed)
    (d e from : ℕ)
    : Type 0 where
  pub counted : IsCounted nest
  pub points_are : ps ≡ (nest_in nest).points
  pub shape : is_shape ps ≡ true
  pub fit : AllFit ps (nest_in nest).deps
  pub is-do : is_do ps d ≡ true
  pub e_is : e ≡ end_of ps d
  pub short : e < 256
  pub from_in : from ≤ e
  pub sweeps : SweepRoom ps own need left kids e
  pub sets_room : SetsRoom sets e
  pub few_claims : length claims ≤ CLAIMS

-- the lists hold the tables T and the claims cs
pub record LapGround
    (nest : DN.Nest)
    (ps own left : List ℕ)
    (kids : ℕ)
    (need sets : List ℕ)
    (claims : List Claimed)
    (d e : ℕ)
    (T : Tables)
    (cs : List Claim)
    : Type 0 where
  pub own_is : (p : ℕ) → p < length ps → at own p ≡ owner_of ps p
  pub left_is
      : (l q : ℕ) → Child (loops_in ps) d (end_of ps l) l → l < end_of ps d → l < q → q ≤ end_of ps l →
      row left kids q ≡ T.left l q
  pub need_is : (a : ℕ) → d < a → a ≤ e → at need a ≡ reach_of ps (nest_in nest).deps d a
  pub sets_is : (a : ℕ) → d < a → a ≤ e → at sets a ≡ line_set ps (nest_in nest).deps d a
  pub claims_are
      : (l a t : ℕ) → find_claim (claims_in claims) l a t ≡ find_claim cs l a t

-- the suffix that is left: of the last that goes back, or the one supposed
abbrev pub suffix_for : Start → ℕ → Start
suffix_for r from = pick (ltb from r.at) (starting r.at (suc (suc r.num))) (starting from 0)

-- the end of a sweep closed, with its step
pub record CloseSays (d upto c f at : ℕ) (out out' : List ℕ) (c' f' next : ℕ) : Type 0 where
  pub c_is : (s : State) → c ≡ s.c → f ≡ s.f → c' ≡ (close_up d upto s).c
  pub f_is : (s : State) → c ≡ s.c → f ≡ s.f → f' ≡ (close_up d upto s).f
  pub step_is : Added (steps_text (close_step upto f)) at out out' next
  pub near : next ≤ at + 14

-- one lap
pub record LapSays
    (nest : DN.Nest)
    (ps own left : List ℕ)
    (kids : ℕ)
    (need sets : List ℕ)
    (claims : List Claimed)
    (d e from upto f : ℕ)
    (out : List ℕ)
    (at : ℕ)
    (out' : List ℕ)
    (c' f' next : ℕ)
    : Type 0 where
  pub c_is
      : (T : Tables) (cs : List Claim)
      → LapGround nest ps own left kids need sets claims d e T cs
      → (few : ℕ)
      → c' ≡ (lap_end ps (nest_in nest).deps T (lead_in T cs) d from upto few f).c
  pub f_is
      : (T : Tables) (cs : List Claim)
      → LapGround nest ps own left kids need sets claims d e T cs
      → (few : ℕ)
      → f' ≡ (lap_end ps (nest_in nest).deps T (lead_in T cs) d from upto few f).f
  pub steps_are
      : (T : Tables) (cs : List Claim)
      → LapGround nest ps own left kids need sets claims d e T cs
      → (few : ℕ)
      → Added (steps_text (lap_steps ps (nest_in nest).deps T (lead_in T cs) d from upto few f)) at out out' next
  pub near : next ≤ at + LAP

-- all laps
pub record LapsSay
    (nest : DN.Nest)
    (ps own left : List ℕ)
    (kids : ℕ)
    (need sets : List ℕ)
    (claims : List Claimed)
    (d e from upto few : ℕ)
    (out : List ℕ)
    (at : ℕ)
    (out' : List ℕ)
    (next : ℕ)
    : Type 0 where
  pub steps_are
      : (T : Tables) (cs : List Claim)
      → LapGround nest ps own left kids need sets claims d e T cs
      → Added
      (steps_text (laps ps (nest_in nest).deps T (lead_in T cs) d from upto few (suc (suc (end_of ps d))) (suc d)))
      at out out' next
  pub near : next ≤ at + LAP * (e + 2)
