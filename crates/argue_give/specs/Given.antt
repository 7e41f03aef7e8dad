-- Claims given one after the other: their text in a buffer, and what they say in a list.
-- Main definitions: `Given`, `Gives`, `GiveRoom`, `GiveGround`, `RowGround`, `RowRoom`, `run_at`.
use Rattle.std.specs.Prelude.{◌≡◌, Bool, true, ◌&&◌, ◌||◌, not, List, [], ◌∷◌, ◌++◌, length, take}
use Rattle.std.specs.Prelude.{ℕ, suc, ◌+◌, ◌*◌, ◌≤◌, ◌<◌, eqb}
use Rattle.laws.specs.Entries.{at}
use Rattle.paper_nests.specs.Loops.{is_do, end_of, owner_of}
use Rattle.paper_nests.specs.Valid.{is_shape}
use Rattle.paper_nests.specs.Nests.{Dep}
use Rattle.paper_nests.specs.declared.Nest as DN
use Rattle.paper_nests.specs.Stored.{nest_in, IsCounted}
use Rattle.plan_method.specs.Sweep.{Tables}
use Rattle.plan_method.specs.Home.{reach_of, loops_in}
use Rattle.plan_method.proofs.World.{Child}
use Rattle.plan_method.proofs.Instance.{AllFit}
use Rattle.plan_sweeps.specs.Listed.{row, SweepRoom}
use Rattle.argue_claims.specs.Arguments.{Claim, claim}
use Rattle.argue_texts.specs.ArgumentTexts.{CLAIMS, argument_text}
use Rattle.argue_texts.specs.declared.Claimed.{Claimed}
use Rattle.argue_key.specs.Laps.{Head, made}
use Rattle.argue_sets.specs.Numbered.{line_set}
use Rattle.argue_spell.specs.Added.{Added}
use Rattle.argue_trace.specs.Traced.{claims_in, SetsRoom}

-- no claim has more bytes
abbrev pub BYTES : ℕ
BYTES = 1048576

-- claims without their steps
unfoldable pub bare_all : List Claim → List Claim
bare_all [] = []
bare_all (k ∷ ks) = claim k.loop k.from k.upto [] ∷ bare_all ks

-- the claims cs: their text stands over what the buffer held first, and the first entries of a list hold what they say
pub record Given (cs : List Claim) (first out : List ℕ) (at : ℕ) (claims : List Claimed) (many : ℕ) : Type 0 where
  pub added : Added (argument_text cs) 0 first out at
  pub bare : bare_all cs ≡ claims_in (take many claims)

-- the claims with the heads hs come to those given, of any tables that G is true of; where there are too many their
-- number alone is counted
pub record Gives
    (ps : List ℕ)
    (ds : List Dep)
    (G : Tables → Type 0)
    (hs : Tables → List Head)
    (out : List ℕ)
    (at : ℕ)
    (claims : List Claimed)
    (many : ℕ)
    (out' : List ℕ)
    (at' : ℕ)
    (claims' : List Claimed)
    (many' : ℕ)
    : Type 0 where
  pub many_is : (T : Tables) → G T → many' ≡ many + length (hs T)
  pub given
      : (T : Tables)
      → G T
      → (cs : List Claim) (first : List ℕ)
      → many' ≤ CLAIMS
      → Given cs first out at claims many
      → Given (cs ++ made ps ds T cs (hs T)) first out' at' claims' many'
  pub grows : many ≤ many'
  pub near : at ≤ BYTES * many → at' ≤ BYTES * many'

-- the loop d with its ENDDO e in its nest, and room for its claims
pub record GiveRoom
    (nest : DN.Nest)
    (ps own left : List ℕ)
    (kids : ℕ)
    (need sets : List ℕ)
    (claims : List Claimed)
    (d e : ℕ)
    : Type 0 where
  pub counted : IsCounted nest
  pub points_are : ps ≡ (nest_in nest).points
  pub shape : is_shape ps ≡ true
  pub fit : AllFit ps (nest_in nest).deps
  pub is-do : is_do ps d ≡ true
  pub e_is : e ≡ end_of ps d
  pub short : e < 256
  pub sweeps : SweepRoom ps own need left kids e
  pub sets_room : SetsRoom sets e
  pub claims_room : CLAIMS ≤ length claims

-- the lists hold what the laps of d read of the tables T
pub record GiveGround
    (nest : DN.Nest)
    (ps own left : List ℕ)
    (kids : ℕ)
    (need sets : List ℕ)
    (d e : ℕ)
    (T : Tables)
    : Type 0 where
  pub own_is : (p : ℕ) → p < length ps → at own p ≡ owner_of ps p
  pub left_is
      : (l q : ℕ) → Child (loops_in ps) d (end_of ps l) l → l < end_of ps d → l < q → q ≤ end_of ps l →
      row left kids q ≡ T.left l q
  pub need_is : (a : ℕ) → d < a → a ≤ e → at need a ≡ reach_of ps (nest_in nest).deps d a
  pub sets_is : (a : ℕ) → d < a → a ≤ e → at sets a ≡ line_set ps (nest_in nest).deps d a

-- and the row and the cost of d
pub record RowGround
    (nest : DN.Nest)
    (ps own left : List ℕ)
    (kids base : ℕ)
    (need sets : List ℕ)
    (d e cost : ℕ)
    (T : Tables)
    : Type 0 where
  pub ground : GiveGround nest ps own left kids need sets d e T
  pub row_is : (q : ℕ) → d < q → q ≤ e → row left base q ≡ T.left d q
  pub cost_is : cost ≡ T.cost d

-- room for the row of d that starts at base, in which no front lies beyond the loop
pub record RowRoom (left : List ℕ) (base d e : ℕ) : Type 0 where
  pub near : base ≤ 2304
  pub room : base + e < length left
  pub high : (q : ℕ) → d < q → q ≤ e → row left base q ≤ e

-- the gap behind point b is the first of a run of equal fronts, before which a gap of d lies
abbrev pub run_at : List ℕ → ℕ → ℕ → ℕ → Bool
run_at left base d b =
    not (eqb (row left base (suc b)) (suc d)) && (eqb b d || not (eqb (row left base (suc b)) (row left base b)))
