-- One step of the claim that is open, over tables: its set and what leads it, tested and put into words; the count
-- after it.
-- Main definitions: `set_fits`, `IsSetOf`, `leads_on`, `led_at`, `leads_at`, `gone_after`; `StepRoom`, `PaperTables`,
-- `KnownTables`, `OpenTables`, `AskedTables`, `CountTables`, `StepSays`.
use Rattle.std.specs.Prelude.{◌≡◌, Bool, true, false, ◌&&◌, ◌||◌, List, ℕ, zero, suc, ◌≤◌, ◌<◌, ltb, leb, length}
use Rattle.std.specs.Prelude.{get_or, Option, None, Some, is_some, IfSome}
use Rattle.laws.specs.Choice.{between}
use Rattle.laws.specs.Entries.{at}
use Rattle.paper_nests.specs.Kinds.{POINTS}
use Rattle.paper_nests.specs.Nests.{Nest}
use Rattle.paper_nests.specs.Loops.{is_do, end_of, HasEnds, owner_of, is_inside}
use Rattle.paper_nests.specs.Gaps.{has_gap}
use Rattle.paper_nests.specs.Valid.{is_valid}
use Rattle.paper_nests.specs.Stored.{dep_in}
use Rattle.paper_placements.specs.declared.Placement as DP
use Rattle.paper_placements.specs.Words.{holds}
use Rattle.paper_gaps.specs.Lies.{LiesTo, EndsIn}
use Rattle.argue_claims.specs.Arguments.{Claim, Known, Count, st, known_at, dep_at, fact_out, step}
use Rattle.argue_texts.specs.declared.Claimed as DC
use Rattle.argue_texts.specs.ArgumentTexts.{STEPS}
use Rattle.argue_texts.specs.Parts.{set_in, led_in}
use Rattle.argue_weigh.specs.declared.Open as DO
use Rattle.argue_weigh.specs.declared.Ended as DX
use Rattle.argue_weigh.specs.declared.Asked as DA
use Rattle.argue_weigh.specs.declared.Taken as DT
use Rattle.argue_weigh.specs.Naming.{NamingRoom}
use Rattle.argue_weigh.specs.Excluding.{Excludes}

-- claim m, as the code reads it
abbrev pub claim_at : List DC.Claimed → ℕ → DC.Claimed
claim_at cs m = get_or cs m (record { d = 0; a = 0; b = 0 })

-- the set is there, and where it goes up to b it ends in the loop; `there` says that the nest has its dependence
abbrev pub set_fits : DO.Open → Bool → ℕ → Bool
set_fits o there zero = ltb 0 o.a
set_fits o there (suc zero) = ltb 0 o.b && leb o.b o.e
set_fits o there (suc (suc m)) = there

-- ranges end in the words
pub record SetRoom (o : DO.Open) (s : DA.Asked) : Type 0 where
  pub low : o.d < POINTS
  pub end_low : o.e < POINTS
  pub upto_low : o.b < POINTS
  pub lies : (m : ℕ) → set_in s.set ≡ suc (suc m) → IfSome s.dependence (λ x. LiesTo x.e x.end)

-- a dependence's set has the gap, where `ps` are the points of its nest
abbrev pub gap_of : List ℕ → Option DX.Ended → ℕ → Bool
gap_of ps None g = false
gap_of ps (Some x) g = has_gap ps (dep_in x.e) g

-- the words have the gaps of the set, where `ps` are the points of a nest with this dependence
abbrev pub set_at : List ℕ → DO.Open → DA.Asked → ℕ → ℕ → Bool
set_at ps o s zero g = between o.a g o.e
set_at ps o s (suc zero) g = between (suc o.d) g o.b
set_at ps o s (suc (suc m)) g = gap_of ps s.dependence g

abbrev pub IsSetOf : DO.Open → DA.Asked → List ℕ → Type 0
IsSetOf o s ws =
    (ps : List ℕ) →
    ((m : ℕ) → set_in s.set ≡ suc (suc m) → IfSome s.dependence (λ x. EndsIn ps x.e x.end)) →
    (g : ℕ) →
    holds ws g ≡ set_at ps o s (set_in s.set) g

-- gap g is one of those behind d up to the ENDDO that the table has for it
abbrev pub around_at : List ℕ → ℕ → ℕ → Bool
around_at ends g d = ltb d g && leb g (at ends d)

-- a claim is one of a loop inside, with an a and a b
abbrev pub leads_on : DO.Open → DC.Claimed → Bool
leads_on o k = is_inside o.d o.e k.d && (ltb 0 k.a && ltb 0 k.b)

-- what leads is nothing, or an earlier claim of a loop inside, with an a and a b
abbrev pub led_at : DO.Open → List DC.Claimed → ℕ → Bool
led_at o claims zero = true
led_at o claims (suc m) = ltb m (length claims) && leads_on o (claim_at claims m)

-- the gaps from which it leads on
abbrev pub leads_at : List DC.Claimed → List ℕ → ℕ → ℕ → Bool
leads_at claims ends zero g = false
leads_at claims ends (suc m) g = around_at ends g (claim_at claims m).d && leb (claim_at claims m).a g

-- what is gone after the step: nothing, or also the gaps up to its b
abbrev pub gone_after : List ℕ → List DC.Claimed → List ℕ → ℕ → ℕ → Bool
gone_after gone claims ends zero g = false
gone_after gone claims ends (suc m) g =
    (around_at ends g (claim_at claims m).d && leb g (claim_at claims m).b) || holds gone g

-- the claim that leads is there, and its loop has an ENDDO
pub record LeadRoom (by : ℕ) (claims : List DC.Claimed) (ends : List ℕ) : Type 0 where
  pub claims_long : by ≤ length claims
  pub ends_long : length ends ≡ POINTS
  pub low : (m : ℕ) → by ≡ suc m → at ends (claim_at claims m).d < POINTS

-- the tables have an entry for every gap; nothing is above its limit
pub record StepRoom
    (last : ℕ) (o : DO.Open) (s : DA.Asked) (c : ℕ) (claims : List DC.Claimed) (ends owners struck times : List ℕ)
    : Type 0 where
  pub naming : NamingRoom last owners struck times
  pub rises : o.d < o.e
  pub ends_there : o.e ≤ last
  pub from_low : o.a < POINTS
  pub upto_low : o.b < POINTS
  pub few_sets : c ≤ STEPS
  pub ends_long : length ends ≡ POINTS
  pub loops_end : (m : ℕ) → m < length claims → at ends (claim_at claims m).d < POINTS
  pub lies : (m : ℕ) → set_in s.set ≡ suc (suc m) → IfSome s.dependence (λ x. LiesTo x.e x.end)

module _ (n : Nest) (key : List ℕ) where
  -- what the tables say of the paper, which has the gaps 1 to `last`
  pub record PaperTables (last : ℕ) (ends owners : List ℕ) : Type 0 where
    pub valid : is_valid n ≡ true
    pub all : length n.points ≡ suc last
    pub ends_are : HasEnds n.points ends
    pub owners_are : (g : ℕ) → g ≤ last → at owners g ≡ owner_of n.points g

  -- of the claims so far
  pub record KnownTables (ks : List Known) (claims : List DC.Claimed) (struck : List ℕ) : Type 0 where
    pub count_is : length claims ≡ length ks
    pub loops_are : (m : ℕ) → m < length claims → (claim_at claims m).d ≡ (known_at ks m).loop
    pub froms_are : (m : ℕ) → m < length claims → (claim_at claims m).a ≡ (known_at ks m).from
    pub uptos_are : (m : ℕ) → m < length claims → (claim_at claims m).b ≡ (known_at ks m).upto
    pub loops_do : (m : ℕ) → m < length claims → is_do n.points (known_at ks m).loop ≡ true
    pub excluded : Excludes n key ks struck

  -- of the claim that is open
  pub record OpenTables (k : Claim) (o : DO.Open) : Type 0 where
    pub loop_do : is_do n.points k.loop ≡ true
    pub loop_is : o.d ≡ k.loop
    pub end_is : o.e ≡ end_of n.points k.loop
    pub from_is : o.a ≡ k.from
    pub upto_is : o.b ≡ k.upto

  -- of the step, whose set may be a dependence's
  pub record AskedTables (s : DA.Asked) : Type 0 where
    pub there_is : (m : ℕ) → set_in s.set ≡ suc (suc m) → is_some s.dependence ≡ ltb m (length n.deps)
    pub dep_is : (m : ℕ) → set_in s.set ≡ suc (suc m) → IfSome s.dependence (λ x. dep_in x.e ≡ dep_at n.deps m)
    pub end_is : (m : ℕ) → set_in s.set ≡ suc (suc m) → IfSome s.dependence (λ x. EndsIn n.points x.e x.end)

  -- of the count after some steps
  pub record CountTables (x : Count) (last steps c : ℕ) (times gone : List ℕ) : Type 0 where
    pub fine : x.fine ≡ true
    pub c_is : c ≡ x.c
    pub times_are : (g : ℕ) → 0 < g → g ≤ last → at times g ≡ x.times g
    pub beyond : x.times (suc last) ≡ 0
    pub few : (g : ℕ) → at times g ≤ steps
    pub gone_is : (g : ℕ) → holds gone g ≡ fact_out n key x.facts g

-- whether the step holds, and where it does the count after it
abbrev pub StepSays
    : ℕ → DO.Open → DA.Asked → ℕ → DP.Placement → List DC.Claimed → List ℕ → List ℕ → List ℕ → List ℕ → List ℕ
    → Option DT.Taken → Type 0
StepSays last o s c gone claims ends owners struck old new r =
    (n : Nest) (key : List ℕ) (k : Claim) (ks : List Known) (x : Count) (steps : ℕ) →
    PaperTables n key last ends owners →
    KnownTables n key ks claims struck →
    OpenTables n key k o →
    AskedTables n key s →
    CountTables n key x last steps c old gone.words →
    (is_some r ≡ (step n key k ks (st (set_in s.set) (led_in s.by)) x).fine) ×
    IfSome r
    (λ t. CountTables n key (step n key k ks (st (set_in s.set) (led_in s.by)) x) last (suc steps) t.c new t.gone.words)
