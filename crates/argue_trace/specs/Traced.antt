-- The claims so far, and one sweep of a lap with its steps, read off the code's lists.
-- Main definitions: `claims_in`, `lead_at`, `trace_of`, `TraceSays`.
use Rattle.std.specs.Prelude.{◌≡◌, Bool, List, [], map, ℕ, ◌+◌, ◌*◌, ◌≤◌, ◌<◌, length}
use Rattle.laws.specs.Entries.{at}
use Rattle.plan_method.specs.Sweep.{start}
use Rattle.plan_sweeps.specs.Listed.{listed, row, tabled, sweep_of}
use Rattle.argue_claims.specs.Arguments.{Step, Claim, claim}
use Rattle.argue_texts.specs.ArgumentTexts.{steps_text}
use Rattle.argue_texts.specs.declared.Claimed.{Claimed}
use Rattle.argue_key.specs.Laps.{find_claim, trace}
use Rattle.argue_spell.specs.Added.{WORD, Added}

-- a claim of the code's list, without its steps
abbrev pub claim_in : Claimed → Claim
claim_in k = claim k.d k.a k.b []

-- all of the list
abbrev pub claims_in : List Claimed → List Claim
claims_in ks = map claim_in ks

-- the claim that a step at gap b of the child l leads to
abbrev pub lead_at : List ℕ → ℕ → List Claimed → ℕ → ℕ → ℕ
lead_at left kids claims l b = find_claim (claims_in claims) l b (row left kids b)

-- an entry for each gap up to e, and none too great to be spelled
pub record SetsRoom (sets : List ℕ) (e : ℕ) : Type 0 where
  pub room : e < length sets
  pub small : (a : ℕ) → at sets a ≤ WORD

-- the steps of a sweep of the loop d with its ENDDO e; what the loops inside lay is free
abbrev pub trace_of
    : List ℕ → List ℕ → List ℕ → ℕ → List ℕ → List ℕ → (ℕ → ℕ → ℕ) → (ℕ → ℕ → ℕ → Bool) → ℕ → ℕ → List Step
trace_of ps own left kids need sets lead lay d e =
    trace (listed ps own e) (tabled left kids lay) (at need) (at sets) lead d e e (start e)

-- the sweep's end, and its steps added to a buffer
pub record TraceSays
    (ps own left : List ℕ)
    (kids : ℕ)
    (need sets : List ℕ)
    (claims : List Claimed)
    (d e : ℕ)
    (out : List ℕ)
    (at : ℕ)
    (out' : List ℕ)
    (c f next : ℕ)
    : Type 0 where
  pub c_is : (lay : ℕ → ℕ → ℕ → Bool) → c ≡ (sweep_of ps own need left kids lay d e).c
  pub f_is : (lay : ℕ → ℕ → ℕ → Bool) → f ≡ (sweep_of ps own need left kids lay d e).f
  pub steps_are
      : (lay : ℕ → ℕ → ℕ → Bool)
      → Added
      (steps_text (trace_of ps own left kids need sets (lead_at left kids claims) lay d e)) at out out' next
  pub few : c ≤ e
  pub near : next ≤ at + 14 * e
