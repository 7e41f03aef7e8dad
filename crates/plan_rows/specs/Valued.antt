-- The values of a loop and its row, at loops and tables that are lists.
-- Main definitions: `lined`, `value_of`, `ValuesSay`, `ClosedSays`.
use Rattle.std.specs.Prelude.{◌≡◌, Bool, List, ℕ, ◌+◌, ◌≤◌, ◌<◌, length}
use Rattle.laws.specs.Entries.{at}
use Rattle.plan_method.specs.Sweep.{Lines, State, close, value, least}
use Rattle.plan_sweeps.specs.Listed.{row, listed, tabled}
use Rattle.plan_starts.specs.Started.{later, Ranged}

-- the lines of one loop: whether there are any, where they end, and its row of limits, which starts at `base`
abbrev pub lined : Bool → List ℕ → List ℕ → ℕ → Lines
lined has need limit base =
    record { has = λ d. has; reach = λ d. at need; limit = λ d. row limit base }

-- the value of the loop d with its ENDDO e, for the suffix that starts at q
abbrev pub value_of
    : List ℕ → List ℕ → List ℕ → List ℕ → ℕ → List ℕ → ℕ → Bool → (ℕ → ℕ → ℕ → Bool) → ℕ → ℕ → ℕ → State
value_of ps own need left kids limit base has lay d e q =
    value (listed ps own e) (lined has need limit base) (tabled left kids lay) d q

pub record Valued (v : State) (c f : ℕ) : Type 0 where
  pub c_is : c ≡ v.c
  pub f_is : f ≡ v.f

-- a sweep with its prefix closed
abbrev pub CloseSays : ℕ → ℕ → ℕ → ℕ → ℕ → ℕ → Type 0
CloseSays d limit c f c' f' = (s : State) → c ≡ s.c → f ≡ s.f → Valued (close d limit s) c' f'

-- above the barriers of the value for d + 1, which is read at `first` if that lies after it
pub record CeilingSays (c d e first m : ℕ) : Type 0 where
  pub early : d + 1 < first → m ≡ c + 1
  pub late : first ≤ d + 1 → m ≡ e + 1

-- the values of the gaps above d up to p stand in two lists, and m is the least number of barriers among them
pub record Listing (v : ℕ → State) (cs fs : List ℕ) (d p m : ℕ) : Type 0 where
  pub c_at : (q : ℕ) → d < q → q ≤ p → at cs q ≡ (v q).c
  pub f_at : (q : ℕ) → d < q → q ≤ p → at fs q ≡ (v q).f
  pub least_is : d < p → m ≡ least (λ q. (v q).c) d p

abbrev pub ValuesSay
    : List ℕ → List ℕ → List ℕ → List ℕ → ℕ → List ℕ → ℕ → ℕ → ℕ → ℕ → List ℕ → List ℕ → ℕ → Type 0
ValuesSay ps own need left kids limit base d e p cs fs m =
    (has : Bool) (lay : ℕ → ℕ → ℕ → Bool) →
    Listing (value_of ps own need left kids limit base has lay d e) cs fs d p m

-- the same of any sweeps that stand in two lists, the one for q at the later of q and `first`
abbrev pub ClosedSays : List ℕ → ℕ → ℕ → ℕ → ℕ → List ℕ → List ℕ → List ℕ → List ℕ → ℕ → ℕ → Type 0
ClosedSays limit base d e first cs fs cs' fs' p m =
    (s : ℕ → State) →
    ((q : ℕ) → d < q → q ≤ e → at cs (later q first) ≡ (s q).c) →
    ((q : ℕ) → d < q → q ≤ e → at fs (later q first) ≡ (s q).f) →
    Listing (λ q. close d (row limit base q) (s q)) cs' fs' d p m

-- the fronts of the gaps above d up to p lie in the loop's range
pub record FrontsIn (d e : ℕ) (fs : List ℕ) (p : ℕ) : Type 0 where
  pub low : (q : ℕ) → d < q → q ≤ p → d < at fs q
  pub high : (q : ℕ) → d < q → q ≤ p → at fs q ≤ e

-- room for the values of a loop
pub record ValuesRoom (limit : List ℕ) (base d e first : ℕ) (cs fs : List ℕ) : Type 0 where
  pub limit_room : base + e < length limit
  pub cs_room : e < length cs
  pub fs_room : e < length fs
  pub long : d < e
  pub short : e < 256
  pub first_high : first ≤ e
  pub ranged : Ranged d e cs fs
