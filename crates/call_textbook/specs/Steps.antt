-- What the functions of the textbook method promise.
-- Main definitions: `AreBarred`, `SmallestSays`, `Placed`, `FreeSays`, `LatestSays`, `EnterSays`, `RaiseSays`, `LaySays`.
use Rattle.std.specs.Prelude.{◌≡◌, List, ◌∷◌, ℕ, ◌+◌, ◌≤◌, ◌<◌, max, eqb}
use Rattle.laws.specs.Choice.{pick, is_in}
use Rattle.laws.specs.Entries.{at}
use Rattle.laws.specs.Members.{Among}
use Rattle.paper_nests.specs.Nests.{Dep}
use Rattle.paper_placements.specs.Words.{GAPS, holds, gaps_in}
use Rattle.call_textbook.specs.Places.{gaps_at, last_place, last_free, start_at, latest_of, places_behind}
use Rattle.call_textbook.specs.Tries.{textbook_of}

-- the words hold the gaps of the list
abbrev pub AreBarred : List ℕ → List ℕ → Type 0
AreBarred bs bars = (i : ℕ) → i < GAPS → is_in i bs ≡ holds bars i

-- the placement of the textbook method, for each list of the barred gaps
abbrev pub SmallestSays : List ℕ → List Dep → List ℕ → List ℕ → Type 0
SmallestSays ps ds bars ws = (bs : List ℕ) → AreBarred bs bars → gaps_in ws ≡ textbook_of ps bs ds

-- a dependence lies on a ring of m laid out twice
pub record Placed (m : ℕ) (e : Dep) : Type 0 where
  pub source : e.s < m
  pub last : last_place m e ≤ m + m

abbrev pub AllPlaced : ℕ → List Dep → Type 0
AllPlaced m ds = (e : Dep) → Among e ds → Placed m e

-- a table of the last unbarred places
abbrev pub FreeSays : List ℕ → ℕ → List ℕ → Type 0
FreeSays bs m free = (p : ℕ) → p ≤ m + m → at free p ≡ last_free bs m p

-- a table of the latest starts
abbrev pub LatestSays : List ℕ → ℕ → List Dep → List ℕ → Type 0
LatestSays bs m ds latest = (p : ℕ) → p ≤ m + m → at latest p ≡ latest_of (last_free bs m) m ds p

-- the table with one dependence more
abbrev pub EnterSays : List ℕ → ℕ → Dep → List ℕ → List ℕ → Type 0
EnterSays free m e before after =
    (p : ℕ) → p ≤ m + m → at after p ≡ max (start_at (at free) m e p) (at before p)

-- the table with a start that is no earlier than this
abbrev pub RaiseSays : ℕ → ℕ → List ℕ → List ℕ → Type 0
RaiseSays p start before after = (q : ℕ) → at after q ≡ pick (eqb q p) (max start (at before p)) (at before q)

-- the words hold the first barrier and the cuts behind it
abbrev pub LaySays : (ℕ → ℕ) → ℕ → ℕ → List ℕ → Type 0
LaySays latest m g ws = (i : ℕ) → holds ws i ≡ is_in i (g ∷ gaps_at m (places_behind latest m g))
