-- Loops as 256 bits with a table of their ENDDOs: which have a barrier inside, which cover the barriers of a range, and
-- which a dependence has listed.
-- Main definitions: `is_apart`, `AreLoops`, `has_barrier`, `WithBarrier`, `CoverSays`, `RangeListed`, `Barriered`,
-- `ListedBySays`.
use Rattle.std.specs.Prelude.{◌≡◌, Bool, true, false, ◌&&◌, ◌||◌, not, List, ℕ, ◌≤◌, ◌<◌, ltb, leb, length}
use Rattle.laws.specs.Choice.{between, is_in}
use Rattle.laws.specs.Entries.{at}
use Rattle.paper_nests.specs.declared.Dependence as DE
use Rattle.paper_nests.specs.Kinds.{POINTS}
use Rattle.paper_nests.specs.Loops.{HasEnds, is_around}
use Rattle.paper_nests.specs.Valid.{is_shape}
use Rattle.paper_nests.specs.Stored.{dep_in}
use Rattle.paper_nests.proofs.Deps.{Fits}
use Rattle.paper_placements.specs.Words.{GAPS, holds, gaps_in}
use Rattle.call_missing.specs.Foreign.{some_in, AreFlags}
use Rattle.call_missing.specs.Listed.{is_listed_by}

-- neither s nor t lies from the DO d to the ENDDO
abbrev pub is_apart : ℕ → ℕ → ℕ → ℕ → Bool
is_apart d end s t = not (between d s end) && not (between d t end)

-- the bits are loops: the ENDDO stands behind the DO, and what begins in a loop ends in it
pub record AreLoops (ends ws : List ℕ) : Type 0 where
  pub behind : (d : ℕ) → d < GAPS → holds ws d ≡ true → d < at ends d
  pub fits : (d : ℕ) → d < GAPS → holds ws d ≡ true → at ends d < GAPS
  pub nested
      : (d x : ℕ) → holds ws d ≡ true → holds ws x ≡ true → d < x → x ≤ at ends d → x < GAPS → at ends x < at ends d

-- loop d has a barrier inside
abbrev pub has_barrier : List ℕ → List ℕ → ℕ → Bool
has_barrier ends key d = some_in (λ g. ltb d g && leb g (at ends d)) (gaps_in key)

-- r has those of the loops that have a barrier inside
abbrev pub WithBarrier : List ℕ → List ℕ → List ℕ → List ℕ → Type 0
WithBarrier ends ws key r = (d : ℕ) → d < GAPS → holds r d ≡ (holds ws d && has_barrier ends key d)

-- a loop around gap g with its DO at lo or later, to which neither s nor t belongs
pub record Cover (ends ws : List ℕ) (s t lo g : ℕ) : Type 0 where
  pub loop : ℕ
  pub is_loop : holds ws loop ≡ true
  pub apart : is_apart loop (at ends loop) s t ≡ true
  pub from : lo ≤ loop
  pub before : loop < g
  pub reaches : g ≤ at ends loop

-- a barrier from lo to hi without such a loop
pub record Bare (ends ws key : List ℕ) (s t lo hi : ℕ) : Type 0 where
  pub gap : ℕ
  pub below : gap < GAPS
  pub placed : holds key gap ≡ true
  pub from : lo ≤ gap
  pub to : gap ≤ hi
  pub no_cover : Cover ends ws s t lo gap → ⊥

-- r says whether each barrier from lo to hi has one
pub record CoverSays (ends ws key : List ℕ) (s t lo hi : ℕ) (r : Bool) : Type 0 where
  pub covered : r ≡ true → (g : ℕ) → g < GAPS → holds key g ≡ true → lo ≤ g → g ≤ hi → Cover ends ws s t lo g
  pub bare : r ≡ false → Bare ends ws key s t lo hi

-- r has also those of the loops with a DO from lo to hi to which neither s nor t belongs
abbrev pub RangeListed : List ℕ → List ℕ → List ℕ → ℕ → ℕ → ℕ → ℕ → List ℕ → Type 0
RangeListed ends ws listed s t lo hi r =
    (d : ℕ) → d < GAPS →
    holds r d ≡ (holds listed d || (holds ws d && (between lo d hi && is_apart d (at ends d) s t)))

-- the words have the flagged loops with a barrier inside
pub record Barriered (ps fs ends key ws : List ℕ) : Type 0 where
  pub shape : is_shape ps ≡ true
  pub few : length ps ≤ POINTS
  pub ends_are : HasEnds ps ends
  pub flags : AreFlags ps fs
  pub loops_are : (d : ℕ) → d < GAPS → holds ws d ≡ (is_in d fs && some_in (λ g. is_around ps g d) (gaps_in key))

-- r has also the loops that the dependence has listed, in any points in which it is placed well
abbrev pub ListedBySays : List ℕ → List ℕ → List ℕ → List ℕ → DE.Dependence → List ℕ → Type 0
ListedBySays ends ws key listed e r =
    (ps fs : List ℕ) → Barriered ps fs ends key ws → Fits ps (dep_in e) →
    (d : ℕ) → d < GAPS → holds r d ≡ (holds listed d || is_listed_by ps fs (gaps_in key) (dep_in e) d)
