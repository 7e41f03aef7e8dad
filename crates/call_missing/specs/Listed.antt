-- Which flagged loops need a barrier for their missing run.
-- Main definitions: `is_listed_by`, `is_listed`, `listed_of`, `listed_by`; `NeedsBarrier`, the same as a statement.
use Rattle.std.specs.Prelude.{◌≡◌, Bool, true, false, ◌&&◌, ◌||◌, not, List, [], ◌∷◌, ℕ, length}
use Rattle.laws.specs.Choice.{is_in}
use Rattle.laws.specs.Members.{Among}
use Rattle.paper_nests.specs.Nests.{Dep, Nest}
use Rattle.paper_nests.specs.Loops.{is_around}
use Rattle.paper_nests.specs.Gaps.{has_gap}
use Rattle.paper_placements.specs.Words.{gaps_of}
use Rattle.call_missing.specs.Foreign.{some_in, is_foreign, in_foreign}

-- a barrier inside loop d cuts the dependence
unfoldable pub cuts_inside : List ℕ → Dep → ℕ → List ℕ → Bool
cuts_inside ps e d gs = some_in (λ g. is_around ps g d && has_gap ps e g) gs

-- a barrier that cuts the dependence is outside all the loops that are foreign to it
unfoldable pub cuts_outside : List ℕ → List ℕ → Dep → List ℕ → Bool
cuts_outside ps fs e gs = some_in (λ g. has_gap ps e g && not (in_foreign ps fs e g)) gs

-- the dependence has loop d listed: d is foreign to it, a barrier inside d cuts it, and no barrier that cuts it is
-- outside all its foreign loops
unfoldable pub is_listed_by : List ℕ → List ℕ → List ℕ → Dep → ℕ → Bool
is_listed_by ps fs gs e d = is_foreign ps fs e d && (cuts_inside ps e d gs && not (cuts_outside ps fs e gs))

-- some dependence has it listed
unfoldable pub is_listed : List ℕ → List Dep → List ℕ → List ℕ → ℕ → Bool
is_listed ps [] fs gs d = false
is_listed ps (e ∷ es) fs gs d = is_listed_by ps fs gs e d || is_listed ps es fs gs d

-- the DOs of the listed loops, rising
unfoldable pub listed_of : List ℕ → List Dep → List ℕ → List ℕ → List ℕ
listed_of ps ds fs gs = gaps_of (is_listed ps ds fs gs) (length ps) 0

-- those that one dependence alone has listed
abbrev pub listed_by : Nest → List ℕ → Dep → List ℕ
listed_by n gs e = listed_of n.points (e ∷ []) n.flagged gs

-- a gap outside all the loops that are foreign to the dependence
abbrev pub Outside : List ℕ → List ℕ → Dep → ℕ → Type 0
Outside ps fs e g = (d : ℕ) → is_foreign ps fs e d ≡ true → is_around ps g d ≡ false

-- for some dependence that d is foreign to, a barrier inside d cuts it, and no barrier that cuts it is outside all its
-- foreign loops
pub record NeedsBarrier (ps : List ℕ) (ds : List Dep) (fs gs : List ℕ) (d : ℕ) : Type 0 where
  pub dep : Dep
  pub among : Among dep ds
  pub foreign : is_foreign ps fs dep d ≡ true
  pub gap : ℕ
  pub placed : is_in gap gs ≡ true
  pub inside : is_around ps gap d ≡ true
  pub cut : has_gap ps dep gap ≡ true
  pub none_outside : (g : ℕ) → is_in g gs ≡ true → has_gap ps dep g ≡ true → Outside ps fs dep g → ⊥
