-- Fresh counts over a placement: the barriers that cut a dependence, the dependences that none cuts.
-- Main definitions: `cut_count`, `count_at`, `has_gap_at`, `uncut_count`.
use Rattle.std.specs.Prelude.{Bool, false, not, List, [], ◌∷◌, ℕ, zero, suc, ◌+◌}
use Rattle.laws.specs.Bits.{one}
use Rattle.paper_nests.specs.Nests.{Dep}
use Rattle.paper_nests.specs.Gaps.{has_gap}
use Rattle.paper_placements.specs.Placements.{cuts}

-- how many gaps of the placement are gaps of the dependence
abbrev pub cut_count : List ℕ → Dep → List ℕ → ℕ
cut_count ps e [] = 0
cut_count ps e (g ∷ gs) = one (has_gap ps e g) + cut_count ps e gs

-- that of dependence i; 0 where there is none
abbrev pub count_at : List ℕ → List Dep → List ℕ → ℕ → ℕ
count_at ps [] gs i = 0
count_at ps (e ∷ es) gs zero = cut_count ps e gs
count_at ps (e ∷ es) gs (suc i) = count_at ps es gs i

-- dependence i is there and has the gap
abbrev pub has_gap_at : List ℕ → List Dep → ℕ → ℕ → Bool
has_gap_at ps [] i g = false
has_gap_at ps (e ∷ es) zero g = has_gap ps e g
has_gap_at ps (e ∷ es) (suc i) g = has_gap_at ps es i g

-- how many dependences the placement does not cut
abbrev pub uncut_count : List ℕ → List Dep → List ℕ → ℕ
uncut_count ps [] gs = 0
uncut_count ps (e ∷ es) gs = one (not (cuts ps e gs)) + uncut_count ps es gs
