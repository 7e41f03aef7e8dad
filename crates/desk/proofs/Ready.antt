-- A desk with a nest and a key: what the calls that want a key may use.
-- Main statements: `ready`, `ready_has`, `read_as`, `read_rising`.
use mathlib.Core.Path.{◌≡◌, refl, sym, ◌∙◌, ap}
use mathlib.Core.Bool.{Bool, true, false, not}
use mathlib.Core.List.{List}
use mathlib.Core.Logic.{⊎_elim}
use Prim.Native.Nat.{ℕ, ◌≤◌, ◌<◌}
use native.Mathlib.Omega.{arith}
use lib.ListN.{length}
use Rattle.laws.specs.Choice.{when, first_of, is_in}
use Rattle.laws.proofs.Tests.{le_or, false_by}
use Rattle.paper_nests.specs.Kinds.{POINTS}
use Rattle.paper_nests.specs.Nests.{Nest}
use Rattle.paper_nests.specs.Valid.{is_shape, is_valid}
use Rattle.paper_nests.specs.Stored.{nest_in, IsCounted}
use Rattle.paper_nests.proofs.Deps.{valid_is}
use Rattle.paper_nests.proofs.Bars.{gap_within, bar_is_gap}
use Rattle.paper_placements.specs.Placements.{are_gaps_from, are_gaps, avoids}
use Rattle.paper_placements.specs.Words.{GAPS, holds, gaps_in}
use Rattle.paper_placements.proofs.Words.{in_gaps, in_gaps_beyond}
use Rattle.plan_theorem.proofs.KeyGaps.{valid_gaps, valid_avoids}
use Rattle.paper_texts.specs.PlacementTexts.{Placed, placed, read_placement}
use Rattle.paper_texts.proofs.PlacedTexts.{read_gaps, read_alike}
use Rattle.desk.specs.declared.Desk as DD
use Rattle.desk.specs.Desks.{desk_in, IsMade, state_fault}

pub record Ready (d : DD.Desk) : Type 0 where
  pub counted : IsCounted d.nest
  pub valid : is_valid (nest_in d.nest) ≡ true
  pub shape : is_shape (nest_in d.nest).points ≡ true
  pub few : length (nest_in d.nest).points ≤ POINTS
  pub key-gaps : are_gaps (nest_in d.nest) (gaps_in d.key.words) ≡ true
  pub key_avoids : avoids (nest_in d.nest).barred (gaps_in d.key.words) ≡ true

both : (a b : Bool) → first_of (when (not a) 10) (when (not b) 11) ≡ 0 → (a ≡ true) × (b ≡ true)
both true true h = (refl, refl)
both true false h = absurd (omega arith)
both false true h = absurd (omega arith)
both false false h = absurd (omega arith)

-- no number from the state: there is a nest and a key
pub ready_has : (d : DD.Desk) → state_fault true (desk_in d) ≡ 0 → (d.loaded ≡ true) × (d.planned ≡ true)
ready_has d h = both d.loaded d.planned h

pub ready : (d : DD.Desk) → IsMade d → state_fault true (desk_in d) ≡ 0 → Ready d
ready d m h =
    let b = ready_has d h in
    let v = m.paper.valid b.0 in
    let w = valid_is (nest_in d.nest) v in
    record {
      counted = m.counted;
      valid = v;
      shape = w.shape;
      few = w.few_points;
      key-gaps = rw (m.paper.key_is b.1) (valid_gaps (nest_in d.nest) v);
      key_avoids = rw (m.paper.key_is b.1) (valid_avoids (nest_in d.nest) v);
    }

-- the barred gaps of a valid nest as words
bars_in_words
    : (n : Nest) (ws : List ℕ)
    → is_valid n ≡ true
    → ((g : ℕ) → holds ws g ≡ is_in g n.barred)
    → (g : ℕ)
    → is_in g (gaps_in ws) ≡ is_in g n.barred
bars_in_words n ws v same g = ⊎_elim
    (λ (z : GAPS ≤ g). in_gaps_beyond ws g z ∙ sym (false_by (λ h. omega (arith, within h))))
    (λ (z : g < GAPS). in_gaps ws g z ∙ same g)
    (le_or GAPS g)
  where
    within : is_in g n.barred ≡ true → g < GAPS
    within h =
        let w = valid_is n v in
        let i = gap_within n.points g (bar_is_gap n.points n.barred w.all_bars g h) in
        omega (arith, i.1, w.few_points)

-- a text read with them
pub read_as
    : (x : Nest) (c n l : ℕ) (ws s gs : List ℕ)
    → is_valid x ≡ true
    → c ≡ length x.points
    → ((g : ℕ) → holds ws g ≡ is_in g x.barred)
    → placed n l gs ≡ read_placement c (gaps_in ws) s
    → placed n l gs ≡ read_placement (length x.points) x.barred s
read_as x c n l ws s gs v e same h =
    h ∙ ap (λ (k : ℕ). read_placement k (gaps_in ws) s) e ∙
    read_alike (length x.points) (gaps_in ws) x.barred (bars_in_words x ws v same) s

-- the gaps that were read
pub read_rising
    : (m n l : ℕ) (bs s gs : List ℕ) → placed n l gs ≡ read_placement m bs s → are_gaps_from 0 m gs ≡ true
read_rising m n l bs s gs e = rw (ap (λ (x : Placed). x.gaps) e) (read_gaps m bs s)
