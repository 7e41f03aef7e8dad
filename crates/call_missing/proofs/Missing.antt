-- The call: the flagged loops as bits, and what the loops that it gives are good for.
-- Main statements: `flag_bits`, `flags_are_dos`; `missing_iff`, `missing_reached`, `missing_alike`.
use mathlib.Core.Path.{◌≡◌, ap, sym, ◌∙◌}
use mathlib.Core.Bool.{true}
use mathlib.Core.List.{List}
use Prim.Native.Nat.{ℕ}
use borrow.Author.Tests.{eq-eqb}
use Rattle.laws.specs.Choice.{is_in}
use Rattle.paper_nests.specs.Nests.{Nest}
use Rattle.paper_nests.specs.Valid.{is_valid}
use Rattle.paper_nests.proofs.Deps.{valid_is}
use Rattle.paper_nests.proofs.Flags.{flag_is_do}
use Rattle.paper_placements.specs.Words.{holds, gaps_in}
use Rattle.desk.specs.declared.Desk as DD
use Rattle.desk.specs.declared.Chosen as DC
use Rattle.desk.specs.Desks.{desk_in, state_fault}
use Rattle.desk.proofs.Ready.{ready, ready_has}
use Rattle.desk.proofs.TwoDesks.{made_first, two_desks}
use Rattle.desk.proofs.Choosing.{same_chosen}
use Rattle.call_missing.specs.Foreign.{AreFlags}
use Rattle.call_missing.specs.Says.{missing_on, MissingSays, AreDos, FlagBits}
use Rattle.call_missing.specs.Missing.{MissingIff, MissingReached, MissingAlike}
use Rattle.call_missing.proofs.Members.{in_listed_iff}
use Rattle.call_missing.proofs.Reached.{skipped_reached}

-- the flagged loops of a valid nest are loops
are-flags : (n : Nest) → is_valid n ≡ true → AreFlags n.points n.flagged
are-flags n v = flag_is_do n.points n.flagged (valid_is n v).all_flags

-- the bits of a list that is the nest's flagged loops
module _
    (n : Nest) (v : is_valid n ≡ true) (ws : List ℕ)
    {fs : List ℕ} (lent : fs ≡ n.flagged) (same : (d : ℕ) → holds ws d ≡ is_in d fs)
  where
    are_bits : (d : ℕ) → holds ws d ≡ is_in d n.flagged
    are_bits d = same d ∙ ap (is_in d) lent

    pub flag_bits : FlagBits n.points n.flagged ws
    flag_bits = record { flags = are-flags n v; bits_are = λ d l. are_bits d }

    pub flags_are_dos : AreDos n.points ws
    flags_are_dos d l h = are-flags n v d (sym (are_bits d) ∙ h)

-- a reply that is no refusal has the listed loops
given : (d : DD.Desk) (r : DC.Chosen) → MissingSays d r → r.number ≡ 0 → gaps_in r.set.words ≡ missing_on (desk_in d)
given d r h z = rw (eq-eqb (state_fault true (desk_in d)) 0 (sym h.number_is ∙ z)) at h.set_is

pub missing_iff : MissingIff
missing_iff d r m h z l =
    let n = (desk_in d).nest_is in
    let none : state_fault true (desk_in d) ≡ 0 = sym h.number_is ∙ z in
    let y = ready d m none in
    rw (given d r h z) (in_listed_iff n.points n.deps n.flagged (desk_in d).key (are-flags n y.valid) l)

pub missing_reached : MissingReached
missing_reached d r m h z =
    let none : state_fault true (desk_in d) ≡ 0 = sym h.number_is ∙ z in
    let key = (made_first d m (ready_has d none).1).is_key in
    skipped_reached (desk_in d).nest_is (ready d m none).valid (desk_in d).key key.correct

pub missing_alike : MissingAlike
missing_alike d e a b m n loaded nest planned =
    let key = (two_desks d e m n loaded nest planned).same_key in
    same_chosen (state_fault true (desk_in d)) (state_fault true (desk_in e)) (missing_on (desk_in d)) (missing_on (desk_in e)) a b
    (cc (loaded, planned)) (cc (nest, key))
