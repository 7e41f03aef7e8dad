-- What the loops that the calls give are good for.
-- Main definitions: `ReliedIff`, `ReliedUncut`, `ReliedCut`, `MissingEach`, `OneEndIff`; `ReliedAlike`, `OneEndAlike`.
use Rattle.std.specs.Prelude.{◌≡◌, true, false, List, [], ◌∷◌, ◌↔◌, ℕ, suc, drop}
use Rattle.laws.specs.Choice.{is_in}
use Rattle.laws.specs.Members.{Among}
use Rattle.paper_nests.specs.Nests.{Dep}
use Rattle.paper_placements.specs.Placements.{cuts}
use Rattle.paper_placements.specs.Words.{gaps_in}
use Rattle.desk.specs.declared.Desk as DD
use Rattle.desk.specs.declared.Chosen as DC
use Rattle.desk.specs.Desks.{desk_in, IsMade}
use Rattle.desk.specs.Says.{read_in}
use Rattle.desk.proofs.Choosing.{SameChosen}
use Rattle.call_missing.specs.Listed.{listed_by, NeedsBarrier}
use Rattle.call_missing.specs.Reached.{NotSkipped, AllForeign}
use Rattle.call_missing.specs.Says.{missing_on}
use Rattle.call_skipped.specs.OneEnd.{Splits}
use Rattle.call_skipped.specs.Says.{ReliedSays, OneEndSays}

-- dependence i of the list is e
abbrev pub IsNumbered : List Dep → ℕ → Dep → Type 0
IsNumbered ds i e = drop i ds ≡ e ∷ drop (suc i) ds

-- the loops that a reply gives
abbrev pub given : DC.Chosen → List ℕ
given r = gaps_in r.set.words

-- a loop is given exactly if, by this dependence alone, it needs a barrier for its missing run
abbrev pub ReliedIff : Type 0
ReliedIff =
    (d : DD.Desk) (s : List ℕ) (i : ℕ) (e : Dep) (r : DC.Chosen) →
    IsMade d →
    ReliedSays d s i r →
    r.number ≡ 0 →
    let n = (desk_in d).nest_is in
    IsNumbered n.deps i e →
    (l : ℕ) →
    (is_in l (given r) ≡ true) ↔ NeedsBarrier n.points (e ∷ []) n.flagged (read_in (desk_in d) s).gaps l

-- where loops are given and all of them are skipped, no barrier that cuts the dependence is left
abbrev pub ReliedUncut : Type 0
ReliedUncut =
    (d : DD.Desk) (s : List ℕ) (i : ℕ) (e : Dep) (r : DC.Chosen) →
    IsMade d →
    ReliedSays d s i r →
    r.number ≡ 0 →
    let n = (desk_in d).nest_is in
    IsNumbered n.deps i e →
    (l : ℕ) →
    is_in l (given r) ≡ true →
    (skipped : List ℕ) →
    ((k : ℕ) → is_in k (given r) ≡ true → is_in k skipped ≡ true) →
    NotSkipped n.points e skipped (read_in (desk_in d) s).gaps → ⊥

-- where none is given, a dependence that is cut stays so, whichever of the loops that are foreign to it are skipped
abbrev pub ReliedCut : Type 0
ReliedCut =
    (d : DD.Desk) (s : List ℕ) (i : ℕ) (e : Dep) (r : DC.Chosen) →
    IsMade d →
    ReliedSays d s i r →
    r.number ≡ 0 →
    let n = (desk_in d).nest_is in
    IsNumbered n.deps i e →
    ((l : ℕ) → is_in l (given r) ≡ false) →
    cuts n.points e (read_in (desk_in d) s).gaps ≡ true →
    (skipped : List ℕ) →
    AllForeign n e skipped → NotSkipped n.points e skipped (read_in (desk_in d) s).gaps

-- 02, job 10: the loops that Missing runs lists are those on which the key relies for some dependence
abbrev pub MissingEach : Type 0
MissingEach =
    (d : DD.Desk) →
    IsMade d →
    d.loaded ≡ true →
    let n = (desk_in d).nest_is in
    (l : ℕ) →
    (is_in l (missing_on (desk_in d)) ≡ true) ↔
    (e : Dep) × (Among e n.deps × (is_in l (listed_by n (desk_in d).key e) ≡ true))

-- a loop is given exactly if it is flagged and has one end alone of the dependence, which goes forward
abbrev pub OneEndIff : Type 0
OneEndIff =
    (d : DD.Desk) (i : ℕ) (e : Dep) (r : DC.Chosen) →
    IsMade d →
    OneEndSays d i r →
    r.number ≡ 0 →
    let n = (desk_in d).nest_is in
    IsNumbered n.deps i e →
    (l : ℕ) →
    (is_in l (given r) ≡ true) ↔ Splits n.points n.flagged e l

-- two desks with the same nest, with a key or without
abbrev pub ReliedAlike : Type 0
ReliedAlike =
    (d e : DD.Desk) (s : List ℕ) (i : ℕ) (a b : DC.Chosen) →
    d.loaded ≡ e.loaded →
    (desk_in d).nest_is ≡ (desk_in e).nest_is →
    ReliedSays d s i a → ReliedSays e s i b → SameChosen a b

abbrev pub OneEndAlike : Type 0
OneEndAlike =
    (d e : DD.Desk) (i : ℕ) (a b : DC.Chosen) →
    d.loaded ≡ e.loaded →
    (desk_in d).nest_is ≡ (desk_in e).nest_is →
    OneEndSays d i a → OneEndSays e i b → SameChosen a b
