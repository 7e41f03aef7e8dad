-- 01, "The desk": in kind 11 the d of a lent record is not read. Neither number 2, 6 or 7 nor the cut test asks for it,
-- so lists that differ there alone get the same answer.
-- Main definition: `without_d`. Main statement: `d_unread`.
use mathlib.Core.Path.{◌≡◌, refl, sym, ◌∙◌, ap}
use mathlib.Core.Bool.{Bool, true, false, ◌||◌}
use mathlib.Core.List.{List, [], ◌∷◌}
use Prim.Native.Nat.{ℕ, suc}
use lib.Dec.{eqb}
use borrow.Author.Tests.{eqb-true}
use Rattle.laws.specs.Choice.{pick}
use Rattle.paper_nests.specs.Kinds.{INDEPENDENT}
use Rattle.paper_nests.specs.Nests.{Dep, dep}
use Rattle.paper_nests.specs.Gaps.{has_gap}
use Rattle.paper_placements.specs.Placements.{cuts}
use Rattle.desk.specs.declared.Desk as DD
use Rattle.desk.specs.declared.Answer as DA
use Rattle.desk.specs.Desks.{Desk, desk_in, state_fault, Fault, fault, record_fault, list_fault, list_uncut}
use Rattle.desk.specs.Says.{check_fault, ListSays}
use Rattle.desk.proofs.TwoDesks.{answer-by, list_value}

-- the records with the d of each of kind 11 set to 0
abbrev pub no_d : Dep → Dep
no_d e = pick (eqb e.kind INDEPENDENT) (dep e.kind 0 e.s e.t) e

abbrev pub without_d : List Dep → List Dep
without_d [] = []
without_d (e ∷ es) = no_d e ∷ without_d es

-- of one record: its refusal
fault_of : (ps : List ℕ) (k d s t : ℕ) → k ≡ INDEPENDENT → record_fault ps (dep k 0 s t) ≡ record_fault ps (dep k d s t)
fault_of ps k d s t e = rw e

fault_unread : (ps : List ℕ) (e : Dep) → record_fault ps (no_d e) ≡ record_fault ps e
fault_unread ps e = go (eqb e.kind INDEPENDENT) refl
  where
    go
        : (b : Bool)
        → eqb e.kind INDEPENDENT ≡ b
        → record_fault ps (pick b (dep e.kind 0 e.s e.t) e) ≡ record_fault ps e
    go true h = fault_of ps e.kind e.d e.s e.t (eqb-true e.kind INDEPENDENT h)
    go false h = refl

-- and its gaps
gap_of : (ps : List ℕ) (k d s t g : ℕ) → k ≡ INDEPENDENT → has_gap ps (dep k 0 s t) g ≡ has_gap ps (dep k d s t) g
gap_of ps k d s t g e = rw e

gap_unread : (ps : List ℕ) (e : Dep) (g : ℕ) → has_gap ps (no_d e) g ≡ has_gap ps e g
gap_unread ps e g = go (eqb e.kind INDEPENDENT) refl
  where
    go
        : (b : Bool)
        → eqb e.kind INDEPENDENT ≡ b
        → has_gap ps (pick b (dep e.kind 0 e.s e.t) e) g ≡ has_gap ps e g
    go true h = gap_of ps e.kind e.d e.s e.t g (eqb-true e.kind INDEPENDENT h)
    go false h = refl

either : (a b c d : Bool) → a ≡ b → c ≡ d → (a || c) ≡ (b || d)
either a b c d p q = cc

cut_unread : (ps : List ℕ) (e : Dep) (gs : List ℕ) → cuts ps (no_d e) gs ≡ cuts ps e gs
cut_unread ps e [] = refl
cut_unread ps e (g ∷ gs) =
    either (has_gap ps (no_d e) g) (has_gap ps e g) (cuts ps (no_d e) gs) (cuts ps e gs) (gap_unread ps e g)
    (cut_unread ps e gs)

-- of a list: what one record leaves to the others
fault_then : (r r' k : ℕ) (f f' : Fault) → r ≡ r' → f ≡ f' →
    pick (eqb r 0) f (fault r k) ≡ pick (eqb r' 0) f' (fault r' k)
fault_then r r' k f f' p q = cc

faults_unread : (k : ℕ) (ps : List ℕ) (es : List Dep) → list_fault k ps (without_d es) ≡ list_fault k ps es
faults_unread k ps [] = refl
faults_unread k ps (e ∷ es) =
    fault_then (record_fault ps (no_d e)) (record_fault ps e) k (list_fault (suc k) ps (without_d es))
    (list_fault (suc k) ps es) (fault_unread ps e) (faults_unread (suc k) ps es)

uncut_then : (c c' : Bool) (u u' k : ℕ) → c ≡ c' → u ≡ u' → pick c u k ≡ pick c' u' k
uncut_then c c' u u' k p q = cc

uncut_unread : (k : ℕ) (ps : List ℕ) (es : List Dep) (gs : List ℕ) →
    list_uncut k ps (without_d es) gs ≡ list_uncut k ps es gs
uncut_unread k ps [] gs = refl
uncut_unread k ps (e ∷ es) gs =
    uncut_then (cuts ps (no_d e) gs) (cuts ps e gs) (list_uncut (suc k) ps (without_d es) gs) (list_uncut (suc k) ps es gs)
    k (cut_unread ps e gs) (uncut_unread (suc k) ps es gs)

-- the list's refusal and value
check_unread : (x : Desk) (es : List Dep) → check_fault x (without_d es) ≡ check_fault x es
check_unread x es =
    ap (λ (f : Fault). pick (eqb (state_fault true x) 0) f (fault (state_fault true x) 0))
    (faults_unread 1 x.nest_is.points es)

value_then : (f f' : Fault) (u u' : ℕ) → f ≡ f' → u ≡ u' →
    pick (eqb f.number 0) u 0 ≡ pick (eqb f'.number 0) u' 0
value_then f f' u u' p q = cc

value_unread : (x : Desk) (es : List Dep) → list_value (without_d es) x ≡ list_value es x
value_unread x es =
    value_then (check_fault x (without_d es)) (check_fault x es)
    (list_uncut 1 x.nest_is.points (without_d es) x.key) (list_uncut 1 x.nest_is.points es x.key)
    (check_unread x es) (uncut_unread 1 x.nest_is.points es x.key)

-- lists that are the same but for the d of records of kind 11 get the same answer
pub d_unread
    : (d : DD.Desk) (es fs : List Dep) (a b : DA.Answer)
    → without_d es ≡ without_d fs
    → ListSays d es a
    → ListSays d fs b
    → a ≡ b
d_unread d es fs a b same h k =
    let check : check_fault (desk_in d) es ≡ check_fault (desk_in d) fs =
    sym (check_unread (desk_in d) es) ∙ ap (check_fault (desk_in d)) same ∙ check_unread (desk_in d) fs in
    let value : list_value es (desk_in d) ≡ list_value fs (desk_in d) =
    sym (value_unread (desk_in d) es) ∙ ap (λ (l : List Dep). list_value l (desk_in d)) same ∙
    value_unread (desk_in d) fs in
    answer-by a b
    (h.number_is ∙ ap (λ (f : Fault). f.number) check ∙ sym k.number_is)
    (h.place_is ∙ ap (λ (f : Fault). f.place) check ∙ sym k.place_is)
    (h.value_is ∙ value ∙ sym k.value_is)
