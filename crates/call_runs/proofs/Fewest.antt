-- What is counted is the fewest: the key of a desk made by calls is a key of its nest, and no correct placement has
-- fewer calls than a key (`fewest_of_keys`).
-- Main statements: `no_fewer`, `calls_alike`, `placement_alike`.
use mathlib.Core.Path.{◌≡◌, sym, ◌∙◌}
use mathlib.Core.Bool.{Bool, true, false, not}
use mathlib.Core.List.{List, []}
use Prim.Native.Nat.{ℕ}
use native.Mathlib.Omega.{arith}
use lib.Dec.{eqb}
use borrow.Author.Tests.{eq-eqb}
use Rattle.laws.specs.Choice.{pick, when}
use Rattle.laws.proofs.Choices.{first_zero, unless_zero}
use Rattle.paper_nests.specs.Nests.{Nest}
use Rattle.run_barriers.specs.Calls.{INNER, calls_of}
use Rattle.run_barriers.proofs.FewestCalls.{fewest_of_keys}
use Rattle.desk.specs.Desks.{Desk, desk, desk_in, state_fault}
use Rattle.desk.specs.Says.{read_in}
use Rattle.desk.proofs.Ready.{ready, ready_has}
use Rattle.desk.proofs.TwoDesks.{made_first, two_desks}
use Rattle.call_runs.specs.declared.Calls as CC
use Rattle.call_runs.specs.Says.{can_count, calls_fault, placement_fault}
use Rattle.call_runs.proofs.Countable.{countable}
use Rattle.call_runs.specs.Fewest.{NoFewer, CallsAlike, PlacementAlike}

-- the calls where nothing is refused, else 0
abbrev calls_value : List ℕ → Desk → ℕ
calls_value ts x = pick (eqb (calls_fault INNER x ts) 0) (calls_of x.nest_is ts x.key) 0

pub no_fewer : NoFewer
no_fewer d ts gs r m h z c =
    let none : calls_fault INNER (desk_in d) ts ≡ 0 = sym h.number_is ∙ z in
    let n = (desk_in d).nest_is in
    let parts = first_zero (state_fault true (desk_in d)) (when (not (can_count INNER n ts)) 17) none in
    let fit = countable INNER n ts (unless_zero (can_count INNER n ts) 16 parts.1) in
    let key = (made_first d m (ready_has d parts.0).1).is_key in
    let calls : r.calls ≡ calls_of n ts (desk_in d).key =
    rw (eq-eqb (calls_fault INNER (desk_in d) ts) 0 none) at h.calls_are in
    omega (arith, fewest_of_keys n ts (desk_in d).key gs (ready d m parts.0).valid fit.none_barred fit.fits key c)

abbrev reply : ℕ → ℕ → ℕ → CC.Calls
reply n l c = record { number = n; line = l; calls = c }

same_reply : (n l c n' l' c' : ℕ) → n ≡ n' → l ≡ l' → c ≡ c' → reply n l c ≡ reply n' l' c'
same_reply n l c n' l' c' p q r = cc

pub calls_alike : CallsAlike
calls_alike d e ts a b m n loaded nest planned h k =
    same_reply a.number a.line a.calls b.number b.line b.calls
    (h.number_is ∙ alike (λ l x q g. calls_fault INNER (desk l x q g [] []) ts) ∙ sym k.number_is)
    (h.line_is ∙ sym k.line_is)
    (h.calls_are ∙ alike (λ l x q g. calls_value ts (desk l x q g [] [])) ∙ sym k.calls_are)
  where
    key : (desk_in d).key ≡ (desk_in e).key
    key = (two_desks d e m n loaded nest planned).same_key

    alike
        : (f : Bool → Nest → Bool → List ℕ → ℕ)
        → f d.loaded (desk_in d).nest_is d.planned (desk_in d).key ≡
        f e.loaded (desk_in e).nest_is e.planned (desk_in e).key
    alike f = cc (loaded, nest, planned, key)

-- the same of a placement text
abbrev placement_value : List ℕ → List ℕ → Desk → ℕ
placement_value s ts x =
    pick (eqb (placement_fault x s ts).number 0) (calls_of x.nest_is ts (read_in x s).gaps) 0

pub placement_alike : PlacementAlike
placement_alike d e s ts a b loaded nest h k =
    same_reply a.number a.line a.calls b.number b.line b.calls
    (h.number_is ∙ alike (λ l x. (placement_fault (desk l x false [] [] []) s ts).number) ∙ sym k.number_is)
    (h.line_is ∙ alike (λ l x. (placement_fault (desk l x false [] [] []) s ts).place) ∙ sym k.line_is)
    (h.calls_are ∙ alike (λ l x. placement_value s ts (desk l x false [] [] [])) ∙ sym k.calls_are)
  where
    alike :
        (f : Bool → Nest → ℕ) → f d.loaded (desk_in d).nest_is ≡ f e.loaded (desk_in e).nest_is
    alike f = cc (loaded, nest)
