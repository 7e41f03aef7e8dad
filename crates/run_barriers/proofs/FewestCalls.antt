-- 001, lemma 2, in the desk's words: under turns that fit, no correct placement has fewer barrier calls than the key,
-- where nothing is barred.
-- Main statements: `fewest_calls`, `fewest_of_keys`.
use mathlib.Core.Path.{◌≡◌, ◌∙◌}
use mathlib.Core.Bool.{true}
use mathlib.Core.List.{List, []}
use Prim.Native.Nat.{ℕ, ◌≤◌}
use native.Mathlib.Omega.{arith}
use Rattle.paper_nests.specs.Nests.{Nest}
use Rattle.paper_nests.specs.Valid.{is_shape, is_valid}
use Rattle.paper_nests.proofs.Deps.{valid_is, deps_fit}
use Rattle.paper_placements.specs.Placements.{is_correct}
use Rattle.paper_order.specs.Keys.{IsKey}
use Rattle.paper_placements.proofs.Cuts.{correct_gaps, correct_cuts}
use Rattle.paper_order.proofs.Keys.{keys_agree}
use Rattle.paper_barred.proofs.Blocked.{unbarred_open}
use Rattle.plan_method.specs.Home.{loops_in, key_in}
use Rattle.plan_method.proofs.Instance.{AllFit}
use Rattle.plan_exchange.proofs.Prices.{calls, calls_same}
use Rattle.plan_exchange.proofs.Fewest.{nest_fewest}
use Rattle.plan_theorem.specs.KeyOf.{plain_key, key_of}
use Rattle.plan_theorem.proofs.Predicates.{member_of, list_cuts, same_count}
use Rattle.plan_theorem.proofs.KeyIsKey.{key_is_key}
use Rattle.plan_theorem.proofs.KeyGaps.{plain_gaps, in_plain, key_plain}
use Rattle.run_barriers.specs.Calls.{calls_of, turns_fit}
use Rattle.run_barriers.proofs.ByLoops.{price_of, same_calls, list_calls, doubling}

module _ (n : Nest) (shape : is_shape n.points ≡ true) (fit : AllFit n.points n.deps) (ts : List ℕ) where
  -- the plain key's calls are those of the placement that the planner lays
  plain_calls :
      calls_of n ts (plain_key n) ≡
      calls (loops_in n.points) 0 (price_of n.points ts) (key_in n.points n.deps)
  plain_calls =
      list_calls n shape ts (plain_key n) (plain_gaps n shape fit) ∙
      calls_same (loops_in n.points) 0 (price_of n.points ts) (member_of (plain_key n)) (key_in n.points n.deps)
      (λ l h. same_count n.points (member_of (plain_key n)) (key_in n.points n.deps) l (in_plain n shape fit))

  -- of points that make loops and dependences that are placed well
  pub fitting_calls :
      turns_fit n ts ≡ true → (gs : List ℕ) → is_correct n gs ≡ true → calls_of n ts (plain_key n) ≤ calls_of n ts gs
  fitting_calls turns gs c =
      omega (
        arith,
        plain_calls,
        list_calls n shape ts gs (correct_gaps n gs c),
        nest_fewest n.points n.deps shape fit (price_of n.points ts) (doubling n shape ts turns) (member_of gs)
            (λ e a. list_cuts n.points e gs (correct_cuts n gs c e a)),
      )

-- no correct placement has fewer calls under those turns
pub fewest_calls :
    (n : Nest) (ts gs : List ℕ) → is_valid n ≡ true → n.barred ≡ [] → turns_fit n ts ≡ true → is_correct n gs ≡ true →
    calls_of n ts (key_of n) ≤ calls_of n ts gs
fewest_calls n ts gs h none turns c =
    let v = valid_is n h in
    rw (key_plain n none)
    (fitting_calls n v.shape (deps_fit n.points n.deps v.all-deps) ts turns gs c)

-- and so of every key: all keys have the same counts
pub fewest_of_keys :
    (n : Nest) (ts ks gs : List ℕ) → is_valid n ≡ true → n.barred ≡ [] → turns_fit n ts ≡ true → IsKey n ks →
    is_correct n gs ≡ true → calls_of n ts ks ≤ calls_of n ts gs
fewest_of_keys n ts ks gs h none turns key c =
    let shape = (valid_is n h).shape in
    let k = key_is_key n h (unbarred_open n h none) in
    let same : calls_of n ts ks ≡ calls_of n ts (key_of n) =
    same_calls n shape ts ks (key_of n) (correct_gaps n ks key.correct) (correct_gaps n (key_of n) k.correct)
    (keys_agree n shape ks (key_of n) key k) in
    omega (arith, fewest_calls n ts gs h none turns c)
