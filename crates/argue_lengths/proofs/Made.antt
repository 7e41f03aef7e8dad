-- A claim for each head: what holds of every claim that is made for a head of some loop holds of every claim of an
-- argument.
-- Main statements: `each_made`, `each_head`, `each_claim`.
use mathlib.Core.Path.{◌≡◌, refl, sym, subst}
use mathlib.Core.List.{List, [], ◌∷◌, ◌++◌}
use mathlib.Core.Logic.{inl, inr, ⊎_elim}
use Prim.Native.Nat.{ℕ, zero, suc, ◌+◌, ◌≤◌}
use native.Mathlib.Omega.{arith}
use lib.ListN.{length, length-append}
use Rattle.laws.specs.Members.{Among}
use Rattle.argue_claims.proofs.Listed.{among_or}
use Rattle.paper_nests.specs.Nests.{Dep}
use Rattle.plan_method.specs.Sweep.{Tables}
use Rattle.plan_method.specs.Plan.{table_of}
use Rattle.plan_method.specs.Home.{loops_in, lines_in}
use Rattle.argue_claims.specs.Arguments.{Claim}
use Rattle.argue_key.specs.Laps.{Head, claim_for, made, loop_heads, heads_from, plain_argument}
use Rattle.argue_key.proofs.AllClaims.{made_length}

module _ (ps : List ℕ) (ds : List Dep) (T : Tables) where
  -- claims after cs; no more than m claims stand before each
  pub each_made : (P : Claim → Type 0) (m : ℕ) (hs : List Head) (cs : List Claim) → length cs + length hs ≤ m →
      ((h : Head) (before : List Claim) → Among h hs → length before ≤ m → P (claim_for ps ds T before h)) →
      (k : Claim) → Among k (made ps ds T cs hs) → P k
  unfolding made
  each_made P m [] cs few each k a = absurd a
  each_made P m (h ∷ hs) cs few each k a = ⊎_elim
      (λ (z : k ≡ claim_for ps ds T cs h). subst P (sym z) (each h cs (inl refl) (omega (arith, few))))
      (λ (z : Among k (made ps ds T (cs ++ (claim_for ps ds T cs h ∷ [])) hs)).
      each_made P m hs (cs ++ (claim_for ps ds T cs h ∷ []))
      (omega (arith, few, length-append cs (claim_for ps ds T cs h ∷ [])))
      (λ j before b. each j before (inr b)) k z)
      a

  pub each_head : (P : Head → Type 0) (k d : ℕ) (hs : List Head) → ((h : Head) → Among h hs → P h) →
      ((l : ℕ) (h : Head) → Among h (loop_heads ps T l) → P h) → (h : Head) → Among h (heads_from ps T k d hs) → P h
  unfolding heads_from
  each_head P zero d hs first each h a = first h a
  each_head P (suc k) d hs first each h a =
      each_head P k (suc d) (loop_heads ps T d ++ hs)
      (λ j b. ⊎_elim (each d j) (first j) (among_or j (loop_heads ps T d) hs b)) each h a

pub each_claim : (ps : List ℕ) (ds : List Dep) (P : Claim → Type 0) →
    ((h : Head) (before : List Claim) (l : ℕ) →
    Among h (loop_heads ps (table_of (loops_in ps) (lines_in ps ds) (length ps)) l) →
    length before ≤ length (plain_argument ps ds) →
    P (claim_for ps ds (table_of (loops_in ps) (lines_in ps ds) (length ps)) before h)) →
    (k : Claim) → Among k (plain_argument ps ds) → P k
unfolding plain_argument
each_claim ps ds P each =
    each_made ps ds T P (length (made ps ds T [] heads)) heads [] (omega (arith, made_length ps ds T [] heads))
    (λ h before a few. each_head ps ds T
    (λ (j : Head). (before : List Claim) → length before ≤ length (made ps ds T [] heads) →
    P (claim_for ps ds T before j)) (length ps) 0 []
    (λ j b. absurd b) (λ l j b before. each j before l b) h a before few)
  where
    T : Tables
    T = table_of (loops_in ps) (lines_in ps ds) (length ps)

    heads : List Head
    heads = heads_from ps T (length ps) 0 []
