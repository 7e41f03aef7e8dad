-- The search for the claim that a step leads to: what is left of the claims gives the same as all of them.
-- Main definition: `Searching`, what a turn keeps. Main statements: `search_start`, `search_found`, `search_on`,
-- `search_done`.
use mathlib.Core.Path.{◌≡◌}
use mathlib.Core.Bool.{true, false}
use mathlib.Core.List.{List}
use Prim.Native.Nat.{ℕ, suc, ◌+◌, ◌<◌}
use native.Mathlib.Numerals.{add-one}
use native.Mathlib.Omega.{arith}
use lib.ListN.{length, drop, get_or}
use Rattle.std.proofs.Math.Seq.{drop-cons, drop-length}
use Rattle.argue_texts.specs.declared.Claimed.{Claimed}
use Rattle.argue_key.specs.Laps.{is_from, find_claim}
use Rattle.argue_trace.specs.Traced.{claim_in, claims_in}

pub record Searching (claims : List Claimed) (l a t i : ℕ) : Type 0 where
  pub rest : i + find_claim (claims_in (drop i claims)) l a t ≡ find_claim (claims_in claims) l a t

module _ {claims : List Claimed} {l a t : ℕ} where
  pub search_start : Searching claims l a t 0
  search_start = record { rest = omega arith }

  module _ {i : ℕ} (s : Searching claims l a t i) (other : Claimed) where
    pub search_found : i < length claims → true ≡ is_from (claim_in (get_or claims i other)) l a t →
        i ≡ find_claim (claims_in claims) l a t
    unfolding find_claim
    search_found h e = let z = rw (drop-cons claims i other h, ← e) at s.rest in omega (arith, z)

    pub search_on : i < length claims → false ≡ is_from (claim_in (get_or claims i other)) l a t →
        Searching claims l a t (i + 1)
    unfolding find_claim
    search_on h e =
        let z : i + suc (find_claim (claims_in (drop (suc i) claims)) l a t) ≡ find_claim (claims_in claims) l a t =
        rw (drop-cons claims i other h, ← e) at s.rest in
        record { rest = rw (add-one i) (omega (arith, z)) }

  pub search_done : Searching claims l a t (length claims) → length claims ≡ find_claim (claims_in claims) l a t
  unfolding find_claim
  search_done s = let z = rw (drop-length claims) at s.rest in omega (arith, z)
