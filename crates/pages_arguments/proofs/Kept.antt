-- The page of the arguments is kept: soundness (crate argue_claims) is carried to the page of the demands; and the
-- argument of `key_of` (crate argue_key) is one of the desk's key, which is `key_of` of its nest.
-- Main statement: `argued_kept`.
use mathlib.Core.Path.{◌≡◌, sym, ◌∙◌, ap, subst}
use mathlib.Core.Bool.{true}
use mathlib.Core.List.{List}
use Prim.Native.Nat.{ℕ}
use lib.ListN.{take}
use Rattle.paper_nests.specs.Nests.{Nest}
use Rattle.paper_nests.specs.Valid.{is_valid}
use Rattle.paper_nests.specs.Stored.{nest_in}
use Rattle.paper_nests.proofs.Deps.{valid_is}
use Rattle.paper_order.specs.Keys.{IsKey}
use Rattle.paper_texts.proofs.Accepted.{accepted_valid}
use Rattle.argue_claims.specs.Arguments.{Claim}
use Rattle.argue_claims.proofs.Theorem.{argued_key}
use Rattle.argue_key.specs.Laps.{argument_of}
use Rattle.argue_key.proofs.Argued.{argued}
use Rattle.desk.specs.declared.Desk.{Desk}
use Rattle.desk.specs.Desks.{IsMade}
use Rattle.desk.proofs.Made.{since_holds}
use Rattle.pages.specs.Demands.{paper_in, Key, Since, KeyOn}
use Rattle.pages.proofs.Placements.{nest_of, nest_of_paper}
use Rattle.pages.proofs.Keys.{key-of}
use Rattle.pages.proofs.Kept.{has-nest, key_same}
use Rattle.pages.proofs.Desks.{reached_made, since_is}
use Rattle.pages_arguments.specs.Argued.{Argues, Argued}

module _ (t : List ℕ) (d : Desk) (q : Since t d) where
  valid : is_valid (nest_in d.nest) ≡ true
  valid =
      let s = since_holds t d (since_is t d q) in
      ap is_valid s.nest_is ∙ accepted_valid t s.accepted

  as_paper : nest_in d.nest ≡ nest_of (paper_in d.nest) (take d.nest.flags d.nest.flagged)
  as_paper = nest_of_paper d.nest

  sound : (gs : List ℕ) (cs : List Claim) → Argues d gs cs → Key (paper_in d.nest) gs
  sound gs cs h =
      key-of (paper_in d.nest) (take d.nest.flags d.nest.flagged) (ap is_valid (sym as_paper) ∙ valid) gs
      (subst (λ (n : Nest). IsKey n gs) as_paper (argued_key (nest_in d.nest)
      (valid_is (nest_in d.nest) valid).shape gs cs h))

planned : (d : Desk) (gs : List ℕ) → IsMade d → KeyOn d gs → (cs : List Claim) × Argues d gs cs
planned d gs m k =
    let v : is_valid (nest_in d.nest) ≡ true = m.paper.valid (has-nest d m gs k) in (
      argument_of (nest_in d.nest),
      subst (λ (x : List ℕ). Argues d x (argument_of (nest_in d.nest)))
          (sym (key_same d m gs k ∙ m.paper.key_is k.planned))
          (argued (nest_in d.nest) v (m.paper.opens k.planned)),
    )

pub argued_kept : Argued
argued_kept =
    record {
      sound = λ t d gs cs q h. sound t d q gs cs h;
      planned = λ d gs r k. planned d gs (reached_made d r) k;
    }
