-- What a desk with an empty sitting and no moves holds, from what its parts hold.
-- Main statements: `held`, `held_empty`.
use mathlib.Core.Path.{◌≡◌, sym, subst}
use mathlib.Core.Bool.{Bool, false}
use mathlib.Core.List.{List, []}
use Prim.Native.Nat.{ℕ}
use Rattle.paper_nests.specs.declared.Nest as DN
use Rattle.paper_nests.specs.Nests.{Nest, empty}
use Rattle.paper_nests.specs.Stored.{nest_in, IsCounted, IsEmpty}
use Rattle.paper_placements.specs.Words.{holds, gaps_in}
use Rattle.paper_placements.proofs.Words.{gaps_none}
use Rattle.desk_sitting.specs.declared.Sitting as DS
use Rattle.desk_sitting.specs.Kept as Kept
use Rattle.desk_sitting.proofs.Outcome.{empty_kept}
use Rattle.desk_moves.specs.Ring as Ring
use Rattle.desk.specs.declared.Desk as DD
use Rattle.desk.specs.Desks.{desk, empty_desk}
use Rattle.desk.specs.Says.{Holds}

-- an empty sitting keeps a fresh count of the nest for which it was made
fresh_kept : (n : DN.Nest) (s : DS.Sitting) → IsCounted n → Kept.EmptySays n.many s → Kept.Kept (nest_in n) s
fresh_kept n s c e = empty_kept (nest_in n) s (subst (λ (m : ℕ). Kept.EmptySays m s) c.many_is e)

pub held
    : (d : DD.Desk) (a : Bool) (n : Nest) (b : Bool) (k : List ℕ)
    → d.loaded ≡ a → nest_in d.nest ≡ n → d.planned ≡ b → gaps_in d.key.words ≡ k → IsCounted d.nest
    → Kept.EmptySays d.nest.many d.sitting
    → Ring.EmptySays d.moves
    → Holds d (desk a n b k [] [])
held d a n b k p q r s c e m =
    record {
      holds = rw (p, q, r, s, e.no_gaps, m.moves_are);
      counted = c;
      kept = fresh_kept d.nest d.sitting c e;
      ring = m.ring;
    }

pub held_empty
    : (d : DD.Desk)
    → d.loaded ≡ false → IsEmpty d.nest → d.planned ≡ false → ((i : ℕ) → holds d.key.words i ≡ false)
    → Kept.EmptySays 0 d.sitting
    → Ring.EmptySays d.moves
    → Holds d empty_desk
held_empty d p e r h s m =
    held d false empty false [] p e.nest_is r (gaps_none d.key.words (λ i l. h i)) e.counted
    (subst (λ (x : ℕ). Kept.EmptySays x d.sitting) (sym e.no_deps) s) m
