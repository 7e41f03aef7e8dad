-- The pass over the points with the tables of both placements' counts, whatever nest has the points.
-- Main definitions: `Weighs`, what a turn keeps; `Turn`, what it has; `Ending`, where a loop ends. Main statements:
-- `by_other`, `by_hidden`, `by_same`, `by_less`, `by_more`, `by_done`.
use mathlib.Core.Path.{◌≡◌, sym, ◌∙◌}
use mathlib.Core.Bool.{Bool, true, false, ◌||◌}
use mathlib.Core.List.{List}
use Prim.Native.Nat.{ℕ, ◌+◌, ◌≤◌, ◌<◌}
use native.Mathlib.Omega.{arith}
use lib.Dec.{eqb}
use lib.ListN.{length, get_or}
use Rattle.laws.specs.Entries.{at}
use Rattle.paper_nests.specs.Kinds.{ENDDO, POINTS}
use Rattle.paper_nests.specs.Nests.{Nest}
use Rattle.paper_nests.specs.Loops.{owner_of}
use Rattle.paper_nests.specs.Valid.{is_shape}
use Rattle.paper_nests.proofs.Loops.{owner_at_most}
use Rattle.paper_placements.specs.Words.{holds}
use Rattle.paper_counts.specs.Tables.{CountsAre}
use Rattle.paper_weigh.specs.declared.Standing as DS
use Rattle.paper_weigh.specs.Weighed.{IsWeighed}
use Rattle.paper_weigh.proofs.Weighing.{Weighing, weigh_other, weigh_hidden, weigh_same}
use Rattle.paper_weigh.proofs.Weighing.{weigh_less, weigh_more, weigh_done}

pub record Weighs (ps of_a of_b : List ℕ) (e latest : ℕ) (first second : Bool) (ws : List ℕ) : Type 0 where
  pub within : e ≤ length ps
  pub each
      : (n : Nest) (a b : List ℕ)
      → n.points ≡ ps
      → CountsAre ps a of_a
      → CountsAre ps b of_b
      → Weighing n a b e latest first second ws

pub record Turn (ps of_a of_b : List ℕ) (e latest : ℕ) (first second : Bool) (ws : List ℕ) : Type 0 where
  pub shape : is_shape ps ≡ true
  pub few : length ps ≤ POINTS
  pub there : e < length ps
  pub kept : Weighs ps of_a of_b e latest first second ws

-- point e is the ENDDO of loop d
pub record Ending (ps : List ℕ) (e d : ℕ) : Type 0 where
  pub ends : get_or ps e 0 ≡ ENDDO
  pub owner : d ≡ owner_of ps e

module _
    {ps of_a of_b : List ℕ} {e latest : ℕ} {first second : Bool} {ws : List ℕ}
    (t : Turn ps of_a of_b e latest first second ws) where
  pub by_other : (get_or ps e 0 ≡ ENDDO → ⊥) → Weighs ps of_a of_b (e + 1) latest first second ws
  by_other k =
      record {
        within = omega (arith, t.there);
        each =
            λ n a b same ca cb.
            weigh_other n (rw same t.shape) a b e latest first second ws (t.kept.each n a b same ca cb)
            (rw same k);
      }

  module _ {d : ℕ} (x : Ending ps e d) where
    pub by_hidden : d < latest → Weighs ps of_a of_b (e + 1) latest first second ws
    by_hidden h =
        record {
          within = omega (arith, t.there);
          each =
              λ n a b same ca cb.
              weigh_hidden n (rw same t.shape) a b e latest first second ws (t.kept.each n a b same ca cb)
              (rw same x.ends) d (rw same x.owner) h;
        }

    -- d has an entry
    pub in_tables : d < POINTS
    in_tables = omega (arith, x.owner, owner_at_most ps e, t.there, t.few)

    pub by_same : at of_a d ≡ at of_b d → Weighs ps of_a of_b (e + 1) latest first second ws
    by_same h =
        record {
          within = omega (arith, t.there);
          each =
              λ n a b same ca cb.
              weigh_same n (rw same t.shape) a b e latest first second ws (t.kept.each n a b same ca cb)
              (rw same x.ends) d (rw same x.owner) (sym (ca n same d in_tables) ∙ h ∙ cb n same d in_tables);
        }

    module _ (h : latest ≤ d) (vs : List ℕ) (with_d : (i : ℕ) → holds vs i ≡ (eqb i d || holds ws i)) where
      pub by_less : at of_a d < at of_b d → Weighs ps of_a of_b (e + 1) d first false vs
      by_less m =
          record {
            within = omega (arith, t.there);
            each =
                λ n a b same ca cb.
                weigh_less n (rw same t.shape) a b e latest first second ws (t.kept.each n a b same ca cb)
                (rw same x.ends) d (rw same x.owner) h vs with_d
                (omega (arith, ca n same d in_tables, cb n same d in_tables));
          }

      pub by_more : at of_b d < at of_a d → Weighs ps of_a of_b (e + 1) d false second vs
      by_more m =
          record {
            within = omega (arith, t.there);
            each =
                λ n a b same ca cb.
                weigh_more n (rw same t.shape) a b e latest first second ws (t.kept.each n a b same ca cb)
                (rw same x.ends) d (rw same x.owner) h vs with_d
                (omega (arith, ca n same d in_tables, cb n same d in_tables));
          }

pub by_done
    : {ps of_a of_b : List ℕ} {e latest : ℕ} (r : DS.Standing) (a b : List ℕ)
    → (is_shape ps ≡ true) × (length ps ≤ POINTS)
    → length ps ≤ e
    → Weighs ps of_a of_b e latest r.first r.second r.deciding.words
    → CountsAre ps a of_a
    → CountsAre ps b of_b
    → (n : Nest)
    → n.points ≡ ps
    → IsWeighed n a b r
by_done {ps} {of_a} {of_b} {e} {latest} r a b fits end w ca cb n same =
    weigh_done n (rw same fits.0) a b e latest r (rw same end) (rw same fits.1) (w.each n a b same ca cb)
