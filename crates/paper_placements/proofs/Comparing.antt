-- Two placements compared loop by loop, by the loops' ENDDOs.
-- Main statements: `not_first`, `ends_loop`; `Compares`, what a turn keeps; `compare_start`, `compare_other`, `compare_same`, `compare_differ`,
-- `compare_done`.
use mathlib.Core.Path.{◌≡◌, sym, ap, ◌∙◌}
use mathlib.Core.Bool.{true}
use mathlib.Core.List.{List, ◌∷◌}
use Prim.Native.Nat.{ℕ, suc, ◌+◌, ◌-◌, ◌≤◌, ◌<◌}
use native.Mathlib.Omega.{arith}
use lib.ListN.{length, get_or}
use borrow.Author.Tests.{eq-eqb, ne_eqb}
use Rattle.paper_nests.specs.Nests.{Nest}
use Rattle.paper_nests.specs.Kinds.{ENDDO}
use Rattle.paper_nests.specs.Loops.{owner_of, is_do, end_of}
use Rattle.paper_nests.specs.Valid.{is_shape}
use Rattle.paper_nests.proofs.Levels.{end_not_first}
use Rattle.paper_nests.proofs.Loops.{end_has_do, owner_is_do}
use Rattle.paper_placements.specs.Placements.{loop_count, loops_from, differ_from, differ}
use Rattle.paper_placements.specs.Words.{gaps_in}
use Rattle.paper_placements.specs.Answers.{difference, difference_of, LoopCountSays}

-- an ENDDO is no first point, and ends the loop that it belongs to
module _
    (ps : List ℕ) (s : is_shape ps ≡ true) (e : ℕ) (l : e < length ps) (q : get_or ps e 0 ≡ ENDDO)
  where
    pub not_first : 0 < e
    not_first = end_not_first ps s e (eq-eqb (get_or ps e 0) ENDDO q)

    pub ends_loop : (d : ℕ) → d ≡ owner_of ps e → (is_do ps d ≡ true) × (e ≡ end_of ps d)
    ends_loop d o =
        (rw o (owner_is_do ps s e not_first l), rw o (sym (end_has_do ps s e (eq-eqb (get_or ps e 0) ENDDO q))))

-- the loops that end before e have the same counts in two placements, as words: the rest decides
pub record Compares (ps kw ow : List ℕ) (e : ℕ) : Type 0 where
  pub low : e ≤ length ps
  pub rest
      : (n : Nest)
      → n.points ≡ ps
      → differ_from n (gaps_in kw) (gaps_in ow) (loops_from (length ps - e) e ps) ≡ differ n (gaps_in kw) (gaps_in ow)

pub compare_start : {ps kw ow : List ℕ} → Compares ps kw ow 0
compare_start {ps} =
    record { low = omega arith; rest = λ n same. let z : length ps - 0 ≡ length ps = omega arith in rw (z, same) }

module _ {ps kw ow : List ℕ} {e : ℕ} (p : Compares ps kw ow e) where
  abbrev a : List ℕ
  a = gaps_in kw

  abbrev b : List ℕ
  b = gaps_in ow

  -- a point that ends no loop
  pub compare_other : e < length ps → (get_or ps e 0 ≡ ENDDO → ⊥) → Compares ps kw ow (e + 1)
  compare_other h k =
      record {
        low = omega arith;
        rest =
            λ n same.
            let z : length ps - e ≡ suc (length ps - (e + 1)) = omega arith in
            let y : e + 1 ≡ suc e = omega arith in
            let w : loops_from (length ps - e) e ps ≡ loops_from (length ps - (e + 1)) (e + 1) ps =
            rw (z, ne_eqb (get_or ps e 0) ENDDO k, y) in
            sym (ap (differ_from n a b) w) ∙ p.rest n same;
      }

  -- an ENDDO, with the loop that ends there in front of the rest
  ends_first
      : e < length ps
      → get_or ps e 0 ≡ ENDDO
      → loops_from (length ps - e) e ps ≡ owner_of ps e ∷ loops_from (length ps - (e + 1)) (e + 1) ps
  ends_first h q =
      let z : length ps - e ≡ suc (length ps - (e + 1)) = omega arith in
      let y : e + 1 ≡ suc e = omega arith in
      rw (z, eq-eqb (get_or ps e 0) ENDDO q, y)

  -- the counts of that loop
  module _
      (h : e < length ps) (q : get_or ps e 0 ≡ ENDDO) {d ours theirs : ℕ} (o : d ≡ owner_of ps e)
      (f : LoopCountSays ps d kw ours) (g : LoopCountSays ps d ow theirs)
    where
      first
          : (n : Nest)
          → n.points ≡ ps
          → differ_from n a b (d ∷ loops_from (length ps - (e + 1)) (e + 1) ps) ≡ differ n a b
      first n same = rw o (rw (ends_first h q) at (p.rest n same))

      pub compare_same : ours ≡ theirs → Compares ps kw ow (e + 1)
      compare_same c =
          record {
            low = omega arith;
            rest =
                λ n same.
                let w = sym (f n same) ∙ c ∙ g n same in
                rw (eq-eqb (loop_count n a d) (loop_count n b d) w) at (first n same);
          }

      pub compare_differ
          : (ours ≡ theirs → ⊥)
          → (n : Nest)
          → n.points ≡ ps
          → difference (suc d) theirs ours ≡ difference_of n a b
      compare_differ k n same =
          let z : differ n a b ≡ suc d =
          sym (first n same) ∙
          rw (ne_eqb (loop_count n a d) (loop_count n b d) (λ w. k (f n same ∙ w ∙ sym (g n same)))) in
          let y : suc d - 1 ≡ d = omega arith in
          rw (z, ne_eqb (suc d) 0 (λ w. omega arith), y, f n same, g n same)

  pub compare_done : length ps ≤ e → (n : Nest) → n.points ≡ ps → difference 0 0 0 ≡ difference_of n a b
  compare_done h n same =
      let z : length ps - e ≡ 0 = omega arith in
      let y : differ n a b ≡ 0 = sym (p.rest n same) ∙ rw z in
      rw y
