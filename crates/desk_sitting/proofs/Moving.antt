-- A move goes through the dependences from the last to the first and writes the counts of those that have its gap.
-- Main statements: `Moving`, what a turn keeps; `Move-start`, `move_past`, `move_on`; `uncut_least`, `uncut_most`.
use mathlib.Core.Path.{◌≡◌, refl, sym, ap, ◌∙◌}
use mathlib.Core.List.{List, ◌∷◌}
use mathlib.Core.Logic.{⊎_elim}
use Prim.Native.Nat.{ℕ, suc, ◌+◌, ◌-◌, ◌≤◌, ◌<◌}
use native.Mathlib.Omega.{arith}
use lib.Dec.{eqb}
use lib.ListN.{length, get_or, set, take, drop, length-set, length-drop}
use lib.Seq.{get_or-set_same, get_or-set_other, take-length, drop-length, length-take-le}
use Rattle.laws.specs.Bits.{one}
use Rattle.laws.proofs.Tests.{le_or}
use Rattle.paper_nests.specs.Kinds.{DEPENDENCES}
use Rattle.paper_nests.specs.Nests.{Dep, Nest}
use Rattle.desk_sitting.specs.Counts.{cut_count, count_at, uncut_count}
use Rattle.desk_sitting.proofs.Counts.{count-at, count_beyond, uncut_take, uncut_drop, uncut_few}

-- from i on the counts are those of the barriers after the move, before i those of the barriers before it
pub record Moving (n : Nest) (before after : List ℕ) (i : ℕ) (counts : List ℕ) (uncut : ℕ) : Type 0 where
  pub within : i ≤ length n.deps
  pub long : length counts ≡ DEPENDENCES
  pub old : (j : ℕ) → j < i → get_or counts j 0 ≡ count_at n.points n.deps before j
  pub new : (j : ℕ) → i ≤ j → get_or counts j 0 ≡ count_at n.points n.deps after j
  pub uncut_is
      : uncut ≡
      uncut_count n.points (take i n.deps) before + uncut_count n.points (drop i n.deps) after

module _ (n : Nest) (before after : List ℕ) where
  abbrev ps : List ℕ
  ps = n.points

  abbrev ds : List Dep
  ds = n.deps

  pub Move-start
      : (i : ℕ) (counts : List ℕ) (uncut : ℕ)
      → i ≡ length ds
      → length counts ≡ DEPENDENCES
      → ((j : ℕ) → get_or counts j 0 ≡ count_at ps ds before j)
      → uncut ≡ uncut_count ps ds before
      → Moving n before after i counts uncut
  Move-start i counts uncut e l c u =
      record {
        within = omega arith;
        long = l;
        old = λ j h. c j;
        new =
            λ j h.
            c j ∙ count_beyond ps ds before j (omega arith) ∙ sym (count_beyond ps ds after j (omega arith));
        uncut_is = rw (e, take-length ds, drop-length ds) (omega arith);
      }

  module _
      (i : ℕ) (counts : List ℕ) (uncut : ℕ) (m : Moving n before after (suc i) counts uncut) (e : Dep)
      (here : drop i ds ≡ e ∷ drop (suc i) ds)
    where
      -- the count that is kept of the dependence, and what it does to the uncut
      kept_now : get_or counts i 0 ≡ cut_count ps e before
      kept_now = m.old i (omega arith) ∙ count-at ps ds before i e (drop (suc i) ds) here

      uncut_now
          : uncut ≡
          (uncut_count ps (take i ds) before + one (eqb (cut_count ps e before) 0)) +
          uncut_count ps (drop (suc i) ds) after
      uncut_now = omega (arith, m.uncut_is, uncut_take ps ds before i e (drop (suc i) ds) here)

      -- the dependence at i is written
      written
          : (counts' : List ℕ) (uncut' : ℕ)
          → length counts' ≡ DEPENDENCES
          → get_or counts' i 0 ≡ cut_count ps e after
          → ((j : ℕ) → (j ≡ i → ⊥) → get_or counts' j 0 ≡ get_or counts j 0)
          → uncut' + one (eqb (cut_count ps e before) 0) ≡ uncut + one (eqb (cut_count ps e after) 0)
          → Moving n before after i counts' uncut'
      written counts' uncut' l c others u =
          record {
            within = omega (arith, m.within);
            long = l;
            old = λ j h. others j (λ z. omega arith) ∙ m.old j (omega arith);
            new =
                λ j h.
                ⊎_elim
                (λ (z : suc i ≤ j). others j (λ y. omega arith) ∙ m.new j z)
                (λ (z : j < suc i).
                let y : j ≡ i = omega arith in
                rw y (c ∙ sym (count-at ps ds after i e (drop (suc i) ds) here)))
                (le_or (suc i) j);
            uncut_is = omega (arith, uncut_now, uncut_drop ps ds after i e here);
          }

      -- a dependence whose count stays
      pub past : cut_count ps e after ≡ cut_count ps e before → Moving n before after i counts uncut
      past same = written counts uncut m.long (kept_now ∙ sym same) (λ j h. refl) (rw same refl)

      pub write
          : (c uncut' : ℕ)
          → i < DEPENDENCES
          → c ≡ cut_count ps e after
          → uncut' + one (eqb (cut_count ps e before) 0) ≡ uncut + one (eqb (cut_count ps e after) 0)
          → Moving n before after i (set counts i c) uncut'
      write c uncut' h q u =
          written
          (set counts i c)
          uncut'
          (length-set counts i c ∙ m.long)
          (get_or-set_same counts i c 0 (omega (arith, m.long)) ∙ q)
          (λ j z. get_or-set_other counts i j c 0 z)
          u

-- the turn for the dependence e before i, as the code writes it
pub record Turn (n : Nest) (before after : List ℕ) (i : ℕ) (counts : List ℕ) (uncut : ℕ) (e : Dep) : Type 0 where
  pub some : 0 < i
  pub moving : Moving n before after i counts uncut
  pub few : length n.deps ≤ DEPENDENCES
  pub here : drop (i - 1) n.deps ≡ e ∷ drop (suc (i - 1)) n.deps

module _
    {n : Nest} {before after : List ℕ} {i : ℕ} {counts : List ℕ} {uncut : ℕ} {e : Dep}
    (t : Turn n before after i counts uncut e)
  where
    abbrev old_count : ℕ
    old_count = cut_count n.points e before

    abbrev new_count : ℕ
    new_count = cut_count n.points e after

    turn : Moving n before after (suc (i - 1)) counts uncut
    turn = let z : suc (i - 1) ≡ i = omega (arith, t.some) in rw z t.moving

    pub kept_is : get_or counts (i - 1) 0 ≡ old_count
    kept_is = kept_now n before after (i - 1) counts uncut turn e t.here

    inside : i - 1 < DEPENDENCES
    inside = omega (arith, t.some, t.few, t.moving.within)

    -- a dependence whose count stays
    pub move_past : new_count ≡ old_count → Moving n before after (i - 1) counts uncut
    move_past = past n before after (i - 1) counts uncut turn e t.here

    -- it is among the uncut if no barrier cuts it
    pub uncut_least : one (eqb (get_or counts (i - 1) 0) 0) ≤ uncut
    uncut_least =
        let y : one (eqb (get_or counts (i - 1) 0) 0) ≡ one (eqb old_count 0) = ap (λ (x : ℕ). one (eqb x 0)) kept_is in
        omega (arith, y, uncut_now n before after (i - 1) counts uncut turn e t.here)

    pub uncut_most : uncut ≤ DEPENDENCES
    uncut_most =
        omega (
          arith,
          t.moving.uncut_is,
          uncut_few n.points (take i n.deps) before,
          uncut_few n.points (drop i n.deps) after,
          length-take-le i n.deps t.moving.within,
          length-drop i n.deps,
          t.few,
        )

    -- its new count is written, and the uncut told by both counts
    pub move_on
        : (c uncut' : ℕ)
        → c ≡ new_count
        → uncut' + one (eqb (get_or counts (i - 1) 0) 0) ≡ uncut + one (eqb c 0)
        → Moving n before after (i - 1) (set counts (i - 1) c) uncut'
    move_on c uncut' is both =
        write n before after (i - 1) counts uncut turn e t.here c uncut' inside is
        (rw (is, kept_is) at both)
