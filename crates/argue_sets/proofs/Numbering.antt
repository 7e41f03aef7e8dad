-- The passes over the dependences, from the last to the first: the sets of the lines that were passed stand in the
-- table, and of what goes back the last is known.
-- Main definitions: `Numbering`, `Backing`, what a turn keeps. Main statements: `line_passed`, `line_put`,
-- `number_start`, `number_on`, `number_done`, `back_start`, `back_on`, `back_done`.
use mathlib.Core.Path.{◌≡◌, refl, sym, ◌∙◌, ap}
use mathlib.Core.Bool.{Bool, true, false, ◌&&◌}
use mathlib.Core.List.{List, [], ◌∷◌}
use Prim.Native.Nat.{ℕ, zero, suc, ◌+◌, ◌-◌, ◌≤◌, ◌<◌}
use native.Mathlib.Omega.{arith}
use lib.Dec.{eqb}
use lib.ListN.{length, get_or, drop, set, drop_of_length-le}
use borrow.Author.Tests.{eqb-true, eq-eqb, ne_eqb}
use Rattle.laws.specs.Choice.{pick}
use Rattle.laws.specs.Entries.{at}
use Rattle.laws.proofs.Tests.{never_both, and_true, and_intro}
use Rattle.laws.proofs.Members.{among_drop}
use Rattle.paper_nests.specs.Kinds.{INDEPENDENT}
use Rattle.paper_nests.specs.Nests.{Dep}
use Rattle.paper_nests.specs.Loops.{is_do, end_of, owner_from}
use Rattle.paper_nests.specs.declared.Dependence as DE
use Rattle.paper_nests.specs.declared.Nest as DN
use Rattle.paper_nests.specs.Stored.{dep_in, deps_in, nest_in, IsCounted}
use Rattle.paper_nests.proofs.Stored.{deps_in_at}
use Rattle.paper_nests.proofs.Loops.{Owner}
use Rattle.paper_nests.proofs.Deps.{Fits, Line}
use Rattle.paper_nests.proofs.Gaps.{home_law}
use Rattle.plan_method.specs.Home.{home_of, starts_at, reach_of}
use Rattle.plan_method.proofs.Instance.{AllFit}
use Rattle.plan_tables.specs.Charts.{TABLE, cell, Rows}
use Rattle.plan_tables.proofs.Entries.{entry_here, entry_elsewhere}
use Rattle.plan_tables.proofs.Cells.{Tall, same_cell}
use Rattle.plan_tables.proofs.Entering.{cell_there}
use Rattle.argue_key.specs.Laps.{Start, starting, is_back, starts_later, last_back, line_num}
use Rattle.argue_sets.specs.Numbered.{line_set, Unnumbered, NumberSays, LaterSays}

-- ---- one line

-- a line starts in one loop, at one gap
starts_once : (ps : List ℕ) (e : Dep) (x d a : ℕ) → home_of ps e ≡ x → starts_at ps d a e ≡ true →
    (d ≡ x) × (a ≡ e.s + 1)
starts_once ps e x d a home h =
    let y = and_true (eqb e.kind INDEPENDENT) (eqb (home_of ps e) d && eqb (suc e.s) a) h in
    let z = and_true (eqb (home_of ps e) d) (eqb (suc e.s) a) y.1 in
    (sym (eqb-true (home_of ps e) d z.0) ∙ home, omega (arith, eqb-true (suc e.s) a z.1))

module _ {ps heights : List ℕ} (w : Tall ps heights) {e : Dep} {x : ℕ} (f : Line ps e)
    (x_is : x ≡ owner_from (suc e.s) e.t ps) where
  home_is : home_of ps e ≡ x
  home_is = rw f.kind_is (sym x_is)

  home_at : Owner ps (suc e.s) e.t x
  home_at = rw x_is (home_law ps w.points.shape e.s e.t f.target_there)

  place_is : (d a : ℕ) → starts_at ps d a e ≡ true → cell heights d a ≡ cell heights x (e.s + 1)
  place_is d a h = let o = starts_once ps e x d a home_is h in rw (o.0, o.1)

  hit : starts_at ps x (e.s + 1) e ≡ true
  hit =
      and_intro (eq-eqb e.kind INDEPENDENT f.kind_is)
      (and_intro (eq-eqb (home_of ps e) x home_is) (eq-eqb (suc e.s) (e.s + 1) (omega arith)))

  -- it ends elsewhere than the reach
  pub line_passed : {reach sets : List ℕ} {v : ℕ} → (at reach (cell heights x (e.s + 1)) ≡ e.t → ⊥) →
      NumberSays ps heights reach e v sets sets
  line_passed {reach} {sets} {v} n = record { sets_is = λ d a h l m. go d a (starts_at ps d a e) refl }
    where
      go : (d a : ℕ) (y : Bool) → starts_at ps d a e ≡ y →
          at sets (cell heights d a) ≡
          pick (y && eqb e.t (at reach (cell heights d a))) v (at sets (cell heights d a))
      go d a true z =
          let u : eqb e.t (at reach (cell heights d a)) ≡ false =
          ne_eqb e.t (at reach (cell heights d a)) (λ q. n (sym (q ∙ ap (at reach) (place_is d a z)))) in
          rw u
      go d a false z = refl

  -- it ends there
  pub line_put : {reach sets : List ℕ} {v : ℕ} → at reach (cell heights x (e.s + 1)) ≡ e.t → TABLE ≤ length sets →
      NumberSays ps heights reach e v sets (set sets (cell heights x (e.s + 1)) v)
  line_put {reach} {sets} {v} n room = record { sets_is = λ d a h l m. go d a h l m (starts_at ps d a e) refl }
    where
      low : x < e.s + 1
      low = omega (arith, home_at.below)

      high : e.s + 1 ≤ end_of ps x
      high = omega (arith, home_at.holds, f.forward)

      go : (d a : ℕ) → is_do ps d ≡ true → d < a → a ≤ end_of ps d → (y : Bool) → starts_at ps d a e ≡ y →
          at (set sets (cell heights x (e.s + 1)) v) (cell heights d a) ≡
          pick (y && eqb e.t (at reach (cell heights d a))) v (at sets (cell heights d a))
      go d a h l m true z =
          let p = place_is d a z in
          let u : eqb e.t (at reach (cell heights d a)) ≡ true =
          eq-eqb e.t (at reach (cell heights d a)) (sym (ap (at reach) p ∙ n)) in
          rw (u, p) (entry_here sets (cell heights x (e.s + 1)) v
          (omega (arith, cell_there w x (e.s + 1) home_at.loop low high)))
      go d a h l m false z =
          entry_elsewhere sets (cell heights x (e.s + 1)) v (cell heights d a)
          (λ s.
          let o = same_cell w d a x (e.s + 1) h l m home_at.loop low high s in
          never_both (rw (← o.0, ← o.1) at hit) z)

-- ---- the passes

-- what a list of dependences has past its end
abbrev no_dependence : DE.Dependence
no_dependence = record { kind = 0; d = 0; s = 0; t = 0 }

deps_there : (n : ℕ) (xs : List DE.Dependence) → length (deps_in n xs) ≤ length xs
deps_there zero xs = omega arith
deps_there (suc n) [] = omega arith
deps_there (suc n) (x ∷ xs) = omega (arith, deps_there n xs)

-- the sets of the dependences from the i-th on
pub record Numbering (ps : List ℕ) (ds : List Dep) (heights sets₀ : List ℕ) (i : ℕ) (sets : List ℕ) : Type 0 where
  pub here : i ≤ length ds
  pub rest
      : (d a : ℕ) → is_do ps d ≡ true → d < a → a ≤ end_of ps d →
      at sets (cell heights d a) ≡ i + 2 + line_num ps d a (reach_of ps ds d a) (drop i ds)
  pub room : TABLE ≤ length sets
  pub size : length sets ≡ length sets₀

-- of those from the i-th on the last that goes back
pub record Backing (ps : List ℕ) (ds : List Dep) (d f i at num : ℕ) : Type 0 where
  pub here : i ≤ length ds
  pub at_is : at ≡ (last_back ps d f (drop i ds)).at
  pub num_is : num ≡ i + (last_back ps d f (drop i ds)).num

module _ {nest : DN.Nest} (counted : IsCounted nest) where
  abbrev ds : List Dep
  ds = (nest_in nest).deps

  at_end : drop nest.many ds ≡ []
  at_end = drop_of_length-le ds {i = nest.many} (omega (arith, counted.many_is))

  -- the dependence that is next
  abbrev pub next_of : ℕ → Dep
  next_of i = dep_in (get_or nest.deps (i - 1) no_dependence)

  next_is : (i : ℕ) → 0 < i → i ≤ length ds → drop (i - 1) ds ≡ next_of i ∷ drop i ds
  next_is i l h =
      let z : suc (i - 1) ≡ i = omega arith in
      rw z at (deps_in_at nest.many nest.deps (i - 1) no_dependence (omega (arith, counted.many_is))
      (omega (arith, deps_there nest.many nest.deps)))

  pub next_fits : {ps : List ℕ} {i : ℕ} → 0 < i → i ≤ length ds → AllFit ps ds → Fits ps (next_of i)
  next_fits {i = i} l h f = f (next_of i) (among_drop (next_of i) ds (drop i ds) (i - 1) (next_is i l h))

  module _ {ps heights : List ℕ} (w : Tall ps heights) where
    pub number_start : {sets : List ℕ} → TABLE ≤ length sets → Unnumbered nest.many sets →
        Numbering ps ds heights sets nest.many sets
    unfolding line_num
    number_start room n =
        record {
          here = omega (arith, counted.many_is);
          rest = λ d a h l m.
              rw at_end (n (cell heights d a) (cell_there w d a h l m) ∙ omega arith);
          room = room;
          size = refl;
        }

    module _ {sets₀ sets : List ℕ} {i : ℕ} (p : Numbering ps ds heights sets₀ i sets) where
      pub number_on : {reach sets' : List ℕ} → 0 < i → Rows ps heights reach (reach_of ps ds) →
          NumberSays ps heights reach (next_of i) (i - 1 + 2) sets sets' → length sets' ≡ length sets →
          Numbering ps ds heights sets₀ (i - 1) sets'
      unfolding line_num
      number_on {reach} {sets'} l r n size =
          record {
            here = omega (arith, p.here);
            rest = on;
            room = omega (arith, p.room);
            size = size ∙ p.size;
          }
        where
          on : (d a : ℕ) → is_do ps d ≡ true → d < a → a ≤ end_of ps d →
              at sets' (cell heights d a) ≡ i - 1 + 2 + line_num ps d a (reach_of ps ds d a) (drop (i - 1) ds)
          on d a h b c =
              let z : at sets' (cell heights d a) ≡
              pick (starts_at ps d a (next_of i) && eqb (next_of i).t (reach_of ps ds d a)) (i - 1 + 2)
              (at sets (cell heights d a)) = rw (r d a h b c) at (n.sets_is d a h b c) in
              rw (next_is i l p.here)
              (go (starts_at ps d a (next_of i) && eqb (next_of i).t (reach_of ps ds d a)) z)
            where
              rest : ℕ
              rest = line_num ps d a (reach_of ps ds d a) (drop i ds)

              go : (y : Bool) → at sets' (cell heights d a) ≡ pick y (i - 1 + 2) (at sets (cell heights d a)) →
                  at sets' (cell heights d a) ≡ i - 1 + 2 + pick y 0 (suc rest)
              go true z = omega arith
              go false z = omega (arith, p.rest d a h b c)

      pub number_done : i ≤ 0 → Rows ps heights sets (line_set ps ds)
      number_done l d a h b c =
          let z : i ≡ 0 = omega arith in
          let y : at sets (cell heights d a) ≡ 0 + 2 + line_num ps d a (reach_of ps ds d a) ds =
          rw z at (p.rest d a h b c) in
          omega arith

  module _ {ps : List ℕ} {d f : ℕ} where
    pub back_start : Backing ps ds d f nest.many 0 nest.many
    unfolding last_back
    back_start =
        record {
          here = omega (arith, counted.many_is);
          at_is = rw at_end refl;
          num_is = rw at_end (omega arith);
        }

    module _ {i at num : ℕ} (p : Backing ps ds d f i at num) where
      pub back_on : {at' num' : ℕ} → 0 < i → LaterSays d f at num (next_of i) (i - 1) at' num' →
          Backing ps ds d f (i - 1) at' num'
      unfolding last_back
      back_on {at'} {num'} l n =
          let z : starting at' num' ≡ pick test (starting (suc (next_of i).s) (i - 1)) (starting at num) =
          rw (← p.at_is) (n.last_is ps) in
          record {
            here = omega (arith, p.here);
            at_is = rw (next_is i l p.here) (go test z).0;
            num_is = rw (next_is i l p.here) (go test z).1;
          }
        where
          r : Start
          r = last_back ps d f (drop i ds)

          test : Bool
          test = is_back ps d f (next_of i) && starts_later r (next_of i)

          go : (y : Bool) → starting at' num' ≡ pick y (starting (suc (next_of i).s) (i - 1)) (starting at num) →
              (at' ≡ (pick y (starting (suc (next_of i).s) 0) (starting r.at (suc r.num))).at) ×
              (num' ≡ i - 1 + (pick y (starting (suc (next_of i).s) 0) (starting r.at (suc r.num))).num)
          go true z = (ap (λ (u : Start). u.at) z, omega (arith, ap (λ (u : Start). u.num) z))
          go false z =
              (ap (λ (u : Start). u.at) z ∙ p.at_is, omega (arith, ap (λ (u : Start). u.num) z, p.num_is))

      pub back_done : i ≤ 0 → starting at num ≡ last_back ps d f ds
      back_done l =
          let z : i ≡ 0 = omega arith in
          let q : Backing ps ds d f 0 at num = rw z at p in
          let y : num ≡ (last_back ps d f ds).num = omega (arith, q.num_is) in
          rw (q.at_is, y) refl
