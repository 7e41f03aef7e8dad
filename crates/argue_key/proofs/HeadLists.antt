-- The heads of a loop's claims: which they are, and that among them are those that the steps of an outer loop ask for:
-- the low claim, "none up to" the row's front, and for every gap the claim of the first gap of its run of equal fronts.
-- Main definitions: `LoopKnown`, `RowIn`, `HeadOf`. Main statements: `low_in`, `side_in`, `row_in`, `head_of`.
use mathlib.Core.Path.{◌≡◌, refl, sym, ap, ◌∙◌}
use mathlib.Core.Bool.{Bool, true, false, ◌&&◌, ◌||◌, not}
use mathlib.Core.List.{List, [], ◌∷◌, ◌++◌}
use mathlib.Core.Logic.{◌⊎◌, inl, inr, ⊎_elim}
use Prim.Native.Nat.{ℕ, zero, suc, ◌≤◌, ◌<◌}
use native.Mathlib.Omega.{arith}
use lib.Dec.{eqb, ltb}
use borrow.Author.Tests.{eqb-true, eqb-false, eq-eqb, ne_eqb, ltb-true, ltb-false, lt-ltb}
use Rattle.laws.specs.Choice.{pick}
use Rattle.laws.specs.Members.{Among}
use Rattle.laws.proofs.Tests.{never, eq_or, and_true, and_intro, or_false}
use Rattle.laws.proofs.Members.{among_front, among_back}
use Rattle.paper_nests.specs.Nests.{Dep, Nest}
use Rattle.paper_nests.specs.Loops.{is_do, end_of}
use Rattle.paper_placements.specs.Placements.{loop_count}
use Rattle.plan_method.specs.Sweep.{Tables, IsTable}
use Rattle.plan_method.specs.Home.{loops_in, lines_in}
use Rattle.plan_method.proofs.World.{Lawful}
use Rattle.plan_method.proofs.Instance.{world_of, AllFit}
use Rattle.argue_claims.specs.Arguments.{Known}
use Rattle.argue_claims.proofs.Listed.{among_or}
use Rattle.argue_key.specs.Laps.{before, Head, head}
use Rattle.argue_key.specs.Laps.{starts_run, row_heads, low_heads, side_heads, loop_heads}
use Rattle.argue_key.proofs.Heads.{Low, Side}
use Rattle.argue_key.proofs.Known.{Kn}

module _
    (n : Nest) (key : List ℕ) (laws : Lawful (world_of n.points n.deps) (lines_in n.points n.deps))
    (fit : AllFit n.points n.deps) (T : Tables)
    (table : IsTable (loops_in n.points) (lines_in n.points n.deps) T)
    (costs : (m : ℕ) → is_do n.points m ≡ true → loop_count n key m ≡ T.cost m) where
  abbrev ps : List ℕ
  ps = n.points

  abbrev ds : List Dep
  ds = n.deps

  -- all claims of a loop are known
  abbrev pub LoopKnown : ℕ → List Known → Type 0
  LoopKnown l ks = (h : Head) → Among h (loop_heads ps T l) → Kn ks h.loop h.from h.upto

  abbrev pub up_heads : ℕ → List Head
  up_heads d = pick (ltb (suc d) (T.left d (suc d))) (head d 0 (before (T.left d (suc d))) ∷ []) []

  module _ (d : ℕ) (is-do : is_do ps d ≡ true) (busy : 0 < T.left d (suc d)) where
    heads_is : loop_heads ps T d ≡ low_heads T d ++ side_heads T d (end_of ps d)
    unfolding loop_heads
    heads_is = rw (and_intro is-do (lt-ltb 0 (T.left d (suc d)) busy))

    pub low_in : 0 < T.cost d → Among (head d 0 0) (loop_heads ps T d)
    low_in p = rw heads_is (among_front (head d 0 0) (low_heads T d) (side_heads T d (end_of ps d))
        (rw (lt-ltb 0 (T.cost d) p) (inl refl)))

    pub side_in : (h : Head) → 0 < d → Among h (up_heads d ++ row_heads T d (end_of ps d)) →
        Among h (loop_heads ps T d)
    side_in h p m = rw heads_is (among_back h (low_heads T d) (side_heads T d (end_of ps d)) (rw (lt-ltb 0 d p) m))

  -- the first gap of b's run of equal fronts
  pub record RowIn (d b e : ℕ) : Type 0 where
    pub at : ℕ
    pub low : d < at
    pub high : at ≤ b
    pub same : T.left d at ≡ T.left d b
    pub among : Among (head d at (before (T.left d at))) (row_heads T d e)

  row_more : (d b e : ℕ) → d < b → b ≤ e → RowIn d b e → RowIn d b (suc e)
  unfolding row_heads
  row_more d b e p q r =
      record {
        at = r.at;
        low = r.low;
        high = r.high;
        same = r.same;
        among = go (ltb d (suc e)) refl
            (starts_run T d e);
      }
    where
      go : (t : Bool) → ltb d (suc e) ≡ t → (u : Bool) → Among (head d r.at (before (T.left d r.at)))
          (pick t (pick u (head d (suc e) (before (T.left d (suc e))) ∷ row_heads T d e) (row_heads T d e)) [])
      go true z true = inr r.among
      go true z false = r.among
      go false z u = absurd (omega (arith, ltb-false d (suc e) z, p, q))

  row_last : (d e : ℕ) → d < suc e → (T.left d (suc e) ≡ suc d → ⊥) →
      (d < e → (T.left d e ≡ suc d → ⊥) → RowIn d e e) →
      RowIn d (suc e) (suc e)
  unfolding row_heads
  row_last d e p ne r = go (starts_run T d e) refl
    where
      here : (u : Bool) → u ≡ true → Among (head d (suc e) (before (T.left d (suc e))))
          (pick (ltb d (suc e)) (pick u (head d (suc e) (before (T.left d (suc e))) ∷ row_heads T d e)
          (row_heads T d e)) [])
      here true z = rw (lt-ltb d (suc e) p) (inl refl)
      here false z = never z

      go : (u : Bool) → starts_run T d e ≡ u → RowIn d (suc e) (suc e)
      go true z = record { at = suc e; low = p; high = omega arith; same = refl; among = here (starts_run T d e) z }
      go false z =
          let v : not (eqb (T.left d (suc e)) (suc d)) ≡ true = rw (ne_eqb (T.left d (suc e)) (suc d) ne) in
          let q : (eqb e d || not (eqb (T.left d (suc e)) (T.left d e))) ≡ false = rw v at z in
          let y = or_false (eqb e d) (not (eqb (T.left d (suc e)) (T.left d e))) q in
          let w : (e ≡ d) → ⊥ = eqb-false e d y.0 in
          let o : T.left d (suc e) ≡ T.left d e = eqb-true (T.left d (suc e)) (T.left d e)
          (unnot (eqb (T.left d (suc e)) (T.left d e)) y.1) in
          let x : RowIn d e e = r (omega (arith, w, p)) (λ u. ne (o ∙ u)) in
          let f : RowIn d e (suc e) = row_more d e e (omega (arith, w, p)) (omega arith) x in
          record { at = f.at; low = f.low; high = omega (arith, f.high); same = f.same ∙ sym o; among = f.among }
        where
          unnot : (b : Bool) → not b ≡ false → b ≡ true
          unnot true h = refl
          unnot false h = never (sym h)

  pub row_in : (d b e : ℕ) → d < b → b ≤ e → (T.left d b ≡ suc d → ⊥) → RowIn d b e
  row_in d b zero p q ne = absurd (omega (arith, p, q))
  row_in d b (suc e) p q ne = go (eq_or b (suc e)) (λ c. row_in d c e)
    where
      go : (b ≡ suc e) ⊎ ((b ≡ suc e) → ⊥) → ((c : ℕ) → d < c → c ≤ e → (T.left d c ≡ suc d → ⊥) → RowIn d c e) →
          RowIn d b (suc e)
      go (inl y) r =
          let ne' : T.left d (suc e) ≡ suc d → ⊥ = λ u. ne (ap (T.left d) y ∙ u) in
          rw y (row_last d e (omega (arith, p, q)) ne' (λ z u. r e z (omega arith) u))
      go (inr y) r = row_more d b e p (omega (arith, q, y)) (r b p (omega (arith, q, y)) ne)

  -- what the heads of a loop are
  pub record HeadOf (d : ℕ) (h : Head) : Type 0 where
    pub is-do : is_do ps h.loop ≡ true
    pub busy : 0 < T.left h.loop (suc h.loop)
    pub loop_is : h.loop ≡ d
    pub kind : Low n key laws fit T table costs h ⊎ Side n key laws fit T table costs h

  row_of : (d e : ℕ) → 0 < d → e ≤ end_of ps d → (h : Head) → Among h (row_heads T d e) →
      (h.loop ≡ d) × (Side n key laws fit T table costs h)
  unfolding row_heads
  row_of d zero p q h m = absurd m
  row_of d (suc e) p q h m = go (ltb d (suc e)) refl (starts_run T d e) refl m (λ z. row_of d e p (omega (arith, q)) h z)
    where
      side : d < suc e → starts_run T d e ≡ true →
          Side n key laws fit T table costs (head d (suc e) (before (T.left d (suc e))))
      side z y = record {
        pos = p;
        at = suc e;
        low = z;
        high = q;
        from_is = inl refl;
        upto_is = refl;
        proper = λ w. never (rw (eq-eqb (T.left d (suc e)) (suc d) w) at
            (and_true (not (eqb (T.left d (suc e)) (suc d))) (eqb e d || not (eqb (T.left d (suc e)) (T.left d e)))
            y).0);
      }

      go : (t : Bool) → ltb d (suc e) ≡ t → (u : Bool) → starts_run T d e ≡ u →
          Among h (pick t (pick u (head d (suc e) (before (T.left d (suc e))) ∷ row_heads T d e) (row_heads T d e)) []) →
          (Among h (row_heads T d e) → (h.loop ≡ d) × (Side n key laws fit T table costs h)) →
          (h.loop ≡ d) × (Side n key laws fit T table costs h)
      go true z true w (inl y) r = rw y (refl, side (ltb-true d (suc e) z) w)
      go true z true w (inr y) r = r y
      go true z false w y r = r y
      go false z u w y r = absurd y

  pub head_of : (d : ℕ) (h : Head) → Among h (loop_heads ps T d) → HeadOf d h
  unfolding loop_heads
  head_of d h m = go (is_do ps d && ltb 0 (T.left d (suc d))) refl m
    where
      go : (t : Bool) → (is_do ps d && ltb 0 (T.left d (suc d))) ≡ t →
          Among h (pick t (low_heads T d ++ side_heads T d (end_of ps d)) []) → HeadOf d h
      go false z m = absurd m
      go true z m = ⊎_elim (low (ltb 0 (T.cost d)) refl) (side (ltb 0 d) refl)
          (among_or h (low_heads T d) (side_heads T d (end_of ps d)) m)
        where
          loop : is_do ps d ≡ true
          loop = (and_true (is_do ps d) (ltb 0 (T.left d (suc d))) z).0

          some : 0 < T.left d (suc d)
          some = ltb-true 0 (T.left d (suc d)) (and_true (is_do ps d) (ltb 0 (T.left d (suc d))) z).1

          low : (t : Bool) → ltb 0 (T.cost d) ≡ t → Among h (pick t (head d 0 0 ∷ []) []) → HeadOf d h
          low true y (inl x) = rw x record {
            is-do = loop;
            busy = some;
            loop_is = refl;
            kind = inl (record { from_is = refl; upto_is = refl; some = ltb-true 0 (T.cost d) y });
          }
          low true y (inr x) = absurd x
          low false y x = absurd x

          side : (t : Bool) → ltb 0 d ≡ t →
              Among h (pick t (up_heads d ++ row_heads T d (end_of ps d)) []) → HeadOf d h
          side true y x = ⊎_elim (up (ltb (suc d) (T.left d (suc d))) refl) row
              (among_or h (up_heads d) (row_heads T d (end_of ps d)) x)
            where
              up : (t : Bool) → ltb (suc d) (T.left d (suc d)) ≡ t →
                  Among h (pick t (head d 0 (before (T.left d (suc d))) ∷ []) []) → HeadOf d h
              up true w (inl x) = rw x record {
                is-do = loop;
                busy = some;
                loop_is = refl;
                kind = inr (record {
                  pos = ltb-true 0 d y;
                  at = suc d;
                  low = omega arith;
                  high = laws.of-loops.long d loop;
                  from_is = inr (refl, refl);
                  upto_is = refl;
                  proper = λ v. omega (arith, v, ltb-true (suc d) (T.left d (suc d)) w);
                });
              }
              up true w (inr x) = absurd x
              up false w x = absurd x

              row : Among h (row_heads T d (end_of ps d)) → HeadOf d h
              row x =
                  let r = row_of d (end_of ps d) (ltb-true 0 d y) (omega arith) h x in
                  record { is-do = rw r.0 loop; busy = rw r.0 some; loop_is = r.0; kind = inr r.1 }
          side false y x = absurd x
