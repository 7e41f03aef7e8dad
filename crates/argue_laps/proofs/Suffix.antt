-- The suffix of a lap: it starts in the loop's range or at 0, and the two rows with it are what the lap's sweep reads.
-- Main definition: `Suffixed`. Main statements: `suffixed`, `placed`, `sets_there`, `need_lapped`, `set_lapped`.
use mathlib.Core.Path.{◌≡◌, refl, sym, ◌∙◌, ap}
use mathlib.Core.Bool.{Bool, true, false, ◌&&◌, not}
use mathlib.Core.List.{List, [], ◌∷◌}
use mathlib.Core.Logic.{inl, inr, ⊎_elim}
use Prim.Native.Nat.{ℕ, suc, ◌≤◌, ◌<◌, min}
use native.Mathlib.Omega.{arith}
use lib.Dec.{eqb, ltb}
use lib.ListN.{length, set, length-set}
use lib.Seq.{get_or-set_same, get_or-set_other, set-set, set-get_or}
use borrow.Author.Tests.{eqb-true, eqb-false, eq-eqb, ne_eqb}
use Rattle.laws.specs.Choice.{pick}
use Rattle.laws.specs.Entries.{at}
use Rattle.laws.proofs.Tests.{and_true, eq_or}
use Rattle.paper_nests.specs.Kinds.{INDEPENDENT}
use Rattle.paper_nests.specs.Nests.{Dep}
use Rattle.paper_nests.specs.Loops.{end_of}
use Rattle.paper_nests.specs.declared.Nest as DN
use Rattle.paper_nests.specs.Stored.{nest_in}
use Rattle.paper_nests.proofs.Deps.{is-back}
use Rattle.plan_method.specs.Sweep.{Tables, need_of}
use Rattle.plan_method.specs.Home.{home_of, reach_of}
use Rattle.plan_method.proofs.Instance.{AllFit}
use Rattle.plan_rows.proofs.Suffix.{lowered}
use Rattle.argue_claims.specs.Arguments.{Claim}
use Rattle.argue_texts.specs.declared.Claimed.{Claimed}
use Rattle.argue_key.specs.Laps.{Start, starting, is_back, starts_later, last_back, suffix_of, lap_need, lap_set}
use Rattle.argue_sets.specs.Numbered.{line_set}
use Rattle.argue_spell.specs.Added.{WORD}
use Rattle.argue_trace.specs.Traced.{SetsRoom}
use Rattle.argue_laps.specs.Lapped.{LapRoom, LapGround, suffix_for}

-- an entry changed and changed back
pub set_again : (xs : List ℕ) (i v : ℕ) → set (set xs i v) i (at xs i) ≡ xs
set_again xs i v = set-set xs i v (at xs i) ∙ set-get_or xs i 0

-- ---- what goes back

-- what d carries starts in d's range
back_there : (ps : List ℕ) (d f : ℕ) (e : Dep) (es : List Dep) → AllFit ps (e ∷ es) → is_back ps d f e ≡ true →
    suc e.s ≤ end_of ps d
back_there ps d f e es fit h =
    let x = and_true (not (eqb e.kind INDEPENDENT)) (eqb (home_of ps e) d && ltb e.t f) h in
    let y = and_true (eqb (home_of ps e) d) (ltb e.t f) x.1 in
    let k = unnot (eqb e.kind INDEPENDENT) x.0 in
    let b = is-back ps e (fit e (inl refl)) (eqb-false e.kind INDEPENDENT k) in
    let home : home_of ps e ≡ e.d = rw k in
    let z : e.d ≡ d = sym home ∙ eqb-true (home_of ps e) d y.0 in
    rw (← z) b.source_before
  where
    unnot : (b : Bool) → not b ≡ true → b ≡ false
    unnot true z = sym z
    unnot false z = refl

back_in : (ps : List ℕ) (d f : ℕ) (ds : List Dep) → AllFit ps ds → (last_back ps d f ds).at ≤ end_of ps d
unfolding last_back
back_in ps d f [] fit = omega arith
back_in ps d f (e ∷ es) fit =
    go (is_back ps d f e) refl (starts_later (last_back ps d f es) e) (back_in ps d f es (λ x m. fit x (inr m)))
  where
    go : (t : Bool) → is_back ps d f e ≡ t → (u : Bool) → (last_back ps d f es).at ≤ end_of ps d →
        (pick (t && u) (starting (suc e.s) 0) (starting (last_back ps d f es).at (suc (last_back ps d f es).num))
        ).at ≤ end_of ps d
    go true z true r = back_there ps d f e es fit z
    go true z false r = r
    go false z u r = r

back_few : (ps : List ℕ) (d f : ℕ) (ds : List Dep) → (last_back ps d f ds).num ≤ length ds
unfolding last_back
back_few ps d f [] = omega arith
back_few ps d f (e ∷ es) = go (is_back ps d f e && starts_later (last_back ps d f es) e) (back_few ps d f es)
  where
    go : (t : Bool) → (last_back ps d f es).num ≤ length es →
        (pick t (starting (suc e.s) 0) (starting (last_back ps d f es).at (suc (last_back ps d f es).num))
        ).num ≤ suc (length es)
    go true r = omega arith
    go false r = omega arith

-- ---- the suffix

pub record Suffixed (nest : DN.Nest) (ps : List ℕ) (d e from f q num : ℕ) : Type 0 where
  pub is : starting q num ≡ suffix_of ps (nest_in nest).deps d from f
  pub high : q ≤ e
  pub small : num ≤ WORD

module _
    {nest : DN.Nest} {ps own left : List ℕ} {kids : ℕ} {need sets : List ℕ} {claims : List Claimed} {d e from : ℕ}
    (w : LapRoom nest ps own left kids need sets claims d e from)
  where
    abbrev ds : List Dep
    ds = (nest_in nest).deps

    -- the last that goes back
    last_few : (f : ℕ) {at num : ℕ} → starting at num ≡ last_back (nest_in nest).points d f ds → num ≤ 512
    last_few f {num = num} l =
        let z : num ≡ (last_back (nest_in nest).points d f ds).num = ap (λ (x : Start). x.num) l in
        omega (arith, back_few (nest_in nest).points d f ds, w.counted.many_is, w.counted.many_fits)

    pub few_back : (f : ℕ) {at num : ℕ} → starting at num ≡ last_back (nest_in nest).points d f ds → num < 65536
    few_back f l = omega (arith, last_few f l)

    pub suffixed : {f at num q m : ℕ} → starting at num ≡ last_back (nest_in nest).points d f ds →
        starting q m ≡ suffix_for (starting at num) from → Suffixed nest ps d e from f q m
    unfolding suffix_of
    suffixed {f} {at} {num} {q} {m} l s =
        let k : starting at num ≡ last_back ps d f ds = rw w.points_are l in
        let b : at ≤ e =
        omega (arith, ap (λ (x : Start). x.at) k, back_in ps d f ds w.fit, w.e_is) in
        let c = last_few f l in
        record {
          is = s ∙ ap (λ (r : Start). suffix_for r from) k;
          high = rw (ap (λ (x : Start). x.at) s) (high (ltb from at) b);
          small = rw (ap (λ (x : Start). x.num) s) (small (ltb from at) c);
        }
      where
        high : (t : Bool) → at ≤ e → (pick t (starting at (suc (suc num))) (starting from 0)).at ≤ e
        high true b = b
        high false b = w.from_in

        small : (t : Bool) → num ≤ 512 → (pick t (starting at (suc (suc num))) (starting from 0)).num ≤ WORD
        small true c = omega arith
        small false c = omega arith

    -- where it starts, both rows have an entry
    pub placed : (f : ℕ) {at num q m : ℕ} → starting at num ≡ last_back (nest_in nest).points d f ds →
        starting q m ≡ suffix_for (starting at num) from → (q < 256) × (q < length need) × (q < length sets)
    placed f l s =
        let high = (suffixed l s).high in
        (omega (arith, high, w.short), omega (arith, high, w.sweeps.need_room), omega (arith, high, w.sets_room.room))

    module _ {f q num : ℕ} (s : Suffixed nest ps d e from f q num) where
      -- the row of sets with the suffix in it
      pub sets_there : {v : ℕ} → v ≡ pick (ltb e (at need q)) num (at sets q) → SetsRoom (set sets q v) e
      sets_there {v} v_is =
          record {
            room = rw (length-set sets q v) w.sets_room.room;
            small = λ a. ⊎_elim
                (λ (z : a ≡ q).
                rw (z, get_or-set_same sets q v 0 (omega (arith, s.high, w.sets_room.room)), v_is)
                (few (ltb e (at need q))))
                (λ (z : a ≡ q → ⊥). rw (get_or-set_other sets q a v 0 z) (w.sets_room.small a))
                (eq_or a q);
          }
        where
          few : (t : Bool) → pick t num (at sets q) ≤ WORD
          few true = s.small
          few false = w.sets_room.small q

      module _ {T : Tables} {cs : List Claim}
          (g : LapGround nest ps own left kids need sets claims d e T cs) where
        -- what the sweep needs
        pub need_lapped : (a : ℕ) → d < a → a ≤ end_of ps d →
            lap_need ps ds d from f a ≡ at (set need q (min (at need q) e)) a
        unfolding lap_need need_of
        need_lapped a i j =
            let z = ap (λ (x : Start). x.at) s.is in
            let y : at (set need q (min (at need q) e)) a ≡ need_of (at need) q e a =
            ap (λ (x : ℕ → ℕ). x a) (lowered need q e (omega (arith, s.high, w.sweeps.need_room))) in
            rw (y, ← z, ← w.e_is, g.need_is a i (omega (arith, w.e_is)))

        -- and the sets that its steps name
        pub set_lapped : {v : ℕ} → v ≡ pick (ltb e (at need q)) num (at sets q) → (a : ℕ) → d < a →
            a ≤ end_of ps d → lap_set ps ds d from f a ≡ at (set sets q v) a
        unfolding lap_set
        set_lapped {v} v_is a i j =
            let y = ap (λ (x : Start). x.at) s.is in
            let z = ap (λ (x : Start). x.num) s.is in
            rw (← y, ← z, ← w.e_is) (⊎_elim here there (eq_or a q))
          where
            reach : at need a ≡ reach_of ps ds d a
            reach = g.need_is a i (omega (arith, w.e_is))

            line : at sets a ≡ line_set ps ds d a
            line = g.sets_is a i (omega (arith, w.e_is))

            here : a ≡ q →
                pick (eqb a q && ltb e (reach_of ps ds d a)) num (line_set ps ds d a) ≡ at (set sets q v) a
            here x =
                let u : v ≡ pick (ltb e (reach_of ps ds d a)) num (line_set ps ds d a) =
                v_is ∙ rw (← x, reach, line) refl in
                rw (eq-eqb a q x) (sym (ap (at (set sets q v)) x ∙
                get_or-set_same sets q v 0 (omega (arith, s.high, w.sets_room.room)) ∙ u))

            there : (a ≡ q → ⊥) →
                pick (eqb a q && ltb e (reach_of ps ds d a)) num (line_set ps ds d a) ≡ at (set sets q v) a
            there x = rw (ne_eqb a q x) (sym (get_or-set_other sets q a v 0 x ∙ line))
