-- The laps one after the other: what is left of them after those made gives all.
-- Main definition: `Lapping`, what a turn keeps. Main statements: `lap_begin`, `lap_on`, `lap_found`,
-- `lap_done`.
use mathlib.Core.Path.{◌≡◌, refl, sym, ◌∙◌, ap}
use mathlib.Core.Bool.{true, false}
use mathlib.Core.List.{List, [], ◌++◌, append-nil, append_assoc}
use Prim.Native.Nat.{ℕ, zero, suc, ◌+◌, ◌-◌, ◌*◌, ◌≤◌, ◌<◌}
use native.Mathlib.Numerals.{add-one}
use native.Mathlib.Omega.{arith}
use lib.Dec.{ltb}
use lib.ListN.{length}
use borrow.Author.Tests.{lt-ltb, le-ltb}
use Rattle.paper_nests.specs.Nests.{Dep}
use Rattle.paper_nests.specs.Loops.{end_of}
use Rattle.paper_nests.specs.declared.Nest as DN
use Rattle.paper_nests.specs.Stored.{nest_in}
use Rattle.plan_method.specs.Sweep.{Tables}
use Rattle.argue_claims.specs.Arguments.{Step, Claim}
use Rattle.argue_texts.specs.ArgumentTexts.{steps_text}
use Rattle.argue_texts.specs.declared.Claimed.{Claimed}
use Rattle.argue_key.specs.Laps.{lead_in, lap_end, lap_steps, laps}
use Rattle.argue_spell.specs.Added.{Added}
use Rattle.argue_spell.proofs.Adding.{added_none, added_then, added_as}
use Rattle.argue_trace.proofs.Events.{steps_append}
use Rattle.argue_laps.specs.Lapped.{LAP, LapRoom, LapGround, LapSays, LapsSay}

-- the steps made so far, and what is left
pub record Made
    (ps : List ℕ)
    (ds : List Dep)
    (T : Tables)
    (cs : List Claim)
    (d from upto few : ℕ)
    (out₀ : List ℕ)
    (start : ℕ)
    (out : List ℕ)
    (f at j : ℕ)
    : Type 0 where
  pub made : List Step
  pub added : Added (steps_text made) start out₀ out at
  pub rest
      : made ++ laps ps ds T (lead_in T cs) d from upto few j f ≡
      laps ps ds T (lead_in T cs) d from upto few (suc (suc (end_of ps d))) (suc d)

pub record Lapping
    (nest : DN.Nest)
    (ps own left : List ℕ)
    (kids : ℕ)
    (need₀ sets₀ : List ℕ)
    (claims : List Claimed)
    (d e from upto few : ℕ)
    (out₀ : List ℕ)
    (start : ℕ)
    (need sets out : List ℕ)
    (f at j : ℕ)
    : Type 0 where
  pub need_is : need ≡ need₀
  pub sets_is : sets ≡ sets₀
  pub size : length out ≡ length out₀
  pub near : at + LAP * j ≤ start + LAP * (e + 2)
  pub held
      : (T : Tables) (cs : List Claim)
      → LapGround nest ps own left kids need₀ sets₀ claims d e T cs
      → Made ps (nest_in nest).deps T cs d from upto few out₀ start out f at j

module _
    {nest : DN.Nest} {ps own left : List ℕ} {kids : ℕ} {need₀ sets₀ : List ℕ} {claims : List Claimed}
    {d e from upto few : ℕ} {out₀ : List ℕ} {start : ℕ}
    (w : LapRoom nest ps own left kids need₀ sets₀ claims d e from)
  where
    pub lap_begin :
        Lapping nest ps own left kids need₀ sets₀ claims d e from upto few out₀ start need₀ sets₀ out₀
        (d + 1) start (e + 2)
    unfolding steps_text
    lap_begin =
        let z : e + 2 ≡ suc (suc (end_of ps d)) = omega (arith, w.e_is) in
        record {
          need_is = refl;
          sets_is = refl;
          size = refl;
          near = omega arith;
          held = λ T cs g. record { made = []; added = added_none start out₀; rest = rw (z, add-one d) refl };
        }

    module _ {need sets out : List ℕ} {f at j : ℕ}
        (p : Lapping nest ps own left kids need₀ sets₀ claims d e from upto few out₀ start need sets out
        f at j) where
      pub lap_done : j ≤ 0 →
          LapsSay nest ps own left kids need₀ sets₀ claims d e from upto few out₀ start out at
      unfolding laps
      lap_done l =
          record {
            steps_are = λ T cs g. whole T cs (p.held T cs g);
            near = omega (arith, p.near);
          }
        where
          j_is : j ≡ 0
          j_is = omega arith

          whole : (T : Tables) (cs : List Claim) → Made ps (nest_in nest).deps T cs d from upto few out₀ start out f at j →
              Added (steps_text (laps ps (nest_in nest).deps T (lead_in T cs) d from upto few (suc (suc (end_of ps d))) (suc d))) start out₀
              out at
          whole T cs h =
              let z : h.made ++ laps ps (nest_in nest).deps T (lead_in T cs) d from upto few 0 f ≡
              laps ps (nest_in nest).deps T (lead_in T cs) d from upto few (suc (suc (end_of ps d))) (suc d) = rw j_is at h.rest in
              added_as (ap steps_text (sym (append-nil h.made) ∙ z)) h.added

      module _ (more : 0 < j) {out' : List ℕ} {c' f' at' : ℕ}
          (s : LapSays nest ps own left kids need sets claims d e from upto f out at out' c' f' at') where
        says : LapSays nest ps own left kids need₀ sets₀ claims d e from upto f out at out' c' f' at'
        says = rw (p.need_is, p.sets_is) at s

        module _ (T : Tables) (cs : List Claim)
            (g : LapGround nest ps own left kids need₀ sets₀ claims d e T cs) where
          abbrev here : Made ps (nest_in nest).deps T cs d from upto few out₀ start out f at j
          here = p.held T cs g

          -- the steps made, with those of the lap
          abbrev with_lap : List Step
          with_lap = here.made ++ lap_steps ps (nest_in nest).deps T (lead_in T cs) d from upto few f

          added : Added (steps_text with_lap) start out₀ out' at'
          added =
              added_as (sym (steps_append here.made (lap_steps ps (nest_in nest).deps T (lead_in T cs) d from upto few f)))
              (added_then here.added (says.steps_are T cs g few))

          -- the rest, by whether the lap counts enough
          enough : few < c' →
              with_lap ≡ laps ps (nest_in nest).deps T (lead_in T cs) d from upto few (suc (suc (end_of ps d))) (suc d)
          unfolding laps
          enough l = go j more here.rest
            where
              t : ltb few (lap_end ps (nest_in nest).deps T (lead_in T cs) d from upto few f).c ≡ true
              t = rw (← says.c_is T cs g few) (lt-ltb few c' l)

              go : (i : ℕ) → 0 < i →
                  here.made ++ laps ps (nest_in nest).deps T (lead_in T cs) d from upto few i f ≡
                  laps ps (nest_in nest).deps T (lead_in T cs) d from upto few (suc (suc (end_of ps d))) (suc d) →
                  with_lap ≡ laps ps (nest_in nest).deps T (lead_in T cs) d from upto few (suc (suc (end_of ps d))) (suc d)
              go zero i r = absurd (omega arith)
              go (suc i) k r = rw t at r

          on : c' ≤ few →
              with_lap ++ laps ps (nest_in nest).deps T (lead_in T cs) d from upto few (j - 1) f' ≡
              laps ps (nest_in nest).deps T (lead_in T cs) d from upto few (suc (suc (end_of ps d))) (suc d)
          unfolding laps
          on l =
              append_assoc here.made (lap_steps ps (nest_in nest).deps T (lead_in T cs) d from upto few f)
              (laps ps (nest_in nest).deps T (lead_in T cs) d from upto few (j - 1) f') ∙ go j more here.rest
            where
              t : ltb few (lap_end ps (nest_in nest).deps T (lead_in T cs) d from upto few f).c ≡ false
              t = rw (← says.c_is T cs g few) (le-ltb few c' l)

              go : (i : ℕ) → 0 < i →
                  here.made ++ laps ps (nest_in nest).deps T (lead_in T cs) d from upto few i f ≡
                  laps ps (nest_in nest).deps T (lead_in T cs) d from upto few (suc (suc (end_of ps d))) (suc d) →
                  here.made ++
                  (lap_steps ps (nest_in nest).deps T (lead_in T cs) d from upto few f ++
                  laps ps (nest_in nest).deps T (lead_in T cs) d from upto few (i - 1) f') ≡
                  laps ps (nest_in nest).deps T (lead_in T cs) d from upto few (suc (suc (end_of ps d))) (suc d)
              go zero i r = absurd (omega arith)
              go (suc i) k r =
                  let z : suc i - 1 ≡ i = omega arith in
                  rw (z, says.f_is T cs g few) (rw t at r)

        pub lap_found : few < c' →
            LapsSay nest ps own left kids need₀ sets₀ claims d e from upto few out₀ start out' at'
        lap_found l =
            record {
              steps_are = λ T cs g. added_as (ap steps_text (enough T cs g l)) (added T cs g);
              near = omega (arith, p.near, s.near);
            }

        pub lap_on : {need' sets' : List ℕ} → need' ≡ need → sets' ≡ sets → length out' ≡ length out → c' ≤ few →
            Lapping nest ps own left kids need₀ sets₀ claims d e from upto few out₀ start need' sets' out'
            f' at' (j - 1)
        lap_on a b z l =
            record {
              need_is = a ∙ p.need_is;
              sets_is = b ∙ p.sets_is;
              size = z ∙ p.size;
              near = omega (arith, p.near, s.near);
              held = λ T cs g. record { made = with_lap T cs g; added = added T cs g; rest = on T cs g l };
            }
