-- The claims of all loops, from the last DO to the first.
-- Main definition: `Looping`, what a turn keeps. Main statements: `loops_begin`, `loops_on`, `loops_done`.
use mathlib.Core.Path.{◌≡◌, refl, sym, ◌∙◌, ap}
use mathlib.Core.List.{List, [], ◌++◌, append-nil, append_assoc}
use Prim.Native.Nat.{ℕ, zero, suc, ◌+◌, ◌-◌, ◌*◌, ◌≤◌, ◌<◌}
use native.Mathlib.Omega.{arith}
use lib.ListN.{length}
use Rattle.paper_nests.specs.declared.Nest as DN
use Rattle.paper_nests.specs.Stored.{nest_in}
use Rattle.plan_method.specs.Sweep.{Tables}
use Rattle.argue_texts.specs.ArgumentTexts.{argument_text}
use Rattle.argue_texts.specs.declared.Claimed.{Claimed}
use Rattle.argue_key.specs.Laps.{Head, loop_heads, heads_from}
use Rattle.argue_spell.proofs.Adding.{added_none}
use Rattle.argue_give.specs.Given.{bare_all, Gives}
use Rattle.argue_give.proofs.Giving.{gives_none, gives_then}
use Rattle.argue_loops.specs.Whole.{TableGround, ListsRoom, GivenAll}

-- the last loop's heads come first
heads_top : (ps : List ℕ) (T : Tables) (k d : ℕ) (hs : List Head) →
    heads_from ps T (suc k) d hs ≡ loop_heads ps T (d + k) ++ heads_from ps T k d hs
unfolding heads_from
heads_top ps T zero d hs = let z : d + 0 ≡ d = omega arith in rw z refl
heads_top ps T (suc k) d hs =
    let z : suc d + k ≡ d + suc k = omega arith in
    rw z at (heads_top ps T k (suc d) (loop_heads ps T d ++ hs))

pub record Looping
    (nest : DN.Nest)
    (ps own left reach numbers costs : List ℕ)
    (claims₀ : List Claimed)
    (out₀ need sets : List ℕ)
    (claims : List Claimed)
    (out : List ℕ)
    (at many d : ℕ)
    : Type 0 where
  pub high : d ≤ length ps
  pub room : ListsRoom need sets claims
  pub size : length out ≡ length out₀
  pub fewer : many + 258 * d ≤ 258 * length ps
  pub done : Tables → List Head
  pub gives
      : Gives ps (nest_in nest).deps (TableGround nest ps own left reach numbers costs) done out₀ 0 claims₀
      0 out at claims many
  pub rest
      : (T : Tables)
      → TableGround nest ps own left reach numbers costs T
      → done T ++ heads_from ps T d 0 [] ≡ heads_from ps T (length ps) 0 []

module _ {nest : DN.Nest} {ps own left reach numbers costs : List ℕ} {claims₀ : List Claimed} {out₀ : List ℕ} where
  pub loops_begin : {need sets : List ℕ} → ListsRoom need sets claims₀ →
      Looping nest ps own left reach numbers costs claims₀ out₀ need sets claims₀ out₀ 0 0
      (length ps)
  loops_begin r =
      record {
        high = omega arith;
        room = r;
        size = refl;
        fewer = omega arith;
        done = λ T. [];
        gives = gives_none;
        rest = λ T g. refl;
      }

  module _ {need sets : List ℕ} {claims : List Claimed} {out : List ℕ} {at many d : ℕ}
      (p : Looping nest ps own left reach numbers costs claims₀ out₀ need sets claims out at many d)
    where
      pub loops_on : {need' sets' : List ℕ} {claims' : List Claimed} {out' : List ℕ} {at' many' : ℕ} → 0 < d →
          Gives ps (nest_in nest).deps (TableGround nest ps own left reach numbers costs)
          (λ T. loop_heads ps T (d - 1)) out at claims many out' at' claims' many' →
          ListsRoom need' sets' claims' → length out' ≡ length out → many' ≤ many + 258 →
          Looping nest ps own left reach numbers costs claims₀ out₀ need' sets' claims' out'
          at' many' (d - 1)
      loops_on l g r o m =
          record {
            high = omega (arith, p.high);
            room = r;
            size = o ∙ p.size;
            fewer = omega (arith, p.fewer);
            done = λ T. p.done T ++ loop_heads ps T (d - 1);
            gives = gives_then p.gives g;
            rest = λ T x.
                append_assoc (p.done T) (loop_heads ps T (d - 1)) (heads_from ps T (d - 1) 0 []) ∙
                ap (λ (y : List Head). p.done T ++ y) (sym (top T)) ∙ p.rest T x;
          }
        where
          top : (T : Tables) → heads_from ps T d 0 [] ≡ loop_heads ps T (d - 1) ++ heads_from ps T (d - 1) 0 []
          top T =
              let z : suc (d - 1) ≡ d = omega arith in
              let y : 0 + (d - 1) ≡ d - 1 = omega arith in
              rw (z, y) at (heads_top ps T (d - 1) 0 [])

      pub loops_done : d ≤ 0 → GivenAll nest ps own left reach numbers costs out₀ out many at
      unfolding heads_from bare_all argument_text
      loops_done l =
          record {
            many_is = λ T g. rw (← whole T g) (p.gives.many_is T g ∙ omega arith);
            text_is = λ T g h.
                rw (← whole T g)
                (p.gives.given T g [] out₀ h record { added = added_none 0 out₀; bare = refl }).added;
          }
        where
          d_is : d ≡ 0
          d_is = omega arith

          whole : (T : Tables) → TableGround nest ps own left reach numbers costs T →
              p.done T ≡ heads_from ps T (length ps) 0 []
          whole T g =
              let z : p.done T ++ heads_from ps T 0 0 [] ≡ heads_from ps T (length ps) 0 [] = rw d_is at (p.rest T g) in
              sym (append-nil (p.done T)) ∙ z
