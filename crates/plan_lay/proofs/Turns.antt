-- The turns of laying: at each boundary of the sweep the placement holds what the sweep has laid so far.
-- Main definitions: `Held`, `Laying`. Main statements: `begin`, `on_put`, `on_skip`, `child_asked`, `on_child`.
use mathlib.Core.Path.{◌≡◌, refl, ◌∙◌, ap}
use mathlib.Core.Bool.{Bool, true, false, ◌||◌}
use mathlib.Core.List.{List}
use mathlib.Core.Logic.{⊎_elim}
use Prim.Native.Nat.{ℕ, suc, ◌+◌, ◌-◌, ◌*◌, ◌≤◌, ◌<◌}
use native.Mathlib.Omega.{arith}
use lib.Dec.{eqb, ltb}
use lib.ListN.{length, get_or}
use borrow.Author.Tests.{eq-eqb, ne_eqb}
use Rattle.laws.specs.Choice.{pick}
use Rattle.laws.specs.Entries.{at}
use Rattle.laws.proofs.Ors.{or_assoc}
use Rattle.paper_nests.specs.Loops.{is_do, end_of, owner_of}
use Rattle.paper_nests.specs.Valid.{is_shape}
use Rattle.paper_nests.proofs.Loops.{end-after, owner_of_end}
use Rattle.paper_nests.proofs.Gaps.{Child, child_law, plain_law}
use Rattle.paper_placements.specs.Words.{holds}
use Rattle.plan_method.specs.Sweep.{Lines, Tables, bare, only, also, IsTable}
use Rattle.plan_method.specs.Home.{loops_in}
use Rattle.plan_sweeps.specs.Listed.{laid, Stepped}
use Rattle.plan_sweeps.proofs.Turns as sweep
use Rattle.plan_starts.specs.Grounds.{Kept}
use Rattle.plan_settle.specs.Settled.{HasHeight, LinesAt, Rows}
use Rattle.plan_settle.proofs.Heights.{child_height}
use Rattle.plan_lay.specs.Laid.{Choices, PutSays, LaySays}
use Rattle.plan_lay.proofs.Calls.{Asked, Call}
use Rattle.plan_lay.proofs.Sharing.{Shared, shared_all, shared_less, shared_child, stepped_shared}

-- the placement k is what the sweep has laid so far, added to key
pub record Held
    (ps own need left : List ℕ)
    (kids d e : ℕ)
    (lay : ℕ → ℕ → ℕ → Bool)
    (key k : List ℕ)
    (c f p : ℕ)
    : Type 0 where
  pub w : ℕ → Bool
  pub turn : sweep.Turn ps own need left kids d e lay p c f w
  pub held : (g : ℕ) → holds k g ≡ (w g || holds key g)

pub record Laying
    (ps own ends reach limit left choice : List ℕ)
    (d h : ℕ)
    (swept need key k : List ℕ)
    (c f p : ℕ)
    : Type 0 where
  pub from : d ≤ p
  pub high : p ≤ at ends d
  pub owner : d < p → owner_of ps p ≡ d
  pub small : c + p ≤ at ends d
  pub shared : Shared swept need d (at ends d) p
  pub held
      : (N : Lines) (T : Tables) (has : List ℕ)
      → IsTable (loops_in ps) N T
      → LinesAt ps N reach limit has
      → Rows ps T left choice d (end_of ps d)
      → Held ps own swept left (h * 256 - 256) d (at ends d) T.lay key k c f p

-- what a placement holds after a barrier, and after a child
held_put : (w : ℕ → Bool) (key k k' : List ℕ) (p : ℕ) → ((g : ℕ) → holds k g ≡ (w g || holds key g)) →
    ((g : ℕ) → holds k' g ≡ (eqb g p || holds k g)) → (g : ℕ) → holds k' g ≡ (also (only p) w g || holds key g)
held_put w key k k' p h n g = n g ∙ ap (λ (b : Bool). eqb g p || b) (h g) ∙ or_assoc (eqb g p) (w g) (holds key g)

held_child
    : (w x : ℕ → Bool) (key k more k' : List ℕ) (grew : Bool) (p : ℕ)
    → ((g : ℕ) → holds k g ≡ (w g || holds key g))
    → ((g : ℕ) → holds more g ≡ pick grew (eqb g (suc p) || holds k g) (holds k g))
    → ((g : ℕ) → holds k' g ≡ (x g || holds more g))
    → (g : ℕ)
    → holds k' g ≡ (laid grew p x w g || holds key g)
held_child w x key k more k' true p h m n g = n g ∙
    rw (m g, h g, or_assoc (eqb g (suc p)) (w g) (holds key g)) (or_assoc (x g) (eqb g (suc p) || w g) (holds key g))
held_child w x key k more k' false p h m n g = n g ∙ rw (m g, h g) (or_assoc (x g) (w g) (holds key g))

-- tables of a loop are tables of the loops inside it
rows_inside : (ps : List ℕ) (T : Tables) (left choice : List ℕ) (d l : ℕ) → d ≤ l → end_of ps l ≤ end_of ps d →
    Rows ps T left choice d (end_of ps d) → Rows ps T left choice l (end_of ps l)
rows_inside ps T left choice d l a b r =
    record {
      left_is = λ x h q i m n. r.left_is x h q i (omega arith) (omega arith);
      choice_is = λ x h q i m n. r.choice_is x h q i (omega arith) (omega arith);
    }

module _
    {ps own ends reach limit left choice : List ℕ} {d q h : ℕ} (a : Call ps own ends reach limit left choice d q h)
  where
    abbrev shape : is_shape ps ≡ true
    shape = a.charts.shape

    abbrev e : ℕ
    e = at ends d

    abbrev kids : ℕ
    kids = h * 256 - 256

    pub begin
        : {swept key : List ℕ} → Laying ps own ends reach limit left choice d h swept swept key key 0 (e + 1) e
    begin {swept} =
        record {
          from = omega (arith, a.long);
          high = omega arith;
          owner = λ z. ap (owner_of ps) a.e_is ∙ owner_of_end ps shape d a.is-do;
          small = omega arith;
          shared = shared_all;
          held = λ N T has t n r.
              record { w = bare; turn = sweep.begin ps own swept left kids d e T.lay; held = λ g. refl };
        }

    module _
        {swept need key k : List ℕ} {c f p : ℕ}
        (s : Laying ps own ends reach limit left choice d h swept need key k c f p) (more : d < p)
      where
        step_back : suc (p - 1) ≡ p
        step_back = omega arith

        there : p < length ps
        there = omega (arith, s.high, a.short)

        owned : owner_of ps (suc (p - 1)) ≡ d
        owned = rw step_back (s.owner more)

        -- before a gap of d that follows no ENDDO lies d or another gap of d
        plain : (get_or ps (p - 1) 0 ≡ 2 → ⊥) → d < p - 1 → owner_of ps (p - 1) ≡ d
        plain n b = ⊎_elim
            (λ (z : p - 1 ≡ d). absurd (omega arith))
            (λ (z : (owner_of ps (p - 1) ≡ d) × (is_do ps (p - 1) ≡ false)). z.0)
            (plain_law ps shape d (p - 1) (omega (arith, there)) owned (ne_eqb (get_or ps (p - 1) 0) 2 n))

        pub on_put
            : {k' : List ℕ}
            → (get_or ps (p - 1) 0 ≡ 2 → ⊥)
            → at need p < f
            → ((g : ℕ) → holds k' g ≡ (eqb g p || holds k g))
            → Laying ps own ends reach limit left choice d h swept need key k' (c + 1) p (p - 1)
        on_put {k'} n m put =
            record {
              from = omega arith;
              high = omega (arith, s.high);
              owner = plain n;
              small = omega (arith, s.small);
              shared = shared_less s.shared (omega arith);
              held = λ N T has t v r.
                  let x : Held ps own swept left kids d e T.lay key k c f p = s.held N T has t v r in
                  record {
                    w = also (only p) x.w;
                    turn = sweep.on_put ps own swept left kids d e T.lay p c f x.w more n
                        (omega (arith, s.shared.same p (omega arith))) x.turn;
                    held = held_put x.w key k k' p x.held put;
                  };
            }

        pub on_skip
            : (get_or ps (p - 1) 0 ≡ 2 → ⊥)
            → f ≤ at need p
            → Laying ps own ends reach limit left choice d h swept need key k c f (p - 1)
        on_skip n m =
            record {
              from = omega arith;
              high = omega (arith, s.high);
              owner = plain n;
              small = omega (arith, s.small);
              shared = shared_less s.shared (omega arith);
              held = λ N T has t v r.
                  let x : Held ps own swept left kids d e T.lay key k c f p = s.held N T has t v r in
                  record {
                    w = x.w;
                    turn = sweep.on_skip ps own swept left kids d e T.lay p c f x.w more n
                        (omega (arith, s.shared.same p (omega arith))) x.turn;
                    held = x.held;
                  };
            }

        -- before a gap of d that follows an ENDDO lies a loop directly inside d
        module _ (Ends-there : get_or ps (p - 1) 0 ≡ 2) where
          abbrev l : ℕ
          l = at own (p - 1)

          own_is : l ≡ owner_of ps (p - 1)
          own_is = a.charts.own_is (p - 1) (omega (arith, there))

          child : Child ps d (p - 1) l
          child = rw own_is (child_law ps shape d (p - 1) (omega (arith, there)) owned
              (eq-eqb (get_or ps (p - 1) 0) 2 Ends-there))

          child_end : end_of ps l ≡ p - 1
          child_end = child.ends

          -- what laying it requires
          pub child_long : l < p - 1
          child_long = omega (arith, child_end, end-after ps shape l child.loop)

          child_low : HasHeight ps l (h - 1)
          child_low = child_height ps shape d l h a.is-do child.loop child.inside child.owned a.height

          child_choices : Choices ps left choice l (end_of ps l)
          child_choices x k y i m n = a.choices x k y i (omega (arith, child.inside))
              (omega (arith, child_end, there, s.high, a.e_is))

          shared : Shared swept need d e (suc (p - 1))
          shared = rw step_back s.shared

          module _ {c' f' ask : ℕ} (step : Stepped need left kids l (p - 1) c f c' f' ask) where
            pub child_asked : Asked ps own ends reach limit left choice l ask (h - 1)
            child_asked = (
              a.charts,
              (
                a.room,
                (
                  child.loop,
                  (
                    child_low,
                    (step.low, (omega (arith, step.high child_long, child_end), child_choices)),
                  ),
                ),
              ),
            )

            pub on_child
                : {need' k' : List ℕ} (mid : List ℕ)
                → PutSays k c c' p mid
                → LaySays ps reach limit left choice l ask mid k'
                → length need' ≡ length need
                → Kept need need' l (end_of ps l)
                → Laying ps own ends reach limit left choice d h swept need' key k' c' f' l
            on_child {k' = k'} mid put deeper size kept =
                record {
                  from = omega (arith, child.inside);
                  high = omega (arith, s.high, child_long);
                  owner = λ z. child.owned;
                  small = omega (arith, s.small, step.grows, child_long);
                  shared = shared_child s.shared (omega (arith, child.inside))
                      (omega (arith, child_end, s.high)) (omega (arith, child_long)) size kept;
                  held = λ N T has t v r.
                      let x : Held ps own swept left kids d e T.lay key k c f p = s.held N T has t v r in
                      let inside : Rows ps T left choice l (end_of ps l) =
                      rows_inside ps T left choice d l (omega (arith, child.inside))
                      (omega (arith, child_end, s.high, a.e_is)) r in
                      record {
                        w = laid (ltb c c') (p - 1) (T.lay l ask) x.w;
                        turn = sweep.on_child ps own swept left kids d e T.lay p c f c' f' ask x.w more Ends-there
                            (omega (arith, child_long)) (stepped_shared shared step) x.turn;
                        held = held_child x.w (T.lay l ask) key k mid k' (ltb c c') (p - 1) x.held
                            (λ g. put g ∙ rw step_back refl) (deeper N T has t v inside);
                      };
                }
